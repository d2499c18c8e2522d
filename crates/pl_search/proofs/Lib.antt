mod Ascending
mod Gathered
