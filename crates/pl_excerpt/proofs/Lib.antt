mod Answers
mod Copies
mod Finishing
mod Longer
mod Records
mod Searches
mod Steadies
mod Taking
