-- How long a peer may take, in nanoseconds.
use Rattle.std.specs.Prelude.{ℕ, ◌-◌, ◌*◌, min}

-- a call may take ten seconds, and a request with its reply 120 from when its peer was accepted: so
-- this is left to a call that begins so long after that
abbrev pub allowed : ℕ → ℕ
allowed since = min (10 * 1_000_000_000) (120 * 1_000_000_000 - since)
