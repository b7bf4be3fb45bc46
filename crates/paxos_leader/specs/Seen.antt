-- A new ballot.
use Rattle.std.specs.Prelude.{ℕ, ◌^◌, nat_lt, if◌then◌else◌, Option, Some, None}
use Rattle.paxos_spec.specs.Five.{next_ballot}

-- the ballot, where it fits
abbrev pub ballot_above : ℕ → ℕ → Option ℕ
ballot_above above index = if nat_lt (next_ballot above index) (2 ^ 64) then Some (next_ballot above index) else None
