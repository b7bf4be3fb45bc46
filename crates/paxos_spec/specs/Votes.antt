-- Values with their ballots.
use Rattle.std.specs.Prelude.{ℕ, List, [], Option, Some, None, ◌==◌, if◌then◌else◌}
use Rattle.wire_core.specs.Commands.{LogCommand}
use Rattle.paxos_spec.specs.declared.cast.Cast.{Cast}

abbrev pub Value : Type 0
Value = List LogCommand

abbrev pub no_vote : Cast
no_vote = record { ballot = 0; value = [] }

-- the value of a vote, if it is one
abbrev pub value_of : Cast → Option Value
value_of vote = if vote.ballot == 0 then None else Some vote.value

-- a vote as it is told: a ballot above 0 and a value, else none
abbrev pub cast : ℕ → Option Value → Cast
cast ballot None = no_vote
cast ballot (Some value) = if ballot == 0 then no_vote else record { ballot = ballot; value = value }

-- a vote as it is kept
abbrev pub vote_seen : Option Cast → Cast
vote_seen None = no_vote
vote_seen (Some vote) = vote
