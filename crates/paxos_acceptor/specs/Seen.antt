-- How an acceptor's fields are seen.
use Rattle.std.specs.Prelude.{ℕ, ◌-◌, ◌==◌, if◌then◌else◌, List, length, Option, Some, None, option_map, slice_get}
use Rattle.wire_core.specs.declared.entry.Entry.{Entry}
use Rattle.wire_core.specs.declared.entry.Entry.TheVariants as entry
use Rattle.paxos_spec.specs.declared.cast.Cast.{Cast}
use Rattle.paxos_spec.specs.Votes.{Value}
use Rattle.paxos_acceptor.specs.declared.acceptor.Made.{Made}
use Rattle.paxos_acceptor.specs.declared.acceptor.Made.TheVariants as made

-- the vote, where it stands
abbrev pub standing : Cast → Option Cast
standing vote = if vote.ballot == 0 then None else Some vote

abbrev pub pair_of : Cast → ℕ × Value
pair_of cast = (cast.ballot, cast.value)

abbrev pub vote_entry : Cast → Entry
vote_entry cast = entry.Vote cast.ballot cast.value

abbrev pub learn_entry : Cast → Entry
learn_entry cast = entry.Learn cast.ballot cast.value

-- the entry of the last step, by its kind
abbrev pub entry_made : Made → ℕ → Option Cast → List Cast → Option Entry
entry_made made.Nothing promise vote log = None
entry_made made.Promise promise vote log = Some (entry.Promise promise)
entry_made made.Vote promise vote log = option_map vote_entry vote
entry_made made.Learn promise vote log = option_map learn_entry (slice_get log (length log - 1))
