-- Rows of the agreement by the step that the event comes to, where it counts.
use Rattle.std.specs.Prelude.{if◌then◌else◌, Option, Some, None, is_some}
use Rattle.wire_core.specs.declared.cause.DropCause.TheVariants.{Late}
use Rattle.vip_config.specs.declared.parts.ConfigParts.{ConfigParts}
use Rattle.paxos_spec.specs.Replica.{Out}
use Rattle.node_spec.specs.Turns.{Turn, drop_turn, quiet}
use Rattle.manager_spec.specs.Manager.{Manager, agrees, hears}
use Rattle.manager_spec.specs.Proposal.{Half, stops, goes_on}
use Rattle.manager_spec.specs.Voting.{completes}
use Rattle.manager_spec.specs.Clock.{emptied}

-- the step is taken, and what doesn't count is Late
unfoldable pub counted : ConfigParts → Manager → Option Out → Turn Manager
counted cfg r None = drop_turn r Late
counted cfg r (Some o) = agrees cfg r o

-- the same, where an entry tells that a leader was heard
unfoldable pub counted_heard : ConfigParts → Manager → Option Out → Turn Manager
counted_heard cfg r None = drop_turn r Late
counted_heard cfg r (Some o) = hears (agrees cfg r o)

-- The step of an Accepted: with an entry it is the third one.
unfoldable pub tallied : ConfigParts → Manager → Option Out → Half
tallied cfg r None = stops (drop_turn r Late)
tallied cfg r (Some o) = if is_some o.entry then goes_on (completes cfg r o) else stops (agrees cfg r o)

-- The step of a candidacy, where a ballot is left.
unfoldable pub ran : ConfigParts → Manager → Option Out → Turn Manager
ran cfg r None = quiet r
ran cfg r (Some o) = hears (agrees cfg (emptied r) o)
