-- Who leads: Prepare, Promise, Refuse and Lead.
use Rattle.std.specs.Prelude.{ℕ, max, Bool, true, false, not, ◌&&◌, if◌then◌else◌, nat_lt, ◌==◌}
use Rattle.wire_core.specs.declared.cause.DropCause.TheVariants.{Late}
use Rattle.vip_config.specs.declared.parts.ConfigParts.{ConfigParts}
use Rattle.paxos_spec.specs.declared.cast.Cast.{Cast}
use Rattle.paxos_spec.specs.declared.mail.Body.TheVariants as body
use Rattle.paxos_spec.specs.declared.steps.LeadStep.{LeadStep}
use Rattle.paxos_spec.specs.declared.steps.LeadStep.TheVariants as lead
use Rattle.paxos_spec.specs.Acceptor.{reach}
use Rattle.paxos_spec.specs.Leader.{is_follower, lead_promise}
use Rattle.paxos_spec.specs.Replica.{Memory, with_goal, Out, reply, quiet as still}
use Rattle.paxos_spec.specs.Replica as paxos
use Rattle.node_spec.specs.Turns.{Turn, drop_turn}
use Rattle.manager_spec.specs.Manager.{Manager, agrees, hears}

-- Prepare: a promise or a refusal. A new promise is of a leader that was heard.
unfoldable pub on_prepare : ConfigParts → Manager → ℕ → ℕ → Turn Manager
on_prepare cfg r from ballot = hears (agrees cfg r (paxos.on_prepare r.index r.acceptor r.memory from ballot))

-- the Promise counts for nothing
abbrev pub is_late_promise : LeadStep → Bool
is_late_promise lead.Late = true
is_late_promise lead.More = false
is_late_promise (lead.Catch from slot) = false
is_late_promise lead.Inherit = false
is_late_promise lead.Ready = false

-- Promise: it counts, or it is Late. A replica that becomes primary by it proposes nothing yet.
unfoldable pub on_promise : ConfigParts → Manager → ℕ → ℕ → ℕ → Cast → Turn Manager
on_promise cfg r from ballot length vote =
    if is_late_promise (lead_promise r.memory.leader from ballot length vote (reach r.acceptor)).1 then drop_turn r Late
    else agrees cfg r (paxos.on_promise r.index r.acceptor r.memory from ballot length vote)

-- Refuse: its candidacy or its lead is over where the ballot is its own, and the promise that was told is above it.
unfoldable pub on_refuse : ConfigParts → Manager → ℕ → ℕ → Turn Manager
on_refuse cfg r ballot promised =
    if not (is_follower r.memory.leader.stage) && (r.memory.leader.ballot == ballot) && nat_lt ballot promised
    then agrees cfg (record r { heard = r.time }) (paxos.on_refuse r.memory ballot promised)
    else drop_turn r Late

-- it heard of this ballot or epoch
abbrev pub with_seen : Memory → ℕ → Memory
with_seen m c = record m { seen = max m.seen c }

-- What a Lead makes of the agreement's replica: a refusal, a fetch, or nothing said.
abbrev pub led : Manager → ℕ → ℕ → ℕ → Out
led r from ballot length =
    if nat_lt ballot r.acceptor.promise then reply r.memory r.index (body.Refuse ballot r.acceptor.promise) from
    else if nat_lt (reach r.acceptor) length
    then reply (with_goal (with_seen r.memory ballot) length from) r.index (body.Fetch (reach r.acceptor)) from
    else still (with_seen r.memory ballot)

-- Lead: one of a ballot that isn't below the promise was heard. A longer log is fetched, from the slot that comes next.
unfoldable pub on_lead : ConfigParts → Manager → ℕ → ℕ → ℕ → Turn Manager
on_lead cfg r from ballot length = agrees cfg
    (record r { heard = if nat_lt ballot r.acceptor.promise then r.heard else r.time })
    (led r from ballot length)
