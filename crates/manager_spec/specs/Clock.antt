-- The clock: a primary leads on, and after a silence another runs for election.
use Rattle.std.specs.Prelude.{ℕ, ◌-◌, max, if◌then◌else◌, nat_le, List, [], ◌++◌, map, is_some}
use Rattle.vip_config.specs.declared.parts.ConfigParts.{ConfigParts}
use Rattle.control_msg.specs.declared.message.Message.TheVariants.{Lead}
use Rattle.paxos_spec.specs.Acceptor.{reach}
use Rattle.paxos_spec.specs.Leader.{is_primary}
use Rattle.paxos_spec.specs.Replica.{Out, accept_out, on_campaign}
use Rattle.node_spec.specs.Sends.{Send, tell_each, others}
use Rattle.node_spec.specs.Turns.{Turn, quiet, says}
use Rattle.manager_spec.specs.Manager.{Manager, agrees, hears, mailed}
use Rattle.manager_spec.specs.Orders.{push}
use Rattle.manager_spec.specs.Proposal.{Half, stops, goes_on}

-- its ballot and the length of its log, to the others
abbrev pub lead_again : Manager → List Send
lead_again r = tell_each (others r.index) (Lead r.memory.leader.ballot (reach r.acceptor))

-- the Accept of what is outstanding, to all five
abbrev pub accept_again : Manager → List Send
accept_again r = map mailed (accept_out r.index (reach r.acceptor) r.memory.leader)

-- A primary: Lead, what is outstanding again, and the push.
abbrev pub leads : ConfigParts → Manager → Turn Manager
leads cfg r = says r (lead_again r ++ accept_again r ++ push cfg r)

-- a candidacy begins without acknowledgements and queue
abbrev pub emptied : Manager → Manager
emptied r = record r { acks = []; queue = [] }

-- it becomes a candidate where a ballot of its own fits
abbrev pub runs_for : ConfigParts → Manager → Out → Turn Manager
runs_for cfg r o = if is_some o.entry then hears (agrees cfg (emptied r) o) else quiet r

-- a primary leads on, and a proposal follows; another runs for election once it heard nothing for `lead_silent`
abbrev pub ticks : ConfigParts → Manager → Half
ticks cfg r =
    if is_primary r.memory.leader.stage then goes_on (leads cfg r)
    else if nat_le cfg.timers.lead_silent (r.time - r.heard)
    then stops (runs_for cfg r (on_campaign r.index r.acceptor r.memory))
    else stops (quiet r)

-- Tick: the time is the greater, and then as above.
unfoldable pub on_tick : ConfigParts → Manager → ℕ → Half
on_tick cfg r now = ticks cfg (record r { time = max r.time now })
