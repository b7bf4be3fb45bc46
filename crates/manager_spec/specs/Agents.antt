-- What agents ask: Ask, Return and AgentUp.
use Rattle.std.specs.Prelude.{ℕ, ◌*◌, Bool, false, not, ◌&&◌, ◌||◌, if◌then◌else◌, nat_lt, nat_le, ◌==◌, List, [], ◌∷◌}
use Rattle.std.specs.Prelude.{◌++◌, length, Option, Some, None}
use Rattle.std.specs.List.{list_any}
use Rattle.wire_core.specs.Commands.{LogCommand, Reserve, Release, Up}
use Rattle.wire_core.specs.declared.address.Ip4.{Ip4}
use Rattle.wire_core.specs.declared.cause.DropCause.TheVariants.{Late, NotPrimary, NotMine, Unknown, Waiting, QueueFull}
use Rattle.wire_core.specs.declared.node.NodeId.TheVariants.{Agent}
use Rattle.wire_core.specs.declared.rules.MachineRule.{MachineRule}
use Rattle.vip_config.specs.declared.parts.ConfigParts.{ConfigParts}
use Rattle.vip_config.specs.Leases.{lease_rules_of}
use Rattle.lease_spec.specs.declared.row.Row.{Row}
use Rattle.lease_spec.specs.declared.row.Outcome.{Outcome}
use Rattle.lease_spec.specs.declared.row.Outcome.TheVariants.{Reserved, Exhausted, AtLimit}
use Rattle.lease_spec.specs.Table.{Last, is_being, is_freeing, row_at, rule_of, known_boot, last_of, is_later}
use Rattle.control_msg.specs.declared.message.Message.TheVariants.{Denied, Returned, AgentKnown}
use Rattle.paxos_spec.specs.Acceptor.{reach}
use Rattle.paxos_spec.specs.Leader.{is_primary, value_out}
use Rattle.node_spec.specs.Sends.{tell}
use Rattle.node_spec.specs.Turns.{drop_turn, quiet, says}
use Rattle.manager_spec.specs.Manager.{Manager, leases}
use Rattle.manager_spec.specs.Orders.{grant_of, exhausted, at_limit}
use Rattle.manager_spec.specs.Proposal.{Half, stops, goes_on}

-- ---- the queue

-- the same request of an agent; Granted and Freed wait in no queue
abbrev pub same_request : LogCommand → LogCommand → Bool
same_request (Reserve agent boot machine seq) (Reserve agent' boot' machine' seq') =
    (agent == agent') && (boot == boot') && (machine.0 == machine'.0) && (seq == seq')
same_request (Release n) (Release n') = n == n'
same_request (Up agent boot) (Up agent' boot') = (agent == agent') && (boot == boot')
same_request _ _ = false

-- the command is in the value that is outstanding
abbrev pub is_outstanding : Option (List LogCommand) → LogCommand → Bool
is_outstanding None c = false
is_outstanding (Some value) c = list_any (same_request c) value

-- it is queued or outstanding
abbrev pub is_waiting : Manager → LogCommand → Bool
is_waiting r c = list_any (same_request c) r.queue || is_outstanding (value_out r.memory.leader.out) c

-- as many commands as the queue may have
abbrev pub most_queued : ℕ
most_queued = 4096

-- A command joins the queue: Waiting where it is queued or outstanding, QueueFull where the queue is full.
unfoldable pub enqueue : Manager → LogCommand → Half
enqueue r c =
    if is_waiting r c then stops (drop_turn r Waiting)
    else if nat_le most_queued (length r.queue) then stops (drop_turn r QueueFull)
    else goes_on (quiet (record r { queue = r.queue ++ c ∷ [] }))

-- ---- Ask

-- the Ask that was answered by a row comes again: where the row is Leased, so does its Grant
abbrev pub grant_again : Manager → Option Row → Half
grant_again r None = stops (drop_turn r Late)
grant_again r (Some row) =
    if is_being row.phase then stops (drop_turn r Waiting)
    else if is_freeing row.phase then stops (drop_turn r Late)
    else goes_on (says r (grant_of row ∷ []))

-- the Ask that was denied comes again: so does its Denied
abbrev pub deny_again : Manager → ℕ → ℕ → Ip4 → ℕ → ℕ → ℕ → Half
deny_again r agent boot machine seq reason number =
    goes_on (says r (tell (Agent agent) (Denied boot machine seq reason number) ∷ []))

-- the machine's last Ask comes again: what it came to decides
abbrev pub answer_again : ConfigParts → Manager → ℕ → ℕ → Ip4 → ℕ → Outcome → Half
answer_again cfg r agent boot machine seq (Reserved range n) = grant_again r (row_at (leases cfg r).rows n)
answer_again cfg r agent boot machine seq (Exhausted place) = deny_again r agent boot machine seq exhausted place
answer_again cfg r agent boot machine seq (AtLimit count) = deny_again r agent boot machine seq at_limit count

-- An Ask by the machine's last one: a later one is queued, the same is answered again, an earlier one is Late.
unfoldable pub ask_after : ConfigParts → Manager → ℕ → ℕ → Ip4 → ℕ → Option Last → Half
ask_after cfg r agent boot machine seq None = enqueue r (Reserve agent boot machine seq)
ask_after cfg r agent boot machine seq (Some last) =
    if is_later boot seq (Some last) then enqueue r (Reserve agent boot machine seq)
    else if (last.boot == boot) && (last.seq == seq) then answer_again cfg r agent boot machine seq last.outcome
    else stops (drop_turn r Late)

-- the rule is for a machine of this agent
abbrev pub is_agents : ℕ → Option MachineRule → Bool
is_agents agent None = false
is_agents agent (Some rule) = rule.agent == agent

-- Ask: the first test that applies. NotMine where the machine isn't this agent's or is in no `snat`; Late in an earlier
-- boot than the known one; then by the machine's last Ask.
unfoldable pub on_ask : ConfigParts → Manager → ℕ → ℕ → Ip4 → ℕ → Half
on_ask cfg r agent boot machine seq =
    if not (is_primary r.memory.leader.stage) then stops (drop_turn r NotPrimary)
    else if not (is_agents agent (rule_of (lease_rules_of cfg) machine)) then stops (drop_turn r NotMine)
    else if nat_lt boot (known_boot (leases cfg r).known agent) then stops (drop_turn r Late)
    else ask_after cfg r agent boot machine seq (last_of (leases cfg r).lasts machine)

-- ---- Return

-- the agent is told that the lease has ended
abbrev pub returned : Manager → ℕ → ℕ → ℕ → Half
returned r agent boot n = goes_on (says r (tell (Agent agent) (Returned boot n) ∷ []))

-- a Return by the row of its number: NotMine of another agent's or boot's row; a row that is gone or Freeing has ended
abbrev pub return_of : Manager → ℕ → ℕ → ℕ → Option Row → Half
return_of r agent boot n None = returned r agent boot n
return_of r agent boot n (Some row) =
    if not ((row.agent == agent) && (row.boot == boot)) then stops (drop_turn r NotMine)
    else if is_freeing row.phase then returned r agent boot n
    else enqueue r (Release n)

-- Return: the first test that applies. Unknown where no place of the log has that number.
unfoldable pub on_return : ConfigParts → Manager → ℕ → ℕ → ℕ → Half
on_return cfg r agent boot n =
    if not (is_primary r.memory.leader.stage) then stops (drop_turn r NotPrimary)
    else if (n == 0) || nat_lt (16 * reach r.acceptor) n then stops (drop_turn r Unknown)
    else return_of r agent boot n (row_at (leases cfg r).rows n)

-- ---- AgentUp

-- AgentUp: the first test that applies. A boot below the known one is Late, the known one is told again, a later one is
-- queued.
unfoldable pub on_agent_up : ConfigParts → Manager → ℕ → ℕ → Half
on_agent_up cfg r agent boot =
    if not (is_primary r.memory.leader.stage) then stops (drop_turn r NotPrimary)
    else if nat_lt boot (known_boot (leases cfg r).known agent) then stops (drop_turn r Late)
    else if boot == known_boot (leases cfg r).known agent
    then goes_on (says r (tell (Agent agent) (AgentKnown boot) ∷ []))
    else enqueue r (Up agent boot)
