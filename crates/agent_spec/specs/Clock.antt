-- The clock of an agent: what is idle leaves, and what isn't answered is said again.
use Rattle.std.specs.Prelude.{ℕ, ◌-◌, max, Bool, false, not, ◌&&◌, nat_le, List, [], ◌++◌, map, filter}
use Rattle.std.specs.Prelude.{take, length, Option, Some, None, if◌then◌else◌}
use Rattle.std.specs.List.{flat_map}
use Rattle.wire_core.specs.declared.address.Ip4.{Ip4}
use Rattle.control_msg.specs.declared.message.Message.TheVariants.{Ask, Return, AgentUp}
use Rattle.vip_config.specs.declared.parts.ConfigParts.{ConfigParts}
use Rattle.wire_core.specs.declared.act.Act.TheVariants.{Drop}
use Rattle.node_spec.specs.Sends.{Send, tell_all}
use Rattle.node_spec.specs.Turns.{Turn, quiet, act_turn, says, also, each, lifted}
use Rattle.agent_spec.specs.declared.held.Held.{Held}
use Rattle.agent_spec.specs.declared.held.Asked.{Asked}
use Rattle.agent_spec.specs.Connections.{is_idle}
use Rattle.agent_spec.specs.Ranges.{is_unused, given_back}
use Rattle.agent_spec.specs.Agent.{Agent, Host, Traffic, with_traffic, with_ranges, host_of}
use Rattle.agent_spec.specs.Traffic.{close_conn}

-- Idle connections close, first opened first.
unfoldable pub close_idle : ℕ → Traffic → Turn Traffic
close_idle idle t = each close_conn (filter (is_idle t.time idle) t.conns) t

-- Idle inbound entries leave, without an act.
unfoldable pub forget_inbound : ℕ → Traffic → Turn Traffic
forget_inbound idle t = quiet (record t { inbound = filter (λ x. not (is_idle t.time idle x)) t.inbound })

-- ---- ranges are given back

-- the machine holds a packet
abbrev pub holds_packet : Option Host → Bool
holds_packet None = false
holds_packet (Some h) = nat_le 1 (length h.queue)

-- no connection for so long, and its machine holds no packet
abbrev pub is_spare : List Host → ℕ → ℕ → Held → Bool
is_spare hosts now idle h = is_unused now idle h && not (holds_packet (host_of hosts h.machine))

-- A range is given back.
unfoldable pub give_back : Held → Traffic → Turn Traffic
give_back h t = act_turn (with_ranges t (given_back h.n t.ranges)) (Drop h.n)

-- Spare ranges are given back, by n.
unfoldable pub give_back_spare : List Host → ℕ → Traffic → Turn Traffic
give_back_spare hosts idle t = each give_back (filter (is_spare hosts t.time idle) t.ranges.held) t

-- ---- what is said again

-- AgentUp to all five, unless a primary knows this boot.
unfoldable pub up_again : Agent → List Send
up_again a = if a.known then [] else tell_all (AgentUp a.boot)

-- the ask is out for so long
abbrev pub is_due : ℕ → ℕ → Asked → Bool
is_due now retry x = nat_le retry (now - x.at)

-- an ask to all five
abbrev pub ask_again : ℕ → ℕ → ℕ → Ip4 → Option Asked → List Send
ask_again boot now retry machine None = []
ask_again boot now retry machine (Some x) = if is_due now retry x then tell_all (Ask boot machine x.seq) else []

-- Each ask that is out for so long goes to all five, by the configuration's order.
unfoldable pub asks_again : ℕ → Agent → List Send
asks_again retry a = flat_map (λ (h : Host). ask_again a.boot a.traffic.time retry h.machine h.ask) a.hosts

-- its time is renewed
abbrev pub renewed_ask : ℕ → ℕ → Option Asked → Option Asked
renewed_ask now retry None = None
renewed_ask now retry (Some x) = if is_due now retry x then Some (record x { at = now }) else Some x

-- the machine with it
abbrev pub renewed : ℕ → ℕ → Host → Host
renewed now retry h = record h { ask = renewed_ask now retry h.ask }

-- Return for the first 64 returning numbers, each to all five.
unfoldable pub returns_again : Agent → List Send
returns_again a = flat_map (λ n. tell_all (Return a.boot n)) (take 64 a.traffic.ranges.returning)

-- What isn't answered is said again, in this order.
unfoldable pub says_again : ℕ → Agent → Turn Agent
says_again retry a =
    says
    (record a { hosts = map (renewed a.traffic.time retry) a.hosts })
    (up_again a ++ asks_again retry a ++ returns_again a)

-- ---- the tick

-- the time is the greater
abbrev pub at_now : Agent → ℕ → Traffic
at_now a now = record a.traffic { time = max a.traffic.time now }

-- connections, inbound entries, ranges
unfoldable pub idle_leave : ConfigParts → List Host → Traffic → Turn Traffic
idle_leave c hosts t =
    also
    (also (close_idle c.timers.flow_idle t) (forget_inbound c.timers.flow_idle))
    (give_back_spare hosts c.timers.range_idle)

-- What is idle leaves, and then what is due is said.
unfoldable pub on_tick : ConfigParts → Agent → ℕ → Turn Agent
on_tick c a now =
    also (lifted (with_traffic a) (idle_leave c a.hosts (at_now a now))) (says_again c.timers.ask_retry)
