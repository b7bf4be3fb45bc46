-- A mux tells its own boot.
use Rattle.std.proofs.Common.{refl, ℕ, List, Option, Some, None, arith}
use Rattle.wire_core.specs.Members.{Each}
use Rattle.wire_core.specs.declared.address.Ip4.{Ip4}
use Rattle.wire_core.specs.declared.cause.DropCause.TheVariants.{WrongRole}
use Rattle.wire_core.specs.declared.node.NodeId.{NodeId}
use Rattle.wire_core.specs.declared.node.NodeId.TheVariants as node
use Rattle.control_msg.specs.declared.message.Message.{Message}
use Rattle.control_msg.specs.declared.message.Message.TheVariants as message
use Rattle.vip_config.specs.declared.parts.ConfigParts.{ConfigParts}
use Rattle.vip_config.specs.declared.who.Who.{Who}
use Rattle.vip_config.specs.Leases.{lease_rules_of}
use Rattle.vip_config.specs.Serving.{agent_with}
use Rattle.wire_core.specs.Ranges.{is_leasable, range_of}
use Rattle.std.specs.Prelude.{is_some, ◌&&◌}
use Rattle.std.proofs.lemmas.Bool.Decides.{nat_tests}
use Rattle.node_spec.specs.Datagrams.{Heard, Refused, Told, Brought, heard, by_heard}
use Rattle.node_spec.specs.Fastpath.{has_fastpath}
use Rattle.node_spec.specs.Sends.{Said, Says, Carries, Send, to_agent}
use Rattle.node_spec.specs.Turns.{Input, Arrived, Ticked, Turn, drop_turn}
use Rattle.mux_spec.specs.declared.verdict.RedirectAsk.{RedirectAsk}
use Rattle.mux_spec.specs.Rows.{kept_at}
use Rattle.mux_spec.specs.Mux.{Mux, on_tick}
use Rattle.mux_spec.specs.Packets.{Outcome, Sends, Drops, passing, asks, turn_of, on_packet}
use Rattle.mux_spec.specs.Redirects.{resolved, redirect, redirects, on_redirect_ask}
use Rattle.mux_spec.specs.Footprints.{CarriesBoot, AnswersBy}
use Rattle.mux_spec.specs.MuxTable.{from_replica, from_mux, mux_hears, mux_step}
use Rattle.mux_spec.specs.Gates.{admit}
use Rattle.mux_spec.specs.Commands.{on_program, on_unprogram, programs, refused, unprograms}
use Rattle.mux_spec.specs.declared.row.Order.{Order}
use Rattle.manager_spec.proofs.Choices.{by_if}
use Rattle.lease_spec.proofs.MemberLaws.{each_append, each_on}
use Rattle.world_laws.specs.Sayings.{IsOfMux, MuxSays}

-- what is sent, where the mux runs in this boot
abbrev AllOf : ℕ → List Send → Type 0
AllOf own xs = Each (λ (x : Send). IsOfMux own x.said) xs

-- ---- to replicas

answers_program : (c : ConfigParts) (m : Mux) (o : Order) (machine : Ip4)
    → AnswersBy m.gate.boot o.from (on_program c m o machine)
unfolding on_program programs refused admit
answers_program c m o machine = grind (arith, nat_tests)

answers_unprogram : (c : ConfigParts) (m : Mux) (o : Order) → AnswersBy m.gate.boot o.from (on_unprogram c m o)
unfolding on_unprogram unprograms refused admit
answers_unprogram c m o = grind (arith, nat_tests)

answers_command : (c : ConfigParts) (m : Mux) (from : ℕ) (x : Message)
    → AnswersBy m.gate.boot (node.Replica from) (from_replica c m from x)
answers_command c m from x = grind (arith, answers_program, answers_unprogram)

-- an answer
answer_of : (own : ℕ) (said : Said) → CarriesBoot own said → IsOfMux own said
answer_of own (Says (message.Programmed epoch boot n)) h = h
answer_of own (Says (message.Unprogrammed epoch boot n)) h = h
answer_of own (Says (message.MuxRefuse epoch boot kept)) h = h
answer_of own (Says (message.Prepare c)) h = absurd h
answer_of own (Says (message.Promise c l vote value)) h = absurd h
answer_of own (Says (message.Accept c t v)) h = absurd h
answer_of own (Says (message.Accepted c t)) h = absurd h
answer_of own (Says (message.Refuse c p)) h = absurd h
answer_of own (Says (message.Chosen t c v)) h = absurd h
answer_of own (Says (message.Fetch t)) h = absurd h
answer_of own (Says (message.Ask boot machine seq)) h = absurd h
answer_of own (Says (message.Grant boot machine seq n vip start)) h = absurd h
answer_of own (Says (message.Denied boot machine seq reason number)) h = absurd h
answer_of own (Says (message.Return boot n)) h = absurd h
answer_of own (Says (message.Returned boot n)) h = absurd h
answer_of own (Says (message.AgentUp boot)) h = absurd h
answer_of own (Says (message.AgentKnown boot)) h = absurd h
answer_of own (Says (message.MuxHello boot epoch)) h = absurd h
answer_of own (Says (message.Program epoch boot n vip start machine)) h = absurd h
answer_of own (Says (message.Unprogram epoch boot n vip start)) h = absurd h
answer_of own (Says (message.Lead ballot length)) h = absurd h
answer_of own (Says (message.RedirectAsk src sport dst dport machine)) h = absurd h
answer_of own (Says (message.Redirect side n src sport dst dport opener server)) h = absurd h
answer_of own (Carries packet) h = absurd h

answers_of : (own : ℕ) (from : NodeId) (t : Turn Mux) → AnswersBy own from t → AllOf own t.sends
answers_of own from t h = each_on _ (λ (x : Send). IsOfMux own x.said) (λ x k. answer_of own x.said k.1) t.sends h

-- ---- to agents

agent_of : (own : ℕ) (o : Option ℕ) (said : Said) → IsOfMux own said → AllOf own (to_agent o said)
agent_of own None said h = tt
agent_of own (Some agent) said h = (h, tt)

redirects_of : (c : ConfigParts) (own : ℕ) (m : Mux) (a : RedirectAsk) (o : Option (ℕ × Ip4))
    → AllOf own (redirects c m a o).sends
redirects_of c own m a None = tt
redirects_of c own m a (Some row) = each_append _ (redirect c 0 row.0 a row.1 row.1) (redirect c 1 row.0 a row.1 a.machine)
    (agent_of own (agent_with c row.1) _ (omega arith)) (agent_of own (agent_with c a.machine) _ (omega arith))

asked_of : (c : ConfigParts) (own : ℕ) (m : Mux) (a : RedirectAsk) → AllOf own (on_redirect_ask c m a).sends
unfolding on_redirect_ask
asked_of c own m a = by_if (λ (t : Turn Mux). AllOf own t.sends)
    (is_some (agent_with c a.machine) && is_leasable (lease_rules_of c) (range_of a.src a.sport))
    (λ _. redirects_of c own m a (resolved (kept_at m.rows (range_of a.src a.sport)))) (λ _. tt)

mux_of : (c : ConfigParts) (own : ℕ) (m : Mux) (x : Message) → AllOf own (from_mux c m x).sends
mux_of c own m (message.RedirectAsk src sport dst dport machine) =
    let a : RedirectAsk = record { src = src; sport = sport; dst = dst; dport = dport; machine = machine } in
    by_if (λ (t : Turn Mux). AllOf own t.sends) has_fastpath {x = on_redirect_ask c m a} {y = drop_turn m WrongRole}
    (λ _. asked_of c own m a) (λ _. tt)
mux_of c own m _ = tt

-- ---- packets and the clock

asks_of : (c : ConfigParts) (own : ℕ) (o : Option RedirectAsk) → AllOf own (asks c o)
asks_of c own None = tt
asks_of c own (Some a) = (tt, tt)

outcome_of : (c : ConfigParts) (own : ℕ) (m : Mux) (o : Outcome) → AllOf own (turn_of c m o).sends
outcome_of c own m (Sends machine bytes ask) =
    each_append _ (to_agent (agent_with c machine) (Carries bytes)) (asks c ask)
    (agent_of own (agent_with c machine) (Carries bytes) tt) (asks_of c own ask)
outcome_of c own m (Drops cause) = tt

packet_of : (c : ConfigParts) (own : ℕ) (m : Mux) (sender : Who) (bytes : List ℕ) → AllOf own (on_packet c m sender bytes).sends
unfolding on_packet
packet_of c own m sender bytes =
    outcome_of c own (record m { flows = (passing c m sender bytes).0 }) (passing c m sender bytes).1

tick_of : (c : ConfigParts) (m : Mux) (now : ℕ) → AllOf m.gate.boot (on_tick c m now).sends
unfolding on_tick
tick_of c m now = (refl, (refl, (refl, (refl, (refl, tt)))))

-- ---- a turn

hears_of : (c : ConfigParts) (m : Mux) (from : NodeId) (x : Message) → AllOf m.gate.boot (mux_hears c m from x).sends
unfolding mux_hears
hears_of c m (node.Replica i) x = answers_of m.gate.boot (node.Replica i) (from_replica c m i x) (answers_command c m i x)
hears_of c m (node.Mux i) x = mux_of c m.gate.boot m x
hears_of c m (node.Agent i) x = tt

heard_of : (c : ConfigParts) (m : Mux) (h : Heard)
    → AllOf m.gate.boot (by_heard (drop_turn m) (mux_hears c m) (on_packet c m) h).sends
heard_of c m (Refused cause) = tt
heard_of c m (Told from x) = hears_of c m from x
heard_of c m (Brought sender packet) = packet_of c m.gate.boot m sender packet

pub mux_says : (c : ConfigParts) (m : Mux) (x : Input) → MuxSays m (mux_step c m x)
unfolding mux_step
mux_says c m (Arrived from bytes) = heard_of c m (heard c from bytes)
mux_says c m (Ticked now) = tick_of c m now
