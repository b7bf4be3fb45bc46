-- What muxes and agents say: each tells its own boot.
use Rattle.std.specs.Prelude.{◌≡◌, ℕ, ◌≤◌, List}
use Rattle.wire_core.specs.Members.{In, Each}
use Rattle.control_msg.specs.declared.message.Message.TheVariants.{Ask, Return, AgentUp, MuxHello, Programmed, Unprogrammed}
use Rattle.control_msg.specs.declared.message.Message.TheVariants.{MuxRefuse, RedirectAsk, Redirect}
use Rattle.node_spec.specs.Sends.{Said, Says, Carries, Send}
use Rattle.node_spec.specs.Turns.{Turn}
use Rattle.mux_spec.specs.Mux.{Mux}
use Rattle.agent_spec.specs.Agent.{Agent}

-- what a mux in this boot says
abbrev pub IsOfMux : ℕ → Said → Type 0
IsOfMux own (Says (MuxHello boot epoch)) = boot ≡ own
IsOfMux own (Says (Programmed epoch boot n)) = boot ≡ own
IsOfMux own (Says (Unprogrammed epoch boot n)) = boot ≡ own
IsOfMux own (Says (MuxRefuse epoch boot kept)) = boot ≡ own
IsOfMux own (Says (RedirectAsk src sport dst dport machine)) = Unit {0}
IsOfMux own (Says (Redirect side n src sport dst dport opener server)) = side ≤ 1
IsOfMux own (Says _) = ⊥
IsOfMux own (Carries packet) = Unit {0}

-- what an agent in this boot says, where these numbers are given back
abbrev pub IsOfAgent : ℕ → List ℕ → Said → Type 0
IsOfAgent own returning (Says (Ask boot machine seq)) = boot ≡ own
IsOfAgent own returning (Says (Return boot n)) = (boot ≡ own) × In n returning
IsOfAgent own returning (Says (AgentUp boot)) = boot ≡ own
IsOfAgent own returning (Says _) = ⊥
IsOfAgent own returning (Carries packet) = Unit {0}

-- what a turn of a mux says, the mux says
abbrev pub MuxSays : Mux → Turn Mux → Type 0
MuxSays m t = Each (λ (x : Send). IsOfMux m.gate.boot x.said) t.sends

-- what a turn of an agent says, the agent says that it leaves
abbrev pub AgentSays : Turn Agent → Type 0
AgentSays t = Each (λ (x : Send). IsOfAgent t.state.boot t.state.traffic.ranges.returning x.said) t.sends
