-- What was idle left.
use Rattle.std.proofs.Common.{◌≡◌, ◌∙◌, ℕ, Bool, true, false, List, [], ◌∷◌, ◌++◌, map, filter, find, cond, Option, Some, None}
use Rattle.std.proofs.Common.{refl, sym, ap, append_assoc, append-nil}
use Rattle.vip_config.specs.declared.parts.ConfigParts.{ConfigParts}
use Rattle.wire_core.specs.declared.act.Act.{Act}
use Rattle.wire_core.specs.declared.act.Act.TheVariants.{Close, Drop}
use Rattle.wire_core.specs.declared.step.Step.{Step}
use Rattle.wire_core.specs.Steps.{with_act}
use Rattle.node_spec.specs.Turns.{each}
use Rattle.node_spec.specs.Steps.{turned}
use Rattle.node_spec.proofs.Turning.{act_turned, quiet_turned}
use Rattle.agent_spec.specs.declared.connection.Connection.{Connection}
use Rattle.agent_spec.specs.declared.held.Held.{Held}
use Rattle.agent_spec.specs.Agent.{Traffic, with_ranges}
use Rattle.agent_spec.specs.Clock.{give_back}
use Rattle.agent_spec.specs.Connections.{conn_of}
use Rattle.agent_spec.specs.Ranges.{given_back}
use Rattle.agent_spec.specs.Traffic.{close_conn}
use Rattle.agent_ports.specs.Ports.{PortsState, given_back_each, numbers, with_closed}
use Rattle.host_agent.specs.Idle.{closed_each, closings, drops, over, ports_in, with_acts}
use Rattle.host_agent.specs.Seen.{as_is}
use Rattle.host_agent.proofs.Tries.{both_turned}

pub no_acts : (o : Step) → with_acts [] o ≡ o
no_acts o = rw (append-nil o.acts) refl

more_acts : (a : Act) (rest : List Act) (o : Step) → with_acts rest (with_act a o) ≡ with_acts (a ∷ rest) o
more_acts a rest o = rw (append_assoc o.acts (a ∷ []) rest) refl

-- none is found, so none passes
pub none_pass : {X : Type 0} (p : X → Bool) (xs : List X) → find p xs ≡ None → filter p xs ≡ []
none_pass p [] e = refl
none_pass p (x ∷ xs) e = by (p x) e (none_pass p xs)
  where
    by : (b : Bool) → cond b (Some x) (find p xs) ≡ None → (find p xs ≡ None → filter p xs ≡ [])
        → cond b (x ∷ filter p xs) (filter p xs) ≡ []
    by true e more = absurd (cc)
    by false e more = more e

-- connections closed one after the other
pub closed_turned : (c : ConfigParts) (cs : List Connection) (o : Step) (t : Traffic)
    → (over t (closed_each t.time cs (ports_in t)), with_acts (closings cs) o) ≡ turned as_is c o (each close_conn cs t)
unfolding each close_conn
closed_turned c [] o t = ap (λ (s : Step). (t, s)) (no_acts o) ∙ quiet_turned as_is c o t
closed_turned c (x ∷ xs) o t =
    both_turned c o (with_act (Close (conn_of x)) o) (with_acts (closings (x ∷ xs)) o) (over t (with_closed t.time x (ports_in t)))
    (over t (closed_each t.time (x ∷ xs) (ports_in t))) (close_conn x t) (each close_conn xs)
    (act_turned as_is c o (over t (with_closed t.time x (ports_in t))) (Close (conn_of x)))
    (ap (λ (s : Step). (over t (closed_each t.time (x ∷ xs) (ports_in t)), s)) (sym (more_acts (Close (conn_of x)) (closings xs) o))
    ∙ closed_turned c xs (with_act (Close (conn_of x)) o) (over t (with_closed t.time x (ports_in t))))

-- ranges given back one after the other
pub gave_turned : (c : ConfigParts) (hs : List Held) (o : Step) (t : Traffic)
    → (with_ranges t (given_back_each hs t.ranges), with_acts (drops (numbers hs)) o) ≡ turned as_is c o (each give_back hs t)
unfolding each give_back
gave_turned c [] o t = ap (λ (s : Step). (t, s)) (no_acts o) ∙ quiet_turned as_is c o t
gave_turned c (h ∷ hs) o t =
    both_turned c o (with_act (Drop h.n) o) (with_acts (drops (numbers (h ∷ hs))) o) (with_ranges t (given_back h.n t.ranges))
    (with_ranges t (given_back_each (h ∷ hs) t.ranges)) (give_back h t) (each give_back hs)
    (act_turned as_is c o (with_ranges t (given_back h.n t.ranges)) (Drop h.n))
    (ap (λ (s : Step). (with_ranges t (given_back_each (h ∷ hs) t.ranges), s)) (sym (more_acts (Drop h.n) (drops (numbers hs)) o))
    ∙ gave_turned c hs (with_act (Drop h.n) o) (with_ranges t (given_back h.n t.ranges)))
