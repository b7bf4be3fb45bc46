-- The flows of a mux, and the latest time that they were told.
use Rattle.std.specs.Prelude.{ℕ, ◌≤◌, [], ◌∷◌}
use Rattle.mux_spec.specs.Flows.{FlowList, Flows}

-- The two lists, and the latest time.
pub record Table : Type 0 where
  pub flows : Flows
  pub latest : ℕ

-- newest first: none was seen after this time, and none after the one before it
abbrev pub Descends : ℕ → FlowList → Type 0
Descends time [] = Unit {0}
Descends time (f ∷ fs) = (f.1.last ≤ time) × Descends f.1.last fs

-- Both lists are newest first, and none of their times is after the latest one.
pub record InOrder (time : ℕ) (t : Flows) : Type 0 where
  pub untrusted : Descends time t.untrusted
  pub trusted : Descends time t.trusted
