-- How connections are kept: in slots, of which some are empty, with the place of each key.
use Rattle.std.specs.Prelude.{◌≡◌, ℕ, ◌-◌, ◌^◌, ◌==◌, ◌≤◌, nat_lt, Bool, false, List, [], ◌∷◌, take, find, length, get_or}
use Rattle.std.specs.Prelude.{Option, Some, None}
use Rattle.wire_core.specs.declared.flow.FlowKey.{FlowKey}
use Rattle.wire_core.specs.Same.{same_key}
use Rattle.agent_spec.specs.declared.connection.Connection.{Connection}
use Rattle.agent_spec.specs.Connections.{private_key, public_key, most}
use Rattle.agent_flows.specs.declared.looked.Looked.{Looked}

abbrev pub Slots : Type 0
Slots = List (Option Connection)

-- the connections in slots
unfoldable pub listed : Slots → List Connection
listed [] = []
listed (None ∷ ss) = listed ss
listed (Some c ∷ ss) = c ∷ listed ss

-- what is in the slot at a place
abbrev pub slot_at : Slots → Option ℕ → Option Connection
slot_at ss None = None
slot_at ss (Some i) = get_or ss i None

-- it is this place
abbrev pub is_at : Option ℕ → ℕ → Bool
is_at None i = false
is_at (Some j) i = j == i

-- a slot has a connection for which p holds
abbrev pub slot_has : (Connection → Bool) → Option Connection → Bool
slot_has p None = false
slot_has p (Some c) = p c

-- p holds in the slot at the place, and in no other
abbrev pub Marks : (Connection → Bool) → Slots → Option ℕ → Type 0
Marks p ss place = (i : ℕ) → is_at place i ≡ slot_has p (get_or ss i None)

-- A key is found at a place exactly where the slot has it. So no two slots have one key.
abbrev pub Finds : (Connection → FlowKey) → Slots → (FlowKey → Option ℕ) → Type 0
Finds key ss found = (k : FlowKey) → Marks (λ c. same_key (key c) k) ss (found k)

-- when a slot's connection was used last
abbrev pub last_use : Option Connection → ℕ
last_use None = 2 ^ 64 - 1
last_use (Some c) = c.last

-- it was used last before this time
abbrev pub is_older : ℕ → Connection → Bool
is_older time c = nat_lt c.last time

-- none of the slots that were looked at has a connection that was last used before the kept time
pub record IsLooked (ss : Slots) (looked : Looked) : Type 0 where
  pub within : looked.at ≤ length ss
  pub none_older : find (is_older looked.oldest) (listed (take looked.at ss)) ≡ None

-- The keys are where they are found, so many connections are there, and none of those that were looked at is older.
pub record IsKept (ss : Slots) (live : ℕ) (private public : FlowKey → Option ℕ) (looked : Looked) : Type 0 where
  pub by_private : Finds private_key ss private
  pub by_public : Finds public_key ss public
  pub count : live ≡ length (listed ss)
  pub few : live ≤ most
  pub rest : IsLooked ss looked
