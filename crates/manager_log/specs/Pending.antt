-- Which rows a push passes over.
use Rattle.std.specs.Prelude.{◌≡◌, ◌<◌, ◌≤◌, ℕ, ◌*◌, Bool, true, false, List, [], filter, Option, Some, None, is_some}
use Rattle.std.specs.List.{list_all, list_any}
use Rattle.std.specs.Ordering.{nat_cmp}
use Rattle.std.specs.BTreeMap.{is_at}
use Rattle.wire_core.specs.declared.rules.LeaseRules.{LeaseRules}
use Rattle.lease_spec.specs.declared.row.Row.{Row}
use Rattle.lease_spec.specs.Table.{row_at}
use Rattle.paxos_spec.specs.Acceptor.{AcceptorState, reach}
use Rattle.manager_spec.specs.declared.peer.Peer.{Peer}
use Rattle.manager_spec.specs.declared.marks.Marks.{Marks}
use Rattle.manager_spec.specs.Known.{has_boot, is_acked, marks_at}
use Rattle.manager_spec.specs.Manager.{leases_of}

-- The rows up to a number were looked at, and these numbers are of those that a mux may lack.
pub record Pending : Type 0 where
  pub upto : ℕ
  pub rows : List ℕ

-- no row was looked at
abbrev pub unseen : Pending
unseen = record { upto = 0; rows = [] }

-- the number is among these
abbrev pub has : List ℕ → ℕ → Bool
has ns n = list_any (is_at (nat_cmp n)) ns

-- none of these is above the number and below the one that was found; where none was, none is above it
abbrev pub IsFirstAbove : List ℕ → ℕ → Option ℕ → Type 0
IsFirstAbove ns above None = (q : ℕ) → above < q → has ns q ≡ false
IsFirstAbove ns above (Some n) = (above < n) × ((q : ℕ) → above < q → q < n → has ns q ≡ false)

-- numbers above the first and up to the second were looked at, and aren't pending
abbrev pub IsQuiet : Pending → ℕ → ℕ → Type 0
IsQuiet p above upto = (n : ℕ) → above < n → n ≤ upto → (n ≤ p.upto) × (has p.rows n ≡ false)

-- each mux with a known boot has the row in that boot
abbrev pub is_settled : List Peer → Marks → Bool
is_settled peers marks = list_all (is_acked marks.programmed) (filter has_boot peers)

-- each row up to a number is among these, or each mux with a known boot has it
abbrev pub SeenTo : ℕ → List ℕ → List Row → List (ℕ × Marks) → List Peer → Type 0
SeenTo upto ns rows acks peers = (n : ℕ) → is_some (row_at rows n) ≡ true → 0 < n → n ≤ upto → has ns n ≡ false
    → is_settled peers (marks_at acks n) ≡ true

-- Each row that was looked at is pending, or each mux with a known boot has it. No row of a slot to come was.
pub record IsCurrent (p : Pending) (rules : LeaseRules) (a : AcceptorState) (acks : List (ℕ × Marks)) (peers : List Peer) : Type 0 where
  pub within : p.upto ≤ 16 * reach a
  pub seen : SeenTo p.upto p.rows (leases_of rules a).rows acks peers
