-- Whether a journal is a node's own, and its next boot.
use Rattle.std.specs.Prelude.{◌≡◌, ℕ, ◌+◌, ◌-◌, ◌^◌, Bool, true, false, not, ◌&&◌, ◌==◌, if◌then◌else◌, List, [], ◌∷◌, length, Result, Ok, Err, Option, Some, None, ⊤}
use Rattle.wire_core.specs.Entries.{entry_bytes, read_entry}
use Rattle.wire_core.specs.declared.entry.Entry.{Entry}
use Rattle.wire_core.specs.declared.entry.Entry.TheVariants.{Boot, Promise, Vote, Learn, Epoch}
use Rattle.wire_core.specs.declared.node.NodeId.{NodeId}
use Rattle.wire_core.specs.declared.node.NodeId.TheVariants.{Replica, Mux, Agent}
use Rattle.wire_core.specs.declared.value.ValueFault.{ValueFault}
use Rattle.node_spec.specs.Boots.{boot_of}
use Rattle.node_spec.specs.Bodies.{entries_of}
use Rattle.node_disk.specs.declared.fault.NodeFault.{NodeFault}
use Rattle.node_disk.specs.declared.fault.NodeFault.TheVariants as fault

-- ---- a node's name in its entries

-- the role byte
abbrev pub role_of : NodeId → ℕ
role_of (Replica i) = 1
role_of (Mux i) = 2
role_of (Agent i) = 3

-- the number among the nodes of its role
abbrev pub index_of : NodeId → ℕ
index_of (Replica i) = i
index_of (Mux i) = i
index_of (Agent i) = i

-- the entry of an opening in this boot
abbrev pub boot_entry : NodeId → ℕ → List ℕ
boot_entry who boot = entry_bytes (Boot 1 (role_of who) (index_of who) boot)

-- ---- which entries it may have

-- An entry is one of the node's role. Each role has Boots; replicas have what the agreement keeps, muxes have epochs.
abbrev pub belongs : NodeId → Entry → Bool
belongs who (Boot version role index boot) = true
belongs who (Promise ballot) = role_of who == 1
belongs who (Vote ballot value) = role_of who == 1
belongs who (Learn ballot value) = role_of who == 1
belongs who (Epoch epoch) = role_of who == 2

-- the body spells an entry of another role
abbrev pub is_foreign : NodeId → Result Entry ValueFault → Bool
is_foreign who (Ok e) = not (belongs who e)
is_foreign who (Err fault) = false

-- The offset of the gate before the first such body, where the first of these bodies is behind the gate at this one.
abbrev pub foreign_from : NodeId → ℕ → List (List ℕ) → Option ℕ
foreign_from who at [] = None
foreign_from who at (b ∷ bs) =
    if is_foreign who (read_entry b) then Some at else foreign_from who (at + length b + 5) bs

-- A Boot names this node; any other entry names none, and isn't the first one.
abbrev pub is_own : NodeId → Bool → Result Entry ValueFault → Bool
is_own who first (Ok (Boot version role index boot)) =
    (version == 1) && (role == role_of who) && (index == index_of who)
is_own who first (Ok (Promise ballot)) = not first
is_own who first (Ok (Vote ballot value)) = not first
is_own who first (Ok (Learn ballot value)) = not first
is_own who first (Ok (Epoch epoch)) = not first
is_own who first (Err fault) = not first

-- The first body that isn't so; the flag says whether the first of these is the journal's first.
abbrev pub strange_from : NodeId → Bool → List (List ℕ) → Option (List ℕ)
strange_from who first [] = None
strange_from who first (b ∷ bs) = if is_own who first (read_entry b) then strange_from who false bs else Some b

-- ---- the judgement

abbrev pub judge_by : Option ℕ → Option (List ℕ) → ℕ → Result ℕ NodeFault
judge_by (Some at) strange boot = Err (fault.Damaged false at)
judge_by None (Some entry) boot = Err (fault.WrongDisk entry)
judge_by None None boot = if boot == 2 ^ 64 - 1 then Err (fault.Spent boot) else Ok (boot + 1)

-- The boot of an opening of a journal with these bodies, or why it isn't opened, the first that applies: an entry of
-- another role, an entry that isn't this node's, no boot left.
unfoldable pub judge : NodeId → List (List ℕ) → Result ℕ NodeFault
judge who bs = judge_by (foreign_from who 0 bs) (strange_from who true bs) (boot_of (entries_of bs))

-- A fault is the one that is judged, or there was no memory.
abbrev pub IsJudged : NodeFault → Result ℕ NodeFault → Type 0
IsJudged fault.NoMemory judged = ⊤
IsJudged fault.Disk judged = ⊥
IsJudged (fault.Full length body) judged = ⊥
IsJudged (fault.Damaged second offset) judged = judged ≡ Err (fault.Damaged second offset)
IsJudged (fault.WrongDisk entry) judged = judged ≡ Err (fault.WrongDisk entry)
IsJudged (fault.Spent boot) judged = judged ≡ Err (fault.Spent boot)
