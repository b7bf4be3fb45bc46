-- What a replica knows of muxes: their boots, which of them are silent, and what they acknowledged.
use Rattle.std.specs.Prelude.{ℕ, ◌-◌, max, Bool, ◌&&◌, nat_lt, nat_le, ◌==◌, List, [], ◌∷◌, filter, slice_set}
use Rattle.std.specs.Prelude.{slice_index_or, unwrap_or}
use Rattle.std.specs.Map.{lookup, remove_entry}
use Rattle.std.specs.Ordering.{nat_cmp}
use Rattle.std.specs.BTreeMap.{insert_entry, is_at}
use Rattle.vip_config.specs.declared.parts.ConfigParts.{ConfigParts}
use Rattle.manager_spec.specs.declared.peer.Peer.{Peer}
use Rattle.manager_spec.specs.declared.marks.Marks.{Marks}
use Rattle.manager_spec.specs.Manager.{Manager}

-- ---- muxes

-- what is known of a mux that isn't configured
abbrev pub no_peer : Peer
no_peer = record { mux = 0; boot = 0; heard_at = 0 }

-- what is known of the mux with this number
abbrev pub peer : Manager → ℕ → Peer
peer r mux = slice_index_or r.muxes mux no_peer

-- A mux was heard, in this boot: the greater boot is the known one.
abbrev pub hear_mux : Manager → ℕ → ℕ → Manager
hear_mux r mux boot = record r {
  muxes = slice_set r.muxes mux (record { mux = mux; boot = max (peer r mux).boot boot; heard_at = r.time });
}

-- a boot of it is known
abbrev pub has_boot : Peer → Bool
has_boot p = nat_lt 0 p.boot

-- A boot of it is known, and it was heard no longer ago than `mux_silent`.
abbrev pub is_near : ConfigParts → ℕ → Peer → Bool
is_near cfg time p = has_boot p && nat_le (time - p.heard_at) cfg.timers.mux_silent

-- the muxes with a known boot, by number
abbrev pub running : Manager → List Peer
running r = filter has_boot r.muxes

-- those of them that aren't silent
abbrev pub near : ConfigParts → Manager → List Peer
near cfg r = filter (is_near cfg r.time) r.muxes

-- ---- acknowledgements

-- no mux acknowledged the row
abbrev pub no_marks : Marks
no_marks = record {
  programmed = 0 ∷ 0 ∷ 0 ∷ 0 ∷ 0 ∷ 0 ∷ 0 ∷ 0 ∷ 0 ∷ 0 ∷ 0 ∷ 0 ∷ 0 ∷ 0 ∷ 0 ∷ 0 ∷ [];
  unprogrammed = 0 ∷ 0 ∷ 0 ∷ 0 ∷ 0 ∷ 0 ∷ 0 ∷ 0 ∷ 0 ∷ 0 ∷ 0 ∷ 0 ∷ 0 ∷ 0 ∷ 0 ∷ 0 ∷ [];
}

-- which muxes acknowledged row n
abbrev pub marks_at : List (ℕ × Marks) → ℕ → Marks
marks_at acks n = unwrap_or (lookup (is_at (nat_cmp n)) acks) no_marks

-- row n with these acknowledgements
abbrev pub set_marks : List (ℕ × Marks) → ℕ → Marks → List (ℕ × Marks)
set_marks acks n marks = insert_entry nat_cmp acks n marks

-- the acknowledgements without those of row n
abbrev pub forget : List (ℕ × Marks) → ℕ → List (ℕ × Marks)
forget acks n = remove_entry (is_at (nat_cmp n)) acks

-- the mux acknowledged in this boot: the greatest boot counts
abbrev pub marked : List ℕ → ℕ → ℕ → List ℕ
marked boots mux boot = slice_set boots mux (max (slice_index_or boots mux 0) boot)

-- acknowledged in the mux's known boot
abbrev pub is_acked : List ℕ → Peer → Bool
is_acked boots p = slice_index_or boots p.mux 0 == p.boot

-- acknowledged in some boot
abbrev pub is_acked_ever : List ℕ → Peer → Bool
is_acked_ever boots p = nat_lt 0 (slice_index_or boots p.mux 0)
