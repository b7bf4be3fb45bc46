-- What is handed over, one datagram after another.
use Rattle.std.proofs.Common.{◌≡◌, ℕ, ◌+◌, List, [], ◌∷◌, ◌++◌, length, map, Bool, true, false, Result, Ok, Err, Option, Some, None, refl, sym, ap, ◌∙◌, append_assoc, append-nil, arith}
use Rattle.std.specs.Prelude.{⊤, is_err, if◌then◌else◌}
use Rattle.std.specs.List.{sum_by}
use Rattle.std.proofs.lemmas.List.{map-append}
use Rattle.std.proofs.lemmas.List.Sums.{sum_by-append}
use Rattle.std.proofs.lemmas.Option.{none-some}
use Rattle.wire_core.specs.declared.address.Socket.{Socket}
use Rattle.outside_io.specs.declared.failed.Failed.{Failed}
use Rattle.outside_io.specs.Link.{Sent, sent_with}
use Rattle.outside_io.specs.Telling.{Tells}
use Rattle.wire_core.specs.declared.outgoing.Outgoing.{Outgoing}
use Rattle.node_core.specs.Sending.{Handed, HandedOver, outgoing_of, lost_of}

-- none is handed over yet
pub handed_none : (old : Option (List Sent)) → Handed old old [] 0
handed_none None = refl
handed_none (Some xs) = record { since = []; grown = sym (append-nil xs); each = refl; lost_is = refl }

-- how many are lost by an answer
abbrev pub lost_by : Result ⊤ Failed → ℕ
lost_by (Ok x) = 0
lost_by (Err e) = 1

one : (to : Socket) (bytes : List ℕ) (r : Result ⊤ Failed) → (outgoing_of (sent_with to bytes r) ≡ record { to = to; bytes = bytes }) × (sum_by lost_of (sent_with to bytes r ∷ []) ≡ lost_by r)
one to bytes (Ok x) = (refl, refl)
one to bytes (Err e) = (refl, refl)

-- one more is handed over
pub handed_next : (old mid new : Option (List Sent)) (sends : List Outgoing) (lost : ℕ) (to : Socket) (bytes : List ℕ) (r : Result ⊤ Failed)
    → Handed old mid sends lost → Tells mid new (sent_with to bytes r) → Handed old new (sends ++ record { to = to; bytes = bytes } ∷ []) (lost + lost_by r)
handed_next None None new sends lost to bytes r handed tells = tells
handed_next None (Some m) new sends lost to bytes r handed tells = absurd (none-some m (sym handed))
handed_next (Some xs) mid None sends lost to bytes r handed tells = tt
handed_next (Some xs) None (Some zs) sends lost to bytes r handed tells = absurd (none-some zs (sym tells))
handed_next (Some xs) (Some ys) (Some zs) sends lost to bytes r handed tells = record {
  since = handed.since ++ sent_with to bytes r ∷ [];
  grown = tells ∙ ap (λ l. l ++ sent_with to bytes r ∷ []) handed.grown ∙ append_assoc xs handed.since (sent_with to bytes r ∷ []);
  each = map-append outgoing_of handed.since (sent_with to bytes r ∷ []) ∙ rw (handed.each, (one to bytes r).0) refl;
  lost_is = sum_by-append lost_of handed.since (sent_with to bytes r ∷ []) ∙ rw (handed.lost_is, (one to bytes r).1) refl;
}
