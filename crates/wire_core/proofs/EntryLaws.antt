-- Entries: what is spelled is read again, and what is read is spelled so.
use Rattle.std.proofs.Common.{◌≡◌, ◌∙◌, ℕ, ◌<◌, ◌^◌, true, ◌==◌, if◌then◌else◌, List, [], ◌∷◌, ◌++◌, length, Ok, Err, refl, sym, ap, subst, append_assoc, inl, inr}
use Rattle.std.proofs.lemmas.Bool.{eqb-true}
use Rattle.wire_core.specs.declared.entry.Entry.{Entry}
use Rattle.wire_core.specs.declared.entry.Entry.TheVariants.{Boot, Promise, Vote, Learn, Epoch}
use Rattle.wire_core.specs.declared.reading.FieldFault.TheVariants.{NotAllowed}
use Rattle.wire_core.specs.Numbers.{number_bytes, AreBytes}
use Rattle.wire_core.specs.Commands.{value_bytes}
use Rattle.wire_core.specs.Reading.{◌>>=◌, field, value_at}
use Rattle.wire_core.specs.Entries.{entry_bytes, IsEntry, boot_at, number_entry_at, value_entry_at, entry_at}
use Rattle.wire_core.proofs.ReadingLaws.{done_is, bind_ok, chosen, Splits, splits_then, field_is, byte_is}
use Rattle.wire_core.proofs.CommandLaws.{value_is}
use Rattle.wire_core.proofs.AgainLaws.{field_again, byte_again, value_again}

-- ---- again

boot_fields : (a b rest : List ℕ) (version role : ℕ)
    → version ∷ (role ∷ [] ++ a ++ b) ++ rest ≡ version ∷ role ∷ (a ++ (b ++ rest))
boot_fields a b rest version role = simp append_assoc

boot_again : (version role index boot : ℕ) (rest : List ℕ) → index < 2 ^ 16 → boot < 2 ^ 64
    → boot_at (version ∷ role ∷ (number_bytes 2 index ++ (number_bytes 8 boot ++ rest))) ≡ Ok
    (Boot version role index boot, rest)
unfolding boot_at
boot_again version role index boot rest i b =
    rw (byte_again, byte_again, field_again 2 index _ i, field_again 8 boot _ b) refl

pub entry_again : (e : Entry) (rest : List ℕ) → IsEntry e → entry_at (entry_bytes e ++ rest) ≡ Ok (e, rest)
unfolding entry_at
entry_again (Boot version role index boot) rest h =
    ap (λ (l : List ℕ). entry_at (1 ∷ l)) (boot_fields (number_bytes 2 index) (number_bytes 8 boot) rest version role)
    ∙ rw byte_again (boot_again version role index boot rest h.2 h.3)
entry_again (Promise ballot) rest h = rw (byte_again, field_again 8 ballot rest h) refl
entry_again (Vote ballot value) rest h =
    ap (λ (l : List ℕ). entry_at (3 ∷ l)) (append_assoc (number_bytes 8 ballot) (value_bytes value) rest)
    ∙ rw (byte_again, field_again 8 ballot _ h.0, value_again value rest h.1) refl
entry_again (Learn ballot value) rest h =
    ap (λ (l : List ℕ). entry_at (4 ∷ l)) (append_assoc (number_bytes 8 ballot) (value_bytes value) rest)
    ∙ rw (byte_again, field_again 8 ballot _ h.0, value_again value rest h.1) refl
entry_again (Epoch epoch) rest h = rw (byte_again, field_again 8 epoch rest h) refl

-- ---- spelled

-- the fields of an entry behind its kind byte
pub record HasEntry (kind : ℕ) (whole : List ℕ) (x : Entry × List ℕ) : Type 0 where
  pub front : List ℕ
  pub splits : Splits whole front x.1
  pub spelled : entry_bytes x.0 ≡ kind ∷ front
  pub allowed : IsEntry x.0

boot_has : (bytes : List ℕ) (x : Entry × List ℕ) → AreBytes bytes → boot_at bytes ≡ Ok x → HasEntry 1 bytes x
unfolding boot_at
boot_has bytes x h e =
    let v =
    bind_ok (field 1 bytes)
    (λ version. field 1 version.1 >>= λ role. field 2 role.1 >>= λ index. field 8 index.1 >>= λ boot. Ok
    (Boot version.0 role.0 index.0 boot.0, boot.1)) x e in
    let r =
    bind_ok (field 1 v.0.1)
    (λ role. field 2 role.1 >>= λ index. field 8 index.1 >>= λ boot. Ok
    (Boot v.0.0 role.0 index.0 boot.0, boot.1)) x v.2 in
    let i =
    bind_ok (field 2 r.0.1)
    (λ index. field 8 index.1 >>= λ boot. Ok (Boot v.0.0 r.0.0 index.0 boot.0, boot.1)) x r.2 in
    let b = bind_ok (field 8 i.0.1) (λ boot. Ok (Boot v.0.0 r.0.0 i.0.0 boot.0, boot.1)) x i.2 in
    let fv = byte_is bytes v.0 h v.1 in
    let fr = byte_is v.0.1 r.0 fv.splits.bytes r.1 in
    let fi = field_is 2 r.0.1 i.0 fr.splits.bytes i.1 in
    let fb = field_is 8 i.0.1 b.0 fi.splits.bytes b.1 in
    let made : Entry × List ℕ = (Boot v.0.0 r.0.0 i.0.0 b.0.0, b.0.1) in
    let all =
    splits_then _ _ _ _ _ (splits_then _ _ _ _ _ (splits_then _ _ _ _ _ fv.splits fr.splits) fi.splits) fb.splits in
    let has : HasEntry 1 bytes made =
    record {
      front = v.0.0 ∷ (r.0.0 ∷ [] ++ number_bytes 2 i.0.0 ++ number_bytes 8 b.0.0);
      splits = all;
      spelled = refl;
      allowed = (fv.small, fr.small, fi.small, fb.small);
    } in
    subst (HasEntry 1 bytes) (done_is made x b.2) has

promise_has : (bytes : List ℕ) (x : Entry × List ℕ) → AreBytes bytes → number_entry_at Promise bytes ≡ Ok x
    → HasEntry 2 bytes x
promise_has bytes x h e =
    let a = bind_ok (field 8 bytes) (λ number. Ok (Promise number.0, number.1)) x e in
    let f = field_is 8 bytes a.0 h a.1 in
    let made : Entry × List ℕ = (Promise a.0.0, a.0.1) in
    let has : HasEntry 2 bytes made =
    record { front = number_bytes 8 a.0.0; splits = f.splits; spelled = refl; allowed = f.small } in
    subst (HasEntry 2 bytes) (done_is made x a.2) has

epoch_has : (bytes : List ℕ) (x : Entry × List ℕ) → AreBytes bytes → number_entry_at Epoch bytes ≡ Ok x
    → HasEntry 5 bytes x
epoch_has bytes x h e =
    let a = bind_ok (field 8 bytes) (λ number. Ok (Epoch number.0, number.1)) x e in
    let f = field_is 8 bytes a.0 h a.1 in
    let made : Entry × List ℕ = (Epoch a.0.0, a.0.1) in
    let has : HasEntry 5 bytes made =
    record { front = number_bytes 8 a.0.0; splits = f.splits; spelled = refl; allowed = f.small } in
    subst (HasEntry 5 bytes) (done_is made x a.2) has

vote_has : (bytes : List ℕ) (x : Entry × List ℕ) → AreBytes bytes → value_entry_at Vote bytes ≡ Ok x
    → HasEntry 3 bytes x
vote_has bytes x h e =
    let a =
    bind_ok (field 8 bytes) (λ ballot. value_at ballot.1 >>= λ value. Ok (Vote ballot.0 value.0, value.1)) x e in
    let b = bind_ok (value_at a.0.1) (λ value. Ok (Vote a.0.0 value.0, value.1)) x a.2 in
    let fa = field_is 8 bytes a.0 h a.1 in
    let fb = value_is a.0.1 b.0 fa.splits.bytes b.1 in
    let made : Entry × List ℕ = (Vote a.0.0 b.0.0, b.0.1) in
    let has : HasEntry 3 bytes made =
    record {
      front = number_bytes 8 a.0.0 ++ value_bytes b.0.0;
      splits = splits_then _ _ _ _ _ fa.splits fb.splits;
      spelled = refl;
      allowed = (fa.small, fb.value);
    } in
    subst (HasEntry 3 bytes) (done_is made x b.2) has

learn_has : (bytes : List ℕ) (x : Entry × List ℕ) → AreBytes bytes → value_entry_at Learn bytes ≡ Ok x
    → HasEntry 4 bytes x
learn_has bytes x h e =
    let a =
    bind_ok (field 8 bytes) (λ ballot. value_at ballot.1 >>= λ value. Ok (Learn ballot.0 value.0, value.1)) x e in
    let b = bind_ok (value_at a.0.1) (λ value. Ok (Learn a.0.0 value.0, value.1)) x a.2 in
    let fa = field_is 8 bytes a.0 h a.1 in
    let fb = value_is a.0.1 b.0 fa.splits.bytes b.1 in
    let made : Entry × List ℕ = (Learn a.0.0 b.0.0, b.0.1) in
    let has : HasEntry 4 bytes made =
    record {
      front = number_bytes 8 a.0.0 ++ value_bytes b.0.0;
      splits = splits_then _ _ _ _ _ fa.splits fb.splits;
      spelled = refl;
      allowed = (fa.small, fb.value);
    } in
    subst (HasEntry 4 bytes) (done_is made x b.2) has

pub record IsEntryRead (whole : List ℕ) (x : Entry × List ℕ) : Type 0 where
  pub splits : Splits whole (entry_bytes x.0) x.1
  pub allowed : IsEntry x.0

of_kind : (wanted kind : ℕ) (bytes rest : List ℕ) (x : Entry × List ℕ) → (kind == wanted) ≡ true
    → Splits bytes (kind ∷ []) rest → HasEntry wanted rest x → IsEntryRead bytes x
of_kind wanted kind bytes rest x is p f =
    let same : kind ≡ wanted = eqb-true kind wanted is in
    let q : Splits bytes (wanted ∷ []) rest = subst (λ (k : ℕ). Splits bytes (k ∷ []) rest) same p in
    let all : Splits bytes (wanted ∷ f.front) x.1 = splits_then _ _ _ _ _ q f.splits in
    record { splits = subst (λ (l : List ℕ). Splits bytes l x.1) (sym f.spelled) all; allowed = f.allowed }

by_kind : (kind : ℕ) (bytes rest : List ℕ) (x : Entry × List ℕ) → Splits bytes (kind ∷ []) rest
    → (if kind == 1 then boot_at rest
    else if kind == 2 then number_entry_at Promise rest
    else if kind == 3 then value_entry_at Vote rest
    else if kind == 4 then value_entry_at Learn rest
    else if kind == 5 then number_entry_at Epoch rest
    else Err (NotAllowed (length bytes))) ≡ Ok x
    → IsEntryRead bytes x
by_kind kind bytes rest x p e =
    elim (chosen (kind == 1) _ _ _ e) [
      | inl h ↦ of_kind 1 kind bytes rest x h.0 p (boot_has rest x p.bytes h.1)
      | inr h ↦ elim (chosen (kind == 2) _ _ _ h.1) [
        | inl h ↦ of_kind 2 kind bytes rest x h.0 p (promise_has rest x p.bytes h.1)
        | inr h ↦ elim (chosen (kind == 3) _ _ _ h.1) [
          | inl h ↦ of_kind 3 kind bytes rest x h.0 p (vote_has rest x p.bytes h.1)
          | inr h ↦ elim (chosen (kind == 4) _ _ _ h.1) [
            | inl h ↦ of_kind 4 kind bytes rest x h.0 p (learn_has rest x p.bytes h.1)
            | inr h ↦ elim (chosen (kind == 5) _ _ _ h.1) [
              | inl h ↦ of_kind 5 kind bytes rest x h.0 p (epoch_has rest x p.bytes h.1)
              | inr h ↦ absurd (let k = h.1 in cc)
            ]
          ]
        ]
      ]
    ]

pub entry_is : (bytes : List ℕ) (x : Entry × List ℕ) → AreBytes bytes → entry_at bytes ≡ Ok x → IsEntryRead bytes x
unfolding entry_at
entry_is bytes x h e =
    let a =
    bind_ok (field 1 bytes)
    (λ kind. if kind.0 == 1 then boot_at kind.1 else if kind.0 == 2 then number_entry_at Promise kind.1 else if kind.0 == 3 then value_entry_at Vote kind.1 else if kind.0 == 4 then value_entry_at Learn kind.1 else if kind.0 == 5 then number_entry_at Epoch kind.1 else Err (NotAllowed (length bytes))) x e in
    by_kind a.0.0 bytes a.0.1 x (byte_is bytes a.0 h a.1).splits a.2
