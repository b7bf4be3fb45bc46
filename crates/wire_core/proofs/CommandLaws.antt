-- Commands and values that are read are spelled by the bytes in front of what is left.
use Rattle.std.proofs.Common.{◌≡◌, ℕ, zero, suc, ◌+◌, ◌≤◌, true, ltb, nat_lt, ◌==◌, if◌then◌else◌, List, [], ◌∷◌, ◌++◌, length, Ok, Err, refl, sym, ap, subst, arith, inl, inr}
use Rattle.std.specs.List.{flat_map}
use Rattle.std.proofs.lemmas.Bool.{ltb-false, eqb-true}
use Rattle.std.proofs.lemmas.List.{length-append}
use Rattle.std.proofs.lemmas.List.Concat.{flat_map-cons}
use Rattle.wire_core.specs.declared.command.MuxBoot.{MuxBoot}
use Rattle.wire_core.specs.declared.reading.FieldFault.TheVariants.{NotAllowed}
use Rattle.wire_core.specs.Members.{Each}
use Rattle.wire_core.specs.Numbers.{number_bytes, AreBytes}
use Rattle.wire_core.specs.Commands.{LogCommand, Reserve, Granted, Release, Freed, Up, mux_boot_bytes, command_bytes, value_bytes, AscendsFrom, IsMuxBoot, AreNamed, IsAllowed, IsValue}
use Rattle.wire_core.specs.Reading.{◌>>=◌, field, count_at, reserve_at, up_at, lease_at, mux_boot_at, mux_boots_at, granted_at, command_at, commands_at, value_at}
use Rattle.wire_core.proofs.ReadingLaws.{done_is, bind_ok, guard_ok, chosen, Splits, splits_none, splits_then, field_is, byte_is, count_is}

-- the fields of a command behind its kind byte
pub record HasFields (kind : ℕ) (whole : List ℕ) (x : LogCommand × List ℕ) : Type 0 where
  pub front : List ℕ
  pub splits : Splits whole front x.1
  pub spelled : command_bytes x.0 ≡ kind ∷ front
  pub allowed : IsAllowed x.0

reserve_fields : (bytes : List ℕ) (x : LogCommand × List ℕ) → AreBytes bytes → reserve_at bytes ≡ Ok x
    → HasFields 1 bytes x
unfolding reserve_at
reserve_fields bytes x h e =
    let a =
    bind_ok (field 2 bytes)
    (λ agent. field 8 agent.1 >>= λ boot. field 4 boot.1 >>= λ machine. field 8 machine.1 >>= λ seq. Ok
    (Reserve agent.0 boot.0 (record { 0 = machine.0 }) seq.0, seq.1)) x e in
    let b =
    bind_ok (field 8 a.0.1)
    (λ boot. field 4 boot.1 >>= λ machine. field 8 machine.1 >>= λ seq. Ok
    (Reserve a.0.0 boot.0 (record { 0 = machine.0 }) seq.0, seq.1)) x a.2 in
    let m =
    bind_ok (field 4 b.0.1)
    (λ machine. field 8 machine.1 >>= λ seq. Ok
    (Reserve a.0.0 b.0.0 (record { 0 = machine.0 }) seq.0, seq.1)) x b.2 in
    let s = bind_ok (field 8 m.0.1) (λ seq. Ok (Reserve a.0.0 b.0.0 (record { 0 = m.0.0 }) seq.0, seq.1)) x m.2 in
    let fa = field_is 2 bytes a.0 h a.1 in
    let fb = field_is 8 a.0.1 b.0 fa.splits.bytes b.1 in
    let fm = field_is 4 b.0.1 m.0 fb.splits.bytes m.1 in
    let fs = field_is 8 m.0.1 s.0 fm.splits.bytes s.1 in
    let made : LogCommand × List ℕ = (Reserve a.0.0 b.0.0 (record { 0 = m.0.0 }) s.0.0, s.0.1) in
    let all =
    splits_then _ _ _ _ _ (splits_then _ _ _ _ _ (splits_then _ _ _ _ _ fa.splits fb.splits) fm.splits) fs.splits in
    let has : HasFields 1 bytes made =
    record {
      front = number_bytes 2 a.0.0 ++ number_bytes 8 b.0.0 ++ number_bytes 4 m.0.0
          ++ number_bytes 8 s.0.0;
      splits = all;
      spelled = refl;
      allowed = (fa.small, fb.small, fm.small, fs.small);
    } in
    subst (HasFields 1 bytes) (done_is made x s.2) has

up_fields : (bytes : List ℕ) (x : LogCommand × List ℕ) → AreBytes bytes → up_at bytes ≡ Ok x → HasFields 5 bytes x
unfolding up_at
up_fields bytes x h e =
    let a = bind_ok (field 2 bytes) (λ agent. field 8 agent.1 >>= λ boot. Ok (Up agent.0 boot.0, boot.1)) x e in
    let b = bind_ok (field 8 a.0.1) (λ boot. Ok (Up a.0.0 boot.0, boot.1)) x a.2 in
    let fa = field_is 2 bytes a.0 h a.1 in
    let fb = field_is 8 a.0.1 b.0 fa.splits.bytes b.1 in
    let made : LogCommand × List ℕ = (Up a.0.0 b.0.0, b.0.1) in
    let has : HasFields 5 bytes made =
    record {
      front = number_bytes 2 a.0.0 ++ number_bytes 8 b.0.0;
      splits = splits_then _ _ _ _ _ fa.splits fb.splits;
      spelled = refl;
      allowed = (fa.small, fb.small);
    } in
    subst (HasFields 5 bytes) (done_is made x b.2) has

release_fields : (bytes : List ℕ) (x : LogCommand × List ℕ) → AreBytes bytes → lease_at Release bytes ≡ Ok x
    → HasFields 3 bytes x
unfolding lease_at
release_fields bytes x h e =
    let a = bind_ok (field 8 bytes) (λ n. Ok (Release n.0, n.1)) x e in
    let f = field_is 8 bytes a.0 h a.1 in
    let made : LogCommand × List ℕ = (Release a.0.0, a.0.1) in
    let has : HasFields 3 bytes made =
    record { front = number_bytes 8 a.0.0; splits = f.splits; spelled = refl; allowed = f.small } in
    subst (HasFields 3 bytes) (done_is made x a.2) has

freed_fields : (bytes : List ℕ) (x : LogCommand × List ℕ) → AreBytes bytes → lease_at Freed bytes ≡ Ok x
    → HasFields 4 bytes x
unfolding lease_at
freed_fields bytes x h e =
    let a = bind_ok (field 8 bytes) (λ n. Ok (Freed n.0, n.1)) x e in
    let f = field_is 8 bytes a.0 h a.1 in
    let made : LogCommand × List ℕ = (Freed a.0.0, a.0.1) in
    let has : HasFields 4 bytes made =
    record { front = number_bytes 8 a.0.0; splits = f.splits; spelled = refl; allowed = f.small } in
    subst (HasFields 4 bytes) (done_is made x a.2) has

-- ---- muxes with their boots

pub record HasMuxBoot (least : ℕ) (whole : List ℕ) (x : MuxBoot × List ℕ) : Type 0 where
  pub splits : Splits whole (mux_boot_bytes x.0) x.1
  pub bound : least ≤ x.0.mux
  pub fields : IsMuxBoot x.0

mux_boot_is : (least : ℕ) (bytes : List ℕ) (x : MuxBoot × List ℕ) → AreBytes bytes → mux_boot_at least bytes ≡ Ok x
    → HasMuxBoot least bytes x
unfolding mux_boot_at
mux_boot_is least bytes x h e =
    let a =
    bind_ok (field 2 bytes)
    (λ mux. if nat_lt mux.0 least then Err (NotAllowed (length bytes)) else
    (field 8 mux.1 >>= λ boot. Ok (record { mux = mux.0; boot = boot.0 }, boot.1))) x e in
    let g =
    guard_ok (ltb a.0.0 least) (NotAllowed (length bytes))
    (field 8 a.0.1 >>= λ boot. Ok (record { mux = a.0.0; boot = boot.0 }, boot.1)) x a.2 in
    let b = bind_ok (field 8 a.0.1) (λ boot. Ok (record { mux = a.0.0; boot = boot.0 }, boot.1)) x g.1 in
    let fa = field_is 2 bytes a.0 h a.1 in
    let fb = field_is 8 a.0.1 b.0 fa.splits.bytes b.1 in
    let made : MuxBoot × List ℕ = (record { mux = a.0.0; boot = b.0.0 }, b.0.1) in
    let has : HasMuxBoot least bytes made =
    record {
      splits = splits_then _ _ _ _ _ fa.splits fb.splits;
      bound = ltb-false _ _ g.0;
      fields = (fa.small, fb.small);
    } in
    subst (HasMuxBoot least bytes) (done_is made x b.2) has

pub record HasMuxBoots (count least : ℕ) (whole : List ℕ) (x : List MuxBoot × List ℕ) : Type 0 where
  pub splits : Splits whole (flat_map mux_boot_bytes x.0) x.1
  pub counted : length x.0 ≡ count
  pub ascend : AscendsFrom least x.0
  pub fields : Each IsMuxBoot x.0

pub mux_boots_are : (count least : ℕ) (bytes : List ℕ) (x : List MuxBoot × List ℕ) → AreBytes bytes
    → mux_boots_at count least bytes ≡ Ok x → HasMuxBoots count least bytes x
unfolding mux_boots_at
mux_boots_are zero least bytes x h e =
    let made : List MuxBoot × List ℕ = ([], bytes) in
    let has : HasMuxBoots 0 least bytes made =
    record { splits = splits_none bytes h; counted = refl; ascend = tt; fields = tt } in
    subst (HasMuxBoots 0 least bytes) (done_is made x e) has
mux_boots_are (suc count) least bytes x h e =
    let a =
    bind_ok (mux_boot_at least bytes)
    (λ first. mux_boots_at count (first.0.mux + 1) first.1 >>= λ others. Ok (first.0 ∷ others.0, others.1)) x e in
    let b = bind_ok (mux_boots_at count (a.0.0.mux + 1) a.0.1) (λ others. Ok (a.0.0 ∷ others.0, others.1)) x a.2 in
    let fa = mux_boot_is least bytes a.0 h a.1 in
    let fb = mux_boots_are count (a.0.0.mux + 1) a.0.1 b.0 fa.splits.bytes b.1 in
    let made : List MuxBoot × List ℕ = (a.0.0 ∷ b.0.0, b.0.1) in
    let all = splits_then _ _ _ _ _ fa.splits fb.splits in
    let whole = subst (λ (l : List ℕ). Splits bytes l b.0.1) (sym (flat_map-cons mux_boot_bytes a.0.0 b.0.0)) all in
    let has : HasMuxBoots (suc count) least bytes made =
    record {
      splits = whole;
      counted = ap suc fb.counted;
      ascend = (fa.bound, fb.ascend);
      fields = (fa.fields, fb.fields);
    } in
    subst (HasMuxBoots (suc count) least bytes) (done_is made x b.2) has

granted_fields : (bytes : List ℕ) (x : LogCommand × List ℕ) → AreBytes bytes → granted_at bytes ≡ Ok x
    → HasFields 2 bytes x
unfolding granted_at
granted_fields bytes x h e =
    let a =
    bind_ok (field 8 bytes)
    (λ n. count_at n.1 >>= λ count. mux_boots_at count.0 0 count.1 >>= λ muxes. Ok
    (Granted n.0 muxes.0, muxes.1)) x e in
    let b =
    bind_ok (count_at a.0.1)
    (λ count. mux_boots_at count.0 0 count.1 >>= λ muxes. Ok (Granted a.0.0 muxes.0, muxes.1)) x a.2 in
    let m = bind_ok (mux_boots_at b.0.0 0 b.0.1) (λ muxes. Ok (Granted a.0.0 muxes.0, muxes.1)) x b.2 in
    let fa = field_is 8 bytes a.0 h a.1 in
    let fb = count_is a.0.1 b.0 fa.splits.bytes b.1 in
    let fm = mux_boots_are b.0.0 0 b.0.1 m.0 fb.splits.bytes m.1 in
    let made : LogCommand × List ℕ = (Granted a.0.0 m.0.0, m.0.1) in
    let all = splits_then _ _ _ _ _ (splits_then _ _ _ _ _ fa.splits fb.splits) fm.splits in
    let same : number_bytes 8 a.0.0 ++ b.0.0 ∷ [] ++ flat_map mux_boot_bytes m.0.0 ≡ number_bytes 8 a.0.0
    ++ length m.0.0 ∷ [] ++ flat_map mux_boot_bytes m.0.0 =
    ap (λ (k : ℕ). number_bytes 8 a.0.0 ++ k ∷ [] ++ flat_map mux_boot_bytes m.0.0) (sym fm.counted) in
    let named : AreNamed m.0.0 =
    record {
      some = omega (arith, fb.some, fm.counted);
      few = omega (arith, fb.few, fm.counted);
      ascend = fm.ascend;
      fields = fm.fields;
    } in
    let has : HasFields 2 bytes made =
    record {
      front = number_bytes 8 a.0.0 ++ length m.0.0 ∷ [] ++ flat_map mux_boot_bytes m.0.0;
      splits = subst (λ (l : List ℕ). Splits bytes l m.0.1) same all;
      spelled = refl;
      allowed = (fa.small, named);
    } in
    subst (HasFields 2 bytes) (done_is made x m.2) has

-- ---- commands

pub record IsCommand (whole : List ℕ) (x : LogCommand × List ℕ) : Type 0 where
  pub splits : Splits whole (command_bytes x.0) x.1
  pub allowed : IsAllowed x.0

whole_command : (kind : ℕ) (bytes rest : List ℕ) (x : LogCommand × List ℕ) → Splits bytes (kind ∷ []) rest
    → HasFields kind rest x → IsCommand bytes x
whole_command kind bytes rest x p f =
    let all : Splits bytes (kind ∷ f.front) x.1 = splits_then _ _ _ _ _ p f.splits in
    record { splits = subst (λ (l : List ℕ). Splits bytes l x.1) (sym f.spelled) all; allowed = f.allowed }

of_kind : (wanted kind : ℕ) (bytes rest : List ℕ) (x : LogCommand × List ℕ) → (kind == wanted) ≡ true
    → Splits bytes (kind ∷ []) rest → HasFields wanted rest x → IsCommand bytes x
of_kind wanted kind bytes rest x is p f =
    let same : kind ≡ wanted = eqb-true kind wanted is in
    whole_command wanted bytes rest x (subst (λ (k : ℕ). Splits bytes (k ∷ []) rest) same p) f

by_kind : (kind : ℕ) (bytes rest : List ℕ) (x : LogCommand × List ℕ) → Splits bytes (kind ∷ []) rest
    → (if kind == 1 then reserve_at rest
    else if kind == 2 then granted_at rest
    else if kind == 3 then lease_at Release rest
    else if kind == 4 then lease_at Freed rest
    else if kind == 5 then up_at rest
    else Err (NotAllowed (length bytes))) ≡ Ok x
    → IsCommand bytes x
by_kind kind bytes rest x p e =
    elim (chosen (kind == 1) _ _ _ e) [
      | inl h ↦ of_kind 1 kind bytes rest x h.0 p (reserve_fields rest x p.bytes h.1)
      | inr h ↦ elim (chosen (kind == 2) _ _ _ h.1) [
        | inl h ↦ of_kind 2 kind bytes rest x h.0 p (granted_fields rest x p.bytes h.1)
        | inr h ↦ elim (chosen (kind == 3) _ _ _ h.1) [
          | inl h ↦ of_kind 3 kind bytes rest x h.0 p (release_fields rest x p.bytes h.1)
          | inr h ↦ elim (chosen (kind == 4) _ _ _ h.1) [
            | inl h ↦ of_kind 4 kind bytes rest x h.0 p (freed_fields rest x p.bytes h.1)
            | inr h ↦ elim (chosen (kind == 5) _ _ _ h.1) [
              | inl h ↦ of_kind 5 kind bytes rest x h.0 p (up_fields rest x p.bytes h.1)
              | inr h ↦ absurd (let k = h.1 in cc)
            ]
          ]
        ]
      ]
    ]

pub command_is : (bytes : List ℕ) (x : LogCommand × List ℕ) → AreBytes bytes → command_at bytes ≡ Ok x
    → IsCommand bytes x
unfolding command_at
command_is bytes x h e =
    let a =
    bind_ok (field 1 bytes)
    (λ kind. if kind.0 == 1 then reserve_at kind.1 else if kind.0 == 2 then granted_at kind.1 else if kind.0 == 3 then lease_at Release kind.1 else if kind.0 == 4 then lease_at Freed kind.1 else if kind.0 == 5 then up_at kind.1 else Err (NotAllowed (length bytes))) x e in
    by_kind a.0.0 bytes a.0.1 x (byte_is bytes a.0 h a.1).splits a.2

-- ---- values

pub record AreCommands (count : ℕ) (whole : List ℕ) (x : List LogCommand × List ℕ) : Type 0 where
  pub splits : Splits whole (flat_map command_bytes x.0) x.1
  pub counted : length x.0 ≡ count
  pub fields : Each IsAllowed x.0

pub commands_are : (count : ℕ) (bytes : List ℕ) (x : List LogCommand × List ℕ) → AreBytes bytes
    → commands_at count bytes ≡ Ok x → AreCommands count bytes x
unfolding commands_at
commands_are zero bytes x h e =
    let made : List LogCommand × List ℕ = ([], bytes) in
    let has : AreCommands 0 bytes made = record { splits = splits_none bytes h; counted = refl; fields = tt } in
    subst (AreCommands 0 bytes) (done_is made x e) has
commands_are (suc count) bytes x h e =
    let a =
    bind_ok (command_at bytes)
    (λ first. commands_at count first.1 >>= λ others. Ok (first.0 ∷ others.0, others.1)) x e in
    let b = bind_ok (commands_at count a.0.1) (λ others. Ok (a.0.0 ∷ others.0, others.1)) x a.2 in
    let fa = command_is bytes a.0 h a.1 in
    let fb = commands_are count a.0.1 b.0 fa.splits.bytes b.1 in
    let made : List LogCommand × List ℕ = (a.0.0 ∷ b.0.0, b.0.1) in
    let all = splits_then _ _ _ _ _ fa.splits fb.splits in
    let whole = subst (λ (l : List ℕ). Splits bytes l b.0.1) (sym (flat_map-cons command_bytes a.0.0 b.0.0)) all in
    let has : AreCommands (suc count) bytes made =
    record { splits = whole; counted = ap suc fb.counted; fields = (fa.allowed, fb.fields) } in
    subst (AreCommands (suc count) bytes) (done_is made x b.2) has

pub record IsRead (whole : List ℕ) (x : List LogCommand × List ℕ) : Type 0 where
  pub splits : Splits whole (value_bytes x.0) x.1
  pub value : IsValue x.0

pub value_is : (bytes : List ℕ) (x : List LogCommand × List ℕ) → AreBytes bytes → value_at bytes ≡ Ok x → IsRead bytes x
unfolding value_at
value_is bytes x h e =
    let a = bind_ok (count_at bytes) (λ count. commands_at count.0 count.1) x e in
    let fa = count_is bytes a.0 h a.1 in
    let fb = commands_are a.0.0 a.0.1 x fa.splits.bytes a.2 in
    let all : Splits bytes (a.0.0 ∷ flat_map command_bytes x.0) x.1 = splits_then _ _ _ _ _ fa.splits fb.splits in
    let same : a.0.0 ∷ flat_map command_bytes x.0 ≡ value_bytes x.0 =
    ap (λ (k : ℕ). k ∷ flat_map command_bytes x.0) (sym fb.counted) in
    record {
      splits = subst (λ (l : List ℕ). Splits bytes l x.1) same all;
      value =
          record {
            some = omega (arith, fa.some, fb.counted);
            few = omega (arith, fa.few, fb.counted);
            fields = fb.fields;
          };
    }

pub value_shorter : (bytes : List ℕ) (x : List LogCommand × List ℕ) → AreBytes bytes → value_at bytes ≡ Ok x
    → length x.1 ≤ length bytes
value_shorter bytes x h e =
    let is = value_is bytes x h e in
    omega (arith, ap length is.splits.joined, length-append (value_bytes x.0) x.1)
