-- What a slot, one VIP more and one machine more leave as it was: a sound state, and leases that are full.
use Rattle.std.proofs.Common.{◌≡◌, ℕ, ◌+◌, ◌≤◌, Bool, true, false, ◌==◌, List, [], ◌∷◌, ◌++◌, find, length, Some, Result, Ok, Err, refl, sym, ap, subst, arith}
use Rattle.std.specs.Prelude.{◌&&◌, ◌||◌, cond, is_some, IfOk, OnErr}
use Rattle.std.specs.List.{list_any}
use Rattle.std.proofs.lemmas.List.{length-append}
use Rattle.wire_core.specs.declared.address.Ip4.{Ip4}
use Rattle.wire_core.specs.declared.rules.MachineRule.{MachineRule}
use Rattle.wire_core.specs.declared.rules.VipRule.{VipRule}
use Rattle.wire_core.specs.Commands.{LogCommand}
use Rattle.wire_core.specs.Ranges.{allows}
use Rattle.lease_spec.specs.declared.effect.Effect.{Effect}
use Rattle.lease_spec.specs.Holders.{GoesOn}
use Rattle.lease_spec.proofs.HolderLaws.{slot_goes, stays}
use Rattle.lease_spec.proofs.MemberLaws.{each_append, each_on}
use Rattle.port_leases.specs.TableState.{TableState, apply_slot}
use Rattle.plain_schedule.specs.declared.connections.Connection.{Connection}
use Rattle.plain_schedule.specs.declared.full_leases.FullLeases.{FullLeases}
use Rattle.plain_schedule.specs.Schedule.{Plain, with_machine, with_vip}
use Rattle.plain_schedule.specs.FullLeases.{bound, plain, up_to}
use Rattle.plain_schedule.specs.Kept.{IsKept, IsSound, Keeps, Sound}
use Rattle.plain_schedule.proofs.FullLaws.{full_table}
use Rattle.plain_schedule.proofs.Kept.{rows, sound_rules, sound_table}

abbrev pub at : Plain → TableState → Plain
at s t = record s { table = t }

-- ---- a state stays sound

pub sound_slot : (s : Plain) (value : List LogCommand) → length value ≤ 16 → Sound s
    → Sound (at s (apply_slot s.table value).0)
sound_slot s value few h =
    sound_table s (at s (apply_slot s.table value).0) refl refl
    (slot_goes s.table.rules s.table.slots value s.table.leases few) h

-- rules that grow keep what is leasable
leasable_grows : (vips more : List VipRule) (vip : Ip4) (first : ℕ)
    → list_any (λ rule. (rule.vip.0 == vip.0) && allows rule first) vips ≡ true
    → list_any (λ rule. (rule.vip.0 == vip.0) && allows rule first) (vips ++ more) ≡ true
leasable_grows [] more vip first e = absurd (cc)
leasable_grows (rule ∷ rules) more vip first e = by (fits rule) e (leasable_grows rules more vip first)
  where
    fits : VipRule → Bool
    fits rule = (rule.vip.0 == vip.0) && allows rule first

    by : (b : Bool) → (b || list_any fits rules) ≡ true
        → (list_any fits rules ≡ true → list_any fits (rules ++ more) ≡ true)
        → (b || list_any fits (rules ++ more)) ≡ true
    by true e rest = refl
    by false e rest = rest e

pub sound_vip : (s : Plain) (rule : VipRule) → rule.high ≤ 65535 → Sound s → Sound (at s (with_vip rule s.table))
sound_vip s rule top h =
    let vips : List VipRule = s.table.rules.vips in
    sound_rules s (record s.table.rules { vips = vips ++ rule ∷ [] })
    (each_on _ _ (λ row is. leasable_grows vips (rule ∷ []) row.range.vip row.range.start is) (rows s) h.leasable)
    (each_append _ vips (rule ∷ []) h.bounds (top, tt)) (λ m is. is) h

-- what is found is found among more
found_among : {X : Type 0} (p : X → Bool) (xs more : List X) → is_some (find p xs) ≡ true
    → is_some (find p (xs ++ more)) ≡ true
found_among p [] more e = absurd (cc)
found_among p (x ∷ xs) more e = by (p x) e (found_among p xs more)
  where
    by : (b : Bool) → is_some (cond b (Some x) (find p xs)) ≡ true
        → (is_some (find p xs) ≡ true → is_some (find p (xs ++ more)) ≡ true)
        → is_some (cond b (Some x) (find p (xs ++ more))) ≡ true
    by true e rest = refl
    by false e rest = rest e

pub sound_machine : (s : Plain) (rule : MachineRule) → Sound s → Sound (at s (with_machine rule s.table))
sound_machine s rule h =
    let machines : List MachineRule = s.table.rules.machines in
    sound_rules s (record s.table.rules { machines = machines ++ rule ∷ [] }) h.leasable h.bounds
    (λ m is. found_among (λ r. r.machine.0 == m.0) machines (rule ∷ []) is) h

-- ---- full leases stay full too

pub sound : {s : Plain} → IsSound s → Sound s
unfolding IsSound
sound h = h

pub is_sound : {s : Plain} → Sound s → IsSound s
unfolding IsSound
is_sound h = h

kept_table : (s u : Plain) (full : FullLeases) → u.opened ≡ s.opened
    → GoesOn s.table.rules (bound s.table) (bound u.table) (rows s) (rows u) → Sound u → IsKept s full → IsKept u full
kept_table s u full same g h k = record {
  sound = is_sound h;
  full = λ e. full_table s u e (up_to full e) same g (sound k.sound) h (k.full e);
}

pub one_more_vip : (vips : List VipRule) (rule : VipRule) (n : ℕ) → n ≡ length vips → n + 1 ≡ length (vips ++ rule ∷ [])
one_more_vip vips rule n e = simp length-append (omega arith)

-- what held of the connections holds of them still
pub kept_by : (t u : TableState) (opened : List Connection) (full : FullLeases) → Keeps t u
    → IsKept (plain t opened) full → IsKept (plain u opened) full
kept_by t u opened full keeps k = keeps.on opened full k

pub keeps_same : (t u : TableState) → u ≡ t → Keeps t u
keeps_same t u same =
    record { on = λ opened full k. subst (λ (x : TableState). IsKept (plain x opened) full) (sym same) k }

pub keeps_then : (t u v : TableState) → Keeps t u → Keeps u v → Keeps t v
keeps_then t u v a b = record { on = λ opened full k. b.on opened full (a.on opened full k) }

pub keeps_slot : (t : TableState) (value : List LogCommand) → length value ≤ 16 → Keeps t (apply_slot t value).0
keeps_slot t value few = record {
  on = λ opened full k.
      kept_table (plain t opened) (plain (apply_slot t value).0 opened) full refl
      (slot_goes t.rules t.slots value t.leases few) (sound_slot (plain t opened) value few (sound k.sound)) k;
}

-- a slot whose commands were applied, or not for want of memory
pub keeps_applied : {E : Type 0} (t u : TableState) (value : List LogCommand) (r : Result (List Effect) E)
    → length value ≤ 16 → IfOk r (λ effects. (u, effects) ≡ apply_slot t value) → OnErr r (u ≡ t) → Keeps t u
keeps_applied t u value (Ok effects) few done same =
    subst (Keeps t) (ap (λ (x : TableState × List Effect). x.0) (sym done)) (keeps_slot t value few)
keeps_applied t u value (Err e) few done same = keeps_same t u same

pub keeps_vip : (t : TableState) (rule : VipRule) → rule.high ≤ 65535 → Keeps t (with_vip rule t)
keeps_vip t rule top = record {
  on = λ opened full k.
      kept_table (plain t opened) (plain (with_vip rule t) opened) full refl (stays t.rules (bound t) t.leases.rows)
      (sound_vip (plain t opened) rule top (sound k.sound)) k;
}

pub keeps_machine : (t : TableState) (rule : MachineRule) → Keeps t (with_machine rule t)
keeps_machine t rule = record {
  on = λ opened full k.
      kept_table (plain t opened) (plain (with_machine rule t) opened) full refl
      (stays t.rules (bound t) t.leases.rows) (sound_machine (plain t opened) rule (sound k.sound)) k;
}
