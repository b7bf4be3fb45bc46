-- Full leases while marks rise and connections open.
use Rattle.std.proofs.Common.{◌≡◌, ◌≤◌, ◌∙◌, ℕ, Bool, true, false, List, Option, Some, None, Result, Ok, Err, find, refl, sym, ap, subst, arith}
use Rattle.std.specs.Prelude.{cond, is_some, if◌then◌else◌, IfOk, OnOk, OnErr}
use Rattle.std.specs.List.{flat_map}
use Rattle.wire_core.specs.declared.address.Ip4.{Ip4}
use Rattle.wire_core.specs.declared.cause.DropCause.{DropCause}
use Rattle.wire_core.specs.declared.flow.FlowKey.{FlowKey}
use Rattle.wire_core.specs.declared.flow.Proto.{Proto}
use Rattle.wire_core.proofs.SameLaws.{proto_is}
use Rattle.lease_spec.specs.declared.row.Row.{Row}
use Rattle.lease_spec.specs.Table.{rule_of}
use Rattle.port_leases.specs.TableState.{TableState, onward, rows_of}
use Rattle.plain_schedule.specs.declared.connections.Connection.{Connection}
use Rattle.plain_schedule.specs.declared.full_leases.FullLeases.{FullLeases}
use Rattle.plain_schedule.specs.declared.full_leases.RemoteEnd.{RemoteEnd}
use Rattle.plain_schedule.specs.Packets.{eight, first_free, is_free, opens, with_private}
use Rattle.plain_schedule.specs.Schedule.{Plain, start}
use Rattle.plain_schedule.specs.FullLeases.{AreFull, end_of, plain, same_end, up_to}
use Rattle.plain_schedule.specs.Kept.{IsKept, IsSound}
use Rattle.plain_schedule.proofs.FullLaws.{full_opens, one_more_full, past_full}
use Rattle.plain_schedule.proofs.KeyLaws.{address_is, both, number_is}
use Rattle.plain_schedule.proofs.Kept.{rows}
use Rattle.plain_schedule.proofs.Openings.{IsNew, found_new, sound_opens, with_one}
use Rattle.plain_schedule.proofs.SafetyLaws.{sound_start}
use Rattle.plain_schedule.proofs.TableSteps.{is_sound, sound}

-- ---- the search for a free port

pub passed : (s : Plain) (key : FlowKey) (n : ℕ) → IsSound s → AreFull s (end_of key) n
    → find (is_free s.table s.opened) (flat_map (eight key) (rows_of (rows s) key.src n))
    ≡ first_free s.table s.opened key
passed s key n h full = past_full s key n (sound h) full

-- what is full up to a number is full up to a lesser one
pub less_full : (s : Plain) (e : RemoteEnd) (n k : ℕ) → k ≤ n → AreFull s e n → AreFull s e k
less_full s e n k less h =
    let old = h.old in
    record { full = λ row there own low. h.full row there own (omega (arith, low, less)); old = omega (arith, old, less) }

pub goes_on : (s : Plain) (key : FlowKey) (n : ℕ) (row : Row) → IsSound s → AreFull s (end_of key) n
    → rows_of (rows s) key.src n ≡ onward (rows s) key.src (Some row)
    → find (is_free s.table s.opened) (eight key row) ≡ None → AreFull s (end_of key) row.n
goes_on s key n row h full next none = one_more_full s key n row (sound h) full next none

-- ---- marks

abbrev four : Ip4 → Ip4 → ℕ → Proto → RemoteEnd
four machine address port proto = record { machine = machine; address = address; port = port; proto = proto }

-- ends with the same four parts are one
end_is : (a b : RemoteEnd) → same_end a b ≡ true → a ≡ b
end_is a b e =
    let h = both _ _ e in
    let i = both _ _ h.1 in
    let j = both _ _ i.1 in
    ap (λ (x : Ip4). four x a.address a.port a.proto) (address_is a.machine b.machine (number_is _ _ h.0))
    ∙ ap (λ (x : Ip4). four b.machine x a.port a.proto) (address_is a.address b.address (number_is _ _ i.0))
    ∙ ap (λ (x : ℕ). four b.machine b.address x a.proto) (number_is _ _ j.0)
    ∙ ap (λ (x : Proto). four b.machine b.address b.port x) (proto_is _ _ j.1)

-- a mark is set
pub kept_set : (s : Plain) (old new : FullLeases) (e : RemoteEnd) (n : ℕ)
    → ((x : RemoteEnd) → up_to new x ≡ (if same_end e x then n else up_to old x))
    → AreFull s e n → IsKept s old → IsKept s new
kept_set s old new e n set full k = record {
  sound = k.sound;
  full = λ x. subst (AreFull s x) (sym (set x)) (by x (same_end e x) refl);
}
  where
    by : (x : RemoteEnd) (b : Bool) → same_end e x ≡ b → AreFull s x (cond b n (up_to old x))
    by x true is = subst (λ (y : RemoteEnd). AreFull s y n) (end_is e x is) full
    by x false is = k.full x

-- marks stay
pub kept_marks : (s : Plain) (old new : FullLeases) → ((x : RemoteEnd) → up_to new x ≡ up_to old x)
    → IsKept s old → IsKept s new
kept_marks s old new same k = record {
  sound = k.sound;
  full = λ x. subst (AreFull s x) (sym (same x)) (k.full x);
}

-- a mark was set, or stays for want of memory
pub kept_tried : {E : Type 0} (s : Plain) (old new : FullLeases) (e : RemoteEnd) (n : ℕ) (r : Result (Unit {0}) E)
    → OnOk r ((x : RemoteEnd) → up_to new x ≡ (if same_end e x then n else up_to old x))
    → OnErr r ((x : RemoteEnd) → up_to new x ≡ up_to old x)
    → AreFull s e n → IsKept s old → IsKept s new
kept_tried s old new e n (Ok x) set same full k = kept_set s old new e n set full k
kept_tried s old new e n (Err x) set same full k = kept_marks s old new same k

-- ---- a connection opens

kept_opens : (s : Plain) (c : Connection) (full : FullLeases) → IsNew s c → IsKept s full → IsKept (with_one s c) full
kept_opens s c full new k = record {
  sound = is_sound (sound_opens s c (sound k.sound) new);
  full = λ e. full_opens s c e (up_to full e) (sound k.sound) new (k.full e);
}

pub kept_found : (t : TableState) (opened : List Connection) (key : FlowKey) (full : FullLeases)
    (found : Option Connection) → found ≡ first_free t opened key → is_some (rule_of t.rules key.src) ≡ true
    → with_private t opened key ≡ None → IsKept (plain t opened) full
    → IsKept (plain t (opens opened found).0) full
kept_found t opened key full None is known private k = k
kept_found t opened key full (Some c) is known private k =
    kept_opens (plain t opened) c full (found_new (plain t opened) key c (sound k.sound) known private (sym is)) k

-- a connection was opened, or none for want of memory
pub kept_opened : {E : Type 0} (t : TableState) (opened after : List Connection) (key : FlowKey) (marks : FullLeases)
    (found : Option Connection) (r : Result (Result Connection DropCause) E)
    → IfOk r (λ taken. (after, taken) ≡ opens opened found) → OnErr r (after ≡ opened)
    → found ≡ first_free t opened key → is_some (rule_of t.rules key.src) ≡ true → with_private t opened key ≡ None
    → IsKept (plain t opened) marks → IsKept (plain t after) marks
kept_opened t opened after key marks found (Ok taken) done same is known private k =
    subst (λ (os : List Connection). IsKept (plain t os) marks)
    (ap (λ (x : List Connection × Result Connection DropCause). x.0) (sym done))
    (kept_found t opened key marks found is known private k)
kept_opened t opened after key marks found (Err e) done same is known private k =
    subst (λ (os : List Connection). IsKept (plain t os) marks) (sym same) k

-- nothing stands at the start
pub kept_start : (marks : FullLeases) → ((x : RemoteEnd) → up_to marks x ≡ 0) → IsKept start marks
kept_start marks none = record {
  sound = is_sound sound_start;
  full = λ e. subst (AreFull start e) (sym (none e)) (record { full = λ row i. absurd i; old = omega arith });
}
