-- Lists of flows whose times descend: what keeps the order, and which flows are idle.
use Rattle.std.proofs.Common.{◌≡◌, ℕ, zero, suc, ◌-◌, ◌≤◌, ◌<◌, Bool, true, false, cond, not, nat_le, nat_lt, [], ◌∷◌, length, take, min, ◌+◌, if◌then◌else◌, Option, Some, None, refl, ap, sym, ◌∙◌, arith}
use Rattle.std.specs.Map.{remove_entry}
use Rattle.std.proofs.lemmas.Bool.Decides.{nat_tests}
use native.Mathlib.Numerals.{unary_clauses}
use Rattle.lru.specs.LruCache.{last_entry}
use Rattle.wire_core.specs.declared.address.Ip4.{Ip4}
use Rattle.wire_core.specs.declared.flow.FlowKey.{FlowKey}
use Rattle.wire_core.specs.Same.{same_key}
use Rattle.mux_spec.specs.declared.flow.Seen.{Seen}
use Rattle.mux_spec.specs.Flows.{Flows, FlowList, flow_in, without, still, is_idle, note, note_trusted, note_untrusted, expire, most_untrusted, most_trusted}
use Rattle.flow_table.specs.Caches.{is_one_idle}
use Rattle.flow_table.specs.Tables.{Descends, InOrder}

-- ---- the order

pub descends_later : (s t : ℕ) (fs : FlowList) → s ≤ t → Descends s fs → Descends t fs
descends_later s t [] h d = tt
descends_later s t (f ∷ fs) h d = (let a = d.0 in omega arith, d.1)

pub descends_take : (n t : ℕ) (fs : FlowList) → Descends t fs → Descends t (take n fs)
descends_take zero t fs d = tt
descends_take (suc n) t [] d = tt
descends_take (suc n) t (f ∷ fs) d = (d.0, descends_take n f.1.last fs d.1)

pub descends_without : (k : FlowKey) (t : ℕ) (fs : FlowList) → Descends t fs → Descends t (without k fs)
descends_without k t [] d = tt
descends_without k t (f ∷ fs) d = by (descends_without k f.1.last fs d.1) (same_key k f.0)
  where
    by : Descends f.1.last (without k fs) → (b : Bool) → Descends t (cond b fs (f ∷ remove_entry (same_key k) fs))
    by rest true = descends_later f.1.last t fs d.0 d.1
    by rest false = (d.0, rest)

pub descends_still : (now idle t : ℕ) (fs : FlowList) → Descends t fs → Descends t (still now idle fs)
descends_still now idle t [] d = tt
descends_still now idle t (f ∷ fs) d = by (descends_still now idle f.1.last fs d.1) (not (is_idle now idle f.1))
  where
    by : Descends f.1.last (still now idle fs) → (b : Bool) → Descends t (cond b (f ∷ still now idle fs) (still now idle fs))
    by rest true = (d.0, rest)
    by rest false = descends_later f.1.last t (still now idle fs) d.0 rest

pub order_later : (s t : ℕ) (fs : Flows) → s ≤ t → InOrder s fs → InOrder t fs
order_later s t fs h o = record {
  untrusted = descends_later s t fs.untrusted h o.untrusted;
  trusted = descends_later s t fs.trusted h o.trusted;
}

module _ (t : Flows) (k : FlowKey) (syn : Bool) (chosen : Ip4) (now : ℕ) (o : InOrder now t) where
  abbrev again : Ip4 → ℕ → Seen
  again machine count = record { machine = machine; count = count; last = now }

  order_trust : (machine : Ip4) (count : ℕ) (b : Bool) → InOrder now (cond b (record { untrusted = without k t.untrusted; trusted = (k, again machine count) ∷ t.trusted }) (record t { untrusted = (k, again machine count) ∷ without k t.untrusted }))
  order_trust machine count true = record { untrusted = descends_without k now t.untrusted o.untrusted; trusted = (omega arith, o.trusted) }
  order_trust machine count false = record { untrusted = (omega arith, descends_without k now t.untrusted o.untrusted); trusted = o.trusted }

  order_untrusted : (found : Option Seen) → InOrder now (note_untrusted t k syn chosen now found).0
  order_untrusted None = record { untrusted = (omega arith, descends_take (most_untrusted - 1) now t.untrusted o.untrusted); trusted = o.trusted }
  order_untrusted (Some s) = order_trust s.machine (if syn then 1 else min (s.count + 1) 4) (nat_lt (length t.trusted) most_trusted)

  order_trusted : (found : Option Seen) → InOrder now (note_trusted t k syn chosen now found).0
  order_trusted None = order_untrusted (flow_in k t.untrusted)
  order_trusted (Some s) = record { untrusted = o.untrusted; trusted = (omega arith, descends_without k now t.trusted o.trusted) }

  pub order_note : InOrder now (note t k syn chosen now).0
  unfolding note
  order_note = order_trusted (flow_in k t.trusted)

pub order_expire : (t : Flows) (now idle : ℕ) → InOrder now t → InOrder now (expire t now idle)
unfolding expire
order_expire t now idle o = record {
  untrusted = descends_still now idle now t.untrusted o.untrusted;
  trusted = descends_still now idle now t.trusted o.trusted;
}

-- ---- the oldest

oldest_later : (f g : FlowKey × Seen) (fs : FlowList) → last_entry (f ∷ g ∷ fs) ≡ last_entry (g ∷ fs)
oldest_later f g fs = simp unary_clauses refl

but_oldest : (f g : FlowKey × Seen) (fs : FlowList) → take (length (f ∷ g ∷ fs) - 1) (f ∷ g ∷ fs) ≡ f ∷ take (length (g ∷ fs) - 1) (g ∷ fs)
but_oldest f g fs = simp unary_clauses refl

-- ---- idle flows

module _ (now idle : ℕ) where
  older : (s t : ℕ) → s ≤ t → nat_le idle (now - s) ≡ false → nat_le idle (now - t) ≡ false
  older s t h f = grind (arith, nat_tests, h, f)

  idle_later : (f g : FlowKey × Seen) (fs : FlowList) (b : Bool) → is_one_idle now idle (last_entry (f ∷ g ∷ fs)) ≡ b → is_one_idle now idle (last_entry (g ∷ fs)) ≡ b
  idle_later f g fs b h = ap (is_one_idle now idle) (sym (oldest_later f g fs)) ∙ h

  -- where the oldest isn't idle, no other one is
  fresh : (t : ℕ) (f : FlowKey × Seen) (fs : FlowList) → Descends t (f ∷ fs) → is_one_idle now idle (last_entry (f ∷ fs)) ≡ false → nat_le idle (now - t) ≡ false
  fresh t f [] d h = older f.1.last t d.0 h
  fresh t f (g ∷ fs) d h = older f.1.last t d.0 (fresh f.1.last g fs d.1 (idle_later f g fs false h))

  pub none_idle : (t : ℕ) (fs : FlowList) → Descends t fs → is_one_idle now idle (last_entry fs) ≡ false → still now idle fs ≡ fs
  none_idle t [] d h = refl
  none_idle t (f ∷ []) d h = rw h refl
  none_idle t (f ∷ g ∷ fs) d h =
      let on = idle_later f g fs false h in
      let here : is_idle now idle f.1 ≡ false = fresh f.1.last g fs d.1 on in
      rw here (ap (λ l. f ∷ l) (none_idle f.1.last (g ∷ fs) d.1 on))

  pub one_less : (fs : FlowList) → is_one_idle now idle (last_entry fs) ≡ true → still now idle (take (length fs - 1) fs) ≡ still now idle fs
  one_less [] h = refl
  one_less (f ∷ []) h = rw h refl
  one_less (f ∷ g ∷ fs) h =
      ap (still now idle) (but_oldest f g fs)
      ∙ ap (λ l. cond (not (is_idle now idle f.1)) (f ∷ l) l) (one_less (g ∷ fs) (idle_later f g fs true h))

  pub some_left : (fs : FlowList) → is_one_idle now idle (last_entry fs) ≡ true → length (take (length fs - 1) fs) < length fs
  some_left [] h = absurd (cc)
  some_left (f ∷ []) h = omega arith
  some_left (f ∷ g ∷ fs) h =
      let less = some_left (g ∷ fs) (idle_later f g fs true h) in
      let all = ap (λ (l : FlowList). length l) (but_oldest f g fs) in
      omega arith
