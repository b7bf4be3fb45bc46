-- What a turn makes of an agent's ranges, where its leases and what it gave back are known.
use Rattle.std.proofs.Common.{◌≡◌, ◌≢◌, refl, sym, ap, subst, ◌∙◌, ◌⊎◌, inl, inr, ℕ, zero, suc, ◌+◌, ◌-◌, ◌<◌, ◌≤◌}
use Rattle.std.proofs.Common.{Bool, true, false, not, cond, List, [], ◌∷◌, ◌++◌, Option, Some, None, arith, unwrap_or}
use Rattle.std.specs.Prelude.{map, filter, take, drop, nat_le, ◌==◌, ◌||◌, if◌then◌else◌}
use Rattle.std.specs.List.{list_any}
use Rattle.std.specs.Map.{lookup}
use Rattle.std.proofs.lemmas.Bool.Decides.{nat_tests}
use Rattle.indexmap.specs.IndexMap.{insert_entry}
use Rattle.wire_core.proofs.SameLaws.{range_itself}
use Rattle.wire_core.specs.Members.{In, Each}
use Rattle.wire_core.specs.Same.{same_range}
use Rattle.wire_core.specs.declared.address.Ip4.{Ip4}
use Rattle.wire_core.specs.declared.range.Range.{Range}
use Rattle.vip_config.specs.declared.parts.ConfigParts.{ConfigParts}
use Rattle.node_spec.specs.Turns.{Input}
use Rattle.agent_spec.proofs.Counting.{each_inserted, neither}
use Rattle.agent_spec.proofs.HeldRanges.{Holds, holds_granted}
use Rattle.agent_spec.proofs.LeaseMoves.{filter_lease, granted_new, with_new}
use Rattle.agent_spec.specs.Agent.{Agent}
use Rattle.agent_spec.specs.Footprints.{SameLeases, lease_of}
use Rattle.agent_spec.specs.Leases.{Ends, GivesBack, IsTaken, LeasesMove, Stay, Takes, all_back}
use Rattle.agent_spec.specs.Ranges.{Ranges, clashes, given_back, granted, inserted, is_old, kept_at, new_held}
use Rattle.agent_spec.specs.Ranges.{place_for, returned}
use Rattle.agent_spec.specs.declared.held.Held.{Held}
use Rattle.lease_spec.proofs.MemberLaws.{each_append, each_from, each_in, each_map, each_on, each_passing}
use Rattle.world_laws.specs.Agents.{IsBack, RangesAre}

abbrev pub Lease : Type 0
Lease = ℕ × (Range × Ip4)

module _ (Own : ℕ → Range → Ip4 → Type 0) (Back : ℕ → Type 0) where
  -- a held lease is one, and its number isn't above the kept one
  abbrev IsHeld : List (Range × ℕ) → Lease → Type 0
  IsHeld kept l = Own l.0 l.1.0 l.1.1 × (l.0 ≤ kept_at kept l.1.0)

  -- ---- the same leases

  back_same : (p q : Ranges) → SameLeases p q → (n : ℕ) → IsBack Own p n → IsBack Own q n
  back_same p q s n h = record {
    range = h.range;
    machine = h.machine;
    own = h.own;
    kept = subst (λ (kept : List (Range × ℕ)). n ≤ kept_at kept h.range) (sym s.kept) h.kept;
    left = subst (Each (λ (l : Lease). l.0 ≢ n)) (sym s.held) h.left;
  }

  same_are : (p q : Ranges) → SameLeases p q → RangesAre Own Back p → RangesAre Own Back q
  same_are p q s h = record {
    held = subst (λ (kept : List (Range × ℕ)). Each (IsHeld kept) (map lease_of q.held)) (sym s.kept)
        (subst (Each (IsHeld p.kept)) (sym s.held) h.held);
    returning = subst (Each (IsBack Own q)) (sym s.returning)
        (each_on (IsBack Own p) (IsBack Own q) (back_same p q s) p.returning h.returning);
    back = λ n b. back_same p q s n (h.back n b);
  }

  -- ---- a range is given back

  each_kept : (P : Lease → Type 0) (n : ℕ) (ls : List Lease) → Each P ls
      → Each P (filter (λ (l : Lease). not (l.0 == n)) ls)
  each_kept P n ls h = each_passing P (λ (l : Lease). not (l.0 == n)) ls (λ l i _. each_in P ls l h i)

  not_one : (n : ℕ) (ls : List Lease) → Each (λ (l : Lease). l.0 ≢ n) (filter (λ (l : Lease). not (l.0 == n)) ls)
  not_one n ls = each_passing (λ (l : Lease). l.0 ≢ n) (λ (l : Lease). not (l.0 == n)) ls
      (λ l i e same. differs l.0 same e)
    where
      differs : (k : ℕ) → k ≡ n → not (k == n) ≡ true → ⊥
      differs k same e = let yes : (k == n) ≡ true = grind (arith, nat_tests, same) in absurd (no (k == n) yes e)
        where
          no : (b : Bool) → b ≡ true → not b ≡ true → ⊥
          no true p q = cc
          no false p q = cc

  left_back : (p : Ranges) (n m : ℕ) → IsBack Own p m → IsBack Own (given_back n p) m
  left_back p n m h = record {
    range = h.range;
    machine = h.machine;
    own = h.own;
    kept = h.kept;
    left = subst (Each (λ (l : Lease). l.0 ≢ m)) (sym (filter_lease n p.held))
        (each_kept (λ (l : Lease). l.0 ≢ m) n (map lease_of p.held) h.left);
  }

  -- the one that is given back now
  new_back : (p : Ranges) (l : Lease) → IsHeld p.kept l → IsBack Own (given_back l.0 p) l.0
  new_back p l h = record {
    range = l.1.0;
    machine = l.1.1;
    own = h.0;
    kept = h.1;
    left = subst (Each (λ (k : Lease). k.0 ≢ l.0)) (sym (filter_lease l.0 p.held)) (not_one l.0 (map lease_of p.held));
  }

  one_back : (p : Ranges) (l : Lease) → IsHeld p.kept l → RangesAre Own Back p → RangesAre Own Back (given_back l.0 p)
  one_back p l k h = record {
    held = subst (Each (IsHeld p.kept)) (sym (filter_lease l.0 p.held))
        (each_kept (IsHeld p.kept) l.0 (map lease_of p.held) h.held);
    returning = each_append (IsBack Own (given_back l.0 p)) p.returning (l.0 ∷ [])
        (each_on (IsBack Own p) (IsBack Own (given_back l.0 p)) (left_back p l.0) p.returning h.returning)
        (new_back p l k, tt);
    back = λ n b. left_back p l.0 n (h.back n b);
  }

  all_are : (ls : List Lease) (p : Ranges) → Each (IsHeld p.kept) ls → RangesAre Own Back p
      → RangesAre Own Back (all_back (map (λ (l : Lease). l.0) ls) p)
  all_are [] p k h = h
  all_are (l ∷ ls) p k h = all_are ls (given_back l.0 p) k.1 (one_back p l k.0 h)

  -- ---- a return ends

  ends_are : (n : ℕ) (p : Ranges) → RangesAre Own Back p → RangesAre Own Back (returned n p)
  ends_are n p h = record {
    held = h.held;
    returning = each_passing (IsBack Own (returned n p)) (λ (m : ℕ). not (m == n)) p.returning
        (λ m i _. same m (each_in (IsBack Own p) p.returning m h.returning i));
    back = λ m b. same m (h.back m b);
  }
    where
      same : (m : ℕ) → IsBack Own p m → IsBack Own (returned n p) m
      same m k = record { range = k.range; machine = k.machine; own = k.own; kept = k.kept; left = k.left }

  -- ---- a Grant is taken

  kept_new : (kept : List (Range × ℕ)) (r : Range) (n : ℕ) → kept_at (insert_entry same_range kept r n) r ≡ n
  kept_new [] r n = let e : same_range r r ≡ true = range_itself r in grind (arith, e)
  kept_new (k ∷ kept) r n =
      let e : same_range r r ≡ true = range_itself r in grind (arith, nat_tests, e, kept_new kept r n)

  above : (a b : ℕ) → nat_le a b ≡ false → a ≤ b → ⊥
  above a b e h = grind (arith, nat_tests, e, h)

  taken_are : (p : Ranges) (n : ℕ) (r : Range) (machine : Ip4) (now : ℕ) → is_old p n r ≡ false → Own n r machine
      → ((r' : Range) (machine' : Ip4) → Own n r' machine' → r ≡ r') → RangesAre Own Back p
      → RangesAre Own Back (granted p n r machine now).0
  taken_are p n r machine now fresh own one h =
      subst (RangesAre Own Back) (sym (granted_new p n r machine now fresh)) (record {
        held = each_map (IsHeld q.kept) lease_of q.held
            (each_inserted (λ (x : Held). IsHeld q.kept (lease_of x)) x (place_for n p.held) p.held
            (own, subst (λ (k : ℕ). n ≤ k) (sym (kept_new p.kept r n)) (at_least n))
            (each_unmapped p.held (each_on (IsHeld p.kept) (IsHeld q.kept) (λ l k. (k.0, up k.1 (rises l.1.0)))
            (map lease_of p.held) h.held)));
        returning = each_on (IsBack Own p) (IsBack Own q) stays p.returning h.returning;
        back = λ m b. stays m (h.back m b);
      })
    where
      x : Held
      x = new_held n r machine now

      q : Ranges
      q = with_new p n r machine now

      at_least : (k : ℕ) → k ≤ k
      at_least k = omega arith

      up : {a b d : ℕ} → a ≤ b → b ≤ d → a ≤ d
      up i j = omega arith

      rises : (s : Range) → kept_at p.kept s ≤ kept_at q.kept s
      rises s = subst (λ (g : Ranges). kept_at p.kept s ≤ kept_at g.kept s) (granted_new p n r machine now fresh)
          ((holds_granted p n r machine now).rises s)

      each_unmapped : (hs : List Held) → Each (IsHeld q.kept) (map lease_of hs)
          → Each (λ (y : Held). IsHeld q.kept (lease_of y)) hs
      each_unmapped [] k = tt
      each_unmapped (y ∷ ys) k = (k.0, each_unmapped ys k.1)

      unheld : (m : ℕ) (hs : List Held) → Each (λ (l : Lease). l.0 ≢ m) (map lease_of hs)
          → Each (λ (y : Held). y.n ≢ m) hs
      unheld m [] k = tt
      unheld m (y ∷ ys) k = (k.0, unheld m ys k.1)

      not_old : nat_le n (kept_at p.kept r) ≡ false
      not_old = (neither (clashes p.held n r || list_any (λ m. m == n) p.returning)
          (nat_le n (kept_at p.kept r)) fresh).1

      other : (m : ℕ) → IsBack Own p m → n ≢ m
      other m k same = above n (kept_at p.kept r) not_old
          (subst (λ (s : Range). n ≤ kept_at p.kept s)
          (sym (one k.range k.machine (subst (λ (j : ℕ). Own j k.range k.machine) (sym same) k.own)))
          (subst (λ (j : ℕ). j ≤ kept_at p.kept k.range) (sym same) k.kept))

      stays : (m : ℕ) → IsBack Own p m → IsBack Own q m
      stays m k = record {
        range = k.range;
        machine = k.machine;
        own = k.own;
        kept = up k.kept (rises k.range);
        left = each_map (λ (l : Lease). l.0 ≢ m) lease_of q.held
            (each_inserted (λ (y : Held). y.n ≢ m) x (place_for n p.held) p.held (other m k) (unheld m p.held k.left));
      }

  -- ---- a turn

  pub moves_are : (c : ConfigParts) (a : Agent) (i : Input) (q : Ranges) → LeasesMove c a i q
      → ((n : ℕ) (r : Range) (machine : Ip4) → IsTaken c a i n r machine → Own n r machine)
      → ((n : ℕ) (r : Range) (machine : Ip4) (r' : Range) (machine' : Ip4) → Own n r machine → Own n r' machine' → r
      ≡ r')
      → RangesAre Own Back a.traffic.ranges → RangesAre Own Back q
  moves_are c a i q (Stay same) own one h = same_are a.traffic.ranges q same h
  moves_are c a i q (Takes n r machine now taken same) own one h =
      same_are (granted a.traffic.ranges n r machine now).0 q same
      (taken_are a.traffic.ranges n r machine now taken.fresh (own n r machine taken)
      (λ r' machine' k. one n r machine r' machine' (own n r machine taken) k) h)
  moves_are c a i q (GivesBack ls held same) own one h =
      same_are (all_back (map (λ (l : Lease). l.0) ls) a.traffic.ranges) q same
      (all_are ls a.traffic.ranges
      (each_on (λ (l : Lease). In l (map lease_of a.traffic.ranges.held)) (IsHeld a.traffic.ranges.kept)
      (λ l there. each_in (IsHeld a.traffic.ranges.kept)
      (map lease_of a.traffic.ranges.held) l h.held there) ls held) h)
  moves_are c a i q (Ends n same) own one h = same_are (returned n a.traffic.ranges) q same
      (ends_are n a.traffic.ranges h)

-- with more leases, and no number given back but those that were, or are returning
pub are_on : (Own Own' : ℕ → Range → Ip4 → Type 0) (Back Back' : ℕ → Type 0) (p : Ranges)
    → ((n : ℕ) (r : Range) (machine : Ip4) → Own n r machine → Own' n r machine)
    → ((n : ℕ) → Back' n → Back n ⊎ In n p.returning) → RangesAre Own Back p → RangesAre Own' Back' p
are_on Own Own' Back Back' p more less h = record {
  held = each_on (λ (l : Lease). Own l.0 l.1.0 l.1.1 × (l.0 ≤ kept_at p.kept l.1.0)) _
      (λ l k. (more l.0 l.1.0 l.1.1 k.0, k.1)) (map lease_of p.held) h.held;
  returning = each_on (IsBack Own p) (IsBack Own' p) on p.returning h.returning;
  back = λ n b. elim (less n b) [
    | inl was ↦ on n (h.back n was)
    | inr returns ↦ on n (each_in (IsBack Own p) p.returning n h.returning returns)
  ];
}
  where
    on : (n : ℕ) → IsBack Own p n → IsBack Own' p n
    on n k = record {
      range = k.range;
      machine = k.machine;
      own = more n k.range k.machine k.own;
      kept = k.kept;
      left = k.left;
    }
