-- What `put` leaves where the key is there, and where it isn't.
use Rattle.std.proofs.Common.{◌≡◌, ℕ, ◌-◌, Bool, true, false, [], ◌∷◌, take, Option, Some, None, IsSome, refl, ap, sym, subst, ◌∙◌, arith}
use Rattle.std.specs.Option.{option_map_or}
use Rattle.std.specs.Map.{lookup, lookup_entry, remove_entry}
use Rattle.lru.specs.LruCache.{LruCache, put_entries}
use Rattle.wire_core.specs.declared.flow.FlowKey.{FlowKey}
use Rattle.wire_core.specs.Same.{same_key}
use Rattle.wire_core.proofs.SameLaws.{key_is}
use Rattle.mux_spec.specs.Flows.{FlowList, flow_in, without}
use Rattle.mux_spec.specs.declared.flow.Seen.{Seen}

none_entry : (k : FlowKey) (es : FlowList) → flow_in k es ≡ None → lookup_entry (same_key k) es ≡ None
none_entry k [] h = refl
none_entry k (e ∷ es) h = grind (arith, none_entry k es, h)

-- an entry that is there has the key itself
some_entry : (k : FlowKey) (es : FlowList) → IsSome (flow_in k es) → (s : Seen) × (lookup_entry (same_key k) es ≡ Some (k, s))
some_entry k [] h = absurd (cc)
some_entry k (e ∷ es) h = by (some_entry k es) (same_key k e.0) refl
  where
    by : (IsSome (flow_in k es) → (s : Seen) × (lookup_entry (same_key k) es ≡ Some (k, s))) → (b : Bool) → same_key k e.0 ≡ b → (s : Seen) × (lookup_entry (same_key k) (e ∷ es) ≡ Some (k, s))
    by more true is = (e.1, rw is (ap (λ key. Some (key, e.1)) (sym (key_is k e.0 is))))
    by more false is = let rest = more (rw is at h) in (rest.0, rw is rest.1)

module _ (eq : FlowKey → FlowKey → Bool) (is : (a b : FlowKey) → eq a b ≡ same_key a b) (k : FlowKey) where
  pub lookup-same : (es : FlowList) → lookup (eq k) es ≡ flow_in k es
  lookup-same [] = refl
  lookup-same (e ∷ es) = rw (is k e.0, lookup-same es) refl

  entry-same : (es : FlowList) → lookup_entry (eq k) es ≡ lookup_entry (same_key k) es
  entry-same [] = refl
  entry-same (e ∷ es) = rw (is k e.0, entry-same es) refl

  pub without-same : (es : FlowList) → remove_entry (eq k) es ≡ without k es
  without-same [] = refl
  without-same (e ∷ es) = rw (is k e.0, without-same es) refl

  abbrev after : FlowList → ℕ → Seen → FlowList → Option (FlowKey × Seen) → FlowList
  after es cap s rest o = option_map_or (λ e. (e.0, s) ∷ rest) o ((k, s) ∷ take (cap - 1) es)

  pub put_new : (c : LruCache FlowKey Seen) (s : Seen) → flow_in k c.entries ≡ None → put_entries eq c k s ≡ (k, s) ∷ take (c.cap - 1) c.entries
  put_new c s h = ap (after c.entries c.cap s (remove_entry (eq k) c.entries)) (entry-same c.entries ∙ none_entry k c.entries h)

  pub put_known : (c : LruCache FlowKey Seen) (s : Seen) → IsSome (flow_in k c.entries) → put_entries eq c k s ≡ (k, s) ∷ without k c.entries
  put_known c s h =
      let there = some_entry k c.entries h in
      ap (after c.entries c.cap s (remove_entry (eq k) c.entries)) (entry-same c.entries ∙ there.1) ∙ ap (λ es. (k, s) ∷ es) (without-same c.entries)

  pub is_there : (es : FlowList) → IsSome (flow_in k es) → IsSome (lookup (eq k) es)
  is_there es h = subst IsSome (sym (lookup-same es)) h
