-- A list of nodes as the code keeps it, and as it is seen.
use Rattle.std.proofs.Common.{◌≡◌, ◌<◌, ◌≤◌, ℕ, zero, suc, List, [], ◌∷◌, ◌++◌, map, length, get_or, set, None, sym, ap, ◌∙◌, arith}
use Rattle.std.proofs.lemmas.List.{map-set, get_or-map, get_or_past, length-map}
use Rattle.std.proofs.lemmas.List.Elements.{All-append, All-from_get_or, All-get_or, All-set}
use Rattle.node_spec.specs.Bodies.{entries_of}
use Rattle.world_nodes.specs.declared.site.Site.{Site}
use Rattle.world_nodes.specs.Disks.{ArePlaces, IsPlace, site_of}
use Rattle.world_nodes.specs.Nodes.{nobody, site_at}

pub same_length : {C : Type 0} (sites : List (Site C)) → length (map site_of sites) ≡ length sites
same_length sites = length-map sites site_of

pub read_site : {C : Type 0} (sites : List (Site C)) (i : ℕ) (d : Site C) → i < length sites
    → site_at (map site_of sites) i ≡ site_of (get_or sites i d)
read_site sites i d lt = get_or-map site_of sites i d _ lt

pub put_site : {C : Type 0} (sites : List (Site C)) (i : ℕ) (s : Site C)
    → map site_of (set sites i s) ≡ set (map site_of sites) i (site_of s)
put_site sites i s = map-set site_of sites i s

pub places_at : {C : Type 0} (sites : List (Site C)) (i : ℕ) (d : Site C) → i < length sites → ArePlaces sites
    → IsPlace (get_or sites i d).place
places_at sites i d lt are = All-get_or (λ s. IsPlace s.place) sites i d lt are

pub places_put : {C : Type 0} (sites : List (Site C)) (i : ℕ) (s : Site C) → IsPlace s.place → ArePlaces sites
    → ArePlaces (set sites i s)
places_put sites i s is are = All-set (λ s. IsPlace s.place) sites i s is are

pub none_past : {C : Type 0} (sites : List (Site C)) (i : ℕ) → length sites ≤ i
    → None ≡ (site_at (map site_of sites) i).up
none_past sites i past =
    sym (ap (λ s. s.up) (get_or_past (map site_of sites) i nobody (omega (arith, length-map sites site_of, past))))

pub no_entry_past : {C : Type 0} (sites : List (Site C)) (i : ℕ) (bodies : List (List ℕ)) → bodies ≡ []
    → length sites ≤ i → entries_of bodies ≡ (site_at (map site_of sites) i).entries
unfolding entries_of
no_entry_past sites i bodies none past =
    ap entries_of none
    ∙ sym (ap (λ s. s.entries) (get_or_past (map site_of sites) i nobody (omega (arith, length-map sites site_of, past))))

pub none_learned_past : {C : Type 0} (sites : List (Site C)) (i : ℕ) → length sites ≤ i
    → 0 ≡ (site_at (map site_of sites) i).learned
none_learned_past sites i past =
    sym (ap (λ s. s.learned) (get_or_past (map site_of sites) i nobody (omega (arith, length-map sites site_of, past))))

-- one node more
pub places_more : {C : Type 0} (sites : List (Site C)) (s : Site C) → ArePlaces sites → IsPlace s.place
    → ArePlaces (sites ++ s ∷ [])
places_more {C} sites s are is =
    All-append (λ s. IsPlace s.place) sites (s ∷ []) are (All-from_get_or (λ s. IsPlace s.place) (s ∷ []) s (one is))
  where
    one : IsPlace s.place → (i : ℕ) → i < 1 → IsPlace (get_or (s ∷ []) i s).place
    one is zero lt = is
    one is (suc i) lt = absurd (omega (arith, lt))
