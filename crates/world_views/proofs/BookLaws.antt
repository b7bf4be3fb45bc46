-- The table of the longest log's values is the book, and its rows stand above 0.
use Rattle.std.proofs.Common.{◌≡◌, ◌<◌, ◌≤◌, ℕ, zero, suc, ◌+◌, ◌*◌, Bool, true, false, List, [], ◌∷◌, ◌++◌, map, length, take, get_or, refl, sym, ap, subst, ◌∙◌, arith, nat_lt}
use Rattle.std.specs.Prelude.{fold, if◌then◌else◌}
use Rattle.std.specs.List.{flat_map}
use Rattle.std.proofs.Math.Seq.{take-suc, take-length}
use Rattle.std.proofs.lemmas.Bool.Decides.{nat_tests}
use Rattle.std.proofs.lemmas.List.{append_assoc, append-nil, get_or-map, length-append, take_more}
use Rattle.std.proofs.lemmas.List.{flat_map_more}
use Rattle.std.proofs.lemmas.Grind.{fold-append}
use Rattle.lease_spec.proofs.CauseLaws.{all_caused}
use Rattle.lease_spec.proofs.MemberLaws.{each_append, each_from, each_in}
use Rattle.lease_spec.proofs.PlaceLaws.{table_more}
use Rattle.lease_spec.proofs.TruthLaws.{rows_told}
use Rattle.lease_spec.specs.Lives.{HasCause}
use Rattle.lease_spec.specs.Places.{Placed, commands, commands_from, placed, slot_commands}
use Rattle.lease_spec.specs.Table.{Leases, history, story, table}
use Rattle.lease_spec.specs.Truths.{RowTold}
use Rattle.lease_spec.specs.declared.effect.Effect.TheVariants as effect
use Rattle.lease_spec.specs.declared.row.Row.{Row}
use Rattle.node_roles.specs.declared.role.Role.{Role}
use Rattle.node_schedule.specs.Roles.{role_of}
use Rattle.node_spec.specs.Bodies.{entries_of, entry_in}
use Rattle.port_leases.specs.TableState.{TableState, apply_slot, fresh, rows_above}
use Rattle.vip_config.specs.Leases.{lease_rules_of}
use Rattle.wire_core.specs.Commands.{LogCommand}
use Rattle.wire_core.specs.Entries.{read_entry}
use Rattle.wire_core.specs.Members.{Each, In}
use Rattle.wire_core.specs.declared.entry.Entry.{Entry}
use Rattle.wire_core.specs.declared.rules.LeaseRules.{LeaseRules}
use Rattle.world_model.specs.Shown.{shown_site}
use Rattle.world_model.specs.World.{WorldState}
use Rattle.world_nodes.specs.Nodes.{site_at}
use Rattle.world_nodes.specs.Sites.{SiteState}
use Rattle.world_spec.specs.Acts.{learned, learned_by, log_length}
use Rattle.world_spec.specs.Nodes.{Lists}
use Rattle.world_spec.specs.Views.{book, book_of, longest_disk}
use Rattle.world_spec.specs.Views as views
use Rattle.world_spec.specs.World.{Site, World}
use Rattle.world_spec.specs.World as tables
use Rattle.world_views.proofs.Seeing.{replicas_there}
use Rattle.world_views.specs.Books.{learns, longer, longest_of}
use Rattle.world_views.specs.Views.{AreBookOf}

-- ---- what is learned

learned-append : (es fs : List Entry) → learned (es ++ fs) ≡ learned es ++ learned fs
unfolding learned
learned-append [] fs = refl
learned-append (e ∷ es) fs =
    ap (λ (vs : List (List LogCommand)). learned_by e ++ vs) (learned-append es fs)
    ∙ sym (append_assoc (learned_by e) (learned es) (learned fs))

learns-append : (t : TableState) (us vs : List (List LogCommand)) → learns t (us ++ vs) ≡ learns (learns t us) vs
learns-append t [] vs = refl
learns-append t (u ∷ us) vs = learns-append (apply_slot t u).0 us vs

-- one body more
pub learns_next : (t now new : TableState) (bodies : List (List ℕ)) (i : ℕ) (body : List ℕ) → i < length bodies
    → body ≡ get_or bodies i body → now ≡ learns t (learned (entries_of (take i bodies)))
    → new ≡ learns now (learned (entry_in (read_entry body)))
    → new ≡ learns t (learned (entries_of (take (i + 1) bodies)))
unfolding entries_of
learns_next t now new bodies i body lt is before more =
    let one : List (List ℕ) → List Entry = flat_map (λ (b : List ℕ). entry_in (read_entry b)) in
    let next : take (i + 1) bodies ≡ take i bodies ++ body ∷ [] =
    take_more bodies i body lt ∙ ap (λ (b : List ℕ). take i bodies ++ b ∷ []) (sym is) in
    let all : one (take (i + 1) bodies) ≡ one (take i bodies) ++ entry_in (read_entry body) =
    ap one next ∙ sym (flat_map_more (λ (b : List ℕ). entry_in (read_entry b)) [] (take i bodies) body) in
    more
    ∙ ap (λ (u : TableState). learns u (learned (entry_in (read_entry body)))) before
    ∙ sym (learns-append t (learned (one (take i bodies))) (learned (entry_in (read_entry body))))
    ∙ ap (learns t) (sym (ap learned all ∙ learned-append (one (take i bodies)) (entry_in (read_entry body))))

-- the table of these values
table_state : LeaseRules → List (List LogCommand) → TableState
table_state rules values = record { rules = rules; leases = table rules values; slots = length values }

one_slot : (rules : LeaseRules) (values : List (List LogCommand)) (value : List LogCommand)
    → (apply_slot (table_state rules values) value).0 ≡ table_state rules (values ++ value ∷ [])
unfolding table_state
one_slot rules values value =
    ap (λ (ls : Leases). record { rules = rules; leases = ls; slots = length values + 1 }) (sym (table_more rules values value))
    ∙ ap (λ (n : ℕ). record { rules = rules; leases = table rules (values ++ value ∷ []); slots = n })
    (sym (length-append values (value ∷ [])))

learns_from : (rules : LeaseRules) (us vs : List (List LogCommand))
    → learns (table_state rules us) vs ≡ table_state rules (us ++ vs)
learns_from rules us [] = ap (table_state rules) (sym (append-nil us))
learns_from rules us (v ∷ vs) =
    ap (λ (t : TableState). learns t vs) (one_slot rules us v)
    ∙ learns_from rules (us ++ v ∷ []) vs
    ∙ ap (table_state rules) (append_assoc us (v ∷ []) vs)

-- a disk's entries, from no leases on
pub learns_fresh : (rules : LeaseRules) (values : List (List LogCommand))
    → (learns (fresh rules) values).leases ≡ table rules values
unfolding table_state story
learns_fresh rules values = ap (λ (t : TableState). t.leases) (learns_from rules [] values)

-- ---- the longest log

-- the log's length of a node that shows a site
abbrev Tells : SiteState Role → Type 0
Tells s = s.learned ≡ log_length s.entries

longer_tells : (s t : SiteState Role) → Tells s → Tells t → Tells (longer s t)
longer_tells s t here there = by (nat_lt s.learned t.learned)
  where
    by : (b : Bool) → Tells (if b then t else s)
    by true = there
    by false = here

longer_entries : (s t : SiteState Role) → Tells s → Tells t → (longer s t).entries ≡ views.longer s.entries t.entries
longer_entries s t here there =
    by (nat_lt s.learned t.learned)
    ∙ ap (λ (n : ℕ). if nat_lt n t.learned then t.entries else s.entries) here
    ∙ ap (λ (n : ℕ). if nat_lt (log_length s.entries) n then t.entries else s.entries) there
  where
    by : (b : Bool) → (if b then t else s).entries ≡ (if b then t.entries else s.entries)
    by true = refl
    by false = refl

-- the longer log, as the tables fold it
abbrev pick : List Entry → Site → List Entry
pick es s = views.longer es s.entries

module _ (core : Lists → Role) (ws : List Site) where
  read_shown : (n : ℕ) → n < length ws
      → site_at (map (shown_site core) ws) n ≡ shown_site core (get_or ws n tables.nobody)
  read_shown n lt = get_or-map (shown_site core) ws n tables.nobody _ lt

  tells_at : (n : ℕ) → n < length ws → Tells (site_at (map (shown_site core) ws) n)
  tells_at n lt = subst Tells (sym (read_shown n lt)) refl

  longest_tells : (n : ℕ) → n ≤ length ws → Tells (longest_of (map (shown_site core) ws) n)
  longest_tells zero le = refl
  longest_tells (suc n) le =
      longer_tells (longest_of (map (shown_site core) ws) n) (site_at (map (shown_site core) ws) n)
      (longest_tells n (omega (arith, le))) (tells_at n (omega (arith, le)))

  longest_front : (n : ℕ) → n ≤ length ws → (longest_of (map (shown_site core) ws) n).entries ≡ fold pick [] (take n ws)
  longest_front zero le = refl
  longest_front (suc n) le =
      let lt : n < length ws = omega (arith, le) in
      let s : SiteState Role = longest_of (map (shown_site core) ws) n in
      let t : SiteState Role = site_at (map (shown_site core) ws) n in
      let w : Site = get_or ws n tables.nobody in
      longer_entries s t (longest_tells n (omega (arith, le))) (tells_at n lt)
      ∙ ap (λ (u : SiteState Role). views.longer s.entries u.entries) (read_shown n lt)
      ∙ ap (λ (es : List Entry). views.longer es w.entries) (longest_front n (omega (arith, le)))
      ∙ sym (ap (fold pick []) (take-suc ws n tables.nobody lt) ∙ fold-append pick [] (take n ws) (w ∷ []))

  longest_all : (longest_of (map (shown_site core) ws) (length ws)).entries ≡ longest_disk ws
  longest_all = longest_front (length ws) (omega arith) ∙ ap (fold pick []) (take-length ws)

-- ---- rows stand above 0

placed_above : (place : ℕ) (cs : List LogCommand) → 0 < place → Each (λ (c : Placed). 0 < c.place) (placed place cs)
placed_above place [] lt = tt
placed_above place (c ∷ cs) lt = (lt, placed_above (place + 1) cs (omega (arith, lt)))

commands_above : (slot : ℕ) (values : List (List LogCommand))
    → Each (λ (c : Placed). 0 < c.place) (commands_from slot values)
commands_above slot [] = tt
commands_above slot (value ∷ values) =
    each_append (λ (c : Placed). 0 < c.place) (slot_commands slot value) (commands_from (slot + 1) values)
    (placed_above (16 * slot + 1) value (omega arith)) (commands_above (slot + 1) values)

rows_are_above : (rules : LeaseRules) (values : List (List LogCommand))
    → Each (λ (row : Row). 0 < row.n) (table rules values).rows
rows_are_above rules values = each_from (λ (row : Row). 0 < row.n) (table rules values).rows above
  where
    above : (row : Row) → In row (table rules values).rows → 0 < row.n
    above row there =
        let told : RowTold (history rules (commands values)) row =
        each_in (RowTold (history rules (commands values))) (table rules values).rows row (rows_told rules (commands values)) there in
        let cause : HasCause (commands values) (effect.Reserved told.was.born) =
        each_in (HasCause (commands values)) (history rules (commands values)) (effect.Reserved told.was.born)
        (all_caused rules (commands values)) told.was.birth.done in
        let place : 0 < cause.command.place =
        each_in (λ (c : Placed). 0 < c.place) (commands values) cause.command (commands_above 0 values) cause.there in
        let same : cause.command.place ≡ row.n = cause.causes.0 ∙ told.was.birth.number in
        subst (λ (n : ℕ). 0 < n) same place

all_pass : (rows : List Row) → Each (λ (row : Row). 0 < row.n) rows → rows_above rows 0 ≡ rows
all_pass [] each = refl
all_pass (row ∷ rows) each =
    let passes : nat_lt 0 row.n ≡ true = grind (arith, nat_tests, each.0) in
    ap (λ (b : Bool). if b then row ∷ rows_above rows 0 else rows_above rows 0) passes
    ∙ ap (λ (rest : List Row). row ∷ rest) (all_pass rows each.1)

-- ---- the book

pub are_book : (v : WorldState Role) (list : List Row)
    → list ≡ rows_above (book_of v.cfg (longest_of v.nodes.replicas (length v.cfg.replicas)).entries).rows 0
    → AreBookOf v list
unfolding book
are_book v list is w stands =
    let core : Lists → Role = role_of v.cfg in
    let shows : v.nodes.replicas ≡ map (shown_site core) w.replicas = ap (λ (u : WorldState Role). u.nodes.replicas) stands.shows in
    let entries : (longest_of v.nodes.replicas (length v.cfg.replicas)).entries ≡ longest_disk w.replicas =
    ap (λ (ss : List (SiteState Role)). (longest_of ss (length v.cfg.replicas)).entries) shows
    ∙ ap (λ (n : ℕ). (longest_of (map (shown_site core) w.replicas) n).entries) (replicas_there core v w stands)
    ∙ longest_all core w.replicas in
    is ∙ ap (λ (es : List Entry). rows_above (book_of v.cfg es).rows 0) entries
    ∙ all_pass (book_of v.cfg (longest_disk w.replicas)).rows
    (rows_are_above (lease_rules_of v.cfg) (learned (longest_disk w.replicas)))

-- ---- rows in a walk

pub walked_on : (rows : List Row) (above : ℕ) (list : List Row) (row : Row) (whole : List Row)
    → rows_above rows above ≡ row ∷ rows_above rows row.n → list ++ rows_above rows above ≡ whole
    → (list ++ row ∷ []) ++ rows_above rows row.n ≡ whole
walked_on rows above list row whole walk before =
    append_assoc list (row ∷ []) (rows_above rows row.n) ∙ ap (λ (zs : List Row). list ++ zs) (sym walk) ∙ before

pub walked_all : (rows : List Row) (above : ℕ) (list whole : List Row) → rows_above rows above ≡ []
    → list ++ rows_above rows above ≡ whole → list ≡ whole
walked_all rows above list whole none before =
    sym (append-nil list) ∙ ap (λ (zs : List Row). list ++ zs) (sym none) ∙ before
