-- A node of a world of real nodes does what its table says.
use Rattle.std.proofs.Common.{◌≡◌, ◌⊎◌, inl, inr, ◌≤◌, ℕ, ◌+◌, Bool, true, false, List, [], ◌∷◌, ◌++◌, map, length, get_or, set, Option, Some, None, refl, sym, ap, ◌∙◌, append-nil, arith, nat_lt}
use Rattle.std.specs.Prelude.{if◌then◌else◌, is_some, option_map}
use Rattle.std.proofs.Math.ListN.{get_or-map}
use Rattle.std.proofs.lemmas.List.{set-get_or, map-set, length-map, get_or_past}
use Rattle.std.proofs.lemmas.Bool.Decides.{nat_tests}
use Rattle.wire_core.specs.declared.entry.Entry.{Entry}
use Rattle.wire_core.specs.declared.entry.Entry.TheVariants as entry
use Rattle.wire_core.specs.declared.node.NodeId.{NodeId}
use Rattle.wire_core.specs.declared.step.Step.{Step}
use Rattle.vip_config.specs.declared.parts.ConfigParts.{ConfigParts}
use Rattle.node_spec.specs.Steps.{step_of}
use Rattle.node_spec.specs.Turns.{Input, Turn}
use Rattle.world_spec.specs.Acts.{log_length}
use Rattle.world_spec.specs.Nodes.{Lists, booted, boot_entry, listed, node_turn, opened}
use Rattle.world_spec.specs.World.{Site, nobody}
use Rattle.world_nodes.specs.Nodes.{put_at, site_at, step_at, crash_at, cut_at, restart_at, cut_restart_at}
use Rattle.world_model.specs.Shown.{FollowsTables, shown_site}
use Rattle.world_nodes.specs.Sites.{Deciding, Opening, SiteState, cut_restart_by, downed, lost_by, restart_by, site_crash, site_cut, site_cut_restart, site_restart, site_step, step_by, stepped, told_by, told_none}
use Rattle.world_nodes.specs.declared.stepped.Stepped.{Stepped}

-- a log with more entries
pub log_more : (es fs : List Entry) → log_length (es ++ fs) ≡ log_length es + log_length fs
log_more [] fs = omega arith
log_more (entry.Learn ballot value ∷ es) fs = let more = log_more es fs in omega (arith, more)
log_more (entry.Boot version role index boot ∷ es) fs = log_more es fs
log_more (entry.Promise ballot ∷ es) fs = log_more es fs
log_more (entry.Vote ballot value ∷ es) fs = log_more es fs
log_more (entry.Epoch epoch ∷ es) fs = log_more es fs

pub log_booted : (x : NodeId) (es : List Entry) → log_length (booted x es) ≡ log_length es
log_booted x es = let more = log_more es (boot_entry x es ∷ []) in omega (arith, more)

within : (a b : ℕ) → (nat_lt a b ≡ true) ⊎ (b ≤ a)
within a b = by (nat_lt a b) refl
  where
    by : (t : Bool) → nat_lt a b ≡ t → (nat_lt a b ≡ true) ⊎ (b ≤ a)
    by true e = inl e
    by false e = inr (grind (arith, nat_tests))

-- a node that is up is there
pub up_here : (ss : List Site) (i : ℕ) (l : Lists) → (get_or ss i nobody).up ≡ Some l → nat_lt i (length ss) ≡ true
up_here ss i l is = elim (within i (length ss)) [
  | inl lt ↦ lt
  | inr past ↦ absurd (
      let gone : (get_or ss i nobody).up ≡ None = ap (λ (s : Site). s.up) (get_or_past ss i nobody past) in
      cc)
]

-- ---- a node after each step

-- what a turn tells
abbrev pub told : ConfigParts → Site → Turn Lists → Stepped
told cfg s t = told_by (log_length (s.entries ++ listed t.entry)) (step_of cfg t)

abbrev pub turned_site : Site → Turn Lists → Site
turned_site s t = record { entries = s.entries ++ listed t.entry; up = Some t.state }

abbrev pub cut_turned : Site → Turn Lists → Bool → Site
cut_turned s t keep = record { entries = s.entries ++ (if keep then listed t.entry else []); up = None }

abbrev pub cut_told : ConfigParts → Site → Turn Lists → Bool → Stepped
cut_told cfg s t keep = if keep then told cfg s t else told_none (log_length s.entries)

abbrev pub down_site : Site → Site
down_site s = record { entries = s.entries; up = None }

abbrev pub risen_site : ConfigParts → NodeId → Site → Site
risen_site cfg x s = record { entries = booted x s.entries; up = Some (opened cfg x (booted x s.entries)) }

abbrev pub cut_risen : NodeId → Site → Bool → Site
cut_risen x s keep = record { entries = if keep then booted x s.entries else s.entries; up = None }

module _ {C : Type 0} (core : Lists → C) where
  -- the same list
  abbrev pub sites : List Site → List (SiteState C)
  sites ss = map (shown_site core) ss

  pub read_shown : (ss : List Site) (i : ℕ) → site_at (sites ss) i ≡ shown_site core (get_or ss i nobody)
  read_shown ss i = get_or-map (shown_site core) ss i nobody

  here_shown : (ss : List Site) (i : ℕ) → nat_lt i (length ss) ≡ true → nat_lt i (length (sites ss)) ≡ true
  here_shown ss i lt = ap (nat_lt i) (length-map ss (shown_site core)) ∙ lt

  up_shown : (ss : List Site) (i : ℕ) (o : Option Lists) → (get_or ss i nobody).up ≡ o
      → (site_at (sites ss) i).up ≡ option_map core o
  up_shown ss i o is = ap (λ (s : SiteState C). s.up) (read_shown ss i) ∙ ap (option_map core) is

  -- nothing is put where nothing changes
  pub put_same : {A : Type 0} (ss : List (SiteState C)) (i : ℕ) (a : A) → put_at ss i (site_at ss i, a) ≡ (ss, a)
  put_same {A} ss i a = ap (λ (l : List (SiteState C)). (l, a)) (set-get_or ss i _)

  -- what is put shows what is put
  pub put_shown : {A : Type 0} (ss : List Site) (i : ℕ) (s : Site) (a : A)
      → put_at (sites ss) i (shown_site core s, a) ≡ (sites (set ss i s), a)
  put_shown {A} ss i s a = ap (λ (l : List (SiteState C)). (l, a)) (sym (map-set (shown_site core) ss i s))

  if_true : {X : Type 0} (b : Bool) (x y : X) → b ≡ true → (if b then x else y) ≡ x
  if_true {X} b x y is = ap (λ (t : Bool). if t then x else y) is

  pub if_same : {X : Type 0} (b : Bool) (x y : X) → x ≡ y → (if b then x else y) ≡ y
  if_same {X} true x y is = is
  if_same {X} false x y is = refl

  module _ (cfg : ConfigParts) (step : Deciding C) (recover : Opening C) (follows : FollowsTables cfg core step recover) where
    -- ---- a step

    -- what a step leaves and tells
    abbrev after_step : SiteState C → (C × Step) × Option Entry → SiteState C × Option Stepped
    after_step s t = (stepped s t, Some (told_by (stepped s t).learned t.0.1))

    step_same : (s : Site) (t : Turn Lists)
        → after_step (shown_site core s) ((core t.state, step_of cfg t), t.entry)
        ≡ (shown_site core (turned_site s t), Some (told cfg s t))
    step_same s t = ap left (sym (log_more s.entries (listed t.entry)))
      where
        left : ℕ → SiteState C × Option Stepped
        left n = (
          record { entries = s.entries ++ listed t.entry; learned = n; up = Some (core t.state) },
          Some (told_by n (step_of cfg t)),
        )

    site_up : (s : Site) (l : Lists) (i : Input) → s.up ≡ Some l
        → site_step step (shown_site core s) i ≡ (shown_site core (turned_site s (node_turn cfg l i)), Some (told cfg s (node_turn cfg l i)))
    site_up s l i is =
        ap (λ (o : Option Lists). step_by step (shown_site core s) i (option_map core o)) is
        ∙ ap (after_step (shown_site core s)) (follows.turns l i)
        ∙ step_same s (node_turn cfg l i)

    pub step_up : (ss : List Site) (i : ℕ) (l : Lists) (x : Input) → (get_or ss i nobody).up ≡ Some l
        → step_at step (sites ss) i x
        ≡ (sites (set ss i (turned_site (get_or ss i nobody) (node_turn cfg l x))), Some (told cfg (get_or ss i nobody) (node_turn cfg l x)))
    step_up ss i l x is =
        if_true (nat_lt i (length (sites ss))) _ _ (here_shown ss i (up_here ss i l is))
        ∙ ap (λ (s : SiteState C). put_at (sites ss) i (site_step step s x)) (read_shown ss i)
        ∙ ap (put_at (sites ss) i) (site_up (get_or ss i nobody) l x is)
        ∙ put_shown ss i (turned_site (get_or ss i nobody) (node_turn cfg l x)) (Some (told cfg (get_or ss i nobody) (node_turn cfg l x)))

    pub step_down : (ss : List Site) (i : ℕ) (x : Input) → (get_or ss i nobody).up ≡ None
        → step_at step (sites ss) i x ≡ (sites ss, None)
    step_down ss i x is =
        if_same (nat_lt i (length (sites ss))) _ _
        (ap (λ (o : Option C). put_at (sites ss) i (step_by step (site_at (sites ss) i) x o)) (up_shown ss i None is)
        ∙ put_same (sites ss) i None)

    -- ---- a step that a crash cuts short

    site_cut_up : (s : Site) (l : Lists) (i : Input) (keep : Bool) → s.up ≡ Some l
        → site_cut step (shown_site core s) i keep
        ≡ (shown_site core (cut_turned s (node_turn cfg l i) keep), Some (cut_told cfg s (node_turn cfg l i) keep))
    site_cut_up s l i true is = ap (λ (r : SiteState C × Option Stepped). (downed r.0, r.1)) (site_up s l i is)
    site_cut_up s l i false is =
        ap (λ (o : Option Lists). (downed (shown_site core s), lost_by (shown_site core s) (option_map core o))) is
        ∙ ap left (sym (append-nil s.entries))
      where
        left : List Entry → SiteState C × Option Stepped
        left es = (
          record { entries = es; learned = log_length es; up = None },
          Some (told_none (log_length s.entries)),
        )

    pub cut_up : (ss : List Site) (i : ℕ) (l : Lists) (x : Input) (keep : Bool) → (get_or ss i nobody).up ≡ Some l
        → cut_at step (sites ss) i x keep
        ≡ (
          sites (set ss i (cut_turned (get_or ss i nobody) (node_turn cfg l x) keep)),
          Some (cut_told cfg (get_or ss i nobody) (node_turn cfg l x) keep),
        )
    cut_up ss i l x keep is =
        if_true (nat_lt i (length (sites ss))) _ _ (here_shown ss i (up_here ss i l is))
        ∙ ap (λ (s : SiteState C). put_at (sites ss) i (site_cut step s x keep)) (read_shown ss i)
        ∙ ap (put_at (sites ss) i) (site_cut_up (get_or ss i nobody) l x keep is)
        ∙ put_shown ss i (cut_turned (get_or ss i nobody) (node_turn cfg l x) keep)
        (Some (cut_told cfg (get_or ss i nobody) (node_turn cfg l x) keep))

    -- a node that is down is as if it had crashed
    still_down : (s : SiteState C) → s.up ≡ None → downed s ≡ s
    still_down s is = ap (λ (o : Option C). record s { up = o }) (sym is)

    site_cut_down : (s : SiteState C) (i : Input) (keep : Bool) → s.up ≡ None → site_cut step s i keep ≡ (s, None)
    site_cut_down s i true is =
        ap (λ (o : Option C). (downed (step_by step s i o).0, (step_by step s i o).1)) is
        ∙ ap (λ (t : SiteState C). (t, None)) (still_down s is)
    site_cut_down s i false is =
        ap (λ (o : Option C). (downed s, lost_by s o)) is ∙ ap (λ (t : SiteState C). (t, None)) (still_down s is)

    pub cut_down : (ss : List Site) (i : ℕ) (x : Input) (keep : Bool) → (get_or ss i nobody).up ≡ None
        → cut_at step (sites ss) i x keep ≡ (sites ss, None)
    cut_down ss i x keep is =
        if_same (nat_lt i (length (sites ss))) _ _
        (ap (put_at (sites ss) i) (site_cut_down (site_at (sites ss) i) x keep (up_shown ss i None is))
        ∙ put_same (sites ss) i None)

    -- ---- a crash

    pub crash_up : (ss : List Site) (i : ℕ) (l : Lists) → (get_or ss i nobody).up ≡ Some l
        → crash_at (sites ss) i
        ≡ (sites (set ss i (down_site (get_or ss i nobody))), true)
    crash_up ss i l is =
        if_true (nat_lt i (length (sites ss))) _ _ (here_shown ss i (up_here ss i l is))
        ∙ ap (λ (s : SiteState C). put_at (sites ss) i (site_crash s)) (read_shown ss i)
        ∙ ap (λ (o : Option Lists). put_at (sites ss) i (downed (shown_site core (get_or ss i nobody)), is_some (option_map core o))) is
        ∙ put_shown ss i (down_site (get_or ss i nobody)) true

    pub crash_down : (ss : List Site) (i : ℕ) → (get_or ss i nobody).up ≡ None → crash_at (sites ss) i ≡ (sites ss, false)
    crash_down ss i is =
        let up : (site_at (sites ss) i).up ≡ None = up_shown ss i None is in
        if_same (nat_lt i (length (sites ss))) _ _
        (ap (λ (o : Option C). put_at (sites ss) i (downed (site_at (sites ss) i), is_some o)) up
        ∙ ap (λ (s : SiteState C). put_at (sites ss) i (s, false)) (still_down (site_at (sites ss) i) up)
        ∙ put_same (sites ss) i false)

    -- ---- an opening

    site_opens : (x : NodeId) (s : Site) → s.up ≡ None
        → site_restart recover cfg x (shown_site core s) ≡ (shown_site core (risen_site cfg x s), true)
    site_opens x s is =
        ap (λ (o : Option Lists). restart_by recover cfg x (shown_site core s) (option_map core o)) is
        ∙ ap (left (log_length s.entries)) (follows.opens x (booted x s.entries))
        ∙ ap (λ (n : ℕ). left n (core (opened cfg x (booted x s.entries)))) (sym (log_booted x s.entries))
      where
        left : ℕ → C → SiteState C × Bool
        left n c = (record { entries = booted x s.entries; learned = n; up = Some c }, true)

    pub restart_down : (x : NodeId) (ss : List Site) (i : ℕ) → nat_lt i (length ss) ≡ true → (get_or ss i nobody).up ≡ None
        → restart_at recover cfg x (sites ss) i ≡ (sites (set ss i (risen_site cfg x (get_or ss i nobody))), true)
    restart_down x ss i lt is =
        if_true (nat_lt i (length (sites ss))) _ _ (here_shown ss i lt)
        ∙ ap (λ (s : SiteState C). put_at (sites ss) i (site_restart recover cfg x s)) (read_shown ss i)
        ∙ ap (put_at (sites ss) i) (site_opens x (get_or ss i nobody) is)
        ∙ put_shown ss i (risen_site cfg x (get_or ss i nobody)) true

    pub restart_up : (x : NodeId) (ss : List Site) (i : ℕ) (l : Lists) → (get_or ss i nobody).up ≡ Some l
        → restart_at recover cfg x (sites ss) i ≡ (sites ss, false)
    restart_up x ss i l is =
        if_true (nat_lt i (length (sites ss))) _ _ (here_shown ss i (up_here ss i l is))
        ∙ ap (λ (o : Option C). put_at (sites ss) i (restart_by recover cfg x (site_at (sites ss) i) o)) (up_shown ss i (Some l) is)
        ∙ put_same (sites ss) i false

    site_cut_opens : (x : NodeId) (s : Site) (keep : Bool) → s.up ≡ None
        → site_cut_restart recover cfg x (shown_site core s) keep ≡ (shown_site core (cut_risen x s keep), true)
    site_cut_opens x s true is =
        ap (λ (o : Option Lists). cut_restart_by recover cfg x (shown_site core s) true (option_map core o)) is
        ∙ ap (λ (r : SiteState C × Bool). (downed r.0, true)) (site_opens x s is)
    site_cut_opens x s false is =
        ap (λ (o : Option Lists). cut_restart_by recover cfg x (shown_site core s) false (option_map core o)) is
        ∙ ap left is
      where
        left : Option Lists → SiteState C × Bool
        left o = (record { entries = s.entries; learned = log_length s.entries; up = option_map core o }, true)

    pub cut_restart_down : (x : NodeId) (ss : List Site) (i : ℕ) (keep : Bool) → nat_lt i (length ss) ≡ true
        → (get_or ss i nobody).up ≡ None
        → cut_restart_at recover cfg x (sites ss) i keep ≡ (sites (set ss i (cut_risen x (get_or ss i nobody) keep)), true)
    cut_restart_down x ss i keep lt is =
        if_true (nat_lt i (length (sites ss))) _ _ (here_shown ss i lt)
        ∙ ap (λ (s : SiteState C). put_at (sites ss) i (site_cut_restart recover cfg x s keep)) (read_shown ss i)
        ∙ ap (put_at (sites ss) i) (site_cut_opens x (get_or ss i nobody) keep is)
        ∙ put_shown ss i (cut_risen x (get_or ss i nobody) keep) true

    pub cut_restart_up : (x : NodeId) (ss : List Site) (i : ℕ) (l : Lists) (keep : Bool) → (get_or ss i nobody).up ≡ Some l
        → cut_restart_at recover cfg x (sites ss) i keep ≡ (sites ss, false)
    cut_restart_up x ss i l keep is =
        if_true (nat_lt i (length (sites ss))) _ _ (here_shown ss i (up_here ss i l is))
        ∙ ap (λ (o : Option C). put_at (sites ss) i (cut_restart_by recover cfg x (site_at (sites ss) i) keep o)) (up_shown ss i (Some l) is)
        ∙ put_same (sites ss) i false
