-- How a run of calls on a disk goes on.
use Rattle.std.proofs.Common.{◌≡◌, ℕ, List, [], ◌∷◌, ◌++◌, Result, Ok, Err, Option, Some, None, refl, sym, ◌∙◌, ap, subst, append_assoc}
use Rattle.outside_io.specs.Disk.{FileState, History, IsImage, Leaves, LeavesOnly, Each, Does, Syncs, IsWithin, kept, moments}
use Rattle.journal.specs.Durable.{IsStill}
use Rattle.journal.proofs.Images.{image_kept}

pub each_weaker : {A : Type 0} (P Q : A → Type 0) → ((x : A) → P x → Q x) → (xs : List A) → Each P xs → Each Q xs
each_weaker P Q f [] all = all
each_weaker P Q f (x ∷ xs) all = (f x all.0, each_weaker P Q f xs all.1)

pub each_both : {A : Type 0} (P : A → Type 0) (xs ys : List A) → Each P xs → Each P ys → Each P (xs ++ ys)
each_both P [] ys all more = more
each_both P (x ∷ xs) ys all more = (all.0, each_both P xs ys all.1 more)

-- What has P.
pub record Serves (step : FileState → FileState) (P : List ℕ → Type 0) (file : List ℕ) : Type 0 where
  pub before : P file
  pub images : Leaves P (step (kept file))
  pub done : P (step (kept file)).bytes

pub here : (P : List ℕ → Type 0) (h : FileState) (file : List ℕ) → h ≡ kept file → P file → Leaves P h
here P h file still p = λ c im. subst P (sym (image_kept file c (subst (λ (x : FileState). IsImage x c) still im))) p

module _ (step : FileState → FileState) (P : List ℕ → Type 0) where
  pub moved : {A E : Type 0} (old new : Option History) (r : Result A E)
      → ((t : History) → old ≡ Some t → Serves step P t.now.bytes) → IsStill old → Does step old new r
      → LeavesOnly old new P
  moved None None r serves still does = tt
  moved None (Some u) r serves still does = absurd does
  moved (Some t) None r serves still does = absurd does
  moved (Some t) (Some u) (Ok x) serves still does =
      let s = serves t refl in (
        here P t.now t.now.bytes still s.before,
        record {
          since = step t.now ∷ [];
          grown = ap moments does;
          each = (subst (λ (h : FileState). Leaves P (step h)) (sym still) s.images, tt);
        },
      )
  moved (Some t) (Some u) (Err e) serves still does =
      let s = serves t refl in (
        here P t.now t.now.bytes still s.before,
        record {
          since = does.since;
          grown = does.grown;
          each = each_weaker (IsWithin (step t.now)) (Leaves P)
              (λ h within c im. s.images c (subst (λ (x : FileState). IsImage (step x) c) still (within c im)))
              does.since does.each;
        },
      )

  pub moved_synced : {A B E : Type 0} (old mid new : Option History) (x : A) (r : Result B E)
      → ((t : History) → old ≡ Some t → Serves step P t.now.bytes) → IsStill old
      → Does {A = A} {E = E} step old mid (Ok x) → Syncs mid new r → LeavesOnly old new P
  moved_synced {A = A} {E = E} old mid new x (Err e) serves still does syncs =
      subst (λ (o : Option History). LeavesOnly old o P) (sym syncs)
      (moved {A = A} {E = E} old mid (Ok x) serves still does)
  moved_synced {A = A} {E = E} None None None x (Ok y) serves still does syncs = tt
  moved_synced {A = A} {E = E} None None (Some v) x (Ok y) serves still does syncs = absurd syncs
  moved_synced {A = A} {E = E} None (Some u) new x (Ok y) serves still does syncs = absurd does
  moved_synced {A = A} {E = E} (Some t) None new x (Ok y) serves still does syncs = absurd does
  moved_synced {A = A} {E = E} (Some t) (Some u) new x (Ok y) serves still does syncs =
      let s = serves t refl in
      let so_far = moved {A = A} {E = E} (Some t) (Some u) (Ok x) serves still does in
      let bytes : u.now.bytes ≡ (step (kept t.now.bytes)).bytes = ap (λ (o : History). o.now.bytes) does
      ∙ ap (λ (h : FileState). (step h).bytes) still in
      let leaves : Leaves P (kept u.now.bytes) =
      here P (kept u.now.bytes) u.now.bytes refl (subst P (sym bytes) s.done) in
      subst (λ (o : Option History). LeavesOnly (Some t) o P) (sym syncs) (
        so_far.0,
        record {
          since = kept u.now.bytes ∷ so_far.1.since;
          grown = ap (λ (l : List FileState). kept u.now.bytes ∷ l) so_far.1.grown;
          each = (leaves, so_far.1.each);
        },
      )

-- one run after another
pub both : (old mid new : Option History) (P Q R : List ℕ → Type 0) → ((c : List ℕ) → P c → R c)
    → ((c : List ℕ) → Q c → R c) → LeavesOnly old mid P → LeavesOnly mid new Q → LeavesOnly old new R
both None None None P Q R p q first second = tt
both None None (Some v) P Q R p q first second = absurd second
both None (Some u) new P Q R p q first second = absurd first
both (Some t) None new P Q R p q first second = absurd first
both (Some t) (Some u) None P Q R p q first second = absurd second
both (Some t) (Some u) (Some v) P Q R p q first second = (
  λ c im. p c (first.0 c im),
  record {
    since = second.1.since ++ first.1.since;
    grown = second.1.grown ∙ ap (λ (l : List FileState). second.1.since ++ l) first.1.grown
        ∙ sym (append_assoc second.1.since first.1.since (moments t));
    each = each_both (Leaves R) second.1.since first.1.since
        (each_weaker (Leaves Q) (Leaves R) (λ h leaves c im. q c (leaves c im)) second.1.since second.1.each)
        (each_weaker (Leaves P) (Leaves R) (λ h leaves c im. p c (leaves c im)) first.1.since first.1.each);
  },
)

pub weaker : (old new : Option History) (P R : List ℕ → Type 0) → ((c : List ℕ) → P c → R c) → LeavesOnly old new P
    → LeavesOnly old new R
weaker None None P R p first = tt
weaker None (Some u) P R p first = absurd first
weaker (Some t) None P R p first = absurd first
weaker (Some t) (Some u) P R p first = (
  λ c im. p c (first.0 c im),
  record {
    since = first.1.since;
    grown = first.1.grown;
    each = each_weaker (Leaves P) (Leaves R) (λ h leaves c im. p c (leaves c im)) first.1.since first.1.each;
  },
)
