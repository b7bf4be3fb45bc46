-- What is told since.
use Rattle.std.proofs.Common.{List, [], ◌∷◌, ◌++◌, Option, Some, None, ℕ, ◌+◌, length, length-append, refl, sym, ap, ◌∙◌, append_assoc, append-nil, arith}
use Rattle.std.proofs.lemmas.Option.{none-some}
use Rattle.outside_io.specs.Telling.{Tells}
use Rattle.node_run.specs.Serving.{Since, Taken}

-- nothing is told yet
pub since_none : {A : Type 0} (old : Option (List A)) (P : List A → Type 0) → P [] → Since old old P
since_none None P p = refl
since_none (Some xs) P p = ([], (sym (append-nil xs), p))

-- nothing more is told
pub since_same : {A : Type 0} (old new : Option (List A)) (P Q : List A → Type 0) → ((xs : List A) → P xs → Q xs)
    → Since old new P → Since old new Q
since_same None new P Q f told = told
since_same (Some xs) None P Q f told = tt
since_same (Some xs) (Some ys) P Q f told = (told.0, (told.1.0, f told.0 told.1.1))

-- one more is told
pub since_next : {A : Type 0} (old mid new : Option (List A)) (x : A) (P Q : List A → Type 0)
    → ((xs : List A) → P xs → Q (xs ++ x ∷ [])) → Since old mid P → Tells mid new x → Since old new Q
since_next None None new x P Q f told tells = tells
since_next None (Some ys) new x P Q f told tells = absurd (none-some ys (sym told))
since_next (Some xs) mid None x P Q f told tells = tt
since_next (Some xs) None (Some zs) x P Q f told tells = absurd (none-some zs (sym tells))
since_next (Some xs) (Some ys) (Some zs) x P Q f told tells = (
  told.0 ++ x ∷ [],
  (tells ∙ ap (λ l. l ++ x ∷ []) told.1.0 ∙ append_assoc xs told.0 (x ∷ []), f told.0 told.1.1),
)

-- one is told, and no more
pub since_one : {A : Type 0} (old new : Option (List A)) (x : A) (P : List A → Type 0) → P (x ∷ []) → Tells old new x
    → Since old new P
since_one None new x P p tells = tells
since_one (Some xs) None x P p tells = tt
since_one (Some xs) (Some ys) x P p tells = (x ∷ [], (tells, p))

-- one is told first
pub since_first : {A : Type 0} (old mid new : Option (List A)) (x : A) (P Q : List A → Type 0)
    → ((xs : List A) → P xs → Q (x ∷ xs)) → Tells old mid x → Since mid new P → Since old new Q
since_first None None new x P Q f tells told = told
since_first None (Some ys) new x P Q f tells told = absurd (none-some ys (sym tells))
since_first (Some xs) None None x P Q f tells told = tt
since_first (Some xs) None (Some zs) x P Q f tells told = absurd (none-some zs (sym told))
since_first (Some xs) (Some ys) None x P Q f tells told = tt
since_first (Some xs) (Some ys) (Some zs) x P Q f tells told = (
  x ∷ told.0,
  (told.1.0 ∙ ap (λ l. l ++ told.0) tells ∙ append_assoc xs (x ∷ []) told.0, f told.0 told.1.1),
)

-- ---- how many are told

pub taken_none : {A : Type 0} (old : Option (List A)) → Taken 0 old old
taken_none None = refl
taken_none (Some xs) = omega arith

pub taken_one : {A : Type 0} (old new : Option (List A)) (x : A) → Tells old new x → Taken 1 old new
taken_one None new x tells = tells
taken_one (Some xs) None x tells = tt
taken_one (Some xs) (Some ys) x tells = ap length tells ∙ length-append xs (x ∷ [])

pub taken_more : {A : Type 0} (old mid new : Option (List A)) (n : ℕ) → Taken n old mid → Taken 1 mid new
    → Taken (n + 1) old new
taken_more None None new n first one = one
taken_more None (Some ys) new n first one = absurd (none-some ys (sym first))
taken_more (Some xs) mid None n first one = tt
taken_more (Some xs) None (Some zs) n first one = absurd (none-some zs (sym one))
taken_more (Some xs) (Some ys) (Some zs) n first one = omega (arith, first, one)
