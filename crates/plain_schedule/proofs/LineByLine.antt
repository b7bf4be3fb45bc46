-- One line after the other.
use Rattle.std.proofs.Common.{◌≡◌, ℕ, ◌+◌, List, [], ◌∷◌, ◌++◌, Option, None, Some, Result, Ok, Err, refl, sym, ap, subst, ◌∙◌, append_assoc, append-nil}
use Rattle.plain_schedule.specs.Schedule.{Plain, line_step, onto, printed, and_then, lines_from}

abbrev pub ok : List ℕ → Result (List ℕ) ℕ
ok text = Ok text

printed-printed : (a b : List ℕ) (r : Result (List ℕ) ℕ) → printed a (printed b r) ≡ printed (a ++ b) r
printed-printed a b (Ok text) = ap (λ (t : List ℕ). ok t) (sym (append_assoc a b text))
printed-printed a b (Err n) = refl

pub printed_none : (r : Result (List ℕ) ℕ) → printed [] r ≡ r
printed_none (Ok text) = refl
printed_none (Err n) = refl

abbrev some : Plain × List ℕ → Option (Plain × List ℕ)
some x = Some x

some_is : (x y : Plain × List ℕ) → some x ≡ some y → x ≡ y
some_is x y e = cc

goes : (r : Option (Plain × List ℕ)) (n : ℕ) (front text : List ℕ) (after : Plain) (more : Plain → Result (List ℕ) ℕ)
    → onto front r ≡ Some (after, text)
    → printed front (and_then n r more) ≡ printed text (more after)
goes None n front text after more e = absurd cc
goes (Some a) n front text after more e =
    printed-printed front a.1 (more a.0)
    ∙ subst (λ (p : Plain × List ℕ). printed (front ++ a.1) (more a.0) ≡ printed p.1 (more p.0))
    (some_is (a.0, front ++ a.1) (after, text) e) refl

stops : (r : Option (Plain × List ℕ)) (n : ℕ) (front : List ℕ) (more : Plain → Result (List ℕ) ℕ) → onto front r ≡ None
    → printed front (and_then n r more) ≡ Err n
stops None n front more e = refl
stops (Some a) n front more e = absurd cc

pub line_goes : (t after : Plain) (n : ℕ) (front text line : List ℕ) (lines : List (List ℕ)) (total : Result (List ℕ) ℕ)
    → onto front (line_step n t line) ≡ Some (after, text)
    → printed front (lines_from t n (line ∷ lines)) ≡ total → printed text (lines_from after (n + 1) lines) ≡ total
unfolding lines_from
line_goes t after n front text line lines total e so_far =
    sym (goes (line_step n t line) n front text after (λ b. lines_from b (n + 1) lines) e) ∙ so_far

pub line_stops : (t : Plain) (n : ℕ) (front line : List ℕ) (lines : List (List ℕ)) (total : Result (List ℕ) ℕ)
    → onto front (line_step n t line) ≡ None
    → printed front (lines_from t n (line ∷ lines)) ≡ total → total ≡ Err n
unfolding lines_from
line_stops t n front line lines total e so_far =
    sym so_far ∙ stops (line_step n t line) n front (λ b. lines_from b (n + 1) lines) e

pub lines_end : (t : Plain) (n : ℕ) (front : List ℕ) (total : Result (List ℕ) ℕ)
    → printed front (lines_from t n []) ≡ total → total ≡ Ok front
unfolding lines_from
lines_end t n front total so_far = sym so_far ∙ ap (λ (t : List ℕ). ok t) (append-nil front)
