-- One turn more is one step more of the fold, whatever answers come later.
use Rattle.std.proofs.Common.{◌≡◌, ℕ, Bool, true, false, List, [], ◌∷◌, ◌++◌, refl, ap, ◌∙◌, append_assoc}
use Rattle.outside_io.specs.Link.{Answer}
use Rattle.node_spec.specs.Turns.{Ticked}
use Rattle.node_run.specs.Timing.{Timing, timed}
use Rattle.node_run.specs.Turns.{Course, Reaches, Steps, at, begun, handled, took, turn, turn_by, turns}

module _ {C : Type 0} (step : Steps C) where
  turns_last : (r : Course C × List Answer) (times : List ℕ) (time : ℕ)
      → turns step r (times ++ time ∷ []) ≡ turn step (turns step r times) time
  turns_last r [] time = refl
  turns_last r (t ∷ times) time = turns_last (turn step r t) times time

  module _ (start : C) (times : List ℕ) (answers : List Answer) (c : Course C) (time : ℕ) (t : Timing)
      (reached : Reaches step start times answers c) where
    pub ticks_on : timed c.timing time ≡ (t, true)
        → Reaches step start (times ++ time ∷ []) answers (handled step (Ticked t.time) (at t c))
    ticks_on due = record {
      each = λ more.
          turns_last (begun start, answers ++ more) times time
          ∙ ap (λ (r : Course C × List Answer). turn step r time) (reached.each more)
          ∙ ap (λ (p : Timing × Bool). turn_by step c more p.0 p.1) due;
    }

    pub takes_on : (a : Answer) → timed c.timing time ≡ (t, false)
        → Reaches step start (times ++ time ∷ []) (answers ++ a ∷ []) (took step a (at t c))
    takes_on a due = record {
      each = λ more.
          ap (λ (l : List Answer). turns step (begun start, l) (times ++ time ∷ [])) (append_assoc answers (a ∷ []) more)
          ∙ turns_last (begun start, answers ++ a ∷ more) times time
          ∙ ap (λ (r : Course C × List Answer). turn step r time) (reached.each (a ∷ more))
          ∙ ap (λ (p : Timing × Bool). turn_by step c (a ∷ more) p.0 p.1) due;
    }
