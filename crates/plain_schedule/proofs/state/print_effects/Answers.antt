use Rattle.std.proofs.Common.{◌≡◌, ◌∙◌, ◌++◌, List, ℕ, take, ap, sym, append_assoc, string_bytes}
use Rattle.std.specs.List.{flat_map}
use Rattle.plain_schedule.specs.Schedule.{effect_text}
use Rattle.plain_schedule.proofs.LinesAndEffects.{texts_more}
use Rattle.plain_schedule.proofs.state.print_effects.Goals as goal

joined : (a b c d e f : List ℕ) → d ≡ c ++ b → c ≡ a ++ e → f ≡ e ++ b → d ≡ a ++ f
joined a b c d e f p q r = p ∙ ap (λ (l : List ℕ). l ++ b) q ∙ append_assoc a e b ∙ ap (λ (l : List ℕ). a ++ l) (sym r)

pub loop-effect-preserved : goal.loop-effect-preserved
loop-effect-preserved c =
    joined (string_bytes c.args.out.now) _ _ _
    (flat_map effect_text (take c.loop-effect.effect-index c.args.effects.now)) _
    c.in_ok-print_effect.ensures c.loop-effect.invariant
    (texts_more effect_text c.args.effects.now c.loop-effect.effect-index _ c.loop-effect-test.true)
