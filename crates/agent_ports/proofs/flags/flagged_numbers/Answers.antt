use Rattle.std.proofs.Common.{◌≡◌, ◌∙◌, ◌++◌, ◌+◌, sym, ap, ℕ, List, Vec, Global}
use Rattle.agent_spec.specs.declared.held.Held.{Held}
use Rattle.agent_ports.specs.Ports.{numbers}
use Rattle.agent_ports.proofs.Giving.{drop_flagged, flagged_skip, given_more}
use Rattle.agent_ports.proofs.flags.flagged_numbers.Goals.{then-flags-i+in_ok-push, else-flags-i}
use Rattle.agent_ports.proofs.flags.flagged_numbers.Goals as goal

pub loop-i-preserved : goal.loop-i-preserved
loop-i-preserved c = elim c.if-flags-i.branch [
  | then-flags-i+in_ok-push w ↦
      given_more c.args.flags.now c.args.held.now c.loop-i.i _ _ c.loop-i.given.items c.if-flags-i.given.items _ c.requires
      c.loop-i-test.true
      w.if-flags-i.true
      (ap (λ (v : Vec ℕ Global). v.items) w.given-is ∙ w.in_ok-push.ensures.items)
      c.loop-i.invariant
  | else-flags-i w ↦
      ap
      (λ (v : Vec ℕ Global). v.items ++ numbers (drop_flagged c.args.flags.now c.args.held.now (c.loop-i.i + 1)))
      w.given-is
      ∙ ap
      (λ (l : List Held). c.loop-i.given.items ++ numbers l)
      (sym (flagged_skip c.args.flags.now c.args.held.now c.loop-i.i _ c.requires c.loop-i-test.true w.if-flags-i.false))
      ∙ c.loop-i.invariant
]
