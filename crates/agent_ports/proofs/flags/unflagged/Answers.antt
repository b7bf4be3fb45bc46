use Rattle.std.proofs.Common.{rules, ◌≡◌, ◌∙◌, ◌++◌, ◌+◌, sym, ap, get_or, true, false, List, Vec, Global}
use Rattle.agent_spec.specs.declared.held.Held.{Held}
use Rattle.agent_ports.proofs.Giving.{drop_unflagged, stay_more, unflagged_skip}
use Rattle.agent_ports.proofs.flags.unflagged.Goals.{then-not-flags-i+in_ok-push, else-not-flags-i}
use Rattle.agent_ports.proofs.flags.unflagged.Goals as goal

pub loop-i-preserved : goal.loop-i-preserved
loop-i-preserved c = elim c.if-not-flags-i.branch [
  | then-not-flags-i+in_ok-push w ↦
      let off : get_or c.args.flags.now c.loop-i.i false ≡ false = search rules in
      stay_more c.args.flags.now c.args.held.now c.loop-i.i false _ c.loop-i.stay.items c.if-not-flags-i.stay.items _ c.requires
      c.loop-i-test.true
      off
      (ap (λ (v : Vec Held Global). v.items) w.stay-is ∙ w.in_ok-push.ensures.items)
      c.loop-i.invariant
  | else-not-flags-i w ↦
      let on : get_or c.args.flags.now c.loop-i.i false ≡ true = search rules in
      ap
      (λ (v : Vec Held Global). v.items ++ drop_unflagged c.args.flags.now c.args.held.now (c.loop-i.i + 1))
      w.stay-is
      ∙ ap
      (λ (l : List Held). c.loop-i.stay.items ++ l)
      (sym (unflagged_skip c.args.flags.now c.args.held.now c.loop-i.i false c.requires c.loop-i-test.true on))
      ∙ c.loop-i.invariant
]
