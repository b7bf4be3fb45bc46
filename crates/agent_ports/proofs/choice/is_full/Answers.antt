use Rattle.std.proofs.Common.{◌≡◌, ◌∙◌, ◌-◌, sym, subst, arith, ℕ, true, ⊎_elim}
use Rattle.std.proofs.lemmas.Bool.{cases_lt}
use Rattle.agent_ports.specs.Full.{carries}
use Rattle.agent_ports.proofs.choice.is_full.Goals as goal

pub loop-i-init : goal.loop-i-init
loop-i-init c = λ j from to. absurd (omega arith)

pub loop-i-preserved : goal.loop-i-preserved
loop-i-preserved c = λ j from to.
    ⊎_elim
    (λ here.
    let same : j ≡ 7 - c.loop-i.i = omega arith in
    let own : carries c.args.flows.now c.args.end.now c.args.lease.now (7 - c.loop-i.i) ≡ true =
    sym c.carries.ensures ∙ c.if-not-carries.false in
    subst (λ (k : ℕ). carries c.args.flows.now c.args.end.now c.args.lease.now k ≡ true) (sym same) own)
    (λ later. c.loop-i.invariant j (omega arith) to)
    (cases_lt j (8 - c.loop-i.i))

pub returns : goal.returns
returns c = λ full i within. c.loop-i.invariant i (omega (arith, c.loop-i-test.false)) within
