use Rattle.std.proofs.Common.{◌≡◌, ◌∙◌, ◌≤◌, sym, subst, arith, find, length, take, None, ℕ}
use Rattle.agent_spec.specs.Connections.{is_idle}
use Rattle.agent_flows.specs.Slots.{listed}
use Rattle.agent_flows.proofs.Looks.{first_found, none_found, none_more}
use Rattle.agent_flows.proofs.slots.look_on.Goals as goal

pub returns-then-is_idle-clause-first : goal.returns-then-is_idle-clause-first
returns-then-is_idle-clause-first c =
    first_found (is_idle c.args.now c.args.idle) c.args.slots.now c.loop-looked.looked.at
    (sym c.is_idle.ensures ∙ c.if-is_idle.true)
    c.loop-looked.invariant.before

pub loop-looked-preserved : goal.loop-looked-preserved
loop-looked-preserved c = record {
  looked = c.past-looked.ensures.looked;
  before =
      subst
      (λ (n : ℕ). find (is_idle c.args.now c.args.idle) (listed (take n c.args.slots.now)) ≡ None)
      (sym c.past-looked.ensures.at)
      (none_more (is_idle c.args.now c.args.idle) c.args.slots.now c.loop-looked.looked.at
      (sym c.is_idle.ensures ∙ c.if-is_idle.false)
      c.loop-looked.invariant.before);
}

pub returns-clause-first : goal.returns-clause-first
returns-clause-first c =
    none_found (is_idle c.args.now c.args.idle) c.args.slots.now c.loop-looked.looked.at
    (omega (arith, c.loop-looked-test.false))
    c.loop-looked.invariant.before
