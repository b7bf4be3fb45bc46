use Rattle.std.proofs.Common.{rules, ◌≡◌, ◌-◌, arith, get_or, None}
use Rattle.agent_flows.proofs.Looks.{nth_here, nth_later, nth_nowhere, nth_past}
use Rattle.agent_flows.proofs.slots.nth.Goals.{in-Some+else-left-eq0, in_default}
use Rattle.agent_flows.proofs.slots.nth.Goals as goal

pub returns-then-left-eq0 : goal.returns-then-left-eq0
returns-then-left-eq0 c =
    nth_here c.args.slots.now c.args.i c.loop-slot.left c.loop-slot.slot-index c.in-Some.c c.in-Some.is
    c.if-left-eq0.true
    c.loop-slot.invariant

pub loop-slot-preserved : goal.loop-slot-preserved
loop-slot-preserved c = elim c.match-slot.branch [
  | in-Some+else-left-eq0 w ↦
      nth_later c.args.slots.now c.args.i c.loop-slot.left c.match-slot.left c.loop-slot.slot-index w.in-Some.c w.in-Some.is
      w.if-left-eq0.false
      w.left-is
      c.loop-slot.invariant
  | in_default w ↦
      rw w.left-is
      (nth_past c.args.slots.now c.args.i c.loop-slot.left c.loop-slot.slot-index w.in_default.is c.loop-slot.invariant)
]

pub returns : goal.returns
returns c =
    nth_nowhere c.args.slots.now c.args.i c.loop-slot.left c.loop-slot.slot-index
    (omega (arith, c.loop-slot-test.false))
    c.loop-slot.invariant
