use Rattle.std.proofs.Common.{◌≡◌, ◌+◌, length, refl, ap, arith, ◌∙◌}
use Rattle.std.proofs.lemmas.List.{drop_all}
use Rattle.wire_core.specs.Views.{command_of}
use Rattle.port_leases.proofs.Folds.{drop_first, going_end, going_fits, going_more, going_start}
use Rattle.port_leases.proofs.commands.apply_value.Goals as goal

pub loop-i-init : goal.loop-i-init
loop-i-init c = record {
  rules = refl;
  going = going_start _ c.args.store.now.rules c.args.place (c.args.place + 0) c.args.value.now c.args.store.now.leases c.args.effects.now.effects c.args.effects.now.room (omega arith) refl refl
      c.requires.effects;
  next = omega (arith, c.requires.next);
  room = c.requires.room;
}

pub apply_command-requires-clause-effects : goal.apply_command-requires-clause-effects
apply_command-requires-clause-effects c =
    let first = drop_first c.args.value.now c.loop-i.i (command_of c.command.result) c.command.ensures in
    going_fits _ _ _ _ _ _ _ _ _ _ c.loop-i.invariant.going first c.loop-i.invariant.rules

pub loop-i-preserved : goal.loop-i-preserved
loop-i-preserved c =
    let first = drop_first c.args.value.now c.loop-i.i (command_of c.command.result) c.command.ensures in
    let place : c.args.place + (c.loop-i.i + 1) ≡ (c.args.place + c.loop-i.i) + 1 = omega arith in
    let left = ap length first in
    let does = c.apply_command.ensures.does in
    record {
      rules = does.rules ∙ c.loop-i.invariant.rules;
      going = going_more _ _ _ _ _ _ _ _ _ _ c.loop-i.effects c.apply_command.new.effects c.loop-i.invariant.going first c.loop-i.invariant.rules place does.leases c.apply_command.ensures.effects;
      next = omega (arith, c.apply_command.ensures.next);
      room = omega (arith, left, does.room, c.loop-i.invariant.room);
    }

pub returns-clause-leases : goal.returns-clause-leases
returns-clause-leases c =
    let none = drop_all c.loop-i.i c.args.value.now (omega (arith, c.len-i-end.ensures.len)) in
    (going_end _ _ _ _ _ _ _ c.loop-i.invariant.going none).0

pub returns-clause-effects : goal.returns-clause-effects
returns-clause-effects c =
    let none = drop_all c.loop-i.i c.args.value.now (omega (arith, c.len-i-end.ensures.len)) in
    (going_end _ _ _ _ _ _ _ c.loop-i.invariant.going none).1
