use Rattle.std.proofs.Common.{◌∙◌, sym, subst}
use Rattle.wire_core.specs.declared.rules.MachineRule.{MachineRule}
use Rattle.plain_schedule.specs.Kept.{Keeps}
use Rattle.plain_schedule.proofs.TableSteps.{keeps_machine, keeps_same, keeps_then}
use Rattle.plain_schedule.proofs.state.ask.Goals.{in-None+in_ok-add_machine-in-None, in-Some+else-ne}
use Rattle.plain_schedule.proofs.state.ask.Goals as goal

pub returns-in_err-ask_slot-clause-kept : goal.returns-in_err-ask_slot-clause-kept
returns-in_err-ask_slot-clause-kept c =
    let rule : MachineRule = record { machine = c.args.machine; agent = 0; vip = c.args.vip } in
    keeps_then c.args.table.now c.match-machine_rule.table c.ask_slot.new.table
    (elim c.match-machine_rule.branch [
      | in-None+in_ok-add_machine-in-None w ↦
          subst (Keeps c.args.table.now) (sym (w.table-is ∙ w.in_ok-add_machine-in-None.ensures.ok))
          (keeps_machine c.args.table.now rule)
      | in-Some+else-ne w ↦ keeps_same c.args.table.now c.match-machine_rule.table w.table-is
    ])
    c.ask_slot.ensures.kept

pub returns-clause-kept : goal.returns-clause-kept
returns-clause-kept c =
    let rule : MachineRule = record { machine = c.args.machine; agent = 0; vip = c.args.vip } in
    keeps_then c.args.table.now c.match-machine_rule.table c.ask_slot.new.table
    (elim c.match-machine_rule.branch [
      | in-None+in_ok-add_machine-in-None w ↦
          subst (Keeps c.args.table.now) (sym (w.table-is ∙ w.in_ok-add_machine-in-None.ensures.ok))
          (keeps_machine c.args.table.now rule)
      | in-Some+else-ne w ↦ keeps_same c.args.table.now c.match-machine_rule.table w.table-is
    ])
    c.ask_slot.ensures.kept
