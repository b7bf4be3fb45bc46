use Rattle.std.proofs.Common.{◌∙◌, sym, ap}
use Rattle.std.specs.Prelude.{is_some}
use Rattle.plain_schedule.proofs.FullKept.{kept_opened}
use Rattle.plain_schedule.proofs.choice.outgoing.Goals as goal

pub returns-in_ok-found-in-None-clause-kept : goal.returns-in_ok-found-in-None-clause-kept
returns-in_ok-found-in-None-clause-kept c =
    kept_opened c.args.table.now c.args.opened.now c.open_found.new.opened c.args.key.now c.find_port.new.full
    c.in_ok-found-in-None.found c.open_found.result c.open_found.ensures.ok c.open_found.ensures.err
    c.in_ok-found-in-None.ensures.found
    (sym (ap is_some c.machine_rule.ensures) ∙ c.if-is_none.ensures)
    (sym c.with_private.ensures ∙ c.in-None.is) c.find_port.ensures.kept
