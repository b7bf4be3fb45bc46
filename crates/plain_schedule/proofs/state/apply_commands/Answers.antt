use Rattle.std.proofs.lemmas.List.{length-map}
use Rattle.plain_schedule.proofs.TableSteps.{keeps_applied}
use Rattle.plain_schedule.proofs.state.apply_commands.Goals as goal

pub returns-clause-kept : goal.returns-clause-kept
returns-clause-kept c =
    keeps_applied c.args.table.now c.apply.new.self c.as_value.result c.apply.result
    (rw (c.as_value.ensures, c.in_ok-value.ensures, length-map) c.requires.few) c.apply.ensures.ok c.apply.ensures.err
