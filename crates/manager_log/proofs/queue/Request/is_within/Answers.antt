use Rattle.std.proofs.Common.{◌≡◌, true, false, sym, ap, arith, ◌∙◌}
use Rattle.manager_spec.specs.Agents.{same_request}
use Rattle.manager_log.specs.Parts.{command_of}
use Rattle.port_leases.proofs.Folds.{any_here, any_more}
use Rattle.manager_log.proofs.queue.Request.is_within.Goals as goal

pub returns-then-is_same : goal.returns-then-is_same
returns-then-is_same c =
    sym (any_here (same_request (command_of c.args.self.now)) c.args.value.now c.loop-i.i _ c.command.ensures (sym c.is_same.ensures ∙ c.if-is_same.true))

pub loop-i-preserved : goal.loop-i-preserved
loop-i-preserved c =
    any_more (same_request (command_of c.args.self.now)) c.args.value.now c.loop-i.i _ c.command.ensures c.loop-i.invariant (sym c.is_same.ensures ∙ c.if-is_same.false)
