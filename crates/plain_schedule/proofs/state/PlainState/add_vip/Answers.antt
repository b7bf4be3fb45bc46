use Rattle.std.proofs.Common.{◌∙◌, length, sym, ap, subst, arith}
use Rattle.wire_core.specs.declared.rules.VipRule.{VipRule}
use Rattle.port_leases.specs.TableState.{TableState}
use Rattle.plain_schedule.specs.Kept.{Keeps}
use Rattle.plain_schedule.proofs.TableSteps.{keeps_vip, kept_by, one_more_vip}
use Rattle.plain_schedule.proofs.state.PlainState.add_vip.Goals as goal

pub invariant_of-self-2 : goal.invariant_of-self-2
invariant_of-self-2 c =
    let rule : VipRule = record { vip = c.args.vip; low = c.args.low; high = c.args.high; taken = c.new.result } in (
      one_more_vip c.self.inside.table.rules.vips rule c.self.inside.vips c.self.invariant.0
          ∙ sym (ap (λ (t : TableState). length t.rules.vips) c.in_ok-add_vip.ensures.ok),
      kept_by c.self.inside.table c.add_vip.new.self c.self.inside.opened c.self.inside.full
          (subst (Keeps c.self.inside.table) (sym c.in_ok-add_vip.ensures.ok)
          (keeps_vip c.self.inside.table rule (omega arith))) c.self.invariant.1,
    )
