use Rattle.node_schedule.proofs.Follows.{counts, finds_room, miscounted}
use Rattle.node_schedule.proofs.replay.count_run.Goals as goal

pub returns-in-Ok : goal.returns-in-Ok
returns-in-Ok c = (
  finds_room c.args.cfg.now c.args.events.now _ c.roles_follow.ensures c.count_lines.ensures.overflow
      c.in-Ok.ensures.full,
  counts c.args.cfg.now c.args.events.now _ _ c.roles_follow.ensures c.count_lines.ensures.transcript
      c.in-Ok.ensures.counts,
)

pub returns-in-Err-Full : goal.returns-in-Err-Full
returns-in-Err-Full c =
    miscounted c.args.cfg.now c.args.events.now _ _ _ _ _ c.roles_follow.ensures c.count_lines.ensures.overflow
    c.count_lines.ensures.full c.in-Err-Full.is c.in-Err-Full.field-0-is
