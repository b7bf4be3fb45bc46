use Rattle.node_schedule.proofs.Follows.{finds_room, overflowed, wrote, wrote_front}
use Rattle.node_schedule.proofs.replay.write_run.Goals as goal

pub returns-in-Ok-clause-answer : goal.returns-in-Ok-clause-answer
returns-in-Ok-clause-answer g c = (
  finds_room c.args.cfg.now c.args.events.now _ c.roles_follow.ensures c.replay.ensures.overflow c.in-Ok.ensures.full,
  wrote c.args.cfg.now c.args.events.now _ _ _ c.roles_follow.ensures c.replay.ensures.transcript
      c.in-Ok.ensures.written,
)

pub returns-in-Ok-clause-front : goal.returns-in-Ok-clause-front
returns-in-Ok-clause-front g c =
    wrote_front c.args.cfg.now c.args.events.now _ _ _ c.roles_follow.ensures c.replay.ensures.transcript
    c.replay.ensures.front

pub returns-in-Err-Full-clause-answer : goal.returns-in-Err-Full-clause-answer
returns-in-Err-Full-clause-answer g c =
    overflowed c.args.cfg.now c.args.events.now _ _ _ _ _ c.roles_follow.ensures c.replay.ensures.overflow
    c.replay.ensures.full c.in-Err-Full.is c.in-Err-Full.field-0-is

pub returns-in-Err-Full-clause-front : goal.returns-in-Err-Full-clause-front
returns-in-Err-Full-clause-front g c =
    wrote_front c.args.cfg.now c.args.events.now _ _ _ c.roles_follow.ensures c.replay.ensures.transcript
    c.replay.ensures.front

pub returns-in-Err-Write-clause-front : goal.returns-in-Err-Write-clause-front
returns-in-Err-Write-clause-front g c =
    wrote_front c.args.cfg.now c.args.events.now _ _ _ c.roles_follow.ensures c.replay.ensures.transcript
    c.replay.ensures.front

pub returns-in-Err-NoMemory-clause-front : goal.returns-in-Err-NoMemory-clause-front
returns-in-Err-NoMemory-clause-front g c =
    wrote_front c.args.cfg.now c.args.events.now _ _ _ c.roles_follow.ensures c.replay.ensures.transcript
    c.replay.ensures.front
