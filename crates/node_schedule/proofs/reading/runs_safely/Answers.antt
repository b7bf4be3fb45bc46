use Rattle.node_schedule.proofs.Safe.{safe_lines}
use Rattle.node_schedule.proofs.reading.runs_safely.Goals as goal

pub returns : goal.returns
returns c =
    safe_lines
    (λ cfg sound text events read.
    (c.always_safe.ensures.read cfg sound text events read, c.always_safe.ensures.shows cfg sound text events read))
    c.args.cfg.now
    (record {
      rules = c.keeps_rules.ensures.rules;
      lengths = c.keeps_rules.ensures.lengths;
      owners = c.keeps_rules.ensures.owners;
    }) c.args.lines.now
