use Rattle.std.proofs.Common.{refl}
use Rattle.world_nodes.specs.Sites.{deciding}
use Rattle.world_model.specs.Runs.{run_text}
use Rattle.world_model.proofs.ShownOverflows.{is_run_overflow}
use Rattle.world_model.proofs.Standing.{is_transcript}
use Rattle.world_model.proofs.writing.follows_tables.Goals as goal

pub returns-clause-transcript : goal.returns-clause-transcript
returns-clause-transcript g c =
    is_transcript (deciding g.C.Core.step g.C.Core.written) g.C.Core.opened c.args.cfg.now c.args.events.now
    (run_text (deciding g.C.Core.step g.C.Core.written) g.C.Core.opened c.args.cfg.now c.args.events.now)
    c.keeps_rules.ensures.lengths c.keeps_rules.ensures.owners refl

pub returns-clause-overflow : goal.returns-clause-overflow
returns-clause-overflow g c =
    is_run_overflow (deciding g.C.Core.step g.C.Core.written) g.C.Core.opened c.args.cfg.now c.args.events.now
    c.keeps_rules.ensures.lengths c.keeps_rules.ensures.owners
