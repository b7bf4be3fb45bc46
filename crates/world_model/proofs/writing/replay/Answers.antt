use Rattle.std.proofs.Common.{rules, ◌≡◌, ℕ, List, Option, ap, subst, ◌∙◌}
use Rattle.std.specs.Prelude.{OnOk, IfOk}
use Rattle.std.specs.Io.KnownBytes.{Appends}
use Rattle.transcript_summary.specs.Summary.{counts_of}
use Rattle.transcript_summary.specs.declared.kinds.Counts.{Counts}
use Rattle.world_nodes.specs.Overflows.{FullsBy, Overflow}
use Rattle.world_nodes.specs.Sites.{deciding}
use Rattle.world_model.specs.Firsts.{first_world}
use Rattle.world_model.specs.Overflows.{run_overflow}
use Rattle.world_model.specs.Runs.{Front, ReplayFulls, overflow_left, run_text, text_left, text_of}
use Rattle.world_model.specs.Sound.{world_of}
use Rattle.world_model.specs.World.{WorldState, lines_from}
use Rattle.world_model.proofs.Advances.{room_at_first, text_at_first}
use Rattle.world_model.proofs.writing.replay.Goals as goal

pub returns-clause-written : goal.returns-clause-written
returns-clause-written g c =
    let first : world_of c.in_ok-world.world ≡ first_world g.C.Core.opened c.args.cfg.now = search rules in
    let all : text_left (deciding g.C.Core.step g.C.Core.written) g.C.Core.opened c.args.cfg.now (world_of c.in_ok-world.world) 0 c.args.events.now
    ≡ run_text (deciding g.C.Core.step g.C.Core.written) g.C.Core.opened c.args.cfg.now c.args.events.now =
    text_at_first (deciding g.C.Core.step g.C.Core.written) g.C.Core.opened c.args.cfg.now (world_of c.in_ok-world.world) c.args.events.now
    ∙ ap (λ w. text_of c.args.cfg.now (lines_from (deciding g.C.Core.step g.C.Core.written) g.C.Core.opened w c.args.events.now)) first in
    subst (λ (t : List ℕ). OnOk c.write_run.result (Appends (g.K.Sink.written c.args.out.now) (g.K.Sink.written c.write_run.new.out) t)) all c.write_run.ensures.written

pub returns-clause-front : goal.returns-clause-front
returns-clause-front g c =
    let first : world_of c.in_ok-world.world ≡ first_world g.C.Core.opened c.args.cfg.now = search rules in
    let all : text_left (deciding g.C.Core.step g.C.Core.written) g.C.Core.opened c.args.cfg.now (world_of c.in_ok-world.world) 0 c.args.events.now
    ≡ run_text (deciding g.C.Core.step g.C.Core.written) g.C.Core.opened c.args.cfg.now c.args.events.now =
    text_at_first (deciding g.C.Core.step g.C.Core.written) g.C.Core.opened c.args.cfg.now (world_of c.in_ok-world.world) c.args.events.now
    ∙ ap (λ w. text_of c.args.cfg.now (lines_from (deciding g.C.Core.step g.C.Core.written) g.C.Core.opened w c.args.events.now)) first in
    subst (λ (t : List ℕ). Front (g.K.Sink.written c.args.out.now) (g.K.Sink.written c.write_run.new.out) t) all c.write_run.ensures.front

pub returns-clause-full : goal.returns-clause-full
returns-clause-full g c =
    let first : world_of c.in_ok-world.world ≡ first_world g.C.Core.opened c.args.cfg.now = search rules in
    let all : overflow_left (deciding g.C.Core.step g.C.Core.written) g.C.Core.opened (world_of c.in_ok-world.world) 0 c.args.events.now
    ≡ run_overflow (deciding g.C.Core.step g.C.Core.written) g.C.Core.opened (first_world g.C.Core.opened c.args.cfg.now) c.args.events.now =
    room_at_first (deciding g.C.Core.step g.C.Core.written) g.C.Core.opened c.args.cfg.now (world_of c.in_ok-world.world) c.args.events.now
    ∙ ap (λ w. run_overflow (deciding g.C.Core.step g.C.Core.written) g.C.Core.opened w c.args.events.now) first in
    subst (λ (o : Option Overflow). ReplayFulls o c.write_run.result) all c.write_run.ensures.full
