use Rattle.std.proofs.Common.{rules, ◌≡◌, ◌<◌, ◌≤◌, ◌+◌, ◌-◌, ◌++◌, ◌∷◌, [], ℕ, List, Some, None, false, length, drop, refl, sym, ap, subst, ◌∙◌, arith}
use Rattle.std.specs.Prelude.{is_some, string_bytes}
use Rattle.std.proofs.lemmas.Result.{err_from_is_err_and}
use Rattle.schedule_text.specs.Transcript.{printed_line}
use Rattle.schedule_text.specs.declared.line.Line.TheVariants as line
use Rattle.world_mail.specs.Mails.{least_waiting}
use Rattle.world_nodes.specs.Overflows.{IsFaultOf}
use Rattle.world_nodes.specs.Sites.{deciding}
use Rattle.world_model.specs.Overflows.{event_overflow, settle_overflow}
use Rattle.world_model.specs.Runs.{deliveries, text_of}
use Rattle.world_model.specs.Sound.{world_of}
use Rattle.world_model.specs.World.{Outcome, WorldState, applied, onto, settle}
use Rattle.world_model.proofs.Advances.{text_behind, whole_more, world_behind}
use Rattle.world_model.proofs.Settles.{full_first, room_done, room_quiet, room_rest, settle_quiet, settle_rest}
use Rattle.world_model.proofs.advancing.deliver_next.Goals as goal

pub returns-clause-text : goal.returns-clause-text
returns-clause-text g c =
    let is : (world_of c.settle_one.new.self, c.settle_one.new.lines.items)
    ≡ onto [] (settle (deciding g.C.Core.step g.C.Core.written) 1 (world_of c.args.world.now)) = search rules in
    let adds : string_bytes c.write_lines.new.out
    ≡ string_bytes c.args.text.now ++ text_of c.args.cfg.now c.settle_one.new.lines.items = search rules in
    text_behind c.args.cfg.now (settle (deciding g.C.Core.step g.C.Core.written) c.args.left (world_of c.args.world.now))
    (settle (deciding g.C.Core.step g.C.Core.written) (c.args.left - 1) (world_of c.settle_one.new.self)) c.settle_one.new.lines.items (string_bytes c.args.text.now)
    (string_bytes c.write_lines.new.out)
    (settle_rest (deciding g.C.Core.step g.C.Core.written) (world_of c.args.world.now) (world_of c.settle_one.new.self)
    c.settle_one.new.lines.items c.args.left c.requires.some is) adds

pub returns-clause-world : goal.returns-clause-world
returns-clause-world g c =
    let is : (world_of c.settle_one.new.self, c.settle_one.new.lines.items)
    ≡ onto [] (settle (deciding g.C.Core.step g.C.Core.written) 1 (world_of c.args.world.now)) = search rules in
    world_behind (settle (deciding g.C.Core.step g.C.Core.written) c.args.left (world_of c.args.world.now))
    (settle (deciding g.C.Core.step g.C.Core.written) (c.args.left - 1) (world_of c.settle_one.new.self)) c.settle_one.new.lines.items
    (settle_rest (deciding g.C.Core.step g.C.Core.written) (world_of c.args.world.now) (world_of c.settle_one.new.self)
    c.settle_one.new.lines.items c.args.left c.requires.some is)

pub returns-clause-whole : goal.returns-clause-whole
returns-clause-whole g c =
    let adds : string_bytes c.write_lines.new.out
    ≡ string_bytes c.args.text.now ++ text_of c.args.cfg.now c.settle_one.new.lines.items = search rules in
    λ whole. whole_more c.args.cfg.now c.settle_one.new.lines.items (string_bytes c.args.text.now) (string_bytes c.write_lines.new.out) adds whole

pub returns-clause-room : goal.returns-clause-room
returns-clause-room g c =
    let is : (world_of c.settle_one.new.self, c.settle_one.new.lines.items)
    ≡ onto [] (settle (deciding g.C.Core.step g.C.Core.written) 1 (world_of c.args.world.now)) = search rules in
    let room : settle_overflow (deciding g.C.Core.step g.C.Core.written) 1 (world_of c.args.world.now) ≡ None = search rules in
    room_rest (deciding g.C.Core.step g.C.Core.written) (world_of c.args.world.now) (world_of c.settle_one.new.self) c.args.left c.requires.some
    (ap (λ r. r.0) is) room

pub returns-then-not-more-clause-text : goal.returns-then-not-more-clause-text
returns-then-not-more-clause-text g c =
    let is : (world_of c.settle_one.new.self, c.settle_one.new.lines.items)
    ≡ onto [] (settle (deciding g.C.Core.step g.C.Core.written) 1 (world_of c.args.world.now)) = search rules in
    let adds : string_bytes c.write_lines.new.out
    ≡ string_bytes c.args.text.now ++ text_of c.args.cfg.now c.settle_one.new.lines.items = search rules in
    let quiet : false ≡ is_some (least_waiting (world_of c.args.world.now).mail) = search rules in
    text_behind c.args.cfg.now (settle (deciding g.C.Core.step g.C.Core.written) c.args.left (world_of c.args.world.now))
    (settle (deciding g.C.Core.step g.C.Core.written) 0 (world_of c.settle_one.new.self)) c.settle_one.new.lines.items (string_bytes c.args.text.now)
    (string_bytes c.write_lines.new.out)
    (settle_quiet (deciding g.C.Core.step g.C.Core.written) (world_of c.args.world.now) (world_of c.settle_one.new.self)
    c.settle_one.new.lines.items c.args.left quiet is) adds

pub returns-then-not-more-clause-world : goal.returns-then-not-more-clause-world
returns-then-not-more-clause-world g c =
    let is : (world_of c.settle_one.new.self, c.settle_one.new.lines.items)
    ≡ onto [] (settle (deciding g.C.Core.step g.C.Core.written) 1 (world_of c.args.world.now)) = search rules in
    let quiet : false ≡ is_some (least_waiting (world_of c.args.world.now).mail) = search rules in
    world_behind (settle (deciding g.C.Core.step g.C.Core.written) c.args.left (world_of c.args.world.now))
    (settle (deciding g.C.Core.step g.C.Core.written) 0 (world_of c.settle_one.new.self)) c.settle_one.new.lines.items
    (settle_quiet (deciding g.C.Core.step g.C.Core.written) (world_of c.args.world.now) (world_of c.settle_one.new.self)
    c.settle_one.new.lines.items c.args.left quiet is)

pub returns-then-not-more-clause-whole : goal.returns-then-not-more-clause-whole
returns-then-not-more-clause-whole g c =
    let adds : string_bytes c.write_lines.new.out
    ≡ string_bytes c.args.text.now ++ text_of c.args.cfg.now c.settle_one.new.lines.items = search rules in
    λ whole. whole_more c.args.cfg.now c.settle_one.new.lines.items (string_bytes c.args.text.now) (string_bytes c.write_lines.new.out) adds whole

pub returns-then-not-more-clause-room : goal.returns-then-not-more-clause-room
returns-then-not-more-clause-room g c =
    let quiet : false ≡ is_some (least_waiting (world_of c.args.world.now).mail) = search rules in
    room_done (deciding g.C.Core.step g.C.Core.written) (world_of c.settle_one.new.self) 0 refl
    ∙ sym (room_quiet (deciding g.C.Core.step g.C.Core.written) (world_of c.args.world.now) c.args.left quiet)

pub returns-in_err-more-clause-full : goal.returns-in_err-more-clause-full
returns-in_err-more-clause-full g c =
    let q = err_from_is_err_and c.from_residual.result c.from_residual.ensures.1 in
    rw (q.1, q.2) (full_first (deciding g.C.Core.step g.C.Core.written) (world_of c.args.world.now) c.args.left c.in_err-more.field-0.0 c.requires.some
    c.in_err-more.ensures.full)
