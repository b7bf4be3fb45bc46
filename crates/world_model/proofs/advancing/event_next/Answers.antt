use Rattle.std.proofs.Common.{rules, ◌≡◌, ◌<◌, ◌≤◌, ◌+◌, ◌-◌, ◌++◌, ◌∷◌, [], ℕ, List, Some, None, false, length, drop, refl, sym, ap, subst, ◌∙◌, arith}
use Rattle.std.specs.Prelude.{is_some, string_bytes}
use Rattle.schedule_text.specs.Transcript.{printed_line}
use Rattle.schedule_text.specs.declared.line.Line.TheVariants as line
use Rattle.world_mail.specs.Mails.{least_waiting}
use Rattle.world_nodes.specs.Overflows.{IsFaultOf}
use Rattle.world_nodes.specs.Sites.{deciding}
use Rattle.world_model.specs.Overflows.{event_overflow, settle_overflow}
use Rattle.world_model.specs.Runs.{deliveries, text_of}
use Rattle.world_model.specs.Sound.{world_of}
use Rattle.world_model.specs.World.{Outcome, WorldState, applied, onto, settle}
use Rattle.world_model.proofs.Advances.{other_text, other_world, room_begins, settle_begins, settle_text, some_steps, steps_begin, whole_line, whole_more}
use Rattle.world_model.proofs.Settles.{room_done}
use Rattle.world_model.proofs.advancing.event_next.Goals as goal

pub returns-in-Some-clause-text : goal.returns-in-Some-clause-text
returns-in-Some-clause-text g c =
    let own : string_bytes c.write_own.new.out ≡ string_bytes c.args.text.now ++ printed_line c.args.cfg.now (line.Event c.args.event.now) =
    search rules in
    let some : Some c.in-Some.n ≡ deliveries c.args.event.now = search rules in
    settle_text (deciding g.C.Core.step g.C.Core.written) g.C.Core.opened c.args.cfg.now (world_of c.args.world.now) c.in-Some.n c.args.event.now
    (string_bytes c.args.text.now) (string_bytes c.write_own.new.out) some own

pub returns-in-Some-clause-world : goal.returns-in-Some-clause-world
returns-in-Some-clause-world g c =
    let some : Some c.in-Some.n ≡ deliveries c.args.event.now = search rules in
    ap (λ r. r.0) (settle_begins (deciding g.C.Core.step g.C.Core.written) g.C.Core.opened c.args.cfg.now (world_of c.args.world.now) c.in-Some.n c.args.event.now some)

pub returns-in-Some-clause-less : goal.returns-in-Some-clause-less
returns-in-Some-clause-less g c =
    let some : Some c.in-Some.n ≡ deliveries c.args.event.now = search rules in
    steps_begin c.in-Some.n c.args.event.now some

pub returns-in-Some-clause-whole : goal.returns-in-Some-clause-whole
returns-in-Some-clause-whole g c =
    let own : string_bytes c.write_own.new.out ≡ string_bytes c.args.text.now ++ printed_line c.args.cfg.now (line.Event c.args.event.now) =
    search rules in
    whole_line c.args.cfg.now (line.Event c.args.event.now) (string_bytes c.args.text.now) (string_bytes c.write_own.new.out) own

pub returns-in-Some-clause-room : goal.returns-in-Some-clause-room
returns-in-Some-clause-room g c =
    let some : Some c.in-Some.n ≡ deliveries c.args.event.now = search rules in
    room_begins (deciding g.C.Core.step g.C.Core.written) g.C.Core.opened c.args.cfg.now (world_of c.args.world.now) c.in-Some.n c.args.event.now some

pub returns-clause-text : goal.returns-clause-text
returns-clause-text g c =
    let own : string_bytes c.write_own.new.out ≡ string_bytes c.args.text.now ++ printed_line c.args.cfg.now (line.Event c.args.event.now) =
    search rules in
    let is : (world_of c.happen.new.self, c.happen.new.lines.items)
    ≡ onto [] (applied (deciding g.C.Core.step g.C.Core.written) g.C.Core.opened (world_of c.args.world.now) c.args.event.now) = search rules in
    let adds : string_bytes c.write_lines.new.out
    ≡ string_bytes c.write_own.new.out ++ text_of c.args.cfg.now c.happen.new.lines.items = search rules in
    other_text (deciding g.C.Core.step g.C.Core.written) g.C.Core.opened c.args.cfg.now (world_of c.happen.new.self) (applied (deciding g.C.Core.step g.C.Core.written) g.C.Core.opened (world_of c.args.world.now) c.args.event.now) c.args.event.now
    c.happen.new.lines.items (string_bytes c.args.text.now) (string_bytes c.write_own.new.out)
    (string_bytes c.write_lines.new.out) is own adds

pub returns-clause-world : goal.returns-clause-world
returns-clause-world g c =
    let is : (world_of c.happen.new.self, c.happen.new.lines.items)
    ≡ onto [] (applied (deciding g.C.Core.step g.C.Core.written) g.C.Core.opened (world_of c.args.world.now) c.args.event.now) = search rules in
    other_world (deciding g.C.Core.step g.C.Core.written) g.C.Core.opened c.args.cfg.now (world_of c.happen.new.self) (applied (deciding g.C.Core.step g.C.Core.written) g.C.Core.opened (world_of c.args.world.now) c.args.event.now)
    c.happen.new.lines.items is

pub returns-clause-less : goal.returns-clause-less
returns-clause-less g c =
    some_steps c.args.event.now

pub returns-clause-whole : goal.returns-clause-whole
returns-clause-whole g c =
    let own : string_bytes c.write_own.new.out ≡ string_bytes c.args.text.now ++ printed_line c.args.cfg.now (line.Event c.args.event.now) =
    search rules in
    let adds : string_bytes c.write_lines.new.out
    ≡ string_bytes c.write_own.new.out ++ text_of c.args.cfg.now c.happen.new.lines.items = search rules in
    whole_more c.args.cfg.now c.happen.new.lines.items (string_bytes c.write_own.new.out) (string_bytes c.write_lines.new.out) adds
    (whole_line c.args.cfg.now (line.Event c.args.event.now) (string_bytes c.args.text.now) (string_bytes c.write_own.new.out) own)

pub returns-clause-room : goal.returns-clause-room
returns-clause-room g c =
    let room : event_overflow (deciding g.C.Core.step g.C.Core.written) (world_of c.args.world.now) c.args.event.now ≡ None = search rules in
    room_done (deciding g.C.Core.step g.C.Core.written) (world_of c.happen.new.self) 0 refl ∙ sym room
