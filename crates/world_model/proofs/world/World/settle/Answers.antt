use Rattle.std.proofs.Common.{rules, ◌≡◌, ◌<◌, ◌++◌, ◌∷◌, [], Some, None, false, sym, subst, ◌∙◌}
use Rattle.std.specs.Prelude.{is_some, Option}
use Rattle.std.proofs.lemmas.Result.{err_from_is_err_and}
use Rattle.schedule_text.specs.declared.line.Line.TheVariants as line
use Rattle.world_mail.specs.Mails.{least_waiting}
use Rattle.world_nodes.specs.Overflows.{IsFaultOf, Overflow}
use Rattle.world_nodes.specs.Sites.{deciding}
use Rattle.world_model.specs.Overflows.{deliver_overflow, settle_overflow}
use Rattle.world_model.specs.Sound.{world_of}
use Rattle.world_model.specs.World.{deliver, onto, settle}
use Rattle.world_model.proofs.Settles.{full_first, room_done, room_quiet, room_rest, settle_done, settle_more, settle_stops}
use Rattle.world_model.proofs.world.World.settle.Goals as goal

pub returns-then-not-branch-clause-does : goal.returns-then-not-branch-clause-does
returns-then-not-branch-clause-does g c =
    let quiet : false ≡ is_some (least_waiting (world_of c.loop-left.self).mail) = search rules in
    let is : (world_of c.settle_one.new.self, c.settle_one.new.lines.items)
    ≡ onto c.loop-left.lines.items (settle (deciding g.C.Core.step g.C.Core.written) 1 (world_of c.loop-left.self)) =
    search rules in
    settle_stops (deciding g.C.Core.step g.C.Core.written) (world_of c.loop-left.self) (world_of c.settle_one.new.self)
    c.loop-left.lines.items c.settle_one.new.lines.items c.loop-left.left _ quiet is c.loop-left.invariant.does

pub returns-then-not-branch-clause-full : goal.returns-then-not-branch-clause-full
returns-then-not-branch-clause-full g c =
    let quiet : false ≡ is_some (least_waiting (world_of c.loop-left.self).mail) = search rules in
    sym c.loop-left.invariant.room
    ∙ room_quiet (deciding g.C.Core.step g.C.Core.written) (world_of c.loop-left.self) c.loop-left.left quiet

pub loop-left-preserved : goal.loop-left-preserved
loop-left-preserved g c =
    let is : (world_of c.settle_one.new.self, c.settle_one.new.lines.items)
    ≡ onto c.loop-left.lines.items (settle (deciding g.C.Core.step g.C.Core.written) 1 (world_of c.loop-left.self)) =
    search rules in
    let world : world_of c.settle_one.new.self
    ≡ (settle (deciding g.C.Core.step g.C.Core.written) 1 (world_of c.loop-left.self)).0 = search rules in
    let room : settle_overflow (deciding g.C.Core.step g.C.Core.written) 1 (world_of c.loop-left.self) ≡ None =
    search rules in
    record {
      sound = search rules;
      does = settle_more (deciding g.C.Core.step g.C.Core.written) (world_of c.loop-left.self)
          (world_of c.settle_one.new.self) c.loop-left.lines.items c.settle_one.new.lines.items c.loop-left.left _
          (search rules) is c.loop-left.invariant.does;
      room = room_rest (deciding g.C.Core.step g.C.Core.written) (world_of c.loop-left.self)
          (world_of c.settle_one.new.self) c.loop-left.left (search rules) world room
          ∙ c.loop-left.invariant.room;
    }

pub returns-clause-does : goal.returns-clause-does
returns-clause-does g c =
    let done : c.loop-left.left ≡ 0 = search rules in
    settle_done (deciding g.C.Core.step g.C.Core.written) (world_of c.loop-left.self) c.loop-left.lines.items
    c.loop-left.left _ done c.loop-left.invariant.does

pub returns-clause-full : goal.returns-clause-full
returns-clause-full g c =
    let done : c.loop-left.left ≡ 0 = search rules in
    sym c.loop-left.invariant.room
    ∙ room_done (deciding g.C.Core.step g.C.Core.written) (world_of c.loop-left.self) c.loop-left.left done

pub returns-in_err-settle_one-clause-full : goal.returns-in_err-settle_one-clause-full
returns-in_err-settle_one-clause-full g c =
    let q = err_from_is_err_and c.from_residual.result c.from_residual.ensures.1 in
    let some : 0 < c.loop-left.left = search rules in
    rw (q.1, q.2) (subst (λ (o : Option Overflow). IsFaultOf o c.in_err-settle_one.field-0.0) c.loop-left.invariant.room
    (full_first (deciding g.C.Core.step g.C.Core.written) (world_of c.loop-left.self) c.loop-left.left c.in_err-settle_one.field-0.0 some
    c.in_err-settle_one.ensures.full))
