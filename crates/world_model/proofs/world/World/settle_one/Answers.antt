use Rattle.std.proofs.Common.{rules, ◌≡◌, ◌<◌, ◌++◌, ◌∷◌, [], Some, None, false, sym, subst, ◌∙◌}
use Rattle.std.specs.Prelude.{is_some, Option}
use Rattle.std.proofs.lemmas.Result.{err_from_is_err_and}
use Rattle.schedule_text.specs.declared.line.Line.TheVariants as line
use Rattle.world_mail.specs.Mails.{least_waiting}
use Rattle.world_nodes.specs.Overflows.{IsFaultOf, Overflow}
use Rattle.world_nodes.specs.Sites.{deciding}
use Rattle.world_model.specs.Overflows.{deliver_overflow, settle_overflow}
use Rattle.world_model.specs.Sound.{world_of}
use Rattle.world_model.specs.World.{deliver, onto, settle}
use Rattle.world_model.proofs.Settles.{one_none, one_room, one_room_none, one_some}
use Rattle.world_model.proofs.world.World.settle_one.Goals as goal

pub returns-in_default-clause-does : goal.returns-in_default-clause-does
returns-in_default-clause-does g c =
    let none : None ≡ least_waiting (world_of c.args.self.now).mail = search rules in
    one_none (deciding g.C.Core.step g.C.Core.written) (world_of c.args.self.now) c.least.new.self
    c.args.lines.now.items c.least.ensures.same none

pub returns-in_default-clause-full : goal.returns-in_default-clause-full
returns-in_default-clause-full g c =
    let none : None ≡ least_waiting (world_of c.args.self.now).mail = search rules in
    one_room_none (deciding g.C.Core.step g.C.Core.written) (world_of c.args.self.now) none

pub returns-clause-does : goal.returns-clause-does
returns-clause-does g c =
    let least : Some c.in-Some.k ≡ least_waiting (world_of c.args.self.now).mail = search rules in
    let is : (world_of c.deliver.new.self, c.deliver.new.lines.items)
    ≡ onto (c.args.lines.now.items ++ line.Delivery c.in-Some.k ∷ [])
    (deliver (deciding g.C.Core.step g.C.Core.written) (world_of c.args.self.now) c.in-Some.k) = search rules in
    one_some (deciding g.C.Core.step g.C.Core.written) (world_of c.args.self.now) (world_of c.deliver.new.self)
    c.in-Some.k c.args.lines.now.items c.deliver.new.lines.items least is

pub returns-clause-full : goal.returns-clause-full
returns-clause-full g c =
    let least : Some c.in-Some.k ≡ least_waiting (world_of c.args.self.now).mail = search rules in
    let room : deliver_overflow (deciding g.C.Core.step g.C.Core.written) (world_of c.args.self.now) c.in-Some.k ≡ None =
    search rules in
    sym (one_room (deciding g.C.Core.step g.C.Core.written) (world_of c.args.self.now) c.in-Some.k least) ∙ room

pub returns-in_err-deliver-clause-full : goal.returns-in_err-deliver-clause-full
returns-in_err-deliver-clause-full g c =
    let q = err_from_is_err_and c.from_residual-in_err-deliver.result c.from_residual-in_err-deliver.ensures.1 in
    let least : Some c.in-Some.k ≡ least_waiting (world_of c.args.self.now).mail = search rules in
    let full : IsFaultOf (deliver_overflow (deciding g.C.Core.step g.C.Core.written) (world_of c.args.self.now) c.in-Some.k) c.in_err-deliver.field-0.0 =
    search rules in
    rw (q.1, q.2) (subst (λ (o : Option Overflow). IsFaultOf o c.in_err-deliver.field-0.0)
    (one_room (deciding g.C.Core.step g.C.Core.written) (world_of c.args.self.now) c.in-Some.k least) full)
