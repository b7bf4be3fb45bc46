use Rattle.std.proofs.Common.{rules, ◌≡◌, ◌<◌, get_or, length}
use Rattle.world_views.proofs.BookLaws.{learns_next}
use Rattle.world_views.proofs.books.learn_all.Goals as goal

pub loop-body-preserved : goal.loop-body-preserved
loop-body-preserved c =
    let within : c.loop-body.body-index < length c.args.bodies.now = search rules in
    let read : c.body-item.result ≡ get_or c.args.bodies.now c.loop-body.body-index c.body-item.result = search rules in
    learns_next c.args.table.now c.loop-body.table c.learn_body.new.table c.args.bodies.now c.loop-body.body-index
    c.body-item.result within read c.loop-body.invariant c.in_ok-learn_body.ensures
