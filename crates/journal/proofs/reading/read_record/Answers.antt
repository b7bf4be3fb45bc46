use Rattle.std.proofs.Common.{rules, ◌+◌, Ok}
use Rattle.outside_io.specs.declared.failed.Failed.{Failed}
use Rattle.journal.specs.Reading.{Heads, Bodies}
use Rattle.journal.specs.declared.reading.Head.TheVariants.{Size}
use Rattle.journal.proofs.Parts.{found_body, found_short}
use Rattle.journal.proofs.reading.read_record.Goals as goal

pub returns-clause-found : goal.returns-clause-found
returns-clause-found g c =
    let heads : Heads {E = Failed} (g.D.Disk.history c.args.disk.now) c.args.at (Ok (Size c.in-Size.n)) =
    search rules in
    let bodies : Bodies {E = Failed} (g.D.Disk.history c.read_head.new.disk) (c.args.at + 5) c.in-Size.n
    c.read_body.new.room (Ok c.in_ok-read_body.field-0) = search rules in
    found_body c.args.bound c.args.at c.in-Size.n c.read_body.new.room (search rules) (search rules) (search rules) _
    _ c.in_ok-read_body.field-0 c.read_head.ensures.same heads bodies (search rules)

pub returns-then-not-branch-clause-found : goal.returns-then-not-branch-clause-found
returns-then-not-branch-clause-found g c =
    let heads : Heads {E = Failed} (g.D.Disk.history c.args.disk.now) c.args.at (Ok (Size c.in-Size.n)) =
    search rules in
    let bodies : Bodies {E = Failed} (g.D.Disk.history c.read_head.new.disk) (c.args.at + 5) c.in-Size.n
    c.read_body.new.room (Ok c.in_ok-read_body.field-0) = search rules in
    found_short c.args.bound c.args.at c.in-Size.n c.read_body.new.room (search rules) (search rules) (search rules)
    _ _ c.in_ok-read_body.field-0 c.from.result c.read_head.ensures.same heads bodies (search rules) (search rules)
