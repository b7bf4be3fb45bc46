use Rattle.std.proofs.Common.{rules, ◌≡◌, true}
use Rattle.journal.proofs.Begin.{stands_still}
use Rattle.journal.proofs.journal.Journal.is_live.Goals as goal

pub returns-clause-stands : goal.returns-clause-stands
returns-clause-stands g c = λ live.
    let stands : c.self.inside.live ≡ true = search (rules, live) in
    stands_still c.args.self.now.bound c.self.inside.end (g.D.Disk.history c.args.self.now.first)
    (search (rules, c.self.invariant.stands stands))
