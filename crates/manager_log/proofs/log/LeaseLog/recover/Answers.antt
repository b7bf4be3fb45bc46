use Rattle.std.proofs.Common.{rules, ◌≡◌, true}
use Rattle.paxos_spec.specs.Acceptor.{follow}
use Rattle.manager_log.specs.Log.{Tied, table_again}
use Rattle.manager_log.proofs.LogLaws.{tied_again}
use Rattle.manager_log.proofs.log.LeaseLog.recover.Goals as goal

pub invariant_of-self-2 : goal.invariant_of-self-2
invariant_of-self-2 c =
    let sound : c.self.inside.sound ≡ true = search rules in
    let tied : Tied c.self.inside.replica.acceptor c.self.inside.table = c.self.invariant sound in
    let log : c.recover.new.self.acceptor ≡ follow c.self.inside.replica.acceptor c.args.entry.now = search rules in
    let table : c.apply_again.new.table ≡ table_again c.self.inside.table c.args.entry.now = search rules in
    λ _. rw (log, table) (tied_again _ _ _ tied)
