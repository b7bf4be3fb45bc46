use Rattle.std.proofs.Common.{rules, ◌≡◌, true}
use Rattle.paxos_spec.specs.Acceptor.{kept, reach}
use Rattle.manager_log.specs.Log.{Tied, HasRoom, table_after}
use Rattle.manager_log.proofs.LogLaws.{tied_after}
use Rattle.manager_log.proofs.log.LeaseLog.take.Goals as goal

pub invariant_of-self-2 : goal.invariant_of-self-2
invariant_of-self-2 c =
    let sound : c.self.inside.sound ≡ true = search rules in
    let tied : Tied c.self.inside.replica.acceptor c.self.inside.table = c.self.invariant sound in
    let log : c.take.new.self.acceptor ≡ kept c.self.inside.replica.acceptor c.args.step.entry = search rules in
    let table : c.apply_step.new.table ≡ (table_after c.self.inside.table c.args.step.entry).0 = search rules in
    let room : HasRoom (reach c.self.inside.replica.acceptor) c.args.step.entry = search rules in
    λ _. rw (log, table) (tied_after _ _ _ room tied)
