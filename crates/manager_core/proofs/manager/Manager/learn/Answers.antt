use Rattle.std.proofs.Common.{rules, ◌≡◌, true}
use Rattle.vip_config.specs.Leases.{lease_rules_of}
use Rattle.paxos_spec.specs.Acceptor.{reach}
use Rattle.manager_log.specs.Log.{HasRoom}
use Rattle.manager_log.proofs.PendingLaws.{current_kept}
use Rattle.manager_core.proofs.manager.Manager.learn.Goals as goal

pub invariant_of-self : goal.invariant_of-self
invariant_of-self c =
    let sound : c.self.inside.log.sound ≡ true = search rules in
    let room : HasRoom (reach c.self.inside.log.replica.acceptor) c.args.step.entry = search rules in
    let same : c.take.new.self.rules ≡ lease_rules_of c.self.inside.cfg = search rules in (
      same,
      c.self.invariant.1,
      c.self.invariant.2,
      c.self.invariant.3,
      λ still. rw (c.take.ensures.kept still) (current_kept c.self.inside.pending (lease_rules_of c.self.inside.cfg) c.self.inside.log.replica.acceptor c.args.step.entry c.self.inside.acks.entries c.self.inside.muxes.items room (c.self.invariant.4 sound)),
    )
