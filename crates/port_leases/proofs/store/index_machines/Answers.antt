use Rattle.port_leases.proofs.Stored.{found_more}
use Rattle.port_leases.proofs.store.index_machines.Goals as goal

pub loop-rule-preserved : goal.loop-rule-preserved
loop-rule-preserved c = λ m.
    found_more c.args.rules.now c.loop-rule.rule-index _ m _ _ c.loop-rule-test.true (c.in_ok-put_rule.ensures m) (c.loop-rule.invariant m)
