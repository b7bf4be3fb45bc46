use Rattle.std.proofs.Common.{◌≡◌, ◌+◌, List, ◌++◌, map, take, sym, subst}
use Rattle.config_text.specs.declared.vips.Member.{Member}
use Rattle.vip_config.specs.Ways.{FindsAs, same_service, service_by}
use Rattle.vip_config.proofs.Lookups.{finds_mapped}
use Rattle.vip_config.proofs.services.add_members.Goals as goal

pub loop-member-preserved : goal.loop-member-preserved
loop-member-preserved c =
    let i = c.loop-member.member-index in
    let front = c.args.index.now.entries in
    let before = c.loop-member.index.entries in
    let after = c.add.new.index.entries in
    let serving = service_by c.args.vip c.args.endpoint.now in
    let are : c.as_slice-member-items.result.now ≡ c.args.endpoint.now.machines = c.as_slice-member-items.ensures in
    subst (λ (ms : List Member). FindsAs same_service after (front ++ map serving (take (i + 1) ms))) are
    (finds_mapped same_service c.as_slice-member-items.result.now i _ c.loop-member-test.true serving front before after
    (subst (λ (ms : List Member). FindsAs same_service before (front ++ map serving (take i ms))) (sym are)
    c.loop-member.invariant) c.in_ok-add.ensures)
