use Rattle.std.proofs.Common.{ap, ◌∙◌}
use Rattle.vip_config.specs.Claims.{all_claimed}
use Rattle.vip_config.specs.Machines.{machine_claims}
use Rattle.vip_config.proofs.Walks.{ends}
use Rattle.vip_config.proofs.machines.index_machines.Goals as goal
use Rattle.wire_core.specs.Same.{same_ip}

pub returns : goal.returns
returns c =
    let claims = machine_claims c.args.agents.now in
    ends same_ip claims c.claim_agents.new.walk c.end.result
    (c.in_ok-claim_agents.ensures ∙ ap (λ w. all_claimed same_ip w claims) c.new-walk.ensures) c.end.ensures
