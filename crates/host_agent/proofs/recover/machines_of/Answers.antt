use Rattle.std.proofs.Common.{rules, ◌≡◌, ◌∙◌, map, slice_get, Some, None, refl, sym, ap}
use Rattle.std.specs.Prelude.{option_copied}
use Rattle.config_text.specs.declared.agents.AgentConf.{AgentConf}
use Rattle.config_text.specs.declared.agents.Attach.{Attach}
use Rattle.agent_spec.specs.Agent.{new_hosts}
use Rattle.host_agent.specs.Hosts.{hosts_of}
use Rattle.host_agent.proofs.Onces.{once_part}
use Rattle.host_agent.proofs.recover.machines_of.Goals as goal

pub returns-in-Some-clause-hosts : goal.returns-in-Some-clause-hosts
returns-in-Some-clause-hosts c =
    let found : slice_get c.args.cfg.now.agents c.args.index ≡ Some c.in-Some.agent.now =
    sym c.conf_of.ensures ∙ ap option_copied c.in-Some.is in
    let machines : c.as_slice.result.now ≡ c.in-Some.agent.now.machines = search rules in
    rw (machines, found) refl

pub returns-in-Some-clause-apart : goal.returns-in-Some-clause-apart
returns-in-Some-clause-apart c =
    let found : slice_get c.args.cfg.now.agents c.args.index ≡ Some c.in-Some.agent.now =
    sym c.conf_of.ensures ∙ ap option_copied c.in-Some.is in
    let machines : c.as_slice.result.now ≡ c.in-Some.agent.now.machines = search rules in
    rw machines (once_part (λ (a : AgentConf). map (λ (m : Attach). m.address) a.machines) c.args.cfg.now.agents c.args.index
    c.in-Some.agent.now found c.requires)

pub returns-in-None-clause-hosts : goal.returns-in-None-clause-hosts
returns-in-None-clause-hosts c =
    let none : slice_get c.args.cfg.now.agents c.args.index ≡ None =
    sym c.conf_of.ensures ∙ ap option_copied c.in-None.is in
    rw none refl
