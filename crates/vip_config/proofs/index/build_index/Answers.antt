use Rattle.std.proofs.Common.{rules, ◌≡◌, [], None, sym, ap, subst, ◌∙◌}
use Rattle.vip_config.specs.Claims.{Tells, first_broken}
use Rattle.vip_config.specs.Configs.{broken_vip_rule, shared_machine, shared_socket}
use Rattle.vip_config.specs.Machines.{machine_claims, machines_of}
use Rattle.vip_config.specs.Sockets.{socket_claims}
use Rattle.vip_config.proofs.Laws.{told}
use Rattle.vip_config.proofs.index.build_index.Goals as goal
use Rattle.wire_core.specs.Same.{same_ip, same_socket}

pub returns-in_err-check_vips-clause-rules : goal.returns-in_err-check_vips-clause-rules
returns-in_err-check_vips-clause-rules c =
    let sockets : shared_socket c.args.settings.now ≡ None =
    sym (λ t. first_broken same_socket []
    (socket_claims c.args.settings.now.router (c.as_slice.ensures t) (c.as_slice-2.ensures t)
    (c.as_slice-agents.ensures t))) ∙ c.in_ok-sockets.ensures.0 in
    let addresses : shared_machine c.args.settings.now ≡ None =
    sym (λ t. first_broken same_ip [] (machine_claims (c.as_slice-agents.ensures t)))
    ∙ c.in_ok-machines.ensures.0 in
    let vips : Tells (broken_vip_rule (machines_of c.args.settings.now.agents) c.args.settings.now.vips)
    c.check_vips.result =
    subst (λ p. Tells p c.check_vips.result)
    (λ t. broken_vip_rule ((c.in_ok-machines.ensures.1 ∙ ap machines_of c.as_slice-agents.ensures) t)
    (c.as_slice-3.ensures t)) c.check_vips.ensures in
    let all = told _ _ _ c.check_vips.result sockets addresses vips in
    search rules

pub returns-clause-rules : goal.returns-clause-rules
returns-clause-rules c =
    let sockets : shared_socket c.args.settings.now ≡ None =
    sym (λ t. first_broken same_socket []
    (socket_claims c.args.settings.now.router (c.as_slice.ensures t) (c.as_slice-2.ensures t)
    (c.as_slice-agents.ensures t))) ∙ c.in_ok-sockets.ensures.0 in
    let addresses : shared_machine c.args.settings.now ≡ None =
    sym (λ t. first_broken same_ip [] (machine_claims (c.as_slice-agents.ensures t)))
    ∙ c.in_ok-machines.ensures.0 in
    let vips : broken_vip_rule (machines_of c.args.settings.now.agents) c.args.settings.now.vips ≡ None =
    sym (λ t. broken_vip_rule ((c.in_ok-machines.ensures.1 ∙ ap machines_of c.as_slice-agents.ensures) t)
    (c.as_slice-3.ensures t)) ∙ c.in_ok-check_vips.ensures in
    rw (sockets, addresses) vips
