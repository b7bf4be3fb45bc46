use Rattle.std.proofs.Common.{◌≡◌, true, [], ◌∷◌, ◌++◌, ap, ◌∙◌}
use Rattle.vip_config.specs.declared.place.Place.TheVariants.{Router}
use Rattle.vip_config.specs.declared.who.Who.TheVariants.{Outside}
use Rattle.vip_config.specs.Claims.{all_claimed, claim, claims_of, nothing_claimed}
use Rattle.vip_config.specs.Sockets.{agent_claims, mux_claims, replica_claims, socket_claims}
use Rattle.vip_config.proofs.Walks.{ends, goes_on}
use Rattle.vip_config.proofs.sockets.index_sockets.Goals as goal
use Rattle.wire_core.specs.Same.{same_socket}

pub returns : goal.returns
returns c =
    let router = claim Router c.args.router Outside true ∷ [] in
    let replicas = claims_of replica_claims 0 c.args.replicas.now in
    let muxes = claims_of mux_claims 0 c.args.muxes.now in
    let agents = claims_of agent_claims 0 c.args.agents.now in
    let first : c.claim.new.self ≡ all_claimed same_socket nothing_claimed router =
    c.in_ok-claim.ensures ∙ ap (λ w. all_claimed same_socket w router) c.new-walk.ensures in
    let second =
    goes_on same_socket nothing_claimed c.claim.new.self c.claim_replicas.new.walk router
    replicas c.in_ok-claim_replicas.ensures first in
    let third =
    goes_on same_socket nothing_claimed c.claim_replicas.new.walk c.claim_muxes.new.walk
    (router ++ replicas) muxes c.in_ok-claim_muxes.ensures second in
    let fourth =
    goes_on same_socket nothing_claimed c.claim_muxes.new.walk c.claim_agents.new.walk
    (router ++ replicas ++ muxes) agents c.in_ok-claim_agents.ensures third in
    ends same_socket (socket_claims c.args.router c.args.replicas.now c.args.muxes.now c.args.agents.now)
    c.claim_agents.new.walk c.end.result fourth c.end.ensures
