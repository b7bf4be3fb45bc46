use Rattle.std.proofs.Common.{rules, ◌≡◌, ◌∙◌, ◌<◌, length, get_or, ap, sym, set}
use Rattle.std.proofs.lemmas.List.Edits.{map_over_more}
use Rattle.agent_spec.specs.Agent.{Host}
use Rattle.agent_spec.specs.Clock.{renewed}
use Rattle.host_agent.proofs.telling.renew_each.Goals as goal

pub loop-host-preserved : goal.loop-host-preserved
loop-host-preserved c =
    let lt : c.loop-host.host-index < length c.args.hosts.now = search rules in
    let read : c.host-item.result ≡ get_or c.loop-host.hosts c.loop-host.host-index c.host-item.result = search rules in
    let new : c.renew.new.self ≡ renewed c.args.now c.args.retry c.host-item.result = search rules in
    ap (λ (h : Host). set c.loop-host.hosts c.loop-host.host-index h) new
    ∙ map_over_more (renewed c.args.now c.args.retry) c.args.hosts.now c.loop-host.hosts c.loop-host.host-index
    c.host-item.result lt c.loop-host.invariant read
