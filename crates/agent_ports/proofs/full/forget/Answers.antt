use Rattle.std.proofs.Common.{◌≡◌, Bool, None, if◌then◌else◌, subst}
use Rattle.indexmap.specs.IndexMap.{get}
use Rattle.agent_ports.specs.declared.remote_end.RemoteEnd.{RemoteEnd}
use Rattle.agent_ports.proofs.Keys.{end_eq_is}
use Rattle.agent_ports.proofs.full.forget.Goals as goal

pub returns : goal.returns
returns c e =
    subst
    (λ (eq : RemoteEnd → RemoteEnd → Bool).
    get eq c.swap_remove.new.self e ≡ (if eq c.args.end.now e then None else get eq c.args.map.now e))
    end_eq_is
    (c.swap_remove.ensures.updates.0 e)
