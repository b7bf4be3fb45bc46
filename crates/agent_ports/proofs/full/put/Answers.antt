use Rattle.std.proofs.Common.{◌≡◌, Bool, Some, if◌then◌else◌, subst}
use Rattle.indexmap.specs.IndexMap.{get}
use Rattle.agent_ports.specs.declared.remote_end.RemoteEnd.{RemoteEnd}
use Rattle.agent_ports.proofs.Keys.{end_eq_is}
use Rattle.agent_ports.proofs.full.put.Goals as goal

pub returns : goal.returns
returns c e =
    subst
    (λ (eq : RemoteEnd → RemoteEnd → Bool).
    get eq c.insert.new.self e ≡ (if eq c.args.end e then Some c.args.below else get eq c.args.map.now e))
    end_eq_is
    ((rw c.unwrap.ensures at c.insert.ensures.updates).0 e)
