use Rattle.std.proofs.Common.{sym, ◌∙◌}
use Rattle.wire_core.specs.Same.{same_ip}
use Rattle.wire_core.proofs.SameLaws.{ip_is}
use Rattle.vip_config.proofs.Lookups.{added, hidden}
use Rattle.vip_config.proofs.ways.add.Goals as goal

pub returns-then-contains_key : goal.returns-then-contains_key
returns-then-contains_key g c =
    hidden same_ip ip_is c.args.index.now.entries c.args.address c.args.value (sym c.contains_key.ensures ∙ c.if-contains_key.true)

pub returns : goal.returns
returns g c =
    added same_ip c.args.index.now.entries c.insert.new.self.entries c.args.address c.args.value
    (sym c.contains_key.ensures ∙ c.if-contains_key.false) c.in_ok-insert.ensures.entries
