use Rattle.std.proofs.Common.{◌≡◌, true, false, is_some, sym, ◌∙◌}
use Rattle.std.specs.Map.{lookup}
use Rattle.indexmap.specs.IndexMap.{insert_entry}
use Rattle.vip_config.specs.Ways.{same_service}
use Rattle.vip_config.proofs.Lookups.{added, hidden}
use Rattle.vip_config.proofs.Served.{service_is}
use Rattle.vip_config.proofs.services.add.Goals as goal

pub returns-then-contains_key : goal.returns-then-contains_key
returns-then-contains_key c =
    let es = c.args.index.now.entries in
    let there : is_some (lookup (same_service c.args.service) es) ≡ true =
    (λ t. is_some (lookup (λ b. sym (c.services_compare.ensures c.args.service b) t) es))
    ∙ sym c.contains_key.ensures ∙ c.if-contains_key.true in
    hidden same_service service_is es c.args.service c.args.m there

pub returns : goal.returns
returns c =
    let es = c.args.index.now.entries in
    let none : is_some (lookup (same_service c.args.service) es) ≡ false =
    (λ t. is_some (lookup (λ b. sym (c.services_compare.ensures c.args.service b) t) es))
    ∙ sym c.contains_key.ensures ∙ c.if-contains_key.false in
    added same_service es c.insert.new.self.entries c.args.service c.args.m none
    (c.in_ok-insert.ensures.entries
    ∙ (λ t. insert_entry (λ a b. c.services_compare.ensures a b t) es c.args.service c.args.m))
