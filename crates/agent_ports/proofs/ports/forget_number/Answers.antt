use Rattle.std.proofs.Common.{rules, ℕ, not, ◌==◌}
use Rattle.std.proofs.lemmas.Fn.{filter_same}
use Rattle.agent_ports.proofs.ports.forget_number.Goals as goal

pub returns : goal.returns
returns c =
    filter_same _ (λ (m : ℕ). not (m == c.args.n)) _ (λ x b f k. search rules) _ _ c.retain.ensures.filtered
