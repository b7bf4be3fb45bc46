use Rattle.std.proofs.Common.{rules, not, ◌==◌, ℕ}
use Rattle.std.proofs.lemmas.Fn.{filter_same}
use Rattle.wire_core.specs.declared.connection.Conn.{Conn}
use Rattle.lease_model.specs.Books.{is_agents}
use Rattle.lease_model.proofs.conns.lose_conns.Goals as goal

pub returns : goal.returns
returns c = filter_same _ (λ (d : Conn). not (is_agents c.args.rules.now c.args.agent d.machine)) _ (λ x b f k. search rules) _ _ c.retain.ensures.filtered
