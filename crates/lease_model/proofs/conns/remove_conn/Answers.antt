use Rattle.std.proofs.Common.{rules, not, ◌==◌, ℕ}
use Rattle.std.proofs.lemmas.Fn.{filter_same}
use Rattle.wire_core.specs.declared.connection.Conn.{Conn}
use Rattle.lease_model.specs.Books.{same_conn}
use Rattle.lease_model.proofs.conns.remove_conn.Goals as goal

pub returns : goal.returns
returns c = filter_same _ (λ (d : Conn). not (same_conn c.args.c d)) _ (λ x b f k. search rules) _ _ c.retain.ensures.filtered
