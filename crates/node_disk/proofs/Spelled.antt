-- What spells an entry is what a journal takes.
use Rattle.std.proofs.Common.{◌≡◌, ℕ, List, Option, Some, None, sym, subst}
use Rattle.std.specs.Prelude.{IfSome}
use Rattle.journal.specs.Records.{IsBody}
use Rattle.journal.proofs.Bodies.{entry_is_body}
use Rattle.node_spec.specs.Bodies.{IsSpelled}

pub spelled_body : (bytes : List ℕ) → IsSpelled bytes → IsBody bytes
spelled_body bytes is = subst IsBody (sym is.spelled) (entry_is_body is.entry is.allowed)
