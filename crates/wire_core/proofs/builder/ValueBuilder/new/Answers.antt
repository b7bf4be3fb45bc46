use Rattle.std.proofs.Common.{◌∙◌, ◌∷◌, ◌++◌, [], ap, arith}
use Rattle.wire_core.proofs.BuildingLaws.{builds}
use Rattle.wire_core.proofs.builder.ValueBuilder.new.Goals as goal

pub invariant_of-result : goal.invariant_of-result
invariant_of-result c =
    (builds _ [] (c.in_ok-push.ensures.items ∙ ap (λ l. l ++ 0 ∷ []) c.new-bytes.ensures.items) (omega arith) tt).built

pub returns : goal.returns
returns c =
    (builds _ [] (c.in_ok-push.ensures.items ∙ ap (λ l. l ++ 0 ∷ []) c.new-bytes.ensures.items) (omega arith) tt).is
