use Rattle.std.proofs.Common.{◌∙◌, ◌<◌, List, length, subst, sym}
use Rattle.wire_core.specs.Commands.{LogCommand}
use Rattle.wire_core.proofs.BuildingLaws.{finished}
use Rattle.wire_core.proofs.builder.ValueBuilder.finish.Goals as goal

pub from_spelling-requires : goal.from_spelling-requires
from_spelling-requires c =
    let some = subst (λ (cs : List LogCommand). 0 < length cs) (sym c.self.view_is) c.requires in
    (finished c.self.inside.bytes.items c.self.invariant some).1

pub returns : goal.returns
returns c =
    let some = subst (λ (cs : List LogCommand). 0 < length cs) (sym c.self.view_is) c.requires in
    c.from_spelling.ensures ∙ (finished c.self.inside.bytes.items c.self.invariant some).0 ∙ c.self.view_is
