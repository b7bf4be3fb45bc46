use Rattle.std.proofs.Common.{◌∙◌, ◌<◌, ◌∷◌, ◌++◌, [], List, length, subst, sym, ap}
use Rattle.wire_core.specs.Commands.{LogCommand}
use Rattle.wire_core.specs.Views.{command_of}
use Rattle.wire_core.proofs.BuildingLaws.{builds_more}
use Rattle.wire_core.proofs.builder.ValueBuilder.push.Goals as goal

pub invariant_of-self-2 : goal.invariant_of-self-2
invariant_of-self-2 c =
    let few = subst (λ (cs : List LogCommand). length cs < 16) (sym c.self.view_is) c.requires.few in
    (builds_more c.self.inside.bytes.items
    (command_of c.args.command.now) _ _ c.self.invariant few c.requires.writable.0 c.in_ok-write.ensures.ok c.count_one.ensures).built

pub returns-clause-ok : goal.returns-clause-ok
returns-clause-ok c =
    let few = subst (λ (cs : List LogCommand). length cs < 16) (sym c.self.view_is) c.requires.few in
    (builds_more c.self.inside.bytes.items
    (command_of c.args.command.now) _ _ c.self.invariant few c.requires.writable.0 c.in_ok-write.ensures.ok c.count_one.ensures).is
    ∙ ap (λ (cs : List LogCommand). cs ++ command_of c.args.command.now ∷ []) c.self.view_is
