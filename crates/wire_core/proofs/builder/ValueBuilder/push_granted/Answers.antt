use Rattle.std.proofs.Common.{◌∙◌, ◌<◌, ◌^◌, ◌∷◌, ◌++◌, [], List, length, subst, sym, ap, rules}
use Rattle.wire_core.specs.Commands.{LogCommand, Granted, AreNamed}
use Rattle.wire_core.proofs.BuildingLaws.{builds_more}
use Rattle.wire_core.proofs.builder.ValueBuilder.push_granted.Goals as goal

pub invariant_of-self-2 : goal.invariant_of-self-2
invariant_of-self-2 c =
    let few = subst (λ (cs : List LogCommand). length cs < 16) (sym c.self.view_is) c.requires.few in
    let named : AreNamed c.args.muxes.now = record {
      some = c.requires.some;
      few = c.requires.named;
      ascend = c.requires.ascend;
      fields = c.in_ok-write_granted.ensures.fields;
    } in
    let fits : c.args.n < 2 ^ 64 = search rules in
    (builds_more c.self.inside.bytes.items (Granted c.args.n c.args.muxes.now) _ _ c.self.invariant few
    (fits, named) c.in_ok-write_granted.ensures.ok c.count_one.ensures).built

pub returns-clause-ok : goal.returns-clause-ok
returns-clause-ok c =
    let few = subst (λ (cs : List LogCommand). length cs < 16) (sym c.self.view_is) c.requires.few in
    let named : AreNamed c.args.muxes.now = record {
      some = c.requires.some;
      few = c.requires.named;
      ascend = c.requires.ascend;
      fields = c.in_ok-write_granted.ensures.fields;
    } in
    let fits : c.args.n < 2 ^ 64 = search rules in
    (builds_more c.self.inside.bytes.items (Granted c.args.n c.args.muxes.now) _ _ c.self.invariant few
    (fits, named) c.in_ok-write_granted.ensures.ok c.count_one.ensures).is
    ∙ ap (λ (cs : List LogCommand). cs ++ Granted c.args.n c.args.muxes.now ∷ []) c.self.view_is
