use Rattle.std.proofs.Common.{rules, ◌≡◌, ◌≤◌, ◌∙◌, ◌++◌, [], sym, ap, List, length, take}
use Rattle.std.specs.List.{flat_map}
use Rattle.wire_core.specs.Commands.{LogCommand}
use Rattle.lease_spec.specs.declared.row.Row.{Row}
use Rattle.lease_spec.specs.declared.row.Phase.TheVariants.{BeingLeased}
use Rattle.port_leases.specs.TableState.{rows_in}
use Rattle.manager_spec.specs.Manager.{leases}
use Rattle.manager_spec.specs.Proposal.{grant_due}
use Rattle.manager_log.proofs.DueLaws.{full_takes, rest_takes}
use Rattle.manager_log.proofs.WalkLaws.{grants_in}
use Rattle.manager_core.proofs.manager.Manager.add_grants.Goals as goal

pub loop-self-init : goal.loop-self-init
loop-self-init c = ap (λ (xs : List LogCommand). take 16 (c.args.value.now ++ xs)) (grants_in c.args.self.now.config c.args.self.now.lists)

pub returns-in_default : goal.returns-in_default
returns-in_default c =
    let none : rows_in (leases c.args.self.now.config c.args.self.now.lists).rows BeingLeased c.loop-self.above ≡ [] = search rules in
    let few : length c.loop-self.value ≤ 16 = search rules in
    sym (rest_takes 16 c.loop-self.value few)
    ∙ ap (λ (rows : List Row). take 16 (c.loop-self.value ++ flat_map (grant_due c.args.self.now.config c.args.self.now.lists) rows)) (sym none)
    ∙ c.loop-self.invariant

pub returns : goal.returns
returns c =
    let full : length c.loop-self.value ≡ 16 = search rules in
    sym (full_takes 16 c.loop-self.value _ full) ∙ c.loop-self.invariant
