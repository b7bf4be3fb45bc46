use Rattle.std.proofs.Common.{rules, ◌≡◌, Ok, Some, [], ◌∷◌, ◌++◌, ap, subst}
use Rattle.wire_core.specs.Entries.{IsEntry}
use Rattle.wire_core.specs.declared.entry.Entry.TheVariants.{Boot}
use Rattle.node_spec.specs.Bodies.{entries_of}
use Rattle.node_disk.specs.Judging.{boot_entry, index_of, judge, role_of}
use Rattle.node_core.specs.Opening.{next_boot}
use Rattle.node_core.proofs.Opens.{judged_boot}
use Rattle.node_core.proofs.node.prepare.Goals as goal

pub returns-clause-judged : goal.returns-clause-judged
returns-clause-judged g c =
    let is : c.in_ok-boot.boot ≡ next_boot c.args.bodies =
    judged_boot c.args.who c.args.bodies c.in_ok-boot.boot (search rules) in
    subst (λ n. judge c.args.who c.args.bodies ≡ Ok n) is (search rules)

pub returns-clause-core : goal.returns-clause-core
returns-clause-core g c =
    let is : c.in_ok-boot.boot ≡ next_boot c.args.bodies =
    judged_boot c.args.who c.args.bodies c.in_ok-boot.boot (search rules) in
    subst (λ n. c.in_ok-core.core
    ≡ g.C.Core.opened c.args.cfg.now c.args.who (entries_of (c.args.bodies ++ boot_entry c.args.who n ∷ []))) is
    (search rules)

pub returns-clause-entry : goal.returns-clause-entry
returns-clause-entry g c =
    let is : c.in_ok-boot.boot ≡ next_boot c.args.bodies =
    judged_boot c.args.who c.args.bodies c.in_ok-boot.boot (search rules) in
    ap Some (subst (λ n. c.in_ok-entry.entry ≡ boot_entry c.args.who n) is (search rules))

pub returns-clause-allowed : goal.returns-clause-allowed
returns-clause-allowed g c =
    let is : c.in_ok-boot.boot ≡ next_boot c.args.bodies =
    judged_boot c.args.who c.args.bodies c.in_ok-boot.boot (search rules) in
    subst (λ n. IsEntry (Boot 1 (role_of c.args.who) (index_of c.args.who) n)) is (search rules)
