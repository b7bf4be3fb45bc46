use Rattle.std.proofs.Common.{rules, ◌≡◌, subst, sym, List, ap, ◌∙◌}
use Rattle.std.specs.Prelude.{insert}
use Rattle.std.specs.List.{list_any}
use Rattle.agent_spec.specs.declared.held.Held.{Held}
use Rattle.agent_ports.specs.Leases.{held_number}
use Rattle.agent_ports.specs.Order.{Ascend, SplitsAt}
use Rattle.agent_ports.proofs.Ordered.{inserted_ascend}
use Rattle.agent_ports.proofs.ranges.HeldRanges.insert.Goals as goal

pub replace-requires : goal.replace-requires
replace-requires c =
    let items : c.insert.new.self.items ≡ insert c.self.inside.items.items c.args.at c.args.h = search rules in
    inserted_ascend c.self.inside.items.items c.args.self.now c.insert.new.self.items c.args.at c.args.h
    c.self.invariant.ascend
    c.self.view_is
    c.requires.split
    c.requires.new
    items
