use Rattle.std.proofs.Common.{◌≡◌, drop}
use Rattle.serde_json.specs.View.{items_view}
use Rattle.config_text.specs.Members.{each}
use Rattle.config_text.proofs.Lists.{onto}
use Rattle.config_text.proofs.list.read_each.Given as goal

abbrev pub invariant-loop-index : goal.invariant-loop-index
invariant-loop-index g l = onto l.entries (each g.T.Entry.entry l.path l.index (items_view (drop l.index l.values)))
    ≡ each g.T.Entry.entry l.path 0 (items_view l.values)
