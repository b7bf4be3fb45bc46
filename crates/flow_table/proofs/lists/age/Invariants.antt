use Rattle.std.proofs.Common.{◌≡◌, length}
use Rattle.mux_spec.specs.Flows.{still}
use Rattle.flow_table.specs.Tables.{Descends}
use Rattle.flow_table.proofs.lists.age.Given as goal

abbrev pub invariant-oldest : goal.invariant-oldest
invariant-oldest l = record {
  cap : l.flows.cap ≡ l.fn.flows.cap;
  order : Descends l.now l.flows.entries;
  left : still l.now l.idle l.flows.entries ≡ still l.now l.idle l.fn.flows.entries;
}

abbrev pub decreases-oldest : goal.decreases-oldest
decreases-oldest l = length l.flows.entries
