use Rattle.std.proofs.Common.{◌≡◌, map, filter, take}
use Rattle.manager_spec.specs.Known.{has_boot, is_acked}
use Rattle.manager_spec.specs.Proposal.{mux_boot}
use Rattle.manager_log.proofs.holding.collect_holders.Given as goal

abbrev pub invariant-loop-peer : goal.invariant-loop-peer
invariant-loop-peer l = l.pairs.items
    ≡ map mux_boot (filter (is_acked l.marks.programmed) (filter has_boot (take l.peer-index l.peers)))
