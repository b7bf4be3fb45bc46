use Rattle.std.proofs.Common.{◌≡◌, ℕ, false, length}
use Rattle.port_leases.specs.TableState.{rows_above}
use Rattle.manager_spec.specs.Manager.{leases_of}
use Rattle.manager_log.specs.Pending.{SeenTo, has}
use Rattle.manager_log.proofs.pending.look.Given as goal

abbrev pub invariant-loop-row : goal.invariant-loop-row
invariant-loop-row l = record {
  upto : l.pending.upto ≡ l.fn.pending.upto;
  more : (n : ℕ) → has l.pending.rows n ≡ false → has l.fn.pending.rows n ≡ false;
  seen : SeenTo l.fn.pending.upto l.fn.pending.rows (leases_of l.fn.log.rules l.fn.log.replica.acceptor).rows l.fn.acks.entries l.fn.peers
      → SeenTo l.above l.pending.rows (leases_of l.fn.log.rules l.fn.log.replica.acceptor).rows l.fn.acks.entries l.fn.peers;
}

abbrev pub decreases-loop-row : goal.decreases-loop-row
decreases-loop-row l = length (rows_above (leases_of l.fn.log.rules l.fn.log.replica.acceptor).rows l.above)
