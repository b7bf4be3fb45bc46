use Rattle.std.proofs.Common.{rules, ◌≡◌, ◌≤◌, ◌*◌, ◌∷◌, [], ◌∙◌}
use Rattle.port_leases.specs.TableState.{rows_above}
use Rattle.paxos_spec.specs.Acceptor.{reach}
use Rattle.manager_spec.specs.Manager.{leases_of}
use Rattle.manager_log.proofs.PendingLaws.{current_more, seen_all, seen_next}
use Rattle.manager_log.proofs.pending.look.Goals as goal

pub returns-in_err-look_at : goal.returns-in_err-look_at
returns-in_err-look_at c = λ current.
    current_more _ _ _ _ _ _ (c.look_at.ensures.upto ∙ c.loop-row.invariant.upto)
    (λ n absent. c.loop-row.invariant.more n (c.look_at.ensures.others n absent)) current

pub loop-row-preserved : goal.loop-row-preserved
loop-row-preserved c =
    let walk : rows_above (leases_of c.args.log.now.rules c.args.log.now.replica.acceptor).rows c.loop-row.above
    ≡ c.in-Some.row ∷ rows_above (leases_of c.args.log.now.rules c.args.log.now.replica.acceptor).rows c.in-Some.row.n =
    search rules in
    record {
      upto = c.look_at.ensures.upto ∙ c.loop-row.invariant.upto;
      more = λ n absent. c.loop-row.invariant.more n (c.look_at.ensures.others n absent);
      seen = λ before. seen_next _ c.args.acks.now.entries c.args.peers.now c.loop-row.above _ _ c.in-Some.row walk c.look_at.ensures.others
          c.in_ok-look_at.ensures.here (c.loop-row.invariant.seen before);
    }

pub returns : goal.returns
returns c = λ current.
    let none : rows_above (leases_of c.args.log.now.rules c.args.log.now.replica.acceptor).rows c.loop-row.above ≡ [] =
    search rules in
    let within : c.saturating_mul-pending-inside.result ≤ 16 * reach c.args.log.now.replica.acceptor = search rules in
    let rows : c.pending-2.inside.rows.keys ≡ c.loop-row.pending.rows = search rules in
    record {
      within = within;
      seen = rw rows (seen_all _ c.args.acks.now.entries c.args.peers.now c.loop-row.above _ _ none (c.loop-row.invariant.seen current.seen));
    }
