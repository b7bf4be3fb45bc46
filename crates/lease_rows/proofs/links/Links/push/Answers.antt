use Rattle.std.proofs.Common.{ap, refl, unwrap_or}
use Rattle.indexmap.specs.IndexMap.{get}
use Rattle.lease_rows.specs.Links.{no_ends, with_last}
use Rattle.lease_rows.specs.Rows.{same_address}
use Rattle.lease_rows.proofs.Linked.{ends_to, linked-push}
use Rattle.lease_rows.proofs.links.Links.push.Goals as goal

pub returns-clause-linked : goal.returns-clause-linked
returns-clause-linked c = λ rows row number machine ascend below h.
    let was = unwrap_or (get same_address c.args.self.now.ends c.args.machine) no_ends in
    let before = ends_to was.first c.put_last-previous.result in
    linked-push rows row ascend (rw number below) _ _ _ _ _ before (with_last c.args.n before) h c.args.n c.args.machine number machine
    (record {
      was = ap (ends_to was.first) c.put_last-previous.ensures.last;
      next = c.set_next.ensures.links;
      put = c.put_link.ensures.links;
      first = refl;
      last = refl;
      ended = c.put_last-previous.ensures.ends;
    })
