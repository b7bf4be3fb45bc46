use Rattle.std.proofs.Common.{refl, sym, unwrap_or, ◌∙◌}
use Rattle.indexmap.specs.IndexMap.{get}
use Rattle.lease_rows.specs.Links.{no_ends, without_link}
use Rattle.lease_rows.specs.Rows.{same_address}
use Rattle.lease_rows.proofs.Linked.{linked-without, without_link-same}
use Rattle.lease_rows.proofs.links.Links.remove.Goals as goal

pub returns-clause-linked : goal.returns-clause-linked
returns-clause-linked c = λ rows row ascend there h.
    let link = c.in-Some.link in
    let found = get same_address c.args.self.now.ends link.machine in
    linked-without rows _ _ _ _ _ _ (unwrap_or found no_ends) (without_link link (unwrap_or found no_ends)) link ascend h c.args.n row there
    (sym c.take_link.ensures.link ∙ c.in-Some.is)
    (record {
      dropped = c.take_link.ensures.links;
      next = c.set_next.ensures.links;
      previous = c.set_previous.ensures.links;
      was = refl;
      first = refl;
      last = refl;
      ended = without_link-same link (get same_address c.args.self.now.ends) (get same_address c.cut.new.ends) c.cut.ensures.ends;
    })
