use Rattle.std.proofs.Common.{sym, ap, ◌∙◌, option_copied}
use Rattle.lease_rows.proofs.Linked.{next_link}
use Rattle.lease_rows.proofs.links.Links.next.Goals as goal

pub returns-in-Some-get : goal.returns-in-Some-get
returns-in-Some-get c = λ rows h.
    let link = sym (h.links c.args.above) ∙ sym c.get.ensures.value ∙ ap option_copied c.in-Some-get.is in
    next_link rows c.args.machine c.args.above c.in-Some-get.link.now link (sym c.eq.ensures ∙ c.if-eq.true)
