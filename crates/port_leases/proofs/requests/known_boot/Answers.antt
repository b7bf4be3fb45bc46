use Rattle.std.proofs.Common.{sym, ap, ◌∙◌, option_copied, unwrap_or}
use Rattle.port_leases.proofs.RequestLists.{known_at}
use Rattle.port_leases.proofs.requests.known_boot.Goals as goal

pub returns-in-Some : goal.returns-in-Some
returns-in-Some c =
    ap (λ o. unwrap_or o 0) (sym (ap option_copied c.in-Some.is) ∙ c.get.ensures.value) ∙ known_at c.args.agent c.args.known.now.entries

pub returns-in-None : goal.returns-in-None
returns-in-None c =
    ap (λ o. unwrap_or o 0) (sym (ap option_copied c.in-None.is) ∙ c.get.ensures.value) ∙ known_at c.args.agent c.args.known.now.entries
