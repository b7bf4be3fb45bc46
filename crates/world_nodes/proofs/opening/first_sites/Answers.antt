use Rattle.std.proofs.Common.{rules, ◌≡◌, [], ◌∷◌, ◌++◌, sym, subst}
use Rattle.world_nodes.specs.Disks.{ArePlaces, IsPlace}
use Rattle.world_nodes.specs.Firsts.{named}
use Rattle.world_nodes.proofs.Firsts.{one_more}
use Rattle.world_nodes.proofs.Lists.{places_more}
use Rattle.world_nodes.proofs.opening.first_sites.Goals as goal

pub loop-i-preserved : goal.loop-i-preserved
loop-i-preserved g c =
    let items : c.push.new.self.items ≡ c.loop-i.sites.items ++ c.in_ok-first_site.field-0 ∷ [] = search rules in
    let is : IsPlace c.in_ok-first_site.field-0.place = search rules in
    let node : c.named.result ≡ named c.args.kind c.loop-i.i = search rules in
    record {
      places = subst ArePlaces (sym items) (places_more c.loop-i.sites.items c.in_ok-first_site.field-0 c.loop-i.invariant.places is);
      sites = one_more g.C.Core.opened c.args.cfg.now (named c.args.kind) c.loop-i.i c.named.result c.loop-i.sites.items
          c.push.new.self.items c.in_ok-first_site.field-0 items node c.in_ok-first_site.ensures.site c.loop-i.invariant.sites;
    }
