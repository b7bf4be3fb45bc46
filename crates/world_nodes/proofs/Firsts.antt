-- One node more is opened.
use Rattle.std.proofs.Common.{◌≡◌, ℕ, suc, ◌+◌, List, [], ◌∷◌, ◌++◌, map, ap, ◌∙◌, arith}
use Rattle.std.proofs.lemmas.List.{map-append}
use Rattle.wire_core.specs.declared.node.NodeId.{NodeId}
use Rattle.vip_config.specs.declared.parts.ConfigParts.{ConfigParts}
use Rattle.world_nodes.specs.declared.site.Site.{Site}
use Rattle.world_nodes.specs.Disks.{site_of}
use Rattle.world_nodes.specs.Firsts.{first_sites}
use Rattle.world_nodes.specs.Sites.{Opening, SiteState, first_site}

pub one_more : {C : Type 0} (recover : Opening C) (cfg : ConfigParts) (named : ℕ → NodeId) (i : ℕ) (x : NodeId)
    (before after : List (Site C)) (s : Site C) → after ≡ before ++ s ∷ [] → x ≡ named i
    → site_of s ≡ first_site recover cfg x → map site_of before ≡ first_sites recover cfg named i
    → map site_of after ≡ first_sites recover cfg named (i + 1)
one_more {C} recover cfg named i x before after s pushed node one so_far =
    let e : suc i ≡ i + 1 = omega arith in
    ap (map site_of) pushed
    ∙ map-append site_of before (s ∷ [])
    ∙ ap (λ (l : List (SiteState C)). l ++ site_of s ∷ []) so_far
    ∙ ap (λ (t : SiteState C). first_sites recover cfg named i ++ t ∷ []) one
    ∙ ap (λ (y : NodeId). first_sites recover cfg named i ++ first_site recover cfg y ∷ []) node
    ∙ ap (first_sites recover cfg named) e
