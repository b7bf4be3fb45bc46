use Rattle.std.proofs.Common.{ap, ◌∙◌, ◌++◌, List, ℕ}
use Rattle.std.specs.Prelude.{codes}
use Rattle.std.specs.Fmt.{decimal}
use Rattle.std.proofs.lemmas.List.{append_assoc}
use Rattle.vip_config.specs.Places.{vip_path, endpoint_path}
use Rattle.vip_config.proofs.place.write_endpoint.Goals as goal

pub returns : goal.returns
unfolding endpoint_path
returns c =
    c.in_ok-write.ensures.bytes
    ∙ ap (λ (l : List ℕ). l ++ (codes ".endpoints[" ++ decimal c.args.j ++ codes "]")) c.in_ok-write_vip.ensures
    ∙ append_assoc _ (vip_path c.args.i) (codes ".endpoints[" ++ decimal c.args.j ++ codes "]")
