use Rattle.std.proofs.Common.{take, ap, ◌∙◌}
use Rattle.std.proofs.lemmas.List.{take_min}
use Rattle.lease_rows.specs.Starts.{any_set}
use Rattle.lease_rows.proofs.starts.any_in_block.Goals as goal

pub returns : goal.returns
returns c =
    let flags = c.split_at-2.ensures.front ∙ ap (λ n. take n c.split_at.result.1.now) c.min.ensures in
    c.any.ensures ∙ ap any_set (flags ∙ take_min 64 c.split_at.result.1.now ∙ ap (take 64) c.split_at.ensures.back)
