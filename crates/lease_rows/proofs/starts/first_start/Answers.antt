use Rattle.std.proofs.Common.{sym, ◌∙◌, arith}
use Rattle.lease_rows.proofs.StartBlocks.{first_flag-bound}
use Rattle.lease_rows.proofs.starts.first_start.Goals as goal

pub overflow_cast-result : goal.overflow_cast-result
overflow_cast-result c =
    let found = sym c.first.ensures ∙ c.in-Some.is in
    let bound = first_flag-bound c.args.place c.in-Some.start c.split_at.result.1.now found in
    let at = c.requires.found.at in
    let within = c.requires.found.within in
    omega (arith, bound, c.split_at.ensures.back_len, at, within)
