use Rattle.std.proofs.Common.{◌<◌, ◌≤◌, ◌*◌, ◌/◌, ◌++◌, [], ◌∷◌, length, drop, sym, subst, ◌∙◌, arith}
use Rattle.lease_rows.specs.Blocks.{IsBlocked}
use Rattle.lease_rows.proofs.EntryBlocks.{blocked-more, blocked-next, empty_block, entered, few_block}
use Rattle.lease_rows.proofs.blocks.extend.Goals as goal

pub with-requires : goal.with-requires
with-requires c =
    let j = length c.args.entries.now / 64 in
    let inside : j < length c.args.blocks.now.items = omega (arith, c.if-number-len.true, c.len.ensures) in
    few_block 64 (drop (64 * j) c.args.entries.now) c.index.result.now (omega arith) (c.index.ensures ∙ c.requires.blocks.each j _ inside)

pub returns-then-number-len-clause-blocks : goal.returns-then-number-len-clause-blocks
returns-then-number-len-clause-blocks c =
    let es = c.args.entries.now in
    let j = length es / 64 in
    let inside : j < length c.args.blocks.now.items = omega (arith, c.if-number-len.true, c.len.ensures) in
    let now = entered 64 (64 * j) es c.args.new c.index.result.now (omega arith) (omega arith)
    (c.index.ensures ∙ c.requires.blocks.each j _ inside) in
    blocked-more c.args.blocks.now.items es c.args.new j c.with.result c.requires.blocks (omega arith) (omega arith) inside (c.with.ensures ∙ now)

pub returns-else-number-len-clause-blocks : goal.returns-else-number-len-clause-blocks
returns-else-number-len-clause-blocks c =
    let es = c.args.entries.now in
    let j = length es / 64 in
    let past : length c.args.blocks.now.items ≤ j = omega (arith, c.if-number-len.false, c.len.ensures) in
    let covers = c.requires.blocks.covers in
    let now = entered 64 (64 * j) es c.args.new _ (omega arith) (omega arith) (empty_block 64 (64 * j) es (omega (arith, covers, past))) in
    subst (λ blocks. IsBlocked blocks (es ++ c.args.new ∷ [])) (sym c.push_reserved.ensures.items)
    (blocked-next c.args.blocks.now.items es c.args.new j c.with-else-number-len.result c.requires.blocks (omega arith) (omega arith) past (c.with-else-number-len.ensures ∙ now))
