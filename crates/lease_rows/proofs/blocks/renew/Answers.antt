use Rattle.std.proofs.Common.{◌<◌, ◌*◌, ◌/◌, length, ◌∙◌, arith}
use Rattle.lease_rows.proofs.EntryBlocks.{blocked-put, counts_in, recounted}
use Rattle.lease_rows.proofs.blocks.renew.Goals as goal

pub changed-requires : goal.changed-requires
changed-requires c =
    let j = c.args.i / 64 in
    let covers = c.requires.blocks.covers in
    let within = c.requires.within in
    let inside : j < length c.args.blocks.now.items = omega (arith, covers, within) in
    counts_in 64 (64 * j) c.args.i c.args.entries.now _ c.index.result.now (omega arith) (omega arith) (omega arith) within
    (c.index.ensures ∙ c.requires.blocks.each j _ inside)

pub returns-clause-blocks : goal.returns-clause-blocks
returns-clause-blocks c =
    let j = c.args.i / 64 in
    let es = c.args.entries.now in
    let covers = c.requires.blocks.covers in
    let within = c.requires.within in
    let inside : j < length c.args.blocks.now.items = omega (arith, covers, within) in
    let now = recounted 64 (64 * j) c.args.i es c.args.new _ c.index.result.now c.changed.result (omega arith) (omega arith) within
    (c.index.ensures ∙ c.requires.blocks.each j _ inside) c.changed.ensures in
    blocked-put c.args.blocks.now.items es c.args.i c.args.new j c.changed.result c.requires.blocks (omega arith) (omega arith) now
