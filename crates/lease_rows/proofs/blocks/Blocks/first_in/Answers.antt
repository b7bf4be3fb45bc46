use Rattle.std.proofs.Common.{◌+◌, ◌-◌, ◌*◌, ◌/◌, ◌%◌, List, drop, find, take, sym, ap, ◌∙◌, arith}
use Rattle.lease_rows.specs.declared.entries.Entry.{Entry}
use Rattle.lease_rows.specs.Blocks.{Listed, is_in}
use Rattle.lease_rows.proofs.EntryBlocks.{near, or_none, or_some}
use Rattle.lease_rows.proofs.StartBlocks.{drop_again}
use Rattle.lease_rows.proofs.blocks.Blocks.first_in.Goals as goal

pub returns-then-is_some : goal.returns-then-is_some
returns-then-is_some c =
    let entries = c.self.inside.entries.items in
    let count = 64 - c.args.i % 64 in
    let part = c.part.ensures ∙ ap (λ (es : List Entry). take count (drop c.args.i es)) c.deref.ensures.value in
    let found = sym (c.first_in-near.ensures ∙ ap (find (is_in c.args.phase)) part) in
    sym (or_some c.first_in-near.result _ (sym c.is_some.ensures ∙ c.if-is_some.true))
    ∙ near (is_in c.args.phase) count (drop c.args.i entries) c.first_in-near.result found
    ∙ ap (λ (v : Listed). find (is_in c.args.phase) (drop c.args.i v.items)) c.self.view_is

pub returns : goal.returns
returns c =
    let entries = c.self.inside.entries.items in
    let count = 64 - c.args.i % 64 in
    let next = 64 * (c.args.i / 64 + 1) in
    let part = c.part.ensures ∙ ap (λ (es : List Entry). take count (drop c.args.i es)) c.deref.ensures.value in
    let found = sym (c.first_in-near.ensures ∙ ap (find (is_in c.args.phase)) part) in
    let far = ap (find (is_in c.args.phase)) (drop_again c.args.i count next entries (omega arith)) in
    c.first_from.ensures ∙ ap (λ (es : List Entry). find (is_in c.args.phase) (drop next es)) c.deref-3.ensures.value ∙ sym far
    ∙ sym (or_none c.first_in-near.result _ (sym c.is_some.ensures ∙ c.if-is_some.false))
    ∙ near (is_in c.args.phase) count (drop c.args.i entries) c.first_in-near.result found
    ∙ ap (λ (v : Listed). find (is_in c.args.phase) (drop c.args.i v.items)) c.self.view_is
