use Rattle.std.proofs.Common.{◌≡◌, ◌∙◌, sym, ap, true, false, Some}
use Rattle.plain_schedule.specs.declared.connections.Connection.{Connection}
use Rattle.plain_schedule.specs.Packets.{is_free, through, with_public}
use Rattle.plain_schedule.proofs.FreePorts.{first_place, free_is, later_place}
use Rattle.plain_schedule.proofs.choice.free_in.Goals as goal

pub returns-then-is_none : goal.returns-then-is_none
returns-then-is_none c =
    let found = c.with_public.ensures
    ∙ ap (λ (x : Connection). with_public c.args.table.now c.args.opened.now x.public) c.through-connection.ensures in
    let free : is_free c.args.table.now c.args.opened.now (through c.args.row.now c.args.key.now c.loop-i.i) ≡ true =
    free_is c.with_public.result _ c.is_none.result found c.is_none.ensures ∙ c.if-is_none.true in
    ap (λ (x : Connection). Some x) c.through-connection.ensures
    ∙ sym
    (first_place (is_free c.args.table.now c.args.opened.now) (through c.args.row.now c.args.key.now) c.loop-i.i
    c.loop-i-test.true free)
    ∙ c.loop-i.invariant

pub loop-i-preserved : goal.loop-i-preserved
loop-i-preserved c =
    let found = c.with_public.ensures
    ∙ ap (λ (x : Connection). with_public c.args.table.now c.args.opened.now x.public) c.through-connection.ensures in
    let taken : is_free c.args.table.now c.args.opened.now (through c.args.row.now c.args.key.now c.loop-i.i) ≡ false =
    free_is c.with_public.result _ c.is_none.result found c.is_none.ensures ∙ c.if-is_none.false in
    sym
    (later_place (is_free c.args.table.now c.args.opened.now) (through c.args.row.now c.args.key.now) c.loop-i.i
    c.loop-i-test.true taken)
    ∙ c.loop-i.invariant
