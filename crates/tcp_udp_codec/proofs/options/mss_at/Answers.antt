use Rattle.std.proofs.Common.{◌≡◌, ◌+◌, ◌-◌, suc, sym, ◌∙◌, arith}
use Rattle.tcp_udp_codec.proofs.OptionLaws.{mss_none, mss_next}
use Rattle.packet_spec.specs.Options.{mss_at}
use Rattle.tcp_udp_codec.proofs.options.mss_at.Goals as goal

pub loop-preserved : goal.loop-preserved
loop-preserved c =
    let left : suc (40 - (c.loop.counter + 1)) ≡ 40 - c.loop.counter = omega arith in
    let step = mss_next _ _ c.args.segment.now c.data_offset-end.result c.loop.at c.in-Next.next left
    (sym c.in-Next.ensures.step) in
    sym step ∙ c.loop.invariant

pub returns-clause-place : goal.returns-clause-place
unfolding mss_at
returns-clause-place c =
    let over : 40 - c.loop.counter ≡ 0 = omega arith in
    let none = mss_none c.args.segment.now c.data_offset-end.result c.loop.at in
    let whole = rw over at c.loop.invariant in
    sym none ∙ whole
