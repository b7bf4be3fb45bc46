use Rattle.std.proofs.Common.{◌∙◌, ◌≤◌, length, List, ℕ, sym, subst}
use Rattle.std.proofs.lemmas.List.{take_at}
use Rattle.packet_spec.specs.Headers.{header_length, ttl_of}
use Rattle.ipip.proofs.BufferLaws.{behind, lowered_behind}
use Rattle.ipip.proofs.buffer.Buf.put_lowered.Goals as goal

pub lower_inner-requires-clause-header : goal.lower_inner-requires-clause-header
lower_inner-requires-clause-header c =
    let packet = behind c.as_mut_slice.result.now c.args.outer.now c.args.packet.now (c.as_mut_slice.ensures.value
    ∙ c.fill.ensures.bytes) c.told-outer in
    subst (λ (p : List ℕ). 20 ≤ header_length p) (sym packet) c.requires.header

pub lower_inner-requires-clause-within : goal.lower_inner-requires-clause-within
lower_inner-requires-clause-within c =
    let packet = behind c.as_mut_slice.result.now c.args.outer.now c.args.packet.now (c.as_mut_slice.ensures.value
    ∙ c.fill.ensures.bytes) c.told-outer in
    subst (λ (p : List ℕ). header_length p ≤ length p) (sym packet) c.requires.within

pub lower_inner-requires-clause-hops : goal.lower_inner-requires-clause-hops
lower_inner-requires-clause-hops c =
    let packet = behind c.as_mut_slice.result.now c.args.outer.now c.args.packet.now (c.as_mut_slice.ensures.value
    ∙ c.fill.ensures.bytes) c.told-outer in
    subst (λ (p : List ℕ). 1 ≤ ttl_of p) (sym packet) c.requires.hops

pub returns : goal.returns
returns c =
    take_at c.lower_inner.new.p _ c.fill.new.out.len (c.lower_inner.auto.p ∙ c.as_mut_slice.ensures.len)
    ∙ c.lower_inner.ensures
    ∙ lowered_behind c.as_mut_slice.result.now c.args.outer.now c.args.packet.now (c.as_mut_slice.ensures.value
    ∙ c.fill.ensures.bytes) c.told-outer
