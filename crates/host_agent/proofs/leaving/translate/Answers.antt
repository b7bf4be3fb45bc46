use Rattle.std.proofs.Common.{rules, ◌≡◌, ◌∙◌, ◌≤◌, sym, length, arith}
use Rattle.packet_spec.specs.Headers.{IsWhole, whole}
use Rattle.packet_spec.specs.Edits.{translate_source, translated}
use Rattle.host_agent.proofs.Whole.{whole_again, translated_whole}
use Rattle.host_agent.proofs.leaving.translate.Goals as goal

pub returns-clause-whole : goal.returns-clause-whole
returns-clause-whole c = λ w.
    let len : length c.translate_source.new.p ≡ length c.args.packet.now = search rules in
    let few = w.most in
    let same : whole c.translate_source.new.p ≡ c.translate_source.new.p =
    c.translate_source.ensures.front ∙ translated_whole c.args.c.now.vip c.args.c.now.port c.args.packet.now w
    ∙ sym c.translate_source.ensures.packet in
    whole_again c.translate_source.new.p c.translate_source.ensures.fine same (omega arith)
