use Rattle.std.proofs.Common.{rules, ◌≡◌, ◌<◌, ◌+◌, length, take, List, [], ◌∷◌, ◌++◌, arith, sym, ap, ◌∙◌}
use Rattle.std.proofs.lemmas.List.{take_more}
use Rattle.wire_core.specs.declared.outgoing.Outgoing.{Outgoing}
use Rattle.schedule_text.specs.declared.line.Line.{Line}
use Rattle.schedule_text.specs.declared.line.Line.TheVariants as line
use Rattle.world_spec.specs.Steps.{sent_lines}
use Rattle.world_model.proofs.Spreads.{sent_lines_next}
use Rattle.world_model.proofs.spreading.say_all_sent.Goals as goal

pub loop-send-preserved : goal.loop-send-preserved
loop-send-preserved c =
    let s : Outgoing = c.send-item.result in
    let xs : List Outgoing = take c.loop-send.send-index c.args.sends.now in
    let sent : c.say_sent.new.lines.items ≡ c.loop-send.lines.items ++ line.Sent c.in-Some.next c.args.from s.to s.bytes ∷ [] =
    search rules in
    let at : c.in-Some.next ≡ c.args.sent + (c.loop-send.send-index + 1) = search rules in
    let long : length xs ≡ c.loop-send.send-index = search rules in
    let lt : c.loop-send.send-index < length c.args.sends.now = search rules in
    let more : take (c.loop-send.send-index + 1) c.args.sends.now ≡ xs ++ s ∷ [] =
    take_more c.args.sends.now c.loop-send.send-index _ lt
    ∙ ap (λ (y : Outgoing). xs ++ y ∷ []) (sym c.send-item.is) in
    let number : c.in-Some.next ≡ c.args.sent + length xs + 1 = omega (arith, at, long) in
    record {
      at = at;
      lines = sent
          ∙ ap (λ (l : List Line). l ++ line.Sent c.in-Some.next c.args.from s.to s.bytes ∷ []) c.loop-send.invariant.lines
          ∙ sent_lines_next c.args.lines.now.items c.args.from c.args.sent xs s c.in-Some.next number
          ∙ ap (λ (l : List Outgoing). c.args.lines.now.items ++ sent_lines c.args.from c.args.sent l) (sym more);
    }
