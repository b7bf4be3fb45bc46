use Rattle.std.proofs.Common.{rules, ◌≡◌, ◌<◌, ◌≤◌, ◌+◌, ◌∷◌, length, drop, sym, ap, ◌∙◌, arith}
use Rattle.std.specs.Prelude.{string_bytes}
use Rattle.std.proofs.lemmas.List.{drop_more}
use Rattle.std.proofs.lemmas.Result.{err_from_is_err_and}
use Rattle.schedule_text.specs.declared.event.Event.{Event}
use Rattle.world_nodes.specs.Sites.{deciding}
use Rattle.world_model.specs.Sound.{world_of}
use Rattle.world_model.proofs.Advances.{delivery_full, delivery_room, delivery_text, drop_past, event_full, event_room, event_text, fewer_steps, no_room_wanted, no_text}
use Rattle.world_model.proofs.advancing.advance.Goals as goal

pub returns-in_err-progress-clause-full : goal.returns-in_err-progress-clause-full
returns-in_err-progress-clause-full g c =
    let q = err_from_is_err_and c.from_residual.result c.from_residual.ensures.1 in
    rw (q.1, q.2) (delivery_full (deciding g.C.Core.step g.C.Core.written) g.C.Core.opened c.args.cfg.now (world_of c.args.world.now) c.args.progress.now.left (drop c.args.progress.now.at c.args.events.now)
    c.in_err-progress.field-0.0 c.in_err-progress.ensures.full)

pub returns-then-begun-clause-text : goal.returns-then-begun-clause-text
returns-then-begun-clause-text g c =
    delivery_text (deciding g.C.Core.step g.C.Core.written) g.C.Core.opened c.args.cfg.now (world_of c.args.world.now) (world_of c.deliver_next.new.world)
    c.args.progress.now.left c.in_ok-progress.field-0 (drop c.args.progress.now.at c.args.events.now) (string_bytes c.args.text.now)
    (string_bytes c.deliver_next.new.text) c.in_ok-progress.ensures.text c.in_ok-progress.ensures.world

pub returns-then-begun-clause-room : goal.returns-then-begun-clause-room
returns-then-begun-clause-room g c =
    delivery_room (deciding g.C.Core.step g.C.Core.written) g.C.Core.opened c.args.cfg.now (world_of c.args.world.now) (world_of c.deliver_next.new.world)
    c.args.progress.now.left c.in_ok-progress.field-0 (drop c.args.progress.now.at c.args.events.now) c.in_ok-progress.ensures.room
    c.in_ok-progress.ensures.world

pub returns-then-begun-clause-less : goal.returns-then-begun-clause-less
returns-then-begun-clause-less g c =
    let less = c.in_ok-progress.ensures.less in
    λ is. omega (arith, less)

pub returns-then-over-clause-done : goal.returns-then-over-clause-done
returns-then-over-clause-done g c =
    let past : length c.args.events.now ≤ c.args.progress.now.at = search rules in
    let none : c.args.progress.now.left ≡ 0 = search rules in
    λ is. no_text (deciding g.C.Core.step g.C.Core.written) g.C.Core.opened c.args.cfg.now (world_of c.args.world.now) c.args.progress.now.left
    (drop c.args.progress.now.at c.args.events.now) none (drop_past c.args.events.now c.args.progress.now.at past)

pub returns-then-over-clause-none : goal.returns-then-over-clause-none
returns-then-over-clause-none g c =
    let past : length c.args.events.now ≤ c.args.progress.now.at = search rules in
    let none : c.args.progress.now.left ≡ 0 = search rules in
    λ is. no_room_wanted (deciding g.C.Core.step g.C.Core.written) g.C.Core.opened c.args.cfg.now (world_of c.args.world.now) c.args.progress.now.left
    (drop c.args.progress.now.at c.args.events.now) none (drop_past c.args.events.now c.args.progress.now.at past)

pub returns-in_err-progress-2-clause-full : goal.returns-in_err-progress-2-clause-full
returns-in_err-progress-2-clause-full g c =
    let q = err_from_is_err_and c.from_residual-in_err-progress-2.result c.from_residual-in_err-progress-2.ensures.1 in
    let lt : c.args.progress.now.at < length c.args.events.now = search rules in
    let split : drop c.args.progress.now.at c.args.events.now ≡ c.index-events-progress.result ∷ drop (c.args.progress.now.at + 1) c.args.events.now =
    drop_more c.args.events.now c.args.progress.now.at _ lt
    ∙ ap (λ (e : Event). e ∷ drop (c.args.progress.now.at + 1) c.args.events.now) (sym c.index-events-progress.is) in
    let none : c.args.progress.now.left ≡ 0 = search rules in
    rw (q.1, q.2) (event_full (deciding g.C.Core.step g.C.Core.written) g.C.Core.opened c.args.cfg.now (world_of c.args.world.now) c.args.progress.now.left c.index-events-progress.result
    (drop c.args.progress.now.at c.args.events.now) (drop (c.args.progress.now.at + 1) c.args.events.now) c.in_err-progress-2.field-0.0 none split c.in_err-progress-2.ensures.full)

pub returns-clause-text : goal.returns-clause-text
returns-clause-text g c =
    let lt : c.args.progress.now.at < length c.args.events.now = search rules in
    let split : drop c.args.progress.now.at c.args.events.now ≡ c.index-events-progress.result ∷ drop (c.args.progress.now.at + 1) c.args.events.now =
    drop_more c.args.events.now c.args.progress.now.at _ lt
    ∙ ap (λ (e : Event). e ∷ drop (c.args.progress.now.at + 1) c.args.events.now) (sym c.index-events-progress.is) in
    let none : c.args.progress.now.left ≡ 0 = search rules in
    event_text (deciding g.C.Core.step g.C.Core.written) g.C.Core.opened c.args.cfg.now (world_of c.args.world.now) (world_of c.event_next.new.world)
    c.args.progress.now.left c.in_ok-progress-2.field-0 c.index-events-progress.result (drop c.args.progress.now.at c.args.events.now) (drop (c.args.progress.now.at + 1) c.args.events.now)
    (string_bytes c.args.text.now) (string_bytes c.event_next.new.text) none split c.in_ok-progress-2.ensures.text
    c.in_ok-progress-2.ensures.world

pub returns-clause-room : goal.returns-clause-room
returns-clause-room g c =
    let lt : c.args.progress.now.at < length c.args.events.now = search rules in
    let split : drop c.args.progress.now.at c.args.events.now ≡ c.index-events-progress.result ∷ drop (c.args.progress.now.at + 1) c.args.events.now =
    drop_more c.args.events.now c.args.progress.now.at _ lt
    ∙ ap (λ (e : Event). e ∷ drop (c.args.progress.now.at + 1) c.args.events.now) (sym c.index-events-progress.is) in
    let none : c.args.progress.now.left ≡ 0 = search rules in
    event_room (deciding g.C.Core.step g.C.Core.written) g.C.Core.opened c.args.cfg.now (world_of c.args.world.now) (world_of c.event_next.new.world)
    c.args.progress.now.left c.in_ok-progress-2.field-0 c.index-events-progress.result (drop c.args.progress.now.at c.args.events.now) (drop (c.args.progress.now.at + 1) c.args.events.now) none split
    c.in_ok-progress-2.ensures.room c.in_ok-progress-2.ensures.world

pub returns-clause-less : goal.returns-clause-less
returns-clause-less g c =
    let lt : c.args.progress.now.at < length c.args.events.now = search rules in
    let split : drop c.args.progress.now.at c.args.events.now ≡ c.index-events-progress.result ∷ drop (c.args.progress.now.at + 1) c.args.events.now =
    drop_more c.args.events.now c.args.progress.now.at _ lt
    ∙ ap (λ (e : Event). e ∷ drop (c.args.progress.now.at + 1) c.args.events.now) (sym c.index-events-progress.is) in
    let none : c.args.progress.now.left ≡ 0 = search rules in
    λ is. fewer_steps c.args.progress.now.left c.in_ok-progress-2.field-0 c.index-events-progress.result (drop c.args.progress.now.at c.args.events.now) (drop (c.args.progress.now.at + 1) c.args.events.now) split c.in_ok-progress-2.ensures.less
