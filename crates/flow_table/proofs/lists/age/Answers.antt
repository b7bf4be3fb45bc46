use Rattle.std.proofs.Common.{◌-◌, length, ap, sym, ◌∙◌}
use Rattle.lru.specs.LruCache.{lru_cache}
use Rattle.mux_spec.specs.Flows.{still}
use Rattle.flow_table.proofs.TimeLaws.{descends_take, none_idle, one_less}
use Rattle.flow_table.proofs.lists.age.Goals as goal

pub oldest-preserved : goal.oldest-preserved
oldest-preserved c =
    let idle = sym c.is_oldest_idle.ensures ∙ c.oldest-test.true in
    let flows = c.oldest.flows in
    let popped = c.pop_lru.ensures.entries in
    record {
      cap = ap (λ l. l.cap) popped ∙ c.oldest.invariant.cap;
      order = rw popped (descends_take (length flows.entries - 1) c.args.now flows.entries c.oldest.invariant.order);
      left = ap (λ l. still c.args.now c.args.idle l.entries) popped ∙ one_less c.args.now c.args.idle flows.entries idle ∙ c.oldest.invariant.left;
    }

pub returns : goal.returns
returns c =
    let fresh = sym c.is_oldest_idle.ensures ∙ c.oldest-test.false in
    let flows = c.oldest.flows in
    let left = sym (none_idle c.args.now c.args.idle c.args.now flows.entries c.oldest.invariant.order fresh) ∙ c.oldest.invariant.left in
    ap (λ es. lru_cache es flows.cap) left ∙ ap (λ cap. lru_cache (still c.args.now c.args.idle c.args.flows.now.entries) cap) c.oldest.invariant.cap
