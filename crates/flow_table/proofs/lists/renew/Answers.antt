use Rattle.std.proofs.Common.{◌≡◌, ap, ◌∙◌}
use Rattle.lru.specs.LruCache.{lru_cache}
use Rattle.flow_table.proofs.PutLaws.{put_known, is_there}
use Rattle.flow_table.proofs.lists.renew.Goals as goal

pub unwrap-requires : goal.unwrap-requires
unwrap-requires c = c.put.ensures.succeeds (is_there _ c.equality_is_sameness.ensures.keys c.args.key.now c.args.flows.now.entries c.requires)

pub returns : goal.returns
returns c =
    let flows = c.args.flows.now in
    let put : c.put.new.self ≡ _ = rw c.unwrap.ensures at c.put.ensures.entries in
    put
    ∙ ap (λ es. lru_cache es flows.cap) (put_known _ c.equality_is_sameness.ensures.keys c.args.key.now flows c.args.seen c.requires)
