use Rattle.std.proofs.Common.{ap, ◌∙◌}
use Rattle.lru.specs.LruCache.{lru_cache}
use Rattle.flow_table.proofs.PutLaws.{put_new}
use Rattle.flow_table.proofs.lists.add.Goals as goal

pub returns-clause-ok : goal.returns-clause-ok
returns-clause-ok c =
    let flows = c.args.flows.now in
    c.in_ok-put.ensures.entries
    ∙ ap (λ es. lru_cache es flows.cap) (put_new _ c.equality_is_sameness.ensures.keys c.args.key.now flows c.args.seen c.requires)
