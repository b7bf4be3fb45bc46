-- Each range has one holder, and each end one connection.
use Rattle.vip_config.specs.declared.parts.ConfigParts.{ConfigParts}
use Rattle.world_spec.specs.Views.{conns, held}
use Rattle.world_spec.specs.World.{World}
use Rattle.world_laws.proofs.Single.{single}
use Rattle.world_laws.specs.Safety.{inner_end, outer_end, range_held}
use Rattle.world_safety.specs.Safety.{HasOneHolder, IsSafe}

pub one_holder : (cfg : ConfigParts) (w : World) → IsSafe cfg w → HasOneHolder w
one_holder cfg w safe = record {
  ranges = single range_held (held w) safe.ranges;
  outer = single outer_end (conns w) safe.outer;
  inner = single inner_end (conns w) safe.inner;
}
