-- The part of a mux that packets only read.
use Rattle.std.specs.Prelude.{◌≡◌, ℕ, List, is_some}
use Rattle.std.specs.List.{list_any}
use Rattle.std.specs.Map.{lookup}
use Rattle.mux_maps.specs.Entries.{same_pair}
use Rattle.mux_maps.specs.declared.leaving.Pair.{Pair}
use Rattle.mux_spec.specs.declared.service.Service.{Service}
use Rattle.mux_spec.specs.Packets.{own_address}
use Rattle.mux_spec.specs.Rows.{Rows, row_at}
use Rattle.mux_spec.specs.Services.{same_service, services_of}
use Rattle.vip_config.specs.declared.parts.ConfigParts.{ConfigParts}
use Rattle.vip_config.specs.Leases.{lease_rules_of}
use Rattle.vip_config.specs.Serving.{has_snat, is_vip}
use Rattle.wire_core.specs.declared.address.Ip4.{Ip4}
use Rattle.wire_core.specs.declared.range.Range.{Range}
use Rattle.wire_core.specs.Ranges.{is_leasable}
use Rattle.wire_core.specs.Same.{same_ip}

-- The configuration, the mux's number, and the rows.
pub record Routed : Type 0 where
  pub config : ConfigParts
  pub index : ℕ
  pub rows : Rows

-- What the indexes have is what the configuration says, and each leasable range has its entry.
pub record IsRouted (c : ConfigParts) (index : ℕ) (own : Ip4) (rows : Rows) (services : List (Service × List Ip4))
    (vips : List Ip4) (leaving : List Pair) : Type 0 where
  pub source : own ≡ own_address c index
  pub leasable : (r : Range) → is_some (row_at rows r) ≡ is_leasable (lease_rules_of c) r
  pub served : (s : Service) → lookup (same_service s) services ≡ lookup (same_service s) (services_of c)
  pub named : (a : Ip4) → list_any (same_ip a) vips ≡ is_vip c.vips a
  pub leaves : (x : Pair) → list_any (same_pair x) leaving ≡ has_snat c.vips x.vip x.machine
