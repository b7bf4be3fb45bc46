-- The indexes of a mux as it opens are those of its configuration.
use Rattle.std.proofs.Common.{◌≡◌, ℕ, List, is_some, slice_get, ap, sym, subst, ◌∙◌}
use Rattle.std.specs.List.{flat_map, list_any}
use Rattle.std.specs.Map.{lookup}
use Rattle.wire_core.specs.declared.address.Ip4.{Ip4}
use Rattle.wire_core.specs.declared.address.Socket.{Socket}
use Rattle.wire_core.specs.declared.range.Range.{Range}
use Rattle.wire_core.specs.declared.rules.LeaseRules.{LeaseRules}
use Rattle.wire_core.specs.Ranges.{is_leasable}
use Rattle.wire_core.specs.Same.{same_ip}
use Rattle.vip_config.specs.declared.parts.ConfigParts.{ConfigParts}
use Rattle.vip_config.specs.declared.parts.VipConf.{VipConf}
use Rattle.vip_config.specs.Leases.{lease_rules_of}
use Rattle.vip_config.specs.Serving.{has_snat, is_vip}
use Rattle.mux_spec.specs.declared.service.Service.{Service}
use Rattle.mux_spec.specs.Packets.{own_address, socket_ip}
use Rattle.mux_spec.specs.Rows.{Rows, row_at}
use Rattle.mux_spec.specs.Services.{same_service, services_of, vip_services}
use Rattle.mux_maps.specs.Entries.{same_pair}
use Rattle.mux_maps.specs.declared.leaving.Pair.{Pair}
use Rattle.mux_core.specs.Routed.{IsRouted}

pub routed : (c copied : ConfigParts) (index : ℕ) (own : Ip4) (muxes : List Socket) (rules : LeaseRules) (rows : Rows)
    (services : List (Service × List Ip4)) (v1 v2 v3 : List VipConf) (vips : List Ip4) (leaving : List Pair)
    → copied ≡ c → muxes ≡ c.muxes → own ≡ socket_ip (slice_get muxes index)
    → rules ≡ lease_rules_of c → ((r : Range) → is_some (row_at rows r) ≡ is_leasable rules r)
    → v1 ≡ c.vips
    → ((s : Service) → lookup (same_service s) services ≡ lookup (same_service s) (flat_map vip_services v1))
    → v2 ≡ c.vips → ((a : Ip4) → list_any (same_ip a) vips ≡ is_vip v2 a)
    → v3 ≡ c.vips → ((x : Pair) → list_any (same_pair x) leaving ≡ has_snat v3 x.vip x.machine)
    → IsRouted copied index own rows services vips leaving
unfolding own_address services_of
routed c copied index own muxes rules rows services v1 v2 v3 vips leaving ec em eo er hr e1 h1 e2 h2 e3 h3 =
    subst (λ (k : ConfigParts). IsRouted k index own rows services vips leaving) (sym ec) (record {
      source = eo ∙ ap (λ (ms : List Socket). socket_ip (slice_get ms index)) em;
      leasable = λ r. hr r ∙ ap (λ (rs : LeaseRules). is_leasable rs r) er;
      served = λ s. h1 s ∙ ap (λ (vs : List VipConf). lookup (same_service s) (flat_map vip_services vs)) e1;
      named = λ a. h2 a ∙ ap (λ (vs : List VipConf). is_vip vs a) e2;
      leaves = λ x. h3 x ∙ ap (λ (vs : List VipConf). has_snat vs x.vip x.machine) e3;
    })
