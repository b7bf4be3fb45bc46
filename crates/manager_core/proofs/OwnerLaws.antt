-- Who sent a datagram: a replica's number is one of the five.
use Rattle.std.proofs.Common.{◌≡◌, sym, length}
use Rattle.vip_config.specs.declared.parts.ConfigParts.{ConfigParts}
use Rattle.vip_config.specs.declared.who.Who.{Who}
use Rattle.vip_config.specs.declared.who.Who.TheVariants as who
use Rattle.vip_config.specs.Queries.{IsOwner}
use Rattle.manager_core.specs.Seen.{IsBelowFive}

pub owner_below : (c : ConfigParts) (w : Who) → length c.replicas ≡ 5 → IsOwner c w → IsBelowFive w
owner_below c (who.Replica i) five is = rw (sym five) is
owner_below c (who.Mux i) five is = tt
owner_below c (who.Agent i) five is = tt
owner_below c (who.Machine address) five is = tt
owner_below c who.Outside five is = tt
