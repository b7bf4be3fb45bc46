-- The machines whose connections leave from a VIP.
use Rattle.std.specs.Prelude.{ℕ, List, [], ◌∷◌}
use Rattle.wire_core.specs.declared.address.Ip4.{Ip4}
use Rattle.config_text.specs.declared.vips.VipText.{VipText}
use Rattle.vip_config.specs.Claims.{Claim, claim, claims_of}
use Rattle.vip_config.specs.Machines.{is_machine}
use Rattle.vip_config.specs.declared.place.Place.TheVariants.{Snat}

abbrev pub snat_claims : List (Ip4 × ℕ) → ℕ → ℕ → Ip4 → List (Claim Ip4 (Unit {0}))
snat_claims machines i j address = claim (Snat i j) address tt (is_machine machines address) ∷ []

abbrev pub vip_snat_claims : List (Ip4 × ℕ) → ℕ → VipText → List (Claim Ip4 (Unit {0}))
vip_snat_claims machines i vip = claims_of (snat_claims machines i) 0 vip.snat
