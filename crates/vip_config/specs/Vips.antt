-- Addresses and ports of VIPs.
use Rattle.std.specs.Prelude.{ℕ, suc, ◌+◌, ◌%◌, ◌^◌, ◌<◌, ◌==◌, nat_le, nat_lt, Bool, not, ◌&&◌, List, [], ◌∷◌, Option}
use Rattle.std.specs.Prelude.{Some, None, if◌then◌else◌}
use Rattle.std.specs.Option.{option_or}
use Rattle.wire_core.specs.declared.address.Ip4.{Ip4}
use Rattle.config_text.specs.declared.vips.VipText.{VipText}
use Rattle.vip_config.specs.Claims.{Claim, claim}
use Rattle.vip_config.specs.Machines.{is_machine}
use Rattle.vip_config.specs.declared.place.Place.{Place}
use Rattle.vip_config.specs.declared.place.Place.TheVariants.{VipAddress, Low, High}

-- no VIP's address is a machine's
abbrev pub vip_claims : List (Ip4 × ℕ) → ℕ → VipText → List (Claim Ip4 (Unit {0}))
vip_claims machines i vip = claim (VipAddress i) vip.address tt (not (is_machine machines vip.address)) ∷ []

abbrev pub is_low : ℕ → Bool
is_low low = (low % 8 == 0) && nat_le 1024 low && nat_le low 65528

abbrev pub is_high : ℕ → ℕ → Bool
is_high low high = nat_le high 65535 && ((high + 1) % 8 == 0) && nat_lt low high

abbrev pub wrong_port : ℕ → VipText → Option Place
wrong_port i vip =
    if not (is_low vip.low) then Some (Low i) else if not (is_high vip.low vip.high) then Some (High i) else None

-- the first `low` or `high` that isn't as it must be
abbrev pub first_wrong_port : ℕ → List VipText → Option Place
first_wrong_port i [] = None
first_wrong_port i (vip ∷ vips) = option_or (wrong_port i vip) (first_wrong_port (suc i) vips)

-- the ports are port numbers
abbrev pub HasPorts : VipText → Type 0
HasPorts vip = (vip.low < 2 ^ 16) × (vip.high < 2 ^ 16)
