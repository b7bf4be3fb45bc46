-- Endpoints and the machines that serve them.
use Rattle.std.specs.Prelude.{ℕ, ◌==◌, Bool, true, false, ◌&&◌, List, [], ◌∷◌}
use Rattle.wire_core.specs.declared.address.Ip4.{Ip4}
use Rattle.wire_core.specs.declared.flow.Proto.{Proto}
use Rattle.wire_core.specs.Same.{same_proto}
use Rattle.config_text.specs.declared.vips.Endpoint.{Endpoint}
use Rattle.config_text.specs.declared.vips.Member.{Member}
use Rattle.config_text.specs.declared.vips.VipText.{VipText}
use Rattle.vip_config.specs.Claims.{Claim, claim, claims_of}
use Rattle.vip_config.specs.Machines.{is_machine}
use Rattle.vip_config.specs.declared.endpoints.EndpointKey.{EndpointKey}
use Rattle.vip_config.specs.declared.endpoints.EndpointKey.TheVariants.{Port, MachinePort, Machine}
use Rattle.vip_config.specs.declared.place.Place.TheVariants.{Endpoint as endpoint_at, Member as member_at}
use Rattle.vip_config.specs.declared.place.Place.TheVariants.{MemberAddress}

abbrev pub same_endpoint_key : EndpointKey → EndpointKey → Bool
same_endpoint_key (Port v p n) (Port w q m) = (v == w) && same_proto p q && (n == m)
same_endpoint_key (MachinePort p a n) (MachinePort q b m) = same_proto p q && (a.0 == b.0) && (n == m)
same_endpoint_key (Machine v e a) (Machine w f b) = (v == w) && (e == f) && (a.0 == b.0)
same_endpoint_key (Port v p n) (MachinePort q b m) = false
same_endpoint_key (Port v p n) (Machine w f b) = false
same_endpoint_key (MachinePort p a n) (Port w q m) = false
same_endpoint_key (MachinePort p a n) (Machine w f b) = false
same_endpoint_key (Machine v e a) (Port w q m) = false
same_endpoint_key (Machine v e a) (MachinePort q b m) = false

-- a machine of an endpoint: first the object, then its address
abbrev pub member_claims : List (Ip4 × ℕ) → ℕ → ℕ → Proto → ℕ → Member → List (Claim EndpointKey (Unit {0}))
member_claims machines i j proto k member =
    claim (member_at i j k) (MachinePort proto member.address member.port) tt true
    ∷ claim (MemberAddress i j k) (Machine i j member.address) tt (is_machine machines member.address)
    ∷ []

abbrev pub endpoint_claims : List (Ip4 × ℕ) → ℕ → ℕ → Endpoint → List (Claim EndpointKey (Unit {0}))
endpoint_claims machines i j endpoint =
    claim (endpoint_at i j) (Port i endpoint.proto endpoint.port) tt true
    ∷ claims_of (member_claims machines i j endpoint.proto) 0 endpoint.machines

abbrev pub vip_endpoint_claims : List (Ip4 × ℕ) → ℕ → VipText → List (Claim EndpointKey (Unit {0}))
vip_endpoint_claims machines i vip = claims_of (endpoint_claims machines i) 0 vip.endpoints
