-- The path of each member.
use Rattle.std.specs.Prelude.{ℕ, List, ◌++◌, codes}
use Rattle.std.specs.Fmt.{decimal}
use Rattle.vip_config.specs.declared.place.Place.{Place}
use Rattle.vip_config.specs.declared.place.Place.TheVariants.{Router, Replica, Mux, AgentSocket, MachineAddress}
use Rattle.vip_config.specs.declared.place.Place.TheVariants.{MachineAttach, VipAddress, Low, High, Snat, Endpoint}
use Rattle.vip_config.specs.declared.place.Place.TheVariants.{Member, MemberAddress}

unfoldable pub vip_path : ℕ → List ℕ
vip_path i = codes "vips[" ++ decimal i ++ codes "]"

unfoldable pub endpoint_path : ℕ → ℕ → List ℕ
endpoint_path i j = vip_path i ++ (codes ".endpoints[" ++ decimal j ++ codes "]")

abbrev pub path : Place → List ℕ
path Router = codes "router"
path (Replica i) = codes "replicas[" ++ decimal i ++ codes "]"
path (Mux i) = codes "muxes[" ++ decimal i ++ codes "]"
path (AgentSocket i) = codes "agents[" ++ decimal i ++ codes "].socket"
path (MachineAddress i j) = codes "agents[" ++ decimal i ++ codes "].machines[" ++ decimal j ++ codes "].address"
path (MachineAttach i j) = codes "agents[" ++ decimal i ++ codes "].machines[" ++ decimal j ++ codes "].attach"
path (VipAddress i) = codes "vips[" ++ decimal i ++ codes "].address"
path (Low i) = codes "vips[" ++ decimal i ++ codes "].low"
path (High i) = codes "vips[" ++ decimal i ++ codes "].high"
path (Snat i j) = codes "vips[" ++ decimal i ++ codes "].snat[" ++ decimal j ++ codes "]"
path (Endpoint i j) = endpoint_path i j
path (Member i j k) = endpoint_path i j ++ codes ".machines[" ++ decimal k ++ codes "]"
path (MemberAddress i j k) = endpoint_path i j ++ codes ".machines[" ++ decimal k ++ codes "].address"
