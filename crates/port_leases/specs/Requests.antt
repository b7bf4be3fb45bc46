-- A machine's last request, as the table tells of it.
use Rattle.wire_core.specs.declared.address.Ip4.{Ip4}
use Rattle.lease_spec.specs.Table.{Last}
use Rattle.port_leases.specs.declared.requests.Request.{Request}

abbrev pub last_with : Ip4 → Request → Last
last_with machine r = record { machine = machine; boot = r.boot; seq = r.seq; outcome = r.outcome }
