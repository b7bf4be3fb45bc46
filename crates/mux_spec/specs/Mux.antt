-- A mux: what it keeps, and the clock.
use Rattle.std.specs.Prelude.{ℕ, max, List}
use Rattle.wire_core.specs.declared.entry.Entry.{Entry}
use Rattle.control_msg.specs.declared.message.Message.TheVariants.{MuxHello}
use Rattle.vip_config.specs.declared.parts.ConfigParts.{ConfigParts}
use Rattle.vip_config.specs.Leases.{lease_rules_of}
use Rattle.node_spec.specs.Sends.{tell_all}
use Rattle.node_spec.specs.Turns.{Turn, says}
use Rattle.node_spec.specs.Boots.{boot_of, epoch_of}
use Rattle.mux_spec.specs.declared.gate.Gate.{Gate}
use Rattle.mux_spec.specs.Rows.{Rows, new_rows}
use Rattle.mux_spec.specs.Flows.{Flows, no_flows, expire}

-- The lists of a mux.
pub record Mux : Type 0 where
  pub index : ℕ
  pub gate : Gate
  pub rows : Rows
  pub flows : Flows
  pub time : ℕ

-- A mux as it opens: boot and epoch by its entries, and else nothing.
unfoldable pub opened_mux : ConfigParts → ℕ → List Entry → Mux
opened_mux c index entries = record {
  index = index;
  gate = record { boot = boot_of entries; epoch = epoch_of entries };
  rows = new_rows (lease_rules_of c);
  flows = no_flows;
  time = 0;
}

-- idle flows leave; it tells all five that it runs
abbrev pub ticks : ConfigParts → Mux → Turn Mux
ticks c m =
    says
    (record m { flows = expire m.flows m.time c.timers.flow_idle })
    (tell_all (MuxHello m.gate.boot m.gate.epoch))

-- A tick: the time is the greater of both, idle flows leave, and all five replicas hear of the mux.
unfoldable pub on_tick : ConfigParts → Mux → ℕ → Turn Mux
on_tick c m now = ticks c (record m { time = max m.time now })
