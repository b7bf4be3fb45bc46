-- The mux in the run: what each of its lines says.
use Rattle.std.specs.Prelude.{ℕ, List, [], ◌∷◌, ◌≡◌}
use Rattle.wire_core.specs.declared.address.Socket.{Socket}
use Rattle.wire_core.specs.declared.entry.Entry.TheVariants.{Boot}
use Rattle.vip_config.specs.declared.parts.ConfigParts.{ConfigParts}
use Rattle.node_spec.specs.Turns.{Arrived, Ticked, Turn}
use Rattle.node_spec.specs.Steps.{step_of}
use Rattle.mux_spec.specs.Mux.{Mux, opened_mux}
use Rattle.mux_spec.specs.MuxTable.{mux_step}
use Rattle.worked_run.specs.Configs.{run_config, replica_at, agent_at, router_at}
use Rattle.worked_run.specs.Run.{hello, program, programmed, reply_in, reply_wrapped}
use Rattle.worked_run.specs.Orders.{epoch_5}
use Rattle.worked_run.specs.Steps.{sent, all_five, to_each, sends, keeps}

-- what a mux makes of a datagram, and of the time
abbrev pub mux_hears : ConfigParts → Mux → Socket → List ℕ → Turn Mux
mux_hears c m from bytes = mux_step c m (Arrived from bytes)

abbrev pub mux_ticks : ConfigParts → Mux → ℕ → Turn Mux
mux_ticks c m now = mux_step c m (Ticked now)

-- mux 0 as it opens in boot 1
abbrev pub opened_first : ConfigParts → Mux
opened_first c = opened_mux c 0 (Boot 1 2 0 1 ∷ [])

-- its tick, the row, the reply
abbrev pub first_tick : Turn Mux
first_tick = mux_ticks run_config (opened_first run_config) 1000

abbrev pub has_row : Turn Mux
has_row = mux_hears run_config first_tick.state (replica_at 0) program

abbrev pub sends_reply : Turn Mux
sends_reply = mux_hears run_config has_row.state router_at reply_in

-- It tells all five that it runs; the row is set and acknowledged, and the epoch is durable; the reply is wrapped for
-- the machine's agent.
pub record MuxLines : Type 0 where
  pub tick : step_of run_config first_tick ≡ sends (to_each all_five hello)
  pub row : step_of run_config has_row ≡ keeps epoch_5 (sends (sent (replica_at 0) programmed ∷ []))
  pub reply : step_of run_config sends_reply ≡ sends (sent agent_at reply_wrapped ∷ [])
