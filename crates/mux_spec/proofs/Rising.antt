-- What never falls.
use Rattle.std.proofs.Common.{refl, inl, ℕ, Bool, [], ◌∷◌, Some, None, unwrap_or}
use Rattle.std.proofs.Common.{◌≤◌, arith}
use Rattle.std.specs.Map.{lookup, set_value}
use Rattle.std.proofs.lemmas.Bool.Decides.{nat_tests}
use Rattle.control_msg.specs.declared.message.Message.{Message}
use Rattle.node_spec.specs.Turns.{Input, Arrived, Ticked, Turn, drop_turn}
use Rattle.node_spec.specs.Datagrams.{Heard, Refused, Told, Brought, heard, by_heard}
use Rattle.vip_config.specs.declared.parts.ConfigParts.{ConfigParts}
use Rattle.wire_core.specs.declared.address.Ip4.{Ip4}
use Rattle.wire_core.specs.declared.cause.DropCause.{DropCause}
use Rattle.wire_core.specs.declared.node.NodeId.{NodeId}
use Rattle.wire_core.specs.declared.node.NodeId.TheVariants.{Replica, Mux as MuxNode, Agent}
use Rattle.wire_core.specs.declared.range.Range.{Range}
use Rattle.wire_core.specs.Same.{same_range}
use Rattle.mux_spec.specs.declared.row.Kept.{Kept}
use Rattle.mux_spec.specs.declared.row.Order.{Order}
use Rattle.mux_spec.specs.Commands.{refused, programs, unprograms, on_program, on_unprogram}
use Rattle.mux_spec.specs.Footprints.{AnswersBy, LeavesAll, LeavesAllButFlows, Rises}
use Rattle.mux_spec.specs.Gates.{admit}
use Rattle.mux_spec.specs.Mux.{Mux, on_tick}
use Rattle.mux_spec.specs.MuxTable.{from_mux, from_replica, mux_hears, mux_step}
use Rattle.mux_spec.specs.Packets.{on_packet}
use Rattle.mux_spec.specs.Rows.{Rows, kept_at, no_row, program_row, row_at, set_row, unprogram_row}
use Rattle.mux_spec.proofs.Leaves.{mux_leaves, packet_leaves}

-- ---- kept numbers

-- a row that is put where none or a lesser number stands lowers no number
put_rises : (test : Range → Bool) (rows : Rows) (k : Kept) (q : Range)
    → (unwrap_or (lookup test rows) no_row).n ≤ k.n
    → (unwrap_or (lookup (same_range q) rows) no_row).n
    ≤ (unwrap_or (lookup (same_range q) (set_value test rows k)) no_row).n
put_rises test [] k q h = grind arith
put_rises test (e ∷ rows) k q h = grind (arith, nat_tests, h, put_rises test rows k q)

set_rises : (rows : Rows) (r : Range) (k : Kept) (q : Range) → (kept_at rows r).n ≤ k.n
    → (kept_at rows q).n ≤ (kept_at (set_row rows r k) q).n
unfolding row_at set_row
set_rises rows r k q h = put_rises (same_range r) rows k q h

program_rises : (rows : Rows) (n : ℕ) (r : Range) (machine : Ip4) (q : Range)
    → (kept_at rows q).n ≤ (kept_at (program_row rows n r machine) q).n
program_rises rows n r machine q =
    let set = set_rises rows r (record { n = n; machine = Some machine }) q in grind (arith, nat_tests, set)

unprogram_rises : (rows : Rows) (n : ℕ) (r : Range) (q : Range)
    → (kept_at rows q).n ≤ (kept_at (unprogram_row rows n r) q).n
unprogram_rises rows n r q =
    let set = set_rises rows r (record { n = n; machine = None }) q in grind (arith, nat_tests, set)

-- ---- rows of the table

stays : (m : Mux) (cause : DropCause) → Rises m (drop_turn m cause)
stays m cause = record { index = refl; boot = refl; epoch = inl refl; time = grind arith; kept = λ r. grind arith }

rises_program : (c : ConfigParts) (m : Mux) (o : Order) (machine : Ip4) → Rises m (on_program c m o machine)
unfolding on_program programs refused admit
rises_program c m o machine = record {
  index = grind arith;
  boot = grind arith;
  epoch = grind (arith, nat_tests);
  time = grind arith;
  kept = λ q. grind (arith, program_rises m.rows o.n o.range machine q);
}

rises_unprogram : (c : ConfigParts) (m : Mux) (o : Order) → Rises m (on_unprogram c m o)
unfolding on_unprogram unprograms refused admit
rises_unprogram c m o = record {
  index = grind arith;
  boot = grind arith;
  epoch = grind (arith, nat_tests);
  time = grind arith;
  kept = λ q. grind (arith, unprogram_rises m.rows o.n o.range q);
}

rises_command : (c : ConfigParts) (m : Mux) (from : ℕ) (message : Message) → Rises m (from_replica c m from message)
rises_command c m from message = grind (arith, rises_program, rises_unprogram, stays)

-- ---- whatever comes

of_flows : (m : Mux) (t : Turn Mux) → LeavesAllButFlows m t → Rises m t
of_flows m t same = record {
  index = grind (arith, same.state);
  boot = grind (arith, same.state);
  epoch = inl (grind (arith, same.state));
  time = grind (arith, same.state);
  kept = λ r. grind (arith, same.state);
}

of_all : (m : Mux) (t : Turn Mux) → LeavesAll m t → Rises m t
of_all m t same = record {
  index = grind (arith, same.state);
  boot = grind (arith, same.state);
  epoch = inl (grind (arith, same.state));
  time = grind (arith, same.state);
  kept = λ r. grind (arith, same.state);
}

rises_message : (c : ConfigParts) (m : Mux) (from : NodeId) (message : Message) → Rises m (mux_hears c m from message)
unfolding mux_hears
rises_message c m (Replica from) message = rises_command c m from message
rises_message c m (MuxNode from) message = of_all m (from_mux c m message) (mux_leaves c m message)
rises_message c m (Agent from) message = stays m _

rises_datagram : (c : ConfigParts) (m : Mux) (h : Heard)
    → Rises m (by_heard (drop_turn m) (mux_hears c m) (on_packet c m) h)
rises_datagram c m (Refused cause) = stays m cause
rises_datagram c m (Told from message) = rises_message c m from message
rises_datagram c m (Brought sender bytes) = of_flows m (on_packet c m sender bytes) (packet_leaves c m sender bytes)

rises_tick : (c : ConfigParts) (m : Mux) (now : ℕ) → Rises m (on_tick c m now)
unfolding on_tick
rises_tick c m now = record { index = refl; boot = refl; epoch = inl refl; time = grind arith; kept = λ r. grind arith }

pub rises_step : (c : ConfigParts) (m : Mux) (x : Input) → Rises m (mux_step c m x)
unfolding mux_step
rises_step c m (Arrived from bytes) = rises_datagram c m (heard c from bytes)
rises_step c m (Ticked now) = rises_tick c m now

-- ---- answers

answers_program : (c : ConfigParts) (m : Mux) (o : Order) (machine : Ip4)
    → AnswersBy m.gate.boot o.from (on_program c m o machine)
unfolding on_program programs refused admit
answers_program c m o machine = grind (arith, nat_tests)

answers_unprogram : (c : ConfigParts) (m : Mux) (o : Order) → AnswersBy m.gate.boot o.from (on_unprogram c m o)
unfolding on_unprogram unprograms refused admit
answers_unprogram c m o = grind (arith, nat_tests)

pub answers_command : (c : ConfigParts) (m : Mux) (from : ℕ) (message : Message)
    → AnswersBy m.gate.boot (Replica from) (from_replica c m from message)
answers_command c m from message = grind (arith, answers_program, answers_unprogram)
