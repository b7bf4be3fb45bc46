-- What is dropped does nothing else.
use Rattle.std.proofs.Common.{◌≡◌, refl, ap, inl, inr, ℕ, Bool, true, false, List, [], Option, Some, None}
use Rattle.std.proofs.Common.{if◌then◌else◌, ◌&&◌, arith}
use Rattle.control_msg.specs.declared.message.Message.{Message}
use Rattle.control_msg.specs.declared.message.Message.TheVariants as message
use Rattle.ipip.specs.declared.wrapping.WrapFault.{WrapFault}
use Rattle.ipip.specs.Wrapping.{wrap_fault}
use Rattle.packet_spec.specs.declared.fault.PacketFault.{PacketFault}
use Rattle.packet_spec.specs.Packets.{read_packet, key_of}
use Rattle.std.specs.Prelude.{Result, Ok, Err}
use Rattle.vip_config.specs.declared.parts.ConfigParts.{ConfigParts}
use Rattle.vip_config.specs.declared.who.Who.{Who}
use Rattle.vip_config.specs.declared.who.Who.TheVariants as who
use Rattle.vip_config.specs.Serving.{has_snat, is_vip}
use Rattle.wire_core.specs.declared.address.Ip4.{Ip4}
use Rattle.wire_core.specs.declared.cause.DropCause.{DropCause}
use Rattle.wire_core.specs.declared.cause.DropCause.TheVariants as drop
use Rattle.wire_core.specs.declared.entry.Entry.TheVariants.{Epoch}
use Rattle.wire_core.specs.Ranges.{is_leasable, range_of}
use Rattle.vip_config.specs.Leases.{lease_rules_of}
use Rattle.node_spec.specs.Turns.{Turn, drop_turn, writes}
use Rattle.mux_spec.specs.declared.row.Programmed.{Programmed as Done}
use Rattle.mux_spec.specs.declared.row.Programmed.TheVariants as done
use Rattle.mux_spec.specs.declared.verdict.RedirectAsk.{RedirectAsk}
use Rattle.mux_spec.specs.declared.gate.Admit.{Admit}
use Rattle.mux_spec.specs.declared.gate.Admit.TheVariants.{WrongBoot, OldEpoch, Raise, Yes}
use Rattle.mux_spec.specs.declared.row.Order.{Order}
use Rattle.mux_spec.specs.Commands.{if_admitted, order, raised, refused, programs, unprograms, when_programmed}
use Rattle.mux_spec.specs.Commands.{on_program, on_unprogram}
use Rattle.mux_spec.specs.Flows.{Flows}
use Rattle.mux_spec.specs.Footprints.{CommandDrops, DropsOrNot, IsAdmitted, Leaves, Raises, Taken}
use Rattle.mux_spec.specs.Gates.{admit}
use Rattle.mux_spec.specs.Mux.{Mux}
use Rattle.mux_spec.specs.MuxTable.{from_mux, from_replica}
use Rattle.mux_spec.specs.Packets.{Outcome, Passing, Sends, Drops, from_who, noted_unless, on_packet}
use Rattle.mux_spec.specs.Packets.{own_address, passed, passing, read_as, sound, to_end, to_endpoint, to_range}
use Rattle.mux_spec.specs.Redirects.{on_redirect_ask}
use Rattle.mux_spec.specs.Rows.{Rows, kept_at, programmed}
use Rattle.mux_spec.specs.Services.{chosen_for}

-- one of two, by a test
by_if : {X : Type 0} (P : X → Type 0) (b : Bool) {x y : X} → P x → P y → P (if b then x else y)
by_if P true p q = p
by_if P false p q = q

-- ---- packets

-- where a packet is dropped the flows stay
abbrev Keeps : Flows → Passing → Type 0
Keeps flows (after, Sends machine bytes ask) = Unit {0}
Keeps flows (after, Drops cause) = after ≡ flows

same_flows : (flows : Flows) (o : Outcome) → Keeps flows (flows, o)
same_flows flows (Sends machine bytes ask) = tt
same_flows flows (Drops cause) = refl

noted_keeps : (c : ConfigParts) (own : Ip4) (flows : Flows) (time : ℕ) (p : List ℕ) (chosen : Ip4)
    (f : Option WrapFault) → Keeps flows (noted_unless c own flows time p chosen f)
noted_keeps c own flows time p chosen (Some fault) = refl
noted_keeps c own flows time p chosen None = tt

endpoint_keeps : (c : ConfigParts) (own : Ip4) (flows : Flows) (time : ℕ) (p : List ℕ) (chosen : Ip4)
    → Keeps flows (to_endpoint c own flows time p chosen)
unfolding to_endpoint
endpoint_keeps c own flows time p chosen = noted_keeps c own flows time p chosen (wrap_fault 1 p)

end_keeps : (c : ConfigParts) (own : Ip4) (rows : Rows) (time : ℕ) (flows : Flows) (p : List ℕ) (o : Option Ip4)
    → Keeps flows (to_end c own rows time flows p o)
end_keeps c own rows time flows p (Some chosen) = endpoint_keeps c own flows time p chosen
end_keeps c own rows time flows p None =
    same_flows flows (to_range c own rows p (range_of (key_of p).dst (key_of p).dport))

sound_keeps : (c : ConfigParts) (own : Ip4) (rows : Rows) (time : ℕ) (flows : Flows) (p : List ℕ)
    → Keeps flows (sound c own rows time flows p)
unfolding sound
sound_keeps c own rows time flows p = by_if (Keeps flows) (is_vip c.vips (key_of p).dst)
    (end_keeps c own rows time flows p (chosen_for c (key_of p)))
    refl

read_keeps : (c : ConfigParts) (own : Ip4) (rows : Rows) (time : ℕ) (flows : Flows) (r : Result (List ℕ) PacketFault)
    → Keeps flows (read_as c own rows time flows r)
read_keeps c own rows time flows (Err fault) = refl
read_keeps c own rows time flows (Ok p) = sound_keeps c own rows time flows p

sender_keeps : (c : ConfigParts) (own : Ip4) (rows : Rows) (time : ℕ) (flows : Flows) (bytes : List ℕ) (sender : Who)
    → Keeps flows (from_who c own rows time flows bytes sender)
sender_keeps c own rows time flows bytes (who.Replica i) = refl
sender_keeps c own rows time flows bytes (who.Mux i) = refl
sender_keeps c own rows time flows bytes (who.Agent i) = refl
sender_keeps c own rows time flows bytes (who.Machine a) = refl
sender_keeps c own rows time flows bytes who.Outside = read_keeps c own rows time flows (read_packet bytes)

passed_drops : (c : ConfigParts) (m : Mux) (x : Passing) → Keeps m.flows x → DropsOrNot m (passed c m x)
passed_drops c m (flows, Sends machine bytes ask) same = inl refl
passed_drops c m (flows, Drops cause) same = inr (cause, ap (λ f. drop_turn (record m { flows = f }) cause) same)

pub packet_drops : (c : ConfigParts) (m : Mux) (sender : Who) (bytes : List ℕ)
    → DropsOrNot m (on_packet c m sender bytes)
unfolding on_packet passing
packet_drops c m sender bytes =
    passed_drops c m (passing c m sender bytes)
    (sender_keeps c (own_address c m.index) m.rows m.time m.flows bytes sender)

-- ---- commands

-- a command that is obeyed: it is done, or dropped for a cause of its own
data Obeyed (m : Mux) (t : Turn Mux) : Type 0 where
  Does : t.notes ≡ [] → Obeyed m t
  Refuses : (cause : DropCause) → IsAdmitted cause → t ≡ drop_turn m cause → Obeyed m t

when_obeyed : (m : Mux) (o : Order) (machine : Ip4) (done : Done) → Obeyed m (when_programmed m o machine done)
when_obeyed m o machine done.Set = Does refl
when_obeyed m o machine done.Same = Does refl
when_obeyed m o machine (done.Old kept) = Refuses (drop.OldNumber kept) tt refl

program_obeyed : (c : ConfigParts) (o : Order) (machine : Ip4) (m : Mux) → Obeyed m (programs c o machine m)
unfolding programs
program_obeyed c o machine m =
    by_if (Obeyed m) (is_leasable (lease_rules_of c) o.range && has_snat c.vips o.range.vip machine)
    (when_obeyed m o machine (programmed (kept_at m.rows o.range) o.n))
    (Refuses drop.NotMine tt refl)

unprogram_obeyed : (c : ConfigParts) (o : Order) (m : Mux) → Obeyed m (unprograms c o m)
unfolding unprograms
unprogram_obeyed c o m =
    by_if (Obeyed m) (is_leasable (lease_rules_of c) o.range) (Does refl) (Refuses drop.NotMine tt refl)

raised_drops : (m : Mux) (epoch : ℕ) (t : Turn Mux) → Obeyed (raised m epoch) t
    → CommandDrops m (writes (Epoch epoch) t)
raised_drops m epoch t (Does notes) = Taken notes
raised_drops m epoch t (Refuses cause own is) =
    Raises cause own (ap (λ x. x.notes) is) epoch (ap (λ x. x.state) is) refl

obeyed_drops : (m : Mux) (t : Turn Mux) → Obeyed m t → CommandDrops m t
obeyed_drops m t (Does notes) = Taken notes
obeyed_drops m t (Refuses cause own is) =
    Leaves cause (ap (λ x. x.notes) is) (ap (λ x. x.state) is) (ap (λ x. x.entry) is)

admitted_drops : (m : Mux) (o : Order) (a : Admit) (obey : Mux → Turn Mux) → ((n : Mux) → Obeyed n (obey n))
    → CommandDrops m (if_admitted m o a obey)
unfolding refused
admitted_drops m o (WrongBoot kept) obey obeyed = Leaves (drop.WrongBoot kept) refl refl refl
admitted_drops m o (OldEpoch kept) obey obeyed = Leaves (drop.OldEpoch kept) refl refl refl
admitted_drops m o (Raise epoch) obey obeyed = raised_drops m epoch (obey (raised m epoch)) (obeyed (raised m epoch))
admitted_drops m o Yes obey obeyed = obeyed_drops m (obey m) (obeyed m)

program_drops : (c : ConfigParts) (m : Mux) (o : Order) (machine : Ip4) → CommandDrops m (on_program c m o machine)
unfolding on_program
program_drops c m o machine =
    admitted_drops m o (admit m.gate o.epoch o.boot) (programs c o machine) (program_obeyed c o machine)

unprogram_drops : (c : ConfigParts) (m : Mux) (o : Order) → CommandDrops m (on_unprogram c m o)
unfolding on_unprogram
unprogram_drops c m o = admitted_drops m o (admit m.gate o.epoch o.boot) (unprograms c o) (unprogram_obeyed c o)

no_role : (m : Mux) → CommandDrops m (drop_turn m drop.WrongRole)
no_role m = Leaves drop.WrongRole refl refl refl

pub command_drops : (c : ConfigParts) (m : Mux) (from : ℕ) (message : Message)
    → CommandDrops m (from_replica c m from message)
command_drops c m from (message.Program epoch boot n vip start machine) =
    program_drops c m (order from epoch boot n vip start) machine
command_drops c m from (message.Unprogram epoch boot n vip start) =
    unprogram_drops c m (order from epoch boot n vip start)
command_drops c m from _ = no_role m

-- ---- redirects

redirect_drops : (c : ConfigParts) (m : Mux) (a : RedirectAsk) → DropsOrNot m (on_redirect_ask c m a)
unfolding on_redirect_ask
redirect_drops c m a = grind arith

pub mux_drops : (c : ConfigParts) (m : Mux) (message : Message) → DropsOrNot m (from_mux c m message)
mux_drops c m message = grind arith
