-- The words of the crates below the tables, opened where a row is computed on literals.
use Rattle.std.specs.Prelude.{⊤}
use Rattle.wire_core.specs.Entries.{boot_at, entry_at}
use Rattle.wire_core.specs.Flows.{fnv_1a_step, hash}
use Rattle.wire_core.specs.Numbers.{number_bytes}
use Rattle.wire_core.specs.Reading.{count_at, reserve_at, up_at, lease_at, mux_boot_at, mux_boots_at, granted_at}
use Rattle.wire_core.specs.Reading.{command_at, commands_at, value_at}
use Rattle.wire_core.specs.Same.{same_value}
use Rattle.wire_core.specs.Views.{mux_boots}
use Rattle.packet_spec.specs.Edits.{layout_of, put_source, put_destination, put_ttl, clamp, put_header_sum}
use Rattle.packet_spec.specs.Edits.{put_segment_sum, set_source, set_destination, clamp_mss}
use Rattle.packet_spec.specs.Edits.{translate_source, translate_destination, translated, restored}
use Rattle.packet_spec.specs.Headers.{whole, ip_fault, read_ip, header_bytes}
use Rattle.packet_spec.specs.Options.{option_at, mss_from, mss_at}
use Rattle.packet_spec.specs.Packets.{packet_fault, read_packet, key_of, has_syn, has_ack, has_rst}
use Rattle.packet_spec.specs.Segments.{pseudo_header, segment_fault, read_segment}
use Rattle.packet_spec.specs.Sums.{ones_add, ones_sum, checksum}
use Rattle.ipip.specs.Wrapping.{lowered, wrapped, wrap_fault}
use Rattle.control_msg.specs.Reading.{address_at, start_at, reason_at, side_at, vote_value_at, number_at}
use Rattle.control_msg.specs.Reading.{two_numbers_at, three_numbers_at, valued_at, promise_at, ask_at, grant_at}
use Rattle.control_msg.specs.Reading.{denied_at}
use Rattle.control_msg.specs.Reading.{program_at, unprogram_at, redirect_ask_at, redirect_at, message_at}
use Rattle.vip_config.specs.Serving.{snat_vip, endpoint_for, member_at}
use Rattle.lease_spec.specs.Free.{first_start, least_free}
use Rattle.lease_spec.specs.Table.{raise_known, decide, reserve, grant, release, free, up, story, apply}
use Rattle.paxos_spec.specs.Acceptor.{state_of}
use Rattle.paxos_spec.specs.Replica.{on_prepare, on_promise, on_accept, on_accepted, on_refuse, on_chosen, on_campaign}
use Rattle.paxos_spec.specs.Replica.{on_offer}

-- what an answer unfolds
unfoldable pub below_on_literals : ⊤
unfolding boot_at entry_at number_bytes count_at reserve_at up_at lease_at mux_boot_at mux_boots_at granted_at
    command_at commands_at value_at same_value mux_boots address_at start_at reason_at side_at vote_value_at
    number_at two_numbers_at three_numbers_at valued_at promise_at ask_at grant_at denied_at program_at unprogram_at
    redirect_ask_at redirect_at message_at first_start least_free raise_known decide reserve grant release free up
    story apply state_of on_prepare on_promise on_accept on_accepted on_refuse on_chosen on_campaign on_offer
below_on_literals = tt

-- what an answer unfolds where packets are read, wrapped and edited
unfoldable pub packets_on_literals : ⊤
unfolding layout_of put_source put_destination put_ttl clamp put_header_sum put_segment_sum set_source set_destination
    clamp_mss translate_source translate_destination translated restored whole ip_fault read_ip header_bytes option_at
    mss_from mss_at packet_fault read_packet key_of has_syn has_ack has_rst pseudo_header segment_fault
    read_segment ones_add ones_sum checksum lowered wrapped wrap_fault hash fnv_1a_step snat_vip endpoint_for member_at
packets_on_literals = tt
