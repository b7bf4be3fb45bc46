-- The words of this crate, computed on packets whose bytes and checksums were worked out apart from it.
use Rattle.std.proofs.Common.{◌≡◌, ℕ, Bool, true, false, List, [], ◌∷◌, ◌++◌, Some, None, refl}
use Rattle.wire_core.specs.declared.address.Ip4.{Ip4}
use Rattle.wire_core.specs.declared.flow.Proto.TheVariants.{Tcp, Udp}
use Rattle.packet_spec.specs.declared.fault.IpFault.TheVariants.{HeaderSum, Fragment}
use Rattle.packet_spec.specs.declared.fault.SegmentFault.TheVariants as segment
use Rattle.packet_spec.specs.declared.fault.SegmentFault.TheVariants.{DataOffset, Length, Sum}
use Rattle.packet_spec.specs.declared.fault.PacketFault.TheVariants.{Ip, NotTransport, Segment}
use Rattle.packet_spec.specs.Sums.{ones_add, ones_sum, checksum}
use Rattle.packet_spec.specs.Headers.{ip_fault, payload_of, whole}
use Rattle.packet_spec.specs.Segments.{pseudo_header, segment_fault}
use Rattle.packet_spec.specs.Options.{option_at, mss_from, mss_at}
use Rattle.packet_spec.specs.Packets.{packet_fault, key_of, has_syn, has_ack, has_rst}
use Rattle.packet_spec.specs.Edits.{layout_of, put_source, put_destination, put_ttl, clamp}
use Rattle.packet_spec.specs.Edits.{put_header_sum, put_segment_sum, set_source, set_destination, clamp_mss}
use Rattle.packet_spec.specs.Edits.{translate_source, translate_destination, translated, restored}
use Rattle.packet_spec.proofs.WorkedBytes.{question, question_out, answer, answer_handed, opening, opening_out}
use Rattle.packet_spec.proofs.WorkedBytes.{first_fragment, last_fragment, far_fragment, unfragmented}
use Rattle.packet_spec.proofs.WorkedBytes.{fragment_with_a_wrong_sum, echo, with_options, with_options_out}
use Rattle.packet_spec.proofs.WorkedBytes.{short_datagram, short_datagram_out, unsummed, unsummed_out}
use Rattle.packet_spec.proofs.WorkedBytes.{behind_a_short_option, behind_a_short_option_out, behind_an_endless_option}
use Rattle.packet_spec.proofs.WorkedBytes.{behind_an_endless_option_out, behind_the_end, behind_the_end_out}
use Rattle.packet_spec.proofs.WorkedBytes.{behind_many, behind_many_out, behind_timestamps, behind_timestamps_out}
use Rattle.packet_spec.proofs.WorkedBytes.{small_size, small_size_out, fitting_size, fitting_size_out, next_size}
use Rattle.packet_spec.proofs.WorkedBytes.{next_size_out, other_length, other_length_out, size_without_syn}
use Rattle.packet_spec.proofs.WorkedBytes.{size_without_syn_out, sums_to_zero, sums_to_zero_out}
use Rattle.packet_spec.proofs.WorkedBytes.{datagram_sums_to_zero, datagram_sums_to_zero_out, reset, reply}
use Rattle.packet_spec.proofs.WorkedBytes.{reply_handed, reply_handed_at_once, reply_clamped, reply_redirected}
use Rattle.packet_spec.proofs.WorkedBytes.{reply_sent, low_offset, high_offset, wrong_sum, short_segment, low_length}
use Rattle.packet_spec.proofs.WorkedBytes.{high_length, short_datagram_header}

abbrev machine : Ip4
machine = record { 0 = 167837700 }

abbrev remote : Ip4
remote = record { 0 = 3325256711 }

abbrev vip : Ip4
vip = record { 0 = 3221225994 }

-- what has to be opened to compute the faults of a packet, the place of its maximum segment size, and its edits
reading : Ip4
unfolding packet_fault ip_fault segment_fault ones_sum ones_add pseudo_header
reading = machine

walking : Ip4
unfolding mss_at mss_from option_at
walking = machine

summing : Ip4
unfolding put_header_sum put_segment_sum checksum ones_sum ones_add pseudo_header
summing = walking

leaving : Ip4
unfolding translated translate_source whole layout_of put_source clamp walking summing
leaving = summing

handing : Ip4
unfolding restored translate_destination whole layout_of put_destination put_ttl clamp walking summing
handing = summing

-- ---- what has no fault, and first faults

question_has_no_fault : packet_fault question ≡ None
unfolding reading question
question_has_no_fault = refl

answer_has_no_fault : packet_fault answer ≡ None
unfolding reading answer
answer_has_no_fault = refl

opening_out_has_no_fault : packet_fault opening_out ≡ None
unfolding reading opening_out
opening_out_has_no_fault = refl

unfragmented_has_no_fault : packet_fault unfragmented ≡ None
unfolding reading unfragmented
unfragmented_has_no_fault = refl

with_options_has_no_fault : packet_fault with_options ≡ None
unfolding reading with_options
with_options_has_no_fault = refl

short_datagram_has_no_fault : packet_fault short_datagram ≡ None
unfolding reading short_datagram
short_datagram_has_no_fault = refl

unsummed_has_no_fault : packet_fault unsummed ≡ None
unfolding reading unsummed
unsummed_has_no_fault = refl

reset_has_no_fault : packet_fault reset ≡ None
unfolding reading reset
reset_has_no_fault = refl

reply_has_no_fault : packet_fault reply ≡ None
unfolding reading reply
reply_has_no_fault = refl

first_fragment_has_that_fault : packet_fault first_fragment ≡ Some (Ip Fragment)
unfolding reading first_fragment
first_fragment_has_that_fault = refl

last_fragment_has_that_fault : packet_fault last_fragment ≡ Some (Ip Fragment)
unfolding reading last_fragment
last_fragment_has_that_fault = refl

far_fragment_has_that_fault : packet_fault far_fragment ≡ Some (Ip Fragment)
unfolding reading far_fragment
far_fragment_has_that_fault = refl

fragment_with_a_wrong_sum_has_that_fault : packet_fault fragment_with_a_wrong_sum ≡ Some (Ip HeaderSum)
unfolding reading fragment_with_a_wrong_sum
fragment_with_a_wrong_sum_has_that_fault = refl

echo_has_that_fault : packet_fault echo ≡ Some NotTransport
unfolding reading echo
echo_has_that_fault = refl

low_offset_has_that_fault : packet_fault low_offset ≡ Some (Segment DataOffset)
unfolding reading low_offset
low_offset_has_that_fault = refl

high_offset_has_that_fault : packet_fault high_offset ≡ Some (Segment DataOffset)
unfolding reading high_offset
high_offset_has_that_fault = refl

wrong_sum_has_that_fault : packet_fault wrong_sum ≡ Some (Segment Sum)
unfolding reading wrong_sum
wrong_sum_has_that_fault = refl

short_segment_has_that_fault : packet_fault short_segment ≡ Some (Segment segment.Short)
unfolding reading short_segment
short_segment_has_that_fault = refl

low_length_has_that_fault : packet_fault low_length ≡ Some (Segment Length)
unfolding reading low_length
low_length_has_that_fault = refl

high_length_has_that_fault : packet_fault high_length ≡ Some (Segment Length)
unfolding reading high_length
high_length_has_that_fault = refl

short_datagram_header_has_that_fault : packet_fault short_datagram_header ≡ Some (Segment segment.Short)
unfolding reading short_datagram_header
short_datagram_header_has_that_fault = refl

-- ---- what is read

key_behind_options : key_of with_options ≡ record { src = machine; dst = remote; sport = 5000; dport = 80; proto = Tcp }
unfolding key_of with_options
key_behind_options = refl

key_of_short_datagram : key_of short_datagram ≡ record {
  src = machine;
  dst = remote;
  sport = 5000;
  dport = 53;
  proto = Udp;
}
unfolding key_of short_datagram
key_of_short_datagram = refl

abbrev bits : List ℕ → Bool × Bool × Bool
bits p = (has_syn p, has_ack p, has_rst p)

bits_of_opening : bits opening ≡ (true, false, false)
unfolding has_syn has_ack has_rst opening
bits_of_opening = refl

bits_of_with_options : bits with_options ≡ (false, true, false)
unfolding has_syn has_ack has_rst with_options
bits_of_with_options = refl

bits_of_reply : bits reply ≡ (true, true, false)
unfolding has_syn has_ack has_rst reply
bits_of_reply = refl

bits_of_reset : bits reset ≡ (false, false, true)
unfolding has_syn has_ack has_rst reset
bits_of_reset = refl

bits_of_question : bits question ≡ (false, false, false)
unfolding has_syn has_ack has_rst question
bits_of_question = refl

size_in_opening : mss_at (payload_of opening) ≡ Some 26
unfolding walking opening
size_in_opening = refl

size_in_behind_a_short_option : mss_at (payload_of behind_a_short_option) ≡ None
unfolding walking behind_a_short_option
size_in_behind_a_short_option = refl

size_in_behind_an_endless_option : mss_at (payload_of behind_an_endless_option) ≡ None
unfolding walking behind_an_endless_option
size_in_behind_an_endless_option = refl

size_in_behind_the_end : mss_at (payload_of behind_the_end) ≡ None
unfolding walking behind_the_end
size_in_behind_the_end = refl

size_in_behind_many : mss_at (payload_of behind_many) ≡ Some 58
unfolding walking behind_many
size_in_behind_many = refl

size_in_behind_timestamps : mss_at (payload_of behind_timestamps) ≡ Some 34
unfolding walking behind_timestamps
size_in_behind_timestamps = refl

size_in_small_size : mss_at (payload_of small_size) ≡ Some 22
unfolding walking small_size
size_in_small_size = refl

size_in_other_length : mss_at (payload_of other_length) ≡ None
unfolding walking other_length
size_in_other_length = refl

-- ---- what leaves

question_leaves : translated vip 1024 question ≡ question_out
unfolding leaving question question_out
question_leaves = refl

opening_leaves : translated vip 1024 opening ≡ opening_out
unfolding leaving opening opening_out
opening_leaves = refl

with_options_leaves : translated vip 1024 with_options ≡ with_options_out
unfolding leaving with_options with_options_out
with_options_leaves = refl

short_datagram_leaves : translated vip 1024 short_datagram ≡ short_datagram_out
unfolding leaving short_datagram short_datagram_out
short_datagram_leaves = refl

unsummed_leaves : translated vip 1024 unsummed ≡ unsummed_out
unfolding leaving unsummed unsummed_out
unsummed_leaves = refl

behind_a_short_option_leaves : translated vip 1024 behind_a_short_option ≡ behind_a_short_option_out
unfolding leaving behind_a_short_option behind_a_short_option_out
behind_a_short_option_leaves = refl

behind_an_endless_option_leaves : translated vip 1024 behind_an_endless_option ≡ behind_an_endless_option_out
unfolding leaving behind_an_endless_option behind_an_endless_option_out
behind_an_endless_option_leaves = refl

behind_the_end_leaves : translated vip 1024 behind_the_end ≡ behind_the_end_out
unfolding leaving behind_the_end behind_the_end_out
behind_the_end_leaves = refl

behind_many_leaves : translated vip 1024 behind_many ≡ behind_many_out
unfolding leaving behind_many behind_many_out
behind_many_leaves = refl

behind_timestamps_leaves : translated vip 1024 behind_timestamps ≡ behind_timestamps_out
unfolding leaving behind_timestamps behind_timestamps_out
behind_timestamps_leaves = refl

small_size_leaves : translated vip 1024 small_size ≡ small_size_out
unfolding leaving small_size small_size_out
small_size_leaves = refl

fitting_size_leaves : translated vip 1024 fitting_size ≡ fitting_size_out
unfolding leaving fitting_size fitting_size_out
fitting_size_leaves = refl

next_size_leaves : translated vip 1024 next_size ≡ next_size_out
unfolding leaving next_size next_size_out
next_size_leaves = refl

other_length_leaves : translated vip 1024 other_length ≡ other_length_out
unfolding leaving other_length other_length_out
other_length_leaves = refl

size_without_syn_leaves : translated vip 1024 size_without_syn ≡ size_without_syn_out
unfolding leaving size_without_syn size_without_syn_out
size_without_syn_leaves = refl

sums_to_zero_leaves : translated vip 1024 sums_to_zero ≡ sums_to_zero_out
unfolding leaving sums_to_zero sums_to_zero_out
sums_to_zero_leaves = refl

datagram_sums_to_zero_leaves : translated vip 1024 datagram_sums_to_zero ≡ datagram_sums_to_zero_out
unfolding leaving datagram_sums_to_zero datagram_sums_to_zero_out
datagram_sums_to_zero_leaves = refl

what_follows_is_cut : translated vip 1024 (question ++ 255 ∷ 255 ∷ []) ≡ question_out
unfolding leaving question question_out
what_follows_is_cut = refl

-- ---- what is handed

answer_is_handed : restored machine 5000 1 answer ≡ answer_handed
unfolding handing answer answer_handed
answer_is_handed = refl

reply_is_handed : restored machine 5000 1 reply ≡ reply_handed
unfolding handing reply reply_handed
reply_is_handed = refl

reply_is_handed_at_once : restored machine 5000 0 reply ≡ reply_handed_at_once
unfolding handing reply reply_handed_at_once
reply_is_handed_at_once = refl

-- ---- each edit alone

reply_is_clamped : clamp_mss reply ≡ reply_clamped
unfolding clamp_mss leaving reply reply_clamped
reply_is_clamped = refl

reply_is_redirected : set_destination machine 5000 reply ≡ reply_redirected
unfolding set_destination handing reply reply_redirected
reply_is_redirected = refl

reply_is_sent : set_source vip 1024 reply ≡ reply_sent
unfolding set_source leaving reply reply_sent
reply_is_sent = refl
