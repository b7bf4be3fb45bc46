-- Packets whose bytes and checksums were worked out apart from this project, from the RFCs alone.
use Rattle.std.proofs.Common.{ℕ, List, [], ◌∷◌}

-- a UDP packet of 10.1.0.4 port 5000 to 198.51.100.7 port 53
unfoldable pub question : List ℕ
question =
    69 ∷ 0 ∷ 0 ∷ 30 ∷ 0 ∷ 1 ∷ 0 ∷ 0 ∷ 64 ∷ 17 ∷ 70 ∷ 143 ∷ 10 ∷ 1 ∷ 0 ∷ 4 ∷ 198 ∷ 51 ∷ 100 ∷ 7 ∷ 19 ∷ 136 ∷ 0 ∷ 53 ∷
    0 ∷ 10 ∷ 79 ∷ 116 ∷ 104 ∷ 105 ∷ []

-- the same from 192.0.2.10 port 1024
unfoldable pub question_out : List ℕ
question_out =
    69 ∷ 0 ∷ 0 ∷ 30 ∷ 0 ∷ 1 ∷ 0 ∷ 0 ∷ 64 ∷ 17 ∷ 142 ∷ 137 ∷ 192 ∷ 0 ∷ 2 ∷ 10 ∷ 198 ∷ 51 ∷ 100 ∷ 7 ∷ 4 ∷ 0 ∷ 0 ∷ 53 ∷
    0 ∷ 10 ∷ 166 ∷ 246 ∷ 104 ∷ 105 ∷ []

-- the reply to that
unfoldable pub answer : List ℕ
answer =
    69 ∷ 0 ∷ 0 ∷ 30 ∷ 0 ∷ 2 ∷ 0 ∷ 0 ∷ 56 ∷ 17 ∷ 150 ∷ 136 ∷ 198 ∷ 51 ∷ 100 ∷ 7 ∷ 192 ∷ 0 ∷ 2 ∷ 10 ∷ 0 ∷ 53 ∷ 4 ∷ 0 ∷
    0 ∷ 10 ∷ 159 ∷ 244 ∷ 111 ∷ 107 ∷ []

-- the same to 10.1.0.4 port 5000, one hop further
unfoldable pub answer_handed : List ℕ
answer_handed =
    69 ∷ 0 ∷ 0 ∷ 30 ∷ 0 ∷ 2 ∷ 0 ∷ 0 ∷ 55 ∷ 17 ∷ 79 ∷ 142 ∷ 198 ∷ 51 ∷ 100 ∷ 7 ∷ 10 ∷ 1 ∷ 0 ∷ 4 ∷ 0 ∷ 53 ∷ 19 ∷ 136 ∷
    0 ∷ 10 ∷ 72 ∷ 114 ∷ 111 ∷ 107 ∷ []

-- a TCP SYN from 10.1.0.4 port 5000 to 198.51.100.7 port 80 with a maximum segment size of 1460
unfoldable pub opening : List ℕ
opening =
    69 ∷ 0 ∷ 0 ∷ 48 ∷ 0 ∷ 1 ∷ 0 ∷ 0 ∷ 64 ∷ 6 ∷ 70 ∷ 136 ∷ 10 ∷ 1 ∷ 0 ∷ 4 ∷ 198 ∷ 51 ∷ 100 ∷ 7 ∷ 19 ∷ 136 ∷ 0 ∷ 80 ∷
    0 ∷ 0 ∷ 0 ∷ 1 ∷ 0 ∷ 0 ∷ 0 ∷ 0 ∷ 112 ∷ 2 ∷ 255 ∷ 255 ∷ 59 ∷ 7 ∷ 0 ∷ 0 ∷ 1 ∷ 1 ∷ 4 ∷ 2 ∷ 2 ∷ 4 ∷ 5 ∷ 180 ∷ []

-- the same from 192.0.2.10 port 1024 with 1440
unfoldable pub opening_out : List ℕ
opening_out =
    69 ∷ 0 ∷ 0 ∷ 48 ∷ 0 ∷ 1 ∷ 0 ∷ 0 ∷ 64 ∷ 6 ∷ 142 ∷ 130 ∷ 192 ∷ 0 ∷ 2 ∷ 10 ∷ 198 ∷ 51 ∷ 100 ∷ 7 ∷ 4 ∷ 0 ∷ 0 ∷ 80 ∷
    0 ∷ 0 ∷ 0 ∷ 1 ∷ 0 ∷ 0 ∷ 0 ∷ 0 ∷ 112 ∷ 2 ∷ 255 ∷ 255 ∷ 146 ∷ 157 ∷ 0 ∷ 0 ∷ 1 ∷ 1 ∷ 4 ∷ 2 ∷ 2 ∷ 4 ∷ 5 ∷ 160 ∷ []

-- a UDP packet of 10.1.0.4 port 5000 to 198.51.100.7 port 53 whose flags say that more fragments follow
unfoldable pub first_fragment : List ℕ
first_fragment =
    69 ∷ 0 ∷ 0 ∷ 30 ∷ 0 ∷ 1 ∷ 32 ∷ 0 ∷ 64 ∷ 17 ∷ 38 ∷ 143 ∷ 10 ∷ 1 ∷ 0 ∷ 4 ∷ 198 ∷ 51 ∷ 100 ∷ 7 ∷ 19 ∷ 136 ∷ 0 ∷ 53 ∷
    0 ∷ 10 ∷ 79 ∷ 116 ∷ 104 ∷ 105 ∷ []

-- the same with a fragment offset of 3, and with one of 4096
unfoldable pub last_fragment : List ℕ
last_fragment =
    69 ∷ 0 ∷ 0 ∷ 30 ∷ 0 ∷ 1 ∷ 0 ∷ 3 ∷ 64 ∷ 17 ∷ 70 ∷ 140 ∷ 10 ∷ 1 ∷ 0 ∷ 4 ∷ 198 ∷ 51 ∷ 100 ∷ 7 ∷ 19 ∷ 136 ∷ 0 ∷ 53 ∷
    0 ∷ 10 ∷ 79 ∷ 116 ∷ 104 ∷ 105 ∷ []

unfoldable pub far_fragment : List ℕ
far_fragment =
    69 ∷ 0 ∷ 0 ∷ 30 ∷ 0 ∷ 1 ∷ 16 ∷ 0 ∷ 64 ∷ 17 ∷ 54 ∷ 143 ∷ 10 ∷ 1 ∷ 0 ∷ 4 ∷ 198 ∷ 51 ∷ 100 ∷ 7 ∷ 19 ∷ 136 ∷ 0 ∷ 53 ∷
    0 ∷ 10 ∷ 79 ∷ 116 ∷ 104 ∷ 105 ∷ []

-- the same with 'don't fragment' alone
unfoldable pub unfragmented : List ℕ
unfragmented =
    69 ∷ 0 ∷ 0 ∷ 30 ∷ 0 ∷ 1 ∷ 64 ∷ 0 ∷ 64 ∷ 17 ∷ 6 ∷ 143 ∷ 10 ∷ 1 ∷ 0 ∷ 4 ∷ 198 ∷ 51 ∷ 100 ∷ 7 ∷ 19 ∷ 136 ∷ 0 ∷ 53 ∷
    0 ∷ 10 ∷ 79 ∷ 116 ∷ 104 ∷ 105 ∷ []

-- a fragment whose header checksum is wrong
unfoldable pub fragment_with_a_wrong_sum : List ℕ
fragment_with_a_wrong_sum =
    69 ∷ 0 ∷ 0 ∷ 30 ∷ 0 ∷ 1 ∷ 32 ∷ 0 ∷ 64 ∷ 17 ∷ 39 ∷ 143 ∷ 10 ∷ 1 ∷ 0 ∷ 4 ∷ 198 ∷ 51 ∷ 100 ∷ 7 ∷ 19 ∷ 136 ∷ 0 ∷ 53 ∷
    0 ∷ 10 ∷ 79 ∷ 116 ∷ 104 ∷ 105 ∷ []

-- an ICMP echo
unfoldable pub echo : List ℕ
echo =
    69 ∷ 0 ∷ 0 ∷ 28 ∷ 0 ∷ 1 ∷ 0 ∷ 0 ∷ 64 ∷ 1 ∷ 70 ∷ 161 ∷ 10 ∷ 1 ∷ 0 ∷ 4 ∷ 198 ∷ 51 ∷ 100 ∷ 7 ∷ 8 ∷ 0 ∷ 247 ∷ 255 ∷
    0 ∷ 0 ∷ 0 ∷ 0 ∷ []

-- TCP with ACK and four bytes of data, behind a header of six words; and the same from 192.0.2.10 port 1024
unfoldable pub with_options : List ℕ
with_options =
    70 ∷ 0 ∷ 0 ∷ 48 ∷ 0 ∷ 1 ∷ 0 ∷ 0 ∷ 64 ∷ 6 ∷ 67 ∷ 135 ∷ 10 ∷ 1 ∷ 0 ∷ 4 ∷ 198 ∷ 51 ∷ 100 ∷ 7 ∷ 1 ∷ 1 ∷ 1 ∷ 0 ∷ 19 ∷
    136 ∷ 0 ∷ 80 ∷ 0 ∷ 0 ∷ 0 ∷ 7 ∷ 0 ∷ 0 ∷ 0 ∷ 9 ∷ 80 ∷ 16 ∷ 255 ∷ 255 ∷ 142 ∷ 230 ∷ 0 ∷ 0 ∷ 100 ∷ 97 ∷ 116 ∷ 97 ∷ []

unfoldable pub with_options_out : List ℕ
with_options_out =
    70 ∷ 0 ∷ 0 ∷ 48 ∷ 0 ∷ 1 ∷ 0 ∷ 0 ∷ 64 ∷ 6 ∷ 139 ∷ 129 ∷ 192 ∷ 0 ∷ 2 ∷ 10 ∷ 198 ∷ 51 ∷ 100 ∷ 7 ∷ 1 ∷ 1 ∷ 1 ∷ 0 ∷ 4 ∷
    0 ∷ 0 ∷ 80 ∷ 0 ∷ 0 ∷ 0 ∷ 7 ∷ 0 ∷ 0 ∷ 0 ∷ 9 ∷ 80 ∷ 16 ∷ 255 ∷ 255 ∷ 230 ∷ 104 ∷ 0 ∷ 0 ∷ 100 ∷ 97 ∷ 116 ∷ 97 ∷ []

-- a datagram of 11 bytes in a payload of 14; and the same from 192.0.2.10 port 1024
unfoldable pub short_datagram : List ℕ
short_datagram =
    69 ∷ 0 ∷ 0 ∷ 34 ∷ 0 ∷ 1 ∷ 0 ∷ 0 ∷ 64 ∷ 17 ∷ 70 ∷ 139 ∷ 10 ∷ 1 ∷ 0 ∷ 4 ∷ 198 ∷ 51 ∷ 100 ∷ 7 ∷ 19 ∷ 136 ∷ 0 ∷ 53 ∷
    0 ∷ 11 ∷ 243 ∷ 120 ∷ 97 ∷ 98 ∷ 99 ∷ 238 ∷ 221 ∷ 204 ∷ []

unfoldable pub short_datagram_out : List ℕ
short_datagram_out =
    69 ∷ 0 ∷ 0 ∷ 34 ∷ 0 ∷ 1 ∷ 0 ∷ 0 ∷ 64 ∷ 17 ∷ 142 ∷ 133 ∷ 192 ∷ 0 ∷ 2 ∷ 10 ∷ 198 ∷ 51 ∷ 100 ∷ 7 ∷ 4 ∷ 0 ∷ 0 ∷ 53 ∷
    0 ∷ 11 ∷ 74 ∷ 251 ∷ 97 ∷ 98 ∷ 99 ∷ 238 ∷ 221 ∷ 204 ∷ []

-- a datagram without a checksum, before and after
unfoldable pub unsummed : List ℕ
unsummed =
    69 ∷ 0 ∷ 0 ∷ 30 ∷ 0 ∷ 1 ∷ 0 ∷ 0 ∷ 64 ∷ 17 ∷ 70 ∷ 143 ∷ 10 ∷ 1 ∷ 0 ∷ 4 ∷ 198 ∷ 51 ∷ 100 ∷ 7 ∷ 19 ∷ 136 ∷ 0 ∷ 53 ∷
    0 ∷ 10 ∷ 0 ∷ 0 ∷ 104 ∷ 105 ∷ []

unfoldable pub unsummed_out : List ℕ
unsummed_out =
    69 ∷ 0 ∷ 0 ∷ 30 ∷ 0 ∷ 1 ∷ 0 ∷ 0 ∷ 64 ∷ 17 ∷ 142 ∷ 137 ∷ 192 ∷ 0 ∷ 2 ∷ 10 ∷ 198 ∷ 51 ∷ 100 ∷ 7 ∷ 4 ∷ 0 ∷ 0 ∷ 53 ∷
    0 ∷ 10 ∷ 0 ∷ 0 ∷ 104 ∷ 105 ∷ []

-- SYNs with a maximum segment size of 1460 that isn't found: behind an option of length 1, behind one that goes past
-- the end, and behind the end of the options
unfoldable pub behind_a_short_option : List ℕ
behind_a_short_option =
    69 ∷ 0 ∷ 0 ∷ 48 ∷ 0 ∷ 1 ∷ 0 ∷ 0 ∷ 64 ∷ 6 ∷ 70 ∷ 136 ∷ 10 ∷ 1 ∷ 0 ∷ 4 ∷ 198 ∷ 51 ∷ 100 ∷ 7 ∷ 19 ∷ 136 ∷ 0 ∷ 80 ∷
    0 ∷ 0 ∷ 0 ∷ 1 ∷ 0 ∷ 0 ∷ 0 ∷ 0 ∷ 112 ∷ 2 ∷ 255 ∷ 255 ∷ 60 ∷ 9 ∷ 0 ∷ 0 ∷ 4 ∷ 1 ∷ 2 ∷ 4 ∷ 5 ∷ 180 ∷ 0 ∷ 0 ∷ []

unfoldable pub behind_a_short_option_out : List ℕ
behind_a_short_option_out =
    69 ∷ 0 ∷ 0 ∷ 48 ∷ 0 ∷ 1 ∷ 0 ∷ 0 ∷ 64 ∷ 6 ∷ 142 ∷ 130 ∷ 192 ∷ 0 ∷ 2 ∷ 10 ∷ 198 ∷ 51 ∷ 100 ∷ 7 ∷ 4 ∷ 0 ∷ 0 ∷ 80 ∷
    0 ∷ 0 ∷ 0 ∷ 1 ∷ 0 ∷ 0 ∷ 0 ∷ 0 ∷ 112 ∷ 2 ∷ 255 ∷ 255 ∷ 147 ∷ 139 ∷ 0 ∷ 0 ∷ 4 ∷ 1 ∷ 2 ∷ 4 ∷ 5 ∷ 180 ∷ 0 ∷ 0 ∷ []

unfoldable pub behind_an_endless_option : List ℕ
behind_an_endless_option =
    69 ∷ 0 ∷ 0 ∷ 48 ∷ 0 ∷ 1 ∷ 0 ∷ 0 ∷ 64 ∷ 6 ∷ 70 ∷ 136 ∷ 10 ∷ 1 ∷ 0 ∷ 4 ∷ 198 ∷ 51 ∷ 100 ∷ 7 ∷ 19 ∷ 136 ∷ 0 ∷ 80 ∷
    0 ∷ 0 ∷ 0 ∷ 1 ∷ 0 ∷ 0 ∷ 0 ∷ 0 ∷ 112 ∷ 2 ∷ 255 ∷ 255 ∷ 58 ∷ 226 ∷ 0 ∷ 0 ∷ 5 ∷ 40 ∷ 2 ∷ 4 ∷ 5 ∷ 180 ∷ 0 ∷ 0 ∷ []

unfoldable pub behind_an_endless_option_out : List ℕ
behind_an_endless_option_out =
    69 ∷ 0 ∷ 0 ∷ 48 ∷ 0 ∷ 1 ∷ 0 ∷ 0 ∷ 64 ∷ 6 ∷ 142 ∷ 130 ∷ 192 ∷ 0 ∷ 2 ∷ 10 ∷ 198 ∷ 51 ∷ 100 ∷ 7 ∷ 4 ∷ 0 ∷ 0 ∷ 80 ∷
    0 ∷ 0 ∷ 0 ∷ 1 ∷ 0 ∷ 0 ∷ 0 ∷ 0 ∷ 112 ∷ 2 ∷ 255 ∷ 255 ∷ 146 ∷ 100 ∷ 0 ∷ 0 ∷ 5 ∷ 40 ∷ 2 ∷ 4 ∷ 5 ∷ 180 ∷ 0 ∷ 0 ∷ []

unfoldable pub behind_the_end : List ℕ
behind_the_end =
    69 ∷ 0 ∷ 0 ∷ 48 ∷ 0 ∷ 1 ∷ 0 ∷ 0 ∷ 64 ∷ 6 ∷ 70 ∷ 136 ∷ 10 ∷ 1 ∷ 0 ∷ 4 ∷ 198 ∷ 51 ∷ 100 ∷ 7 ∷ 19 ∷ 136 ∷ 0 ∷ 80 ∷
    0 ∷ 0 ∷ 0 ∷ 1 ∷ 0 ∷ 0 ∷ 0 ∷ 0 ∷ 112 ∷ 2 ∷ 255 ∷ 255 ∷ 64 ∷ 8 ∷ 0 ∷ 0 ∷ 0 ∷ 2 ∷ 2 ∷ 4 ∷ 5 ∷ 180 ∷ 0 ∷ 0 ∷ []

unfoldable pub behind_the_end_out : List ℕ
behind_the_end_out =
    69 ∷ 0 ∷ 0 ∷ 48 ∷ 0 ∷ 1 ∷ 0 ∷ 0 ∷ 64 ∷ 6 ∷ 142 ∷ 130 ∷ 192 ∷ 0 ∷ 2 ∷ 10 ∷ 198 ∷ 51 ∷ 100 ∷ 7 ∷ 4 ∷ 0 ∷ 0 ∷ 80 ∷
    0 ∷ 0 ∷ 0 ∷ 1 ∷ 0 ∷ 0 ∷ 0 ∷ 0 ∷ 112 ∷ 2 ∷ 255 ∷ 255 ∷ 151 ∷ 138 ∷ 0 ∷ 0 ∷ 0 ∷ 2 ∷ 2 ∷ 4 ∷ 5 ∷ 180 ∷ 0 ∷ 0 ∷ []

-- a maximum segment size of 1460 behind 36 bytes of padding, in the longest header; and one of 8960 behind timestamps
unfoldable pub behind_many : List ℕ
behind_many =
    69 ∷ 0 ∷ 0 ∷ 80 ∷ 0 ∷ 1 ∷ 0 ∷ 0 ∷ 64 ∷ 6 ∷ 70 ∷ 104 ∷ 10 ∷ 1 ∷ 0 ∷ 4 ∷ 198 ∷ 51 ∷ 100 ∷ 7 ∷ 19 ∷ 136 ∷ 0 ∷ 80 ∷
    0 ∷ 0 ∷ 0 ∷ 1 ∷ 0 ∷ 0 ∷ 0 ∷ 0 ∷ 240 ∷ 2 ∷ 255 ∷ 255 ∷ 173 ∷ 215 ∷ 0 ∷ 0 ∷ 1 ∷ 1 ∷ 1 ∷ 1 ∷ 1 ∷ 1 ∷ 1 ∷ 1 ∷ 1 ∷ 1 ∷
    1 ∷ 1 ∷ 1 ∷ 1 ∷ 1 ∷ 1 ∷ 1 ∷ 1 ∷ 1 ∷ 1 ∷ 1 ∷ 1 ∷ 1 ∷ 1 ∷ 1 ∷ 1 ∷ 1 ∷ 1 ∷ 1 ∷ 1 ∷ 1 ∷ 1 ∷ 1 ∷ 1 ∷ 1 ∷ 1 ∷ 2 ∷ 4 ∷
    5 ∷ 180 ∷ []

unfoldable pub behind_many_out : List ℕ
behind_many_out =
    69 ∷ 0 ∷ 0 ∷ 80 ∷ 0 ∷ 1 ∷ 0 ∷ 0 ∷ 64 ∷ 6 ∷ 142 ∷ 98 ∷ 192 ∷ 0 ∷ 2 ∷ 10 ∷ 198 ∷ 51 ∷ 100 ∷ 7 ∷ 4 ∷ 0 ∷ 0 ∷ 80 ∷ 0 ∷
    0 ∷ 0 ∷ 1 ∷ 0 ∷ 0 ∷ 0 ∷ 0 ∷ 240 ∷ 2 ∷ 255 ∷ 255 ∷ 5 ∷ 110 ∷ 0 ∷ 0 ∷ 1 ∷ 1 ∷ 1 ∷ 1 ∷ 1 ∷ 1 ∷ 1 ∷ 1 ∷ 1 ∷ 1 ∷ 1 ∷
    1 ∷ 1 ∷ 1 ∷ 1 ∷ 1 ∷ 1 ∷ 1 ∷ 1 ∷ 1 ∷ 1 ∷ 1 ∷ 1 ∷ 1 ∷ 1 ∷ 1 ∷ 1 ∷ 1 ∷ 1 ∷ 1 ∷ 1 ∷ 1 ∷ 1 ∷ 1 ∷ 1 ∷ 1 ∷ 2 ∷ 4 ∷ 5 ∷
    160 ∷ []

unfoldable pub behind_timestamps : List ℕ
behind_timestamps =
    69 ∷ 0 ∷ 0 ∷ 56 ∷ 0 ∷ 1 ∷ 0 ∷ 0 ∷ 64 ∷ 6 ∷ 70 ∷ 128 ∷ 10 ∷ 1 ∷ 0 ∷ 4 ∷ 198 ∷ 51 ∷ 100 ∷ 7 ∷ 19 ∷ 136 ∷ 0 ∷ 80 ∷
    0 ∷ 0 ∷ 0 ∷ 1 ∷ 0 ∷ 0 ∷ 0 ∷ 0 ∷ 144 ∷ 2 ∷ 255 ∷ 255 ∷ 249 ∷ 163 ∷ 0 ∷ 0 ∷ 8 ∷ 10 ∷ 0 ∷ 0 ∷ 0 ∷ 7 ∷ 0 ∷ 0 ∷ 0 ∷ 0 ∷
    1 ∷ 1 ∷ 2 ∷ 4 ∷ 35 ∷ 0 ∷ []

unfoldable pub behind_timestamps_out : List ℕ
behind_timestamps_out =
    69 ∷ 0 ∷ 0 ∷ 56 ∷ 0 ∷ 1 ∷ 0 ∷ 0 ∷ 64 ∷ 6 ∷ 142 ∷ 122 ∷ 192 ∷ 0 ∷ 2 ∷ 10 ∷ 198 ∷ 51 ∷ 100 ∷ 7 ∷ 4 ∷ 0 ∷ 0 ∷ 80 ∷
    0 ∷ 0 ∷ 0 ∷ 1 ∷ 0 ∷ 0 ∷ 0 ∷ 0 ∷ 144 ∷ 2 ∷ 255 ∷ 255 ∷ 110 ∷ 134 ∷ 0 ∷ 0 ∷ 8 ∷ 10 ∷ 0 ∷ 0 ∷ 0 ∷ 7 ∷ 0 ∷ 0 ∷ 0 ∷ 0 ∷
    1 ∷ 1 ∷ 2 ∷ 4 ∷ 5 ∷ 160 ∷ []

-- maximum segment sizes of 536 and 1440, which stay, and of 1441
unfoldable pub small_size : List ℕ
small_size =
    69 ∷ 0 ∷ 0 ∷ 44 ∷ 0 ∷ 1 ∷ 0 ∷ 0 ∷ 64 ∷ 6 ∷ 70 ∷ 140 ∷ 10 ∷ 1 ∷ 0 ∷ 4 ∷ 198 ∷ 51 ∷ 100 ∷ 7 ∷ 19 ∷ 136 ∷ 0 ∷ 80 ∷
    0 ∷ 0 ∷ 0 ∷ 1 ∷ 0 ∷ 0 ∷ 0 ∷ 0 ∷ 96 ∷ 2 ∷ 255 ∷ 255 ∷ 83 ∷ 170 ∷ 0 ∷ 0 ∷ 2 ∷ 4 ∷ 2 ∷ 24 ∷ []

unfoldable pub small_size_out : List ℕ
small_size_out =
    69 ∷ 0 ∷ 0 ∷ 44 ∷ 0 ∷ 1 ∷ 0 ∷ 0 ∷ 64 ∷ 6 ∷ 142 ∷ 134 ∷ 192 ∷ 0 ∷ 2 ∷ 10 ∷ 198 ∷ 51 ∷ 100 ∷ 7 ∷ 4 ∷ 0 ∷ 0 ∷ 80 ∷
    0 ∷ 0 ∷ 0 ∷ 1 ∷ 0 ∷ 0 ∷ 0 ∷ 0 ∷ 96 ∷ 2 ∷ 255 ∷ 255 ∷ 171 ∷ 44 ∷ 0 ∷ 0 ∷ 2 ∷ 4 ∷ 2 ∷ 24 ∷ []

unfoldable pub fitting_size : List ℕ
fitting_size =
    69 ∷ 0 ∷ 0 ∷ 44 ∷ 0 ∷ 1 ∷ 0 ∷ 0 ∷ 64 ∷ 6 ∷ 70 ∷ 140 ∷ 10 ∷ 1 ∷ 0 ∷ 4 ∷ 198 ∷ 51 ∷ 100 ∷ 7 ∷ 19 ∷ 136 ∷ 0 ∷ 80 ∷
    0 ∷ 0 ∷ 0 ∷ 1 ∷ 0 ∷ 0 ∷ 0 ∷ 0 ∷ 96 ∷ 2 ∷ 255 ∷ 255 ∷ 80 ∷ 34 ∷ 0 ∷ 0 ∷ 2 ∷ 4 ∷ 5 ∷ 160 ∷ []

unfoldable pub fitting_size_out : List ℕ
fitting_size_out =
    69 ∷ 0 ∷ 0 ∷ 44 ∷ 0 ∷ 1 ∷ 0 ∷ 0 ∷ 64 ∷ 6 ∷ 142 ∷ 134 ∷ 192 ∷ 0 ∷ 2 ∷ 10 ∷ 198 ∷ 51 ∷ 100 ∷ 7 ∷ 4 ∷ 0 ∷ 0 ∷ 80 ∷
    0 ∷ 0 ∷ 0 ∷ 1 ∷ 0 ∷ 0 ∷ 0 ∷ 0 ∷ 96 ∷ 2 ∷ 255 ∷ 255 ∷ 167 ∷ 164 ∷ 0 ∷ 0 ∷ 2 ∷ 4 ∷ 5 ∷ 160 ∷ []

unfoldable pub next_size : List ℕ
next_size =
    69 ∷ 0 ∷ 0 ∷ 44 ∷ 0 ∷ 1 ∷ 0 ∷ 0 ∷ 64 ∷ 6 ∷ 70 ∷ 140 ∷ 10 ∷ 1 ∷ 0 ∷ 4 ∷ 198 ∷ 51 ∷ 100 ∷ 7 ∷ 19 ∷ 136 ∷ 0 ∷ 80 ∷
    0 ∷ 0 ∷ 0 ∷ 1 ∷ 0 ∷ 0 ∷ 0 ∷ 0 ∷ 96 ∷ 2 ∷ 255 ∷ 255 ∷ 80 ∷ 33 ∷ 0 ∷ 0 ∷ 2 ∷ 4 ∷ 5 ∷ 161 ∷ []

unfoldable pub next_size_out : List ℕ
next_size_out =
    69 ∷ 0 ∷ 0 ∷ 44 ∷ 0 ∷ 1 ∷ 0 ∷ 0 ∷ 64 ∷ 6 ∷ 142 ∷ 134 ∷ 192 ∷ 0 ∷ 2 ∷ 10 ∷ 198 ∷ 51 ∷ 100 ∷ 7 ∷ 4 ∷ 0 ∷ 0 ∷ 80 ∷
    0 ∷ 0 ∷ 0 ∷ 1 ∷ 0 ∷ 0 ∷ 0 ∷ 0 ∷ 96 ∷ 2 ∷ 255 ∷ 255 ∷ 167 ∷ 164 ∷ 0 ∷ 0 ∷ 2 ∷ 4 ∷ 5 ∷ 160 ∷ []

-- an option of kind 2 and length 6, and a maximum segment size of 1460 in a segment without SYN
unfoldable pub other_length : List ℕ
other_length =
    69 ∷ 0 ∷ 0 ∷ 48 ∷ 0 ∷ 1 ∷ 0 ∷ 0 ∷ 64 ∷ 6 ∷ 70 ∷ 136 ∷ 10 ∷ 1 ∷ 0 ∷ 4 ∷ 198 ∷ 51 ∷ 100 ∷ 7 ∷ 19 ∷ 136 ∷ 0 ∷ 80 ∷
    0 ∷ 0 ∷ 0 ∷ 1 ∷ 0 ∷ 0 ∷ 0 ∷ 0 ∷ 112 ∷ 2 ∷ 255 ∷ 255 ∷ 64 ∷ 8 ∷ 0 ∷ 0 ∷ 2 ∷ 6 ∷ 5 ∷ 180 ∷ 0 ∷ 0 ∷ 0 ∷ 0 ∷ []

unfoldable pub other_length_out : List ℕ
other_length_out =
    69 ∷ 0 ∷ 0 ∷ 48 ∷ 0 ∷ 1 ∷ 0 ∷ 0 ∷ 64 ∷ 6 ∷ 142 ∷ 130 ∷ 192 ∷ 0 ∷ 2 ∷ 10 ∷ 198 ∷ 51 ∷ 100 ∷ 7 ∷ 4 ∷ 0 ∷ 0 ∷ 80 ∷
    0 ∷ 0 ∷ 0 ∷ 1 ∷ 0 ∷ 0 ∷ 0 ∷ 0 ∷ 112 ∷ 2 ∷ 255 ∷ 255 ∷ 151 ∷ 138 ∷ 0 ∷ 0 ∷ 2 ∷ 6 ∷ 5 ∷ 180 ∷ 0 ∷ 0 ∷ 0 ∷ 0 ∷ []

unfoldable pub size_without_syn : List ℕ
size_without_syn =
    69 ∷ 0 ∷ 0 ∷ 44 ∷ 0 ∷ 1 ∷ 0 ∷ 0 ∷ 64 ∷ 6 ∷ 70 ∷ 140 ∷ 10 ∷ 1 ∷ 0 ∷ 4 ∷ 198 ∷ 51 ∷ 100 ∷ 7 ∷ 19 ∷ 136 ∷ 0 ∷ 80 ∷
    0 ∷ 0 ∷ 0 ∷ 1 ∷ 0 ∷ 0 ∷ 0 ∷ 0 ∷ 96 ∷ 16 ∷ 255 ∷ 255 ∷ 80 ∷ 0 ∷ 0 ∷ 0 ∷ 2 ∷ 4 ∷ 5 ∷ 180 ∷ []

unfoldable pub size_without_syn_out : List ℕ
size_without_syn_out =
    69 ∷ 0 ∷ 0 ∷ 44 ∷ 0 ∷ 1 ∷ 0 ∷ 0 ∷ 64 ∷ 6 ∷ 142 ∷ 134 ∷ 192 ∷ 0 ∷ 2 ∷ 10 ∷ 198 ∷ 51 ∷ 100 ∷ 7 ∷ 4 ∷ 0 ∷ 0 ∷ 80 ∷
    0 ∷ 0 ∷ 0 ∷ 1 ∷ 0 ∷ 0 ∷ 0 ∷ 0 ∷ 96 ∷ 16 ∷ 255 ∷ 255 ∷ 167 ∷ 130 ∷ 0 ∷ 0 ∷ 2 ∷ 4 ∷ 5 ∷ 180 ∷ []

-- TCP whose checksum is computed 0 once it comes from 192.0.2.10 port 1024
unfoldable pub sums_to_zero : List ℕ
sums_to_zero =
    69 ∷ 0 ∷ 0 ∷ 42 ∷ 0 ∷ 1 ∷ 0 ∷ 0 ∷ 64 ∷ 6 ∷ 70 ∷ 142 ∷ 10 ∷ 1 ∷ 0 ∷ 4 ∷ 198 ∷ 51 ∷ 100 ∷ 7 ∷ 19 ∷ 136 ∷ 0 ∷ 80 ∷
    0 ∷ 0 ∷ 0 ∷ 1 ∷ 0 ∷ 0 ∷ 0 ∷ 0 ∷ 80 ∷ 16 ∷ 255 ∷ 255 ∷ 168 ∷ 125 ∷ 0 ∷ 0 ∷ 191 ∷ 60 ∷ []

unfoldable pub sums_to_zero_out : List ℕ
sums_to_zero_out =
    69 ∷ 0 ∷ 0 ∷ 42 ∷ 0 ∷ 1 ∷ 0 ∷ 0 ∷ 64 ∷ 6 ∷ 142 ∷ 136 ∷ 192 ∷ 0 ∷ 2 ∷ 10 ∷ 198 ∷ 51 ∷ 100 ∷ 7 ∷ 4 ∷ 0 ∷ 0 ∷ 80 ∷
    0 ∷ 0 ∷ 0 ∷ 1 ∷ 0 ∷ 0 ∷ 0 ∷ 0 ∷ 80 ∷ 16 ∷ 255 ∷ 255 ∷ 0 ∷ 0 ∷ 0 ∷ 0 ∷ 191 ∷ 60 ∷ []

-- a datagram of which the same is true: it is sent with FFFF
unfoldable pub datagram_sums_to_zero : List ℕ
datagram_sums_to_zero =
    69 ∷ 0 ∷ 0 ∷ 30 ∷ 0 ∷ 1 ∷ 0 ∷ 0 ∷ 64 ∷ 17 ∷ 70 ∷ 143 ∷ 10 ∷ 1 ∷ 0 ∷ 4 ∷ 198 ∷ 51 ∷ 100 ∷ 7 ∷ 19 ∷ 136 ∷ 0 ∷ 53 ∷
    0 ∷ 10 ∷ 168 ∷ 125 ∷ 15 ∷ 96 ∷ []

unfoldable pub datagram_sums_to_zero_out : List ℕ
datagram_sums_to_zero_out =
    69 ∷ 0 ∷ 0 ∷ 30 ∷ 0 ∷ 1 ∷ 0 ∷ 0 ∷ 64 ∷ 17 ∷ 142 ∷ 137 ∷ 192 ∷ 0 ∷ 2 ∷ 10 ∷ 198 ∷ 51 ∷ 100 ∷ 7 ∷ 4 ∷ 0 ∷ 0 ∷ 53 ∷
    0 ∷ 10 ∷ 255 ∷ 255 ∷ 15 ∷ 96 ∷ []

-- a RST
unfoldable pub reset : List ℕ
reset =
    69 ∷ 0 ∷ 0 ∷ 40 ∷ 0 ∷ 1 ∷ 0 ∷ 0 ∷ 64 ∷ 6 ∷ 70 ∷ 144 ∷ 10 ∷ 1 ∷ 0 ∷ 4 ∷ 198 ∷ 51 ∷ 100 ∷ 7 ∷ 19 ∷ 136 ∷ 0 ∷ 80 ∷
    0 ∷ 0 ∷ 0 ∷ 1 ∷ 0 ∷ 0 ∷ 0 ∷ 0 ∷ 80 ∷ 4 ∷ 255 ∷ 255 ∷ 103 ∷ 200 ∷ 0 ∷ 0 ∷ []

-- a SYN with ACK from 198.51.100.7 port 80 to 192.0.2.10 port 1024, with a maximum segment size of 1460
unfoldable pub reply : List ℕ
reply =
    69 ∷ 0 ∷ 0 ∷ 44 ∷ 0 ∷ 2 ∷ 0 ∷ 0 ∷ 56 ∷ 6 ∷ 150 ∷ 133 ∷ 198 ∷ 51 ∷ 100 ∷ 7 ∷ 192 ∷ 0 ∷ 2 ∷ 10 ∷ 0 ∷ 80 ∷ 4 ∷ 0 ∷
    0 ∷ 0 ∷ 0 ∷ 1 ∷ 0 ∷ 0 ∷ 0 ∷ 2 ∷ 96 ∷ 18 ∷ 255 ∷ 255 ∷ 167 ∷ 126 ∷ 0 ∷ 0 ∷ 2 ∷ 4 ∷ 5 ∷ 180 ∷ []

-- the same to 10.1.0.4 port 5000 with 1440, one hop further and at once
unfoldable pub reply_handed : List ℕ
reply_handed =
    69 ∷ 0 ∷ 0 ∷ 44 ∷ 0 ∷ 2 ∷ 0 ∷ 0 ∷ 55 ∷ 6 ∷ 79 ∷ 139 ∷ 198 ∷ 51 ∷ 100 ∷ 7 ∷ 10 ∷ 1 ∷ 0 ∷ 4 ∷ 0 ∷ 80 ∷ 19 ∷ 136 ∷
    0 ∷ 0 ∷ 0 ∷ 1 ∷ 0 ∷ 0 ∷ 0 ∷ 2 ∷ 96 ∷ 18 ∷ 255 ∷ 255 ∷ 80 ∷ 16 ∷ 0 ∷ 0 ∷ 2 ∷ 4 ∷ 5 ∷ 160 ∷ []

unfoldable pub reply_handed_at_once : List ℕ
reply_handed_at_once =
    69 ∷ 0 ∷ 0 ∷ 44 ∷ 0 ∷ 2 ∷ 0 ∷ 0 ∷ 56 ∷ 6 ∷ 78 ∷ 139 ∷ 198 ∷ 51 ∷ 100 ∷ 7 ∷ 10 ∷ 1 ∷ 0 ∷ 4 ∷ 0 ∷ 80 ∷ 19 ∷ 136 ∷
    0 ∷ 0 ∷ 0 ∷ 1 ∷ 0 ∷ 0 ∷ 0 ∷ 2 ∷ 96 ∷ 18 ∷ 255 ∷ 255 ∷ 80 ∷ 16 ∷ 0 ∷ 0 ∷ 2 ∷ 4 ∷ 5 ∷ 160 ∷ []

-- it with 1440, it to 10.1.0.4 port 5000, and it from 192.0.2.10 port 1024, each alone
unfoldable pub reply_clamped : List ℕ
reply_clamped =
    69 ∷ 0 ∷ 0 ∷ 44 ∷ 0 ∷ 2 ∷ 0 ∷ 0 ∷ 56 ∷ 6 ∷ 150 ∷ 133 ∷ 198 ∷ 51 ∷ 100 ∷ 7 ∷ 192 ∷ 0 ∷ 2 ∷ 10 ∷ 0 ∷ 80 ∷ 4 ∷ 0 ∷
    0 ∷ 0 ∷ 0 ∷ 1 ∷ 0 ∷ 0 ∷ 0 ∷ 2 ∷ 96 ∷ 18 ∷ 255 ∷ 255 ∷ 167 ∷ 146 ∷ 0 ∷ 0 ∷ 2 ∷ 4 ∷ 5 ∷ 160 ∷ []

unfoldable pub reply_redirected : List ℕ
reply_redirected =
    69 ∷ 0 ∷ 0 ∷ 44 ∷ 0 ∷ 2 ∷ 0 ∷ 0 ∷ 56 ∷ 6 ∷ 78 ∷ 139 ∷ 198 ∷ 51 ∷ 100 ∷ 7 ∷ 10 ∷ 1 ∷ 0 ∷ 4 ∷ 0 ∷ 80 ∷ 19 ∷ 136 ∷
    0 ∷ 0 ∷ 0 ∷ 1 ∷ 0 ∷ 0 ∷ 0 ∷ 2 ∷ 96 ∷ 18 ∷ 255 ∷ 255 ∷ 79 ∷ 252 ∷ 0 ∷ 0 ∷ 2 ∷ 4 ∷ 5 ∷ 180 ∷ []

unfoldable pub reply_sent : List ℕ
reply_sent =
    69 ∷ 0 ∷ 0 ∷ 44 ∷ 0 ∷ 2 ∷ 0 ∷ 0 ∷ 56 ∷ 6 ∷ 254 ∷ 181 ∷ 192 ∷ 0 ∷ 2 ∷ 10 ∷ 192 ∷ 0 ∷ 2 ∷ 10 ∷ 4 ∷ 0 ∷ 4 ∷ 0 ∷ 0 ∷
    0 ∷ 0 ∷ 1 ∷ 0 ∷ 0 ∷ 0 ∷ 2 ∷ 96 ∷ 18 ∷ 255 ∷ 255 ∷ 11 ∷ 255 ∷ 0 ∷ 0 ∷ 2 ∷ 4 ∷ 5 ∷ 180 ∷ []

-- TCP with a data offset of four words, one of six where there are five, and a wrong checksum; and one of 19 bytes
unfoldable pub low_offset : List ℕ
low_offset =
    69 ∷ 0 ∷ 0 ∷ 40 ∷ 0 ∷ 1 ∷ 0 ∷ 0 ∷ 64 ∷ 6 ∷ 70 ∷ 144 ∷ 10 ∷ 1 ∷ 0 ∷ 4 ∷ 198 ∷ 51 ∷ 100 ∷ 7 ∷ 19 ∷ 136 ∷ 0 ∷ 80 ∷
    0 ∷ 0 ∷ 0 ∷ 1 ∷ 0 ∷ 0 ∷ 0 ∷ 0 ∷ 64 ∷ 16 ∷ 255 ∷ 255 ∷ 103 ∷ 188 ∷ 0 ∷ 0 ∷ []

unfoldable pub high_offset : List ℕ
high_offset =
    69 ∷ 0 ∷ 0 ∷ 40 ∷ 0 ∷ 1 ∷ 0 ∷ 0 ∷ 64 ∷ 6 ∷ 70 ∷ 144 ∷ 10 ∷ 1 ∷ 0 ∷ 4 ∷ 198 ∷ 51 ∷ 100 ∷ 7 ∷ 19 ∷ 136 ∷ 0 ∷ 80 ∷
    0 ∷ 0 ∷ 0 ∷ 1 ∷ 0 ∷ 0 ∷ 0 ∷ 0 ∷ 96 ∷ 16 ∷ 255 ∷ 255 ∷ 103 ∷ 188 ∷ 0 ∷ 0 ∷ []

unfoldable pub wrong_sum : List ℕ
wrong_sum =
    69 ∷ 0 ∷ 0 ∷ 40 ∷ 0 ∷ 1 ∷ 0 ∷ 0 ∷ 64 ∷ 6 ∷ 70 ∷ 144 ∷ 10 ∷ 1 ∷ 0 ∷ 4 ∷ 198 ∷ 51 ∷ 100 ∷ 7 ∷ 19 ∷ 136 ∷ 0 ∷ 80 ∷
    0 ∷ 0 ∷ 0 ∷ 1 ∷ 0 ∷ 0 ∷ 0 ∷ 0 ∷ 80 ∷ 16 ∷ 255 ∷ 255 ∷ 103 ∷ 188 ∷ 0 ∷ 1 ∷ []

unfoldable pub short_segment : List ℕ
short_segment =
    69 ∷ 0 ∷ 0 ∷ 39 ∷ 0 ∷ 1 ∷ 0 ∷ 0 ∷ 64 ∷ 6 ∷ 70 ∷ 145 ∷ 10 ∷ 1 ∷ 0 ∷ 4 ∷ 198 ∷ 51 ∷ 100 ∷ 7 ∷ 19 ∷ 136 ∷ 0 ∷ 80 ∷
    0 ∷ 0 ∷ 0 ∷ 1 ∷ 0 ∷ 0 ∷ 0 ∷ 0 ∷ 80 ∷ 16 ∷ 255 ∷ 255 ∷ 103 ∷ 188 ∷ 0 ∷ []

-- datagrams with a length of 7, and of 9 where there are 8 bytes, and one of 7 bytes
unfoldable pub low_length : List ℕ
low_length =
    69 ∷ 0 ∷ 0 ∷ 28 ∷ 0 ∷ 1 ∷ 0 ∷ 0 ∷ 64 ∷ 17 ∷ 70 ∷ 145 ∷ 10 ∷ 1 ∷ 0 ∷ 4 ∷ 198 ∷ 51 ∷ 100 ∷ 7 ∷ 19 ∷ 136 ∷ 0 ∷ 53 ∷
    0 ∷ 7 ∷ 0 ∷ 0 ∷ []

unfoldable pub high_length : List ℕ
high_length =
    69 ∷ 0 ∷ 0 ∷ 28 ∷ 0 ∷ 1 ∷ 0 ∷ 0 ∷ 64 ∷ 17 ∷ 70 ∷ 145 ∷ 10 ∷ 1 ∷ 0 ∷ 4 ∷ 198 ∷ 51 ∷ 100 ∷ 7 ∷ 19 ∷ 136 ∷ 0 ∷ 53 ∷
    0 ∷ 9 ∷ 0 ∷ 0 ∷ []

unfoldable pub short_datagram_header : List ℕ
short_datagram_header =
    69 ∷ 0 ∷ 0 ∷ 27 ∷ 0 ∷ 1 ∷ 0 ∷ 0 ∷ 64 ∷ 17 ∷ 70 ∷ 146 ∷ 10 ∷ 1 ∷ 0 ∷ 4 ∷ 198 ∷ 51 ∷ 100 ∷ 7 ∷ 19 ∷ 136 ∷ 0 ∷ 53 ∷
    0 ∷ 10 ∷ 79 ∷ []
