-- What is told in the run, in bytes: a frame byte, and a message or a packet.
use Rattle.std.specs.Prelude.{ℕ, List, ◌++◌, codes}
use Rattle.worked_run.specs.Hex.{hex}

-- ---- packets

-- a machine's packet: UDP from 10.1.0.4:5000 to 198.51.100.7:53
abbrev pub packet_out : List ℕ
packet_out = hex (codes "024500001e000100004011468f0a010004c633640713880035000a4f746869")

-- the same as it leaves, from 192.0.2.10:1024
abbrev pub packet_left : List ℕ
packet_left = hex (codes "024500001e0001000040118e89c000020ac633640704000035000aa6f66869")

-- the reply, as it comes to a mux
abbrev pub reply_in : List ℕ
reply_in = hex (codes "024500001e0002000038119688c6336407c000020a00350400000a9ff46f6b")

-- the reply, as a mux wraps it for the agent
abbrev pub reply_wrapped : List ℕ
reply_wrapped = hex
    (codes "024500003200004000400426ba0a0900010a0100044500001e0002000037119788c6336407c000020a00350400000a9f"
    ++ codes "f46f6b")

-- the reply, as it is handed to the machine
abbrev pub reply_handed : List ℕ
reply_handed = hex (codes "024500001e0002000037114f8ec63364070a01000400351388000a48726f6b")

-- ---- from node to node

-- the mux is there, in boot 1 and epoch 0
abbrev pub hello : List ℕ
hello = hex (codes "01010f00000000000000010000000000000000")

-- the first candidacy
abbrev pub prepare : List ℕ
prepare = hex (codes "0101010000000000000005")

-- a promise, of a log of length 0 and without a vote
abbrev pub promise : List ℕ
promise = hex (codes "010102000000000000000500000000000000000000000000000000")

-- the agent's request
abbrev pub ask : List ℕ
ask = hex (codes "01010800000000000000010a0100040000000000000001")

-- for slot 0: a value of one Reserve
abbrev pub accept_reserve : List ℕ
accept_reserve = hex (codes "010103000000000000000500000000000000000101000000000000000000010a0100040000000000000001")

abbrev pub accepted_reserve : List ℕ
accepted_reserve = hex (codes "01010400000000000000050000000000000000")

abbrev pub chosen_reserve : List ℕ
chosen_reserve = hex (codes "010106000000000000000000000000000000050101000000000000000000010a0100040000000000000001")

-- the row, for the mux
abbrev pub program : List ℕ
program = hex (codes "010110000000000000000500000000000000010000000000000001c000020a04000a010004")

abbrev pub programmed : List ℕ
programmed = hex (codes "010111000000000000000500000000000000010000000000000001")

-- for slot 1: a value of one Granted
abbrev pub accept_granted : List ℕ
accept_granted = hex (codes "01010300000000000000050000000000000001010200000000000000010100000000000000000001")

abbrev pub accepted_granted : List ℕ
accepted_granted = hex (codes "01010400000000000000050000000000000001")

abbrev pub chosen_granted : List ℕ
chosen_granted = hex (codes "01010600000000000000010000000000000005010200000000000000010100000000000000000001")

-- the lease, for the agent
abbrev pub grant : List ℕ
grant = hex (codes "01010900000000000000010a01000400000000000000010000000000000001c000020a0400")

-- ---- entries

abbrev pub promised : List ℕ
promised = hex (codes "020000000000000005")

abbrev pub voted_reserve : List ℕ
voted_reserve = hex (codes "0300000000000000050101000000000000000000010a0100040000000000000001")

abbrev pub learned_reserve : List ℕ
learned_reserve = hex (codes "0400000000000000050101000000000000000000010a0100040000000000000001")

abbrev pub voted_granted : List ℕ
voted_granted = hex (codes "030000000000000005010200000000000000010100000000000000000001")

abbrev pub learned_granted : List ℕ
learned_granted = hex (codes "040000000000000005010200000000000000010100000000000000000001")
