-- What a machine and replicas say to an agent, and what it says to them.
use Rattle.std.specs.Prelude.{ℕ, ◌+◌, List, ◌∷◌, ◌++◌, codes}
use Rattle.worked_run.specs.Hex.{hex}

-- from 10.1.0.4:5000 to 198.51.100.8:53, and from port 5001 to the first remote end; as they leave, from ports 1024
-- and 1025
abbrev pub to_8 : List ℕ
to_8 = hex (codes "024500001e000100004011468e0a010004c633640813880035000a4f736869")

abbrev pub to_8_left : List ℕ
to_8_left = hex (codes "024500001e0001000040118e88c000020ac633640804000035000aa6f56869")

abbrev pub from_5001 : List ℕ
from_5001 = hex (codes "024500001e000100004011468f0a010004c633640713890035000a4f736869")

abbrev pub from_5001_left : List ℕ
from_5001_left = hex (codes "024500001e0001000040118e89c000020ac633640704010035000aa6f56869")

-- with another machine's address as source; with a wrong checksum; by a machine that leaves from no VIP
abbrev pub other_source : List ℕ
other_source = hex (codes "024500001e000100004011468a0a010009c633640713880035000a4f6f6869")

abbrev pub bad_sum : List ℕ
bad_sum = hex (codes "024500001e000100004011468f0a010004c633640713880035000a4f756869")

abbrev pub of_server : List ℕ
of_server = hex (codes "024500001e000100004011468e0a010005c633640713880035000a4f736869")

-- asks: the second one of boot 1, and one of the other machine
abbrev pub ask_2 : List ℕ
ask_2 = hex (codes "01010800000000000000010a0100040000000000000002")

abbrev pub ask_other : List ℕ
ask_other = hex (codes "01010800000000000000010a0100050000000000000001")

-- lease 17 on the range from 1032 on; lease 1 for a foreign machine, on a range that may not be leased; lease 17 on
-- the first range
abbrev pub grant_17 : List ℕ
grant_17 = hex (codes "01010900000000000000010a01000400000000000000010000000000000011c000020a0408")

abbrev pub grant_foreign : List ℕ
grant_foreign = hex (codes "01010900000000000000010a01000900000000000000010000000000000001c000020a0400")

abbrev pub grant_above : List ℕ
grant_above = hex (codes "01010900000000000000010a01000400000000000000010000000000000001c000020a0440")

abbrev pub grant_17_first : List ℕ
grant_17_first = hex (codes "01010900000000000000010a01000400000000000000020000000000000011c000020a0400")

-- lease 1 on the range from 1032 on
abbrev pub grant_1_second : List ℕ
grant_1_second = hex (codes "01010900000000000000010a01000400000000000000020000000000000001c000020a0408")

-- denied: the first ask; the second one; in boot 2
abbrev pub denied_1 : List ℕ
denied_1 = hex (codes "01010a00000000000000010a0100040000000000000001010000000000000021")

abbrev pub denied_2 : List ℕ
denied_2 = hex (codes "01010a00000000000000010a0100040000000000000002010000000000000021")

abbrev pub denied_in_2 : List ℕ
denied_in_2 = hex (codes "01010a00000000000000020a0100040000000000000001010000000000000021")

-- the return of lease 1 is known, in boots 1 and 2
abbrev pub returned_1 : List ℕ
returned_1 = hex (codes "01010c00000000000000010000000000000001")

abbrev pub returned_in_2 : List ℕ
returned_in_2 = hex (codes "01010c00000000000000020000000000000001")

-- boots 1 and 2 are known
abbrev pub known_1 : List ℕ
known_1 = hex (codes "01010e0000000000000001")

abbrev pub known_2 : List ℕ
known_2 = hex (codes "01010e0000000000000002")

-- boot 1 runs; lease 1 is given back
abbrev pub up_1 : List ℕ
up_1 = hex (codes "01010d0000000000000001")

abbrev pub gives_back_1 : List ℕ
gives_back_1 = hex (codes "01010b00000000000000010000000000000001")

-- ---- several ranges, several packets

-- from port 5000 + i of the machine to the first remote end, without a checksum; as it leaves, from port 1024 + i
abbrev pub from_port : ℕ → List ℕ
from_port i =
    hex (codes "024500001e000100004011468f0a010004c6336407") ++ 19 ∷ (136 + i) ∷ hex (codes "0035000a00006869")

abbrev pub from_port_left : ℕ → List ℕ
from_port_left i = hex (codes "024500001e0001000040118e89c000020ac6336407") ++ 4 ∷ i ∷ hex (codes "0035000a00006869")

-- from port 5007, as it leaves from the last port of all
abbrev pub from_last_left : List ℕ
from_last_left = hex (codes "024500001e0001000040118e89c000020ac6336407ffff0035000a00006869")

-- lease 1 on the last range of all; lease 1 for the other machine
abbrev pub grant_last : List ℕ
grant_last = hex (codes "01010900000000000000010a01000400000000000000010000000000000001c000020afff8")

abbrev pub grant_other : List ℕ
grant_other = hex (codes "01010900000000000000010a01000500000000000000010000000000000001c000020a0400")

-- lease 1 in boot 2
abbrev pub grant_in_2 : List ℕ
grant_in_2 = hex (codes "01010900000000000000020a01000400000000000000010000000000000001c000020a0400")

-- a foreign machine is denied
abbrev pub denied_foreign : List ℕ
denied_foreign = hex (codes "01010a00000000000000010a0100090000000000000001010000000000000021")

-- the return of lease 17 is known; lease 17 is given back; lease 1 is given back in boot 2
abbrev pub returned_17 : List ℕ
returned_17 = hex (codes "01010c00000000000000010000000000000011")

abbrev pub gives_back_17 : List ℕ
gives_back_17 = hex (codes "01010b00000000000000010000000000000011")

abbrev pub gives_back_in_2 : List ℕ
gives_back_in_2 = hex (codes "01010b00000000000000020000000000000001")

-- the first ask of boot 2, and the last of all of boot 1
abbrev pub ask_in_2 : List ℕ
ask_in_2 = hex (codes "01010800000000000000020a0100040000000000000001")

abbrev pub ask_last : List ℕ
ask_last = hex (codes "01010800000000000000010a010004ffffffffffffffff")

-- boot 2 runs
abbrev pub up_2 : List ℕ
up_2 = hex (codes "01010d0000000000000002")
