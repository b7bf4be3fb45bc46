-- Packets to and from an agent's machines, wrapped and as they are handed.
use Rattle.std.specs.Prelude.{ℕ, List, ◌++◌, codes}
use Rattle.worked_run.specs.Hex.{hex}

-- a client opens to the endpoint, wrapped by mux 0; as it is handed, one hop less to live and with the smaller segment
abbrev pub syn_wrapped : List ℕ
syn_wrapped = hex
    (codes "024500004000004000400426ac0a0900010a0100044500002c000000003f068f85c6336409c000020a17700050000000"
    ++ codes "010000000060022000741e0000020405b4")

abbrev pub syn_handed : List ℕ
syn_handed = hex (codes "024500002c000000003f06478bc63364090a01000417701f900000000100000000600220000cf80000020405a0")

-- the endpoint's answer, and as it leaves
abbrev pub answer : List ℕ
answer = hex (codes "0245000028000000004006468f0a010004c63364091f90177000000007000000025012200024880000")

abbrev pub answer_left : List ℕ
answer_left = hex (codes "02450000280000000040068e89c000020ac6336409005017700000000700000002501220008bc20000")

-- the reply wrapped by an agent's machine, for another machine, from another address than the mux's, for a foreign
-- machine
abbrev pub reply_by_agent : List ℕ
reply_by_agent = hex
    (codes "024500003200004000400426be0a0100050a0100044500001e0002000038119688c6336407c000020a00350400000a9f"
    ++ codes "f46f6b")

abbrev pub reply_for_other : List ℕ
reply_for_other = hex
    (codes "024500003200004000400426b90a0900010a0100054500001e0002000037119788c6336407c000020a00350400000a9f"
    ++ codes "f46f6b")

abbrev pub reply_from_other : List ℕ
reply_from_other = hex
    (codes "024500003200004000400426b20a0900090a0100044500001e0002000037119788c6336407c000020a00350400000a9f"
    ++ codes "f46f6b")

abbrev pub reply_for_foreign : List ℕ
reply_for_foreign = hex
    (codes "024500003200004000400426b50a0900010a0100094500001e0002000037119788c6336407c000020a00350400000a9f"
    ++ codes "f46f6b")

-- no packet in it; a wrong inner checksum; to no connection and no endpoint
abbrev pub not_wrapped : List ℕ
not_wrapped = hex (codes "024500001e0002000038119688c6336407c000020a00350400000a9ff46f6b")

abbrev pub inner_bad_sum : List ℕ
inner_bad_sum = hex
    (codes "024500003200004000400426ba0a0900010a0100044500001e0002000037119788c6336407c000020a00350400000a9f"
    ++ codes "f56f6b")

abbrev pub reply_elsewhere : List ℕ
reply_elsewhere = hex
    (codes "024500003200004000400426ba0a0900010a0100044500001e0002000037119788c6336407c000020a00350401000a9f"
    ++ codes "f36f6b")

-- a TCP connection of the machine: it opens, it is reset by the machine, it is reset by the remote end
abbrev pub tcp_out : List ℕ
tcp_out = hex (codes "024500002800000000400646910a010004c63364071388005000000001000000005002200047ca0000")

abbrev pub tcp_left : List ℕ
tcp_left = hex (codes "02450000280000000040068e8bc000020ac6336407040000500000000100000000500220009f4c0000")

abbrev pub reset_out : List ℕ
reset_out = hex (codes "024500002800000000400646910a010004c63364071388005000000005000000005004200047c40000")

abbrev pub reset_left : List ℕ
reset_left = hex (codes "02450000280000000040068e8bc000020ac6336407040000500000000500000000500420009f460000")

abbrev pub reset_wrapped : List ℕ
reset_wrapped = hex
    (codes "024500003c00004000400426b00a0900010a01000445000028000000003706978bc6336407c000020a00500400000000"
    ++ codes "0900000000500420009f420000")

abbrev pub reset_handed : List ℕ
reset_handed = hex (codes "02450000280000000037064f91c63364070a0100040050138800000009000000005004200047c00000")

-- the machine's own connection from port 8080 to the client
abbrev pub private_out : List ℕ
private_out = hex (codes "0245000028000000004006468f0a010004c63364091f90177000000001000000005002200024a00000")

abbrev pub private_left : List ℕ
private_left = hex (codes "02450000280000000040068e89c000020ac633640904001770000000010000000050022000882a0000")

-- to a peer with its last hop, and with none left: the one goes, the other doesn't
abbrev pub direct_last_hop : List ℕ
direct_last_hop = hex (codes "024500002800000000010685910a010004c63364071388005000000005000000005010200047b80000")

abbrev pub direct_last_hop_wrapped : List ℕ
direct_last_hop_wrapped = hex
    (codes "024500003c00004000400426b40a0100040a01000545000028000000000106cd8bc000020ac633640704000050000000"
    ++ codes "0500000000501020009f3a0000")

abbrev pub direct_no_hop : List ℕ
direct_no_hop = hex (codes "024500002800000000000686910a010004c63364071388005000000005000000005010200047b80000")

-- of the machine to the port of its TCP connection: by UDP, and by TCP from port 5001; as they leave
abbrev pub udp_to_80 : List ℕ
udp_to_80 = hex (codes "024500001e000100004011468f0a010004c633640713880050000a4f596869")

abbrev pub udp_to_80_left : List ℕ
udp_to_80_left = hex (codes "024500001e0001000040118e89c000020ac633640704000050000aa6db6869")

abbrev pub tcp_from_5001 : List ℕ
tcp_from_5001 = hex (codes "024500002800000000400646910a010004c63364071389005000000001000000005002200047c90000")

abbrev pub tcp_from_5001_left : List ℕ
tcp_from_5001_left = hex (codes "02450000280000000040068e8bc000020ac6336407040100500000000100000000500220009f4b0000")

-- the reset to a peer: wrapped; with no hop left
abbrev pub reset_to_peer : List ℕ
reset_to_peer = hex
    (codes "024500003c00004000400426b40a0100040a010005450000280000000040068e8bc000020ac63364070400005000000005"
    ++ codes "00000000500420009f460000")

abbrev pub reset_no_hop : List ℕ
reset_no_hop = hex (codes "024500002800000000000686910a010004c63364071388005000000005000000005004200047c40000")

-- the endpoint resets its client's connection, and as it leaves
abbrev pub answer_reset : List ℕ
answer_reset = hex (codes "0245000028000000004006468f0a010004c63364091f90177000000008000000005004200024970000")

abbrev pub answer_reset_left : List ℕ
answer_reset_left = hex (codes "02450000280000000040068e89c000020ac6336409005017700000000800000000500420008bd10000")

-- the client opens from port 6001 too; it opens from port 6000 to the other machine, and as that is handed at its port
abbrev pub syn_6001_wrapped : List ℕ
syn_6001_wrapped = hex
    (codes "024500004000004000400426ac0a0900010a0100044500002c000000003f068f85c6336409c000020a17710050000000"
    ++ codes "010000000060022000741d0000020405b4")

abbrev pub syn_for_other : List ℕ
syn_for_other = hex
    (codes "024500004000004000400426ab0a0900010a0100054500002c000000003f068f85c6336409c000020a17700050000000"
    ++ codes "010000000060022000741e0000020405b4")

abbrev pub syn_handed_other : List ℕ
syn_handed_other = hex
    (codes "024500002c000000003f06478ac63364090a01000517701f910000000100000000600220000cf60000020405a0")

-- with two faults: for a foreign machine, from another address than the mux's; from such an address, with a wrong inner
-- checksum
abbrev pub foreign_from_other : List ℕ
foreign_from_other = hex
    (codes "024500003200004000400426ad0a0900090a0100094500001e0002000037119788c6336407c000020a00350400000a9f"
    ++ codes "f46f6b")

abbrev pub bad_sum_from_other : List ℕ
bad_sum_from_other = hex
    (codes "024500003200004000400426b20a0900090a0100044500001e0002000037119788c6336407c000020a00350400000a9f"
    ++ codes "f56f6b")
