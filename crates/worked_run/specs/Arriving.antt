-- Packets that come to a mux, and what it makes of them.
use Rattle.std.specs.Prelude.{ℕ, List, ◌++◌, codes}
use Rattle.worked_run.specs.Hex.{hex}

-- a reply with four bytes behind its total length, with a wrong checksum, with its last hop
abbrev pub reply_padded : List ℕ
reply_padded = hex (codes "024500001e0002000038119688c6336407c000020a00350400000a9ff46f6b00000000")

abbrev pub reply_bad_sum : List ℕ
reply_bad_sum = hex (codes "024500001e0002000038119688c6336407c000020a00350400000a9ff56f6b")

abbrev pub reply_last_hop : List ℕ
reply_last_hop = hex (codes "024500001e000200000111cd88c6336407c000020a00350400000a9ff46f6b")

-- to another address, and to a port of the VIP that is neither leased out nor an endpoint's
abbrev pub reply_no_vip : List ℕ
reply_no_vip = hex (codes "024500001e0000000040118e89c6336407c000020b00350400000a9ff36f6b")

abbrev pub reply_no_endpoint : List ℕ
reply_no_endpoint = hex (codes "024500001e0000000040118e8ac6336407c000020a00350050000aa3a46f6b")

-- the reply, wrapped for the other machine
abbrev pub reply_wrapped_other : List ℕ
reply_wrapped_other = hex
    (codes "024500003200004000400426b90a0900010a0100054500001e0002000037119788c6336407c000020a00350400000a9f"
    ++ codes "f46f6b")

-- a client opens from port 5000, whose hash is even, and from 5001, whose hash is odd
abbrev pub syn_even : List ℕ
syn_even = hex (codes "02450000280000000040068e8bc6336407c000020a138800500000000100000000500220008fc40000")

abbrev pub syn_odd : List ℕ
syn_odd = hex (codes "02450000280000000040068e8bc6336407c000020a138900500000000100000000500220008fc30000")

-- the first machine has the even one, the second the odd one
abbrev pub syn_even_wrapped : List ℕ
syn_even_wrapped = hex
    (codes "024500003c00004000400426b00a0900010a01000445000028000000003f068f8bc6336407c000020a13880050000000"
    ++ codes "0100000000500220008fc40000")

abbrev pub syn_odd_wrapped : List ℕ
syn_odd_wrapped = hex
    (codes "024500003c00004000400426af0a0900010a01000545000028000000003f068f8bc6336407c000020a13890050000000"
    ++ codes "0100000000500220008fc30000")

-- the even one at the second machine
abbrev pub syn_even_wrapped_other : List ℕ
syn_even_wrapped_other = hex
    (codes "024500003c00004000400426af0a0900010a01000545000028000000003f068f8bc6336407c000020a13880050000000"
    ++ codes "0100000000500220008fc40000")

-- the opening packet with its last hop
abbrev pub syn_last_hop : List ℕ
syn_last_hop = hex (codes "0245000028000000000106cd8bc6336407c000020a138800500000000100000000500220008fc40000")

-- a later segment, and an answer to an opening packet
abbrev pub segment_even : List ℕ
segment_even = hex (codes "02450000280000000040068e8bc6336407c000020a138800500000000200000009501020008fac0000")

abbrev pub segment_even_wrapped : List ℕ
segment_even_wrapped = hex
    (codes "024500003c00004000400426b00a0900010a01000445000028000000003f068f8bc6336407c000020a13880050000000"
    ++ codes "0200000009501020008fac0000")

abbrev pub syn_ack_even : List ℕ
syn_ack_even = hex (codes "02450000280000000040068e8bc6336407c000020a138800500000000200000009501220008faa0000")

abbrev pub syn_ack_even_wrapped : List ℕ
syn_ack_even_wrapped = hex
    (codes "024500003c00004000400426b00a0900010a01000445000028000000003f068f8bc6336407c000020a13880050000000"
    ++ codes "0200000009501220008faa0000")

-- a client opens to a port that nothing serves
abbrev pub syn_to_81 : List ℕ
syn_to_81 = hex (codes "02450000280000000040068e8bc6336407c000020a138800510000000100000000500220008fc30000")

-- the reply, wrapped by mux 1
abbrev pub reply_wrapped_by_second : List ℕ
reply_wrapped_by_second = hex
    (codes "024500003200004000400426b90a0900020a0100044500001e0002000037119788c6336407c000020a00350400000a9f"
    ++ codes "f46f6b")

-- to the last port of all, and wrapped
abbrev pub reply_last : List ℕ
reply_last = hex (codes "024500001e0000000040118e8ac6336407c000020a0035ffff000a00006f6b")

abbrev pub reply_last_wrapped : List ℕ
reply_last_wrapped = hex
    (codes "024500003200004000400426ba0a0900010a0100044500001e000000003f118f8ac6336407c000020a0035ffff000a00"
    ++ codes "006f6b")

-- to the first port of the second range, and wrapped
abbrev pub reply_second : List ℕ
reply_second = hex (codes "024500001e0000000040118e8ac6336407c000020a00350408000a00006f6b")

abbrev pub reply_second_wrapped : List ℕ
reply_second_wrapped = hex
    (codes "024500003200004000400426ba0a0900010a0100044500001e000000003f118f8ac6336407c000020a00350408000a00"
    ++ codes "006f6b")
