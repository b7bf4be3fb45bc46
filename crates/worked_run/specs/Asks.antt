-- What agents ask and are told, and what is proposed for them.
use Rattle.std.specs.Prelude.{ℕ, List, ◌++◌, codes}
use Rattle.worked_run.specs.Hex.{hex}

-- the machine asks again; so does the other machine
abbrev pub ask_2 : List ℕ
ask_2 = hex (codes "01010800000000000000010a0100040000000000000002")

abbrev pub ask_other : List ℕ
ask_other = hex (codes "01010800000000000000010a0100050000000000000001")

-- the agent asks in boot 2
abbrev pub ask_in_2 : List ℕ
ask_in_2 = hex (codes "01010800000000000000020a0100040000000000000001")

-- second requests at slot 2
abbrev pub accept_ask_2 : List ℕ
accept_ask_2 = hex (codes "010103000000000000000500000000000000020101000000000000000000010a0100040000000000000002")

abbrev pub accept_ask_in_2 : List ℕ
accept_ask_in_2 = hex (codes "010103000000000000000500000000000000020101000000000000000000020a0100040000000000000001")

abbrev pub accepted_2 : List ℕ
accepted_2 = hex (codes "01010400000000000000050000000000000002")

abbrev pub chosen_ask_2 : List ℕ
chosen_ask_2 = hex (codes "010106000000000000000200000000000000050101000000000000000000010a0100040000000000000002")

abbrev pub accept_other : List ℕ
accept_other = hex (codes "010103000000000000000500000000000000020101000000000000000000010a0100050000000000000001")

abbrev pub chosen_other : List ℕ
chosen_other = hex (codes "010106000000000000000200000000000000050101000000000000000000010a0100050000000000000001")

-- no range was free at place 33; the machine had 1 row
abbrev pub denied_exhausted : List ℕ
denied_exhausted = hex (codes "01010a00000000000000010a0100050000000000000001010000000000000021")

abbrev pub denied_at_limit : List ℕ
denied_at_limit = hex (codes "01010a00000000000000010a0100040000000000000002020000000000000001")

-- numbers that are given back
abbrev pub return_0 : List ℕ
return_0 = hex (codes "01010b00000000000000010000000000000000")

abbrev pub return_1 : List ℕ
return_1 = hex (codes "01010b00000000000000010000000000000001")

abbrev pub return_16 : List ℕ
return_16 = hex (codes "01010b00000000000000010000000000000010")

abbrev pub return_17 : List ℕ
return_17 = hex (codes "01010b00000000000000010000000000000011")

abbrev pub return_in_2 : List ℕ
return_in_2 = hex (codes "01010b00000000000000020000000000000001")

-- numbers whose leases ended
abbrev pub returned_1 : List ℕ
returned_1 = hex (codes "01010c00000000000000010000000000000001")

abbrev pub returned_16 : List ℕ
returned_16 = hex (codes "01010c00000000000000010000000000000010")

-- lease 1 is given back, at slot 2
abbrev pub accept_release : List ℕ
accept_release = hex (codes "0101030000000000000005000000000000000201030000000000000001")

abbrev pub chosen_release : List ℕ
chosen_release = hex (codes "0101060000000000000002000000000000000501030000000000000001")

-- an agent is there, in boots 1, 2 and 3
abbrev pub up_1 : List ℕ
up_1 = hex (codes "01010d0000000000000001")

abbrev pub up_2 : List ℕ
up_2 = hex (codes "01010d0000000000000002")

abbrev pub up_3 : List ℕ
up_3 = hex (codes "01010d0000000000000003")

-- its boot is known
abbrev pub known_2 : List ℕ
known_2 = hex (codes "01010e0000000000000002")

abbrev pub known_3 : List ℕ
known_3 = hex (codes "01010e0000000000000003")

-- its boot is 3, at slot 2
abbrev pub accept_up : List ℕ
accept_up = hex (codes "01010300000000000000050000000000000002010500000000000000000003")

abbrev pub chosen_up : List ℕ
chosen_up = hex (codes "01010600000000000000020000000000000005010500000000000000000003")

-- entries
abbrev pub learned_release : List ℕ
learned_release = hex (codes "04000000000000000501030000000000000001")

abbrev pub learned_up : List ℕ
learned_up = hex (codes "040000000000000005010500000000000000000003")

abbrev pub learned_ask_2 : List ℕ
learned_ask_2 = hex (codes "0400000000000000050101000000000000000000010a0100040000000000000002")

abbrev pub learned_other : List ℕ
learned_other = hex (codes "0400000000000000050101000000000000000000010a0100050000000000000001")

-- what is proposed next: at slot 1, and at slot 2
abbrev pub accept_up_2 : List ℕ
accept_up_2 = hex (codes "01010300000000000000050000000000000001010500000000000000000002")

abbrev pub accept_up_2_later : List ℕ
accept_up_2_later = hex (codes "01010300000000000000050000000000000002010500000000000000000002")

-- a lease that is asked for and given back in one value
abbrev pub learned_both : List ℕ
learned_both = hex (codes "0400000000000000050201000000000000000000010a0100040000000000000001030000000000000001")

abbrev pub chosen_both : List ℕ
chosen_both = hex
    (codes "010106000000000000000000000000000000050201000000000000000000010a01000400000000000000010300000000"
    ++ codes "00000001")

-- the second request at slot 1
abbrev pub accept_ask_2_at_1 : List ℕ
accept_ask_2_at_1 = hex (codes "010103000000000000000500000000000000010101000000000000000000010a0100040000000000000002")

-- lease 17 is asked for by the third request of boot 2, granted, given back, and it has ended
abbrev pub ask_3_in_2 : List ℕ
ask_3_in_2 = hex (codes "01010800000000000000020a0100040000000000000003")

abbrev pub grant_17_in_2 : List ℕ
grant_17_in_2 = hex (codes "01010900000000000000020a01000400000000000000030000000000000011c000020a0400")

abbrev pub return_17_in_2 : List ℕ
return_17_in_2 = hex (codes "01010b00000000000000020000000000000011")

abbrev pub returned_17_in_2 : List ℕ
returned_17_in_2 = hex (codes "01010c00000000000000020000000000000011")

-- its Release, at slot 3
abbrev pub chosen_release_17 : List ℕ
chosen_release_17 = hex (codes "0101060000000000000003000000000000000501030000000000000011")

abbrev pub learned_release_17 : List ℕ
learned_release_17 = hex (codes "04000000000000000501030000000000000011")

-- the third request of boot 1: denied, since the machine had 1 row
abbrev pub ask_3 : List ℕ
ask_3 = hex (codes "01010800000000000000010a0100040000000000000003")

abbrev pub chosen_ask_3 : List ℕ
chosen_ask_3 = hex (codes "010106000000000000000200000000000000050101000000000000000000010a0100040000000000000003")

abbrev pub denied_third : List ℕ
denied_third = hex (codes "01010a00000000000000010a0100040000000000000003020000000000000001")

-- the other machine's second request: denied, since it had 1 row
abbrev pub ask_other_2 : List ℕ
ask_other_2 = hex (codes "01010800000000000000010a0100050000000000000002")

abbrev pub denied_other : List ℕ
denied_other = hex (codes "01010a00000000000000010a0100050000000000000002020000000000000001")

-- the other agent's boot is 2, at slot 0
abbrev pub chosen_up_other : List ℕ
chosen_up_other = hex (codes "01010600000000000000000000000000000005010500010000000000000002")
