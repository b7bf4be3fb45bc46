-- What muxes and replicas say to each other, and what is proposed then.
use Rattle.std.specs.Prelude.{ℕ, List, ◌++◌, codes}
use Rattle.worked_run.specs.Hex.{hex}

-- a mux in boot 2, and muxes that obey no epoch below 5, 7 and 12
abbrev pub hello_2 : List ℕ
hello_2 = hex (codes "01010f00000000000000020000000000000000")

abbrev pub hello_5 : List ℕ
hello_5 = hex (codes "01010f00000000000000010000000000000005")

abbrev pub hello_7 : List ℕ
hello_7 = hex (codes "01010f00000000000000010000000000000007")

abbrev pub hello_12 : List ℕ
hello_12 = hex (codes "01010f0000000000000001000000000000000c")

-- epoch 5 is refused: the mux obeys none below 7 or 12
abbrev pub mux_refuse_7 : List ℕ
mux_refuse_7 = hex (codes "010114000000000000000500000000000000010000000000000007")

abbrev pub mux_refuse_12 : List ℕ
mux_refuse_12 = hex (codes "01011400000000000000050000000000000001000000000000000c")

-- a refusal that tells of no epoch above
abbrev pub mux_refuse_0 : List ℕ
mux_refuse_0 = hex (codes "010114000000000000000500000000000000010000000000000000")

-- the same in boot 2
abbrev pub mux_refuse_0_in_2 : List ℕ
mux_refuse_0_in_2 = hex (codes "010114000000000000000500000000000000020000000000000000")

-- row 1 is programmed in boot 2; at epoch 4; row 2 is programmed
abbrev pub programmed_2 : List ℕ
programmed_2 = hex (codes "010111000000000000000500000000000000020000000000000001")

abbrev pub programmed_at_4 : List ℕ
programmed_at_4 = hex (codes "010111000000000000000400000000000000010000000000000001")

abbrev pub programmed_row_2 : List ℕ
programmed_row_2 = hex (codes "010111000000000000000500000000000000010000000000000002")

-- row 1 is unprogrammed
abbrev pub unprogrammed : List ℕ
unprogrammed = hex (codes "010113000000000000000500000000000000010000000000000001")

-- the same in boot 2
abbrev pub unprogrammed_in_2 : List ℕ
unprogrammed_in_2 = hex (codes "010113000000000000000500000000000000020000000000000001")

-- row 1 goes to no machine, for a mux in boot 1 and in boot 2
abbrev pub unprogram : List ℕ
unprogram = hex (codes "010112000000000000000500000000000000010000000000000001c000020a0400")

abbrev pub unprogram_2 : List ℕ
unprogram_2 = hex (codes "010112000000000000000500000000000000020000000000000001c000020a0400")

-- row 17 goes to no machine
abbrev pub unprogram_17 : List ℕ
unprogram_17 = hex (codes "010112000000000000000500000000000000010000000000000011c000020a0400")

-- row 1 for a mux in boot 2
abbrev pub program_2 : List ℕ
program_2 = hex (codes "010110000000000000000500000000000000020000000000000001c000020a04000a010004")

-- row 1 is granted: by mux 0, by mux 1, by mux 0 in boot 2, by both
abbrev pub accept_granted_0 : List ℕ
accept_granted_0 = hex (codes "01010300000000000000050000000000000001010200000000000000010100000000000000000001")

abbrev pub accept_granted_1 : List ℕ
accept_granted_1 = hex (codes "01010300000000000000050000000000000001010200000000000000010100010000000000000001")

abbrev pub accept_granted_0_in_2 : List ℕ
accept_granted_0_in_2 = hex (codes "01010300000000000000050000000000000001010200000000000000010100000000000000000002")

-- the same with mux 0 in boot 2
abbrev pub accept_granted_both_in_2 : List ℕ
accept_granted_both_in_2 = hex
    (codes "010103000000000000000500000000000000010102000000000000000102000000000000000000020001000000000000"
    ++ codes "0001")

abbrev pub accept_granted_both : List ℕ
accept_granted_both = hex
    (codes "010103000000000000000500000000000000010102000000000000000102000000000000000000010001000000000000"
    ++ codes "0001")

-- row 1 is freed, at slot 3
abbrev pub accept_freed : List ℕ
accept_freed = hex (codes "0101030000000000000005000000000000000301040000000000000001")

abbrev pub accepted_freed : List ℕ
accepted_freed = hex (codes "01010400000000000000050000000000000003")

abbrev pub chosen_freed : List ℕ
chosen_freed = hex (codes "0101060000000000000003000000000000000501040000000000000001")

abbrev pub learned_freed : List ℕ
learned_freed = hex (codes "04000000000000000501040000000000000001")

-- what is due, in its order
abbrev pub accept_due : List ℕ
accept_due = hex
    (codes "010103000000000000000500000000000000020302000000000000000201000000000000000000010400000000000000"
    ++ codes "010500000000000000000002")
