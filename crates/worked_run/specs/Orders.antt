-- What replicas and muxes say to muxes, and what these answer and make durable.
use Rattle.std.specs.Prelude.{ℕ, List, codes}
use Rattle.worked_run.specs.Hex.{hex}

-- entries: epoch 5, and those above it
abbrev pub epoch_5 : List ℕ
epoch_5 = hex (codes "050000000000000005")

abbrev pub epoch_6 : List ℕ
epoch_6 = hex (codes "050000000000000006")

-- lease 1 for the other machine
abbrev pub program_other : List ℕ
program_other = hex (codes "010110000000000000000500000000000000010000000000000001c000020a04000a010005")

-- lease 17 for the other machine, at epochs 5 and 6
abbrev pub program_17 : List ℕ
program_17 = hex (codes "010110000000000000000500000000000000010000000000000011c000020a04000a010005")

abbrev pub programmed_17 : List ℕ
programmed_17 = hex (codes "010111000000000000000500000000000000010000000000000011")

-- lease 1 again, at epoch 6
abbrev pub program_6 : List ℕ
program_6 = hex (codes "010110000000000000000600000000000000010000000000000001c000020a04000a010004")

-- lease 1 at epoch 8, for boot 1 and for boot 2
abbrev pub program_8 : List ℕ
program_8 = hex (codes "010110000000000000000800000000000000010000000000000001c000020a04000a010004")

abbrev pub program_8_in_2 : List ℕ
program_8_in_2 = hex (codes "010110000000000000000800000000000000020000000000000001c000020a04000a010004")

-- lease 1 for a machine that leaves from no VIP, on a range that no VIP has, on one above the last port
abbrev pub program_outside : List ℕ
program_outside = hex (codes "010110000000000000000500000000000000010000000000000001c000020a04000a010009")

abbrev pub program_no_vip : List ℕ
program_no_vip = hex (codes "010110000000000000000500000000000000010000000000000001c000020b04000a010004")

abbrev pub program_above : List ℕ
program_above = hex (codes "010110000000000000000500000000000000010000000000000001c000020a04400a010004")

-- lease 1 goes to no machine; the same of lease 17
abbrev pub unprogram_1 : List ℕ
unprogram_1 = hex (codes "010112000000000000000500000000000000010000000000000001c000020a0400")

abbrev pub unprogram_17 : List ℕ
unprogram_17 = hex (codes "010112000000000000000500000000000000010000000000000011c000020a0400")

abbrev pub unprogram_above : List ℕ
unprogram_above = hex (codes "010112000000000000000500000000000000010000000000000001c000020a0440")

abbrev pub unprogrammed_1 : List ℕ
unprogrammed_1 = hex (codes "010113000000000000000500000000000000010000000000000001")

abbrev pub unprogrammed_17 : List ℕ
unprogrammed_17 = hex (codes "010113000000000000000500000000000000010000000000000011")

-- what isn't obeyed is refused: epoch, own boot, own epoch
abbrev pub refuse_old : List ℕ
refuse_old = hex (codes "010114000000000000000500000000000000010000000000000007")

abbrev pub refuse_boot : List ℕ
refuse_boot = hex (codes "010114000000000000000800000000000000020000000000000007")

abbrev pub refuse_above_in_2 : List ℕ
refuse_above_in_2 = hex (codes "010114000000000000000800000000000000010000000000000007")

-- the mux in boot 2, at epoch 7
abbrev pub hello_second : List ℕ
hello_second = hex (codes "01010f00000000000000020000000000000007")

-- 192.0.2.10:1024 and 10.1.0.5, behind 192.0.2.20:80, might do without muxes; the agents of both are told
abbrev pub redirect_asked : List ℕ
redirect_asked = hex (codes "010116c000020a0400c000021400500a010005")

abbrev pub redirect_opener : List ℕ
redirect_opener = hex (codes "010117000000000000000001c000020a0400c000021400500a0100040a010005")

abbrev pub redirect_server : List ℕ
redirect_server = hex (codes "010117010000000000000001c000020a0400c000021400500a0100040a010005")

-- lease 1 on the last range of all
abbrev pub program_last : List ℕ
program_last = hex (codes "010110000000000000000500000000000000010000000000000001c000020afff80a010004")

-- lease 1 on the second range
abbrev pub program_second : List ℕ
program_second = hex (codes "010110000000000000000500000000000000010000000000000001c000020a04080a010004")
