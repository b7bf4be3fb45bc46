-- What replicas say to each other in rows of the agreement, and what they write.
use Rattle.std.specs.Prelude.{ℕ, List, ◌++◌, codes}
use Rattle.worked_run.specs.Hex.{hex}

-- candidacies at other ballots
abbrev pub prepare_4 : List ℕ
prepare_4 = hex (codes "0101010000000000000004")

abbrev pub prepare_6 : List ℕ
prepare_6 = hex (codes "0101010000000000000006")

abbrev pub prepare_10 : List ℕ
prepare_10 = hex (codes "010101000000000000000a")

abbrev pub prepare_15 : List ℕ
prepare_15 = hex (codes "010101000000000000000f")

-- refused, since 5 is promised
abbrev pub refuse_4 : List ℕ
refuse_4 = hex (codes "01010500000000000000040000000000000005")

-- a promise of 5, of a log of length 1
abbrev pub promise_long : List ℕ
promise_long = hex (codes "010102000000000000000500000000000000010000000000000000")

-- promises of 6: without a vote, with one of ballot 5, with one of ballot 4 for another value
abbrev pub promise_6 : List ℕ
promise_6 = hex (codes "010102000000000000000600000000000000000000000000000000")

abbrev pub promise_6_reserve : List ℕ
promise_6_reserve = hex
    (codes "0101020000000000000006000000000000000000000000000000050101000000000000000000010a0100040000000000"
    ++ codes "000001")

abbrev pub promise_6_up : List ℕ
promise_6_up = hex (codes "010102000000000000000600000000000000000000000000000004010500000000000000000002")

-- a promise of 6, of a log of length 1
abbrev pub promise_6_long : List ℕ
promise_6_long = hex (codes "010102000000000000000600000000000000010000000000000000")

-- the Reserve at other ballots
abbrev pub accept_4 : List ℕ
accept_4 = hex (codes "010103000000000000000400000000000000000101000000000000000000010a0100040000000000000001")

abbrev pub accept_6 : List ℕ
accept_6 = hex (codes "010103000000000000000600000000000000000101000000000000000000010a0100040000000000000001")

abbrev pub accepted_6 : List ℕ
accepted_6 = hex (codes "01010400000000000000060000000000000000")

abbrev pub accepted_4 : List ℕ
accepted_4 = hex (codes "01010400000000000000040000000000000000")

abbrev pub chosen_6 : List ℕ
chosen_6 = hex (codes "010106000000000000000000000000000000060101000000000000000000010a0100040000000000000001")

-- slots ahead of the log
abbrev pub accept_ahead : List ℕ
accept_ahead = hex (codes "010103000000000000000500000000000000010101000000000000000000010a0100040000000000000001")

abbrev pub chosen_ahead : List ℕ
chosen_ahead = hex (codes "01010600000000000000020000000000000005010500000000000000000002")

-- ballot 5 is refused, since 12 is promised
abbrev pub refuse_12 : List ℕ
refuse_12 = hex (codes "0101050000000000000005000000000000000c")

-- refusals that count for nothing
abbrev pub refuse_5 : List ℕ
refuse_5 = hex (codes "01010500000000000000050000000000000005")

abbrev pub refuse_other : List ℕ
refuse_other = hex (codes "0101050000000000000004000000000000000c")

-- which slot is wanted
abbrev pub fetch_0 : List ℕ
fetch_0 = hex (codes "0101070000000000000000")

abbrev pub fetch_1 : List ℕ
fetch_1 = hex (codes "0101070000000000000001")

-- leaders at ballot 5, by the length of their logs
abbrev pub lead_0 : List ℕ
lead_0 = hex (codes "01011500000000000000050000000000000000")

abbrev pub lead_1 : List ℕ
lead_1 = hex (codes "01011500000000000000050000000000000001")

abbrev pub lead_2 : List ℕ
lead_2 = hex (codes "01011500000000000000050000000000000002")

abbrev pub lead_3 : List ℕ
lead_3 = hex (codes "01011500000000000000050000000000000003")

-- leaders at other ballots
abbrev pub lead_at_4 : List ℕ
lead_at_4 = hex (codes "01011500000000000000040000000000000001")

abbrev pub lead_at_6 : List ℕ
lead_at_6 = hex (codes "01011500000000000000060000000000000000")

-- entries
abbrev pub promised_6 : List ℕ
promised_6 = hex (codes "020000000000000006")

abbrev pub promised_10 : List ℕ
promised_10 = hex (codes "02000000000000000a")

abbrev pub promised_11 : List ℕ
promised_11 = hex (codes "02000000000000000b")

abbrev pub promised_15 : List ℕ
promised_15 = hex (codes "02000000000000000f")

abbrev pub voted_6 : List ℕ
voted_6 = hex (codes "0300000000000000060101000000000000000000010a0100040000000000000001")

abbrev pub learned_6 : List ℕ
learned_6 = hex (codes "0400000000000000060101000000000000000000010a0100040000000000000001")
