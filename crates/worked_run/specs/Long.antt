-- The longest packets that are wrapped, and those that are longer by a byte: their headers, before bytes 0.
use Rattle.std.specs.Prelude.{ℕ, zero, suc, List, [], ◌∷◌, ◌++◌, codes}
use Rattle.worked_run.specs.Hex.{hex}

-- so many bytes 0
abbrev pub zeros : ℕ → List ℕ
zeros zero = []
zeros (suc n) = 0 ∷ zeros n

-- a reply of UDP without a checksum to the range of lease 1: of 65,000 bytes, and as mux 0 wraps it
abbrev pub reply_longest : List ℕ
reply_longest = hex (codes "024500fde800000000401190bfc6336407c000020a00350400fdd40000") ++ zeros 64972

abbrev pub reply_longest_wrapped : List ℕ
reply_longest_wrapped = hex
    (codes "024500fdfc00004000400428ef0a0900010a0100044500fde8000000003f1191bfc6336407c000020a00350400fdd40000")
    ++ zeros 64972

-- of 65,001 bytes
abbrev pub reply_too_long : List ℕ
reply_too_long = hex (codes "024500fde900000000401190bec6336407c000020a00350400fdd50000") ++ zeros 64973

-- a SYN of 65,001 bytes to the endpoint
abbrev pub syn_too_long : List ℕ
syn_too_long = hex
    (codes "024500fde900000000400690c9c6336407c000020a1388005000000000000000005002200092030000")
    ++ zeros 64961

-- a segment of 65,001 bytes of the machine's TCP connection, and as it leaves for the router
abbrev pub segment_too_long : List ℕ
segment_too_long = hex
    (codes "024500fde900000000400648cf0a010004c63364071388005000000005000000005010200049f60000")
    ++ zeros 64961

abbrev pub segment_too_long_left : List ℕ
segment_too_long_left = hex
    (codes "024500fde900000000400690c9c000020ac633640704000050000000050000000050102000a1780000")
    ++ zeros 64961
