-- Messages of connections that do without a mux.
use Rattle.std.specs.Prelude.{ℕ, List, codes}
use Rattle.worked_run.specs.Hex.{hex}

-- what only a mux says
abbrev pub redirect : List ℕ
redirect = hex (codes "010117000000000000000001c000020a0400c633640700500a0100040a010005")

abbrev pub redirect_ask : List ℕ
redirect_ask = hex (codes "010116c000020a0400c633640700500a010005")
