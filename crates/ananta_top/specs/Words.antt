-- The words after the program's name.
use Rattle.std.specs.Prelude.{ℕ, Bool, true, false, ◌≤◌, ◌-◌, ◌^◌, List, [], ◌∷◌, take, drop, Option, Some, None, if◌then◌else◌, codes, String, string_bytes}
use Rattle.std.specs.Str.{bytes_eq}
use Rattle.std.specs.declared.alloc.Global.{Global}
use Rattle.address_text.specs.Addresses.{◌>>=◌}
use Rattle.address_text.specs.Numbers.{number_of}
use Rattle.ananta_top.specs.declared.role.NodeRole.{NodeRole}
use Rattle.ananta_top.specs.declared.role.NodeRole.TheVariants as role
use Rattle.ananta_top.specs.declared.words.Job.{Job}
use Rattle.ananta_top.specs.declared.words.Job.TheVariants.{Replay, Summary, Check, Generate, Node}

-- `replay` or `check`
abbrev pub job_named : List ℕ → Option Job
job_named word =
    if bytes_eq word (codes "replay") then Some Replay
    else if bytes_eq word (codes "check") then Some Check
    else None

-- `replay --summary`
abbrev pub in_two_words : (word next : List ℕ) → Option Job
in_two_words word next =
    if bytes_eq word (codes "replay") then if bytes_eq next (codes "--summary") then Some Summary else None else None

-- two decimal numbers without leading zeros: one of 64 bits, and how many lines, at most 99,996
abbrev pub generate_of : List ℕ → List ℕ → Option Job
generate_of number count = do
  n ← number_of (2 ^ 64 - 1) number
  c ← number_of 99996 count
  Some (Generate n c)

-- ---- `node`

-- `replica`, `mux` or `agent`
abbrev pub role_named : List ℕ → Option NodeRole
role_named word =
    if bytes_eq word (codes "replica") then Some role.Replica
    else if bytes_eq word (codes "mux") then Some role.Mux
    else if bytes_eq word (codes "agent") then Some role.Agent
    else None

-- a role, a number of it and a number of turns: decimal numbers of 64 bits without leading zeros
abbrev pub node_of : (name index turns : List ℕ) → Option Job
node_of name index turns = do
  r ← role_named name
  i ← number_of (2 ^ 64 - 1) index
  n ← number_of (2 ^ 64 - 1) turns
  Some (Node r i n)

-- the number in `--turns=N`
abbrev pub turns_in : List ℕ → Option (List ℕ)
turns_in word = if bytes_eq (take 8 word) (codes "--turns=") then Some (drop 8 word) else None

-- where the first word has the number of turns, or else the third one
abbrev pub node_by : (first second third : List ℕ) → (before behind : Option (List ℕ)) → Option Job
node_by first second third (Some turns) behind = node_of second third turns
node_by first second third None (Some turns) = node_of first second turns
node_by first second third None None = None

-- `--turns=N ROLE INDEX` or `ROLE INDEX --turns=N`
unfoldable pub node_of_three : (first second third : List ℕ) → Option Job
node_of_three first second third = node_by first second third (turns_in first) (turns_in third)

-- `--turns N ROLE INDEX` or `ROLE INDEX --turns N`
abbrev pub node_of_four : (first second third fourth : List ℕ) → Option Job
node_of_four first second third fourth =
    if bytes_eq first (codes "--turns") then node_of third fourth second
    else if bytes_eq third (codes "--turns") then node_of first second fourth
    else None

-- `node` in four words, and in five
abbrev pub in_four_words : (word first second third : List ℕ) → Option Job
in_four_words word first second third =
    if bytes_eq word (codes "node") then node_of_three first second third else None

abbrev pub in_five_words : (word first second third fourth : List ℕ) → Option Job
in_five_words word first second third fourth =
    if bytes_eq word (codes "node") then node_of_four first second third fourth else None

-- ---- all words

-- the one word `replay` or `check`, `replay --summary`, `generate` with its two numbers, or `node` with what is
-- behind it
abbrev pub job_of : List (String Global) → Option Job
job_of [] = None
job_of (word ∷ []) = job_named (string_bytes word)
job_of (word ∷ next ∷ []) = in_two_words (string_bytes word) (string_bytes next)
job_of (word ∷ number ∷ count ∷ []) =
    if bytes_eq (string_bytes word) (codes "generate") then generate_of (string_bytes number) (string_bytes count)
    else None
job_of (word ∷ first ∷ second ∷ third ∷ []) =
    in_four_words (string_bytes word) (string_bytes first) (string_bytes second) (string_bytes third)
job_of (word ∷ first ∷ second ∷ third ∷ fourth ∷ []) =
    in_five_words (string_bytes word) (string_bytes first) (string_bytes second) (string_bytes third)
    (string_bytes fourth)
job_of (word ∷ first ∷ second ∷ third ∷ fourth ∷ fifth ∷ others) = None

-- no more lines are asked for than a schedule may have
abbrev pub IsWithinLines : Job → Type 0
IsWithinLines Replay = Unit {0}
IsWithinLines Summary = Unit {0}
IsWithinLines Check = Unit {0}
IsWithinLines (Generate number count) = count ≤ 99996
IsWithinLines (Node role index turns) = Unit {0}

-- whether a job reads its input
abbrev pub reads_input : Option Job → Bool
reads_input None = false
reads_input (Some Replay) = true
reads_input (Some Summary) = true
reads_input (Some Check) = true
reads_input (Some (Generate number count)) = false
reads_input (Some (Node role index turns)) = true

-- the text that a job has to do with: its input, or nothing where it reads none
abbrev pub text_for : Option Job → Option (List ℕ) → Option (List ℕ)
text_for None input = input
text_for (Some Replay) input = input
text_for (Some Summary) input = input
text_for (Some Check) input = input
text_for (Some (Generate number count)) input = Some []
text_for (Some (Node role index turns)) input = input

-- the same by the words
abbrev pub given : List (String Global) → Option (List ℕ) → Option (List ℕ)
given words input = text_for (job_of words) input
