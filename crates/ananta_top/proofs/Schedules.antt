-- What a schedule prints, a plain one or one of nodes, and how its lines were written or counted.
use Rattle.std.proofs.Common.{◌≡◌, ℕ, Bool, true, false, List, [], Option, None, Some, Result, Ok, Err, IfOk, IfErr, OnOk, IsOk, IsErr, IsOkAnd, String, string_bytes, take, refl, sym, subst, ap}
use Rattle.std.specs.Io.KnownBytes.{Appends}
use Rattle.std.specs.declared.alloc.Global.{Global}
use Rattle.config_text.specs.Faults.{json, field}
use Rattle.outside_io.specs.Faults.{Rose}
use Rattle.node_schedule.specs.Answers.{CountsLines, Fails, HasRoom, Overflows, Writes, WritesFront}
use Rattle.node_schedule.specs.Schedule.{NoSchedule, Scheduled, scheduled, transcribed}
use Rattle.node_schedule.specs.Schedule as nodes
use Rattle.node_schedule.specs.declared.fault.ScheduleFault.{ScheduleFault}
use Rattle.node_schedule.specs.declared.fault.ScheduleFault.TheVariants as schedule
use Rattle.plain_schedule.specs.Schedule.{plain_lines}
use Rattle.transcript_summary.specs.Summary.{counts_of}
use Rattle.transcript_summary.specs.declared.kinds.Counts.{Counts}
use Rattle.world_spec.specs.Transcript.{transcript_text}
use Rattle.ananta_top.specs.Answers.{NoAnswer, is_plain, of_nodes, of_plain, printed}
use Rattle.ananta_top.specs.Run.{FillsAJournal, FillsBy, HasRoomBy, HasRoomInJournals, IsSafeBy, IsSafeSchedule, Stops}

-- ---- by the first line

pub plain_prints : (text : List ℕ) → is_plain text ≡ true → printed text ≡ of_plain (plain_lines text)
plain_prints text plain = rw plain refl

pub nodes_print : (text : List ℕ) → is_plain text ≡ false → printed text ≡ of_nodes (transcribed (scheduled text))
nodes_print text plain = rw plain refl

pub plain_room : (text : List ℕ) → is_plain text ≡ true → HasRoomInJournals text
plain_room text plain = subst (λ (b : Bool). HasRoomBy b text) (sym plain) tt

pub plain_safe : (text : List ℕ) → is_plain text ≡ true → IsSafeBy true text → IsSafeSchedule text
plain_safe text plain safe = subst (λ (b : Bool). IsSafeBy b text) (sym plain) safe

pub nodes_room : (text : List ℕ) → is_plain text ≡ false → IsOkAnd (scheduled text) HasRoom → HasRoomInJournals text
nodes_room text plain room = subst (λ (b : Bool). HasRoomBy b text) (sym plain) room

pub nodes_safe : (text : List ℕ) → is_plain text ≡ false → IsSafeBy false text → IsSafeSchedule text
nodes_safe text plain safe = subst (λ (b : Bool). IsSafeBy b text) (sym plain) safe

nodes_fill : (text : List ℕ) → is_plain text ≡ false → IsOkAnd (scheduled text) Overflows → FillsAJournal text
nodes_fill text plain full = subst (λ (b : Bool). FillsBy b text) (sym plain) full

-- ---- what was written of a run of nodes

abbrev lines_of : Result Scheduled NoSchedule → Result (List ℕ) NoAnswer
lines_of s = of_nodes (transcribed s)

has_room : (s : Result Scheduled NoSchedule) (P : Scheduled → Type 0) → IsOkAnd s (λ x. HasRoom x × P x)
    → IsOkAnd s HasRoom
has_room (Ok x) P both = both.0
has_room (Err why) P both = absurd both

pub room_of : (text : List ℕ) (P : Scheduled → Type 0) → is_plain text ≡ false
    → IsOkAnd (scheduled text) (λ x. HasRoom x × P x) → HasRoomInJournals text
room_of text P plain both = nodes_room text plain (has_room (scheduled text) P both)

run_written : (s : Result Scheduled NoSchedule) (P : List ℕ → Type 0)
    → IsOkAnd s (λ x. HasRoom x × P (transcript_text x.0 x.1)) → IsOkAnd (lines_of s) P
run_written (Ok x) P both = both.1
run_written (Err why) P both = absurd both

pub written_of : (text : List ℕ) (P : List ℕ → Type 0) → is_plain text ≡ false
    → IsOkAnd (scheduled text) (λ x. HasRoom x × P (transcript_text x.0 x.1)) → IsOkAnd (printed text) P
written_of text P plain both =
    subst (λ (r : Result (List ℕ) NoAnswer). IsOkAnd r P) (sym (nodes_print text plain))
    (run_written (scheduled text) P both)

run_front : (s : Result Scheduled NoSchedule) (P : List ℕ → Type 0) → IfOk s (λ x. P (transcript_text x.0 x.1))
    → IfOk (lines_of s) P
run_front (Ok x) P front = front
run_front (Err (nodes.bad_config fault)) P front = tt
run_front (Err (nodes.bad_line n)) P front = tt

pub front_of : (text : List ℕ) (P : List ℕ → Type 0) → is_plain text ≡ false
    → IfOk (scheduled text) (λ x. P (transcript_text x.0 x.1)) → IfOk (printed text) P
front_of text P plain front =
    subst (λ (r : Result (List ℕ) NoAnswer). IfOk r P) (sym (nodes_print text plain)) (run_front (scheduled text) P front)

none_printed : (s : Result Scheduled NoSchedule) → IsErr (lines_of s) → IsErr s
none_printed (Ok x) none = none
none_printed (Err why) none = refl

pub no_schedule : (text : List ℕ) → is_plain text ≡ false → IsErr (printed text) → IsErr (scheduled text)
no_schedule text plain none =
    none_printed (scheduled text)
    (subst (λ (r : Result (List ℕ) NoAnswer). IsErr r) (nodes_print text plain) none)

is_ok : (s : Result Scheduled NoSchedule) (P : Scheduled → Type 0) → IsOkAnd s P → IsOk (lines_of s)
is_ok (Ok x) P both = refl
is_ok (Err why) P both = absurd both

run_ok : (s : Result Scheduled NoSchedule) → IsOk s → IsOk (lines_of s)
run_ok (Ok x) ok = refl
run_ok (Err why) ok = cc

pub stops : (text : List ℕ) (failed : Type 0) (f : ScheduleFault) → is_plain text ≡ false
    → Fails f failed (scheduled text) → Stops f failed text (printed text)
stops text failed schedule.Json plain why = rw (nodes_print text plain) (ap lines_of why)
stops text failed (schedule.Field path) plain why = rw (nodes_print text plain) (ap lines_of why)
stops text failed (schedule.Line n) plain why = rw (nodes_print text plain) (ap lines_of why)
stops text failed schedule.Full plain why =
    (rw (nodes_print text plain) (is_ok (scheduled text) Overflows why), nodes_fill text plain why)
stops text failed schedule.Write plain why =
    (rw (nodes_print text plain) (run_ok (scheduled text) why.0), why.1)
stops text failed schedule.NoMemory plain why = tt

-- ---- clause by clause

pub written_on : {T : Type 0} (text : List ℕ) (before after : Option (List ℕ)) (faults faults_now : ℕ)
    (r : Result T ScheduleFault) → is_plain text ≡ false
    → Writes before after faults faults_now r (scheduled text)
    → OnOk r (IsOkAnd (printed text) (λ lines. Appends before after lines))
written_on text before after faults faults_now (Ok x) plain wrote =
    written_of text (λ (lines : List ℕ). Appends before after lines) plain wrote
written_on text before after faults faults_now (Err f) plain wrote = tt

pub room_on : {T : Type 0} (text : List ℕ) (before after : Option (List ℕ)) (faults faults_now : ℕ)
    (r : Result T ScheduleFault) → is_plain text ≡ false
    → Writes before after faults faults_now r (scheduled text) → OnOk r (HasRoomInJournals text)
room_on text before after faults faults_now (Ok x) plain wrote =
    room_of text (λ (s : Scheduled). Appends before after (transcript_text s.0 s.1)) plain wrote
room_on text before after faults faults_now (Err f) plain wrote = tt

pub stops_on : {T : Type 0} (text : List ℕ) (before after : Option (List ℕ)) (faults faults_now : ℕ)
    (r : Result T ScheduleFault) → is_plain text ≡ false
    → Writes before after faults faults_now r (scheduled text)
    → IfErr r (λ f. Stops f (Rose faults faults_now) text (printed text))
stops_on text before after faults faults_now (Ok x) plain wrote = tt
stops_on text before after faults faults_now (Err f) plain wrote =
    stops text (Rose faults faults_now) f plain wrote

pub front_on : (text : List ℕ) (before after : Option (List ℕ)) → is_plain text ≡ false
    → WritesFront before after (scheduled text)
    → IfOk (printed text) (λ lines. (n : ℕ) × Appends before after (take n lines))
front_on text before after plain front =
    front_of text (λ (lines : List ℕ). (n : ℕ) × Appends before after (take n lines)) plain front

pub safe_on : {T : Type 0} (text : List ℕ) (r : Result T ScheduleFault) → is_plain text ≡ false
    → OnOk r (IsSafeBy false text) → OnOk r (IsSafeSchedule text)
safe_on text (Ok x) plain safe = nodes_safe text plain safe
safe_on text (Err f) plain safe = tt

pub counts_on : (text : List ℕ) (r : Result Counts ScheduleFault) → is_plain text ≡ false
    → CountsLines r (scheduled text)
    → IfOk r (λ counts. IsOkAnd (printed text) (λ lines. counts ≡ counts_of lines))
counts_on text (Ok c) plain counted = written_of text (λ (lines : List ℕ). c ≡ counts_of lines) plain counted
counts_on text (Err f) plain counted = tt

pub counted_room : (text : List ℕ) (r : Result Counts ScheduleFault) → is_plain text ≡ false
    → CountsLines r (scheduled text) → OnOk r (HasRoomInJournals text)
counted_room text (Ok c) plain counted =
    room_of text (λ (s : Scheduled). c ≡ counts_of (transcript_text s.0 s.1)) plain counted
counted_room text (Err f) plain counted = tt

pub counting_stops : (text : List ℕ) (r : Result Counts ScheduleFault) → is_plain text ≡ false
    → CountsLines r (scheduled text) → IfErr r (λ f. Stops f ⊥ text (printed text))
counting_stops text (Ok c) plain counted = tt
counting_stops text (Err f) plain counted = stops text ⊥ f plain counted
