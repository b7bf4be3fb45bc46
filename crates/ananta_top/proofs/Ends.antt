-- From how a run ended to its status.
use Rattle.std.proofs.Common.{◌≡◌, ℕ, ◌<◌, ◌≤◌, List, ◌++◌, length, Option, None, Some, Result, Ok, Err, IfSome, IsSomeAnd, IsOk, IsOkAnd, OnOk, OnErr, Bool, String, string_bytes, refl, sym, subst, arith}
use Rattle.std.specs.Io.KnownBytes.{Appends}
use Rattle.std.specs.declared.alloc.Global.{Global}
use Rattle.config_text.specs.Faults.{json, field}
use Rattle.wire_core.specs.declared.node.NodeId.{NodeId}
use Rattle.outside_io.specs.Faults.{Rose}
use Rattle.outside_io.specs.Host.{HostCall}
use Rattle.ananta_top.specs.Answers.{Task, write, serve, NoAnswer, answer_of, bad_config, bad_line, no_form}
use Rattle.ananta_top.specs.Node.{NodeRan, damaged_line}
use Rattle.ananta_top.specs.Run.{AfterReading, CutsLines, DamageIn, DamageIsOf, EndsBy, EndsShort, FirstIs, HasNoAnswer, HasStatusBy, IfServed, IsAfterReading, IsAnswerable, IsBeforeHost, IsDoneBy, IsOfSchedule, IsOfText, IsRefusal, IsTooLong, KeepsOut, LeavesFront, LeavesHost, NeedsNoHost, NodeEnds, OfSchedule, OfText, Refuses, RefusesAll, StaysAway, StopsShort, TellsDamage, TellsLine, WritesNothing, ending_line, first_fault, no_answer_line, status_of}
use Rattle.ananta_top.specs.declared.ending.Ending.{Ending}
use Rattle.ananta_top.specs.declared.ending.Ending.TheVariants as ending
use Rattle.ananta_top.specs.declared.ending.Status.TheVariants as status
use Rattle.ananta_top.specs.declared.refusal.Refusal.TheVariants as refusal
use Rattle.ananta_top.specs.declared.words.Job.{Job}
use Rattle.ananta_top.specs.declared.words.Job.TheVariants.{Replay, Summary, Check, Generate, Node}
use Rattle.ananta_top.proofs.Ran.{damage_told}

-- ---- which statuses come

of_text : (e : Ending) → OfText e → IsOfText (status_of e)
of_text ending.Done k = tt
of_text ending.Usage k = tt
of_text ending.TooLong k = tt
of_text ending.ReadFault k = tt
of_text ending.WriteFault k = tt
of_text (ending.Refused (refusal.Line n)) k = tt
of_text (ending.Refused refusal.Json) k = tt
of_text (ending.Refused (refusal.Field path)) k = tt
of_text (ending.Refused refusal.NoMemory) k = tt
of_text ending.LinkFault k = absurd k
of_text ending.DiskFault k = absurd k
of_text (ending.Damaged who second offset) k = absurd k
of_text ending.JournalFull k = absurd k
of_text ending.WrongDisk k = absurd k
of_text ending.Spent k = absurd k

of_schedule : (e : Ending) → OfSchedule e → IsOfSchedule (status_of e)
of_schedule ending.Done k = tt
of_schedule ending.Usage k = tt
of_schedule ending.TooLong k = tt
of_schedule ending.ReadFault k = tt
of_schedule ending.WriteFault k = tt
of_schedule (ending.Refused (refusal.Line n)) k = tt
of_schedule (ending.Refused refusal.Json) k = tt
of_schedule (ending.Refused (refusal.Field path)) k = tt
of_schedule (ending.Refused refusal.NoMemory) k = tt
of_schedule ending.LinkFault k = absurd k
of_schedule ending.DiskFault k = absurd k
of_schedule (ending.Damaged who second offset) k = absurd k
of_schedule ending.JournalFull k = tt
of_schedule ending.WrongDisk k = absurd k
of_schedule ending.Spent k = absurd k

-- A job that isn't a node's has no status of one.
pub status_by : (o : Option Job) (e : Ending) → EndsBy o e → HasStatusBy o (status_of e)
status_by None e k = of_text e k
status_by (Some Replay) e k = of_schedule e k
status_by (Some Summary) e k = of_schedule e k
status_by (Some Check) e k = of_text e k
status_by (Some (Generate number count)) e k = of_text e k
status_by (Some (Node role index turns)) e k = tt

leaves : (e : Ending) → IsBeforeHost (status_of e) → LeavesHost e
leaves ending.Done k = absurd k
leaves ending.Usage k = tt
leaves ending.TooLong k = tt
leaves ending.ReadFault k = tt
leaves ending.WriteFault k = absurd k
leaves (ending.Refused (refusal.Line n)) k = tt
leaves (ending.Refused refusal.Json) k = tt
leaves (ending.Refused (refusal.Field path)) k = tt
leaves (ending.Refused refusal.NoMemory) k = absurd k
leaves ending.LinkFault k = absurd k
leaves ending.DiskFault k = absurd k
leaves (ending.Damaged who second offset) k = absurd k
leaves ending.JournalFull k = absurd k
leaves ending.WrongDisk k = absurd k
leaves ending.Spent k = absurd k

-- A status that asks no host for anything is of an ending that doesn't.
pub stays_away : (o : Option Job) (e : Ending) → NeedsNoHost o (status_of e) → StaysAway o e
stays_away None e k = tt
stays_away (Some Replay) e k = tt
stays_away (Some Summary) e k = tt
stays_away (Some Check) e k = tt
stays_away (Some (Generate number count)) e k = tt
stays_away (Some (Node role index turns)) e k = leaves e k

-- ---- which statuses leave a front, and which nothing

cuts : (e : Ending) → CutsLines (status_of e) → LeavesFront e
cuts ending.Done k = absurd k
cuts ending.Usage k = absurd k
cuts ending.TooLong k = absurd k
cuts ending.ReadFault k = absurd k
cuts ending.WriteFault k = absurd k
cuts (ending.Refused (refusal.Line n)) k = absurd k
cuts (ending.Refused refusal.Json) k = absurd k
cuts (ending.Refused (refusal.Field path)) k = absurd k
cuts (ending.Refused refusal.NoMemory) k = tt
cuts ending.LinkFault k = absurd k
cuts ending.DiskFault k = absurd k
cuts (ending.Damaged who second offset) k = absurd k
cuts ending.JournalFull k = tt
cuts ending.WrongDisk k = absurd k
cuts ending.Spent k = absurd k

-- A status that may leave a front is of an ending that may.
pub stops_short : (o : Option Job) (e : Ending) → EndsShort o (status_of e) → StopsShort o e
stops_short None e k = absurd k
stops_short (Some Replay) e k = cuts e k
stops_short (Some Summary) e k = absurd k
stops_short (Some Check) e k = absurd k
stops_short (Some (Generate number count)) e k = absurd k
stops_short (Some (Node role index turns)) e k = absurd k

refuses : (e : Ending) → Refuses (status_of e) → IsRefusal e
refuses ending.Done k = absurd k
refuses ending.Usage k = tt
refuses ending.TooLong k = tt
refuses ending.ReadFault k = tt
refuses ending.WriteFault k = absurd k
refuses (ending.Refused r) k = tt
refuses ending.LinkFault k = tt
refuses ending.DiskFault k = tt
refuses (ending.Damaged who second offset) k = tt
refuses ending.JournalFull k = tt
refuses ending.WrongDisk k = tt
refuses ending.Spent k = tt

refuses_all : (e : Ending) → RefusesAll (status_of e) → WritesNothing e
refuses_all ending.Done k = absurd k
refuses_all ending.Usage k = tt
refuses_all ending.TooLong k = tt
refuses_all ending.ReadFault k = tt
refuses_all ending.WriteFault k = absurd k
refuses_all (ending.Refused (refusal.Line n)) k = tt
refuses_all (ending.Refused refusal.Json) k = tt
refuses_all (ending.Refused (refusal.Field path)) k = tt
refuses_all (ending.Refused refusal.NoMemory) k = absurd k
refuses_all ending.LinkFault k = tt
refuses_all ending.DiskFault k = tt
refuses_all (ending.Damaged who second offset) k = tt
refuses_all ending.JournalFull k = absurd k
refuses_all ending.WrongDisk k = tt
refuses_all ending.Spent k = tt

-- A status that writes nothing is of an ending that doesn't.
pub keeps_out : (o : Option Job) (e : Ending) → HasNoAnswer o (status_of e) → KeepsOut o e
keeps_out None e k = refuses e k
keeps_out (Some Replay) e k = refuses_all e k
keeps_out (Some Summary) e k = refuses e k
keeps_out (Some Check) e k = refuses e k
keeps_out (Some (Generate number count)) e k = refuses e k
keeps_out (Some (Node role index turns)) e k = refuses e k

-- ---- each answer is given

done : (o : Option Job) → IsDoneBy o status.Done
done None = tt
done (Some Replay) = tt
done (Some Summary) = tt
done (Some Check) = tt
done (Some (Generate number count)) = tt
done (Some (Node role index turns)) = tt

no_memory : (o : Option Job) → IsDoneBy o status.NoMemory
no_memory None = tt
no_memory (Some Replay) = tt
no_memory (Some Summary) = tt
no_memory (Some Check) = tt
no_memory (Some (Generate number count)) = tt
no_memory (Some (Node role index turns)) = tt

no_link : (o : Option Job) → EndsBy o ending.LinkFault → IsDoneBy o status.LinkFault
no_link None k = absurd k
no_link (Some Replay) k = absurd k
no_link (Some Summary) k = absurd k
no_link (Some Check) k = absurd k
no_link (Some (Generate number count)) k = absurd k
no_link (Some (Node role index turns)) k = tt

no_disk : (o : Option Job) → EndsBy o ending.DiskFault → IsDoneBy o status.DiskFault
no_disk None k = absurd k
no_disk (Some Replay) k = absurd k
no_disk (Some Summary) k = absurd k
no_disk (Some Check) k = absurd k
no_disk (Some (Generate number count)) k = absurd k
no_disk (Some (Node role index turns)) k = tt

damaged : (o : Option Job) (who : NodeId) (second : Bool) (offset : ℕ) → EndsBy o (ending.Damaged who second offset)
    → IsDoneBy o status.Damaged
damaged None who second offset k = absurd k
damaged (Some Replay) who second offset k = absurd k
damaged (Some Summary) who second offset k = absurd k
damaged (Some Check) who second offset k = absurd k
damaged (Some (Generate number count)) who second offset k = absurd k
damaged (Some (Node role index turns)) who second offset k = tt

full : (o : Option Job) → EndsBy o ending.JournalFull → IsDoneBy o status.JournalFull
full None k = absurd k
full (Some Replay) k = tt
full (Some Summary) k = tt
full (Some Check) k = absurd k
full (Some (Generate number count)) k = absurd k
full (Some (Node role index turns)) k = tt

wrong : (o : Option Job) → EndsBy o ending.WrongDisk → IsDoneBy o status.WrongDisk
wrong None k = absurd k
wrong (Some Replay) k = absurd k
wrong (Some Summary) k = absurd k
wrong (Some Check) k = absurd k
wrong (Some (Generate number count)) k = absurd k
wrong (Some (Node role index turns)) k = tt

spent : (o : Option Job) → EndsBy o ending.Spent → IsDoneBy o status.Spent
spent None k = absurd k
spent (Some Replay) k = absurd k
spent (Some Summary) k = absurd k
spent (Some Check) k = absurd k
spent (Some (Generate number count)) k = absurd k
spent (Some (Node role index turns)) k = tt

not_ok : (a : Result Task NoAnswer) (f : NoAnswer) → a ≡ Err f → IsOk a → ⊥
not_ok (Ok x) f e k = cc
not_ok (Err g) f e k = cc

too_long : (n : ℕ) → 67108864 < n → n ≤ 67108864 → ⊥
too_long n above within = omega arith

-- what was to be answered wasn't refused
not_refused : (text : Option (List ℕ)) (a : List ℕ → Result Task NoAnswer) (f : NoAnswer)
    → IfSome text (λ t. a t ≡ Err f) → IsSomeAnd text (IsAnswerable a) → ⊥
not_refused None a f e k = k
not_refused (Some t) a f e k = not_ok (a t) f e k.1

not_long : (text : Option (List ℕ)) (a : List ℕ → Result Task NoAnswer) → IfSome text IsTooLong
    → IsSomeAnd text (IsAnswerable a) → ⊥
not_long None a e k = k
not_long (Some t) a e k = too_long (length t) e k.0

not_unnamed : (o : Option Job) (text : Option (List ℕ)) → o ≡ None → IsSomeAnd text (IsAnswerable (answer_of o)) → ⊥
not_unnamed o None e k = k
not_unnamed None (Some t) e k = not_ok (Err no_form) no_form refl k.1
not_unnamed (Some job) (Some t) e k = cc

-- A text that has an answer gets it, unless a read or a write fails; a node is run.
pub complete : (o : Option Job) (text : Option (List ℕ)) (e : Ending) (read read_now wrote wrote_now : ℕ)
    → (e ≡ ending.Usage → o ≡ None) → (e ≡ ending.ReadFault → Rose read read_now)
    → (e ≡ ending.WriteFault → Rose wrote wrote_now) → (e ≡ ending.TooLong → IfSome text IsTooLong)
    → IfSome text (λ t. FirstIs e (answer_of o t)) → EndsBy o e
    → IsSomeAnd text (IsAnswerable (answer_of o)) → ¬ (Rose read read_now) → ¬ (Rose wrote wrote_now)
    → IsDoneBy o (status_of e)
complete o text ending.Done r r2 w w2 usage rd wr long first k a nr nw = done o
complete o text ending.Usage r r2 w w2 usage rd wr long first k a nr nw = absurd (not_unnamed o text (usage refl) a)
complete o text ending.TooLong r r2 w w2 usage rd wr long first k a nr nw =
    absurd (not_long text (answer_of o) (long refl) a)
complete o text ending.ReadFault r r2 w w2 usage rd wr long first k a nr nw = absurd (nr (rd refl))
complete o text ending.WriteFault r r2 w w2 usage rd wr long first k a nr nw = absurd (nw (wr refl))
complete o text (ending.Refused (refusal.Line n)) r r2 w w2 usage rd wr long first k a nr nw =
    absurd (not_refused text (answer_of o) (bad_line n) first a)
complete o text (ending.Refused refusal.Json) r r2 w w2 usage rd wr long first k a nr nw =
    absurd (not_refused text (answer_of o) (bad_config json) first a)
complete o text (ending.Refused (refusal.Field path)) r r2 w w2 usage rd wr long first k a nr nw =
    absurd (not_refused text (answer_of o) (bad_config (field (string_bytes path))) first a)
complete o text (ending.Refused refusal.NoMemory) r r2 w w2 usage rd wr long first k a nr nw = no_memory o
complete o text ending.LinkFault r r2 w w2 usage rd wr long first k a nr nw = no_link o k
complete o text ending.DiskFault r r2 w w2 usage rd wr long first k a nr nw = no_disk o k
complete o text (ending.Damaged who second offset) r r2 w w2 usage rd wr long first k a nr nw =
    damaged o who second offset k
complete o text ending.JournalFull r r2 w w2 usage rd wr long first k a nr nw = full o k
complete o text ending.WrongDisk r r2 w w2 usage rd wr long first k a nr nw = wrong o k
complete o text ending.Spent r r2 w w2 usage rd wr long first k a nr nw = spent o k

-- ---- its line

-- where it can't have failed it was done
pub taken : {T E : Type 0} (A B : Type 0) (r : Result T E) → OnOk r A → OnErr r B → ¬ B → A
taken A B (Ok x) ok err sure = ok
taken A B (Err e) ok err sure = absurd (sure err)

-- the line of a text that has no answer
fault_line : (text : Option (List ℕ)) (a : List ℕ → Result Task NoAnswer) (f : NoAnswer) (before after : Option (List ℕ))
    → IfSome text (λ t. a t ≡ Err f) → Appends before after (no_answer_line f)
    → IfSome text (λ t. Appends before after (first_fault (a t)))
fault_line None a f before after e line = tt
fault_line (Some t) a f before after e line =
    subst (λ (r : Result Task NoAnswer). Appends before after (first_fault r)) (sym e) line

damage_line : (text : Option (List ℕ)) (a : List ℕ → Result Task NoAnswer) (who : NodeId) (second : Bool) (offset : ℕ)
    (before after : Option (List ℕ)) → IfSome text (λ t. DamageIsOf who (a t))
    → Appends before after (damaged_line who second offset)
    → IfSome text (λ t. IsOkAnd (a t) (TellsDamage before after))
damage_line None a who second offset before after damage line = tt
damage_line (Some t) a who second offset before after damage line =
    damage_told who second offset before after (a t) damage line

-- The line of the status is that of the ending.
pub line_told : (a : List ℕ → Result Task NoAnswer) (text : Option (List ℕ)) (e : Ending)
    (before after : Option (List ℕ)) → Appends before after (ending_line e) → IfSome text (λ t. FirstIs e (a t))
    → IfSome text (λ t. DamageIn e (a t)) → TellsLine a text before after (status_of e)
line_told a text ending.Done before after line first damage = line
line_told a text ending.Usage before after line first damage = line
line_told a text ending.TooLong before after line first damage = line
line_told a text ending.ReadFault before after line first damage = line
line_told a text ending.WriteFault before after line first damage = line
line_told a text (ending.Refused (refusal.Line n)) before after line first damage =
    fault_line text a (bad_line n) before after first line
line_told a text (ending.Refused refusal.Json) before after line first damage =
    fault_line text a (bad_config json) before after first line
line_told a text (ending.Refused (refusal.Field path)) before after line first damage =
    fault_line text a (bad_config (field (string_bytes path))) before after first line
line_told a text (ending.Refused refusal.NoMemory) before after line first damage = line
line_told a text ending.LinkFault before after line first damage = line
line_told a text ending.DiskFault before after line first damage = line
line_told a text (ending.Damaged who second offset) before after line first damage =
    damage_line text a who second offset before after damage line
line_told a text ending.JournalFull before after line first damage = line
line_told a text ending.WrongDisk before after line first damage = line
line_told a text ending.Spent before after line first damage = line

-- ---- the run of a node

after_reading : (e : Ending) → IsAfterReading (status_of e) → AfterReading e
after_reading ending.Done k = tt
after_reading ending.Usage k = k
after_reading ending.TooLong k = k
after_reading ending.ReadFault k = k
after_reading ending.WriteFault k = tt
after_reading (ending.Refused r) k = tt
after_reading ending.LinkFault k = tt
after_reading ending.DiskFault k = tt
after_reading (ending.Damaged who second offset) k = tt
after_reading ending.JournalFull k = tt
after_reading ending.WrongDisk k = tt
after_reading ending.Spent k = tt

served_ends : (times later : Option (List ℕ)) (calls calls_now : Option (List HostCall))
    (before after : Option (List ℕ)) (faults faults_now : ℕ) (said said_now : Option (List ℕ)) (e : Ending)
    (a : Result Task NoAnswer) → (¬ (Rose faults faults_now) → Appends said said_now (ending_line e))
    → IfServed a (λ cfg who turns. NodeRan cfg who turns times later calls calls_now before after e)
    → IfServed a (λ cfg who turns. NodeEnds cfg who turns times later calls calls_now before after faults faults_now
    said said_now (status_of e))
served_ends times later calls calls_now before after faults faults_now said said_now e (Ok (write lines)) line ran = tt
served_ends times later calls calls_now before after faults faults_now said said_now e (Ok (serve cfg who turns)) line ran =
    record { end = e; ran = ran; is = refl; line = line }
served_ends times later calls calls_now before after faults faults_now said said_now e (Err f) line ran = tt

-- The run of a node is the program's end, with its line.
pub node_ends : (a : List ℕ → Result Task NoAnswer) (times later : Option (List ℕ))
    (calls calls_now : Option (List HostCall)) (before after : Option (List ℕ)) (faults faults_now : ℕ)
    (said said_now : Option (List ℕ)) (e : Ending) (text : Option (List ℕ))
    → (¬ (Rose faults faults_now) → Appends said said_now (ending_line e))
    → (AfterReading e → IfSome text (λ t. IfServed (a t)
    (λ cfg who turns. NodeRan cfg who turns times later calls calls_now before after e)))
    → IsAfterReading (status_of e)
    → IfSome text (λ t. IfServed (a t) (λ cfg who turns. NodeEnds cfg who turns times later calls calls_now before after
    faults faults_now said said_now (status_of e)))
node_ends a times later calls calls_now before after faults faults_now said said_now e None line ran k = tt
node_ends a times later calls calls_now before after faults faults_now said said_now e (Some t) line ran k =
    served_ends times later calls calls_now before after faults faults_now said said_now e (a t) line
    (ran (after_reading e k))
