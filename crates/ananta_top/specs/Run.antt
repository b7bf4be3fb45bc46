-- What the program writes, and when it ends how.
use Rattle.std.specs.Prelude.{◌≡◌, ℕ, ◌<◌, ◌≤◌, ◌++◌, Bool, true, false, List, [], length, take, Option, Some, None, Result, Ok, Err, IfSome, IsOk, IsOkAnd, String, codes, string_bytes}
use Rattle.std.specs.Fmt.{decimal}
use Rattle.std.specs.declared.alloc.Global.{Global}
use Rattle.std.specs.Io.KnownBytes.{Appends, IsAtEnd}
use Rattle.config_text.specs.Faults.{Fault, json, field}
use Rattle.node_schedule.specs.Answers.{HasRoom, Overflows}
use Rattle.node_schedule.specs.Safety.{IsSafeText}
use Rattle.node_schedule.specs.Schedule.{scheduled}
use Rattle.node_schedule.specs.declared.fault.ScheduleFault.{ScheduleFault}
use Rattle.node_schedule.specs.declared.fault.ScheduleFault.TheVariants as schedule
use Rattle.plain_schedule.specs.Safety.{IsAlwaysSafe}
use Rattle.wire_core.specs.declared.node.NodeId.{NodeId}
use Rattle.vip_config.specs.declared.parts.ConfigParts.{ConfigParts}
use Rattle.outside_io.specs.Faults.{Rose}
use Rattle.outside_io.specs.Host.{HostCall}
use Rattle.node_run.specs.declared.serving.Served.{Served}
use Rattle.ananta_top.specs.Answers.{is_plain, Task, write, serve, NoAnswer, no_form, bad_line, bad_config, RefusedBy}
use Rattle.ananta_top.specs.Node.{NodeRan, damaged_line, turns_line}
use Rattle.ananta_top.specs.declared.refusal.Refusal.{Refusal}
use Rattle.ananta_top.specs.declared.refusal.Refusal.TheVariants as refusal
use Rattle.ananta_top.specs.declared.words.Job.{Job}
use Rattle.ananta_top.specs.declared.words.Job.TheVariants.{Replay, Summary, Check, Generate, Node}
use Rattle.ananta_top.specs.declared.ending.Ending.{Ending}
use Rattle.ananta_top.specs.declared.ending.Ending.TheVariants as ending
use Rattle.ananta_top.specs.declared.ending.Status.{Status}
use Rattle.ananta_top.specs.declared.ending.Status.TheVariants.{Done, Usage, ReadFault, TooLong, BadConfig, BadSchedule, WriteFault, NoMemory}
use Rattle.ananta_top.specs.declared.ending.Status.TheVariants.{LinkFault, DiskFault, Damaged, JournalFull, WrongDisk, Spent}

-- an answer, for each text
abbrev pub Answered : Type 0
Answered = List ℕ → Result Task NoAnswer

-- the input has more bytes than an input may have
abbrev pub IsTooLong : List ℕ → Type 0
IsTooLong text = 67108864 < length text

abbrev pub IsWithin : List ℕ → Type 0
IsWithin text = length text ≤ 67108864

-- Exactly what is to be written was added; of a node that was served, the line of its turns.
abbrev pub Writes : (before after : Option (List ℕ)) → Task → Type 0
Writes before after (write lines) = Appends before after lines
Writes before after (serve cfg who turns) = (served : Served) × Appends before after (turns_line turns served)

-- a front of that was added
abbrev pub WritesFront : (before after : Option (List ℕ)) → Task → Type 0
WritesFront before after (write lines) = (n : ℕ) × Appends before after (take n lines)
WritesFront before after (serve cfg who turns) =
    (served : Served) × (n : ℕ) × Appends before after (take n (turns_line turns served))

-- exactly the answer to this text was added
abbrev pub Printed : Answered → Option (List ℕ) → Option (List ℕ) → List ℕ → Type 0
Printed answered before after text = IsOkAnd (answered text) (Writes before after)

-- a front of the answer to this text was added
abbrev pub PrintedFront : Answered → Option (List ℕ) → Option (List ℕ) → List ℕ → Type 0
PrintedFront answered before after text = IsOkAnd (answered text) (WritesFront before after)

-- of a text that is to be written a front was added; where there is no answer, nothing
abbrev pub Fronts : Option (List ℕ) → Option (List ℕ) → Result Task NoAnswer → Type 0
Fronts before after (Ok (write lines)) = (n : ℕ) × Appends before after (take n lines)
Fronts before after (Ok (serve cfg who turns)) = Unit {0}
Fronts before after (Err why) = after ≡ before

-- the text is a schedule with a bad line
abbrev pub IsBadSchedule : Result Task NoAnswer → Type 0
IsBadSchedule (Ok lines) = ⊥
IsBadSchedule (Err no_form) = ⊥
IsBadSchedule (Err (bad_line n)) = Unit {0}
IsBadSchedule (Err (bad_config fault)) = ⊥

-- the text is a configuration with a fault
abbrev pub IsBadConfig : Result Task NoAnswer → Type 0
IsBadConfig (Ok lines) = ⊥
IsBadConfig (Err no_form) = ⊥
IsBadConfig (Err (bad_line n)) = ⊥
IsBadConfig (Err (bad_config fault)) = Unit {0}

-- each moment of a plain schedule, or of the run of a schedule of nodes
abbrev pub IsSafeBy : (plain : Bool) → List ℕ → Type 0
IsSafeBy true text = IsAlwaysSafe text
IsSafeBy false text = IsSafeText text

abbrev pub IsSafeSchedule : List ℕ → Type 0
IsSafeSchedule text = IsSafeBy (is_plain text) text

-- each moment of a schedule is safe
abbrev pub IsSafeFor : Option Job → List ℕ → Type 0
IsSafeFor None text = Unit {0}
IsSafeFor (Some Replay) text = IsSafeSchedule text
IsSafeFor (Some Summary) text = IsSafeSchedule text
IsSafeFor (Some Check) text = Unit {0}
IsSafeFor (Some (Generate number count)) text = Unit {0}
IsSafeFor (Some (Node role index turns)) text = Unit {0}

-- some entry of the run of a schedule finds no room in its node's journal; a plain one has no journals
abbrev pub FillsBy : (plain : Bool) → List ℕ → Type 0
FillsBy true text = ⊥
FillsBy false text = IsOkAnd (scheduled text) Overflows

abbrev pub FillsAJournal : List ℕ → Type 0
FillsAJournal text = FillsBy (is_plain text) text

-- each entry of the run of a schedule finds room
abbrev pub HasRoomBy : (plain : Bool) → List ℕ → Type 0
HasRoomBy true text = Unit {0}
HasRoomBy false text = IsOkAnd (scheduled text) HasRoom

abbrev pub HasRoomInJournals : List ℕ → Type 0
HasRoomInJournals text = HasRoomBy (is_plain text) text

-- A schedule fills a journal of its own nodes. Of a node its run says it, and no other job has a journal.
abbrev pub FillsFor : Option Job → List ℕ → Type 0
FillsFor None text = Unit {0}
FillsFor (Some Replay) text = FillsAJournal text
FillsFor (Some Summary) text = FillsAJournal text
FillsFor (Some Check) text = Unit {0}
FillsFor (Some (Generate number count)) text = Unit {0}
FillsFor (Some (Node role index turns)) text = Unit {0}

abbrev pub HasRoomFor : Option Job → List ℕ → Type 0
HasRoomFor None text = Unit {0}
HasRoomFor (Some Replay) text = HasRoomInJournals text
HasRoomFor (Some Summary) text = HasRoomInJournals text
HasRoomFor (Some Check) text = Unit {0}
HasRoomFor (Some (Generate number count)) text = Unit {0}
HasRoomFor (Some (Node role index turns)) text = Unit {0}

-- the input of a job that reads it was read to its end
abbrev pub IsAtEndFor : Option Job → Option (List ℕ) → Type 0
IsAtEndFor None left = Unit {0}
IsAtEndFor (Some Replay) left = IsAtEnd left
IsAtEndFor (Some Summary) left = IsAtEnd left
IsAtEndFor (Some Check) left = IsAtEnd left
IsAtEndFor (Some (Generate number count)) left = Unit {0}
IsAtEndFor (Some (Node role index turns)) left = IsAtEnd left

-- a text that may be asked for has an answer
abbrev pub IsAnswerable : Answered → List ℕ → Type 0
IsAnswerable answered text = IsWithin text × IsOk (answered text)

-- ---- what is told on the error stream

abbrev pub fault_text : Fault → List ℕ
fault_text json = codes "json"
fault_text (field path) = path

abbrev pub no_answer_line : NoAnswer → List ℕ
no_answer_line no_form = codes "usage\n"
no_answer_line (bad_line n) = codes "schedule line " ++ decimal n ++ codes "\n"
no_answer_line (bad_config fault) = codes "config " ++ fault_text fault ++ codes "\n"

abbrev pub first_fault : Result Task NoAnswer → List ℕ
first_fault (Ok lines) = []
first_fault (Err e) = no_answer_line e

-- the line that a status puts on the error stream, where the answer is this; that of a damaged disk is told apart
abbrev pub status_line : Status → Result Task NoAnswer → List ℕ
status_line Done answer = []
status_line Usage answer = codes "usage\n"
status_line ReadFault answer = codes "read fault\n"
status_line TooLong answer = codes "input too long\n"
status_line BadConfig answer = first_fault answer
status_line BadSchedule answer = first_fault answer
status_line WriteFault answer = codes "write fault\n"
status_line NoMemory answer = codes "no memory\n"
status_line LinkFault answer = codes "link fault\n"
status_line DiskFault answer = codes "disk fault\n"
status_line Damaged answer = []
status_line JournalFull answer = codes "journal full\n"
status_line WrongDisk answer = codes "wrong disk\n"
status_line Spent answer = codes "spent\n"

-- a place in a file of the node that is to be served
abbrev pub TellsDamage : (before after : Option (List ℕ)) → Task → Type 0
TellsDamage before after (write lines) = ⊥
TellsDamage before after (serve cfg who turns) =
    (second : Bool) × (offset : ℕ) × Appends before after (damaged_line who second offset)

abbrev pub refusal_line : Refusal → List ℕ
refusal_line (refusal.Line n) = codes "schedule line " ++ decimal n ++ codes "\n"
refusal_line refusal.Json = codes "config json\n"
refusal_line (refusal.Field path) = codes "config " ++ string_bytes path ++ codes "\n"
refusal_line refusal.NoMemory = codes "no memory\n"

abbrev pub ending_line : Ending → List ℕ
ending_line ending.Done = []
ending_line ending.Usage = codes "usage\n"
ending_line ending.ReadFault = codes "read fault\n"
ending_line ending.TooLong = codes "input too long\n"
ending_line (ending.Refused r) = refusal_line r
ending_line ending.WriteFault = codes "write fault\n"
ending_line ending.LinkFault = codes "link fault\n"
ending_line ending.DiskFault = codes "disk fault\n"
ending_line (ending.Damaged who second offset) = damaged_line who second offset
ending_line ending.JournalFull = codes "journal full\n"
ending_line ending.WrongDisk = codes "wrong disk\n"
ending_line ending.Spent = codes "spent\n"

abbrev pub refusal_status : Refusal → Status
refusal_status (refusal.Line n) = BadSchedule
refusal_status refusal.Json = BadConfig
refusal_status (refusal.Field path) = BadConfig
refusal_status refusal.NoMemory = NoMemory

abbrev pub status_of : Ending → Status
status_of ending.Done = Done
status_of ending.Usage = Usage
status_of ending.ReadFault = ReadFault
status_of ending.TooLong = TooLong
status_of (ending.Refused r) = refusal_status r
status_of ending.WriteFault = WriteFault
status_of ending.LinkFault = LinkFault
status_of ending.DiskFault = DiskFault
status_of (ending.Damaged who second offset) = Damaged
status_of ending.JournalFull = JournalFull
status_of ending.WrongDisk = WrongDisk
status_of ending.Spent = Spent

-- the line of the status was added, where it can be told
abbrev pub TellsLine : Answered → Option (List ℕ) → Option (List ℕ) → Option (List ℕ) → Status → Type 0
TellsLine answered input before after BadSchedule =
    IfSome input (λ text. Appends before after (status_line BadSchedule (answered text)))
TellsLine answered input before after BadConfig =
    IfSome input (λ text. Appends before after (status_line BadConfig (answered text)))
TellsLine answered input before after Damaged =
    IfSome input (λ text. IsOkAnd (answered text) (TellsDamage before after))
TellsLine answered input before after status = Appends before after (status_line status (Err no_form))

-- ---- which ending says what

-- why the text was refused is why it has no answer
abbrev pub FirstIs : Ending → Result Task NoAnswer → Type 0
FirstIs (ending.Refused r) answer = RefusedBy r answer
FirstIs other answer = Unit {0}

-- a damaged disk is one of the node that is to be served
abbrev pub DamageIsOf : NodeId → Result Task NoAnswer → Type 0
DamageIsOf who (Ok (serve cfg node turns)) = who ≡ node
DamageIsOf who (Ok (write lines)) = ⊥
DamageIsOf who (Err e) = ⊥

abbrev pub DamageIn : Ending → Result Task NoAnswer → Type 0
DamageIn (ending.Damaged who second offset) answer = DamageIsOf who answer
DamageIn other answer = Unit {0}

-- what was answered was no text, for this reason
abbrev pub RefusedAs : Ending → Result (String Global) Refusal → Type 0
RefusedAs (ending.Refused r) answer = answer ≡ Err r
RefusedAs ending.Done answer = IsOk answer
RefusedAs ending.WriteFault answer = IsOk answer
RefusedAs other answer = ⊥

-- What an ending says of the answer and of what was written.
abbrev pub Says : (before after : Option (List ℕ)) → Result Task NoAnswer → Ending → Type 0
Says before after answer ending.Done = IsOkAnd answer (Writes before after)
Says before after answer ending.WriteFault = IsOkAnd answer (WritesFront before after)
Says before after answer (ending.Refused r) = RefusedBy r answer
Says before after answer (ending.Damaged who second offset) = DamageIsOf who answer
Says before after answer other = Unit {0}

-- Why the lines of a schedule weren't written or counted to their end. Want of memory may always come.
abbrev pub Stops : ScheduleFault → (failed : Type 0) → List ℕ → Result (List ℕ) NoAnswer → Type 0
Stops schedule.Json failed text printed = printed ≡ Err (bad_config json)
Stops (schedule.Field path) failed text printed = printed ≡ Err (bad_config (field (string_bytes path)))
Stops (schedule.Line n) failed text printed = printed ≡ Err (bad_line n)
Stops schedule.Full failed text printed = IsOk printed × FillsAJournal text
Stops schedule.Write failed text printed = IsOk printed × failed
Stops schedule.NoMemory failed text printed = Unit {0}

-- how a run ends for this reason
abbrev pub ending_by : ScheduleFault → Ending
ending_by schedule.Json = ending.Refused refusal.Json
ending_by (schedule.Field path) = ending.Refused (refusal.Field path)
ending_by (schedule.Line n) = ending.Refused (refusal.Line n)
ending_by schedule.Full = ending.JournalFull
ending_by schedule.Write = ending.WriteFault
ending_by schedule.NoMemory = ending.Refused refusal.NoMemory

-- What the ending of a schedule says: all that is to be written was added, or a front of it.
abbrev pub Replays : (before after : Option (List ℕ)) → (faults faults_now : ℕ) → List ℕ → Result Task NoAnswer → Ending
    → Type 0
Replays before after faults faults_now text answer ending.Done =
    IsOkAnd answer (Writes before after) × HasRoomInJournals text × IsSafeSchedule text
Replays before after faults faults_now text answer ending.WriteFault =
    IsOkAnd answer (WritesFront before after) × Rose faults faults_now
Replays before after faults faults_now text answer ending.JournalFull = FillsAJournal text × Fronts before after answer
Replays before after faults faults_now text answer (ending.Refused r) = RefusedBy r answer × Fronts before after answer
Replays before after faults faults_now text answer other = ⊥

-- endings that write nothing
abbrev pub IsRefusal : Ending → Type 0
IsRefusal ending.Done = ⊥
IsRefusal ending.WriteFault = ⊥
IsRefusal other = Unit {0}

-- endings of `replay` that may leave a front of the lines
abbrev pub LeavesFront : Ending → Type 0
LeavesFront (ending.Refused refusal.NoMemory) = Unit {0}
LeavesFront ending.JournalFull = Unit {0}
LeavesFront other = ⊥

-- endings of a job that may leave a front, beside a fault of the sink
abbrev pub StopsShort : Option Job → Ending → Type 0
StopsShort None e = ⊥
StopsShort (Some Replay) e = LeavesFront e
StopsShort (Some Summary) e = ⊥
StopsShort (Some Check) e = ⊥
StopsShort (Some (Generate number count)) e = ⊥
StopsShort (Some (Node role index turns)) e = ⊥

-- refusals for what the text is
abbrev pub JudgesBy : Refusal → Type 0
JudgesBy refusal.NoMemory = ⊥
JudgesBy other = Unit {0}

-- endings of `replay` that write nothing
abbrev pub WritesNothing : Ending → Type 0
WritesNothing ending.Done = ⊥
WritesNothing ending.WriteFault = ⊥
WritesNothing ending.JournalFull = ⊥
WritesNothing (ending.Refused r) = JudgesBy r
WritesNothing other = Unit {0}

-- endings of a job that write nothing
abbrev pub KeepsOut : Option Job → Ending → Type 0
KeepsOut None e = IsRefusal e
KeepsOut (Some Replay) e = WritesNothing e
KeepsOut (Some Summary) e = IsRefusal e
KeepsOut (Some Check) e = IsRefusal e
KeepsOut (Some (Generate number count)) e = IsRefusal e
KeepsOut (Some (Node role index turns)) e = IsRefusal e

-- endings that come before a host is asked for anything
abbrev pub LeavesHost : Ending → Type 0
LeavesHost ending.Usage = Unit {0}
LeavesHost ending.TooLong = Unit {0}
LeavesHost ending.ReadFault = Unit {0}
LeavesHost (ending.Refused r) = JudgesBy r
LeavesHost other = ⊥

-- No host is asked for anything: the job isn't a node's, or it ends before.
abbrev pub StaysAway : Option Job → Ending → Type 0
StaysAway None e = Unit {0}
StaysAway (Some Replay) e = Unit {0}
StaysAway (Some Summary) e = Unit {0}
StaysAway (Some Check) e = Unit {0}
StaysAway (Some (Generate number count)) e = Unit {0}
StaysAway (Some (Node role index turns)) e = LeavesHost e

-- endings of jobs that aren't a node's
abbrev pub OfText : Ending → Type 0
OfText ending.LinkFault = ⊥
OfText ending.DiskFault = ⊥
OfText (ending.Damaged who second offset) = ⊥
OfText ending.JournalFull = ⊥
OfText ending.WrongDisk = ⊥
OfText ending.Spent = ⊥
OfText other = Unit {0}

-- endings of a schedule
abbrev pub OfSchedule : Ending → Type 0
OfSchedule ending.JournalFull = Unit {0}
OfSchedule other = OfText other

-- a job that isn't a node's doesn't end as one
abbrev pub EndsBy : Option Job → Ending → Type 0
EndsBy None e = OfText e
EndsBy (Some Replay) e = OfSchedule e
EndsBy (Some Summary) e = OfSchedule e
EndsBy (Some Check) e = OfText e
EndsBy (Some (Generate number count)) e = OfText e
EndsBy (Some (Node role index turns)) e = Unit {0}

-- endings that come once the input is read
abbrev pub AfterReading : Ending → Type 0
AfterReading ending.Usage = ⊥
AfterReading ending.ReadFault = ⊥
AfterReading ending.TooLong = ⊥
AfterReading other = Unit {0}

-- endings that say what the text of the input is
abbrev pub JudgesText : Ending → Type 0
JudgesText ending.Done = Unit {0}
JudgesText (ending.Refused r) = JudgesBy r
JudgesText ending.WriteFault = Unit {0}
JudgesText other = ⊥

-- statuses that say what the text of the input is
abbrev pub JudgesInput : Status → Type 0
JudgesInput Done = Unit {0}
JudgesInput BadConfig = Unit {0}
JudgesInput BadSchedule = Unit {0}
JudgesInput WriteFault = Unit {0}
JudgesInput other = ⊥

-- statuses of jobs other than `replay` that write nothing
abbrev pub Refuses : Status → Type 0
Refuses Done = ⊥
Refuses WriteFault = ⊥
Refuses other = Unit {0}

-- statuses of `replay` that write nothing
abbrev pub RefusesAll : Status → Type 0
RefusesAll Done = ⊥
RefusesAll WriteFault = ⊥
RefusesAll JournalFull = ⊥
RefusesAll NoMemory = ⊥
RefusesAll other = Unit {0}

-- statuses of a job that write nothing
abbrev pub HasNoAnswer : Option Job → Status → Type 0
HasNoAnswer None status = Refuses status
HasNoAnswer (Some Replay) status = RefusesAll status
HasNoAnswer (Some Summary) status = Refuses status
HasNoAnswer (Some Check) status = Refuses status
HasNoAnswer (Some (Generate number count)) status = Refuses status
HasNoAnswer (Some (Node role index turns)) status = Refuses status

-- statuses of `replay` that may leave a front of the lines, beside a fault of the sink
abbrev pub CutsLines : Status → Type 0
CutsLines NoMemory = Unit {0}
CutsLines JournalFull = Unit {0}
CutsLines other = ⊥

abbrev pub EndsShort : Option Job → Status → Type 0
EndsShort None status = ⊥
EndsShort (Some Replay) status = CutsLines status
EndsShort (Some Summary) status = ⊥
EndsShort (Some Check) status = ⊥
EndsShort (Some (Generate number count)) status = ⊥
EndsShort (Some (Node role index turns)) status = ⊥

-- the job is done, unless memory ran out
abbrev pub IsDone : Status → Type 0
IsDone Done = Unit {0}
IsDone NoMemory = Unit {0}
IsDone other = ⊥

-- the schedule was replayed, unless a journal was full or memory ran out
abbrev pub IsReplayed : Status → Type 0
IsReplayed Done = Unit {0}
IsReplayed JournalFull = Unit {0}
IsReplayed NoMemory = Unit {0}
IsReplayed other = ⊥

-- the node was run, and that ended so, unless memory ran out
abbrev pub IsRun : Status → Type 0
IsRun Done = Unit {0}
IsRun NoMemory = Unit {0}
IsRun LinkFault = Unit {0}
IsRun DiskFault = Unit {0}
IsRun Damaged = Unit {0}
IsRun JournalFull = Unit {0}
IsRun WrongDisk = Unit {0}
IsRun Spent = Unit {0}
IsRun other = ⊥

-- the same, of the job
abbrev pub IsDoneBy : Option Job → Status → Type 0
IsDoneBy None status = IsDone status
IsDoneBy (Some Replay) status = IsReplayed status
IsDoneBy (Some Summary) status = IsReplayed status
IsDoneBy (Some Check) status = IsDone status
IsDoneBy (Some (Generate number count)) status = IsDone status
IsDoneBy (Some (Node role index turns)) status = IsRun status

-- statuses of jobs that aren't a node's
abbrev pub IsOfText : Status → Type 0
IsOfText LinkFault = ⊥
IsOfText DiskFault = ⊥
IsOfText Damaged = ⊥
IsOfText JournalFull = ⊥
IsOfText WrongDisk = ⊥
IsOfText Spent = ⊥
IsOfText other = Unit {0}

-- statuses of a schedule
abbrev pub IsOfSchedule : Status → Type 0
IsOfSchedule JournalFull = Unit {0}
IsOfSchedule other = IsOfText other

-- a job that isn't a node's has no status of one
abbrev pub HasStatusBy : Option Job → Status → Type 0
HasStatusBy None status = IsOfText status
HasStatusBy (Some Replay) status = IsOfSchedule status
HasStatusBy (Some Summary) status = IsOfSchedule status
HasStatusBy (Some Check) status = IsOfText status
HasStatusBy (Some (Generate number count)) status = IsOfText status
HasStatusBy (Some (Node role index turns)) status = Unit {0}

-- statuses that come before a host is asked for anything
abbrev pub IsBeforeHost : Status → Type 0
IsBeforeHost Usage = Unit {0}
IsBeforeHost ReadFault = Unit {0}
IsBeforeHost TooLong = Unit {0}
IsBeforeHost BadConfig = Unit {0}
IsBeforeHost BadSchedule = Unit {0}
IsBeforeHost other = ⊥

-- no host is asked for anything: the job isn't a node's, or its status comes before
abbrev pub NeedsNoHost : Option Job → Status → Type 0
NeedsNoHost None status = Unit {0}
NeedsNoHost (Some Replay) status = Unit {0}
NeedsNoHost (Some Summary) status = Unit {0}
NeedsNoHost (Some Check) status = Unit {0}
NeedsNoHost (Some (Generate number count)) status = Unit {0}
NeedsNoHost (Some (Node role index turns)) status = IsBeforeHost status

-- ---- the run of a node

-- a node is to be served, and this is so of it
abbrev pub IfServed : Result Task NoAnswer → (ConfigParts → NodeId → ℕ → Type 0) → Type 0
IfServed (Ok (write lines)) P = Unit {0}
IfServed (Ok (serve cfg who turns)) P = P cfg who turns
IfServed (Err e) P = Unit {0}

-- statuses that come once the input is read
abbrev pub IsAfterReading : Status → Type 0
IsAfterReading Usage = ⊥
IsAfterReading ReadFault = ⊥
IsAfterReading TooLong = ⊥
IsAfterReading other = Unit {0}

-- The node was run, its end is the program's, and the line of that end stands on the error stream where it took it.
pub record NodeEnds (cfg : ConfigParts) (who : NodeId) (turns : ℕ) (times later : Option (List ℕ))
    (calls calls_now : Option (List HostCall)) (before after : Option (List ℕ)) (faults faults_now : ℕ)
    (said said_now : Option (List ℕ)) (status : Status) : Type 0 where
  pub end : Ending
  pub ran : NodeRan cfg who turns times later calls calls_now before after end
  pub is : status ≡ status_of end
  pub line : ¬ (Rose faults faults_now) → Appends said said_now (ending_line end)
