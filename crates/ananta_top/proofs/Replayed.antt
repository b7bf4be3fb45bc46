-- What the ending of a schedule says, clause by clause.
use Rattle.std.proofs.Common.{◌≡◌, ℕ, List, Option, None, Some, Result, Ok, Err, IfSome, IsOkAnd, [], refl, sym, subst}
use Rattle.std.proofs.lemmas.List.{append-nil}
use Rattle.std.specs.Io.KnownBytes.{Appends}
use Rattle.wire_core.specs.declared.node.NodeId.{NodeId}
use Rattle.outside_io.specs.Faults.{Rose}
use Rattle.ananta_top.specs.Answers.{Task, write, serve, NoAnswer, answer_of}
use Rattle.ananta_top.specs.Run.{AfterReading, DamageIn, FillsAJournal, FirstIs, Fronts, HasRoomInJournals, IsSafeSchedule, LeavesFront, Replays, StopsShort, Writes, WritesFront}
use Rattle.ananta_top.specs.declared.ending.Ending.{Ending}
use Rattle.ananta_top.specs.declared.ending.Ending.TheVariants as ending
use Rattle.ananta_top.specs.declared.refusal.Refusal.TheVariants as refusal
use Rattle.ananta_top.specs.declared.words.Job.{Job}

pub done : (before after : Option (List ℕ)) (faults faults_now : ℕ) (text : List ℕ) (a : Result Task NoAnswer)
    (e : Ending) → Replays before after faults faults_now text a e → e ≡ ending.Done → IsOkAnd a (Writes before after)
done before after faults faults_now text a e r is =
    (subst (λ (x : Ending). Replays before after faults faults_now text a x) is r).0

pub room : (before after : Option (List ℕ)) (faults faults_now : ℕ) (text : List ℕ) (a : Result Task NoAnswer)
    (e : Ending) → Replays before after faults faults_now text a e → e ≡ ending.Done → HasRoomInJournals text
room before after faults faults_now text a e r is =
    (subst (λ (x : Ending). Replays before after faults faults_now text a x) is r).1

pub safe : (before after : Option (List ℕ)) (faults faults_now : ℕ) (text : List ℕ) (a : Result Task NoAnswer)
    (e : Ending) → Replays before after faults faults_now text a e → e ≡ ending.Done → IsSafeSchedule text
safe before after faults faults_now text a e r is =
    (subst (λ (x : Ending). Replays before after faults faults_now text a x) is r).2

pub fault : (before after : Option (List ℕ)) (faults faults_now : ℕ) (text : List ℕ) (a : Result Task NoAnswer)
    (e : Ending) → Replays before after faults faults_now text a e → e ≡ ending.WriteFault → Rose faults faults_now
fault before after faults faults_now text a e r is =
    (subst (λ (x : Ending). Replays before after faults faults_now text a x) is r).1

pub front : (before after : Option (List ℕ)) (faults faults_now : ℕ) (text : List ℕ) (a : Result Task NoAnswer)
    (e : Ending) → Replays before after faults faults_now text a e → e ≡ ending.WriteFault
    → IsOkAnd a (WritesFront before after)
front before after faults faults_now text a e r is =
    (subst (λ (x : Ending). Replays before after faults faults_now text a x) is r).0

pub fills : (before after : Option (List ℕ)) (faults faults_now : ℕ) (text : List ℕ) (a : Result Task NoAnswer)
    (e : Ending) → Replays before after faults faults_now text a e → e ≡ ending.JournalFull → FillsAJournal text
fills before after faults faults_now text a e r is =
    (subst (λ (x : Ending). Replays before after faults faults_now text a x) is r).0

pub first : (before after : Option (List ℕ)) (faults faults_now : ℕ) (text : List ℕ) (a : Result Task NoAnswer)
    (e : Ending) → Replays before after faults faults_now text a e → FirstIs e a
first before after faults faults_now text a ending.Done r = tt
first before after faults faults_now text a ending.Usage r = tt
first before after faults faults_now text a ending.TooLong r = tt
first before after faults faults_now text a ending.ReadFault r = tt
first before after faults faults_now text a ending.WriteFault r = tt
first before after faults faults_now text a (ending.Refused x) r = r.0
first before after faults faults_now text a ending.LinkFault r = tt
first before after faults faults_now text a ending.DiskFault r = tt
first before after faults faults_now text a (ending.Damaged who second offset) r = tt
first before after faults faults_now text a ending.JournalFull r = tt
first before after faults faults_now text a ending.WrongDisk r = tt
first before after faults faults_now text a ending.Spent r = tt

pub damage : (before after : Option (List ℕ)) (faults faults_now : ℕ) (text : List ℕ) (a : Result Task NoAnswer)
    (e : Ending) → Replays before after faults faults_now text a e → DamageIn e a
damage before after faults faults_now text a ending.Done r = tt
damage before after faults faults_now text a ending.Usage r = tt
damage before after faults faults_now text a ending.TooLong r = tt
damage before after faults faults_now text a ending.ReadFault r = tt
damage before after faults faults_now text a ending.WriteFault r = tt
damage before after faults faults_now text a (ending.Refused x) r = tt
damage before after faults faults_now text a ending.LinkFault r = tt
damage before after faults faults_now text a ending.DiskFault r = tt
damage before after faults faults_now text a (ending.Damaged who second offset) r = absurd r
damage before after faults faults_now text a ending.JournalFull r = tt
damage before after faults faults_now text a ending.WrongDisk r = tt
damage before after faults faults_now text a ending.Spent r = tt

pub stopped : (before after : Option (List ℕ)) (faults faults_now : ℕ) (text : List ℕ) (a : Result Task NoAnswer)
    (e : Ending) → Replays before after faults faults_now text a e → LeavesFront e → Fronts before after a
stopped before after faults faults_now text a ending.Done r k = absurd k
stopped before after faults faults_now text a ending.Usage r k = absurd k
stopped before after faults faults_now text a ending.TooLong r k = absurd k
stopped before after faults faults_now text a ending.ReadFault r k = absurd k
stopped before after faults faults_now text a ending.WriteFault r k = absurd k
stopped before after faults faults_now text a (ending.Refused x) r k = r.1
stopped before after faults faults_now text a ending.LinkFault r k = absurd k
stopped before after faults faults_now text a ending.DiskFault r k = absurd k
stopped before after faults faults_now text a (ending.Damaged who second offset) r k = absurd k
stopped before after faults faults_now text a ending.JournalFull r k = r.1
stopped before after faults faults_now text a ending.WrongDisk r k = absurd k
stopped before after faults faults_now text a ending.Spent r k = absurd k

pub causes : (before after : Option (List ℕ)) (faults faults_now : ℕ) (text : List ℕ) (a : Result Task NoAnswer)
    (e : Ending) → Replays before after faults faults_now text a e → AfterReading e
causes before after faults faults_now text a ending.Done r = tt
causes before after faults faults_now text a ending.Usage r = r
causes before after faults faults_now text a ending.TooLong r = r
causes before after faults faults_now text a ending.ReadFault r = r
causes before after faults faults_now text a ending.WriteFault r = tt
causes before after faults faults_now text a (ending.Refused x) r = tt
causes before after faults faults_now text a ending.LinkFault r = tt
causes before after faults faults_now text a ending.DiskFault r = tt
causes before after faults faults_now text a (ending.Damaged who second offset) r = tt
causes before after faults faults_now text a ending.JournalFull r = tt
causes before after faults faults_now text a ending.WrongDisk r = tt
causes before after faults faults_now text a ending.Spent r = tt

-- ---- where nothing was written

none_added : (before : Option (List ℕ)) → Appends before before []
none_added None = tt
none_added (Some xs) = sym (append-nil xs)

-- a front of nothing
pub front_none : (before : Option (List ℕ)) (a : Result Task NoAnswer) → Fronts before before a
front_none before (Ok (write lines)) = (0, none_added before)
front_none before (Ok (serve cfg who turns)) = tt
front_none before (Err why) = refl

pub fronts_given : (o : Option Job) (before text : Option (List ℕ))
    → IfSome text (λ t. Fronts before before (answer_of o t))
fronts_given o before None = tt
fronts_given o before (Some t) = front_none before (answer_of o t)

-- the job that the words name
pub short_for : (o p : Option Job) (e : Ending) → o ≡ p → StopsShort o e → StopsShort p e
short_for o p e is short = subst (λ (x : Option Job). StopsShort x e) is short
