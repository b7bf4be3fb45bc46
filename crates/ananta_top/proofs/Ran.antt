-- A run of no calls, and what is told of a run.
use Rattle.std.proofs.Common.{◌≡◌, ℕ, Bool, List, [], ◌++◌, Option, None, Some, Result, Ok, Err, IfSome, IsOkAnd, refl, sym, subst}
use Rattle.std.proofs.lemmas.List.{append-nil}
use Rattle.std.specs.Io.KnownBytes.{Appends}
use Rattle.wire_core.specs.declared.node.NodeId.{NodeId}
use Rattle.vip_config.specs.declared.parts.ConfigParts.{ConfigParts}
use Rattle.outside_io.specs.Host.{HostCall}
use Rattle.node_run.specs.Hosting.{Runs, no_names}
use Rattle.node_run.specs.Serving.{Since}
use Rattle.node_run.specs.declared.ending.NodeEnding.TheVariants as run
use Rattle.node_run.specs.declared.serving.Served.{Served}
use Rattle.node_roles.specs.Roles.{opened, step}
use Rattle.ananta_top.specs.Answers.{Task, write, serve, NoAnswer, answer, answer_of}
use Rattle.ananta_top.specs.Node.{IsTold, NodeRan, damaged_line, turns_line}
use Rattle.ananta_top.specs.Run.{DamageIsOf, IfServed, Says, TellsDamage}
use Rattle.ananta_top.specs.Words.{text_for}
use Rattle.ananta_top.specs.declared.ending.Ending.{Ending}
use Rattle.ananta_top.specs.declared.ending.Ending.TheVariants as ending
use Rattle.ananta_top.specs.declared.refusal.Refusal.TheVariants as refusal
use Rattle.ananta_top.specs.declared.words.Job.{Job}

-- ---- no calls

-- nothing was told since
since_same : {A : Type 0} (P : List A → Type 0) (xs : Option (List A)) → P [] → Since xs xs P
since_same P None p = refl
since_same P (Some xs) p = ([], (sym (append-nil xs), p))

-- Where there was no memory before the host was asked for anything, that is a run.
nothing_ran : (cfg : ConfigParts) (who : NodeId) (turns : ℕ) (times : Option (List ℕ)) (calls : Option (List HostCall))
    (before : Option (List ℕ))
    → NodeRan cfg who turns times times calls calls before before (ending.Refused refusal.NoMemory)
nothing_ran cfg who turns times calls before = record {
  run = run.NoMemory;
  runs = since_same (λ since. Runs step opened cfg who turns times times since run.NoMemory) calls no_names;
  told = (refl, refl);
}

-- the same of whatever is asked for
pub nothing_served : (times : Option (List ℕ)) (calls : Option (List HostCall)) (before : Option (List ℕ))
    (a : Result Task NoAnswer)
    → IfServed a (λ cfg who turns. NodeRan cfg who turns times times calls calls before before
    (ending.Refused refusal.NoMemory))
nothing_served times calls before (Ok (write lines)) = tt
nothing_served times calls before (Ok (serve cfg who turns)) = nothing_ran cfg who turns times calls before
nothing_served times calls before (Err e) = tt

-- the same of whatever text
pub nothing_given : (o : Option Job) (times : Option (List ℕ)) (calls : Option (List HostCall))
    (before text : Option (List ℕ))
    → IfSome text (λ t. IfServed (answer_of o t) (λ cfg who turns. NodeRan cfg who turns times times calls calls
    before before (ending.Refused refusal.NoMemory)))
nothing_given o times calls before None = tt
nothing_given o times calls before (Some t) = nothing_served times calls before (answer_of o t)

-- ---- what a job has to do with

text_is : (text : Option (List ℕ)) (v : List ℕ) (P : List ℕ → Type 0) → IfSome text (λ xs. v ≡ xs) → P v
    → IfSome text P
text_is None v P same p = tt
text_is (Some xs) v P same p = subst P same p

-- What is so of a job and of the text that was read is so of what was given.
pub given_by : (o : Option Job) (job : Job) (left : Option (List ℕ)) (v : List ℕ) (P : Result Task NoAnswer → Type 0)
    → Some job ≡ o → IfSome (text_for (Some job) left) (λ xs. v ≡ xs) → P (answer job v)
    → IfSome (text_for o left) (λ text. P (answer_of o text))
given_by o job left v P is all p =
    subst (λ (j : Option Job). IfSome (text_for j left) (λ text. P (answer_of j text))) is
    (text_is (text_for (Some job) left) v (λ text. P (answer job text)) all p)

-- ---- lines

-- What was told of all turns is what the ending says.
pub told_says : (cfg : ConfigParts) (who : NodeId) (turns : ℕ) (served : Served) (before after : Option (List ℕ))
    (e : Ending) → IsTold (turns_line turns served) before after e → Says before after (Ok (serve cfg who turns)) e
told_says cfg who turns served before after ending.Done told = (served, told)
told_says cfg who turns served before after ending.WriteFault (n, told) = (served, n, told)
told_says cfg who turns served before after (ending.Refused refusal.NoMemory) told = tt
told_says cfg who turns served before after (ending.Refused refusal.Json) told = absurd told
told_says cfg who turns served before after (ending.Refused (refusal.Line n)) told = absurd told
told_says cfg who turns served before after (ending.Refused (refusal.Field path)) told = absurd told
told_says cfg who turns served before after ending.Usage told = tt
told_says cfg who turns served before after ending.TooLong told = tt
told_says cfg who turns served before after ending.ReadFault told = tt
told_says cfg who turns served before after ending.LinkFault told = tt
told_says cfg who turns served before after ending.DiskFault told = tt
told_says cfg who turns served before after (ending.Damaged node second offset) told = absurd told
told_says cfg who turns served before after ending.JournalFull told = tt
told_says cfg who turns served before after ending.WrongDisk told = tt
told_says cfg who turns served before after ending.Spent told = tt

-- A damaged disk is told of the node that is to be served.
pub damage_told : (who : NodeId) (second : Bool) (offset : ℕ) (before after : Option (List ℕ))
    (a : Result Task NoAnswer) → DamageIsOf who a → Appends before after (damaged_line who second offset)
    → IsOkAnd a (TellsDamage before after)
damage_told who second offset before after (Ok (serve cfg node turns)) same line =
    (second, offset, subst (λ (w : NodeId). Appends before after (damaged_line w second offset)) same line)
damage_told who second offset before after (Ok (write lines)) same line = absurd same
damage_told who second offset before after (Err e) same line = absurd same
