-- How what a replica makes and says is seen.
use Rattle.std.specs.Prelude.{ℕ, not, if◌then◌else◌, nat_lt, ◌==◌, List, [], ◌∷◌, map, filter, Option, Some, None}
use Rattle.wire_core.specs.declared.entry.Entry.{Entry}
use Rattle.wire_core.specs.declared.entry.Entry.TheVariants as entry
use Rattle.paxos_spec.specs.declared.mail.Mail.{Mail}
use Rattle.paxos_spec.specs.Five.{five}
use Rattle.paxos_spec.specs.Replica.{Memory, down, mail}
use Rattle.paxos_replica.specs.declared.entry.OwnedEntry.{OwnedEntry}
use Rattle.paxos_replica.specs.declared.entry.OwnedEntry.TheVariants as owned
use Rattle.paxos_replica.specs.declared.said.Said.{Said}
use Rattle.paxos_replica.specs.declared.said.Recipients.{Recipients}
use Rattle.paxos_replica.specs.declared.said.Recipients.TheVariants.{One, All, Others}

abbrev pub entry_of : OwnedEntry → Entry
entry_of (owned.Promise ballot) = entry.Promise ballot
entry_of (owned.Vote cast) = entry.Vote cast.ballot cast.value
entry_of (owned.Learn cast) = entry.Learn cast.ballot cast.value

abbrev pub recipients_of : ℕ → Recipients → List ℕ
recipients_of sender (One target) = target ∷ []
recipients_of sender All = five
recipients_of sender Others = filter (λ i. not (i == sender)) five

-- the messages, one to each
abbrev pub mails_of : Option Said → List Mail
mails_of None = []
mails_of (Some said) = map (mail said.sender said.body) (recipients_of said.sender said.recipients)

-- the memory of one that votes at the ballot: below it nobody leads
abbrev pub voter : Memory → ℕ → Memory
voter m ballot = if nat_lt m.leader.ballot ballot then down m else m
