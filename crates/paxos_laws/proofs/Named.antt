-- The laws by their names, as a larger world cites them.
use Rattle.paxos_spec.specs.Agreement.{View}
use Rattle.paxos_laws.specs.Facts.{Inv}
use Rattle.paxos_laws.specs.Disks.{StateIsOfDisk, DiskGrows}
use Rattle.paxos_laws.specs.Order.{Claims, Begins, Keeps, StepGrows, InOrderClaims}
use Rattle.paxos_laws.specs.EachStep.{MessageIsGood, CandidacyIsGood, CampaignIsGood, OfferIsGood, ResendIsGood}
use Rattle.paxos_laws.specs.EachStep.{SayingIsGood, HearingIsGood, DownIsGood, ReopeningIsGood, CutIsGood, BothAreGood}
use Rattle.paxos_laws.specs.EachStep.{UnofferedIsGood, SendersAreOwn}
use Rattle.paxos_laws.specs.Lasting.{StaysAsItIs, GrowsOn, ChosenLasts, ChoosableShrinks, SealLasts, SealBounds}
use Rattle.paxos_laws.specs.Values.{ValuesTravel, EachWasProposed, TestsTravel, TestsHold}
use Rattle.paxos_laws.specs.CommonLog.{LogOnlyGrows, StepAdds, LearnedStands, LogWasLearned, ChosenStands}
use Rattle.paxos_laws.specs.CommonLog.{LongestHasAll, NoneIsLonger}
use Rattle.paxos_laws.specs.Leading.{LeaderOwns, PromiseIsBound, LeaderIsCovered, CoveredLasts}
use Rattle.paxos_laws.proofs.Growth.{chosen_on, choosable_back}
use Rattle.paxos_laws.proofs.Steps as steps
use Rattle.paxos_laws.proofs.Plain.{unoffered}
use Rattle.paxos_laws.proofs.Offering.{candidacy_good, campaign_good, offer_good}
use Rattle.paxos_laws.proofs.Messages.{message_good}
use Rattle.paxos_laws.proofs.More as more
use Rattle.paxos_laws.proofs.Turns.{cut_good, both_good, own_senders}
use Rattle.paxos_laws.proofs.Begins as first
use Rattle.paxos_laws.proofs.Claims.{agrees_of, learned_of, owner_of, primary_of, seal_of, primary_log_of, logs_of}
use Rattle.paxos_laws.proofs.Logs.{beginning_of}
use Rattle.paxos_laws.proofs.CommonLog as log
use Rattle.paxos_laws.proofs.Proposals as proposals
use Rattle.paxos_laws.proofs.Ballots as ballots
use Rattle.paxos_laws.proofs.Entries.{state_is, entries_kept}

-- ---- order

pub begins : Begins
begins = first.begins

pub keeps : Keeps
keeps = steps.keeps

pub step_grows : StepGrows
step_grows = λ f w u r o moves good. steps.grows w u r o moves good.entry

claims_of : (w : View) → Inv w → Claims w
claims_of w inv = record {
  agrees = agrees_of w inv;
  learned = learned_of w inv;
  owner = owner_of w inv;
  knows = primary_of w inv;
  seal = seal_of w inv;
  ballots = primary_log_of w inv;
  logs = logs_of w inv;
  beginning = beginning_of w inv;
}

pub claims : InOrderClaims
claims = claims_of

-- ---- each step

pub message : MessageIsGood
message = message_good

pub candidacy : CandidacyIsGood
candidacy = candidacy_good

pub campaign : CampaignIsGood
campaign = campaign_good

pub offer : OfferIsGood
offer = offer_good

pub resend : ResendIsGood
resend = more.resend_good

pub saying : SayingIsGood
saying = more.says_good

pub hearing : HearingIsGood
hearing = more.hearing_good

pub down : DownIsGood
down = more.down_good

pub reopening : ReopeningIsGood
reopening = more.reopened_good

pub cut : CutIsGood
cut = cut_good

pub both : BothAreGood
both = both_good

pub not_offered : UnofferedIsGood
not_offered = unoffered

pub own : SendersAreOwn
own = own_senders

-- ---- lasting

pub stays_as_it_is : StaysAsItIs
stays_as_it_is = more.stays_as_it_is

pub grows_on : GrowsOn
grows_on = more.grows_on

pub chosen_lasts : ChosenLasts
chosen_lasts = λ w u g s b v h. chosen_on g h

pub choosable_shrinks : ChoosableShrinks
choosable_shrinks = λ w u g s b v h. choosable_back g h

pub seal_lasts : SealLasts
seal_lasts = λ w u g b l k le h. more.seal_on g b l k le h

pub seal_bounds : SealBounds
seal_bounds = more.seal_law

-- ---- values

pub values_travel : ValuesTravel
values_travel = more.travels

pub each_was_proposed : EachWasProposed
each_was_proposed = proposals.each_was_proposed

pub tests_travel : TestsTravel
tests_travel = proposals.tests_travel

pub tests_hold : TestsHold
tests_hold = proposals.tests_hold

-- ---- the log of all five

pub log_only_grows : LogOnlyGrows
log_only_grows = log.log_grows

pub step_adds : StepAdds
step_adds = log.step_adds

pub learned_stands : LearnedStands
learned_stands = log.learned_stands

pub log_was_learned : LogWasLearned
log_was_learned = log.log_was_learned

pub chosen_stands : ChosenStands
chosen_stands = log.chosen_stands

pub longest_has_all : LongestHasAll
longest_has_all = log.longest_has_all

pub none_is_longer : NoneIsLonger
none_is_longer = log.none_is_longer

-- ---- leading

pub leader_owns : LeaderOwns
leader_owns = ballots.leader_owns

pub promise_is_bound : PromiseIsBound
promise_is_bound = ballots.promise_bounds

pub leader_is_covered : LeaderIsCovered
leader_is_covered = ballots.leader_covered

pub covered_lasts : CoveredLasts
covered_lasts = ballots.covered_on

-- ---- disks

pub state_is_of_disk : StateIsOfDisk
state_is_of_disk = state_is

pub disk_grows : DiskGrows
disk_grows = entries_kept
