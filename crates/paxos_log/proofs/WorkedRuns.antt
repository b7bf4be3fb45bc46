-- The runs to look at, by computing.
use Rattle.std.proofs.Common.{refl}
use Rattle.wire_core.specs.Reading.{value_at, count_at, commands_at, command_at, lease_at}
use Rattle.paxos_spec.specs.Acceptor.{state_of}
use Rattle.paxos_spec.specs.Replica.{on_prepare, on_promise, on_accept, on_accepted, on_refuse, on_chosen, on_campaign, on_offer}
use Rattle.paxos_laws.specs.Disks.{disk_of}
use Rattle.paxos_log.specs.World.{apply, view}
use Rattle.paxos_log.specs.WorkedRuns.{ChosenRun, InheritingRun, InheritedRun, CatchingRun, NothingRun}

pub chosen_run : ChosenRun
unfolding view apply disk_of state_of on_prepare on_promise on_accept on_accepted on_refuse on_chosen on_campaign on_offer value_at count_at commands_at command_at lease_at
chosen_run = (record { stands = refl; leads_at = refl; knows = refl }, refl)

pub inheriting_run : InheritingRun
unfolding view apply disk_of state_of on_prepare on_promise on_accept on_accepted on_refuse on_chosen on_campaign on_offer value_at count_at commands_at command_at lease_at
inheriting_run = (record { stands = refl; leads_at = refl; knows = refl }, refl)

pub inherited_run : InheritedRun
unfolding view apply disk_of state_of on_prepare on_promise on_accept on_accepted on_refuse on_chosen on_campaign on_offer value_at count_at commands_at command_at lease_at
inherited_run = record { stands = refl; leads_at = refl; knows = refl }

pub catching_run : CatchingRun
unfolding view apply disk_of state_of on_prepare on_promise on_accept on_accepted on_refuse on_chosen on_campaign on_offer value_at count_at commands_at command_at lease_at
catching_run = record { stands = refl; leads_at = refl; knows = refl }

pub nothing_run : NothingRun
nothing_run = refl
