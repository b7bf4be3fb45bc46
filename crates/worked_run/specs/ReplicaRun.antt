-- What the run's lines say of its replicas, in the order of the events.
use Rattle.std.specs.Prelude.{[], ◌∷◌, ◌++◌, ◌≡◌}
use Rattle.wire_core.specs.Steps.{no_step}
use Rattle.wire_core.specs.declared.act.Act.{Act}
use Rattle.wire_core.specs.declared.act.Act.TheVariants.{Reserve, Grant}
use Rattle.wire_core.specs.declared.cause.DropCause.TheVariants.{Late}
use Rattle.worked_run.specs.Configs.{machine, vip, replica_at, mux_at, agent_at}
use Rattle.worked_run.specs.Run as run
use Rattle.worked_run.specs.Steps.{sent, all_five, four_others, to_each, sends, keeps, does, dropped, each_is}
use Rattle.worked_run.specs.Replicas.{of, steps, hears_hello, campaigns, hears_prepare, promised_by, elected}
use Rattle.worked_run.specs.Replicas.{hears_ask, hears_accept, accepted_by, reserves}
use Rattle.worked_run.specs.Replicas.{hears_chosen, hears_programmed, hears_accept_granted, granted_accepted_by}
use Rattle.worked_run.specs.Replicas.{grants, hears_chosen_granted}

-- From the first tick to an elected primary.
pub record Elects : Type 0 where
  pub hellos : steps hears_hello all_five ≡ each_is no_step all_five
  pub campaign : of campaigns ≡ keeps run.promised (sends (to_each all_five run.prepare))
  pub own_prepare : of (hears_prepare 0) ≡ sends (sent (replica_at 0) run.promise ∷ [])
  pub prepares : steps hears_prepare four_others
      ≡ each_is (keeps run.promised (sends (sent (replica_at 0) run.promise ∷ []))) four_others
  pub first : of (promised_by (hears_prepare 0).state 0) ≡ no_step
  pub second : of (promised_by (promised_by (hears_prepare 0).state 0).state 1) ≡ no_step
  pub third : of (promised_by (promised_by (promised_by (hears_prepare 0).state 0).state 1).state 2) ≡ no_step
  pub fourth : of (promised_by elected 3) ≡ dropped Late
  pub fifth : of (promised_by elected 4) ≡ dropped Late

-- the lease of the run: number 1, on ports 1024 to 1031
abbrev pub reserve_act : Act
reserve_act = Reserve 1 (record { vip = vip; start = 1024 }) machine

-- A range is asked for, and the Reserve is agreed on: the row goes to the mux.
pub record Reserves : Type 0 where
  pub ask : of hears_ask ≡ sends (to_each all_five run.accept_reserve)
  pub accepts : steps hears_accept all_five
      ≡ each_is (keeps run.voted_reserve (sends (sent (replica_at 0) run.accepted_reserve ∷ []))) all_five
  pub first : of (accepted_by (hears_accept 0).state 0) ≡ no_step
  pub second : of (accepted_by (accepted_by (hears_accept 0).state 0).state 1) ≡ no_step
  pub third : of reserves
      ≡ keeps run.learned_reserve (does (reserve_act ∷ [])
      (sends (to_each four_others run.chosen_reserve ++ sent mux_at run.program ∷ [])))
  pub fourth : of (accepted_by reserves.state 3) ≡ dropped Late
  pub fifth : of (accepted_by reserves.state 4) ≡ dropped Late
  pub chosen : steps hears_chosen four_others
      ≡ each_is (keeps run.learned_reserve (does (reserve_act ∷ []) no_step)) four_others

-- The mux has the row, and the Granted is agreed on: the lease goes to the agent.
pub record Grants : Type 0 where
  pub programmed : of hears_programmed ≡ sends (to_each all_five run.accept_granted)
  pub accepts : steps hears_accept_granted all_five
      ≡ each_is (keeps run.voted_granted (sends (sent (replica_at 0) run.accepted_granted ∷ []))) all_five
  pub first : of (granted_accepted_by (hears_accept_granted 0).state 0) ≡ no_step
  pub second : of (granted_accepted_by (granted_accepted_by (hears_accept_granted 0).state 0).state 1) ≡ no_step
  pub third : of grants
      ≡ keeps run.learned_granted (does (Grant 1 ∷ [])
      (sends (to_each four_others run.chosen_granted ++ sent agent_at run.grant ∷ [])))
  pub fourth : of (granted_accepted_by grants.state 3) ≡ dropped Late
  pub fifth : of (granted_accepted_by grants.state 4) ≡ dropped Late
  pub chosen : steps hears_chosen_granted four_others
      ≡ each_is (keeps run.learned_granted (does (Grant 1 ∷ []) no_step)) four_others
