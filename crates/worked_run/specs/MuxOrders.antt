-- Rows of the mux on commands: which are obeyed, what a row becomes, what is answered.
use Rattle.std.specs.Prelude.{ℕ, List, [], ◌∷◌, ◌≡◌}
use Rattle.wire_core.specs.declared.address.Socket.{Socket}
use Rattle.wire_core.specs.declared.cause.DropCause.{DropCause}
use Rattle.wire_core.specs.declared.cause.DropCause.TheVariants.{BadFrame, BadMessage, NotFromMux, NotMine, NotNode}
use Rattle.wire_core.specs.declared.cause.DropCause.TheVariants.{WrongRole, OldEpoch, OldNumber, WrongBoot, NoLease}
use Rattle.wire_core.specs.declared.entry.Entry.TheVariants.{Boot, Epoch}
use Rattle.wire_core.specs.declared.step.Step.{Step}
use Rattle.node_spec.specs.Turns.{Turn}
use Rattle.node_spec.specs.Steps.{step_of}
use Rattle.mux_spec.specs.declared.verdict.RedirectAsk.{RedirectAsk}
use Rattle.mux_spec.specs.Mux.{Mux, opened_mux}
use Rattle.mux_spec.specs.Redirects.{on_redirect_ask}
use Rattle.worked_run.specs.Configs.{two_each, ip, machine, other_machine, machine_at, other_mux_at, agent_at}
use Rattle.worked_run.specs.Configs.{other_agent_at, replica_at, router_at}
use Rattle.worked_run.specs.Run.{hello, program, programmed, reply_in, reply_wrapped}
use Rattle.worked_run.specs.Orders as orders
use Rattle.worked_run.specs.Arriving as arriving
use Rattle.worked_run.specs.MuxRun.{mux_hears, mux_ticks, opened_first}
use Rattle.worked_run.specs.Steps.{sent, all_five, to_each, sends, keeps, dropped}

-- what mux 0 of two makes of a datagram
abbrev pub of_mux : Mux → Socket → List ℕ → Turn Mux
of_mux m from bytes = mux_hears two_each m from bytes

-- replica 0 says it
abbrev pub told : Mux → List ℕ → Turn Mux
told m bytes = of_mux m (replica_at 0) bytes

-- its step
abbrev pub step : Turn Mux → Step
step t = step_of two_each t

-- with an answer to replica 0
abbrev pub answers : List ℕ → Step
answers bytes = sends (sent (replica_at 0) bytes ∷ [])

-- dropped, and refused to replica 0
abbrev pub refused : DropCause → List ℕ → Step
refused cause bytes = record (dropped cause) { sends = sent (replica_at 0) bytes ∷ [] }

-- mux 0 as it opens in boot 1, and where it obeyed epoch 7 in this boot or in the one before
abbrev pub fresh : Mux
fresh = opened_first two_each

abbrev pub at_epoch_7 : ℕ → Mux
at_epoch_7 boot = opened_mux two_each 0 (Boot 1 2 0 boot ∷ Epoch 7 ∷ [])

-- A command of a lower epoch is refused, and one for another boot, earlier or later; the epoch is told that is kept.
pub record IsRefused : Type 0 where
  pub old_epoch : step (told (at_epoch_7 1) program) ≡ refused (OldEpoch 7) orders.refuse_old
  pub old_epoch_leaves : (told (at_epoch_7 1) program).state ≡ at_epoch_7 1
  pub earlier_boot : step (told (at_epoch_7 2) orders.program_8) ≡ refused (WrongBoot 2) orders.refuse_boot
  pub earlier_boot_leaves : (told (at_epoch_7 2) orders.program_8).state ≡ at_epoch_7 2
  pub later_boot : step (told (at_epoch_7 1) orders.program_8_in_2) ≡ refused (WrongBoot 1) orders.refuse_above_in_2
  pub hello : (step (mux_ticks two_each (at_epoch_7 2) 1000)).sends ≡ to_each all_five orders.hello_second

-- the row of lease 1, then the one of lease 17 for the other machine
abbrev pub has_1 : Mux
has_1 = (told fresh program).state

abbrev pub has_17 : Mux
has_17 = (told has_1 orders.program_17).state

-- lease 17 has no machine any more
abbrev pub cleared_17 : Mux
cleared_17 = (told has_17 orders.unprogram_17).state

-- where a reply to the range's first port goes
abbrev pub reply_at : Mux → Step
reply_at m = step (of_mux m router_at reply_in)

abbrev pub to_first : Step
to_first = sends (sent agent_at reply_wrapped ∷ [])

abbrev pub to_second : Step
to_second = sends (sent other_agent_at arriving.reply_wrapped_other ∷ [])

-- Program: a greater number sets the row; the same number stands, whatever machine it names; a lesser one, or the
-- same without a row, is old. A command of the same epoch makes no entry.
pub record Programs : Type 0 where
  pub first : step (told fresh program) ≡ keeps orders.epoch_5 (answers programmed)
  pub first_row : reply_at has_1 ≡ to_first
  pub again : step (told has_1 program) ≡ answers programmed
  pub other_machine : step (told has_1 orders.program_other) ≡ answers programmed
  pub other_machine_row : reply_at (told has_1 orders.program_other).state ≡ to_first
  pub greater : step (told has_1 orders.program_17) ≡ answers orders.programmed_17
  pub greater_row : reply_at has_17 ≡ to_second
  pub lesser : step (told has_17 program) ≡ dropped (OldNumber 17)
  pub lesser_row : reply_at (told has_17 program).state ≡ to_second
  pub raises_all_the_same : step (told has_17 orders.program_6) ≡ keeps orders.epoch_6 (dropped (OldNumber 17))
  pub raised_epoch : (told has_17 orders.program_6).state.gate ≡ record { boot = 1; epoch = 6 }
  pub no_row : step (told cleared_17 orders.program_17) ≡ dropped (OldNumber 17)

-- Unprogram: from the kept number on it clears the row and keeps the number; below it nothing changes. It is answered
-- in any case.
pub record Unprograms : Type 0 where
  pub same : step (told has_17 orders.unprogram_17) ≡ answers orders.unprogrammed_17
  pub same_row : reply_at cleared_17 ≡ dropped NoLease
  pub greater : step (told has_1 orders.unprogram_17) ≡ answers orders.unprogrammed_17
  pub greater_row : reply_at (told has_1 orders.unprogram_17).state ≡ dropped NoLease
  pub greater_kept : step (told (told has_1 orders.unprogram_17).state program) ≡ dropped (OldNumber 17)
  pub lesser : step (told has_17 orders.unprogram_1) ≡ answers orders.unprogrammed_1
  pub lesser_row : reply_at (told has_17 orders.unprogram_1).state ≡ to_second
  pub unknown : step (told fresh orders.unprogram_1) ≡ keeps orders.epoch_5 (answers orders.unprogrammed_1)
  pub late : step (told (told has_1 orders.unprogram_1).state program) ≡ dropped (OldNumber 1)

-- Not this mux's: a machine that doesn't leave from the VIP, a range that may not be leased. The epoch is raised
-- before.
pub record NotIts : Type 0 where
  pub machine : step (told fresh orders.program_outside) ≡ keeps orders.epoch_5 (dropped NotMine)
  pub no_vip : step (told fresh orders.program_no_vip) ≡ keeps orders.epoch_5 (dropped NotMine)
  pub above : step (told fresh orders.program_above) ≡ keeps orders.epoch_5 (dropped NotMine)
  pub unprogram : step (told fresh orders.unprogram_above) ≡ keeps orders.epoch_5 (dropped NotMine)
  pub no_raise : step (told has_1 orders.program_outside) ≡ dropped NotMine

-- What isn't for a mux, and what is no message: only replicas command, and redirects aren't asked for yet.
pub record Untaken : Type 0 where
  pub of_other : step (of_mux fresh other_mux_at program) ≡ dropped WrongRole
  pub of_agent : step (of_mux fresh agent_at program) ≡ dropped WrongRole
  pub of_machine : step (of_mux fresh machine_at program) ≡ dropped NotNode
  pub of_router : step (of_mux fresh router_at program) ≡ dropped NotNode
  pub other_message : step (told fresh hello) ≡ dropped WrongRole
  pub redirect : step (of_mux fresh other_mux_at orders.redirect_opener) ≡ dropped WrongRole
  pub redirect_of_replica : step (told fresh orders.redirect_opener) ≡ dropped NotFromMux
  pub redirect_asked : step (of_mux has_1 other_mux_at orders.redirect_asked) ≡ dropped WrongRole
  pub no_frame : step (told fresh []) ≡ dropped BadFrame
  pub no_kind_of_frame : step (told fresh (3 ∷ [])) ≡ dropped BadFrame
  pub no_message : step (told fresh (1 ∷ 1 ∷ [])) ≡ dropped BadMessage

-- the question, with another source port or another machine
abbrev pub asked : ℕ → RedirectAsk
asked sport = record { src = ip 192 0 2 10; sport = sport; dst = ip 192 0 2 20; dport = 80; machine = other_machine }

-- What a mux will answer to it: both agents hear of each other; a range without a row and a foreign machine are
-- refused.
pub record Redirects : Type 0 where
  pub both : step (on_redirect_ask two_each has_1 (asked 1024))
      ≡ sends (sent agent_at orders.redirect_opener ∷ sent other_agent_at orders.redirect_server ∷ [])
  pub no_row : step (on_redirect_ask two_each has_1 (asked 1032)) ≡ dropped NoLease
  pub no_range : step (on_redirect_ask two_each has_1 (asked 1023)) ≡ dropped NotMine
  pub no_machine : step (on_redirect_ask two_each has_1 (record (asked 1024) { machine = ip 10 1 0 9 }))
      ≡ dropped NotMine
