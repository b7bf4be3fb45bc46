-- What a host does.
use Rattle.std.specs.Prelude.{◌≡◌, ℕ, Bool, true, false, List, Result, Ok, Err, Option, None, Some}
use Rattle.wire_core.specs.declared.address.Socket.{Socket}
use Rattle.outside_io.specs.Disk.{History}
use Rattle.outside_io.specs.Link.{Answer, Sent}
use Rattle.outside_io.specs.Telling.{TellsNone}

-- One call of a host: a socket that it was asked for, and whether it handed out a link; a name that it was asked for,
-- and what the disk told when it was handed out, or that none was; a link or a disk that it took back, and what that
-- told.
pub data HostCall : Type 0 where
  Bind : (at : Socket) (given : Bool) → HostCall
  OpenDisk : (name : List ℕ) (given : Option (Option History)) → HostCall
  BackLink : (answers : Option (List Answer)) (sent : Option (List Sent)) → HostCall
  BackDisk : (history : Option History) → HostCall

-- a call of bind
abbrev pub bind_call : {L E : Type 0} → Socket → Result L E → HostCall
bind_call at (Ok link) = Bind at true
bind_call at (Err e) = Bind at false

-- a call of open_disk
abbrev pub open_call : {D E : Type 0} → (D → Option History) → List ℕ → Result D E → HostCall
open_call history name (Ok disk) = OpenDisk name (Some (history disk))
open_call history name (Err e) = OpenDisk name None

-- no fault is counted, and nothing has come or gone
pub record IsNewLink (next_faults send_faults : ℕ) (answers : Option (List Answer))
    (sent : Option (List Sent)) : Type 0 where
  pub next_sure : next_faults ≡ 0
  pub send_sure : send_faults ≡ 0
  pub no_answer : TellsNone answers
  pub none_sent : TellsNone sent
