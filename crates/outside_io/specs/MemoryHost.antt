-- What a host in memory tells.
use Rattle.std.specs.Prelude.{◌≡◌, List, [], map, Option, None, Some, if◌then◌else◌}
use Rattle.outside_io.specs.Disk.{History}
use Rattle.outside_io.specs.Host.{HostCall, Bind, OpenDisk, BackLink, BackDisk}
use Rattle.outside_io.specs.MemoryLink.{link_answers, link_sent}
use Rattle.outside_io.specs.declared.mem_link.MemLink.{MemLink}
use Rattle.outside_io.specs.declared.mem_host.KeptCall.{KeptCall}
use Rattle.outside_io.specs.declared.mem_host.KeptCall.TheVariants.{Bound, Opened, NotOpened, LinkBack, DiskBack}
use Rattle.outside_io.specs.declared.mem_host.MemHost.{MemHost}

-- a call that was kept, with what its disk tells
abbrev pub call_of : {D : Type 0} → (D → Option History) → KeptCall D → HostCall
call_of history (Bound at given) = Bind at given
call_of history (Opened name disk) = OpenDisk name.items (Some (history disk))
call_of history (NotOpened name) = OpenDisk name.items None
call_of history (LinkBack link) = BackLink (link_answers link) (link_sent link)
call_of history (DiskBack disk) = BackDisk (history disk)

-- all calls so far, as long as there was memory to keep them
abbrev pub host_calls : {D : Type 0} → (D → Option History) → MemHost D → Option (List HostCall)
host_calls history host = if host.forgot then None else Some (map (call_of history) host.kept.items)

-- nothing has come or gone, and no fault is counted
pub record IsFresh (link : MemLink) : Type 0 where
  pub no_answer : link_answers link ≡ Some []
  pub none_sent : link_sent link ≡ Some []
  pub next_sure : link.next_faults ≡ 0
  pub send_sure : link.send_faults ≡ 0
