-- How the run of a node ends.
use Rattle.std.specs.Prelude.{Result, Ok, Err}
use Rattle.node_disk.specs.declared.fault.NodeFault.{NodeFault}
use Rattle.node_disk.specs.declared.fault.NodeFault.TheVariants as fault
use Rattle.node_run.specs.declared.ending.NodeEnding.{NodeEnding}
use Rattle.node_run.specs.declared.ending.NodeEnding.TheVariants.{Done, DiskFault, Damaged, WrongDisk, Spent, Full, LinkFault, NoMemory}
use Rattle.node_run.specs.declared.serving.ServeFault.{ServeFault}
use Rattle.node_run.specs.declared.serving.ServeFault.TheVariants.{Node as of_node, Link as of_link}
use Rattle.node_run.specs.declared.serving.Served.{Served}

-- where the node has this fault
abbrev pub of_fault : NodeFault → NodeEnding
of_fault fault.Disk = DiskFault
of_fault (fault.Damaged second offset) = Damaged second offset
of_fault (fault.WrongDisk entry) = WrongDisk
of_fault (fault.Spent boot) = Spent
of_fault (fault.Full n body) = Full
of_fault fault.NoMemory = NoMemory

-- where the node was served so
abbrev pub of_served : Result Served ServeFault → NodeEnding
of_served (Ok served) = Done served
of_served (Err (of_node fault)) = of_fault fault
of_served (Err of_link) = LinkFault
