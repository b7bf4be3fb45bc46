-- What an event does to the world, and the lines that are written of it.
use Rattle.std.specs.Prelude.{ℕ, ◌+◌, Bool, if◌then◌else◌, List, [], ◌∷◌, ◌++◌, map, length, Option, Some, None, unwrap_or}
use Rattle.std.specs.List.{flat_map}
use Rattle.wire_core.specs.declared.address.Socket.{Socket}
use Rattle.wire_core.specs.declared.act.Act.{Act}
use Rattle.wire_core.specs.declared.note.Note.{Note}
use Rattle.wire_core.specs.declared.node.NodeId.{NodeId}
use Rattle.wire_core.specs.declared.outgoing.Outgoing.{Outgoing}
use Rattle.vip_config.specs.declared.parts.ConfigParts.{ConfigParts}
use Rattle.vip_config.specs.Queries.{socket_of}
use Rattle.schedule_text.specs.declared.line.Line.{Line}
use Rattle.schedule_text.specs.declared.line.Line.TheVariants as line
use Rattle.schedule_text.specs.declared.line.Word.{Word}
use Rattle.schedule_text.specs.declared.line.Word.TheVariants.{NotYet, Outside, Down, Up, Other}
use Rattle.node_spec.specs.Sends.{Place, ToNode, ToMachine, ToRouter}
use Rattle.node_spec.specs.Steps.{datagram, outgoing}
use Rattle.node_spec.specs.Turns.{Input, Arrived, Turn}
use Rattle.world_spec.specs.Nodes.{Lists, node_turn, listed, booted, opened}
use Rattle.world_spec.specs.World.{Site, World, Sent, put, is_there, disk, at, same_node, all_sent, posted, sent_at, takes}
use Rattle.world_spec.specs.Acts.{log_acts, turn_acts, loss}

-- The world after an event, and the lines behind the event's own.
abbrev pub Outcome : Type 0
Outcome = World × List Line

-- ---- lines

-- nothing happens but a word
abbrev pub only_word : World → Word → Outcome
only_word w word = (w, line.Word word ∷ [])

-- the lines of acts
abbrev pub act_lines : List Act → List Line
act_lines acts = map line.Act acts

-- the lines of notes
abbrev pub note_lines : List Note → List Line
note_lines notes = map line.Note notes

-- the lines of a node's datagrams, where so many were sent before
abbrev pub sent_lines : NodeId → ℕ → List Outgoing → List Line
sent_lines x n [] = []
sent_lines x n (s ∷ ss) = line.Sent (n + 1) x s.to s.bytes ∷ sent_lines x (n + 1) ss

-- a turn's acts, notes and datagrams
abbrev pub turn_lines : ConfigParts → World → NodeId → Turn Lists → List Line
turn_lines cfg w x t =
    act_lines (turn_acts w x t)
    ++ note_lines t.notes
    ++ sent_lines x (length w.sent) (flat_map (outgoing cfg) t.sends)

-- ---- an input

-- the node's disk with a turn's entry, and the lists that it leaves
abbrev pub stepped : World → NodeId → Turn Lists → Site
stepped w x t = record { entries = disk w x ++ listed t.entry; up = Some t.state }

-- A turn: the entry joins the disk, the datagrams join what was sent.
unfoldable pub after_turn : ConfigParts → World → NodeId → Turn Lists → World
after_turn cfg w x t = posted (put w x (stepped w x t)) (all_sent cfg x t.sends)

-- an input to a node that may be down
abbrev pub input_by : ConfigParts → World → NodeId → Input → Option Lists → Outcome
input_by cfg w x i None = only_word w Down
input_by cfg w x i (Some l) = (after_turn cfg w x (node_turn cfg l i), turn_lines cfg w x (node_turn cfg l i))

-- an input to a node
abbrev pub input : ConfigParts → World → NodeId → Input → Outcome
input cfg w x i = input_by cfg w x i (at w x)

-- ---- a delivery

-- the socket of a node; one that isn't configured sends nothing
abbrev pub home : ConfigParts → NodeId → Socket
home cfg x = unwrap_or (socket_of cfg x) cfg.router

-- a datagram as it arrives
abbrev pub arriving : ConfigParts → Sent → Input
arriving cfg s = Arrived (home cfg s.from) (datagram s.said)

-- a datagram to a place: only a node takes it, also where it is down
abbrev pub delivered_to : ConfigParts → World → ℕ → Sent → Place → Outcome
delivered_to cfg w k s (ToNode x) = input cfg (takes w k) x (arriving cfg s)
delivered_to cfg w k s (ToMachine machine) = only_word w Outside
delivered_to cfg w k s ToRouter = only_word w Outside

-- a datagram, where it was sent
abbrev pub delivered : ConfigParts → World → ℕ → Option Sent → Outcome
delivered cfg w k None = only_word w NotYet
delivered cfg w k (Some s) = delivered_to cfg w k s s.to

-- The datagram with a number arrives.
unfoldable pub deliver : ConfigParts → World → ℕ → Outcome
deliver cfg w k = delivered cfg w k (sent_at w k)

-- ---- a crash

-- the node as it was, but down
abbrev pub downed : World → NodeId → Site
downed w x = record { entries = disk w x; up = None }

-- a crash of a node that may be down
abbrev pub crash_by : World → NodeId → Option Lists → Outcome
crash_by w x None = only_word w Down
crash_by w x (Some l) = (put w x (downed w x), act_lines (loss x))

-- A node goes down. Its disk stays.
unfoldable pub crash : World → NodeId → Outcome
crash w x = crash_by w x (at w x)

-- ---- an opening

-- the node with one boot more, open
abbrev pub risen : ConfigParts → World → NodeId → Site
risen cfg w x = record { entries = booted x (disk w x); up = Some (opened cfg x (booted x (disk w x))) }

-- an opening of a node that may be up
abbrev pub restart_by : ConfigParts → World → NodeId → Option Lists → Outcome
restart_by cfg w x None = if is_there w x then (put w x (risen cfg w x), []) else (w, [])
restart_by cfg w x (Some l) = only_word w Up

-- A node opens its disk.
unfoldable pub restart : ConfigParts → World → NodeId → Outcome
restart cfg w x = restart_by cfg w x (at w x)

-- ---- a crash within a step

-- the node's disk with a turn's entry or without it, and down
abbrev pub cut_site : World → NodeId → Turn Lists → Bool → Site
cut_site w x t keep = record { entries = disk w x ++ (if keep then listed t.entry else []); up = None }

-- the acts of a turn that is cut short: what was learned, where it was kept, and what an agent loses
abbrev pub cut_acts : World → NodeId → Turn Lists → Bool → List Act
cut_acts w x t keep = (if keep then log_acts w x t else []) ++ loss x

-- A turn that is cut short: its entry is kept or lost, and nothing is sent.
unfoldable pub after_cut : World → NodeId → Turn Lists → Bool → World
after_cut w x t keep = put w x (cut_site w x t keep)

-- A turn of a node that may be down, cut short. In v a delivery took its datagram.
abbrev pub cut_by : ConfigParts → World → World → NodeId → Input → Bool → Option Lists → Outcome
cut_by cfg w v x i keep None = only_word w Down
cut_by cfg w v x i keep (Some l) =
    (after_cut v x (node_turn cfg l i) keep, act_lines (cut_acts v x (node_turn cfg l i) keep))

-- an input to node y in which node x goes down: nothing where they differ
abbrev pub cut_input : ConfigParts → World → World → NodeId → NodeId → Input → Bool → Outcome
cut_input cfg w v x y i keep =
    if same_node x y then cut_by cfg w v x i keep (at w x) else only_word w Other

-- a delivery in which node x goes down
abbrev pub cut_delivered_to : ConfigParts → World → NodeId → ℕ → Bool → Sent → Place → Outcome
cut_delivered_to cfg w x k keep s (ToNode y) = cut_input cfg w (takes w k) x y (arriving cfg s) keep
cut_delivered_to cfg w x k keep s (ToMachine machine) = only_word w Outside
cut_delivered_to cfg w x k keep s ToRouter = only_word w Outside

-- the same of a datagram that may not be sent yet
abbrev pub cut_delivered : ConfigParts → World → NodeId → ℕ → Bool → Option Sent → Outcome
cut_delivered cfg w x k keep None = only_word w NotYet
cut_delivered cfg w x k keep (Some s) = cut_delivered_to cfg w x k keep s s.to

-- The datagram with a number arrives, and the node goes down in that step.
unfoldable pub cut_deliver : ConfigParts → World → NodeId → ℕ → Bool → Outcome
cut_deliver cfg w x k keep = cut_delivered cfg w x k keep (sent_at w k)

-- the node's disk with the boot or without it, and down
abbrev pub cut_opening : World → NodeId → Bool → Site
cut_opening w x keep = record { entries = if keep then booted x (disk w x) else disk w x; up = None }

-- an opening, cut short, of a node that may be up
abbrev pub cut_restart_by : World → NodeId → Bool → Option Lists → Outcome
cut_restart_by w x keep None =
    if is_there w x then (put w x (cut_opening w x keep), act_lines (loss x)) else (w, [])
cut_restart_by w x keep (Some l) = only_word w Up

-- An opening of node y in which node x goes down.
unfoldable pub cut_restart : World → NodeId → NodeId → Bool → Outcome
cut_restart w x y keep = if same_node x y then cut_restart_by w x keep (at w x) else only_word w Other
