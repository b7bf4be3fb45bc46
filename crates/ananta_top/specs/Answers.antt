-- What the program's jobs answer to a text.
use Rattle.std.specs.Prelude.{◌≡◌, ℕ, ◌++◌, if◌then◌else◌, nat_le, Bool, false, List, [], ◌∷◌, Option, Some, None, option_map, Result, Ok, Err, IsOk, codes, String, string_bytes}
use Rattle.std.specs.Str.{bytes_eq}
use Rattle.std.specs.Fmt.{decimal}
use Rattle.std.specs.declared.alloc.Global.{Global}
use Rattle.config_text.specs.Faults.{Fault, json, field}
use Rattle.generated_schedule.specs.Generated.{generated}
use Rattle.address_text.specs.Fields.{parts}
use Rattle.node_schedule.specs.Schedule.{NoSchedule, node_lines}
use Rattle.node_schedule.specs.Schedule as nodes
use Rattle.plain_schedule.specs.Schedule.{plain_lines}
use Rattle.transcript_summary.specs.Summary.{summary}
use Rattle.vip_config.specs.Configs.{config_of}
use Rattle.vip_config.specs.Leases.{ranges_of}
use Rattle.vip_config.specs.Queries.{counts_of, socket_of}
use Rattle.vip_config.specs.declared.counts.Counts.{Counts}
use Rattle.vip_config.specs.declared.parts.ConfigParts.{ConfigParts}
use Rattle.wire_core.specs.declared.node.NodeId.{NodeId}
use Rattle.wire_core.specs.declared.node.NodeId.TheVariants as id
use Rattle.ananta_top.specs.declared.refusal.Refusal.{Refusal}
use Rattle.ananta_top.specs.declared.refusal.Refusal.TheVariants as refusal
use Rattle.ananta_top.specs.Words.{job_of}
use Rattle.ananta_top.specs.declared.words.Job.{Job}
use Rattle.ananta_top.specs.declared.role.NodeRole.{NodeRole}
use Rattle.ananta_top.specs.declared.role.NodeRole.TheVariants as role
use Rattle.ananta_top.specs.declared.words.Job.TheVariants.{Replay, Summary, Check, Generate, Node}

-- what a job has to do
pub data Task : Type 0 where
  -- these bytes are to be written
  write : List ℕ → Task
  -- this node of a configuration is to be served for so many turns
  serve : (cfg : ConfigParts) (who : NodeId) (turns : ℕ) → Task

-- why there is no answer
pub data NoAnswer : Type 0 where
  -- the words are of no form
  no_form : NoAnswer
  -- the number of a schedule's first bad line
  bad_line : ℕ → NoAnswer
  -- the first fault of a configuration
  bad_config : Fault → NoAnswer

-- ---- `replay`

abbrev pub begins_plain : List (List ℕ) → Bool
begins_plain [] = false
begins_plain (line ∷ lines) = bytes_eq line (codes "plain")

-- the first line is `plain`
abbrev pub is_plain : List ℕ → Bool
is_plain text = begins_plain (parts 10 text)

abbrev pub of_plain : Result (List ℕ) ℕ → Result (List ℕ) NoAnswer
of_plain (Ok lines) = Ok lines
of_plain (Err n) = Err (bad_line n)

abbrev pub of_nodes : Result (List ℕ) NoSchedule → Result (List ℕ) NoAnswer
of_nodes (Ok lines) = Ok lines
of_nodes (Err (nodes.bad_config fault)) = Err (bad_config fault)
of_nodes (Err (nodes.bad_line n)) = Err (bad_line n)

-- what a schedule prints: a plain one, or one of nodes
abbrev pub printed : List ℕ → Result (List ℕ) NoAnswer
printed text = if is_plain text then of_plain (plain_lines text) else of_nodes (node_lines text)

abbrev pub lines_of : Result (List ℕ) NoAnswer → Result Task NoAnswer
lines_of (Ok lines) = Ok (write lines)
lines_of (Err why) = Err why

abbrev pub summary_of : Result (List ℕ) NoAnswer → Result Task NoAnswer
summary_of (Ok lines) = Ok (write (summary lines))
summary_of (Err why) = Err why

-- ---- `check`

-- a space, a name, a space and a number
unfoldable pub count : List ℕ → ℕ → List ℕ
count name n = codes " " ++ name ++ codes " " ++ decimal n

-- the line of a configuration
abbrev pub counts_line : Counts → ℕ → List ℕ
counts_line c ranges =
    codes "ok replicas 5" ++ count (codes "muxes") c.muxes ++ count (codes "agents") c.agents
    ++ count (codes "machines") c.machines ++ count (codes "vips") c.vips
    ++ count (codes "ranges") ranges ++ codes "\n"

abbrev pub config_line : ConfigParts → List ℕ
config_line c = counts_line (counts_of c) (ranges_of c)

abbrev pub of_config : Result ConfigParts Fault → Result Task NoAnswer
of_config (Ok c) = Ok (write (config_line c))
of_config (Err fault) = Err (bad_config fault)

-- ---- `node`

-- the node of a role and a number; a replica has one of 8 bits, the others of 16
abbrev pub node_id : NodeRole → ℕ → Option NodeId
node_id role.Replica index = if nat_le index 255 then Some (id.Replica index) else None
node_id role.Mux index = if nat_le index 65535 then Some (id.Mux index) else None
node_id role.Agent index = if nat_le index 65535 then Some (id.Agent index) else None

-- its path
abbrev pub node_path : NodeRole → ℕ → List ℕ
node_path role.Replica index = codes "replicas[" ++ decimal index ++ codes "]"
node_path role.Mux index = codes "muxes[" ++ decimal index ++ codes "]"
node_path role.Agent index = codes "agents[" ++ decimal index ++ codes "]"

-- the node, where it is configured
abbrev pub where_configured : ConfigParts → Option NodeId → Option NodeId
where_configured c None = None
where_configured c (Some who) = option_map (λ socket. who) (socket_of c who)

abbrev pub configured_node : ConfigParts → NodeRole → ℕ → Option NodeId
configured_node c role index = where_configured c (node_id role index)

-- the node is to be served, or its path is told
abbrev pub of_node : ConfigParts → NodeRole → (index turns : ℕ) → Option NodeId → Result Task NoAnswer
of_node c role index turns (Some who) = Ok (serve c who turns)
of_node c role index turns None = Err (bad_config (field (node_path role index)))

abbrev pub of_site : NodeRole → (index turns : ℕ) → Result ConfigParts Fault → Result Task NoAnswer
of_site role index turns (Ok c) = of_node c role index turns (configured_node c role index)
of_site role index turns (Err fault) = Err (bad_config fault)

-- ---- each job

abbrev pub answer : Job → List ℕ → Result Task NoAnswer
answer Replay text = lines_of (printed text)
answer Summary text = summary_of (printed text)
answer Check text = of_config (config_of text)
answer (Generate number count) text = Ok (write (generated number count))
answer (Node role index turns) text = of_site role index turns (config_of text)

abbrev pub answer_of : Option Job → List ℕ → Result Task NoAnswer
answer_of None text = Err no_form
answer_of (Some job) text = answer job text

-- what the words ask of a text
abbrev pub answered : List (String Global) → List ℕ → Result Task NoAnswer
answered words text = answer_of (job_of words) text

-- why there was no answer is why there is none, unless memory ran out
abbrev pub RefusedBy : Refusal → Result Task NoAnswer → Type 0
RefusedBy (refusal.Line n) answer = answer ≡ Err (bad_line n)
RefusedBy refusal.Json answer = answer ≡ Err (bad_config json)
RefusedBy (refusal.Field path) answer = answer ≡ Err (bad_config (field (string_bytes path)))
RefusedBy refusal.NoMemory answer = Unit {0}

-- what was answered is what is to be written
abbrev pub Answers : Result (String Global) Refusal → Result Task NoAnswer → Type 0
Answers (Ok text) answer = answer ≡ Ok (write (string_bytes text))
Answers (Err r) answer = RefusedBy r answer
