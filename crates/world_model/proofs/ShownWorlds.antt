-- A world of real nodes does what the tables say: each event of the one is that of the other.
use Rattle.std.proofs.Common.{◌≡◌, ◌<◌, ℕ, zero, suc, ◌-◌, Bool, true, false, ◌&&◌, List, [], ◌∷◌, ◌++◌, map, length, Option, Some, None, refl, sym, ap, ◌∙◌, arith, nat_lt}
use Rattle.std.specs.Prelude.{if◌then◌else◌, is_some, option_map, ◌==◌, slice_get, slice_set}
use Rattle.std.specs.List.{flat_map}
use Rattle.std.proofs.lemmas.List.{map-append, length-map}
use Rattle.std.proofs.lemmas.Option.{slice_get-map, slice_get_within}
use Rattle.std.proofs.lemmas.Bool.Decides.{nat_tests}
use Rattle.wire_core.specs.declared.act.Act.{Act}
use Rattle.wire_core.specs.declared.node.NodeId.{NodeId}
use Rattle.wire_core.specs.declared.node.NodeId.TheVariants.{Replica, Mux, Agent}
use Rattle.vip_config.specs.declared.parts.ConfigParts.{ConfigParts}
use Rattle.vip_config.specs.Queries.{KnowsOwners, socket_of}
use Rattle.schedule_text.specs.declared.event.Event.{Event}
use Rattle.schedule_text.specs.declared.event.Event.TheVariants as event
use Rattle.schedule_text.specs.declared.event.Single.{Single}
use Rattle.schedule_text.specs.declared.event.Single.TheVariants as single
use Rattle.schedule_text.specs.declared.line.Line.{Line}
use Rattle.schedule_text.specs.declared.line.Line.TheVariants as line
use Rattle.schedule_text.specs.declared.line.Word.TheVariants.{Down, Other}
use Rattle.node_spec.specs.Sends.{Place, ToNode, ToMachine, ToRouter, Send}
use Rattle.node_spec.specs.Steps.{onto, outgoing}
use Rattle.node_spec.specs.Turns.{Input, Arrived, Ticked, Turn}
use Rattle.world_mail.specs.Mails.{MailState, posted_at, untaken, with_posted}
use Rattle.world_mail.specs.declared.mail.Posted.{Posted}
use Rattle.world_spec.specs.Acts.{log_length, loss, turn_acts}
use Rattle.world_spec.specs.Nodes.{Lists, listed, node_turn}
use Rattle.world_spec.specs.World.{Site, World, Sent, all_sent, at, disk, is_there, posted, put, same_node, sent_at, site, untaken as untaken_sent, takes as taking, least_waiting as least_sent}
use Rattle.world_spec.specs.Steps as steps
use Rattle.world_spec.specs.Events as events
use Rattle.world_spec.specs.Transcript as transcript
use Rattle.world_spec.proofs.SiteLaws.{up_is_there}
use Rattle.world_nodes.specs.Nodes.{NodesState, crash_node, cut_node, cut_restart_node, longest, restart_node, step_node, with_replicas, with_muxes, with_agents}
use Rattle.world_model.specs.Shown.{FollowsTables, receiver, shown, shown_sent}
use Rattle.world_nodes.specs.Sites.{Deciding, Opening}
use Rattle.world_model.specs.World as model
use Rattle.world_model.specs.World.{Outcome, WorldState, posted_by}
use Rattle.world_model.proofs.ShownSends.{least_shown, longest_shown, marks_shown, sends_shown}
use Rattle.world_model.proofs.ShownSites.{told, turned_site, cut_turned, cut_told, down_site, risen_site, cut_risen, step_up, step_down, cut_up, cut_down, crash_up, crash_down, restart_up, restart_down, cut_restart_up, cut_restart_down}

true_false : true ≡ false → ⊥
true_false e = absurd (cc)

-- ---- what a node's place leaves

put_sent : (w : World) (x : NodeId) (s : Site) → (put w x s).sent ≡ w.sent
unfolding put
put_sent w (Replica i) s = refl
put_sent w (Mux i) s = refl
put_sent w (Agent i) s = refl

put_taken : (w : World) (x : NodeId) (s : Site) → (put w x s).taken ≡ w.taken
unfolding put
put_taken w (Replica i) s = refl
put_taken w (Mux i) s = refl
put_taken w (Agent i) s = refl

module _ {C : Type 0} (cfg : ConfigParts) (core : Lists → C) (step : Deciding C) (recover : Opening C)
    (follows : FollowsTables cfg core step recover) (owners : KnowsOwners cfg) where
  abbrev see : World → WorldState C
  see w = shown cfg core w

  -- the same event's outcome
  abbrev seen : steps.Outcome → Outcome C
  seen r = (see r.0, r.1)

  abbrev mailed : List Posted → List Bool → MailState
  mailed ps ts = record { posted = ps; taken = ts }

  -- nodes and datagrams, and some lines
  abbrev made : NodesState C → MailState → List Line → Outcome C
  made nodes mail lines = (record { cfg = cfg; nodes = nodes; mail = mail }, lines)

  -- ---- an input

  node_up : (w : World) (x : NodeId) (l : Lists) (i : Input) → at w x ≡ Some l
      → step_node step (see w).nodes x i
      ≡ ((see (put w x (turned_site (site w x) (node_turn cfg l i)))).nodes, Some (told cfg (site w x) (node_turn cfg l i)))
  unfolding site put
  node_up w (Replica i) l x is = ap (with_replicas (see w).nodes) (step_up core cfg step recover follows w.replicas i l x is)
  node_up w (Mux i) l x is = ap (with_muxes (see w).nodes) (step_up core cfg step recover follows w.muxes i l x is)
  node_up w (Agent i) l x is = ap (with_agents (see w).nodes) (step_up core cfg step recover follows w.agents i l x is)

  node_down : (w : World) (x : NodeId) (i : Input) → at w x ≡ None → step_node step (see w).nodes x i ≡ ((see w).nodes, None)
  unfolding site
  node_down w (Replica i) x is = ap (with_replicas (see w).nodes) (step_down core cfg step recover follows w.replicas i x is)
  node_down w (Mux i) x is = ap (with_muxes (see w).nodes) (step_down core cfg step recover follows w.muxes i x is)
  node_down w (Agent i) x is = ap (with_agents (see w).nodes) (step_down core cfg step recover follows w.agents i x is)

  -- its datagrams
  mail_shown : (w : World) (x : NodeId) (s : Site) (sends : List Send)
      → with_posted (see w).mail (map (posted_by cfg x) (flat_map (outgoing cfg) sends))
      ≡ (see (posted (put w x s) (all_sent cfg x sends))).mail
  mail_shown w x s sends =
      ap (with_posted (see w).mail) (sends_shown cfg owners x sends)
      ∙ ap (λ (ps : List Posted). mailed ps (w.taken ++ map untaken (map shown_sent (all_sent cfg x sends))))
      (sym (map-append shown_sent w.sent (all_sent cfg x sends)))
      ∙ ap (λ (ts : List Bool). mailed (map shown_sent (w.sent ++ all_sent cfg x sends)) (w.taken ++ ts))
      (marks_shown (all_sent cfg x sends))
      ∙ ap (λ (ss : List Sent). mailed (map shown_sent (ss ++ all_sent cfg x sends))
      (w.taken ++ map untaken_sent (all_sent cfg x sends))) (sym (put_sent w x s))
      ∙ ap (λ (ts : List Bool). mailed (map shown_sent ((put w x s).sent ++ all_sent cfg x sends))
      (ts ++ map untaken_sent (all_sent cfg x sends))) (sym (put_taken w x s))

  -- its acts
  acts_shown : (w : World) (x : NodeId) (t : Turn Lists)
      → model.acts_of x (longest (see w).nodes) (told cfg (site w x) t) ≡ turn_acts w x t
  unfolding onto
  acts_shown w (Replica i) t =
      ap (λ (n : ℕ). if nat_lt n (log_length (disk w (Replica i) ++ listed t.entry)) then t.acts else [])
      (longest_shown core w.replicas)
  acts_shown w (Mux i) t = refl
  acts_shown w (Agent i) t = refl

  lines_shown : (w : World) (x : NodeId) (t : Turn Lists)
      → model.spread_lines x (longest (see w).nodes) (length (see w).mail.posted) (Some (told cfg (site w x) t))
      ≡ steps.turn_lines cfg w x t
  unfolding onto
  lines_shown w x t =
      ap (λ (acts : List Act). steps.act_lines acts ++ steps.note_lines t.notes
      ++ steps.sent_lines x (length (map shown_sent w.sent)) (flat_map (outgoing cfg) t.sends)) (acts_shown w x t)
      ∙ ap (λ (n : ℕ). steps.act_lines (turn_acts w x t) ++ steps.note_lines t.notes
      ++ steps.sent_lines x n (flat_map (outgoing cfg) t.sends)) (length-map w.sent shown_sent)

  turn_shown : (w : World) (x : NodeId) (t : Turn Lists)
      → model.spread (see w) x (longest (see w).nodes)
      ((see (put w x (turned_site (site w x) t))).nodes, Some (told cfg (site w x) t))
      ≡ (see (steps.after_turn cfg w x t), steps.turn_lines cfg w x t)
  unfolding onto steps.after_turn
  turn_shown w x t =
      ap (λ (m : MailState). made (see (put w x (turned_site (site w x) t))).nodes m
      (model.spread_lines x (longest (see w).nodes) (length (see w).mail.posted) (Some (told cfg (site w x) t))))
      (mail_shown w x (turned_site (site w x) t) t.sends)
      ∙ ap (made (see (put w x (turned_site (site w x) t))).nodes (see (posted (put w x (turned_site (site w x) t)) (all_sent cfg x t.sends))).mail)
      (lines_shown w x t)

  pub input_shown : (w : World) (x : NodeId) (i : Input) → model.input step (see w) x i ≡ seen (steps.input cfg w x i)
  input_shown w x i = by (at w x) refl
    where
      by : (o : Option Lists) → at w x ≡ o → model.input step (see w) x i ≡ seen (steps.input_by cfg w x i o)
      by None is = ap (model.spread (see w) x (longest (see w).nodes)) (node_down w x i is)
      by (Some l) is =
          ap (model.spread (see w) x (longest (see w).nodes)) (node_up w x l i is) ∙ turn_shown w x (node_turn cfg l i)

  -- ---- a delivery

  pub numbered : (w : World) (k : ℕ) → posted_at (see w).mail k ≡ option_map shown_sent (sent_at w k)
  numbered w zero = refl
  numbered w (suc k) =
      let e : suc k - 1 ≡ k = omega arith in
      let some : (suc k == 0) ≡ false = grind (arith, nat_tests) in
      ap (λ (b : Bool). if b then None else slice_get (map shown_sent w.sent) (suc k - 1)) some
      ∙ ap (slice_get (map shown_sent w.sent)) e
      ∙ slice_get-map shown_sent w.sent k

  taken_shown : (w : World) (k : ℕ) (s : Sent) → sent_at w k ≡ Some s → model.takes (see w) k ≡ see (taking w k)
  taken_shown w zero s is = absurd (cc)
  taken_shown w (suc k) s is =
      let lt : k < length w.sent = slice_get_within w.sent k s is in
      let e : suc k - 1 ≡ k = omega arith in
      let there : (nat_lt 0 (suc k) && nat_lt (suc k - 1) (length (map shown_sent w.sent))) ≡ true =
      ap (λ (n : ℕ). nat_lt 0 (suc k) && nat_lt n (length (map shown_sent w.sent))) e
      ∙ ap (λ (n : ℕ). nat_lt 0 (suc k) && nat_lt k n) (length-map w.sent shown_sent)
      ∙ grind (arith, nat_tests) in
      ap (λ (b : Bool). record (see w) {
        mail = if b then record (see w).mail { taken = slice_set w.taken (suc k - 1) true } else (see w).mail;
      }) there

  deliver_to_shown : (w : World) (k : ℕ) (s : Sent) → sent_at w k ≡ Some s → (p : Place) → s.to ≡ p
      → model.deliver_to step (see w) k (shown_sent s) (receiver p) ≡ seen (steps.delivered_to cfg w k s p)
  deliver_to_shown w k s is (ToNode x) to =
      ap (λ (v : WorldState C). model.input step v x (steps.arriving cfg s)) (taken_shown w k s is)
      ∙ input_shown (taking w k) x (steps.arriving cfg s)
  deliver_to_shown w k s is (ToMachine machine) to = refl
  deliver_to_shown w k s is ToRouter to = refl

  pub deliver_shown : (w : World) (k : ℕ) → model.deliver step (see w) k ≡ seen (steps.deliver cfg w k)
  unfolding model.deliver steps.deliver
  deliver_shown w k = ap (model.deliver_at step (see w) k) (numbered w k) ∙ by (sent_at w k) refl
    where
      by : (o : Option Sent) → sent_at w k ≡ o
          → model.deliver_at step (see w) k (option_map shown_sent o) ≡ seen (steps.delivered cfg w k o)
      by None is = refl
      by (Some s) is = deliver_to_shown w k s is s.to refl

  -- ---- a crash

  crashed_up : (w : World) (x : NodeId) (l : Lists) → at w x ≡ Some l
      → crash_node (see w).nodes x ≡ ((see (put w x (down_site (site w x)))).nodes, true)
  unfolding site put
  crashed_up w (Replica i) l is = ap (with_replicas (see w).nodes) (crash_up core cfg step recover follows w.replicas i l is)
  crashed_up w (Mux i) l is = ap (with_muxes (see w).nodes) (crash_up core cfg step recover follows w.muxes i l is)
  crashed_up w (Agent i) l is = ap (with_agents (see w).nodes) (crash_up core cfg step recover follows w.agents i l is)

  crashed_down : (w : World) (x : NodeId) → at w x ≡ None → crash_node (see w).nodes x ≡ ((see w).nodes, false)
  unfolding site
  crashed_down w (Replica i) is = ap (with_replicas (see w).nodes) (crash_down core cfg step recover follows w.replicas i is)
  crashed_down w (Mux i) is = ap (with_muxes (see w).nodes) (crash_down core cfg step recover follows w.muxes i is)
  crashed_down w (Agent i) is = ap (with_agents (see w).nodes) (crash_down core cfg step recover follows w.agents i is)

  -- the datagrams of a world whose node was changed
  mail_same : (w : World) (x : NodeId) (s : Site) → (see w).mail ≡ (see (put w x s)).mail
  mail_same w x s =
      ap (λ (ss : List Sent). mailed (map shown_sent ss) w.taken) (sym (put_sent w x s))
      ∙ ap (mailed (map shown_sent (put w x s).sent)) (sym (put_taken w x s))

  placed : (w : World) (x : NodeId) (s : Site) (lines : List Line)
      → made (see (put w x s)).nodes (see w).mail lines ≡ (see (put w x s), lines)
  placed w x s lines = ap (λ (m : MailState). made (see (put w x s)).nodes m lines) (mail_same w x s)

  pub crash_shown : (w : World) (x : NodeId) → model.crash (see w) x ≡ seen (steps.crash w x)
  unfolding steps.crash
  crash_shown w x = by (at w x) refl
    where
      fallen : NodesState C × Bool → Outcome C
      fallen r = (record (see w) { nodes = r.0 }, model.fallen_lines x Down r.1)

      by : (o : Option Lists) → at w x ≡ o → model.crash (see w) x ≡ seen (steps.crash_by w x o)
      by None is = ap fallen (crashed_down w x is)
      by (Some l) is =
          ap fallen (crashed_up w x l is) ∙ placed w x (down_site (site w x)) (steps.act_lines (loss x))

  -- ---- a step that a crash cuts short

  cut_node_up : (w : World) (x : NodeId) (l : Lists) (i : Input) (keep : Bool) → at w x ≡ Some l
      → cut_node step (see w).nodes x i keep
      ≡ (
        (see (put w x (cut_turned (site w x) (node_turn cfg l i) keep))).nodes,
        Some (cut_told cfg (site w x) (node_turn cfg l i) keep),
      )
  unfolding site put
  cut_node_up w (Replica i) l x keep is =
      ap (with_replicas (see w).nodes) (cut_up core cfg step recover follows w.replicas i l x keep is)
  cut_node_up w (Mux i) l x keep is =
      ap (with_muxes (see w).nodes) (cut_up core cfg step recover follows w.muxes i l x keep is)
  cut_node_up w (Agent i) l x keep is =
      ap (with_agents (see w).nodes) (cut_up core cfg step recover follows w.agents i l x keep is)

  cut_node_down : (w : World) (x : NodeId) (i : Input) (keep : Bool) → at w x ≡ None
      → cut_node step (see w).nodes x i keep ≡ ((see w).nodes, None)
  unfolding site
  cut_node_down w (Replica i) x keep is =
      ap (with_replicas (see w).nodes) (cut_down core cfg step recover follows w.replicas i x keep is)
  cut_node_down w (Mux i) x keep is =
      ap (with_muxes (see w).nodes) (cut_down core cfg step recover follows w.muxes i x keep is)
  cut_node_down w (Agent i) x keep is =
      ap (with_agents (see w).nodes) (cut_down core cfg step recover follows w.agents i x keep is)

  -- the world in which a delivery may have taken its datagram
  abbrev marked : World → List Bool → World
  marked w ts = record w { taken = ts }

  none_longer : (b : Bool) → ◌≡◌ {A = List Act} (if b then [] else []) []
  none_longer true = refl
  none_longer false = refl

  cut_acts_shown : (w : World) (ts : List Bool) (x : NodeId) (t : Turn Lists) (keep : Bool)
      → model.cut_acts x (longest (see w).nodes) (cut_told cfg (site w x) t keep) ++ loss x
      ≡ steps.cut_acts (marked w ts) x t keep
  unfolding onto site
  cut_acts_shown w ts (Replica i) t true =
      ap (λ (n : ℕ). (if nat_lt n (log_length (disk w (Replica i) ++ listed t.entry)) then t.acts else []) ++ loss (Replica i))
      (longest_shown core w.replicas)
  cut_acts_shown w ts (Replica i) t false = ap (λ (acts : List Act). acts ++ loss (Replica i)) (none_longer _)
  cut_acts_shown w ts (Mux i) t true = refl
  cut_acts_shown w ts (Mux i) t false = refl
  cut_acts_shown w ts (Agent i) t true = refl
  cut_acts_shown w ts (Agent i) t false = refl

  cut_placed : (w : World) (ts : List Bool) (x : NodeId) (t : Turn Lists) (keep : Bool)
      → ◌≡◌ {A = WorldState C}
      (record { cfg = cfg; nodes = (see (put w x (cut_turned (site w x) t keep))).nodes; mail = (see (marked w ts)).mail })
      (see (steps.after_cut (marked w ts) x t keep))
  unfolding site put steps.after_cut
  cut_placed w ts (Replica i) t keep = refl
  cut_placed w ts (Mux i) t keep = refl
  cut_placed w ts (Agent i) t keep = refl

  cut_by_shown : (w : World) (ts : List Bool) (x : NodeId) (i : Input) (keep : Bool)
      → model.cut (see w) (see (marked w ts)).mail x (longest (see w).nodes) (cut_node step (see w).nodes x i keep)
      ≡ seen (steps.cut_by cfg w (marked w ts) x i keep (at w x))
  cut_by_shown w ts x i keep = by (at w x) refl
    where
      left : WorldState C → List Act → Outcome C
      left v acts = (v, steps.act_lines acts)

      by : (o : Option Lists) → at w x ≡ o
          → model.cut (see w) (see (marked w ts)).mail x (longest (see w).nodes) (cut_node step (see w).nodes x i keep)
          ≡ seen (steps.cut_by cfg w (marked w ts) x i keep o)
      by None is =
          ap (model.cut (see w) (see (marked w ts)).mail x (longest (see w).nodes)) (cut_node_down w x i keep is)
      by (Some l) is =
          ap (model.cut (see w) (see (marked w ts)).mail x (longest (see w).nodes)) (cut_node_up w x l i keep is)
          ∙ ap (λ (v : WorldState C). left v
          (model.cut_acts x (longest (see w).nodes) (cut_told cfg (site w x) (node_turn cfg l i) keep) ++ loss x))
          (cut_placed w ts x (node_turn cfg l i) keep)
          ∙ ap (left (see (steps.after_cut (marked w ts) x (node_turn cfg l i) keep)))
          (cut_acts_shown w ts x (node_turn cfg l i) keep)

  cut_input_shown : (w : World) (ts : List Bool) (x y : NodeId) (i : Input) (keep : Bool)
      → model.cut_input step (see w) (see (marked w ts)).mail x y i keep
      ≡ seen (steps.cut_input cfg w (marked w ts) x y i keep)
  cut_input_shown w ts x y i keep = by (same_node x y)
    where
      left : Bool → Outcome C
      left b =
          if b then model.cut (see w) (see (marked w ts)).mail x (longest (see w).nodes) (cut_node step (see w).nodes x i keep)
          else (see w, model.say Other)

      right : Bool → steps.Outcome
      right b = if b then steps.cut_by cfg w (marked w ts) x i keep (at w x) else steps.only_word w Other

      by : (b : Bool) → left b ≡ seen (right b)
      by true = cut_by_shown w ts x i keep
      by false = refl

  cut_deliver_to_shown : (w : World) (x : NodeId) (k : ℕ) (keep : Bool) (s : Sent) → sent_at w k ≡ Some s → (p : Place)
      → model.cut_deliver_to step (see w) x k keep (shown_sent s) (receiver p)
      ≡ seen (steps.cut_delivered_to cfg w x k keep s p)
  cut_deliver_to_shown w x k keep s is (ToNode y) =
      ap (λ (v : WorldState C). model.cut_input step (see w) v.mail x y (steps.arriving cfg s) keep) (taken_shown w k s is)
      ∙ cut_input_shown w (taking w k).taken x y (steps.arriving cfg s) keep
  cut_deliver_to_shown w x k keep s is (ToMachine machine) = refl
  cut_deliver_to_shown w x k keep s is ToRouter = refl

  cut_deliver_shown : (w : World) (x : NodeId) (k : ℕ) (keep : Bool)
      → model.cut_deliver step (see w) x k keep ≡ seen (steps.cut_deliver cfg w x k keep)
  unfolding steps.cut_deliver
  cut_deliver_shown w x k keep = ap (model.cut_deliver_at step (see w) x k keep) (numbered w k) ∙ by (sent_at w k) refl
    where
      by : (o : Option Sent) → sent_at w k ≡ o
          → model.cut_deliver_at step (see w) x k keep (option_map shown_sent o)
          ≡ seen (steps.cut_delivered cfg w x k keep o)
      by None is = refl
      by (Some s) is = cut_deliver_to_shown w x k keep s is s.to

  -- ---- an opening

  node_opens : (w : World) (x : NodeId) → is_there w x ≡ true → at w x ≡ None
      → restart_node recover cfg (see w).nodes x ≡ ((see (put w x (risen_site cfg x (site w x)))).nodes, true)
  unfolding site put is_there
  node_opens w (Replica i) lt is =
      ap (with_replicas (see w).nodes) (restart_down core cfg step recover follows (Replica i) w.replicas i lt is)
  node_opens w (Mux i) lt is =
      ap (with_muxes (see w).nodes) (restart_down core cfg step recover follows (Mux i) w.muxes i lt is)
  node_opens w (Agent i) lt is =
      ap (with_agents (see w).nodes) (restart_down core cfg step recover follows (Agent i) w.agents i lt is)

  node_is_open : (w : World) (x : NodeId) (l : Lists) → at w x ≡ Some l
      → restart_node recover cfg (see w).nodes x ≡ ((see w).nodes, false)
  unfolding site
  node_is_open w (Replica i) l is =
      ap (with_replicas (see w).nodes) (restart_up core cfg step recover follows (Replica i) w.replicas i l is)
  node_is_open w (Mux i) l is =
      ap (with_muxes (see w).nodes) (restart_up core cfg step recover follows (Mux i) w.muxes i l is)
  node_is_open w (Agent i) l is =
      ap (with_agents (see w).nodes) (restart_up core cfg step recover follows (Agent i) w.agents i l is)

  abbrev open_if : World → NodeId → Bool → Outcome C
  open_if w x b = if b then model.opens (see w) (restart_node recover cfg (see w).nodes x) else (see w, [])

  restart_there : (w : World) (x : NodeId) → open_if w x (is_there w x) ≡ seen (steps.restart_by cfg w x (at w x))
  restart_there w x = by (at w x) (is_there w x) refl refl
    where
      done : Bool → steps.Outcome
      done b = if b then (put w x (steps.risen cfg w x), []) else (w, [])

      end : Bool → Outcome C
      end b = seen (done b)

      by : (o : Option Lists) (b : Bool) → at w x ≡ o → is_there w x ≡ b
          → open_if w x b ≡ seen (steps.restart_by cfg w x o)
      by None true is there =
          ap (model.opens (see w)) (node_opens w x there is)
          ∙ placed w x (risen_site cfg x (site w x)) []
          ∙ ap end (sym there)
      by None false is there = ap end (sym there)
      by (Some l) true is there = ap (model.opens (see w)) (node_is_open w x l is)
      by (Some l) false is there = absurd (true_false (sym (up_is_there w x l is) ∙ there))

  pub restart_shown : (w : World) (x : NodeId) → is_there w x ≡ is_some (socket_of cfg x)
      → model.restart recover (see w) x ≡ seen (steps.restart cfg w x)
  unfolding steps.restart
  restart_shown w x there =
      ap (open_if w x) (sym there) ∙ restart_there w x

  cut_node_opens : (w : World) (x : NodeId) (keep : Bool) → is_there w x ≡ true → at w x ≡ None
      → cut_restart_node recover cfg (see w).nodes x keep ≡ ((see (put w x (cut_risen x (site w x) keep))).nodes, true)
  unfolding site put is_there
  cut_node_opens w (Replica i) keep lt is =
      ap (with_replicas (see w).nodes) (cut_restart_down core cfg step recover follows (Replica i) w.replicas i keep lt is)
  cut_node_opens w (Mux i) keep lt is =
      ap (with_muxes (see w).nodes) (cut_restart_down core cfg step recover follows (Mux i) w.muxes i keep lt is)
  cut_node_opens w (Agent i) keep lt is =
      ap (with_agents (see w).nodes) (cut_restart_down core cfg step recover follows (Agent i) w.agents i keep lt is)

  cut_node_is_open : (w : World) (x : NodeId) (l : Lists) (keep : Bool) → at w x ≡ Some l
      → cut_restart_node recover cfg (see w).nodes x keep ≡ ((see w).nodes, false)
  unfolding site
  cut_node_is_open w (Replica i) l keep is =
      ap (with_replicas (see w).nodes) (cut_restart_up core cfg step recover follows (Replica i) w.replicas i l keep is)
  cut_node_is_open w (Mux i) l keep is =
      ap (with_muxes (see w).nodes) (cut_restart_up core cfg step recover follows (Mux i) w.muxes i l keep is)
  cut_node_is_open w (Agent i) l keep is =
      ap (with_agents (see w).nodes) (cut_restart_up core cfg step recover follows (Agent i) w.agents i l keep is)

  abbrev cut_open_if : World → NodeId → Bool → Bool → Outcome C
  cut_open_if w x keep b =
      if b then model.cut_opens (see w) x (cut_restart_node recover cfg (see w).nodes x keep) else (see w, [])

  cut_restart_there : (w : World) (x : NodeId) (keep : Bool)
      → cut_open_if w x keep (is_there w x) ≡ seen (steps.cut_restart_by w x keep (at w x))
  cut_restart_there w x keep = by (at w x) (is_there w x) refl refl
    where
      done : Bool → steps.Outcome
      done b = if b then (put w x (steps.cut_opening w x keep), steps.act_lines (loss x)) else (w, [])

      end : Bool → Outcome C
      end b = seen (done b)

      by : (o : Option Lists) (b : Bool) → at w x ≡ o → is_there w x ≡ b
          → cut_open_if w x keep b ≡ seen (steps.cut_restart_by w x keep o)
      by None true is there =
          ap (model.cut_opens (see w) x) (cut_node_opens w x keep there is)
          ∙ placed w x (cut_risen x (site w x) keep) (steps.act_lines (loss x))
          ∙ ap end (sym there)
      by None false is there = ap end (sym there)
      by (Some l) true is there = ap (model.cut_opens (see w) x) (cut_node_is_open w x l keep is)
      by (Some l) false is there = absurd (true_false (sym (up_is_there w x l is) ∙ there))

  cut_restart_shown : (w : World) (x y : NodeId) (keep : Bool) → is_there w x ≡ is_some (socket_of cfg x)
      → model.cut_restart recover (see w) x y keep ≡ seen (steps.cut_restart w x y keep)
  unfolding steps.cut_restart
  cut_restart_shown w x y keep there = by (same_node x y)
    where
      left : Bool → Outcome C
      left b = if b then model.cut_opening recover (see w) x keep else (see w, model.say Other)

      right : Bool → steps.Outcome
      right b = if b then steps.cut_restart_by w x keep (at w x) else steps.only_word w Other

      by : (b : Bool) → left b ≡ seen (right b)
      by true = ap (cut_open_if w x keep) (sym there) ∙ cut_restart_there w x keep
      by false = refl

  -- ---- events

  abbrev AreThere : World → Type 0
  AreThere w = (x : NodeId) → is_there w x ≡ is_some (socket_of cfg x)

  single_shown : (w : World) → AreThere w → (e : Single) → model.single step recover (see w) e ≡ seen (events.single cfg w e)
  single_shown w there (single.Deliver k) = deliver_shown w k
  single_shown w there (single.Inject x from bytes) = input_shown w x (Arrived from bytes)
  single_shown w there (single.Tick x now) = input_shown w x (Ticked now)
  single_shown w there (single.Restart x) = restart_shown w x (there x)

  during_shown : (w : World) → AreThere w → (x : NodeId) (e : Single) (keep : Bool)
      → model.during step recover (see w) x e keep ≡ seen (events.during cfg w x e keep)
  during_shown w there x (single.Deliver k) keep = cut_deliver_shown w x k keep
  during_shown w there x (single.Inject y from bytes) keep = cut_input_shown w w.taken x y (Arrived from bytes) keep
  during_shown w there x (single.Tick y now) keep = cut_input_shown w w.taken x y (Ticked now) keep
  during_shown w there x (single.Restart y) keep = cut_restart_shown w x y keep (there x)

  settle_shown : (n : ℕ) (w : World) → model.settle step n (see w) ≡ seen (transcript.settle cfg n w)
  unfolding model.settle transcript.settle
  settle_shown zero w = refl
  settle_shown (suc n) w =
      ap (model.settle_by step (see w) (model.settle step n)) (least_shown cfg core w) ∙ by (settle_shown n) (least_sent w)
    where
      again : ((v : World) → model.settle step n (see v) ≡ seen (transcript.settle cfg n v)) → (r : Outcome C)
          (q : steps.Outcome) (k : ℕ) → r ≡ seen q
          → model.onto (line.Delivery k ∷ r.1) (model.settle step n r.0)
          ≡ seen (transcript.behind (line.Delivery k ∷ q.1) (transcript.settle cfg n q.0))
      again rest r q k is =
          ap (λ (s : Outcome C). model.onto (line.Delivery k ∷ s.1) (model.settle step n s.0)) is
          ∙ ap (model.onto (line.Delivery k ∷ q.1)) (rest q.0)

      by : ((v : World) → model.settle step n (see v) ≡ seen (transcript.settle cfg n v)) → (o : Option ℕ)
          → model.settle_by step (see w) (model.settle step n) o ≡ seen (transcript.settle_by cfg w (transcript.settle cfg n) o)
      by rest None = refl
      by rest (Some k) = again rest (model.deliver step (see w) k) (steps.deliver cfg w k) k (deliver_shown w k)

  -- what an event makes of the one world it makes of the other, and its lines are the same
  pub applied_shown : (w : World) → AreThere w → (e : Event)
      → model.applied step recover (see w) e ≡ seen (transcript.applied cfg w e)
  unfolding model.applied transcript.applied
  applied_shown w there (event.Single e) = single_shown w there e
  applied_shown w there (event.Settle n) = settle_shown n w
  applied_shown w there (event.Crash x) = crash_shown w x
  applied_shown w there (event.During x e keep) = during_shown w there x e keep
