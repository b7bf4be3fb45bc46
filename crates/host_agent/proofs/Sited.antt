-- What a machine's turn makes of the agent.
use Rattle.std.proofs.Common.{◌≡◌, ◌∙◌, ℕ, Bool, true, false, ◌&&◌, cond, List, [], ◌∷◌, ◌++◌, map, find, Option, Some, None, refl, sym, ap, subst, append-nil}
use Rattle.std.specs.Prelude.{is_some, option_map}
use Rattle.wire_core.specs.declared.address.Ip4.{Ip4}
use Rattle.wire_core.specs.declared.range.Range.{Range}
use Rattle.wire_core.specs.declared.cause.DropCause.TheVariants.{Denied, Late, NotMine, OldGrant}
use Rattle.wire_core.specs.declared.note.Note.TheVariants.{Dropped}
use Rattle.wire_core.specs.declared.step.Step.{Step}
use Rattle.wire_core.specs.Ranges.{is_leasable}
use Rattle.wire_core.specs.Same.{same_ip, same_range}
use Rattle.wire_core.specs.Steps.{first_of, with_note}
use Rattle.wire_core.proofs.SameLaws.{ip_is}
use Rattle.packet_spec.specs.Packets.{read_packet}
use Rattle.vip_config.specs.Leases.{lease_rules_of}
use Rattle.vip_config.specs.Serving.{has_snat}
use Rattle.node_spec.specs.Turns.{Turn, drop_turn, lifted}
use Rattle.vip_config.specs.declared.parts.ConfigParts.{ConfigParts}
use Rattle.indexmap.specs.IndexMap.{insert_entry}
use Rattle.agent_spec.specs.Ranges.{Ranges, granted, inserted, is_old, kept_at, new_held}
use Rattle.node_spec.specs.Steps.{onto, turned, tried}
use Rattle.node_spec.proofs.Turning.{drop_turned}
use Rattle.agent_spec.specs.declared.held.Granting.{Granting}
use Rattle.agent_spec.specs.declared.held.Granting.TheVariants as granting
use Rattle.agent_spec.specs.Agent.{Agent, Host, Site, Traffic, host_of, of_site, put_host, site_at, with_ranges, with_traffic}
use Rattle.agent_spec.specs.Answers.{denied, grant_to, is_ask, refused, take_grant, took}
use Rattle.agent_spec.specs.Packets.{of_machine, read_as}
use Rattle.host_agent.specs.Hosts.{denial}
use Rattle.host_agent.specs.Seen.{Core, as_is, kept_in, site, with_lists}
use Rattle.host_agent.specs.Transfers.{granted_to}

no_true : true ≡ false → ⊥
no_true e = cc

-- a turn of the machine that was found
pub site_turned : (core : Core) (o p : Step) (u : Traffic) (hs : List Host) (own : Bool) (h : Host) (r : Option Host)
    (row : Host → Turn Site)
    → ((u, hs), (p, own))
    ≡ tried (kept_in core.lists.hosts) core.config o (core.lists.traffic, core.lists.hosts) (option_map row r)
    → r ≡ Some h
    → (with_lists core (record core.lists { traffic = u; hosts = hs }), p)
    ≡ turned (with_lists core) core.config o (of_site core.lists (row h))
unfolding tried turned onto
site_turned core o p u hs own h r row e is =
    ap (λ (x : (Traffic × List Host) × (Step × Bool)).
    (with_lists core (record core.lists { traffic = x.0.0; hosts = x.0.1 }), x.1.0))
    (e ∙ ap (λ (y : Option Host).
    tried (kept_in core.lists.hosts) core.config o (core.lists.traffic, core.lists.hosts) (option_map row y)) is)

-- a turn of the traffic
pub lifted_turned : (core : Core) (o p : Step) (u : Traffic) (t : Turn Traffic) → (u, p) ≡ turned as_is core.config o t
    → (with_lists core (with_traffic core.lists u), p)
    ≡ turned (with_lists core) core.config o (lifted (with_traffic core.lists) t)
unfolding turned onto
lifted_turned core o p u t e = ap (λ (x : Traffic × Step). (with_lists core (with_traffic core.lists x.0), x.1)) e

-- a packet of a machine that is its own
pub packet_turned : (core : Core) (o p : Step) (u : Traffic) (hs : List Host) (bytes : List ℕ) (r : Option Host)
    → ((u, hs), (p, true))
    ≡ tried (kept_in core.lists.hosts) core.config o (core.lists.traffic, core.lists.hosts)
    (option_map
    (λ h. read_as core.config core.lists.boot core.lists.hint (site core.lists.traffic h) (read_packet bytes)) r)
    → (with_lists core (record core.lists { traffic = u; hosts = hs }), p)
    ≡ turned (with_lists core) core.config o (of_machine core.config core.lists bytes r)
unfolding tried
packet_turned core o p u hs bytes None e =
    absurd (no_true (ap (λ (x : (Traffic × List Host) × (Step × Bool)). x.1.1) e))
packet_turned core o p u hs bytes (Some h) e =
    site_turned core o p u hs true h (Some h)
    (λ h. read_as core.config core.lists.boot core.lists.hint (site core.lists.traffic h) (read_packet bytes)) e refl

-- and of another
pub stranger_turned : (core : Core) (o p s : Step) (u : Traffic) (hs : List Host) (bytes : List ℕ) (r : Option Host)
    → ((u, hs), (p, false))
    ≡ tried (kept_in core.lists.hosts) core.config o (core.lists.traffic, core.lists.hosts)
    (option_map
    (λ h. read_as core.config core.lists.boot core.lists.hint (site core.lists.traffic h) (read_packet bytes)) r)
    → s ≡ with_note (Dropped NotMine) p
    → (with_lists core (record core.lists { traffic = u; hosts = hs }), s)
    ≡ turned (with_lists core) core.config o (of_machine core.config core.lists bytes r)
unfolding tried
stranger_turned core o p s u hs bytes (Some h) e note =
    absurd (no_true (sym (ap (λ (x : (Traffic × List Host) × (Step × Bool)). x.1.1) e)))
stranger_turned core o p s u hs bytes None e note =
    ap (λ (x : Step). (with_lists core (record core.lists { traffic = u; hosts = hs }), x)) note
    ∙ ap (λ (x : (Traffic × List Host) × (Step × Bool)).
    (with_lists core (record core.lists { traffic = x.0.0; hosts = x.0.1 }), with_note (Dropped NotMine) x.1.0)) e
    ∙ drop_turned (with_lists core) core.config o core.lists NotMine

-- a Denied of the ask that is out
pub denied_turned : (core : Core) (o p : Step) (from seq : ℕ) (hs : List Host) (r : Option Host)
    → (hs, (p, true)) ≡ tried as_is core.config o core.lists.hosts (denial core.lists.hosts seq r)
    → (with_lists core (record core.lists { hint = from; hosts = hs }), p)
    ≡ turned (with_lists core) core.config o (denied core.lists from seq r)
unfolding tried turned onto
denied_turned core o p from seq hs None e = absurd (no_true (ap (λ (x : List Host × (Step × Bool)). x.1.1) e))
denied_turned core o p from seq hs (Some h) e = by (is_ask seq h.ask) e
  where
    drops : Turn (List Host)
    drops = record {
      state = put_host (record h { queue = []; ask = None }) core.lists.hosts;
      entry = None;
      acts = [];
      notes = map (λ (q : List ℕ). Dropped Denied) h.queue;
      sends = [];
    }

    by : (b : Bool) → (hs, (p, true)) ≡ tried as_is core.config o core.lists.hosts (cond b (Some drops) None)
        → (with_lists core (record core.lists { hint = from; hosts = hs }), p)
        ≡ turned (with_lists core) core.config o
        (cond b (refused core.lists from h) (denied core.lists from seq None))
    by true e =
        ap (λ (x : List Host × (Step × Bool)).
        (with_lists core (record core.lists { hint = from; hosts = x.0 }), x.1.0)) e
    by false e = absurd (no_true (ap (λ (x : List Host × (Step × Bool)). x.1.1) e))

-- and of another
pub undenied_turned : (core : Core) (o p s : Step) (from seq : ℕ) (hs : List Host) (r : Option Host)
    → (hs, (p, false)) ≡ tried as_is core.config o core.lists.hosts (denial core.lists.hosts seq r)
    → s ≡ with_note (Dropped Late) p
    → (with_lists core (record core.lists { hosts = hs }), s)
    ≡ turned (with_lists core) core.config o (denied core.lists from seq r)
unfolding tried
undenied_turned core o p s from seq hs r e note = by r e
  where
    dropped : (hs, (p, false)) ≡ tried as_is core.config o core.lists.hosts None
        → (with_lists core (record core.lists { hosts = hs }), s)
        ≡ turned (with_lists core) core.config o (denied core.lists from seq None)
    dropped f =
        ap (λ (x : Step). (with_lists core (record core.lists { hosts = hs }), x)) note
        ∙ ap (λ (x : List Host × (Step × Bool)).
        (with_lists core (record core.lists { hosts = x.0 }), with_note (Dropped Late) x.1.0)) f
        ∙ drop_turned (with_lists core) core.config o core.lists Late

    out : (h : Host) (b : Bool) (t : Turn (List Host)) → (hs, (p, false)) ≡ tried as_is core.config o core.lists.hosts (cond b (Some t) None)
        → (with_lists core (record core.lists { hosts = hs }), s)
        ≡ turned (with_lists core) core.config o
        (cond b (refused core.lists from h) (denied core.lists from seq None))
    out h true t f = absurd (no_true (sym (ap (λ (x : List Host × (Step × Bool)). x.1.1) f)))
    out h false t f = dropped f

    by : (x : Option Host) → (hs, (p, false)) ≡ tried as_is core.config o core.lists.hosts (denial core.lists.hosts seq x)
        → (with_lists core (record core.lists { hosts = hs }), s)
        ≡ turned (with_lists core) core.config o (denied core.lists from seq x)
    by None f = dropped f
    by (Some h) f = out h (is_ask seq h.ask) (record {
      state = put_host (record h { queue = []; ask = None }) core.lists.hosts;
      entry = None;
      acts = [];
      notes = map (λ (q : List ℕ). Dropped Denied) h.queue;
      sends = [];
    }) f

-- the machine that is found has the address
pub found_machine : (hs : List Host) (m : Ip4) (h : Host) → host_of hs m ≡ Some h → h.machine ≡ m
found_machine [] m h e = absurd (cc)
found_machine (x ∷ xs) m h e = by (same_ip x.machine m) refl e (found_machine xs m h)
  where
    same : (a b : Host) → Some a ≡ Some b → a ≡ b
    same a b e = cc

    by : (b : Bool) → same_ip x.machine m ≡ b → cond b (Some x) (host_of xs m) ≡ Some h
        → (host_of xs m ≡ Some h → h.machine ≡ m) → h.machine ≡ m
    by true is e more = ap (λ (y : Host). y.machine) (sym (same x h e)) ∙ ip_is x.machine m is
    by false is e more = more e

-- ---- a Grant

-- of a machine that isn't its own
pub grant_stranger : (c : ConfigParts) (a : Agent) (from seq n : ℕ) (range : Range) (r : Option Host)
    → is_some r ≡ false → grant_to c a from seq n range r ≡ drop_turn a NotMine
grant_stranger c a from seq n range None e = refl
grant_stranger c a from seq n range (Some h) e = absurd (no_true e)

may_of : (c : ConfigParts) (range : Range) (m : Ip4) (h : Host) (b : Bool) → h.machine ≡ m
    → (has_snat c.vips range.vip m && is_leasable (lease_rules_of c) range) ≡ b
    → (has_snat c.vips range.vip h.machine && is_leasable (lease_rules_of c) range) ≡ b
may_of c range m h b is e =
    ap (λ (x : Ip4). has_snat c.vips range.vip x && is_leasable (lease_rules_of c) range) is ∙ e

-- of a range that isn't the machine's to have
pub grant_barred : (c : ConfigParts) (a : Agent) (from seq n : ℕ) (range : Range) (m : Ip4) (r : Option Host)
    → host_of a.hosts m ≡ r → (has_snat c.vips range.vip m && is_leasable (lease_rules_of c) range) ≡ false
    → grant_to c a from seq n range r ≡ drop_turn a NotMine
grant_barred c a from seq n range m None found may = refl
grant_barred c a from seq n range m (Some h) found may =
    rw (may_of c range m h false (found_machine a.hosts m h found) may) refl

took_old : (c : ConfigParts) (a : Agent) (from seq n kept : ℕ) (s : Site) (g : Ranges × Granting)
    → g.1 ≡ granting.Old kept → took c a from s seq n g ≡ drop_turn a (OldGrant kept)
took_old c a from seq n kept s (ranges, granting.Old k) e = ap (λ x. drop_turn a (OldGrant x)) (same k kept e)
  where
    same : (x y : ℕ) → granting.Old x ≡ granting.Old y → x ≡ y
    same x y f = cc
took_old c a from seq n kept s (ranges, granting.Held) e = absurd (cc)

took_held : (c : ConfigParts) (a : Agent) (from seq n : ℕ) (s : Site) (g : Ranges × Granting)
    → g.1 ≡ granting.Held
    → took c a from s seq n g
    ≡ of_site (record a { hint = from })
    (take_grant c a.boot from (record s { traffic = with_ranges s.traffic g.0 }) seq n)
took_held c a from seq n s (ranges, granting.Old k) e = absurd (cc)
took_held c a from seq n s (ranges, granting.Held) e = refl

held_is_not_old : (k : ℕ) → granting.Old k ≡ granting.Held → ⊥
held_is_not_old k e = cc

-- an old one changes nothing
pub old_same : (t u : Traffic) (n kept : ℕ) (range : Range) (m : Ip4) → (u, granting.Old kept) ≡ granted_to t n range m → u ≡ t
old_same t u n kept range m e = by (is_old t.ranges n range) e
  where
    new : Ranges
    new = record t.ranges {
      held = inserted (new_held n range m t.time) t.ranges.held;
      kept = insert_entry same_range t.ranges.kept range n;
    }

    pair : Bool → Ranges × Granting
    pair b = cond b (t.ranges, granting.Old (kept_at t.ranges.kept range)) (new, granting.Held)

    by : (b : Bool) → ◌≡◌ {A = Traffic × Granting} (u, granting.Old kept) (with_ranges t (pair b).0, (pair b).1) → u ≡ t
    by true f = ap (λ (x : Traffic × Granting). x.0) f
    by false f = absurd (held_is_not_old kept (ap (λ (x : Traffic × Granting). x.1) f))

pub grant_old : (c : ConfigParts) (a : Agent) (from seq n kept : ℕ) (range : Range) (m : Ip4) (u : Traffic) (r : Option Host)
    → host_of a.hosts m ≡ r → is_some r ≡ true
    → (has_snat c.vips range.vip m && is_leasable (lease_rules_of c) range) ≡ true
    → (u, granting.Old kept) ≡ granted_to a.traffic n range m
    → grant_to c a from seq n range r ≡ drop_turn a (OldGrant kept)
grant_old c a from seq n kept range m u None found own may e = absurd (no_true (sym own))
grant_old c a from seq n kept range m u (Some h) found own may e =
    let is : h.machine ≡ m = found_machine a.hosts m h found in
    rw (may_of c range m h true is may)
    (took_old c a from seq n kept (site_at a h) (granted a.traffic.ranges n range h.machine a.traffic.time)
    (ap (λ (x : Ip4). (granted a.traffic.ranges n range x a.traffic.time).1) is
    ∙ sym (ap (λ (x : Traffic × Granting). x.1) e)))

pub grant_new : (c : ConfigParts) (a : Agent) (from seq n : ℕ) (range : Range) (m : Ip4) (u : Traffic) (h : Host)
    → host_of a.hosts m ≡ Some h
    → (has_snat c.vips range.vip m && is_leasable (lease_rules_of c) range) ≡ true
    → (u, granting.Held) ≡ granted_to a.traffic n range m
    → grant_to c a from seq n range (Some h) ≡ of_site (record a { hint = from }) (take_grant c a.boot from (site u h) seq n)
grant_new c a from seq n range m u h found may e =
    let is : h.machine ≡ m = found_machine a.hosts m h found in
    rw (may_of c range m h true is may)
    (took_held c a from seq n (site_at a h) (granted a.traffic.ranges n range h.machine a.traffic.time)
    (ap (λ (x : Ip4). (granted a.traffic.ranges n range x a.traffic.time).1) is
    ∙ sym (ap (λ (x : Traffic × Granting). x.1) e))
    ∙ ap (λ (x : Ip4). of_site (record a { hint = from })
    (take_grant c a.boot from
    (site (with_ranges a.traffic (granted a.traffic.ranges n range x a.traffic.time).0) h) seq n)) is
    ∙ ap (λ (x : Traffic × Granting). of_site (record a { hint = from }) (take_grant c a.boot from (site x.0 h) seq n)) (sym e))

pub some_of : (r : Option Host) → is_some r ≡ true → (h : Host) × (r ≡ Some h)
some_of None e = absurd (no_true (sym e))
some_of (Some h) e = (h, refl)
