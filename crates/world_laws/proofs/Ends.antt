-- No two agents hold one range, and no two connections of any agents have one end.
use Rattle.std.proofs.Common.{◌≡◌, ◌≢◌, refl, sym, ap, subst, ◌∙◌, ◌⊎◌, inl, inr, ℕ, zero, suc, ◌+◌, ◌<◌, Bool, true}
use Rattle.std.proofs.Common.{false, List, [], ◌∷◌, ◌++◌, map, Option, Some, None, arith}
use Rattle.std.specs.Prelude.{slice_get, slice_index_or}
use Rattle.std.specs.List.{flat_map}
use Rattle.std.proofs.lemmas.List.{map-append}
use Rattle.wire_core.proofs.SameLaws.{key_itself, range_itself}
use Rattle.wire_core.specs.Members.{In, Each}
use Rattle.wire_core.specs.Ranges.{range_of}
use Rattle.wire_core.specs.Same.{same_key, same_range}
use Rattle.wire_core.specs.declared.address.Ip4.{Ip4}
use Rattle.wire_core.specs.declared.connection.Conn.{Conn}
use Rattle.wire_core.specs.declared.flow.FlowKey.{FlowKey}
use Rattle.wire_core.specs.declared.node.NodeId.TheVariants.{Agent}
use Rattle.wire_core.specs.declared.range.Range.{Range}
use Rattle.wire_core.specs.declared.rules.MachineRule.{MachineRule}
use Rattle.vip_config.specs.Leases.{lease_rules_of}
use Rattle.vip_config.specs.Rules.{Once}
use Rattle.vip_config.specs.declared.parts.ConfigParts.{ConfigParts}
use Rattle.agent_spec.specs.Agent.{Agent as AgentLists}
use Rattle.agent_spec.specs.Connections.{conn_of, private_key, public_key}
use Rattle.agent_spec.specs.Footprints.{AreApart, IsOther, lease_of}
use Rattle.agent_spec.specs.Keys.{OwnKeys}
use Rattle.agent_spec.specs.Through.{GoesThrough, HasRange}
use Rattle.agent_spec.specs.declared.connection.Connection.{Connection}
use Rattle.agent_spec.specs.declared.held.Held.{Held as HeldRange}
use Rattle.lease_spec.proofs.MemberLaws.{each_append, each_in, in_cases, in_left, in_map, in_right}
use Rattle.lease_spec.specs.Lives.{IsDying, IsGone}
use Rattle.lease_spec.specs.Table.{rule_of}
use Rattle.lease_spec.specs.declared.effect.Effect.TheVariants as effect
use Rattle.lease_spec.specs.declared.row.Row.{Row}
use Rattle.world_spec.specs.Facts.{Reached}
use Rattle.world_spec.specs.Nodes.{Lists, OfManager, OfMux, OfAgent}
use Rattle.world_spec.specs.Views.{conns, conns_of, held, held_by, held_of}
use Rattle.world_spec.specs.World.{Site, World, at, nobody, site}
use Rattle.world_spec.specs.declared.views.Held.{Held}
use Rattle.world_laws.specs.Agents.{AgentIsRight}
use Rattle.world_laws.specs.Grants.{IsLease}
use Rattle.world_laws.specs.Hearing.{IsSound}
use Rattle.world_laws.specs.Living.{Dies, IsBorn, done}
use Rattle.world_laws.specs.Log.{log}
use Rattle.world_laws.specs.Safety.{ConnsAreApart, IsHeld, IsLeased, RangesAreHeldOnce, inner_end, outer_end}
use Rattle.world_laws.specs.Safety.{range_held}
use Rattle.world_laws.proofs.AgentLaws.{agents_at}
use Rattle.world_laws.proofs.Births.{BirthIs, birth_is, born_once}
use Rattle.world_laws.proofs.GrantLaws.{prepared_by}
use Rattle.world_laws.proofs.Leased.{held_are_leased}
use Rattle.world_laws.proofs.Living.{lives_in_world}

-- ---- lists of lists

module _ {X Y : Type 0} (f : X → List Y) where
  -- one of the lists has it
  pub record From (xs : List X) (y : Y) : Type 0 where
    pub place : ℕ
    pub item : X
    pub is : slice_get xs place ≡ Some item
    pub there : In y (f item)

  pub from_flat : (xs : List X) (y : Y) → In y (flat_map f xs) → From xs y
  from_flat [] y i = absurd i
  from_flat (x ∷ xs) y i = elim (in_cases (f x) (flat_map f xs) y i) [
    | inl here ↦ record { place = 0; item = x; is = refl; there = here }
    | inr later ↦ (let k = from_flat xs y later in
        record { place = suc k.place; item = k.item; is = k.is; there = k.there })
  ]

  pub in_flat : (xs : List X) (i : ℕ) (x : X) (y : Y) → slice_get xs i ≡ Some x → In y (f x) → In y (flat_map f xs)
  in_flat [] i x y e h = absurd (cc)
  in_flat (z ∷ zs) zero x y e h =
      in_left (f z) (flat_map f zs) y (let same : z ≡ x = cc in subst (λ (k : X). In y (f k)) (sym same) h)
  in_flat (z ∷ zs) (suc i) x y e h = in_right (f z) (flat_map f zs) y (in_flat zs i x y e h)

  each_flat : (P : Y → Type 0) (xs : List X) → ((i : ℕ) (x : X) → slice_get xs i ≡ Some x → Each P (f x))
      → Each P (flat_map f xs)
  each_flat P [] h = tt
  each_flat P (x ∷ xs) h = each_append P (f x) (flat_map f xs) (h 0 x refl) (each_flat P xs (λ i y e. h (suc i) y e))

  once_append : (xs ys : List Y) → Once xs → Once ys → ((y : Y) → In y xs → In y ys → ⊥) → Once (xs ++ ys)
  once_append [] ys a b apart = b
  once_append (x ∷ xs) ys a b apart = (
    λ i. elim (in_cases xs ys x i) [ inl j ↦ a.0 j | inr j ↦ apart x (inl refl) j ],
    once_append xs ys a.1 b (λ y i j. apart y (inr i) j),
  )

  no_zero : (k : ℕ) → 0 ≡ suc k → ⊥
  no_zero k e = omega arith

  less_one : (i j : ℕ) → suc i ≡ suc j → i ≡ j
  less_one i j e = omega arith

  -- each list has each once, and no two have one
  once_flat : (xs : List X) → ((i : ℕ) (x : X) → slice_get xs i ≡ Some x → Once (f x))
      → ((i j : ℕ) (x z : X) (y : Y) → slice_get xs i ≡ Some x → slice_get xs j ≡ Some z → In y (f x) → In y (f z) → i
      ≡ j)
      → Once (flat_map f xs)
  once_flat [] own apart = tt
  once_flat (x ∷ xs) own apart = once_append (f x) (flat_map f xs) (own 0 x refl)
      (once_flat xs (λ i z e. own (suc i) z e)
      (λ i j a b y p q h k. less_one i j (apart (suc i) (suc j) a b y p q h k)))
      (λ y i j. (let k = from_flat xs y j in no_zero k.place (apart 0 (suc k.place) x k.item y refl k.is i k.there)))

map_flat : {X Y Z : Type 0} (g : Y → Z) (f : X → List Y) (xs : List X)
    → map g (flat_map f xs) ≡ flat_map (λ (x : X). map g (f x)) xs
map_flat g f [] = refl
map_flat g f (x ∷ xs) =
    map-append g (f x) (flat_map f xs)
    ∙ ap (λ l. map g (f x) ++ l) (map_flat g f xs)

get_or : (xs : List Site) (i : ℕ) (s : Site) → slice_get xs i ≡ Some s → slice_index_or xs i nobody ≡ s
get_or [] i s e = absurd (cc)
get_or (x ∷ xs) zero s e = cc
get_or (x ∷ xs) (suc i) s e = get_or xs i s e

-- an image has its source
pub record Image {X Y : Type 0} (g : X → Y) (xs : List X) (y : Y) : Type 0 where
  pub item : X
  pub there : In item xs
  pub is : g item ≡ y

pub image_of : {X Y : Type 0} (g : X → Y) (xs : List X) (y : Y) → In y (map g xs) → Image g xs y
image_of g [] y i = absurd i
image_of g (x ∷ xs) y i = elim i [
  | inl e ↦ record { item = x; there = inl refl; is = e }
  | inr j ↦ (let k = image_of g xs y j in record { item = k.item; there = inr k.there; is = k.is })
]

-- ---- an agent that is up

pub at_place : (w : World) (i : ℕ) (s : Site) → slice_get w.agents i ≡ Some s → at w (Agent i) ≡ s.up
unfolding site
at_place w i s e = ap (λ (x : Site). x.up) (get_or w.agents i s e)

-- ---- one holder

compare : (n m : ℕ) → (n < m) ⊎ ((n ≡ m) ⊎ (m < n))
compare zero zero = inr (inl refl)
compare zero (suc m) = inl (omega arith)
compare (suc n) zero = inr (inr (omega arith))
compare (suc n) (suc m) = elim (compare n m) [
  | inl lt ↦ inl (omega arith)
  | inr k ↦ elim k [ inl e ↦ inr (inl (ap suc e)) | inr gt ↦ inr (inr (omega arith)) ]
]

module _ (cfg : ConfigParts) (sound : IsSound cfg) (w : World) (r : Reached cfg w) where
  -- a lease that lives isn't the earlier of two on one range
  not_earlier : (i b n : ℕ) (p : Range) (m : Ip4) (j d k : ℕ) (q : Range) (o : Ip4) → IsLease cfg w i b n p m
      → IsLease cfg w j d k q o → (Dies cfg w n → ⊥) → p ≡ q → n < k → ⊥
  not_earlier i b n p m j d k q o x y lives same lt =
      let gone : IsGone (done cfg w) n =
      (lives_in_world cfg sound w r).ends n k x.born y.born x.birth y.birth lt (x.range_is ∙ same ∙ sym y.range_is) in
      lives (subst (IsDying (done cfg w)) gone.number
      (prepared_by (lease_rules_of cfg) (log w) (effect.Freed gone.row) gone.done).1)

  -- so two held ranges that are one are one lease, of one agent
  one_lease : (i j : ℕ) (a b : AgentLists) (h k : HeldRange) → IsLeased cfg w i a.boot h → IsLeased cfg w j b.boot k
      → h.range ≡ k.range → i ≡ j
  one_lease i j a b h k x y same = elim (compare h.n k.n) [
    | inl lt ↦ absurd (not_earlier i a.boot h.n h.range h.machine j b.boot k.n k.range k.machine
        x.lease y.lease x.lives same lt)
    | inr o ↦ elim o [
      | inl e ↦ (
          let one : x.lease.born ≡ y.lease.born =
          born_once cfg sound w r k.n x.lease.born y.lease.born
          (subst (λ (n : ℕ). IsBorn cfg w n x.lease.born) e x.lease.birth) y.lease.birth in
          sym x.lease.agent_is ∙ ap (λ (row : Row). row.agent) one ∙ y.lease.agent_is)
      | inr gt ↦ absurd (not_earlier j b.boot k.n k.range k.machine i a.boot h.n h.range h.machine
          y.lease x.lease y.lives (sym same) gt)
    ]
  ]

  -- a machine has one agent
  one_agent : (i j : ℕ) (a b : AgentLists) (h k : HeldRange) → IsLeased cfg w i a.boot h → IsLeased cfg w j b.boot k
      → h.machine ≡ k.machine → i ≡ j
  one_agent i j a b h k x y same =
      let p : BirthIs cfg x.lease.born = birth_is cfg sound w r h.n x.lease.born x.lease.birth in
      let q : BirthIs cfg y.lease.born = birth_is cfg sound w r k.n y.lease.born y.lease.birth in
      let machine : x.lease.born.machine ≡ y.lease.born.machine = x.lease.machine_is ∙ same ∙ sym y.lease.machine_is in
      let rule : p.rule ≡ q.rule =
      some_is p.rule q.rule (sym p.rule_is ∙ ap (rule_of (lease_rules_of cfg)) machine ∙ q.rule_is) in
      sym x.lease.agent_is ∙ p.agent ∙ ap (λ (u : MachineRule). u.agent) rule ∙ sym q.agent ∙ y.lease.agent_is
    where
      some_is : (u v : MachineRule) → Some u ≡ Some v → u ≡ v
      some_is u v e = cc

  leased : (i : ℕ) (a : AgentLists) → at w (Agent i) ≡ Some (OfAgent a) → (h : HeldRange) → In h a.traffic.ranges.held
      → IsLeased cfg w i a.boot h
  leased i a is h there =
      each_in (IsLeased cfg w i a.boot) a.traffic.ranges.held h (held_are_leased cfg sound w r i a is) there

  right : (i : ℕ) (a : AgentLists) → at w (Agent i) ≡ Some (OfAgent a) → AgentIsRight cfg w i a
  right i a is = (agents_at cfg sound w r).lists (Agent i) (OfAgent a) is

  -- ---- held ranges

  abbrev ranges_at : Option Lists → List Range
  ranges_at o = map range_held (held_of o)

  abbrev ranges_of : AgentLists → List Range
  ranges_of a = map range_held (map held_by a.traffic.ranges.held)

  once_ranges : (hs : List HeldRange) → AreApart (map lease_of hs) → Once (map range_held (map held_by hs))
  once_ranges [] h = tt
  once_ranges (x ∷ xs) h = (λ i. other xs h.0 i, once_ranges xs h.1)
    where
      other : (ys : List HeldRange) → Each (IsOther (lease_of x)) (map lease_of ys)
          → In x.range (map range_held (map held_by ys)) → ⊥
      other [] k i = i
      other (y ∷ ys) k i = elim i [
        | inl e ↦ (let no : same_range x.range x.range ≡ false = subst
            (λ (q : Range). same_range x.range q ≡ false) e k.0.1 in
            let yes : same_range x.range x.range ≡ true = range_itself x.range in absurd (cc))
        | inr j ↦ other ys k.1 j
      ]

  own_ranges : (i : ℕ) (o : Option Lists) → at w (Agent i) ≡ o → Once (ranges_at o)
  own_ranges i None e = tt
  own_ranges i (Some (OfManager m)) e = tt
  own_ranges i (Some (OfMux m)) e = tt
  own_ranges i (Some (OfAgent a)) e = once_ranges a.traffic.ranges.held (right i a e).apart

  -- the held range of an agent that is this one
  record Holder (i : ℕ) (y : Range) : Type 0 where
    agent : AgentLists
    held_range : HeldRange
    is : IsLeased cfg w i agent.boot held_range
    range_is : held_range.range ≡ y

  holder : (i : ℕ) (o : Option Lists) → at w (Agent i) ≡ o → (y : Range) → In y (ranges_at o) → Holder i y
  holder i None e y there = absurd there
  holder i (Some (OfManager m)) e y there = absurd there
  holder i (Some (OfMux m)) e y there = absurd there
  holder i (Some (OfAgent a)) e y there =
      let k = image_of range_held (map held_by a.traffic.ranges.held) y there in
      let h = image_of held_by a.traffic.ranges.held k.item k.there in
      record {
        agent = a;
        held_range = h.item;
        is = leased i a e h.item h.there;
        range_is = ap range_held h.is ∙ k.is;
      }

  pub held_once : RangesAreHeldOnce w
  unfolding held
  held_once =
      subst Once (sym (map_flat range_held (λ (s : Site). held_of s.up) w.agents))
      (once_flat (λ (s : Site). ranges_at s.up) w.agents
      (λ i s e. own_ranges i s.up (at_place w i s e))
      (λ i j s z y p q h k.
      (let a = holder i s.up (at_place w i s p) y h in let b = holder j z.up (at_place w j z q) y k in
      one_lease i j a.agent b.agent a.held_range b.held_range a.is b.is (a.range_is ∙ sym b.range_is))))

  -- ---- connections

  outer_is : (x : Connection) → outer_end (conn_of x) ≡ public_key x
  unfolding public_key
  outer_is x = refl

  inner_is : (x : Connection) → inner_end (conn_of x) ≡ private_key x
  unfolding private_key
  inner_is x = refl

  once_keys : (end : Conn → FlowKey) (key : Connection → FlowKey) → ((x : Connection) → end (conn_of x) ≡ key x)
      → (cs : List Connection) → OwnKeys key cs → Once (map end (map conn_of cs))
  once_keys end key same [] h = tt
  once_keys end key same (x ∷ xs) h = (λ i. other xs h.0 i, once_keys end key same xs h.1)
    where
      other : (ys : List Connection) → Each (λ (y : Connection). same_key (key x) (key y) ≡ false) ys
          → In (end (conn_of x)) (map end (map conn_of ys)) → ⊥
      other [] k i = i
      other (y ∷ ys) k i = elim i [
        | inl e ↦ (let one : key y ≡ key x = sym (same y) ∙ e ∙ same x in
            let no : same_key (key x) (key x) ≡ false = subst (λ (q : FlowKey). same_key (key x) q ≡ false) one k.0 in
            let yes : same_key (key x) (key x) ≡ true = key_itself (key x) in absurd (cc))
        | inr j ↦ other ys k.1 j
      ]

  own_ends : (end : Conn → FlowKey) (key : Connection → FlowKey) → ((x : Connection) → end (conn_of x) ≡ key x)
      → ((i : ℕ) (a : AgentLists) → at w (Agent i) ≡ Some (OfAgent a) → OwnKeys key a.traffic.conns)
      → (i : ℕ) (o : Option Lists) → at w (Agent i) ≡ o → Once (map end (conns_of o))
  own_ends end key same own i None e = tt
  own_ends end key same own i (Some (OfManager m)) e = tt
  own_ends end key same own i (Some (OfMux m)) e = tt
  own_ends end key same own i (Some (OfAgent a)) e = once_keys end key same a.traffic.conns (own i a e)

  -- a connection of an agent with this end, and the range that it goes through
  record Opener (end : Conn → FlowKey) (i : ℕ) (y : FlowKey) : Type 0 where
    agent : AgentLists
    conn : Connection
    held_range : HeldRange
    is : IsLeased cfg w i agent.boot held_range
    through : GoesThrough held_range conn
    end_is : end (conn_of conn) ≡ y

  opener : (end : Conn → FlowKey) (i : ℕ) (o : Option Lists) → at w (Agent i) ≡ o → (y : FlowKey)
      → In y (map end (conns_of o)) → Opener end i y
  opener end i None e y there = absurd there
  opener end i (Some (OfManager m)) e y there = absurd there
  opener end i (Some (OfMux m)) e y there = absurd there
  opener end i (Some (OfAgent a)) e y there =
      let k = image_of end (map conn_of a.traffic.conns) y there in
      let x = image_of conn_of a.traffic.conns k.item k.there in
      let h : HasRange a.traffic.ranges.held x.item =
      each_in (HasRange a.traffic.ranges.held) a.traffic.conns x.item (right i a e).through.ranged x.there in
      record {
        agent = a;
        conn = x.item;
        held_range = h.range;
        is = leased i a e h.range h.there;
        through = h.through;
        end_is = ap end x.is ∙ k.is;
      }

  same_outer : (i j : ℕ) (y : FlowKey) → Opener outer_end i y → Opener outer_end j y → i ≡ j
  same_outer i j y a b =
      let one : outer_end (conn_of a.conn) ≡ outer_end (conn_of b.conn) = a.end_is ∙ sym b.end_is in
      let vip : a.conn.vip ≡ b.conn.vip = ap (λ (k : FlowKey). k.src) one in
      let port : a.conn.port ≡ b.conn.port = ap (λ (k : FlowKey). k.sport) one in
      one_lease i j a.agent b.agent a.held_range b.held_range a.is b.is
      (a.through.range ∙ ap (λ (v : Ip4). range_of v a.conn.port) vip ∙ ap (λ (p : ℕ). range_of b.conn.vip p) port
      ∙ sym b.through.range)

  same_inner : (i j : ℕ) (y : FlowKey) → Opener inner_end i y → Opener inner_end j y → i ≡ j
  same_inner i j y a b =
      let one : inner_end (conn_of a.conn) ≡ inner_end (conn_of b.conn) = a.end_is ∙ sym b.end_is in
      one_agent i j a.agent b.agent a.held_range b.held_range a.is b.is
      (a.through.machine ∙ ap (λ (k : FlowKey). k.src) one ∙ sym b.through.machine)

  ends_once : (end : Conn → FlowKey) (key : Connection → FlowKey) → ((x : Connection) → end (conn_of x) ≡ key x)
      → ((i : ℕ) (a : AgentLists) → at w (Agent i) ≡ Some (OfAgent a) → OwnKeys key a.traffic.conns)
      → ((i j : ℕ) (y : FlowKey) → Opener end i y → Opener end j y → i ≡ j)
      → Once (map end (flat_map (λ (s : Site). conns_of s.up) w.agents))
  ends_once end key same own apart =
      subst Once (sym (map_flat end (λ (s : Site). conns_of s.up) w.agents))
      (once_flat (λ (s : Site). map end (conns_of s.up)) w.agents
      (λ i s e. own_ends end key same own i s.up (at_place w i s e))
      (λ i j s z y p q h k. apart i j y (opener end i s.up (at_place w i s p) y h)
      (opener end j z.up (at_place w j z q) y k)))

  held_in : (hs : List Held) (a : AgentLists) → ((h : HeldRange) → In h a.traffic.ranges.held → In (held_by h) hs)
      → (cs : List Connection) → Each (HasRange a.traffic.ranges.held) cs → Each (IsHeld hs) (map conn_of cs)
  held_in hs a has [] k = tt
  held_in hs a has (x ∷ xs) k = (
    record {
      range = held_by k.0.range;
      there = has k.0.range k.0.there;
      machine = k.0.through.machine;
      is = k.0.through.range;
    },
    held_in hs a has xs k.1,
  )

  all_held : (i : ℕ) (s : Site) → slice_get w.agents i ≡ Some s → (o : Option Lists) → s.up ≡ o
      → Each (IsHeld (flat_map (λ (z : Site). held_of z.up) w.agents)) (conns_of o)
  all_held i s e None up = tt
  all_held i s e (Some (OfManager m)) up = tt
  all_held i s e (Some (OfMux m)) up = tt
  all_held i s e (Some (OfAgent a)) up =
      held_in (flat_map (λ (z : Site). held_of z.up) w.agents) a
      (λ h there. in_flat (λ (z : Site). held_of z.up) w.agents i s (held_by h) e
      (subst (λ (o : Option Lists). In (held_by h) (held_of o)) (sym up)
      (in_map held_by a.traffic.ranges.held h there)))
      a.traffic.conns (right i a (at_place w i s e ∙ up)).through.ranged

  pub conns_apart : ConnsAreApart w
  unfolding conns held
  conns_apart = record {
    outer = ends_once outer_end public_key outer_is (λ i a is. (right i a is).keys.public_keys) same_outer;
    inner = ends_once inner_end private_key inner_is (λ i a is. (right i a is).keys.private_keys) same_inner;
    through = each_flat (λ (s : Site). conns_of s.up) (IsHeld (flat_map (λ (z : Site). held_of z.up) w.agents)) w.agents
        (λ i s e. all_held i s e s.up refl);
  }
