-- The messages of the agreement among what a replica sends.
use Rattle.std.proofs.Common.{◌≡◌, refl, ℕ, zero, suc, List, [], ◌∷◌, ◌++◌, map, take, Option, Some, None}
use Rattle.std.specs.Prelude.{nat_lt, length}
use Rattle.std.specs.List.{flat_map}
use Rattle.std.proofs.lemmas.Grind.{flat_map-append}
use Rattle.wire_core.specs.Members.{Each}
use Rattle.vip_config.specs.declared.parts.ConfigParts.{ConfigParts}
use Rattle.vip_config.specs.Serving.{agent_with}
use Rattle.lease_spec.specs.declared.row.Row.{Row}
use Rattle.lease_spec.specs.declared.effect.Effect.{Effect}
use Rattle.lease_spec.specs.declared.effect.Effect.TheVariants as effect
use Rattle.lease_spec.specs.Table.{row_at, is_being, is_freeing}
use Rattle.paxos_spec.specs.declared.mail.Body.{Body}
use Rattle.paxos_spec.specs.declared.mail.Body.TheVariants as body
use Rattle.paxos_spec.specs.declared.mail.Mail.{Mail}
use Rattle.node_spec.specs.Sends.{Send}
use Rattle.manager_spec.specs.declared.peer.Peer.{Peer}
use Rattle.manager_spec.specs.Manager.{Manager, message_of, mailed}
use Rattle.manager_spec.specs.Known.{near, marks_at, is_acked}
use Rattle.manager_spec.specs.Orders.{program, unprogram, denied, exhausted, at_limit, program_new, order_of, orders_of}
use Rattle.manager_spec.specs.Orders.{push_one, push_row, push}
use Rattle.manager_spec.specs.Agreement.{body_in, mail_at, mails_in}
use Rattle.manager_spec.proofs.Choices.{by_if}

-- a send that is nothing of the agreement
abbrev pub IsMute : ℕ → Send → Type 0
IsMute me x = mail_at me x.to x.said ≡ []

-- its own mails
abbrev pub AreOwn : ℕ → List Mail → Type 0
AreOwn me xs = Each (λ (x : Mail). x.sender ≡ me) xs

pub mails_append : (me : ℕ) (xs ys : List Send) → mails_in me (xs ++ ys) ≡ mails_in me xs ++ mails_in me ys
unfolding mails_in
mails_append me xs ys = flat_map-append (λ (x : Send). mail_at me x.to x.said) xs ys

body_back : (b : Body) → body_in (message_of b) ≡ Some b
body_back (body.Prepare c) = refl
body_back (body.Promise c l vote value) = refl
body_back (body.Accept c s v) = refl
body_back (body.Accepted c s) = refl
body_back (body.Refuse c p) = refl
body_back (body.Chosen s c v) = refl
body_back (body.Fetch s) = refl

mail_back : (me : ℕ) (x : Mail) → x.sender ≡ me → mail_at me (mailed x).to (mailed x).said ≡ x ∷ []
mail_back me x e = rw (body_back x.body, ← e) refl

-- what the agreement says is told as it is
pub own_mails : (me : ℕ) (xs : List Mail) → AreOwn me xs → mails_in me (map mailed xs) ≡ xs
unfolding mails_in
own_mails me [] h = refl
own_mails me (x ∷ xs) h = rw (mail_back me x h.0, own_mails me xs h.1) refl

pub mute_mails : (me : ℕ) (xs : List Send) → Each (IsMute me) xs → mails_in me xs ≡ []
unfolding mails_in
mute_mails me [] h = refl
mute_mails me (x ∷ xs) h = rw (h.0, mute_mails me xs h.1) refl

-- ---- each of a list

pub each_append : {X : Type 0} (P : X → Type 0) (xs ys : List X) → Each P xs → Each P ys → Each P (xs ++ ys)
each_append P [] ys h k = k
each_append P (x ∷ xs) ys h k = (h.0, each_append P xs ys h.1 k)

pub each_map : {X Y : Type 0} (P : Y → Type 0) (f : X → Y) → ((x : X) → P (f x)) → (xs : List X) → Each P (map f xs)
each_map P f h [] = tt
each_map P f h (x ∷ xs) = (h x, each_map P f h xs)

pub each_flat : {X Y : Type 0} (P : Y → Type 0) (f : X → List Y) → ((x : X) → Each P (f x)) → (xs : List X)
    → Each P (flat_map f xs)
each_flat P f h [] = tt
each_flat P f h (x ∷ xs) = each_append P (f x) _ (h x) (each_flat P f h xs)

pub each_take : {X : Type 0} (P : X → Type 0) (n : ℕ) (xs : List X) → Each P xs → Each P (take n xs)
each_take P zero xs h = tt
each_take P (suc n) [] h = tt
each_take P (suc n) (x ∷ xs) h = (h.0, each_take P n xs h.1)

-- ---- orders and the push are nothing of the agreement

new_mute : (me epoch : ℕ) (peers : List Peer) (o : Option Row) → Each (IsMute me) (program_new epoch peers o)
new_mute me epoch peers None = tt
new_mute me epoch peers (Some row) =
    by_if (Each (IsMute me)) (is_being row.phase) (λ _. each_map (IsMute me) (program epoch row) (λ p. refl) peers)
    (λ _. tt)

denied_mute : (me : ℕ) (o : Option ℕ) (boot : ℕ) (machine : Rattle.wire_core.specs.declared.address.Ip4.Ip4)
    (seq reason number : ℕ)
    → Each (IsMute me) (denied o boot machine seq reason number)
denied_mute me None boot machine seq reason number = tt
denied_mute me (Some agent) boot machine seq reason number = (refl, tt)

order_mute : (cfg : ConfigParts) (me epoch : ℕ) (peers : List Peer) (rows : List Row) (e : Effect)
    → Each (IsMute me) (order_of cfg epoch peers rows e)
order_mute cfg me epoch peers rows (effect.Reserved row) = new_mute me epoch peers (row_at rows row.n)
order_mute cfg me epoch peers rows (effect.Exhausted machine boot seq place) =
    denied_mute me (agent_with cfg machine) boot machine seq exhausted place
order_mute cfg me epoch peers rows (effect.AtLimit machine boot seq count) =
    denied_mute me (agent_with cfg machine) boot machine seq at_limit count
order_mute cfg me epoch peers rows (effect.Granted row) = (refl, tt)
order_mute cfg me epoch peers rows (effect.Released row) =
    (refl, each_map (IsMute me) (unprogram epoch row) (λ p. refl) peers)
order_mute cfg me epoch peers rows (effect.Freed row) = tt
order_mute cfg me epoch peers rows (effect.Known agent boot) =
    by_if (Each (IsMute me)) (nat_lt agent (length cfg.agents)) (λ _. (refl, tt)) (λ _. tt)
order_mute cfg me epoch peers rows (effect.Cleared row) = tt

pub orders_mute : (cfg : ConfigParts) (me epoch : ℕ) (peers : List Peer) (rows : List Row) (es : List Effect)
    → Each (IsMute me) (orders_of cfg epoch peers rows es)
unfolding orders_of
orders_mute cfg me epoch peers rows es =
    each_flat (IsMute me) (order_of cfg epoch peers rows) (order_mute cfg me epoch peers rows) es

pub push_mute : (cfg : ConfigParts) (me : ℕ) (r : Manager) → Each (IsMute me) (push cfg r)
unfolding push
push_mute cfg me r = each_take (IsMute me) 64 _ (each_flat (IsMute me) (push_row cfg r) of_row _)
  where
    one : (row : Row) (p : Peer)
        → Each (IsMute me) (push_one r.memory.leader.ballot row (marks_at r.acks row.n) p)
    one row p = by_if (Each (IsMute me)) (is_freeing row.phase)
        (λ _. by_if (Each (IsMute me)) (is_acked (marks_at r.acks row.n).unprogrammed p) (λ _. tt) (λ _. (refl, tt)))
        (λ _. by_if (Each (IsMute me)) (is_acked (marks_at r.acks row.n).programmed p) (λ _. tt) (λ _. (refl, tt)))

    of_row : (row : Row) → Each (IsMute me) (push_row cfg r row)
    of_row row =
        each_flat (IsMute me) (push_one r.memory.leader.ballot row (marks_at r.acks row.n)) (one row) (near cfg r)
