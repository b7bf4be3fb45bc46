-- What is said to some replicas, rows as their steps, and messages in a row.
use Rattle.std.proofs.Common.{◌≡◌, refl, sym, ap, ◌∙◌, ℕ, zero, suc, ◌-◌, Bool, true, false, List, [], ◌∷◌, ◌++◌, map, length, take, append_assoc, append-nil, arith}
use Rattle.std.specs.List.{flat_map}
use Rattle.wire_core.specs.declared.node.NodeId.TheVariants.{Replica}
use Rattle.wire_core.specs.declared.outgoing.Outgoing.{Outgoing}
use Rattle.wire_core.specs.declared.step.Step.{Step}
use Rattle.vip_config.specs.declared.parts.ConfigParts.{ConfigParts}
use Rattle.paxos_spec.specs.declared.mail.Body.{Body}
use Rattle.paxos_spec.specs.Replica.{mail}
use Rattle.node_spec.specs.Sends.{Send, tell, tell_each}
use Rattle.node_spec.specs.Turns.{Turn, also}
use Rattle.node_spec.specs.Steps.{outgoing, with_sends, onto}
use Rattle.node_spec.proofs.Turning.{flat_append, onto_also}
use Rattle.manager_spec.specs.Manager.{Manager, mailed, message_of}
use Rattle.manager_spec.specs.Proposal.{propose}

pub mailed_each : (me : ℕ) (body : Body) (xs : List ℕ)
    → map mailed (map (mail me body) xs) ≡ tell_each xs (message_of body)
mailed_each me body [] = refl
mailed_each me body (x ∷ xs) =
    ap (λ (ys : List Send). tell (Replica x) (message_of body) ∷ ys) (mailed_each me body xs)

-- ---- with the proposal

pub proposed_onto : (c : ConfigParts) (o : Step) (t : Turn Manager)
    → onto c (onto c o t) (propose c t.state) ≡ onto c o (also t (propose c))
proposed_onto c o t = onto_also c o t (propose c)

-- ---- several messages

pub flat_three : (f : Send → List Outgoing) (xs ys zs : List Send)
    → flat_map f (xs ++ (ys ++ zs)) ≡ flat_map f xs ++ (flat_map f ys ++ flat_map f zs)
flat_three f xs ys zs = flat_append f xs (ys ++ zs) ∙ ap (λ (os : List Outgoing). flat_map f xs ++ os) (flat_append f ys zs)

take_both : (n : ℕ) (xs ys : List Send) → take n (xs ++ ys) ≡ take n xs ++ take (n - length xs) ys
take_both zero xs ys = let e : 0 - length xs ≡ 0 = omega arith in rw e refl
take_both (suc n) [] ys = let e : suc n - 0 ≡ suc n = omega arith in rw e refl
take_both (suc n) (x ∷ xs) ys =
    let e : suc n - length (x ∷ xs) ≡ n - length xs = omega arith in
    rw e (ap (λ (zs : List Send). x ∷ zs) (take_both n xs ys))

-- the first of some, and the first of the rest where there is room
pub pushed_next : (c : ConfigParts) (out : Step) (n : ℕ) (xs ys : List Send)
    → with_sends (flat_map (outgoing c) (take (n - length xs) ys)) (with_sends (flat_map (outgoing c) (take n xs)) out)
    ≡ with_sends (flat_map (outgoing c) (take n (xs ++ ys))) out
pushed_next c out n xs ys = ap (λ (os : List Outgoing). record out { sends = os })
    (append_assoc out.sends (flat_map (outgoing c) (take n xs)) (flat_map (outgoing c) (take (n - length xs) ys))
    ∙ ap (λ (os : List Outgoing). out.sends ++ os)
    (sym (flat_append (outgoing c) (take n xs) (take (n - length xs) ys))
    ∙ ap (flat_map (outgoing c)) (sym (take_both n xs ys))))

pub none_pushed : (c : ConfigParts) (out : Step) (n : ℕ) (xs : List Send) → xs ≡ []
    → with_sends (flat_map (outgoing c) (take n xs)) out ≡ out
none_pushed c out zero [] e = ap (λ (os : List Outgoing). record out { sends = os }) (append-nil out.sends)
none_pushed c out (suc n) [] e = ap (λ (os : List Outgoing). record out { sends = os }) (append-nil out.sends)
none_pushed c out n (x ∷ xs) e = absurd (cc)

pub no_room : (c : ConfigParts) (out : Step) (xs : List Send)
    → with_sends (flat_map (outgoing c) (take 0 xs)) out ≡ out
no_room c out xs = ap (λ (os : List Outgoing). record out { sends = os }) (append-nil out.sends)
