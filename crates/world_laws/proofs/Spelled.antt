-- What muxes and agents say is spelled in bytes.
use Rattle.std.proofs.Common.{ℕ, zero, suc, ◌<◌, ◌^◌, ◌/◌, List, [], ◌∷◌, ◌++◌, arith}
use Rattle.std.specs.Int.{byte_at, bytes_high_first}
use Rattle.std.proofs.Math.Nat.{mod-lt}
use Rattle.wire_core.specs.Numbers.{number_bytes, AreBytes}
use Rattle.control_msg.specs.declared.message.Message.TheVariants as message
use Rattle.control_msg.specs.Messages.{spelled, number, address, port, byte}
use Rattle.node_spec.specs.Sends.{Said, Says, Carries}
use Rattle.world_laws.specs.Sayings.{IsOfMux, IsOfAgent}
use Rattle.world_laws.specs.Hearing.{IsSpelled}

byte_below : (i n : ℕ) → byte_at i n < 256
byte_below zero n = mod-lt n (omega arith)
byte_below (suc i) n = mod-lt (n / 256 ^ suc i) (omega arith)

pub none_bytes : AreBytes []
none_bytes k = omega arith

pub one_more : (b : ℕ) (bs : List ℕ) → b < 256 → AreBytes bs → AreBytes (b ∷ bs)
one_more b bs lt h zero = lt
one_more b bs lt h (suc k) = h k

pub joined : (cs bs : List ℕ) → AreBytes cs → AreBytes bs → AreBytes (cs ++ bs)
joined [] bs h k = k
joined (c ∷ cs) bs h k = one_more c (cs ++ bs) (h 0) (joined cs bs (λ i. h (suc i)) k)

high_bytes : (k n : ℕ) → AreBytes (bytes_high_first k n)
high_bytes zero n = none_bytes
high_bytes (suc k) n = one_more (byte_at k n) (bytes_high_first k n) (byte_below k n) (high_bytes k n)

pub in_bytes : (k n : ℕ) → AreBytes (number_bytes k n)
unfolding number_bytes
in_bytes k n = high_bytes k n

pub spelled_in : (kind : ℕ) (fields : List ℕ) → kind < 256 → AreBytes fields → AreBytes (spelled kind fields)
spelled_in kind fields lt h = one_more 1 (kind ∷ fields) (omega arith) (one_more kind fields lt h)

-- three numbers, one after the other
numbers : (a b c : ℕ) → AreBytes (number a ++ number b ++ number c)
numbers a b c = joined (number a ++ number b) (number c) (joined (number a) (number b) (in_bytes 8 a) (in_bytes 8 b)) (in_bytes 8 c)

pub mux_spelled : (own : ℕ) (said : Said) → IsOfMux own said → IsSpelled said
mux_spelled own (Says (message.MuxHello boot epoch)) h =
    spelled_in 15 _ (omega arith) (joined (number boot) (number epoch) (in_bytes 8 boot) (in_bytes 8 epoch))
mux_spelled own (Says (message.Programmed epoch boot n)) h = spelled_in 17 _ (omega arith) (numbers epoch boot n)
mux_spelled own (Says (message.Unprogrammed epoch boot n)) h = spelled_in 19 _ (omega arith) (numbers epoch boot n)
mux_spelled own (Says (message.MuxRefuse epoch boot kept)) h = spelled_in 20 _ (omega arith) (numbers epoch boot kept)
mux_spelled own (Says (message.RedirectAsk src sport dst dport machine)) h = spelled_in 22 _ (omega arith)
    (joined _ (address machine) (joined _ (port dport) (joined _ (address dst) (joined (address src) (port sport)
    (in_bytes 4 src.0) (in_bytes 2 sport)) (in_bytes 4 dst.0)) (in_bytes 2 dport)) (in_bytes 4 machine.0))
mux_spelled own (Says (message.Redirect side n src sport dst dport opener server)) h =
    let first : List ℕ = byte side ++ number n ++ address src ++ port sport in
    let second : List ℕ = first ++ address dst ++ port dport ++ address opener in
    let ends : AreBytes first = joined (byte side ++ number n ++ address src) (port sport)
    (joined (byte side ++ number n) (address src) (joined (byte side) (number n)
    (one_more side [] (omega arith) none_bytes) (in_bytes 8 n)) (in_bytes 4 src.0)) (in_bytes 2 sport) in
    let rest : AreBytes second = joined (first ++ address dst ++ port dport) (address opener)
    (joined (first ++ address dst) (port dport) (joined first (address dst) ends (in_bytes 4 dst.0)) (in_bytes 2 dport))
    (in_bytes 4 opener.0) in
    spelled_in 23 (second ++ address server) (omega arith) (joined second (address server) rest (in_bytes 4 server.0))
mux_spelled own (Says (message.Prepare c)) h = absurd h
mux_spelled own (Says (message.Promise c l vote value)) h = absurd h
mux_spelled own (Says (message.Accept c t v)) h = absurd h
mux_spelled own (Says (message.Accepted c t)) h = absurd h
mux_spelled own (Says (message.Refuse c p)) h = absurd h
mux_spelled own (Says (message.Chosen t c v)) h = absurd h
mux_spelled own (Says (message.Fetch t)) h = absurd h
mux_spelled own (Says (message.Ask boot machine seq)) h = absurd h
mux_spelled own (Says (message.Grant boot machine seq n vip start)) h = absurd h
mux_spelled own (Says (message.Denied boot machine seq reason number)) h = absurd h
mux_spelled own (Says (message.Return boot n)) h = absurd h
mux_spelled own (Says (message.Returned boot n)) h = absurd h
mux_spelled own (Says (message.AgentUp boot)) h = absurd h
mux_spelled own (Says (message.AgentKnown boot)) h = absurd h
mux_spelled own (Says (message.Program epoch boot n vip start machine)) h = absurd h
mux_spelled own (Says (message.Unprogram epoch boot n vip start)) h = absurd h
mux_spelled own (Says (message.Lead ballot length)) h = absurd h
mux_spelled own (Carries packet) h = tt

pub agent_spelled : (own : ℕ) (returning : List ℕ) (said : Said) → IsOfAgent own returning said → IsSpelled said
agent_spelled own returning (Says (message.Ask boot machine seq)) h = spelled_in 8 _ (omega arith)
    (joined _ (number seq) (joined (number boot) (address machine) (in_bytes 8 boot) (in_bytes 4 machine.0)) (in_bytes 8 seq))
agent_spelled own returning (Says (message.Return boot n)) h =
    spelled_in 11 _ (omega arith) (joined (number boot) (number n) (in_bytes 8 boot) (in_bytes 8 n))
agent_spelled own returning (Says (message.AgentUp boot)) h = spelled_in 13 _ (omega arith) (in_bytes 8 boot)
agent_spelled own returning (Says (message.Prepare c)) h = absurd h
agent_spelled own returning (Says (message.Promise c l vote value)) h = absurd h
agent_spelled own returning (Says (message.Accept c t v)) h = absurd h
agent_spelled own returning (Says (message.Accepted c t)) h = absurd h
agent_spelled own returning (Says (message.Refuse c p)) h = absurd h
agent_spelled own returning (Says (message.Chosen t c v)) h = absurd h
agent_spelled own returning (Says (message.Fetch t)) h = absurd h
agent_spelled own returning (Says (message.Grant boot machine seq n vip start)) h = absurd h
agent_spelled own returning (Says (message.Denied boot machine seq reason number)) h = absurd h
agent_spelled own returning (Says (message.Returned boot n)) h = absurd h
agent_spelled own returning (Says (message.AgentKnown boot)) h = absurd h
agent_spelled own returning (Says (message.MuxHello boot epoch)) h = absurd h
agent_spelled own returning (Says (message.Program epoch boot n vip start machine)) h = absurd h
agent_spelled own returning (Says (message.Programmed epoch boot n)) h = absurd h
agent_spelled own returning (Says (message.Unprogram epoch boot n vip start)) h = absurd h
agent_spelled own returning (Says (message.Unprogrammed epoch boot n)) h = absurd h
agent_spelled own returning (Says (message.MuxRefuse epoch boot kept)) h = absurd h
agent_spelled own returning (Says (message.Lead ballot length)) h = absurd h
agent_spelled own returning (Says (message.RedirectAsk src sport dst dport machine)) h = absurd h
agent_spelled own returning (Says (message.Redirect side n src sport dst dport opener server)) h = absurd h
agent_spelled own returning (Carries packet) h = tt
