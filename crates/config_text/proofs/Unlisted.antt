-- The least key of a map that isn't listed, where the keys stand in order.
use Rattle.std.proofs.Common.{◌≡◌, ℕ, List, [], ◌∷◌, map, filter, find, Bool, true, false, not, Option, Some, None}
use Rattle.std.proofs.Common.{option_map, cond, Bor, String, Global, Less, string_bytes, string_cmp, bytes_eq, refl}
use Rattle.std.proofs.Common.{sym, ap, ◌∙◌}
use Rattle.std.specs.List.{AllByRecursion, list_any}
use Rattle.std.specs.List.Sorted.{IsStrictlySortedBy}
use Rattle.std.specs.Map.{keys_of as stored_keys}
use Rattle.std.specs.Option.{option_and_then, option_copied}
use Rattle.serde_json.specs.Data.{Data}
use Rattle.serde_json.specs.Find.{as_object}
use Rattle.serde_json.specs.View.{members_view}
use Rattle.serde_json.specs.declared.value.Value.{Value}
use Rattle.config_text.specs.Members.{is_among, keys_of, least, lesser, unlisted}

-- whether a listed text is this key, as the code and as the definition ask it
abbrev known : List (Bor (List ℕ)) → List ℕ → Bool
known listed key = list_any (λ (other : Bor (List ℕ)). bytes_eq key other.now) listed

abbrev texts : List (Bor (List ℕ)) → List (List ℕ)
texts listed = map (λ (k : Bor (List ℕ)). k.now) listed

among : (listed : List (Bor (List ℕ))) (key : List ℕ) → is_among (texts listed) key ≡ known listed key
among [] key = refl
among (k ∷ ks) key = rw (among ks key) refl

chosen : (b : Bool) (key next : String Global) (rest : Option (String Global)) → string_cmp key next ≡ Less
    → lesser (string_bytes key) (option_map string_bytes rest) ≡ string_bytes key
    → lesser (string_bytes key) (option_map string_bytes (cond b (Some next) rest)) ≡ string_bytes key
chosen true key next rest less others = rw less refl
chosen false key next rest less others = others

-- a key below all of these is the lesser one beside any of them
below : (key : String Global) (test : String Global → Bool) (keys : List (String Global))
    → AllByRecursion (λ other. string_cmp key other ≡ Less) keys
    → lesser (string_bytes key) (option_map string_bytes (find test keys)) ≡ string_bytes key
below key test [] h = refl
below key test (next ∷ keys) h = chosen (test next) key next (find test keys) h.0 (below key test keys h.1)

next : (b c : Bool) (key : String Global) (found : Option (String Global)) (others : List (List ℕ)) → b ≡ c
    → least others ≡ option_map string_bytes found
    → lesser (string_bytes key) (option_map string_bytes found) ≡ string_bytes key
    → least (cond (not b) (string_bytes key ∷ others) others) ≡ option_map string_bytes (cond (not c) (Some key) found)
next true true key found others e h less = h
next true false key found others e h less = absurd cc
next false true key found others e h less = absurd cc
next false false key found others e h less = ap (λ (o : Option (List ℕ)). Some (lesser (string_bytes key) o)) h
    ∙ ap Some less

first_is_least : (listed : List (Bor (List ℕ))) (es : List (String Global × Value))
    → IsStrictlySortedBy string_cmp (stored_keys es)
    → least (filter (λ key. not (is_among (texts listed) key)) (keys_of (members_view es)))
    ≡ option_map string_bytes (find (λ key. not (known listed (string_bytes key))) (stored_keys es))
unfolding IsStrictlySortedBy
first_is_least listed [] h = refl
first_is_least listed (e ∷ es) h =
    next (is_among (texts listed) (string_bytes e.0)) (known listed (string_bytes e.0)) e.0 _ _
    (among listed (string_bytes e.0)) (first_is_least listed es h.1)
    (below e.0 (λ key. not (known listed (string_bytes key))) (stored_keys es) h.0)

copied : (r : Option (Bor (String Global)))
    → option_map (λ (key : Bor (String Global)). string_bytes key.now) r ≡ option_map string_bytes (option_copied r)
copied None = refl
copied (Some x) = refl

pub unlisted_is : (listed : List (Bor (List ℕ))) (es : List (String Global × Value)) (d : Data)
    (r : Option (Bor (String Global))) → Some (members_view es) ≡ as_object d
    → IsStrictlySortedBy string_cmp (stored_keys es)
    → option_copied r ≡ find (λ key. not (known listed (string_bytes key))) (stored_keys es)
    → option_map (λ (key : Bor (String Global)). string_bytes key.now) r ≡ unlisted (texts listed) d
unlisted_is listed es d r is ordered found =
    copied r ∙ ap (option_map string_bytes) found ∙ sym (first_is_least listed es ordered)
    ∙ ap (option_and_then (λ ms. least (filter (λ key. not (is_among (texts listed) key)) (keys_of ms)))) is
