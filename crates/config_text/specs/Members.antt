-- The members of an object and of a list, each with its path.
use Rattle.std.specs.Prelude.{ℕ, suc, Bool, not, ◌&&◌, nat_le, List, [], ◌∷◌, ◌++◌, Option, Some, None, option_and_then}
use Rattle.std.specs.Prelude.{Result, Ok, Err, if◌then◌else◌, codes}
use Rattle.std.specs.Fmt.{decimal}
use Rattle.std.specs.Cmp.Lexicographic.{slice_cmp}
use Rattle.std.specs.List.{filter, list_any}
use Rattle.std.specs.Option.{option_map}
use Rattle.std.specs.Ordering.{match_ordering, nat_cmp}
use Rattle.std.specs.Str.{bytes_eq}
use Rattle.serde_json.specs.Data.{Data, Items, no_items, item, Members, no_members, member}
use Rattle.serde_json.specs.Events.{items_len}
use Rattle.serde_json.specs.Find.{as_array, as_number, as_object, as_str, as_u64, get}
use Rattle.wire_core.specs.declared.address.Ip4.{Ip4}
use Rattle.wire_core.specs.declared.address.Socket.{Socket}
use Rattle.wire_core.specs.declared.flow.Proto.{Proto}
use Rattle.wire_core.specs.declared.flow.Proto.TheVariants.{Tcp, Udp}
use Rattle.address_text.specs.Addresses.{address_of, socket_of}
use Rattle.config_text.specs.declared.place.Path.{Path}
use Rattle.config_text.specs.declared.place.Place.{Place}
use Rattle.config_text.specs.declared.place.Path.TheVariants as path
use Rattle.serde_json.specs.View.{view}
use Rattle.config_text.specs.Faults.{Fault, field, given, ◌>>=◌}

-- ---- single values; None for any other

-- a number from 0, spelled without fraction or exponent, below 2 ^ 64
abbrev pub whole_in : Data → Option ℕ
whole_in d = option_and_then as_u64 (as_number d)

abbrev pub within : ℕ → ℕ → ℕ → Option ℕ
within low high n = if nat_le low n && nat_le n high then Some n else None

abbrev pub number_in : ℕ → ℕ → Data → Option ℕ
number_in low high d = option_and_then (within low high) (whole_in d)

abbrev pub port_in : Data → Option ℕ
port_in = number_in 1 65535

abbrev pub address_in : Data → Option Ip4
address_in d = option_and_then address_of (as_str d)

abbrev pub socket_in : Data → Option Socket
socket_in d = option_and_then socket_of (as_str d)

abbrev pub proto_of : List ℕ → Option Proto
proto_of text = if bytes_eq text (codes "tcp") then Some Tcp else if bytes_eq text (codes "udp") then Some Udp else None

abbrev pub proto_in : Data → Option Proto
proto_in d = option_and_then proto_of (as_str d)

-- ---- paths

-- a value, and its path: None for the whole text
pub record At : Type 0 where
  pub path : Option (List ℕ)
  pub value : Data

-- the path of a member of a list with this path
abbrev pub item_path : List ℕ → ℕ → List ℕ
item_path path index = path ++ (codes "[" ++ decimal index ++ codes "]")

abbrev pub path_of : Path → Option (List ℕ)
path_of path.Whole = None
path_of (path.Named text) = Some text.now
path_of (path.Item list index) = Some (item_path list.now index)

abbrev pub at : Place → At
at place = record { path = path_of place.path; value = view place.value.now }

-- the path of the value at a key of an object with this path
abbrev pub key_path : Option (List ℕ) → List ℕ → List ℕ
key_path None key = key
key_path (Some path) key = path ++ codes "." ++ key

abbrev pub own_path : Option (List ℕ) → List ℕ
own_path None = []
own_path (Some path) = path

-- ---- objects

-- the value at a key; where it is missing or wrong, its path
abbrev pub member_at : {A : Type 0} → (Data → Option A) → At → List ℕ → Result A Fault
member_at read o key = given (key_path o.path key) (option_and_then read (get key o.value))

abbrev pub keys_of : Members → List (List ℕ)
keys_of no_members = []
keys_of (member key d ms) = key ∷ keys_of ms

abbrev pub is_among : List (List ℕ) → List ℕ → Bool
is_among listed key = list_any (bytes_eq key) listed

abbrev pub lesser : List ℕ → Option (List ℕ) → List ℕ
lesser key None = key
lesser key (Some other) = match_ordering (slice_cmp nat_cmp key other) key key other

-- the least in byte order
abbrev pub least : List (List ℕ) → Option (List ℕ)
least [] = None
least (key ∷ keys) = Some (lesser key (least keys))

-- the least key of an object that isn't listed
abbrev pub unlisted : List (List ℕ) → Data → Option (List ℕ)
unlisted listed d = option_and_then (λ ms. least (filter (λ key. not (is_among listed key)) (keys_of ms))) (as_object d)

abbrev pub refused : Option (List ℕ) → Option (List ℕ) → Result (Unit {0}) Fault
refused path None = Ok tt
refused path (Some key) = Err (field (key_path path key))

-- no other keys
abbrev pub nothing_but : List (List ℕ) → At → Result (Unit {0}) Fault
nothing_but listed o = refused o.path (unlisted listed o.value)

-- a value that is an object
abbrev pub object : At → Result (Unit {0}) Fault
object p = given (own_path p.path) (option_map (λ members. tt) (as_object p.value))

-- the value at a key
abbrev pub child : At → List ℕ → Result At Fault
child o key = given (key_path o.path key) (get key o.value)
    >>= λ d. Ok (record { path = Some (key_path o.path key); value = d })

-- ---- lists

-- each member of a list, the first at this index
abbrev pub each : {A : Type 0} → (At → Result A Fault) → List ℕ → ℕ → Items → Result (List A) Fault
each read path index no_items = Ok []
each read path index (item d ds) =
    read (record { path = Some (item_path path index); value = d })
    >>= λ x. each read path (suc index) ds >>= λ xs. Ok (x ∷ xs)

abbrev pub is_of_length : ℕ → ℕ → Items → Bool
is_of_length low high ds = nat_le low (items_len ds) && nat_le (items_len ds) high

abbrev pub list_of_length : ℕ → ℕ → Data → Option Items
list_of_length low high d = option_and_then (λ ds. if is_of_length low high ds then Some ds else None) (as_array d)

-- the list at a key: its length is tested before its members
abbrev pub list_at : {A : Type 0} → (At → Result A Fault) → ℕ → ℕ → At → List ℕ → Result (List A) Fault
list_at read low high o key = member_at (list_of_length low high) o key >>= each read (key_path o.path key) 0

-- a list's member that is a single value
abbrev pub single : {A : Type 0} → (Data → Option A) → At → Result A Fault
single read p = given (own_path p.path) (read p.value)
