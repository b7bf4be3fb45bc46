-- Bytes that are JSON, and bytes that aren't.
use Rattle.std.proofs.Common.{◌≡◌, ℕ, List, Bool, true, false, cond, Option, Some, None, Ok, Err, refl, ap, rules}
use Rattle.std.specs.Str.{IsUtf8, is_utf8}
use Rattle.std.proofs.lemmas.Str.{IsUtf8-from_is_utf8, is_utf8-from_IsUtf8}
use Rattle.serde_json.specs.Data.{Data}
use Rattle.serde_json.specs.Read.{read}
use Rattle.config_text.specs.Faults.{json}
use Rattle.config_text.specs.Form.{json_of, or_json}

read_as : (b : Bool) (r : Option Data) (d : Data) → b ≡ true → r ≡ Some d → or_json (cond b r None) ≡ Ok d
read_as true r d e h = ap or_json h
read_as false r d e h = absurd (search rules)

refused_as : (b : Bool) (r : Option Data) → (b ≡ true → r ≡ None) → or_json (cond b r None) ≡ Err json
refused_as true r h = ap or_json (h refl)
refused_as false r h = refl

pub json_is : (bytes : List ℕ) (d : Data) → IsUtf8 bytes → read bytes ≡ Some d → or_json (json_of bytes) ≡ Ok d
json_is bytes d text h = read_as (is_utf8 bytes) (read bytes) d (is_utf8-from_IsUtf8 bytes text) h

pub no_json : (bytes : List ℕ) → (IsUtf8 bytes → read bytes ≡ None) → or_json (json_of bytes) ≡ Err json
no_json bytes h = refused_as (is_utf8 bytes) (read bytes) (λ e. h (IsUtf8-from_is_utf8 bytes e))
