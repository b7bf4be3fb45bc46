-- A configuration is given where the rules hold, and only there.
use Rattle.std.proofs.Common.{◌≡◌, ℕ, Bool, true, false, List, Option, Some, None, refl, ap, sym, subst, true≢false}
use Rattle.std.specs.Prelude.{Result, Ok, Err}
use Rattle.config_text.specs.declared.settings.Settings.{Settings}
use Rattle.config_text.specs.Faults.{Fault, ◌>>=◌}
use Rattle.config_text.specs.Form.{settings_of}
use Rattle.vip_config.specs.Configs.{broken_rule, checked, config_of, parts_of, unless_broken}
use Rattle.vip_config.specs.Rules.{KeepsRules}
use Rattle.vip_config.specs.declared.parts.ConfigParts.{ConfigParts}
use Rattle.vip_config.specs.declared.place.Place.{Place}
use Rattle.vip_config.proofs.Laws.{keeps_rules}
use Rattle.vip_config.proofs.Unbroken.{breaks_none}

pub is_read : (bytes : List ℕ) (s : Settings) → settings_of bytes ≡ Ok s → KeepsRules (parts_of s)
    → config_of bytes ≡ Ok (parts_of s)
unfolding config_of
is_read bytes s read keeps =
    let none = breaks_none s keeps in
    let checks : checked s ≡ Ok (parts_of s) = rw none refl in
    rw read checks

abbrev is_given : {A B : Type 0} → Result A B → Bool
is_given (Ok x) = true
is_given (Err e) = false

abbrev given_or : {A B : Type 0} → A → Result A B → A
given_or d (Ok x) = x
given_or d (Err e) = d

pub what_is_given : (bytes : List ℕ) (c : ConfigParts) → config_of bytes ≡ Ok c → KeepsRules c
unfolding config_of
what_is_given bytes c is = of_settings (settings_of bytes) is
  where
    of_rules : (s : Settings) (b : Option Place) → broken_rule s ≡ b → unless_broken b (parts_of s) ≡ Ok c
        → KeepsRules c
    of_rules s None none is = subst KeepsRules (ap (given_or c) is) (keeps_rules s none)
    of_rules s (Some place) some is = absurd (true≢false (sym (ap is_given is)))

    of_settings : (r : Result Settings Fault) → (r >>= checked) ≡ Ok c → KeepsRules c
    of_settings (Ok s) is = of_rules s (broken_rule s) refl is
    of_settings (Err e) is = absurd (true≢false (sym (ap is_given is)))
