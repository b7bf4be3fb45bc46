-- A run of the table, by computing: the port 1030 is an endpoint's, so the first lease has the range from 1032 on.
use Rattle.std.proofs.Common.{◌≡◌, List, [], ◌∷◌, ℕ, refl}
use Rattle.wire_core.specs.declared.address.Ip4.{Ip4}
use Rattle.wire_core.specs.declared.rules.LeaseRules.{LeaseRules}
use Rattle.wire_core.specs.Commands.{LogCommand, Reserve, Granted, Release, Freed, Up}
use Rattle.lease_spec.specs.declared.row.Row.{Row}
use Rattle.lease_spec.specs.declared.row.Phase.{Phase}
use Rattle.lease_spec.specs.declared.row.Phase.TheVariants.{BeingLeased, Leased, Freeing}
use Rattle.lease_spec.specs.declared.effect.Effect.TheVariants as effect
use Rattle.lease_spec.specs.Places.{commands}
use Rattle.lease_spec.specs.Free.{first_start, least_free}
use Rattle.lease_spec.specs.Table.{table, history, story, reserve, decide, raise_known, grant, release, free, up}

abbrev vip : Ip4
vip = record { 0 = 1 }

abbrev machine : Ip4
machine = record { 0 = 4 }

abbrev rules : ℕ → LeaseRules
rules high = record {
  vips = record { vip = vip; low = 1024; high = high; taken = 1030 ∷ [] } ∷ [];
  machines = record { machine = machine; agent = 0; vip = vip } ∷ [];
  limit = 2;
}

abbrev row : ℕ → ℕ → ℕ → Phase → Row
row n start seq phase =
    record {
      n = n;
      range = record { vip = vip; start = start };
      machine = machine;
      agent = 0;
      boot = 1;
      seq =
          seq;
      phase = phase;
    }

-- asked and granted
abbrev granted_log : List (List LogCommand)
granted_log = (Reserve 0 1 machine 1 ∷ []) ∷ (Granted 1 (record { mux = 0; boot = 1 } ∷ []) ∷ []) ∷ []

granted_row : (table (rules 65535) granted_log).rows ≡ row 1 1032 1 Leased ∷ []
unfolding story reserve decide raise_known grant release free up least_free first_start
granted_row = refl

-- a second one, the limit, a boot that ends both, one that is gone
abbrev ended_log : List (List LogCommand)
ended_log =
    (Reserve 0 1 machine 1 ∷ Reserve 0 1 machine 2 ∷ [])
    ∷ (Reserve 0 1 machine 3 ∷ Up 0 2 ∷ Freed 1 ∷ Granted 2 [] ∷ []) ∷ []

ended_rows : (table (rules 65535) ended_log).rows ≡ row 2 1040 2 Freeing ∷ []
unfolding story reserve decide raise_known grant release free up least_free first_start
ended_rows = refl

ended_effects : history (rules 65535) (commands ended_log)
    ≡ effect.Reserved (row 1 1032 1 BeingLeased) ∷ effect.Reserved (row 2 1040 2 BeingLeased)
    ∷ effect.AtLimit machine 1 3 2 ∷ effect.Known 0 2
    ∷ effect.Cleared (row 1 1032 1 Freeing) ∷ effect.Cleared (row 2 1040 2 Freeing)
    ∷ effect.Freed (row 1 1032 1 Freeing) ∷ []
unfolding story reserve decide raise_known grant release free up least_free first_start
ended_effects = refl

-- a range whose lease is gone is the least again
reused_effects : history (rules 1047)
    (commands ((Reserve 0 1 machine 1 ∷ Reserve 0 1 machine 2 ∷ Release 1 ∷ Freed 1 ∷ Reserve 0 1 machine 3 ∷ []) ∷ []))
    ≡ effect.Reserved (row 1 1032 1 BeingLeased) ∷ effect.Reserved (row 2 1040 2 BeingLeased)
    ∷ effect.Released (row 1 1032 1 Freeing) ∷ effect.Freed (row 1 1032 1 Freeing)
    ∷ effect.Reserved (row 5 1032 3 BeingLeased) ∷ []
unfolding story reserve decide raise_known grant release free up least_free first_start
reused_effects = refl
