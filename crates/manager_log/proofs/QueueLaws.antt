-- Requests that wait, as the commands that they ask for.
use Rattle.std.proofs.Common.{◌≡◌, refl, ap, ℕ, suc, Bool, ◌||◌, List, [], ◌∷◌, ◌++◌, map, length}
use Rattle.std.specs.List.{list_any}
use Rattle.wire_core.specs.Commands.{LogCommand}
use Rattle.manager_log.specs.declared.queue.Request.{Request}
use Rattle.manager_log.specs.Parts.{command_of}

pub any_map : (p : LogCommand → Bool) (xs : List Request)
    → list_any p (map command_of xs) ≡ list_any (λ x. p (command_of x)) xs
any_map p [] = refl
any_map p (x ∷ xs) = ap (λ b. p (command_of x) || b) (any_map p xs)

pub length_queue : (xs : List Request) → length (map command_of xs) ≡ length xs
length_queue [] = refl
length_queue (x ∷ xs) = ap (λ (n : ℕ). suc n) (length_queue xs)

pub map_push : (xs : List Request) (x : Request)
    → map command_of (xs ++ x ∷ []) ≡ map command_of xs ++ command_of x ∷ []
map_push [] x = refl
map_push (y ∷ ys) x = ap (λ (cs : List LogCommand). command_of y ∷ cs) (map_push ys x)
