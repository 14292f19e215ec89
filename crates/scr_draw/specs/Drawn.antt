-- What a list of numbers draws: the first state that one of them hits.
use Rattle.std.specs.Prelude.{ℕ, ◌%◌, ◌&&◌, Bool, if◌then◌else◌, Option, Some, None, List, [], ◌∷◌}
use Rattle.std.specs.Option.{option_or}
use Rattle.scr_draw.specs.Attempt.{is_accepted}

-- the state that a number hits: that of its place in a run of `count`, where the number is accepted
-- and the state passes the test; a number that hits nothing misses
abbrev pub hit : {S : Type 0} → ℕ → (ℕ → S) → (S → Bool) → ℕ → Option S
hit count state_at permits v =
    if is_accepted count v && permits (state_at (v % count)) then Some (state_at (v % count)) else None

-- the state that the first number of a list which does not miss hits, or none
unfoldable pub drawn : {S : Type 0} → (ℕ → Option S) → List ℕ → Option S
drawn hits [] = None
drawn hits (v ∷ vs) = option_or (hits v) (drawn hits vs)
