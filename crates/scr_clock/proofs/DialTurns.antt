-- Turns of the dials, in whatever order, and the dials that all show 12.
use Rattle.std.proofs.Common.{◌≡◌, ℕ, ◌+◌, ◌%◌, ◌<◌, List, get_or, refl, arith}
use Rattle.std.proofs.lemmas.List.FromFn.{get_or-map-range_with_len}
use Rattle.std.proofs.lemmas.List.Elements.{All-replicate}
use Rattle.scr_clock.specs.Dials.{IsClock, DialTurn, gain_at, dials_turned, solved}
use Rattle.scr_clock.proofs.TurnLaws.{turned_by_dials, IsClock-turned}

-- dials that all show 12 are a Clock
pub IsClock-solved : IsClock solved
IsClock-solved = record { fourteen = refl; below = All-replicate (λ d. d < 12) 14 0 (omega arith) }

-- each dial comes to the sum of its hour and what it gains
pub turned-at : (dials : List ℕ) (t : DialTurn) (k : ℕ) → k < 14
    → get_or (dials_turned dials t) k 0 ≡ (get_or dials k 0 + gain_at t k) % 12
unfolding dials_turned
turned-at dials t k l =
    get_or-map-range_with_len (λ j. (get_or dials j 0 + gain_at t j) % 12) 0 14 k k 0 l (omega arith)

-- it doesn't matter which of two turns comes first
pub turned_swap : (dials : List ℕ) (t u : DialTurn)
    → dials_turned (dials_turned dials t) u ≡ dials_turned (dials_turned dials u) t
turned_swap dials t u =
    turned_by_dials (dials_turned dials u) (dials_turned (dials_turned dials t) u) t (IsClock-turned (dials_turned dials t) u).fourteen
    (λ k l. omega (arith, turned-at dials t k l, turned-at (dials_turned dials t) u k l, turned-at dials u k l))
