-- A turn of the back is that turn of the front of the Clock turned over.
use Rattle.std.proofs.Common.{◌≡◌, ℕ, ◌+◌, ◌-◌, ◌%◌, ◌<◌, Bool, true, false, cond, List, refl, arith}
use Rattle.scr_clock.specs.Dials.{IsClock, gain_at, dials_turned, dial_turn}
use Rattle.scr_puzzle_laws.specs.ClockKnown.{turned_over_clock}
use Rattle.scr_clock.proofs.Hours.{clock_by_dials, cons_same}

-- minus what a corner comes to by minus an amount is what minus the corner comes to by that amount
corner : (b : Bool) (d a : ℕ) → d < 12 → a < 12
    → (12 - (d + cond b 0 (12 - a)) % 12) % 12 ≡ ((12 - d) % 12 + cond b 0 a) % 12
corner true d a l m = omega arith
corner false d a l m = omega arith

pub turned_over-turned : (dials : List ℕ) (p a : ℕ) → IsClock dials → a < 12
    → turned_over_clock (dials_turned dials (dial_turn true p a)) ≡ dials_turned (turned_over_clock dials) (dial_turn false p a)
unfolding gain_at dials_turned turned_over_clock
turned_over-turned dials p a c l =
    clock_by_dials (λ d. turned_over_clock (dials_turned d (dial_turn true p a)) ≡ dials_turned (turned_over_clock d) (dial_turn false p a))
    (λ h.
    cons_same (corner _ (h.at 2) a (h.low 2) l) (cons_same refl (cons_same (corner _ (h.at 0) a (h.low 0) l)
    (cons_same refl (cons_same refl (cons_same refl
    (cons_same (corner _ (h.at 8) a (h.low 8) l) (cons_same refl (cons_same (corner _ (h.at 6) a (h.low 6) l) refl)))))))))
    dials c
