-- The fourteen amounts that lead to a Clock: they are there, and they are the only ones.
use Rattle.std.proofs.Common.{◌≡◌, ℕ, ◌+◌, ◌*◌, ◌%◌, ◌<◌, List, [], ◌∷◌, length, get_or, map, ext_get_or, Some, refl, sym, ap, ◌∙◌, arith}
use Rattle.std.specs.List.{sum}
use Rattle.std.specs.Simd.Lanes.{products}
use Rattle.std.proofs.Math.Nat.{mod-add-mod, add-mod-mod}
use Rattle.std.proofs.lemmas.List.{get_or-map}
use Rattle.std.proofs.lemmas.List.Elements.{All-map}
use Rattle.scr_notation.specs.declared.turn.Turn.{Turn}
use Rattle.scr_clock.specs.declared.amounts.TheConstants.{AMOUNTS}
use Rattle.scr_clock.specs.Dials.{IsClock, gain_at, dials_turned, solved}
use Rattle.scr_clock.specs.Held.{clock_after}
use Rattle.scr_clock.specs.Written.{written, IsClockScramble}
use Rattle.scr_clock.proofs.Hours.{Hours, listed, clock_by_dials, cons_same}
use Rattle.scr_clock.proofs.HeldLaws.{side_turned, given, clock_after-written}

-- the sums of dials that come to the amounts
abbrev pub sums_of : List ℕ → List ℕ
sums_of dials =
    let d : ℕ → ℕ = λ k. get_or dials k 0 in
    let up_left = d 0 + d 9 + d 12 + 11 * d 11 in
    let up_right = d 2 + d 9 + d 10 + 11 * d 11 in
    let down_left = d 6 + d 12 + d 13 + 11 * d 11 in
    let down_right = d 8 + d 10 + d 13 + 11 * d 11 in
    (d 4 + 11 * (d 3 + d 7) + down_left)
    ∷ (d 4 + 11 * (d 1 + d 3) + up_left)
    ∷ (d 4 + 11 * (d 1 + d 5) + up_right)
    ∷ (d 4 + 11 * (d 5 + d 7) + down_right)
    ∷ (d 3 + d 5 + d 7 + 11 * (d 4 + down_left + down_right))
    ∷ (d 1 + d 3 + d 7 + 11 * (d 4 + up_left + down_left))
    ∷ (d 1 + d 3 + d 5 + 11 * (d 4 + up_left + up_right))
    ∷ (d 1 + d 5 + d 7 + 11 * (d 4 + up_right + down_right))
    ∷ (up_left + up_right + down_left + down_right + d 4 + 11 * (d 1 + d 3 + d 5 + d 7))
    ∷ (d 11 + 11 * d 13)
    ∷ (d 11 + 11 * d 10)
    ∷ (d 11 + 11 * d 9)
    ∷ (d 11 + 11 * d 12)
    ∷ (d 9 + d 10 + d 12 + d 13 + 9 * d 11) ∷ []

unfoldable pub amounts_of : List ℕ → List ℕ
amounts_of dials = map (λ sum. sum % 12) (sums_of dials)

-- the hours that the dials come to by a row of what each counts
abbrev hour_by : List ℕ → List ℕ → ℕ
hour_by dials times = sum (products times dials) % 12

-- the sums are these, row by row
same_sums : (h : Hours) → map (hour_by (listed h)) AMOUNTS ≡ amounts_of (listed h)
unfolding amounts_of
same_sums h =
    cons_same (omega arith) (cons_same (omega arith) (cons_same (omega arith) (cons_same (omega arith) (cons_same (omega arith)
    (cons_same (omega arith) (cons_same (omega arith) (cons_same (omega arith) (cons_same (omega arith) (cons_same (omega arith)
    (cons_same (omega arith) (cons_same (omega arith) (cons_same (omega arith) (cons_same (omega arith) refl)))))))))))))

-- so hours found row by row are these amounts
pub amounts_by_rows : (dials amounts : List ℕ) → IsClock dials → length amounts ≡ 14
    → ((k : ℕ) → k < 14 → get_or amounts k 0 ≡ sum (products (get_or AMOUNTS k []) dials) % 12) → amounts ≡ amounts_of dials
amounts_by_rows dials amounts c e h =
    ext_get_or 0 amounts (map (hour_by dials) AMOUNTS) e
    (λ k l. (let low : k < 14 = omega (arith, e) in h k low ∙ sym (get_or-map (hour_by dials) AMOUNTS k [] 0 low)))
    ∙ clock_by_dials (λ d. map (hour_by d) AMOUNTS ≡ amounts_of d) same_sums dials c

-- they are fourteen hours
pub IsClock-amounts_of : (dials : List ℕ) → IsClock (amounts_of dials)
unfolding amounts_of
IsClock-amounts_of dials =
    record { fourteen = refl; below = All-map (λ a. a < 12) (λ sum. sum % 12) (sums_of dials) (λ k d l. omega arith) }

-- dial by dial, an hour comes again; hours are added modulo twelve
given_again : (h : Hours) → given (amounts_of (listed h)) ≡ listed h
unfolding given side_turned gain_at dials_turned amounts_of
given_again h =
    cons_same (simp (mod-add-mod, add-mod-mod) (omega arith)) (cons_same (simp (mod-add-mod, add-mod-mod) (omega arith))
    (cons_same (simp (mod-add-mod, add-mod-mod) (omega arith)) (cons_same (simp (mod-add-mod, add-mod-mod) (omega arith))
    (cons_same (simp (mod-add-mod, add-mod-mod) (omega arith)) (cons_same (simp (mod-add-mod, add-mod-mod) (omega arith))
    (cons_same (simp (mod-add-mod, add-mod-mod) (omega arith)) (cons_same (simp (mod-add-mod, add-mod-mod) (omega arith))
    (cons_same (simp (mod-add-mod, add-mod-mod) (omega arith)) (cons_same (simp (mod-add-mod, add-mod-mod) (omega arith))
    (cons_same (simp (mod-add-mod, add-mod-mod) (omega arith)) (cons_same (simp (mod-add-mod, add-mod-mod) (omega arith))
    (cons_same (simp (mod-add-mod, add-mod-mod) (omega arith)) (cons_same (simp (mod-add-mod, add-mod-mod) (omega arith)) refl)))))))))))))

-- and so amount by amount
amounts_again : (h : Hours) → amounts_of (given (listed h)) ≡ listed h
unfolding given side_turned gain_at dials_turned amounts_of
amounts_again h =
    cons_same (simp mod-add-mod (omega arith)) (cons_same (simp mod-add-mod (omega arith)) (cons_same (simp mod-add-mod (omega arith))
    (cons_same (simp mod-add-mod (omega arith)) (cons_same (simp mod-add-mod (omega arith)) (cons_same (simp mod-add-mod (omega arith))
    (cons_same (simp mod-add-mod (omega arith)) (cons_same (simp mod-add-mod (omega arith)) (cons_same (simp mod-add-mod (omega arith))
    (cons_same (simp mod-add-mod (omega arith)) (cons_same (simp mod-add-mod (omega arith)) (cons_same (simp mod-add-mod (omega arith))
    (cons_same (simp mod-add-mod (omega arith)) (cons_same (simp mod-add-mod (omega arith)) refl)))))))))))))

-- they lead to the Clock
pub amounts_of-give : (dials : List ℕ) → IsClock dials → clock_after solved (written (amounts_of dials)) ≡ Some dials
amounts_of-give dials c =
    clock_after-written (amounts_of dials) (IsClock-amounts_of dials)
    ∙ ap Some (clock_by_dials (λ d. given (amounts_of d) ≡ d) given_again dials c)

-- and no others do
pub amounts_of-only : (amounts dials : List ℕ) → IsClock amounts → clock_after solved (written amounts) ≡ Some dials
    → amounts ≡ amounts_of dials
amounts_of-only amounts dials c e =
    let f : Some (given amounts) ≡ Some dials = sym (clock_after-written amounts c) ∙ e in
    let same : given amounts ≡ dials = cc in
    sym (clock_by_dials (λ a. amounts_of (given a) ≡ a) amounts_again amounts c) ∙ ap amounts_of same

-- a Clock has one scramble
pub IsScrambleOf-one : (dials : List ℕ) (some other : List Turn) → IsClockScramble dials some
    → IsClockScramble dials other → some ≡ other
IsScrambleOf-one dials some other s o =
    s.turns_are
    ∙ ap written (amounts_of-only s.amounts dials s.hours (sym (ap (clock_after solved) s.turns_are) ∙ s.gives)
    ∙ sym (amounts_of-only o.amounts dials o.hours (sym (ap (clock_after solved) o.turns_are) ∙ o.gives)))
    ∙ sym o.turns_are
