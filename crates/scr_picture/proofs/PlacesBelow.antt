-- Numbers and tables of places below a bound, by a test that the checker computes.
use Rattle.std.proofs.Common.{◌≡◌, ℕ, ◌<◌, true, refl, List, ltb-true}
use Rattle.std.specs.Prelude.{All, nat_lt}
use Rattle.std.specs.List.{list_all}
use Rattle.scr_orbit.proofs.TableTests.{All-from_test}
use Rattle.scr_picture.specs.declared.tables.TheConstants.{MINX_MOVES, PYRAM_MOVES, SKEWB_MOVES}

pub All-below : (n : ℕ) (ks : List ℕ) → list_all (λ k. nat_lt k n) ks ≡ true → All (λ k. k < n) ks
All-below n = All-from_test (λ k. nat_lt k n) (λ k. k < n) (λ k. ltb-true k n)

are_below : (n : ℕ) (moves : List (List ℕ)) → list_all (list_all (λ k. nat_lt k n)) moves ≡ true
    → All (λ from. All (λ k. k < n) from) moves
are_below n = All-from_test (list_all (λ k. nat_lt k n)) (λ from. All (λ k. k < n) from) (All-below n)

pub pyram_below : All (λ from. All (λ k. k < 36) from) PYRAM_MOVES
pyram_below = are_below 36 PYRAM_MOVES refl

pub skewb_below : All (λ from. All (λ k. k < 30) from) SKEWB_MOVES
skewb_below = are_below 30 SKEWB_MOVES refl

pub minx_below : All (λ from. All (λ k. k < 132) from) MINX_MOVES
minx_below = are_below 132 MINX_MOVES refl
