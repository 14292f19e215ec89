-- The numbers of Pyraminx states: one for each.
use Rattle.std.proofs.Common.{◌≡◌, ℕ, ◌/◌, ◌<◌, List, [], ◌∷◌, sym, ap, ◌∙◌, lit≤, lit<}
use Rattle.std.specs.Prelude.{replicate}
use Rattle.scr_combinatorics.specs.Permutations.{permutation_number, half_at}
use Rattle.scr_combinatorics.specs.Twists.{twists_number, twists_at}
use Rattle.scr_combinatorics.specs.Digits.{mixed_digits}
use Rattle.scr_combinatorics.specs.Numbering.{IsOneToOne, IsNumbering}
use Rattle.scr_combinatorics.proofs.Halves.{half_lt, IsHalf-half_at, half_at-number}
use Rattle.scr_combinatorics.proofs.Twists.{twists_number-lt, IsTwists-twists_at, twists_number-twists_at, twists_at-number}
use Rattle.scr_combinatorics.proofs.Digits.{lists_one_to_one, by_two_digits, by_three_digits}
use Rattle.scr_combinatorics.proofs.Numberings.{GivesState, HasDigits, numbering_by_digits}
use Rattle.scr_orbit.specs.InPlace.{AreDigitsInPlace}
use Rattle.scr_orbit.proofs.OrbitLaws.{same_orbit}
use Rattle.scr_tetra.specs.Pyraminx.{TetraminxState, IsTetraminx, PyramState, IsPyram, tetraminx_digits, tetraminx_of_digits, numbered_tetraminx, pyram_digits, pyram_of_digits, numbered_pyram, thirds_number}

-- four digits from 0 to 2 are numbered by the numbers below 81
pub thirds_one_to_one : IsOneToOne 81 (mixed_digits (replicate 4 3)) thirds_number (AreDigitsInPlace 4 3)
thirds_one_to_one =
    let all = lists_one_to_one 4 3 (lit< tt) in
    record {
      valid = λ i lt. let ds = all.valid i lt in record { size = ds.0; below = ds.1 };
      below = λ ds h. all.below ds (h.size, h.below);
      number_again = all.number_again;
      state_again = λ ds h. all.state_again ds (h.size, h.below);
    }

-- ---- without tips

abbrev pub tetraminx_bases : List ℕ
tetraminx_bases = 81 ∷ 32 ∷ 360 ∷ []

abbrev Gives : List ℕ → Type 0
Gives = GivesState tetraminx_bases tetraminx_of_digits tetraminx_digits IsTetraminx

-- three numbers below their counts give a state
tetraminx_of_three : (a f e : ℕ) → a < 81 → f < 32 → e < 360 → Gives (a ∷ f ∷ e ∷ [])
unfolding tetraminx_of_digits tetraminx_digits
tetraminx_of_three a f e la lf le =
    let edges : List ℕ = half_at 6 0 e in
    let half = IsHalf-half_at 6 0 e le (lit< tt) in
    let flips = twists_number-twists_at 6 2 f (lit< tt) lf in
    let axials = thirds_one_to_one.number_again a la in
    record {
      valid = record {
        edges = record { pieces = half.permutation; digits = IsTwists-twists_at 6 2 f (lit< tt) (lit< tt) };
        even = half.same_parity;
        axials = thirds_one_to_one.valid a la;
      };
      again = ap (λ x. x ∷ twists_number 2 (twists_at 6 2 f) ∷ permutation_number edges / 2 ∷ []) axials
          ∙ ap (λ x. a ∷ x ∷ permutation_number edges / 2 ∷ []) flips
          ∙ ap (λ x. a ∷ f ∷ x ∷ []) half.number;
    }

-- and a state has them
pub tetraminx_has_three : (s : TetraminxState) → IsTetraminx s
    → HasDigits tetraminx_bases tetraminx_of_digits tetraminx_digits IsTetraminx s
unfolding tetraminx_of_digits tetraminx_digits
tetraminx_has_three s h =
    let flips = twists_at-number 6 2 s.edges.digits (lit< tt) (lit< tt) h.edges.digits in
    let edges : half_at 6 0 (permutation_number s.edges.pieces / 2) ≡ s.edges.pieces =
    ap (λ odd. half_at 6 odd (permutation_number s.edges.pieces / 2)) (sym h.even) ∙ half_at-number 6 s.edges.pieces (lit< tt) h.edges.pieces in
    let axials = thirds_one_to_one.state_again s.axials h.axials in
    record {
      below = (
        thirds_one_to_one.below s.axials h.axials,
        (twists_number-lt 6 2 s.edges.digits h.edges.digits, (half_lt 6 s.edges.pieces (lit≤ tt) h.edges.pieces, tt)),
      );
      again = ap (λ o. record { edges = o; axials = mixed_digits (replicate 4 3) (thirds_number s.axials) }) (same_orbit _ s.edges edges flips)
          ∙ ap (λ ds. record { edges = s.edges; axials = ds }) axials;
    }

pub tetraminx_numbering : IsNumbering numbered_tetraminx
tetraminx_numbering =
    numbering_by_digits tetraminx_bases tetraminx_of_digits tetraminx_digits IsTetraminx (lit≤ tt) (lit≤ tt)
    (by_three_digits Gives 81 32 360 tetraminx_of_three) tetraminx_has_three

-- ---- with tips

abbrev pub pyram_bases : List ℕ
pyram_bases = 81 ∷ 933120 ∷ []

abbrev GivesPyram : List ℕ → Type 0
GivesPyram = GivesState pyram_bases pyram_of_digits pyram_digits IsPyram

pyram_of_two : (t b : ℕ) → t < 81 → b < 933120 → GivesPyram (t ∷ b ∷ [])
unfolding pyram_of_digits pyram_digits
pyram_of_two t b lt lb =
    let one = tetraminx_numbering.one_to_one in
    record {
      valid = record { body = one.valid b lb; tips = thirds_one_to_one.valid t lt };
      again = ap (λ x. x ∷ numbered_tetraminx.number_of (numbered_tetraminx.state_at b) ∷ []) (thirds_one_to_one.number_again t lt)
          ∙ ap (λ x. t ∷ x ∷ []) (one.number_again b lb);
    }

pub pyram_has_two : (s : PyramState) → IsPyram s → HasDigits pyram_bases pyram_of_digits pyram_digits IsPyram s
unfolding pyram_of_digits pyram_digits
pyram_has_two s h =
    let one = tetraminx_numbering.one_to_one in
    record {
      below = (thirds_one_to_one.below s.tips h.tips, (one.below s.body h.body, tt));
      again = ap (λ b. record { body = b; tips = mixed_digits (replicate 4 3) (thirds_number s.tips) }) (one.state_again s.body h.body)
          ∙ ap (λ ds. record { body = s.body; tips = ds }) (thirds_one_to_one.state_again s.tips h.tips);
    }

-- states are numbered by the numbers below the count, one for each
pub pyram_numbering : IsNumbering numbered_pyram
pyram_numbering =
    numbering_by_digits pyram_bases pyram_of_digits pyram_digits IsPyram (lit≤ tt) (lit≤ tt)
    (by_two_digits GivesPyram 81 933120 pyram_of_two) pyram_has_two
