-- The numbers of the states of a Square-1 are one to one.
use Rattle.std.proofs.lemmas.Bool.Decides.{nat_tests}
use Rattle.std.proofs.Common.{rules}
use Rattle.std.proofs.Common.{◌≡◌, ℕ, zero, suc, ◌<◌, Bool, true, false, cond, List, [], ◌∷◌, refl, ap, ◌∙◌, arith, lit≤, lit<}
use Rattle.std.specs.Prelude.{◌==◌}
use Rattle.scr_combinatorics.specs.Permutations.{permutation_number, permutation_at}
use Rattle.scr_combinatorics.specs.Numbering.{IsNumbering}
use Rattle.scr_combinatorics.proofs.PermutationNumbers.{permutations_one_to_one}
use Rattle.scr_combinatorics.proofs.Digits.{by_four_digits}
use Rattle.scr_combinatorics.proofs.Numberings.{GivesState, HasDigits, numbering_by_digits}
use Rattle.scr_sq1.specs.Units.{Sq1State, IsSq1}
use Rattle.scr_sq1.specs.Shapes.{shape_of, shape_number, shape_at}
use Rattle.scr_sq1.specs.Numbers.{corners_of, edges_of, laid, shape_word, sq1_digits, sq1_of_digits, sq1_numbered}
use Rattle.scr_sq1.proofs.HalfNumbers.{shapes_one_to_one}
use Rattle.scr_sq1.proofs.StatePieces.{StatePieces-valid, LaidState-pieces}

-- how many digits of the equator, of lists of corners, of lists of edges and of shapes there are
abbrev pub sq1_bases : List ℕ
sq1_bases = 2 ∷ 40320 ∷ 40320 ∷ 3678 ∷ []

abbrev Gives : List ℕ → Type 0
Gives = GivesState sq1_bases sq1_of_digits sq1_digits IsSq1

-- the equator's digit
digit_again : (q : ℕ) → q < 2 → cond (q == 1) 1 0 ≡ q
digit_again zero lt = refl
digit_again (suc zero) lt = refl
digit_again (suc (suc q)) lt = absurd (omega arith)

equator_again : (b : Bool) → (cond b 1 0 == 1) ≡ b
equator_again true = refl
equator_again false = refl

equator_below : (b : Bool) → cond b 1 0 < 2
equator_below true = lit< tt
equator_below false = lit< tt

-- four numbers below their counts give a state
state_of_four : (q c e h : ℕ) → q < 2 → c < 40320 → e < 40320 → h < 3678 → Gives (q ∷ c ∷ e ∷ h ∷ [])
unfolding sq1_of_digits sq1_digits
state_of_four q c e h lq lc le lh =
    let lists = permutations_one_to_one 8 in
    let cs : List ℕ = permutation_at 8 c in
    let es : List ℕ = permutation_at 8 e in
    let hs : List ℕ = shape_at h in
    let l = LaidState-pieces hs cs es (shapes_one_to_one.valid h lh) (lists.valid c lc) (lists.valid e le) in
    record {
      valid = l.valid (q == 1);
      again = grind (arith, nat_tests, digit_again, shapes_one_to_one);
    }

-- and a state has them
pub state_has_four : (s : Sq1State) → IsSq1 s → HasDigits sq1_bases sq1_of_digits sq1_digits IsSq1 s
unfolding sq1_of_digits sq1_digits
state_has_four s valid =
    let lists = permutations_one_to_one 8 in
    let p = StatePieces-valid s valid in
    let c : ℕ = permutation_number (corners_of s.units) in
    let e : ℕ = permutation_number (edges_of s.units) in
    let h : ℕ = shape_number (shape_of s.units) in
    let units : laid (shape_word (shape_at h)) (permutation_at 8 c) (permutation_at 8 e) ≡ s.units =
    ap (λ x. laid (shape_word x) (permutation_at 8 c) (permutation_at 8 e)) (shapes_one_to_one.state_again (shape_of s.units) p.shape)
    ∙ ap (λ x. laid (shape_word (shape_of s.units)) x (permutation_at 8 e)) (lists.state_again (corners_of s.units) p.corners)
    ∙ ap (laid (shape_word (shape_of s.units)) (corners_of s.units)) (lists.state_again (edges_of s.units) p.edges)
    ∙ p.laid_again in grind (arith, nat_tests, equator_below, shapes_one_to_one, equator_again)

-- states are numbered by the numbers below the count, one for each
pub sq1_numbering : IsNumbering sq1_numbered
sq1_numbering = search (arith, rules, numbering_by_digits, lit≤, by_four_digits, state_of_four, state_has_four)
