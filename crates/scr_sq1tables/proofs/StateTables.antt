-- The lines of the tables of the Square-1, as states tell them: each number below the count of a table is the index of a
-- state of which the table speaks.
use Rattle.std.proofs.Common.{◌≡◌, ℕ, ◌/◌, ◌%◌, ◌<◌, true, List, [], ◌∷◌, map, slice_index, refl, arith}
use Rattle.std.specs.Prelude.{◌==◌, nat_lt, if◌then◌else◌, flat_map}
use Rattle.scr_combinatorics.specs.Lists.{numbers_from}
use Rattle.scr_combinatorics.specs.Pairings.{pairing_number, pairing_at}
use Rattle.scr_combinatorics.specs.Permutations.{IsPermutation, is_permutation, parity, place_of}
use Rattle.scr_combinatorics.proofs.PermutationLaws.{IsPermutation-from_test}
use Rattle.scr_table.specs.TableStates.{IsEach, AreLinesOf}
use Rattle.scr_table.proofs.TableStatesLaws.{IsLineOf-each}
use Rattle.scr_sq1tables.specs.Stages.{pairing_of}
use Rattle.scr_sq1tables.specs.Tables.{shapes_state, shapes_line, pairings_index, pairings_line, square_state, square_line, sq1_lines}
use Rattle.scr_sq1tables.specs.SearchTables.{shapes_table, pairings_table, square_table, sq1_tables}
use Rattle.scr_sq1tables.proofs.Numbers.{at_each}
use Rattle.scr_sq1tables.proofs.ShapeStage.{Follows-shapes, IsIndex-shapes, IsSquareOf-lists}
use Rattle.scr_sq1tables.proofs.PairingStage.{Follows-pairings}
use Rattle.scr_sq1tables.proofs.HomeStage.{Follows-square, IsIndex-square}

-- the places pair by pair
abbrev by_pairs : List ℕ → List ℕ
by_pairs partners =
    flat_map (λ place. let partner : ℕ = slice_index partners place in if nat_lt place partner then place ∷ partner ∷ [] else []) (numbers_from 0 8)

-- pieces of which the first stands at the first of these places, the second at the second, and so on
abbrev standing : List ℕ → List ℕ → List ℕ
standing pieces places = map (λ place. slice_index pieces (place_of place places)) (numbers_from 0 8)

-- An even list of pieces in which mates stand at partners: where it is odd with the mates in order, the first two are
-- exchanged.
abbrev even_list : ℕ → List ℕ
even_list pairing =
    let places : List ℕ = by_pairs (pairing_at 4 pairing) in
    let pieces : List ℕ = standing (0 ∷ 2 ∷ 1 ∷ 3 ∷ 4 ∷ 6 ∷ 5 ∷ 7 ∷ []) places in
    if parity pieces == 0 then pieces else standing (2 ∷ 0 ∷ 1 ∷ 3 ∷ 4 ∷ 6 ∷ 5 ∷ 7 ∷ []) places

record IsEvenList (pairing : ℕ) : Type 0 where
  pub permutation : IsPermutation 8 (even_list pairing)
  pub even : parity (even_list pairing) ≡ 0
  pub number : pairing_number 4 (pairing_of (even_list pairing)) ≡ pairing

IsEvenList-below : (pairing : ℕ) → pairing < 105 → IsEvenList pairing
unfolding pairing_of pairing_at pairing_number
IsEvenList-below pairing lt = record {
  permutation = IsPermutation-from_test 8 (even_list pairing) (at_each (λ k. is_permutation 8 (even_list k)) (λ k. true) 105 refl pairing lt);
  even = at_each (λ k. parity (even_list k)) (λ k. 0) 105 refl pairing lt;
  number = at_each (λ k. pairing_number 4 (pairing_of (even_list k))) (λ k. k) 105 refl pairing lt;
}

each-pairings : IsEach pairings_table.space pairings_index 11025
each-pairings i lt =
    let c = IsEvenList-below (i % 105) (omega arith) in
    let e = IsEvenList-below (i / 105) (omega arith) in
    let q = IsSquareOf-lists (even_list (i % 105)) (even_list (i / 105)) c.permutation e.permutation (omega (arith, c.even, e.even)) in
    grind arith

pub AreLinesOf-sq1 : AreLinesOf sq1_tables sq1_lines
AreLinesOf-sq1 = (
  IsLineOf-each shapes_table shapes_line refl refl refl Follows-shapes
      (λ i lt. (shapes_state i, IsIndex-shapes.valid i lt, IsIndex-shapes.again i lt)),
  (
    IsLineOf-each pairings_table pairings_line refl refl refl Follows-pairings each-pairings,
    (
      IsLineOf-each square_table square_line refl refl refl Follows-square
          (λ i lt. (square_state i, IsIndex-square.valid i lt, IsIndex-square.again i lt)),
      tt,
    ),
  ),
)
