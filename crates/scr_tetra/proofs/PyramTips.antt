-- The word of tips: it brings solved tips to where they stand, with one turn for each that stands turned.
use Rattle.std.proofs.Common.{◌≡◌, ℕ, Bool, true, false, List, Option, Some, None, length, refl, sym, ap, ◌∙◌, arith, lit<}
use Rattle.std.specs.Prelude.{◌&&◌, ◌==◌, replicate, All, slice_index}
use Rattle.std.specs.Option.{option_map}
use Rattle.std.specs.Str.{bytes_eq}
use Rattle.std.proofs.lemmas.Bool.{and_parts, eqb-true}
use Rattle.std.proofs.lemmas.List.Sums.{AllPass-from_list_all}
use Rattle.std.proofs.lemmas.Slice.Eq.{bytes_eq-Decides}
use Rattle.scr_combinatorics.specs.Lists.{numbers_from}
use Rattle.scr_combinatorics.specs.Digits.{mixed_digits}
use Rattle.scr_combinatorics.proofs.Picks.{numbers_from-at}
use Rattle.scr_combinatorics.specs.Play.{play}
use Rattle.scr_orbit.specs.Orbits.{zeros}
use Rattle.scr_orbit.specs.InPlace.{AreDigitsInPlace}
use Rattle.scr_orbit.specs.PowerPuzzles.{after_letter}
use Rattle.scr_orbit.proofs.InPlaceLaws.{in_place_laws}
use Rattle.scr_tetra.specs.Pyraminx.{TetraminxState, IsTetraminx, PyramState, pyram_monoid, pyram_powers, solved_pyram, thirds_number}
use Rattle.scr_tetra.proofs.NumberedPyram.{thirds_one_to_one}
use Rattle.scr_tetra.specs.PyramParts.{tips_word, turned_count}
use Rattle.scr_tetra.proofs.PyramLaws.{tip_turn, same_pyram, moves_no_body, tells_tetraminx, tetraminx_laws, lawful_pyram}
use Rattle.scr_tetra.proofs.PyramLiterals.{pyram_on_literals}

-- a turn of these tips alone, as a test
is_tip_turn : List ℕ → PyramState → Bool
is_tip_turn tips r = moves_no_body r.body && bytes_eq r.tips tips

tip_turn-from_test : (tips : List ℕ) (r : PyramState) → is_tip_turn tips r ≡ true → r ≡ tip_turn tips
unfolding is_tip_turn
tip_turn-from_test tips r h =
    let both = and_parts (moves_no_body r.body) (bytes_eq r.tips tips) h in
    same_pyram r (tip_turn tips) (tells_tetraminx.shows r.body both.0) ((bytes_eq-Decides r.tips tips).0 both.1)

-- what the word of tips makes of the solved state
abbrev word_made : List ℕ → Option PyramState
word_made tips = play (after_letter pyram_powers) solved_pyram (tips_word tips)

-- it is that turn, and the word has one letter for each tip that stands turned
comes_to_tips : List ℕ → Option PyramState → Bool
comes_to_tips tips None = false
comes_to_tips tips (Some r) = is_tip_turn tips r

is_tips_word : List ℕ → Bool
is_tips_word tips =
    comes_to_tips tips (word_made tips) && (length (tips_word tips) == turned_count tips)

all_tips : All (λ n. is_tips_word (mixed_digits (replicate 4 3) n) ≡ true) (numbers_from 0 81)
unfolding is_tips_word comes_to_tips is_tip_turn moves_no_body tips_word pyram_on_literals
all_tips = AllPass-from_list_all (λ n. is_tips_word (mixed_digits (replicate 4 3) n)) (numbers_from 0 81) refl

each_tips : (tips : List ℕ) → AreDigitsInPlace 4 3 tips → is_tips_word tips ≡ true
each_tips tips h =
    let low = thirds_one_to_one.below tips h in
    let there : thirds_number tips ≡ slice_index (numbers_from 0 81) (thirds_number tips) = omega (arith, numbers_from-at 0 81 (thirds_number tips) low) in
    ap is_tips_word (sym (thirds_one_to_one.state_again tips h) ∙ ap (mixed_digits (replicate 4 3)) there) ∙ all_tips (thirds_number tips) 0 low

comes_by : (tips : List ℕ) (o : Option PyramState) → comes_to_tips tips o ≡ true → o ≡ Some (tip_turn tips)
unfolding comes_to_tips
comes_by tips None h = absurd (cc)
comes_by tips (Some r) h = ap Some (tip_turn-from_test tips r h)

pub length-tips_word : (tips : List ℕ) → AreDigitsInPlace 4 3 tips → length (tips_word tips) ≡ turned_count tips
unfolding is_tips_word
length-tips_word tips h =
    eqb-true _ _ (and_parts (comes_to_tips tips (word_made tips)) (length (tips_word tips) == turned_count tips) (each_tips tips h)).1

-- whatever the body is
pub tips_word-played : (b : TetraminxState) (tips : List ℕ) → IsTetraminx b → AreDigitsInPlace 4 3 tips
    → play (after_letter pyram_powers) (record { body = b; tips = zeros 4 }) (tips_word tips) ≡ Some (record { body = b; tips = tips })
unfolding is_tips_word
tips_word-played b tips own h =
    let digits = in_place_laws 4 3 (lit< tt) in
    let word = comes_by tips (word_made tips) (and_parts (comes_to_tips tips (word_made tips)) (length (tips_word tips) == turned_count tips) (each_tips tips h)).0 in
    lawful_pyram.lawful.words (record { body = b; tips = zeros 4 }) (tips_word tips) (record { body = own; tips = digits.solved })
    ∙ ap (option_map (pyram_monoid.turned (record { body = b; tips = zeros 4 }))) word
    ∙ ap Some (same_pyram _ (record { body = b; tips = tips }) (tetraminx_laws.solved_last b own) (digits.solved_first tips h))
