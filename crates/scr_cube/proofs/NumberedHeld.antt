-- The numbers of held cubes: one for each.
use Rattle.std.proofs.Common.{ℕ, ◌<◌, List, [], ◌∷◌, ap, ◌∙◌, lit≤}
use Rattle.scr_combinatorics.specs.Numbering.{IsNumbering}
use Rattle.scr_combinatorics.proofs.Digits.{by_two_digits}
use Rattle.scr_combinatorics.proofs.Numberings.{GivesState, HasDigits, numbering_by_digits}
use Rattle.scr_cube.specs.Cube333.{cube_numbered}
use Rattle.scr_cube.specs.Held.{HeldState, IsHeld, held_digits, held_of_digits, held_numbered}
use Rattle.scr_cube.proofs.Numbered333.{cube_numbering}
use Rattle.scr_cube.proofs.Holds.{Contains-hold, hold_of-hold, hold_of-lt, hold_centres-of}
use Rattle.scr_cube.proofs.HeldLaws.{same_held}

abbrev pub held_bases : List ℕ
held_bases = 24 ∷ cube_numbered.count ∷ []

-- two numbers below their counts give a held cube
abbrev Gives : List ℕ → Type 0
Gives = GivesState held_bases held_of_digits held_digits IsHeld

held_of_two : (hold cube : ℕ) → hold < 24 → cube < cube_numbered.count → Gives (hold ∷ cube ∷ [])
unfolding held_of_digits held_digits
held_of_two hold cube low lt = record {
  valid = record { cube = cube_numbering.one_to_one.valid cube lt; centres = Contains-hold hold low };
  again = ap (λ n. n ∷ cube_numbered.number_of (cube_numbered.state_at cube) ∷ []) (hold_of-hold hold low)
      ∙ ap (λ n. hold ∷ n ∷ []) (cube_numbering.one_to_one.number_again cube lt);
}

-- and a held cube has them
pub has_two : (s : HeldState) → IsHeld s → HasDigits held_bases held_of_digits held_digits IsHeld s
unfolding held_of_digits held_digits
has_two s h = record {
  below = (hold_of-lt s.centres h.centres, (cube_numbering.one_to_one.below s.cube h.cube, tt));
  again = same_held _ s (cube_numbering.one_to_one.state_again s.cube h.cube) (hold_centres-of s.centres h.centres);
}

pub held_numbering : IsNumbering held_numbered
held_numbering =
    numbering_by_digits held_bases held_of_digits held_digits IsHeld (lit≤ tt) (lit≤ tt) (by_two_digits Gives 24 cube_numbered.count held_of_two) has_two
