-- How many turns a state needs.
use Rattle.std.proofs.Common.{◌≡◌, List, [], ◌∷◌, length, Some, refl, sym, ◌∙◌, arith}
use Rattle.std.proofs.lemmas.Option.{same_Some}
use Rattle.scr_combinatorics.specs.Play.{count_in}
use Rattle.scr_combinatorics.specs.Reach.{Needs}
use Rattle.scr_combinatorics.proofs.PlayLaws.{play-empty, play-one}
use Rattle.scr_notation.specs.declared.turn.Turn.{Turn}
use Rattle.scr_notation.specs.Turning.{opposite}
use Rattle.scr_sq1.specs.Units.{Sq1State, solved_sq1, sq1_after, sq1_puzzle}
use Rattle.scr_sq1.proofs.Lawful.{IsLawful-sq1, IsSq1-solved}

pub count_once : (w : List Turn) → count_in sq1_puzzle.counted w ≡ length w
unfolding count_in
count_once [] = refl
count_once (t ∷ w) = omega (arith, count_once w)

pub one_needed : (s : Sq1State) → (s ≡ solved_sq1 → ⊥) → Needs sq1_puzzle s 1
one_needed s apart [] end few plays is = apart (same_Some s end (sym (play-empty sq1_after s) ∙ plays) ∙ is)
one_needed s apart (t ∷ w) end few plays is = absurd (omega (arith, count_once (t ∷ w)))

-- what a turn makes of solved doesn't need two
pub one_enough : (s : Sq1State) (t : Turn) → sq1_after solved_sq1 t ≡ Some s → Needs sq1_puzzle s 2 → ⊥
one_enough s t e needs =
    let word = opposite t ∷ [] in
    needs word solved_sq1 (omega (arith, count_once word))
    (play-one sq1_after s (opposite t) ∙ IsLawful-sq1.undoes solved_sq1 s t IsSq1-solved e) refl
