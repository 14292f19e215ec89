use Rattle.std.proofs.Common.{◌≡◌, Some, length, map, ap, sym, ◌∙◌, arith}
use Rattle.std.specs.Option.{option_map}
use Rattle.scr_combinatorics.specs.Play.{play}
use Rattle.scr_orbit.specs.PowerPuzzles.{after_letter}
use Rattle.scr_notation.specs.TurnNumbers.{face_turn_at}
use Rattle.scr_notation.specs.Written.{Written}
use Rattle.scr_cube.specs.Cube333.{cube_powers}
use Rattle.scr_twophase.specs.TwoParts.{two_parts}
use Rattle.scr_twophase.proofs.MinimaLaws.{play-spelled}
use Rattle.scr_twophase.proofs.PartLaws.{IsWordOf, IsWordOf-some, two_parts-played}
use Rattle.scr_twophase.proofs.scramble.two_parts.Goals as goal

-- the word that was found, and its turns
word : (c : goal.After-scramble) → IsWordOf (two_parts c.args.cube.now c.args.tries) c.in_ok-parts_word.field-0
word c = IsWordOf-some (two_parts c.args.cube.now c.args.tries) c.in_ok-parts_word.field-0 c.in_ok-parts_word.ensures.parts

turns : (c : goal.After-scramble) → c.scramble.result.turns ≡ map face_turn_at (word c).word
turns c = ap (λ (w : Written). w.turns) c.scramble.ensures ∙ (word c).spelled

pub returns-clause-parts : goal.returns-clause-parts
returns-clause-parts c = ap Some (turns c) ∙ sym (ap (option_map (map face_turn_at)) (word c).parts)

pub returns-clause-at_most : goal.returns-clause-at_most
returns-clause-at_most c = omega (arith, ap (λ (w : Written). length w.turns) c.scramble.ensures, c.in_ok-parts_word.ensures.few)

pub returns-clause-played : goal.returns-clause-played
returns-clause-played c =
    ap (play (after_letter cube_powers) c.args.cube.now) (turns c) ∙ play-spelled c.args.cube.now (word c).word
    ∙ two_parts-played c.args.cube.now c.args.tries (word c).word (word c).parts
