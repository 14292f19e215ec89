-- The scramble of a held cube: it is one, and it leads to the state.
use Rattle.std.proofs.Common.{◌≡◌, ℕ, IsTrue, List, ◌++◌, Some, arith}
use Rattle.std.proofs.lemmas.Option.{same_Some}
use Rattle.std.specs.Prelude.{◌↔◌}
use Rattle.scr_combinatorics.specs.Lists.{numbers_from}
use Rattle.scr_combinatorics.specs.Play.{play}
use Rattle.scr_combinatorics.specs.Reach.{Needs}
use Rattle.scr_combinatorics.proofs.PlayLaws.{play-append}
use Rattle.scr_orbit.specs.PowerPuzzles.{after_letter}
use Rattle.scr_notation.specs.declared.event.Event.TheVariants.{Bf333, C333}
use Rattle.scr_notation.specs.declared.turn.Turn.{Turn}
use Rattle.scr_notation.specs.Turns.{permits}
use Rattle.scr_cube.specs.Cube333.{cube_powers, solved_cube}
use Rattle.scr_cube.specs.Held.{HeldState, IsHeld, solved_held, held_cube_after, hold_word, hold_of, held_puzzle}
use Rattle.scr_cube.proofs.HeldLaws.{at_places, same_held}
use Rattle.scr_cube.proofs.HeldReach.{IsBefore, Contains-solved, Needs-held}
use Rattle.scr_twophase.specs.HeldScramble.{IsScramble333bf}
use Rattle.scr_twophase.specs.Minima.{needs_turns}
use Rattle.scr_twophase.proofs.MinimaLaws.{Needs-tested}
use Rattle.scr_twophase.proofs.PartLaws.{IsScrambleBy-unique}

-- a turn of a 3x3x3 is one of the 3x3x3 as it is held
pub permits-held : (t : Turn) → IsTrue (permits C333 t) → IsTrue (permits Bf333 t)
permits-held t h0 = grind arith

-- The cube's scramble leads from solved to the state before the hold's word, and the word leads on.
pub joined-played : (s b : HeldState) (first : List Turn) → IsBefore s b
    → play (after_letter cube_powers) solved_cube first ≡ Some b.cube
    → play held_cube_after solved_held (first ++ hold_word (hold_of s.centres)) ≡ Some s
unfolding solved_held
joined-played s b first before played =
    let words = at_places solved_cube b.cube (numbers_from 0 6) first Contains-solved played in
    grind (arith, words, same_held, play-append)

-- a state has one scramble
pub IsScramble333bf-unique : (tries : ℕ) (s : HeldState) (turns other : List Turn) → IsScramble333bf tries s turns
    → IsScramble333bf tries s other → turns ≡ other
IsScramble333bf-unique tries s turns other a b = grind (arith, same_Some, IsScrambleBy-unique)

-- the test of a minimum is exact
pub Needs-held_tested : (s : HeldState) (least : ℕ) → IsHeld s
    → IsTrue (needs_turns s.cube least) ↔ Needs held_puzzle s least
Needs-held_tested s least valid = grind (arith, Needs-tested s.cube least, Needs-held s least valid.centres)
