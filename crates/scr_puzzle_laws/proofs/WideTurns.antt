-- A wide turn of a held cube is one of the opposite face and one of the whole cube.
use Rattle.std.proofs.Common.{◌≡◌, ℕ, zero, suc, ◌<◌, Bool, true, false, cond, List, Option, Some, None, refl, arith}
use Rattle.std.specs.Prelude.{slice_index}
use Rattle.std.specs.Option.{option_map}
use Rattle.scr_orbit.specs.PowerPuzzles.{after_letter}
use Rattle.scr_notation.specs.declared.turn.Turn.TheVariants.{Face}
use Rattle.scr_notation.specs.Amounts.{is_amount}
use Rattle.scr_cube.specs.Cube333.{CubeState, cube_powers}
use Rattle.scr_cube.specs.Held.{HeldState, whole_turned, held_cube_after}
use Rattle.scr_cube.specs.Stickers.{opposite_place}

module _ (centres : List ℕ) (place amount : ℕ) where
  abbrev whole : HeldState → HeldState
  whole r = record { cube = r.cube; centres = whole_turned place r.centres amount }

  turned_whole : (b : Bool) (o : Option CubeState)
      → cond b (option_map (λ c. record { cube = c; centres = whole_turned place centres amount }) o) None
      ≡ option_map whole (cond b (option_map (λ c. record { cube = c; centres = centres }) o) None)
  turned_whole true (Some c) = refl
  turned_whole true None = refl
  turned_whole false o = refl

pub held_as_two : (s : HeldState) (place amount : ℕ) → place < 3
    → held_cube_after s (Face place 2 amount) ≡ option_map (whole s.centres place amount) (held_cube_after s (Face (opposite_place place) 1 amount))
unfolding held_cube_after
held_as_two s zero amount lt = turned_whole s.centres 0 amount (is_amount 4 amount) (after_letter cube_powers s.cube (Face (slice_index s.centres 3) 1 amount))
held_as_two s (suc zero) amount lt = turned_whole s.centres 1 amount (is_amount 4 amount) (after_letter cube_powers s.cube (Face (slice_index s.centres 4) 1 amount))
held_as_two s (suc (suc zero)) amount lt = turned_whole s.centres 2 amount (is_amount 4 amount) (after_letter cube_powers s.cube (Face (slice_index s.centres 5) 1 amount))
held_as_two s (suc (suc (suc place))) amount lt = absurd (omega arith)
