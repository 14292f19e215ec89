-- The big cubes, from 5x5x5 to 7x7x7, by how many layers they have: their turns, in order, and which turns may follow
-- a turn. That they are scrambled by random moves is by WCA Regulations, article 4; which layers are turned, the order
-- and the number of turns are our own choice.
use Rattle.std.specs.Prelude.{ℕ, ◌+◌, ◌-◌, ◌*◌, ◌/◌, ◌%◌, ◌≤◌, ◌==◌, ◌&&◌, ◌||◌, not, nat_lt, Bool, false, if◌then◌else◌, List, [], ◌∷◌, ◌++◌, map, filter}
use Rattle.std.specs.List.{flat_map}
use Rattle.scr_combinatorics.specs.Lists.{numbers_from}
use Rattle.scr_notation.specs.declared.event.Event.{Event}
use Rattle.scr_notation.specs.declared.event.Event.TheVariants.{C555, C666, C777}
use Rattle.scr_notation.specs.declared.turn.Turn.{Turn}
use Rattle.scr_notation.specs.declared.turn.Turn.TheVariants.{Face}

-- how many layers a big cube has
pub record IsSide (side : ℕ) : Type 0 where
  pub large : 5 ≤ side
  pub small : side ≤ 7

abbrev pub cube_event : ℕ → Event
cube_event side = if side == 5 then C555 else (if side == 6 then C666 else C777)

-- how many turns a scramble has: 60, 80 or 100
abbrev pub turns_made : ℕ → ℕ
turns_made side = 20 * (side - 2)

-- the turns of a face: of one outer layer, of two, and so on to the greatest depth, each by one to three quarters
abbrev pub face_turns : ℕ → ℕ → List Turn
face_turns face depth = flat_map (λ layers. map (Face face layers) (1 ∷ 2 ∷ 3 ∷ [])) (numbers_from 1 depth)

-- All turns, in the order of axis, face, depth and amount. The axes are U-D, R-L and F-B, with the near faces 0 to 2
-- and the far faces 3 to 5. At a near face up to half of the layers are turned, at a far face fewer than half.
unfoldable pub cube_turns : ℕ → List Turn
cube_turns side =
    flat_map (λ axis. face_turns axis (side / 2) ++ face_turns (axis + 3) ((side - 1) / 2)) (0 ∷ 1 ∷ 2 ∷ [])

-- A turn may follow another: it is about another axis, or about the same and of a later face, or of the same face and
-- of more layers.
abbrev pub may_follow : Turn → Turn → Bool
may_follow (Face face layers amount) (Face next more quarters) =
    not (face % 3 == next % 3) || nat_lt face next || ((face == next) && nat_lt layers more)
may_follow _ _ = false

-- the turns that may follow a turn, in their order
unfoldable pub turns_after : ℕ → Turn → List Turn
turns_after side before = filter (may_follow before) (cube_turns side)
