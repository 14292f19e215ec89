-- Puzzles by their stickers, and by nothing else. A picture is the list of its letters, sticker by sticker: a letter is
-- the number of the face that the sticker is of. A turn moves stickers, and each takes its letter along.
use Rattle.std.specs.Prelude.{ℕ, zero, suc, ◌+◌, Bool, if◌then◌else◌, List, map, position, slice_get, Option, None, Some, option_and_then, unwrap_or}
use Rattle.std.specs.Option.{option_map}
use Rattle.scr_combinatorics.specs.Lists.{pick}
use Rattle.scr_combinatorics.specs.PowerLetters.{Power}
use Rattle.scr_notation.specs.declared.turn.Turn.{Turn}
use Rattle.scr_notation.specs.declared.turn.Turn.TheVariants.{Axis, Tip, Wide}

-- For each place of a sticker, the number of the place from which a sticker comes there: `taken` has where the stickers
-- of the places are taken, in the same order.
abbrev pub came_from : {P : Type 0} → (P → P → Bool) → List P → List P → List ℕ
came_from same places taken = map (λ p. unwrap_or (position (same p) taken) 0) places

-- The same of a rule that says where each is taken.
unfoldable pub sources : {P : Type 0} → (P → P → Bool) → List P → (P → P) → List ℕ
sources same places carried = came_from same places (map carried places)

-- the letters after so many of such moves
unfoldable pub moved_times : ℕ → List ℕ → List ℕ → List ℕ
moved_times zero from letters = letters
moved_times (suc n) from letters = moved_times n from (pick letters from)

-- Which of a puzzle's moves a turn is, and how many times: a third about the axes U L R B, or of the tips u l r b; and
-- of a Megaminx R++, D++ or U, of which five do nothing, so that four are one the other way.
abbrev pub move_of : Turn → Option Power
move_of (Axis axis amount) = Some (record { generator = axis; exponent = amount })
move_of (Tip tip amount) = Some (record { generator = 4 + tip; exponent = amount })
move_of (Wide letter plus) = Some (record { generator = letter; exponent = if plus then 1 else 4 })
move_of _ = None

-- What a turn makes of a picture, where the puzzle has these moves: nothing where it is none of them.
abbrev pub stickers_after : List (List ℕ) → List ℕ → Turn → Option (List ℕ)
stickers_after moves letters turn =
    option_and_then (λ m. option_map (λ from. moved_times m.exponent from letters) (slice_get moves m.generator))
    (move_of turn)
