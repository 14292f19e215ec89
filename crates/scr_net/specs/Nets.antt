-- The net of a cube: which letter stands at each row and column of each face. A letter is the number of the face that
-- has it on a solved cube.
use Rattle.std.specs.Prelude.{◌≡◌, ℕ, zero, suc, ◌-◌, ◌<◌, ◌≤◌, nat_lt, Bool, false, if◌then◌else◌, List, [], map, length, slice_index, Option, Some, None}
use Rattle.std.specs.List.{flat_map, slice_index_or, range_with_len}
use Rattle.scr_notation.specs.declared.turn.Turn.{Turn}
use Rattle.scr_notation.specs.declared.turn.Turn.TheVariants.{Face}
use Rattle.scr_net.specs.declared.geometry.Sticker.{Sticker}
use Rattle.scr_net.specs.Geometry.{sticker_at, row_of, column_of, brought_from}

-- Letters by face, row and column. A cube has from 2 to 7 layers.
abbrev pub Letters : Type 0
Letters = List (List (List ℕ))

pub record IsSide (side : ℕ) : Type 0 where
  pub large : 2 ≤ side
  pub small : side ≤ 7

abbrev pub cell : Letters → ℕ → ℕ → ℕ → ℕ
cell net face row column = slice_index (slice_index_or (slice_index_or net face []) row []) column

-- the letter at a sticker
abbrev pub letter_at : ℕ → Letters → Sticker → ℕ
letter_at side net s = cell net s.face (row_of (side - 1) s.face s.point) (column_of (side - 1) s.face s.point)

-- the net that has these letters at its stickers
unfoldable pub net_of : ℕ → (Sticker → ℕ) → Letters
net_of side letter =
    map (λ face. map (λ row. map (λ column. letter (sticker_at (side - 1) face row column)) (range_with_len 0 side)) (range_with_len 0 side))
    (range_with_len 0 6)

abbrev pub solved_net : ℕ → Letters
solved_net side = net_of side (λ s. s.face)

-- A quarter turn of so many layers at a face moves stickers with their letters: at each place stands the letter of the
-- sticker that the turn brings there. (That each sticker's letter is where the turn takes the sticker,
-- `stickers` of `scr_net_laws` says.)
unfoldable pub quarter_net : ℕ → ℕ → ℕ → Letters → Letters
quarter_net side face depth net = net_of side (λ s. letter_at side net (brought_from (side - 1) face depth s))

-- so many quarter turns
unfoldable pub turned_net : ℕ → ℕ → ℕ → ℕ → Letters → Letters
turned_net side face depth zero net = net
turned_net side face depth (suc amount) net = turned_net side face depth amount (quarter_net side face depth net)

-- What a turn makes of a net: nothing where it is no turn of layers at a face, or where it would turn the whole cube.
abbrev pub net_after : ℕ → Letters → Turn → Option Letters
net_after side net (Face face depth amount) = if nat_lt depth side then Some (turned_net side face depth amount net) else None
net_after side net _ = None

-- a turn of layers at a face, fewer than all
unfoldable pub turns_layers : ℕ → Turn → Bool
turns_layers side (Face face depth amount) = nat_lt depth side
turns_layers side _ = false

-- all letters of a net, face by face and row by row
abbrev pub letters_of : Letters → List ℕ
letters_of net = flat_map (λ rows. flat_map (λ row. row) rows) net

-- Six faces with so many rows of so many letters.
pub record HasShape (side : ℕ) (net : Letters) : Type 0 where
  pub faces : length net ≡ 6
  pub rows : (face : ℕ) → face < 6 → length (slice_index_or net face []) ≡ side
  pub columns : (face row : ℕ) → face < 6 → row < side → length (slice_index_or (slice_index_or net face []) row []) ≡ side

pub record IsNet (side : ℕ) (net : Letters) : Type 0 where
  pub shape : HasShape side net
  pub letters : (face row column : ℕ) → cell net face row column < 6
