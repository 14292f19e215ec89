-- What is left of a text that is a sheet.
use mathlib.Core.HLevel.{Σ_prop_path}
use mathlib.Core.Logic.{∥∥₁_elim, ∥∥₁_prop}
use Rattle.std.specs.Prelude.{ℕ, ◌≡◌, ◌+◌, ◌-◌, ◌<◌, ◌≤◌, Option, Some, None, List, [], ◌∷◌, ◌++◌, length, All}
use Rattle.std.specs.Coded.{Coded-set, codes}
use Rattle.scr_notation.specs.declared.event.Event.{Event}
use Rattle.scr_notation.specs.declared.turn.Turn.{Turn}
use Rattle.scr_read.specs.declared.piece.Piece.{Piece}
use Rattle.scr_read.specs.declared.piece.Piece.TheVariants as piece
use Rattle.scr_list.specs.Rounds.{IsRound}
use Rattle.scr_read.specs.Heads.{HeadOf}
use Rattle.scr_read.specs.Sheets.{SheetRound, AreGroup, IsSheetRound}
use Rattle.scr_read.specs.Reading.{Reading, as_round, slot_pieces, group_pieces, pieces_of, IsRead}
use Rattle.scr_read.specs.Groups.{GroupOf}

-- ---- pieces

-- where a reader stands, a text is read to its end as these pieces, and as no others
abbrev pub AreLeft : Reading → List Piece → Type 0
AreLeft reading pieces =
    ∥ IsRead reading.place reading.rest pieces ∥₁
    × ((others : List Piece) → IsRead reading.place reading.rest others → others ≡ pieces)

pub pieces-set : IsSet (List Piece)
pieces-set = Coded-set {A = List Piece} (hlevel codes)

abbrev pub OnlyPieces : Reading → Type 0
OnlyPieces reading = (pieces : List Piece) × AreLeft reading pieces

pub OnlyPieces-prop : (reading : Reading) → IsProp (OnlyPieces reading)
OnlyPieces-prop reading = λ one other.
    Σ_prop_path (λ (pieces : List Piece). hlevel (∥∥₁_prop, pieces-set))
    (∥∥₁_elim one.1.0 (pieces-set one.0 other.0) (λ read. other.1.1 one.0 read))

-- the pieces that are left, and how many lines stand before them
pub record PiecesLeft : Type 0 where
  pub pieces : List Piece
  pub lines : ℕ

-- of these pieces, which were left behind so many lines, the first was given, and the others are left; or none was
abbrev pub GivesPiece : PiecesLeft → PiecesLeft → Option Piece → Type 0
GivesPiece before after (Some piece) = (before.pieces ≡ piece ∷ after.pieces) × (after.lines ≡ before.lines + 1)
GivesPiece before after None = (before.pieces ≡ []) × (after ≡ before)

-- ---- groups

-- the turns of the slots that come next
abbrev pub slots_next : List Piece → List (List Turn)
slots_next (piece.Slot s ∷ pieces) = s.turns ∷ slots_next pieces
slots_next pieces = []

-- the groups among pieces, before which so many lines stand and so many rounds began, the last of them with this head
abbrev pub groups_in : ℕ → HeadOf → ℕ → List Piece → List GroupOf
groups_in begun head lines [] = []
groups_in begun head lines (piece.Head next ∷ pieces) = groups_in (begun + 1) next (lines + 1) pieces
groups_in begun head lines (piece.Group number ∷ pieces) =
    record { round = begun - 1; head = head; number = number; line = lines + 1; scrambles = slots_next pieces }
    ∷ groups_in begun head (lines + 1) pieces
groups_in begun head lines (piece.Slot s ∷ pieces) = groups_in begun head (lines + 1) pieces
groups_in begun head lines (piece.GroupEnd ∷ pieces) = groups_in begun head (lines + 1) pieces

-- What is left of a sheet behind so many lines and rounds, the last of these with this head: groups of that round, the
-- first of them with this number, and rounds.
pub record IsLeft (begun : ℕ) (head : HeadOf) (pieces : List Piece) : Type 0 where
  pub number : ℕ
  pub groups : List (List (List Turn))
  pub rounds : List SheetRound
  pub pieces_are : pieces ≡ group_pieces head.event number groups ++ pieces_of rounds
  pub are : All (AreGroup head.event) groups
  pub few_groups : number + length groups ≤ 26
  pub of_round : 0 < length groups → (1 ≤ begun) × IsRound (as_round head)
  pub each : All IsSheetRound rounds
  pub few : begun + length rounds ≤ 256

-- The slots of a group of this event come next, and then its end.
pub record IsGroupNext (event : Event) (pieces : List Piece) : Type 0 where
  pub group : List (List Turn)
  pub behind : List Piece
  pub pieces_are : pieces ≡ slot_pieces event group ++ piece.GroupEnd ∷ behind
  pub is : AreGroup event group
