-- How a sheet is read, line by line, in pieces.
use Rattle.std.specs.Prelude.{ℕ, ◌≡◌, ◌≢◌, ◌+◌, ◌<◌, ◌≤◌, List, [], ◌∷◌, ◌++◌, map, codes}
use Rattle.scr_notation.specs.declared.event.Event.{Event}
use Rattle.scr_notation.specs.declared.turn.Turn.{Turn}
use Rattle.scr_notation.specs.Event.{per_group_of}
use Rattle.scr_notation.specs.Spelling.{text_of}
use Rattle.scr_notation.specs.Written.{IsWritten}
use Rattle.scr_list.specs.declared.round.Round.{Round}
use Rattle.scr_list.specs.Rounds.{IsRound}
use Rattle.scr_round.specs.Round.{labels_from, heading}
use Rattle.scr_read.specs.Heads.{HeadOf}
use Rattle.scr_read.specs.declared.piece.Piece.{Piece}
use Rattle.scr_read.specs.declared.piece.Piece.TheVariants as piece
use Rattle.scr_read.specs.Sheets.{SheetRound}

-- ---- the pieces of a sheet, one for each of its lines

-- those of the slots of a group
abbrev pub slot_pieces : Event → List (List Turn) → List Piece
slot_pieces event group = map (λ turns. piece.Slot (record { event = event; turns = turns })) group

-- those of a round's groups, the first of them with this number, from 0
abbrev pub group_pieces : Event → ℕ → List (List (List Turn)) → List Piece
group_pieces event number [] = []
group_pieces event number (group ∷ groups) =
    piece.Group number ∷ slot_pieces event group ++ piece.GroupEnd ∷ group_pieces event (number + 1) groups

-- what the head of a round tells of it
abbrev pub head_of : SheetRound → HeadOf
head_of round = record { event = round.event; least = round.least; name = round.name }

-- those of rounds
abbrev pub pieces_of : List SheetRound → List Piece
pieces_of [] = []
pieces_of (round ∷ rounds) = piece.Head (head_of round) ∷ group_pieces round.event 0 round.groups ++ pieces_of rounds

-- ---- where a reader stands

-- Before the first line; behind the head or behind whole groups of a round, which is the last of so many that began, is
-- of this event and has so many groups so far; or in the group behind these, where these labels are still to come.
pub data Place : Type 0 where
  Start : Place
  Between : ℕ → Event → ℕ → Place
  InGroup : ℕ → Event → ℕ → List (List ℕ) → Place

-- how many rounds began
abbrev pub rounds_begun : Place → ℕ
rounds_begun Start = 0
rounds_begun (Between rounds event groups) = rounds
rounds_begun (InGroup rounds event groups labels) = rounds

-- the sheet may end here, or another round begin: no round did, or the last has a group and all its groups are whole
abbrev pub IsWhole : Place → Type 0
IsWhole Start = Unit {0}
IsWhole (Between rounds event groups) = 1 ≤ groups
IsWhole (InGroup rounds event groups labels) = ⊥

-- ---- a line

-- a head as the round of one group that it is the head of
abbrev pub as_round : HeadOf → Round
as_round head = record { event = head.event; groups = 1; least = head.least; name = head.name }

-- a line is the head of round k, counted from 0, which lists can name
pub record IsHeading (k : ℕ) (line : List ℕ) (head : HeadOf) : Type 0 where
  pub round : IsRound (as_round head)
  pub is : line ≡ heading k (as_round head)

-- the head of a round may stand here, and is this line
pub record IsHeadLine (place : Place) (line : List ℕ) (head : HeadOf) (next : Place) : Type 0 where
  pub whole : IsWhole place
  pub few : rounds_begun place < 256
  pub is_head : IsHeading (rounds_begun place) line head
  pub next_is : next ≡ Between (rounds_begun place + 1) head.event 0

-- This line may stand here, and is read as this piece; the next line stands there.
abbrev pub IsLine : Place → List ℕ → Piece → Place → Type 0
IsLine place line (piece.Head head) next = IsHeadLine place line head next
IsLine (Between rounds event groups) line (piece.Group number) next =
    (number ≡ groups) × (groups < 26) × (line ≡ codes "Group " ++ (65 + groups) ∷ [])
    × (next ≡ InGroup rounds event groups (labels_from 1 (per_group_of event)))
IsLine (InGroup rounds event groups (label ∷ labels)) line (piece.Slot s) next =
    IsWritten s × (s.event ≡ event) × (line ≡ label ++ text_of s.turns) × (next ≡ InGroup rounds event groups labels)
IsLine (InGroup rounds event groups []) line piece.GroupEnd next =
    (line ≡ []) × (next ≡ Between rounds event (groups + 1))
IsLine place line other next = ⊥

-- ---- a text

-- from a place on, a text is read to its end as these pieces
abbrev pub IsRead : Place → List ℕ → List Piece → Type 0
IsRead place text [] = IsWhole place × (text ≡ [])
IsRead place text (piece ∷ pieces) = (line : List ℕ) × (rest : List ℕ) × (next : Place)
    × (text ≡ line ++ 10 ∷ rest) × IsLine place line piece next × IsRead next rest pieces

-- from one place to another these lines may stand
abbrev pub Walks : Place → List (List ℕ) → Place → Type 0
Walks place [] end = place ≡ end
Walks place (line ∷ lines) end = (piece : Piece) × (next : Place) × IsLine place line piece next × Walks next lines end

-- ---- a reader

-- where it stands, the text behind that place, and how many lines stand before it
pub record Reading : Type 0 where
  pub place : Place
  pub rest : List ℕ
  pub lines : ℕ

-- a reader that has read nothing of a text
abbrev pub fresh : List ℕ → Reading
fresh text = record { place = Start; rest = text; lines = 0 }

-- It read one line, as this piece.
pub record ReadsPiece (before after : Reading) (piece : Piece) : Type 0 where
  pub line : List ℕ
  pub rest : before.rest ≡ line ++ 10 ∷ after.rest
  pub is : IsLine before.place line piece after.place
  pub lines : after.lines ≡ before.lines + 1

-- no text that goes on as this one to the end of its first line is a sheet's from here on: it doesn't end where it may,
-- and no line that may stand here comes next
pub record IsAtFault (place : Place) (rest : List ℕ) : Type 0 where
  pub no_end : IsWhole place → rest ≢ []
  pub no_line : (line behind : List ℕ) (piece : Piece) (next : Place) → rest ≡ line ++ 10 ∷ behind
      → IsLine place line piece next → ⊥
