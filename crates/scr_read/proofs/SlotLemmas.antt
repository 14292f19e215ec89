-- The scrambles of a group, read one after another.
use Rattle.std.proofs.Common.{◌≡◌, ℕ, ◌+◌, ◌<◌, List, [], ◌∷◌, ◌++◌, length, take, drop, refl, sym, ap, subst, ◌∙◌, arith, get_or}
use Rattle.std.specs.Prelude.{Option, Some, None, All, slice_set}
use Rattle.std.proofs.lemmas.List.{take_more_set, take_all, drop_all, drop_more, take_more, map-append}
use Rattle.scr_notation.specs.declared.event.Event.{Event}
use Rattle.scr_notation.specs.declared.turn.Turn.{Turn}
use Rattle.scr_notation.specs.Written.{Written}
use Rattle.scr_notation.specs.Event.{per_group_of}
use Rattle.scr_read.specs.declared.piece.Piece.{Piece}
use Rattle.scr_read.specs.declared.piece.Piece.TheVariants as piece
use Rattle.scr_read.specs.Reading.{slot_pieces}
use Rattle.scr_read.specs.Groups.{scrambles_of}
use Rattle.scr_read.specs.Left.{PiecesLeft, GivesPiece, IsGroupNext}
use Rattle.scr_read.proofs.GroupLemmas.{IsScrambleOf, turns_of, all-scrambles_of, turns_of-scrambles_of}

-- of a group that came next, so many slots were read into an array
pub record HasSlots (event : Event) (before : PiecesLeft) (next : IsGroupNext event before.pieces) (count : ℕ) (left : PiecesLeft)
    (scrambles : List Written) : Type 0 where
  pub pieces : left.pieces ≡ slot_pieces event (drop count next.group) ++ piece.GroupEnd ∷ next.behind
  pub lines : left.lines ≡ before.lines + count
  pub filled : take count scrambles ≡ scrambles_of event (take count next.group)

-- the turns at a slot
pub turns_at : (group : List (List Turn)) (n : ℕ) → n < length group
    → (turns : List Turn) × (drop n group ≡ turns ∷ drop (n + 1) group) × (take (n + 1) group ≡ take n group ++ turns ∷ [])
turns_at group n below = (get_or group n [], drop_more group n [] below, take_more group n [] below)

pub no_slots : (event : Event) (before : PiecesLeft) (next : IsGroupNext event before.pieces) (scrambles : List Written)
    → HasSlots event before next 0 before scrambles
no_slots event before next scrambles = record { pieces = next.pieces_are; lines = omega arith; filled = refl }

module _ (event : Event) (before : PiecesLeft) (next : IsGroupNext event before.pieces) (count : ℕ) (left : PiecesLeft)
    (scrambles : List Written) (has : HasSlots event before next count left scrambles) (below : count < length next.group) where
  abbrev pub turns : List Turn
  turns = (turns_at next.group count below).0

  abbrev pub slot : Written
  slot = record { event = event; turns = turns }

  pub comes : left.pieces ≡ piece.Slot slot ∷ slot_pieces event (drop (count + 1) next.group) ++ piece.GroupEnd ∷ next.behind
  comes = grind (arith, turns_at)

  pub one_more : (s : Written) (after : PiecesLeft) → left.pieces ≡ piece.Slot s ∷ after.pieces → after.lines ≡ left.lines + 1
      → count < length scrambles → HasSlots event before next (count + 1) after (slice_set scrambles count s)
  one_more s after is lines room = grind (arith, turns_at, comes, take_more_set, map-append)

module _ (event : Event) (before : PiecesLeft) (next : IsGroupNext event before.pieces) (count : ℕ) (left : PiecesLeft)
    (scrambles : List Written) (has : HasSlots event before next count left scrambles) (all : count ≡ per_group_of event + 2) where
  whole : count ≡ length next.group
  whole = all ∙ sym next.is.each_slot

  ends : left.pieces ≡ piece.GroupEnd ∷ next.behind
  ends = grind (arith, drop_all, whole)

  pub scrambles_read : take (per_group_of event + 2) scrambles ≡ scrambles_of event next.group
  scrambles_read = grind (arith, take_all, whole)

  pub each_read : All (IsScrambleOf event) (take (per_group_of event + 2) scrambles)
  each_read = subst (All (IsScrambleOf event)) (sym scrambles_read) (all-scrambles_of event next.group next.is.each)

  pub turns_read : turns_of (take (per_group_of event + 2) scrambles) ≡ next.group
  turns_read = ap turns_of scrambles_read ∙ turns_of-scrambles_of event next.group

  pub left_behind : (after : PiecesLeft) (answer : Option Piece) → GivesPiece left after answer
      → after ≡ record { pieces = next.behind; lines = before.lines + (length next.group + 1) }
  left_behind after (Some x) gives = grind (arith, ends, whole)
  left_behind after None gives = absurd (cc (ends))
