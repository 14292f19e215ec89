-- What is left of a sheet.
use Rattle.std.proofs.Common.{◌≡◌, ℕ, List, [], ◌∷◌, drop, Some, Ok, Err, sym, ap, subst, ◌∙◌}
use Rattle.std.specs.Prelude.{Option, None, Result}
use Rattle.std.proofs.Math.Logic.{∥∥₁_elim, ∥∥₁_map}
use Rattle.scr_read.specs.declared.fault.SheetFault.{SheetFault}
use Rattle.scr_read.specs.declared.piece.Piece.{Piece}
use Rattle.scr_read.specs.Sheets.{SheetRound, IsSheet}
use Rattle.scr_read.specs.Reading.{Start, Reading, pieces_of, IsRead, ReadsPiece, fresh}
use Rattle.scr_read.specs.Steps.{Reads, Gives}
use Rattle.scr_read.specs.Left.{OnlyPieces, pieces-set, GivesPiece}
use Rattle.scr_read.proofs.StepLemmas.{fault_unread}
use Rattle.scr_read.proofs.SheetLemmas.{sheet_read}
use Rattle.scr_read.proofs.OnlyLemmas.{one_reading}

-- ---- the pieces of a sheet

pub all_left : (text : List ℕ) (reading : Reading) → reading ≡ fresh text → (rounds : List SheetRound) → IsSheet text rounds
    → OnlyPieces reading
all_left text reading is rounds sheet =
    subst OnlyPieces (sym is) (
      pieces_of rounds,
      (
        ∣ sheet_read text rounds sheet ∣₁,
        λ others read. one_reading Start text others (pieces_of rounds) tt read (sheet_read text rounds sheet),
      ),
    )

pub all_given : (text : List ℕ) (reading : Reading) (left : OnlyPieces reading) → reading ≡ fresh text → (rounds : List SheetRound)
    → IsSheet text rounds → left.0 ≡ pieces_of rounds
all_given text reading left is rounds sheet =
    sym (left.1.1 (pieces_of rounds) (subst (λ (r : Reading). IsRead r.place r.rest (pieces_of rounds)) (sym is) (sheet_read text rounds sheet)))

-- ---- a step

-- reading a line is undone by putting its piece in front
put_back : (before after : Reading) (x : Piece) → ReadsPiece before after x → (pieces : List Piece) → IsRead after.place after.rest pieces
    → IsRead before.place before.rest (x ∷ pieces)
put_back before after x step pieces read = (step.line, after.rest, after.place, step.rest, step.is, read)

pub no_fault : (before after : Reading) (fault : SheetFault) → OnlyPieces before → Reads before after (Err fault) → ⊥
no_fault before after fault left reads =
    ∥∥₁_elim left.1.0 (hlevel) (λ read. fault_unread before.place before.rest reads.0 left.0 read)

first_given : (before after : Reading) (x : Piece) (left : OnlyPieces before)
    → ((pieces : List Piece) → IsRead before.place before.rest pieces → Gives pieces after (Ok (Some x)))
    → (left.0 ≡ x ∷ drop 1 left.0) × ∥ IsRead after.place after.rest (drop 1 left.0) ∥₁
first_given before after x left each = (
  ∥∥₁_elim left.1.0 (pieces-set left.0 (x ∷ drop 1 left.0)) (λ read. is left.0 (each left.0 read)),
  ∥∥₁_map left.1.0 (λ read. behind left.0 (each left.0 read)),
)
  where
    is : (pieces : List Piece) → Gives pieces after (Ok (Some x)) → pieces ≡ x ∷ drop 1 pieces
    is [] gives = absurd (cc)
    is (y ∷ pieces) gives = cc

    behind : (pieces : List Piece) → Gives pieces after (Ok (Some x)) → IsRead after.place after.rest (drop 1 pieces)
    behind [] gives = absurd (cc)
    behind (y ∷ pieces) gives = gives.1

pub left_after : (before after : Reading) (answer : Result (Option Piece) SheetFault) → OnlyPieces before → Reads before after answer
    → ((pieces : List Piece) → IsRead before.place before.rest pieces → Gives pieces after answer) → OnlyPieces after
left_after before after (Ok (Some x)) left reads each =
    let it = first_given before after x left each in (
      drop 1 left.0,
      (
        it.1,
        λ others read. ap (drop 1) (left.1.1 (x ∷ others) (put_back before after x reads others read)),
      ),
    )
left_after before after (Ok None) left reads each = subst OnlyPieces (sym reads.2) left
left_after before after (Err fault) left reads each = absurd (no_fault before after fault left reads)

pub piece_given : (before after : Reading) (answer : Option Piece) (left : OnlyPieces before) (behind : OnlyPieces after)
    → Reads before after (Ok answer)
    → ((pieces : List Piece) → IsRead before.place before.rest pieces → Gives pieces after (Ok answer))
    → GivesPiece (record { pieces = left.0; lines = before.lines }) (record { pieces = behind.0; lines = after.lines }) answer
piece_given before after (Some x) left behind reads each =
    let it = first_given before after x left each in
    let same : drop 1 left.0 ≡ behind.0 = ∥∥₁_elim it.1 (pieces-set (drop 1 left.0) behind.0) (λ read. behind.1.1 (drop 1 left.0) read) in
    (it.0 ∙ ap (λ p. x ∷ p) same, reads.lines)
piece_given before after None left behind reads each =
    let none : [] ≡ left.0 = left.1.1 [] (reads.0, reads.1) in
    let end : IsRead after.place after.rest [] = subst (λ (r : Reading). IsRead r.place r.rest []) (sym reads.2) (reads.0, reads.1) in
    let same : behind.0 ≡ left.0 = sym (behind.1.1 [] end) ∙ none in
    (sym none, ap (λ p. record { pieces = p; lines = after.lines }) same ∙ ap (λ (r : Reading). record { pieces = left.0; lines = r.lines }) reads.2)
