-- One step of a reader.
use Rattle.std.proofs.Common.{◌≡◌, ℕ, ◌+◌, List, [], ◌∷◌, ◌++◌, Some, Ok, Err, refl, sym, subst, arith}
use Rattle.scr_read.specs.declared.fault.SheetCause.{SheetCause}
use Rattle.scr_read.specs.declared.fault.SheetCause.TheVariants as cause
use Rattle.scr_read.specs.declared.piece.Piece.{Piece}
use Rattle.scr_read.specs.Reading.{Place, Start, Between, InGroup, Reading, IsLine, IsRead}
use Rattle.scr_read.specs.Faults.{IsOneLine, IsCauseAt, IsCause}
use Rattle.scr_read.specs.Steps.{Reads, Gives}
use Rattle.scr_read.proofs.StepLemmas.{IsFit, goes_on, bad_line, fault_unread}

-- a line that was read is that of the first of the pieces that were left
pub given : (before : Reading) (place : Place) (rest line behind : List ℕ) (lines n : ℕ) (x : Piece) (next : Place)
    → record { place = place; rest = rest; lines = lines } ≡ before → IsFit place → rest ≡ line ++ 10 ∷ behind → IsLine place line x next
    → (pieces : List Piece) → IsRead before.place before.rest pieces
    → Gives pieces (record { place = next; rest = behind; lines = n }) (Ok (Some x))
given before place rest line behind lines n x next view fit cut is =
    subst (λ (r : Reading). (pieces : List Piece) → IsRead r.place r.rest pieces
    → Gives pieces (record { place = next; rest = behind; lines = n }) (Ok (Some x))) view (
    λ pieces read.
    let it = goes_on place rest line behind x next fit cut is pieces read in
    let P : List Piece → Type 0 = λ p. Gives p (record { place = next; rest = behind; lines = n }) (Ok (Some x)) in
    subst P (sym it.are) (refl, it.read)
    )

-- the end is told of no line
no_end : (place : Place) (line : List ℕ) → IsCauseAt place line cause.End → ⊥
no_end Start line is = cc
no_end (Between rounds event groups) line is = is
no_end (InGroup rounds event groups []) line is = cc
no_end (InGroup rounds event groups (label ∷ labels)) line is = is

no_feed : (place : Place) (line : List ℕ) → IsCauseAt place line cause.LineFeed → ⊥
no_feed Start line is = cc
no_feed (Between rounds event groups) line is = is
no_feed (InGroup rounds event groups []) line is = cc
no_feed (InGroup rounds event groups (label ∷ labels)) line is = is

cause_told : (place : Place) (rest line behind : List ℕ) (told : SheetCause) → IsOneLine line → rest ≡ line ++ 10 ∷ behind
    → IsCauseAt place line told → IsCause place rest told
cause_told place rest line behind cause.End one cut is = absurd (no_end place line is)
cause_told place rest line behind cause.LineFeed one cut is = absurd (no_feed place line is)
cause_told place rest line behind told one cut is = (line, behind, one, cut, is)

module _ (before : Reading) (place : Place) (rest line behind : List ℕ) (lines : ℕ)
    (view : record { place = place; rest = rest; lines = lines } ≡ before) (fit : IsFit place) (one : IsOneLine line)
    (cut : rest ≡ line ++ 10 ∷ behind) (told : SheetCause) (why : IsCauseAt place line told)
    (none : (x : Piece) (next : Place) → IsLine place line x next → ⊥) where
  pub refused : Reads before before (Err (record { line = lines + 1; cause = told }))
  refused = grind (arith, bad_line, cause_told)

  pub unread : (pieces : List Piece) → IsRead before.place before.rest pieces → ⊥
  unread = grind (arith, fault_unread, bad_line)
