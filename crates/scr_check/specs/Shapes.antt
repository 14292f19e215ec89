-- What laws say of lines and of lists.
use Rattle.std.specs.Prelude.{ℕ, true, false, ◌≡◌, ◌≢◌, ◌⊎◌, List, [], ◌∷◌}
use Rattle.scr_check.specs.Lines.{CutLine, cut_lines, IsPlain, AreEnded}
use Rattle.scr_check.specs.Parts.{is_separator}

-- a line feed ends the line; or nothing does, and it has bytes and is the last
abbrev pub IsEndedOrLast : CutLine → List CutLine → Type 0
IsEndedOrLast line behind = (line.ended ≡ true) ⊎ ((line.ended ≡ false) × (line.bytes ≢ []) × (behind ≡ []))

-- lines that a text can be cut into
unfoldable pub AreCut : List CutLine → Type 0
AreCut [] = Unit {0}
AreCut (line ∷ lines) = IsPlain line.bytes × IsEndedOrLast line lines × AreCut lines

-- none of these lines separates a list from a sheet
unfoldable pub NoneSeparates : List CutLine → Type 0
NoneSeparates [] = Unit {0}
NoneSeparates (line ∷ lines) = (is_separator line ≡ false) × NoneSeparates lines

-- a list of whole lines, none of which separates
pub record IsListText (list : List ℕ) : Type 0 where
  pub ended : AreEnded (cut_lines list)
  pub none : NoneSeparates (cut_lines list)
