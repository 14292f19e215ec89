-- Why a text is no sheet.
use Rattle.std.specs.Prelude.{ℕ, ◌≡◌, ◌≢◌, ◌+◌, ◌==◌, false, ◌⊎◌, List, [], ◌∷◌, ◌++◌, codes, length, All}
use Rattle.std.specs.List.{list_any}
use Rattle.scr_text.specs.Lines.{text_of_lines}
use Rattle.scr_read.specs.declared.fault.SheetCause.{SheetCause}
use Rattle.scr_read.specs.declared.fault.SheetCause.TheVariants as cause
use Rattle.scr_read.specs.declared.fault.SheetFault.{SheetFault}
use Rattle.scr_read.specs.Sheets.{SheetRound, IsSheet}
use Rattle.scr_read.specs.Reading.{Place, Start, Between, InGroup, Walks}

-- no line feed stands in it, which is byte 10
abbrev pub IsOneLine : List ℕ → Type 0
IsOneLine text = list_any (λ byte. byte == 10) text ≡ false

-- a line begins with this text
abbrev pub Begins : List ℕ → List ℕ → Type 0
Begins front line = (behind : List ℕ) × (line ≡ front ++ behind)

-- What is told of a line that may not stand here: which line had to.
abbrev pub IsCauseAt : Place → List ℕ → SheetCause → Type 0
IsCauseAt Start line told = told ≡ cause.Head
IsCauseAt (Between rounds event groups) line cause.Head = Begins (codes "Round ") line
IsCauseAt (Between rounds event groups) line cause.Group = Begins (codes "Round ") line → ⊥
IsCauseAt (InGroup rounds event groups []) line told = told ≡ cause.GroupEnd
IsCauseAt (InGroup rounds event groups (label ∷ labels)) line cause.Scramble = Begins label line
IsCauseAt (InGroup rounds event groups (label ∷ labels)) line cause.Label = Begins label line → ⊥
IsCauseAt place line told = ⊥

-- The same of what is left of a text: that it ends, or that its last line has no line feed, and else of its first line.
abbrev pub IsCause : Place → List ℕ → SheetCause → Type 0
IsCause place rest cause.End = rest ≡ []
IsCause place rest cause.LineFeed = (rest ≢ []) × IsOneLine rest
IsCause place rest told =
    (line : List ℕ) × (behind : List ℕ) × IsOneLine line × (rest ≡ line ++ 10 ∷ behind) × IsCauseAt place line told

-- two texts have the same first line, with its line feed; or none has a line feed, and they are the same
abbrev pub ShareFirstLine : List ℕ → List ℕ → Type 0
ShareFirstLine rest other =
    ((line : List ℕ) × (behind : List ℕ) × (more : List ℕ) × IsOneLine line × (rest ≡ line ++ 10 ∷ behind)
    × (other ≡ line ++ 10 ∷ more))
    ⊎ (IsOneLine rest × (other ≡ rest))

-- The first line at fault has this number, counted from 1: some sheet begins with the lines before it, and none goes on
-- as the text does to the end of this line.
pub record IsFirstAtFault (text : List ℕ) (number : ℕ) : Type 0 where
  pub lines : List (List ℕ)
  pub rest : List ℕ
  pub text_is : text ≡ text_of_lines lines ++ rest
  pub are_lines : All IsOneLine lines
  pub number_is : number ≡ length lines + 1
  pub begins : (more : List ℕ) × (rounds : List SheetRound) × IsSheet (text_of_lines lines ++ more) rounds
  pub at_fault : (other : List ℕ) (rounds : List SheetRound) → ShareFirstLine rest other
      → IsSheet (text_of_lines lines ++ other) rounds → ⊥

-- What is told of a text that is no sheet: its first line at fault, and the cause that is told of what is left of the
-- text at the place where the lines before that line lead.
pub record IsFirstFault (text : List ℕ) (fault : SheetFault) : Type 0 where
  pub line : IsFirstAtFault text fault.line
  pub before : List (List ℕ)
  pub place : Place
  pub rest : List ℕ
  pub text_is : text ≡ text_of_lines before ++ rest
  pub number_is : fault.line ≡ length before + 1
  pub leads : Walks Start before place
  pub cause : IsCause place rest fault.cause
