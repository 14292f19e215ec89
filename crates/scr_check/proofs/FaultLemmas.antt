-- The first line at fault, behind lines that aren't.
use Rattle.std.proofs.Common.{◌≡◌, ℕ, zero, suc, ◌<◌, ◌≤◌, Option, Some, None, List, [], ◌∷◌, ◌++◌, length, Ok, Err, refl, sym, ap, subst, ◌∙◌, append-nil, length-append, inl, inr, ◌⊎◌, arith, get_or, false}
use Rattle.std.specs.Prelude.{slice_get, MatchOption, IsSomeAnd}
use Rattle.std.proofs.lemmas.Bool.{cases_lt}
use Rattle.std.proofs.lemmas.Option.{slice_get_within, slice_get_past, slice_get-get_or}
use Rattle.scr_check.specs.declared.fault.Missing.{Missing}
use Rattle.scr_check.specs.declared.fault.CheckFault.{CheckFault}
use Rattle.scr_check.specs.declared.fault.CheckFault.TheVariants.{Differs, Limit, Read}
use Rattle.scr_check.specs.Lines.{CutLine}
use Rattle.scr_check.specs.Agreement.{ExpectedLines, AreLawful, IsExpected, line_at, LineAgrees, AllAgree, IsInOrder, IsFirstAtFault, ComesTo}
use Rattle.scr_check.specs.Taken.{IsMissing, LineComesTo}

-- this is so of each of these lines, by its number
abbrev pub OfEach : (ℕ → CutLine → Type 0) → List CutLine → Type 0
OfEach P lines = (k : ℕ) (line : CutLine) → slice_get lines k ≡ Some line → P (suc k) line

pub OfEach-none : (P : ℕ → CutLine → Type 0) → OfEach P []
OfEach-none P k line there = let none : None ≡ Some line = there in cc

pub Some-line : {a b : CutLine} → Some a ≡ Some b → a ≡ b
Some-line same = cc

-- a line that is there isn't past the end
pub line-within : (lines : List CutLine) (k : ℕ) (line : CutLine) → slice_get lines k ≡ Some line → k < length lines
line-within lines k line there = slice_get_within lines k line there

pub past-end : (lines : List CutLine) (k : ℕ) → length lines ≤ k → slice_get lines k ≡ None
past-end lines k past = slice_get_past lines k past

-- a line that isn't past the end is there
pub line-there : (lines : List CutLine) (k : ℕ) → k < length lines → (line : CutLine) × (slice_get lines k ≡ Some line)
line-there lines k below =
    let none : CutLine = record { bytes = []; ended = false } in
    (get_or lines k none, slice_get-get_or lines k none below)

-- the lines of some lines and more behind them
pub at-before : (lines more : List CutLine) (k : ℕ) → k < length lines → slice_get (lines ++ more) k ≡ slice_get lines k
at-before [] more k below = absurd (omega arith)
at-before (line ∷ lines) more zero below = refl
at-before (line ∷ lines) more (suc k) below = at-before lines more k (omega arith)

pub at-behind : (lines more : List CutLine) → slice_get (lines ++ more) (length lines) ≡ slice_get more 0
at-behind [] more = refl
at-behind (line ∷ lines) more = at-behind lines more

push-by : (P : ℕ → CutLine → Type 0) (lines : List CutLine) (last : CutLine) → OfEach P lines → P (suc (length lines)) last →
    (k : ℕ) (line : CutLine) → slice_get (lines ++ last ∷ []) k ≡ Some line → (k < length lines) ⊎ (length lines ≤ k) → P (suc k) line
push-by P lines last each so k line there (inl below) = each k line (sym (at-before lines (last ∷ []) k below) ∙ there)
push-by P lines last each so k line there (inr past) = grind (arith, line-within, length-append, Some-line, at-behind)

pub OfEach-push : (P : ℕ → CutLine → Type 0) (lines : List CutLine) (last : CutLine) → OfEach P lines → P (suc (length lines)) last →
    OfEach P (lines ++ last ∷ [])
OfEach-push P lines last each so k line there = push-by P lines last each so k line there (cases_lt k (length lines))

-- each of some lines agrees, said of their numbers
pub all-agree : (expected : ExpectedLines) (lines : List CutLine) → OfEach (LineAgrees expected) lines
    → AllAgree expected lines
all-agree expected lines each zero line there = let none : None ≡ Some line = there in cc
all-agree expected lines each (suc k) line there = each k line there

-- a line that both have is in order
pub record IsFaultless (expected : ExpectedLines) (i : ℕ) (line : CutLine) : Type 0 where
  pub agrees : LineAgrees expected i line
  pub there : (missing : Missing) → IsMissing expected i line missing → ⊥

-- where it agrees
pub faultless : (expected : ExpectedLines) → AreLawful expected → (i : ℕ) (line : CutLine) → LineAgrees expected i line
    → IsFaultless expected i line
faultless expected lawful i line agrees = grind arith

pub each-faultless : (expected : ExpectedLines) → AreLawful expected → (lines : List CutLine) →
    OfEach (LineAgrees expected) lines → OfEach (IsFaultless expected) lines
each-faultless expected lawful lines each k line there = faultless expected lawful (suc k) line (each k line there)

-- what the sheet has as line i is in order
abbrev pub OrderOf : ExpectedLines → ℕ → Option CutLine → Type 0
OrderOf expected i found =
    MatchOption found (IsExpected expected i → ⊥) (λ line. IsExpected expected i × LineAgrees expected i line
    × ((missing : Missing) → expected.IsAnswer i line.bytes (Err missing) → ⊥))

-- it is line i of a slot that is missing
abbrev pub LackOf : ExpectedLines → ℕ → Missing → Option CutLine → Type 0
LackOf expected i missing found = IsSomeAnd found (λ line. expected.IsAnswer i line.bytes (Err missing))

in-order-at : (expected : ExpectedLines) (lines : List CutLine) (number : ℕ) → IsExpected expected number → (line : CutLine) →
    line_at lines number ≡ Some line → IsFaultless expected number line → IsInOrder expected lines number
in-order-at expected lines number is line there so = subst (OrderOf expected number) (sym there) (is, so.agrees, so.there)

-- no line has number 0
in-order-zero : (expected : ExpectedLines) (lines : List CutLine) → IsInOrder expected lines 0
in-order-zero expected lines = λ is. absurd (omega (arith, is.0))

-- each of the lines before is in order
pub none-before : (expected : ExpectedLines) (lines more : List CutLine) → OfEach (IsFaultless expected) lines → length lines ≤ expected.count →
    (number : ℕ) → number ≤ length lines → IsInOrder expected (lines ++ more) number
none-before expected lines more so few zero below = in-order-zero expected (lines ++ more)
none-before expected lines more so few (suc k) below =
    let at = line-there lines k (omega arith) in
    in-order-at expected (lines ++ more) (suc k) (omega arith, omega arith) at.0 (at-before lines more k (omega arith) ∙ at.1) (so k at.0 at.1)

past-behind : (lines : List CutLine) (k : ℕ) → length lines ≤ k → slice_get (lines ++ []) k ≡ None
past-behind lines k past = ap (λ x. slice_get x k) (append-nil lines) ∙ past-end lines k past

-- ---- what a check comes to behind lines that aren't at fault

-- where the line behind them is at fault
module _ (expected : ExpectedLines) (lines more : List CutLine) (so : OfEach (IsFaultless expected) lines) (few : suc (length lines) ≤ expected.count) where
  first-here : (IsInOrder expected (lines ++ more) (suc (length lines)) → ⊥)
      → IsFirstAtFault expected (lines ++ more) (suc (length lines))
  first-here fault = grind (arith, none-before)

  is-expected : IsExpected expected (suc (length lines))
  is-expected = (omega arith, omega arith)

  comes-to-none : slice_get (lines ++ more) (length lines) ≡ None
      → ComesTo expected (lines ++ more) (Err (Differs (suc (length lines))))
  comes-to-none here = grind (arith, first-here, is-expected)

  comes-to-differs : (line : CutLine) → slice_get (lines ++ more) (length lines) ≡ Some line →
      (LineAgrees expected (suc (length lines)) line → ⊥) → ((missing : Missing) → IsMissing expected (suc (length lines)) line missing → ⊥) →
      ComesTo expected (lines ++ more) (Err (Differs (suc (length lines))))
  comes-to-differs line here differs there = grind (arith, first-here)

  comes-to-limit : (line : CutLine) → slice_get (lines ++ more) (length lines) ≡ Some line → (missing : Missing) →
      IsMissing expected (suc (length lines)) line missing → ComesTo expected (lines ++ more) (Err (Limit missing))
  comes-to-limit line here missing is = grind (arith, first-here, is-expected)

  comes-to-by : (found : Option CutLine) (fault : CheckFault) → slice_get (lines ++ more) (length lines) ≡ found →
      LineComesTo expected (suc (length lines)) found fault → ComesTo expected (lines ++ more) (Err fault)
  comes-to-by None fault here comes = grind (arith, comes-to-none)
  comes-to-by (Some line) (Differs j) here comes = grind (arith, comes-to-differs)
  comes-to-by (Some line) (Limit missing) here comes = comes-to-limit line here missing comes
  comes-to-by (Some line) Read here comes = absurd comes

pub comes-to-line : (expected : ExpectedLines) (lines more : List CutLine) (fault : CheckFault) →
    OfEach (IsFaultless expected) lines → suc (length lines) ≤ expected.count →
    LineComesTo expected (suc (length lines)) (line_at more 1) fault → ComesTo expected (lines ++ more) (Err fault)
comes-to-line expected lines more fault so few comes = grind (arith, comes-to-by, at-behind)

none-past : (expected : ExpectedLines) (lines : List CutLine) (k : ℕ) → length lines ≡ expected.count → length lines ≤ k →
    IsInOrder expected (lines ++ []) (suc k)
none-past expected lines k all past = grind (arith, past-behind)

none-by : (expected : ExpectedLines) (lines : List CutLine) → OfEach (IsFaultless expected) lines → length lines ≡ expected.count →
    (k : ℕ) → (k < length lines) ⊎ (length lines ≤ k) → IsInOrder expected (lines ++ []) (suc k)
none-by expected lines so all k (inl below) = none-before expected lines [] so (omega arith) (suc k) (omega arith)
none-by expected lines so all k (inr past) = none-past expected lines k all past

none-at : (expected : ExpectedLines) (lines : List CutLine) → OfEach (IsFaultless expected) lines → length lines ≡ expected.count →
    (i : ℕ) → IsInOrder expected (lines ++ []) i
none-at expected lines so all zero = in-order-zero expected (lines ++ [])
none-at expected lines so all (suc k) = none-by expected lines so all k (cases_lt k (length lines))

-- where all that are expected are there, and no more
pub comes-to-agreement : (expected : ExpectedLines) (lines : List CutLine) (done : Unit {0}) → OfEach (IsFaultless expected) lines →
    length lines ≡ expected.count → ComesTo expected (lines ++ []) (Ok done)
comes-to-agreement expected lines done so all = λ i. none-at expected lines so all i

-- where one more is there
pub comes-to-more : (expected : ExpectedLines) (lines : List CutLine) (line : CutLine) (more : List CutLine) → OfEach (IsFaultless expected) lines →
    length lines ≡ expected.count → ComesTo expected (lines ++ line ∷ more) (Err (Differs (suc (length lines))))
comes-to-more expected lines line more so all = grind (arith, at-behind, none-before)
