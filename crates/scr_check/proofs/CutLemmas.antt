-- Lines cut at line feeds.
use Rattle.std.proofs.Common.{◌≡◌, ℕ, Bool, true, false, List, [], ◌∷◌, ◌++◌, refl, sym, ap, ◌∙◌, subst, append_assoc, inl, inr, ◌⊎◌, arith}
use Rattle.std.specs.Prelude.{nat_eq}
use Rattle.std.proofs.lemmas.Bool.{false≢true, eqb-true, cases_Bool}
use Rattle.scr_check.specs.Lines.{CutLine, with_byte, cut_lines, joined_lines, IsPlain, AreEnded}

-- ---- plain texts

pub IsPlain-append : (xs ys : List ℕ) → IsPlain xs → IsPlain ys → IsPlain (xs ++ ys)
unfolding IsPlain
IsPlain-append [] ys p q = q
IsPlain-append (x ∷ xs) ys p q = (p.0, IsPlain-append xs ys p.1 q)

pub IsPlain-one : (byte : ℕ) → nat_eq byte 10 ≡ false → IsPlain (byte ∷ [])
unfolding IsPlain
IsPlain-one byte other = (other, tt)

pub IsPlain-none : IsPlain []
unfolding IsPlain
IsPlain-none = tt

-- ---- ended lines

pub AreEnded-none : AreEnded []
unfolding AreEnded
AreEnded-none = tt

pub AreEnded-append : (xs ys : List CutLine) → AreEnded xs → AreEnded ys → AreEnded (xs ++ ys)
unfolding AreEnded
AreEnded-append [] ys p q = q
AreEnded-append (x ∷ xs) ys p q = (p.0, AreEnded-append xs ys p.1 q)

pub AreEnded-one : (text : List ℕ) → AreEnded (record { bytes = text; ended = true } ∷ [])
unfolding AreEnded
AreEnded-one text = (refl, tt)

-- ---- cutting

pub cut-none : cut_lines [] ≡ []
unfolding cut_lines
cut-none = refl

pub cut-other : (byte : ℕ) (rest : List ℕ) → nat_eq byte 10 ≡ false
    → cut_lines (byte ∷ rest) ≡ with_byte byte (cut_lines rest)
unfolding cut_lines
cut-other byte rest other = rw other refl

pub cut-feed : (byte : ℕ) (rest : List ℕ) → nat_eq byte 10 ≡ true →
    cut_lines (byte ∷ rest) ≡ record { bytes = []; ended = true } ∷ cut_lines rest
unfolding cut_lines
cut-feed byte rest feed = rw feed refl

-- a line that a line feed ends
pub cut-ended : (text rest : List ℕ) → IsPlain text →
    cut_lines (text ++ 10 ∷ rest) ≡ record { bytes = text; ended = true } ∷ cut_lines rest
unfolding IsPlain
cut-ended [] rest plain = cut-feed 10 rest refl
cut-ended (byte ∷ text) rest plain = grind (arith, cut-other, cut-ended text rest plain.1)

-- the bytes of the first of some lines, whether it is ended, and the lines after it
abbrev pub first_bytes : List CutLine → List ℕ
first_bytes [] = []
first_bytes (line ∷ lines) = line.bytes

abbrev pub is_first_ended : List CutLine → Bool
is_first_ended [] = false
is_first_ended (line ∷ lines) = line.ended

abbrev pub lines_behind : List CutLine → List CutLine
lines_behind [] = []
lines_behind (line ∷ lines) = lines

-- these lines with bytes before the first
abbrev pub begun : List ℕ → List CutLine → List CutLine
begun text lines = record { bytes = text ++ first_bytes lines; ended = is_first_ended lines } ∷ lines_behind lines

with_byte-begun : (byte : ℕ) (lines : List CutLine) → with_byte byte lines ≡ begun (byte ∷ []) lines
with_byte-begun byte [] = refl
with_byte-begun byte (line ∷ lines) = refl

-- bytes without a line feed begin the first line of what follows them
pub cut-begun : (byte : ℕ) (text rest : List ℕ) → IsPlain (byte ∷ text) →
    cut_lines (byte ∷ (text ++ rest)) ≡ begun (byte ∷ text) (cut_lines rest)
unfolding IsPlain
cut-begun byte [] rest plain = cut-other byte rest plain.0 ∙ with_byte-begun byte (cut_lines rest)
cut-begun byte (next ∷ text) rest plain = grind (arith, cut-other, cut-begun next text rest plain.1)

-- lines of which there is a first
pub record HaveFirst (lines : List CutLine) : Type 0 where
  pub line : CutLine
  pub behind : List CutLine
  pub is : lines ≡ line ∷ behind

cut-some-by : (byte : ℕ) (rest : List ℕ) → (nat_eq byte 10 ≡ true) ⊎ (nat_eq byte 10 ≡ false)
    → HaveFirst (cut_lines (byte ∷ rest))
cut-some-by byte rest (inl feed) = record { line = record { bytes = []; ended = true }; behind = cut_lines rest; is = cut-feed byte rest feed }
cut-some-by byte rest (inr other) = grind (arith, cut-other, with_byte-begun)

-- a text that has a byte has a line
pub cut-some : (byte : ℕ) (rest : List ℕ) → HaveFirst (cut_lines (byte ∷ rest))
cut-some byte rest = cut-some-by byte rest (cases_Bool (nat_eq byte 10))

-- ---- whole lines before others

whole-with_byte : (byte : ℕ) (lines more : List CutLine) → AreEnded (with_byte byte lines) →
    AreEnded lines × (with_byte byte (lines ++ more) ≡ with_byte byte lines ++ more)
unfolding AreEnded
whole-with_byte byte [] more ended = absurd (false≢true ended.0)
whole-with_byte byte (line ∷ lines) more ended = (ended, refl)

AreEnded-tail : (line : CutLine) (lines : List CutLine) → AreEnded (line ∷ lines) → AreEnded lines
unfolding AreEnded
AreEnded-tail line lines ended = ended.1

cut-append-by : (byte : ℕ) (text rest : List ℕ) → (AreEnded (cut_lines text) → cut_lines (text ++ rest) ≡ cut_lines text ++ cut_lines rest) →
    (nat_eq byte 10 ≡ true) ⊎ (nat_eq byte 10 ≡ false) → AreEnded (cut_lines (byte ∷ text)) →
    cut_lines (byte ∷ (text ++ rest)) ≡ cut_lines (byte ∷ text) ++ cut_lines rest
cut-append-by byte text rest behind (inl feed) ended = grind (arith, cut-feed, AreEnded-tail)
cut-append-by byte text rest behind (inr other) ended =
    let lines = cut-other byte text other in
    let parts = whole-with_byte byte (cut_lines text) (cut_lines rest) (subst AreEnded lines ended) in
    cut-other byte (text ++ rest) other ∙ ap (with_byte byte) (behind parts.0) ∙ parts.1
    ∙ ap (λ x. x ++ cut_lines rest) (sym lines)

-- whole lines are cut from a text before what follows them
pub cut-append : (whole rest : List ℕ) → AreEnded (cut_lines whole)
    → cut_lines (whole ++ rest) ≡ cut_lines whole ++ cut_lines rest
cut-append [] rest ended = ap (λ x. x ++ cut_lines rest) (sym cut-none)
cut-append (byte ∷ text) rest ended = cut-append-by byte text rest (cut-append text rest) (cases_Bool (nat_eq byte 10)) ended

-- a line more, which a line feed ends
pub cut-push : (whole text : List ℕ) → AreEnded (cut_lines whole) → IsPlain text →
    cut_lines (whole ++ (text ++ 10 ∷ [])) ≡ cut_lines whole ++ record { bytes = text; ended = true } ∷ []
cut-push whole text ended plain = grind (arith, cut-append, cut-ended, cut-none)

-- ---- joining

joined-with_byte : (byte : ℕ) (lines : List CutLine) → joined_lines (with_byte byte lines) ≡ byte ∷ joined_lines lines
unfolding joined_lines
joined-with_byte byte [] = refl
joined-with_byte byte (line ∷ lines) = refl

joined-feed : (lines : List CutLine)
    → joined_lines (record { bytes = []; ended = true } ∷ lines) ≡ 10 ∷ joined_lines lines
unfolding joined_lines
joined-feed lines = refl

joined-step : (byte : ℕ) (rest : List ℕ) → joined_lines (cut_lines rest) ≡ rest →
    (nat_eq byte 10 ≡ true) ⊎ (nat_eq byte 10 ≡ false) → joined_lines (cut_lines (byte ∷ rest)) ≡ byte ∷ rest
joined-step byte rest same (inl feed) = grind (arith, cut-feed, joined-feed, eqb-true)
joined-step byte rest same (inr other) = grind (arith, cut-other, joined-with_byte)

-- a text is joined from its lines
pub joined-cut : (text : List ℕ) → joined_lines (cut_lines text) ≡ text
unfolding joined_lines cut_lines
joined-cut [] = refl
joined-cut (byte ∷ rest) = joined-step byte rest (joined-cut rest) (cases_Bool (nat_eq byte 10))

pub joined-append : (xs ys : List CutLine) → joined_lines (xs ++ ys) ≡ joined_lines xs ++ joined_lines ys
unfolding joined_lines
joined-append [] ys = refl
joined-append (line ∷ lines) ys = grind (arith, append_assoc, joined-append lines ys)
