-- What a check took, line by line.
use Rattle.std.proofs.Common.{nat_eq, ◌≡◌, ℕ, suc, ◌+◌, ◌≤◌, Bool, true, false, Option, Some, List, [], ◌∷◌, ◌++◌, length, Ok, Err, refl, sym, ap, subst, ◌∙◌, append-nil, append_assoc, inl, inr, ◌⊎◌, length-append, arith}
use Rattle.std.proofs.lemmas.Bool.{false≢true, cases_Bool, eqb-true}
use Rattle.scr_check.specs.declared.fault.Missing.{Missing}
use Rattle.scr_check.specs.declared.fault.CheckFault.{CheckFault}
use Rattle.scr_check.specs.declared.fault.CheckFault.TheVariants.{Differs, Limit, Read}
use Rattle.scr_check.specs.Lines.{CutLine, cut_lines, line_end, IsPlain, AreEnded}
use Rattle.scr_check.specs.Reading.{Reading, Takes, StopsShort}
use Rattle.scr_check.specs.Agreement.{ExpectedLines, AreLawful, most_bytes, line_at, LineAgrees, ComesTo}
use Rattle.scr_check.specs.Taken.{IsMissing, CanFollow, AreOfOneLine, AreTakenByLines, LineComesTo, TakesGoodLine, TakesBadLine, ChecksLine, TakesSheet, ChecksSheet}
use Rattle.scr_check.proofs.CutLemmas.{IsPlain-none, IsPlain-one, cut-none, cut-ended, cut-begun, cut-append, cut-push, cut-some, first_bytes, is_first_ended, AreEnded-none, AreEnded-one, AreEnded-append}
use Rattle.scr_check.proofs.ReadingLemmas.{Takes-none, Takes-append, StopsShort-after}
use Rattle.scr_check.proofs.FaultLemmas.{OfEach, OfEach-none, OfEach-push, all-agree, each-faultless, comes-to-line, comes-to-agreement, comes-to-more}

-- ---- one line

of-nothing : AreOfOneLine (most_bytes + 1) []
of-nothing = record { text = []; ended = false; plain = IsPlain-none; parts = refl; few = omega arith }

of-one-byte : (byte : ℕ) → (nat_eq byte 10 ≡ true) ⊎ (nat_eq byte 10 ≡ false) → AreOfOneLine (most_bytes + 1) (byte ∷ [])
of-one-byte byte (inl feed) = grind (arith, IsPlain-none, eqb-true)
of-one-byte byte (inr other) = record {
  text = byte ∷ [];
  ended = false;
  plain = IsPlain-one byte other;
  parts = refl;
  few = omega arith;
}

-- bytes of a line without its line feed
pub of-plain : (text : List ℕ) → IsPlain text → length text ≤ most_bytes + 1 → AreOfOneLine (most_bytes + 1) text
of-plain text plain few = record { text = text; ended = false; plain = plain; parts = sym (append-nil text); few = few }

-- a line that is ended, where it is read whole
first-ended : (text rest : List ℕ) → IsPlain text →
    line_at (cut_lines ((text ++ 10 ∷ []) ++ rest)) 1 ≡ Some (record { bytes = text; ended = true })
first-ended text rest plain = grind (arith, append_assoc, cut-ended)

-- a line of which the first bytes are read
abbrev begun-line : ℕ → List ℕ → List ℕ → CutLine
begun-line byte text rest = record { bytes = byte ∷ (text ++ first_bytes (cut_lines rest)); ended = is_first_ended (cut_lines rest) }

first-begun : (byte : ℕ) (text rest : List ℕ) → IsPlain (byte ∷ text) →
    line_at (cut_lines (((byte ∷ text) ++ []) ++ rest)) 1 ≡ Some (begun-line byte text rest)
first-begun byte text rest plain = grind (arith, append-nil, cut-begun)

module _ (expected : ExpectedLines) (lawful : AreLawful expected) (i byte : ℕ) (text : List ℕ) (stopped : Bool)
    (full : stopped ≡ false → length (byte ∷ text) ≡ most_bytes + 1) where
  begun-differs : (rest : List ℕ) → CanFollow stopped rest → (stopped ≡ true) ⊎ (stopped ≡ false)
      → LineAgrees expected i (begun-line byte text rest) → ⊥
  begun-differs rest may (inl end) agrees = grind (arith, false≢true, is_first_ended, cut-none)
  begun-differs rest may (inr more) agrees = grind (arith, first_bytes, length-append)

  begun-there : (rest : List ℕ) (answer : Bool) → expected.IsAnswer i (byte ∷ text) (Ok answer) →
      (missing : Missing) → IsMissing expected i (begun-line byte text rest) missing → ⊥
  begun-there rest answer is missing lacks =
      let other = lawful.by_line i (byte ∷ (text ++ first_bytes (cut_lines rest))) (byte ∷ text) missing lacks in
      let differ = lawful.one i (byte ∷ text) (Ok answer) (Err missing) is other in cc

none-there : (expected : ExpectedLines) (i : ℕ) (rest : List ℕ) → rest ≡ [] →
    LineComesTo expected i (line_at (cut_lines rest) 1) (Differs i)
none-there expected i rest none = rw (none, cut-none) refl

ended-by : (stopped : Bool) → (stopped ≡ false → 0 ≡ most_bytes + 1) → stopped ≡ true
ended-by true full = refl
ended-by false full = absurd (omega (arith, full refl))

module _ {S : Type 0} (left : S → Option (List ℕ)) (faults ends : S → ℕ) where
  -- an ended line, read whole, comes to a fault
  line-ended : (before after : Reading S) (expected : ExpectedLines) (i : ℕ) (text : List ℕ) (fault : CheckFault) → IsPlain text →
      Takes left faults ends before after (text ++ 10 ∷ []) → length text ≤ most_bytes →
      LineComesTo expected i (Some (record { bytes = text; ended = true })) fault → TakesBadLine left faults ends before after expected i fault
  line-ended before after expected i text fault plain takes short comes = grind (arith, length-append, first-ended)

  -- there was no line
  pub line-none : (before after : Reading S) (expected : ExpectedLines) (i : ℕ) → Takes left faults ends before after ([] ++ []) →
      (after.ended ≡ false → 0 ≡ most_bytes + 1) → ChecksLine left faults ends before after expected i (Err (Differs i))
  line-none before after expected i takes full = grind (arith, of-nothing, none-there, ended-by)

  -- so does one of which the first bytes are read
  line-begun : (before after : Reading S) (expected : ExpectedLines) (i byte : ℕ) (text : List ℕ) (fault : CheckFault) → IsPlain (byte ∷ text) →
      Takes left faults ends before after ((byte ∷ text) ++ []) → length (byte ∷ text) ≤ most_bytes + 1 →
      ((rest : List ℕ) → CanFollow after.ended rest → LineComesTo expected i (Some (begun-line byte text rest)) fault) →
      TakesBadLine left faults ends before after expected i fault
  line-begun before after expected i byte text fault plain takes few comes = grind (arith, append-nil, first-begun)

  -- what reading a line left: its bytes, and whether its line feed was read
  pub record IsLineRead (before after : Reading S) (text : List ℕ) (ended : Bool) : Type 0 where
    pub plain : IsPlain text
    pub taken : Takes left faults ends before after (text ++ line_end ended)
    pub few : length text ≤ most_bytes + 1
    pub short : ended ≡ true → length text ≤ most_bytes
    pub full : ended ≡ false → after.ended ≡ false → length text ≡ most_bytes + 1

  -- there was none
  pub line-absent : (before after : Reading S) (expected : ExpectedLines) (i : ℕ) (text : List ℕ) (ended : Bool) →
      IsLineRead before after text ended → length text ≡ 0 → ended ≡ false → ChecksLine left faults ends before after expected i (Err (Differs i))
  line-absent before after expected i (byte ∷ text) ended read none unended = absurd (omega (arith, none))
  line-absent before after expected i [] true read none unended = absurd (false≢true (sym unended))
  line-absent before after expected i [] false read none unended = line-none before after expected i read.taken (read.full refl)

  -- it is missing
  pub line-limit : (before after : Reading S) (expected : ExpectedLines) → AreLawful expected → (i : ℕ) (text : List ℕ) (ended : Bool) (missing : Missing) →
      IsLineRead before after text ended → (text ≡ [] → ended ≡ true) → expected.IsAnswer i text (Err missing) →
      ChecksLine left faults ends before after expected i (Err (Limit missing))
  line-limit before after expected lawful i text true missing read there is = grind (arith, line-ended)
  line-limit before after expected lawful i [] false missing read there is = absurd (false≢true (there refl))
  line-limit before after expected lawful i (byte ∷ text) false missing read there is =
      grind (arith, line-begun, first_bytes)

  -- it doesn't agree, or isn't ended
  pub line-differs : (before after : Reading S) (expected : ExpectedLines) → AreLawful expected → (i : ℕ) (text : List ℕ) (ended answer : Bool) →
      IsLineRead before after text ended → (text ≡ [] → ended ≡ true) → expected.IsAnswer i text (Ok answer) → (ended ≡ true → answer ≡ false) →
      ChecksLine left faults ends before after expected i (Err (Differs i))
  line-differs before after expected lawful i text true answer read there is not = grind (arith, line-ended)
  line-differs before after expected lawful i [] false answer read there is not = absurd (false≢true (there refl))
  line-differs before after expected lawful i (byte ∷ text) false answer read there is not =
      line-begun before after expected i byte text (Differs i) read.plain read.taken read.few (λ rest may. (
        refl,
        begun-differs expected lawful i byte text after.ended (read.full refl) rest may (cases_Bool after.ended),
        begun-there expected lawful i byte text after.ended (read.full refl) rest answer is,
      ))

  -- ---- one line after another

  -- so many lines were taken, all of which agree
  pub record IsAgreed (before after : Reading S) (expected : ExpectedLines) (line : ℕ) : Type 0 where
    pub bytes : List ℕ
    pub takes : Takes left faults ends before after bytes
    pub ended : AreEnded (cut_lines bytes)
    pub agree : OfEach (LineAgrees expected) (cut_lines bytes)
    pub count : length (cut_lines bytes) ≡ line

  pub agreed-none : (reader : Reading S) (expected : ExpectedLines) → IsAgreed reader reader expected 0
  agreed-none reader expected = grind (arith, Takes-none, cut-none, AreEnded-none, OfEach-none)

  pub agreed-more : (before middle after : Reading S) (expected : ExpectedLines) (line : ℕ) → IsAgreed before middle expected line →
      TakesGoodLine left faults ends middle after expected (line + 1) → IsAgreed before after expected (line + 1)
  agreed-more before middle after expected line so good =
      let last : CutLine = record { bytes = good.text; ended = true } in
      let lines : cut_lines (so.bytes ++ (good.text ++ 10 ∷ [])) ≡ cut_lines so.bytes ++ last ∷ [] =
      cut-push so.bytes good.text so.ended good.plain in
      let number : line + 1 ≡ suc (length (cut_lines so.bytes)) = omega (arith, so.count) in
      record {
        bytes = so.bytes ++ (good.text ++ 10 ∷ []);
        takes = Takes-append left faults ends so.takes good.takes;
        ended = subst AreEnded (sym lines) (AreEnded-append (cut_lines so.bytes) (last ∷ []) so.ended (AreEnded-one good.text));
        agree = subst (OfEach (LineAgrees expected)) (sym lines) (OfEach-push (LineAgrees expected) (cut_lines so.bytes) last so.agree
            (subst (λ n. LineAgrees expected n last) number (refl, good.agrees)));
        count = ap length lines ∙ length-append (cut_lines so.bytes) (last ∷ []) ∙ ap (λ n. n + 1) so.count;
      }

  by-lines : (expected : ExpectedLines) (bytes more : List ℕ) → OfEach (LineAgrees expected) (cut_lines bytes) → AreOfOneLine (most_bytes + 1) more →
      AreTakenByLines expected (most_bytes + 1) (bytes ++ more)
  by-lines expected bytes more agree of_one =
      record { whole = bytes; part = more; parts = refl; agree = all-agree expected (cut_lines bytes) agree; one_line = of_one }

  bad-line : (before middle after : Reading S) (expected : ExpectedLines) → AreLawful expected → (line : ℕ) (fault : CheckFault) → IsAgreed before middle expected line →
      line + 1 ≤ expected.count → TakesBadLine left faults ends middle after expected (line + 1) fault →
      TakesSheet left faults ends before after expected (Err fault)
  bad-line before middle after expected lawful line fault so few bad = record {
    bytes = so.bytes ++ bad.bytes;
    takes = Takes-append left faults ends so.takes bad.takes;
    by_lines = by-lines expected so.bytes bad.bytes so.agree bad.one_line;
    comes_to = λ rest may.
        let lines : cut_lines ((so.bytes ++ bad.bytes) ++ rest) ≡ cut_lines so.bytes ++ cut_lines (bad.bytes ++ rest) =
        ap cut_lines (append_assoc so.bytes bad.bytes rest) ∙ cut-append so.bytes (bad.bytes ++ rest) so.ended in
        let number : line + 1 ≡ suc (length (cut_lines so.bytes)) = omega (arith, so.count) in
        subst (λ x. ComesTo expected x (Err fault)) (sym lines)
        (comes-to-line expected (cut_lines so.bytes) (cut_lines (bad.bytes ++ rest)) fault
        (each-faultless expected lawful (cut_lines so.bytes) so.agree) (omega (arith, so.count))
        (subst (λ n. LineComesTo expected n (line_at (cut_lines (bad.bytes ++ rest)) 1) fault) number (bad.comes_to rest may)));
  }

  -- a line that is at fault, or that couldn't be read
  pub sheet-fault : (before middle after : Reading S) (expected : ExpectedLines) → AreLawful expected → (line : ℕ) (fault : CheckFault) → IsAgreed before middle expected line →
      line + 1 ≤ expected.count → ChecksLine left faults ends middle after expected (line + 1) (Err fault) →
      ChecksSheet left faults ends before after expected (Err fault)
  sheet-fault before middle after expected lawful line (Differs i) so few bad = bad-line before middle after expected lawful line (Differs i) so few bad
  sheet-fault before middle after expected lawful line (Limit missing) so few bad =
      bad-line before middle after expected lawful line (Limit missing) so few bad
  sheet-fault before middle after expected lawful line Read so few bad = record {
    bytes = so.bytes ++ bad.bytes;
    stops = StopsShort-after left faults ends so.takes bad.stops;
    by_lines = by-lines expected so.bytes bad.bytes so.agree bad.one_line;
  }

  -- the end of input behind all lines
  pub sheet-agrees : (before middle after : Reading S) (expected : ExpectedLines) → AreLawful expected → (line : ℕ) (done : Unit {0}) → IsAgreed before middle expected line →
      line ≡ expected.count → Takes left faults ends middle after [] → after.ended ≡ true → ChecksSheet left faults ends before after expected (Ok done)
  sheet-agrees before middle after expected lawful line done so all takes ended = (
    record {
      bytes = so.bytes ++ [];
      takes = Takes-append left faults ends so.takes takes;
      by_lines = by-lines expected so.bytes [] so.agree of-nothing;
      comes_to = λ rest may.
          let lines : cut_lines ((so.bytes ++ []) ++ rest) ≡ cut_lines so.bytes ++ [] =
          ap cut_lines (append_assoc so.bytes [] rest) ∙ ap (λ x. cut_lines (so.bytes ++ x)) (may ended)
          ∙ ap cut_lines (append-nil so.bytes) ∙ sym (append-nil (cut_lines so.bytes)) in
          subst (λ x. ComesTo expected x (Ok done)) (sym lines)
          (comes-to-agreement expected (cut_lines so.bytes) done (each-faultless expected lawful (cut_lines so.bytes) so.agree) (so.count ∙ all));
    },
    ended,
  )

  -- one byte more than all lines have
  pub sheet-more : (before middle after : Reading S) (expected : ExpectedLines) → AreLawful expected → (line byte number : ℕ) → IsAgreed before middle expected line →
      line ≡ expected.count → number ≡ line → Takes left faults ends middle after (byte ∷ []) →
      ChecksSheet left faults ends before after expected (Err (Differs (number + 1)))
  sheet-more before middle after expected lawful line byte number so all is takes = record {
    bytes = so.bytes ++ byte ∷ [];
    takes = Takes-append left faults ends so.takes takes;
    by_lines = by-lines expected so.bytes (byte ∷ []) so.agree (of-one-byte byte (cases_Bool (nat_eq byte 10)));
    comes_to = λ rest may.
        let next = cut-some byte rest in
        let lines : cut_lines ((so.bytes ++ byte ∷ []) ++ rest) ≡ cut_lines so.bytes ++ next.line ∷ next.behind =
        ap cut_lines (append_assoc so.bytes (byte ∷ []) rest) ∙ cut-append so.bytes (byte ∷ rest) so.ended
        ∙ ap (λ x. cut_lines so.bytes ++ x) next.is in
        let next_number : suc (length (cut_lines so.bytes)) ≡ number + 1 = omega (arith, so.count) in
        subst (λ n. ComesTo expected (cut_lines ((so.bytes ++ byte ∷ []) ++ rest)) (Err (Differs n))) next_number
        (subst (λ x. ComesTo expected x (Err (Differs (suc (length (cut_lines so.bytes)))))) (sym lines)
        (comes-to-more expected (cut_lines so.bytes) next.line next.behind
        (each-faultless expected lawful (cut_lines so.bytes) so.agree) (so.count ∙ all)));
  }

  -- a fault behind all lines
  pub sheet-failed : (before middle after : Reading S) (expected : ExpectedLines) (line : ℕ) → IsAgreed before middle expected line →
      StopsShort left faults ends middle after [] → ChecksSheet left faults ends before after expected (Err Read)
  sheet-failed before middle after expected line so stops = record {
    bytes = so.bytes ++ [];
    stops = StopsShort-after left faults ends so.takes stops;
    by_lines = by-lines expected so.bytes [] so.agree of-nothing;
  }
