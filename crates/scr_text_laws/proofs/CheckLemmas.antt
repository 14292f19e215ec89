-- What the laws say.
use Rattle.std.proofs.Common.{◌≡◌, ℕ, suc, Option, Some, None, ◌+◌, ◌<◌, ◌≤◌, Bool, true, false, List, [], ◌∷◌, ◌++◌, length, Result, Ok, Err, refl, sym, ap, subst, ◌∙◌, append-nil, append_assoc, inl, inr, ◌⊎◌, length-append, arith}
use Rattle.std.specs.Prelude.{nat_eq, bytes_eq, ◌≢◌}
use Rattle.std.proofs.lemmas.Bool.{false≢true, cases_Bool, cases_lt, cases_order}
use Rattle.scr_check.specs.declared.fault.Missing.{Missing}
use Rattle.scr_check.specs.declared.fault.CheckFault.{CheckFault}
use Rattle.scr_check.specs.declared.fault.CheckFault.TheVariants.{Differs, Limit, Read}
use Rattle.scr_check.specs.Lines.{CutLine, with_byte, cut_lines, joined_lines, line_end, IsPlain, AreEnded}
use Rattle.scr_check.specs.Parts.{separator}
use Rattle.scr_check.specs.Shapes.{AreCut, IsEndedOrLast}
use Rattle.scr_check.specs.Agreement.{ExpectedLines, AreLawful, HaveAnswers, line_at, LineAgrees, IsFirstAtFault, Lacks, ComesTo}
use Rattle.scr_check.specs.Taken.{LineComesTo}
use Rattle.scr_check.proofs.CutLemmas.{cut-none, cut-other, cut-feed, cut-ended, cut-append, cut-push, cut-some, joined-cut, IsPlain-none}
use Rattle.scr_check.proofs.PartLemmas.{cut-last}
use Rattle.scr_check.proofs.FaultLemmas.{OfEach, OfEach-none, OfEach-push, IsFaultless, OrderOf, LackOf, faultless, line-there, line-within, past-end, at-before, at-behind, comes-to-line, comes-to-agreement, comes-to-more}

-- ---- the shape of lines

longer : (byte : ℕ) (line : CutLine) (lines : List CutLine) → IsEndedOrLast line lines →
    IsEndedOrLast (record { bytes = byte ∷ line.bytes; ended = line.ended }) lines
longer byte line lines (inl ended) = inl ended
longer byte line lines (inr last) = inr (last.0, λ none. let some : byte ∷ line.bytes ≡ [] = none in cc, last.2)

shape-feed : (lines : List CutLine) → AreCut lines → AreCut (record { bytes = []; ended = true } ∷ lines)
unfolding AreCut IsPlain
shape-feed lines cut = (tt, inl refl, cut)

shape-with_byte : (byte : ℕ) (lines : List CutLine) → nat_eq byte 10 ≡ false → AreCut lines
    → AreCut (with_byte byte lines)
unfolding AreCut IsPlain
shape-with_byte byte [] other cut = ((other, tt), inr (refl, λ none. let some : byte ∷ [] ≡ [] = none in cc, refl), tt)
shape-with_byte byte (line ∷ lines) other cut = ((other, cut.0), longer byte line lines cut.1, cut.2)

shape-by : (byte : ℕ) (text : List ℕ) → AreCut (cut_lines text) → (nat_eq byte 10 ≡ true) ⊎ (nat_eq byte 10 ≡ false)
    → AreCut (cut_lines (byte ∷ text))
shape-by byte text cut (inl feed) = rw (cut-feed byte text feed) (shape-feed (cut_lines text) cut)
shape-by byte text cut (inr other) = rw (cut-other byte text other) (shape-with_byte byte (cut_lines text) other cut)

shape-none : AreCut []
unfolding AreCut
shape-none = tt

-- the lines of a text have the shape of lines
pub cut-shape : (text : List ℕ) → AreCut (cut_lines text)
cut-shape [] = rw cut-none shape-none
cut-shape (byte ∷ text) = shape-by byte text (cut-shape text) (cases_Bool (nat_eq byte 10))

joined-nothing : joined_lines [] ≡ []
unfolding joined_lines
joined-nothing = refl

joined-line : (line : CutLine) (lines : List CutLine) (end : List ℕ) → line_end line.ended ≡ end →
    joined_lines (line ∷ lines) ≡ line.bytes ++ (end ++ joined_lines lines)
unfolding joined_lines
joined-line line lines end is =
    append_assoc line.bytes (line_end line.ended) (joined_lines lines) ∙ ap (λ x. line.bytes ++ (x ++ joined_lines lines)) is

only-last : (bytes : List ℕ) → IsPlain bytes → bytes ≢ []
    → cut_lines bytes ≡ record { bytes = bytes; ended = false } ∷ []
only-last [] plain some = absurd (some refl)
only-last (byte ∷ text) plain some = cut-last byte text plain

only-line : (line : CutLine) (lines : List CutLine) → IsPlain line.bytes → cut_lines (joined_lines lines) ≡ lines → IsEndedOrLast line lines →
    cut_lines (joined_lines (line ∷ lines)) ≡ line ∷ lines
only-line line lines plain behind (inl ended) =
    rw (joined-line line lines (10 ∷ []) (ap line_end ended), cut-ended line.bytes (joined_lines lines) plain, behind, ← ended) refl
only-line line lines plain behind (inr last) =
    rw (joined-line line lines [] (ap line_end last.0), last.2, joined-nothing, append-nil line.bytes, only-last line.bytes plain last.1, ← last.0) refl

-- lines of that shape are cut from the text that is joined from them
pub only-cut : (lines : List CutLine) → AreCut lines → cut_lines (joined_lines lines) ≡ lines
unfolding AreCut
only-cut [] cut = ap cut_lines joined-nothing ∙ cut-none
only-cut (line ∷ lines) cut = only-line line lines cut.0 (only-cut lines cut.2) cut.1

-- ---- the separator

pub separator-plain : IsPlain separator
unfolding IsPlain
separator-plain = (refl, (refl, (refl, (refl, (refl, tt)))))

pub separator-same : bytes_eq separator separator ≡ true
separator-same = refl

-- ---- one answer

same-first : (expected : ExpectedLines) (lines : List CutLine) (i j : ℕ) → IsFirstAtFault expected lines i
    → IsFirstAtFault expected lines j → i ≡ j
same-first expected lines i j one other = grind (arith, cases_order)

same-missing : (expected : ExpectedLines) → AreLawful expected → (lines : List CutLine) (i : ℕ) (one other : Missing) →
    Lacks expected lines i one → Lacks expected lines i other → one ≡ other
same-missing expected lawful lines i one other is also = by-line (line_at lines i) is.1 also.1
  where
    by-line : (found : Option CutLine) → LackOf expected i one found → LackOf expected i other found → one ≡ other
    by-line None here also = absurd here
    by-line (Some line) here also = let answers = lawful.one i line.bytes (Err one) (Err other) here also in cc

differs-limit : (expected : ExpectedLines) (lines : List CutLine) (i : ℕ) (missing : Missing) →
    ComesTo expected lines (Err (Differs i)) → ComesTo expected lines (Err (Limit missing)) → ⊥
differs-limit expected lines i missing differs lacks = grind (arith, same-first)

pub one-answer : (expected : ExpectedLines) → AreLawful expected → (lines : List CutLine) (one other : Result (Unit {0}) CheckFault) →
    ComesTo expected lines one → ComesTo expected lines other → one ≡ other
one-answer expected lawful lines (Ok done) (Ok also_done) is also = refl
one-answer expected lawful lines (Ok done) (Err (Differs i)) is also = absurd (also.0.at_fault (is i))
one-answer expected lawful lines (Ok done) (Err (Limit missing)) is also = absurd (also.1.at_fault (is also.0))
one-answer expected lawful lines one (Err Read) is also = absurd also
one-answer expected lawful lines (Err (Differs i)) (Ok done) is also = absurd (is.0.at_fault (also i))
one-answer expected lawful lines (Err (Differs i)) (Err (Differs j)) is also = ap (λ n. Err (Differs n)) (same-first expected lines i j is.0 also.0)
one-answer expected lawful lines (Err (Differs i)) (Err (Limit missing)) is also = absurd (differs-limit expected lines i missing is also)
one-answer expected lawful lines (Err (Limit missing)) (Ok done) is also = absurd (is.1.at_fault (also is.0))
one-answer expected lawful lines (Err (Limit missing)) (Err (Differs i)) is also = absurd (differs-limit expected lines i missing also is)
one-answer expected lawful lines (Err (Limit missing)) (Err (Limit other)) is also =
    grind (arith, same-missing, same-first)
one-answer expected lawful lines (Err Read) other is also = absurd is

-- what a check of some lines comes to
abbrev Answered : ExpectedLines → List CutLine → Type 0
Answered expected lines = (answer : Result (Unit {0}) CheckFault) × ComesTo expected lines answer

module _ (expected : ExpectedLines) (lawful : AreLawful expected) (answers : HaveAnswers expected) where
  -- whether this line agrees with line i, or is at fault
  judged-by : (lines : List CutLine) (line : CutLine) (more : List CutLine) → OfEach (IsFaultless expected) lines →
      suc (length lines) ≤ expected.count → (ended : Bool) → line.ended ≡ ended →
      (found : Result Bool Missing) → expected.IsAnswer (suc (length lines)) line.bytes found →
      (LineAgrees expected (suc (length lines)) line → Answered expected (lines ++ line ∷ more)) → Answered expected (lines ++ line ∷ more)
  judged-by lines line more so few ended is_ended (Err missing) is next =
      (Err (Limit missing), comes-to-line expected lines (line ∷ more) (Limit missing) so few is)
  judged-by lines line more so few true is_ended (Ok true) is next = next (is_ended, is)
  judged-by lines line more so few false is_ended (Ok answer) is next = (
    Err (Differs (suc (length lines))),
    comes-to-line expected lines (line ∷ more) (Differs (suc (length lines))) so few (
      refl,
      λ agrees. false≢true (sym is_ended ∙ agrees.0),
      λ missing lacks. let same = lawful.one (suc (length lines)) line.bytes (Ok answer) (Err missing) is lacks in cc,
    ),
  )
  judged-by lines line more so few true is_ended (Ok false) is next = (
    Err (Differs (suc (length lines))),
    comes-to-line expected lines (line ∷ more) (Differs (suc (length lines))) so few (
      refl,
      λ agrees. let same = lawful.one (suc (length lines)) line.bytes (Ok false) (Ok true) is agrees.1 in cc,
      λ missing lacks. let same = lawful.one (suc (length lines)) line.bytes (Ok false) (Err missing) is lacks in cc,
    ),
  )

  answered-end : (lines : List CutLine) → OfEach (IsFaultless expected) lines → length lines ≤ expected.count →
      (length lines < expected.count) ⊎ (expected.count ≤ length lines) → Answered expected (lines ++ [])
  answered-end lines so few (inl less) =
      (Err (Differs (suc (length lines))), comes-to-line expected lines [] (Differs (suc (length lines))) so (omega arith) refl)
  answered-end lines so few (inr all) = (Ok tt, comes-to-agreement expected lines tt so (omega arith))

  answered-next : (lines : List CutLine) (line : CutLine) (more : List CutLine) → OfEach (IsFaultless expected) lines →
      ((longer : List CutLine) → OfEach (IsFaultless expected) longer → length longer ≤ expected.count → Answered expected (longer ++ more)) →
      (length lines < expected.count) ⊎ (expected.count ≤ length lines) → length lines ≤ expected.count → Answered expected (lines ++ line ∷ more)
  answered-next lines line more so next (inr all) few =
      (Err (Differs (suc (length lines))), comes-to-more expected lines line more so (omega arith))
  answered-next lines line more so next (inl less) few =
      let number = suc (length lines) in
      let found = answers number line.bytes (omega arith, omega arith) in
      judged-by lines line more so (omega arith) line.ended refl found.0 found.1
      (λ agrees.
      let longer = next (lines ++ line ∷ []) (OfEach-push (IsFaultless expected) lines line so (faultless expected lawful number line agrees))
      (omega (arith, length-append lines (line ∷ []))) in
      (longer.0, subst (λ x. ComesTo expected x longer.0) (append_assoc lines (line ∷ []) more) longer.1))

  answered-from : (more lines : List CutLine) → OfEach (IsFaultless expected) lines → length lines ≤ expected.count
      → Answered expected (lines ++ more)
  answered-from [] lines so few = answered-end lines so few (cases_lt (length lines) expected.count)
  answered-from (line ∷ more) lines so few = answered-next lines line more so (answered-from more) (cases_lt (length lines) expected.count) few

  pub some-answer : (lines : List CutLine) → (answer : Result (Unit {0}) CheckFault) × ComesTo expected lines answer
  some-answer lines = answered-from lines [] (OfEach-none (IsFaultless expected)) (omega arith)

-- ---- what agreement says of all lines

module _ (expected : ExpectedLines) (lines : List CutLine) (agrees : ComesTo expected lines (Ok tt)) where
  as-many-by : (length lines ≡ expected.count) ⊎ ((length lines < expected.count) ⊎ (expected.count < length lines))
      → length lines ≡ expected.count
  as-many-by (inl same) = same
  as-many-by (inr (inl less)) =
      let order = subst (OrderOf expected (suc (length lines))) (past-end lines (length lines) (omega arith)) (agrees (suc (length lines))) in
      absurd (order (omega arith, omega arith))
  as-many-by (inr (inr more)) =
      let there = line-there lines expected.count more in
      let order = subst (OrderOf expected (suc expected.count)) there.1 (agrees (suc expected.count)) in
      absurd (omega (arith, order.0.1))

  -- there are as many lines as are expected
  pub as-many : length lines ≡ expected.count
  as-many = as-many-by (cases_order (length lines) expected.count)

  -- and none of them is at fault
  pub all-faultless : OfEach (IsFaultless expected) lines
  all-faultless k line there =
      let order = subst (OrderOf expected (suc k)) there (agrees (suc k)) in
      record { agrees = order.1; there = order.2 }

each-ended : (lines : List CutLine) → OfEach (λ _ line. line.ended ≡ true) lines → AreEnded lines
unfolding AreEnded
each-ended [] each = tt
each-ended (line ∷ lines) each = (each 0 line refl, each-ended lines (λ k next there. each (suc k) next there))

-- so a line feed ends each of them
ended-of : (expected : ExpectedLines) (lines : List CutLine) → OfEach (IsFaultless expected) lines → AreEnded lines
ended-of expected lines so = each-ended lines (λ k line there. (so k line there).agrees.0)

-- ---- one end

abbrev EndsWithFeed : List ℕ → Type 0
EndsWithFeed text = (body : List ℕ) × (text ≡ body ++ 10 ∷ [])

feed-last : (lines : List CutLine) → AreEnded lines → 1 ≤ length lines → EndsWithFeed (joined_lines lines)
unfolding AreEnded
feed-last [] ended some = absurd (omega arith)
feed-last (line ∷ []) ended some =
    (line.bytes, joined-line line [] (10 ∷ []) (ap line_end ended.0) ∙ ap (λ x. line.bytes ++ 10 ∷ x) joined-nothing)
feed-last (line ∷ next ∷ lines) ended some =
    let last = feed-last (next ∷ lines) ended.1 (omega arith) in (
      (line.bytes ++ 10 ∷ []) ++ last.0,
      joined-line line (next ∷ lines) (10 ∷ []) (ap line_end ended.0) ∙ ap (λ x. line.bytes ++ 10 ∷ x) last.1
          ∙ sym (append_assoc line.bytes (10 ∷ []) (last.0 ++ 10 ∷ [])) ∙ sym (append_assoc (line.bytes ++ 10 ∷ []) last.0 (10 ∷ [])),
    )

pub agreed-feed : (expected : ExpectedLines) (sheet : List ℕ) → ComesTo expected (cut_lines sheet) (Ok tt) → 1 ≤ expected.count →
    (body : List ℕ) × (sheet ≡ body ++ 10 ∷ [])
agreed-feed expected sheet agrees some =
    subst EndsWithFeed (joined-cut sheet)
    (feed-last (cut_lines sheet) (ended-of expected (cut_lines sheet) (all-faultless expected (cut_lines sheet) agrees))
    (omega (arith, as-many expected (cut_lines sheet) agrees)))

pub agreed-more : (expected : ExpectedLines) (sheet : List ℕ) (byte : ℕ) (rest : List ℕ) → ComesTo expected (cut_lines sheet) (Ok tt) →
    ComesTo expected (cut_lines (sheet ++ byte ∷ rest)) (Err (Differs (expected.count + 1)))
agreed-more expected sheet byte rest agrees =
    let all = all-faultless expected (cut_lines sheet) agrees in
    let many = as-many expected (cut_lines sheet) agrees in
    let next = cut-some byte rest in
    let lines : cut_lines (sheet ++ byte ∷ rest) ≡ cut_lines sheet ++ next.line ∷ next.behind =
    cut-append sheet (byte ∷ rest) (ended-of expected (cut_lines sheet) all) ∙ ap (λ x. cut_lines sheet ++ x) next.is in
    let number : suc (length (cut_lines sheet)) ≡ expected.count + 1 = omega arith in
    subst (λ n. ComesTo expected (cut_lines (sheet ++ byte ∷ rest)) (Err (Differs n))) number
    (subst (λ x. ComesTo expected x (Err (Differs (suc (length (cut_lines sheet)))))) (sym lines)
    (comes-to-more expected (cut_lines sheet) next.line next.behind all many))

-- a text as whole lines and a part of a line
record HasTail (text : List ℕ) : Type 0 where
  pub whole : List ℕ
  pub tail : List ℕ
  pub parts : text ≡ whole ++ tail
  pub ended : AreEnded (cut_lines whole)
  pub plain : IsPlain tail

ended-none : AreEnded []
unfolding AreEnded
ended-none = tt

ended-nothing : AreEnded (cut_lines [])
ended-nothing = subst AreEnded (sym cut-none) ended-none

plain-cons : (byte : ℕ) (text : List ℕ) → nat_eq byte 10 ≡ false → IsPlain text → IsPlain (byte ∷ text)
unfolding IsPlain
plain-cons byte text other plain = (other, plain)

ended-cons : (byte : ℕ) (lines : List CutLine) (line : CutLine) (behind : List CutLine) → lines ≡ line ∷ behind
    → AreEnded lines → AreEnded (with_byte byte lines)
unfolding AreEnded
ended-cons byte [] line behind is ended = let none : [] ≡ line ∷ behind = is in absurd (cc)
ended-cons byte (first ∷ lines) line behind is ended = ended

tail-next-by : (byte : ℕ) (text : List ℕ) → nat_eq byte 10 ≡ false → (whole tail : List ℕ) → text ≡ whole ++ tail → AreEnded (cut_lines whole) →
    IsPlain tail → HasTail (byte ∷ text)
tail-next-by byte text other [] tail parts ended plain = record {
  whole = [];
  tail = byte ∷ tail;
  parts = ap (λ x. byte ∷ x) parts;
  ended = ended;
  plain = plain-cons byte tail other plain;
}
tail-next-by byte text other (first ∷ whole) tail parts ended plain =
    let some = cut-some first whole in
    record {
      whole = byte ∷ first ∷ whole;
      tail = tail;
      parts = ap (λ x. byte ∷ x) parts;
      ended = rw (cut-other byte (first ∷ whole) other) (ended-cons byte (cut_lines (first ∷ whole)) some.line some.behind some.is ended);
      plain = plain;
    }

tail-next : (byte : ℕ) (text : List ℕ) → nat_eq byte 10 ≡ false → HasTail text → HasTail (byte ∷ text)
tail-next byte text other has = tail-next-by byte text other has.whole has.tail has.parts has.ended has.plain

ended-feed : (lines : List CutLine) → AreEnded lines → AreEnded (record { bytes = []; ended = true } ∷ lines)
unfolding AreEnded
ended-feed lines ended = (refl, ended)

tail-by : (byte : ℕ) (text : List ℕ) → HasTail text → (nat_eq byte 10 ≡ true) ⊎ (nat_eq byte 10 ≡ false)
    → HasTail (byte ∷ text)
tail-by byte text has (inl feed) = record {
  whole = byte ∷ has.whole;
  tail = has.tail;
  parts = ap (λ x. byte ∷ x) has.parts;
  ended = rw (cut-feed byte has.whole feed) (ended-feed (cut_lines has.whole) has.ended);
  plain = has.plain;
}
tail-by byte text has (inr other) = tail-next byte text other has

tail-of : (text : List ℕ) → HasTail text
tail-of [] = record { whole = []; tail = []; parts = refl; ended = ended-nothing; plain = IsPlain-none }
tail-of (byte ∷ text) = tail-by byte text (tail-of text) (cases_Bool (nat_eq byte 10))

unended-differs : (expected : ExpectedLines) (i : ℕ) (tail : List ℕ) → IsPlain tail →
    ((missing : Missing) → expected.IsAnswer i tail (Err missing) → ⊥) → LineComesTo expected i (line_at (cut_lines tail) 1) (Differs i)
unended-differs expected i [] plain there = rw cut-none refl
unended-differs expected i (byte ∷ text) plain there = rw (cut-last byte text plain) (refl, λ both. false≢true both.0, there)

left-out-by : (expected : ExpectedLines) (body : List ℕ) → ComesTo expected (cut_lines (body ++ 10 ∷ [])) (Ok tt) → HasTail body →
    ComesTo expected (cut_lines body) (Err (Differs expected.count))
left-out-by expected body agrees has =
    let last : CutLine = record { bytes = has.tail; ended = true } in
    let lines : cut_lines (body ++ 10 ∷ []) ≡ cut_lines has.whole ++ last ∷ [] =
    ap (λ x. cut_lines (x ++ 10 ∷ [])) has.parts ∙ ap cut_lines (append_assoc has.whole has.tail (10 ∷ []))
    ∙ cut-push has.whole has.tail has.ended has.plain in
    let agrees' : ComesTo expected (cut_lines has.whole ++ last ∷ []) (Ok tt) = subst (λ x. ComesTo expected x (Ok tt)) lines agrees in
    let all = all-faultless expected (cut_lines has.whole ++ last ∷ []) agrees' in
    let before : OfEach (IsFaultless expected) (cut_lines has.whole) = λ k line there.
    all k line (at-before (cut_lines has.whole) (last ∷ []) k (line-within (cut_lines has.whole) k line there) ∙ there) in
    let at-last = all (length (cut_lines has.whole)) last (at-behind (cut_lines has.whole) (last ∷ [])) in
    let many = as-many expected (cut_lines has.whole ++ last ∷ []) agrees' in
    let number : suc (length (cut_lines has.whole)) ≡ expected.count = omega (arith, length-append (cut_lines has.whole) (last ∷ [])) in
    subst (λ n. ComesTo expected (cut_lines body) (Err (Differs n))) number
    (subst (λ x. ComesTo expected x (Err (Differs (suc (length (cut_lines has.whole))))))
    (sym (ap cut_lines has.parts ∙ cut-append has.whole has.tail has.ended))
    (comes-to-line expected (cut_lines has.whole) (cut_lines has.tail) (Differs (suc (length (cut_lines has.whole)))) before (omega arith)
    (unended-differs expected (suc (length (cut_lines has.whole))) has.tail has.plain at-last.there)))

pub agreed-left-out : (expected : ExpectedLines) (body : List ℕ) → ComesTo expected (cut_lines (body ++ 10 ∷ [])) (Ok tt) →
    ComesTo expected (cut_lines body) (Err (Differs expected.count))
agreed-left-out expected body agrees = left-out-by expected body agrees (tail-of body)

-- ---- no byte

pub nothing-agrees : (expected : ExpectedLines) → expected.count ≡ 0 → ComesTo expected (cut_lines []) (Ok tt)
nothing-agrees expected none = grind (arith, cut-none, comes-to-agreement, OfEach-none, IsFaultless)

pub nothing-differs : (expected : ExpectedLines) → 1 ≤ expected.count
    → ComesTo expected (cut_lines []) (Err (Differs 1))
nothing-differs expected some = grind (arith, cut-none, comes-to-line, OfEach-none, IsFaultless)
