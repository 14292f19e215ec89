-- The lines that a list's sheet has: each text has one answer at each, and which round a line is of.
use Rattle.std.proofs.Common.{◌≡◌, ℕ, ◌+◌, ◌-◌, ◌*◌, ◌<◌, ◌≤◌, Bool, true, List, [], ◌∷◌, ◌++◌, length, drop, get_or, Some, Ok, Err, refl, sym, ap, ◌∙◌, subst, arith, length-append, drop-cons, add-one}
use Rattle.std.specs.Prelude.{Result, map, slice_get}
use Rattle.std.specs.List.{IsSplitAt}
use Rattle.std.specs.Option.{option_map}
use Rattle.std.proofs.lemmas.List.{length-map, drop_all, take_all, take-append-le, take-append-drop}
use Rattle.std.proofs.lemmas.Option.{same_Some, slice_get-get_or, slice_get-map}
use Rattle.std.proofs.lemmas.Slice.Eq.{bytes_eq-Decides}
use Rattle.scr_check.specs.declared.fault.Missing.{Missing}
use Rattle.scr_check.specs.Agreement.{AreLawful}
use Rattle.scr_draw.proofs.Counting.{tests_agree}
use Rattle.scr_list.specs.declared.round.Round.{Round}
use Rattle.scr_list.specs.RoundLists.{IsRounds}
use Rattle.scr_round.specs.Round.{Line, Fixed, Slot, round_lines}
use Rattle.scr_round.proofs.LineLaws.{slice_get-left, slice_get-right}
use Rattle.scr_slots.specs.declared.settings.Settings.{Settings}
use Rattle.scr_slots.specs.Agreement.{IsJudged}
use Rattle.scr_slots.specs.Events.{scrambling_of}
use Rattle.scr_slots.specs.Slots.{first_stream}
use Rattle.scr_sheet.specs.Check.{ListLine, list_lines, IsLineAnswer, IsAnswerAt, expected_lines, IsPlacedAt}
use Rattle.scr_sheet.proofs.ShortLines.{IsShort, all-at, list_lines-short, agreed-short}

-- ---- one answer

slot_answer-one : (settings : Settings) (k : ℕ) (round : Round) (label : List ℕ) (slot : ℕ) (text : List ℕ) (one other : Result Bool Missing)
    → IsLineAnswer settings k round (Slot label slot) text one
    → IsLineAnswer settings k round (Slot label slot) text other → one ≡ other
slot_answer-one settings k round label slot text (Ok a) (Ok b) first second = ap Ok (tests_agree a b first.1 second.1)
slot_answer-one settings k round label slot text (Ok a) (Err m) first second = absurd (first.0 second.0)
slot_answer-one settings k round label slot text (Err m) (Ok b) first second = absurd (second.0 first.0)
slot_answer-one settings k round label slot text (Err m) (Err n) first second = ap Err (first.1 ∙ sym second.1)

line_answer-one : (settings : Settings) (k : ℕ) (round : Round) (line : Line) (text : List ℕ) (one other : Result Bool Missing)
    → IsLineAnswer settings k round line text one → IsLineAnswer settings k round line text other → one ≡ other
line_answer-one settings k round (Fixed own) text one other first second = first ∙ sym second
line_answer-one settings k round (Slot label slot) text one other first second = slot_answer-one settings k round label slot text one other first second

answer-one : (settings : Settings) (lines : List ListLine) (i : ℕ) (text : List ℕ) (one other : Result Bool Missing)
    → IsAnswerAt settings lines i text one → IsAnswerAt settings lines i text other → one ≡ other
answer-one settings lines i text one other first second = grind (arith, same_Some, line_answer-one)

-- ---- whether a slot has a scramble depends on the line alone

line_missing : (settings : Settings) (k : ℕ) (round : Round) (line : Line) (text other : List ℕ) (missing : Missing)
    → IsLineAnswer settings k round line text (Err missing) → IsLineAnswer settings k round line other (Err missing)
line_missing settings k round (Fixed own) text other missing is = cc
line_missing settings k round (Slot label slot) text other missing is = is

-- ---- texts that agree are short

line_agreed : (settings : Settings) (k : ℕ) (round : Round) (line : Line) (text : List ℕ) → IsShort line
    → IsLineAnswer settings k round line text (Ok true) → length text ≤ 1300
line_agreed settings k round (Fixed own) text short is = grind (arith, bytes_eq-Decides)
line_agreed settings k round (Slot label slot) text short is =
    let it = is.1.0 refl in
    let behind = agreed-short (scrambling_of round.event) settings round.least (first_stream k + slot) it.behind it.agrees in
    let size = length-append label it.behind in
    subst (λ t. length t ≤ 1300) (sym it.is) (omega (arith, short, behind, size))

pub lines-lawful : (settings : Settings) (rounds : List Round) → IsRounds rounds
    → AreLawful (expected_lines settings rounds)
lines-lawful settings rounds valid = record {
  one = answer-one settings (list_lines 0 rounds);
  short = λ i text is.
      let all = list_lines-short 0 rounds (let few = valid.few in omega (arith, few)) valid.each in
      line_agreed settings is.line.k is.line.round is.line.line text (all-at (λ (line : ListLine). IsShort line.line) (list_lines 0 rounds) (i - 1) is.line all is.there) is.answered;
  by_line = λ i text other missing is. record {
    line = is.line;
    there = is.there;
    answered = line_missing settings is.line.k is.line.round is.line.line text other missing is.answered;
  };
}

-- ---- the lines of the rounds that are left

-- the lines of round k
abbrev pub lines_at : ℕ → Round → List ListLine
lines_at k round = map (λ line. record { k = k; round = round; line = line }) (round_lines k round)

-- the lines of the rounds that are left are those of the next one, and those behind it
lines-next : (rounds : List Round) (i : ℕ) (round : Round) → round ≡ get_or rounds i round → i < length rounds
    → list_lines i (drop i rounds) ≡ lines_at i round ++ list_lines (i + 1) (drop (i + 1) rounds)
lines-next rounds i round is below = grind (arith, drop-cons, add-one)

length-next : (rounds : List Round) (i count : ℕ) (round : Round) → round ≡ get_or rounds i round → i < length rounds
    → length (round_lines i round) ≡ count
    → length (list_lines i (drop i rounds)) ≡ count + length (list_lines (i + 1) (drop (i + 1) rounds))
length-next rounds i count round is below size =
    let both = length-append (lines_at i round) (list_lines (i + 1) (drop (i + 1) rounds)) in
    let own = length-map (round_lines i round) (λ (line : Line). let it : ListLine = record { k = i; round = round; line = line } in it) in
    ap length (lines-next rounds i round is below) ∙ omega (arith, both, own, size)

-- ---- counting them

-- so many lines were counted before round i
pub record AreCounted (rounds : List Round) (i total : ℕ) : Type 0 where
  pub parts : total + length (list_lines i (drop i rounds)) ≡ length (list_lines 0 rounds)
  pub few : total ≤ i * 235

pub counted-more : (rounds : List Round) (i total count : ℕ) (round : Round) → round ≡ get_or rounds i round
    → i < length rounds → length (round_lines i round) ≡ count → count ≤ 235 → AreCounted rounds i total
    → AreCounted rounds (i + 1) (total + count)
counted-more rounds i total count round is below size few counted = grind (arith, length-next)

-- none is left
lines-none : (rounds : List Round) (i : ℕ) → length rounds ≤ i → length (list_lines i (drop i rounds)) ≡ 0
lines-none rounds i past = ap (λ left. length (list_lines i left)) (drop_all i rounds past)

pub counted-all : (rounds : List Round) (i total : ℕ) → length rounds ≤ i → AreCounted rounds i total
    → total ≡ length (list_lines 0 rounds)
counted-all rounds i total past counted = let none = lines-none rounds i past in omega (arith, none, counted.parts)

-- ---- finding one

-- line number `left` behind round i is line number `line` of all
pub record IsLeft (rounds : List Round) (line i left : ℕ) : Type 0 where
  pub there : slice_get (list_lines i (drop i rounds)) left ≡ slice_get (list_lines 0 rounds) line
  pub below : left < length (list_lines i (drop i rounds))

-- it is not of the next round
pub left-more : (rounds : List Round) (line i left count : ℕ) (round : Round) → round ≡ get_or rounds i round
    → i < length rounds → length (round_lines i round) ≡ count → count ≤ left → IsLeft rounds line i left
    → IsLeft rounds line (i + 1) (left - count)
left-more rounds line i left count round is below size behind it =
    let own = length-map (round_lines i round) (λ (l : Line). let at : ListLine = record { k = i; round = round; line = l } in at) in
    let next = length-next rounds i count round is below size in
    let here = it.below in
    record {
      there =
          sym (slice_get-right (lines_at i round) (list_lines (i + 1) (drop (i + 1) rounds)) (left - count) left (omega (arith, own, size, behind)))
          ∙ sym (ap (λ lines. slice_get lines left) (lines-next rounds i round is below)) ∙ it.there;
      below = omega (arith, next, here, behind);
    }

-- or it is
pub left-found : (rounds : List Round) (line i left count : ℕ) (round : Round) → round ≡ get_or rounds i round
    → i < length rounds → length (round_lines i round) ≡ count → left < count → IsLeft rounds line i left
    → IsPlacedAt rounds line i left
left-found rounds line i left count round is below size here it =
    let inside : left < length (round_lines i round) = omega (arith, size, here) in
    let own : Line = get_or (round_lines i round) left (Fixed []) in
    let own_there : slice_get (round_lines i round) left ≡ Some own = slice_get-get_or (round_lines i round) left (Fixed []) inside in
    let f : Line → ListLine = λ l. record { k = i; round = round; line = l } in
    let mapped = length-map (round_lines i round) f in
    record {
      round = round;
      round_there = slice_get-get_or rounds i round below ∙ ap Some (sym is);
      own = own;
      own_there = own_there;
      there =
          sym it.there ∙ ap (λ lines. slice_get lines left) (lines-next rounds i round is below)
          ∙ slice_get-left (lines_at i round) (list_lines (i + 1) (drop (i + 1) rounds)) left (omega (arith, mapped, inside))
          ∙ slice_get-map f (round_lines i round) left ∙ ap (option_map f) own_there;
    }

-- ---- labels

-- a text that is cut behind as many bytes as a label has begins with it where the front is the label
pub label_before : (label text front behind : List ℕ) → IsSplitAt text (length label) front behind → front ≡ label
    → text ≡ label ++ behind
label_before label text front behind split same = grind (arith, take-append-drop)

pub no_label_before : (label text front behind other : List ℕ) → IsSplitAt text (length label) front behind
    → text ≡ label ++ other → (front ≡ label → ⊥) → ⊥
no_label_before label text front behind other split is differs = grind (arith, take-append-le, take_all)

cancelled : (label behind other : List ℕ) → label ++ behind ≡ label ++ other → behind ≡ other
cancelled [] behind other same = same
cancelled (byte ∷ label) behind other same = cancelled label behind other (let rest : label ++ behind ≡ label ++ other = cc in rest)

-- what is told of the text behind a label is answered for the slot's line
pub slot-judged : (settings : Settings) (k : ℕ) (round : Round) (label : List ℕ) (slot : ℕ) (text behind : List ℕ) (told : Bool)
    → text ≡ label ++ behind
    → IsJudged (scrambling_of round.event) settings round.least (first_stream k + slot) behind (Some told)
    → IsLineAnswer settings k round (Slot label slot) text (Ok told)
slot-judged settings k round label slot text behind told is judged = grind (arith, cancelled)
