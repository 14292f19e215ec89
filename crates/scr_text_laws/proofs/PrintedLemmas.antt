-- A list that was written line by line is read back.
use Rattle.std.proofs.Common.{◌≡◌, ℕ, ◌+◌, ◌*◌, ◌^◌, ◌<◌, ◌≤◌, Bool, true, false, List, [], ◌∷◌, ◌++◌, map, drop, length, get_or, Option, Some, None, Ok, refl, sym, ap, ◌∙◌, arith, lit<, length-append, append_assoc, append-nil}
use Rattle.std.specs.Prelude.{nat_lt, All, option_and_then}
use Rattle.std.specs.Char.{is_ascii_digit}
use Rattle.std.specs.Fmt.{decimal}
use Rattle.std.specs.List.{join_with_byte}
use Rattle.std.proofs.lemmas.Bool.Decides.{nat_tests}
use Rattle.std.proofs.lemmas.Fmt.{length-decimal-le, digits_decimal}
use Rattle.std.proofs.lemmas.List.Elements.{All-cons, All-nil, All-head, All-tail, All-append, All-map, All-weaker}
use Rattle.std.proofs.lemmas.List.Sums.{AllPass-from_list_all}
use borrow.Author.Tests.{lt-ltb, ltb-true}
use Rattle.scr_notation.specs.declared.event.Event.{Event}
use Rattle.scr_notation.specs.Event.{id_of}
use Rattle.scr_text.specs.Lines.{has_bytes, lines_of, line_words, text_of_lines}
use Rattle.scr_text.specs.Parts.{IsLine, IsWord}
use Rattle.scr_text.specs.Numbers.{number_between}
use Rattle.scr_text.proofs.NumberLaws.{digits_model, in_range-some, number_of_text-decimal}
use Rattle.scr_text.proofs.LineLaws.{lines_of-text_of_lines, line_words-join_with_byte, join_with_byte-plain, IsWord-plain, IsLine-plain, IsWord-decimal, decimal-plain}
use Rattle.scr_notation.specs.declared.event.Minima.{Minima}
use Rattle.scr_list.specs.declared.round.Round.{Round}
use Rattle.scr_notation.specs.Event.{minima_of, greatest_in, usual_in}
use Rattle.scr_list.specs.declared.version.Version.{Version}
use Rattle.scr_list.specs.Versions.{version_1, version_2, version_line, version_of}
use Rattle.scr_list.specs.Names.{is_colon, told_part, name_part, IsName}
use Rattle.scr_list.specs.Rounds.{IsRound, least_of, round_name, named_round, placed_round, round_of_words, round_of_line, rounds_of_lines, rounds_of}
use Rattle.scr_list.specs.RoundLists.{IsRounds}
use Rattle.scr_list.specs.Printed.{FitsForm, least_words, round_words, name_behind_colon, round_line, text_of_rounds}
use Rattle.scr_list.proofs.EventLemmas.{id-IsId, id-no_colon, event_named-id}
use Rattle.scr_list.proofs.NameLemmas.{is_name-HasNameBytes, name_in-name, parts-whole, parts-plain, parts-colon}
use Rattle.scr_list.proofs.RoundLemmas.{read_on, read_on-start, read_on-none, read_on-round, read_on-end, rounds_of-short}
use Rattle.scr_list.proofs.VersionLemmas.{version_of-id}

-- a number's text is read as that number
pub number_between-decimal : (least greatest n : ℕ) → n < 2 ^ 64 → least ≤ n → n ≤ greatest
    → number_between least greatest (decimal n) ≡ Some n
unfolding number_between
number_between-decimal least greatest n low above below = rw (number_of_text-decimal n low) (in_range-some least greatest n above below)

-- ---- the words of a line

-- each word is some bytes above the blanks, and few
record IsShortWord (text : List ℕ) : Type 0 where
  plain : All (λ b. 32 < b) text
  no_colon : All (λ b. is_colon b ≡ false) text
  word : IsWord text
  short : length text ≤ 5

id-IsShortWord : (e : Event) → IsShortWord (id_of e)
id-IsShortWord e = let it = id-IsId e in record { plain = it.plain; no_colon = id-no_colon e; word = IsWord-plain (id_of e) it.some it.plain; short = it.short }

digit-no_colon : (b : ℕ) → is_ascii_digit b ≡ true → is_colon b ≡ false
digit-no_colon b digit = grind (arith, nat_tests)

decimal-no_colon : (n : ℕ) → n < 2 ^ 64 → All (λ b. is_colon b ≡ false) (decimal n)
decimal-no_colon n low = grind (arith, digit-no_colon, get_or, AllPass-from_list_all, digits_decimal, digits_model)

decimal-IsShortWord : (n : ℕ) → n < 27 → IsShortWord (decimal n)
decimal-IsShortWord n low =
    let short : length (decimal n) ≤ 2 = length-decimal-le 2 n (lit< tt) (omega arith) (omega arith) in
    record { plain = decimal-plain n (omega arith); no_colon = decimal-no_colon n (omega arith); word = IsWord-decimal n (omega arith); short = omega arith }

-- a line has two or three of them
least_words-short : (form : Bool) (minima : Option Minima) (least : ℕ) → least ≤ greatest_in minima → greatest_in minima ≤ 15
    → All IsShortWord (least_words form minima least)
least_words-short false minima least few range = All-nil IsShortWord
least_words-short true None least few range = All-nil IsShortWord
least_words-short true (Some minima) least few range =
    All-cons IsShortWord (decimal least) [] (decimal-IsShortWord least (omega arith)) (All-nil IsShortWord)

round_words-short : (form : Bool) (round : Round) → IsRound round → All IsShortWord (round_words form round)
round_words-short form round it =
    All-cons IsShortWord (id_of round.event) (decimal round.groups ∷ least_words form (minima_of round.event) round.least) (id-IsShortWord round.event)
    (All-cons IsShortWord (decimal round.groups) (least_words form (minima_of round.event) round.least)
    (decimal-IsShortWord round.groups (let g = it.few_groups in omega arith))
    (least_words-short form (minima_of round.event) round.least it.least (id-IsId round.event).range))

-- the words of its line, and what follows them, are read as the round
named-round : (most before : ℕ) (round : Round) (least name : Option (List ℕ)) → before < most → IsRound round →
    least_of (minima_of round.event) least ≡ Some round.least → round_name name ≡ Some round.name →
    placed_round most before (named_round (id_of round.event) (decimal round.groups) least name) ≡ Ok (Some round)
named-round most before round least name low it set called =
    grind (arith, lt-ltb, id-IsId, event_named-id, number_between-decimal)

round_words-named : (form : Bool) (most before : ℕ) (round : Round) (name : Option (List ℕ)) → before < most → IsRound round → FitsForm form round →
    round_name name ≡ Some round.name → round_of_words most before name (round_words form round) ≡ Ok (Some round)
unfolding round_of_words
round_words-named false most before round name low it fits called = named-round most before round None name low it (ap Some (sym fits)) called
round_words-named true most before round name low it fits called = at (minima_of round.event) refl it.least (id-IsId round.event).range (id-IsId round.event).usual
  where
    at : (minima : Option Minima) → (minima_of round.event) ≡ minima → round.least ≤ greatest_in minima → greatest_in minima ≤ 15 →
        usual_in minima ≤ greatest_in minima →
        round_of_words most before name (id_of round.event ∷ decimal round.groups ∷ least_words true minima round.least) ≡ Ok (Some round)
    at None is few range usual =
        let none : 0 ≡ round.least = omega arith in
        named-round most before round None name low it (ap Some (ap usual_in is ∙ none)) called
    at (Some minima) is few range usual =
        named-round most before round (Some (decimal round.least)) name low it
        (ap (option_and_then (λ (m : Minima). number_between 0 m.greatest (decimal round.least))) is ∙ number_between-decimal 0 minima.greatest round.least (omega arith) (omega arith) few)
        called

-- ---- a line

-- what holds of a space and of the bytes of some words holds of those of their line
join-all : (P : ℕ → Type 0) (words : List (List ℕ)) → P 32 → All (λ word. All P word) words
    → All P (join_with_byte 32 words)
join-all P [] blank all = All-nil P
join-all P (word ∷ []) blank all = All-head (λ w. All P w) word [] all
join-all P (word ∷ next ∷ words) blank all =
    All-append P word (32 ∷ join_with_byte 32 (next ∷ words)) (All-head (λ w. All P w) word (next ∷ words) all)
    (All-cons P 32 (join_with_byte 32 (next ∷ words)) blank (join-all P (next ∷ words) blank (All-tail (λ w. All P w) word (next ∷ words) all)))

-- the words of a round, joined
abbrev told_line : Bool → Round → List ℕ
told_line form round = join_with_byte 32 (round_words form round)

told_line-no_colon : (form : Bool) (round : Round) → IsRound round → All (λ b. is_colon b ≡ false) (told_line form round)
told_line-no_colon form round it =
    join-all (λ b. is_colon b ≡ false) (round_words form round) refl
    (All-weaker IsShortWord (λ word. All (λ b. is_colon b ≡ false) word) (λ word short. short.no_colon) (round_words form round) (round_words-short form round it))

told_line-words : (form : Bool) (round : Round) → IsRound round → line_words (told_line form round) ≡ round_words form round
told_line-words form round it =
    line_words-join_with_byte (round_words form round)
    (All-weaker IsShortWord IsWord (λ word short. short.word) (round_words form round) (round_words-short form round it))

-- a name fits a list that takes names, and none fits one that doesn't
abbrev FitsNames : Bool → List ℕ → Type 0
FitsNames true name = Unit {0}
FitsNames false name = name ≡ []

-- the parts of a line, and the name that the second is
parts-read : (takes_names : Bool) (front name : List ℕ) → All (λ b. is_colon b ≡ false) front → (has_bytes name ≡ true → IsName name) → FitsNames takes_names name →
    (told_part takes_names (front ++ name_behind_colon name) ≡ front) × (round_name (name_part takes_names (front ++ name_behind_colon name)) ≡ Some name)
parts-read true front [] plain it fits =
    let bare = append-nil front in
    let parts = parts-plain front plain in
    (ap (told_part true) bare ∙ parts.0, ap (λ line. round_name (name_part true line)) bare ∙ ap round_name parts.1)
parts-read false front [] plain it fits =
    let bare = append-nil front in
    let parts = parts-whole front in
    (ap (told_part false) bare ∙ parts.0, ap (λ line. round_name (name_part false line)) bare ∙ ap round_name parts.1)
parts-read true front (byte ∷ name) plain it fits =
    let parts = parts-colon front (32 ∷ byte ∷ name) plain in
    (parts.0, ap round_name parts.1 ∙ name_in-name (byte ∷ name) (it refl))
parts-read false front (byte ∷ name) plain it fits = cc

-- the line of a round is read as that round
round_line-read : (form : Bool) (version : Version) (before : ℕ) (round : Round) → before < version.most_rounds → IsRound round → FitsForm form round → FitsNames version.takes_names round.name →
    round_of_line version before (round_line form round) ≡ Ok (Some round)
round_line-read form version before round low it usual fits =
    grind (arith, parts-read, told_line-no_colon, told_line-words, round_words-named)

-- ---- the lines

-- the bytes of a few short words, joined
join-short : (words : List (List ℕ)) → All IsShortWord words → length (join_with_byte 32 words) ≤ 6 * length words
join-short [] all = omega arith
join-short (word ∷ []) all = let short = (All-head IsShortWord word [] all).short in omega arith
join-short (word ∷ next ∷ words) all =
    let more = join-short (next ∷ words) (All-tail IsShortWord word (next ∷ words) all) in
    let joined = length-append word (32 ∷ join_with_byte 32 (next ∷ words)) in
    omega (arith, ((All-head IsShortWord word (next ∷ words) all).short), more, joined)

length-round_words : (form : Bool) (round : Round) → length (round_words form round) ≤ 3
length-round_words form round = at form (minima_of round.event)
  where
    at : (form : Bool) (minima : Option Minima)
        → length (id_of round.event ∷ decimal round.groups ∷ least_words form minima round.least) ≤ 3
    at false minima = omega arith
    at true None = omega arith
    at true (Some minima) = omega arith

-- the bytes of a name behind its colon
record IsNameText (text : List ℕ) : Type 0 where
  high : All (λ b. 31 < b) text
  short : length text ≤ 42

name_behind_colon-IsNameText : (name : List ℕ) → (has_bytes name ≡ true → IsName name)
    → IsNameText (name_behind_colon name)
name_behind_colon-IsNameText [] it = record { high = All-nil (λ b. 31 < b); short = omega arith }
name_behind_colon-IsNameText (byte ∷ name) it =
    let bytes = is_name-HasNameBytes (byte ∷ name) (it refl).test in
    record {
      high =
          All-cons (λ b. 31 < b) 58 (32 ∷ byte ∷ name) (lit< tt)
          (All-cons (λ b. 31 < b) 32 (byte ∷ name) (lit< tt)
          (All-weaker (λ b. 32 ≤ b) (λ b. 31 < b) (λ b h. omega arith) (byte ∷ name) bytes.low));
      short = let few = bytes.few in omega arith;
    }

round_line-IsLine : (form : Bool) (round : Round) → IsRound round → IsLine (round_line form round)
round_line-IsLine form round it =
    IsLine-plain (round_line form round)
    (All-append (λ b. 31 < b) (told_line form round) (name_behind_colon round.name)
    (join_with_byte-plain (round_words form round)
    (All-weaker IsShortWord (λ word. All (λ b. 32 < b) word) (λ word short. short.plain) (round_words form round) (round_words-short form round it)))
    (name_behind_colon-IsNameText round.name it.name).high)

round_line-short : (form : Bool) (round : Round) → IsRound round
    → length (round_line form round) ≤ 18 + length (name_behind_colon round.name)
round_line-short form round it =
    let line = join-short (round_words form round) (round_words-short form round it) in
    let few = length-round_words form round in
    omega (arith, line, few, length-append (told_line form round) (name_behind_colon round.name))

-- lines of rounds whose names have at most so many bytes, with their colon
lines-short : (form : Bool) (most : ℕ) (rounds : List Round) → All IsRound rounds → All (λ round. length (name_behind_colon round.name) ≤ most) rounds →
    length (text_of_lines (map (round_line form) rounds)) ≤ (19 + most) * length rounds
lines-short form most [] all few = omega arith
lines-short form most (round ∷ rest) all few =
    let name = All-head (λ r. length (name_behind_colon r.name) ≤ most) round rest few in
    let more = lines-short form most rest (All-tail IsRound round rest all) (All-tail (λ r. length (name_behind_colon r.name) ≤ most) round rest few) in
    let joined = length-append (round_line form round) (10 ∷ text_of_lines (map (round_line form) rest)) in
    omega (arith, (round_line-short form round (All-head IsRound round rest all)), name, more, joined)

-- the empty line behind the last round names none
no_line-read : (takes_names : Bool) (most before : ℕ)
    → round_of_words most before (name_part takes_names []) (line_words (told_part takes_names [])) ≡ Ok None
unfolding round_of_words line_words told_part name_part
no_line-read true most before = refl
no_line-read false most before = refl

lines-read : (form : Bool) (version : Version) (done : List Round) (number : ℕ) (rounds : List Round) → All IsRound rounds → All (FitsForm form) rounds →
    All (λ round. FitsNames version.takes_names round.name) rounds → length done + length rounds ≤ version.most_rounds →
    read_on version done number (map (round_line form) rounds ++ [] ∷ []) ≡ Ok (done ++ rounds)
lines-read form version done number [] all usual fits few =
    grind (arith, read_on-none, no_line-read, read_on-end, append-nil)
lines-read form version done number (round ∷ rest) all usual fits few =
    let it = All-head IsRound round rest all in
    let size = length-append done (round ∷ []) in
    read_on-round version done number (round_line form round) (map (round_line form) rest ++ [] ∷ []) round
    (round_line-read form version (length done) round (omega arith) it (All-head (FitsForm form) round rest usual) (All-head (λ r. FitsNames version.takes_names r.name) round rest fits))
    ∙ lines-read form version (done ++ round ∷ []) (number + 1) rest (All-tail IsRound round rest all) (All-tail (FitsForm form) round rest usual)
    (All-tail (λ r. FitsNames version.takes_names r.name) round rest fits) (omega (arith, size))
    ∙ ap Ok (append_assoc done (round ∷ []) rest)

-- their text, and the empty line behind it
lines_of-rounds : (form : Bool) (rounds : List Round) → All IsRound rounds
    → lines_of (text_of_lines (map (round_line form) rounds)) ≡ map (round_line form) rounds ++ [] ∷ []
lines_of-rounds form rounds all =
    lines_of-text_of_lines (map (round_line form) rounds)
    (All-map IsLine (round_line form) rounds (All-weaker IsRound (λ round. IsLine (round_line form round)) (round_line-IsLine form) rounds all))

-- ---- a list

-- no line tells the first version
first-version : (form : Bool) (rounds : List Round) → version_of (text_of_rounds version_1 form rounds) ≡ version_1
unfolding version_of
first-version form [] = refl
first-version form (round ∷ rest) = grind (arith, append_assoc, version_of-id)

pub first-read : (form : Bool) (rounds : List Round) → IsRounds rounds → length rounds ≤ 64 → All (λ round. round.name ≡ []) rounds → All (FitsForm form) rounds →
    rounds_of (text_of_rounds version_1 form rounds) ≡ Ok rounds
first-read form rounds it few bare usual =
    let nameless : (round : Round) → round.name ≡ [] → length (name_behind_colon round.name) ≤ 0 = λ round none. rw none (omega arith) in
    let size = lines-short form 0 rounds it.each (All-weaker (λ round. round.name ≡ []) (λ round. length (name_behind_colon round.name) ≤ 0) nameless rounds bare) in
    rounds_of-short (text_of_rounds version_1 form rounds) version_1 (first-version form rounds) (omega (arith, size))
    ∙ read_on-start version_1 1 (lines_of (text_of_lines (map (round_line form) rounds)))
    ∙ ap (read_on version_1 [] 1) (lines_of-rounds form rounds it.each)
    ∙ lines-read form version_1 [] 1 rounds it.each usual bare (omega arith)

-- the line that tells the version
version_line-IsLine : IsLine version_line
version_line-IsLine = IsLine-plain version_line (λ k d h. ltb-true 31 _ (AllPass-from_list_all (λ b. nat_lt 31 b) version_line refl k d h))

second-version : (form : Bool) (rounds : List Round) → version_of (text_of_rounds version_2 form rounds) ≡ version_2
unfolding version_of
second-version form rounds = refl

pub second-read : (form : Bool) (rounds : List Round) → IsRounds rounds → All (FitsForm form) rounds → rounds_of (text_of_rounds version_2 form rounds) ≡ Ok rounds
second-read form rounds it usual =
    let lines = map (round_line form) rounds in
    let named : (round : Round) → IsRound round → length (name_behind_colon round.name) ≤ 42 = λ round r. (name_behind_colon-IsNameText round.name r.name).short in
    let size = lines-short form 42 rounds it.each (All-weaker IsRound (λ round. length (name_behind_colon round.name) ≤ 42) named rounds it.each) in
    let few = it.few in
    let are = All-map IsLine (round_line form) rounds (All-weaker IsRound (λ round. IsLine (round_line form round)) (round_line-IsLine form) rounds it.each) in
    let whole = lines_of-text_of_lines (version_line ∷ lines) (All-cons IsLine version_line lines version_line-IsLine are) in
    rounds_of-short (text_of_rounds version_2 form rounds) version_2 (second-version form rounds) (omega (arith, size, few))
    ∙ ap (λ ls. rounds_of_lines version_2 0 2 (drop 1 ls)) whole
    ∙ read_on-start version_2 2 (lines ++ [] ∷ [])
    ∙ lines-read form version_2 [] 2 rounds it.each usual (λ k d h. tt) (omega (arith, few))
