-- What holds of each round that a list names.
use Rattle.std.proofs.Common.{◌≡◌, ℕ, ◌+◌, ◌^◌, ◌<◌, ◌≤◌, Bool, true, false, cond, List, [], ◌∷◌, drop, length, Option, Some, None, Result, Ok, Err, refl, sym, ◌∙◌, subst, arith, inl, inr, lit≤}
use Rattle.std.specs.Prelude.{nat_lt, nat_le, ◌&&◌, ◌⊎◌, All, codes, is_none, ok_or, option_and_then, IfOk, IfErr}
use Rattle.std.specs.Fmt.{decimal}
use Rattle.std.specs.Str.{bytes_eq}
use Rattle.std.proofs.lemmas.List.Elements.{All-cons, All-nil}
use borrow.Author.Tests.{ltb-true, leb-true}
use Rattle.arrayvec.specs.ArrayVec.{ArrayVec}
use Rattle.scr_text.specs.Lines.{has_bytes, lines_of, line_words}
use Rattle.scr_text.specs.Numbers.{in_range, number_of_text, number_between}
use Rattle.scr_text.specs.Steps.{and_then}
use Rattle.scr_text.proofs.NumberLaws.{number_of_text-is}
use Rattle.scr_notation.specs.declared.event.Minima.{Minima}
use Rattle.scr_list.specs.declared.round.Round.{Round}
use Rattle.scr_list.specs.declared.version.Version.{Version}
use Rattle.scr_list.specs.declared.fault.ListCause.{ListCause}
use Rattle.scr_list.specs.declared.fault.ListCause.TheVariants.{Words}
use Rattle.scr_list.specs.declared.fault.ListFault.{ListFault}
use Rattle.scr_list.specs.declared.fault.ListFault.TheVariants.{TooLong, Read}
use Rattle.scr_notation.specs.Event.{minima_of, greatest_in, usual_in}
use Rattle.scr_list.specs.Events.{event_named}
use Rattle.scr_list.specs.Names.{IsName, name_part, told_part}
use Rattle.scr_list.specs.Versions.{version_of}
use Rattle.scr_list.specs.Rounds.{IsRound, least_of, round_name, named_round, placed_round, round_of_words, round_of_line, rounds_of_lines, rounds_of}
use Rattle.scr_list.specs.RoundLists.{IsRounds}
use Rattle.scr_list.specs.Reading.{listed}
use Rattle.scr_list.proofs.EventLemmas.{id-IsId}
use Rattle.scr_list.proofs.NameLemmas.{name_in-IsName}
use Rattle.scr_list.proofs.RoundLemmas.{rounds_of-TellsLength, then_rounds, with_named}
use Rattle.scr_list.proofs.VersionLemmas.{of_version}

-- a number between two others
number_between-range : (least greatest : ℕ) (text : List ℕ) (n : ℕ) → number_between least greatest text ≡ Some n →
    (least ≤ n) × (n ≤ greatest)
unfolding number_between
number_between-range least greatest text n found = at (number_of_text text) found
  where
    tests : (m : ℕ) (a b : Bool) → nat_le least m ≡ a → nat_le m greatest ≡ b → cond (a && b) (Some m) None ≡ Some n
        → (least ≤ n) × (n ≤ greatest)
    tests m true true low high is =
        let same : m ≡ n = cc in
        let P : ℕ → Type 0 = λ x. (least ≤ x) × (x ≤ greatest) in
        subst P same (leb-true least m low, leb-true m greatest high)
    tests m true false low high is = cc
    tests m false b low high is = cc

    at : (o : Option ℕ) → option_and_then (in_range least greatest) o ≡ Some n → (least ≤ n) × (n ≤ greatest)
    at None is = cc
    at (Some m) is = tests m (nat_le least m) (nat_le m greatest) refl refl is

-- and its text
pub number_between-is : (least greatest : ℕ) (text : List ℕ) (n : ℕ) → greatest < 2 ^ 64 → number_between least greatest text ≡ Some n
    → (least ≤ n) × (n ≤ greatest) × (text ≡ decimal n)
unfolding number_between
number_between-is least greatest text n low found =
    let range = number_between-range least greatest text n found in
    (range.0, range.1, number_of_text-is text n (omega (arith, range.1)) (at (number_of_text text) refl found))
  where
    same : (m : ℕ) (b : Bool) → cond b (Some m) None ≡ Some n → Some m ≡ Some n
    same m true is = is
    same m false is = cc

    at : (o : Option ℕ) → number_of_text text ≡ o → option_and_then (in_range least greatest) o ≡ Some n → number_of_text text ≡ Some n
    at None told is = cc
    at (Some m) told is = told ∙ same m (nat_le least m && nat_le m greatest) is

least_of-le : (minima : Option Minima) (word : Option (List ℕ)) (least : ℕ) → usual_in minima ≤ greatest_in minima →
    least_of minima word ≡ Some least → least ≤ greatest_in minima
least_of-le minima None least usual is = let same : usual_in minima ≡ least = cc in subst (λ x. x ≤ greatest_in minima) same usual
least_of-le None (Some word) least usual is = cc
least_of-le (Some minima) (Some word) least usual is = (number_between-range 0 minima.greatest word least is).1

-- a part that a line has
or_cause-part : {X Y : Type 0} (why : ListCause) (o : Option X) (next : X → Result Y ListCause) (y : Y) → and_then (ok_or o why) next ≡ Ok y →
    (x : X) × (o ≡ Some x) × (next x ≡ Ok y)
or_cause-part why None next y is = cc
or_cause-part why (Some x) next y is = (x, refl, is)

-- the choice of a fault
not_fault : {Y : Type 0} (b : Bool) (why : ListCause) (more : Result Y ListCause) (y : Y) → cond b (Err why) more ≡ Ok y
    → (b ≡ false) × (more ≡ Ok y)
not_fault true why more y is = cc
not_fault false why more y is = (refl, is)

-- a name that a line gives
name-IsName : (text : Option (List ℕ)) (name : List ℕ) → round_name text ≡ Some name → has_bytes name ≡ true
    → IsName name
name-IsName None name is some =
    let none : [] ≡ name = cc in
    absurd (no_bytes (subst (λ n. has_bytes n ≡ true) (sym none) some))
  where
    no_bytes : has_bytes [] ≡ true → ⊥
    no_bytes is = cc
name-IsName (Some text) name is some = name_in-IsName text name is

named-IsRound : (event groups : List ℕ) (least name : Option (List ℕ)) (round : Round) →
    named_round event groups least name ≡ Ok round → IsRound round
named-IsRound event groups least name round found =
    let known = or_cause-part _ (event_named event) _ round (not_fault (bytes_eq event (codes "444")) _ _ round found).1 in
    let grouped = or_cause-part _ (number_between 1 26 groups) _ round known.2 in
    let set = or_cause-part _ (least_of (minima_of known.0) least) _ round grouped.2 in
    let called = or_cause-part _ (round_name name) _ round set.2 in
    let range = number_between-range 1 26 groups grouped.0 grouped.1 in
    let it : Round = record { event = known.0; groups = grouped.0; least = set.0; name = called.0 } in
    let same : it ≡ round = cc in
    subst IsRound same (record {
      some_groups = range.0;
      few_groups = range.1;
      least = least_of-le (minima_of known.0) least set.0 (id-IsId known.0).usual set.1;
      name = name-IsName name called.0 called.1;
    })

-- a round stands after fewer others than a list may have, and is one that a list can name
pub record IsPlaced (most before : ℕ) (round : Round) : Type 0 where
  pub few : before < most
  pub is_round : IsRound round

placed-is : (most before : ℕ) (r : Result Round ListCause) (round : Round) → ((x : Round) → r ≡ Ok x → IsRound x) →
    placed_round most before r ≡ Ok (Some round) → IsPlaced most before round
placed-is most before (Err cause) round each is = cc
placed-is most before (Ok x) round each is = at (nat_lt before most) refl is
  where
    at : (b : Bool) → nat_lt before most ≡ b → cond b (Ok (Some x)) (Err Rattle.scr_list.specs.declared.fault.ListCause.TheVariants.Rounds) ≡ Ok (Some round) →
        IsPlaced most before round
    at true low is =
        let same : x ≡ round = cc in
        record { few = ltb-true before most low; is_round = subst IsRound same (each x refl) }
    at false low is = cc

wordless-none : (bare : Bool) (round : Round) → cond bare (Ok None) (Err Words) ≡ Ok (Some round) → ⊥
wordless-none true round is = cc
wordless-none false round is = cc

pub round_of_words-IsPlaced : (most before : ℕ) (name : Option (List ℕ)) (words : List (List ℕ)) (round : Round) →
    round_of_words most before name words ≡ Ok (Some round) → IsPlaced most before round
unfolding round_of_words
round_of_words-IsPlaced most before name [] round is = absurd (wordless-none (is_none name) round is)
round_of_words-IsPlaced most before name (event ∷ groups ∷ []) round is =
    placed-is most before (named_round event groups None name) round (named-IsRound event groups None name) is
round_of_words-IsPlaced most before name (event ∷ groups ∷ least ∷ []) round is =
    placed-is most before (named_round event groups (Some least) name) round (named-IsRound event groups (Some least) name) is
round_of_words-IsPlaced most before name words round is = cc

pub round_of_line-IsPlaced : (version : Version) (before : ℕ) (line : List ℕ) (round : Round) →
    round_of_line version before line ≡ Ok (Some round) → IsPlaced version.most_rounds before round
round_of_line-IsPlaced version before line round is =
    round_of_words-IsPlaced version.most_rounds before (name_part version.takes_names line)
    (line_words (told_part version.takes_names line)) round is

-- the rounds of lines
record AreLeft (most before : ℕ) (rounds : List Round) : Type 0 where
  each : All IsRound rounds
  few : (length rounds ≡ 0) ⊎ (before + length rounds ≤ most)

abbrev IfLeft : ℕ → ℕ → Result (List Round) ListFault → Type 0
IfLeft most before (Ok rounds) = AreLeft most before rounds
IfLeft most before (Err fault) = Unit {0}

rounds_of_lines-AreLeft : (version : Version) (before number : ℕ) (lines : List (List ℕ)) →
    IfLeft version.most_rounds before (rounds_of_lines version before number lines)
unfolding rounds_of_lines
rounds_of_lines-AreLeft version before number [] = record { each = All-nil IsRound; few = inl refl }
rounds_of_lines-AreLeft version before number (line ∷ lines) =
    at (round_of_line version before line) (λ round. round_of_line-IsPlaced version before line round)
    (λ stand. rounds_of_lines-AreLeft version stand (number + 1) lines)
  where
    count : (size : ℕ) → (size ≡ 0) ⊎ (before + 1 + size ≤ version.most_rounds) → before < version.most_rounds
        → before + (size + 1) ≤ version.most_rounds
    count size (inl none) low = omega arith
    count size (inr some) low = omega arith

    behind : (round : Round) → IsPlaced version.most_rounds before round → (answer : Result (List Round) ListFault) → IfLeft version.most_rounds (before + 1) answer →
        IfLeft version.most_rounds before (with_named (round ∷ []) answer)
    behind round placed (Ok rounds) it = record {
      each = All-cons IsRound round rounds placed.is_round it.each;
      few = inr (let few = count (length rounds) it.few placed.few in omega arith);
    }
    behind round placed (Err fault) it = tt

    nothing : (answer : Result (List Round) ListFault) → IfLeft version.most_rounds (before + 0) answer
        → IfLeft version.most_rounds before (with_named [] answer)
    nothing (Ok rounds) it = record { each = it.each; few = elim it.few [ inl none ↦ inl none | inr some ↦ inr (omega arith) ] }
    nothing (Err fault) it = tt

    at : (r : Result (Option Round) ListCause) → ((round : Round) → r ≡ Ok (Some round) → IsPlaced version.most_rounds before round) →
        ((stand : ℕ) → IfLeft version.most_rounds stand (rounds_of_lines version stand (number + 1) lines)) →
        IfLeft version.most_rounds before (then_rounds number r (λ named. rounds_of_lines version (before + length named) (number + 1) lines))
    at (Err cause) placed rest = tt
    at (Ok None) placed rest = nothing (rounds_of_lines version (before + 0) (number + 1) lines) (rest (before + 0))
    at (Ok (Some round)) placed rest = behind round (placed round refl) (rounds_of_lines version (before + 1) (number + 1) lines) (rest (before + 1))

-- no version has room for more than the second
pub most_rounds-le : (bytes : List ℕ) → (version_of bytes).most_rounds ≤ 256
most_rounds-le bytes = of_version (λ v. v.most_rounds ≤ 256) bytes (lit≤ tt) (lit≤ tt)

pub most_bytes-le : (bytes : List ℕ) → (version_of bytes).most_bytes ≤ 16384
most_bytes-le bytes = of_version (λ v. v.most_bytes ≤ 16384) bytes (lit≤ tt) (lit≤ tt)

pub rounds_of-IsRounds : (bytes : List ℕ) (rounds : List Round) → rounds_of bytes ≡ Ok rounds → IsRounds rounds
unfolding rounds_of
rounds_of-IsRounds bytes rounds found =
    at (version_of bytes) (most_rounds-le bytes) (nat_lt (version_of bytes).most_bytes (length bytes)) (version_of bytes).has_version_line found
  where
    are : (version : Version) → version.most_rounds ≤ 256 → (number : ℕ) (lines : List (List ℕ)) →
        rounds_of_lines version 0 number lines ≡ Ok rounds → IsRounds rounds
    are version most number lines is =
        let left = subst (IfLeft version.most_rounds 0) is (rounds_of_lines-AreLeft version 0 number lines) in
        record { each = left.each; few = elim left.few [ inl none ↦ omega arith | inr some ↦ omega arith ] }

    at : (version : Version) → version.most_rounds ≤ 256 → (long told : Bool) →
        cond long (Err (TooLong version.most_bytes))
        (cond told (rounds_of_lines version 0 2 (drop 1 (lines_of bytes))) (rounds_of_lines version 0 1 (lines_of bytes))) ≡ Ok rounds →
        IsRounds rounds
    at version most true told is = cc
    at version most false true is = are version most 2 (drop 1 (lines_of bytes)) is
    at version most false false is = are version most 1 (lines_of bytes) is

-- ---- what the grammar's answer is

pub answer-IsRounds : (bytes : List ℕ) (r : Result (ArrayVec Round) ListFault) → listed r ≡ rounds_of bytes
    → IfOk r (λ rounds. IsRounds rounds.items)
answer-IsRounds bytes (Ok rounds) is = rounds_of-IsRounds bytes rounds.items (sym is)
answer-IsRounds bytes (Err fault) is = tt

pub answer-not_Read : (bytes : List ℕ) (r : Result (ArrayVec Round) ListFault) → listed r ≡ rounds_of bytes
    → IfErr r (λ fault. fault ≡ Read → ⊥)
answer-not_Read bytes (Ok rounds) is = tt
answer-not_Read bytes (Err fault) is = grind (arith, rounds_of-TellsLength)
