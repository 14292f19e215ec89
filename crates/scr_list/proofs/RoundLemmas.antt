-- A list read line by line.
use Rattle.std.proofs.Common.{◌≡◌, ℕ, ◌+◌, ◌<◌, ◌≤◌, Bool, true, false, cond, List, [], ◌∷◌, ◌++◌, drop, length, Option, Some, None, Result, Ok, Err, refl, sym, ap, ◌∙◌, append_assoc, append-nil, length-append, Bor, arith}
use Rattle.std.specs.Prelude.{slice_get, nat_lt, option_copied, option_to_list, is_none, if◌then◌else◌, IfSome}
use Rattle.std.specs.Result.{result_map_both}
use borrow.Author.Tests.{ltb-true, ltb-false}
use Rattle.scr_text.specs.Lines.{lines_of}
use Rattle.scr_text.specs.Parts.{more_lines}
use Rattle.scr_text.specs.Steps.{and_then}
use Rattle.scr_list.specs.declared.round.Round.{Round}
use Rattle.scr_list.specs.declared.version.Version.{Version}
use Rattle.scr_list.specs.declared.fault.ListCause.{ListCause}
use Rattle.scr_list.specs.declared.fault.ListCause.TheVariants.{Words}
use Rattle.scr_list.specs.declared.fault.ListFault.{ListFault}
use Rattle.scr_list.specs.declared.fault.ListFault.TheVariants.{TooLong, Line, Read}
use Rattle.scr_list.specs.Versions.{version_of}
use Rattle.scr_list.specs.Rounds.{named_round, placed_round, round_of_words, round_of_line, rounds_of_lines, rounds_of}

-- a line by its first four words, and what follows its colon
abbrev pub by_words : ℕ → ℕ → Option (List ℕ) → Option (List ℕ) → Option (List ℕ) → Option (List ℕ) → Option (List ℕ)
    → Result (Option Round) ListCause
by_words most before name None second third fourth = if is_none name then Ok None else Err Words
by_words most before name (Some event) None third fourth = Err Words
by_words most before name (Some event) (Some groups) third (Some more) = Err Words
by_words most before name (Some event) (Some groups) third None = placed_round most before (named_round event groups third name)

pub round_of_words-by : (most before : ℕ) (name : Option (List ℕ)) (words : List (List ℕ)) →
    round_of_words most before name words
    ≡ by_words most before name (slice_get words 0) (slice_get words 1) (slice_get words 2) (slice_get words 3)
unfolding round_of_words
round_of_words-by most before name [] = refl
round_of_words-by most before name (event ∷ []) = refl
round_of_words-by most before name (event ∷ groups ∷ []) = refl
round_of_words-by most before name (event ∷ groups ∷ least ∷ []) = refl
round_of_words-by most before name (event ∷ groups ∷ least ∷ more ∷ others) = refl

-- a line whose words, as they are read, are two or three
pub round_of_words-named : (most before : ℕ) (name : Option (List ℕ)) (words : List (List ℕ)) (first second fourth third : Option (Bor (List ℕ))) (event groups : Bor (List ℕ))
    → option_copied first ≡ slice_get words 0 → option_copied second ≡ slice_get words 1
    → option_copied fourth ≡ slice_get words 3 → option_copied third ≡ slice_get words 2 → first ≡ Some event
    → second ≡ Some groups → fourth ≡ None
    → round_of_words most before name words ≡ placed_round most before (named_round event.now groups.now (option_copied third) name)
round_of_words-named most before name words first second fourth third event groups zeroth one three two is_event is_groups no_more =
    rw (round_of_words-by, ← zeroth, ← one, ← three, ← two, is_event, is_groups, no_more) refl

-- the rounds that a line names, one or none, before those of the lines that follow
abbrev pub with_named : List Round → Result (List Round) ListFault → Result (List Round) ListFault
with_named named answer = and_then answer (λ others. Ok (named ++ others))

-- what a line names before what the lines after it name
abbrev pub then_rounds : ℕ → Result (Option Round) ListCause → (List Round → Result (List Round) ListFault)
    → Result (List Round) ListFault
then_rounds number r others = and_then (result_map_both option_to_list (Line number) r) (λ named. with_named named (others named))

-- rounds that were read, before those of the lines that follow
abbrev pub after_rounds : List Round → Result (List Round) ListFault → Result (List Round) ListFault
after_rounds done (Ok more) = Ok (done ++ more)
after_rounds done (Err fault) = Err fault

after_rounds-none : (answer : Result (List Round) ListFault) → answer ≡ after_rounds [] answer
after_rounds-none (Ok more) = refl
after_rounds-none (Err fault) = refl

after_rounds-with_named : (done named : List Round) (answer : Result (List Round) ListFault) →
    after_rounds done (with_named named answer) ≡ after_rounds (done ++ named) answer
after_rounds-with_named done named (Ok more) = ap Ok (sym (append_assoc done named more))
after_rounds-with_named done named (Err fault) = refl

-- the rounds of a list, where these were read and these lines are left, of which the first has this number
abbrev pub read_on : Version → List Round → ℕ → List (List ℕ) → Result (List Round) ListFault
read_on version done number lines = after_rounds done (rounds_of_lines version (length done) number lines)

pub read_on-start : (version : Version) (number : ℕ) (lines : List (List ℕ)) →
    rounds_of_lines version 0 number lines ≡ read_on version [] number lines
read_on-start version number lines = after_rounds-none (rounds_of_lines version 0 number lines)

pub read_on-none : (version : Version) (done : List Round) (number : ℕ) (line : List ℕ) (lines : List (List ℕ)) →
    round_of_line version (length done) line ≡ Ok None →
    read_on version done number (line ∷ lines) ≡ read_on version done (number + 1) lines
unfolding rounds_of_lines
read_on-none version done number line lines is = grind (arith, after_rounds-with_named, append-nil)

pub read_on-round : (version : Version) (done : List Round) (number : ℕ) (line : List ℕ) (lines : List (List ℕ)) (round : Round) →
    round_of_line version (length done) line ≡ Ok (Some round) →
    read_on version done number (line ∷ lines) ≡ read_on version (done ++ round ∷ []) (number + 1) lines
unfolding rounds_of_lines
read_on-round version done number line lines round is = grind (arith, after_rounds-with_named, length-append)

pub read_on-fault : (version : Version) (done : List Round) (number : ℕ) (line : List ℕ) (lines : List (List ℕ)) (cause : ListCause) →
    round_of_line version (length done) line ≡ Err cause →
    read_on version done number (line ∷ lines) ≡ Err (Line number cause)
unfolding rounds_of_lines
read_on-fault version done number line lines cause is = rw is refl

pub read_on-end : (version : Version) (done : List Round) (number : ℕ) → read_on version done number [] ≡ Ok done
unfolding rounds_of_lines
read_on-end version done number = ap Ok (append-nil done)

-- ---- a whole list

-- a list that isn't too long: its lines name its rounds, but the one that tells the version
pub rounds_of-short : (bytes : List ℕ) (version : Version) → version_of bytes ≡ version → length bytes ≤ version.most_bytes →
    rounds_of bytes ≡ cond version.has_version_line (rounds_of_lines version 0 2 (drop 1 (lines_of bytes))) (rounds_of_lines version 0 1 (lines_of bytes))
unfolding rounds_of
rounds_of-short bytes version is short = grind arith

pub rounds_of-long : (bytes : List ℕ) (version : Version) → version_of bytes ≡ version → version.most_bytes < length bytes →
    rounds_of bytes ≡ Err (TooLong version.most_bytes)
unfolding rounds_of
rounds_of-long bytes version is long = grind arith

-- of a list whose first line tells its version, the others name rounds
pub rounds_of-told : (bytes : List ℕ) (version : Version) (line : List ℕ) (rest : List (List ℕ)) → version_of bytes ≡ version → length bytes ≤ version.most_bytes →
    version.has_version_line ≡ true → lines_of bytes ≡ line ∷ rest → rounds_of bytes ≡ rounds_of_lines version 0 2 rest
rounds_of-told bytes version line rest is short told lines =
    rounds_of-short bytes version is short
    ∙ ap (λ b. cond b (rounds_of_lines version 0 2 (drop 1 (lines_of bytes))) (rounds_of_lines version 0 1 (lines_of bytes))) told
    ∙ ap (λ ls. rounds_of_lines version 0 2 (drop 1 ls)) lines

pub rounds_of-untold : (bytes : List ℕ) (version : Version) → version_of bytes ≡ version → length bytes ≤ version.most_bytes →
    version.has_version_line ≡ false → rounds_of bytes ≡ rounds_of_lines version 0 1 (lines_of bytes)
rounds_of-untold bytes version is short untold =
    rounds_of-short bytes version is short
    ∙ ap (λ b. cond b (rounds_of_lines version 0 2 (drop 1 (lines_of bytes))) (rounds_of_lines version 0 1 (lines_of bytes))) untold

-- what an answer tells of the bytes of a list that may have so many: too many are refused as such, and only they, and
-- `Read` never comes
abbrev pub TellsLength : ℕ → List ℕ → Result (List Round) ListFault → Type 0
TellsLength most bytes (Ok rounds) = length bytes ≤ most
TellsLength most bytes (Err (TooLong limit)) = (limit ≡ most) × (most < length bytes)
TellsLength most bytes (Err (Line number cause)) = length bytes ≤ most
TellsLength most bytes (Err Read) = ⊥

lines-TellsLength : (most : ℕ) (bytes : List ℕ) (version : Version) (before number : ℕ) (lines : List (List ℕ)) → length bytes ≤ most →
    TellsLength most bytes (rounds_of_lines version before number lines)
unfolding rounds_of_lines
lines-TellsLength most bytes version before number [] short = short
lines-TellsLength most bytes version before number (line ∷ lines) short =
    at (round_of_line version before line) (λ stand. lines-TellsLength most bytes version stand (number + 1) lines short)
  where
    behind : (named : List Round) (answer : Result (List Round) ListFault) → TellsLength most bytes answer
        → TellsLength most bytes (with_named named answer)
    behind named (Ok rounds) it = it
    behind named (Err fault) it = it

    at : (r : Result (Option Round) ListCause) → ((stand : ℕ) → TellsLength most bytes (rounds_of_lines version stand (number + 1) lines)) →
        TellsLength most bytes (then_rounds number r (λ named. rounds_of_lines version (before + length named) (number + 1) lines))
    at (Err cause) rest = short
    at (Ok named) rest =
        let stand = before + length (option_to_list named) in
        behind (option_to_list named) (rounds_of_lines version stand (number + 1) lines) (rest stand)

pub rounds_of-TellsLength : (bytes : List ℕ) → TellsLength (version_of bytes).most_bytes bytes (rounds_of bytes)
unfolding rounds_of
rounds_of-TellsLength bytes =
    at (version_of bytes) (nat_lt (version_of bytes).most_bytes (length bytes)) (version_of bytes).has_version_line refl
  where
    at : (version : Version) (long told : Bool) → nat_lt version.most_bytes (length bytes) ≡ long →
        TellsLength version.most_bytes bytes
        (cond long (Err (TooLong version.most_bytes))
        (cond told (rounds_of_lines version 0 2 (drop 1 (lines_of bytes))) (rounds_of_lines version 0 1 (lines_of bytes))))
    at version true told is = (refl, ltb-true version.most_bytes (length bytes) is)
    at version false true is =
        lines-TellsLength version.most_bytes bytes version 0 2 (drop 1 (lines_of bytes)) (ltb-false version.most_bytes (length bytes) is)
    at version false false is =
        lines-TellsLength version.most_bytes bytes version 0 1 (lines_of bytes) (ltb-false version.most_bytes (length bytes) is)

-- ---- the loop over the lines

-- how many bytes are left, and one more for the line that they are
abbrev pub left_of : Option (Bor (List ℕ)) → ℕ
left_of None = 0
left_of (Some text) = length text.now + 1

pub left_of-shorter : (o : Option (Bor (List ℕ))) (size : ℕ) → IfSome o (λ rest. length rest.now < size)
    → left_of o ≤ size
left_of-shorter None size shorter = omega arith
left_of-shorter (Some rest) size shorter = omega arith

pub left_of-few : (o : Option (Bor (List ℕ))) (most : ℕ) → IfSome o (λ text. length text.now ≤ most)
    → left_of o ≤ most + 1
left_of-few None most few = omega arith
left_of-few (Some text) most few = omega arith

pub left-few : (o : Option (Bor (List ℕ))) (size most : ℕ) → IfSome o (λ rest. length rest.now < size) → size ≤ most
    → IfSome o (λ rest. length rest.now ≤ most)
left-few None size most shorter short = tt
left-few (Some rest) size most shorter short = omega arith

-- the lines that are left, the first of them split off
pub at_line : (version : Version) (answer : Result (List Round) ListFault) (done : List Round) (number : ℕ) (rest : Option (Bor (List ℕ))) (text : Bor (List ℕ)) (lines : List (List ℕ)) →
    answer ≡ read_on version done number (more_lines (option_copied rest)) → rest ≡ Some text → lines_of text.now ≡ lines →
    answer ≡ read_on version done number lines
at_line version answer done number rest text lines so_far is cut = grind arith

-- no line is left
pub at_end : (version : Version) (answer : Result (List Round) ListFault) (done : List Round) (number : ℕ) (rest : Option (Bor (List ℕ))) →
    answer ≡ read_on version done number (more_lines (option_copied rest)) → rest ≡ None → answer ≡ Ok done
at_end version answer done number rest so_far is = grind (arith, read_on-end)

-- what a line names, with the number of rounds that stand before it
pub named_at : (version : Version) (done : List Round) (size : ℕ) (line : List ℕ) (r : Result (Option Round) ListCause) (o : Result (Option Round) ListCause) →
    size ≡ length done → r ≡ round_of_line version size line → r ≡ o → round_of_line version (length done) line ≡ o
named_at version done size line r o same says is = ap (λ n. round_of_line version n line) (sym same) ∙ sym says ∙ is
