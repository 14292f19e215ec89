-- What a list comes to, by what its lines are.
use Rattle.std.proofs.Common.{◌≡◌, ℕ, ◌+◌, ◌≤◌, Bool, true, false, cond, List, [], ◌∷◌, ◌++◌, drop, length, length-append, add_assoc, Option, Some, None, Result, Ok, Err, refl, ap, ◌∙◌, subst, arith}
use Rattle.std.specs.Prelude.{nat_lt}
use borrow.Author.Tests.{ltb-true, ltb-false}
use Rattle.scr_text.specs.Lines.{lines_of}
use Rattle.scr_list.specs.declared.round.Round.{Round}
use Rattle.scr_list.specs.declared.version.Version.{Version}
use Rattle.scr_list.specs.declared.fault.ListCause.{ListCause}
use Rattle.scr_list.specs.declared.fault.ListFault.{ListFault}
use Rattle.scr_list.specs.declared.fault.ListFault.TheVariants.{TooLong, Line}
use Rattle.scr_list.specs.Versions.{version_of}
use Rattle.scr_list.specs.Rounds.{round_of_line, rounds_of_lines, rounds_of}
use Rattle.scr_text_laws.specs.ListFaults.{words_of, behind_colon, IsAtFault, NameRounds, version_line_count, IsAnswer}
use Rattle.scr_text_laws.specs.ListFaults.NameRounds.{no_line, skipped, named}
use Rattle.scr_list.proofs.RoundLemmas.{then_rounds, with_named}
use Rattle.scr_text_laws.proofs.FaultLemmas.{LineTells, line-tells}

-- the first line at fault among some, the first of which has this number, and before which so many rounds stand
record FaultAt (version : Version) (before number : ℕ) (lines : List (List ℕ)) (line_number : ℕ) (why : ListCause) : Type 0 where
  good : List (List ℕ)
  line : List ℕ
  behind : List (List ℕ)
  rounds : List Round
  lines_are : lines ≡ good ++ line ∷ behind
  number_is : line_number ≡ number + length good
  are_good : NameRounds version good rounds
  few : before + length rounds ≤ version.most_rounds
  at_fault : IsAtFault version.most_rounds (before + length rounds) (words_of version line) (behind_colon version line) why

abbrev LinesTell : Version → ℕ → ℕ → List (List ℕ) → Result (List Round) ListFault → Type 0
LinesTell version before number lines (Ok rounds) =
    NameRounds version lines rounds × (before + length rounds ≤ version.most_rounds)
LinesTell version before number lines (Err (Line line_number why)) = FaultAt version before number lines line_number why
LinesTell version before number lines (Err _) = ⊥

module _ (version : Version) (before number : ℕ) (line : List ℕ) (lines : List (List ℕ)) where
  -- behind a line that is skipped, or names a round
  line-more : (front : List Round)
      → ((others : List (List ℕ)) (rounds : List Round) → NameRounds version others rounds → NameRounds version (line ∷ others) (front ++ rounds))
      → (answer : Result (List Round) ListFault) → LinesTell version (before + length front) (number + 1) lines answer
      → LinesTell version before number (line ∷ lines) (with_named front answer)
  line-more front names (Ok rounds) it = (names lines rounds it.0, omega (arith, it.1, length-append front rounds))
  line-more front names (Err (Line line_number why)) it = record {
    good = line ∷ it.good;
    line = it.line;
    behind = it.behind;
    rounds = front ++ it.rounds;
    lines_are = cc (it.lines_are);
    number_is = omega (arith, it.number_is);
    are_good = names it.good it.rounds it.are_good;
    few = omega (arith, it.few, length-append front it.rounds);
    at_fault = rw (length-append front it.rounds, ← add_assoc before (length front) (length it.rounds)) it.at_fault;
  }
  line-more front names (Err _) it = absurd it

  more-tell : before ≤ version.most_rounds → (r : Result (Option Round) ListCause)
      → LineTells version.most_rounds before (words_of version line) (behind_colon version line) r
      → ((stand : ℕ) → stand ≤ version.most_rounds → LinesTell version stand (number + 1) lines (rounds_of_lines version stand (number + 1) lines))
      → LinesTell version before number (line ∷ lines) (then_rounds number r (λ rounds. rounds_of_lines version (before + length rounds) (number + 1) lines))
  more-tell fits (Err why) tells rest =
      let same : before ≡ before + 0 = omega arith in
      record {
        good = [];
        line = line;
        behind = lines;
        rounds = [];
        lines_are = refl;
        number_is = omega arith;
        are_good = no_line;
        few = omega arith;
        at_fault = subst (λ n. IsAtFault version.most_rounds n (words_of version line) (behind_colon version line) why) same tells;
      }
  more-tell fits (Ok None) tells rest =
      line-more [] (λ others rounds. skipped tells) (rounds_of_lines version (before + 0) (number + 1) lines) (rest (before + 0) (omega arith))
  more-tell fits (Ok (Some round)) tells rest =
      line-more (round ∷ []) (λ others rounds. named tells.0) (rounds_of_lines version (before + 1) (number + 1) lines) (rest (before + 1) (omega arith))

lines-tell : (version : Version) (before number : ℕ) (lines : List (List ℕ)) → before ≤ version.most_rounds
    → LinesTell version before number lines (rounds_of_lines version before number lines)
unfolding rounds_of_lines
lines-tell version before number [] fits = (no_line, omega arith)
lines-tell version before number (line ∷ lines) fits =
    more-tell version before number line lines fits (round_of_line version before line)
    (line-tells version.most_rounds before (behind_colon version line) (words_of version line))
    (λ stand fits. lines-tell version stand (number + 1) lines fits)

-- the lines of a list, where this many tell its version
list-tells : (bytes : List ℕ) (count : ℕ) → version_line_count (version_of bytes) ≡ count → length bytes ≤ (version_of bytes).most_bytes
    → (answer : Result (List Round) ListFault) → LinesTell (version_of bytes) 0 (count + 1) (drop count (lines_of bytes)) answer → IsAnswer bytes answer
list-tells bytes count is short (Ok rounds) it =
    record { short = short; named = rw is it.0; few = omega (arith, it.1) }
list-tells bytes count is short (Err (Line number why)) it =
    let place = it.number_is in
    let few = it.few in
    let same : 0 + length it.rounds ≡ length it.rounds = omega arith in
    record {
      short = short;
      place = length it.good;
      number_is = omega (arith, place, is);
      first = record {
        good = it.good;
        line = it.line;
        behind = it.behind;
        rounds = it.rounds;
        lines_are = ap (λ n. drop n (lines_of bytes)) is ∙ it.lines_are;
        place_is = refl;
        are_good = it.are_good;
        few = omega (arith, few);
        at_fault = subst (λ n. IsAtFault (version_of bytes).most_rounds n (words_of (version_of bytes) it.line) (behind_colon (version_of bytes) it.line) why) same it.at_fault;
      };
    }
list-tells bytes count is short (Err _) it = absurd it

pub rounds_of-IsAnswer : (bytes : List ℕ) → IsAnswer bytes (rounds_of bytes)
unfolding rounds_of
rounds_of-IsAnswer bytes = at (nat_lt (version_of bytes).most_bytes (length bytes)) refl (version_of bytes).has_version_line refl
  where
    at : (long : Bool) → nat_lt (version_of bytes).most_bytes (length bytes) ≡ long → (told : Bool) → (version_of bytes).has_version_line ≡ told
        → IsAnswer bytes (cond long (Err (TooLong (version_of bytes).most_bytes))
        (cond told (rounds_of_lines (version_of bytes) 0 2 (drop 1 (lines_of bytes))) (rounds_of_lines (version_of bytes) 0 1 (lines_of bytes))))
    at true long told is = (refl, ltb-true (version_of bytes).most_bytes (length bytes) long)
    at false long true is =
        list-tells bytes 1 (rw is refl) (ltb-false (version_of bytes).most_bytes (length bytes) long) _
        (lines-tell (version_of bytes) 0 2 (drop 1 (lines_of bytes)) (omega arith))
    at false long false is =
        list-tells bytes 0 (rw is refl) (ltb-false (version_of bytes).most_bytes (length bytes) long) _
        (lines-tell (version_of bytes) 0 1 (lines_of bytes) (omega arith))
