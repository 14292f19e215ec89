-- A list comes to one answer.
use Rattle.std.proofs.Common.{◌≡◌, ℕ, suc, ◌+◌, ◌<◌, ◌≤◌, Bool, true, false, cond, List, [], ◌∷◌, ◌++◌, drop, length, Option, Some, None, Result, Ok, Err, refl, sym, ap, ◌∙◌, subst, arith, inl, inr, ◌⊎◌, append-nil}
use Rattle.std.specs.Prelude.{All, slice_get}
use Rattle.std.specs.Fmt.{decimal}
use Rattle.std.proofs.lemmas.List.Elements.{All-head, All-tail}
use Rattle.std.proofs.lemmas.Slice.Eq.{bytes_eq-Decides}
use borrow.Author.Tests.{lt-ltb}
use Rattle.scr_notation.specs.declared.event.Minima.{Minima}
use Rattle.scr_notation.specs.Event.{id_of, minima_of}
use Rattle.scr_text.specs.Lines.{lines_of}
use Rattle.scr_list.specs.declared.round.Round.{Round}
use Rattle.scr_list.specs.declared.version.Version.{Version}
use Rattle.scr_list.specs.declared.fault.ListCause.{ListCause}
use Rattle.scr_list.specs.declared.fault.ListCause.TheVariants as cause
use Rattle.scr_list.specs.declared.fault.ListFault.{ListFault}
use Rattle.scr_list.specs.declared.fault.ListFault.TheVariants.{TooLong, Line, Read}
use Rattle.scr_list.specs.Versions.{version_of}
use Rattle.scr_list.specs.Rounds.{least_of, named_round, placed_round, round_of_words, round_of_line, rounds_of_lines, rounds_of}
use Rattle.scr_text_laws.specs.ListFaults.{SetsMinimum, NamesRound, Applies, IsAtFault, words_of, behind_colon, NameRounds, version_line_count, round_lines, IsAnswer}
use Rattle.scr_text_laws.specs.ListFaults.NameRounds.{no_line, skipped, named}
use Rattle.scr_list.proofs.EventLemmas.{id-IsId, event_named-id}
use Rattle.scr_text_laws.proofs.PrintedLemmas.{number_between-decimal}
use Rattle.scr_list.proofs.RoundLemmas.{with_named, rounds_of-short, rounds_of-long}
use Rattle.scr_text_laws.proofs.FaultLemmas.{LineTells, line-tells, sets-read, gives-read}

-- ---- a line

-- a list is parted in one way where what stands first doesn't hold of what stands before
first-one : {X : Type 0} (P : X → Type 0) (front other : List X) (behind after : List X) (x y : X)
    → front ++ x ∷ behind ≡ other ++ y ∷ after → All (λ z. P z → ⊥) front → All (λ z. P z → ⊥) other → P x → P y → x ≡ y
first-one P [] [] behind after x y same fails fails' here here' = cc
first-one P [] (z ∷ other) behind after x y same fails fails' here here' = grind (arith, All-head)
first-one P (z ∷ front) [] behind after x y same fails fails' here here' = grind (arith, All-head)
first-one P (z ∷ front) (w ∷ other) behind after x y same fails fails' here here' =
    let rest : front ++ x ∷ behind ≡ other ++ y ∷ after = cc in
    first-one P front other behind after x y rest (All-tail (λ v. P v → ⊥) z front fails)
    (All-tail (λ v. P v → ⊥) w other fails') here here'

-- what sets a minimum is nothing, or one word
sets-few : (minima : Option Minima) (least : ℕ) (last : List (List ℕ)) → SetsMinimum minima least last
    → (length last ≡ 0) ⊎ (length last ≡ 1)
sets-few minima least [] sets = inl refl
sets-few minima least (word ∷ []) sets = inr refl
sets-few None least (word ∷ more ∷ others) sets = absurd sets
sets-few (Some minima) least (word ∷ more ∷ others) sets = absurd sets

module _ (most before : ℕ) (behind : Option (List ℕ)) where
  -- a line that names a round is read as that
  named-read : (round : Round) (third : Option (List ℕ)) → before < most → 1 ≤ round.groups → round.groups ≤ 26
      → least_of (minima_of round.event) third ≡ Some round.least → Rattle.scr_list.specs.Rounds.round_name behind ≡ Some round.name
      → placed_round most before (named_round (id_of round.event) (decimal round.groups) third behind) ≡ Ok (Some round)
  named-read round third low some few set called =
      grind (arith, lt-ltb, id-IsId, event_named-id, number_between-decimal)

  last-read : (words : List (List ℕ)) (round : Round) → NamesRound words behind round → before < most → (last : List (List ℕ))
      → SetsMinimum (minima_of round.event) round.least last
      → round_of_words most before behind (id_of round.event ∷ decimal round.groups ∷ last) ≡ Ok (Some round)
  unfolding round_of_words
  last-read words round names low [] sets = grind (arith, named-read, sets-read, id-IsId, gives-read)
  last-read words round names low (word ∷ []) sets =
      named-read round (Some word) low names.some_groups names.few_groups
      (sets-read (minima_of round.event) (Some word) round.least (id-IsId round.event).range sets) (gives-read behind round.name names.name)
  last-read words round names low (word ∷ more ∷ others) sets = grind (arith, sets-few)

  names-read : (words : List (List ℕ)) (round : Round) → NamesRound words behind round → before < most
      → round_of_words most before behind words ≡ Ok (Some round)
  names-read words round names low =
      subst (λ ws. round_of_words most before behind ws ≡ Ok (Some round)) (sym names.words_are)
      (last-read words round names low names.last names.least)

  -- and no cause applies to it
  names-fails : (words : List (List ℕ)) (round : Round) → NamesRound words behind round → before < most → (why : ListCause)
      → Applies most before words behind why → ⊥
  names-fails words round names low cause.Words applies = grind (arith, sets-few)
  names-fails words round names low cause.No444 applies = grind (arith, bytes_eq-Decides, id-IsId)
  names-fails words round names low cause.Event applies = applies round.event (ap (λ ws. slice_get ws 0) names.words_are)
  names-fails words round names low cause.Groups applies = grind arith
  names-fails words round names low cause.Minimum applies =
      applies round.event round.least (ap (λ ws. slice_get ws 0) names.words_are)
      (subst (λ ws. SetsMinimum (minima_of round.event) round.least (drop 2 ws)) (sym names.words_are) names.least)
  names-fails words round names low cause.Name applies = applies round.name names.name
  names-fails words round names low cause.Rounds applies = absurd (omega arith)

  fault-only : (words : List (List ℕ)) (why : ListCause) → IsAtFault most before words behind why
      → (r : Result (Option Round) ListCause) → LineTells most before words behind r → Err why ≡ r
  fault-only words why fault (Ok None) skips = absurd (fault.some skips)
  fault-only words why fault (Ok (Some round)) names = absurd (names-fails words round names.0 names.1 why fault.applies)
  fault-only words why fault (Err other) it =
      ap Err (first-one (Applies most before words behind) fault.earlier it.earlier fault.later it.later why other
      (sym fault.order ∙ it.order) fault.first it.first fault.applies it.applies)

  line-only : (words : List (List ℕ)) (r : Result (Option Round) ListCause) → LineTells most before words behind r
      → round_of_words most before behind words ≡ r
  unfolding round_of_words
  line-only words (Ok None) skips = rw (skips.0, skips.1) refl
  line-only words (Ok (Some round)) names = names-read words round names.0 names.1
  line-only words (Err why) fault =
      sym (fault-only words why fault (round_of_words most before behind words) (line-tells most before behind words))

-- ---- the lines

with_named-none : (answer : Result (List Round) ListFault) → with_named [] answer ≡ answer
with_named-none (Ok rounds) = refl
with_named-none (Err fault) = refl

with_named-more : (round : Round) (rounds : List Round) (answer : Result (List Round) ListFault)
    → with_named (round ∷ []) (with_named rounds answer) ≡ with_named (round ∷ rounds) answer
with_named-more round rounds (Ok others) = refl
with_named-more round rounds (Err fault) = refl

module _ (version : Version) where
  abbrev read : ℕ → ℕ → List (List ℕ) → Result (List Round) ListFault
  read before number lines = rounds_of_lines version before number lines

  lines-pass : {lines : List (List ℕ)} {rounds : List Round} → NameRounds version lines rounds → (before number : ℕ) (rest : List (List ℕ))
      → before + length rounds ≤ version.most_rounds
      → read before number (lines ++ rest) ≡ with_named rounds (read (before + length rounds) (number + length lines) rest)
  unfolding rounds_of_lines
  lines-pass no_line before number rest few = grind (arith, with_named-none)
  lines-pass (skipped {line} {lines} {rounds} skips more) before number rest few =
      let is : round_of_line version before line ≡ Ok None =
      line-only version.most_rounds before (behind_colon version line) (words_of version line) (Ok None) skips in
      let b : before + 0 + length rounds ≡ before + length rounds = omega arith in
      let n : number + 1 + length lines ≡ number + suc (length lines) = omega arith in
      rw (is, ← b, ← n)
      (with_named-none (read (before + 0) (number + 1) (lines ++ rest)) ∙ lines-pass more (before + 0) (number + 1) rest (omega arith))
  lines-pass (named {line} {lines} {round} {rounds} names more) before number rest few =
      let low : before < version.most_rounds = omega arith in
      let is : round_of_line version before line ≡ Ok (Some round) =
      line-only version.most_rounds before (behind_colon version line) (words_of version line) (Ok (Some round)) (names, low) in
      let b : before + 1 + length rounds ≡ before + suc (length rounds) = omega arith in
      let n : number + 1 + length lines ≡ number + suc (length lines) = omega arith in
      rw (is, ← b, ← n)
      (ap (with_named (round ∷ [])) (lines-pass more (before + 1) (number + 1) rest (omega arith))
      ∙ with_named-more round rounds (read (before + 1 + length rounds) (number + 1 + length lines) rest))

  -- a line at fault ends the reading
  fault-read : (before number : ℕ) (line : List ℕ) (behind : List (List ℕ)) (why : ListCause)
      → IsAtFault version.most_rounds before (words_of version line) (behind_colon version line) why
      → read before number (line ∷ behind) ≡ Err (Line number why)
  unfolding rounds_of_lines
  fault-read before number line behind why fault =
      let is : round_of_line version before line ≡ Err why =
      line-only version.most_rounds before (behind_colon version line) (words_of version line) (Err why) fault in
      rw is refl

  end-read : (before number : ℕ) → read before number [] ≡ Ok []
  unfolding rounds_of_lines
  end-read before number = refl

-- ---- a list

-- a list that isn't too long is read by its lines
short-read : (bytes : List ℕ) → length bytes ≤ (version_of bytes).most_bytes
    → rounds_of bytes ≡ rounds_of_lines (version_of bytes) 0 (version_line_count (version_of bytes) + 1) (round_lines bytes)
short-read bytes short =
    rounds_of-short bytes (version_of bytes) refl short ∙ at (version_of bytes).has_version_line
  where
    at : (told : Bool) → cond told (rounds_of_lines (version_of bytes) 0 2 (drop 1 (lines_of bytes))) (rounds_of_lines (version_of bytes) 0 1 (lines_of bytes))
        ≡ rounds_of_lines (version_of bytes) 0 (cond told 1 0 + 1) (drop (cond told 1 0) (lines_of bytes))
    at true = refl
    at false = refl

pub answer-only : (bytes : List ℕ) (answer : Result (List Round) ListFault) → IsAnswer bytes answer → rounds_of bytes ≡ answer
answer-only bytes (Ok rounds) it =
    let version = version_of bytes in
    let first : ℕ = version_line_count (version_of bytes) + 1 in
    let few : 0 + length rounds ≤ version.most_rounds = let h = it.few in omega arith in
    short-read bytes it.short ∙ ap (rounds_of_lines version 0 first) (sym (append-nil (round_lines bytes)))
    ∙ lines-pass version it.named 0 first [] few
    ∙ ap (with_named rounds) (end-read version (0 + length rounds) (first + length (round_lines bytes)))
    ∙ ap Ok (append-nil rounds)
answer-only bytes (Err (Line number why)) it =
    let version = version_of bytes in
    let at = it.first in
    let first : ℕ = version_line_count (version_of bytes) + 1 in
    let few : 0 + length at.rounds ≤ version.most_rounds = let h = at.few in omega arith in
    let none : length at.rounds ≡ 0 + length at.rounds = omega arith in
    let line_number : first + length at.good ≡ number = omega arith in
    short-read bytes it.short ∙ ap (rounds_of_lines version 0 first) at.lines_are
    ∙ lines-pass version at.are_good 0 first (at.line ∷ at.behind) few
    ∙ ap (with_named at.rounds) (fault-read version (0 + length at.rounds) (first + length at.good) at.line at.behind why
    (subst (λ n. IsAtFault version.most_rounds n (words_of version at.line) (behind_colon version at.line) why) none at.at_fault))
    ∙ ap (λ n. Err (Line n why)) line_number
answer-only bytes (Err (TooLong limit)) it = grind (arith, rounds_of-long)
answer-only bytes (Err Read) it = absurd it
