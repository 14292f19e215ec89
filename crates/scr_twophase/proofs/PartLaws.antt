-- Two parts solve a cube, and their scramble leads to it.
use Rattle.std.proofs.Common.{◌≡◌, ℕ, zero, suc, true, List, [], ◌∷◌, ◌++◌, map, take, Option, Some, None, refl, ◌∙◌, arith}
use Rattle.std.specs.Prelude.{Contains, slice_get, MatchOption}
use Rattle.std.specs.List.{filter_map, cons_option}
use Rattle.std.specs.Option.{option_map}
use Rattle.std.proofs.lemmas.Bool.{and_parts}
use Rattle.std.proofs.lemmas.List.Elements.{All-contains_itself}
use Rattle.std.proofs.lemmas.Option.{same_Some}
use Rattle.scr_combinatorics.specs.Play.{play}
use Rattle.scr_combinatorics.specs.Back.{back}
use Rattle.scr_notation.specs.declared.event.Event.TheVariants.{C333}
use Rattle.scr_notation.specs.declared.turn.Turn.{Turn}
use Rattle.scr_notation.specs.TurnNumbers.{face_turn_at}
use Rattle.scr_notation.specs.Written.{Written, numbered_word}
use Rattle.scr_notation.proofs.NumberLaws.{turns_333}
use Rattle.scr_notation.specs.Turning.{opposite}
use Rattle.scr_cube.specs.Cube333.{CubeState, solved_cube}
use Rattle.scr_stages.proofs.SolutionLaws.{IsStageScramble-unique}
use Rattle.scr_combinatorics.specs.Words.{words_within}
use Rattle.scr_table.proofs.ListedWords.{found}
use Rattle.scr_stages.specs.Stages.{IsStageScramble, domino_turns}
use Rattle.scr_search.specs.Orderly.{after_turn, is_orderly, leads}
use Rattle.scr_twophase.specs.TwoParts.{first_parts, is_solution, is_solved, joined, two_parts}
use Rattle.scr_twophase.proofs.CubeTests.{IsSolved-test}
use Rattle.scr_search.proofs.Leads.{leads-parts}

given_by : {X Y : Type 0} (f : X → Option Y) (x : X) (xs : List X) (o : Option Y) (ys : List Y) (y : Y) → f x ≡ o
    → slice_get (cons_option o ys) 0 ≡ Some y → (slice_get ys 0 ≡ Some y → (z : X) × Contains xs z × (f z ≡ Some y))
    → (z : X) × Contains (x ∷ xs) z × (f z ≡ Some y)
given_by f x xs None ys y is h others =
    let given = others h in
    let below = given.1.1 in
    (given.0, (suc given.1.0, omega (arith, below), given.1.2), given.2)
given_by f x xs (Some z) ys y is h others = (x, (zero, omega arith, refl), is ∙ h)

-- what is given first, of so many from the front, is given for one of them
first_given : {X Y : Type 0} (f : X → Option Y) (xs : List X) (n : ℕ) (y : Y)
    → slice_get (filter_map f (take n xs)) 0 ≡ Some y → (x : X) × Contains xs x × (f x ≡ Some y)
first_given f [] zero y e = absurd (cc)
first_given f [] (suc n) y e = absurd (cc)
first_given f (x ∷ xs) zero y e = absurd (cc)
first_given f (x ∷ xs) (suc n) y e =
    given_by f x xs (f x) (filter_map f (take n xs)) y refl e (λ h. first_given f xs n y h)

joined_solves : (c : CubeState) (part w : List ℕ) → joined c part ≡ Some w → is_solution c w ≡ true
unfolding joined
joined_solves c part w e =
    let words = map (λ v. part ++ v) (words_within domino_turns 10) in
    (found (is_solution c) (Contains words) words w (All-contains_itself words) e).1

-- two parts are a first part and its second
pub two_parts-joined : (c : CubeState) (tries : ℕ) (w : List ℕ) → two_parts c tries ≡ Some w
    → (first : List ℕ) × Contains (first_parts c) first × (joined c first ≡ Some w)
unfolding two_parts
two_parts-joined c tries w e = first_given (joined c) (first_parts c) tries w e

-- they lead to solved
pub two_parts-played : (c : CubeState) (tries : ℕ) (w : List ℕ) → two_parts c tries ≡ Some w
    → play after_turn c w ≡ Some solved_cube
unfolding is_solution
two_parts-played c tries w e =
    let given = two_parts-joined c tries w e in
    let solves = and_parts (is_orderly w) (leads is_solved c w) (joined_solves c given.0 w given.2) in
    grind (arith, leads-parts, solves, IsSolved-test)

-- ---- the scramble

-- what is a scramble where the two parts are these, or there are none
abbrev pub IsScrambleBy : Option (List ℕ) → CubeState → List Turn → Type 0
IsScrambleBy o c turns = MatchOption o (IsStageScramble c turns) (λ word. turns ≡ back opposite (map face_turn_at word))

-- one cube has one scramble
pub IsScrambleBy-unique : (o : Option (List ℕ)) (c : CubeState) (some other : List Turn) → IsScrambleBy o c some
    → IsScrambleBy o c other → some ≡ other
IsScrambleBy-unique o c some other h0 h1 = grind (arith, IsStageScramble-unique)

-- what the word of two parts is
pub record IsWordOf (o : Option (List ℕ)) (w : Written) : Type 0 where
  pub word : List ℕ
  pub parts : o ≡ Some word
  pub of_event : w.event ≡ C333
  pub spelled : w.turns ≡ map face_turn_at word

pub IsWordOf-some : (o : Option (List ℕ)) (w : Written) → Some w ≡ option_map (numbered_word C333) o → IsWordOf o w
IsWordOf-some o w h0 = grind (arith, same_Some, turns_333)

pub no_parts : (o : Option (List ℕ)) → ◌≡◌ {A = Option Written} None (option_map (numbered_word C333) o) → o ≡ None
no_parts o h0 = grind arith
