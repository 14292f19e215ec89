-- The totals that words to the square shape begin: a word has but one, which solves the state, and that of the first
-- word taken back is the scramble.
use Rattle.std.proofs.Common.{◌≡◌, ℕ, ◌<◌, false, cond, List, [], ◌∷◌, ◌++◌, Some, refl, sym, ap, ◌∙◌, subst, arith, ◌*◌, ◌≤◌, length}
use Rattle.std.specs.Prelude.{All}
use Rattle.std.specs.Option.{option_map_or}
use Rattle.std.proofs.Math.Bool.{not-not}
use Rattle.std.proofs.lemmas.Option.{same_Some}
use Rattle.scr_combinatorics.specs.Back.{back}
use Rattle.scr_combinatorics.specs.FirstWord.{IsFirstWord}
use Rattle.scr_combinatorics.specs.Play.{play}
use Rattle.scr_combinatorics.specs.Stages.{by_letters, spelled, IsStageWord, IsSolution, Stage}
use Rattle.scr_combinatorics.specs.Tidy.{tidy}
use Rattle.scr_combinatorics.proofs.PlayLaws.{play-empty, play-append, play-one}
use Rattle.scr_combinatorics.proofs.StageLaws.{play-stage_word, IsSolution-unique, Leads-solution, last_goal, by_letters-parts, All-stage_word, count-spelled}
use Rattle.scr_notation.specs.declared.turn.Turn.{Turn}
use Rattle.scr_notation.specs.Turning.{opposite, turn_merging}
use Rattle.scr_sq1.specs.Units.{Sq1State, IsSq1, solved_sq1, sq1_after}
use Rattle.scr_sq1.proofs.Lawful.{sq1_taken_back, sq1_kept_by_tidy}
use Rattle.scr_sq1tables.specs.Stages.{squaring_stage, shape_letter, shape_stage, later_stages, layer_stages, last_stage, equator_word, equator_stage, sq1_stages, IsScrambleSq1, pairing_stage, home_stage}
use Rattle.scr_sq1solve.specs.Totals.{equator_part, IsTotal}
use Rattle.scr_sq1tables.proofs.Renamed.{flipped, play-equator, layers-flipped, keeps_sq1}
use Rattle.scr_sq1tables.proofs.ShapeStage.{IsEnding-squaring}
use Rattle.scr_sq1solve.proofs.Solutions.{with_equator, play-with_equator, one_scramble}
use Rattle.std.proofs.Math.Nat.{mul-le-mul_right}
use Rattle.std.proofs.lemmas.List.{append-nil}
use Rattle.scr_combinatorics.proofs.OneLetter.{IsEnding}
use Rattle.scr_orbit.proofs.Minima.{count_once}
use Rattle.scr_positions.specs.Coordinates.{moved, IsGoal}
use Rattle.scr_positions.specs.SearchSpaces.{positions, Follows}
use Rattle.scr_table.specs.Distances.{Distances}
use Rattle.scr_table.specs.Lines.{TableLine, IsTableOf}
use Rattle.scr_table.specs.StageSpaces.{stage_space}
use Rattle.scr_table.proofs.StageLaws.{end_valid, IsStageWord-first}
use Rattle.scr_sq1tables.specs.declared.stage_letters.StageLetters.{StageLetters}
use Rattle.scr_sq1tables.specs.declared.stage_letters.StageLetters.TheVariants.{Squarings, Quarters}
use Rattle.scr_sq1tables.specs.Letters.{stage_of, letter_of}
use Rattle.scr_sq1solve.specs.Walks.{each_of, IsWalk, IsWithinCosts}
use Rattle.scr_sq1solve.specs.Counts.{twists_of, Costs}
use Rattle.scr_sq1solve.proofs.Lengths.{Costs-letter, tidy-rest}
use Rattle.scr_sq1tables.proofs.HomeStage.{IsEnding-last}

-- ---- totals

pub IsTotal-unique : (s : Sq1State) (word : List ℕ) (v w : List Turn) → IsTotal s word v → IsTotal s word w → v ≡ w
IsTotal-unique s word v w a b =
    let ends : a.end ≡ b.end = same_Some a.end b.end (sym a.shaped ∙ b.shaped) in
    let later : a.later ≡ b.later =
    IsSolution-unique sq1_after later_stages b.end a.later b.later (subst (λ r. IsSolution sq1_after later_stages r a.later) ends a.solved) b.solved in
    a.tidied
    ∙ ap (λ more. let ls : List Turn = spelled shape_letter word ++ more in tidy turn_merging (equator_part s ls ++ ls)) later
    ∙ sym b.tidied

-- the equator's part, where the layers lead to this state
equator_part-led : (s home : Sq1State) (layers : List Turn) → play sq1_after s layers ≡ Some home
    → equator_part s layers ≡ (let e : List Turn = cond home.equator equator_word [] in e)
unfolding equator_part
equator_part-led s home layers led = ap (λ o. let e : List Turn = cond (option_map_or (λ r. r.equator) o false) equator_word [] in e) led

module _ (s : Sq1State) (word : List ℕ) (total : List Turn) (valid : IsSq1 s) (h : IsTotal s word total) where
  -- where they lead
  layers-led : (home : Sq1State) × (play sq1_after s (spelled shape_letter word ++ h.later) ≡ Some home) × last_stage.IsGoal home
  unfolding last_goal
  layers-led =
      let leads = Leads-solution sq1_after later_stages (λ r. Unit {0}) h.end h.later tt h.solved in
      (leads.end, play-append sq1_after s h.end (spelled shape_letter word) h.later h.shaped ∙ leads.played, leads.goal)

  -- a total solves the state,
  pub play-total : play sq1_after s total ≡ Some solved_sq1
  play-total =
      let home = layers-led in
      let layers : List Turn = spelled shape_letter word ++ h.later in
      ap (play sq1_after s) h.tidied
      ∙ sq1_kept_by_tidy s solved_sq1 (equator_part s layers ++ layers) valid
      (ap (λ e. play sq1_after s (e ++ layers)) (equator_part-led s home.0 layers home.1) ∙ play-with_equator s valid layers home.0 home.1 home.2)

  -- and taken back it leads from solved to the state
  pub play-total_back : play sq1_after solved_sq1 (back opposite total) ≡ Some s
  play-total_back = sq1_taken_back s solved_sq1 total valid play-total

  -- that of the first stage's word, taken back, is the scramble
  pub IsScrambleSq1-total : IsStageWord sq1_after shape_stage s word → IsScrambleSq1 s (back opposite total)
  IsScrambleSq1-total is =
      let home = layers-led in
      let layers : List Turn = spelled shape_letter word ++ h.later in
      let ends : h.end ≡ is.first.leads.end = same_Some h.end is.first.leads.end (sym h.shaped ∙ play-stage_word sq1_after shape_stage s word is) in
      let solution : IsSolution sq1_after layer_stages s layers =
      (word, h.later, is, subst (λ r. IsSolution sq1_after later_stages r h.later) ends h.solved, refl) in
      record {
        solution = equator_part s layers ++ layers;
        is = subst (λ e. IsSolution sq1_after sq1_stages s (e ++ layers)) (sym (equator_part-led s home.0 layers home.1))
            (with_equator s valid layers home.0 home.1 home.2 solution);
        taken_back = ap (back opposite) h.tidied;
      }

-- ---- every scramble is one

flipped_twice : (s : Sq1State) → flipped (flipped s) ≡ s
flipped_twice s = ap (λ e. let r : Sq1State = record { units = s.units; equator = e } in r) (not-not s.equator)

-- from where the equator's stage leads to, a solution of the layers is one of the state too
layers_before : (s : Sq1State) (valid : IsSq1 s) (word : List ℕ) (layers : List Turn) (is : IsStageWord sq1_after equator_stage s word)
    → IsSolution sq1_after layer_stages is.first.leads.end layers → IsSolution sq1_after layer_stages s layers
layers_before s valid [] layers is a =
    let lettered = by_letters sq1_after 1 equator_stage.letter in
    let end = is.first.leads.end in
    subst (λ r. IsSolution sq1_after layer_stages r layers) (same_Some end s (sym is.first.leads.played ∙ play-empty lettered s)) a
layers_before s valid (n ∷ []) layers is a =
    let lettered = by_letters sq1_after 1 equator_stage.letter in
    let end = is.first.leads.end in
    let parts = by_letters-parts sq1_after 1 equator_stage.letter s end n (sym (play-one lettered s n) ∙ is.first.leads.played) in
    let ends : end ≡ flipped s = same_Some end (flipped s) (sym parts.1 ∙ play-equator s valid) in
    subst (λ r. IsSolution sq1_after layer_stages r layers) (flipped_twice s)
    (layers-flipped (flipped s) layers (keeps_sq1 s (flipped s) equator_word valid (play-equator s valid))
    (subst (λ r. IsSolution sq1_after layer_stages r layers) ends a))
layers_before s valid (n ∷ (k ∷ word)) layers is a = absurd (omega (arith, is.within))

-- the total of the first stage's word, of which the scramble is what is left when it is taken back
pub record IsFirstTotal (s : Sq1State) (turns : List Turn) : Type 0 where
  pub word : List ℕ
  pub is : IsStageWord sq1_after shape_stage s word
  pub total : List Turn
  pub of_word : IsTotal s word total
  pub taken_back : turns ≡ back opposite total

pub IsFirstTotal-scramble : (s : Sq1State) (turns : List Turn) → IsSq1 s → IsScrambleSq1 s turns → IsFirstTotal s turns
IsFirstTotal-scramble s turns valid h =
    let first = h.is in
    let solution = layers_before s valid first.0 first.1 first.2 first.3 in
    let word = solution.0 in
    let is = solution.2 in
    let layers : List Turn = spelled shape_letter word ++ solution.1 in
    let total : List Turn = tidy turn_merging (equator_part s layers ++ layers) in
    let of_word : IsTotal s word total = record {
      end = is.first.leads.end;
      shaped = play-stage_word sq1_after shape_stage s word is;
      later = solution.1;
      solved = solution.3;
      tidied = refl;
    } in
    record {
      word = word;
      is = is;
      total = total;
      of_word = of_word;
      taken_back = one_scramble s turns (back opposite total) h (IsScrambleSq1-total s word total valid of_word is);
    }

-- the turns of a stage's word, where they are played
pub IsWalk-played : (stage : Stage Sq1State Turn) (s end : Sq1State) (word : List ℕ) (turns : List Turn)
    → IsStageWord sq1_after stage s word → turns ≡ spelled stage.letter word → play sq1_after s turns ≡ Some end
    → IsWalk stage s turns end
IsWalk-played stage s end word turns is are played = record {
  word = word;
  is = is;
  turns_are = are;
  end_is = same_Some is.first.leads.end end (sym (play-stage_word sq1_after stage s word is) ∙ ap (play sq1_after s) (sym are) ∙ played);
}

-- so many letters come to so many turns and twists
pub Costs-spelled : (letters : StageLetters) (word : List ℕ) (most : ℕ) → length word ≤ most
    → Costs (spelled (letter_of letters) word) (most * (each_of letters).turns) (most * (each_of letters).twists)
Costs-spelled letters word most few =
    let letter = letter_of letters in
    let each = each_of letters in
    record {
      turns = omega (
        arith,
        count_once (spelled letter word),
        count-spelled (λ t. 1) letter each.turns (λ n. omega (arith, count_once (letter n), (Costs-letter letters n).turns)) word,
        mul-le-mul_right each.turns few,
      );
      twists = omega (
        arith,
        count-spelled twists_of letter each.twists (λ n. (Costs-letter letters n).twists) word,
        mul-le-mul_right each.twists few,
      );
    }

-- and so do those of a stage's word
pub walk-costs : (letters : StageLetters) {s end : Sq1State} {turns : List Turn} → IsWalk (stage_of letters) s turns end
    → IsWithinCosts letters turns
walk-costs letters w = subst (IsWithinCosts letters) (sym w.turns_are) (Costs-spelled letters w.word (stage_of letters).bound w.is.within)

-- what is so where a stage's word has led
module _ {stage : Stage Sq1State Turn} {s end : Sq1State} {turns : List Turn} (w : IsWalk stage s turns end) where
  pub walk-kept : (IsValid : Sq1State → Type 0) (line : TableLine) (view : Sq1State → ℕ)
      → Follows (stage_space sq1_after stage IsValid) (positions line.coordinate) view → IsValid s → IsValid end
  walk-kept IsValid line view follows valid =
      subst IsValid w.end_is (end_valid sq1_after stage IsValid line view follows s w.word valid w.is)

  pub walk-goal : stage.IsGoal end
  walk-goal = subst stage.IsGoal w.end_is w.is.first.leads.goal

  walk-played : play sq1_after s turns ≡ Some end
  walk-played = ap (play sq1_after s) w.turns_are ∙ play-stage_word sq1_after stage s w.word w.is ∙ ap Some w.end_is

-- ---- the solution

-- a solution of some stages, and where it leads
record Solves (some : List (Stage Sq1State Turn)) (s : Sq1State) (turns : List Turn) (home : Sq1State) : Type 0 where
  is : IsSolution sq1_after some s turns
  played : play sq1_after s turns ≡ Some home

Solves-last : {stage : Stage Sq1State Turn} {s home : Sq1State} {turns : List Turn} → IsWalk stage s turns home
    → Solves (stage ∷ []) s turns home
Solves-last {stage} {s} {home} {turns} w = record {
  is = (w.word, [], w.is, refl, w.turns_are ∙ sym (append-nil (spelled stage.letter w.word)));
  played = walk-played w;
}

Solves-next : {stage : Stage Sq1State Turn} {rest : List (Stage Sq1State Turn)} {s end home : Sq1State} {turns more : List Turn}
    → IsWalk stage s turns end → Solves rest end more home → Solves (stage ∷ rest) s (turns ++ more) home
Solves-next {stage} {rest} {s} {end} {home} {turns} {more} w h = record {
  is = (w.word, more, w.is, subst (λ r. IsSolution sq1_after rest r more) (sym w.end_is) h.is, ap (λ ts. ts ++ more) w.turns_are);
  played = play-append sq1_after s end turns more (walk-played w) ∙ h.played;
}

-- where the rest of a word is tidied before
onward : (v all : List Turn) {w rest : List Turn} → w ≡ tidy turn_merging (v ++ rest) → rest ≡ tidy turn_merging all
    → w ≡ tidy turn_merging (v ++ all)
onward v all here before = here ∙ ap (λ r. tidy turn_merging (v ++ r)) before ∙ tidy-rest v all

module _ {s shaped normal paired homed home : Sq1State} {word : List ℕ} {shape squaring pairing homing last : List Turn}
    (a : shape ≡ spelled shape_letter word) (led : play sq1_after s shape ≡ Some shaped)
    (b : IsWalk squaring_stage shaped squaring normal) (c : IsWalk pairing_stage normal pairing paired)
    (d : IsWalk home_stage paired homing homed) (e : IsWalk last_stage homed last home) where
  -- the words, joined from their end and tidied whenever one is joined, are the total
  pub IsTotal-joined : (first : List Turn) {h p q r w : List Turn} → h ≡ tidy turn_merging (homing ++ last)
      → p ≡ tidy turn_merging (pairing ++ h) → q ≡ tidy turn_merging (squaring ++ p)
      → r ≡ tidy turn_merging (shape ++ q) → first ≡ (let e : List Turn = cond home.equator equator_word [] in e)
      → w ≡ tidy turn_merging (first ++ r) → IsTotal s word w
  unfolding equator_part
  IsTotal-joined first homed_is paired_is squared_is shaped_is first_is whole_is =
      let later : List Turn = squaring ++ (pairing ++ (homing ++ last)) in
      let solves = Solves-next b (Solves-next c (Solves-next d (Solves-last e))) in
      let end : play sq1_after s (shape ++ later) ≡ Some home = play-append sq1_after s shaped shape later led ∙ solves.played in
      let turned : first ≡ equator_part s (shape ++ later) =
      first_is ∙ ap (λ o. let e : List Turn = cond (option_map_or (λ r. r.equator) o false) equator_word [] in e) (sym end) in
      let whole =
      onward first (shape ++ later) whole_is
      (onward shape later shaped_is
      (onward squaring (pairing ++ (homing ++ last)) squared_is (onward pairing (homing ++ last) paired_is homed_is)))
      ∙ ap (λ f. tidy turn_merging (f ++ (shape ++ later))) turned in
      record {
        end = shaped;
        shaped = ap (play sq1_after s) (sym a) ∙ led;
        later = later;
        solved = solves.is;
        tidied = whole ∙ ap (λ ts. tidy turn_merging (equator_part s (ts ++ later) ++ (ts ++ later))) a;
      }

-- ---- stages of one letter at most

pub IsEnding-short : (letters : StageLetters) → (stage_of letters).bound ≡ 1 → IsEnding sq1_after (stage_of letters)
IsEnding-short Squarings short = IsEnding-squaring
IsEnding-short Quarters short = IsEnding-last
IsEnding-short _ short = absurd (omega (arith, short))

pub last_of_short : (letters : StageLetters) → (stage_of letters).bound ≡ 1 → (letters ≡ Squarings → ⊥) → letters ≡ Quarters
last_of_short Squarings short other = absurd (other refl)
last_of_short Quarters short other = refl
last_of_short _ short other = absurd (omega (arith, short))

-- ---- the words that the tables find

pub below-word : (stage : Stage Sq1State Turn) (s : Sq1State) (w : List ℕ) → IsStageWord sq1_after stage s w
    → stage.letters ≤ 144 → All (λ n. n < 144) w
below-word stage s w is few =
    let below = All-stage_word sq1_after stage s w is in λ k d lt. omega (arith, below k d lt, few)

-- the word that a table of a line finds from a state's position
module _ (stage : Stage Sq1State Turn) (IsValid : Sq1State → Type 0) (line : TableLine) (view : Sq1State → ℕ)
    (follows : Follows (stage_space sq1_after stage IsValid) (positions line.coordinate) view) (bound : line.bound ≤ stage.bound)
    (table : Distances) (is : IsTableOf line table) (s : Sq1State) (p : ℕ) (word : List ℕ) where
  pub IsStageWord-found : IsValid s → p ≡ view s → IsFirstWord (moved line.coordinate) (IsGoal line.coordinate) p word
      → IsStageWord sq1_after stage s word
  IsStageWord-found valid at first =
      IsStageWord-first sq1_after stage IsValid line view follows bound table is s word valid
      (subst (λ q. IsFirstWord (moved line.coordinate) (IsGoal line.coordinate) q word) at first)
