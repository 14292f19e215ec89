-- Where the tables are built, each state has exactly one solution, which leads to solved.
use Rattle.std.proofs.Common.{◌≡◌, Bool, true, false, cond, List, [], ◌∷◌, ◌++◌, Some, refl, sym, ap, ◌∙◌, arith, lit<, lit≤, ◌≤◌, length, ℕ, zero, suc, ◌+◌}
use Rattle.std.specs.Prelude.{◌↔◌, not}
use Rattle.std.specs.Option.{option_map}
use Rattle.std.proofs.lemmas.Bool.{false≢true}
use Rattle.std.proofs.lemmas.Option.{same_Some}
use Rattle.scr_combinatorics.specs.Play.{play, count_in}
use Rattle.scr_combinatorics.specs.Back.{back}
use Rattle.scr_combinatorics.specs.Reach.{IsReached}
use Rattle.scr_combinatorics.specs.Stages.{by_letters, spelled, IsSolution}
use Rattle.scr_combinatorics.proofs.PlayLaws.{play-empty, play-one, play-append, play-parts}
use Rattle.scr_combinatorics.proofs.StageLaws.{by_letters-played, play-stage_word, IsSolution-unique, Leads-solution, last_goal, solution_step, next_solution, CountsWithin, bounds, count-solution}
use Rattle.scr_combinatorics.proofs.OneLetter.{Ends, no_letter, one_letter}
use Rattle.scr_notation.specs.declared.turn.Turn.{Turn}
use Rattle.scr_notation.specs.Turning.{opposite, turn_merging}
use Rattle.scr_table.specs.Distances.{Distances}
use Rattle.scr_table.specs.Lines.{IsTableOf, AreTablesOf}
use Rattle.scr_table.proofs.LineLaws.{table_of_line}
use Rattle.scr_table.proofs.StageLaws.{end_valid, stage_word}
use Rattle.scr_sq1.specs.Units.{Sq1State, IsSq1, solved_sq1, sq1_after, sq1_puzzle, turned, twisted}
use Rattle.scr_sq1.proofs.Lawful.{IsSq1-reached, sq1_taken_back, sq1_kept_by_tidy, sq1_after-layers, sq1_after-twist}
use Rattle.scr_sq1tables.specs.Stages.{shape_stage, squaring_stage, pairing_stage, home_stage, last_stage, layer_stages, equator_word, equator_stage, sq1_stages, IsScrambleSq1}
use Rattle.scr_sq1tables.specs.Tables.{shapes_line, pairings_line, square_line, sq1_lines, shapes_index, pairings_index, square_index}
use Rattle.scr_sq1tables.specs.Spaces.{IsNormalSq1, IsPairedSq1}
use Rattle.scr_sq1tables.proofs.Renamed.{keeps_sq1, flipped, play-equator, play-flipped, layers-flipped}
use Rattle.scr_sq1tables.proofs.ShapeStage.{Follows-shapes}
use Rattle.scr_sq1tables.proofs.PairingStage.{Follows-pairings}
use Rattle.scr_sq1tables.proofs.HomeStage.{Follows-square}
use Rattle.scr_combinatorics.specs.Tidy.{tidy}
use Rattle.scr_sq1solve.specs.Counts.{twists_of, twists_in, IsWithinBounds, turned_over}
use Rattle.scr_sq1tables.specs.declared.stage_letters.StageLetters.{StageLetters}
use Rattle.scr_sq1tables.specs.declared.stage_letters.StageLetters.TheVariants.{OfShapes, OfPairings, OfHome, Squarings, Quarters}
use Rattle.scr_sq1solve.proofs.Lengths.{Costs-letter, twists-tidy, length-tidy, twists-back, IsTidy-sq1, layer_turns-played}
use Rattle.scr_notation.specs.declared.turn.Turn.TheVariants.{Layers, Twist}
use Rattle.scr_notation.proofs.OppositeLaws.{length-back}
use Rattle.scr_combinatorics.proofs.StageLaws as of_stages

-- ---- a solution leads to solved

-- that of the layers to where they are solved
pub layers-end : (s : Sq1State) (w : List Turn) → IsSolution sq1_after layer_stages s w
    → (home : Sq1State) × (play sq1_after s w ≡ Some home) × last_stage.IsGoal home
unfolding last_goal
layers-end s w a =
    let leads = Leads-solution sq1_after layer_stages (λ r. Unit {0}) s w tt a in
    (leads.end, leads.played, leads.goal)

-- and behind the first stage the equator too
pub play-solution : (s : Sq1State) (w : List Turn) → IsSolution sq1_after sq1_stages s w
    → play sq1_after s w ≡ Some solved_sq1
play-solution s w a =
    let leads = a.2.first.leads in
    let one : leads.goal.0 ≡ a.1 = IsSolution-unique sq1_after layer_stages leads.end leads.goal.0 a.1 leads.goal.1 a.3 in
    ap (play sq1_after s) a.4
    ∙ play-append sq1_after s leads.end (spelled equator_stage.letter a.0) a.1 (play-stage_word sq1_after equator_stage s a.0 a.2)
    ∙ ap (play sq1_after leads.end) (sym one) ∙ leads.goal.2

-- ---- the solution of the layers, and before it the word that turns the equator, where that would stand turned

module _ (s : Sq1State) (valid : IsSq1 s) (w : List Turn) where
  -- where the layers are solved, the equator tells the state
  upright : (us : List ℕ) → us ≡ solved_sq1.units → (let r : Sq1State = record { units = us; equator = false } in r ≡ solved_sq1)
  upright us e = ap (λ xs. let r : Sq1State = record { units = xs; equator = false } in r) e

  over : (us : List ℕ) → us ≡ solved_sq1.units → play sq1_after s w ≡ Some (record { units = us; equator = true })
      → play sq1_after (flipped s) w ≡ Some solved_sq1
  over us e played = play-flipped s w valid ∙ ap (option_map flipped) played ∙ ap Some (upright us e)

  played_by : (us : List ℕ) (b : Bool) → us ≡ solved_sq1.units → play sq1_after s w ≡ Some (record { units = us; equator = b })
      → play sq1_after s ((let e : List Turn = cond b equator_word [] in e) ++ w) ≡ Some solved_sq1
  played_by us true e played = play-append sq1_after s (flipped s) equator_word w (play-equator s valid) ∙ over us e played
  played_by us false e played = played ∙ ap Some (upright us e)

  solved_by : (us : List ℕ) (b : Bool) → us ≡ solved_sq1.units → play sq1_after s w ≡ Some (record { units = us; equator = b })
      → IsSolution sq1_after layer_stages s w
      → IsSolution sq1_after sq1_stages s ((let e : List Turn = cond b equator_word [] in e) ++ w)
  solved_by us true e played a =
      let flipped_solution = layers-flipped s w valid a in
      let ends : Ends sq1_after equator_stage s 0 (flipped s) =
      record { below = lit< tt; played = play-equator s valid; goal = (w, flipped_solution, over us e played) } in
      let apart : equator_stage.IsGoal s → ⊥ = λ goal.
      let one = IsSolution-unique sq1_after layer_stages s goal.0 w goal.1 a in
      let same = same_Some (record { units = us; equator = true }) solved_sq1 (sym played ∙ ap (play sq1_after s) (sym one) ∙ goal.2) in
      false≢true (sym (ap (λ r. r.equator) same)) in
      solution_step sq1_after equator_stage s (flipped s) (0 ∷ [])
      (one_letter sq1_after equator_stage s (flipped s) 0 (lit≤ tt) apart ends (λ k q lt e. absurd (omega (arith, lt))))
      (play-one (by_letters sq1_after 1 equator_stage.letter) s 0 ∙ by_letters-played sq1_after 1 equator_stage.letter s 0 (lit< tt) ∙ play-equator s valid)
      layer_stages w flipped_solution
  solved_by us false e played a =
      solution_step sq1_after equator_stage s s [] (no_letter sq1_after equator_stage s (w, a, played ∙ ap Some (upright us e)))
      (play-empty (by_letters sq1_after 1 equator_stage.letter) s) layer_stages w a

  module _ (home : Sq1State) (played : play sq1_after s w ≡ Some home) (solved : last_stage.IsGoal home) where
    pub play-with_equator : play sq1_after s ((let e : List Turn = cond home.equator equator_word [] in e) ++ w) ≡ Some solved_sq1
    play-with_equator = played_by home.units home.equator solved played

    pub with_equator : IsSolution sq1_after layer_stages s w
        → IsSolution sq1_after sq1_stages s ((let e : List Turn = cond home.equator equator_word [] in e) ++ w)
    with_equator = solved_by home.units home.equator solved played

-- ---- there is one

module _ (shapes pairings square : Distances) (a : IsTableOf shapes_line shapes) (b : IsTableOf pairings_line pairings) (c : IsTableOf square_line square) where
  layers_by : (s : Sq1State) → IsSq1 s → (w : List Turn) × IsSolution sq1_after layer_stages s w
  layers_by s valid =
      let first = stage_word sq1_after shape_stage IsSq1 shapes_line shapes_index Follows-shapes (lit≤ tt) shapes a s valid in
      let squared = first.1.first.leads in
      let squared_valid = end_valid sq1_after shape_stage IsSq1 shapes_line shapes_index Follows-shapes s first.0 valid first.1 in
      let turn = squared.goal in
      let normal = turn.1.first.leads in
      let is_normal : IsNormalSq1 normal.end = record {
        valid = keeps_sq1 squared.end normal.end (spelled squaring_stage.letter turn.0) squared_valid
            (play-stage_word sq1_after squaring_stage squared.end turn.0 turn.1);
        normal = normal.goal;
      } in
      let second = stage_word sq1_after pairing_stage IsNormalSq1 pairings_line pairings_index Follows-pairings (lit≤ tt) pairings b normal.end is_normal in
      let paired = second.1.first.leads in
      let is_paired : IsPairedSq1 paired.end = record {
        normal = end_valid sq1_after pairing_stage IsNormalSq1 pairings_line pairings_index Follows-pairings normal.end second.0 is_normal second.1;
        paired = paired.goal;
      } in
      let third = stage_word sq1_after home_stage IsPairedSq1 square_line square_index Follows-square (lit≤ tt) square c paired.end is_paired in
      let homed = third.1.first.leads in
      let next = next_solution sq1_after in
      next shape_stage (squaring_stage ∷ pairing_stage ∷ home_stage ∷ last_stage ∷ []) s first
      (next squaring_stage (pairing_stage ∷ home_stage ∷ last_stage ∷ []) squared.end turn
      (next pairing_stage (home_stage ∷ last_stage ∷ []) normal.end second
      (next home_stage (last_stage ∷ []) paired.end third (next last_stage [] homed.end homed.goal ([], refl)))))

module _ (tables : List Distances) (built : AreTablesOf sq1_lines tables) where
  pub solution : (s : Sq1State) → IsSq1 s → (w : List Turn) × IsSolution sq1_after sq1_stages s w
  solution s valid =
      let table = table_of_line sq1_lines tables built in
      let shapes = table shapes_line (0, lit< tt, refl) in
      let pairings = table pairings_line (1, lit< tt, refl) in
      let square = table square_line (2, lit< tt, refl) in
      let layers = layers_by shapes.0 pairings.0 square.0 shapes.1 pairings.1 square.1 s valid in
      let home = layers-end s layers.0 layers.1 in (
        (let e : List Turn = cond home.0.equator equator_word [] in e) ++ layers.0,
        with_equator s valid layers.0 home.0 home.1 home.2 layers.1,
      )

  -- so turns reach it, and they reach no other
  pub IsReached-sq1 : (s : Sq1State) → IsSq1 s → IsReached sq1_puzzle s
  IsReached-sq1 s valid =
      let found = solution s valid in
      (back opposite found.0, solved_sq1, refl, sq1_taken_back s solved_sq1 found.0 valid (play-solution s found.0 found.1))

  pub IsReached-iff : (s : Sq1State) → IsSq1 s ↔ IsReached sq1_puzzle s
  IsReached-iff s = (IsReached-sq1 s, IsSq1-reached s)

-- ---- the scramble

pub one_scramble : (s : Sq1State) (v w : List Turn) → IsScrambleSq1 s v → IsScrambleSq1 s w → v ≡ w
one_scramble = of_stages.one_scramble sq1_after opposite turn_merging sq1_stages

-- it leads from solved to the state
pub play-scramble : (s : Sq1State) (w : List Turn) → IsSq1 s → IsScrambleSq1 s w → play sq1_after solved_sq1 w ≡ Some s
play-scramble s w valid h =
    of_stages.play-scramble sq1_after opposite turn_merging sq1_stages IsSq1 sq1_taken_back sq1_kept_by_tidy s solved_sq1 w valid h
    (play-solution s h.solution h.is)

-- ---- how long it is

-- each letter of the equator's stage has three twists, one of the first stage has one, and so on
pub twists-solution : (s : Sq1State) (w : List Turn) → IsSolution sq1_after sq1_stages s w → twists_in w ≤ 76
unfolding bounds CountsWithin count_in
twists-solution s w h =
    let each = λ (letters : StageLetters) (n : ℕ). (Costs-letter letters n).twists in
    count-solution sq1_after twists_of sq1_stages (3 ∷ 1 ∷ 0 ∷ 1 ∷ 2 ∷ 0 ∷ []) s w
    ((λ n. lit≤ tt), (each OfShapes, (each Squarings, (each OfPairings, (each OfHome, (each Quarters, tt)))))) h

pub IsWithinBounds-scramble : (s : Sq1State) (w : List Turn) → IsSq1 s → IsScrambleSq1 s w → IsWithinBounds w
IsWithinBounds-scramble s w valid h =
    let tidied : List Turn = tidy turn_merging h.solution in
    let few : twists_in tidied ≤ 76 = omega (arith, twists-tidy h.solution, twists-solution s h.solution h.is) in
    let played = sq1_kept_by_tidy s solved_sq1 h.solution valid (play-solution s h.solution h.is) in
    record {
      twists = omega (arith, ap twists_in h.taken_back, twists-back tidied, few);
      turns = omega (arith, ap length h.taken_back, length-back tidied, length-tidy tidied (IsTidy-sq1 h.solution) (layer_turns-played s solved_sq1 tidied played), few);
    }

-- ---- the equator

turned_over-not : (n : ℕ) (b : Bool) → turned_over n (not b) ≡ not (turned_over n b)
unfolding turned_over
turned_over-not zero b = refl
turned_over-not (suc n) b = ap not (turned_over-not n b)

-- a turn of the layers leaves the equator, and a twist turns it over
pub equator-played : (s r : Sq1State) (w : List Turn) → play sq1_after s w ≡ Some r
    → r.equator ≡ turned_over (twists_in w) s.equator
unfolding count_in turned_over turned twisted sq1_after
equator-played s r [] e = ap (λ q. q.equator) (sym (same_Some s r (sym (play-empty sq1_after s) ∙ e)))
equator-played s r (t ∷ w) e =
    let parts = play-parts sq1_after s r t w e in
    equator-played parts.0 r w parts.2 ∙ step t parts.0 parts.1
  where
    step : (u : Turn) (q : Sq1State) → sq1_after s u ≡ Some q
        → turned_over (twists_in w) q.equator ≡ turned_over (twists_of u + twists_in w) s.equator
    step (Layers x y) q made =
        ap (λ p. turned_over (twists_in w) p.equator) (sq1_after-layers s q x y made).is ∙ ap (λ k. turned_over k s.equator) {x = twists_in w} {y = 0 + twists_in w} (omega arith)
    step Twist q made =
        ap (λ p. turned_over (twists_in w) p.equator) (sq1_after-twist s q made) ∙ turned_over-not (twists_in w) s.equator
        ∙ ap (λ k. turned_over k s.equator) {x = suc (twists_in w)} {y = 1 + twists_in w} (omega arith)
    step _ q made = absurd (cc)

pub equator-solution : (s : Sq1State) (layers w : List Turn) → IsSq1 s → IsSolution sq1_after layer_stages s layers
    → IsSolution sq1_after sq1_stages s w
    → w ≡ (let e : List Turn = cond (turned_over (twists_in layers) s.equator) equator_word [] in e) ++ layers
equator-solution s layers w valid a b =
    let home = layers-end s layers a in
    IsSolution-unique sq1_after sq1_stages s w ((let e : List Turn = cond home.0.equator equator_word [] in e) ++ layers) b
    (with_equator s valid layers home.0 home.1 home.2 a)
    ∙ ap (λ b. (let e : List Turn = cond b equator_word [] in e) ++ layers) (equator-played s home.0 layers home.1)
