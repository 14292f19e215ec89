use Rattle.std.proofs.Common.{◌≡◌, ℕ, List, [], ◌∷◌, ◌++◌, Some, refl, sym, ap, ◌∙◌}
use Rattle.std.proofs.lemmas.List.{append_assoc, append-nil}
use Rattle.scr_combinatorics.specs.Play.{play}
use Rattle.scr_combinatorics.specs.Stages.{Stage, by_letters, IsStageWord, IsSolution, spelled}
use Rattle.scr_combinatorics.proofs.StageLaws.{All-stage_word, stage_goal, solution_step}
use Rattle.scr_orbit.specs.PowerPuzzles.{after_letter}
use Rattle.scr_notation.specs.declared.turn.Turn.{Turn}
use Rattle.scr_cube.specs.Cube333.{CubeState, cube_powers}
use Rattle.scr_stages.specs.Stages.{flips_stage, slice_stage, tetrads_stage, halves_stage}
use Rattle.scr_stages.proofs.HalfTurned.{IsHalfCube-half_turned}
use Rattle.scr_stages.proofs.solving.stage_words.Goals as goal

four_joined : {X : Type 0} (a b c d : List X) → (((([] ++ a) ++ b) ++ c) ++ d) ≡ a ++ (b ++ (c ++ (d ++ [])))
four_joined a b c d =
    append_assoc (a ++ b) c d ∙ append_assoc a b (c ++ d) ∙ ap (λ xs. a ++ (b ++ (c ++ xs))) (sym (append-nil d))

pub follow-unflipped-requires-clause-word : goal.follow-unflipped-requires-clause-word
follow-unflipped-requires-clause-word c =
    rw c.deref.ensures.0 (All-stage_word (after_letter cube_powers) flips_stage _ _ c.flips_word-word.ensures.word)

pub follow-domino-requires-clause-word : goal.follow-domino-requires-clause-word
follow-domino-requires-clause-word c =
    rw c.deref-2.ensures.0 (All-stage_word (after_letter cube_powers) slice_stage _ _ c.slice_word-word.ensures)

pub follow-half_turned-requires-clause-word : goal.follow-half_turned-requires-clause-word
follow-half_turned-requires-clause-word c =
    rw c.deref-3.ensures.0 (All-stage_word (after_letter cube_powers) tetrads_stage _ _ c.tetrads_word-word.ensures)

pub halves_word-word-requires : goal.halves_word-word-requires
halves_word-word-requires c =
    let is = rw (← c.deref-3.ensures.0) at c.tetrads_word-word.ensures in
    IsHalfCube-half_turned c.follow-half_turned.result (stage_goal (after_letter cube_powers) tetrads_stage _ _ _ is c.follow-half_turned.ensures.played)

pub follow-requires-clause-word : goal.follow-requires-clause-word
follow-requires-clause-word c =
    rw c.deref-4.ensures.0 (All-stage_word (after_letter cube_powers) halves_stage _ _ c.halves_word-word.ensures)

-- a word of the first stage, before a solution by the others
before : (stage : Stage CubeState Turn) (rest : List (Stage CubeState Turn)) (c d : CubeState) (word : List ℕ)
    → IsStageWord (after_letter cube_powers) stage c word
    → play (by_letters (after_letter cube_powers) stage.letters stage.letter) c word ≡ Some d
    → (s : List Turn) × IsSolution (after_letter cube_powers) rest d s
    → (s : List Turn) × IsSolution (after_letter cube_powers) (stage ∷ rest) c s
before stage rest c d word is played more =
    (spelled stage.letter word ++ more.0, solution_step (after_letter cube_powers) stage c d word is played rest more.0 more.1)

pub returns-clause-solution : goal.returns-clause-solution
unfolding before
returns-clause-solution c =
    let halves = before halves_stage [] _ _ _ (rw (← c.deref-4.ensures.0) at c.halves_word-word.ensures) c.follow.ensures.played ([], refl) in
    let tetrads =
    before tetrads_stage (halves_stage ∷ []) _ _ _ (rw (← c.deref-3.ensures.0) at c.tetrads_word-word.ensures) c.follow-half_turned.ensures.played halves in
    let slice =
    before slice_stage (tetrads_stage ∷ halves_stage ∷ []) _ _ _ (rw (← c.deref-2.ensures.0) at c.slice_word-word.ensures) c.follow-domino.ensures.played tetrads in
    let flips =
    before flips_stage (slice_stage ∷ tetrads_stage ∷ halves_stage ∷ []) _ _ _ (rw (← c.deref.ensures.0) at c.flips_word-word.ensures.word)
    c.follow-unflipped.ensures.played slice in
    let joined = four_joined (spelled flips_stage.letter c.deref.result.now) (spelled slice_stage.letter c.deref-2.result.now)
    (spelled tetrads_stage.letter c.deref-3.result.now) (spelled halves_stage.letter c.deref-4.result.now) in
    rw (
      c.follow.ensures.written,
      c.follow-half_turned.ensures.written,
      c.follow-domino.ensures.written,
      c.follow-unflipped.ensures.written,
      c.new-solution.ensures,
      joined,
    )
    flips.1
