-- The random moves of a big cube: turns that words give one after another.
use Rattle.std.specs.Prelude.{ℕ, zero, suc, ◌+◌, ◌*◌, Option, Some, option_map, option_and_then, List, [], ◌∷◌}
use Rattle.std.specs.Option.{option_map_or}
use Rattle.scr_draw.specs.Attempt.{attempt_values}
use Rattle.scr_draw.specs.Drawn.{drawn}
use Rattle.scr_draw.specs.FirstHit.{numbers_read}
use Rattle.scr_notation.specs.declared.turn.Turn.{Turn}
use Rattle.scr_bigs.specs.Choices.{choice_of}
use Rattle.scr_bigs.specs.BigCubes.{cube_turns, turns_after, turns_made}

-- So many turns, of which the first is one of some choices. It is the one that the first accepted of the next
-- attempts gives; the turns that may follow it are the choices of the next turn, whose attempts follow in the words.
-- There are none where all attempts of a turn are refused.
unfoldable pub moves_from : ℕ → ℕ → (ℕ → ℕ) → List Turn → ℕ → ℕ → Option (List Turn)
moves_from side attempts word choices place zero = Some []
moves_from side attempts word choices place (suc more) =
    let values = attempt_values word place attempts in
    let next_place = place + 3 * numbers_read (choice_of choices) values in
    let rest = λ (turn : Turn). moves_from side attempts word (turns_after side turn) next_place more in
    option_and_then (λ turn. option_map (λ turns. turn ∷ turns) (rest turn)) (drawn (choice_of choices) values)

-- how many attempts they read
unfoldable pub attempts_read : ℕ → ℕ → (ℕ → ℕ) → List Turn → ℕ → ℕ → ℕ
attempts_read side attempts word choices place zero = 0
attempts_read side attempts word choices place (suc more) =
    let values = attempt_values word place attempts in
    let read = numbers_read (choice_of choices) values in
    let more_read = λ (turn : Turn). attempts_read side attempts word (turns_after side turn) (place + 3 * read) more in
    read + option_map_or more_read (drawn (choice_of choices) values) 0

-- The turns of a scramble, where each turn has so many attempts: at the start each turn is a choice.
abbrev pub cube_moves : ℕ → ℕ → (ℕ → ℕ) → ℕ → Option (List Turn)
cube_moves side attempts word place = moves_from side attempts word (cube_turns side) place (turns_made side)
