use Rattle.std.proofs.Common.{◌≡◌, ◌+◌, ◌<◌, ◌≤◌, All, drop, length, map}
use Rattle.scr_combinatorics.specs.Tidy.{tidy}
use Rattle.scr_notation.specs.TurnNumbers.{turn_at, turn_count}
use Rattle.scr_notation.specs.Turning.{turn_merging}
use Rattle.scr_notation.proofs.TidyingLaws.{turns_of}
use Rattle.scr_notation.proofs.numbered_word.NumberedWord.tidied.Given as goal

abbrev pub invariant-loop-place : goal.invariant-loop-place
invariant-loop-place l =
    let numbers = l.self-inside.numbers.items in
    (turns_of l.kind l.numbers.items ≡ tidy turn_merging (map (turn_at l.kind) (drop l.place numbers)))
    × All (λ n. n < turn_count l.kind) l.numbers.items × (length l.numbers.items + l.place ≤ length numbers)
