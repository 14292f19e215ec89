-- The words of a Pyraminx by parts: its large turns, which alone move the body, and the turns of its tips.
use Rattle.std.specs.Prelude.{ℕ, ◌+◌, ◌==◌, if◌then◌else◌, List, [], ◌∷◌, length, slice_index}
use Rattle.std.specs.List.{flat_map, range_with_len}
use Rattle.scr_notation.specs.declared.turn.Turn.{Turn}
use Rattle.scr_notation.specs.declared.turn.Turn.TheVariants.{Tip}

-- A word without its turns of tips.
abbrev pub large_turns : List Turn → List Turn
large_turns [] = []
large_turns (Tip tip amount ∷ w) = large_turns w
large_turns (t ∷ w) = t ∷ large_turns w

-- How many turns of tips it has.
abbrev pub tip_turn_count : List Turn → ℕ
tip_turn_count [] = 0
tip_turn_count (Tip tip amount ∷ w) = 1 + tip_turn_count w
tip_turn_count (t ∷ w) = tip_turn_count w

-- How many tips stand turned.
abbrev pub turned_count : List ℕ → ℕ
turned_count [] = 0
turned_count (d ∷ ds) = (if d == 0 then 0 else 1) + turned_count ds

-- The turns that bring solved tips to these digits: in the order u l r b, by one third where the digit is 1, by two
-- where it is 2, and none where it is 0.
unfoldable pub tips_word : List ℕ → List Turn
tips_word tips =
    flat_map (λ k. let d = slice_index tips k in if d == 0 then [] else Tip k d ∷ []) (range_with_len 0 (length tips))
