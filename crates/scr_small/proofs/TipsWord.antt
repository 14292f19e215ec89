-- The word of tips, tip by tip.
use Rattle.std.proofs.Common.{◌≡◌, ℕ, zero, suc, ◌+◌, ◌==◌, Bool, true, false, if◌then◌else◌, List, [], ◌∷◌, ◌++◌, length, drop, get_or, refl, sym, ap, ◌∙◌, arith, add-one}
use Rattle.std.specs.List.{flat_map, range_with_len}
use Rattle.std.proofs.Math.Seq.{drop-cons}
use Rattle.std.proofs.Math.ListN.{drop_of_length-le}
use Rattle.scr_notation.specs.declared.turn.Turn.{Turn}
use Rattle.scr_notation.specs.declared.turn.Turn.TheVariants.{Tip}
use Rattle.scr_tetra.specs.PyramParts.{tips_word}

-- the turns of these tips, of which the first one is this
abbrev pub tips_word_from : ℕ → List ℕ → List Turn
tips_word_from tip [] = []
tips_word_from tip (d ∷ ds) =
    if d == 0 then tips_word_from (tip + 1) ds else Tip tip d ∷ tips_word_from (tip + 1) ds

-- the turn of one tip, if it stands turned
abbrev turn_of : List ℕ → ℕ → List Turn
turn_of tips k = if get_or tips k 0 == 0 then [] else Tip k (get_or tips k 0) ∷ []

with_first : (still : Bool) (t : Turn) (w : List Turn)
    → (if still then w else t ∷ w) ≡ (if still then [] else t ∷ []) ++ w
with_first true t w = refl
with_first false t w = refl

from_place : (tips : List ℕ) (n k : ℕ) → k + n ≡ length tips
    → tips_word_from k (drop k tips) ≡ flat_map (turn_of tips) (range_with_len k n)
from_place tips zero k e = ap (tips_word_from k) (drop_of_length-le tips {i = k} (omega arith))
from_place tips (suc n) k e =
    ap (tips_word_from k) (drop-cons tips k 0 (omega arith))
    ∙ with_first (get_or tips k 0 == 0) (Tip k (get_or tips k 0)) (tips_word_from (k + 1) (drop (suc k) tips))
    ∙ ap (λ j. turn_of tips k ++ tips_word_from (k + 1) (drop j tips)) (sym (add-one k))
    ∙ ap (λ w. turn_of tips k ++ w) (from_place tips n (k + 1) (omega arith))

pub tips_word-from_first : (tips : List ℕ) → tips_word_from 0 tips ≡ tips_word tips
unfolding tips_word
tips_word-from_first tips = from_place tips (length tips) 0 (omega arith)
