-- Lines of a text, and what stands behind a front.
use Rattle.std.proofs.Common.{◌≡◌, ℕ, zero, suc, ◌+◌, ◌-◌, ◌==◌, ◌||◌, ◌<◌, ◌≤◌, Bool, false, cond, List, [], ◌∷◌, ◌++◌, length, take, drop, get_or, Some, None, refl, ap, ◌∙◌, arith, drop-cons, length-drop}
use Rattle.std.specs.Prelude.{position, nat_lt}
use Rattle.std.specs.List.{IsSplitAt, list_any, position_or_len}
use Rattle.std.proofs.lemmas.List.{take_all, take-append-le, take-append-drop}
use Rattle.std.proofs.lemmas.List.Quantifiers.{position-Some}
use Rattle.std.proofs.lemmas.List.Sums.{fails_before_first}
use borrow.Author.Tests.{eqb-true}
use Rattle.scr_text.specs.Lines.{is_line_feed}
use Rattle.scr_read.specs.Faults.{IsOneLine}

-- a text that is cut behind as many bytes as a front has begins with it where that part is the front
pub front_before : (front text begin behind : List ℕ) → IsSplitAt text (length front) begin behind → begin ≡ front
    → text ≡ front ++ behind
front_before front text begin behind split same = grind (arith, take-append-drop)

pub no_front_before : (front text begin behind other : List ℕ) → IsSplitAt text (length front) begin behind
    → text ≡ front ++ other → (begin ≡ front → ⊥) → ⊥
no_front_before front text begin behind other split is differs = grind (arith, take-append-le, take_all)

-- none of the first bytes is a line feed
one_line-front : (text : List ℕ) (n : ℕ) → ((k : ℕ) → k < n → is_line_feed (get_or text k 0) ≡ false) → n ≤ length text
    → IsOneLine (take n text)
one_line-front text zero none few = refl
one_line-front [] (suc n) none few = refl
one_line-front (byte ∷ text) (suc n) none few =
    let first : (byte == 10) ≡ false = none 0 (omega arith) in
    let behind : (k : ℕ) → k < n → is_line_feed (get_or text k 0) ≡ false = λ k below. none (suc k) (omega (arith, below)) in
    ap (λ b. b || list_any (λ x. x == 10) (take n text)) first ∙ one_line-front text n behind (omega (arith, few))

-- the first line feed cuts off a line
pub first_cut : (text : List ℕ) (end : ℕ) → position is_line_feed text ≡ Some end
    → (text ≡ take end text ++ 10 ∷ take (length text - (end + 1)) (drop (end + 1) text)) × IsOneLine (take end text)
first_cut text end found =
    let it = position-Some is_line_feed text end 0 found in
    let byte : get_or text end 0 ≡ 10 = eqb-true (get_or text end 0) 10 it.1 in
    let size : length (drop (end + 1) text) ≤ length text - (end + 1) = omega (arith, length-drop (end + 1) text) in
    let next : end + 1 ≡ suc end = omega arith in
    grind (arith, take_all, size, take-append-drop, drop-cons, it, byte, next, one_line-front)

found_at : (size place : ℕ) (b : Bool) → nat_lt place size ≡ b → cond b (Some place) None ≡ None → size ≤ place
found_at size place b h0 h1 = grind arith

pub no_cut : (text : List ℕ) → position is_line_feed text ≡ None → IsOneLine text
no_cut text none =
    let past = found_at (length text) (position_or_len is_line_feed text) (nat_lt (position_or_len is_line_feed text) (length text)) refl none in
    grind (arith, take_all (length text) text (omega arith), one_line-front, fails_before_first, past)
