-- Laws of the moves of a Megaminx, of what each does to all stickers.
use Rattle.std.proofs.Common.{◌≡◌, ℕ, zero, suc, ◌<◌, true, false, IsTrue, List, [], ◌∷◌, Some, length, refl, sym, ap, ◌∙◌, subst, arith}
use Rattle.std.specs.Prelude.{All, not, slice_get}
use Rattle.std.specs.List.{AllPass, list_all, range_with_len}
use Rattle.std.specs.Str.{bytes_eq}
use Rattle.std.specs.Option.{option_map}
use Rattle.std.proofs.lemmas.List.Elements.{All-head, All-tail}
use Rattle.std.proofs.lemmas.Option.{same_Some}
use Rattle.std.proofs.lemmas.Slice.Eq.{bytes_eq-Decides}
use Rattle.scr_combinatorics.specs.Back.{back}
use Rattle.scr_combinatorics.specs.Lists.{IsRearranged, numbers_from, pick}
use Rattle.scr_combinatorics.specs.Permutations.{IsPermutation}
use Rattle.scr_combinatorics.specs.Play.{play}
use Rattle.scr_combinatorics.specs.PowerLetters.{Power}
use Rattle.scr_combinatorics.proofs.BackLaws.{back-first}
use Rattle.scr_combinatorics.proofs.PermutationLaws.{IsPermutation-from_test, IsRearranged-pick, All-permutation}
use Rattle.scr_combinatorics.proofs.Picks.{length-pick, pick-in_order, pick-pick}
use Rattle.scr_combinatorics.proofs.PlayLaws.{and_then-some, map-some, play-append, play-empty, play-one, play-parts}
use Rattle.scr_orbit.proofs.Orders.{each_at}
use Rattle.scr_notation.specs.declared.event.Event.TheVariants.{Minx}
use Rattle.scr_notation.specs.declared.turn.Turn.{Turn}
use Rattle.scr_notation.specs.declared.turn.Turn.TheVariants.{Wide}
use Rattle.scr_notation.specs.Turning.{opposite}
use Rattle.scr_notation.specs.Turns.{permits}
use Rattle.std.proofs.lemmas.Bool.{false≢true}
use Rattle.scr_picture.specs.declared.tables.TheConstants.{MINX_MOVES}
use Rattle.scr_picture.specs.Stickers.{sources, move_of, moved_times, stickers_after}
use Rattle.scr_net.proofs.PieceLaws.{passes}
use Rattle.scr_picture.specs.Megaminx.{minx_moves, solved_minx}

-- ---- moves that are permutations

module _ (n : ℕ) (from : List ℕ) (is : IsPermutation n from) where
  length-moved : (times : ℕ) (letters : List ℕ) → length letters ≡ n → length (moved_times times from letters) ≡ n
  unfolding moved_times
  length-moved zero letters e = e
  length-moved (suc k) letters e = length-moved k (pick letters from) (length-pick letters from ∙ is.size)

  -- letters are moved as the numbers of their places are
  moved-numbers : (times : ℕ) (letters places : List ℕ) → length places ≡ n
      → moved_times times from (pick letters places) ≡ pick letters (moved_times times from places)
  unfolding moved_times
  moved-numbers zero letters places e = refl
  moved-numbers (suc k) letters places e =
      let below = subst (λ m. All (λ l. l < m) from) (sym e) (All-permutation n from is) in
      ap (moved_times k from) (pick-pick letters places from below)
      ∙ moved-numbers k letters (pick places from) (length-pick places from ∙ is.size)

  pub moved-whole : (times : ℕ) (letters : List ℕ) → length letters ≡ n
      → moved_times times from (numbers_from 0 n) ≡ numbers_from 0 n → length (numbers_from 0 n) ≡ n
      → moved_times times from letters ≡ letters
  moved-whole times letters e whole size =
      let all : pick letters (numbers_from 0 n) ≡ letters = ap (λ m. pick letters (numbers_from 0 m)) (sym e) ∙ pick-in_order letters in
      ap (moved_times times from) (sym all) ∙ moved-numbers times letters (numbers_from 0 n) size ∙ ap (pick letters) whole ∙ all

  pub moved-kept : (times : ℕ) (letters : List ℕ) → length letters ≡ n
      → IsRearranged (moved_times times from letters) letters
  unfolding moved_times
  moved-kept zero letters e x = refl
  moved-kept (suc k) letters e x =
      moved-kept k (pick letters from) (length-pick letters from ∙ is.size) x
      ∙ IsRearranged-pick letters from (subst (λ m. IsPermutation m from) (sym e) is) x

-- ---- the three moves

pub record IsFifth (k : ℕ) (from : List ℕ) : Type 0 where
  pub permutation : IsPermutation 132 from
  pub five : moved_times 5 from (numbers_from 0 132) ≡ numbers_from 0 132
  pub fewer : list_all (λ n. not (bytes_eq (moved_times (suc n) from solved_minx) solved_minx)) (range_with_len 0 4) ≡ true

fifths_of_table : (k : ℕ) (from : List ℕ) → slice_get MINX_MOVES k ≡ Some from → IsFifth k from
unfolding moved_times solved_minx
fifths_of_table = each_at IsFifth MINX_MOVES (
  record { permutation = IsPermutation-from_test 132 _ refl; five = refl; fewer = refl },
  (
    record { permutation = IsPermutation-from_test 132 _ refl; five = refl; fewer = refl },
    (record { permutation = IsPermutation-from_test 132 _ refl; five = refl; fewer = refl }, tt),
  ),
)

the_moves : minx_moves ≡ MINX_MOVES
unfolding minx_moves sources
the_moves = refl

fifths : (k : ℕ) (from : List ℕ) → slice_get minx_moves k ≡ Some from → IsFifth k from
fifths k from e = fifths_of_table k from (ap (λ m. slice_get m k) (sym the_moves) ∙ e)

pub five_times : (k : ℕ) (from letters : List ℕ) → slice_get minx_moves k ≡ Some from → length letters ≡ 132
    → moved_times 5 from letters ≡ letters
five_times k from letters e size =
    let fifth = fifths k from e in
    moved-whole 132 from fifth.permutation 5 letters size fifth.five refl

pub not_fewer : (k n : ℕ) (from : List ℕ) → slice_get minx_moves k ≡ Some from → 0 < n → n < 5
    → moved_times n from solved_minx ≡ solved_minx → ⊥
not_fewer k zero from there more few e = absurd (omega arith)
not_fewer k (suc n) from there more few e =
    let moved = moved_times (suc n) from solved_minx in
    let other = passes (λ n. not (bytes_eq (moved_times (suc n) from solved_minx) solved_minx)) 4 (fifths k from there).fewer n (omega arith) in
    let same : bytes_eq moved solved_minx ≡ true = (bytes_eq-Decides moved solved_minx).1 e in
    false≢true (ap not (sym same) ∙ other)

-- ---- turns

-- the move that a turn makes
record IsMade (letters r : List ℕ) (t : Turn) : Type 0 where
  power : Power
  from : List ℕ
  move : move_of t ≡ Some power
  there : slice_get minx_moves power.generator ≡ Some from
  gives : moved_times power.exponent from letters ≡ r

made : (letters r : List ℕ) (t : Turn) → stickers_after minx_moves letters t ≡ Some r → IsMade letters r t
made letters r t e =
    let read = and_then-some (λ m. option_map (λ from. moved_times m.exponent from letters) (slice_get minx_moves m.generator)) (move_of t) r e in
    let found = map-some (λ from. moved_times read.0.exponent from letters) (slice_get minx_moves read.0.generator) r read.2 in
    record { power = read.0; from = found.0; move = read.1; there = found.1; gives = found.2 }

pub turn-kept : (t : Turn) (letters r : List ℕ) → length letters ≡ 132 → stickers_after minx_moves letters t ≡ Some r
    → IsRearranged r letters
turn-kept t letters r size e =
    let m = made letters r t e in
    let fifth = fifths m.power.generator m.from m.there in
    subst (λ x. IsRearranged x letters) m.gives (moved-kept 132 m.from fifth.permutation m.power.exponent letters size)

length-turned : (t : Turn) (letters r : List ℕ) → length letters ≡ 132 → stickers_after minx_moves letters t ≡ Some r
    → length r ≡ 132
length-turned t letters r size e =
    let m = made letters r t e in
    let fifth = fifths m.power.generator m.from m.there in
    ap length (sym m.gives) ∙ length-moved 132 m.from fifth.permutation m.power.exponent letters size

-- a turn and its opposite are five of a move
module _ (k : ℕ) (from letters : List ℕ) (there : slice_get minx_moves k ≡ Some from) (size : length letters ≡ 132) where
  by_move : (times : ℕ) (other : List ℕ) → option_map (λ from. moved_times times from other) (slice_get minx_moves k) ≡ Some (moved_times times from other)
  by_move times other = ap (option_map (λ from. moved_times times from other)) there

  back-plus : (r : List ℕ) → moved_times 1 from letters ≡ r → stickers_after minx_moves r (Wide k false) ≡ Some letters
  unfolding moved_times
  back-plus r e = by_move 4 r ∙ ap (λ x. Some (moved_times 4 from x)) (sym e) ∙ ap Some (five_times k from letters there size)

  back-minus : (r : List ℕ) → moved_times 4 from letters ≡ r → stickers_after minx_moves r (Wide k true) ≡ Some letters
  unfolding moved_times
  back-minus r e = by_move 1 r ∙ ap (λ x. Some (moved_times 1 from x)) (sym e) ∙ ap Some (five_times k from letters there size)

undone : (t : Turn) (letters r : List ℕ) → IsTrue (permits Minx t) → length letters ≡ 132
    → stickers_after minx_moves letters t ≡ Some r → stickers_after minx_moves r (opposite t) ≡ Some letters
undone (Wide k true) letters r is size e =
    let found = map-some (λ from. moved_times 1 from letters) (slice_get minx_moves k) r e in
    back-plus k found.0 letters found.1 size r found.2
undone (Wide k false) letters r is size e =
    let found = map-some (λ from. moved_times 4 from letters) (slice_get minx_moves k) r e in
    back-minus k found.0 letters found.1 size r found.2
undone _ letters r is size e = absurd (false≢true is)

pub taken_back : (w : List Turn) (letters r : List ℕ) → AllPass (permits Minx) w → length letters ≡ 132
    → play (stickers_after minx_moves) letters w ≡ Some r
    → play (stickers_after minx_moves) r (back opposite w) ≡ Some letters
taken_back [] letters r all size e =
    play-empty (stickers_after minx_moves) r
    ∙ ap Some (same_Some r letters (sym e ∙ play-empty (stickers_after minx_moves) letters))
taken_back (t ∷ w) letters r all size e =
    let parts = play-parts (stickers_after minx_moves) letters r t w e in
    ap (play (stickers_after minx_moves) r) (back-first opposite t w)
    ∙ play-append (stickers_after minx_moves) r parts.0 (back opposite w) (opposite t ∷ [])
    (taken_back w parts.0 r (All-tail (λ u. IsTrue (permits Minx u)) t w all) (length-turned t letters parts.0 size parts.1) parts.2)
    ∙ play-one (stickers_after minx_moves) parts.0 (opposite t)
    ∙ undone t letters parts.0 (All-head (λ u. IsTrue (permits Minx u)) t w all) size parts.1
