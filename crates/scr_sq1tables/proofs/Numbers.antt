-- Lists that are made of the numbers below one, and what is so of each of these numbers, computed over all of them;
-- lists as coordinates.
use Rattle.std.proofs.Common.{◌≡◌, ℕ, ◌+◌, ◌<◌, List, map, length, slice_index, set, Some, sym, ap, ◌∙◌, arith, get_or-set_other, get_or-set_same}
use Rattle.std.specs.Prelude.{All, slice_get, slice_index_or}
use Rattle.std.proofs.lemmas.List.{ext_get_or, get_or-map, length-map}
use Rattle.std.proofs.lemmas.Option.{slice_get-get_or}
use Rattle.scr_combinatorics.specs.Lists.{numbers_from}
use Rattle.scr_combinatorics.proofs.Picks.{numbers_from-at, length-numbers_from}
use Rattle.std.specs.Option.{option_map}
use Rattle.scr_coord.specs.Projections.{ListView, projection}
use Rattle.scr_coord.proofs.ListViews.{IsListView}
use Rattle.scr_orbit.specs.Orbits.{Orbit}
use Rattle.scr_notation.specs.declared.turn.Turn.{Turn}
use Rattle.scr_sq1tables.specs.Placed.{move_by}
use Rattle.scr_sq1tables.specs.Tables.{units_after, letters_by}

module _ {X : Type 0} (f : ℕ → X) (n : ℕ) where
  length-each : length (map f (numbers_from 0 n)) ≡ n
  length-each = length-map (numbers_from 0 n) f ∙ length-numbers_from 0 n

  pub get_or-each : (k : ℕ) (d : X) → k < n → slice_index_or (map f (numbers_from 0 n)) k d ≡ f k
  get_or-each k d lt =
      get_or-map f (numbers_from 0 n) k 0 d (omega (arith, lt, length-numbers_from 0 n))
      ∙ ap f {x = slice_index (numbers_from 0 n) k} {y = k} (omega (arith, numbers_from-at 0 n k lt))

  pub slice_get-each : (k : ℕ) → k < n → slice_get (map f (numbers_from 0 n)) k ≡ Some (f k)
  slice_get-each k lt =
      slice_get-get_or (map f (numbers_from 0 n)) k (f k) (omega (arith, lt, length-each)) ∙ ap Some (get_or-each k (f k) lt)

  -- what holds of what is made of each of them holds of the whole list
  pub All-each : (P : X → Type 0) → ((k : ℕ) → k < n → P (f k)) → All P (map f (numbers_from 0 n))
  All-each P each = grind (arith, length-each, get_or-each)

  -- a list that has it at each place is the list
  pub numbers_all : (out : List X) (d : X) → length out ≡ n → ((k : ℕ) → k < n → slice_index_or out k d ≡ f k)
      → out ≡ map f (numbers_from 0 n)
  numbers_all out d size each =
      ext_get_or d out (map f (numbers_from 0 n)) (size ∙ sym length-each) (λ k lt.
      let low : k < n = omega (arith, lt, size) in
      each k low ∙ sym (get_or-each k d low))

-- functions that agree on all numbers below one agree on each
pub at_each : {X : Type 0} (f g : ℕ → X) (n : ℕ) → map f (numbers_from 0 n) ≡ map g (numbers_from 0 n) → (k : ℕ)
    → k < n → f k ≡ g k
at_each f g n e k lt = sym (get_or-each f n k (f k) lt) ∙ ap (λ xs. slice_index_or xs k (f k)) e ∙ get_or-each g n k (f k) lt

pub at_both : {X : Type 0} (f g : ℕ → ℕ → X) (m n : ℕ)
    → map (λ i. map (f i) (numbers_from 0 n)) (numbers_from 0 m) ≡ map (λ i. map (g i) (numbers_from 0 n)) (numbers_from 0 m)
    → (i k : ℕ) → i < m → k < n → f i k ≡ g i k
at_both f g m n e i k low lt =
    at_each (f i) (g i) n (at_each (λ i. map (f i) (numbers_from 0 n)) (λ i. map (g i) (numbers_from 0 n)) m e i low) k lt

-- ---- lists that are filled place by place

-- one more is filled
pub filled_more : {A : Type 0} (f : ℕ → A) (out : List A) (n : ℕ) (x d : A) → n < length out → x ≡ f n
    → ((k : ℕ) → k < n → slice_index_or out k d ≡ f k) → (k : ℕ) → k < n + 1 → slice_index_or (set out n x) k d ≡ f k
filled_more f out n x d lt e so_far = grind (arith, get_or-set_other, get_or-set_same)

-- ---- lists as coordinates

-- where a letter leads from the number of a list
pub letter-after : (v : ListView) {IsList : List ℕ → Type 0} {IsTurn : Orbit → Type 0} → IsListView v IsList IsTurn
    → (pieces_of : List ℕ → List ℕ) (letter : ℕ → List Turn) (xs : List ℕ) → IsList xs → (t : ℕ) → t < 32
    → (projection v (letters_by pieces_of letter)).after (v.number_of xs) t
    ≡ Some (v.number_of (v.turned xs (move_by (pieces_of (units_after letter t)))))
letter-after v l pieces_of letter xs h t lt =
    ap (option_map (λ r. v.number_of (v.turned (v.list_at (v.number_of xs)) r))) (slice_get-each (λ n. move_by (pieces_of (units_after letter n))) 32 t lt)
    ∙ ap (λ ys. Some (v.number_of (v.turned ys (move_by (pieces_of (units_after letter t)))))) (l.one_to_one.state_again xs h)
