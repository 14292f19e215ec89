-- What a move table holds, as the coordinate that it was made of.
use Rattle.std.proofs.Common.{◌≡◌, ℕ, zero, suc, ◌+◌, ◌*◌, ◌^◌, ◌<◌, ◌≤◌, Bool, false, cond, List, [], ◌∷◌, ◌++◌, length, slice_index, Option, Some, None, refl, sym, ap, ◌∙◌, arith, inl, inr, add-one, append_assoc}
use Rattle.std.specs.Prelude.{slice_index_or, unwrap_or}
use Rattle.std.proofs.lemmas.Bool.{cases_eq, le-ltb, lt-ltb}
use Rattle.std.proofs.lemmas.Nat.{mul-add-lt}
use Rattle.std.proofs.lemmas.List.{get_or_append_left, get_or-append-add, length-append}
use Rattle.scr_positions.specs.Coordinates.{Coordinate, StaysBelow, target}
use Rattle.scr_positions.specs.declared.coordinate.TheConstants.{BARRED}
use Rattle.scr_positions.specs.SearchSpaces.{ShowsSame}
use Rattle.scr_positions.specs.Moves.{position_below, moves_coordinate, each_below, moves_row}

-- the targets of the first n turns
unfoldable pub rows_of : Coordinate → ℕ → List ℕ
rows_of c zero = []
rows_of c (suc n) = rows_of c n ++ moves_row c n c.count

pub each_below-more : {X : Type 0} (f : ℕ → X) (n : ℕ) → each_below f (n + 1) ≡ each_below f n ++ f n ∷ []
unfolding each_below
each_below-more f n = rw add-one

pub rows_of-more : (c : Coordinate) (n : ℕ) → rows_of c (n + 1) ≡ rows_of c n ++ moves_row c n c.count
unfolding rows_of
rows_of-more c n = rw add-one

pub length-each_below : {X : Type 0} (f : ℕ → X) (n : ℕ) → length (each_below f n) ≡ n
unfolding each_below
length-each_below f zero = refl
length-each_below f (suc n) = length-append (each_below f n) (f n ∷ []) ∙ omega (arith, length-each_below f n)

pub each_below-at : {X : Type 0} (f : ℕ → X) (n k : ℕ) (d : X) → k < n → slice_index_or (each_below f n) k d ≡ f k
unfolding each_below
each_below-at f zero k d lt = absurd (omega arith)
each_below-at f (suc n) k d lt =
    elim (cases_eq k n) [
      | inl e ↦
          let last : k ≡ length (each_below f n) + 0 = omega (arith, e, length-each_below f n) in
          ap (λ i. slice_index_or (each_below f n ++ f n ∷ []) i d) last
          ∙ get_or-append-add (each_below f n) (f n ∷ []) 0 d ∙ ap f (sym e)
      | inr other ↦
          get_or_append_left (each_below f n) (f n ∷ []) d k (omega (arith, length-each_below f n))
          ∙ each_below-at f n k d (omega arith)
    ]

pub length-rows_of : (c : Coordinate) (n : ℕ) → length (rows_of c n) ≡ n * c.count
unfolding rows_of
length-rows_of c zero = omega arith
length-rows_of c (suc n) =
    length-append (rows_of c n) (moves_row c n c.count)
    ∙ omega (arith, length-rows_of c n, length-each_below (λ p. target c p n) c.count)

-- each entry stands at its place
rows_of-at : (c : Coordinate) (n t p : ℕ) → t < n → p < c.count
    → slice_index (rows_of c n) (t * c.count + p) ≡ target c p t
unfolding rows_of
rows_of-at c zero t p lt at = absurd (omega arith)
rows_of-at c (suc n) t p lt at =
    elim (cases_eq t n) [
      | inl e ↦
          let last : t * c.count + p ≡ length (rows_of c n) + p = omega (arith, ap (λ k. k * c.count) e, length-rows_of c n) in
          ap (λ i. slice_index (rows_of c n ++ moves_row c n c.count) i) last
          ∙ get_or-append-add (rows_of c n) (moves_row c n c.count) p 0
          ∙ each_below-at (λ p. target c p n) c.count p 0 at
          ∙ ap (λ k. target c p k) (sym e)
      | inr other ↦
          let before : t < n = omega arith in
          let within : t * c.count + p < length (rows_of c n) = omega (arith, mul-add-lt t c.count p n before at, length-rows_of c n) in
          get_or_append_left (rows_of c n) (moves_row c n c.count) 0 (t * c.count + p) within
          ∙ rows_of-at c n t p before at
    ]

-- the first entries: none
pub row_of-none : (c : Coordinate) (t : ℕ) → moves_row c t 0 ≡ []
unfolding each_below
row_of-none c t = refl

pub rows_of-none : (c : Coordinate) → rows_of c 0 ≡ []
unfolding rows_of
rows_of-none c = refl

pub each_below-none : {X : Type 0} (f : ℕ → X) → each_below f 0 ≡ []
unfolding each_below
each_below-none f = refl

-- one more entry behind those of a row
pub row_more : (c : Coordinate) (t p entry : ℕ) (before now new : List ℕ) → now ≡ before ++ moves_row c t p
    → entry ≡ target c p t → new ≡ now ++ entry ∷ [] → new ≡ before ++ moves_row c t (p + 1)
row_more c t p entry before now new kept e pushed =
    pushed ∙ ap (λ xs. xs ++ entry ∷ []) kept ∙ append_assoc before (moves_row c t p) (entry ∷ [])
    ∙ ap (λ k. before ++ (moves_row c t p ++ k ∷ [])) e ∙ ap (λ xs. before ++ xs) (sym (each_below-more (λ p. target c p t) p))

-- an entry is read as it was written
position-read : (count : ℕ) (o : Option ℕ) → count ≤ BARRED → ((q : ℕ) → o ≡ Some q → q < count)
    → position_below count (unwrap_or o BARRED) ≡ o
position-read count None small below = ap (λ b. cond b (Some BARRED) None) (le-ltb BARRED count small)
position-read count (Some q) small below = ap (λ b. cond b (Some q) None) (lt-ltb q count (below q refl))

-- A table with all rows shows the same.
pub ShowsSame-built : (c : Coordinate) (count turns : ℕ) (targets : List ℕ) (goals : List Bool) → StaysBelow c
    → count ≡ c.count → turns ≡ c.turns → count < 2 ^ 32 → targets ≡ rows_of c turns
    → goals ≡ each_below c.is_goal c.count
    → ShowsSame c (moves_coordinate (record { count = count; turns = turns; targets = targets; goals = goals }))
ShowsSame-built c count turns targets goals law e f small is are = record {
  count = e;
  turns = f;
  after = λ p t at turn.
      ap (λ k. position_below count (slice_index targets (t * k + p))) e
      ∙ ap (λ xs. position_below count (slice_index xs (t * c.count + p))) is
      ∙ ap (position_below count) (rows_of-at c turns t p (omega arith) at)
      ∙ position-read count (c.after p t) (omega arith) (λ q h. omega (arith, law p t q at turn h));
  is_goal = λ p at. ap (λ xs. slice_index_or xs p false) are ∙ each_below-at c.is_goal c.count p false at;
}
