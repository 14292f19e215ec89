-- What a table's entries count, as what the positions of its line have.
use Rattle.std.proofs.Common.{◌≡◌, ℕ, zero, suc, ◌+◌, ◌<◌, ◌≤◌, Bool, true, false, cond, List, [], ◌∷◌, length, get_or, take, inl, inr, refl, sym, ap, ◌∙◌, subst, arith, add-one, add-zero}
use Rattle.std.specs.Prelude.{◌==◌, All, count_by, slice_index}
use Rattle.std.proofs.Math.Seq.{take-length}
use Rattle.std.proofs.lemmas.List.{get_or-take, length-take-le}
use Rattle.std.proofs.lemmas.Bool.{eq-eqb, eqb-true, cases_lt}
use Rattle.std.proofs.lemmas.List.Sums.{count_by_more_yes, count_by_more_no, get_or-le-sum_by}
use Rattle.std.proofs.lemmas.List.Elements.{All-get_or, All-from_get_or}
use Rattle.scr_positions.specs.Coordinates.{Coordinate, moved, IsGoal}
use Rattle.scr_combinatorics.specs.FirstWord.{IsDistance}
use Rattle.scr_combinatorics.proofs.FirstWordLaws.{IsDistance-unique}
use Rattle.scr_draw.specs.Count.{count_below}
use Rattle.scr_table.specs.Distances.{Distances, Measures}
use Rattle.scr_table.specs.Lines.{TableLine}
use Rattle.scr_table.specs.SearchTables.{IsAtDistance}
use Rattle.scr_table.specs.TableStates.{by_positions}
use Rattle.scr_table_text.specs.TableText.{AreCounts, IsTableText}
use Rattle.scr_table_text.specs.Counted.{AreEntryCounts, counted_text}

-- how many of the first n elements pass is how many of the places below n have one that does
count_below-entries : (p : ℕ → Bool) (xs : List ℕ) (n : ℕ) → n ≤ length xs
    → count_below (λ k. p (slice_index xs k)) n ≡ count_by p (take n xs)
unfolding count_below
count_below-entries p xs zero le = refl
count_below-entries p xs (suc n) le =
    let before = count_below-entries p xs n (omega arith) in
    let there : n < length xs = omega arith in
    at (p (slice_index xs n)) refl before there
  where
    at : (b : Bool) → p (slice_index xs n) ≡ b → count_below (λ k. p (slice_index xs k)) n ≡ count_by p (take n xs)
        → n < length xs
        → count_below (λ k. p (slice_index xs k)) n + cond (p (slice_index xs n)) 1 0 ≡ count_by p (take (suc n) xs)
    at true is before there =
        ap (λ b. count_below (λ k. p (slice_index xs k)) n + cond b 1 0) is ∙ ap (λ m. m + 1) before
        ∙ sym (count_by_more_yes p xs n 0 there is) ∙ ap (λ m. count_by p (take m xs)) (add-one n)
    at false is before there =
        ap (λ b. count_below (λ k. p (slice_index xs k)) n + cond b 1 0) is ∙ add-zero _ ∙ before
        ∙ sym (count_by_more_no p xs n 0 there is) ∙ ap (λ m. count_by p (take m xs)) (add-one n)

-- the counts of a table's entries are those of its line's positions
pub AreCounts-measured : (line : TableLine) (table : Distances) (counts : List ℕ) → Measures line.coordinate table
    → AreEntryCounts table.distances counts → AreCounts (by_positions line) counts
AreCounts-measured line table counts measures entries =
    let c : Coordinate = line.coordinate in
    let size = measures.positions in
    let same : (p d : ℕ) → p < c.count → IsAtDistance (by_positions line) p d → slice_index table.distances p ≡ d =
    λ p d below at. IsDistance-unique (moved c) (IsGoal c) p (slice_index table.distances p) d (measures.exact p below)
    (subst (λ q. IsDistance (moved c) (IsGoal c) q d) at.number at.so) in
    record {
      counted = λ d lt. record {
        test = λ p. slice_index table.distances p == d;
        tells = λ p below. (
          λ h. record {
            state = p;
            valid = below;
            number = refl;
            so = subst (λ e. IsDistance (moved c) (IsGoal c) p e) (eqb-true (slice_index table.distances p) d h) (measures.exact p below);
          },
          λ at. eq-eqb (slice_index table.distances p) d (same p d below at),
        );
        counted = count_below-entries (λ e. e == d) table.distances c.count (omega (arith, size))
            ∙ ap (λ n. count_by (λ e. e == d) (take n table.distances)) (sym size)
            ∙ ap (count_by (λ e. e == d)) (take-length table.distances)
            ∙ sym (entries.counted d lt);
      };
      each = λ p d at.
          let below : p < c.count = subst (λ q. q < c.count) at.number at.valid in
          subst (λ e. e < length counts) (same p d below at)
          (All-get_or (λ e. e < length counts) table.distances p 0 (omega (arith, size, below)) entries.each);
      greatest = entries.greatest;
    }

-- the text of a table that measures a coordinate
pub IsTableText-measured : (line : TableLine) (table : Distances) (counts : List ℕ) → Measures line.coordinate table
    → table.name ≡ line.name → table.bound ≡ line.bound → AreEntryCounts table.distances counts
    → IsTableText (by_positions line) (counted_text table counts)
IsTableText-measured line table counts measures name bound entries = record {
  counts = counts;
  are = AreCounts-measured line table counts measures entries;
  is = rw (name, bound, measures.positions) refl;
}

-- ---- the counts that are told

-- an entry is counted at its own distance
counted-some : (entries : List ℕ) (i : ℕ) → i < length entries → 1 ≤ count_by (λ e. e == get_or entries i 0) entries
counted-some entries i there =
    let own = ap {B = ℕ} (λ b. cond b 1 0) (eq-eqb (get_or entries i 0) (get_or entries i 0) refl) in
    omega (arith, own, get_or-le-sum_by (λ e. cond (e == get_or entries i 0) 1 0) entries i 0 there)

-- of the counts at all distances below m those up to the last that isn't 0
pub AreEntryCounts-first : (entries counts : List ℕ) (m n : ℕ) → n ≤ m → length counts ≡ m → All (λ e. e < m) entries
    → ((d : ℕ) → d < m → slice_index counts d ≡ count_by (λ e. e == d) entries)
    → ((d : ℕ) → n ≡ d + 1 → 0 < slice_index counts d) → ((d : ℕ) → n ≤ d → d < m → slice_index counts d ≡ 0)
    → AreEntryCounts entries (take n counts)
AreEntryCounts-first entries counts m n few size all counted last behind =
    let lines : length (take n counts) ≡ n = length-take-le n counts (omega (arith, size)) in
    record {
      counted = λ d lt. get_or-take n counts d 0 (omega (arith, lines, lt)) ∙ counted d (omega (arith, lines, lt));
      each = All-from_get_or (λ e. e < length (take n counts)) entries 0 (λ i there.
          elim (cases_lt (get_or entries i 0) n) [
            | inl lt ↦ omega (arith, lines, lt)
            | inr le ↦
                let small = All-get_or (λ e. e < m) entries i 0 there all in
                absurd (omega (arith, counted-some entries i there, counted (get_or entries i 0) small, behind (get_or entries i 0) le small))
          ]);
      greatest = λ d is. subst (λ c. 0 < c) (sym (get_or-take n counts d 0 (omega (arith, lines, is)))) (last d (sym lines ∙ is));
    }

-- the last number below m where f isn't 0, and one more
record IsLastSome (f : ℕ → ℕ) (m n : ℕ) : Type 0 where
  few : n ≤ m
  last : (d : ℕ) → n ≡ d + 1 → 0 < f d
  behind : (d : ℕ) → n ≤ d → d < m → f d ≡ 0

last_some : (f : ℕ → ℕ) (m : ℕ) → (n : ℕ) × IsLastSome f m n
last_some f zero = (0, record { few = omega arith; last = λ d is. absurd (omega arith); behind = λ d le lt. absurd (omega arith) })
last_some f (suc m) =
    elim (cases_lt 0 (f m)) [
      | inl some ↦ (
        suc m,
        record {
          few = omega arith;
          last = λ d is. subst (λ k. 0 < f k) (let same : m ≡ d = omega arith in same) some;
          behind = λ d le lt. absurd (omega arith);
        },
      )
      | inr none ↦
          let before = last_some f m in (
            before.0,
            record {
              few = omega (arith, before.1.few);
              last = before.1.last;
              behind = λ d le lt.
                  elim (cases_lt d m) [
                    | inl less ↦ before.1.behind d le less
                    | inr here ↦ let same : m ≡ d = omega arith in subst (λ k. f k ≡ 0) same (let zero_here : f m ≡ 0 = omega arith in zero_here)
                  ];
            },
          )
    ]

-- the table of a function
values_from : (ℕ → ℕ) → ℕ → ℕ → List ℕ
values_from f start zero = []
values_from f start (suc m) = f start ∷ values_from f (suc start) m

length-values : (f : ℕ → ℕ) (start m : ℕ) → length (values_from f start m) ≡ m
unfolding values_from
length-values f start zero = refl
length-values f start (suc m) = ap suc (length-values f (suc start) m)

values-at : (f : ℕ → ℕ) (start m d : ℕ) → d < m → slice_index (values_from f start m) d ≡ f (start + d)
unfolding values_from
values-at f start zero d lt = absurd (omega arith)
values-at f start (suc m) zero lt = ap f (let same : start ≡ start + 0 = omega arith in same)
values-at f start (suc m) (suc d) lt =
    values-at f (suc start) m d (omega arith) ∙ ap f (let same : suc start + d ≡ start + suc d = omega arith in same)

-- the entries of a table are counted by some counts
pub counts_of-entries : (line : TableLine) (table : Distances) → Measures line.coordinate table
    → (counts : List ℕ) × AreEntryCounts table.distances counts
counts_of-entries line table measures =
    let m = suc table.bound in
    let f : ℕ → ℕ = λ d. count_by (λ e. e == d) table.distances in
    let last = last_some f m in
    let same : (d : ℕ) → d < m → slice_index (values_from f 0 m) d ≡ f d = λ d lt. values-at f 0 m d lt ∙ ap f (let zero_first : 0 + d ≡ d = omega arith in zero_first) in
    let below : All (λ e. e < m) table.distances = All-from_get_or (λ e. e < m) table.distances 0 (λ i there.
    omega (arith, measures.within i (omega (arith, measures.positions, there)))) in (
      take last.0 (values_from f 0 m),
      AreEntryCounts-first table.distances (values_from f 0 m) m last.0 last.1.few (length-values f 0 m) below same
          (λ d is. subst (λ k. 0 < k) (sym (same d (omega (arith, last.1.few, is)))) (last.1.last d is))
          (λ d le lt. same d lt ∙ last.1.behind d le lt),
    )
