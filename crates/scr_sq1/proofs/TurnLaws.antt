-- Turns of the layers that are not barred, and twists, keep states valid.
use Rattle.std.proofs.lemmas.Bool.Decides.{nat_tests}
use Rattle.std.proofs.Common.{◌≡◌, ℕ, suc, ◌-◌, ◌%◌, ◌<◌, inl, inr, IsTrue, List, length, slice_index, sym, ap, ◌∙◌, subst, arith}
use Rattle.std.specs.Prelude.{◌||◌, ◌==◌, Bool}
use Rattle.scr_combinatorics.specs.Lists.{occurrences, pick}
use Rattle.scr_combinatorics.specs.Permutations.{IsPermutation}
use Rattle.scr_combinatorics.proofs.Picks.{length-pick, pick-at}
use Rattle.scr_combinatorics.proofs.PermutationLaws.{IsRearranged-pick, at-permutation}
use Rattle.scr_sq1.specs.Units.{Sq1State, IsSq1, is_corner, is_open, turn_places, twist_places}
use Rattle.scr_sq1.proofs.InHalves.{InHalves-valid, IsSq1-halves, IsPutTogether-valid, IsSq1-together}
use Rattle.scr_sq1.proofs.Places.{next_unit, previous_unit, next_unit-lt, previous_unit-lt, IsTurnTable, IsPermutation-twist_places, StaysInHalf-twist}

-- pieces that are moved by a permutation of the units
module _ (units places : List ℕ) (size : length units ≡ 24) (permutation : IsPermutation 24 places) where
  pub moved_size : length (pick units places) ≡ 24
  moved_size = length-pick units places ∙ permutation.size

  pub moved-at : (k : ℕ) → k < 24 → slice_index (pick units places) k ≡ slice_index units (slice_index places k)
  moved-at k lt = pick-at units places k (omega (arith, permutation.size))

  pub moved_occurrences : (p : ℕ) → occurrences p (pick units places) ≡ occurrences p units
  moved_occurrences p = IsRearranged-pick units places (subst (λ n. IsPermutation n places) (sym size) permutation) p

-- a turn that leaves no corner across the cut
pub IsSq1-moved : (s : Sq1State) (n m : ℕ) → IsSq1 s → IsTurnTable n m
    → IsTrue (is_open (pick s.units (turn_places n m)))
    → IsSq1 (record { units = pick s.units (turn_places n m); equator = s.equator })
IsSq1-moved s n m h t opened =
    let places : List ℕ = turn_places n m in
    let units : List ℕ = pick s.units places in
    let at = moved-at s.units places h.size t.permutation in
    IsSq1-together units s.equator (record {
      size = moved_size s.units places h.size t.permutation;
      pieces = λ p lt. moved_occurrences s.units places h.size t.permutation p ∙ h.pieces p lt;
      neighbours = λ k lt corner.
          let from : ℕ = slice_index places k in
          let low : from < 24 = at-permutation 24 places t.permutation k lt in
          let here : slice_index units k ≡ slice_index s.units from = at k lt in
          let behind : slice_index units (next_unit k) ≡ slice_index s.units (next_unit from) =
          at (next_unit k) (next_unit-lt k lt) ∙ ap (λ i. slice_index s.units i) (t.next k lt) in
          let before : slice_index units (previous_unit k) ≡ slice_index s.units (previous_unit from) =
          at (previous_unit k) (previous_unit-lt k lt) ∙ ap (λ i. slice_index s.units i) (t.previous k lt) in
          ap (λ x. (x == slice_index units k) || (slice_index units (previous_unit k) == slice_index units k)) behind
          ∙ ap (λ x. (slice_index s.units (next_unit from) == slice_index units k) || (x == slice_index units k)) before
          ∙ ap (λ x. (slice_index s.units (next_unit from) == x) || (slice_index s.units (previous_unit from) == x)) here
          ∙ (IsPutTogether-valid s h).neighbours from low (ap is_corner (sym here) ∙ corner);
      opened = opened;
    })

-- a twist
pub IsSq1-twisted : (s : Sq1State) (equator : Bool) → IsSq1 s
    → IsSq1 (record { units = pick s.units twist_places; equator = equator })
IsSq1-twisted s equator h =
    let places : List ℕ = twist_places in
    let permutation = IsPermutation-twist_places in
    let units : List ℕ = pick s.units places in
    let at = moved-at s.units places h.size permutation in
    let whole = InHalves-valid s h in
    IsSq1-halves units
    (record {
      size = moved_size s.units places h.size permutation;
      corners = λ p lt. moved_occurrences s.units places h.size permutation p ∙ whole.corners p lt;
      edges = λ p le lt. moved_occurrences s.units places h.size permutation p ∙ whole.edges p le lt;
      partners = λ k lt corner.
          let from : ℕ = slice_index places k in
          let low : from < 24 = at-permutation 24 places permutation k lt in
          let here : slice_index units k ≡ slice_index s.units from = at k lt in
          elim (whole.partners from low (omega (arith, here))) [
            | inl p ↦ (grind (arith, nat_tests, StaysInHalf-twist))
            | inr p ↦
                let j = p.0 in
                let i : ℕ = k - 1 in
                let place : k % 6 ≡ suc j % 6 = sym (StaysInHalf-twist k lt).at ∙ ap (λ z. z % 6) (sym p.1) in
                let is : suc i ≡ k = omega (arith, place, p.2) in
                let inside : i % 6 < 5 = omega (arith, place, p.2) in
                let row : i < 24 = omega arith in
                let back : suc (slice_index places i) ≡ suc j =
                sym ((StaysInHalf-twist i row).behind inside) ∙ ap (λ z. slice_index places z) is ∙ sym p.1 in
                let same : slice_index places i ≡ j = omega arith in
                inr (i, is, inside, at i row ∙ ap (λ z. slice_index s.units z) same ∙ p.3 ∙ sym here)
          ];
    })
    equator
