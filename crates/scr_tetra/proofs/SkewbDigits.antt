-- Twists of a Skewb with the number that completes their sum.
use Rattle.std.proofs.Common.{◌≡◌, ℕ, suc, ◌+◌, ◌*◌, ◌/◌, ◌%◌, ◌<◌, List, [], ◌∷◌, ◌++◌, length, get_or, refl, sym, ap, ◌∙◌, subst, arith, add_comm, length-append}
use Rattle.std.specs.Prelude.{slice_index}
use Rattle.std.proofs.lemmas.List.Elements.{All-cons, All-push}
use Rattle.scr_combinatorics.specs.Lists.{total, numbers_from, pick}
use Rattle.scr_combinatorics.specs.Digits.{mixed_number, mixed_digits}
use Rattle.scr_combinatorics.specs.Twists.{IsTwists, twists_number}
use Rattle.scr_combinatorics.specs.Permutations.{half_at}
use Rattle.scr_combinatorics.proofs.Picks.{pick-in_order}
use Rattle.scr_combinatorics.proofs.Twists.{total-push}
use Rattle.scr_orbit.specs.Orbits.{Orbit, zeros}
use Rattle.scr_orbit.proofs.OrbitLaws.{same_orbit}
use Rattle.scr_orbit.proofs.Parts.{ap_both}
use Rattle.scr_tetra.specs.Skewb.{SkewbState, class_of, completing, IsSkewb, skewb_of_digits}
use Rattle.scr_tetra.proofs.NumberedSkewb.{first_below, class_below, same_skewb}

-- a list, place by place
in_order : (n : ℕ) (xs ds : List ℕ) → xs ≡ ds → length ds ≡ n → pick xs (numbers_from 0 n) ≡ ds
in_order n xs ds e size = ap (λ x. pick x (numbers_from 0 n)) e ∙ ap (λ k. pick ds (numbers_from 0 k)) (sym size) ∙ pick-in_order ds

-- the twists of the four, and the first piece of the three
pub twists-four : (s : SkewbState) (ds ps : List ℕ) → IsSkewb s → ds ≡ s.four.digits → ps ≡ s.three.pieces
    → IsTwists 5 3 (get_or ds 0 0 ∷ get_or ds 1 0 ∷ get_or ds 2 0 ∷ get_or ds 3 0 ∷ get_or ps 0 0 ∷ [])
twists-four s ds ps h e f =
    let twists : List ℕ = s.four.digits in
    let first : ℕ = slice_index s.three.pieces 0 in
    subst (IsTwists 5 3) (sym (ap_both (λ xs k. xs ++ k ∷ []) (in_order 4 ds twists e h.four.size) (ap (λ xs. slice_index xs 0) f))) (record {
      size = omega (arith, length-append twists (first ∷ []), h.four.size);
      below = All-push (λ d. d < 3) twists first h.four.below (first_below s.three.pieces (record { permutation = h.three.pieces; even = h.even_three }));
      sum_fixed = ap (λ t. t % 3) (total-push twists first) ∙ h.twists_of_four;
    })

-- the class of the four, and the twists of the three
pub record IsBehind (ds : List ℕ) (first : ℕ) : Type 0 where
  pub twists : IsTwists 4 3 (first ∷ get_or ds 0 0 ∷ get_or ds 1 0 ∷ get_or ds 2 0 ∷ [])
  pub number : twists_number 3 (first ∷ get_or ds 0 0 ∷ get_or ds 1 0 ∷ get_or ds 2 0 ∷ []) / 3 ≡ mixed_number (3 ∷ 3 ∷ []) ds

pub twists-three : (s : SkewbState) (ds ps : List ℕ) (class : ℕ) → IsSkewb s → ds ≡ s.three.digits → ps ≡ s.four.pieces
    → class ≡ class_of ps → IsBehind ds class
twists-three s ds ps class h e f g =
    let twists : List ℕ = s.three.digits in
    let four : ℕ = class_of s.four.pieces in
    let low = class_below s.four.pieces (record { permutation = h.four.pieces; even = h.even_four }) in
    let same : class ≡ four = g ∙ ap class_of f in
    record {
      twists = subst (IsTwists 4 3) (sym (ap_both (λ k xs. k ∷ xs) same (in_order 3 ds twists e h.three.size))) (record {
        size = ap suc h.three.size;
        below = All-cons (λ d. d < 3) four twists low h.three.below;
        sum_fixed = ap (λ t. t % 3) (add_comm four (total twists)) ∙ h.twists_of_three;
      });
      number = behind class (mixed_number (3 ∷ 3 ∷ []) (pick ds (numbers_from 0 3))) (omega (arith, low, same))
          ∙ ap (mixed_number (3 ∷ 3 ∷ [])) (in_order 3 ds ds refl (ap length e ∙ h.three.size));
    }
  where
    behind : (low high : ℕ) → low < 3 → (low + 3 * high) / 3 ≡ high
    behind low high lt = omega arith

-- ---- a state put together

abbrev orbit : List ℕ → List ℕ → Orbit
orbit pieces digits = record { pieces = pieces; digits = digits }

abbrev pub put_together : List ℕ → List ℕ → List ℕ → List ℕ → List ℕ → SkewbState
put_together four twists three more centres =
    record { four = orbit four twists; three = orbit three more; centres = orbit centres (zeros 6) }

-- lists that are those of four numbers make their state
pub skewb_of_digits-made : (ds four twists three more centres : List ℕ) (first class : ℕ)
    → four ≡ half_at 4 0 (get_or ds 2 0) → twists ≡ mixed_digits (3 ∷ 3 ∷ 3 ∷ 3 ∷ []) (get_or ds 0 0)
    → first ≡ completing (total twists) → three ≡ half_at 3 0 first → class ≡ class_of four
    → more ≡ mixed_digits (3 ∷ 3 ∷ []) (get_or ds 1 0) ++ completing (total (mixed_digits (3 ∷ 3 ∷ []) (get_or ds 1 0)) + class) ∷ []
    → centres ≡ half_at 6 0 (get_or ds 3 0) → put_together four twists three more centres ≡ skewb_of_digits ds
unfolding skewb_of_digits
skewb_of_digits-made ds four twists three more centres first class a b c d e f g =
    let two : List ℕ = mixed_digits (3 ∷ 3 ∷ []) (get_or ds 1 0) in
    let begins : three ≡ half_at 3 0 (completing (total (mixed_digits (3 ∷ 3 ∷ 3 ∷ 3 ∷ []) (get_or ds 0 0)))) =
    d ∙ ap (half_at 3 0) (c ∙ ap (λ xs. completing (total xs)) b) in
    let last : more ≡ two ++ completing (total two + class_of (half_at 4 0 (get_or ds 2 0))) ∷ [] =
    f ∙ ap (λ k. two ++ completing (total two + k) ∷ []) (e ∙ ap class_of a) in
    same_skewb _ _ (same_orbit _ _ a b) (same_orbit _ _ begins last) (same_orbit _ _ g refl)
