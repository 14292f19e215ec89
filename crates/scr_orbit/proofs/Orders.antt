-- How often turns and words are done to move nothing, by tests that the checker computes over whole tables.
use Rattle.std.proofs.Common.{rules, ◌≡◌, ℕ, zero, suc, ◌+◌, ◌-◌, ◌<◌, Bool, true, false, not, List, [], ◌∷◌, Option, Some, None, map, refl, ap, ◌∙◌, arith, ltb-true}
use Rattle.std.specs.Prelude.{All, ◌&&◌, nat_lt, slice_get}
use Rattle.std.specs.List.{list_all}
use Rattle.std.specs.Str.{bytes_eq}
use Rattle.std.specs.Cmp.Derive.{both_true}
use Rattle.std.proofs.lemmas.Bool.{and_parts, false≢true}
use Rattle.std.proofs.lemmas.Option.{same_Some}
use Rattle.std.proofs.lemmas.Slice.Eq.{bytes_eq-Decides}
use Rattle.scr_combinatorics.specs.Lists.{numbers_from}
use Rattle.scr_combinatorics.specs.Play.{play}
use Rattle.scr_orbit.specs.Monoids.{Monoid, after_by, power, IsOrder, IsWordOrder}
use Rattle.scr_orbit.proofs.PowerLaws.{IsGenerator}
use Rattle.scr_orbit.specs.Orbits.{solved_orbit, zeros, orbit_monoid}
use Rattle.scr_orbit.specs.InPlace.{in_place_monoid}
use Rattle.scr_orbit.proofs.Parts.{ap_both, pair, pair_monoid, IsSeenAs}
use Rattle.scr_orbit.proofs.TableTests.{All-from_test, is_still, still, zeros_only}

-- A test of the solved state, which no other one passes.
pub record TellsSolved {S : Type 0} (m : Monoid S) (test : S → Bool) : Type 0 where
  pub shows : (s : S) → test s ≡ true → s ≡ m.solved
  pub passes : test m.solved ≡ true

pub tells_orbit : (n m : ℕ) → TellsSolved (orbit_monoid n m) (is_still n)
unfolding solved_orbit
tells_orbit n m = record { shows = still n; passes = both_true (equal_lists (numbers_from 0 n)) (equal_lists (zeros n)) }
  where
    equal_lists : (xs : List ℕ) → bytes_eq xs xs ≡ true
    equal_lists xs = (bytes_eq-Decides xs xs).1 refl

-- so it is with digits of pieces that stay at their places
pub tells_in_place : (n m : ℕ) → TellsSolved (in_place_monoid n m) (λ ds. bytes_eq ds (zeros n))
tells_in_place n m = record { shows = zeros_only n; passes = (bytes_eq-Decides (zeros n) (zeros n)).1 refl }

-- and with two parts, each of which has a test
pub tells_both : {S T U : Type 0} (m : Monoid S) (n : Monoid T) (k : Monoid U) (seen : S → T × U)
    → IsSeenAs m (pair_monoid n k) seen → (test : T → Bool) (other : U → Bool) → TellsSolved n test
    → TellsSolved k other → TellsSolved m (λ s. test (seen s).0 && other (seen s).1)
tells_both m n k seen are test other first second = grind (arith, and_parts, ap_both, pair)

-- a test fails at the next powers
abbrev pub apart : {S : Type 0} → Monoid S → (S → Bool) → S → ℕ → S → Bool
apart m test r zero p = true
apart m test r (suc n) p = not (test p) && apart m test r n (m.turned r p)

apart-at : {S : Type 0} (m : Monoid S) (test : S → Bool) (r : S) (n j i : ℕ) → apart m test r n (power m r j) ≡ true
    → i < n → test (power m r (j + i)) ≡ true → ⊥
unfolding power
apart-at m test r zero j i h lt e = absurd (omega arith)
apart-at m test r (suc n) j zero h lt e = grind (arith, and_parts, false≢true)
apart-at m test r (suc n) j (suc i) h lt e = grind (arith, and_parts, apart-at m test r n (suc j) i)

-- an order, as a test
abbrev pub has_order : {S : Type 0} → Monoid S → (S → Bool) → ℕ → S → Bool
has_order m test n r = nat_lt 0 n && (test (power m r n) && apart m test r (n - 1) (power m r 1))

abbrev pub word_has_order : {S : Type 0} → Monoid S → (S → Bool) → ℕ → Option S → Bool
word_has_order m test n None = false
word_has_order m test n (Some r) = has_order m test n r

module _ {S : Type 0} (m : Monoid S) (test : S → Bool) (tells : TellsSolved m test) where
  IsOrder-from_test : (n : ℕ) (r : S) → has_order m test n r ≡ true → IsOrder m r n
  IsOrder-from_test n r h =
      let parts = and_parts (nat_lt 0 n) (test (power m r n) && apart m test r (n - 1) (power m r 1)) h in
      let more = and_parts (test (power m r n)) (apart m test r (n - 1) (power m r 1)) parts.1 in
      record {
        some = ltb-true 0 n parts.0;
        whole = tells.shows (power m r n) more.0;
        least = λ k pos lt e.
            let from_one : 1 + (k - 1) ≡ k = omega arith in
            apart-at m test r (n - 1) 1 (k - 1) more.1 (omega arith) (ap (λ j. test (power m r j)) from_one ∙ ap test e ∙ tells.passes);
      }

  -- each of these is a turn of this order
  module _ (IsValid : S → Type 0) (is_valid : S → Bool) (shows : (r : S) → is_valid r ≡ true → IsValid r) (n : ℕ) where
    pub All-ordered : (rs : List S) → list_all (λ r. is_valid r && has_order m test n r) rs ≡ true
        → All (λ r. IsOrder m r n) rs
    All-ordered rs h =
        All-from_test (λ r. is_valid r && has_order m test n r) (λ r. IsOrder m r n)
        (λ r k. IsOrder-from_test n r (and_parts (is_valid r) (has_order m test n r) k).1) rs h

    pub All-generators : (rs : List S) → list_all (λ r. is_valid r && has_order m test n r) rs ≡ true
        → All (IsGenerator m IsValid n) rs
    All-generators rs h =
        All-from_test (λ r. is_valid r && has_order m test n r) (IsGenerator m IsValid n)
        (λ r k.
        let both = and_parts (is_valid r) (has_order m test n r) k in
        record { valid = shows r both.0; whole = (IsOrder-from_test n r both.1).whole })
        rs h

  -- words by the numbers of their letters, each beside how often it is done to move nothing
  module _ {T : Type 0} (table : T → Option S) (letter_at : ℕ → T) where
    by : (w : List T) (n : ℕ) (o : Option S) → play (after_by m table) m.solved w ≡ o → word_has_order m test n o ≡ true
        → IsWordOrder m table w n
    by w n None e h = absurd (false≢true h)
    by w n (Some r) e h = record { turn = r; comes_to = e; order = IsOrder-from_test n r h }

    pub All-word_orders : (rows : List (List ℕ × ℕ))
        → list_all (λ row. word_has_order m test row.1 (play (after_by m table) m.solved (map letter_at row.0))) rows ≡ true
        → All (λ row. IsWordOrder m table (map letter_at row.0) row.1) rows
    All-word_orders rows h = search (arith, rules, All-from_test, by)

-- ---- what holds at each place of a list

abbrev pub EachFrom : {X : Type 0} → (ℕ → X → Type 0) → ℕ → List X → Type 0
EachFrom P k [] = Unit {0}
EachFrom P k (x ∷ xs) = P k x × EachFrom P (suc k) xs

each_from : {X : Type 0} (P : ℕ → X → Type 0) (j : ℕ) (xs : List X) → EachFrom P j xs → (k : ℕ) (x : X)
    → slice_get xs k ≡ Some x → P (j + k) x
each_from P j [] h k x e = absurd (cc)
each_from P j (y ∷ xs) h zero x e = grind (arith, same_Some)
each_from P j (y ∷ xs) h (suc k) x e = grind (arith, each_from P (suc j) xs h.1 k x e)

pub each_at : {X : Type 0} (P : ℕ → X → Type 0) (xs : List X) → EachFrom P 0 xs → (k : ℕ) (x : X)
    → slice_get xs k ≡ Some x → P k x
each_at P xs h k x e = grind (arith, each_from)
