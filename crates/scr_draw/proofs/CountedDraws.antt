-- How many lists of numbers draw a state.
use Rattle.std.proofs.Common.{◌≡◌, ℕ, zero, suc, ◌/◌, ◌%◌, ◌^◌, ◌<◌, Bool, true, false, ◌&&◌, ◌||◌, Option, Some, None, replicate, refl, ◌∙◌, arith}
use Rattle.std.proofs.Math.Nat.{pow-succ'}
use Rattle.std.specs.Option.{option_or}
use Rattle.std.specs.Prelude.{IsTrue, ◌↔◌}
use Rattle.scr_draw.specs.Count.{IsCount, count_below}
use Rattle.scr_draw.specs.Drawn.{drawn}
use Rattle.scr_draw.specs.Fair.{ways}
use Rattle.scr_combinatorics.specs.Digits.{mixed_digits}
use Rattle.scr_draw.proofs.Counting.{count_none, count_pairs}

-- the test for a list that draws a state, by a test for the numbers that hit it and one for those
-- that hit nothing
abbrev draw_test : (ℕ → Bool) → (ℕ → Bool) → ℕ → ℕ → ℕ → Bool
draw_test p m radix zero n = false
draw_test p m radix (suc len) n = p (n % radix) || (m (n % radix) && draw_test p m radix len (n / radix))

count_draws : (p m : ℕ → Bool) (radix : ℕ) → ((v : ℕ) → v < radix → p v ≡ true → m v ≡ false) → (len : ℕ)
    → count_below (draw_test p m radix len) (radix ^ len) ≡ ways radix (count_below p radix) (count_below m radix) len
unfolding ways
count_draws p m radix h zero = count_none (λ n. false) (radix ^ zero) (λ v lt. refl)
count_draws p m radix h (suc len) = grind (arith, count_pairs, pow-succ', count_draws p m radix h len)

or_right : (a : Bool) → (a || (true && true)) ≡ true
or_right a = grind arith

-- one number, and the numbers after it
first_number : {S : Type 0} (s : S) (a b x : Bool) (o later : Option S) → (IsTrue a ↔ (o ≡ Some s))
    → (IsTrue b ↔ (o ≡ None)) → (IsTrue x ↔ (later ≡ Some s)) → IsTrue (a || (b && x)) ↔ (option_or o later ≡ Some s)
first_number s a b x o later ha hb hx = grind arith

draws_tell : {S : Type 0} (s : S) (hits : ℕ → Option S) (p m : ℕ → Bool) (radix : ℕ) → 0 < radix
    → ((v : ℕ) → v < radix → IsTrue (p v) ↔ (hits v ≡ Some s)) → ((v : ℕ) → v < radix → IsTrue (m v) ↔ (hits v ≡ None))
    → (len n : ℕ) → IsTrue (draw_test p m radix len n) ↔ (drawn hits (mixed_digits (replicate len radix) n) ≡ Some s)
unfolding drawn
draws_tell s hits p m radix some hp hm zero n = (λ h. cc h, λ h. cc h)
draws_tell s hits p m radix some hp hm (suc len) n =
    grind (arith, replicate len radix, draws_tell s hits p m radix some hp hm len (n / radix))

-- a number that hits a state does not miss
hit_is_no_miss : {S : Type 0} (s : S) (a b : Bool) (o : Option S) → (IsTrue a ↔ (o ≡ Some s)) → (IsTrue b ↔ (o ≡ None))
    → a ≡ true → b ≡ false
hit_is_no_miss s a b o ha hb h = grind arith

-- Where `hits` numbers hit a state and `misses` hit nothing, `ways` lists of a length draw the state.
pub count_ways : {S : Type 0} (s : S) (hit_of : ℕ → Option S) (radix hits misses : ℕ) → 0 < radix
    → IsCount (λ v. hit_of v ≡ Some s) radix hits → IsCount (λ v. hit_of v ≡ None) radix misses → (len : ℕ)
    → IsCount (λ n. drawn hit_of (mixed_digits (replicate len radix) n) ≡ Some s) (radix ^ len) (ways radix hits misses len)
count_ways s hit_of radix hits misses some h m len = record {
  test = draw_test h.test m.test radix len;
  tells = λ n below. draws_tell s hit_of h.test m.test radix some h.tells m.tells len n;
  counted =
      count_draws h.test m.test radix
      (λ v lt. hit_is_no_miss s (h.test v) (m.test v) (hit_of v) (h.tells v lt) (m.tells v lt)) len
      ∙ rw (h.counted, m.counted) refl;
}
