-- What the attempts that were tried leave: all of them missed, so the whole list of attempts draws
-- what the rest of it draws.
use Rattle.std.proofs.Common.{◌≡◌, ℕ, suc, ◌+◌, ◌-◌, ◌*◌, ◌<◌, Bool, true, false, Option, Some, None, List, [], ◌∷◌, refl, sym, ap, ◌∙◌, arith}
use Rattle.std.specs.Prelude.{if◌then◌else◌}
use Rattle.scr_draw.specs.Attempt.{answer, attempt_value, attempt_values}
use Rattle.scr_draw.specs.Drawn.{drawn, hit}
use Rattle.scr_draw.specs.FirstHit.{numbers_read}

pub record IsTried {S : Type 0} (count : ℕ) (state_at : ℕ → S) (permits : S → Bool) (word : ℕ → ℕ) (place all : ℕ) (word_now : ℕ → ℕ) (place_now tried : ℕ) : Type 0 where
  pub same_words : word_now ≡ word
  pub taken : place_now ≡ place + 3 * tried
  pub draws : drawn (hit count state_at permits) (attempt_values word place all)
      ≡ drawn (hit count state_at permits) (attempt_values word (place + 3 * tried) (all - tried))
  pub reads : numbers_read (hit count state_at permits) (attempt_values word place all)
      ≡ tried + numbers_read (hit count state_at permits) (attempt_values word (place + 3 * tried) (all - tried))

-- the numbers of attempts, the first apart
values_step : (word : ℕ → ℕ) (place n : ℕ)
    → attempt_values word place (suc n) ≡ attempt_value word place ∷ attempt_values word (place + 3) n
unfolding attempt_values
values_step word place n = refl

values_none : (word : ℕ → ℕ) (place : ℕ) → attempt_values word place 0 ≡ []
unfolding attempt_values
values_none word place = refl

-- what a first number does that misses
drawn_past : {S : Type 0} (hits : ℕ → Option S) (v : ℕ) (vs : List ℕ) → hits v ≡ None
    → drawn hits (v ∷ vs) ≡ drawn hits vs
unfolding drawn
drawn_past hits v vs miss = rw miss refl

read_past : {S : Type 0} (hits : ℕ → Option S) (v : ℕ) (vs : List ℕ) → hits v ≡ None
    → numbers_read hits (v ∷ vs) ≡ suc (numbers_read hits vs)
unfolding numbers_read
read_past hits v vs miss = rw miss refl

-- and one that hits
drawn_here : {S : Type 0} (hits : ℕ → Option S) (v : ℕ) (vs : List ℕ) (s : S) → hits v ≡ Some s
    → drawn hits (v ∷ vs) ≡ Some s
unfolding drawn
drawn_here hits v vs s here = rw here refl

read_here : {S : Type 0} (hits : ℕ → Option S) (v : ℕ) (vs : List ℕ) (s : S) → hits v ≡ Some s
    → numbers_read hits (v ∷ vs) ≡ 1
unfolding numbers_read
read_here hits v vs s here = rw here refl

drawn_nothing : {S : Type 0} (hits : ℕ → Option S) → drawn hits [] ≡ None
unfolding drawn
drawn_nothing hits = refl

read_nothing : {S : Type 0} (hits : ℕ → Option S) → numbers_read hits [] ≡ 0
unfolding numbers_read
read_nothing hits = refl

-- the rest of the attempts, the next one apart
rest_step : (word : ℕ → ℕ) (place all tried : ℕ) → tried < all
    → attempt_values word (place + 3 * tried) (all - tried)
    ≡ attempt_value word (place + 3 * tried) ∷ attempt_values word (place + 3 * (tried + 1)) (all - (tried + 1))
rest_step word place all tried more = grind (arith, values_step word (place + 3 * tried) (all - (tried + 1)))

-- ---- what an attempt's answer says of the state that its number hits

refused : (b : Bool) (x : ℕ) → (if b then Some x else None) ≡ None → b ≡ false
refused o x h = grind arith

-- no answer
hit_of_refused : {S : Type 0} (count : ℕ) (state_at : ℕ → S) (permits : S → Bool) (v : ℕ) → answer count v ≡ None
    → hit count state_at permits v ≡ None
hit_of_refused count state_at permits v h = grind arith

-- an answer whose state fails the test
hit_of_failed : {S : Type 0} (count : ℕ) (state_at : ℕ → S) (permits : S → Bool) (v i : ℕ) → answer count v ≡ Some i
    → permits (state_at i) ≡ false → hit count state_at permits v ≡ None
hit_of_failed count state_at permits v i h failed = grind arith

-- and one whose state passes it
hit_of_passed : {S : Type 0} (count : ℕ) (state_at : ℕ → S) (permits : S → Bool) (v i : ℕ) → answer count v ≡ Some i
    → permits (state_at i) ≡ true → hit count state_at permits v ≡ Some (state_at i)
hit_of_passed count state_at permits v i h passed = grind arith

-- ---- the steps of a draw

-- what the attempts draw in the end, and how many were read
pub record EndsWith {S : Type 0} (hits : ℕ → Option S) (word : ℕ → ℕ) (place all read : ℕ) (outcome : Option S) : Type 0 where
  pub draws : drawn hits (attempt_values word place all) ≡ outcome
  pub reads : numbers_read hits (attempt_values word place all) ≡ read

module _ {S : Type 0} {count : ℕ} {state_at : ℕ → S} {permits : S → Bool} {word : ℕ → ℕ} {place all : ℕ} {word_now : ℕ → ℕ} {place_now tried : ℕ} where
  -- one more missed, and its three words were taken
  tried_miss : IsTried count state_at permits word place all word_now place_now tried → tried < all
      → hit count state_at permits (attempt_value word (place + 3 * tried)) ≡ None
      → (word_next : ℕ → ℕ) (place_next : ℕ) → word_next ≡ word_now → place_next ≡ place_now + 3
      → IsTried count state_at permits word place all word_next place_next (tried + 1)
  tried_miss so_far more miss word_next place_next same three =
      let hits : ℕ → Option S = hit count state_at permits in
      let v : ℕ = attempt_value word (place + 3 * tried) in
      let vs : List ℕ = attempt_values word (place + 3 * (tried + 1)) (all - (tried + 1)) in
      let step = rest_step word place all tried more in
      let reads : numbers_read hits (attempt_values word (place + 3 * tried) (all - tried)) ≡ suc (numbers_read hits vs) =
      rw step (read_past hits v vs miss) in
      let before = so_far.reads in
      let taken = so_far.taken in record {
        same_words = same ∙ so_far.same_words;
        taken = omega (arith, taken, three);
        draws = so_far.draws ∙ rw step (drawn_past hits v vs miss);
        reads = omega (arith, before, reads);
      }

  -- all missed
  pub tried_all : IsTried count state_at permits word place all word_now place_now tried → tried ≡ all
      → EndsWith (hit count state_at permits) word place all all None
  tried_all so_far whole =
      let hits : ℕ → Option S = hit count state_at permits in
      let none : all - tried ≡ 0 = omega arith in
      let nothing : numbers_read hits (attempt_values word (place + 3 * tried) (all - tried)) ≡ 0 =
      rw (none, values_none) (read_nothing hits) in
      let before = so_far.reads in
      record { draws = so_far.draws ∙ rw (none, values_none) (drawn_nothing hits); reads = omega (arith, before, nothing) }

  module _ {count_now : ℕ} (so_far : IsTried count state_at permits word place all word_now place_now tried) (more : tried < all) (ec : count_now ≡ count) where
    -- an attempt's answer, at the count and the words that the attempts began with
    answer_at : (o : Option ℕ) → o ≡ answer count_now (attempt_value word_now place_now)
        → answer count (attempt_value word (place + 3 * tried)) ≡ o
    answer_at o h = cc

    -- it was refused
    pub tried_refused : {word_next : ℕ → ℕ} {place_next : ℕ}
        → None ≡ answer count_now (attempt_value word_now place_now) → word_next ≡ word_now → place_next ≡ place_now + 3
        → IsTried count state_at permits word place all word_next place_next (tried + 1)
    tried_refused {word_next} {place_next} h same three = grind (arith, hit_of_refused, answer_at, tried_miss)

    -- it was accepted, and its state failed the test
    pub tried_failed : {word_next : ℕ → ℕ} {place_next i : ℕ} {s : S}
        → Some i ≡ answer count_now (attempt_value word_now place_now) → s ≡ state_at i → permits s ≡ false
        → word_next ≡ word_now → place_next ≡ place_now + 3
        → IsTried count state_at permits word place all word_next place_next (tried + 1)
    tried_failed {word_next} {place_next} {i} h is failed same three =
        grind (arith, hit_of_failed, answer_at, tried_miss)

    -- it was accepted, and its state passed the test: it is drawn, and its words are the last
    pub tried_passed : {i : ℕ} {s : S} → Some i ≡ answer count_now (attempt_value word_now place_now)
        → s ≡ state_at i → permits s ≡ true → EndsWith (hit count state_at permits) word place all (tried + 1) (Some s)
    tried_passed {i} {s} h is passed =
        let hits : ℕ → Option S = hit count state_at permits in
        let v : ℕ = attempt_value word (place + 3 * tried) in
        let vs : List ℕ = attempt_values word (place + 3 * (tried + 1)) (all - (tried + 1)) in
        let step = rest_step word place all tried more in
        let here = hit_of_passed count state_at permits v i (answer_at (Some i) h) (rw is at passed) ∙ ap Some (sym is) in
        let reads : numbers_read hits (attempt_values word (place + 3 * tried) (all - tried)) ≡ 1 =
        rw step (read_here hits v vs s here) in
        let before = so_far.reads in
        record { draws = so_far.draws ∙ rw step (drawn_here hits v vs s here); reads = omega (arith, before, reads) }
