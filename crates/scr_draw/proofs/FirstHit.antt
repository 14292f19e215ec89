-- The state that the numbers of some attempts draw is that of the first attempt which hits one.
use Rattle.std.proofs.Common.{◌≡◌, ℕ, zero, suc, ◌+◌, ◌*◌, ◌<◌, Option, Some, None, refl, sym, ap, ◌∙◌, arith}
use Rattle.std.specs.Option.{option_or}
use Rattle.std.specs.Prelude.{◌↔◌}
use Rattle.scr_draw.specs.Attempt.{attempt_value, attempt_values}
use Rattle.scr_draw.specs.Drawn.{drawn}
use Rattle.scr_draw.specs.FirstHit.{IsFirstHit, numbers_read}

-- attempt tried + 1 from a place on is attempt `tried` from the next place on
next_place : (place tried : ℕ) → place + 3 + 3 * tried ≡ place + 3 * suc tried
next_place place tried = omega arith

first_place : (place : ℕ) → place + 3 * 0 ≡ place
first_place place = omega arith

missed_after : {S : Type 0} (hits : ℕ → Option S) (word : ℕ → ℕ) (place tried : ℕ)
    → hits (attempt_value word place) ≡ None
    → ((earlier : ℕ) → earlier < tried → hits (attempt_value word (place + 3 + 3 * earlier)) ≡ None) → (earlier : ℕ)
    → earlier < suc tried → hits (attempt_value word (place + 3 * earlier)) ≡ None
missed_after hits word place tried miss later zero lt = ap (λ (p : ℕ). hits (attempt_value word p)) (first_place place) ∙ miss
missed_after hits word place tried miss later (suc earlier) lt =
    ap (λ (p : ℕ). hits (attempt_value word p)) (sym (next_place place earlier)) ∙ later earlier (omega arith)

-- the first attempt missed
first_after : {S : Type 0} (hits : ℕ → Option S) (word : ℕ → ℕ) (place all : ℕ) (s : S) (tried : ℕ)
    → hits (attempt_value word place) ≡ None → IsFirstHit hits word (place + 3) all s tried
    → IsFirstHit hits word place (suc all) s (suc tried)
first_after hits word place all s tried miss later =
    grind (arith, next_place place tried, missed_after hits word place tried miss later.missed)

-- what the first attempt hits, told apart
by_first : {S : Type 0} (hits : ℕ → Option S) (word : ℕ → ℕ) (s : S) (all place : ℕ) (o : Option S)
    → hits (attempt_value word place) ≡ o → option_or o (drawn hits (attempt_values word (place + 3) all)) ≡ Some s
    → (drawn hits (attempt_values word (place + 3) all) ≡ Some s → (tried : ℕ) × IsFirstHit hits word (place + 3) all s tried)
    → (tried : ℕ) × IsFirstHit hits word place (suc all) s tried
by_first hits word s all place (Some t) is h later = grind arith
by_first hits word s all place None is h later =
    let r = later h in
    (suc r.0, first_after hits word place all s r.0 is r.1)

drawn_first : {S : Type 0} (hits : ℕ → Option S) (word : ℕ → ℕ) (s : S) (all place : ℕ)
    → drawn hits (attempt_values word place all) ≡ Some s → (tried : ℕ) × IsFirstHit hits word place all s tried
unfolding attempt_values drawn
drawn_first hits word s zero place h = cc h
drawn_first hits word s (suc all) place h =
    by_first hits word s all place (hits (attempt_value word place)) refl h (drawn_first hits word s all (place + 3))

-- and the first hit is drawn, after as many numbers as its place says
of_first : {S : Type 0} (hits : ℕ → Option S) (word : ℕ → ℕ) (s : S) (all place tried : ℕ)
    → IsFirstHit hits word place all s tried
    → (drawn hits (attempt_values word place all) ≡ Some s) × (numbers_read hits (attempt_values word place all) ≡ suc tried)
unfolding attempt_values drawn numbers_read
of_first hits word s zero place tried first = let below = first.below in absurd (omega arith)
of_first hits word s (suc all) place zero first = grind arith
of_first hits word s (suc all) place (suc tried) first =
    let below = first.below in
    let miss = ap (λ (p : ℕ). hits (attempt_value word p)) (sym (first_place place)) ∙ first.missed 0 (omega arith) in
    let later : IsFirstHit hits word (place + 3) all s tried = record {
      below = omega arith;
      here = ap (λ (p : ℕ). hits (attempt_value word p)) (next_place place tried) ∙ first.here;
      missed = λ earlier lt.
          ap (λ (p : ℕ). hits (attempt_value word p)) (next_place place earlier) ∙ first.missed (suc earlier) (omega arith);
    } in
    let rest = of_first hits word s all (place + 3) tried later in
    (rw miss rest.0, rw miss (ap suc rest.1))

pub read_of_first : {S : Type 0} (hits : ℕ → Option S) (word : ℕ → ℕ) (s : S) (all place tried : ℕ)
    → IsFirstHit hits word place all s tried → numbers_read hits (attempt_values word place all) ≡ suc tried
read_of_first hits word s all place tried first = (of_first hits word s all place tried first).1

-- the first hit is what is drawn
pub drawn_is_first : {S : Type 0} (hits : ℕ → Option S) (word : ℕ → ℕ) (place all : ℕ) (s : S)
    → (drawn hits (attempt_values word place all) ≡ Some s) ↔ ((tried : ℕ) × IsFirstHit hits word place all s tried)
drawn_is_first hits word place all s = (drawn_first hits word s all place, λ h. (of_first hits word s all place h.0 h.1).0)

-- none is drawn where each attempt misses
nothing_drawn : {S : Type 0} (hits : ℕ → Option S) (word : ℕ → ℕ) (all place : ℕ)
    → ((tried : ℕ) → tried < all → hits (attempt_value word (place + 3 * tried)) ≡ None)
    → drawn hits (attempt_values word place all) ≡ None
unfolding attempt_values drawn
nothing_drawn hits word zero place h = refl
nothing_drawn hits word (suc all) place h =
    let miss = ap (λ (p : ℕ). hits (attempt_value word p)) (sym (first_place place)) ∙ h 0 (omega arith) in
    let later = nothing_drawn hits word all (place + 3)
    (λ tried lt. ap (λ (p : ℕ). hits (attempt_value word p)) (next_place place tried) ∙ h (suc tried) (omega arith)) in
    rw miss later

-- and where none is drawn each misses
none_in_front : {S : Type 0} (o later : Option S) → option_or o later ≡ None → (o ≡ None) × (later ≡ None)
none_in_front o later h = grind arith

each_missed : {S : Type 0} (hits : ℕ → Option S) (word : ℕ → ℕ) (all place : ℕ)
    → drawn hits (attempt_values word place all) ≡ None
    → (tried : ℕ) → tried < all → hits (attempt_value word (place + 3 * tried)) ≡ None
unfolding attempt_values drawn
each_missed hits word zero place h tried lt = absurd (omega arith)
each_missed hits word (suc all) place h zero lt = grind arith
each_missed hits word (suc all) place h (suc tried) lt =
    ap (λ (p : ℕ). hits (attempt_value word p)) (sym (next_place place tried))
    ∙ each_missed hits word all (place + 3)
    (none_in_front (hits (attempt_value word place)) (drawn hits (attempt_values word (place + 3) all)) h).1 tried (omega arith)

pub none_is_drawn : {S : Type 0} (hits : ℕ → Option S) (word : ℕ → ℕ) (place all : ℕ)
    → (drawn hits (attempt_values word place all) ≡ None)
    ↔ ((tried : ℕ) → tried < all → hits (attempt_value word (place + 3 * tried)) ≡ None)
none_is_drawn hits word place all = (each_missed hits word all place, nothing_drawn hits word all place)
