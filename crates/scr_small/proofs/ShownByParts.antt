-- The coordinates of two parts side by side show the puzzle.
use Rattle.std.proofs.Common.{◌≡◌, ℕ, zero, suc, ◌+◌, ◌*◌, ◌/◌, ◌%◌, ◌<◌, Option, Some, None, refl, sym, ap, ◌∙◌, arith}
use Rattle.std.specs.Prelude.{◌==◌, ◌&&◌}
use Rattle.std.specs.Option.{option_map}
use Rattle.std.proofs.Math.Nat.{mod-mod, mul-div_cancel_left}
use Rattle.std.proofs.lemmas.Bool.{eq-eqb, eqb-true, and_parts, and_from}
use Rattle.std.proofs.lemmas.Bool.Decides.{same_from_decides}
use Rattle.scr_positions.specs.Products.{product_coordinate, side_by_side}
use Rattle.scr_positions.specs.SearchSpaces.{ShowsSame}
use Rattle.scr_small.specs.NumberedPuzzles.{NumberedPuzzle, after_number, state_coordinate}
use Rattle.scr_small.specs.LawfulPuzzles.{IsNumberedPuzzle}
use Rattle.scr_small.specs.StateParts.{MovesByParts, low_part, high_part}

-- a number is told by its two parts
told_by_parts : (k i j : ℕ) → 0 < k → i % k ≡ j % k → i / k ≡ j / k → i ≡ j
told_by_parts k i j some low high = omega (arith, low, ap (λ q. k * q) high)

module _ {S T : Type 0} (p : NumberedPuzzle S T) (l : IsNumberedPuzzle p) (low_count high_count : ℕ) (b : MovesByParts p low_count high_count) where
  abbrev low : S → ℕ
  low s = p.numbered.number_of s % low_count

  abbrev high : S → ℕ
  high s = p.numbered.number_of s / low_count

  some_low : 0 < low_count
  some_low = some_of low_count b.pairs
    where
      some_of : (k : ℕ) → p.numbered.count ≡ k * high_count → 0 < k
      some_of zero pairs = absurd (omega (arith, pairs, l.numbering.some))
      some_of (suc k) pairs = omega arith

  -- where a turn does nothing to one state, it does nothing to another
  none_alike : (s r : S) (t : T) → p.numbered.IsValid s → p.numbered.IsValid r → p.after s t ≡ None → (o : Option S)
      → p.after r t ≡ o → o ≡ None
  none_alike s r t v w none None e = refl
  none_alike s r t v w none (Some r') e = absurd (let made = b.alike r s r' t w v e in cc (none, made.1))

  -- the two parts of a turned state, side by side
  joined : (s low_state high_state : S) (t : T) → p.numbered.IsValid s → p.numbered.IsValid low_state
      → p.numbered.IsValid high_state → low s ≡ low low_state → high s ≡ high high_state → (o : Option S)
      → p.after s t ≡ o
      → side_by_side low_count (option_map low (p.after low_state t)) (option_map high (p.after high_state t)) ≡ option_map p.numbered.number_of o
  joined s x y t v vx vy e f None none =
      ap (λ o. side_by_side low_count (option_map low o) (option_map high (p.after y t))) (none_alike s x t v vx none (p.after x t) refl)
  joined s x y t v vx vy e f (Some s') made =
      let one = b.alike s x s' t v vx made in
      let two = b.alike s y s' t v vy made in
      let same_low = b.low s x s' one.0 t v vx made one.1 e in
      let same_high = b.high s y s' two.0 t v vy made two.1 f in
      let whole : p.numbered.number_of s' % low_count + low_count * (p.numbered.number_of s' / low_count) ≡ p.numbered.number_of s' =
      let some : 0 < low_count = some_low in omega arith in
      ap (λ o. side_by_side low_count (option_map low o) (option_map high (p.after y t))) one.1
      ∙ ap (λ o. side_by_side low_count (Some (low one.0)) (option_map high o)) two.1
      ∙ ap (λ n. Some (n + low_count * high two.0)) (sym same_low)
      ∙ ap (λ n. Some (low s' + low_count * n)) (sym same_high)
      ∙ ap Some whole

  pub ShowsSame-parts : ShowsSame (state_coordinate p) (product_coordinate (low_part p low_count) (high_part p low_count high_count))
  ShowsSame-parts = record {
    count = sym b.pairs;
    turns = refl;
    after = λ i n at turn.
        let one = l.numbering.one_to_one in
        let low_at : i % low_count < p.numbered.count = omega (arith, at, some_low) in
        let high_at : low_count * (i / low_count) < p.numbered.count = omega (arith, at, some_low) in
        joined (p.numbered.state_at i) (p.numbered.state_at (i % low_count)) (p.numbered.state_at (low_count * (i / low_count))) (p.letter_at n)
        (one.valid i at) (one.valid (i % low_count) low_at) (one.valid (low_count * (i / low_count)) high_at)
        (ap (λ k. k % low_count) (one.number_again i at) ∙ sym (ap (λ k. k % low_count) (one.number_again (i % low_count) low_at) ∙ mod-mod i low_count))
        (ap (λ k. k / low_count) (one.number_again i at)
        ∙ sym (ap (λ k. k / low_count) (one.number_again (low_count * (i / low_count)) high_at) ∙ mul-div_cancel_left (i / low_count) some_low))
        (after_number p (p.numbered.state_at i) n) refl;
    is_goal = λ i at.
        let solved = p.numbered.number_of p.solved in
        let low_same = i % low_count == solved % low_count in
        let high_same = i / low_count == solved / low_count in
        same_from_decides (low_same && high_same) (i == solved) (
          λ h.
              let parts = and_parts low_same high_same h in
              told_by_parts low_count i solved some_low (eqb-true (i % low_count) (solved % low_count) parts.0) (eqb-true (i / low_count) (solved / low_count) parts.1),
          λ same. and_from low_same high_same (eq-eqb (i % low_count) (solved % low_count) (ap (λ k. k % low_count) same))
              (eq-eqb (i / low_count) (solved / low_count) (ap (λ k. k / low_count) same)),
        )
        (eqb-true i solved, eq-eqb i solved);
  }
