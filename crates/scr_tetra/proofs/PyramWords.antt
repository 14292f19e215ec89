-- Words of a Pyraminx by parts: what they do to the body, and how many tips they solve.
use Rattle.std.proofs.Common.{◌≡◌, ℕ, zero, suc, ◌+◌, ◌-◌, ◌*◌, ◌/◌, ◌%◌, ◌<◌, ◌≤◌, inl, inr, true, false, cond, List, [], ◌∷◌, Some, length, refl, sym, ap, ◌∙◌, subst, arith, eqb, ne_eqb}
use Rattle.std.specs.Prelude.{All, slice_get}
use Rattle.std.specs.Option.{option_map}
use Rattle.std.proofs.Math.Nat.{mod-eq_of_lt}
use Rattle.std.proofs.lemmas.Bool.{cases_lt}
use Rattle.std.proofs.lemmas.List.Elements.{All-head, All-tail, All-from_recursion}
use Rattle.std.proofs.lemmas.Option.{same_Some}
use Rattle.scr_combinatorics.specs.Play.{play}
use Rattle.scr_combinatorics.proofs.PlayLaws.{play-empty, play-first, play-parts, map-some}
use Rattle.scr_orbit.specs.Orbits.{added_digits}
use Rattle.scr_orbit.specs.PowerPuzzles.{letter_table, after_letter, all_turns, part_turns}
use Rattle.scr_orbit.proofs.PowerLaws.{All-got}
use Rattle.scr_orbit.proofs.InPlaceLaws.{added_digits-still}
use Rattle.scr_notation.specs.declared.turn.Turn.{Turn}
use Rattle.scr_notation.specs.declared.turn.Turn.TheVariants.{Axis}
use Rattle.scr_notation.specs.TurnNumbers.{axis_turn_at}
use Rattle.scr_notation.proofs.NumberLaws.{axis_at, tip_at as tip_letter}
use Rattle.scr_tetra.specs.Pyraminx.{TetraminxState, tetraminx_monoid, tetraminx_powers, PyramState, IsPyram, pyram_monoid, pyram_powers}
use Rattle.scr_tetra.specs.PyramParts.{large_turns, tip_turn_count, turned_count}
use Rattle.scr_tetra.proofs.PyramLaws.{large_turn, tip_turn, tetraminx_laws, lawful_tetraminx, lawful_pyram}
use Rattle.scr_tetra.proofs.PyramLiterals.{pyram_on_literals}
use Rattle.scr_tetra.proofs.PyramTurns.{large_at, tip_at, pyram_large}

-- ---- tips: a turn of one solves one tip at most

-- 1 for a digit of a tip that stands turned
abbrev one_if_turned : ℕ → ℕ
one_if_turned d = cond (eqb d 0) 0 1

at_most_one : (d : ℕ) → one_if_turned d ≤ 1
at_most_one d = elim (eqb d 0) as (λ b. cond b 0 1 ≤ 1) [ true ↦ omega arith | false ↦ omega arith ]

one_for_turned : (d : ℕ) → one_if_turned (suc d) ≡ 1
one_for_turned d = ap (λ b. cond b 0 1) (ne_eqb (suc d) 0 (λ e. omega (arith, e)))

kept_count : (d e m : ℕ) → d < m → one_if_turned d ≤ one_if_turned ((d + e) % m) + one_if_turned e
kept_count d zero m lt =
    let same : (d + zero) % m ≡ d = ap (λ z. z % m) (omega arith) ∙ mod-eq_of_lt lt in
    let here : one_if_turned d ≡ one_if_turned ((d + zero) % m) = ap one_if_turned (sym same) in
    omega (arith, here)
kept_count d (suc e) m lt = omega (arith, at_most_one d, one_for_turned e)

turned_count-added : (m : ℕ) (ds es : List ℕ) → length ds ≡ length es → All (λ d. d < m) ds
    → turned_count ds ≤ turned_count (added_digits m ds es) + turned_count es
unfolding added_digits
turned_count-added m [] es h below = omega arith
turned_count-added m (d ∷ ds) [] h below = absurd (omega (arith, h))
turned_count-added m (d ∷ ds) (e ∷ es) h below =
    omega (arith, kept_count d e m (All-head (λ x. x < m) d ds below), turned_count-added m ds es (omega (arith, h)) (All-tail (λ x. x < m) d ds below))

-- each turn of a tip turns one
one_turned : All (λ row. (turned_count row ≡ 1) × (length row ≡ 4)) (part_turns (λ r. r.axials) tetraminx_powers)
unfolding pyram_on_literals
one_turned = All-from_recursion (λ row. (turned_count row ≡ 1) × (length row ≡ 4)) (part_turns (λ r. r.axials) tetraminx_powers)
    ((refl, refl), ((refl, refl), ((refl, refl), ((refl, refl), ((refl, refl), ((refl, refl), ((refl, refl), ((refl, refl), tt))))))))

-- ---- letters

-- what a large turn makes of a state with its tips, and what a turn of a tip does
pub record IsLargeStep (s r : PyramState) (n : ℕ) : Type 0 where
  pub body : (after_letter tetraminx_powers) s.body (axis_turn_at n) ≡ Some r.body
  pub tips : r.tips ≡ s.tips

pub record IsTipStep (s r : PyramState) : Type 0 where
  pub body : r.body ≡ s.body
  pub tips : turned_count s.tips ≤ turned_count r.tips + 1

large_step : (s r : PyramState) (n : ℕ) → n < 8 → IsPyram s → (after_letter pyram_powers) s (axis_turn_at n) ≡ Some r
    → IsLargeStep s r n
large_step s r n lt own e =
    let turn = map-some (pyram_monoid.turned s) (letter_table pyram_powers (axis_turn_at n)) r e in
    let part = map-some large_turn (slice_get (all_turns tetraminx_powers) n) turn.0 (sym (large_at n lt) ∙ lawful_pyram.numbered n ∙ turn.1) in
    let made : pyram_monoid.turned s (large_turn part.0) ≡ r = ap (pyram_monoid.turned s) part.2 ∙ turn.2 in
    record {
      body = ap (option_map (tetraminx_monoid.turned s.body)) (sym (lawful_tetraminx.numbered n) ∙ part.1) ∙ ap (λ x. Some x.body) made;
      tips = sym (ap (λ x. x.tips) made) ∙ added_digits-still 4 3 s.tips own.tips;
    }

tip_step : (s r : PyramState) (n k : ℕ) → n ≡ 8 + k → IsPyram s → (after_letter pyram_powers) s (axis_turn_at n) ≡ Some r
    → IsTipStep s r
tip_step s r n k is own e =
    let turn = map-some (pyram_monoid.turned s) (letter_table pyram_powers (axis_turn_at n)) r e in
    let rows : List (List ℕ) = part_turns (λ r. r.axials) tetraminx_powers in
    let part = map-some tip_turn (slice_get rows k) turn.0 (sym (tip_at n k is) ∙ lawful_pyram.numbered n ∙ turn.1) in
    let made : pyram_monoid.turned s (tip_turn part.0) ≡ r = ap (pyram_monoid.turned s) part.2 ∙ turn.2 in
    let row = All-got (λ row. (turned_count row ≡ 1) × (length row ≡ 4)) rows k part.0 one_turned part.1 in
    let less = turned_count-added 3 s.tips part.0 (own.tips.size ∙ sym row.1) own.tips.below in
    let same : turned_count (added_digits 3 s.tips part.0) ≡ turned_count r.tips = ap (λ x. turned_count x.tips) made in
    record { body = sym (ap (λ x. x.body) made) ∙ tetraminx_laws.solved_last s.body own.body; tips = omega (arith, less, same, row.0) }

-- ---- words

-- what a word of a Pyraminx does by parts
pub record IsByParts (s end : PyramState) (w : List Turn) : Type 0 where
  pub body : play (after_letter tetraminx_powers) s.body (large_turns w) ≡ Some end.body
  pub tips : turned_count s.tips ≤ turned_count end.tips + tip_turn_count w
  pub count : length (large_turns w) + tip_turn_count w ≡ length w

with_letter : (s r end : PyramState) (t : Turn) (w : List Turn) → IsPyram s → (after_letter pyram_powers) s t ≡ Some r
    → IsByParts r end w → IsByParts s end (t ∷ w)
with_letter s r end t w own e rest =
    let number = lawful_pyram.numbers s r t e in
    let n : ℕ = number.0 in
    let again : (after_letter pyram_powers) s (axis_turn_at n) ≡ Some r = ap ((after_letter pyram_powers) s) number.2 ∙ e in
    let P : Turn → Type 0 = λ u. IsByParts s end (u ∷ w) in
    elim (cases_lt n 8) [
      | inl lt ↦
          let same : n ≡ 2 * (n / 2) + (n % 2 + 1 - 1) = omega arith in
          let letter = ap axis_turn_at same
          ∙ axis_at (n / 2) (n % 2 + 1) (record { axis_below = omega arith; some_third = omega arith; no_whole = omega arith }) in
          let step = large_step s r n lt own again in
          let body = sym (ap ((after_letter tetraminx_powers) s.body) letter) ∙ step.body in
          let tips : turned_count r.tips ≡ turned_count s.tips = ap turned_count step.tips in
          subst P (sym letter ∙ number.2) (record {
            body = play-first (after_letter tetraminx_powers) s.body r.body (Axis (n / 2) (n % 2 + 1)) (large_turns w) body ∙ rest.body;
            tips = omega (arith, rest.tips, tips);
            count = omega (arith, rest.count);
          })
      | inr le ↦
          let same : n ≡ 8 + 2 * ((n - 8) / 2) + (n % 2 + 1 - 1) = omega arith in
          let letter = ap axis_turn_at same
          ∙ tip_letter ((n - 8) / 2) (n % 2 + 1) (record { axis_below = omega arith; some_third = omega arith; no_whole = omega arith }) in
          let step = tip_step s r n (n - 8) (omega arith) own again in
          subst P (sym letter ∙ number.2) (record {
            body = ap (λ b. play (after_letter tetraminx_powers) b (large_turns w)) (sym step.body) ∙ rest.body;
            tips = omega (arith, rest.tips, step.tips);
            count = omega (arith, rest.count);
          })
    ]

pub by_parts : (s end : PyramState) (w : List Turn) → IsPyram s → play (after_letter pyram_powers) s w ≡ Some end
    → IsByParts s end w
by_parts s end [] own e =
    let same : s ≡ end = same_Some s end (sym (play-empty (after_letter pyram_powers) s) ∙ e) in
    let tips : turned_count s.tips ≡ turned_count end.tips = ap (λ x. turned_count x.tips) same in
    record { body = play-empty (after_letter tetraminx_powers) s.body ∙ ap (λ x. Some x.body) same; tips = omega (arith, tips); count = refl }
by_parts s end (t ∷ w) own e =
    let parts = play-parts (after_letter pyram_powers) s end t w e in
    with_letter s parts.0 end t w own parts.1 (by_parts parts.0 end w (lawful_pyram.lawful.kept s parts.0 t own parts.1) parts.2)

-- and words of large turns do to the body what they do without tips
pub with_tips : (b c : TetraminxState) (tips : List ℕ) (w : List Turn) → IsPyram (record { body = b; tips = tips })
    → play (after_letter tetraminx_powers) b w ≡ Some c
    → play (after_letter pyram_powers) (record { body = b; tips = tips }) w ≡ Some (record { body = c; tips = tips })
with_tips b c tips [] own e =
    let same : b ≡ c = same_Some b c (sym (play-empty (after_letter tetraminx_powers) b) ∙ e) in
    play-empty (after_letter pyram_powers) (record { body = b; tips = tips }) ∙ ap (λ x. Some (record { body = x; tips = tips })) same
with_tips b c tips (t ∷ w) own e =
    let parts = play-parts (after_letter tetraminx_powers) b c t w e in
    let number = lawful_tetraminx.numbers b parts.0 t parts.1 in
    let large = pyram_large (record { body = b; tips = tips }) b parts.0 tips number.0 refl refl own number.1 (ap ((after_letter tetraminx_powers) b) number.2 ∙ parts.1) in
    let first : (after_letter pyram_powers) (record { body = b; tips = tips }) t ≡ Some (record { body = parts.0; tips = tips }) =
    ap ((after_letter pyram_powers) (record { body = b; tips = tips })) (sym number.2) ∙ large.after in
    play-first (after_letter pyram_powers) (record { body = b; tips = tips }) (record { body = parts.0; tips = tips }) t w first ∙ with_tips parts.0 c tips w large.valid parts.2
