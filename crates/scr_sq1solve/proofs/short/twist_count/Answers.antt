use Rattle.std.proofs.Common.{◌≡◌, ℕ, ◌+◌, ◌<◌, List, [], ◌∷◌, get_or, length, map, take, refl, sym, ap, ◌∙◌, arith}
use Rattle.std.proofs.lemmas.List.{map-append, take_all, take_more}
use Rattle.scr_combinatorics.specs.Play.{count_in}
use Rattle.scr_combinatorics.proofs.PlayLaws.{count_in-append}
use Rattle.scr_notation.specs.TurnNumbers.{layer_turn_at}
use Rattle.scr_sq1.proofs.NumberedTurns.{layers_number, turns-numbered, twist_number}
use Rattle.scr_sq1solve.specs.Counts.{twists_of, twists_in}
use Rattle.scr_sq1solve.proofs.short.twist_count.Goals as goal
use Rattle.scr_sq1solve.proofs.short.twist_count.Goals.{then-from-eq-TWIST, else-from-eq-TWIST}

-- one turn more
twists-next : (numbers : List ℕ) (i : ℕ) → i < length numbers
    → twists_in (map layer_turn_at (take (i + 1) numbers))
    ≡ twists_in (map layer_turn_at (take i numbers)) + twists_of (layer_turn_at (get_or numbers i 0))
unfolding count_in
twists-next numbers i inside =
    ap (λ ns. twists_in (map layer_turn_at ns)) (take_more numbers i 0 inside)
    ∙ ap twists_in (map-append layer_turn_at (take i numbers) (get_or numbers i 0 ∷ []))
    ∙ count_in-append twists_of (map layer_turn_at (take i numbers)) (layer_turn_at (get_or numbers i 0) ∷ [])
    ∙ omega arith

pub loop-number-init : goal.loop-number-init
unfolding count_in
loop-number-init c = record { counted = refl; few = omega arith }

pub loop-number-preserved : goal.loop-number-preserved
loop-number-preserved c =
    let numbers = c.numbers-number-items.result.now in
    let i = c.loop-number.number-index in
    let number = get_or numbers i 0 in
    let next = twists-next numbers i c.loop-number-test.true in
    let before = c.loop-number.invariant in
    elim c.if-from-eq-TWIST.branch [
      | then-from-eq-TWIST w ↦
          let one = ap twists_of (twist_number number (omega (arith, w.if-from-eq-TWIST.true, c.from.ensures))) in
          record { counted = omega (arith, w.count-is, before.counted, next, one); few = omega (arith, w.count-is, before.few) }
      | else-from-eq-TWIST w ↦
          let none = ap twists_of (layers_number number (λ is. w.if-from-eq-TWIST.false (c.from.ensures ∙ is))) in
          record { counted = omega (arith, w.count-is, before.counted, next, none); few = omega (arith, w.count-is, before.few) }
    ]

pub returns : goal.returns
returns c =
    let numbers = c.numbers-number-items.result.now in
    let all = take_all c.loop-number.number-index numbers (omega (arith, c.loop-number-test.false)) in
    c.loop-number.invariant.counted ∙ ap (λ ns. twists_in (map layer_turn_at ns)) all
    ∙ ap twists_in (sym (turns-numbered c.args.word.now numbers c.requires c.numbers-number-items.ensures.value))
