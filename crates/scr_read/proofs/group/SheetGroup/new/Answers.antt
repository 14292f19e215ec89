use Rattle.std.proofs.Common.{◌≡◌, ◌+◌, length, take, arith, sym, ap, subst, ◌∙◌}
use Rattle.std.proofs.lemmas.List.{length-map, length-take-le}
use Rattle.std.specs.Prelude.{All}
use Rattle.scr_notation.specs.Event.{per_group_of}
use Rattle.scr_read.specs.Heads.{HeadOf}
use Rattle.scr_read.proofs.GroupLemmas.{IsScrambleOf, scrambles-are, turns-are}
use Rattle.scr_read.proofs.group.SheetGroup.new.Goals as goal

pub invariant_of-result : goal.invariant_of-result
invariant_of-result c =
    let count : c.from-count.result ≡ per_group_of c.args.head.event =
    c.from-count.ensures ∙ c.per_group.ensures.value ∙ ap (λ (h : HeadOf). per_group_of h.event) c.head.view_is in
    let each = subst (λ n. All (IsScrambleOf c.args.head.event) (take (n + 2) c.args.scrambles)) (sym count) c.requires.scrambles in
    let slots = take (c.from-count.result + 2) c.args.scrambles in
    let few = c.per_group.ensures.few in
    let size : length slots ≡ c.from-count.result + 2 = length-take-le (c.from-count.result + 2) c.args.scrambles (omega (arith, c.from-count.ensures, few)) in (
      record {
        round = c.requires.round;
        head = c.requires.head;
        number = c.requires.number;
        scrambles = record { each_slot = length-map slots (λ s. s.turns) ∙ size ∙ ap (λ n. n + 2) count; each = turns-are c.args.head.event slots each };
      },
      scrambles-are c.args.head.event slots each,
      ap (λ n. n + 2) count,
    )
