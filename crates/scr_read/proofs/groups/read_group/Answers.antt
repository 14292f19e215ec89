use Rattle.std.proofs.Common.{◌≡◌, ◌+◌, ◌<◌, length, take, arith, sym, ap, subst, ◌∙◌}
use Rattle.std.specs.Prelude.{All}
use Rattle.scr_notation.specs.Event.{per_group_of}
use Rattle.scr_read.specs.Heads.{HeadOf}
use Rattle.scr_read.specs.Groups.{GroupOf}
use Rattle.scr_read.proofs.GroupLemmas.{IsScrambleOf, turns_of}
use Rattle.scr_read.proofs.SlotLemmas.{comes, one_more, each_read, turns_read, left_behind}
use Rattle.scr_read.proofs.groups.read_group.Goals as goal

pub read_slot-requires : goal.read_slot-requires
read_slot-requires c =
    let next = c.requires.group in
    let own = ap (λ (h : HeadOf). per_group_of h.event) c.head.view_is in
    let below : c.loop-slot.slot < length next.group =
    omega (arith, c.loop-slot-test.true, c.from-count.ensures, c.per_group.ensures.value, own, next.is.each_slot) in
    (_, _, comes c.args.head.now.event c.args.pieces.now next c.loop-slot.slot c.loop-slot.pieces c.loop-slot.scrambles (c.loop-slot.invariant next) below)

pub loop-slot-preserved : goal.loop-slot-preserved
loop-slot-preserved c = λ next.
    let own = ap (λ (h : HeadOf). per_group_of h.event) c.head.view_is in
    let below : c.loop-slot.slot < length next.group =
    omega (arith, c.loop-slot-test.true, c.from-count.ensures, c.per_group.ensures.value, own, next.is.each_slot) in
    one_more c.args.head.now.event c.args.pieces.now next c.loop-slot.slot c.loop-slot.pieces c.loop-slot.scrambles (c.loop-slot.invariant next) below
    c.read_slot.result c.read_slot.new.pieces c.read_slot.ensures.pieces c.read_slot.ensures.lines (omega (arith, c.loop-slot-test.true, c.from-count.ensures, c.per_group.ensures.few))

pub new-requires-clause-scrambles : goal.new-requires-clause-scrambles
new-requires-clause-scrambles c =
    let next = c.requires.group in
    let own = ap (λ (h : HeadOf). per_group_of h.event) c.head.view_is in
    let all : c.loop-slot.slot ≡ per_group_of c.args.head.now.event + 2 =
    omega (arith, c.loop-slot-test.false, c.loop-slot.auto.slot-end, c.from-count.ensures, c.per_group.ensures.value, own) in
    subst (λ (h : HeadOf). All (IsScrambleOf h.event) (take (per_group_of h.event + 2) c.loop-slot.scrambles)) (sym c.copied.ensures)
    (each_read c.args.head.now.event c.args.pieces.now next c.loop-slot.slot c.loop-slot.pieces c.loop-slot.scrambles (c.loop-slot.invariant next) all)

pub returns-clause-group : goal.returns-clause-group
returns-clause-group c = λ next.
    let own = ap (λ (h : HeadOf). per_group_of h.event) c.head.view_is in
    let all : c.loop-slot.slot ≡ per_group_of c.args.head.now.event + 2 =
    omega (arith, c.loop-slot-test.false, c.loop-slot.auto.slot-end, c.from-count.ensures, c.per_group.ensures.value, own) in
    let group_with : HeadOf → GroupOf = λ h. record {
      round = c.args.round;
      head = h;
      number = c.args.number;
      line = c.args.line;
      scrambles = turns_of (take (per_group_of h.event + 2) c.loop-slot.scrambles);
    } in
    c.new.ensures ∙ ap group_with c.copied.ensures
    ∙ ap (λ t. record { round = c.args.round; head = c.args.head.now; number = c.args.number; line = c.args.line; scrambles = t })
    (turns_read c.args.head.now.event c.args.pieces.now next c.loop-slot.slot c.loop-slot.pieces c.loop-slot.scrambles (c.loop-slot.invariant next) all)

pub returns-clause-behind : goal.returns-clause-behind
returns-clause-behind c = λ next.
    let own = ap (λ (h : HeadOf). per_group_of h.event) c.head.view_is in
    let all : c.loop-slot.slot ≡ per_group_of c.args.head.now.event + 2 =
    omega (arith, c.loop-slot-test.false, c.loop-slot.auto.slot-end, c.from-count.ensures, c.per_group.ensures.value, own) in
    left_behind c.args.head.now.event c.args.pieces.now next c.loop-slot.slot c.loop-slot.pieces c.loop-slot.scrambles (c.loop-slot.invariant next) all
    c.next-end.new.self c.next-end.result c.next-end.ensures
