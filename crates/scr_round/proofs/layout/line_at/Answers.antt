use Rattle.std.proofs.Common.{◌≡◌, ℕ, suc, ◌+◌, ◌-◌, ◌*◌, ◌/◌, ◌%◌, ◌<◌, ◌≤◌, length, sym, ap, ◌∙◌, arith, refl}
use Rattle.std.specs.Prelude.{slice_get}
use Rattle.std.proofs.lemmas.Nat.{div_below, div-add-mod'}
use Rattle.std.proofs.Math.Nat.{mul-le-mul_right, mod-lt}
use Rattle.scr_list.specs.declared.round.Round.{Round}
use Rattle.scr_notation.specs.Event.{per_group_of}
use Rattle.scr_round.specs.Round.{Fixed, heading, round_lines, group_lines}
use Rattle.scr_round.specs.SheetLine.{line_of}
use Rattle.scr_round.proofs.LineLaws.{length-groups_lines, round_lines-at, group_lines-slot, group_lines-last}
use Rattle.scr_round.proofs.layout.line_at.Goals as goal

-- the group of the line is one of the round's
in_group : (index : ℕ) (round : Round) (line : ℕ) → ¬ (line ≡ 0) → line < length (round_lines index round)
    → (line - 1) / (per_group_of round.event + 4) < round.groups
in_group index round line later inside =
    let all = length-groups_lines (per_group_of round.event) round.groups 65 0 in
    div_below (line - 1) (per_group_of round.event + 4) round.groups (omega arith) (omega arith)

-- the line is that of its place in its group
in_its_group : (index : ℕ) (round : Round) (line own : ℕ) → ¬ (line ≡ 0) → line < length (round_lines index round)
    → own ≡ per_group_of round.event
    → slice_get (round_lines index round) line
    ≡ slice_get (group_lines own (65 + (line - 1) / (own + 4)) ((line - 1) / (own + 4) * (own + 2))) ((line - 1) % (own + 4))
in_its_group index round line own later inside own_is =
    let size = per_group_of round.event in
    rw own_is (round_lines-at size round.groups ((line - 1) / (size + 4)) ((line - 1) % (size + 4)) line
    (round_lines index round) (Fixed (heading index round)) later
    (sym (div-add-mod' (line - 1) (size + 4))) (in_group index round line later inside) (mod-lt (line - 1) (omega arith)) refl)

pub group_name-requires : goal.group_name-requires
group_name-requires c =
    let own = c.from-own.ensures ∙ c.row.ensures.per_group ∙ ap (λ (r : Round). per_group_of r.event) c.round.view_is in
    let below = in_group c.args.index c.args.round.now c.args.line c.if-line-eq0.false c.requires.line in
    rw own (omega (arith, below, c.requires.round.few_groups))

pub returns-then-place-eq0-clause-value : goal.returns-then-place-eq0-clause-value
returns-then-place-eq0-clause-value c =
    let own = c.from-own.ensures ∙ c.row.ensures.per_group ∙ ap (λ (r : Round). per_group_of r.event) c.round.view_is in
    in_its_group c.args.index c.args.round.now c.args.line c.from-own.result c.if-line-eq0.false c.requires.line own
    ∙ rw (c.if-place-eq0.true, c.group_name.ensures) refl

pub returns-then-place-own-clause-value : goal.returns-then-place-own-clause-value
returns-then-place-own-clause-value c =
    let own = c.from-own.ensures ∙ c.row.ensures.per_group ∙ ap (λ (r : Round). per_group_of r.event) c.round.view_is in
    in_its_group c.args.index c.args.round.now c.args.line c.from-own.result c.if-line-eq0.false c.requires.line own
    ∙ rw (c.if-place-own.true, c.new.ensures) (group_lines-last c.from-own.result _ _)

pub returns-clause-value : goal.returns-clause-value
returns-clause-value c =
    let own = c.from-own.ensures ∙ c.row.ensures.per_group ∙ ap (λ (r : Round). per_group_of r.event) c.round.view_is in
    let size = c.from-own.result in
    let group = (c.args.line - 1) / (size + 4) in
    let place = (c.args.line - 1) % (size + 4) in
    let within = mod-lt (c.args.line - 1) (let some : 0 < size + 4 = omega arith in some) in
    let next : place ≡ suc (place - 1) = omega (arith, c.if-place-eq0.false) in
    in_its_group c.args.index c.args.round.now c.args.line size c.if-line-eq0.false c.requires.line own
    ∙ ap (slice_get (group_lines size (65 + group) (group * (size + 2)))) next
    ∙ group_lines-slot size (65 + group) (group * (size + 2)) (place - 1) c.label.result.bytes
    (omega (arith, within, c.if-place-eq0.false, c.if-place-own.false)) c.label.ensures

-- a slot of a group is one of the round's
below_slots : (own groups group place : ℕ) → group < groups → place < own + 4 → ¬ (place ≡ own + 3)
    → group * (own + 2) + (place - 1) < groups * (own + 2)
below_slots own groups group place below within scramble =
    let more = mul-le-mul_right (own + 2) (let next : group + 1 ≤ groups = omega arith in next) in
    omega (arith, more)

pub returns-clause-slot : goal.returns-clause-slot
returns-clause-slot c =
    let own = c.from-own.ensures ∙ c.row.ensures.per_group ∙ ap (λ (r : Round). per_group_of r.event) c.round.view_is in
    let size = per_group_of c.args.round.now.event in
    rw own (below_slots size c.args.round.now.groups ((c.args.line - 1) / (size + 4)) ((c.args.line - 1) % (size + 4))
    (in_group c.args.index c.args.round.now c.args.line c.if-line-eq0.false c.requires.line)
    (mod-lt (c.args.line - 1) (omega arith)) (rw own at c.if-place-own.false))
