use Rattle.std.proofs.Common.{◌≡◌, ℕ, Bool, List, true, false, refl, arith, ◌+◌, ◌%◌, ◌<◌, cond, eq-eqb, ne_eqb, get_or, sym, ap, ◌∙◌, subst}
use Rattle.std.specs.Prelude.{◌==◌, Contains}
use Rattle.scr_orbit.specs.PowerPuzzles.{after_letter}
use Rattle.scr_notation.specs.declared.turn.Turn.TheVariants.{Face}
use Rattle.scr_notation.proofs.NumberLaws.{face_turn_of_parts}
use Rattle.scr_cube.specs.Cube333.{cube_powers}
use Rattle.scr_cube.specs.Held.{centres_after, holds, held_cube_after, whole_turned}
use Rattle.scr_cube.proofs.Holds.{quarter_turned, whole_turned-none, whole_turned-more}
use Rattle.scr_cube.proofs.HeldLaws.{place_parts, turned_face-lt, Contains-turned, step-made}
use Rattle.scr_cube.proofs.held.Held.turn.Goals.{After-loop-quarter, Joined-depth-eq1, then-depth-eq1, else-depth-eq1, in-0, in-1, in_default}
use Rattle.scr_cube.proofs.held.Held.turn.Goals as goal

-- the place of the centre whose face is turned, and how often the whole cube is
turned : (c : Joined-depth-eq1) → (c.if-depth-eq1.turned.0 ≡ cond (c.args.depth == 1) c.args.place ((c.args.place + 3) % 6))
    × (c.if-depth-eq1.turned.1 ≡ cond (c.args.depth == 1) 0 c.args.amount)
turned c =
    elim c.if-depth-eq1.branch [
      | then-depth-eq1 w ↦
          let one = sym (eq-eqb c.args.depth 1 w.if-depth-eq1.true) in
          (ap (λ (p : ℕ × ℕ). p.0) w.turned-is ∙ ap (λ b. cond b c.args.place ((c.args.place + 3) % 6)) one, ap (λ (p : ℕ × ℕ). p.1) w.turned-is ∙ ap (λ b. cond b 0 c.args.amount) one)
      | else-depth-eq1 w ↦
          let more = sym (ne_eqb c.args.depth 1 w.if-depth-eq1.false) in
          (ap (λ (p : ℕ × ℕ). p.0) w.turned-is ∙ ap (λ b. cond b c.args.place ((c.args.place + 3) % 6)) more, ap (λ (p : ℕ × ℕ). p.1) w.turned-is ∙ ap (λ b. cond b 0 c.args.amount) more)
    ]

-- a whole turn is a wide one's
wide : (depth amount quarter : ℕ) → quarter < cond (depth == 1) 0 amount → depth ≡ 1 → ⊥
wide depth amount quarter lt one = omega (arith, subst (λ n. quarter < n) (ap (λ b. cond b 0 amount) (eq-eqb depth 1 one)) lt)

pub loop-quarter-init : goal.loop-quarter-init
loop-quarter-init c = sym (whole_turned-none c.args.place c.self.inside.centres)

pub loop-quarter-preserved : goal.loop-quarter-preserved
loop-quarter-preserved c =
    let turn = λ (place : ℕ). quarter_turned place c.loop-quarter.centres in
    let more = wide c.args.depth c.args.amount c.loop-quarter._quarter
    (subst (λ n. c.loop-quarter._quarter < n) (turned (goal.at.loop-quarter-preserved c).Joined-depth-eq1).1 c.loop-quarter-test.true) in
    let once : c.match-place.centres ≡ turn c.args.place =
    elim c.match-place.branch [
      | in-0 w ↦ w.centres-is ∙ ap turn {x = 0} {y = c.args.place} (omega (arith, w.in-0.is))
      | in-1 w ↦ w.centres-is ∙ ap turn {x = 1} {y = c.args.place} (omega (arith, w.in-1.is))
      | in_default w ↦ w.centres-is ∙ ap turn {x = 2} {y = c.args.place} (omega (arith, c.requires.wide (omega (arith, c.requires.layers.0, c.requires.layers.1, more))))
    ] in
    once ∙ ap (quarter_turned c.args.place) c.loop-quarter.invariant
    ∙ whole_turned-more c.args.place c.self.inside.centres c.loop-quarter._quarter

by_depth : (place : ℕ) (centres : List ℕ) (amount : ℕ) (b : Bool)
    → whole_turned place centres (cond b 0 amount) ≡ cond b centres (whole_turned place centres amount)
by_depth place centres amount true = whole_turned-none place centres
by_depth place centres amount false = refl

centres : (c : After-loop-quarter) → c.if-depth-eq1.turned.1 ≡ cond (c.args.depth == 1) 0 c.args.amount
    → c.loop-quarter.centres ≡ centres_after c.self.inside.centres (Face c.args.place c.args.depth c.args.amount)
centres c often =
    let all : c.loop-quarter._quarter ≡ c.if-depth-eq1.turned.1 = omega arith in
    c.loop-quarter.invariant
    ∙ ap (whole_turned c.args.place c.self.inside.centres) (all ∙ often)
    ∙ by_depth c.args.place c.self.inside.centres c.args.amount (c.args.depth == 1)

pub turn-requires-clause-generator : goal.turn-requires-clause-generator
turn-requires-clause-generator c =
    let is = (turned (goal.at.turn-requires-clause-generator c).Joined-depth-eq1).0 in
    subst (λ place. get_or c.self.inside.centres place 0 < 6) (sym is) (turned_face-lt c.self.inside.centres c.args.place c.args.depth c.requires.place c.self.invariant)

pub invariant_of-result : goal.invariant_of-result
invariant_of-result c =
    let parts = place_parts c.args.place c.args.depth c.args.amount c.requires.place c.requires.layers.0 c.requires.layers.1 c.requires.wide c.requires.quarters.0 c.requires.quarters.1 in
    subst (Contains holds) (sym (centres (goal.at.invariant_of-result c).After-loop-quarter (turned (goal.at.invariant_of-result c).Joined-depth-eq1).1))
    (Contains-turned c.self.inside.centres c.args.place c.args.depth c.args.amount parts c.self.invariant)

pub returns : goal.returns
returns c =
    let parts = place_parts c.args.place c.args.depth c.args.amount c.requires.place c.requires.layers.0 c.requires.layers.1 c.requires.wide c.requires.quarters.0 c.requires.quarters.1 in
    ap (λ s. held_cube_after s (Face c.args.place c.args.depth c.args.amount)) (sym c.self.view_is)
    ∙ step-made _ (record { cube = c.turn.result; centres = c.loop-quarter.centres }) (Face c.args.place c.args.depth c.args.amount) (record {
      permitted = face_turn_of_parts 2 1 c.args.place c.args.depth c.args.amount parts;
      cube = ap (λ place. after_letter cube_powers c.self.inside.cube (Face (get_or c.self.inside.centres place 0) 1 c.args.amount)) (sym (turned (goal.at.returns c).Joined-depth-eq1).0) ∙ c.turn.ensures;
      centres = sym (centres (goal.at.returns c).After-loop-quarter (turned (goal.at.returns c).Joined-depth-eq1).1);
    })
