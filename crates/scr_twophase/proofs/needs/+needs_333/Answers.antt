use Rattle.std.proofs.Common.{◌≡◌, ℕ, ◌-◌, ◌*◌, ◌<◌, length, below_more, refl, sym, ap, ◌∙◌, subst, arith}
use Rattle.std.proofs.lemmas.Option.{same_Some}
use Rattle.scr_table.specs.Moves.{NeedsTurns}
use Rattle.std.proofs.lemmas.Bool.{false≢true}
use Rattle.scr_orbit.specs.Orbits.{solved_orbit}
use Rattle.scr_cube.specs.Cube333.{solved_cube}
use Rattle.scr_twophase.specs.Minima.{astray, astray_most, face_moves}
use Rattle.scr_twophase.specs.TwoParts.{is_solved}
use Rattle.scr_twophase.proofs.Astray.{astray_most-is}
use Rattle.scr_twophase.proofs.MinimaLaws.{IsTested-by, NeedsTurns-far, NeedsTurns-iff, NeedsTurns-next, NeedsTurns-solved, NeedsTurns-unsolved}
use Rattle.scr_twophase.proofs.needs.+needs_333.Goals.{After-eq}
use Rattle.scr_twophase.proofs.needs.+needs_333.Goals as goal

-- the cube that is solved is equal to it
equal : (t : ℕ) (c : After-eq t) → c.eq.result ≡ is_solved c.args.cube.now
unfolding is_solved solved_cube solved_orbit
equal t c = rw c.solved.ensures at c.eq.ensures

pub returns-then-least-eq0 : goal.returns-then-least-eq0
returns-then-least-eq0 t c =
    let is = IsTested-by c.args.cube.now c.args.least _ (λ e w l. omega (arith, c.if-least-eq0.true), λ needs. refl) in
    record { test = is.test; exact = is.exact }

pub returns-then-eq : goal.returns-then-eq
returns-then-eq t c =
    let solved = sym (equal t (goal.at.returns-then-eq t c).After-eq) ∙ c.if-eq.true in
    let is = IsTested-by c.args.cube.now c.args.least _ (
      λ e. absurd (false≢true e),
      λ needs. absurd (NeedsTurns-solved c.args.cube.now c.args.least solved (omega (arith, c.if-least-eq0.false)) needs),
    ) in
    record { test = is.test; exact = is.exact }

pub returns-then-least-eq1 : goal.returns-then-least-eq1
returns-then-least-eq1 t c =
    let unsolved = sym (equal t (goal.at.returns-then-least-eq1 t c).After-eq) ∙ c.if-eq.false in
    let is = IsTested-by c.args.cube.now c.args.least _ (
      λ e. NeedsTurns-unsolved c.args.cube.now c.args.least unsolved (λ u next lt to w l. omega (arith, c.if-least-eq1.true)),
      λ needs. refl,
    ) in
    record { test = is.test; exact = is.exact }

pub returns-then-max-least : goal.returns-then-max-least
returns-then-max-least t c =
    let cube = c.args.cube.now in
    let corners : c.pieces_astray-corners.result ≡ astray cube.corners.pieces cube.corners.digits (length cube.corners.pieces) =
    c.pieces_astray-corners.ensures ∙ ap (λ xs. astray xs c.twists.result (length xs)) c.corners.ensures.same
    ∙ ap (λ ds. astray cube.corners.pieces ds (length cube.corners.pieces)) c.twists.ensures.same in
    let edges : c.pieces_astray-edges.result ≡ astray cube.edges.pieces cube.edges.digits (length cube.edges.pieces) =
    c.pieces_astray-edges.ensures ∙ ap (λ xs. astray xs c.flips.result (length xs)) c.edges.ensures.same
    ∙ ap (λ ds. astray cube.edges.pieces ds (length cube.edges.pieces)) c.flips.ensures.same in
    let far : 4 * (c.args.least - 1) < astray_most cube = omega (arith, c.max.ensures, corners, edges, astray_most-is cube c.corners.ensures.valid, c.if-max-least.true) in
    let is = IsTested-by cube c.args.least _ (λ e. NeedsTurns-far cube c.args.least c.corners.ensures.valid far, λ needs. refl) in
    record { test = is.test; exact = is.exact }

pub returns-then-not-needs_333 : goal.returns-then-not-needs_333
returns-then-not-needs_333 t c =
    let cube = c.args.cube.now in
    let is = IsTested-by cube c.args.least _ (
      λ e. absurd (false≢true e),
      λ needs.
          let next = NeedsTurns-next cube c.turned.result c.loop-turn.turn c.args.least c.turned.ensures needs in
          absurd (false≢true (sym c.if-not-needs_333.true ∙ c.needs_333.ensures.exact.1 ((NeedsTurns-iff c.turned.result (c.args.least - 1)).0 next))),
    ) in
    record { test = is.test; exact = is.exact }

pub loop-turn-preserved : goal.loop-turn-preserved
loop-turn-preserved t c =
    below_more _ _ c.loop-turn.invariant (λ next to.
    subst (λ n. NeedsTurns face_moves n (c.args.least - 1)) (same_Some c.turned.result next (sym c.turned.ensures ∙ to))
    ((NeedsTurns-iff c.turned.result (c.args.least - 1)).1 (c.needs_333.ensures.exact.0 c.if-not-needs_333.false)))

pub returns : goal.returns
returns t c =
    let unsolved = sym (equal t (goal.at.returns t c).After-eq) ∙ c.if-eq.false in
    let is = IsTested-by c.args.cube.now c.args.least _ (
      λ e. NeedsTurns-unsolved c.args.cube.now c.args.least unsolved
          (λ u next lt to. c.loop-turn.invariant u (omega (arith, lt, c.loop-turn-test.false)) next to),
      λ needs. refl,
    ) in
    record { test = is.test; exact = is.exact }
