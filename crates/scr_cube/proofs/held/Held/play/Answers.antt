use Rattle.std.proofs.Common.{sym, ap, ◌∙◌, arith}
use Rattle.scr_combinatorics.specs.Play.{play}
use Rattle.scr_combinatorics.proofs.PlayLaws.{play-empty}
use Rattle.scr_combinatorics.proofs.StepLaws.{play-more, play-barred, play-whole}
use Rattle.scr_cube.specs.Held.{held_cube_after}
use Rattle.scr_cube.proofs.HeldLaws.{held_cube_after-none}
use Rattle.scr_cube.proofs.held.Held.play.Goals as goal

pub loop-turn-init : goal.loop-turn-init
loop-turn-init c = play-empty held_cube_after c.args.self.now

pub loop-turn-preserved : goal.loop-turn-preserved
loop-turn-preserved c =
    play-more held_cube_after _ _ _ _ c.loop-turn.invariant _ c.loop-turn-test.true
    ∙ ap (held_cube_after c.loop-turn.state) c.in-Face.is ∙ c.turn-state.ensures

pub returns-then-not-is_of : goal.returns-then-not-is_of
returns-then-not-is_of c =
    let none = held_cube_after-none c.loop-turn.state _ (sym c.is_of.ensures ∙ c.if-not-is_of.true) in
    sym (play-barred held_cube_after _ _ _ _ c.loop-turn.invariant _ c.loop-turn-test.true none)
    ∙ ap (play held_cube_after c.args.self.now) c.turns-turn-items.ensures.value

pub returns : goal.returns
returns c =
    sym (play-whole held_cube_after _ _ _ _ c.loop-turn.invariant (omega arith))
    ∙ ap (play held_cube_after c.args.self.now) c.turns-turn-items.ensures.value
