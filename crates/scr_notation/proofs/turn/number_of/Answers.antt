use Rattle.std.proofs.Common.{◌≡◌, ◌+◌, ◌*◌, Bool, true, false, cond, IsTrue, rules, refl, ap, subst, sym, ◌∙◌}
use Rattle.std.specs.Prelude.{not}
use mir.Val.{bool_byte}
use Rattle.scr_notation.specs.TurnNumbers.{turn_at}
use Rattle.scr_notation.specs.Turns.{has_turn}
use Rattle.scr_notation.proofs.NumberLaws.{at_face, at_axis, at_tip, at_layers, at_twist, at_wide}
use Rattle.scr_notation.proofs.turn.number_of.Goals as goal

pub returns-in-Face-clause-turn : goal.returns-in-Face-clause-turn
returns-in-Face-clause-turn c =
    at_face c.args.kind _ _ _ (subst (λ t. IsTrue (has_turn c.args.kind t)) c.in-Face.is c.requires.of_kind) ∙ sym c.in-Face.is

pub returns-in-Axis-clause-turn : goal.returns-in-Axis-clause-turn
returns-in-Axis-clause-turn c =
    at_axis c.args.kind _ _ (subst (λ t. IsTrue (has_turn c.args.kind t)) c.in-Axis.is c.requires.of_kind) ∙ sym c.in-Axis.is

pub returns-in-Tip-clause-turn : goal.returns-in-Tip-clause-turn
returns-in-Tip-clause-turn c =
    at_tip c.args.kind _ _ (subst (λ t. IsTrue (has_turn c.args.kind t)) c.in-Tip.is c.requires.of_kind) ∙ sym c.in-Tip.is

pub returns-in-Layers-clause-turn : goal.returns-in-Layers-clause-turn
returns-in-Layers-clause-turn c =
    at_layers c.args.kind _ _ _ _ (subst (λ t. IsTrue (has_turn c.args.kind t)) c.in-Layers.is c.requires.of_kind) (search rules) (search rules) ∙ sym c.in-Layers.is

pub returns-in-Twist-clause-turn : goal.returns-in-Twist-clause-turn
returns-in-Twist-clause-turn c =
    at_twist c.args.kind (subst (λ t. IsTrue (has_turn c.args.kind t)) c.in-Twist.is c.requires.of_kind) ∙ sym c.in-Twist.is

pub returns-in-Wide-clause-turn : goal.returns-in-Wide-clause-turn
returns-in-Wide-clause-turn c =
    ap (λ n. turn_at c.args.kind (2 * c.in-Wide.letter + n)) (byte c.in-Wide.plus)
    ∙ at_wide c.args.kind _ _ (subst (λ t. IsTrue (has_turn c.args.kind t)) c.in-Wide.is c.requires.of_kind) ∙ sym c.in-Wide.is
  where
    byte : (plus : Bool) → bool_byte (not plus) ≡ cond plus 0 1
    byte true = refl
    byte false = refl
