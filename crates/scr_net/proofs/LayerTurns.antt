-- Which turns a net plays.
use Rattle.std.proofs.Common.{◌≡◌, ℕ, Bool, true, false, IsTrue, cond, Some, None, refl, ap}
use Rattle.std.specs.Prelude.{nat_lt}
use Rattle.std.proofs.lemmas.Bool.{false≢true}
use Rattle.scr_combinatorics.proofs.PlayedWhere.{TellsTurns}
use Rattle.scr_notation.specs.declared.turn.Turn.{Turn}
use Rattle.scr_notation.specs.declared.turn.Turn.TheVariants.{Face, Axis, Tip, Layers, Twist, Pins, Over, Wide}
use Rattle.scr_notation.specs.declared.event.Kind.{Kind}
use Rattle.scr_notation.specs.declared.event.Kind.TheVariants.{Faces, Axes, LayersAndTwist, PinSets, WideTurns}
use Rattle.scr_notation.specs.Turns.{has_turn}
use Rattle.scr_notation.proofs.NumberLaws.{IsFaceTurn, face_turn_parts}
use Rattle.scr_net.specs.Nets.{Letters, net_after, turned_net, turns_layers}

does : (side : ℕ) (net : Letters) (t : Turn) → IsTrue (turns_layers side t)
    → (r : Letters) × (net_after side net t ≡ Some r)
unfolding turns_layers
does side net (Face face depth amount) is =
    let turned = turned_net side face depth amount net in
    (turned, ap (λ b. cond b (Some turned) None) is)
does side net (Axis axis amount) is = absurd (false≢true is)
does side net (Tip tip amount) is = absurd (false≢true is)
does side net (Layers top bottom) is = absurd (false≢true is)
does side net Twist is = absurd (false≢true is)
does side net (Pins pins amount) is = absurd (false≢true is)
does side net Over is = absurd (false≢true is)
does side net (Wide letter plus) is = absurd (false≢true is)

only : (side : ℕ) (net r : Letters) (t : Turn) → net_after side net t ≡ Some r → IsTrue (turns_layers side t)
unfolding turns_layers
only side net r (Face face depth amount) e = few (nat_lt depth side) (turned_net side face depth amount net) e
  where
    few : (b : Bool) (turned : Letters) → cond b (Some turned) None ≡ Some r → IsTrue b
    few true turned e = refl
    few false turned e = cc
only side net r (Axis axis amount) e = cc
only side net r (Tip tip amount) e = cc
only side net r (Layers top bottom) e = cc
only side net r Twist e = cc
only side net r (Pins pins amount) e = cc
only side net r Over e = cc
only side net r (Wide letter plus) e = cc

pub TellsTurns-net : (side : ℕ) → TellsTurns (net_after side) (λ net. Unit {0}) (turns_layers side)
TellsTurns-net side = record {
  does = λ net t own is. does side net t is;
  only = λ net r t own e. only side net r t e;
  keeps = λ net r t own e. tt;
}

-- what a turn of layers at a face is, whatever kind of puzzles has it
pub face_turn : (kind : Kind) (face depth amount : ℕ) → IsTrue (has_turn kind (Face face depth amount))
    → (near : ℕ) × (far : ℕ) × IsFaceTurn near far face depth amount
face_turn (Faces near far) face depth amount h = (near, far, face_turn_parts near far face depth amount h)
face_turn (Axes tips) face depth amount h = cc
face_turn LayersAndTwist face depth amount h = cc
face_turn PinSets face depth amount h = cc
face_turn WideTurns face depth amount h = cc
