-- Which turns each kind of puzzles has, and so each event (WCA Regulations, article 12).
use Rattle.std.specs.Prelude.{Bool}
use Rattle.scr_notation.specs.declared.event.Event.{Event}
use Rattle.scr_notation.specs.declared.event.Kind.{Kind}
use Rattle.scr_notation.specs.declared.event.Kind.TheVariants.{Faces, Axes, LayersAndTwist, PinSets, WideTurns}
use Rattle.scr_notation.specs.declared.turn.Turn.{Turn}
use Rattle.scr_notation.specs.Event.{kind_of}
use Rattle.scr_notation.specs.Faces.{is_face_turn}
use Rattle.scr_notation.specs.Axes.{is_axis_turn}
use Rattle.scr_notation.specs.Layers.{is_layer_turn}
use Rattle.scr_notation.specs.Pins.{is_clock_turn}
use Rattle.scr_notation.specs.Wide.{is_wide_turn}

-- a kind has this turn
abbrev pub has_turn : Kind → Turn → Bool
has_turn (Faces near far) turn = is_face_turn near far turn
has_turn (Axes tips) turn = is_axis_turn tips turn
has_turn LayersAndTwist turn = is_layer_turn turn
has_turn PinSets turn = is_clock_turn turn
has_turn WideTurns turn = is_wide_turn turn

-- the event has this turn
abbrev pub permits : Event → Turn → Bool
permits event turn = has_turn (kind_of event) turn
