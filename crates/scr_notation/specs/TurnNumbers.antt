-- The numbers of turns, which order the words of a search. Each kind's turns have the numbers below its count.
use Rattle.std.specs.Prelude.{ℕ, ◌+◌, ◌-◌, ◌*◌, ◌/◌, ◌%◌, ◌==◌, nat_lt, if◌then◌else◌, pos, ◌-ℤ◌, slice_index}
use Rattle.scr_notation.specs.declared.event.Kind.{Kind}
use Rattle.scr_notation.specs.declared.event.Kind.TheVariants.{Faces, Axes, LayersAndTwist, PinSets, WideTurns}
use Rattle.scr_notation.specs.declared.turn.Turn.{Turn}
use Rattle.scr_notation.specs.declared.turn.Turn.TheVariants.{Face, Axis, Tip, Layers, Twist, Pins, Over, Wide}
use Rattle.scr_notation.specs.Pins.{pin_sets}

-- Depth by depth, and there face by face, three turns by one, two and three quarters. (So U U2 U' R R2 R' .. are 0 to
-- 17, and each event's turns are the first ones.)
unfoldable pub face_turn_at : ℕ → Turn
face_turn_at n = Face (n / 3 % 6) (n / 18 + 1) (n % 3 + 1)

-- two turns about each axis, by one and two thirds, and behind them two of each tip
unfoldable pub axis_turn_at : ℕ → Turn
axis_turn_at n = if nat_lt n 8 then Axis (n / 2) (n % 2 + 1) else Tip ((n - 8) / 2) (n % 2 + 1)

-- twelve amounts of the top layer, from -5 to 6, and for each of them twelve of the bottom layer; the twist stands at
-- 65, the place of (0,0), which is no turn
unfoldable pub layer_turn_at : ℕ → Turn
layer_turn_at n = if n == 65 then Twist else Layers (pos (n / 12) -ℤ pos 5) (pos (n % 12) -ℤ pos 5)

-- twelve turns of each pin set, by 0 to 11 hours, and `y2` after the last
unfoldable pub clock_turn_at : ℕ → Turn
clock_turn_at n = if n == 108 then Over else Pins (slice_index pin_sets (n / 12)) (n % 12)

-- two turns of each letter, with plus and without
unfoldable pub wide_turn_at : ℕ → Turn
wide_turn_at n = Wide (n / 2) (n % 2 == 0)

-- how many turns a kind has
abbrev pub turn_count : Kind → ℕ
turn_count (Faces near far) = 9 * (near + far)
turn_count (Axes tips) = if tips then 16 else 8
turn_count LayersAndTwist = 144
turn_count PinSets = 109
turn_count WideTurns = 6

-- the turn of a kind with this number, below the count
unfoldable pub turn_at : Kind → ℕ → Turn
turn_at (Faces near far) n = face_turn_at n
turn_at (Axes tips) n = axis_turn_at n
turn_at LayersAndTwist n = layer_turn_at n
turn_at PinSets n = clock_turn_at n
turn_at WideTurns n = wide_turn_at n
