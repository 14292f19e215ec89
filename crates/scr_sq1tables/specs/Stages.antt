-- The stages by which a Square-1 is solved, and the scramble that they give.
--
-- First the square shape: top and bottom then have a corner, an edge and so on in turn, as when solved. Then each
-- corner is brought next to the one that is opposite to it, across its layer, when solved, and so is each edge. Then
-- all pieces are brought home. A turn of the layers ends the first and the last of these three, as a stage of its own.
-- Before all of them the equator is turned, where they would leave it turned.
use Rattle.std.specs.Prelude.{◌≡◌, ℕ, ◌+◌, ◌*◌, ◌/◌, ◌%◌, nat_lt, ℤ, pos, ◌-ℤ◌, ◌+ℤ◌, neg_ℤ, if◌then◌else◌, List, [], ◌∷◌, ◌++◌, map, slice_index, Some}
use Rattle.scr_combinatorics.specs.Permutations.{parity, place_of}
use Rattle.scr_combinatorics.specs.Play.{play}
use Rattle.scr_combinatorics.specs.Stages.{Stage, HasStageWord, IsSolution, IsScrambleByStages}
use Rattle.scr_notation.specs.declared.turn.Turn.{Turn}
use Rattle.scr_notation.specs.declared.turn.Turn.TheVariants.{Layers, Twist}
use Rattle.scr_notation.specs.Layers.{twelfths, are_still}
use Rattle.scr_notation.specs.Turning.{opposite, turn_merging}
use Rattle.scr_sq1.specs.Units.{Sq1State, solved_sq1, sq1_after}
use Rattle.scr_sq1.specs.Shapes.{shape_of}
use Rattle.scr_sq1.specs.Numbers.{corners_of, edges_of}

-- ---- words

-- The layers turned by so many twelfths, taken modulo 12 into -5 to 6, as a word: where neither turns, it is empty.
unfoldable pub turn_word : ℤ → ℤ → List Turn
turn_word top bottom =
    if are_still (twelfths top) (twelfths bottom) then [] else Layers (twelfths top) (twelfths bottom) ∷ []

-- so many quarters of a turn
abbrev pub quarters : ℕ → ℤ
quarters n = pos (3 * n)

-- a turn of the layers by quarters of a turn: number 4 a + b turns the top by a of them, and the bottom by b
unfoldable pub quarter_word : ℕ → List Turn
quarter_word n = turn_word (quarters (n / 4)) (quarters (n % 4))

-- ---- the square shape

-- letter 12 (x + 5) + (y + 5), for x and y from -5 to 6, turns the layers by x and y, and twists
unfoldable pub shape_letter : ℕ → List Turn
shape_letter n = turn_word (pos (n / 12) -ℤ pos 5) (pos (n % 12) -ℤ pos 5) ++ Twist ∷ []

-- 1 where of the lists of corners and of edges, in unit order, one is even and the other odd
unfoldable pub oddness : Sq1State → ℕ
oddness s = (parity (corners_of s.units) + parity (edges_of s.units)) % 2

-- A state is normal where it has the shape of the solved one, and its lists of corners and of edges have one parity.
pub record IsNormal (s : Sq1State) : Type 0 where
  pub shape : shape_of s.units ≡ shape_of solved_sq1.units
  pub even : oddness s ≡ 0

-- letter 2 b + a, for a and b 0 or 1, turns the top by -a and the bottom by b
unfoldable pub squaring_letter : ℕ → List Turn
squaring_letter n = turn_word (neg_ℤ (pos (n % 2))) (pos (n / 2))

-- One of these four turns makes a state normal; the first of them is none.
abbrev pub squaring_stage : Stage Sq1State Turn
squaring_stage = record { letters = 4; letter = squaring_letter; IsGoal = IsNormal; bound = 1 }

-- Turns and twists lead to a state in which one of the four does that.
abbrev pub shape_stage : Stage Sq1State Turn
shape_stage =
    record { letters = 144; letter = shape_letter; IsGoal = HasStageWord sq1_after squaring_stage; bound = 13 }

-- ---- the pairs

-- The corners 0 2, 1 3, 4 6, 5 7 are mates, and so are the edges: when solved, they stand opposite to each other in
-- their layer.
abbrev pub mates : List ℕ
mates = 2 ∷ 3 ∷ 0 ∷ 1 ∷ 6 ∷ 7 ∷ 4 ∷ 5 ∷ []

-- at each place the place of the mate of the piece that stands there
unfoldable pub pairing_of : List ℕ → List ℕ
pairing_of pieces = map (λ piece. place_of (slice_index mates piece) pieces) pieces

-- Mates stand where mates stand when solved, corners and edges.
abbrev pub IsPaired : Sq1State → Type 0
IsPaired s = (pairing_of (corners_of s.units) ≡ mates) × (pairing_of (edges_of s.units) ≡ mates)

-- For a and b from 0 to 3, letter 4 a + b turns the layers by 3 a and 3 b - 1, twists, and turns them by 0 and 1;
-- letter 16 + 4 a + b turns them by 3 a + 1 and 3 b, twists, and turns them by -1 and 0. Each leaves a normal state
-- normal.
unfoldable pub pairing_letter : ℕ → List Turn
pairing_letter n =
    let top : ℤ = quarters (n / 4 % 4) in
    let bottom : ℤ = quarters (n % 4) in
    if nat_lt n 16 then turn_word top (bottom -ℤ pos 1) ++ Twist ∷ turn_word (pos 0) (pos 1)
    else turn_word (top +ℤ pos 1) bottom ++ Twist ∷ turn_word (neg_ℤ (pos 1)) (pos 0)

abbrev pub pairing_stage : Stage Sq1State Turn
pairing_stage = record { letters = 32; letter = pairing_letter; IsGoal = IsPaired; bound = 20 }

-- ---- home

-- exchanges the edges at the places 1 and 6, and those at 3 and 4
abbrev pub edge_word : List Turn
edge_word =
    turn_word (pos 0) (neg_ℤ (pos 1)) ++ Twist ∷ turn_word (pos 1) (pos 1) ++ Twist ∷ turn_word (neg_ℤ (pos 1)) (pos 0)

-- exchanges the corners at the places 0 and 4, and those at 2 and 6
abbrev pub corner_word : List Turn
corner_word =
    turn_word (pos 0) (neg_ℤ (pos 1)) ++ Twist ∷ turn_word (neg_ℤ (pos 2)) (neg_ℤ (pos 2))
    ++ Twist ∷ turn_word (pos 2) (pos 3)

-- for a and b from 0 to 3, letter 4 a + b turns the layers by quarters a and b, and exchanges edges;
-- letter 16 + 4 a + b turns them so, and exchanges corners
unfoldable pub home_letter : ℕ → List Turn
home_letter n = quarter_word (n % 16) ++ (if nat_lt n 16 then edge_word else corner_word)

-- One of the sixteen turns by quarters brings the layers home, and the equator may stand turned; the first of them is
-- none.
abbrev pub last_stage : Stage Sq1State Turn
last_stage = record { letters = 16; letter = quarter_word; IsGoal = λ s. s.units ≡ solved_sq1.units; bound = 1 }

-- Exchanges lead to a state in which one of the sixteen does that.
abbrev pub home_stage : Stage Sq1State Turn
home_stage = record { letters = 32; letter = home_letter; IsGoal = HasStageWord sq1_after last_stage; bound = 20 }

-- ---- the solution, and the scramble

-- the stages that begin at the square shape
abbrev pub later_stages : List (Stage Sq1State Turn)
later_stages = squaring_stage ∷ pairing_stage ∷ home_stage ∷ last_stage ∷ []

-- the stages that solve the layers
abbrev pub layer_stages : List (Stage Sq1State Turn)
layer_stages = shape_stage ∷ later_stages

-- They lead from here to solved, the equator too.
abbrev pub IsSolvedByLayers : Sq1State → Type 0
IsSolvedByLayers s =
    (turns : List Turn) × IsSolution sq1_after layer_stages s turns × (play sq1_after s turns ≡ Some solved_sq1)

-- turns the equator, and leaves the layers as they are
abbrev pub equator_word : List Turn
equator_word = Twist ∷ Layers (pos 6) (pos 0) ∷ Twist ∷ Layers (pos 6) (pos 0) ∷ Twist ∷ Layers (pos 6) (pos 0) ∷ []

-- Where they would leave the equator turned, it is turned before them.
abbrev pub equator_stage : Stage Sq1State Turn
equator_stage = record { letters = 1; letter = λ n. equator_word; IsGoal = IsSolvedByLayers; bound = 1 }

abbrev pub sq1_stages : List (Stage Sq1State Turn)
sq1_stages = equator_stage ∷ layer_stages

-- The scramble of a state: the words of these stages, tidied and taken back.
abbrev pub IsScrambleSq1 : Sq1State → List Turn → Type 0
IsScrambleSq1 = IsScrambleByStages sq1_after opposite turn_merging sq1_stages
