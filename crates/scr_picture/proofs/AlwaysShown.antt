-- Scrambles of each event have a picture, but for a Square-1's where a turn is barred.
use Rattle.std.proofs.Common.{◌≡◌, ℕ, ◌+◌, ◌<◌, ◌≤◌, Bool, true, false, IsTrue, cond, List, [], ◌∷◌, Option, Some, None, length, get_or, refl, ap, ◌∙◌, subst, lit<, arith, ltb-true, lt-ltb}
use Rattle.std.specs.Prelude.{All, IsSome, ◌&&◌, nat_le, nat_lt, slice_get, option_and_then}
use Rattle.std.specs.Option.{option_map}
use Rattle.std.proofs.lemmas.Bool.{and_parts, false≢true, leb-true}
use Rattle.std.proofs.lemmas.List.Elements.{All-head, All-tail, All-weaker}
use Rattle.std.proofs.lemmas.Option.{slice_get-get_or}
use Rattle.scr_combinatorics.specs.Play.{play}
use Rattle.scr_combinatorics.proofs.PlayLaws.{play-empty, play-first}
use Rattle.scr_combinatorics.proofs.PlayedWhere.{played-turns}
use Rattle.scr_notation.specs.declared.event.Event.{Event}
use Rattle.scr_notation.specs.declared.event.Event.TheVariants.{Minx, Pyram, Skewb}
use Rattle.scr_notation.specs.declared.event.Puzzle.{Puzzle}
use Rattle.scr_notation.specs.declared.event.Puzzle.TheVariants as puzzle
use Rattle.scr_notation.specs.Event.{puzzle_of, puzzle_row_of}
use Rattle.scr_notation.specs.declared.turn.Turn.{Turn}
use Rattle.scr_notation.specs.declared.turn.Turn.TheVariants.{Face, Axis, Tip, Wide}
use Rattle.scr_notation.specs.Amounts.{is_amount}
use Rattle.scr_notation.specs.Faces.{depths_of, is_face_turn}
use Rattle.scr_notation.specs.Turns.{has_turn, permits}
use Rattle.scr_net.specs.Nets.{net_after, solved_net, turns_layers}
use Rattle.scr_net.proofs.LayerTurns.{TellsTurns-net}
use Rattle.scr_clock.specs.Dials.{solved}
use Rattle.scr_clock.specs.Held.{clock_after}
use Rattle.scr_clock.proofs.ScrambleLaws.{defined-iff}
use Rattle.scr_sq1.specs.Units.{solved_sq1, sq1_after}
use Rattle.scr_picture.specs.Stickers.{moved_times, move_of, stickers_after}
use Rattle.scr_picture.specs.Megaminx.{minx_moves, solved_minx}
use Rattle.scr_picture.specs.Pyraminx.{pyram_moves, solved_pyram_picture}
use Rattle.scr_picture.specs.Skewb.{skewb_moves, solved_skewb_picture}
use Rattle.scr_picture.specs.Pictures.{net_letters, net_picture, picture, picture_of}

-- what is there is shown
nothing-shown : {A B : Type 0} (f : A → B) (o : Option A) (a : A) → o ≡ Some a → option_map f o ≡ None → ⊥
nothing-shown f o a e none = cc

-- ---- cubes

depth-below : (near far face side : ℕ) → near < side → far < side → depths_of near far face < side
depth-below near far face side a b = by (nat_lt face 3) (nat_lt face 6)
  where
    by : (p q : Bool) → cond p near (cond q far 0) < side
    by true q = a
    by false true = b
    by false false = omega arith

layers-turned : (near far side : ℕ) → near < side → far < side → (t : Turn) → IsTrue (is_face_turn near far t)
    → IsTrue (turns_layers side t)
unfolding turns_layers
layers-turned near far side a b (Face face depth amount) h =
    let both = and_parts (nat_le 1 depth && nat_le depth (depths_of near far face)) (is_amount 4 amount) h in
    let layers = and_parts (nat_le 1 depth) (nat_le depth (depths_of near far face)) both.0 in
    let few : depth ≤ depths_of near far face = leb-true depth (depths_of near far face) layers.1 in
    lt-ltb depth side (omega (arith, few, depth-below near far face side a b))
layers-turned near far side a b _ h = absurd (false≢true h)

net-shown : (near far side : ℕ) → near < side → far < side → (w : List Turn)
    → All (λ t. IsTrue (is_face_turn near far t)) w → net_picture side w ≡ None → ⊥
net-shown near far side a b w all none =
    let played = played-turns (TellsTurns-net side) (solved_net side) w tt (All-weaker (λ t. IsTrue (is_face_turn near far t)) (λ t. IsTrue (turns_layers side t)) (layers-turned near far side a b) w all) in
    nothing-shown (net_letters side) (play (net_after side) (solved_net side) w) played.0 played.1 none

-- ---- stickers

-- a turn is one of so many moves
abbrev IsOneOf : ℕ → Turn → Type 0
IsOneOf count t = (k : ℕ) × (n : ℕ) × (k < count) × (move_of t ≡ Some (record { generator = k; exponent = n }))

stickers-played : (moves : List (List ℕ)) (letters : List ℕ) (w : List Turn) → All (IsOneOf (length moves)) w
    → (r : List ℕ) × (play (stickers_after moves) letters w ≡ Some r)
stickers-played moves letters [] all = (letters, play-empty (stickers_after moves) letters)
stickers-played moves letters (t ∷ w) all =
    let one = All-head (IsOneOf (length moves)) t w all in
    let next : List ℕ = moved_times one.1 (get_or moves one.0 []) letters in
    let rest = stickers-played moves next w (All-tail (IsOneOf (length moves)) t w all) in
    let first : stickers_after moves letters t ≡ Some next =
    ap (option_and_then (λ m. option_map (λ from. moved_times m.exponent from letters) (slice_get moves m.generator))) one.3
    ∙ ap (option_map (λ from. moved_times one.1 from letters)) (slice_get-get_or moves one.0 [] one.2) in
    (rest.0, play-first (stickers_after moves) letters next t w first ∙ rest.1)

axis-move : (t : Turn) → IsTrue (permits Skewb t) → IsOneOf 4 t
axis-move (Axis axis amount) h = (axis, amount, ltb-true axis 4 (and_parts (nat_lt axis 4) (is_amount 3 amount) h).0, refl)
axis-move _ h = absurd (false≢true h)

pyram-move : (t : Turn) → IsTrue (permits Pyram t) → IsOneOf 8 t
pyram-move (Axis axis amount) h =
    let lt : axis < 4 = ltb-true axis 4 (and_parts (nat_lt axis 4) (is_amount 3 amount) h).0 in
    (axis, amount, omega (arith, lt), refl)
pyram-move (Tip tip amount) h =
    let lt : tip < 4 = ltb-true tip 4 (and_parts (nat_lt tip 4) (is_amount 3 amount) h).0 in
    (4 + tip, amount, omega (arith, lt), refl)
pyram-move _ h = absurd (false≢true h)

minx-move : (t : Turn) → IsTrue (permits Minx t) → IsOneOf 3 t
minx-move (Wide letter plus) h = (letter, cond plus 1 4, ltb-true letter 3 h, refl)
minx-move _ h = absurd (false≢true h)

stickers-shown : (event : Event) (count : ℕ) (moves : List (List ℕ)) (letters : List ℕ) (text : List ℕ → List ℕ)
    → count ≡ length moves → ((t : Turn) → IsTrue (permits event t) → IsOneOf count t) → (w : List Turn)
    → All (λ t. IsTrue (permits event t)) w
    → option_map text (play (stickers_after moves) letters w) ≡ None → ⊥
stickers-shown event count moves letters text size one w all none =
    let each : All (IsOneOf count) w = All-weaker (λ t. IsTrue (permits event t)) (IsOneOf count) one w all in
    let played = stickers-played moves letters w (subst (λ n. All (IsOneOf n) w) size each) in
    nothing-shown text (play (stickers_after moves) letters w) played.0 played.1 none

-- ---- all events

-- a Clock shows its dials
none-or : {A : Type 0} (o : Option A) → IsSome o → (o ≡ None → ⊥)
none-or None h e = false≢true h
none-or (Some a) h e = cc

map-none : {A B : Type 0} (f : A → B) (o : Option A) → option_map f o ≡ None → o ≡ None
map-none f None e = refl
map-none f (Some a) e = absurd (cc)

none_barred : (what : Puzzle) (w : List Turn) → All (λ t. IsTrue (has_turn (puzzle_row_of what).kind t)) w
    → picture what w ≡ None → (what ≡ puzzle.Square1) × (play sq1_after solved_sq1 w ≡ None)
unfolding minx_moves pyram_moves skewb_moves
none_barred puzzle.Cube222 w all none = absurd (net-shown 1 0 2 (lit< tt) (lit< tt) w all none)
none_barred puzzle.Cube333 w all none = absurd (net-shown 1 1 3 (lit< tt) (lit< tt) w all none)
none_barred puzzle.Held333 w all none = absurd (net-shown 2 1 3 (lit< tt) (lit< tt) w all none)
none_barred puzzle.Fewest333 w all none = absurd (net-shown 1 1 3 (lit< tt) (lit< tt) w all none)
none_barred puzzle.Cube555 w all none = absurd (net-shown 2 2 5 (lit< tt) (lit< tt) w all none)
none_barred puzzle.Cube666 w all none = absurd (net-shown 3 2 6 (lit< tt) (lit< tt) w all none)
none_barred puzzle.Cube777 w all none = absurd (net-shown 3 3 7 (lit< tt) (lit< tt) w all none)
none_barred puzzle.Clock w all none = absurd (none-or (clock_after solved w) ((defined-iff solved w).1 all) (map-none _ (clock_after solved w) none))
none_barred puzzle.Megaminx w all none = absurd (stickers-shown Minx 3 minx_moves solved_minx _ refl minx-move w all none)
none_barred puzzle.Pyraminx w all none = absurd (stickers-shown Pyram 8 pyram_moves solved_pyram_picture _ refl pyram-move w all none)
none_barred puzzle.Skewb w all none = absurd (stickers-shown Skewb 4 skewb_moves solved_skewb_picture _ refl axis-move w all none)
none_barred puzzle.Square1 w all none = (refl, map-none _ (play sq1_after solved_sq1 w) none)

pub none_where_barred : (event : Event) (w : List Turn) → All (λ t. IsTrue (permits event t)) w
    → picture_of event w ≡ None → (puzzle_of event ≡ puzzle.Square1) × (play sq1_after solved_sq1 w ≡ None)
none_where_barred event w all none = none_barred (puzzle_of event) w all none
