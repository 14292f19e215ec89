-- The net of a played cube is the played net.
use Rattle.std.proofs.Common.{◌≡◌, ℕ, zero, suc, ◌-◌, ◌<◌, Bool, true, List, [], ◌∷◌, Option, Some, None, cond, refl, sym, ap, ◌∙◌, lit<, lt-ltb, eqb-true, arith, subst}
use Rattle.std.specs.Prelude.{◌==◌, IsSome, slice_get, unwrap_or}
use Rattle.std.specs.Option.{option_map}
use Rattle.std.proofs.lemmas.Option.{same_Some}
use Rattle.scr_combinatorics.specs.Play.{play}
use Rattle.scr_combinatorics.proofs.PlayLaws.{and_then-some, play-empty, play-first, play-parts, map-some}
use Rattle.scr_orbit.specs.Monoids.{Monoid, IsMonoid, after_by, power, power_of, power_table}
use Rattle.scr_orbit.specs.Orbits.{Orbit, solved_orbit, turned_orbit}
use Rattle.scr_orbit.specs.PowerPuzzles.{after_letter}
use Rattle.scr_orbit.proofs.MonoidLaws.{IsValid-power}
use Rattle.scr_orbit.proofs.Orders.{each_at}
use Rattle.scr_orbit.proofs.PowerLaws.{All-got}
use Rattle.scr_orbit.proofs.TableTests.{All-from_test, is_zero_sum, IsZeroSumOrbit-from_test}
use Rattle.scr_notation.specs.declared.turn.Turn.{Turn}
use Rattle.scr_notation.specs.FaceLetters.{quarters_of}
use Rattle.scr_notation.proofs.FaceLaws.{IsQuartersOf-read}
use Rattle.scr_cube.specs.Cube333.{CubeState, IsCube, cube_quarters, cube_monoid, cube_powers, solved_cube}
use Rattle.scr_cube.specs.Cube222.{IsCorners222, quarters_222, powers_222, solved_222}
use Rattle.scr_cube.specs.Stickers.{corner_faces, edge_faces}
use Rattle.scr_cube.proofs.Laws333.{cube_laws, All-quarters}
use Rattle.scr_cube.proofs.Laws222.{lawful_222}
use Rattle.scr_net.specs.declared.geometry.Sticker.{Sticker}
use Rattle.scr_net.specs.Geometry.{sticker_at, brought_from, IsSticker}
use Rattle.scr_net.specs.Nets.{Letters, letter_at, net_of, net_after, quarter_net, solved_net, turned_net}
use Rattle.scr_net.specs.Pieces.{corner_faces_222, corners_letter, cube_letter, letter_of_pieces, net_of_corners, net_of_cube, place_at}
use Rattle.scr_net.proofs.StickerLaws.{IsSticker-at, IsSticker-brought}
use Rattle.scr_net.proofs.NetLaws.{letter_at-net_of, net_of-same}
use Rattle.scr_net.proofs.PieceLaws.{comes_from, each_sticker, each_sticker-at, letter_of_pieces-turned}

-- a net by a rule turns as the rule does, where it does so at each sticker that passes a test, as all do
net-quarter : (side face : ℕ) (letter other : Sticker → ℕ) (test : Sticker → Bool) → 0 < side
    → each_sticker side test ≡ true
    → ((s : Sticker) → test s ≡ true → letter (brought_from (side - 1) face 1 s) ≡ other s)
    → quarter_net side face 1 (net_of side letter) ≡ net_of side other
unfolding quarter_net
net-quarter side face letter other test some passed same =
    net_of-same side (λ s. letter_at side (net_of side letter) (brought_from (side - 1) face 1 s)) other (λ f row column lf lr lc.
    let s : Sticker = sticker_at (side - 1) f row column in
    let is : IsSticker (side - 1) s = IsSticker-at (side - 1) f row column lf (omega arith) (omega arith) in
    letter_at-net_of side letter (brought_from (side - 1) face 1 s) some (IsSticker-brought (side - 1) face 1 s is)
    ∙ same s (each_sticker-at side test passed f row column lf lr lc))

-- ---- any puzzle of pieces that faces turn

module _ {S : Type 0} (m : Monoid S) (IsValid : S → Type 0) (l : IsMonoid m IsValid) (generators : List S)
    (turns : (face : ℕ) (q : S) → slice_get generators face ≡ Some q → IsValid q) (side : ℕ) (large : 1 < side) (letter : S → Sticker → ℕ)
    (comes_by : ℕ → S → Sticker → Bool) (tests : (face : ℕ) (q : S) → slice_get generators face ≡ Some q → each_sticker side (comes_by face q) ≡ true)
    (letter-turned : (face : ℕ) (s q : S) (x : Sticker) → IsValid s → IsValid q → comes_by face q x ≡ true
    → letter s (brought_from (side - 1) face 1 x) ≡ letter (m.turned s q) x) where
  abbrev net : S → Letters
  net s = net_of side (letter s)

  quarter : (face : ℕ) (q : S) → slice_get generators face ≡ Some q → (s : S) → IsValid s
      → quarter_net side face 1 (net s) ≡ net (m.turned s q)
  quarter face q there s own =
      net-quarter side face (letter s) (letter (m.turned s q)) (comes_by face q) (omega (arith, large)) (tests face q there)
      (λ x. letter-turned face s q x own (turns face q there))

  net-power : (face : ℕ) (q : S) → slice_get generators face ≡ Some q → (amount : ℕ) (s : S) → IsValid s
      → turned_net side face 1 amount (net s) ≡ net (m.turned s (power m q amount))
  unfolding turned_net power
  net-power face q there zero s own = sym (ap net (l.solved_last s own))
  net-power face q there (suc n) s own =
      let turn = turns face q there in
      ap (turned_net side face 1 n) (quarter face q there s own)
      ∙ net-power face q there n (m.turned s q) (l.kept s q own turn)
      ∙ ap net (l.grouped s q (power m q n) own turn (IsValid-power m IsValid l q n turn))

  abbrev after : S → Turn → Option S
  after = after_by m (power_table m generators quarters_of)

  -- one letter, which also keeps the state valid
  record IsFollowed (s r : S) (t : Turn) : Type 0 where
    pub valid : IsValid r
    pub shows : net_after side (net s) t ≡ Some (net r)

  IsFollowed-after : (s r : S) (t : Turn) → IsValid s → after s t ≡ Some r → IsFollowed s r t
  unfolding power_of
  IsFollowed-after s r t own e =
      let read = map-some (m.turned s) (power_table m generators quarters_of t) r e in
      let letter = and_then-some (power_of m generators) (quarters_of t) read.0 read.1 in
      let found = map-some (λ q. power m q letter.0.exponent) (slice_get generators letter.0.generator) read.0 letter.2 in
      let is = IsQuartersOf-read t letter.0 letter.1 in
      let made : m.turned s (power m found.0 letter.0.exponent) ≡ r = ap (m.turned s) found.2 ∙ read.2 in
      let turn = turns letter.0.generator found.0 found.1 in
      record {
        valid = subst IsValid made (l.kept s (power m found.0 letter.0.exponent) own (IsValid-power m IsValid l found.0 letter.0.exponent turn));
        shows = ap (net_after side (net s)) is.is
            ∙ ap (λ b. cond b (Some (turned_net side letter.0.generator 1 letter.0.exponent (net s))) None) (lt-ltb 1 side large)
            ∙ ap Some (net-power letter.0.generator found.0 found.1 letter.0.exponent s own ∙ ap net made);
      }

  net-played : (w : List Turn) (s e : S) → IsValid s → play after s w ≡ Some e
      → play (net_after side) (net s) w ≡ Some (net e)
  net-played [] s e own h =
      play-empty (net_after side) (net s) ∙ ap (λ x. Some (net x)) (same_Some s e (sym (play-empty after s) ∙ h))
  net-played (t ∷ w) s e own h =
      let parts = play-parts after s e t w h in
      let step = IsFollowed-after s parts.0 t own parts.1 in
      play-first (net_after side) (net s) (net parts.0) t w step.shows ∙ net-played w parts.0 e step.valid parts.2

  -- from the solved state, which has a solved net, the net of what a word makes is what the word makes of the net
  played_net : net m.solved ≡ solved_net side → (w : List Turn) → IsSome (play after m.solved w)
      → play (net_after side) (solved_net side) w ≡ option_map net (play after m.solved w)
  played_net solved w some = ap (λ n. play (net_after side) n w) (sym solved) ∙ by (play after m.solved w) refl some
    where
      by : (o : Option S) → play after m.solved w ≡ o → IsSome o
          → play (net_after side) (net m.solved) w ≡ option_map net (play after m.solved w)
      by None e h = absurd (cc)
      by (Some r) e h = net-played w m.solved r l.solved e ∙ sym (ap (option_map net) e)

-- ---- the 3x3x3

pub cube_turns : (face : ℕ) (q : CubeState) → slice_get cube_quarters face ≡ Some q → IsCube q
cube_turns face q = All-got IsCube cube_quarters face q All-quarters

-- a quarter turn brings to a sticker's place the letter that was where the sticker comes from
abbrev edges_come_from : ℕ → CubeState → Sticker → Bool
edges_come_from face q s =
    let t = brought_from 2 face 1 s in
    comes_from 12 2 edge_faces q.edges s.face t.face (t.face == s.face) (place_at 2 edge_faces s.point) (place_at 2 edge_faces t.point)

abbrev pub cube_comes_from : ℕ → CubeState → Sticker → Bool
cube_comes_from face q s =
    let t = brought_from 2 face 1 s in
    comes_from 8 3 corner_faces q.corners s.face t.face (edges_come_from face q s) (place_at 2 corner_faces s.point) (place_at 2 corner_faces t.point)

pub cube_tests : (face : ℕ) (q : CubeState) → slice_get cube_quarters face ≡ Some q
    → each_sticker 3 (cube_comes_from face q) ≡ true
cube_tests = each_at (λ face q. each_sticker 3 (cube_comes_from face q) ≡ true) cube_quarters (refl, (refl, (refl, (refl, (refl, (refl, tt))))))

pub cube_letter-turned : (face : ℕ) (c q : CubeState) (s : Sticker) → IsCube c → IsCube q
    → cube_comes_from face q s ≡ true → cube_letter c (brought_from 2 face 1 s) ≡ cube_letter (cube_monoid.turned c q) s
unfolding cube_letter
cube_letter-turned face c q s own turn h =
    let t : Sticker = brought_from 2 face 1 s in
    let edge : ℕ = unwrap_or (letter_of_pieces 2 edge_faces (turned_orbit 2 c.edges q.edges) s) s.face in
    let from : ℕ = unwrap_or (letter_of_pieces 2 edge_faces c.edges t) t.face in
    sym (letter_of_pieces-turned 8 3 corner_faces c.corners q.corners (lit< tt) own.corners.digits.below turn.corners.pieces.size turn.corners.digits.size 2 edge from s t (edges_come_from face q s)
    (λ e. letter_of_pieces-turned 12 2 edge_faces c.edges q.edges (lit< tt) own.edges.digits.below turn.edges.pieces.size turn.edges.digits.size 2 s.face t.face s t (t.face == s.face)
    (λ same. sym (eqb-true t.face s.face same)) e) h)

pub cube_nets : (w : List Turn) → IsSome (play (after_letter cube_powers) solved_cube w)
    → play (net_after 3) (solved_net 3) w ≡ option_map net_of_cube (play (after_letter cube_powers) solved_cube w)
unfolding net_of cube_letter letter_of_pieces solved_cube solved_orbit
cube_nets =
    played_net cube_monoid IsCube cube_laws cube_quarters cube_turns 3 (lit< tt) cube_letter cube_comes_from cube_tests cube_letter-turned refl

-- ---- the 2x2x2

corners_turns : (face : ℕ) (q : Orbit) → slice_get quarters_222 face ≡ Some q → IsCorners222 q
corners_turns face q =
    All-got IsCorners222 quarters_222 face q (All-from_test (is_zero_sum 7 3) IsCorners222 (IsZeroSumOrbit-from_test 7 3) quarters_222 refl)

abbrev corners_come_from : ℕ → Orbit → Sticker → Bool
corners_come_from face q s =
    let t = brought_from 1 face 1 s in
    comes_from 7 3 corner_faces_222 q s.face t.face (t.face == s.face) (place_at 1 corner_faces_222 s.point) (place_at 1 corner_faces_222 t.point)

corners_tests : (face : ℕ) (q : Orbit) → slice_get quarters_222 face ≡ Some q
    → each_sticker 2 (corners_come_from face q) ≡ true
corners_tests = each_at (λ face q. each_sticker 2 (corners_come_from face q) ≡ true) quarters_222 (refl, (refl, (refl, tt)))

corners_letter-turned : (face : ℕ) (o q : Orbit) (s : Sticker) → IsCorners222 o → IsCorners222 q
    → corners_come_from face q s ≡ true
    → corners_letter o (brought_from 1 face 1 s) ≡ corners_letter (powers_222.monoid.turned o q) s
unfolding corners_letter
corners_letter-turned face o q s own turn h =
    let t : Sticker = brought_from 1 face 1 s in
    sym (letter_of_pieces-turned 7 3 corner_faces_222 o q (lit< tt) own.digits.below turn.pieces.size turn.digits.size 1 s.face t.face s t (t.face == s.face)
    (λ same. sym (eqb-true t.face s.face same)) h)

pub corners_nets : (w : List Turn) → IsSome (play (after_letter powers_222) solved_222 w)
    → play (net_after 2) (solved_net 2) w ≡ option_map net_of_corners (play (after_letter powers_222) solved_222 w)
unfolding net_of corners_letter letter_of_pieces solved_orbit
corners_nets =
    played_net powers_222.monoid IsCorners222 lawful_222.lawful.joined quarters_222 corners_turns 2 (lit< tt) corners_letter corners_come_from corners_tests
    corners_letter-turned refl
