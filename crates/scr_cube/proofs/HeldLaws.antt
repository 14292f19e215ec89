-- Turns of a held cube: what they do to the cube itself, that they can be taken back and merged, and the words at
-- places that the cube's own words are.
use Rattle.std.proofs.Common.{◌≡◌, ℕ, suc, ◌+◌, ◌-◌, ◌%◌, ◌<◌, ◌≤◌, Bool, true, false, IsTrue, cond, List, [], ◌∷◌, Some, None, length, refl, sym, ap, ◌∙◌, subst, arith, lit≤, eqb, eqb-true, eq-eqb, inl, inr, append-nil}
use Rattle.std.specs.Prelude.{Contains, slice_index}
use Rattle.std.proofs.lemmas.Bool.{false≢true, cases_lt, eqb-false}
use Rattle.std.proofs.lemmas.Option.{same_Some}
use Rattle.scr_combinatorics.specs.Lists.{numbers_from}
use Rattle.scr_combinatorics.specs.Permutations.{place_of}
use Rattle.scr_combinatorics.specs.Play.{play}
use Rattle.scr_combinatorics.specs.Lawful.{IsLawful}
use Rattle.scr_combinatorics.specs.Tidy.{word_of, with_turn, tidy}
use Rattle.scr_combinatorics.proofs.PlayLaws.{play-empty, play-first, play-parts, play-one}
use Rattle.scr_combinatorics.proofs.TidyLaws.{with_turn-alike}
use Rattle.scr_orbit.specs.PowerPuzzles.{after_letter}
use Rattle.scr_orbit.proofs.Parts.{ap_both}
use Rattle.scr_notation.specs.declared.event.Event.TheVariants.{Bf333}
use Rattle.scr_notation.specs.declared.turn.Turn.{Turn}
use Rattle.scr_notation.specs.declared.turn.Turn.TheVariants.{Face, Axis, Tip, Layers, Twist, Pins, Over, Wide}
use Rattle.scr_notation.specs.TurnNumbers.{face_turn_at}
use Rattle.scr_notation.specs.Turning.{opposite, turn_merging, turns_merged}
use Rattle.scr_notation.specs.Turns.{permits}
use Rattle.scr_notation.proofs.Below.{and_first, and_second}
use Rattle.scr_notation.proofs.NumberLaws.{IsFaceTurn, face_turn_parts, face_turn_of_parts}
use Rattle.scr_notation.proofs.OppositeLaws.{permits-opposite}
use Rattle.scr_cube.specs.Cube333.{CubeState, IsCube, cube_powers}
use Rattle.scr_cube.specs.Held.{HeldState, IsHeld, whole_turned, face_letter, centres_after, held_cube_after, faces_turned, holds}
use Rattle.scr_cube.proofs.Laws333.{lawful_cube, turned-some}
use Rattle.scr_cube.specs.Stickers.{opposite_place}
use Rattle.scr_cube.proofs.Holds.{turned_face, centres_turned, centre-lt, own-place, centre_place-lt, centre_place-is, Contains-whole, axis-kept, whole_turned-none, whole_turned-add, whole_turned-four, centres_played}

-- ---- one letter

-- a letter that makes something of a state is a turn of the event, which turns the cube and moves the centres
pub record IsHeldStep (s r : HeldState) (t : Turn) : Type 0 where
  pub permitted : IsTrue (permits Bf333 t)
  pub cube : after_letter cube_powers s.cube (face_letter s.centres t) ≡ Some r.cube
  pub centres : centres_after s.centres t ≡ r.centres

pub step-of : (s r : HeldState) (t : Turn) → held_cube_after s t ≡ Some r → IsHeldStep s r t
unfolding held_cube_after
step-of s r t e = grind arith

pub step-made : (s r : HeldState) (t : Turn) → IsHeldStep s r t → held_cube_after s t ≡ Some r
unfolding held_cube_after
step-made s r t h = grind arith

-- and any other letter is none
pub held_cube_after-none : (s : HeldState) (t : Turn) → permits Bf333 t ≡ false → held_cube_after s t ≡ None
unfolding held_cube_after
held_cube_after-none s t e = grind arith

-- a turn at a place, and a wide turn
pub place_parts : (place depth amount : ℕ) → place < 6 → 1 ≤ depth → depth ≤ 2 → (depth ≡ 2 → place < 3) → 0 < amount
    → amount ≤ 3 → IsFaceTurn 2 1 place depth amount
place_parts place depth amount low some few wide quarter whole = record {
  face_below = low;
  some_layer = some;
  near_layers = λ near. few;
  far_layers = λ far.
      elim (cases_lt depth 2) [
        | inl lt ↦ omega arith
        | inr ge ↦ let two : depth ≡ 2 = omega arith in absurd (omega (arith, wide two))
      ];
  some_quarter = quarter;
  no_whole = omega arith;
}

pub face_parts : (place depth amount : ℕ) → IsTrue (permits Bf333 (Face place depth amount))
    → IsFaceTurn 2 1 place depth amount
face_parts place depth amount h = face_turn_parts 2 1 place depth amount h

-- a turn of more layers than one is at U, R or F
pub near_place : (place depth amount : ℕ) → IsFaceTurn 2 1 place depth amount → (depth ≡ 1 → ⊥) → place < 3
near_place place depth amount p more = grind arith

pub Contains-turned : (centres : List ℕ) (place depth amount : ℕ) → IsFaceTurn 2 1 place depth amount
    → Contains holds centres → Contains holds (centres_turned centres place depth amount)
Contains-turned centres place depth amount p there = by_depth (eqb depth 1) refl
  where
    by_depth : (b : Bool) → eqb depth 1 ≡ b → Contains holds (cond b centres (whole_turned place centres amount))
    by_depth true e = there
    by_depth false e = Contains-whole place centres amount (near_place place depth amount p (eqb-false depth 1 e)) there

pub Contains-after : (centres : List ℕ) (t : Turn) → IsTrue (permits Bf333 t) → Contains holds centres
    → Contains holds (centres_after centres t)
Contains-after centres (Face place depth amount) h there = Contains-turned centres place depth amount (face_parts place depth amount h) there
Contains-after centres _ h there = there

-- states stay valid
pub IsHeld-after : (s r : HeldState) (t : Turn) → IsHeld s → held_cube_after s t ≡ Some r → IsHeld r
IsHeld-after s r t valid e =
    let step = step-of s r t e in
    record {
      cube = lawful_cube.lawful.kept s.cube r.cube (face_letter s.centres t) valid.cube step.cube;
      centres = subst (Contains holds) step.centres (Contains-after s.centres t step.permitted valid.centres);
    }

opposite_place-lt : (place : ℕ) → opposite_place place < 6
opposite_place-lt place = omega arith

pub turned_face-lt : (centres : List ℕ) (place depth : ℕ) → place < 6 → Contains holds centres
    → turned_face centres place depth < 6
turned_face-lt centres place depth lt there = by_depth (eqb depth 1)
  where
    by_depth : (b : Bool) → slice_index centres (cond b place (opposite_place place)) < 6
    by_depth true = centre-lt place lt centres there
    by_depth false = centre-lt (opposite_place place) (opposite_place-lt place) centres there

-- and so does each turn of the event of a held cube
pub held_cube_after-some : (s : HeldState) (t : Turn) → IsTrue (permits Bf333 t) → Contains holds s.centres
    → (r : HeldState) × (held_cube_after s t ≡ Some r)
held_cube_after-some s (Face place depth amount) h there =
    let p = face_parts place depth amount h in
    let lt = turned_face-lt s.centres place depth p.face_below there in
    let made = turned-some s.cube (turned_face s.centres place depth) amount lt p.some_quarter p.no_whole in
    let r : HeldState = record { cube = made.0; centres = centres_turned s.centres place depth amount } in
    (r, step-made s r (Face place depth amount) (record { permitted = h; cube = made.1; centres = refl }))
held_cube_after-some s (Axis axis amount) h there = absurd (false≢true h)
held_cube_after-some s (Tip tip amount) h there = absurd (false≢true h)
held_cube_after-some s (Layers top bottom) h there = absurd (false≢true h)
held_cube_after-some s Twist h there = absurd (false≢true h)
held_cube_after-some s (Pins pins amount) h there = absurd (false≢true h)
held_cube_after-some s Over h there = absurd (false≢true h)
held_cube_after-some s (Wide letter plus) h there = absurd (false≢true h)

-- ---- words

-- a word does to the cube what the faces that it turns do
pub played-faces : (s r : HeldState) (w : List Turn) → play held_cube_after s w ≡ Some r
    → play (after_letter cube_powers) s.cube (faces_turned s.centres w) ≡ Some r.cube
unfolding faces_turned
played-faces s r [] e = grind (arith, same_Some, play-empty)
played-faces s r (t ∷ w) e =
    let parts = play-parts held_cube_after s r t w e in
    grind (arith, step-of, parts, play-first, played-faces parts.0 r w parts.2)

pub length-faces_turned : (centres : List ℕ) (w : List Turn) → length (faces_turned centres w) ≡ length w
unfolding faces_turned
length-faces_turned centres [] = refl
length-faces_turned centres (t ∷ w) = ap suc (length-faces_turned (centres_after centres t) w)

-- and to the centres what it does to them alone
pub played-centres : (s r : HeldState) (w : List Turn) → play held_cube_after s w ≡ Some r
    → centres_played s.centres w ≡ r.centres
unfolding centres_played
played-centres s r [] e = ap (λ (x : HeldState). x.centres) (same_Some s r (sym (play-empty held_cube_after s) ∙ e))
played-centres s r (t ∷ w) e =
    let parts = play-parts held_cube_after s r t w e in
    grind (arith, step-of, parts, centres_played, played-centres parts.0 r w parts.2)

-- a turn of the cube itself
record IsOuter (t : Turn) : Type 0 where
  face : ℕ
  amount : ℕ
  is : t ≡ Face face 1 amount
  below : face < 6
  some : 0 < amount
  few : amount < 4

outer-of : (c d : CubeState) (t : Turn) → after_letter cube_powers c t ≡ Some d → IsOuter t
unfolding face_turn_at
outer-of c d t e = grind (arith, lawful_cube)

-- The cube's own words are words at places: each face is turned where it is, and the centres stay. In the hold of the
-- solved cube they are the same.
pub record IsAtPlaces (c d : CubeState) (centres : List ℕ) (w : List Turn) : Type 0 where
  pub word : List Turn
  pub size : length word ≡ length w
  pub own : centres ≡ numbers_from 0 6 → word ≡ w
  pub played : play held_cube_after (record { cube = c; centres = centres }) word ≡ Some (record { cube = d; centres = centres })

pub at_places : (c d : CubeState) (centres : List ℕ) (w : List Turn) → Contains holds centres
    → play (after_letter cube_powers) c w ≡ Some d → IsAtPlaces c d centres w
at_places c d centres [] there e = grind (arith, same_Some, play-empty)
at_places c d centres (t ∷ w) there e =
    let parts = play-parts (after_letter cube_powers) c d t w e in
    let o = outer-of c parts.0 t parts.1 in
    let rest = at_places parts.0 d centres w there parts.2 in
    let place : ℕ = place_of o.face centres in
    let letter : Turn = Face place 1 o.amount in
    let low = centre_place-lt o.face o.below centres there in
    let permitted =
    face_turn_of_parts 2 1 place 1 o.amount (record {
      face_below = low;
      some_layer = lit≤ tt;
      near_layers = λ near. lit≤ tt;
      far_layers = λ far. lit≤ tt;
      some_quarter = o.some;
      no_whole = o.few;
    }) in
    let cube = ap (λ f. after_letter cube_powers c (Face f 1 o.amount)) (centre_place-is o.face o.below centres there) ∙ ap (after_letter cube_powers c) (sym o.is) ∙ parts.1 in
    let step = step-made (record { cube = c; centres = centres }) (record { cube = parts.0; centres = centres }) letter (record { permitted = permitted; cube = cube; centres = refl }) in
    record {
      word = letter ∷ rest.word;
      size = ap suc rest.size;
      own = λ solved.
          let at : place ≡ o.face = ap (place_of o.face) solved ∙ own-place o.face o.below in
          ap (λ rest. letter ∷ rest) (rest.own solved) ∙ ap (λ x. x ∷ w) (ap (λ p. Face p 1 o.amount) at ∙ sym o.is);
      played = play-first held_cube_after (record { cube = c; centres = centres }) (record { cube = parts.0; centres = centres }) letter rest.word step ∙ rest.played;
    }

-- ---- turns are lawful

-- a turn at a place turns one face, however often
face-kept : (centres : List ℕ) (place depth amount : ℕ) → IsFaceTurn 2 1 place depth amount → Contains holds centres
    → turned_face (centres_turned centres place depth amount) place depth ≡ turned_face centres place depth
face-kept centres place depth amount p there = by_depth (eqb depth 1) refl
  where
    by_depth : (b : Bool) → eqb depth 1 ≡ b
        → slice_index (cond b centres (whole_turned place centres amount)) (cond b place (opposite_place place)) ≡ slice_index centres (cond b place (opposite_place place))
    by_depth true e = refl
    by_depth false e = axis-kept place centres amount (near_place place depth amount p (eqb-false depth 1 e)) there

-- two turns move the centres as one does, which may be none
centres-both : (centres : List ℕ) (place depth n m k : ℕ) → IsFaceTurn 2 1 place depth n → Contains holds centres
    → (n + m) % 4 ≡ k → n + m < 8
    → centres_turned (centres_turned centres place depth n) place depth m ≡ cond (eqb k 0) centres (centres_turned centres place depth k)
centres-both centres place depth n m k p there sum few = by_depth (eqb depth 1) refl (eqb k 0) refl
  where
    whole : (depth ≡ 1 → ⊥) → whole_turned place centres (n + m) ≡ whole_turned place centres k
    whole more =
        elim (cases_lt (n + m) 4) [
          | inl lt ↦ ap (whole_turned place centres) (let e : n + m ≡ k = omega arith in e)
          | inr ge ↦
              ap (whole_turned place centres) (let e : n + m ≡ 4 + k = omega arith in e) ∙ sym (whole_turned-add place centres 4 k)
              ∙ ap (λ c. whole_turned place c k) (whole_turned-four place centres (near_place place depth n p more) there)
        ]

    by_depth : (b : Bool) → eqb depth 1 ≡ b → (z : Bool) → eqb k 0 ≡ z
        → cond b (cond b centres (whole_turned place centres n)) (whole_turned place (cond b centres (whole_turned place centres n)) m)
        ≡ cond z centres (cond b centres (whole_turned place centres k))
    by_depth true e true f = refl
    by_depth true e false f = refl
    by_depth false e true f =
        whole_turned-add place centres n m ∙ whole (eqb-false depth 1 e) ∙ ap (whole_turned place centres) (eqb-true k 0 f) ∙ whole_turned-none place centres
    by_depth false e false f = whole_turned-add place centres n m ∙ whole (eqb-false depth 1 e)

-- one letter, turned back
cube_undone : (c d : CubeState) (face amount : ℕ) → IsCube c → after_letter cube_powers c (Face face 1 amount) ≡ Some d
    → after_letter cube_powers d (Face face 1 (4 - amount)) ≡ Some c
cube_undone c d face amount valid e =
    sym (play-one (after_letter cube_powers) d (Face face 1 (4 - amount)))
    ∙ lawful_cube.lawful.taken_back c d (Face face 1 amount ∷ []) valid (play-one (after_letter cube_powers) c (Face face 1 amount) ∙ e)

undone : (s r : HeldState) (t : Turn) → IsHeld s → held_cube_after s t ≡ Some r
    → held_cube_after r (opposite t) ≡ Some s
undone s r (Face place depth amount) valid e =
    let step = step-of s r (Face place depth amount) e in
    let p = face_parts place depth amount step.permitted in
    let face : turned_face r.centres place depth ≡ turned_face s.centres place depth =
    ap (λ c. turned_face c place depth) (sym step.centres) ∙ face-kept s.centres place depth amount p valid.centres in
    let cube =
    ap (λ f. after_letter cube_powers r.cube (Face f 1 (4 - amount))) face
    ∙ cube_undone s.cube r.cube (turned_face s.centres place depth) amount valid.cube step.cube in
    let centres =
    ap (λ c. centres_turned c place depth (4 - amount)) (sym step.centres)
    ∙ centres-both s.centres place depth amount (4 - amount) 0 p valid.centres (omega (arith, p.no_whole)) (omega (arith, p.no_whole)) in
    step-made r s (Face place depth (4 - amount)) (record {
      permitted = permits-opposite Bf333 (Face place depth amount) step.permitted;
      cube = cube;
      centres = centres;
    })
undone s r t valid e = absurd (false≢true (step-of s r t e).permitted)

-- two turns of one face of the cube
cube_merged : (c r d : CubeState) (face n m : ℕ) → IsCube c → after_letter cube_powers c (Face face 1 n) ≡ Some r
    → after_letter cube_powers r (Face face 1 m) ≡ Some d
    → play (after_letter cube_powers) c (word_of (turns_merged (Face face 1 n) (Face face 1 m))) ≡ Some d
unfolding tidy with_turn
cube_merged c r d face n m valid e f =
    let word : List Turn = Face face 1 n ∷ Face face 1 m ∷ [] in
    let played = play-first (after_letter cube_powers) c r (Face face 1 n) (Face face 1 m ∷ []) e ∙ play-one (after_letter cube_powers) r (Face face 1 m) ∙ f in
    grind (arith, lawful_cube, played, eq-eqb, with_turn-alike, append-nil)

pub same_held : (s r : HeldState) → s.cube ≡ r.cube → s.centres ≡ r.centres → s ≡ r
same_held s r a b = ap_both (λ cube centres. record { cube = cube; centres = centres }) a b

-- and of a held cube
merged : (s r q : HeldState) (place depth n m : ℕ) → IsHeld s → held_cube_after s (Face place depth n) ≡ Some r
    → held_cube_after r (Face place depth m) ≡ Some q
    → play held_cube_after s (word_of (turns_merged (Face place depth n) (Face place depth m))) ≡ Some q
unfolding word_of
merged s r q place depth n m valid e f = by_sum (eqb ((n + m) % 4) 0) refl
  where
    k : ℕ
    k = (n + m) % 4

    first : IsHeldStep s r (Face place depth n)
    first = step-of s r (Face place depth n) e

    second : IsHeldStep r q (Face place depth m)
    second = step-of r q (Face place depth m) f

    p : IsFaceTurn 2 1 place depth n
    p = face_parts place depth n first.permitted

    o : IsFaceTurn 2 1 place depth m
    o = face_parts place depth m second.permitted

    face : turned_face r.centres place depth ≡ turned_face s.centres place depth
    face = ap (λ c. turned_face c place depth) (sym first.centres) ∙ face-kept s.centres place depth n p valid.centres

    cube : play (after_letter cube_powers) s.cube (word_of (turns_merged (Face (turned_face s.centres place depth) 1 n) (Face (turned_face s.centres place depth) 1 m))) ≡ Some q.cube
    cube =
        cube_merged s.cube r.cube q.cube (turned_face s.centres place depth) n m valid.cube first.cube
        (ap (λ g. after_letter cube_powers r.cube (Face g 1 m)) (sym face) ∙ second.cube)

    centres : cond (eqb k 0) s.centres (centres_turned s.centres place depth k) ≡ q.centres
    centres =
        sym (centres-both s.centres place depth n m k p valid.centres refl (omega (arith, p.no_whole, o.no_whole)))
        ∙ ap (λ c. centres_turned c place depth m) first.centres ∙ second.centres

    by_sum : (z : Bool) → eqb k 0 ≡ z
        → play held_cube_after s (word_of (cond z None (Some (Face place depth k)))) ≡ Some q
    by_sum true z =
        let none = ap (λ b. play (after_letter cube_powers) s.cube (word_of (cond b None (Some (Face (turned_face s.centres place depth) 1 k))))) (sym z) ∙ cube in
        play-empty held_cube_after s
        ∙ ap Some (same_held s q (same_Some s.cube q.cube (sym (play-empty (after_letter cube_powers) s.cube) ∙ none))
        (ap (λ b. cond b s.centres (centres_turned s.centres place depth k)) (sym z) ∙ centres))
    by_sum false z =
        let one = ap (λ b. play (after_letter cube_powers) s.cube (word_of (cond b None (Some (Face (turned_face s.centres place depth) 1 k))))) (sym z) ∙ cube in
        play-one held_cube_after s (Face place depth k)
        ∙ step-made s q (Face place depth k) (record {
          permitted = face_turn_of_parts 2 1 place depth k (record {
            face_below = p.face_below;
            some_layer = p.some_layer;
            near_layers = p.near_layers;
            far_layers = p.far_layers;
            some_quarter = omega (arith, eqb-false k 0 z);
            no_whole = omega arith;
          });
          cube = sym (play-one (after_letter cube_powers) s.cube (Face (turned_face s.centres place depth) 1 k)) ∙ one;
          centres = ap (λ b. cond b s.centres (centres_turned s.centres place depth k)) (sym z) ∙ centres;
        })

merges : (s r q : HeldState) (t u : Turn) → IsHeld s → IsTrue (turn_merging.alike t u) → held_cube_after s t ≡ Some r
    → held_cube_after r u ≡ Some q → play held_cube_after s (word_of (turns_merged t u)) ≡ Some q
merges s r q (Face place depth n) (Face other deep m) valid alike e f =
    let places : place ≡ other = eqb-true place other (and_first (eqb place other) (eqb depth deep) alike) in
    let depths : depth ≡ deep = eqb-true depth deep (and_second (eqb place other) (eqb depth deep) alike) in
    let same : Face other deep m ≡ Face place depth m = ap (λ x. Face x deep m) (sym places) ∙ ap (λ x. Face place x m) (sym depths) in
    ap (λ u. play held_cube_after s (word_of (turns_merged (Face place depth n) u))) same
    ∙ merged s r q place depth n m valid e (ap (held_cube_after r) (sym same) ∙ f)
merges s r q (Face place depth n) u valid alike e f = absurd (false≢true alike)
merges s r q t u valid alike e f = absurd (false≢true (step-of s r t e).permitted)

pub IsLawful-held : IsLawful held_cube_after opposite turn_merging IsHeld
IsLawful-held = record { keeps = IsHeld-after; undoes = undone; merges = merges }
