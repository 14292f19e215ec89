-- The net of a cube that was turned at places, with wide turns too, is the net that these turns make.
use Rattle.std.proofs.Common.{◌≡◌, ℕ, zero, suc, ◌+◌, ◌<◌, ◌≤◌, true, List, [], ◌∷◌, Option, Some, None, refl, sym, ap, ◌∙◌, subst, inl, inr, lit<, arith}
use Rattle.std.specs.Prelude.{map, Contains, IsSome, slice_get, slice_index_or}
use Rattle.std.specs.List.{range_with_len}
use Rattle.std.specs.Option.{option_map}
use Rattle.std.proofs.lemmas.Bool.{cases_lt, false≢true}
use Rattle.std.proofs.lemmas.Option.{same_Some}
use Rattle.scr_combinatorics.specs.Play.{play}
use Rattle.scr_combinatorics.proofs.PlayLaws.{and_then-some, map-some, play-empty, play-first, play-parts}
use Rattle.scr_orbit.specs.Monoids.{power, power_of, power_table}
use Rattle.scr_orbit.specs.PowerPuzzles.{after_letter}
use Rattle.scr_orbit.proofs.MonoidLaws.{IsValid-power}
use Rattle.scr_notation.specs.declared.turn.Turn.{Turn}
use Rattle.scr_notation.specs.declared.turn.Turn.TheVariants.{Face, Axis, Tip, Layers, Twist, Pins, Over, Wide}
use Rattle.scr_notation.specs.FaceLetters.{quarters_of}
use Rattle.scr_notation.proofs.FaceLaws.{IsQuartersOf-read}
use Rattle.scr_notation.proofs.NumberLaws.{IsFaceTurn}
use Rattle.scr_cube.specs.Cube333.{CubeState, IsCube, cube_quarters, cube_monoid, cube_powers, solved_cube}
use Rattle.scr_orbit.specs.Orbits.{solved_orbit}
use Rattle.scr_cube.specs.Held.{HeldState, IsHeld, held_cube_after, holds, solved_held, whole_turned}
use Rattle.scr_cube.proofs.Laws333.{cube_laws}
use Rattle.scr_cube.proofs.HeldReach.{Contains-solved}
use Rattle.scr_cube.proofs.Holds.{at_each, of_holds, turned_face, centres_turned, Contains-whole, axis-kept, whole_turned-none, whole_turned-add}
use Rattle.scr_cube.proofs.HeldLaws.{step-of, IsHeld-after, face_parts, near_place}
use Rattle.scr_net.specs.declared.geometry.Sticker.{Sticker}
use Rattle.scr_net.specs.Geometry.{row_of, column_of, sticker_at, brought_from, IsSticker}
use Rattle.scr_net.specs.Nets.{letter_at, net_of, net_after, quarter_net, solved_net, turned_net}
use Rattle.scr_net.specs.Pieces.{cube_letter, letter_of_pieces, net_of_held, seen_from}
use Rattle.scr_net.proofs.StickerLaws.{is_sticker, IsSticker-at, IsSticker-brought, IsSticker-tested, row_of-le, column_of-le, sticker_at-of}
use Rattle.scr_net.proofs.NetLaws.{letter_at-net_of, net_of-same}
use Rattle.scr_net.proofs.PieceLaws.{each_sticker-at}
use Rattle.scr_net_laws.proofs.PlayedNets.{cube_turns, cube_comes_from, cube_tests, cube_letter-turned}

-- ---- what is computed over all holds and all stickers

-- for each sticker of a 3x3x3, whatever the hold and the place
abbrev pub over_stickers : {X : Type 0} → (Sticker → X) → List (List (List X))
over_stickers f =
    map (λ face. map (λ row. map (λ column. f (sticker_at 2 face row column)) (range_with_len 0 3)) (range_with_len 0 3)) (range_with_len 0 6)

pub at_sticker : {X : Type 0} (f g : Sticker → X) → over_stickers f ≡ over_stickers g → (s : Sticker) → IsSticker 2 s → f s ≡ g s
at_sticker f g e s h =
    let low = row_of-le 2 s.face s.point h.face h.within in
    let left = column_of-le 2 s.face s.point h.face h.within in
    let face : ℕ = s.face in
    let row : ℕ = row_of 2 s.face s.point in
    let column : ℕ = column_of 2 s.face s.point in
    ap f (sym (sticker_at-of 2 s h))
    ∙ at_each (λ column. f (sticker_at 2 face row column)) (λ column. g (sticker_at 2 face row column)) 3
    (at_each (λ row. map (λ column. f (sticker_at 2 face row column)) (range_with_len 0 3)) (λ row. map (λ column. g (sticker_at 2 face row column)) (range_with_len 0 3)) 3
    (at_each (λ face. map (λ row. map (λ column. f (sticker_at 2 face row column)) (range_with_len 0 3)) (range_with_len 0 3))
    (λ face. map (λ row. map (λ column. g (sticker_at 2 face row column)) (range_with_len 0 3)) (range_with_len 0 3)) 6 e face h.face)
    row (omega arith)) column (omega arith)
    ∙ ap g (sticker_at-of 2 s h)

-- the centres of the holds, in the order of their numbers
abbrev all_holds : List (List ℕ)
all_holds =
    (0 ∷ 1 ∷ 2 ∷ 3 ∷ 4 ∷ 5 ∷ [])
    ∷ (2 ∷ 1 ∷ 3 ∷ 5 ∷ 4 ∷ 0 ∷ [])
    ∷ (3 ∷ 1 ∷ 5 ∷ 0 ∷ 4 ∷ 2 ∷ [])
    ∷ (5 ∷ 1 ∷ 0 ∷ 2 ∷ 4 ∷ 3 ∷ [])
    ∷ (4 ∷ 0 ∷ 2 ∷ 1 ∷ 3 ∷ 5 ∷ [])
    ∷ (1 ∷ 3 ∷ 2 ∷ 4 ∷ 0 ∷ 5 ∷ [])
    ∷ (0 ∷ 5 ∷ 1 ∷ 3 ∷ 2 ∷ 4 ∷ [])
    ∷ (2 ∷ 0 ∷ 1 ∷ 5 ∷ 3 ∷ 4 ∷ [])
    ∷ (3 ∷ 2 ∷ 1 ∷ 0 ∷ 5 ∷ 4 ∷ [])
    ∷ (5 ∷ 3 ∷ 1 ∷ 2 ∷ 0 ∷ 4 ∷ [])
    ∷ (4 ∷ 5 ∷ 0 ∷ 1 ∷ 2 ∷ 3 ∷ [])
    ∷ (1 ∷ 5 ∷ 3 ∷ 4 ∷ 2 ∷ 0 ∷ [])
    ∷ (0 ∷ 4 ∷ 5 ∷ 3 ∷ 1 ∷ 2 ∷ [])
    ∷ (2 ∷ 4 ∷ 0 ∷ 5 ∷ 1 ∷ 3 ∷ [])
    ∷ (3 ∷ 4 ∷ 2 ∷ 0 ∷ 1 ∷ 5 ∷ [])
    ∷ (5 ∷ 4 ∷ 3 ∷ 2 ∷ 1 ∷ 0 ∷ [])
    ∷ (4 ∷ 3 ∷ 5 ∷ 1 ∷ 0 ∷ 2 ∷ [])
    ∷ (1 ∷ 0 ∷ 5 ∷ 4 ∷ 3 ∷ 2 ∷ [])
    ∷ (0 ∷ 2 ∷ 4 ∷ 3 ∷ 5 ∷ 1 ∷ [])
    ∷ (2 ∷ 3 ∷ 4 ∷ 5 ∷ 0 ∷ 1 ∷ [])
    ∷ (3 ∷ 5 ∷ 4 ∷ 0 ∷ 2 ∷ 1 ∷ [])
    ∷ (5 ∷ 0 ∷ 4 ∷ 2 ∷ 3 ∷ 1 ∷ [])
    ∷ (4 ∷ 2 ∷ 3 ∷ 1 ∷ 5 ∷ 0 ∷ [])
    ∷ (1 ∷ 2 ∷ 0 ∷ 4 ∷ 5 ∷ 3 ∷ []) ∷ []

abbrev pub listed : ℕ → List ℕ
listed hold = slice_index_or all_holds hold []

-- a sticker seen from a hold is a sticker
pub IsSticker-seen : (centres : List ℕ) (s : Sticker) → Contains holds centres → IsSticker 2 s → IsSticker 2 (seen_from centres s)
IsSticker-seen centres s there h =
    of_holds (λ k. IsSticker 2 (seen_from k s)) (λ hold lt.
    IsSticker-tested 2 (seen_from (listed hold) s) (at_sticker (λ s. is_sticker 2 (seen_from (listed hold) s)) (λ s. true) (at_each (λ hold. over_stickers (λ s. is_sticker 2 (seen_from (listed hold) s))) (λ hold. over_stickers (λ s. true)) 24 refl hold lt) s h)) centres there

-- A turn at a place brings a sticker from where the cube's own turn brings what is seen there.
abbrev brought_seen : ℕ → ℕ → List ℕ → Sticker → Sticker
brought_seen depth place centres s = seen_from centres (brought_from 2 place depth s)

abbrev seen_brought : ℕ → ℕ → List ℕ → Sticker → Sticker
seen_brought depth place centres s =
    brought_from 2 (turned_face centres place depth) 1 (seen_from (centres_turned centres place depth 1) s)

-- the same over all stickers, from the face and the centres, which are found once
abbrev over_brought : ℕ → List ℕ → List (List (List Sticker))
over_brought face after = over_stickers (λ s. brought_from 2 face 1 (seen_from after s))

abbrev over_seen : ℕ → ℕ → ℕ → List (List (List Sticker))
over_seen depth place hold = over_brought (turned_face (listed hold) place depth) (centres_turned (listed hold) place depth 1)

abbrev IsSeen : ℕ → ℕ → Type 0
IsSeen depth place = (centres : List ℕ) (s : Sticker) → Contains holds centres → IsSticker 2 s
    → brought_seen depth place centres s ≡ seen_brought depth place centres s

seen-here : (place : ℕ) → place < 6 → IsSeen 1 place
unfolding whole_turned
seen-here place low centres s there h =
    of_holds (λ k. brought_seen 1 place k s ≡ seen_brought 1 place k s) (λ hold lt.
    at_sticker (brought_seen 1 place (listed hold)) (seen_brought 1 place (listed hold))
    (at_each (λ hold. over_stickers (brought_seen 1 place (listed hold))) (over_seen 1 place) 24
    (at_each (λ place. map (λ hold. over_stickers (brought_seen 1 place (listed hold))) (range_with_len 0 24)) (λ place. map (over_seen 1 place) (range_with_len 0 24)) 6 refl place low)
    hold lt) s h) centres there

seen-wide : (place : ℕ) → place < 3 → IsSeen 2 place
unfolding whole_turned
seen-wide place low centres s there h =
    of_holds (λ k. brought_seen 2 place k s ≡ seen_brought 2 place k s) (λ hold lt.
    at_sticker (brought_seen 2 place (listed hold)) (seen_brought 2 place (listed hold))
    (at_each (λ hold. over_stickers (brought_seen 2 place (listed hold))) (over_seen 2 place) 24
    (at_each (λ place. map (λ hold. over_stickers (brought_seen 2 place (listed hold))) (range_with_len 0 24)) (λ place. map (over_seen 2 place) (range_with_len 0 24)) 3 refl place low)
    hold lt) s h) centres there

-- ---- one quarter at a place

module _ (place depth : ℕ) (low : place < 6) (seen : IsSeen depth place)
    (contains : (centres : List ℕ) → Contains holds centres → Contains holds (centres_turned centres place depth 1)) where
  quarter-held : (c : CubeState) (centres : List ℕ) (q : CubeState) → IsCube c → Contains holds centres
      → slice_get cube_quarters (turned_face centres place depth) ≡ Some q
      → quarter_net 3 place depth (net_of_held (record { cube = c; centres = centres }))
      ≡ net_of_held (record { cube = cube_monoid.turned c q; centres = centres_turned centres place depth 1 })
  unfolding quarter_net
  quarter-held c centres q own there found =
      let after : List ℕ = centres_turned centres place depth 1 in
      let face : ℕ = turned_face centres place depth in
      let letter : Sticker → ℕ = λ s. cube_letter c (seen_from centres s) in
      net_of-same 3 (λ s. letter_at 3 (net_of 3 letter) (brought_from 2 place depth s)) (λ s. cube_letter (cube_monoid.turned c q) (seen_from after s)) (λ f row column lf lr lc.
      let s : Sticker = sticker_at 2 f row column in
      let is : IsSticker 2 s = IsSticker-at 2 f row column lf (omega arith) (omega arith) in
      let x : Sticker = seen_from after s in
      let of : IsSticker 2 x = IsSticker-seen after s (contains centres there) is in
      let low' = row_of-le 2 x.face x.point of.face of.within in
      let left = column_of-le 2 x.face x.point of.face of.within in
      let tested : cube_comes_from face q x ≡ true =
      ap (cube_comes_from face q) (sym (sticker_at-of 2 x of))
      ∙ each_sticker-at 3 (cube_comes_from face q) (cube_tests face q found) x.face (row_of 2 x.face x.point) (column_of 2 x.face x.point) of.face (omega arith) (omega arith) in
      letter_at-net_of 3 letter (brought_from 2 place depth s) (lit< tt) (IsSticker-brought 2 place depth s is)
      ∙ ap (cube_letter c) (seen centres s there is)
      ∙ cube_letter-turned face c q x own (cube_turns face q found) tested)

  module _ (kept : (centres : List ℕ) → Contains holds centres → turned_face (centres_turned centres place depth 1) place depth ≡ turned_face centres place depth)
      (none : (centres : List ℕ) → centres_turned centres place depth 0 ≡ centres)
      (more : (centres : List ℕ) (n : ℕ) → centres_turned (centres_turned centres place depth 1) place depth n ≡ centres_turned centres place depth (suc n)) where
    power-held : (n : ℕ) (c : CubeState) (centres : List ℕ) (q : CubeState) → IsCube c → Contains holds centres
        → slice_get cube_quarters (turned_face centres place depth) ≡ Some q
        → turned_net 3 place depth n (net_of_held (record { cube = c; centres = centres }))
        ≡ net_of_held (record { cube = cube_monoid.turned c (power cube_monoid q n); centres = centres_turned centres place depth n })
    unfolding turned_net power
    power-held zero c centres q own there found =
        ap (λ d. net_of_held (record { cube = d; centres = centres })) (sym (cube_laws.solved_last c own))
        ∙ ap (λ k. net_of_held (record { cube = cube_monoid.turned c solved_cube; centres = k })) (sym (none centres))
    power-held (suc n) c centres q own there found =
        let turn = cube_turns (turned_face centres place depth) q found in
        let after : List ℕ = centres_turned centres place depth 1 in
        ap (turned_net 3 place depth n) (quarter-held c centres q own there found)
        ∙ power-held n (cube_monoid.turned c q) after q (cube_laws.kept c q own turn) (contains centres there) (ap (slice_get cube_quarters) (kept centres there) ∙ found)
        ∙ ap (λ d. net_of_held (record { cube = d; centres = centres_turned after place depth n }))
        (cube_laws.grouped c q (power cube_monoid q n) own turn (IsValid-power cube_monoid IsCube cube_laws q n turn))
        ∙ ap (λ k. net_of_held (record { cube = cube_monoid.turned c (power cube_monoid q (suc n)); centres = k })) (more centres n)

-- ---- one letter

two_layers : (place depth amount : ℕ) → IsFaceTurn 2 1 place depth amount → 2 ≤ depth → depth ≡ 2
two_layers place depth amount p ge = elim (cases_lt place 3) [
  | inl near ↦ omega (arith, p.near_layers near)
  | inr far ↦ absurd (omega (arith, p.far_layers far))
]

-- what a letter of a face makes of a cube is a power of the face's quarter
record IsPower (c d : CubeState) (face amount : ℕ) : Type 0 where
  pub quarter : CubeState
  pub found : slice_get cube_quarters face ≡ Some quarter
  pub made : cube_monoid.turned c (power cube_monoid quarter amount) ≡ d

power-of : (c d : CubeState) (face amount : ℕ) → after_letter cube_powers c (Face face 1 amount) ≡ Some d
    → IsPower c d face amount
unfolding power_of
power-of c d face amount e =
    let t : Turn = Face face 1 amount in
    let read = map-some (cube_monoid.turned c) (power_table cube_monoid cube_quarters quarters_of t) d e in
    let letter = and_then-some (power_of cube_monoid cube_quarters) (quarters_of t) read.0 read.1 in
    let found = map-some (λ q. power cube_monoid q letter.0.exponent) (slice_get cube_quarters letter.0.generator) read.0 letter.2 in
    let is = IsQuartersOf-read t letter.0 letter.1 in
    let whole = is.is in
    let same : letter.0.generator ≡ face = cc in
    let often : letter.0.exponent ≡ amount = cc in
    record {
      quarter = found.0;
      found = ap (slice_get cube_quarters) (sym same) ∙ found.1;
      made = ap (λ n. cube_monoid.turned c (power cube_monoid found.0 n)) (sym often) ∙ ap (cube_monoid.turned c) found.2 ∙ read.2;
    }

-- of one layer, and of two
power-here : (place : ℕ) → place < 6 → (n : ℕ) (c : CubeState) (centres : List ℕ) (q : CubeState) → IsCube c
    → Contains holds centres → slice_get cube_quarters (turned_face centres place 1) ≡ Some q
    → turned_net 3 place 1 n (net_of_held (record { cube = c; centres = centres }))
    ≡ net_of_held (record { cube = cube_monoid.turned c (power cube_monoid q n); centres = centres_turned centres place 1 n })
power-here place low =
    power-held place 1 low (seen-here place low) (λ centres there. there) (λ centres there. refl) (λ centres. refl) (λ centres n. refl)

power-wide : (place : ℕ) → place < 3 → (n : ℕ) (c : CubeState) (centres : List ℕ) (q : CubeState) → IsCube c
    → Contains holds centres → slice_get cube_quarters (turned_face centres place 2) ≡ Some q
    → turned_net 3 place 2 n (net_of_held (record { cube = c; centres = centres }))
    ≡ net_of_held (record { cube = cube_monoid.turned c (power cube_monoid q n); centres = centres_turned centres place 2 n })
power-wide place low =
    power-held place 2 (omega arith) (seen-wide place low)
    (λ centres there. Contains-whole place centres 1 low there)
    (λ centres there. axis-kept place centres 1 low there)
    (λ centres. whole_turned-none place centres)
    (λ centres n. (let joined : 1 + n ≡ suc n = omega arith in whole_turned-add place centres 1 n ∙ ap (whole_turned place centres) joined))

-- what a letter makes of a held cube it makes of its net
net-here : (place amount : ℕ) (s r : HeldState) → IsHeld s → held_cube_after s (Face place 1 amount) ≡ Some r
    → net_after 3 (net_of_held s) (Face place 1 amount) ≡ Some (net_of_held r)
net-here place amount s r own e =
    let step = step-of s r (Face place 1 amount) e in
    let parts = face_parts place 1 amount step.permitted in
    let is = power-of s.cube r.cube (turned_face s.centres place 1) amount step.cube in
    let kept : s.centres ≡ r.centres = step.centres in
    ap Some
    (power-here place parts.face_below amount s.cube s.centres is.quarter own.cube own.centres is.found
    ∙ ap (λ d. net_of_held (record { cube = d; centres = s.centres })) is.made
    ∙ ap (λ k. net_of_held (record { cube = r.cube; centres = k })) kept)

net-wide : (place amount : ℕ) (s r : HeldState) → IsHeld s → held_cube_after s (Face place 2 amount) ≡ Some r
    → net_after 3 (net_of_held s) (Face place 2 amount) ≡ Some (net_of_held r)
net-wide place amount s r own e =
    let step = step-of s r (Face place 2 amount) e in
    let parts = face_parts place 2 amount step.permitted in
    let is = power-of s.cube r.cube (turned_face s.centres place 2) amount step.cube in
    let moved : whole_turned place s.centres amount ≡ r.centres = step.centres in
    ap Some
    (power-wide place (near_place place 2 amount parts (λ one. omega arith)) amount s.cube s.centres is.quarter own.cube own.centres is.found
    ∙ ap (λ d. net_of_held (record { cube = d; centres = whole_turned place s.centres amount })) is.made
    ∙ ap (λ k. net_of_held (record { cube = r.cube; centres = k })) moved)

net-after-held : (s r : HeldState) (t : Turn) → IsHeld s → held_cube_after s t ≡ Some r
    → net_after 3 (net_of_held s) t ≡ Some (net_of_held r)
net-after-held s r (Face place depth amount) own e =
    let parts = face_parts place depth amount (step-of s r (Face place depth amount) e).permitted in
    let Before : ℕ → Type 0 = λ d. held_cube_after s (Face place d amount) ≡ Some r in
    let After : ℕ → Type 0 = λ d. net_after 3 (net_of_held s) (Face place d amount) ≡ Some (net_of_held r) in
    elim (cases_lt depth 2) [
      | inl lt ↦
          let one : depth ≡ 1 = omega (arith, parts.some_layer) in
          subst After (sym one) (net-here place amount s r own (subst Before one e))
      | inr ge ↦
          let two : depth ≡ 2 = two_layers place depth amount parts ge in
          subst After (sym two) (net-wide place amount s r own (subst Before two e))
    ]
net-after-held s r (Axis axis amount) own e = absurd (false≢true (step-of s r (Axis axis amount) e).permitted)
net-after-held s r (Tip tip amount) own e = absurd (false≢true (step-of s r (Tip tip amount) e).permitted)
net-after-held s r (Layers top bottom) own e = absurd (false≢true (step-of s r (Layers top bottom) e).permitted)
net-after-held s r Twist own e = absurd (false≢true (step-of s r Twist e).permitted)
net-after-held s r (Pins pins amount) own e = absurd (false≢true (step-of s r (Pins pins amount) e).permitted)
net-after-held s r Over own e = absurd (false≢true (step-of s r Over e).permitted)
net-after-held s r (Wide letter plus) own e = absurd (false≢true (step-of s r (Wide letter plus) e).permitted)

-- ---- words

net-played-held : (w : List Turn) (s r : HeldState) → IsHeld s → play held_cube_after s w ≡ Some r
    → play (net_after 3) (net_of_held s) w ≡ Some (net_of_held r)
net-played-held [] s r own e =
    play-empty (net_after 3) (net_of_held s) ∙ ap (λ x. Some (net_of_held x)) (same_Some s r (sym (play-empty held_cube_after s) ∙ e))
net-played-held (t ∷ w) s r own e =
    let parts = play-parts held_cube_after s r t w e in
    play-first (net_after 3) (net_of_held s) (net_of_held parts.0) t w (net-after-held s parts.0 t own parts.1)
    ∙ net-played-held w parts.0 r (IsHeld-after s parts.0 t own parts.1) parts.2

net-solved-held : net_of_held solved_held ≡ solved_net 3
unfolding net_of cube_letter letter_of_pieces solved_held solved_cube solved_orbit
net-solved-held = refl

pub IsHeld-solved : IsHeld solved_held
unfolding solved_held
IsHeld-solved = record { cube = cube_laws.solved; centres = Contains-solved }

pub held_nets : (w : List Turn) → IsSome (play held_cube_after solved_held w)
    → play (net_after 3) (solved_net 3) w ≡ option_map net_of_held (play held_cube_after solved_held w)
held_nets w some = ap (λ n. play (net_after 3) n w) (sym net-solved-held) ∙ by (play held_cube_after solved_held w) refl some
  where
    by : (o : Option HeldState) → play held_cube_after solved_held w ≡ o → IsSome o
        → play (net_after 3) (net_of_held solved_held) w ≡ option_map net_of_held (play held_cube_after solved_held w)
    by None e h = absurd (cc)
    by (Some r) e h = net-played-held w solved_held r IsHeld-solved e ∙ sym (ap (option_map net_of_held) e)
