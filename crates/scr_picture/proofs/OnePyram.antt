-- A Pyraminx is told by its picture.
use Rattle.std.proofs.Common.{◌≡◌, ℕ, ◌+◌, ◌%◌, ◌<◌, Bool, true, List, Some, map, refl, sym, ap, ◌∙◌, lit<, arith}
use Rattle.std.specs.Prelude.{All, ◌&&◌, is_none, slice_index, unwrap_or, codes}
use Rattle.std.specs.List.{range_with_len}
use Rattle.std.proofs.lemmas.Bool.{and_parts}
use Rattle.std.proofs.lemmas.Grind.{same_number_lists}
use Rattle.scr_combinatorics.specs.Lists.{numbers_from}
use Rattle.scr_combinatorics.specs.Play.{play}
use Rattle.scr_combinatorics.proofs.PermutationLaws.{All-permutation}
use Rattle.scr_orbit.specs.Orbits.{Orbit}
use Rattle.scr_orbit.specs.PowerPuzzles.{after_letter}
use Rattle.scr_orbit.proofs.DigitLaws.{added_digits-at}
use Rattle.scr_notation.specs.declared.turn.Turn.{Turn}
use Rattle.scr_tetra.specs.Pyraminx.{PyramState, IsPyram, at_axes, pyram_powers, solved_pyram}
use Rattle.scr_tetra.proofs.PyramLaws.{lawful_pyram, same_pyram, same_tetraminx}
use Rattle.scr_picture.specs.declared.names.Alphabet.TheVariants.{Pyraminx}
use Rattle.scr_picture.specs.Names.{joined_text}
use Rattle.scr_picture.specs.Pyraminx.{solved_pyram_picture}
use Rattle.scr_picture.specs.Pieces.{edge_stickers, axial_stickers, tip_stickers, tips_of, place_with, sticker_of, pyram_sticker, pyram_shown}
use Rattle.scr_picture.proofs.ShownPyram.{tips-in_place}
use Rattle.scr_picture.proofs.OrbitStickers.{ShowsOrbit, elsewhere, same_orbit, shows}
use Rattle.scr_picture.proofs.PlacesBelow.{All-below}
use Rattle.scr_picture.proofs.ReadTexts.{pyraminx_bytes, letter_of, read-joined, All-picked}

-- of no orbit before
no_edge : ℕ → Bool
no_edge i = is_none (place_with edge_stickers i)

neither : ℕ → Bool
neither i = is_none (place_with edge_stickers i) && is_none (place_with axial_stickers i)

any : ℕ → Bool
any i = true

-- four pieces at their axes
four_axes : All (λ p. p < 4) (numbers_from 0 4)
four_axes = All-below 4 (numbers_from 0 4) refl

module _ (s : PyramState) (own : IsPyram s) where
  abbrev at_tips : ℕ → ℕ
  at_tips i = unwrap_or (sticker_of tip_stickers (at_axes (tips_of s)) i) i

  abbrev at_axials : ℕ → ℕ
  at_axials i = unwrap_or (sticker_of axial_stickers (at_axes s.body.axials) i) (at_tips i)

  shows-edges : ShowsOrbit 6 2 edge_stickers solved_pyram_picture (pyram_shown s) s.body.edges
  unfolding pyram_shown pyram_sticker any solved_pyram_picture
  shows-edges =
      shows 6 2 edge_stickers solved_pyram_picture 36 any (pyram_sticker s) at_axials s.body.edges refl
      own.body.edges.pieces.size (All-permutation 6 s.body.edges.pieces own.body.edges.pieces) own.body.edges.digits.size own.body.edges.digits.below
      (λ i h. refl)

  shows-axials : ShowsOrbit 4 3 axial_stickers solved_pyram_picture (pyram_shown s) (at_axes s.body.axials)
  unfolding pyram_shown pyram_sticker no_edge solved_pyram_picture
  shows-axials =
      shows 4 3 axial_stickers solved_pyram_picture 36 no_edge (pyram_sticker s) at_tips (at_axes s.body.axials) refl refl four_axes own.body.axials.size own.body.axials.below
      (λ i h. elsewhere edge_stickers s.body.edges i (at_axials i) h)

  shows-tips : ShowsOrbit 4 3 tip_stickers solved_pyram_picture (pyram_shown s) (at_axes (tips_of s))
  unfolding pyram_shown pyram_sticker neither solved_pyram_picture
  shows-tips =
      let tips = tips-in_place s own in
      shows 4 3 tip_stickers solved_pyram_picture 36 neither (pyram_sticker s) (λ i. i) (at_axes (tips_of s)) refl refl four_axes tips.size tips.below
      (λ i h.
      let both = and_parts (is_none (place_with edge_stickers i)) (is_none (place_with axial_stickers i)) h in
      elsewhere edge_stickers s.body.edges i (at_axials i) both.0 ∙ elsewhere axial_stickers (at_axes s.body.axials) i (at_tips i) both.1)

  IsRead : map (letter_of (codes "FRLD")) (joined_text Pyraminx (pyram_shown s)) ≡ pyram_shown s
  unfolding pyram_shown solved_pyram_picture
  IsRead =
      read-joined Pyraminx (codes "FRLD") 4 pyraminx_bytes (pyram_shown s)
      (All-picked 4 solved_pyram_picture (lit< tt) (All-below 4 solved_pyram_picture refl)
      (pyram_sticker s) (range_with_len 0 36))

  tip-sum : (k : ℕ) → k < 4 → slice_index (tips_of s) k ≡ (slice_index s.body.axials k + slice_index s.tips k) % 3
  tip-sum k lt = added_digits-at 3 s.body.axials s.tips k (own.body.axials.size ∙ sym own.tips.size) (omega (arith, lt, own.body.axials.size))

-- what is added is told by the sum
same_tips : (s r : PyramState) → IsPyram s → IsPyram r → s.body.axials ≡ r.body.axials → tips_of s ≡ tips_of r → s.tips ≡ r.tips
same_tips s r own other e f =
    same_number_lists s.tips r.tips (own.tips.size ∙ sym other.tips.size) (λ k lt0.
    let lt : k < 4 = omega (arith, lt0, own.tips.size) in
    let a : ℕ = slice_index s.body.axials k in
    let t : ℕ = slice_index s.tips k in
    let u : ℕ = slice_index r.tips k in
    let lt_t : t < 3 = own.tips.below k 0 lt0 in
    let lt_u : u < 3 = other.tips.below k 0 (omega (arith, lt, other.tips.size)) in
    let sums : (a + t) % 3 ≡ (a + u) % 3 = sym (tip-sum s own k lt) ∙ ap (λ x. slice_index x k) f ∙ tip-sum r other k lt ∙ ap (λ x. (slice_index x k + u) % 3) (sym e) in
    cancelled a t u lt_t lt_u sums)
  where
    cancelled : (a t u : ℕ) → t < 3 → u < 3 → (a + t) % 3 ≡ (a + u) % 3 → t ≡ u
    cancelled a t u l m e = omega arith

one_pyram : (s r : PyramState) → IsPyram s → IsPyram r → pyram_shown s ≡ pyram_shown r → s ≡ r
unfolding solved_pyram_picture
one_pyram s r own other e =
    let edges =
    same_orbit 6 2 edge_stickers solved_pyram_picture refl (pyram_shown s) (pyram_shown r) s.body.edges r.body.edges e (shows-edges s own) (shows-edges r other) in
    let axials =
    ap (λ (o : Orbit). o.digits)
    (same_orbit 4 3 axial_stickers solved_pyram_picture refl (pyram_shown s) (pyram_shown r) (at_axes s.body.axials) (at_axes r.body.axials) e (shows-axials s own) (shows-axials r other)) in
    let tips =
    ap (λ (o : Orbit). o.digits)
    (same_orbit 4 3 tip_stickers solved_pyram_picture refl (pyram_shown s) (pyram_shown r) (at_axes (tips_of s)) (at_axes (tips_of r)) e (shows-tips s own) (shows-tips r other)) in
    same_pyram s r (same_tetraminx s.body r.body edges axials) (same_tips s r own other axials tips)

IsPyram-played : (w : List Turn) (s : PyramState) → play (after_letter pyram_powers) solved_pyram w ≡ Some s → IsPyram s
IsPyram-played w s e = lawful_pyram.lawful.reached (λ t. 1) s (w, solved_pyram, refl, e)

pub one_pyram_shown : (w v : List Turn) (s r : PyramState) → play (after_letter pyram_powers) solved_pyram w ≡ Some s
    → play (after_letter pyram_powers) solved_pyram v ≡ Some r
    → joined_text Pyraminx (pyram_shown s) ≡ joined_text Pyraminx (pyram_shown r) → s ≡ r
one_pyram_shown w v s r e f same =
    let own = IsPyram-played w s e in
    let other = IsPyram-played v r f in
    one_pyram s r own other (sym (IsRead s own) ∙ ap (map (letter_of (codes "FRLD"))) same ∙ IsRead r other)
