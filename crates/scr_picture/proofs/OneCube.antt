-- Cubes are told by their pictures.
use Rattle.std.proofs.Common.{◌≡◌, ℕ, zero, suc, ◌<◌, List, [], ◌∷◌, ◌++◌, Some, length, get_or, map, refl, sym, ap, ◌∙◌, subst, inl, inr, arith, add-one, length-append}
use Rattle.std.specs.Prelude.{Contains, flat_map, codes}
use Rattle.std.specs.List.{range_with_len}
use Rattle.std.proofs.lemmas.Bool.{cases_eq}
use Rattle.std.proofs.lemmas.Grind.{same_number_lists}
use Rattle.std.proofs.lemmas.List.{ext_get_or}
use Rattle.scr_combinatorics.specs.Play.{play}
use Rattle.scr_combinatorics.proofs.PlayLaws.{play-keeps}
use Rattle.scr_orbit.specs.Orbits.{Orbit}
use Rattle.scr_orbit.specs.PowerPuzzles.{after_letter}
use Rattle.scr_notation.specs.declared.event.Puzzle.{Puzzle}
use Rattle.scr_notation.specs.declared.event.Puzzle.TheVariants as puzzle
use Rattle.scr_notation.specs.declared.turn.Turn.{Turn}
use Rattle.scr_cube.specs.Cube333.{CubeState, cube_powers, solved_cube}
use Rattle.scr_cube.specs.Cube222.{powers_222, solved_222}
use Rattle.scr_cube.specs.Held.{HeldState, IsHeld, held_cube_after, solved_held}
use Rattle.scr_cube.proofs.Holds.{at_each}
use Rattle.scr_cube.proofs.Laws333.{lawful_cube}
use Rattle.scr_cube.proofs.Laws222.{lawful_222}
use Rattle.scr_cube.proofs.HeldLaws.{IsHeld-after}
use Rattle.scr_net.specs.Nets.{IsNet, Letters, cell}
use Rattle.scr_net.specs.Pieces.{net_of_corners, net_of_cube, net_of_held}
use Rattle.scr_net_laws.proofs.HeldNets.{IsHeld-solved}
use Rattle.scr_net_laws.proofs.OneNet.{IsNet-corners, IsNet-cube, IsNet-held, one_corners, one_cube, one_held}
use Rattle.scr_picture.specs.declared.names.Alphabet.TheVariants.{Cube}
use Rattle.scr_picture.specs.Names.{name_in}
use Rattle.scr_picture.specs.Pictures.{row_letters, face_letters, net_letters, net_picture, picture}
use Rattle.scr_picture.proofs.ReadTexts.{cube_bytes, letter_of}
use Rattle.scr_picture.proofs.TextLaws.{append-same, flat_map_range}

-- ---- texts of parts that are as long

module _ (f g : ℕ → List ℕ) where
  abbrev parts : (ℕ → List ℕ) → ℕ → List ℕ
  parts h n = flat_map h (range_with_len 0 n)

  parts-suc : (h : ℕ → List ℕ) (n : ℕ) → parts h (suc n) ≡ parts h n ++ h n
  parts-suc h n = ap (parts h) (sym (add-one n)) ∙ flat_map_range h n

  same-length : (n : ℕ) → ((k : ℕ) → k < n → length (f k) ≡ length (g k)) → length (parts f n) ≡ length (parts g n)
  same-length zero each = refl
  same-length (suc n) each =
      let first = same-length n (λ k lt. each k (omega arith)) in
      let last = each n (omega arith) in
      let a = ap length (parts-suc f n) ∙ length-append (parts f n) (f n) in
      let b = ap length (parts-suc g n) ∙ length-append (parts g n) (g n) in
      omega (arith, first, last, a, b)

  same-parts : (n : ℕ) → ((k : ℕ) → k < n → length (f k) ≡ length (g k)) → parts f n ≡ parts g n → (k : ℕ) → k < n → f k ≡ g k
  same-parts zero each e k lt = absurd (omega arith)
  same-parts (suc n) each e k lt =
      let lengths = same-length n (λ k lt. each k (omega arith)) in
      let both = append-same (parts f n) (f n) (parts g n) (g n) lengths (sym (parts-suc f n) ∙ e ∙ parts-suc g n) in
      elim (cases_eq k n) [
        | inl same ↦ subst (λ i. f i ≡ g i) (sym same) both.1
        | inr ne ↦ same-parts n (λ k lt. each k (omega arith)) both.0 k (omega arith)
      ]

-- ---- names of faces

name-length : (x : ℕ) → x < 6 → length (name_in Cube x) ≡ 1
name-length = at_each (λ x. length (name_in Cube x)) (λ x. 1) 6 refl

same-name : (x y : ℕ) → x < 6 → y < 6 → name_in Cube x ≡ name_in Cube y → x ≡ y
same-name x y lx ly e =
    let same : x ∷ [] ≡ y ∷ [] = sym (cube_bytes x lx) ∙ ap (map (letter_of (codes "URFDLB"))) e ∙ cube_bytes y ly in cc

-- ---- nets

module _ (side : ℕ) (net other : Letters) (is : IsNet side net) (is_other : IsNet side other) where
  abbrev name : Letters → ℕ → ℕ → ℕ → List ℕ
  name n face row column = name_in Cube (cell n face row column)

  names-length : (face row column : ℕ) → length (name net face row column) ≡ length (name other face row column)
  names-length face row column =
      name-length (cell net face row column) (is.letters face row column)
      ∙ sym (name-length (cell other face row column) (is_other.letters face row column))

  rows-length : (face row : ℕ) → length (row_letters side net face row) ≡ length (row_letters side other face row)
  rows-length face row = same-length (name net face row) (name other face row) side (λ column lt. names-length face row column)

  faces-length : (face : ℕ) → length (face_letters side net face) ≡ length (face_letters side other face)
  faces-length face =
      same-length (row_letters side net face) (row_letters side other face) side (λ row lt. rows-length face row)

  same-cells : net_letters side net ≡ net_letters side other → (face row column : ℕ) → face < 6 → row < side → column < side
      → cell net face row column ≡ cell other face row column
  same-cells e face row column lf lr lc =
      same-name (cell net face row column) (cell other face row column) (is.letters face row column) (is_other.letters face row column)
      (same-parts (name net face row) (name other face row) side (λ column lt. names-length face row column)
      (same-parts (row_letters side net face) (row_letters side other face) side (λ row lt. rows-length face row)
      (same-parts (face_letters side net) (face_letters side other) 6 (λ face lt. faces-length face) e face lf)
      row lr) column lc)

  -- only one net has each text
  same_net : net_letters side net ≡ net_letters side other → net ≡ other
  same_net e =
      ext_get_or [] net other (is.shape.faces ∙ sym is_other.shape.faces) (λ face lf0.
      let lf : face < 6 = omega (arith, lf0, is.shape.faces) in
      let rows = is.shape.rows face lf in
      ext_get_or [] (get_or net face []) (get_or other face []) (rows ∙ sym (is_other.shape.rows face lf)) (λ row lr0.
      let lr : row < side = omega (arith, lr0, rows) in
      let columns = is.shape.columns face row lf lr in
      same_number_lists (get_or (get_or net face []) row []) (get_or (get_or other face []) row []) (columns ∙ sym (is_other.shape.columns face row lf lr)) (λ column lc0.
      same-cells e face row column lf lr (omega (arith, lc0, columns)))))

-- ---- states that turns lead to

-- a 3x3x3 that isn't held another way is shown by its net
pub upright_picture : (what : Puzzle) (w : List Turn) → Contains (puzzle.Cube333 ∷ puzzle.Fewest333 ∷ []) what
    → picture what w ≡ net_picture 3 w
upright_picture what w (zero, lt, e) = ap (λ x. picture x w) (sym e)
upright_picture what w (suc zero, lt, e) = ap (λ x. picture x w) (sym e)
upright_picture what w (suc (suc k), lt, e) = absurd (omega arith)

pub one_cube_shown : (w v : List Turn) (c d : CubeState) → play (after_letter cube_powers) solved_cube w ≡ Some c
    → play (after_letter cube_powers) solved_cube v ≡ Some d
    → net_letters 3 (net_of_cube c) ≡ net_letters 3 (net_of_cube d) → c ≡ d
one_cube_shown w v c d e f same =
    one_cube c d (lawful_cube.lawful.reached (λ t. 1) c (w, solved_cube, refl, e)) (lawful_cube.lawful.reached (λ t. 1) d (v, solved_cube, refl, f))
    (same_net 3 (net_of_cube c) (net_of_cube d) (IsNet-cube c) (IsNet-cube d) same)

pub one_corners_shown : (w v : List Turn) (o r : Orbit) → play (after_letter powers_222) solved_222 w ≡ Some o
    → play (after_letter powers_222) solved_222 v ≡ Some r
    → net_letters 2 (net_of_corners o) ≡ net_letters 2 (net_of_corners r) → o ≡ r
one_corners_shown w v o r e f same =
    one_corners o r (lawful_222.lawful.reached (λ t. 1) o (w, solved_222, refl, e)) (lawful_222.lawful.reached (λ t. 1) r (v, solved_222, refl, f))
    (same_net 2 (net_of_corners o) (net_of_corners r) (IsNet-corners o) (IsNet-corners r) same)

IsHeld-played : (w : List Turn) (r : HeldState) → play held_cube_after solved_held w ≡ Some r → IsHeld r
IsHeld-played w r e = play-keeps held_cube_after IsHeld IsHeld-after solved_held r w IsHeld-solved e

pub one_held_shown : (w v : List Turn) (r q : HeldState) → play held_cube_after solved_held w ≡ Some r
    → play held_cube_after solved_held v ≡ Some q
    → net_letters 3 (net_of_held r) ≡ net_letters 3 (net_of_held q) → r ≡ q
one_held_shown w v r q e f same =
    let own = IsHeld-played w r e in
    let other = IsHeld-played v q f in
    one_held r q own other (same_net 3 (net_of_held r) (net_of_held q) (IsNet-held r own) (IsNet-held q other) same)
