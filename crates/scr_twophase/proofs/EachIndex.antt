-- Each number of a pruning table is that of some cube of which the table speaks.
use Rattle.std.proofs.Common.{◌≡◌, ℕ, ◌+◌, ◌*◌, ◌%◌, ◌<◌, List, refl, ap, ◌∙◌, lit<, arith}
use Rattle.scr_combinatorics.specs.Permutations.{IsPermutation, parity, permutation_number, permutation_at, half_at}
use Rattle.scr_combinatorics.proofs.PermutationNumbers.{IsPermutation-at, permutation_number-at}
use Rattle.scr_cube.specs.Cube333.{CubeState, IsCube}
use Rattle.scr_stages.specs.Numbers.{IsDominoCube, flips_number, middle_set_of}
use Rattle.scr_stages.proofs.EachIndex.{each_pair, each_parts, each-slice, IsHalf-first, mended, domino_of, outer-layers, middle-layers, IsDominoCube-of}
use Rattle.scr_twophase.specs.SearchTables.{flipslice_table, twistslice_table, cornerslice_table, edgeslice_table}
use Rattle.scr_twophase.specs.Tables.{corners_of, outer_edges_of, middle_edges_of}
use Rattle.scr_twophase.specs.Tables.{flipslice_line, twistslice_line, cornerslice_line, edgeslice_line}

-- ---- the first part

pub each-flipslice : (i : ℕ) → i < flipslice_line.coordinate.count
    → (c : CubeState) × flipslice_table.space.IsValid c × (flipslice_table.number_of c ≡ i)
each-flipslice =
    each_pair IsCube flips_number middle_set_of 2048 495
    (λ f m lf lm. let c = each_parts f 0 m lf (lit< tt) lm in (c.0, c.1, c.2, c.4))

pub each-twistslice : (i : ℕ) → i < twistslice_line.coordinate.count
    → (c : CubeState) × twistslice_table.space.IsValid c × (twistslice_table.number_of c ≡ i)
each-twistslice = each-slice

-- ---- the second part

-- Where any list of eight and any order of the edges of the middle layer are those of a domino, with another list of
-- eight that has the parity of both, so is each number that is made of theirs.
each-beside_middle : (number : CubeState → ℕ)
    → ((own other middle : List ℕ) → IsPermutation 8 own → IsPermutation 8 other → IsPermutation 4 middle → parity other ≡ (parity own + parity middle) % 2 → (c : CubeState) × IsDominoCube c × (middle_edges_of c ≡ permutation_number middle) × (number c ≡ permutation_number own))
    → (i : ℕ) → i < 24 * 40320 → (c : CubeState) × IsDominoCube c × (middle_edges_of c + 24 * number c ≡ i)
each-beside_middle number domino =
    each_pair IsDominoCube middle_edges_of number 24 40320
    (λ i j li lj.
    let own = permutation_at 8 j in
    let middle = permutation_at 4 i in
    let odd = parity own + parity middle in
    let half = IsHalf-first 8 odd (lit< tt) in
    let found = domino own (half_at 8 (odd % 2) 0) middle (IsPermutation-at 8 j lj) half.permutation (IsPermutation-at 4 i li) half.same_parity in
    (found.0, found.1, found.2 ∙ permutation_number-at 4 i li, found.3 ∙ permutation_number-at 8 j lj))

pub each-cornerslice : (i : ℕ) → i < cornerslice_line.coordinate.count
    → (c : CubeState) × cornerslice_table.space.IsValid c × (cornerslice_table.number_of c ≡ i)
each-cornerslice =
    each-beside_middle corners_of (λ corners outer middle p o m same. (
      domino_of corners outer middle,
      IsDominoCube-of outer middle o m corners p (omega (arith, mended corners (parity outer) (parity middle) same)),
      ap permutation_number (middle-layers outer middle o m),
      refl,
    ))

pub each-edgeslice : (i : ℕ) → i < edgeslice_line.coordinate.count
    → (c : CubeState) × edgeslice_table.space.IsValid c × (edgeslice_table.number_of c ≡ i)
each-edgeslice =
    each-beside_middle outer_edges_of (λ outer corners middle o p m same. (
      domino_of corners outer middle,
      IsDominoCube-of outer middle o m corners p same,
      ap permutation_number (middle-layers outer middle o m),
      ap permutation_number (outer-layers outer middle o m),
    ))
