-- Blocks that workers answer, and the entries after they are entered.
use Rattle.std.proofs.Common.{◌≡◌, ◌≢◌, ℕ, ◌+◌, ◌*◌, ◌/◌, ◌%◌, ◌<◌, Bool, true, false, List, length, get_or, Option, Some, None, IsSomeAnd, IfSome, refl, ap, ◌∙◌, subst, arith}
use Rattle.std.specs.Prelude.{slice_index_or, nat_eq, ◌&&◌, if◌then◌else◌}
use Rattle.std.specs.Bool.{OnTrue, OnFalse}
use Rattle.std.proofs.lemmas.Bool.{ne_eqb}
use Rattle.scr_positions.specs.Coordinates.{Coordinate, StaysBelow}
use Rattle.scr_workers.specs.Answered.{AreAnswered}
use Rattle.scr_table.specs.Filled.{AreKnown, AreMarked, IsLeastNeighbour, Agrees, IsAgreed, IsNextEntry, next_entry, OfBlock, IsNextBlock, IsCheckedBlock, IsBlockBehind, IsThere, block_count, entered_at, entered}
use Rattle.scr_table.proofs.FilledLaws.{AreKnown-agreed, IsKnown-next}

-- the entry of the next level by the least that turns lead to
pub IsNextEntry-least : (c : Coordinate) (level : ℕ) (entries : List ℕ) (p least next : ℕ)
    → IsLeastNeighbour c entries p least → next ≡ next_entry level (get_or entries p 0) least
    → IsNextEntry c level entries p next
IsNextEntry-least c level entries p least next near is = record {
  kept = λ known.
      is ∙ ap (λ b. if b && nat_eq least level then level + 1 else get_or entries p 0) (ne_eqb (get_or entries p 0) 255 known);
  reached = λ unknown. (least, near, is ∙ ap (λ e. next_entry level e least) unknown);
}

-- the block of a position
pub block_of : (n p : ℕ) → p < n → p / 1024 < block_count n
block_of n p lt = omega arith

-- what is so of the positions of a block, at one of them
at_place : (P : ℕ → ℕ → Type 0) (n p : ℕ) → p < n → OfBlock P n (p / 1024) → P p (p % 1024)
at_place P n p lt each = grind arith

module _ (c : Coordinate) (level : ℕ) (entries : List ℕ) (p : ℕ) (lt : p < length entries) where
  next_at : (o : Option (Option (List ℕ))) → IsSomeAnd o (IsNextBlock c level entries (p / 1024))
      → IsNextEntry c level entries p (entered_at o (p % 1024) (get_or entries p 0))
  next_at (Some (Some next)) each = at_place (λ p k. IsNextEntry c level entries p (get_or next k 0)) (length entries) p lt each
  next_at (Some None) each =
      let known : get_or entries p 0 ≢ 255 = at_place (λ p _. get_or entries p 0 ≢ 255) (length entries) p lt each in
      record { kept = λ _. refl; reached = λ unknown. absurd (known unknown) }
  next_at None each = absurd each

  checked_at : (o : Option (Option (List ℕ))) → IsSomeAnd o (IsCheckedBlock c level entries (p / 1024)) → IsThere o
      → IsAgreed c level entries p × IsNextEntry c level entries p (entered_at o (p % 1024) (get_or entries p 0))
  checked_at (Some (Some next)) each there =
      at_place (λ p k. IsAgreed c level entries p × IsNextEntry c level entries p (get_or next k 0)) (length entries) p lt each
  checked_at (Some None) each there = absurd there
  checked_at None each there = absurd each

module _ (c : Coordinate) (below : StaysBelow c) (level : ℕ) (small : level < 254) (blocks : List (Option (Option (List ℕ))))
    (entries now : List ℕ) (count : length blocks ≡ block_count (length entries)) (same : length now ≡ length entries)
    (are : (p : ℕ) → p < length entries → get_or now p 0 ≡ entered blocks entries p) where
  next_level_of : AreKnown c level entries
      → ((p : ℕ) → p < length entries → IsNextEntry c level entries p (entered blocks entries p))
      → AreKnown c (level + 1) now
  next_level_of known each = record {
    positions = omega (arith, same, known.positions);
    each = λ p lt.
        let inside : p < length entries = omega (arith, lt, known.positions) in
        let here : get_or now p 0 ≡ entered blocks entries p = are p inside in
        rw here (IsKnown-next c below level small entries known p (entered blocks entries p) lt (each p inside));
  }

  -- A level of blocks that are answered, or that all agree, is made of the one before.
  AreKnown-next : AreKnown c level entries → AreAnswered (IsNextBlock c level entries) blocks
      → AreKnown c (level + 1) now
  AreKnown-next known answered =
      next_level_of known (λ p lt.
      next_at c level entries p lt (slice_index_or blocks (p / 1024) None)
      (answered (p / 1024) (omega (arith, count, block_of (length entries) p lt))))

  AreKnown-checked : AreMarked c entries → AreAnswered (IsCheckedBlock c level entries) blocks
      → ((k : ℕ) → k < length blocks → IsThere (slice_index_or blocks k None)) → AreKnown c (level + 1) now
  AreKnown-checked marked answered there =
      let fits : level < 255 = omega arith in
      next_level_of (AreKnown-agreed c below level fits entries marked agreed) (λ p lt. (checked p lt).1)
    where
      checked : (p : ℕ) → p < length entries
          → IsAgreed c level entries p × IsNextEntry c level entries p (entered blocks entries p)
      checked p lt =
          let block : p / 1024 < length blocks = omega (arith, count, block_of (length entries) p lt) in
          checked_at c level entries p lt (slice_index_or blocks (p / 1024) None) (answered (p / 1024) block) (there (p / 1024) block)

      agreed : (p : ℕ) → p < c.count → IsAgreed c level entries p
      agreed p lt =
          let inside : p < length entries = omega (arith, lt, marked.positions) in
          (checked p inside).0

  -- which of the two it is, by whether the entries are checked
  pub AreKnown-behind : (checked : Bool) → OnTrue checked (AreMarked c entries)
      → OnFalse checked (AreKnown c level entries) → AreAnswered (IsBlockBehind checked c level entries) blocks
      → (checked ≡ true → (k : ℕ) → k < length blocks → IsThere (slice_index_or blocks k None))
      → AreKnown c (level + 1) now
  AreKnown-behind true marked known answered there = AreKnown-checked marked answered (there refl)
  AreKnown-behind false marked known answered there = AreKnown-next known answered

-- A block whose entries agree with the least that turns lead to, and whose next level is made of these.
pub IsCheckedBlock-of : (c : Coordinate) (level : ℕ) (entries : List ℕ) (block start end : ℕ) (least : List ℕ)
    → start ≡ 1024 * block → ((k : ℕ) → k < 1024 → start + k < length entries → start + k < end)
    → ((k : ℕ) → start + k < end → IsLeastNeighbour c entries (start + k) (get_or least k 0)) → (o : Option (List ℕ))
    → IfSome o (λ _. (k : ℕ) → start + k < end → Agrees level (get_or entries (start + k) 0) (get_or least k 0))
    → IfSome o (λ next. (k : ℕ) → start + k < end → get_or next k 0 ≡ next_entry level (get_or entries (start + k) 0) (get_or least k 0))
    → IsCheckedBlock c level entries block o
IsCheckedBlock-of c level entries block start end least at within near None agree are = tt
IsCheckedBlock-of c level entries block start end least at within near (Some next) agree are =
    λ k lt inside.
    let here : start + k < end = within k lt (omega (arith, at, inside)) in
    let place : start + k ≡ 1024 * block + k = omega (arith, at) in
    let P : ℕ → Type 0 = λ p. IsAgreed c level entries p × IsNextEntry c level entries p (get_or next k 0) in
    subst P place (
      (get_or least k 0, near k here, agree k here),
      IsNextEntry-least c level entries (start + k) (get_or least k 0) (get_or next k 0) (near k here) (are k here),
    )
