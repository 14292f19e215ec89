use Rattle.std.proofs.Common.{◌≡◌, ℕ, List, [], ◌∷◌, ◌++◌, refl, sym, ap, subst, arith}
use Rattle.std.proofs.Math.Logic.{∥∥₁_elim}
use Rattle.std.proofs.lemmas.List.Elements.{All-head}
use Rattle.std.specs.Prelude.{All, slice_index_or}
use Rattle.scr_positions.specs.Coordinates.{moved, IsGoal}
use Rattle.scr_combinatorics.specs.FirstWord.{IsDistance}
use Rattle.scr_combinatorics.proofs.FirstWordLaws.{IsDistance-unique}
use Rattle.scr_table.specs.declared.name.TableName.TheVariants.{Corners, Flips}
use Rattle.scr_table.specs.Distances.{IsGap, IsFirstGap}
use Rattle.scr_table.specs.Lines.{TableLine, HasNoGap}
use Rattle.scr_table.specs.Row.{row_coordinate, row_line}
use Rattle.scr_table.proofs.LineLaws.{no_gaps-line}
use Rattle.scr_table.proofs.RowLaws.{row_least, row_stays, row_distance, row_entry, row_first_word, leads_from_0, leads_from_2}
use Rattle.scr_laws.proofs.table.rows.Goals as goal

pub returns-clause-distance : goal.returns-clause-distance
returns-clause-distance _ = row_distance 2 (omega arith)

pub returns-clause-first_word : goal.returns-clause-first_word
returns-clause-first_word _ = row_first_word

pub returns-clause-no_first_word : goal.returns-clause-no_first_word
returns-clause-no_first_word _ = λ first. omega (arith, row_least 3 2 (0 ∷ []) first.leads)

pub returns-clause-measures : goal.returns-clause-measures
returns-clause-measures _ = record {
  positions = refl;
  stays_below = row_stays 3;
  exact = λ p lt. let P : ℕ → Type 0 = λ d. IsDistance (moved (row_coordinate 3)) (IsGoal (row_coordinate 3)) p d in subst P (sym (row_entry p lt)) (row_distance p lt);
  within = λ p lt. omega (arith, row_entry p lt);
}

pub returns-clause-no_greater : goal.returns-clause-no_greater
returns-clause-no_greater _ = λ m.
    omega (arith, IsDistance-unique (moved (row_coordinate 3)) (IsGoal (row_coordinate 3)) 2 1 2 (m.exact 2 (omega arith)) (row_distance 2 (omega arith)))

pub returns-clause-gap : goal.returns-clause-gap
returns-clause-gap _ = record { position = omega arith; none = λ w l. omega (arith, row_least 3 2 w l) }

pub returns-clause-no_gap : goal.returns-clause-no_gap
returns-clause-no_gap _ = λ h. omega (arith, h.none (0 ∷ 0 ∷ []) leads_from_2)

-- within no turn, position 1 is the first gap
first_gap : IsFirstGap (row_coordinate 3) 0 1
first_gap = record {
  gap = record { position = omega arith; none = λ w l. omega (arith, row_least 3 1 w l) };
  none_before = λ earlier less gap. let P : ℕ → Type 0 = λ p. IsGap (row_coordinate 3) 0 p in
      let first : earlier ≡ 0 = omega arith in
      omega (arith, (subst P first gap).none [] leads_from_0);
}

pub returns-clause-no_later_gap : goal.returns-clause-no_later_gap
returns-clause-no_later_gap _ = λ first.
    first.none_before 1 (omega arith)
    (record { position = omega arith; none = λ w l. omega (arith, row_least 3 1 w l) })

pub returns-clause-first_gap : goal.returns-clause-first_gap
returns-clause-first_gap _ = first_gap

-- within two turns there is none
whole : HasNoGap (row_line 3 Corners 2)
whole index gap =
    ∥∥₁_elim (row_distance index gap.position).reached (hlevel)
    (λ word. omega (arith, gap.none word.0 word.1, word.2, gap.position))

pub returns-clause-first_table : goal.returns-clause-first_table
returns-clause-first_table _ = record {
  before = row_line 3 Corners 2 ∷ [];
  line = row_line 3 Flips 0;
  behind = [];
  in_order = refl;
  no_gaps = no_gaps-line (row_line 3 Corners 2) whole;
  named = refl;
  gap = first_gap;
}

-- the line of the first table has another name, and stands behind none that is whole
no_other : (before behind : List TableLine) (line : TableLine)
    → row_line 3 Corners 0 ∷ row_line 3 Flips 0 ∷ [] ≡ before ++ line ∷ behind → All HasNoGap before
    → line.name ≡ Flips → ⊥
no_other [] behind line same none named =
    let name : Corners ≡ line.name = ap (λ lines. (slice_index_or lines 0 line).name) same in
    cc
no_other (first ∷ before) behind line same none named =
    let here : row_line 3 Corners 0 ≡ first = ap (λ lines. slice_index_or lines 0 line) same in
    subst HasNoGap (sym here) (All-head HasNoGap first before none) 1 first_gap.gap

pub returns-clause-no_later_table : goal.returns-clause-no_later_table
returns-clause-no_later_table _ = λ cause.
    no_other cause.before cause.behind cause.line cause.in_order cause.no_gaps cause.named
