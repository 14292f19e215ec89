-- The texts of tables, written one after another.
use Rattle.std.proofs.Common.{◌≡◌, ℕ, ◌≤◌, List, [], ◌∷◌, ◌++◌, length, drop, take, get_or, ◌-◌, Option, Result, refl, sym, ap, ◌∙◌, arith}
use Rattle.std.proofs.Math.Seq.{take-length}
use Rattle.std.specs.Prelude.{codes}
use Rattle.std.specs.Borrow.{Bor}
use Rattle.scr_outside.specs.Change.{Change, Gains, Falters, Writes}
use Rattle.scr_outside.proofs.ChangeLemmas.{from_to, Gains-nothing, written-none, written-more, written-last, Falters-longer}
use Rattle.scr_table.specs.Distances.{Distances}
use Rattle.scr_table.specs.Lines.{TableLine, AreTablesOf}
use Rattle.scr_table.specs.TableStates.{all_by_positions}
use Rattle.scr_table_text.specs.TableText.{AreTableTexts}
use Rattle.scr_table_text.specs.Counted.{AreEntryCounts, counted_text, tables_in, WritesTexts, WritesTables}
use Rattle.scr_table_text.proofs.CountLaws.{IsTableText-measured, counts_of-entries}

-- the first of some tables, and the others
pub tables_in-first : (tables : List (Bor Distances)) (first : Bor Distances) → 1 ≤ length tables
    → first ≡ get_or tables 0 first
    → tables_in tables ≡ first.now ∷ tables_in (take (length tables - 1) (drop 1 tables))
tables_in-first [] first some is = absurd (omega arith)
tables_in-first (table ∷ tables) first some is =
    let size : length (table ∷ tables) - 1 ≡ length tables = omega arith in
    ap (λ (t : Bor Distances). t.now ∷ tables_in tables) (sym is)
    ∙ ap (λ others. first.now ∷ tables_in others) (sym (ap (λ n. take n tables) size ∙ take-length tables))

pub tables_in-none : (tables : List (Bor Distances)) → length tables ≤ 0 → tables_in tables ≡ []
tables_in-none [] none = refl
tables_in-none (table ∷ tables) none = absurd (omega arith)

-- built tables have texts
texts_of-tables : (lines : List TableLine) (tables : List Distances) → AreTablesOf lines tables
    → (text : List ℕ) × AreTableTexts (all_by_positions lines) text
texts_of-tables [] [] are = ([], refl)
texts_of-tables [] (table ∷ tables) are = absurd are
texts_of-tables (line ∷ lines) [] are = absurd are
texts_of-tables (line ∷ lines) (table ∷ tables) are =
    let counts = counts_of-entries line table are.0.measures in
    let first = counted_text table counts.0 in
    let others = texts_of-tables lines tables are.1 in
    (first ++ others.0, (first, others.0, IsTableText-measured line table counts.0 are.0.measures are.0.name are.0.bound counts.1, others.1, refl))

-- nothing is left to write
pub texts-none : {held : Option (List ℕ)} {faults : ℕ} (lines : List TableLine) → AreTablesOf lines []
    → (text : List ℕ) × AreTableTexts (all_by_positions lines) text × Gains (from_to held faults held faults) text
texts-none [] are = ([], refl, Gains-nothing)
texts-none (line ∷ lines) are = absurd are

-- the first text was written, and then the others or a part of them
pub texts-more : {E : Type 0} {held held' : Option (List ℕ)} {faults faults' : ℕ} (held'' : Option (List ℕ)) (faults'' : ℕ) (lines : List TableLine)
    (table : Distances) (tables : List Distances) (counts : List ℕ) (r : Result (Unit {0}) E)
    → AreTablesOf lines (table ∷ tables) → AreEntryCounts table.distances counts
    → Gains (from_to held faults held' faults') (counted_text table counts)
    → ((others : List TableLine) → AreTablesOf others tables → WritesTexts (all_by_positions others) (from_to held' faults' held'' faults'') r)
    → WritesTexts (all_by_positions lines) (from_to held faults held'' faults'') r
texts-more held'' faults'' [] table tables counts r are entries gains rest = absurd are
texts-more held'' faults'' (line ∷ lines) table tables counts r are entries gains rest =
    let first = counted_text table counts in
    let others = rest lines are.1 in (
      first ++ others.0,
      (first, others.0, IsTableText-measured line table counts are.0.measures are.0.name are.0.bound entries, others.1, refl),
      written-last held'' faults'' r (written-more {left = others.0} written-none gains) others.2,
    )

-- the first text could not be written whole
pub texts-part : {change : Change} (lines : List TableLine) (table : Distances) (tables : List Distances) (counts : List ℕ)
    → AreTablesOf lines (table ∷ tables) → AreEntryCounts table.distances counts
    → Falters change (counted_text table counts)
    → (text : List ℕ) × AreTableTexts (all_by_positions lines) text × Falters change text
texts-part [] table tables counts are entries falters = absurd are
texts-part (line ∷ lines) table tables counts are entries falters =
    let first = counted_text table counts in
    let others = texts_of-tables lines tables are.1 in (
      first ++ others.0,
      (first, others.0, IsTableText-measured line table counts are.0.measures are.0.name are.0.bound entries, others.1, refl),
      Falters-longer others.0 falters,
    )

-- the text of an event that has no tables
pub tables-none : {E : Type 0} (change : Change) (r : Result (Unit {0}) E) (lines : List TableLine)
    → AreTablesOf lines [] → Writes change (codes "no tables\n") r → WritesTables (all_by_positions lines) change r
tables-none change r [] are writes = (codes "no tables\n", refl, writes)
tables-none change r (line ∷ lines) are writes = absurd are

-- and of one that has some
pub tables-some : {E : Type 0} (change : Change) (r : Result (Unit {0}) E) (lines : List TableLine) (tables : List Distances)
    → 1 ≤ length tables → AreTablesOf lines tables → WritesTexts (all_by_positions lines) change r
    → WritesTables (all_by_positions lines) change r
tables-some change r [] [] some are writes = absurd (omega arith)
tables-some change r [] (table ∷ tables) some are writes = absurd are
tables-some change r (line ∷ lines) tables some are writes = writes
