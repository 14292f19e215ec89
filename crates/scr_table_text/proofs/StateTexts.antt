-- The texts of tables, told by the positions of their lines, are those of their states.
use Rattle.std.proofs.Common.{◌≡◌, ℕ, ◌<◌, List, [], ◌∷◌, sym, subst}
use Rattle.std.specs.Prelude.{slice_index}
use Rattle.scr_draw.specs.Count.{count_below}
use Rattle.scr_table.specs.Lines.{TableLine}
use Rattle.scr_table.specs.SearchTables.{SearchTable}
use Rattle.scr_table.specs.TableStates.{IsLineOf, AreLinesOf, by_positions, all_by_positions}
use Rattle.scr_table.proofs.TableStatesLaws.{IsAtDistance-states, IsAtDistance-positions}
use Rattle.scr_table_text.specs.TableText.{AreCounts, IsTableText, AreTableTexts, IsTablesText}

AreCounts-states : (table : SearchTable) (line : TableLine) → IsLineOf table line → (counts : List ℕ)
    → AreCounts (by_positions line) counts → AreCounts table counts
AreCounts-states table line is counts are = record {
  counted = λ d lt.
      let count = are.counted d lt in
      record {
        test = count.test;
        tells = λ i below.
            let told = count.tells i (subst (λ n. i < n) (sym is.count) below) in
            (λ h. IsAtDistance-states table line is i d (told.0 h), λ h. told.1 (IsAtDistance-positions table line is i d h));
        counted = subst (λ n. count_below count.test n ≡ slice_index counts d) is.count count.counted;
      };
  each = λ i d h. are.each i d (IsAtDistance-positions table line is i d h);
  greatest = are.greatest;
}

IsTableText-states : (table : SearchTable) (line : TableLine) → IsLineOf table line → (text : List ℕ)
    → IsTableText (by_positions line) text → IsTableText table text
IsTableText-states table line is text of_line = record {
  counts = of_line.counts;
  are = AreCounts-states table line is of_line.counts of_line.are;
  is = rw (← is.name, ← is.count, ← is.bound) of_line.is;
}

AreTableTexts-states : (tables : List SearchTable) (lines : List TableLine) → AreLinesOf tables lines → (text : List ℕ)
    → AreTableTexts (all_by_positions lines) text → AreTableTexts tables text
AreTableTexts-states [] [] are text texts = texts
AreTableTexts-states [] (line ∷ lines) are text texts = absurd are
AreTableTexts-states (table ∷ tables) [] are text texts = absurd are
AreTableTexts-states (table ∷ tables) (line ∷ lines) are text texts = (
  texts.0,
  texts.1,
  IsTableText-states table line are.0 texts.0 texts.2,
  AreTableTexts-states tables lines are.1 texts.1 texts.3,
  texts.4,
)

pub IsTablesText-states : (tables : List SearchTable) (lines : List TableLine) → AreLinesOf tables lines
    → (text : List ℕ) → IsTablesText (all_by_positions lines) text → IsTablesText tables text
IsTablesText-states [] [] are text told = told
IsTablesText-states [] (line ∷ lines) are text told = absurd are
IsTablesText-states (table ∷ tables) [] are text told = absurd are
IsTablesText-states (table ∷ tables) (line ∷ lines) are text told = AreTableTexts-states (table ∷ tables) (line ∷ lines) are text told
