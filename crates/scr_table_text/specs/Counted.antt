-- How many entries of a table have each distance, and what writing tables does.
use Rattle.std.specs.Prelude.{◌≡◌, ℕ, ◌+◌, ◌<◌, ◌==◌, List, ◌∷◌, All, count_by, length, map, slice_index, Result}
use Rattle.std.specs.Borrow.{Bor}
use Rattle.scr_text.specs.Lines.{text_of_lines}
use Rattle.scr_table.specs.Distances.{Distances}
use Rattle.scr_table.specs.SearchTables.{SearchTable}
use Rattle.scr_outside.specs.Change.{Change, Writes}
use Rattle.scr_table_text.specs.TableText.{head_text, count_lines, AreTableTexts, IsTablesText}

-- how many there are of each distance, from 0 up to the greatest
pub record AreEntryCounts (distances counts : List ℕ) : Type 0 where
  pub counted : (d : ℕ) → d < length counts → slice_index counts d ≡ count_by (λ distance. distance == d) distances
  pub each : All (λ distance. distance < length counts) distances
  pub greatest : (d : ℕ) → length counts ≡ d + 1 → 0 < slice_index counts d

-- the text that tells them
abbrev pub counted_text : Distances → List ℕ → List ℕ
counted_text table counts = text_of_lines (head_text table.name (length table.distances) table.bound ∷ count_lines 0 counts)

-- the tables behind references
abbrev pub tables_in : List (Bor Distances) → List Distances
tables_in = map (λ table. table.now)

-- the texts of tables were written, or a first part of them, where the sink failed
abbrev pub WritesTexts : {E : Type 0} → List SearchTable → Change → Result (Unit {0}) E → Type 0
WritesTexts tables change result = (text : List ℕ) × AreTableTexts tables text × Writes change text result

-- the same of the tables of an event, which may have none
abbrev pub WritesTables : {E : Type 0} → List SearchTable → Change → Result (Unit {0}) E → Type 0
WritesTables tables change result = (text : List ℕ) × IsTablesText tables text × Writes change text result
