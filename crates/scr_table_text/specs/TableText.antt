-- The text of an event's tables: of each its head, and how many positions it has at each distance. The layout is our
-- own choice.
use Rattle.std.specs.Prelude.{◌≡◌, ℕ, ◌+◌, ◌<◌, List, [], ◌∷◌, ◌++◌, codes, length, slice_index}
use Rattle.std.specs.Fmt.{decimal}
use Rattle.scr_text.specs.Lines.{text_of_lines}
use Rattle.scr_draw.specs.Count.{IsCount}
use Rattle.scr_table.specs.declared.name.TableName.{TableName}
use Rattle.scr_table.specs.Names.{name_text}
use Rattle.scr_table.specs.SearchTables.{SearchTable, IsAtDistance}

-- how many numbers of a table are those of states at each distance, from 0 up to the greatest that occurs
pub record AreCounts (table : SearchTable) (counts : List ℕ) : Type 0 where
  pub counted : (d : ℕ) → d < length counts → IsCount (λ i. IsAtDistance table i d) table.count (slice_index counts d)
  pub each : (i d : ℕ) → IsAtDistance table i d → d < length counts
  pub greatest : (d : ℕ) → length counts ≡ d + 1 → 0 < slice_index counts d

-- the head of a table: its name, how many positions it has, and how far it may reach
abbrev pub head_text : TableName → ℕ → ℕ → List ℕ
head_text name positions bound =
    codes "table " ++ name_text name ++ codes " positions " ++ decimal positions ++ codes " bound " ++ decimal bound

-- a line for each distance, from d on
abbrev pub count_lines : ℕ → List ℕ → List (List ℕ)
count_lines d [] = []
count_lines d (count ∷ counts) = (decimal d ++ 32 ∷ decimal count) ∷ count_lines (d + 1) counts

-- the text of one table
pub record IsTableText (table : SearchTable) (text : List ℕ) : Type 0 where
  pub counts : List ℕ
  pub are : AreCounts table counts
  pub is : text ≡ text_of_lines (head_text table.name table.count table.bound ∷ count_lines 0 counts)

-- the texts of tables, one after another
abbrev pub AreTableTexts : List SearchTable → List ℕ → Type 0
AreTableTexts [] text = text ≡ []
AreTableTexts (table ∷ tables) text =
    (first : List ℕ) × (rest : List ℕ) × IsTableText table first × AreTableTexts tables rest × (text ≡ first ++ rest)

-- the text of an event's tables, or that it has none
abbrev pub IsTablesText : List SearchTable → List ℕ → Type 0
IsTablesText [] text = text ≡ codes "no tables\n"
IsTablesText (table ∷ tables) text = AreTableTexts (table ∷ tables) text
