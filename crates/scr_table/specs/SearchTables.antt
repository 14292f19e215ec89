-- Tables as told by the states of which they speak, and their gaps.
use Rattle.std.specs.Prelude.{◌≡◌, ℕ, ◌<◌, List, [], ◌∷◌, length, ◌⊎◌}
use Rattle.scr_combinatorics.specs.FirstWord.{LeadsTo, IsDistance}
use Rattle.scr_positions.specs.SearchSpaces.{SearchSpace}
use Rattle.scr_table.specs.declared.name.TableName.{TableName}
use Rattle.scr_table.specs.declared.fault.BuildFault.{BuildFault}
use Rattle.scr_table.specs.declared.fault.BuildFault.TheVariants.{NoMemory, Gap}

-- A table: its name; the states of which it speaks, with the turns and the goals of its search; the number that it sees
-- of each, and how many numbers there are; and how many turns a state may be from a goal.
pub record SearchTable : Type 1 where
  pub State : Type 0
  pub name : TableName
  pub space : SearchSpace State
  pub number_of : State → ℕ
  pub count : ℕ
  pub bound : ℕ

abbrev pub table_over : {S : Type 0} → TableName → SearchSpace S → (S → ℕ) → ℕ → ℕ → SearchTable
table_over {S} name space number_of count bound =
    record { State = S; name = name; space = space; number_of = number_of; count = count; bound = bound }

-- Of a state with this number, among those of which a table speaks, this is so.
pub record HasState (table : SearchTable) (i : ℕ) (Is : table.State → Type 0) : Type 0 where
  pub state : table.State
  pub valid : table.space.IsValid state
  pub number : table.number_of state ≡ i
  pub so : Is state

-- Such a state is so many turns from a goal.
abbrev pub IsAtDistance : SearchTable → ℕ → ℕ → Type 0
IsAtDistance table i d = HasState table i (λ s. IsDistance table.space.after table.space.IsGoal s d)

-- A gap: the number of a state from which no word of at most so many turns as the bound leads to a goal.
abbrev pub HasGap : SearchTable → ℕ → Type 0
HasGap table i = HasState table i (λ s. (w : List ℕ) → LeadsTo table.space.after table.space.IsGoal s w → table.bound < length w)

abbrev pub IsWhole : SearchTable → Type 0
IsWhole table = (i : ℕ) → HasGap table i → ⊥

-- The first gap: no number below it is one.
pub record HasFirstGap (table : SearchTable) (i : ℕ) : Type 0 where
  pub gap : HasGap table i
  pub none_before : (earlier : ℕ) → earlier < i → HasGap table earlier → ⊥

-- The first of some tables that has a gap has this name, and its first gap here.
abbrev pub IsFirstGapAmong : List SearchTable → TableName → ℕ → Type 0
IsFirstGapAmong [] name i = ⊥
IsFirstGapAmong (table ∷ tables) name i =
    ((table.name ≡ name) × HasFirstGap table i) ⊎ (IsWhole table × IsFirstGapAmong tables name i)

-- Why these tables, built one after another, are not built. Memory is wanted only where there is a table; no more of
-- its cause can be told.
abbrev pub IsCauseAmong : List SearchTable → BuildFault → Type 0
IsCauseAmong tables NoMemory = 0 < length tables
IsCauseAmong tables (Gap name i) = IsFirstGapAmong tables name i
