-- How a run may end.
use Rattle.std.specs.Prelude.{ℕ, ◌≡◌, ◌⊎◌, IsTrue, Some, List, [], length, Result, Ok, Err, OnOk}
use Rattle.scr_outside.specs.Change.{Change, IsUnchanged}
use Rattle.scr_host.specs.declared.fault.Fault.TheVariants as fault
use Rattle.scr_host.specs.Input.{EndsReading}
use Rattle.scr_host.specs.Runs.{outcome_of}
use Rattle.scr_read.specs.Sheets.{SheetRound, IsSheet}
use Rattle.scr_read.specs.Faults.{IsFirstFault}
use Rattle.scr_read.specs.Groups.{groups_of}
use Rattle.scr_layout.specs.Name.{fitting}
use Rattle.scr_pages.specs.Faults.{RunFault as Fault}
use Rattle.scr_pages.specs.declared.fault.PageFault.TheVariants as page
use Rattle.scr_pages.specs.Asked.{Asked, asked_for, has_pictures}
use Rattle.scr_pages.specs.Words.{RefusesWords}
use Rattle.scr_pages.specs.Shown.{shown_groups, chosen}
use Rattle.scr_pages.specs.Slots.{Slot, slots_of, IsBarred, IsNear}
use Rattle.scr_pages.specs.Refusals.{NoneIs, IsFirst, HasGroup, HasPages}
use Rattle.scr_pages.specs.Pages.{Look}
use Rattle.scr_pages.specs.Writing.{WritesPages}

-- ---- an input that was read

-- how pages look that are asked for: the competition's name stands in a line of 72
abbrev pub asked_look : Asked → Look
asked_look asked = record { html = asked.html; pictures = has_pictures asked; name = fitting 72 asked.name }

-- Bytes are the sheet of these rounds, which has pages. Those of the groups that are asked for were written, or a first
-- part of them.
pub record PrintsSheet (asked : Asked) (bytes : List ℕ) (out : Change) (ended : Result (Unit {0}) Fault) : Type 0 where
  pub rounds : List SheetRound
  pub sheet : IsSheet bytes rounds
  pub has_pages : HasPages asked (groups_of rounds)
  pub writes : WritesPages (asked_look asked) (chosen asked.group (shown_groups rounds)) out ended

-- bytes are the sheet of some rounds, for whose groups and slots this holds
pub record IsSheetWith (bytes : List ℕ) (Have : ℕ → List Slot → Type 0) : Type 0 where
  pub rounds : List SheetRound
  pub sheet : IsSheet bytes rounds
  pub have : Have (length (groups_of rounds)) (slots_of (groups_of rounds))

-- Why bytes have no pages: they are no sheet; a turn of a Square-1 in it is barred; it hasn't the group that is asked for;
-- or fewer than eleven turns solve a Square-1 in it. Of more than one the first of these is told.
abbrev pub Refuses : Asked → List ℕ → Fault → Type 0
Refuses asked bytes (fault.Own (page.Sheet why)) = IsFirstFault bytes why
Refuses asked bytes (fault.Own (page.Barred line)) = IsSheetWith bytes (λ groups slots. IsFirst IsBarred slots line)
Refuses asked bytes (fault.Own (page.NoGroup count)) =
    IsSheetWith bytes (λ groups slots. NoneIs IsBarred slots × (count ≡ groups) × (HasGroup asked.group groups → ⊥))
Refuses asked bytes (fault.Own (page.Near line)) =
    IsSheetWith bytes (λ groups slots. NoneIs IsBarred slots × HasGroup asked.group groups × IsTrue asked.regulations
    × IsFirst IsNear slots line)
Refuses asked bytes fault.NoMemory = Unit {0}
Refuses asked bytes other = ⊥

-- what becomes of bytes that were read: their pages were written, or a first part of them, or nothing for a cause
abbrev pub Prints : Asked → List ℕ → Change → Result (Unit {0}) Fault → Type 0
Prints asked bytes out ended =
    PrintsSheet asked bytes out ended
    ⊎ ((why : Fault) × (ended ≡ Err why) × Refuses asked bytes why × IsUnchanged out)

-- ---- a whole run

-- How printing ends: words that were read as what they ask for were served, and those that weren't read and write nothing.
abbrev pub EndsAsked : List (List ℕ) → Change → Change → Result (Unit {0}) Fault → Type 0
EndsAsked words source out ended =
    ((asked : Asked) × (asked_for words ≡ Some asked) × EndsReading (Prints asked) source out ended)
    ⊎ ((why : Fault) × (ended ≡ Err why) × RefusesWords words why × IsUnchanged source × IsUnchanged out)

-- how a run ends: where all was written, there is nothing to be told
abbrev pub Ends : List (List ℕ) → Change → Change → Result (List ℕ) Fault → Type 0
Ends words source out ended = EndsAsked words source out (outcome_of ended) × OnOk ended (ended ≡ Ok [])
