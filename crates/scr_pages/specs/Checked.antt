-- What the passes over an input that was read find, and which groups are wanted.
use Rattle.std.specs.Prelude.{ℕ, ◌≡◌, ◌+◌, ◌≤◌, ◌⊎◌, Option, List, take, drop, length}
use Rattle.scr_read.specs.Sheets.{SheetRound, IsSheet}
use Rattle.scr_read.specs.declared.fault.SheetFault.{SheetFault}
use Rattle.scr_read.specs.Faults.{IsFirstFault}
use Rattle.scr_read.specs.Groups.{GroupOf, groups_of}
use Rattle.scr_host.specs.declared.fault.Fault.TheVariants as fault
use Rattle.scr_pages.specs.Faults.{RunFault as Fault}
use Rattle.scr_pages.specs.declared.fault.PageFault.TheVariants as page
use Rattle.scr_pages.specs.declared.survey.Survey.{Survey}
use Rattle.scr_pages.specs.declared.checking.Wanted.{Wanted}
use Rattle.scr_pages.specs.declared.checking.Checked.{Checked}
use Rattle.scr_pages.specs.Asked.{Asked}
use Rattle.scr_pages.specs.Shown.{chosen}
use Rattle.scr_pages.specs.Marked.{marks_of}
use Rattle.scr_pages.specs.Passes.{FailsSurvey, FailsLook}
use Rattle.scr_pages.specs.Refusals.{NoneIs, HasGroup, HasPages}
use Rattle.scr_pages.specs.Slots.{slots_of, IsBarred}

-- bytes are the sheet of these rounds, which were found, and no turn in it is barred
pub record IsSurveyed (bytes : List ℕ) (survey : Survey) : Type 0 where
  pub rounds : List SheetRound
  pub sheet : IsSheet bytes rounds
  pub marks : survey.marks.items ≡ marks_of rounds
  pub count : survey.groups ≡ length (groups_of rounds)
  pub played : NoneIs IsBarred (slots_of (groups_of rounds))

-- why bytes have no pages, whatever is asked for
abbrev pub RefusesSurvey : List ℕ → Fault → Type 0
RefusesSurvey bytes why =
    ((cause : SheetFault) × (why ≡ fault.Own (page.Sheet cause)) × IsFirstFault bytes cause)
    ⊎ ((rounds : List SheetRound) × IsSheet bytes rounds × FailsSurvey (groups_of rounds) why)

-- so many groups, behind so many, are those that are chosen
pub record IsWanted (group : Option ℕ) (groups : ℕ) (wanted : Wanted) : Type 0 where
  pub has : HasGroup group groups
  pub few : wanted.first + wanted.count ≤ groups
  pub are : (all : List GroupOf) → length all ≡ groups → chosen group all ≡ take wanted.count (drop wanted.first all)

-- bytes are a sheet whose groups have pages
pub record IsChecked (asked : Asked) (bytes : List ℕ) (checked : Checked) : Type 0 where
  pub surveyed : IsSurveyed bytes checked.survey
  pub wanted : IsWanted asked.group checked.survey.groups checked.wanted
  pub pages : HasPages asked (groups_of surveyed.rounds)

-- why the look at bytes that are a sheet ends early
abbrev pub RefusesLook : List ℕ → Fault → Type 0
RefusesLook bytes why =
    ((cause : SheetFault) × (why ≡ fault.Own (page.Sheet cause)) × IsFirstFault bytes cause)
    ⊎ ((rounds : List SheetRound) → IsSheet bytes rounds → FailsLook (groups_of rounds) why)
