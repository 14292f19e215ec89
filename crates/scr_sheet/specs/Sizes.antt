-- What the making of a sheet gives that is counted and not written.
use Rattle.std.specs.Prelude.{◌≡◌, ℕ, List, length, sum, sum_by, Result, Ok, Err, IfOk}
use Rattle.scr_outside.specs.Change.{Change}
use Rattle.scr_check.specs.declared.fault.Missing.{Missing}
use Rattle.scr_list.specs.declared.round.Round.{Round}
use Rattle.scr_round.specs.Round.{slots_of}
use Rattle.scr_slots.specs.declared.settings.Settings.{Settings}
use Rattle.scr_fault.specs.declared.fault.Fault.{Fault}
use Rattle.scr_fault.specs.declared.fault.Fault.TheVariants as fault
use Rattle.scr_sheet.specs.declared.load.Size.{Size}
use Rattle.scr_sheet.specs.Load.{load_text}
use Rattle.scr_sheet.specs.Sheet.{Part, IsPartText, round_parts}
use Rattle.scr_sheet.specs.Outcome.{EndsParts, EndsTelling, gaining}

-- what a text amounts to: how many bytes it has, and what they add up to
pub record IsSizeOf (text : List ℕ) (size : Size) : Type 0 where
  pub counted : size.bytes ≡ length text
  pub added : size.sum ≡ sum text

-- A part has its text, and this is what the text amounts to.
pub record IsPartSize (settings : Settings) (part : Part) (size : Size) : Type 0 where
  pub text : List ℕ
  pub is : IsPartText settings part text
  pub amounts : IsSizeOf text size

-- how a call ended, apart from the size that it gave
abbrev pub ended_of : Result Size Missing → Result (Unit {0}) Fault
ended_of (Ok size) = Ok tt
ended_of (Err missing) = Err (fault.DrawLimit missing)

-- Parts were made as for a sink that takes all of their text, and this is what that amounts to.
pub record SizesParts (settings : Settings) (parts : List Part) (answer : Result Size Missing) : Type 0 where
  pub sheet : List ℕ
  pub ends : EndsParts settings 0 parts (gaining sheet) (ended_of answer)
  pub amounts : IfOk answer (IsSizeOf sheet)

-- Rounds were made so, and it was told what their text amounts to.
pub record EndsSized (settings : Settings) (rounds : List Round) (out : Change) (ended : Result (Unit {0}) Fault) : Type 0 where
  pub sheet : List ℕ
  pub made : Result (Unit {0}) Fault
  pub ends : EndsParts settings 0 (round_parts 0 rounds) (gaining sheet) made
  pub told : EndsTelling made (load_text (length rounds) (sum_by slots_of rounds) (length sheet) (sum sheet)) out ended
