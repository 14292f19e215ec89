-- What goes wrong in a run, and the line that tells it.
use Rattle.std.specs.Prelude.{ℕ, List, ◌++◌, codes}
use Rattle.std.specs.Fmt.{decimal}
use Rattle.scr_host.specs.Faults.{Telling}
use Rattle.scr_read.specs.Causes.{cause_text}
use Rattle.scr_pages.specs.declared.fault.PageFault.{PageFault}
use Rattle.scr_pages.specs.declared.fault.PageFault.TheVariants as page

-- a line of the sheet, counted from 1
abbrev pub line_text : ℕ → List ℕ
line_text line = codes "line " ++ decimal line ++ codes ": "

-- why a sheet has no pages
abbrev pub page_text : PageFault → List ℕ
page_text (page.Sheet why) = line_text why.line ++ cause_text why.cause
page_text (page.Barred line) = line_text line ++ codes "a turn of the Square-1 is barred where it stands"
page_text (page.NoGroup count) = codes "no such group: the sheet has " ++ decimal count
page_text (page.Near line) =
    line_text line ++ codes "a Square-1 that fewer than 11 turns solve (Regulations 4b3): draw a new seed, and print all anew"

-- the exit code of each cause: a Square-1 that is too near has its own
abbrev pub page_code : PageFault → ℕ
page_code (page.Near line) = 10
page_code other = 3

-- how the program tells what goes wrong in it
abbrev pub telling : Telling PageFault
telling = record {
  program = codes "scramble-pages";
  usage = codes "[--html] [--name COMPETITION] [--group N] [--pictures no|yes] [--regulations no|yes] < SHEET > PAGES";
  text = page_text;
  code = page_code;
}
