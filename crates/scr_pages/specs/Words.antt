-- What words ask for, as code holds it, and why they ask for nothing.
use Rattle.std.specs.Prelude.{◌≡◌, List, None, false}
use Rattle.std.specs.List.{list_any}
use Rattle.scr_options.specs.Hyphens.{is_bare}
use Rattle.scr_options.specs.OptionWords.{Text}
use Rattle.scr_options.specs.declared.splitting.OptionsFault.{OptionsFault}
use Rattle.scr_options.specs.declared.splitting.OptionsFault.TheVariants as options
use Rattle.scr_pages.specs.declared.asked.Asked.{Asked as Held}
use Rattle.scr_host.specs.declared.fault.Fault.TheVariants as fault
use Rattle.scr_pages.specs.Faults.{RunFault as Fault}
use Rattle.scr_pages.specs.Asked.{Asked, asked_for}

abbrev pub asked_of : Held → Asked
asked_of asked = record {
  html = asked.html;
  name = asked.name.now;
  group = asked.group;
  pictures = asked.pictures;
  regulations = asked.regulations;
}

abbrev pub fault_of_options : OptionsFault → Fault
fault_of_options options.Usage = fault.Usage
fault_of_options options.NoMemory = fault.NoMemory

-- Why words weren't read as what they ask for: they ask for nothing; or memory was wanting to split them, which words with
-- a lone hyphen or two among them are not.
abbrev pub RefusesWords : List Text → Fault → Type 0
RefusesWords words fault.Usage = asked_for words ≡ None
RefusesWords words fault.NoMemory = list_any is_bare words ≡ false
RefusesWords words other = ⊥
