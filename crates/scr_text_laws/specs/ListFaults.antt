-- When a list is taken, and else which of its lines is at fault and why: by what its lines are, and not by how they are
-- read. The grammar and the order of the causes are our own choice.
use Rattle.std.specs.Prelude.{ℕ, ◌≡◌, ◌≢◌, ◌+◌, ◌<◌, ◌≤◌, true, if◌then◌else◌, slice_get, Option, Some, None, List, [], ◌∷◌, ◌++◌}
use Rattle.std.specs.Prelude.{All, codes, drop, length, Result, Ok, Err}
use Rattle.std.specs.Fmt.{decimal}
use Rattle.scr_text.specs.Lines.{lines_of, line_words}
use Rattle.scr_notation.specs.declared.event.Event.{Event}
use Rattle.scr_notation.specs.declared.event.Minima.{Minima}
use Rattle.scr_notation.specs.Event.{id_of, minima_of, usual_in}
use Rattle.scr_list.specs.declared.round.Round.{Round}
use Rattle.scr_list.specs.declared.version.Version.{Version}
use Rattle.scr_list.specs.declared.fault.ListCause.{ListCause}
use Rattle.scr_list.specs.declared.fault.ListCause.TheVariants as cause
use Rattle.scr_list.specs.declared.fault.ListFault.{ListFault}
use Rattle.scr_list.specs.declared.fault.ListFault.TheVariants.{TooLong, Line, Read}
use Rattle.scr_list.specs.Names.{told_part, name_part, trimmed, is_name}
use Rattle.scr_list.specs.Versions.{version_of}

-- ---- a line, by its words, and by what follows its colon where it has one

-- it is skipped: it has neither
abbrev pub IsSkipped : List (List ℕ) → Option (List ℕ) → Type 0
IsSkipped words behind = (words ≡ []) × (behind ≡ None)

-- behind an event and its groups stands the minimum, within the event's range; or nothing, and it is the usual one
abbrev pub SetsMinimum : Option Minima → ℕ → List (List ℕ) → Type 0
SetsMinimum minima least [] = least ≡ usual_in minima
SetsMinimum (Some minima) least (word ∷ []) = (word ≡ decimal least) × (least ≤ minima.greatest)
SetsMinimum minima least words = ⊥

-- the name is what follows the colon, without the blanks at its ends; without a colon there is none
abbrev pub GivesName : Option (List ℕ) → List ℕ → Type 0
GivesName None name = name ≡ []
GivesName (Some text) name = (name ≡ trimmed text) × (is_name name ≡ true)

-- it names a round: by the event's id, the number of groups, and maybe a minimum and a name
pub record NamesRound (words : List (List ℕ)) (behind : Option (List ℕ)) (round : Round) : Type 0 where
  pub last : List (List ℕ)
  pub words_are : words ≡ id_of round.event ∷ decimal round.groups ∷ last
  pub some_groups : 1 ≤ round.groups
  pub few_groups : round.groups ≤ 26
  pub least : SetsMinimum (minima_of round.event) round.least last
  pub name : GivesName behind round.name

-- ---- why a line is at fault

-- A cause applies to a line, where so many rounds stand before it, of which a list may have `most`.
abbrev pub Applies : ℕ → ℕ → List (List ℕ) → Option (List ℕ) → ListCause → Type 0
Applies most before words behind cause.Words = (length words ≢ 2) × (length words ≢ 3)
Applies most before words behind cause.No444 = slice_get words 0 ≡ Some (codes "444")
Applies most before words behind cause.Event = (event : Event) → slice_get words 0 ≢ Some (id_of event)
Applies most before words behind cause.Groups =
    (groups : ℕ) → 1 ≤ groups → groups ≤ 26 → slice_get words 1 ≢ Some (decimal groups)
Applies most before words behind cause.Minimum = (event : Event) (least : ℕ)
    → slice_get words 0 ≡ Some (id_of event) → SetsMinimum (minima_of event) least (drop 2 words) → ⊥
Applies most before words behind cause.Name = (name : List ℕ) → GivesName behind name → ⊥
Applies most before words behind cause.Rounds = most ≤ before

-- the causes in their order
abbrev pub causes : List ListCause
causes =
    cause.Words ∷ cause.No444 ∷ cause.Event ∷ cause.Groups ∷ cause.Minimum ∷ cause.Name ∷ cause.Rounds ∷ []

-- A line is at fault by this cause: it isn't skipped, and this is the first of the causes that applies.
pub record IsAtFault (most before : ℕ) (words : List (List ℕ)) (behind : Option (List ℕ)) (why : ListCause)
    : Type 0 where
  pub some : IsSkipped words behind → ⊥
  pub earlier : List ListCause
  pub later : List ListCause
  pub order : causes ≡ earlier ++ why ∷ later
  pub first : All (λ other. Applies most before words behind other → ⊥) earlier
  pub applies : Applies most before words behind why

-- ---- the lines of a list

-- the words of a line: of all of it, or where names are taken of what stands before its first colon
abbrev pub words_of : Version → List ℕ → List (List ℕ)
words_of version line = line_words (told_part version.takes_names line)

-- what follows that colon, where names are taken and the line has one
abbrev pub behind_colon : Version → List ℕ → Option (List ℕ)
behind_colon version line = name_part version.takes_names line

-- these lines are skipped or name a round, one after another, and these are their rounds
pub data NameRounds (version : Version) : List (List ℕ) → List Round → Type 0 where
  no_line : NameRounds version [] []
  skipped : {line : List ℕ} {lines : List (List ℕ)} {rounds : List Round}
      → IsSkipped (words_of version line) (behind_colon version line)
      → NameRounds version lines rounds → NameRounds version (line ∷ lines) rounds
  named : {line : List ℕ} {lines : List (List ℕ)} {round : Round} {rounds : List Round}
      → NamesRound (words_of version line) (behind_colon version line) round
      → NameRounds version lines rounds → NameRounds version (line ∷ lines) (round ∷ rounds)

-- The first line at fault: all before it are skipped or name a round, and no more rounds than a list may have.
pub record IsFirstAtFault (version : Version) (lines : List (List ℕ)) (place : ℕ) (why : ListCause) : Type 0 where
  pub good : List (List ℕ)
  pub line : List ℕ
  pub behind : List (List ℕ)
  pub rounds : List Round
  pub lines_are : lines ≡ good ++ line ∷ behind
  pub place_is : place ≡ length good
  pub are_good : NameRounds version good rounds
  pub few : length rounds ≤ version.most_rounds
  pub at_fault : IsAtFault version.most_rounds (length rounds) (words_of version line) (behind_colon version line) why

-- ---- a list

-- how many lines tell the version
abbrev pub version_line_count : Version → ℕ
version_line_count version = if version.has_version_line then 1 else 0

-- the lines that may name rounds: all but one that tells the version
abbrev pub round_lines : List ℕ → List (List ℕ)
round_lines bytes = drop (version_line_count (version_of bytes)) (lines_of bytes)

-- the number of the line at a place among these; all lines are counted, from 1
abbrev pub number_at : List ℕ → ℕ → ℕ
number_at bytes place = version_line_count (version_of bytes) + place + 1

-- A list that is taken: it isn't too long, each of its lines is skipped or names a round, and there are not too many.
pub record IsTaken (bytes : List ℕ) (rounds : List Round) : Type 0 where
  pub short : length bytes ≤ (version_of bytes).most_bytes
  pub named : NameRounds (version_of bytes) (round_lines bytes) rounds
  pub few : length rounds ≤ (version_of bytes).most_rounds

-- a list that is refused for this cause, which stands in the line with this number: it isn't too long
pub record IsRefused (bytes : List ℕ) (number : ℕ) (why : ListCause) : Type 0 where
  pub short : length bytes ≤ (version_of bytes).most_bytes
  pub place : ℕ
  pub number_is : number ≡ number_at bytes place
  pub first : IsFirstAtFault (version_of bytes) (round_lines bytes) place why

-- what is answered of a list
abbrev pub IsAnswer : List ℕ → Result (List Round) ListFault → Type 0
IsAnswer bytes (Ok rounds) = IsTaken bytes rounds
IsAnswer bytes (Err (Line number why)) = IsRefused bytes number why
IsAnswer bytes (Err (TooLong limit)) = (limit ≡ (version_of bytes).most_bytes) × (limit < length bytes)
IsAnswer bytes (Err Read) = ⊥
