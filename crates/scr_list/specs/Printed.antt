-- A list as one would write it: a round a line, each with its name where it has one, and with its minimum where its
-- event has one, or all without their minima, which are then the usual ones.
use Rattle.std.specs.Prelude.{ℕ, ◌≡◌, Bool, true, false, Option, Some, None, if◌then◌else◌, List, [], ◌∷◌, ◌++◌, map, codes}
use Rattle.std.specs.Fmt.{decimal}
use Rattle.std.specs.List.{join_with_byte}
use Rattle.scr_notation.specs.Event.{id_of}
use Rattle.scr_text.specs.Lines.{text_of_lines}
use Rattle.scr_notation.specs.declared.event.Minima.{Minima}
use Rattle.scr_list.specs.declared.round.Round.{Round}
use Rattle.scr_list.specs.declared.version.Version.{Version}
use Rattle.scr_list.specs.Versions.{version_line}
use Rattle.scr_notation.specs.Event.{minima_of, usual_of}

-- the two forms of a list: its lines tell minima, or they don't
abbrev pub with_minima : Bool
with_minima = true

abbrev pub without_minima : Bool
without_minima = false

-- a round fits a form: where no minimum is told, it has the usual one
abbrev pub FitsForm : Bool → Round → Type 0
FitsForm true round = Unit {0}
FitsForm false round = round.least ≡ usual_of round.event

-- the third word of a line, where minima are told and its event has some
abbrev pub least_words : Bool → Option Minima → ℕ → List (List ℕ)
least_words false minima least = []
least_words true None least = []
least_words true (Some minima) least = decimal least ∷ []

-- the words of the line of a round
abbrev pub round_words : Bool → Round → List (List ℕ)
round_words form round =
    id_of round.event ∷ decimal round.groups ∷ least_words form (minima_of round.event) round.least

-- a name behind its colon, where there is one
abbrev pub name_behind_colon : List ℕ → List ℕ
name_behind_colon [] = []
name_behind_colon (byte ∷ name) = codes ": " ++ byte ∷ name

-- the line of a round, without its line feed
abbrev pub round_line : Bool → Round → List ℕ
round_line form round = join_with_byte 32 (round_words form round) ++ name_behind_colon round.name

-- the line that tells a version, where its lists have one
abbrev pub version_lines : Version → List (List ℕ)
version_lines version = if version.has_version_line then version_line ∷ [] else []

-- the list of rounds in a version and a form
abbrev pub text_of_rounds : Version → Bool → List Round → List ℕ
text_of_rounds version form rounds = text_of_lines (version_lines version ++ map (round_line form) rounds)
