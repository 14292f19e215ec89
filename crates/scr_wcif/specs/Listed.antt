-- The list of the rounds that a file names, and what is told of those that no list can name.
use Rattle.std.specs.Prelude.{ℕ, ◌≡◌, if◌then◌else◌, Option, is_some, option_map, List, [], ◌∷◌, ◌++◌, codes, filter_map, Ok}
use Rattle.std.specs.Fmt.{decimal}
use Rattle.scr_notation.specs.Event.{usual_of}
use Rattle.scr_list.specs.declared.round.Round.{Round}
use Rattle.scr_list.specs.Events.{event_named}
use Rattle.scr_list.specs.Printed.{text_of_rounds, without_minima}
use Rattle.scr_list.specs.Rounds.{rounds_of}
use Rattle.scr_list.specs.Versions.{version_2}
use Rattle.scr_wcif.specs.FileRound.{NamedRound}

-- the round that a list names for one of the file, with the usual minimum, where the program has its event
abbrev pub listed_round : NamedRound → Option Round
listed_round named =
    option_map (λ event. record { event = event; groups = named.groups; least = usual_of event; name = named.name }) (event_named named.event)

abbrev pub listed_rounds : List NamedRound → List Round
listed_rounds named = filter_map listed_round named

-- it has the usual minimum of its event
abbrev pub HasUsual : Round → Type 0
HasUsual round = round.least ≡ usual_of round.event

-- A text is a list of these rounds: in the second version, without minima, and read back as just them.
pub record IsListOf (named : List NamedRound) (text : List ℕ) : Type 0 where
  pub written : text ≡ text_of_rounds version_2 without_minima (listed_rounds named)
  pub read_back : rounds_of text ≡ Ok (listed_rounds named)

-- a round with its event's id, its groups and its name
abbrev pub named_line : NamedRound → List ℕ
named_line named = named.event ++ codes " " ++ decimal named.groups ++ codes ": " ++ named.name

-- the line that tells of one whose event the program hasn't
abbrev pub left_out_line : NamedRound → List ℕ
left_out_line named = codes "scramble-wcif: left out: " ++ named_line named ++ codes "\n"

abbrev pub left_out_text_of : NamedRound → List ℕ
left_out_text_of named = if is_some (event_named named.event) then [] else left_out_line named

-- those lines of rounds
abbrev pub left_out_text : List NamedRound → List ℕ
left_out_text [] = []
left_out_text (named ∷ more) = left_out_text_of named ++ left_out_text more
