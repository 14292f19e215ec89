-- The round list: what rounds a competition's list names, as a function of its bytes. The grammar is our own choice.
use Rattle.std.specs.Prelude.{ℕ, ◌≡◌, ◌+◌, ◌≤◌, true, if◌then◌else◌, nat_lt, Option, Some, None, List, [], ◌∷◌, drop, Result, Ok, Err}
use Rattle.std.specs.Prelude.{◌++◌, codes, is_none, length, ok_or, option_and_then, option_to_list}
use Rattle.std.specs.Option.{option_map_or}
use Rattle.std.specs.Result.{result_map_both}
use Rattle.std.specs.Str.{bytes_eq}
use Rattle.scr_text.specs.Lines.{has_bytes, lines_of, line_words}
use Rattle.scr_text.specs.Numbers.{number_between}
use Rattle.scr_text.specs.Steps.{and_then}
use Rattle.scr_notation.specs.declared.event.Minima.{Minima}
use Rattle.scr_list.specs.declared.round.Round.{Round}
use Rattle.scr_list.specs.declared.version.Version.{Version}
use Rattle.scr_list.specs.declared.fault.ListCause.{ListCause}
use Rattle.scr_list.specs.declared.fault.ListFault.{ListFault}
use Rattle.scr_list.specs.declared.fault.ListFault.TheVariants.{TooLong, Line}
use Rattle.scr_list.specs.declared.fault.ListCause.TheVariants as cause
use Rattle.scr_notation.specs.Event.{minima_of, greatest_of, usual_in}
use Rattle.scr_list.specs.Events.{event_named}
use Rattle.scr_list.specs.Names.{told_part, name_part, name_in, IsName}
use Rattle.scr_list.specs.Versions.{version_of}

-- a round that a list can name
pub record IsRound (round : Round) : Type 0 where
  pub some_groups : 1 ≤ round.groups
  pub few_groups : round.groups ≤ 26
  pub least : round.least ≤ greatest_of round.event
  pub name : has_bytes round.name ≡ true → IsName round.name

-- ---- a line

-- the minimum of a round: what its line's third word sets, where its event has minima, and the usual one where the line
-- has no third word
abbrev pub least_of : Option Minima → Option (List ℕ) → Option ℕ
least_of minima None = Some (usual_in minima)
least_of minima (Some word) = option_and_then (λ m. number_between 0 m.greatest word) minima

-- the name of a round: what follows its line's colon, and none where the line has no colon
abbrev pub round_name : Option (List ℕ) → Option (List ℕ)
round_name text = option_map_or name_in text (Some [])

-- The round that a first, a second and maybe a third word and a name tell, or the first cause why they tell none.
abbrev pub named_round : List ℕ → List ℕ → Option (List ℕ) → Option (List ℕ) → Result Round ListCause
named_round event groups least name =
    if bytes_eq event (codes "444") then Err cause.No444
    else and_then (ok_or (event_named event) cause.Event) (λ e.
    and_then (ok_or (number_between 1 26 groups) cause.Groups) (λ g.
    and_then (ok_or (least_of (minima_of e) least) cause.Minimum) (λ m.
    and_then (ok_or (round_name name) cause.Name) (λ n.
    Ok (record { event = e; groups = g; least = m; name = n })))))

-- a round, where fewer rounds stand before it than a list may have
abbrev pub placed_round : ℕ → ℕ → Result Round ListCause → Result (Option Round) ListCause
placed_round most before named = and_then named (λ r. if nat_lt before most then Ok (Some r) else Err cause.Rounds)

-- the round that the words of a line name, and what follows its colon; a line with neither names none
unfoldable pub round_of_words : ℕ → ℕ → Option (List ℕ) → List (List ℕ) → Result (Option Round) ListCause
round_of_words most before name [] = if is_none name then Ok None else Err cause.Words
round_of_words most before name (event ∷ groups ∷ []) = placed_round most before (named_round event groups None name)
round_of_words most before name (event ∷ groups ∷ least ∷ []) =
    placed_round most before (named_round event groups (Some least) name)
round_of_words most before name words = Err cause.Words

-- the round that a line of a list of this version names, before which this many stand
abbrev pub round_of_line : Version → ℕ → List ℕ → Result (Option Round) ListCause
round_of_line version before line =
    round_of_words version.most_rounds before (name_part version.takes_names line)
    (line_words (told_part version.takes_names line))

-- ---- a list

-- the rounds that lines name, where this many rounds stand before them and the first of them has this number: the first
-- line at fault decides
unfoldable pub rounds_of_lines : Version → ℕ → ℕ → List (List ℕ) → Result (List Round) ListFault
rounds_of_lines version before number [] = Ok []
rounds_of_lines version before number (line ∷ lines) =
    and_then (result_map_both option_to_list (Line number) (round_of_line version before line)) (λ named.
    and_then (rounds_of_lines version (before + length named) (number + 1) lines) (λ others. Ok (named ++ others)))

-- The rounds that a list of this version names, or why it is none: it's too long, or a line is at fault. Lines are
-- counted from 1, and the one that tells the version names no round.
abbrev pub rounds_in : Version → List ℕ → Result (List Round) ListFault
rounds_in version bytes =
    if nat_lt version.most_bytes (length bytes) then Err (TooLong version.most_bytes)
    else if version.has_version_line then rounds_of_lines version 0 2 (drop 1 (lines_of bytes))
    else rounds_of_lines version 0 1 (lines_of bytes)

-- the rounds that a list names, or why it is none
unfoldable pub rounds_of : List ℕ → Result (List Round) ListFault
rounds_of bytes = rounds_in (version_of bytes) bytes
