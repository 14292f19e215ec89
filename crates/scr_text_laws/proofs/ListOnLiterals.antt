-- What to unfold to compute which rounds a text lists.
use Rattle.std.specs.Prelude.{⊤}
use Rattle.scr_text.specs.Lines.{lines_of, line_words}
use Rattle.scr_text.specs.Numbers.{number_between, number_of_text}
use Rattle.scr_list.specs.Events.{event_named}
use Rattle.scr_list.specs.Versions.{version_of}
use Rattle.scr_list.specs.Names.{told_part, name_part, trimmed, name_in}
use Rattle.scr_list.specs.Rounds.{rounds_of, rounds_of_lines, round_of_words}

unfoldable pub lists_on_literals : ⊤
unfolding rounds_of rounds_of_lines round_of_words event_named lines_of line_words number_between number_of_text version_of told_part name_part trimmed name_in
lists_on_literals = tt
