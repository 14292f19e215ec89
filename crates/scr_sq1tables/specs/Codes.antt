-- Lists of pieces in which mates stand opposite to each other, as a search sees them: by their bits and their list of
-- pairs.
use Rattle.std.specs.Prelude.{ℕ, false, List}
use Rattle.std.specs.Option.{option_map}
use Rattle.scr_combinatorics.specs.Lists.{numbers_from, pick}
use Rattle.scr_positions.specs.Coordinates.{Coordinate}
use Rattle.scr_coord.specs.Projections.{ListView, projection}
use Rattle.scr_notation.specs.declared.turn.Turn.{Turn}
use Rattle.scr_sq1.specs.Numbers.{edges_of}
use Rattle.scr_sq1tables.specs.Tables.{code_number, code_at, place_in_row, code_in_row, letters_by}

abbrev pub codes_view : ListView
codes_view = record {
  count = 384;
  list_at = code_at;
  number_of = code_number;
  turned = λ pieces turn. pick pieces turn.pieces;
  goal = numbers_from 0 8;
}

-- where 32 letters lead from a list of corners, or of edges
abbrev pub codes_coordinate : (List ℕ → List ℕ) → (ℕ → List Turn) → Coordinate
codes_coordinate pieces_of letter = projection codes_view (letters_by pieces_of letter)

-- ---- rows of the table `square`, each of the positions with one list of corners

-- at which place of its row a letter leads from each place of the two rows of the edges' codes
abbrev pub rows_coordinate : (ℕ → List Turn) → Coordinate
rows_coordinate letter = record {
  count = 384;
  turns = 32;
  after = λ r t. option_map place_in_row ((codes_coordinate edges_of letter).after (code_in_row r) t);
  is_goal = λ r. false;
}
