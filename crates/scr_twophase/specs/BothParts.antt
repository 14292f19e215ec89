-- Both parts of the solution as their tables see them.
use Rattle.std.specs.Prelude.{true}
use Rattle.scr_cube.specs.Cube333.{IsCube}
use Rattle.scr_stages.specs.Numbers.{flips_number, middle_set_of, IsDominoCube}
use Rattle.scr_stages.specs.Tables.{flips_coordinate}
use Rattle.scr_search.specs.Views.{Views}
use Rattle.scr_twophase.specs.Tables.{twists_of, twists_coordinate, middle_set_coordinate, corners_of, outer_edges_of, middle_edges_of, corners_coordinate, outer_edges_coordinate, middle_edges_coordinate}
use Rattle.scr_twophase.specs.TwoParts.{is_domino, is_side_quarter, is_solved}
use Rattle.scr_cube.specs.ListedTurns.{turn_numbers}
use Rattle.scr_stages.specs.Stages.{domino_turns}

-- The first goes through all cubes, by all turns, of which quarter turns of R, L, F and B may be the last, to the
-- dominoes. It sees the flips, the twists, and the set of the
-- places of the edges of the middle layer.
abbrev pub first_views : Views
first_views = record {
  turns = turn_numbers;
  is_last = is_side_quarter;
  before = 0;
  IsSeen = IsCube;
  ends = is_domino;
  one = record { coordinate = flips_coordinate; number = flips_number };
  other = record { coordinate = twists_coordinate; number = twists_of };
  middle = record { coordinate = middle_set_coordinate; number = middle_set_of };
}

-- The second, behind at most twelve turns, goes through dominoes, by the ten turns that keep them, to solved. It sees the lists of the corners, of
-- the edges above and below, and of those of the middle layer.
abbrev pub second_views : Views
second_views = record {
  turns = domino_turns;
  is_last = λ _. true;
  before = 12;
  IsSeen = IsDominoCube;
  ends = is_solved;
  one = record { coordinate = corners_coordinate; number = corners_of };
  other = record { coordinate = outer_edges_coordinate; number = outer_edges_of };
  middle = record { coordinate = middle_edges_coordinate; number = middle_edges_of };
}
