-- A group as code holds it.
use Rattle.std.specs.Prelude.{List}
use Rattle.scr_notation.specs.Written.{Written}
use Rattle.scr_layout.specs.declared.group.GroupPlace.{GroupPlace}
use Rattle.scr_layout.specs.Group.{Group}

-- the group that stands there and has these scrambles
abbrev pub group_at : GroupPlace → List Written → Group
group_at place scrambles = record {
  event = place.event;
  sheet_round = place.sheet_round;
  event_round = place.event_round;
  event_rounds = place.event_rounds;
  number = place.number;
  groups = place.groups;
  name = place.name.bytes;
  scrambles = scrambles;
}
