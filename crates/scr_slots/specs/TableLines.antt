-- The lines by which the tables of events are built.
use Rattle.std.specs.Prelude.{List, [], ◌∷◌, ◌++◌}
use Rattle.scr_notation.specs.declared.event.Family.{Family}
use Rattle.scr_notation.specs.declared.event.Family.TheVariants as family
use Rattle.scr_table.specs.Lines.{TableLine}
use Rattle.scr_stages.specs.Tables.{stage_lines}
use Rattle.scr_twophase.specs.Tables.{prune_lines}
use Rattle.scr_small.specs.Puzzles.{corners_line, pyramid_line, skewb_line}
use Rattle.scr_sq1tables.specs.Tables.{sq1_lines}

-- those of a family, in the order in which they are built
unfoldable pub family_lines : Family → List TableLine
family_lines family.Cube222 = corners_line ∷ []
family_lines family.Cube333 = stage_lines ++ prune_lines
family_lines family.Pyraminx = pyramid_line ∷ []
family_lines family.Skewb = skewb_line ∷ []
family_lines family.Square1 = sq1_lines
