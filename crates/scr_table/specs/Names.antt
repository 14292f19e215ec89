-- The printed names of the tables.
use Rattle.std.specs.Prelude.{ℕ, List, codes}
use Rattle.scr_table.specs.declared.name.TableName.{TableName}
use Rattle.scr_table.specs.declared.name.TableName.TheVariants.{Corners, Flips, Slice, Tetrads, Halves, FlipSlice, TwistSlice, CornerSlice, EdgeSlice, Pyramid, Skewb, Shapes, Pairings, Square}

abbrev pub name_text : TableName → List ℕ
name_text Corners = codes "corners"
name_text Flips = codes "flips"
name_text Slice = codes "slice"
name_text Tetrads = codes "tetrads"
name_text Halves = codes "halves"
name_text FlipSlice = codes "flipslice"
name_text TwistSlice = codes "twistslice"
name_text CornerSlice = codes "cornerslice"
name_text EdgeSlice = codes "edgeslice"
name_text Pyramid = codes "pyramid"
name_text Skewb = codes "skewb"
name_text Shapes = codes "shapes"
name_text Pairings = codes "pairings"
name_text Square = codes "square"
