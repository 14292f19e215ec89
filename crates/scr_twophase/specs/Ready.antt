-- What is found beside the tables of both parts: near sets, and outlooks.
use Rattle.scr_twophase.specs.declared.ready.Others.{Others}
use Rattle.scr_search.specs.declared.near_set.NearSet.{NearSet}
use Rattle.scr_search.specs.declared.pruning.PruningTable.{PruningTable}
use Rattle.scr_twophase.specs.declared.ready.OutlookPair.{OutlookPair}
use Rattle.scr_search.specs.Near.{IsInSet, IsNear}
use Rattle.scr_search.specs.Outlooks.{AreOutlooksOf}
use Rattle.scr_twophase.specs.Tables.{cornerslice_line, edgeslice_line, flipslice_line, twistslice_line}
use Rattle.scr_search.specs.Views.{Views}
use Rattle.scr_twophase.specs.BothParts.{second_views}

-- a near set of a part
abbrev pub IsNearOf : Views → NearSet → Type 0
IsNearOf v set = IsNear v 7 (IsInSet set)

-- outlooks of a table of each part: of flips and of corners
abbrev pub AreOnes : PruningTable → PruningTable → OutlookPair → Type 0
AreOnes flips corners pair =
    AreOutlooksOf flipslice_line flips pair.first.items × AreOutlooksOf cornerslice_line corners pair.second.items

-- or of twists and of edges
abbrev pub AreRest : PruningTable → PruningTable → OutlookPair → Type 0
AreRest twists edges pair =
    AreOutlooksOf twistslice_line twists pair.first.items × AreOutlooksOf edgeslice_line edges pair.second.items

-- of all four tables, with the near set of the second part
pub record AreOthers (flips twists corners edges : PruningTable) (all : Others) : Type 0 where
  pub ones : AreOnes flips corners all.ones
  pub others : AreRest twists edges all.others
  pub near : IsNearOf second_views all.near
