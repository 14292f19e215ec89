use Rattle.std.proofs.lemmas.List.{get_or-replicate, length-replicate}
use Rattle.std.proofs.Common.{◌+◌, sym, subst, arith}
use Rattle.scr_search.specs.Outlooks.{AreFound}
use Rattle.scr_search.specs.declared.outlook.Found.{Found}
use Rattle.scr_search.proofs.OutlookLaws.{AreFound-none}
use Rattle.scr_search.proofs.outlook.found_from.Goals as goal

pub loop-turn-init : goal.loop-turn-init
loop-turn-init g c =
    let none : Found = record { nearer = record { bits = 0 }; no_farther = record { bits = 0 } } in (
      length-replicate 1024 none,
      λ k d lt.
          let P : Found → Type 0 = λ f. AreFound (g.C.Coord.coordinate c.args.coord.now) c.args.distances.now (c.args.start + k) 0 f in
          subst P (sym (get_or-replicate 1024 k none d (omega (arith, lt)))) (AreFound-none _ _ _),
    )
