use Rattle.std.proofs.Common.{◌≡◌, ◌+◌, ◌-◌}
use Rattle.scr_combinatorics.specs.Lists.{numbers_from}
use Rattle.scr_combinatorics.specs.Words.{words_behind}
use Rattle.scr_search.specs.Views.{is_whole}
use Rattle.scr_search.proofs.Outcomes.{IsLeft}
use Rattle.scr_search.proofs.SearchSteps.{words_from}
use Rattle.scr_search.proofs.search.Search.within.Given as goal

abbrev pub invariant-loop-left : goal.invariant-loop-left
invariant-loop-left g l =
    let p = g.P.Part in
    let word = l.initial.word.items in
    let end = p.extent.most + 1 in
    (l.word.items ≡ word)
    × IsLeft (p.gives l.self.cube.now) (words_from p.views l.self.cube.now word p.extent.most) l.initial.tries (words_behind p.views.turns (is_whole p.views l.self.cube.now) word)
    (numbers_from l.left (end - l.left)) l.tries
