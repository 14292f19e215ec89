use Rattle.std.proofs.Common.{◌≡◌, ℕ, ◌+◌, ◌<◌, ◌≤◌, List, false, inl, inr, true, refl, sym, ap, ◌∙◌, length, subst, arith}
use Rattle.scr_combinatorics.specs.Words.{words_behind}
use Rattle.scr_table.proofs.WordLists.{numbers_from-next, numbers_from-end}
use Rattle.scr_search.specs.Orderly.{ends_with, leads}
use Rattle.scr_search.specs.Search.{IsAt}
use Rattle.scr_search.specs.Views.{AreViews, index_beside, is_whole}
use Rattle.scr_search.proofs.Outcomes.{IsLeft-all, IsLeft-found, IsLeft-none, IsLeft-passed}
use Rattle.scr_search.proofs.SearchSteps.{none_behind, words_from-least}
use Rattle.scr_search.specs.Near.{IsInSet}
use Rattle.scr_search.proofs.Admissible.{near-way}
use Rattle.scr_search.proofs.Leads.{not_so}
use Rattle.scr_search.proofs.ViewLaws.{Sees-beside, one-shown}
use Rattle.std.proofs.lemmas.Bool.{cases_lt, false≢true}
use Rattle.std.specs.Prelude.{Contains}
use Rattle.scr_combinatorics.specs.Words.{words_of}
use Rattle.scr_search.proofs.search.Search.within.Given.{Over}
use Rattle.scr_search.proofs.search.Search.within.Goals.{Joined-has, then-has, else-has}
use Rattle.scr_search.proofs.search.Search.within.Goals as goal

-- a word that leads on has as many turns as the table says
enough : (g : Over) (c : Joined-has g) (n : ℕ) (w : List ℕ) → Contains (words_of g.P.Part.views.turns n) w
    → leads g.P.Part.views.ends c.requires.at.there w ≡ true → c.distance-by_one.result ≤ n
enough g c n w listed way =
    let are = subst (AreViews g.P.Part.views) c.extent-extent.ensures.same c.extent-extent.ensures.views in
    let h = c.requires.at in
    let index = c.index-index.ensures.index ∙ ap (λ e. index_beside e.middle_first e.ones e.middles c.args.at.one c.args.at.middle) c.extent-extent.ensures.same in
    omega (
      arith,
      near-way (Sees-beside g.P.Part.extent.middle_first are.one are.middle) c.args.self.now.tables.now.one_is.distances.measures h.there c.index-index.result w
          h.shows.seen (one-shown are h.shows c.index-index.result index) listed way,
      c.distance-by_one.ensures,
    )

-- none of fewer turns leads on
none : (g : Over) (c : Joined-has g) (n : ℕ) → n < c.if-has.least → (w : List ℕ) → Contains (words_of g.P.Part.views.turns n) w
    → leads g.P.Part.views.ends c.requires.at.there w ≡ false
none g c n lt w listed =
    let h = c.requires.at in
    not_so (leads g.P.Part.views.ends h.there w) (λ way.
    elim c.if-has.branch [
      | then-has v ↦ omega (arith, lt, v.least-is, enough g c n w listed way)
      | else-has v ↦
          let tables = c.args.self.now.tables.now in
          let far : 8 ≤ n =
          elim (cases_lt n 8) [
            | inl few ↦
                let near = tables.near_is.near h.there n w h.shows.seen (omega (arith, few)) listed way in
                absurd (false≢true (sym v.if-has.false ∙ c.has.ensures (subst (IsInSet tables.near) (sym (c.number_of.ensures h.there h.shows)) near)))
            | inr more ↦ more
          ] in
          omega (arith, far, lt, v.least-is, v.max-least.ensures, enough g c n w listed way)
    ])

pub loop-left-init : goal.loop-left-init
loop-left-init g c =
    let h = c.requires.at in (
      refl,
      IsLeft-all (words_from-least g.P.Part.views c.args.self.now.cube.now c.args.word.now.items g.P.Part.extent.most c.if-has.least
          (λ n lt. none_behind h n (none g c n lt))),
    )

pub behind-requires : goal.behind-requires
behind-requires g c =
    let same = c.loop-left.invariant.0 in
    record {
      views = subst (AreViews g.P.Part.views) c.extent-extent.ensures.same c.extent-extent.ensures.views;
      at = subst (λ w. IsAt g.P.Part.views c.args.self.now.cube.now w c.args.at) (sym same) c.requires.at;
      last = λ _. subst (λ w. ends_with g.P.Part.views.is_last w ≡ true) (sym same) c.requires.last;
      few = omega (arith, ap length same, c.requires.few, c.loop-left-test.true, ap (λ e. e.most) c.extent-extent.ensures.same);
    }

pub returns-then-behind : goal.returns-then-behind
returns-then-behind g c =
    let v = g.P.Part.views in
    let from = c.loop-left.left in
    let lt : from < g.P.Part.extent.most + 1 = omega (arith, c.loop-left-test.true, ap (λ e. e.most) c.extent-extent.ensures.same) in
    IsLeft-found (numbers_from-next from (g.P.Part.extent.most + 1) lt)
    (ap (λ w. words_behind v.turns (is_whole v c.args.self.now.cube.now) w from) c.loop-left.invariant.0) c.loop-left.invariant.1 c.if-behind.ensures

pub loop-left-preserved : goal.loop-left-preserved
loop-left-preserved g c =
    let v = g.P.Part.views in
    let from = c.loop-left.left in
    let lt : from < g.P.Part.extent.most + 1 = omega (arith, c.loop-left-test.true, ap (λ e. e.most) c.extent-extent.ensures.same) in (
      c.if-behind.ensures.same refl ∙ c.loop-left.invariant.0,
      IsLeft-passed (numbers_from-next from (g.P.Part.extent.most + 1) lt)
          (ap (λ w. words_behind v.turns (is_whole v c.args.self.now.cube.now) w from) c.loop-left.invariant.0) c.loop-left.invariant.1 c.if-behind.ensures,
    )

pub returns : goal.returns
returns g c =
    IsLeft-none (numbers_from-end c.loop-left.left (g.P.Part.extent.most + 1) (omega (arith, c.loop-left-test.false, ap (λ e. e.most) c.extent-extent.ensures.same)))
    c.loop-left.invariant.0 c.loop-left.invariant.1
