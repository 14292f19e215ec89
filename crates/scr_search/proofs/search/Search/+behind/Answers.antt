use Rattle.std.proofs.Common.{◌≡◌, ℕ, List, ◌-◌, ◌<◌, not, [], ◌∷◌, ◌++◌, false, true, eq-eqb, ne_eqb, length, length-append, get_or, refl, sym, ap, ◌∙◌, subst, arith}
use Rattle.std.specs.Prelude.{◌==◌}
use Rattle.std.specs.List.{flat_map, refill}
use Rattle.std.specs.Option.{option_map_or}
use Rattle.std.proofs.Math.ListN.{set}
use Rattle.std.proofs.lemmas.Bool.{and_parts}
use Rattle.scr_combinatorics.specs.Words.{words_behind}
use Rattle.scr_table.proofs.WordLists.{popped_word}
use Rattle.scr_search.specs.Orderly.{ends_with}
use Rattle.scr_search.specs.Search.{IsAt}
use Rattle.scr_search.specs.TurnSets.{contains_turn, turns_in}
use Rattle.scr_search.specs.Views.{is_whole}
use Rattle.scr_search.proofs.Orderly.{last-push}
use Rattle.scr_search.proofs.Outcomes.{IsLeft-all, IsLeft-found, IsLeft-none, IsLeft-passed, IsSearched-none, IsSearched-one, IsSearched-spent}
use Rattle.scr_search.proofs.SearchSteps.{IsAt-turned, whole-at, words_by, words_kept}
use Rattle.scr_search.proofs.BitSets.{turns_in-none}
use Rattle.scr_search.proofs.search.Search.+behind.Given.{Over}
use Rattle.scr_search.proofs.search.Search.+behind.Goals.{After-deref_mut, After-turns_behind-turns, Else-number_of-extent}
use Rattle.scr_search.proofs.search.Search.+behind.Goals as goal

pub returns-then-tries-eq0 : goal.returns-then-tries-eq0
returns-then-tries-eq0 g t c = IsSearched-spent c.if-tries-eq0.true

pub returns-then-number_of-extent : goal.returns-then-number_of-extent
returns-then-number_of-extent g t c =
    let h = c.requires.at in
    rw c.if-left-eq0.true (IsSearched-none (whole-at h false (c.requires.last c.if-left-eq0.true) (c.extent.ensures.views.end h.there h.shows.seen
    ∙ ne_eqb _ _ (λ e. c.if-number_of-extent.true (c.number_of.ensures h.there h.shows ∙ e)))))

ends : (g : Over) (t : ℕ) (c : Else-number_of-extent g t) → g.P.Part.views.ends c.requires.at.there ≡ true
ends g t c =
    let h = c.requires.at in
    c.extent.ensures.views.end h.there h.shows.seen ∙ eq-eqb _ _ (sym (c.number_of.ensures h.there h.shows) ∙ c.if-number_of-extent.false)

pub give-requires : goal.give-requires
give-requires g t c =
    let h = c.requires.at in
    let end = ends g t (goal.at.give-requires g t c).Else-number_of-extent in
    record {
      whole = record { there = h.there; played = h.played; seen = h.shows.seen; ends = end; orderly = h.orderly };
      few = omega (arith, c.requires.few);
    }

pub returns-then-left-eq0 : goal.returns-then-left-eq0
returns-then-left-eq0 g t c =
    let end = ends g t (goal.at.returns-then-left-eq0 g t c).Else-number_of-extent in
    rw c.if-left-eq0.true (IsSearched-one (whole-at c.requires.at true (c.requires.last c.if-left-eq0.true) end) (omega (arith, c.if-tries-eq0.false))
    c.give.ensures.given c.give.ensures.same refl)

pub turns_behind-turns-requires : goal.turns_behind-turns-requires
turns_behind-turns-requires g t c = record { at = (c.args.self.now.cube.now, c.requires.at); some = omega (arith, c.if-left-eq0.false) }

-- the words that go on from this one are those by the turns
kept : (g : Over) (t : ℕ) (c : After-turns_behind-turns g t)
    → words_behind g.P.Part.views.turns (is_whole g.P.Part.views c.args.self.now.cube.now) c.args.word.now.items c.args.left
    ≡ flat_map (words_by g.P.Part.views c.args.self.now.cube.now c.args.word.now.items (c.args.left - 1)) (turns_in c.turns_behind-turns.result.bits)
kept g t c =
    let turns = c.turns_behind-turns.ensures in
    words_kept g.P.Part.views c.args.self.now.cube.now c.args.word.now.items c.args.left c.turns_behind-turns.result.bits (omega (arith, c.if-left-eq0.false))
    turns.few (turns.kept c.args.self.now.cube.now c.requires.at)

pub returns-then-turns-eq0 : goal.returns-then-turns-eq0
returns-then-turns-eq0 g t c =
    IsLeft-none (ap turns_in c.if-turns-eq0.true ∙ turns_in-none) refl (IsLeft-all (kept g t (goal.at.returns-then-turns-eq0 g t c).After-turns_behind-turns))

pub loop-place-init : goal.loop-place-init
loop-place-init g t c =
    let turns = c.turns_behind-turns.ensures in
    record {
      same = (0, c.push.ensures.items);
      words = IsLeft-all (kept g t (goal.at.loop-place-init g t c).After-turns_behind-turns);
      follow = (turns.kept c.args.self.now.cube.now c.requires.at).follow;
      last = turns.last;
      few = turns.few;
    }

pub after-next-requires-clause-place : goal.after-next-requires-clause-place
after-next-requires-clause-place g t c = (c.loop-place.invariant.follow c.in-Some.place c.in-Some.ensures.taken).below

pub push-requires : goal.push-requires
push-requires g t c = omega (arith, c.requires.few, g.met.P.Part.short, c.if-left-eq0.false)

-- a word of which the last turn is written anew
written : (word : List ℕ) (t u : ℕ)
    → refill (length (word ++ t ∷ [])) (word ++ t ∷ []) (set (word ++ t ∷ []) (length word) u) ≡ word ++ u ∷ []
written [] t u = refl
written (x ∷ word) t u = ap (λ xs. x ∷ xs) (written word t u)

-- the word with the turn
pushed : (g : Over) (t : ℕ) (c : After-deref_mut g t)
    → refill (length c.loop-place.word.items) c.loop-place.word.items (set c.deref_mut.result.now c.len-depth.result (get_or c.extent-in-Some.result.now.numbers c.in-Some.place 0))
    ≡ c.args.word.now.items ++ get_or g.P.Part.views.turns c.in-Some.place 0 ∷ []
pushed g t c =
    let is = c.extent-in-Some.ensures.views.numbers c.in-Some.place (c.loop-place.invariant.follow c.in-Some.place c.in-Some.ensures.taken).below in
    let same = c.loop-place.invariant.same in
    let last = written c.args.word.now.items same.0 (get_or g.P.Part.views.turns c.in-Some.place 0) in
    cc (last, same.1, is.0, c.len-depth.ensures.value, c.deref_mut.ensures.value)

pub behind-requires : goal.behind-requires
behind-requires g t c = λ κs lives.
    let v = g.P.Part.views in
    let cube = c.args.self.now.cube.now in
    let word = c.args.word.now.items in
    let place = c.in-Some.place in
    let turn : ℕ = get_or v.turns place 0 in
    let may = c.loop-place.invariant.follow place c.in-Some.ensures.taken in
    let by = pushed g t (goal.at.behind-requires g t c).After-deref_mut in
    let below : turn < 18 = (c.extent-in-Some.ensures.views.numbers place may.below).1 in
    let at = IsAt-turned v cube word c.args.at c.after-next.result place below c.requires.at may c.after-next.ensures in (
      omega (arith, c.decreases, c.if-left-eq0.false),
      (
        lives.0,
        (
          lives.1,
          (
            c.requires.views,
            (
              subst (λ w. IsAt v cube w c.after-next.result) (sym by) at,
              (
                λ none.
                    subst (λ w. ends_with v.is_last w ≡ true) (sym by)
                    (ap (λ o. option_map_or v.is_last o true) (last-push word turn) ∙ c.loop-place.invariant.last (omega (arith, none, c.if-left-eq0.false)) place c.in-Some.ensures.taken),
                omega (arith, ap length by, length-append word (turn ∷ []), c.requires.few, c.if-left-eq0.false),
              ),
            ),
          ),
        ),
      ),
    )

pub returns-then-behind : goal.returns-then-behind
returns-then-behind g t c =
    let v = g.P.Part.views in
    let by = pushed g t (goal.at.returns-then-behind g t c).After-deref_mut in
    IsLeft-found c.in-Some.ensures.first (ap (λ w. words_behind v.turns (is_whole v c.args.self.now.cube.now) w (c.args.left - 1)) by)
    c.loop-place.invariant.words c.if-behind.ensures

pub loop-place-preserved : goal.loop-place-preserved
loop-place-preserved g t c =
    let v = g.P.Part.views in
    let by = pushed g t (goal.at.loop-place-preserved g t c).After-deref_mut in
    let among = λ (place : ℕ) (is : contains_turn c.pop.new.self.bits place ≡ true).
    (and_parts (contains_turn c.loop-place.turns.bits place) (not (place == c.in-Some.place)) (sym (c.in-Some.ensures.others place) ∙ is)).0 in
    record {
      same = (get_or v.turns c.in-Some.place 0, c.if-behind.ensures.same refl ∙ by);
      words = IsLeft-passed c.in-Some.ensures.first (ap (λ w. words_behind v.turns (is_whole v c.args.self.now.cube.now) w (c.args.left - 1)) by)
          c.loop-place.invariant.words c.if-behind.ensures;
      follow = λ place is. c.loop-place.invariant.follow place (among place is);
      last = λ one place is. c.loop-place.invariant.last one place (among place is);
      few = c.in-Some.ensures.few;
    }

pub returns : goal.returns
returns g t c =
    let same = c.loop-place.invariant.same in
    IsLeft-none c.in_default.ensures.first
    (popped_word c.pop-2.new.self.items c.loop-place.word.items c.args.word.now.items same.0 c.pop-2.ensures.rest same.1) c.loop-place.invariant.words
