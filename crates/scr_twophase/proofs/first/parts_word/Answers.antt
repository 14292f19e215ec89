use Rattle.scr_stages.proofs.StageSpaces.{IsPlaceSet-middle_places}
use Rattle.scr_search.proofs.Leads.{played-below}
use Rattle.scr_twophase.proofs.PartLaws.{two_parts-played}
use Rattle.std.proofs.Common.{lit<, lit≤, rules, ◌≡◌, ◌<◌, true, false, Some, [], length, refl, sym, ap, ◌∙◌, subst, arith}
use Rattle.std.specs.Prelude.{All}
use Rattle.std.specs.Option.{option_map}
use Rattle.scr_combinatorics.proofs.PlayLaws.{play-empty}
use Rattle.scr_notation.specs.declared.event.Event.TheVariants.{C333}
use Rattle.scr_notation.specs.Written.{numbered_word}
use Rattle.scr_cube.specs.Cube333.{CubeState, solved_cube}
use Rattle.scr_search.specs.declared.position.PartPosition.{PartPosition}
use Rattle.scr_search.specs.Orderly.{after_turn, ends_with, is_orderly}
use Rattle.scr_search.specs.Search.{IsAt}
use Rattle.scr_search.specs.Views.{Shows}
use Rattle.scr_twophase.specs.BothParts.{first_views}
use Rattle.scr_twophase.specs.TwoParts.{is_side_quarter, two_parts}
use Rattle.scr_twophase.proofs.FirstSteps.{two_parts-searched}
use Rattle.scr_twophase.proofs.first.parts_word.Goals as goal

begins : (c : CubeState) (at : PartPosition) → Shows first_views c at → IsAt first_views c [] at
unfolding is_orderly
begins c at shows = record { there = c; played = play-empty after_turn c; shows = shows; orderly = refl }

pub places_of-requires-clause-fits : goal.places_of-requires-clause-fits
places_of-requires-clause-fits c = rw c.edges.ensures.same (IsPlaceSet-middle_places c.args.cube.now c.edges.ensures.valid).size

pub rank-requires-3 : goal.rank-requires-3
rank-requires-3 c =
    (lit< tt, (lit≤ tt, rw (c.places_of.ensures, c.edges.ensures.same) (IsPlaceSet-middle_places c.args.cube.now c.edges.ensures.valid)))

pub within-requires : goal.within-requires
within-requires c =
    let none = sym c.new-word.ensures in
    let at : PartPosition = record { one = c.rank.result; other = c.rank-2.result; middle = c.rank-3.result } in
    let shows : Shows first_views c.args.cube.now at = search rules in
    record {
      at = subst (λ w. IsAt first_views c.args.cube.now w at) none (begins c.args.cube.now at shows);
      last = subst (λ w. ends_with is_side_quarter w ≡ true) none refl;
      few = omega (arith, ap length c.new-word.ensures);
    }

pub of-requires : goal.of-requires
of-requires c =
    let word = c.within.new.word.items in
    let found = two_parts-searched c.args.cube.now c.new-word.result.items word c.args.tries c.within.new.tries true c.new-word.ensures c.if-within.ensures in
    record {
      below = subst (All (λ t. t < 18)) (sym c.as_slice.ensures.value)
          (played-below c.args.cube.now solved_cube word (two_parts-played c.args.cube.now c.args.tries word found));
      few = omega (arith, c.as_slice.ensures.fits);
    }

pub returns-then-within-clause-parts : goal.returns-then-within-clause-parts
returns-then-within-clause-parts c =
    let found : two_parts c.args.cube.now c.args.tries ≡ Some c.within.new.word.items =
    two_parts-searched c.args.cube.now c.new-word.result.items c.within.new.word.items c.args.tries c.within.new.tries true
    c.new-word.ensures c.if-within.ensures in
    ap Some (c.of.ensures ∙ ap (numbered_word C333) c.as_slice.ensures.value) ∙ sym (ap (option_map (numbered_word C333)) found)

pub returns-then-within-clause-valid : goal.returns-then-within-clause-valid
returns-then-within-clause-valid c = c.edges.ensures.valid

pub returns-else-within-clause-parts : goal.returns-else-within-clause-parts
returns-else-within-clause-parts c =
    ap (option_map (numbered_word C333))
    (sym (two_parts-searched c.args.cube.now c.new-word.result.items c.within.new.word.items c.args.tries c.within.new.tries false
    c.new-word.ensures c.if-within.ensures))

pub returns-else-within-clause-valid : goal.returns-else-within-clause-valid
returns-else-within-clause-valid c = c.edges.ensures.valid
