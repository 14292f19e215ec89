use Rattle.std.proofs.Common.{◌≡◌, ◌+◌, ◌<◌, IsTrue, [], length, take, refl, sym, ap, ◌∙◌, subst, arith}
use Rattle.std.specs.Prelude.{Contains}
use Rattle.std.proofs.lemmas.List.{take_all}
use Rattle.std.proofs.lemmas.Option.{slice_get_within, get_or_from_slice_get}
use Rattle.scr_combinatorics.specs.Back.{back}
use Rattle.scr_combinatorics.specs.Play.{play}
use Rattle.scr_notation.specs.Turning.{opposite}
use Rattle.scr_notation.specs.Written.{Written}
use Rattle.scr_sq1.specs.Units.{solved_sq1, sq1_after}
use Rattle.scr_sq1solve.specs.Counts.{twists_in}
use Rattle.scr_sq1tables.specs.ShapeWords.{is_shape_word}
use Rattle.scr_notation.proofs.OppositeLaws.{length-back}
use Rattle.scr_sq1solve.proofs.Lengths.{twists-back}
use Rattle.scr_sq1solve.proofs.TotalLaws.{play-total_back}
use Rattle.scr_sq1solve.specs.ShortScrambles.{IsShortest, IsShortScramble}
use Rattle.scr_sq1solve.proofs.ShortestLaws.{IsLeast, IsLeast-begun, IsLeast-kept, IsLeast-new, IsShortScramble-unique, no_more_twists}
use Rattle.scr_sq1solve.proofs.short.scramble_sq1_short.Goals as goal
use Rattle.scr_sq1solve.proofs.short.scramble_sq1_short.Goals.{then-is_shorter, else-is_shorter}

-- each word that is looked at is a short shape word
pub total_of-total-requires-clause-shape_word : goal.total_of-total-requires-clause-shape_word
total_of-total-requires-clause-shape_word c =
    let inside : c.loop-place.place < length c.shape_words-words.result = omega (arith, c.loop-place-test.true, c.len-place-end.ensures.count) in
    subst (λ word. IsTrue (is_shape_word c.args.state.now word)) (sym c.word-in-loop-place.ensures.word)
    (c.shape_words-words.ensures.each c.loop-place.place [] inside)

pub total_of-total-requires-clause-short : goal.total_of-total-requires-clause-short
total_of-total-requires-clause-short c =
    let inside : c.loop-place.place < length c.shape_words-words.result = omega (arith, c.loop-place-test.true, c.len-place-end.ensures.count) in
    omega (arith, ap length c.word-in-loop-place.ensures.word, c.shape_words-words.ensures.short c.loop-place.place [] inside)

pub loop-place-init : goal.loop-place-init
loop-place-init c =
    let first = c.shape_words-words.ensures.first (omega (arith, c.requires.short.0)) in
    let words = c.shape_words-words.result in
    let total = c.total_of-least.ensures in
    IsLeast-begun c.args.state.now words 0 c.word.result.now (slice_get_within words 0 first.0 first.2) c.word.ensures.word
    c.total_of-least.result total.total total.event total.within refl

pub loop-place-preserved : goal.loop-place-preserved
loop-place-preserved c =
    let s = c.args.state.now in
    let words = c.shape_words-words.result in
    let place = c.loop-place.place in
    let word = c.word-in-loop-place in
    let total = c.total_of-total in
    let before = c.loop-place in
    let inside : place < length words = omega (arith, c.loop-place-test.true, c.len-place-end.ensures.count) in
    elim c.if-is_shorter.branch [
      | then-is_shorter w ↦
          subst (IsLeast s (take (place + 1) words)) (sym w.least-is)
          (IsLeast-new s words place word.result.now inside word.ensures.word total.result total.ensures.total total.ensures.event total.ensures.within
          before.least before.invariant (omega (arith, w.if-is_shorter.true, c.twist_count.ensures, c.twist_count-in-loop-place.ensures)))
      | else-is_shorter w ↦
          subst (IsLeast s (take (place + 1) words)) (sym w.least-is)
          (IsLeast-kept s words place word.result.now inside word.ensures.word total.result total.ensures.total total.ensures.event total.ensures.within
          before.least before.invariant (omega (arith, w.if-is_shorter.false, c.twist_count.ensures, c.twist_count-in-loop-place.ensures)))
    ]

-- all words are looked at
whole : (c : goal.After-taken_back) → take c.loop-place.place c.shape_words-words.result ≡ c.shape_words-words.result
whole c =
    take_all c.loop-place.place c.shape_words-words.result (omega (arith, c.loop-place-test.false, c.len-place-end.ensures.count))

made : (c : goal.After-taken_back) → c.taken_back.result.turns ≡ back opposite c.loop-place.least.turns
made c = ap (λ (w : Written). w.turns) c.taken_back.ensures

pub returns-clause-the_scramble : goal.returns-clause-the_scramble
returns-clause-the_scramble c =
    let s = c.args.state.now in
    let least = c.loop-place.least in
    let h = c.loop-place.invariant in
    let is : IsShortScramble c.args.short s c.taken_back.result.turns = record {
      total = least.turns;
      shortest = subst (λ words. IsShortest s words least.turns) (whole c ∙ c.shape_words-words.ensures.words) h.shortest;
      taken_back = made c;
    } in
    record {
      of_event = ap (λ (w : Written). w.event) c.taken_back.ensures ∙ h.event;
      scramble = is;
      only = λ turns other. IsShortScramble-unique c.args.short s turns c.taken_back.result.turns other is;
      within = record {
        twists = omega (arith, ap twists_in (made c), twists-back least.turns, h.within.twists);
        turns = omega (arith, ap length (made c), length-back least.turns, h.within.turns);
      };
      gives = ap (play sq1_after solved_sq1) (made c) ∙ play-total_back s h.shortest.word least.turns c.shape_words-words.ensures.valid h.shortest.is;
    }

pub returns-clause-no_more : goal.returns-clause-no_more
returns-clause-no_more c = λ turns scramble.
    let s = c.args.state.now in
    let words = c.shape_words-words.result in
    let least = c.loop-place.least.turns in
    let first = c.shape_words-words.ensures.first (omega (arith, c.requires.short.0)) in
    let there : Contains words first.0 = (0, slice_get_within words 0 first.0 first.2, get_or_from_slice_get words 0 first.0 first.0 first.2) in
    let shortest = subst (λ ws. IsShortest s ws least) (whole c) c.loop-place.invariant.shortest in
    omega (
      arith,
      ap twists_in (made c),
      no_more_twists s words least turns first.0 c.shape_words-words.ensures.valid shortest there first.1 scramble,
    )
