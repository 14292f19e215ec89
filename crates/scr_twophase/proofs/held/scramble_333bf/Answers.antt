use Rattle.std.proofs.Common.{◌≡◌, ◌≤◌, IsTrue, Some, length, sym, ap, ◌∙◌, subst, arith, length-append}
use Rattle.std.specs.Prelude.{◌++◌, is_some}
use Rattle.scr_combinatorics.specs.Back.{back}
use Rattle.scr_combinatorics.specs.Play.{play}
use Rattle.scr_notation.specs.declared.event.Event.{Event}
use Rattle.scr_notation.specs.Turning.{opposite}
use Rattle.scr_notation.specs.Turns.{permits}
use Rattle.scr_notation.specs.Written.{Written}
use Rattle.scr_cube.specs.Cube333.{CubeState}
use Rattle.scr_cube.specs.Held.{solved_held, held_cube_after, hold_word, hold_of}
use Rattle.scr_cube.proofs.Holds.{hold_of-lt, IsHoldWord-each}
use Rattle.scr_cube.proofs.HeldReach.{IsBefore, IsBefore-played, before-some}
use Rattle.scr_twophase.specs.HeldScramble.{IsScramble333bf}
use Rattle.scr_twophase.specs.TwoParts.{two_parts, IsScramble333}
use Rattle.scr_twophase.proofs.HeldScrambles.{joined-played, IsScramble333bf-unique, permits-held}
use Rattle.scr_twophase.proofs.held.scramble_333bf.Goals as goal

-- the word taken back leads somewhere
pub unreachable-requires : goal.unreachable-requires
unreachable-requires c =
    let s = c.args.held.now in
    let some = before-some s c.hold.ensures.valid in
    let word = ap (λ (w : Written). w.turns) c.of-word.ensures ∙ c.word_of_hold.ensures.word ∙ ap hold_word c.hold.ensures.number in
    let turns = ap (λ (w : Written). w.turns) c.taken_back.ensures ∙ ap (back opposite) word in
    let none = c.in_default.ensures ∙ ap (play held_cube_after s) turns ∙ some.1 in
    cc

-- the turns of a 3x3x3 are turns of one that is held
pub with_event-scramble-requires : goal.with_event-scramble-requires
with_event-scramble-requires c = λ t h.
    let Permitted : Event → Type 0 = λ e. IsTrue (permits e t) in
    permits-held t (subst Permitted c.scramble_333-first.ensures.scramble.of_event h)

-- the word has two turns at most
pub push_all-requires-clause-room : goal.push_all-requires-clause-room
push_all-requires-clause-room c =
    let s = c.args.held.now in
    let word = ap (λ (w : Written). w.turns) c.of-word.ensures ∙ c.word_of_hold.ensures.word ∙ ap hold_word c.hold.ensures.number in
    let short = IsHoldWord-each (hold_of s.centres) (hold_of-lt s.centres c.hold.ensures.valid.centres) in
    omega (
      arith,
      ap length word,
      short.short,
      ap (λ (w : Written). length w.turns) c.scramble.ensures,
      ap (λ (w : Written). length w.turns) c.with_event-scramble.ensures,
      c.scramble_333-first.ensures.scramble.within,
    )

-- it leads to the state that the cube's scramble is for
before : (c : goal.After-push_all) → IsBefore c.args.held.now c.in-Some.before
before c =
    let s = c.args.held.now in
    let word = ap (λ (w : Written). w.turns) c.of-word.ensures ∙ c.word_of_hold.ensures.word ∙ ap hold_word c.hold.ensures.number in
    let turns = ap (λ (w : Written). w.turns) c.taken_back.ensures ∙ ap (back opposite) word in
    IsBefore-played s c.in-Some.before c.hold.ensures.valid (ap (play held_cube_after s) (sym turns) ∙ sym c.play.ensures ∙ c.in-Some.is)

joined : (c : goal.After-push_all)
    → c.push_all.new.scramble.turns ≡ c.scramble_333-first.result.turns ++ hold_word (hold_of c.args.held.now.centres)
joined c =
    let word = ap (λ (w : Written). w.turns) (c.scramble.ensures ∙ c.of-word.ensures) ∙ c.word_of_hold.ensures.word ∙ ap hold_word c.hold.ensures.number in
    ap (λ (s : Written). s.turns) c.push_all.ensures
    ∙ ap (λ (s : Written). s.turns ++ c.scramble.result.turns) c.with_event-scramble.ensures
    ∙ ap (λ w. c.scramble_333-first.result.turns ++ w) word

scramble : (c : goal.After-push_all) → IsScramble333bf c.args.tries c.args.held.now c.push_all.new.scramble.turns
unfolding solved_held
scramble c =
    let first = c.scramble_333-first.result.turns in
    let Own : CubeState → Type 0 = λ cube. IsScramble333 c.args.tries cube first in
    let Few : CubeState → Type 0 = λ cube. IsTrue (is_some (two_parts cube c.args.tries)) → length first ≤ 22 in
    record {
      before = c.in-Some.before.cube;
      turned_back = (before c).faces;
      first = first;
      scramble = subst Own c.cube.ensures.same c.scramble_333-first.ensures.scramble.scramble;
      few = subst Few c.cube.ensures.same c.scramble_333-first.ensures.few;
      joined = joined c;
    }

pub returns : goal.returns
unfolding solved_held
returns c =
    let s = c.args.held.now in
    let first = c.scramble_333-first.result.turns in
    let short = IsHoldWord-each (hold_of s.centres) (hold_of-lt s.centres c.hold.ensures.valid.centres) in
    let cube = c.scramble_333-first.ensures.scramble.gives ∙ ap Some c.cube.ensures.same in
    record {
      of_event = ap (λ (w : Written). w.event) c.push_all.ensures ∙ ap (λ (w : Written). w.event) c.with_event-scramble.ensures;
      scramble = scramble c;
      only = λ turns other. IsScramble333bf-unique c.args.tries s turns c.push_all.new.scramble.turns other (scramble c);
      within = omega (arith, ap length (joined c), length-append first (hold_word (hold_of s.centres)), short.short, c.scramble_333-first.ensures.scramble.within);
      gives = ap (play held_cube_after solved_held) (joined c) ∙ joined-played s c.in-Some.before first (before c) cube;
    }
