use Rattle.std.proofs.Common.{ap, ◌∙◌, arith, rules}
use Rattle.scr_small.specs.NumberedPuzzles.{state_coordinate, IsScrambleOf}
use Rattle.scr_small.proofs.PuzzleLaws.{length-scramble, play-scrambled, IsScrambleOf-unique}
use Rattle.scr_small.specs.Tables.{small_line}
use Rattle.scr_small.proofs.BuiltTables.{IsTableOf-built}
use Rattle.scr_small.proofs.WalkedWords.{All-turns, IsScrambleOf-walked}
use Rattle.scr_small.proofs.scrambles.scramble_of.Given.{Over}
use Rattle.scr_small.proofs.scrambles.scramble_of.Goals as goal

pub descend-word-requires : goal.descend-word-requires
descend-word-requires g c =
    let l = c.number.ensures.solved in
    let below = l.lawful.numbering.one_to_one.below c.args.state.now c.number.ensures.valid in
    rw (ap small_line c.requires ∙ l.of_event) (omega (arith, below, c.number.ensures.number))

pub of-requires-clause-below : goal.of-requires-clause-below
of-requires-clause-below g c =
    let l = c.number.ensures.solved in
    let first = rw (ap small_line c.requires ∙ l.of_event) at c.descend-word.ensures.first in
    let each = All-turns (state_coordinate g.P.OneTable.shown) c.number.result c.descend-word.result.items first.leads in
    rw (c.TABLE.ensures, c.deref.ensures.0) (λ k d lt. omega (arith, each k d lt, l.own))

-- the word that was walked is the first, so that this is the scramble
walked : (g : Over) (c : goal.After-taken_back g) → IsScrambleOf g.P.OneTable.shown c.args.state.now c.taken_back.result.turns
walked g c =
    let l = c.number.ensures.solved in
    let first = rw (ap small_line c.requires ∙ l.of_event) at c.descend-word.ensures.first in
    rw (c.taken_back.ensures, c.of.ensures, c.TABLE.ensures, c.deref.ensures.0, ← l.letters, ← l.taken_back)
    (IsScrambleOf-walked g.P.OneTable.shown l.lawful c.args.state.now c.number.ensures.valid c.number.result c.number.ensures.number _ first)

pub returns : goal.returns
returns g c =
    let p = g.P.OneTable in
    let l = c.number.ensures.solved in
    let s = c.args.state.now in
    let valid = c.number.ensures.valid in
    let turns = c.taken_back.result.turns in
    let tables = c.args.tables.now in
    let table = IsTableOf-built p.shown p.TABLE l tables c.requires c.descend-word.ensures.built in
    let long = length-scramble p.shown l.lawful tables.distances table.measures s turns valid (walked g c) in
    let within = table.measures.within (p.shown.numbered.number_of s) (l.lawful.numbering.one_to_one.below s valid) in
    record {
      of_event = search rules;
      scramble = walked g c;
      only = λ other is. IsScrambleOf-unique p.shown l.lawful s other turns is (walked g c);
      within = omega (arith, long, within, table.bound);
      gives = play-scrambled p.shown l.lawful s turns valid (walked g c);
    }
