use Rattle.std.proofs.Common.{◌≤◌, List, ℕ, length, take, sym, ap, ◌∙◌, subst}
use Rattle.std.specs.Prelude.{All, IsTrue, slice_get}
use Rattle.std.proofs.lemmas.List.Elements.{All-take}
use Rattle.scr_sq1tables.specs.Tables.{shapes_coordinate}
use Rattle.scr_sq1tables.specs.ShapeWords.{is_shape_word, shape_words}
use Rattle.scr_table.specs.Words.{words_to_goal}
use Rattle.scr_sq1tables.proofs.ShapeWordLaws.{words-by_index, All-shape_words, first-shape_word}
use Rattle.scr_sq1tables.proofs.tables.Sq1Tables.shape_words.Goals as goal

pub returns-clause-words : goal.returns-clause-words
returns-clause-words c =
    c.first_words.ensures
    ∙ ap (λ i. take c.args.wanted (words_to_goal shapes_coordinate i 13)) c.shapes_index.ensures.value
    ∙ ap (take c.args.wanted) (words-by_index c.args.state.now c.shapes_index.ensures.valid)

pub returns-clause-each : goal.returns-clause-each
returns-clause-each c =
    let s = c.args.state.now in
    let Passes : List ℕ → Type 0 = λ word. IsTrue (is_shape_word s word) in
    subst (All Passes) (sym (returns-clause-words c)) (All-take Passes c.args.wanted (shape_words s) (All-shape_words s Passes (λ word is. is.1)))

pub returns-clause-short : goal.returns-clause-short
returns-clause-short c =
    let s = c.args.state.now in
    let Short : List ℕ → Type 0 = λ word. length word ≤ 13 in
    subst (All Short) (sym (returns-clause-words c)) (All-take Short c.args.wanted (shape_words s) (All-shape_words s Short (λ word is. is.0)))

pub returns-clause-first : goal.returns-clause-first
returns-clause-first c = λ some.
    let s = c.args.state.now in
    let first = first-shape_word c.args.self.now.shapes c.args.self.now.built.0 s c.shapes_index.ensures.valid c.args.wanted some in
    (first.0, first.1, ap (λ words. slice_get words 0) (returns-clause-words c) ∙ first.2)
