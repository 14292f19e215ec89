use Rattle.std.proofs.Common.{[], ◌∷◌, map, string_bytes, ap, ◌∙◌, length}
use Rattle.scr_notation.specs.Spelling.{spelling}
use Rattle.scr_text_pages.proofs.rows.write_rows.Goals as goal

pub returns : goal.returns
returns c =
    let scramble = c.args.scramble.now in
    let goes = c.in_ok-write_words.ensures scramble.event scramble.turns c.turns-turns.ensures.valid.permitted
    (c.as_str.ensures.value ∙ c.print-written.ensures) (ap length c.as_slice.ensures.value ∙ c.places-places.ensures) in
    c.in_ok-end_row.ensures (c.args.label.now ∷ map spelling scramble.turns) (string_bytes c.args.text.now)
    (goes (c.args.label.now ∷ []) (string_bytes c.args.text.now) c.in_ok-write_label.ensures)
