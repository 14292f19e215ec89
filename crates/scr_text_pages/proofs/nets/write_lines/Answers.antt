use Rattle.std.proofs.Common.{◌≡◌, List, ℕ, [], ◌∷◌, ◌++◌, ap, ◌∙◌, sym, subst, take, string_bytes, arith}
use Rattle.std.proofs.lemmas.List.{take_all, take_more}
use Rattle.scr_net.specs.NetText.{net_lines}
use Rattle.scr_net.proofs.TextLaws.{lines-long}
use Rattle.scr_text_pages.specs.Adding.{AddsLines, words_read}
use Rattle.scr_text_pages.proofs.AddLemmas.{adds-none, adds-words}
use Rattle.scr_text_pages.proofs.nets.write_lines.Goals as goal

pub loop-place-init : goal.loop-place-init
loop-place-init g c = adds-none (string_bytes c.args.text.now)

pub loop-place-preserved : goal.loop-place-preserved
loop-place-preserved g c =
    let lines = net_lines g.row.SIDE c.args.net.now in
    let place = c.loop-place.place in
    let line : c.as_str.result.now ≡ _ = c.as_str.ensures.value ∙ c.net_line.ensures.line in
    let more = take_more lines place [] (omega (arith, lines-long g.row.SIDE c.args.net.now)) in
    subst (λ (words : List (List ℕ)). AddsLines (words_read words) (string_bytes c.args.text.now) (string_bytes c.write_line.new.text))
    (ap (λ l. take place lines ++ l ∷ []) line ∙ sym more)
    (adds-words (take place lines) (c.as_str.result.now ∷ []) (string_bytes c.args.text.now) (string_bytes c.loop-place.text) (string_bytes c.write_line.new.text)
    c.loop-place.invariant c.in_ok-write_line.ensures)

pub returns : goal.returns
returns g c =
    let lines = net_lines g.row.SIDE c.args.net.now in
    subst (λ (words : List (List ℕ)). AddsLines (words_read words) (string_bytes c.args.text.now) (string_bytes c.loop-place.text))
    (take_all c.loop-place.place lines (omega (arith, lines-long g.row.SIDE c.args.net.now))) c.loop-place.invariant
