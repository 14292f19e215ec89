use Rattle.std.proofs.Common.{string_bytes, ◌++◌, [], ◌∷◌, ap, ◌∙◌}
use Rattle.scr_layout.specs.Holding.{held_of}
use Rattle.scr_text_pages.proofs.HeadLemmas.{heads-made}
use Rattle.scr_text_pages.proofs.heads.write_heads.Goals as goal

pub returns : goal.returns
returns c =
    heads-made c.args.group.now c.args.competition.now (string_bytes c.args.text.now) (string_bytes c.write_competition.new.text)
    (string_bytes c.push_str.new.self) (string_bytes c.write_number.new.text) (string_bytes c.push_str-2.new.self) (string_bytes c.write_line.new.text)
    (string_bytes c.write_line-2.new.text) c.event.ensures.valid c.requires c.in_ok-write_competition.ensures
    (c.in_ok-push_str.ensures.bytes ∙ ap (λ t. string_bytes c.write_competition.new.text ++ t) (c.as_str.ensures.value ∙ c.title.ensures))
    c.in_ok-write_number.ensures c.in_ok-push_str-2.ensures.bytes
    (c.in_ok-write_line.ensures ∙ ap (λ t. string_bytes c.push_str-2.new.self ++ (t ++ 10 ∷ [])) (c.as_str-2.ensures.value ∙ c.round_line.ensures))
    (c.in_ok-write_line-2.ensures ∙ ap (λ t. string_bytes c.write_line.new.text ++ (t ++ 10 ∷ [])) (c.held.ensures ∙ ap held_of c.event.ensures.value))
