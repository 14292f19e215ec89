use Rattle.std.proofs.Common.{string_bytes, [], ◌∷◌, ◌++◌, ap, ◌∙◌, append_assoc, codes}
use Rattle.scr_markup.specs.Tokens.{Close, text_of_tokens}
use Rattle.scr_html.proofs.head.write_tail.Goals as goal

pub returns : goal.returns
returns c =
    c.in_ok-close-2.ensures.written
    ∙ ap (λ page. page ++ text_of_tokens (Close (codes "html") ∷ [])) c.in_ok-close.ensures.written
    ∙ append_assoc (string_bytes c.args.page.now) (text_of_tokens (Close (codes "body") ∷ [])) (text_of_tokens (Close (codes "html") ∷ []))
