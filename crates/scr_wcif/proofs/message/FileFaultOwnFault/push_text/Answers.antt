use Rattle.std.proofs.Common.{◌≡◌, ℕ, List, ◌++◌, sym, ap, ◌∙◌, append_assoc}
use Rattle.std.specs.Prelude.{codes}
use Rattle.std.specs.Fmt.{decimal}
use Rattle.scr_wcif.specs.Message.{file_text, difference_text}
use Rattle.scr_wcif.proofs.message.FileFaultOwnFault.push_text.Goals as goal

joined : (a b c d : List ℕ) → ((a ++ b) ++ c) ++ d ≡ a ++ ((b ++ c) ++ d)
joined a b c d = append_assoc (a ++ b) c d ∙ append_assoc a b (c ++ d) ∙ ap (λ x. a ++ x) (sym (append_assoc b c d))

pub returns-in-Sheet-clause-bytes : goal.returns-in-Sheet-clause-bytes
returns-in-Sheet-clause-bytes c =
    let line = c.args.line.now.bytes in
    let words = difference_text c.in-Sheet.difference in
    c.push_str-in-Sheet-2.ensures.bytes ∙ ap (λ w. c.push_str-in-Sheet.new.self.bytes ++ w) c.difference_words.ensures.words
    ∙ ap (λ b. b ++ words) c.push_str-in-Sheet.ensures.bytes
    ∙ ap (λ b. (b ++ codes ": ") ++ words) c.push_at-in-Sheet.ensures.bytes
    ∙ joined line (codes "sheet round " ++ decimal c.in-Sheet.number) (codes ": ") words
    ∙ ap (λ why. line ++ file_text why) (sym c.in-Sheet.is)
