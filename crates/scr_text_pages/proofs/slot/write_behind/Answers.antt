use Rattle.std.proofs.Common.{List, ℕ, Bool, ap, sym, subst, string_bytes}
use Rattle.scr_text_pages.specs.Nets.{nets}
use Rattle.scr_text_pages.specs.Adding.{AddsLines, words_read}
use Rattle.scr_text_pages.proofs.AddLemmas.{adds-no_words, adds-none}
use Rattle.scr_text_pages.proofs.slot.write_behind.Goals as goal
use Rattle.scr_text_pages.proofs.slot.write_behind.Goals.{then-spacing+in_ok-write_net, else-spacing}

pub returns : goal.returns
returns c =
    let old = string_bytes c.args.text.now in
    let scramble = c.args.scramble.now in
    let Adds : Bool → List ℕ → Type 0 = λ pictures text. AddsLines (words_read (nets pictures scramble)) old text in
    let net : Adds c.args.spacing.pictures (string_bytes c.if-spacing.text) = elim c.if-spacing.branch [
      | then-spacing+in_ok-write_net w ↦
          subst (λ (t : List ℕ). Adds c.args.spacing.pictures t) (sym (ap (λ text. string_bytes text) w.text-is))
          (subst (λ (b : Bool). Adds b (string_bytes w.write_net.new.text)) (sym w.if-spacing.true) w.in_ok-write_net.ensures)
      | else-spacing w ↦
          subst (λ (t : List ℕ). Adds c.args.spacing.pictures t) (sym (ap (λ text. string_bytes text) w.text-is))
          (subst (λ (b : Bool). Adds b old) (sym w.if-spacing.false) (adds-none old))
    ] in
    adds-no_words (nets c.args.spacing.pictures scramble) old (string_bytes c.if-spacing.text) (string_bytes c.write_empty_lines.new.text) net c.in_ok-write_empty_lines.ensures
