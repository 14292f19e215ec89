use Rattle.std.proofs.Common.{string_bytes, [], ◌∷◌, ◌++◌, ap, ◌∙◌}
use Rattle.scr_pages.specs.Writing.{look_of}
use Rattle.scr_pages.proofs.PageLemmas.{goes-html, goes-first, goes-more}
use Rattle.scr_pages.proofs.look.group_pages.Goals as goal
use Rattle.scr_pages.proofs.look.group_pages.Goals.{then-not-first+in_ok-push_str, else-not-first}

pub returns-then-look : goal.returns-then-look
returns-then-look c = λ before text first are.
    goes-html c.args.look.now.html (look_of c.args.look.now) c.args.group.now (string_bytes c.args.page.now) (string_bytes c.write_group.new.page)
    c.if-look.true c.requires.empty c.in_ok-write_group.ensures before text are

pub returns : goal.returns
returns c = λ before text first are.
    let look = look_of c.args.look.now in
    let group = c.args.group.now in
    let piece = string_bytes c.write_pages.new.text in
    elim c.if-not-first.branch [
      | then-not-first+in_ok-push_str w ↦
          goes-more c.args.look.now.html look group (string_bytes c.if-not-first.page) piece c.if-look.false
          (ap (λ page. string_bytes page) w.page-is ∙ w.in_ok-push_str.ensures.bytes ∙ ap (λ p. p ++ 12 ∷ []) c.requires.empty)
          c.in_ok-write_pages.ensures before text are
      | else-not-first w ↦
          goes-first c.args.look.now.html look group (string_bytes c.if-not-first.page) piece c.if-look.false
          (ap (λ page. string_bytes page) w.page-is ∙ c.requires.empty)
          c.in_ok-write_pages.ensures before text (first w.if-not-first.false) are
    ]
