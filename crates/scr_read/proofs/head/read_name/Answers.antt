use Rattle.std.proofs.Common.{◌≡◌, [], ◌++◌, sym, ap, ◌∙◌}
use Rattle.scr_round.specs.Round.{own_name_text, heading}
use Rattle.scr_read.proofs.HeadLemmas.{with_name}
use Rattle.scr_read.proofs.head.read_name.Goals as goal

pub returns-in-None-clause-none : goal.returns-in-None-clause-none
returns-in-None-clause-none c = λ none name is.
    let bare : c.as_str.result.now ≡ heading c.args.index (record { event = c.args.event; groups = 1; least = c.args.least; name = [] }) =
    c.as_str.ensures.value ∙ c.heading-front.ensures
    ∙ ap (λ n. heading c.args.index (record { event = c.args.event; groups = 1; least = c.args.least; name = n })) c.new.ensures in
    c.in-None.ensures (
      own_name_text name,
      is.is ∙ with_name c.args.index c.args.event c.args.least name ∙ ap (λ x. x ++ own_name_text name) (sym bare),
    )
