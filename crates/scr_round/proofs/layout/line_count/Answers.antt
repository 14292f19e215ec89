use Rattle.std.proofs.Common.{◌≡◌, ap, ◌∙◌, arith}
use Rattle.scr_list.specs.declared.round.Round.{Round}
use Rattle.scr_notation.specs.Event.{per_group_of}
use Rattle.scr_round.proofs.LineLaws.{length-groups_lines}
use Rattle.scr_round.proofs.layout.line_count.Goals as goal

pub returns-clause-count : goal.returns-clause-count
returns-clause-count c k =
    let round = c.args.round.now in
    let own : c.from-2.result ≡ per_group_of round.event =
    c.from-2.ensures ∙ c.row.ensures.per_group ∙ ap (λ (r : Round). per_group_of r.event) c.round.view_is
    in
    let groups : c.from.result ≡ round.groups = c.from.ensures ∙ ap (λ (r : Round). r.groups) c.round.view_is in
    rw (own, groups) (omega (arith, length-groups_lines (per_group_of round.event) round.groups 65 0))
