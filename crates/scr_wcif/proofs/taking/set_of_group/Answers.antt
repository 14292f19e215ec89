use Rattle.std.proofs.Common.{◌+◌, ap, ◌∙◌}
use Rattle.std.specs.Prelude.{string_bytes, map}
use Rattle.std.specs.Fmt.{decimal}
use Rattle.scr_notation.specs.Event.{per_group_of}
use Rattle.scr_wcif.proofs.TakeLemmas.{set-made}
use Rattle.scr_wcif.proofs.taking.set_of_group.Goals as goal

pub returns : goal.returns
returns c =
    let group = c.args.group.now in
    set-made group.head.event group.number group.scrambles c.scrambles-scrambles.result.now c.from-per_group.result c.decimal-number.result.bytes
    (map string_bytes c.in_ok-scrambles.scrambles.items) (map string_bytes c.in_ok-extras.extras.items) c.scrambles-scrambles.ensures.value
    (c.from-per_group.ensures ∙ c.per_group.ensures.value ∙ ap per_group_of c.event.ensures.value)
    (c.decimal-number.ensures.bytes ∙ ap (λ n. decimal (n + 1)) c.number.ensures.value) c.in_ok-scrambles.ensures c.in_ok-extras.ensures
