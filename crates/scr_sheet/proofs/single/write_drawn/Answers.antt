use Rattle.std.proofs.Common.{◌*◌, ap, ◌∙◌, subst}
use Rattle.std.proofs.lemmas.Result.{err_from_is_err_and}
use Rattle.scr_outside.proofs.ChangeLemmas.{Gains-nothing}
use Rattle.scr_check.specs.declared.fault.Missing.{Missing}
use Rattle.scr_slots.specs.declared.settings.Settings.{Settings}
use Rattle.scr_slots.specs.Events.{scrambling_of}
use Rattle.scr_slots.specs.Slots.{HasNoScramble, IsSlotScramble}
use Rattle.scr_sheet.specs.Sheet.{settings_of}
use Rattle.scr_sheet.proofs.SingleLaws.{single-done, single-broken, single-limit}
use Rattle.scr_sheet.proofs.single.write_drawn.Goals as goal

pub returns-in-None : goal.returns-in-None
returns-in-None g c =
    let settings = c.settings_of-settings.ensures ∙ ap (settings_of c.args.seed.now) c.default.ensures in
    let none = subst (λ s. HasNoScramble (scrambling_of c.args.event) s 0 0) settings c.in-None.ensures in
    let told = ap (λ (s : Settings). let missing : Missing = record { round = 1; slot = 1; words = 3 * s.attempts } in missing) settings in
    single-limit c.args.side _ none told Gains-nothing

pub returns-in_err-write_with_net-in-Some : goal.returns-in_err-write_with_net-in-Some
returns-in_err-write_with_net-in-Some g c =
    let p = err_from_is_err_and c.from_residual.result c.from_residual.ensures.1 in
    let settings = c.settings_of-settings.ensures ∙ ap (settings_of c.args.seed.now) c.default.ensures in
    let slot = subst (λ s. IsSlotScramble (scrambling_of c.args.event) s 0 0 c.in-Some.scramble) settings c.in-Some.ensures in
    rw (p.1, p.2) (single-broken c.args.side c.in-Some.scramble slot c.in_err-write_with_net-in-Some.ensures)

pub returns-in_ok-write_with_net-in-Some : goal.returns-in_ok-write_with_net-in-Some
returns-in_ok-write_with_net-in-Some g c =
    let settings = c.settings_of-settings.ensures ∙ ap (settings_of c.args.seed.now) c.default.ensures in
    let slot = subst (λ s. IsSlotScramble (scrambling_of c.args.event) s 0 0 c.in-Some.scramble) settings c.in-Some.ensures in
    single-done c.args.side c.in-Some.scramble slot c.in_ok-write_with_net-in-Some.ensures
