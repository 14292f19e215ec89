use Rattle.std.proofs.Common.{◌≡◌, ◌≤◌, sym, subst, arith, Global}
use Rattle.std.specs.Prelude.{[], ◌∷◌, codes}
use Rattle.json.specs.declared.value.Value.{Value}
use Rattle.json.specs.Json.{Json}
use Rattle.json.specs.Tree.{depth, HasNumbers}
use Rattle.json.specs.Value.{value_view}
use Rattle.scr_wcif.specs.Filling.{filled_round, filled}
use Rattle.scr_wcif.proofs.FillLemmas.{ok-weaker, numbers-along, numbers-round, depth-filled}
use Rattle.scr_wcif.proofs.filling.filled.Goals as goal

pub returns-clause-writable : goal.returns-clause-writable
returns-clause-writable c all =
    let rounds = c.args.rounds.now in
    let file = value_view c.args.file in
    ok-weaker (λ (new : Value Global). value_view new ≡ filled rounds file) (λ (new : Value Global). HasNumbers (value_view new)) c.changed_along.result
    (λ new is. let P : Json → Type 0 = λ j. HasNumbers j in
    subst P (sym is) (numbers-along (codes "events" ∷ codes "rounds" ∷ []) (filled_round rounds) (numbers-round rounds c.requires) file all))
    c.changed_along.ensures

pub returns-clause-nests : goal.returns-clause-nests
returns-clause-nests c few =
    let rounds = c.args.rounds.now in
    let file = value_view c.args.file in
    ok-weaker (λ (new : Value Global). value_view new ≡ filled rounds file) (λ (new : Value Global). depth (value_view new) ≤ 128) c.changed_along.result
    (λ new is. let P : Json → Type 0 = λ j. depth j ≤ 128 in subst P (sym is) (omega (arith, depth-filled rounds file, few)))
    c.changed_along.ensures
