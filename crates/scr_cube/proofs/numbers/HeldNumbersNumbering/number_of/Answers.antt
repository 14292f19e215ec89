use Rattle.std.proofs.Common.{◌≡◌, [], ◌∷◌, sym, ap, ◌∙◌, subst, lit<}
use Rattle.scr_combinatorics.specs.Digits.{AreDigits, mixed_number}
use Rattle.scr_cube.specs.Cube333.{cube_numbered}
use Rattle.scr_cube.specs.Held.{hold_of, held_digits}
use Rattle.scr_cube.proofs.NumberedHeld.{held_bases, has_two}
use Rattle.scr_cube.proofs.numbers.HeldNumbersNumbering.number_of.Goals as goal

pub rank-requires : goal.rank-requires
unfolding held_digits
rank-requires c =
    let hold = c.from.ensures ∙ c.hold.ensures.number in
    let cube = c.number_of-cube.ensures ∙ ap cube_numbered.number_of c.cube.ensures.same in
    let digits : c.from.result ∷ c.number_of-cube.result ∷ [] ≡ held_digits c.args.state.now =
    ap (λ n. n ∷ c.number_of-cube.result ∷ []) hold ∙ ap (λ n. hold_of c.args.state.now.centres ∷ n ∷ []) cube in
    let below = subst (AreDigits held_bases) (sym digits) (has_two c.args.state.now c.requires).below in
    (lit< tt, (lit< tt, subst (λ bases. AreDigits bases (c.from.result ∷ c.number_of-cube.result ∷ [])) (sym c.new.ensures) below))

pub returns : goal.returns
unfolding held_digits
returns c =
    let hold = c.from.ensures ∙ c.hold.ensures.number in
    let cube = c.number_of-cube.ensures ∙ ap cube_numbered.number_of c.cube.ensures.same in
    let digits : c.from.result ∷ c.number_of-cube.result ∷ [] ≡ held_digits c.args.state.now =
    ap (λ n. n ∷ c.number_of-cube.result ∷ []) hold ∙ ap (λ n. hold_of c.args.state.now.centres ∷ n ∷ []) cube in
    c.rank.ensures.number
    ∙ ap (λ bases. mixed_number bases (c.from.result ∷ c.number_of-cube.result ∷ [])) c.new.ensures
    ∙ ap (mixed_number held_bases) digits
