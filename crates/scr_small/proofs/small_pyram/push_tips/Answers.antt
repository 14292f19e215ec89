use Rattle.std.proofs.Common.{◌≡◌, ◌++◌, [], length, drop, sym, ap, ◌∙◌, arith}
use Rattle.std.proofs.Math.Seq.{drop-length}
use Rattle.std.proofs.lemmas.List.{append-nil}
use Rattle.scr_notation.specs.declared.event.Event.TheVariants.{Pyram}
use Rattle.scr_notation.specs.Written.{Written}
use Rattle.scr_tetra.specs.PyramParts.{tips_word}
use Rattle.scr_small.proofs.TipsWord.{tips_word_from, tips_word-from_first}
use Rattle.scr_small.proofs.small_pyram.push_tips.Goals as goal

pub returns : goal.returns
returns c =
    let made : Written = c.loop-tip.scramble in
    let end : c.loop-tip.tip ≡ length c.args.tips.now = omega arith in
    let none : drop c.loop-tip.tip c.args.tips.now ≡ [] = ap (λ k. drop k c.args.tips.now) end ∙ drop-length c.args.tips.now in
    let turns : made.turns ≡ c.args.scramble.now.turns ++ tips_word c.args.tips.now =
    sym (append-nil made.turns) ∙ ap (λ w. made.turns ++ tips_word_from c.loop-tip.tip w) (sym none) ∙ c.loop-tip.invariant.turns
    ∙ ap (λ w. c.args.scramble.now.turns ++ w) (tips_word-from_first c.args.tips.now) in
    ap (λ e. record { event = e; turns = made.turns }) c.loop-tip.invariant.event ∙ ap (λ w. record { event = Pyram; turns = w }) turns
