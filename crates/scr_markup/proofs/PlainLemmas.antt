-- Texts without line feeds.
use Rattle.std.proofs.Common.{◌≡◌, ℕ, ◌<◌, ◌^◌, false, List, ◌++◌, refl, ◌∙◌, arith}
use Rattle.std.specs.Prelude.{All, decimal}
use Rattle.std.proofs.lemmas.Bool.Decides.{nat_tests}
use Rattle.std.proofs.lemmas.List.Elements.{All-weaker}
use Rattle.std.proofs.lemmas.List.Folds.{list_any-append, list_any_none}
use Rattle.scr_text.specs.Lines.{is_line_feed}
use Rattle.scr_text.proofs.LineLaws.{decimal-plain}
use Rattle.scr_markup.specs.Tokens.{HasNoLineFeed}

pub HasNoLineFeed-append : (xs ys : List ℕ) → HasNoLineFeed xs → HasNoLineFeed ys → HasNoLineFeed (xs ++ ys)
HasNoLineFeed-append xs ys hx hy = list_any-append is_line_feed xs ys ∙ rw (hx, hy) refl

above : (b : ℕ) → 31 < b → is_line_feed b ≡ false
above b high = grind (arith, nat_tests)

-- texts without controls
pub HasNoLineFeed-printed : (text : List ℕ) → All (λ b. 31 < b) text → HasNoLineFeed text
HasNoLineFeed-printed text high = grind (arith, list_any_none, All-weaker, above)

above_blank : (b : ℕ) → 32 < b → 31 < b
above_blank b high = omega arith

pub HasNoLineFeed-decimal : (n : ℕ) → n < 2 ^ 64 → HasNoLineFeed (decimal n)
HasNoLineFeed-decimal n low = grind (arith, HasNoLineFeed-printed, All-weaker, above_blank, decimal-plain)
