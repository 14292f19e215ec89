use Rattle.scr_text.proofs.number.+decimal.Given as goal

abbrev pub decreases-decimal : goal.decreases-decimal
decreases-decimal l = l.number
