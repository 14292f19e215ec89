-- The lemmas that the proofs of the code cite, by function.
use Rattle.scr_orbit.proofs.OrbitLaws.{same_orbit}
use Rattle.scr_notation.proofs.AxisLaws.{letter-high}
use Rattle.scr_tetra.proofs.NumberedSkewb.{AreDigits-skewb, class_below, same_skewb, skewb_numbering}
use Rattle.scr_tetra.proofs.PyramLaws.{same_pyram, same_tetraminx}
use Rattle.scr_tetra.proofs.SkewbDigits.{skewb_of_digits-made}

pub ruleset tip = (letter-high)

pub ruleset pyram_state = (same_pyram)

pub ruleset tetraminx_at = (same_tetraminx, same_orbit)

pub ruleset skewb_state = (same_skewb, skewb_numbering, class_below, skewb_of_digits-made)

pub ruleset skewb_number = (AreDigits-skewb)
