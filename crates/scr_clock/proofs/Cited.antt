-- The lemmas that the proofs of the code cite, by function.
use Rattle.std.proofs.Common.{◌≡◌, ℕ, ◌+◌, ◌*◌, ◌<◌, ◌≤◌, List, length, get_or, take, ap, ◌∙◌, sym, arith, length-set}
use Rattle.std.specs.List.{sum}
use Rattle.std.specs.Simd.Lanes.{products}
use Rattle.std.proofs.lemmas.List.{take_all}
use Rattle.std.proofs.lemmas.List.Edits.{fill_by_more}
use Rattle.std.proofs.lemmas.List.Elements.{All-get_or, All-take, All-drop}
use Rattle.std.proofs.lemmas.List.Sums.{sum_by_more}
use Rattle.std.proofs.lemmas.Simd.{length-zip2, get_or-zip2}
use Rattle.scr_combinatorics.proofs.Digits.{AreDigits-replicate}
use Rattle.scr_combinatorics.proofs.PlayLaws.{play-empty}
use Rattle.scr_combinatorics.proofs.StepLaws.{play-more, play-barred, play-whole}
use Rattle.scr_clock.proofs.AmountLaws.{amounts_by_rows, IsClock-amounts_of}
use Rattle.scr_clock.proofs.HeldLaws.{after_pins, after_over}
use Rattle.scr_clock.proofs.Reached.{IsClock-iff}
use Rattle.scr_clock.proofs.ScrambleLaws.{pins_of_clock, after_none, push-more}
use Rattle.scr_clock.proofs.ScrambleLaws.{front_pushed, room_behind, all_written, length-written}
use Rattle.scr_clock.proofs.SideLaws.{none_by_sides, one_by_sides, same_tests}
use Rattle.scr_clock.proofs.TurnLaws.{turned_by_dials, IsClock-turned}

-- the sum of the products so far and the next product, and of all
pub hour-more : (times dials : List ℕ) (k : ℕ) → length times ≡ 14 → length dials ≡ 14 → k < 14
    → sum (take (k + 1) (products times dials))
    ≡ sum (take k (products times dials)) + get_or times k 0 * get_or dials k 0
hour-more times dials k e f l =
    let long = length-zip2 (λ a b. a * b) times dials (e ∙ sym f) in
    let one = get_or-zip2 (λ a b. a * b) times dials k 0 0 0 (omega arith) (omega arith) in
    sum_by_more (λ x. x) (products times dials) k 0 (omega (arith, long))
    ∙ ap (λ n. sum (take k (products times dials)) + n) one

pub hour-whole : (times dials : List ℕ) (k : ℕ) → length times ≡ 14 → length dials ≡ 14 → 14 ≤ k
    → sum (take k (products times dials)) ≡ sum (products times dials)
hour-whole times dials k e f le =
    ap sum (take_all k (products times dials) (omega (arith, length-zip2 (λ a b. a * b) times dials (e ∙ sym f))))

pub ruleset hour = (hour-more, hour-whole)

pub ruleset solve = (fill_by_more, length-set, amounts_by_rows, IsClock-amounts_of)

pub ruleset pins = (fill_by_more, length-set, turned_by_dials, IsClock-turned)

pub ruleset after = (after_pins, after_over, after_none, pins_of_clock, All-get_or)

pub ruleset play = (play-empty, play-more, play-barred, play-whole, after)

pub ruleset each_clock_is_reached = (IsClock-iff)

pub ruleset turns_lead = (none_by_sides, one_by_sides, same_tests)

pub ruleset digits = (AreDigits-replicate)

pub ruleset push_pins = (push-more, take_all, length-zip2)

pub ruleset scramble_clock = (front_pushed, room_behind, all_written, length-written, All-take, All-drop)
