-- The lemmas that the proofs of the code cite, by function.
use Rattle.std.proofs.Common.{◌≡◌, ℕ, suc, ◌+◌, ◌-◌, ◌<◌, ◌≤◌, List, ap, arith}
use Rattle.scr_combinatorics.specs.Lists.{pick}
use Rattle.scr_combinatorics.proofs.PlayLaws.{play-empty}
use Rattle.scr_combinatorics.proofs.StepLaws.{play-more, play-barred}
use Rattle.scr_net_laws.proofs.PlayedNets.{cube_nets}
use Rattle.scr_picture.specs.Stickers.{moved_times}
use Rattle.scr_picture.proofs.MinxLaws.{five_times, not_fewer, turn-kept, taken_back}
use Rattle.scr_picture.proofs.OneCube.{one_cube_shown, upright_picture}
use Rattle.scr_picture.proofs.OneLine.{faces_line}
use Rattle.scr_picture.proofs.TextLaws.{flat_map_range}

pub moved-more : (times time : ℕ) (from letters : List ℕ) → time < times
    → moved_times (times - time) from letters ≡ moved_times (times - (time + 1)) from (pick letters from)
unfolding moved_times
moved-more times time from letters lt =
    let left : times - time ≡ suc (times - (time + 1)) = omega arith in ap (λ n. moved_times n from letters) left

pub moved-whole : (times time : ℕ) (from letters : List ℕ) → times ≤ time
    → moved_times (times - time) from letters ≡ letters
unfolding moved_times
moved-whole times time from letters le =
    let left : times - time ≡ 0 = omega arith in ap (λ n. moved_times n from letters) left

pub ruleset moved = (moved-more, moved-whole)

pub ruleset played = (play-empty, play-more, play-barred)

pub ruleset net_letters = (flat_map_range, faces_line)

pub ruleset cube = (cube_nets, upright_picture, one_cube_shown)

pub ruleset megaminx = (five_times, not_fewer, turn-kept, taken_back)
