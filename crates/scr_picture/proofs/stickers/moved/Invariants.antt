use Rattle.std.proofs.Common.{◌≡◌, ◌-◌}
use Rattle.scr_picture.specs.Stickers.{moved_times}
use Rattle.scr_picture.proofs.stickers.moved.Given as goal

abbrev pub invariant-loop-time : goal.invariant-loop-time
invariant-loop-time g l =
    moved_times l.times l.from l.letters ≡ moved_times (l.times - l._time) l.from l.now
