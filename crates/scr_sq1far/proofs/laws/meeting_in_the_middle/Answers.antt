use Rattle.scr_combinatorics.proofs.PlayLaws.{play-keeps}
use Rattle.scr_sq1far.proofs.Meeting.{meeting}
use Rattle.scr_sq1far.proofs.laws.meeting_in_the_middle.Goals as goal

pub returns : goal.returns
returns g c = λ opposite back_again keeps home.
    let p = g.P.Permit.puzzle c.args.puzzle.now in
    let IsValid = (g.P.NumberedStates.numbered c.args.puzzle.now).IsValid in
    meeting p opposite IsValid (play-keeps p.after IsValid keeps) home back_again
