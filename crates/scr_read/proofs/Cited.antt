-- The lemmas that the proofs of the code cite, by function.
use Rattle.scr_read.proofs.HeadLemmas.{with_name}
use Rattle.scr_read.proofs.LeftLemmas.{left_after, no_fault, piece_given}
use Rattle.scr_read.proofs.LineLemmas.{front_before}
use Rattle.scr_read.proofs.OnlyLemmas.{one_sheet, sheet_of}
use Rattle.scr_read.proofs.SheetLemmas.{sheet_read}
use Rattle.scr_read.proofs.WalkLemmas.{after_some, read_nothing}
use Rattle.std.proofs.lemmas.List.{append_cancel_left}
use Rattle.std.proofs.lemmas.Slice.Eq.{bytes_eq-Decides}

pub ruleset read_name = (with_name, append_cancel_left)

pub ruleset sheets_are_read_back = (sheet_read, sheet_of, one_sheet)

pub ruleset behind = (front_before, bytes_eq-Decides)

pub ruleset sheet_pieces_next = (left_after, no_fault, piece_given)

pub ruleset read = (read_nothing, after_some)
