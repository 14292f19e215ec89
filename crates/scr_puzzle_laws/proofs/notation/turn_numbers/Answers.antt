use Rattle.std.proofs.Common.{ap}
use Rattle.scr_notation.specs.Spelling.{spelling}
use Rattle.scr_notation.specs.Event.{kind_of}
use Rattle.scr_notation.proofs.NumberLaws.{numbered, has_turn_at}
use Rattle.scr_notation.proofs.EachEvent.{IsKind-kind_of}
use Rattle.scr_notation.proofs.SpellingLaws.{same_number}
use Rattle.scr_puzzle_laws.proofs.notation.turn_numbers.Goals as goal

pub returns-clause-turns : goal.returns-clause-turns
returns-clause-turns c = λ event n l. has_turn_at (kind_of event) n (IsKind-kind_of event) l

pub returns-clause-numbered : goal.returns-clause-numbered
returns-clause-numbered c = λ event turn h. numbered (kind_of event) turn (IsKind-kind_of event) h

pub returns-clause-once : goal.returns-clause-once
returns-clause-once c = λ event n other l m e. same_number event n other l m (ap spelling e)
