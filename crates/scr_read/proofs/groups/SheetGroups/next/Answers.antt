use Rattle.std.proofs.Common.{◌≡◌, ◌+◌, ◌-◌, refl, sym, subst, ◌∙◌, arith}
use Rattle.scr_read.proofs.GroupLemmas.{name_read, head_read, nothing_else, left_whole, given_group, next_group}
use Rattle.scr_read.proofs.groups.SheetGroups.next.Goals as goal

-- ---- the name of a group of the round that was begun

pub overflow_sub-round : goal.overflow_sub-round
overflow_sub-round c = (name_read c.self.invariant c.in_ok-number.ensures.0 c.in-Group.is).some

pub read_group-requires-clause-head : goal.read_group-requires-clause-head
read_group-requires-clause-head c = (name_read c.self.invariant c.in_ok-number.ensures.0 c.in-Group.is).named

pub read_group-requires-clause-number : goal.read_group-requires-clause-number
read_group-requires-clause-number c = (name_read c.self.invariant c.in_ok-number.ensures.0 c.in-Group.is).below

pub read_group-requires-clause-group : goal.read_group-requires-clause-group
read_group-requires-clause-group c = (name_read c.self.invariant c.in_ok-number.ensures.0 c.in-Group.is).next

pub invariant_of-self-in-Group : goal.invariant_of-self-in-Group
invariant_of-self-in-Group c =
    let it = name_read c.self.invariant c.in_ok-number.ensures.0 c.in-Group.is in
    left_whole it.behind (c.read_group.ensures.behind it.next)

pub returns-in-Group-clause-first : goal.returns-in-Group-clause-first
returns-in-Group-clause-first c =
    let it = name_read c.self.invariant c.in_ok-number.ensures.0 c.in-Group.is in
    sym c.self.view_is
    ∙ given_group c.self.inside.begun c.self.inside.head c.self.inside.pieces c.next.new.self c.in_ok-number.field-0 c.in-Group.number
    c.in_ok-number.ensures.0 c.in-Group.is c.in_ok-number.ensures.1 it.next c.read_group.result c.read_group.new.pieces (c.self.inside.begun - 1)
    c.line-line.result refl c.line-line.ensures (c.read_group.ensures.group it.next) (c.read_group.ensures.behind it.next)

-- ---- the head of another round

pub read_name-number-requires : goal.read_name-number-requires
read_name-number-requires c =
    let round = head_read c.self.invariant c.in_ok-number.ensures.0 c.in-Head.is in
    (round.number, round.behind, round.are)

pub read_group-requires-in-Head-clause-round : goal.read_group-requires-in-Head-clause-round
read_group-requires-in-Head-clause-round c = (head_read c.self.invariant c.in_ok-number.ensures.0 c.in-Head.is).few

pub read_group-requires-in-Head-clause-head : goal.read_group-requires-in-Head-clause-head
read_group-requires-in-Head-clause-head c =
    let round = head_read c.self.invariant c.in_ok-number.ensures.0 c.in-Head.is in
    (name_read round.left c.read_name-number.ensures.pieces refl).named

pub read_group-requires-in-Head-clause-number : goal.read_group-requires-in-Head-clause-number
read_group-requires-in-Head-clause-number c =
    let round = head_read c.self.invariant c.in_ok-number.ensures.0 c.in-Head.is in
    (name_read round.left c.read_name-number.ensures.pieces refl).below

pub read_group-requires-in-Head-clause-group : goal.read_group-requires-in-Head-clause-group
read_group-requires-in-Head-clause-group c =
    let round = head_read c.self.invariant c.in_ok-number.ensures.0 c.in-Head.is in
    (name_read round.left c.read_name-number.ensures.pieces refl).next

pub invariant_of-self-in-Head : goal.invariant_of-self-in-Head
invariant_of-self-in-Head c =
    let round = head_read c.self.invariant c.in_ok-number.ensures.0 c.in-Head.is in
    let it = name_read round.left c.read_name-number.ensures.pieces refl in
    left_whole it.behind (c.read_group-in-Head.ensures.behind it.next)

pub returns-in-Head-clause-first : goal.returns-in-Head-clause-first
returns-in-Head-clause-first c =
    let round = head_read c.self.invariant c.in_ok-number.ensures.0 c.in-Head.is in
    let it = name_read round.left c.read_name-number.ensures.pieces refl in
    let number : c.self.inside.begun ≡ c.self.inside.begun + 1 - 1 = omega arith in
    sym c.self.view_is
    ∙ next_group c.self.inside.begun c.self.inside.head c.in-Head.head c.self.inside.pieces c.next.new.self c.in_ok-number.field-0
    c.in_ok-number.ensures.0 c.in-Head.is c.in_ok-number.ensures.1
    ∙ given_group (c.self.inside.begun + 1) c.in-Head.head c.next.new.self c.read_name-number.new.pieces _ c.read_name-number.result
    c.read_name-number.ensures.pieces refl c.read_name-number.ensures.lines it.next c.read_group-in-Head.result c.read_group-in-Head.new.pieces
    c.self.inside.begun c.line-line-in-Head.result number c.line-line-in-Head.ensures (c.read_group-in-Head.ensures.group it.next)
    (c.read_group-in-Head.ensures.behind it.next)

-- ---- nothing else

pub unreachable-requires : goal.unreachable-requires
unreachable-requires c =
    nothing_else c.self.inside.begun c.self.inside.head c.in_ok-number.field-0 c.next.new.self.pieces
    (subst (Rattle.scr_read.specs.Left.IsLeft c.self.inside.begun c.self.inside.head) c.in_ok-number.ensures.0 c.self.invariant)
    c.in_default.not-Head c.in_default.not-Group
