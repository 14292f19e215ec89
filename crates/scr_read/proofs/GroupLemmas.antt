-- The groups that are left of a sheet.
use Rattle.std.proofs.Common.{◌≡◌, ℕ, suc, ◌+◌, ◌-◌, ◌*◌, ◌<◌, ◌≤◌, List, [], ◌∷◌, ◌++◌, length, map, refl, sym, ap, subst, ◌∙◌, arith, append_assoc, length-append, rules}
use Rattle.std.specs.Prelude.{All}
use Rattle.std.proofs.lemmas.List.Elements.{All-nil, All-head, All-tail, All-map}
use Rattle.scr_notation.specs.declared.event.Event.{Event}
use Rattle.scr_notation.specs.declared.turn.Turn.{Turn}
use Rattle.scr_notation.specs.Written.{Written, IsWritten}
use Rattle.scr_list.specs.Rounds.{IsRound}
use Rattle.scr_read.specs.declared.piece.Piece.{Piece}
use Rattle.scr_read.specs.declared.piece.Piece.TheVariants as piece
use Rattle.scr_read.specs.Heads.{HeadOf}
use Rattle.scr_read.specs.Sheets.{SheetRound, AreGroup, IsSheetRound, IsSheet}
use Rattle.scr_read.specs.Reading.{as_round, head_of, slot_pieces, group_pieces, pieces_of}
use Rattle.scr_read.specs.Groups.{GroupOf, groups_from, lines_of_groups, groups_of_rounds, groups_of, scrambles_of}
use Rattle.scr_read.specs.Left.{PiecesLeft, slots_next, groups_in, IsLeft, IsGroupNext}
use Rattle.scr_read.proofs.SheetLemmas.{IsOf, one_round}
use Rattle.scr_read.proofs.OnlyLemmas.{own_scramble}

-- ---- scrambles of an event

abbrev pub IsScrambleOf : Event → Written → Type 0
IsScrambleOf event s = IsWritten s × (s.event ≡ event)

abbrev pub turns_of : List Written → List (List Turn)
turns_of scrambles = map (λ (s : Written). s.turns) scrambles

pub scrambles-are : (event : Event) (scrambles : List Written) → All (IsScrambleOf event) scrambles
    → scrambles ≡ scrambles_of event (turns_of scrambles)
scrambles-are event [] all = refl
scrambles-are event (s ∷ scrambles) all =
    let more = scrambles-are event scrambles (All-tail (IsScrambleOf event) s scrambles all) in
    grind (arith, All-head, own_scramble, All-tail)

pub turns-are : (event : Event) (scrambles : List Written) → All (IsScrambleOf event) scrambles → All (IsOf event) (turns_of scrambles)
turns-are event scrambles all =
    All-map (IsOf event) (λ (s : Written). s.turns) scrambles
    (λ k d below. let it = all k d below in subst IsWritten (own_scramble _ event it.1) it.0)

pub all-scrambles_of : (event : Event) (group : List (List Turn)) → All (IsOf event) group → All (IsScrambleOf event) (scrambles_of event group)
all-scrambles_of event group all = search (arith, rules, All-map)

pub turns_of-scrambles_of : (event : Event) (group : List (List Turn)) → turns_of (scrambles_of event group) ≡ group
turns_of-scrambles_of event [] = refl
turns_of-scrambles_of event (turns ∷ group) = ap (λ x. turns ∷ x) (turns_of-scrambles_of event group)

-- ---- groups among pieces

slots_next-slots : (event : Event) (group : List (List Turn)) (behind : List Piece)
    → slots_next (slot_pieces event group ++ piece.GroupEnd ∷ behind) ≡ group
slots_next-slots event [] behind = refl
slots_next-slots event (turns ∷ group) behind = ap (λ x. turns ∷ x) (slots_next-slots event group behind)

slots_passed : (begun : ℕ) (head : HeadOf) (lines : ℕ) (event : Event) (group : List (List Turn)) (pieces : List Piece)
    → groups_in begun head lines (slot_pieces event group ++ pieces) ≡ groups_in begun head (lines + length group) pieces
slots_passed begun head lines event [] pieces = grind arith
slots_passed begun head lines event (turns ∷ group) pieces =
    grind (arith, slots_passed begun head (lines + 1) event group pieces)

-- a group and what is behind it
pub group_in : (begun : ℕ) (head : HeadOf) (lines number : ℕ) (pieces : List Piece) (next : IsGroupNext head.event pieces)
    → groups_in begun head lines (piece.Group number ∷ pieces)
    ≡ record { round = begun - 1; head = head; number = number; line = lines + 1; scrambles = next.group }
    ∷ groups_in begun head (lines + 1 + (length next.group + 1)) next.behind
group_in begun head lines number pieces next = grind (arith, slots_next-slots, slots_passed)

own_groups : (begun : ℕ) (head : HeadOf) (lines number : ℕ) (groups : List (List (List Turn))) (pieces : List Piece)
    → groups_in begun head lines (group_pieces head.event number groups ++ pieces)
    ≡ groups_from (begun - 1) head number (lines + 1) groups ++ groups_in begun head (lines + lines_of_groups groups) pieces
own_groups begun head lines number [] pieces = grind arith
own_groups begun head lines number (group ∷ groups) pieces =
    let more = own_groups begun head (lines + (length group + 2)) (number + 1) groups pieces in
    grind (arith, append_assoc, slots_next-slots, slots_passed)

groups_in-rounds : (begun : ℕ) (head : HeadOf) (lines : ℕ) (rounds : List SheetRound)
    → groups_in begun head lines (pieces_of rounds) ≡ groups_of_rounds begun (lines + 1) rounds
groups_in-rounds begun head lines [] = refl
groups_in-rounds begun head lines (round ∷ rounds) =
    let more = groups_in-rounds (begun + 1) (head_of round) (lines + 1 + lines_of_groups round.groups) rounds in
    grind (arith, own_groups)

-- ---- how many there are

length-groups_from : (k : ℕ) (head : HeadOf) (number line : ℕ) (groups : List (List (List Turn)))
    → length (groups_from k head number line groups) ≡ length groups
length-groups_from k head number line [] = refl
length-groups_from k head number line (group ∷ groups) =
    ap suc (length-groups_from k head (number + 1) (line + (length group + 2)) groups)

few_in_rounds : (k line : ℕ) (rounds : List SheetRound) → All IsSheetRound rounds
    → length (groups_of_rounds k line rounds) ≤ 26 * length rounds
few_in_rounds k line [] all = omega arith
few_in_rounds k line (round ∷ rounds) all =
    let more =
    few_in_rounds (k + 1) (line + 1 + lines_of_groups round.groups) rounds (All-tail IsSheetRound round rounds all) in
    grind (arith, All-head, length-groups_from, All-tail, length-append)

pub few_groups_of : (text : List ℕ) (rounds : List SheetRound) → IsSheet text rounds → length (groups_of rounds) ≤ 6656
few_groups_of text rounds is = grind (arith, few_in_rounds)

-- ---- what is left

pub left_of_sheet : (text : List ℕ) (head : HeadOf) (rounds : List SheetRound) → IsSheet text rounds → IsLeft 0 head (pieces_of rounds)
left_of_sheet text head rounds is =
    let few = is.few in
    record {
      number = 0;
      groups = [];
      rounds = rounds;
      pieces_are = refl;
      are = All-nil (AreGroup head.event);
      few_groups = omega arith;
      of_round = λ some. absurd (omega (arith, some));
      each = is.each;
      few = omega (arith, few);
    }

-- a group comes next
pub record GroupComes (begun : ℕ) (head : HeadOf) (number : ℕ) (pieces : List Piece) : Type 0 where
  pub next : IsGroupNext head.event pieces
  pub some : 1 ≤ begun
  pub few : begun ≤ 256
  pub named : IsRound (as_round head)
  pub below : number < 26
  pub behind : IsLeft begun head next.behind

pub group_comes : (begun : ℕ) (head : HeadOf) (number : ℕ) (pieces : List Piece) → IsLeft begun head (piece.Group number ∷ pieces)
    → GroupComes begun head number pieces
group_comes begun head number pieces left = from left.groups left.rounds left.pieces_are left.are left.few_groups left.of_round left.each left.few
  where
    from : (groups : List (List (List Turn))) (rounds : List SheetRound)
        → piece.Group number ∷ pieces ≡ group_pieces head.event left.number groups ++ pieces_of rounds → All (AreGroup head.event) groups
        → left.number + length groups ≤ 26 → (0 < length groups → (1 ≤ begun) × IsRound (as_round head)) → All IsSheetRound rounds
        → begun + length rounds ≤ 256 → GroupComes begun head number pieces
    from [] [] is are few of_round each most = absurd (cc)
    from [] (round ∷ rounds) is are few of_round each most = absurd (cc)
    from (group ∷ groups) rounds is are few of_round each most =
        let slots = slot_pieces head.event group in
        let more = group_pieces head.event (left.number + 1) groups in
        let same : number ≡ left.number = cc in
        let rest : pieces ≡ (slots ++ piece.GroupEnd ∷ more) ++ pieces_of rounds = cc in
        let of_this = of_round (omega arith) in
        record {
          next = record {
            group = group;
            behind = more ++ pieces_of rounds;
            pieces_are = rest ∙ append_assoc slots (piece.GroupEnd ∷ more) (pieces_of rounds);
            is = All-head (AreGroup head.event) group groups are;
          };
          some = of_this.0;
          few = omega (arith, most);
          named = of_this.1;
          below = omega (arith, same, few);
          behind = record {
            number = left.number + 1;
            groups = groups;
            rounds = rounds;
            pieces_are = refl;
            are = All-tail (AreGroup head.event) group groups are;
            few_groups = omega (arith, few);
            of_round = λ some. of_this;
            each = each;
            few = most;
          };
        }

first_group : (event : Event) (groups : List (List (List Turn))) (tail : List Piece) → 1 ≤ length groups
    → (behind : List Piece) × (group_pieces event 0 groups ++ tail ≡ piece.Group 0 ∷ behind)
first_group event [] tail some = absurd (omega (arith, some))
first_group event (group ∷ groups) tail some = (_, refl)

-- another round comes next
pub record RoundComes (begun : ℕ) (head : HeadOf) (pieces : List Piece) : Type 0 where
  pub number : ℕ
  pub behind : List Piece
  pub are : pieces ≡ piece.Group number ∷ behind
  pub few : begun < 256
  pub left : IsLeft (begun + 1) head pieces

pub round_comes : (begun : ℕ) (head next : HeadOf) (pieces : List Piece) → IsLeft begun head (piece.Head next ∷ pieces)
    → RoundComes begun next pieces
round_comes begun head next pieces left = from left.groups left.rounds left.pieces_are left.each left.few
  where
    from : (groups : List (List (List Turn))) (rounds : List SheetRound)
        → piece.Head next ∷ pieces ≡ group_pieces head.event left.number groups ++ pieces_of rounds → All IsSheetRound rounds
        → begun + length rounds ≤ 256 → RoundComes begun next pieces
    from [] [] is each most = absurd (cc)
    from (group ∷ groups) rounds is each most = absurd (cc)
    from [] (round ∷ rounds) is each most =
        let of_round = All-head IsSheetRound round rounds each in
        let some = of_round.listed.some_groups in
        let most_groups = of_round.listed.few_groups in
        let same : next ≡ head_of round = cc in
        let rest : pieces ≡ group_pieces round.event 0 round.groups ++ pieces_of rounds = cc in
        let first = first_group round.event round.groups (pieces_of rounds) some in
        record {
          number = 0;
          behind = first.0;
          are = rest ∙ first.1;
          few = omega (arith, most);
          left = subst (λ (h : HeadOf). IsLeft (begun + 1) h pieces) (sym same) (record {
            number = 0;
            groups = round.groups;
            rounds = rounds;
            pieces_are = rest;
            are = of_round.groups;
            few_groups = omega (arith, most_groups);
            of_round = λ any. (omega arith, one_round round of_round.listed);
            each = All-tail IsSheetRound round rounds each;
            few = omega (arith, most);
          });
        }

pub nothing_else : (begun : ℕ) (head : HeadOf) (x : Piece) (pieces : List Piece) → IsLeft begun head (x ∷ pieces)
    → ((next : HeadOf) → x ≡ piece.Head next → ⊥) → ((n : ℕ) → x ≡ piece.Group n → ⊥) → ⊥
nothing_else begun head x pieces left no_head no_group = from left.groups left.rounds left.pieces_are
  where
    from : (groups : List (List (List Turn))) (rounds : List SheetRound)
        → x ∷ pieces ≡ group_pieces head.event left.number groups ++ pieces_of rounds → ⊥
    from [] [] is = absurd (cc)
    from [] (round ∷ rounds) is = no_head (head_of round) (cc)
    from (group ∷ groups) rounds is = no_group left.number (cc)

-- ---- a step

pub name_read : {begun : ℕ} {head : HeadOf} {pieces behind : List Piece} {x : Piece} {number : ℕ} → IsLeft begun head pieces
    → pieces ≡ x ∷ behind → x ≡ piece.Group number → GroupComes begun head number behind
name_read {begun} {head} {pieces} {behind} {x} {number} left given is = grind (arith, group_comes)

pub head_read : {begun : ℕ} {head next : HeadOf} {pieces behind : List Piece} {x : Piece} → IsLeft begun head pieces
    → pieces ≡ x ∷ behind → x ≡ piece.Head next → RoundComes begun next behind
head_read {begun} {head} {next} {pieces} {behind} {x} left given is =
    round_comes begun head next behind (subst (IsLeft begun head) (given ∙ ap (λ p. p ∷ behind) is) left)

pub given_group : (begun : ℕ) (head : HeadOf) (before after : PiecesLeft) (x : Piece) (number : ℕ) → before.pieces ≡ x ∷ after.pieces
    → x ≡ piece.Group number → after.lines ≡ before.lines + 1 → (next : IsGroupNext head.event after.pieces) (group : GroupOf) (behind : PiecesLeft) (round line : ℕ)
    → round ≡ begun - 1 → line ≡ before.lines + 1
    → group ≡ record { round = round; head = head; number = number; line = line; scrambles = next.group }
    → behind ≡ record { pieces = next.behind; lines = after.lines + (length next.group + 1) }
    → groups_in begun head before.lines before.pieces ≡ group ∷ groups_in begun head behind.lines behind.pieces
given_group begun head before after x number given is lines next group behind round line of_round of_line group_is behind_is =
    let rest : List GroupOf = groups_in begun head (before.lines + 1 + (length next.group + 1)) next.behind in
    ap (groups_in begun head before.lines) (given ∙ ap (λ p. p ∷ after.pieces) is) ∙ group_in begun head before.lines number after.pieces next
    ∙ ap (λ k. record { round = k; head = head; number = number; line = before.lines + 1; scrambles = next.group } ∷ rest) (sym of_round)
    ∙ ap (λ n. record { round = round; head = head; number = number; line = n; scrambles = next.group } ∷ rest) (sym of_line)
    ∙ ap (λ g. g ∷ rest) (sym group_is)
    ∙ ap (λ n. group ∷ groups_in begun head (n + (length next.group + 1)) next.behind) (sym lines)
    ∙ ap (λ (p : PiecesLeft). group ∷ groups_in begun head p.lines p.pieces) (sym behind_is)

pub next_group : (begun : ℕ) (head next : HeadOf) (before after : PiecesLeft) (x : Piece) → before.pieces ≡ x ∷ after.pieces → x ≡ piece.Head next
    → after.lines ≡ before.lines + 1
    → groups_in begun head before.lines before.pieces ≡ groups_in (begun + 1) next after.lines after.pieces
next_group begun head next before after x given is lines = grind arith

pub left_whole : {begun : ℕ} {head : HeadOf} {behind : List Piece} {after : PiecesLeft} {lines : ℕ} → IsLeft begun head behind
    → after ≡ record { pieces = behind; lines = lines } → IsLeft begun head after.pieces
left_whole {begun} {head} {behind} {after} {lines} left is = subst (λ (p : PiecesLeft). IsLeft begun head p.pieces) (sym is) left

pub all_groups : (text : List ℕ) (head : HeadOf) (left : PiecesLeft) (rounds : List SheetRound) → IsSheet text rounds
    → left ≡ record { pieces = pieces_of rounds; lines = 0 } → IsLeft 0 head left.pieces × (groups_in 0 head left.lines left.pieces ≡ groups_of rounds)
all_groups text head left rounds sheet is = grind (arith, left_of_sheet, groups_in-rounds)
