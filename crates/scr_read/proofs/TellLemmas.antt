-- The rounds of a sheet by its groups.
use Rattle.std.proofs.Common.{◌≡◌, ℕ, zero, suc, ◌+◌, ◌≤◌, List, [], ◌∷◌, ◌++◌, length, refl, sym, ap, ◌∙◌, arith, add-one}
use Rattle.std.specs.Prelude.{All}
use Rattle.std.proofs.lemmas.List.{append-nil}
use Rattle.std.proofs.lemmas.List.Elements.{All-head, All-tail}
use Rattle.scr_notation.specs.declared.turn.Turn.{Turn}
use Rattle.scr_read.specs.Heads.{HeadOf}
use Rattle.scr_read.specs.Sheets.{SheetRound, IsSheetRound}
use Rattle.scr_read.specs.Reading.{head_of}
use Rattle.scr_read.specs.Groups.{GroupOf, groups_from, lines_of_groups, groups_of_rounds, groups_of}

-- what groups tell, read from behind: later groups of a round, and rounds
record Told : Type 0 where
  groups : List (List (List Turn))
  rounds : List SheetRound

-- the first group of a round tells the round, and each other one is a later one
told_with : ℕ → HeadOf → List (List Turn) → Told → Told
told_with zero head group told = record {
  groups = [];
  rounds = record { event = head.event; least = head.least; name = head.name; groups = group ∷ told.groups } ∷ told.rounds;
}
told_with (suc n) head group told = record { groups = group ∷ told.groups; rounds = told.rounds }

told_by : List GroupOf → Told
told_by [] = record { groups = []; rounds = [] }
told_by (group ∷ groups) = told_with group.number group.head group.scrambles (told_by groups)

told_later : (k : ℕ) (head : HeadOf) (number line : ℕ) (groups : List (List (List Turn))) (tail : List GroupOf)
    → told_by (groups_from k head (number + 1) line groups ++ tail)
    ≡ record { groups = groups ++ (told_by tail).groups; rounds = (told_by tail).rounds }
unfolding told_by told_with
told_later k head number line [] tail = refl
told_later k head number line (group ∷ groups) tail =
    grind (arith, told_by, told_with, add-one, told_later k head (number + 1) (line + (length group + 2)) groups tail)

told_round : (k line : ℕ) (round : SheetRound) (tail : List GroupOf) (rounds : List SheetRound) → 1 ≤ length round.groups
    → told_by tail ≡ record { groups = []; rounds = rounds }
    → told_by (groups_from k (head_of round) 0 line round.groups ++ tail) ≡ record { groups = []; rounds = round ∷ rounds }
unfolding told_by told_with
told_round k line round tail rounds some is = with_groups round.groups some
  where
    with_groups : (groups : List (List (List Turn))) → 1 ≤ length groups
        → told_by (groups_from k (head_of round) 0 line groups ++ tail)
        ≡ record { groups = []; rounds = record { event = round.event; least = round.least; name = round.name; groups = groups } ∷ rounds }
    with_groups [] none = absurd (omega (arith, none))
    with_groups (group ∷ groups) any =
        ap (told_with 0 (head_of round) group) (told_later k (head_of round) 0 (line + (length group + 2)) groups tail)
        ∙ ap (λ (t : Told). told_with 0 (head_of round) group (record { groups = groups ++ t.groups; rounds = t.rounds })) is
        ∙ ap (λ g. told_with 0 (head_of round) group (record { groups = g; rounds = rounds })) (append-nil groups)

told_rounds : (k line : ℕ) (rounds : List SheetRound) → All IsSheetRound rounds
    → told_by (groups_of_rounds k line rounds) ≡ record { groups = []; rounds = rounds }
unfolding told_by
told_rounds k line [] all = refl
told_rounds k line (round ∷ rounds) all =
    told_round k (line + 1) round (groups_of_rounds (k + 1) (line + 1 + lines_of_groups round.groups) rounds) rounds
    (All-head IsSheetRound round rounds all).listed.some_groups
    (told_rounds (k + 1) (line + 1 + lines_of_groups round.groups) rounds (All-tail IsSheetRound round rounds all))

pub one_sheet_of_groups : (rounds others : List SheetRound) → All IsSheetRound rounds → All IsSheetRound others
    → groups_of rounds ≡ groups_of others → rounds ≡ others
one_sheet_of_groups rounds others all all' same =
    ap (λ (t : Told). t.rounds) (sym (told_rounds 0 1 rounds all) ∙ ap told_by same ∙ told_rounds 0 1 others all')
