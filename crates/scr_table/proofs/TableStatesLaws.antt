-- What is so of a table by the positions of its line is so by the states that it speaks of.
use Rattle.std.proofs.Common.{◌≡◌, ℕ, ◌<◌, List, [], ◌∷◌, ◌++◌, length-append, inl, inr, refl, sym, ◌∙◌, subst, arith}
use Rattle.std.specs.Prelude.{All, length, ◌↔◌}
use Rattle.std.proofs.lemmas.List.Elements.{All-head, All-tail}
use Rattle.scr_combinatorics.specs.FirstWord.{LeadsTo, IsDistance}
use Rattle.scr_positions.specs.Coordinates.{moved, IsGoal}
use Rattle.scr_positions.specs.SearchSpaces.{positions, Follows, FindsTheSame}
use Rattle.scr_positions.proofs.SearchLaws.{FindsTheSame-follows}
use Rattle.scr_table.specs.declared.name.TableName.{TableName}
use Rattle.scr_table.specs.declared.fault.BuildFault.{BuildFault}
use Rattle.scr_table.specs.declared.fault.BuildFault.TheVariants.{NoMemory, Gap}
use Rattle.scr_table.specs.Distances.{IsGap, IsFirstGap}
use Rattle.scr_table.specs.Lines.{TableLine, HasNoGap}
use Rattle.scr_table.specs.Causes.{IsCauseOf}
use Rattle.scr_table.specs.SearchTables.{SearchTable, HasState, IsAtDistance, HasGap, IsWhole, HasFirstGap, IsFirstGapAmong, IsCauseAmong}
use Rattle.scr_table.specs.TableStates.{IsEach, IsLineOf, AreLinesOf, AreWhole, by_positions, SeesAlike, EachSeesAlike}

-- ---- one table

-- where each position of a line is the number of a state of a table that goes along with it, the line is that of the
-- table
pub IsLineOf-each : (table : SearchTable) (line : TableLine) → line.name ≡ table.name
    → line.coordinate.count ≡ table.count → line.bound ≡ table.bound
    → Follows table.space (positions line.coordinate) table.number_of
    → IsEach table.space table.number_of line.coordinate.count → IsLineOf table line
IsLineOf-each table line name count bound follows each = record {
  name = name;
  count = count;
  bound = bound;
  follows = follows;
  each = subst (IsEach table.space table.number_of) count each;
}

module _ (table : SearchTable) (line : TableLine) (is : IsLineOf table line) where
  finds_the_same : FindsTheSame table.space (positions line.coordinate) table.number_of
  finds_the_same = FindsTheSame-follows table.space (positions line.coordinate) table.number_of is.follows

  -- the number of a state is a position
  position : (s : table.State) (i : ℕ) → table.space.IsValid s → table.number_of s ≡ i → i < line.coordinate.count
  position s i valid here = subst (λ k. k < line.coordinate.count) here (is.follows.valid s valid)

  -- at each position something is so of a state of this number
  state_of : (i : ℕ) (Is : table.State → Type 0) → i < line.coordinate.count
      → ((s : table.State) → table.space.IsValid s → table.number_of s ≡ i → Is s) → HasState table i Is
  state_of i Is at so =
      let there = is.each i (subst (λ n. i < n) is.count at) in
      record { state = there.0; valid = there.1; number = there.2; so = so there.0 there.1 there.2 }

  IsDistance-state : (s : table.State) (i d : ℕ) → table.space.IsValid s → table.number_of s ≡ i
      → IsDistance table.space.after table.space.IsGoal s d ↔ IsDistance (moved line.coordinate) (IsGoal line.coordinate) i d
  IsDistance-state s i d valid here =
      subst (λ k. IsDistance table.space.after table.space.IsGoal s d ↔ IsDistance (moved line.coordinate) (IsGoal line.coordinate) k d) here
      (finds_the_same.distances s d valid)

  LeadsTo-state : (s : table.State) (i : ℕ) (w : List ℕ) → table.space.IsValid s → table.number_of s ≡ i
      → LeadsTo table.space.after table.space.IsGoal s w ↔ LeadsTo (moved line.coordinate) (IsGoal line.coordinate) i w
  LeadsTo-state s i w valid here =
      subst (λ k. LeadsTo table.space.after table.space.IsGoal s w ↔ LeadsTo (moved line.coordinate) (IsGoal line.coordinate) k w) here
      (finds_the_same.words s w valid)

  -- a position is as far from a goal as the states with its number
  pub IsAtDistance-states : (i d : ℕ) → IsAtDistance (by_positions line) i d → IsAtDistance table i d
  IsAtDistance-states i d h =
      state_of i (λ s. IsDistance table.space.after table.space.IsGoal s d) (subst (λ k. k < line.coordinate.count) h.number h.valid)
      (λ s valid here. (IsDistance-state s i d valid here).1
      (subst (λ k. IsDistance (moved line.coordinate) (IsGoal line.coordinate) k d) h.number h.so))

  pub IsAtDistance-positions : (i d : ℕ) → IsAtDistance table i d → IsAtDistance (by_positions line) i d
  IsAtDistance-positions i d h = record {
    state = i;
    valid = position h.state i h.valid h.number;
    number = refl;
    so = (IsDistance-state h.state i d h.valid h.number).0 h.so;
  }

  -- a gap is one, and the first is the first
  HasGap-position : (i : ℕ) → IsGap line.coordinate line.bound i → HasGap table i
  HasGap-position i gap =
      state_of i (λ s. (w : List ℕ) → LeadsTo table.space.after table.space.IsGoal s w → table.bound < length w) gap.position
      (λ s valid here w leads.
      subst (λ most. most < length w) is.bound (gap.none w ((LeadsTo-state s i w valid here).0 leads)))

  IsGap-state : (i : ℕ) → HasGap table i → IsGap line.coordinate line.bound i
  IsGap-state i gap = record {
    position = position gap.state i gap.valid gap.number;
    none = λ w leads.
        subst (λ most. most < length w) (sym is.bound) (gap.so w ((LeadsTo-state gap.state i w gap.valid gap.number).1 leads));
  }

  pub HasFirstGap-position : (i : ℕ) → IsFirstGap line.coordinate line.bound i → HasFirstGap table i
  HasFirstGap-position i first = record {
    gap = HasGap-position i first.gap;
    none_before = λ earlier lt gap. first.none_before earlier lt (IsGap-state earlier gap);
  }

  pub IsWhole-line : HasNoGap line → IsWhole table
  IsWhole-line none i gap = none i (IsGap-state i gap)

  -- it makes no difference of which state with a number something is said
  SeesAlike-line : SeesAlike table
  SeesAlike-line = record {
    below = λ s valid. subst (λ n. table.number_of s < n) is.count (is.follows.valid s valid);
    each = is.each;
    words = λ s r w valid valid_too same.
        let one = LeadsTo-state s (table.number_of r) w valid same in
        let other = LeadsTo-state r (table.number_of r) w valid_too refl in
        (λ h. other.1 (one.0 h), λ h. one.1 (other.0 h));
    distances = λ s r d valid valid_too same.
        let one = IsDistance-state s (table.number_of r) d valid same in
        let other = IsDistance-state r (table.number_of r) d valid_too refl in
        (λ h. other.1 (one.0 h), λ h. one.1 (other.0 h));
  }

-- ---- tables one after another

pub AreWhole-lines : (tables : List SearchTable) (lines : List TableLine) → AreLinesOf tables lines → All HasNoGap lines
    → AreWhole tables
AreWhole-lines [] lines are none = tt
AreWhole-lines (table ∷ tables) [] are none = absurd are
AreWhole-lines (table ∷ tables) (line ∷ lines) are none = (
  IsWhole-line table line are.0 (All-head HasNoGap line lines none),
  AreWhole-lines tables lines are.1 (All-tail HasNoGap line lines none),
)

pub EachSeesAlike-lines : (tables : List SearchTable) (lines : List TableLine) → AreLinesOf tables lines
    → EachSeesAlike tables
EachSeesAlike-lines [] lines are = tt
EachSeesAlike-lines (table ∷ tables) [] are = absurd are
EachSeesAlike-lines (table ∷ tables) (line ∷ lines) are = (SeesAlike-line table line are.0, EachSeesAlike-lines tables lines are.1)

-- the first gap behind lines whose tables have none
first_gap : (tables : List SearchTable) (before : List TableLine) (line : TableLine) (behind : List TableLine) (name : TableName) (i : ℕ)
    → AreLinesOf tables (before ++ line ∷ behind) → All HasNoGap before → line.name ≡ name
    → IsFirstGap line.coordinate line.bound i → IsFirstGapAmong tables name i
first_gap [] [] line behind name i are none named gap = absurd are
first_gap [] (first ∷ before) line behind name i are none named gap = absurd are
first_gap (table ∷ tables) [] line behind name i are none named gap =
    inl (sym are.0.name ∙ named, HasFirstGap-position table line are.0 i gap)
first_gap (table ∷ tables) (first ∷ before) line behind name i are none named gap = inr (
  IsWhole-line table first are.0 (All-head HasNoGap first before none),
  first_gap tables before line behind name i are.1 (All-tail HasNoGap first before none) named gap,
)

-- the cause of some lines is that of their tables
pub IsCauseAmong-lines : (tables : List SearchTable) (lines : List TableLine) (fault : BuildFault)
    → AreLinesOf tables lines → IsCauseOf lines fault → IsCauseAmong tables fault
IsCauseAmong-lines [] [] NoMemory are cause = absurd (cause refl)
IsCauseAmong-lines [] (line ∷ lines) NoMemory are cause = absurd are
IsCauseAmong-lines (table ∷ tables) lines NoMemory are cause = omega arith
IsCauseAmong-lines tables lines (Gap name i) are cause =
    first_gap tables cause.before cause.line cause.behind name i (subst (AreLinesOf tables) cause.in_order are) cause.no_gaps cause.named cause.gap

-- ---- the cause of some tables among others

-- the first gap of the first tables is that of all
first-before : (tables more : List SearchTable) (name : TableName) (i : ℕ) → IsFirstGapAmong tables name i
    → IsFirstGapAmong (tables ++ more) name i
first-before [] more name i gap = absurd gap
first-before (table ∷ tables) more name i (inl here) = inl here
first-before (table ∷ tables) more name i (inr later) = inr (later.0, first-before tables more name i later.1)

-- and so is the cause
pub IsCauseAmong-before : (tables more : List SearchTable) (fault : BuildFault) → IsCauseAmong tables fault
    → IsCauseAmong (tables ++ more) fault
IsCauseAmong-before tables more NoMemory cause = omega (arith, cause, length-append tables more)
IsCauseAmong-before tables more (Gap name i) cause = first-before tables more name i cause

-- and behind tables that have no gap so is that of the others
first-behind : (built tables : List SearchTable) (name : TableName) (i : ℕ) → AreWhole built
    → IsFirstGapAmong tables name i → IsFirstGapAmong (built ++ tables) name i
first-behind [] tables name i whole gap = gap
first-behind (table ∷ built) tables name i whole gap = inr (whole.0, first-behind built tables name i whole.1 gap)

pub IsCauseAmong-behind : (built tables : List SearchTable) (fault : BuildFault) → AreWhole built
    → IsCauseAmong tables fault → IsCauseAmong (built ++ tables) fault
IsCauseAmong-behind built tables NoMemory whole cause = omega (arith, cause, length-append built tables)
IsCauseAmong-behind built tables (Gap name i) whole cause = first-behind built tables name i whole cause

pub AreWhole-append : (tables more : List SearchTable) → AreWhole tables → AreWhole more → AreWhole (tables ++ more)
AreWhole-append [] more whole rest = rest
AreWhole-append (table ∷ tables) more whole rest = (whole.0, AreWhole-append tables more whole.1 rest)

pub AreLinesOf-append : (tables more : List SearchTable) (lines others : List TableLine) → AreLinesOf tables lines
    → AreLinesOf more others → AreLinesOf (tables ++ more) (lines ++ others)
AreLinesOf-append [] more [] others are rest = rest
AreLinesOf-append [] more (line ∷ lines) others are rest = absurd are
AreLinesOf-append (table ∷ tables) more [] others are rest = absurd are
AreLinesOf-append (table ∷ tables) more (line ∷ lines) others are rest =
    (are.0, AreLinesOf-append tables more lines others are.1 rest)
