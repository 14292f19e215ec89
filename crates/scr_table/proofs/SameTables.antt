-- A coordinate, and one that shows the same: the tables of the one are those of the other, and so are gaps, the causes
-- of refused builds, and first words.
use Rattle.std.proofs.Common.{ℕ, ◌<◌, List, get_or, sym, ◌∙◌, arith}
use Rattle.scr_combinatorics.specs.FirstWord.{IsFirstWord}
use Rattle.scr_positions.specs.Coordinates.{Coordinate, StaysBelow, moved, IsGoal}
use Rattle.scr_positions.specs.SearchSpaces.{positions, FindsTheSame, ShowsSame}
use Rattle.scr_positions.proofs.SearchLaws.{FindsTheSame-follows, Follows-same}
use Rattle.scr_table.specs.declared.name.TableName.{TableName}
use Rattle.scr_table.specs.declared.fault.BuildFault.{BuildFault}
use Rattle.scr_table.specs.declared.fault.BuildFault.TheVariants.{NoMemory, Gap}
use Rattle.scr_table.specs.Causes.{IsCause}
use Rattle.scr_table.specs.Distances.{Distances, Measures, IsGap, IsFirstGap}

pub StaysBelow-shown : (c shown : Coordinate) → ShowsSame c shown → StaysBelow c → StaysBelow shown
StaysBelow-shown c shown same below p t q at turn leads =
    let at_c : p < c.count = omega (arith, at, same.count) in
    let turn_c : t < c.turns = omega (arith, turn, same.turns) in
    let q_below : q < c.count = below p t q at_c turn_c (sym (same.after p t at_c turn_c) ∙ leads) in
    omega (arith, q_below, same.count)

module _ (c shown : Coordinate) (below : StaysBelow shown) (same : ShowsSame c shown) where
  pub StaysBelow-same : StaysBelow c
  StaysBelow-same p t q at turn leads =
      let q_below : q < shown.count =
      below p t q (omega (arith, at, same.count)) (omega (arith, turn, same.turns)) (same.after p t at turn ∙ leads) in
      omega (arith, q_below, same.count)

  finds_the_same : FindsTheSame (positions c) (positions shown) (λ p. p)
  finds_the_same = FindsTheSame-follows (positions c) (positions shown) (λ p. p) (Follows-same c shown StaysBelow-same same)

  -- what measures the one measures the other
  pub Measures-same : (table : Distances) → Measures shown table → Measures c table
  Measures-same table m = record {
    positions = m.positions ∙ same.count;
    stays_below = StaysBelow-same;
    exact = λ p at. (finds_the_same.distances p (get_or table.distances p 0) at).1 (m.exact p (omega (arith, same.count)));
    within = λ p at. m.within p (omega (arith, same.count));
  }

  pub Measures-shown : (table : Distances) → Measures c table → Measures shown table
  Measures-shown table m = record {
    positions = m.positions ∙ sym same.count;
    stays_below = below;
    exact = λ p at. (finds_the_same.distances p (get_or table.distances p 0) (omega (arith, at, same.count))).0 (m.exact p (omega (arith, at, same.count)));
    within = λ p at. m.within p (omega (arith, at, same.count));
  }

  -- a gap of the one is a gap of the other
  pub IsGap-same : (bound index : ℕ) → IsGap shown bound index → IsGap c bound index
  IsGap-same bound index gap =
      let at : index < c.count = omega (arith, same.count, gap.position) in
      record {
        position = at;
        none = λ w leads. gap.none w ((finds_the_same.words index w at).0 leads);
      }

  IsGap-shown : (bound index : ℕ) → IsGap c bound index → IsGap shown bound index
  IsGap-shown bound index gap = record {
    position = omega (arith, same.count, gap.position);
    none = λ w leads. gap.none w ((finds_the_same.words index w gap.position).1 leads);
  }

  -- and the first of the one is the first of the other
  IsFirstGap-same : (bound index : ℕ) → IsFirstGap shown bound index → IsFirstGap c bound index
  IsFirstGap-same bound index first = record {
    gap = IsGap-same bound index first.gap;
    none_before = λ earlier less gap. first.none_before earlier less (IsGap-shown bound earlier gap);
  }

  -- and so is why there is no table
  pub IsCause-same : (name : TableName) (bound : ℕ) (fault : BuildFault) → IsCause name shown bound fault
      → IsCause name c bound fault
  IsCause-same name bound NoMemory cause = tt
  IsCause-same name bound (Gap table index) cause = (cause.0, IsFirstGap-same bound index cause.1)

  -- a first word of the one is one of the other
  pub IsFirstWord-same : (p : ℕ) (word : List ℕ) → p < c.count → IsFirstWord (moved shown) (IsGoal shown) p word
      → IsFirstWord (moved c) (IsGoal c) p word
  IsFirstWord-same p word at first = (finds_the_same.first_words p word at).1 first
