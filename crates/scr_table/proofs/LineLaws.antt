-- What is so of the lines of tables that are built one after another.
use Rattle.std.proofs.Common.{◌≡◌, ℕ, zero, suc, List, [], ◌∷◌, ◌++◌, append_assoc, refl, ap, ◌∙◌, subst, sym, arith}
use Rattle.std.proofs.Math.Logic.{∥∥₁_elim}
use Rattle.std.proofs.lemmas.List.Elements.{All-append, All-nil, All-cons}
use Rattle.std.specs.Prelude.{All, Contains, Result, Ok, Err, IfErr, IsErrAnd}
use Rattle.scr_positions.specs.Coordinates.{Coordinate}
use Rattle.scr_table.specs.declared.fault.BuildFault.{BuildFault}
use Rattle.scr_table.specs.declared.fault.BuildFault.TheVariants.{NoMemory, Gap}
use Rattle.scr_table.specs.Causes.{IsCause, IsCauseOf}
use Rattle.scr_table.specs.Distances.{Distances, Measures, IsGap}
use Rattle.scr_table.specs.Lines.{TableLine, HasNoGap, IsTableOf, AreTablesOf}

-- ---- built tables have no gap

Measures-no_gap : (c : Coordinate) (table : Distances) → Measures c table → (index : ℕ) → IsGap c table.bound index → ⊥
Measures-no_gap c table m index gap =
    ∥∥₁_elim (m.exact index gap.position).reached (hlevel)
    (λ word. omega (arith, gap.none word.0 word.1, word.2, m.within index gap.position))

pub no_gap : (line : TableLine) (table : Distances) → IsTableOf line table → HasNoGap line
no_gap line table is index gap =
    Measures-no_gap line.coordinate table is.measures index
    (subst (λ bound. IsGap line.coordinate bound index) (sym is.bound) gap)

pub no_gaps-line : (line : TableLine) → HasNoGap line → All HasNoGap (line ∷ [])
no_gaps-line line none = All-cons HasNoGap line [] none (All-nil HasNoGap)

pub no_gaps : (lines : List TableLine) (tables : List Distances) → AreTablesOf lines tables → All HasNoGap lines
no_gaps [] tables are = All-nil HasNoGap
no_gaps (line ∷ lines) [] are = absurd are
no_gaps (line ∷ lines) (table ∷ tables) are =
    All-cons HasNoGap line lines (no_gap line table are.0) (no_gaps lines tables are.1)

-- ---- the cause of some lines among others

-- the cause of the first lines is that of all
pub IsCauseOf-before : (lines more : List TableLine) (fault : BuildFault) → IsCauseOf lines fault
    → IsCauseOf (lines ++ more) fault
IsCauseOf-before [] more NoMemory cause = absurd (cause refl)
IsCauseOf-before (line ∷ lines) more NoMemory cause = λ none. cc
IsCauseOf-before lines more (Gap name index) cause = record {
  before = cause.before;
  line = cause.line;
  behind = cause.behind ++ more;
  in_order = ap (λ all. all ++ more) cause.in_order ∙ append_assoc cause.before (cause.line ∷ cause.behind) more;
  no_gaps = cause.no_gaps;
  named = cause.named;
  gap = cause.gap;
}

-- and behind lines whose tables have no gap so is that of the others
pub IsCauseOf-behind : (built lines : List TableLine) (fault : BuildFault) → All HasNoGap built → IsCauseOf lines fault
    → IsCauseOf (built ++ lines) fault
IsCauseOf-behind [] lines NoMemory none cause = cause
IsCauseOf-behind (line ∷ built) lines NoMemory none cause = λ empty. cc
IsCauseOf-behind built lines (Gap name index) none cause = record {
  before = built ++ cause.before;
  line = cause.line;
  behind = cause.behind;
  in_order = ap (λ all. built ++ all) cause.in_order
      ∙ sym (append_assoc built cause.before (cause.line ∷ cause.behind));
  no_gaps = All-append HasNoGap built cause.before none cause.no_gaps;
  named = cause.named;
  gap = cause.gap;
}

-- the cause of one line
pub IsCauseOf-one : (line : TableLine) (fault : BuildFault) → IsCause line.name line.coordinate line.bound fault
    → IsCauseOf (line ∷ []) fault
IsCauseOf-one line NoMemory cause = λ none. cc
IsCauseOf-one line (Gap name index) cause = record {
  before = [];
  line = line;
  behind = [];
  in_order = refl;
  no_gaps = All-nil HasNoGap;
  named = sym cause.0;
  gap = cause.1;
}

-- ---- what a refused build hands on

-- what is so of an error is so of it where it is handed on
pub IfErr-handed : {A E : Type 0} (P : E → Type 0) (e : E) (r : Result A E) → IsErrAnd r (λ f. f ≡ e) → P e → IfErr r P
IfErr-handed P e (Ok a) h p = tt
IfErr-handed P e (Err f) h p = subst P (sym h) p

-- and so is the cause of the lines that are built behind others, which have no gap, and before more
pub IfErr-cause : {A : Type 0} (built : List TableLine) (line : TableLine) (more : List TableLine) → All HasNoGap built
    → (fault : BuildFault) (r : Result A BuildFault) → IsErrAnd r (λ f. f ≡ fault)
    → IsCause line.name line.coordinate line.bound fault → IfErr r (IsCauseOf (built ++ line ∷ more))
IfErr-cause built line more none fault r handed cause =
    IfErr-handed (IsCauseOf (built ++ line ∷ more)) fault r handed
    (IsCauseOf-behind built (line ∷ more) fault none
    (IsCauseOf-before (line ∷ []) more fault (IsCauseOf-one line fault cause)))

-- among the tables of some lines stands that of each
pub table_of_line : (lines : List TableLine) (tables : List Distances) → AreTablesOf lines tables → (line : TableLine)
    → Contains lines line → (table : Distances) × IsTableOf line table
table_of_line [] tables are line there = absurd (omega (arith, there.1))
table_of_line (first ∷ lines) [] are line there = absurd are
table_of_line (first ∷ lines) (table ∷ tables) are line (zero, inside, is) = (table, subst (λ l. IsTableOf l table) is are.0)
table_of_line (first ∷ lines) (table ∷ tables) are line (suc k, inside, is) = table_of_line lines tables are.1 line (k, omega (arith, inside), is)
