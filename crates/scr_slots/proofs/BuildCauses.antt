-- What the events of a list have to do with their tables and the lines of these, family by family.
use Rattle.std.proofs.Common.{◌≡◌, ℕ, zero, suc, Bool, true, false, ◌||◌, List, [], ◌∷◌, Option, Some, None, refl, ap, ◌∙◌, sym, subst, arith, cond, inl, inr, map, take, length, get_or, ◌+◌, ◌<◌, ◌++◌, ◌↔◌, ◌⊎◌}
use Rattle.std.proofs.Math.Seq.{take-length}
use Rattle.std.proofs.lemmas.List.{take_more, map-append, length-map}
use Rattle.std.proofs.Math.ListN.{get_or-map}
use Rattle.std.proofs.lemmas.List.Elements.{All-map, Contains-append_left, Contains-push, Contains-push_cases}
use Rattle.std.proofs.lemmas.List.Folds.{list_any_none, list_any_at}
use Rattle.std.specs.Prelude.{All, Contains, IfErr, IsErrAnd, IsSome, IsTrue, Result}
use Rattle.std.specs.Option.{option_to_list}
use Rattle.scr_notation.specs.declared.event.Event.{Event}
use Rattle.scr_notation.specs.EventSets.{Has}
use Rattle.scr_list.specs.declared.round.Round.{Round}
use Rattle.scr_notation.specs.declared.event.Family.{Family}
use Rattle.scr_notation.specs.declared.event.Family.TheVariants.{Cube222, Cube333, Pyraminx, Skewb, Square1}
use Rattle.scr_notation.specs.Event.{family_of}
use Rattle.scr_table.specs.Distances.{Distances}
use Rattle.scr_table.specs.Lines.{AreTablesOf, HasNoGap}
use Rattle.scr_table.specs.Causes.{IsCauseOf}
use Rattle.scr_table.specs.declared.fault.BuildFault.{BuildFault}
use Rattle.scr_table.specs.SearchTables.{SearchTable, IsCauseAmong}
use Rattle.scr_table.specs.TableStates.{AreWhole, all_by_positions}
use Rattle.scr_table.proofs.LineLaws.{IfErr-handed}
use Rattle.scr_table.proofs.TableStatesLaws.{AreWhole-append, AreWhole-lines, IsCauseAmong-before, IsCauseAmong-behind, IsCauseAmong-lines}
use Rattle.scr_table_text.specs.Counted.{WritesTables}
use Rattle.scr_table_text.proofs.StateTexts.{IsTablesText-states}
use Rattle.scr_outside.specs.Change.{Change}
use Rattle.scr_small.specs.Tables.{BuiltTable, IsBuilt, small_line, small_lines}
use Rattle.scr_slots.specs.TableLines.{family_lines}
use Rattle.scr_slots.specs.Families.{HoldsTables, own_event}
use Rattle.scr_slots.specs.Tables.{is_family, asks_for, family_tables, tables_asked, tables_for}
use Rattle.scr_slots.proofs.FamilyLaws.{AreLinesOf-family}

-- ---- which families are asked for

is_family-same : (family : Family) → IsTrue (is_family family (Some family))
is_family-same Cube222 = refl
is_family-same Cube333 = refl
is_family-same Pyraminx = refl
is_family-same Skewb = refl
is_family-same Square1 = refl

or_behind : (a b : Bool) → IsTrue b → IsTrue (a || b)
or_behind true b h = refl
or_behind false b h = h

-- an event asks for its family
pub asks_for-event : (events : List Event) (family : Family) (event : Event) → Contains events event
    → family_of event ≡ Some family → IsTrue (asks_for events family)
asks_for-event [] family event there of_family = absurd (omega (arith, there.1))
asks_for-event (first ∷ events) family event (zero, inside, is) of_family =
    let same : family_of first ≡ Some family = ap family_of is ∙ of_family in
    ap (λ b. b || asks_for events family) (subst (λ f. IsTrue (is_family family f)) (sym same) (is_family-same family))
asks_for-event (first ∷ events) family event (suc k, inside, is) of_family =
    or_behind (is_family family (family_of first)) (asks_for events family)
    (asks_for-event events family event (k, omega (arith, inside), is) of_family)

-- the events of rounds
abbrev pub event_list : List Round → List Event
event_list = map (λ round. round.event)

-- none of these rounds asks for a family
abbrev pub AsksNot : Family → Round → Type 0
AsksNot family round = is_family family (family_of round.event) ≡ false

pub asks_for-none : (rounds : List Round) (family : Family) (n : ℕ) → n ≡ length rounds
    → All (AsksNot family) (take n rounds) → asks_for (event_list rounds) family ≡ false
asks_for-none rounds family n size none =
    let whole : take n rounds ≡ rounds = ap (λ i. take i rounds) size ∙ take-length rounds in
    list_any_none (λ (event : Event). is_family family (family_of event)) (event_list rounds)
    (All-map (λ (event : Event). is_family family (family_of event) ≡ false) (λ (round : Round). round.event) rounds
    (subst (All (AsksNot family)) whole none))

-- and one does
pub asks_for-at : (rounds : List Round) (family : Family) (i : ℕ) (d : Round) → i < length rounds
    → is_family family (family_of (get_or rounds i d).event) ≡ true → asks_for (event_list rounds) family ≡ true
asks_for-at rounds family i d there asks =
    let size = length-map rounds (λ (round : Round). round.event) in
    let asks_of : Event → Bool = λ event. is_family family (family_of event) in
    list_any_at asks_of (event_list rounds) i d.event (omega (arith, size)) (ap asks_of (get_or-map (λ (round : Round). round.event) rounds i d) ∙ asks)

-- ---- the set of the events of rounds

-- one more round
pub events-more : (rounds : List Round) (i : ℕ) (d : Round) (before after : List Bool) → i < length rounds
    → ((event : Event) → Has before event ↔ Contains (event_list (take i rounds)) event)
    → ((event : Event) → Has after event ↔ (Has before event ⊎ (event ≡ (get_or rounds i d).event)))
    → (event : Event) → Has after event ↔ Contains (event_list (take (i + 1) rounds)) event
events-more rounds i d before after there held inserted event =
    let events = event_list (take i rounds) in
    let next = (get_or rounds i d).event in
    let more : event_list (take (i + 1) rounds) ≡ events ++ next ∷ [] =
    ap event_list (take_more rounds i d there) ∙ map-append (λ (round : Round). round.event) (take i rounds) (get_or rounds i d ∷ []) in
    let P : List Event → Type 0 = λ all. Contains all event in (
      λ has.
          subst P (sym more)
          (elim ((inserted event).0 has) [
            | inl old ↦ Contains-append_left events (next ∷ []) event ((held event).0 old)
            | inr is ↦ subst (Contains (events ++ next ∷ [])) (sym is) (Contains-push events next)
          ]),
      λ among.
          (inserted event).1
          (elim (Contains-push_cases events next event (subst P more among)) [
            | inl old ↦ inl ((held event).1 old)
            | inr is ↦ inr (sym is)
          ]),
    )

-- all rounds
pub events-all : (rounds : List Round) (n : ℕ) (set : List Bool) → n ≡ length rounds
    → ((event : Event) → Has set event ↔ Contains (event_list (take n rounds)) event)
    → (event : Event) → Has set event ↔ Contains (event_list rounds) event
events-all rounds n set size held =
    let whole : take n rounds ≡ rounds = ap (λ i. take i rounds) size ∙ take-length rounds in
    let P : List Round → Type 0 = λ all. (event : Event) → Has set event ↔ Contains (event_list all) event in
    subst P whole held

-- where a set has the events that ask for a family, its tables are there that are built where one asks
pub HoldsTables-asked : {Built : Type 0} (events : List Event) (set : List Bool) (family : Family) (tables : Option Built)
    → ((event : Event) → Has set event ↔ Contains events event) → (IsTrue (asks_for events family) → IsSome tables)
    → HoldsTables set family tables
HoldsTables-asked events set family tables same built has =
    built (asks_for-event events family has.event ((same has.event).0 has.has) has.of_family)

-- ---- the tables of the families that are asked for

tables_asked-of : (events : List Event) (family : Family) → IsTrue (asks_for events family)
    → tables_asked events family ≡ family_tables family
tables_asked-of events family asked = ap (λ b. cond b (family_tables family) []) asked

pub whole-unasked : (events : List Event) (family : Family) → asks_for events family ≡ false
    → AreWhole (tables_asked events family)
whole-unasked events family unasked =
    let none : tables_asked events family ≡ [] = ap (λ b. cond b (family_tables family) []) unasked in
    subst AreWhole (sym none) tt

-- what is so of the lines of such a family is so of its tables
pub whole-asked : (events : List Event) (family : Family) → IsTrue (asks_for events family)
    → All HasNoGap (family_lines family) → AreWhole (tables_asked events family)
whole-asked events family asked none =
    subst AreWhole (sym (tables_asked-of events family asked))
    (AreWhole-lines (family_tables family) (family_lines family) (AreLinesOf-family family) none)

pub cause-asked : (events : List Event) (family : Family) (why : BuildFault) → IsTrue (asks_for events family)
    → IsCauseOf (family_lines family) why → IsCauseAmong (tables_asked events family) why
cause-asked events family why asked cause =
    subst (λ tables. IsCauseAmong tables why) (sym (tables_asked-of events family asked))
    (IsCauseAmong-lines (family_tables family) (family_lines family) why (AreLinesOf-family family) cause)

-- the line of a family that one table solves
pub small-lines : (family : Family) → IsSome (small_line (own_event family)) → small_lines (own_event family) ≡ family_lines family
unfolding family_lines
small-lines Cube222 some = refl
small-lines Cube333 some = absurd (cc)
small-lines Pyraminx some = refl
small-lines Skewb some = refl
small-lines Square1 some = absurd (cc)

-- the one table of a family is that of its lines
pub small-are : (family : Family) (built : BuiltTable) (table : Distances) → table ≡ built.distances → IsBuilt built
    → built.event ≡ own_event family → AreTablesOf (family_lines family) (table ∷ [])
small-are family built table same is own =
    let of_event : small_line (own_event family) ≡ Some is.line = ap small_line (sym own) ∙ is.of_event in
    let line : is.line ∷ [] ≡ family_lines family = ap option_to_list (sym of_event) ∙ small-lines family (cc) in
    subst (λ t. AreTablesOf (family_lines family) (t ∷ [])) (sym same)
    (subst (λ lines. AreTablesOf lines (built.distances ∷ [])) line (is.table, tt))

-- one event needs the tables of its family
tables_for-one : (event : Event) (family : Family) → family_of event ≡ Some family
    → tables_for (event ∷ []) ≡ family_tables family
unfolding family_tables
tables_for-one event Cube222 is = rw is refl
tables_for-one event Cube333 is = rw is refl
tables_for-one event Pyraminx is = rw is refl
tables_for-one event Skewb is = rw is refl
tables_for-one event Square1 is = rw is refl

pub tables_for-none : (event : Event) → family_of event ≡ None → tables_for (event ∷ []) ≡ []
tables_for-none event is = rw is refl

-- their texts, told by the positions of the lines, are those of the tables
pub texts-one : {E : Type 0} (event : Event) (family : Family) (change : Change) (r : Result (Unit {0}) E)
    → family_of event ≡ Some family → WritesTables (all_by_positions (family_lines family)) change r
    → WritesTables (tables_for (event ∷ [])) change r
texts-one event family change r of_family writes =
    subst (λ tables. WritesTables tables change r) (sym (tables_for-one event family of_family)) (
      writes.0,
      IsTablesText-states (family_tables family) (family_lines family) (AreLinesOf-family family) writes.0 writes.1,
      writes.2,
    )

-- ---- families whose tables are built one after another

abbrev asked_of : List Event → List Family → List SearchTable
asked_of events [] = []
asked_of events (family ∷ []) = tables_asked events family
asked_of events (family ∷ next ∷ more) = tables_asked events family ++ asked_of events (next ∷ more)

-- those of each have no gap
abbrev pub AreWholeOf : List Event → List Family → Type 0
AreWholeOf events [] = Unit {0}
AreWholeOf events (family ∷ more) = AreWhole (tables_asked events family) × AreWholeOf events more

pub AreWhole-of : (events : List Event) (families : List Family) → AreWholeOf events families
    → AreWhole (asked_of events families)
AreWhole-of events [] whole = tt
AreWhole-of events (family ∷ []) whole = whole.0
AreWhole-of events (family ∷ next ∷ more) whole =
    AreWhole-append (tables_asked events family) (asked_of events (next ∷ more)) whole.0 (AreWhole-of events (next ∷ more) whole.1)

-- The cause of those of one family is that of all, where those of the families before it have no gap,
cause-among : (events : List Event) (why : BuildFault) (before : List Family) (family : Family) (behind : List Family)
    → AreWholeOf events before → IsCauseAmong (tables_asked events family) why
    → IsCauseAmong (asked_of events (before ++ family ∷ behind)) why
cause-among events why [] family [] whole cause = cause
cause-among events why [] family (next ∷ behind) whole cause =
    IsCauseAmong-before (tables_asked events family) (asked_of events (next ∷ behind)) why cause
cause-among events why (first ∷ []) family behind whole cause =
    IsCauseAmong-behind (tables_asked events first) (asked_of events (family ∷ behind)) why whole.0
    (cause-among events why [] family behind tt cause)
cause-among events why (first ∷ second ∷ before) family behind whole cause =
    IsCauseAmong-behind (tables_asked events first) (asked_of events (second ∷ before ++ family ∷ behind)) why whole.0
    (cause-among events why (second ∷ before) family behind whole.1 cause)

-- and is handed on as such.
pub cause-handed : {A : Type 0} (events : List Event) (why : BuildFault) (r : Result A BuildFault)
    → IsErrAnd r (λ f. f ≡ why) → (before : List Family) (family : Family) (behind : List Family)
    → AreWholeOf events before → IsCauseAmong (tables_asked events family) why
    → IfErr r (IsCauseAmong (asked_of events (before ++ family ∷ behind)))
cause-handed events why r handed before family behind whole cause =
    IfErr-handed (IsCauseAmong (asked_of events (before ++ family ∷ behind))) why r handed (cause-among events why before family behind whole cause)
