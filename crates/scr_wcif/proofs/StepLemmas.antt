-- A list that grows by what each of some items gives, one after another.
use Rattle.std.proofs.Common.{◌≡◌, ℕ, ◌+◌, ◌-◌, ◌≤◌, List, [], ◌∷◌, ◌++◌, map, take, drop, length, get_or, Option, Some, None, Result, Ok, Err, refl, sym, ap, subst, ◌∙◌, arith, append_assoc, Bor}
use Rattle.std.specs.Prelude.{All, codes, ok_or, option_to_list}
use Rattle.std.specs.List.{filter_map}
use Rattle.std.proofs.lemmas.List.{take_all}
use Rattle.std.proofs.lemmas.List.Elements.{All-cons, All-nil, All-append, All-tail}
use Rattle.json.specs.Json.{Json, Items, item}
use Rattle.scr_text.specs.Steps.{and_then}
use Rattle.scr_wcif.specs.declared.fault.FileFault.{FileFault}
use Rattle.scr_wcif.specs.declared.fault.FileFault.TheVariants.{NoCompetition}
use Rattle.scr_wcif.specs.Fields.{list_at}
use Rattle.scr_host.specs.declared.fault.Fault.{Fault}
use Rattle.scr_host.specs.declared.fault.Fault.TheVariants as fault
use Rattle.scr_wcif.specs.FileRound.{NamedRound}
use Rattle.scr_wcif.specs.FileRounds.{FileEvent, count_of, round_of_entry, rounds_of_entries, event_of_entry, rounds_of_events, rounds_of_file}
use Rattle.scr_host.specs.Faults.{IsOwn}
use Rattle.scr_wcif.specs.Adding.{Adds}

-- the first of some items, and the others
pub split-first : {X : Type 0} (xs : List X) (first : X) → 1 ≤ length xs → first ≡ get_or xs 0 first
    → xs ≡ first ∷ take (length xs - 1) (drop 1 xs)
split-first [] first few is = absurd (omega arith)
split-first (x ∷ xs) first few is =
    ap (λ f. f ∷ xs) (sym is) ∙ ap (λ rest. first ∷ rest) (sym (take_all (length (x ∷ xs) - 1) xs (omega arith)))

pub filter_map-step : {X Y : Type 0} (h : X → Option Y) (first : X) (rest : List X)
    → filter_map h (first ∷ rest) ≡ option_to_list (h first) ++ filter_map h rest
filter_map-step {X = X} {Y = Y} h first rest = at (h first) refl
  where
    at : (o : Option Y) → h first ≡ o → filter_map h (first ∷ rest) ≡ option_to_list (h first) ++ filter_map h rest
    at None is = rw is refl
    at (Some y) is = rw is refl

-- what holds of the items so far, and of the next
pub all-added : {X : Type 0} (P : X → Type 0) (old new : List X) (x : X) → P x → All P old → new ≡ old ++ x ∷ [] → All P new
all-added P old new x it all is = subst (All P) (sym is) (All-append P old (x ∷ []) all (All-cons P x [] it (All-nil P)))

pub all-rest : {X : Type 0} (P : X → Type 0) (xs : List X) → 1 ≤ length xs → All P xs → All P (take (length xs - 1) (drop 1 xs))
all-rest P [] some all = absurd (omega arith)
all-rest P (x ∷ xs) some all = subst (All P) (sym (take_all (length (x ∷ xs) - 1) xs (omega arith))) (All-tail P x xs all)

-- a fault of the file stands for another cause
pub for-own : {A B : FileFault → Type 0} → ((file : FileFault) → A file → B file) → (why : Fault FileFault) → IsOwn A why → IsOwn B why
for-own f fault.Usage they = they
for-own f fault.TooLong they = they
for-own f fault.Read they = they
for-own f (fault.Own file) they = f file they
for-own f fault.Write they = they
for-own f fault.NoMemory they = they

-- ---- the rounds of an event

rounds-step : (place : ℕ) (id : List ℕ) (count number : ℕ) (json : Json) (more : Items) (named : NamedRound) →
    round_of_entry place id count number json ≡ Ok named →
    rounds_of_entries place id count number (item json more)
    ≡ and_then (rounds_of_entries place id count (number + 1) more) (λ others. Ok (named ∷ others))
rounds-step place id count number json more named is =
    ap (λ (r : Result NamedRound FileFault). and_then r (λ n. and_then (rounds_of_entries place id count (number + 1) more) (λ others. Ok (n ∷ others)))) is

pub rounds-Adds : (place : ℕ) (id : List ℕ) (count number : ℕ) (json : Json) (more : Items) (named : NamedRound) (old mid new : List NamedRound) (result : Result (Unit {0}) (Fault FileFault)) →
    round_of_entry place id count number json ≡ Ok named → mid ≡ old ++ named ∷ [] → Adds (rounds_of_entries place id count (number + 1) more) mid new result →
    Adds (rounds_of_entries place id count number (item json more)) old new result
rounds-Adds place id count number json more named old mid new (Ok done) is mid_is (others, they, new_is) = (
  named ∷ others,
  rounds-step place id count number json more named is
      ∙ ap (λ (r : Result (List NamedRound) FileFault). and_then r (λ others. Ok (named ∷ others))) they,
  new_is ∙ ap (λ l. l ++ others) mid_is ∙ append_assoc old (named ∷ []) others,
)
rounds-Adds place id count number json more named old mid new (Err why) is mid_is they =
    for-own (λ file they.
    rounds-step place id count number json more named is
    ∙ ap (λ (r : Result (List NamedRound) FileFault). and_then r (λ others. Ok (named ∷ others))) they) why they

-- ---- the events

abbrev now : Bor (List ℕ) → List ℕ
now id = id.now

ids-snoc : (ids : List (Bor (List ℕ))) (id : Bor (List ℕ)) → map now (ids ++ id ∷ []) ≡ map now ids ++ id.now ∷ []
ids-snoc [] id = refl
ids-snoc (first ∷ rest) id = ap (λ l. first.now ∷ l) (ids-snoc rest id)

abbrev then_more : ℕ → List (List ℕ) → Items → FileEvent → List NamedRound → Result (List NamedRound) FileFault
then_more place before more told here =
    and_then (rounds_of_events (place + 1) (before ++ told.id ∷ []) more) (λ others. Ok (here ++ others))

abbrev then_rounds : ℕ → List (List ℕ) → Items → FileEvent → Result (List NamedRound) FileFault
then_rounds place before more told =
    and_then (rounds_of_entries place told.id (count_of told.rounds) 1 told.rounds) (then_more place before more told)

events-step : (place : ℕ) (before : List (List ℕ)) (json : Json) (more : Items) (told : FileEvent) →
    event_of_entry place before json ≡ Ok told → rounds_of_events place before (item json more) ≡ then_rounds place before more told
events-step place before json more told is = ap (λ (r : Result FileEvent FileFault). and_then r (then_rounds place before more)) is

-- the rounds of an entry are at fault
pub events-fail : (place : ℕ) (before : List (List ℕ)) (json : Json) (more : Items) (told : FileEvent) (old mid : List NamedRound) (why : Fault FileFault) →
    event_of_entry place before json ≡ Ok told → Adds (rounds_of_entries place told.id (count_of told.rounds) 1 told.rounds) old mid (Err why) →
    Adds (rounds_of_events place before (item json more)) old mid (Err why)
events-fail place before json more told old mid why is they =
    for-own (λ file they.
    events-step place before json more told is
    ∙ ap (λ (r : Result (List NamedRound) FileFault). and_then r (then_more place before more told)) they) why they

pub events-Adds : (place : ℕ) (before later : List (List ℕ)) (json : Json) (more : Items) (told : FileEvent) (old mid new : List NamedRound) (result : Result (Unit {0}) (Fault FileFault)) →
    event_of_entry place before json ≡ Ok told → Adds (rounds_of_entries place told.id (count_of told.rounds) 1 told.rounds) old mid (Ok tt) →
    later ≡ before ++ told.id ∷ [] → Adds (rounds_of_events (place + 1) later more) mid new result →
    Adds (rounds_of_events place before (item json more)) old new result
events-Adds place before later json more told old mid new result is (here, these, mid_is) later_is they =
    at result (let P : List (List ℕ) → Type 0 = λ ids. Adds (rounds_of_events (place + 1) ids more) mid new result in subst P later_is they)
  where
    first : rounds_of_events place before (item json more) ≡ then_more place before more told here
    first =
        events-step place before json more told is
        ∙ ap (λ (r : Result (List NamedRound) FileFault). and_then r (then_more place before more told)) these

    at : (r : Result (Unit {0}) (Fault FileFault)) → Adds (rounds_of_events (place + 1) (before ++ told.id ∷ []) more) mid new r
        → Adds (rounds_of_events place before (item json more)) old new r
    at (Ok done) (others, are, new_is) = (
      here ++ others,
      first ∙ ap (λ (r : Result (List NamedRound) FileFault). and_then r (λ others. Ok (here ++ others))) are,
      new_is ∙ ap (λ l. l ++ others) mid_is ∙ append_assoc old here others,
    )
    at (Err why) are =
        for-own (λ file they. first ∙ ap (λ (r : Result (List NamedRound) FileFault). and_then r (λ others. Ok (here ++ others))) they) why are

pub later-ids : (ids later : List (Bor (List ℕ))) (id : Bor (List ℕ)) → later ≡ ids ++ id ∷ []
    → map (λ (id : Bor (List ℕ)). id.now) later ≡ map (λ (id : Bor (List ℕ)). id.now) ids ++ id.now ∷ []
later-ids ids later id is = ap (map now) is ∙ ids-snoc ids id

-- ---- the whole file

pub file-rounds : (json : Json) (events : Items) → list_at (codes "events") json ≡ Some events → rounds_of_file json ≡ rounds_of_events 1 [] events
unfolding rounds_of_file
file-rounds json events there = ap (λ o. and_then (ok_or o NoCompetition) (rounds_of_events 1 [])) there

pub from-empty : (ids : List (Bor (List ℕ))) (old new : List NamedRound) (js : Items) (result : Result (Unit {0}) (Fault FileFault)) → ids ≡ [] → old ≡ [] →
    Adds (rounds_of_events 1 (map (λ (id : Bor (List ℕ)). id.now) ids) js) old new result → Adds (rounds_of_events 1 [] js) [] new result
from-empty ids old new js result none bare they =
    let P : List (Bor (List ℕ)) → Type 0 = λ xs. Adds (rounds_of_events 1 (map (λ (id : Bor (List ℕ)). id.now) xs) js) old new result in
    let Q : List NamedRound → Type 0 = λ xs. Adds (rounds_of_events 1 [] js) xs new result in
    subst Q bare (subst P none they)

pub whole-Ok : (wanted : Result (List NamedRound) FileFault) (new : List NamedRound) → Adds wanted [] new (Ok tt) → wanted ≡ Ok new
whole-Ok wanted new (added, is, new_is) = is ∙ ap Ok (sym new_is)
