-- What a line comes to, by what it is.
use Rattle.std.proofs.Common.{◌≡◌, ℕ, ◌<◌, ◌≤◌, ◌≢◌, Bool, true, false, cond, List, [], ◌∷◌, ◌++◌, drop, length, Option, Some, None, Result, Ok, Err, refl, sym, ap, ◌∙◌, subst, arith, lit<}
use Rattle.std.specs.Prelude.{All, codes, nat_lt, ok_or, option_to_list, slice_get, bytes_eq}
use Rattle.std.specs.Fmt.{decimal}
use Rattle.std.proofs.lemmas.List.Elements.{All-cons, All-nil, All-append}
use Rattle.std.proofs.lemmas.Slice.Eq.{bytes_eq-Decides}
use borrow.Author.Tests.{ltb-true, ltb-false}
use Rattle.scr_notation.specs.declared.event.Event.{Event}
use Rattle.scr_notation.specs.declared.event.Minima.{Minima}
use Rattle.scr_notation.specs.Event.{id_of, minima_of, greatest_in}
use Rattle.scr_text.specs.Numbers.{number_between}
use Rattle.scr_text.specs.Steps.{and_then}
use Rattle.scr_list.specs.declared.round.Round.{Round}
use Rattle.scr_list.specs.declared.fault.ListCause.{ListCause}
use Rattle.scr_list.specs.declared.fault.ListCause.TheVariants as cause
use Rattle.scr_list.specs.Events.{event_named}
use Rattle.scr_list.specs.Names.{name_in}
use Rattle.scr_list.specs.Rounds.{least_of, round_name, named_round, placed_round, round_of_words}
use Rattle.scr_text_laws.specs.ListFaults.{IsSkipped, SetsMinimum, GivesName, NamesRound, Applies, IsAtFault, causes}
use Rattle.scr_list.proofs.EventLemmas.{id-IsId, event_named-id, event_named-is}
use Rattle.scr_text_laws.proofs.PrintedLemmas.{number_between-decimal}
use Rattle.scr_list.proofs.RoundFacts.{number_between-is}

-- what a line comes to, before which so many rounds stand
abbrev pub LineTells : ℕ → ℕ → List (List ℕ) → Option (List ℕ) → Result (Option Round) ListCause → Type 0
LineTells most before words behind (Ok None) = IsSkipped words behind
LineTells most before words behind (Ok (Some round)) = NamesRound words behind round × (before < most)
LineTells most before words behind (Err why) = IsAtFault most before words behind why

-- ---- the parts of a line

-- a third word, read, and what it sets
sets-is : (minima : Option Minima) (word : Option (List ℕ)) (least : ℕ) → greatest_in minima ≤ 15
    → least_of minima word ≡ Some least → SetsMinimum minima least (option_to_list word)
sets-is minima None least range is = cc
sets-is None (Some word) least range is = cc
sets-is (Some minima) (Some word) least range is =
    let it = number_between-is 0 minima.greatest word least (omega arith) is in (it.2, it.1)

pub sets-read : (minima : Option Minima) (word : Option (List ℕ)) (least : ℕ) → greatest_in minima ≤ 15
    → SetsMinimum minima least (option_to_list word) → least_of minima word ≡ Some least
sets-read minima None least range sets = cc
sets-read None (Some word) least range sets = absurd sets
sets-read (Some minima) (Some word) least range sets = grind (arith, number_between-decimal)

-- what follows a colon, read, and the name that it gives
gives-is : (behind : Option (List ℕ)) (name : List ℕ) → round_name behind ≡ Some name → GivesName behind name
unfolding name_in
gives-is None name is = cc
gives-is (Some text) name is = grind arith

pub gives-read : (behind : Option (List ℕ)) (name : List ℕ) → GivesName behind name → round_name behind ≡ Some name
unfolding name_in
gives-read None name gives = ap Some (sym gives)
gives-read (Some text) name gives = grind arith

-- ---- a line of two words or three

none-some : {X : Type 0} {o : Option X} {x : X} → o ≡ None → o ≡ Some x → ⊥
none-some none some = cc

module _ (most before : ℕ) (behind : Option (List ℕ)) (event groups : List ℕ) (third : Option (List ℕ)) where
  abbrev words : List (List ℕ)
  words = event ∷ groups ∷ option_to_list third

  abbrev Holds : ListCause → Type 0
  Holds why = Applies most before words behind why

  abbrev Fails : ListCause → Type 0
  Fails why = Holds why → ⊥

  two_or_three : (o : Option (List ℕ)) → (length (event ∷ groups ∷ option_to_list o) ≢ 2)
      × (length (event ∷ groups ∷ option_to_list o) ≢ 3) → ⊥
  two_or_three None not = not.0 refl
  two_or_three (Some word) not = not.1 refl

  some_words : IsSkipped words behind → ⊥
  some_words skipped = let none = skipped.0 in cc

  -- one that doesn't apply, behind others
  and_fails : (earlier : List ListCause) (why : ListCause) → All Fails earlier → Fails why → All Fails (earlier ++ why ∷ [])
  and_fails earlier why all fails = All-append Fails earlier (why ∷ []) all (All-cons Fails why [] fails (All-nil Fails))

  fails_words : All Fails (cause.Words ∷ [])
  fails_words = and_fails [] cause.Words (All-nil Fails) (two_or_three third)

  -- the first that applies
  tells : (earlier : List ListCause) (why : ListCause) (later : List ListCause) → causes ≡ earlier ++ why ∷ later
      → All Fails earlier → Holds why → IsAtFault most before words behind why
  tells earlier why later order first is = grind (arith, some_words)

  module _ (not_444 : Fails cause.No444) where
    fails_444 : All Fails (cause.Words ∷ cause.No444 ∷ [])
    fails_444 = and_fails (cause.Words ∷ []) cause.No444 fails_words not_444

    module _ (known : Fails cause.Event) where
      fails_event : All Fails (cause.Words ∷ cause.No444 ∷ cause.Event ∷ [])
      fails_event = and_fails (cause.Words ∷ cause.No444 ∷ []) cause.Event fails_444 known

      module _ (grouped : Fails cause.Groups) where
        fails_groups : All Fails (cause.Words ∷ cause.No444 ∷ cause.Event ∷ cause.Groups ∷ [])
        fails_groups = and_fails (cause.Words ∷ cause.No444 ∷ cause.Event ∷ []) cause.Groups fails_event grouped

        module _ (set : Fails cause.Minimum) where
          fails_minimum : All Fails (cause.Words ∷ cause.No444 ∷ cause.Event ∷ cause.Groups ∷ cause.Minimum ∷ [])
          fails_minimum = and_fails (cause.Words ∷ cause.No444 ∷ cause.Event ∷ cause.Groups ∷ []) cause.Minimum fails_groups set

  -- a round's parts, each of which was read
  abbrev Tells : Result (Option Round) ListCause → Type 0
  Tells answer = LineTells most before words behind answer

  -- ---- and what they are, one after another

  abbrev with_name : Event → ℕ → ℕ → Option (List ℕ) → Result Round ListCause
  with_name e g m o = and_then (ok_or o cause.Name) (λ n. Ok (record { event = e; groups = g; least = m; name = n }))

  abbrev with_least : Event → ℕ → Option ℕ → Result Round ListCause
  with_least e g o = and_then (ok_or o cause.Minimum) (λ m. with_name e g m (round_name behind))

  abbrev with_groups : Event → Option ℕ → Result Round ListCause
  with_groups e o = and_then (ok_or o cause.Groups) (λ g. with_least e g (least_of (minima_of e) third))

  abbrev with_event : Option Event → Result Round ListCause
  with_event o = and_then (ok_or o cause.Event) (λ e. with_groups e (number_between 1 26 groups))

  module _ (not_444 : Fails cause.No444) where
    module _ (e : Event) (event_is : id_of e ≡ event) where
      known : Fails cause.Event
      known never = never e (ap Some (sym event_is))

      module _ (g : ℕ) (range : (1 ≤ g) × (g ≤ 26) × (groups ≡ decimal g)) where
        grouped : Fails cause.Groups
        grouped never = never g range.0 range.1 (ap Some range.2)

        module _ (m : ℕ) (sets : SetsMinimum (minima_of e) m (option_to_list third)) where
          set : Fails cause.Minimum
          set never = never e m (ap Some (sym event_is)) sets

          placed-tells : (n : List ℕ) → GivesName behind n → (b : Bool) → nat_lt before most ≡ b
              → Tells (cond b (Ok (Some (record { event = e; groups = g; least = m; name = n }))) (Err cause.Rounds))
          placed-tells n gives true low = grind (arith, ltb-true)
          placed-tells n gives false full =
              tells (cause.Words ∷ cause.No444 ∷ cause.Event ∷ cause.Groups ∷ cause.Minimum ∷ cause.Name ∷ []) cause.Rounds [] refl
              (and_fails (cause.Words ∷ cause.No444 ∷ cause.Event ∷ cause.Groups ∷ cause.Minimum ∷ []) cause.Name (fails_minimum not_444 known grouped set) (λ never. never n gives)) (ltb-false before most full)

          name-tells : (o : Option (List ℕ)) → round_name behind ≡ o → Tells (placed_round most before (with_name e g m o))
          name-tells None is =
              tells (cause.Words ∷ cause.No444 ∷ cause.Event ∷ cause.Groups ∷ cause.Minimum ∷ []) cause.Name _ refl (fails_minimum not_444 known grouped set) (λ n gives. none-some is (gives-read behind n gives))
          name-tells (Some n) is = placed-tells n (gives-is behind n is) (nat_lt before most) refl

        -- the event that a first word names is the only one
        only-event : (other : Event) → slice_get words 0 ≡ Some (id_of other) → other ≡ e
        only-event other is = grind (arith, event_named-id)

        least-tells : (o : Option ℕ) → least_of (minima_of e) third ≡ o → Tells (placed_round most before (with_least e g o))
        least-tells None is = tells (cause.Words ∷ cause.No444 ∷ cause.Event ∷ cause.Groups ∷ []) cause.Minimum _ refl (fails_groups not_444 known grouped) (λ other m there sets.
            none-some is (sets-read (minima_of e) third m (id-IsId e).range
            (subst (λ x. SetsMinimum (minima_of x) m (option_to_list third)) (only-event other there) sets)))
        least-tells (Some m) is = grind (arith, name-tells, sets-is, id-IsId)

      groups-tells : (o : Option ℕ) → number_between 1 26 groups ≡ o → Tells (placed_round most before (with_groups e o))
      groups-tells None is = tells (cause.Words ∷ cause.No444 ∷ cause.Event ∷ []) cause.Groups _ refl (fails_event not_444 known) (λ g some few there.
          let same : groups ≡ decimal g = cc in
          none-some is (ap (number_between 1 26) same ∙ number_between-decimal 1 26 g (omega arith) some few))
      groups-tells (Some g) is = least-tells g (number_between-is 1 26 groups g (lit< tt) is) (least_of (minima_of e) third) refl

    event-tells : (o : Option Event) → event_named event ≡ o → Tells (placed_round most before (with_event o))
    event-tells None is = tells (cause.Words ∷ cause.No444 ∷ []) cause.Event _ refl (fails_444 not_444) (λ e there.
        let same : event ≡ id_of e = cc in none-some is (ap event_named same ∙ event_named-id e))
    event-tells (Some e) is = groups-tells e (event_named-is event e is) (number_between 1 26 groups) refl

  named-tells : Tells (placed_round most before (named_round event groups third behind))
  named-tells = at (bytes_eq event (codes "444")) refl
    where
      at : (b : Bool) → bytes_eq event (codes "444") ≡ b
          → Tells (placed_round most before (cond b (Err cause.No444) (with_event (event_named event))))
      at true is = tells (cause.Words ∷ []) cause.No444 _ refl fails_words (ap Some ((bytes_eq-Decides event (codes "444")).0 is))
      at false is = event-tells (λ there.
          let same : event ≡ codes "444" = cc in
          let test = (bytes_eq-Decides event (codes "444")).1 same in cc) (event_named event) refl

-- ---- any line

tells-words : (most before : ℕ) (words : List (List ℕ)) (behind : Option (List ℕ)) → (IsSkipped words behind → ⊥)
    → length words ≢ 2 → length words ≢ 3 → IsAtFault most before words behind cause.Words
tells-words most before words behind some not_2 not_3 =
    record { some = some; earlier = []; later = drop 1 causes; order = refl; first = All-nil _; applies = (not_2, not_3) }

pub line-tells : (most before : ℕ) (behind : Option (List ℕ)) (words : List (List ℕ))
    → LineTells most before words behind (round_of_words most before behind words)
unfolding round_of_words
line-tells most before None [] = (refl, refl)
line-tells most before (Some text) [] = grind (arith, tells-words)
line-tells most before behind (event ∷ []) = grind (arith, tells-words)
line-tells most before behind (event ∷ groups ∷ []) = named-tells most before behind event groups None
line-tells most before behind (event ∷ groups ∷ least ∷ []) = named-tells most before behind event groups (Some least)
line-tells most before behind (event ∷ groups ∷ least ∷ more ∷ others) = grind (arith, tells-words)
