-- The turns of a Square-1 are lawful.
use Rattle.std.proofs.Common.{rules}
use Rattle.std.proofs.Common.{◌≡◌, ℕ, ◌+◌, ◌%◌, ◌<◌, Bool, true, false, IsTrue, cond, List, [], ◌∷◌, length, Option, Some, None, refl, sym, ap, ◌∙◌, subst, arith}
use Rattle.std.proofs.lemmas.Bool.Decides.{nat_tests}
use Rattle.std.specs.Prelude.{not, ℤ, pos, neg_ℤ, ◌+ℤ◌, All, nat_lt}
use Rattle.std.proofs.lemmas.Bool.{false≢true, cond-true, cond-false, ltb-true}
use Rattle.std.proofs.Math.Bool.{not-not}
use Rattle.scr_combinatorics.specs.Lists.{pick, numbers_from}
use Rattle.scr_combinatorics.specs.Permutations.{IsPermutation}
use Rattle.scr_combinatorics.proofs.Picks.{pick-pick, pick-in_order}
use Rattle.scr_combinatorics.proofs.PermutationLaws.{All-permutation, IsPermutation-numbers_from}
use Rattle.scr_combinatorics.specs.Play.{play}
use Rattle.scr_combinatorics.specs.Tidy.{word_of, IsKeptByTidy}
use Rattle.scr_combinatorics.specs.Lawful.{IsLawful}
use Rattle.scr_combinatorics.specs.Back.{IsTakenBack}
use Rattle.scr_combinatorics.specs.Reach.{IsReached}
use Rattle.scr_combinatorics.proofs.PlayLaws.{play-empty, play-one, IsReached-keeps}
use Rattle.scr_combinatorics.proofs.BackLaws.{IsTakenBack-lawful}
use Rattle.scr_combinatorics.proofs.TidyPlay.{IsKeptByTidy-lawful}
use Rattle.scr_notation.specs.declared.turn.Turn.{Turn}
use Rattle.scr_notation.specs.declared.turn.Turn.TheVariants.{Layers, Twist}
use Rattle.scr_notation.specs.declared.event.Event.TheVariants.{Sq1}
use Rattle.scr_notation.specs.Layers.{twelfths, are_still, is_layer_turn}
use Rattle.scr_notation.specs.Turning.{opposite, turn_merging}
use Rattle.scr_notation.proofs.Below.{All-from_test}
use Rattle.scr_notation.proofs.OppositeLaws.{permits-opposite}
use Rattle.scr_notation.proofs.LayersLaws.{AreTwelfths-twelfths, layers_of_parts, IsTwelfths, are_still-first, are_still-second}
use Rattle.scr_sq1.specs.Units.{Sq1State, IsSq1, is_open, solved_sq1, clockwise, turn_places, twist_places, turned, after_layers, twisted, sq1_after, sq1_puzzle}
use Rattle.scr_sq1.specs.Shapes.{half_words, half_word, corner_counts, IsShape}
use Rattle.scr_sq1.specs.Numbers.{shape_word}
use Rattle.scr_sq1.proofs.StatePieces.{LaidState-pieces}
use Rattle.scr_sq1.proofs.InHalves.{is_open-valid}
use Rattle.scr_sq1.proofs.Places.{IsTurnTable-turn, turn_places-both, turn_places-none, twist_places-twice, IsPermutation-twist_places}
use Rattle.scr_sq1.proofs.TurnLaws.{IsSq1-moved, IsSq1-twisted}
use Rattle.scr_sq1.proofs.Clockwise.{clockwise-lt, clockwise-twelfths, clockwise-sum, clockwise-back}

-- ---- what a letter makes of a state

pub record IsAfterLayers (s r : Sq1State) (x y : ℤ) : Type 0 where
  pub letter : IsTrue (is_layer_turn (Layers x y))
  pub is : r ≡ turned s x y
  pub opened : IsTrue (is_open (turned s x y).units)

some_of : {A : Type 0} (b : Bool) (x y : A) → (let o : Option A = cond b (Some x) None in o ≡ Some y)
    → IsTrue b × (y ≡ x)
some_of true x y e = (refl, cc)
some_of false x y e = absurd (cc)

of_true : {A : Type 0} (b : Bool) (o : Option A) (y : A) → (let p : Option A = cond b o None in p ≡ Some y)
    → IsTrue b × (o ≡ Some y)
of_true true o y e = (refl, e)
of_true false o y e = absurd (cc)

pub after_layers-some : (s r : Sq1State) (x y : ℤ) → after_layers s x y ≡ Some r
    → IsTrue (is_open (turned s x y).units) × (r ≡ turned s x y)
unfolding after_layers
after_layers-some s r x y e = some_of (is_open (turned s x y).units) (turned s x y) r e

pub after_layers-open : (s : Sq1State) (x y : ℤ) → IsTrue (is_open (turned s x y).units)
    → after_layers s x y ≡ Some (turned s x y)
unfolding after_layers
after_layers-open s x y opened = cond-true (is_open (turned s x y).units) _ _ opened

pub after_layers-closed : (s : Sq1State) (x y : ℤ) → is_open (turned s x y).units ≡ false → after_layers s x y ≡ None
unfolding after_layers
after_layers-closed s x y closed = cond-false (is_open (turned s x y).units) _ _ closed

pub sq1_after-layers : (s r : Sq1State) (x y : ℤ) → sq1_after s (Layers x y) ≡ Some r → IsAfterLayers s r x y
unfolding sq1_after
sq1_after-layers s r x y e =
    let outer = of_true (is_layer_turn (Layers x y)) (after_layers s x y) r e in
    let inner = after_layers-some s r x y outer.1 in
    record { letter = outer.0; is = inner.1; opened = inner.0 }

pub sq1_after-by_layers : (s : Sq1State) (x y : ℤ) → IsTrue (is_layer_turn (Layers x y))
    → IsTrue (is_open (turned s x y).units) → sq1_after s (Layers x y) ≡ Some (turned s x y)
unfolding sq1_after
sq1_after-by_layers s x y letter opened = cond-true (is_layer_turn (Layers x y)) _ _ letter ∙ after_layers-open s x y opened

pub sq1_after-twist : (s r : Sq1State) → sq1_after s Twist ≡ Some r → r ≡ twisted s
unfolding sq1_after
sq1_after-twist s r e = cc

-- the units of a state that is turned
pub units_turned : (s : Sq1State) (x y : ℤ) (n m : ℕ) (units : List ℕ) → n ≡ clockwise x → m ≡ clockwise y
    → units ≡ pick s.units (turn_places n m)
    → (let r : Sq1State = record { units = units; equator = s.equator } in r ≡ turned s x y)
unfolding turned
units_turned s x y n m units e f is = grind (arith, nat_tests)

pub IsSq1-turned : (s : Sq1State) (x y : ℤ) → IsSq1 s → IsTrue (is_open (turned s x y).units) → IsSq1 (turned s x y)
unfolding turned
IsSq1-turned s x y h opened = search (arith, rules, IsSq1-moved, IsTurnTable-turn, clockwise-lt)

-- ---- turns one after another

same_units : (us vs : List ℕ) (b : Bool) → us ≡ vs
    → (let s : Sq1State = record { units = us; equator = b } in let r : Sq1State = record { units = vs; equator = b } in s ≡ r)
same_units us vs b e = ap (λ zs. let s : Sq1State = record { units = zs; equator = b } in s) e

pub pick_nothing : (units : List ℕ) → length units ≡ 24 → pick units (numbers_from 0 24) ≡ units
pick_nothing units size = ap (λ n. pick units (numbers_from 0 n)) (sym size) ∙ pick-in_order units

-- the layers turned by these twelfths clockwise
pub turned_by : Sq1State → ℕ → ℕ → Sq1State
turned_by s n m = record { units = pick s.units (turn_places n m); equator = s.equator }

pub turned-both : (s : Sq1State) (x y z w : ℤ)
    → turned (turned s x y) z w ≡ turned_by s ((clockwise x + clockwise z) % 12) ((clockwise y + clockwise w) % 12)
unfolding turned turned_by
turned-both s x y z w =
    let p : IsPermutation 24 (turn_places (clockwise x) (clockwise y)) = (IsTurnTable-turn (clockwise x) (clockwise y) (clockwise-lt x) (clockwise-lt y)).permutation in
    let q = (IsTurnTable-turn (clockwise z) (clockwise w) (clockwise-lt z) (clockwise-lt w)).permutation in
    same_units _ _ s.equator
    (pick-pick s.units (turn_places (clockwise x) (clockwise y)) (turn_places (clockwise z) (clockwise w))
    (subst (λ n. All (λ k. k < n) (turn_places (clockwise z) (clockwise w))) (sym p.size) (All-permutation 24 (turn_places (clockwise z) (clockwise w)) q))
    ∙ ap (pick s.units) (turn_places-both (clockwise x) (clockwise y) (clockwise z) (clockwise w) (clockwise-lt x) (clockwise-lt y) (clockwise-lt z) (clockwise-lt w)))

-- the top, and then the bottom
pub turned-apart : (s : Sq1State) (x y : ℤ) → turned (turned s x (pos 0)) (pos 0) y ≡ turned s x y
unfolding turned turned_by
turned-apart s x y =
    turned-both s x (pos 0) (pos 0) y
    ∙ ap (λ n. turned_by s n ((0 + clockwise y) % 12)) {x = (clockwise x + 0) % 12} {y = clockwise x} (omega (arith, clockwise-lt x))
    ∙ ap (turned_by s (clockwise x)) {x = (0 + clockwise y) % 12} {y = clockwise y} (omega (arith, clockwise-lt y))

turned_by-none : (s : Sq1State) (n m : ℕ) → length s.units ≡ 24 → n ≡ 0 → m ≡ 0 → turned_by s n m ≡ s
unfolding turned_by
turned_by-none s n m size e f = search (arith, rules, same_units, turn_places-none, pick_nothing)

-- turned as far as two turns go together
pub turned-sum : (s : Sq1State) (x y z w : ℤ) → turned (turned s x y) z w ≡ turned s (twelfths (x +ℤ z)) (twelfths (y +ℤ w))
unfolding turned turned_by
turned-sum s x y z w = grind (arith, nat_tests, turned-both, clockwise-twelfths, clockwise-sum)

-- and back
turned-back : (s : Sq1State) (x y : ℤ) → length s.units ≡ 24
    → turned (turned s x y) (twelfths (neg_ℤ x)) (twelfths (neg_ℤ y)) ≡ s
turned-back s x y size = search (arith, rules, turned-both, turned_by-none, clockwise-back)

-- turned by nothing
pub turned-still : (s : Sq1State) (x y : ℤ) → length s.units ≡ 24 → x ≡ pos 0 → y ≡ pos 0 → turned s x y ≡ s
unfolding turned turned_by
turned-still s x y size e f = turned_by-none s (clockwise x) (clockwise y) size (ap clockwise e) (ap clockwise f)

pub twisted-twice : (s : Sq1State) → length s.units ≡ 24 → twisted (twisted s) ≡ s
unfolding twisted
twisted-twice s size =
    let p = IsPermutation-twist_places in
    ap (λ b. let r : Sq1State = record { units = pick (pick s.units twist_places) twist_places; equator = b } in r) (not-not s.equator)
    ∙ same_units _ _ s.equator
    (pick-pick s.units twist_places twist_places (subst (λ n. All (λ k. k < n) twist_places) (sym p.size) (All-permutation 24 twist_places p))
    ∙ ap (pick s.units) twist_places-twice ∙ pick_nothing s.units size)

-- ---- lawful turns

keeps : (s r : Sq1State) (t : Turn) → IsSq1 s → sq1_after s t ≡ Some r → IsSq1 r
unfolding sq1_after twisted
keeps s r (Layers x y) h e =
    let a = sq1_after-layers s r x y e in
    subst IsSq1 (sym a.is) (IsSq1-turned s x y h a.opened)
keeps s r Twist h e = subst IsSq1 (sym (sq1_after-twist s r e)) (IsSq1-twisted s (not s.equator) h)
keeps s r _ h e = absurd (cc)

undoes : (s r : Sq1State) (t : Turn) → IsSq1 s → sq1_after s t ≡ Some r → sq1_after r (opposite t) ≡ Some s
unfolding sq1_after
undoes s r (Layers x y) h e =
    let a = sq1_after-layers s r x y e in
    let back : turned r (twelfths (neg_ℤ x)) (twelfths (neg_ℤ y)) ≡ s =
    ap (λ q. turned q (twelfths (neg_ℤ x)) (twelfths (neg_ℤ y))) a.is ∙ turned-back s x y h.size in
    sq1_after-by_layers r (twelfths (neg_ℤ x)) (twelfths (neg_ℤ y)) (permits-opposite Sq1 (Layers x y) a.letter) (ap (λ q. is_open q.units) back ∙ is_open-valid s h)
    ∙ ap Some back
undoes s r Twist h e = ap (λ q. Some (twisted q)) (sq1_after-twist s r e) ∙ ap Some (twisted-twice s h.size)
undoes s r _ h e = absurd (cc)

-- what is left of two turns of the layers: one, or nothing
layers_merge : (s q : Sq1State) (x y : ℤ) (b : Bool) → are_still x y ≡ b → IsTwelfths x → IsTwelfths y → IsSq1 s
    → IsTrue (is_open q.units) → q ≡ turned s x y
    → play sq1_after s (word_of (cond b None (Some (Layers x y)))) ≡ Some q
unfolding word_of
layers_merge s q x y true still tx ty h opened is =
    play-empty sq1_after s ∙ ap Some (sym (is ∙ turned-still s x y h.size (are_still-first x y still) (are_still-second x y still)))
layers_merge s q x y false some tx ty h opened is =
    grind (arith, nat_tests, play-one, sq1_after-by_layers, layers_of_parts)

merges : (s r q : Sq1State) (t u : Turn) → IsSq1 s → IsTrue (turn_merging.alike t u) → sq1_after s t ≡ Some r
    → sq1_after r u ≡ Some q → play sq1_after s (word_of (turn_merging.merged t u)) ≡ Some q
unfolding sq1_after word_of
merges s r q (Layers x y) (Layers z w) h alike e f =
    let a = sq1_after-layers s r x y e in
    let b = sq1_after-layers r q z w f in
    let top : ℤ = twelfths (x +ℤ z) in
    let bottom : ℤ = twelfths (y +ℤ w) in
    layers_merge s q top bottom (are_still top bottom) refl (AreTwelfths-twelfths (x +ℤ z)).within (AreTwelfths-twelfths (y +ℤ w)).within h
    (ap (λ p. is_open p.units) b.is ∙ b.opened)
    (b.is ∙ ap (λ p. turned p z w) a.is ∙ turned-sum s x y z w)
merges s r q Twist Twist h alike e f = search (arith, rules, play-empty, sq1_after-twist, twisted-twice)
merges s r q (Layers x y) _ h alike e f = absurd (false≢true alike)
merges s r q Twist _ h alike e f = absurd (false≢true alike)
merges s r q _ _ h alike e f = absurd (cc)

pub IsLawful-sq1 : IsLawful sq1_after opposite turn_merging IsSq1
IsLawful-sq1 = record { keeps = keeps; undoes = undoes; merges = merges }

pub sq1_taken_back : IsTakenBack sq1_after opposite IsSq1
sq1_taken_back = IsTakenBack-lawful sq1_after opposite turn_merging IsSq1 IsLawful-sq1

pub sq1_kept_by_tidy : IsKeptByTidy sq1_after turn_merging IsSq1
sq1_kept_by_tidy = IsKeptByTidy-lawful sq1_after opposite turn_merging IsSq1 IsLawful-sq1

pub IsSq1-solved : IsSq1 solved_sq1
unfolding half_words half_word shape_word corner_counts
IsSq1-solved =
    let shape : IsShape (7 ∷ 7 ∷ 10 ∷ 10 ∷ []) = record { size = refl; below = All-from_test (λ h. nat_lt h 13) (λ h. h < 13) (λ h. ltb-true h 13) (7 ∷ 7 ∷ 10 ∷ 10 ∷ []) refl; corners = refl } in
    let order = IsPermutation-numbers_from 8 in
    (LaidState-pieces (7 ∷ 7 ∷ 10 ∷ 10 ∷ []) (numbers_from 0 8) (numbers_from 0 8) shape order order).valid false

pub IsSq1-reached : (s : Sq1State) → IsReached sq1_puzzle s → IsSq1 s
IsSq1-reached = IsReached-keeps sq1_puzzle IsSq1 (λ s e. subst IsSq1 (sym e) IsSq1-solved) keeps
