-- Each word has one that is no longer, leads to the same, and in which turns of the layers and twists take turns.
use Rattle.std.proofs.Common.{◌≡◌, ℕ, suc, ◌≤◌, Bool, true, false, IsTrue, cond, List, [], ◌∷◌, length, Option, Some, None, refl, sym, ap, ◌∙◌, subst, arith}
use Rattle.std.specs.Prelude.{not, ◌+ℤ◌}
use Rattle.std.specs.Bool.{OnTrue, OnFalse}
use mathlib.Core.Bool.{beq}
use Rattle.std.proofs.lemmas.Bool.{cases_lt, false≢true}
use Rattle.scr_combinatorics.specs.Reach.{Needs}
use Rattle.std.proofs.Common.{inl, inr}
use Rattle.scr_combinatorics.specs.Play.{play}
use Rattle.scr_combinatorics.specs.Tidy.{word_of}
use Rattle.scr_combinatorics.proofs.PlayLaws.{play-first, play-parts, play-append}
use Rattle.scr_notation.specs.declared.turn.Turn.{Turn}
use Rattle.scr_notation.specs.declared.turn.Turn.TheVariants.{Layers, Twist}
use Rattle.scr_notation.specs.Layers.{twelfths, are_still}
use Rattle.scr_notation.specs.Turning.{turn_merging}
use Rattle.scr_sq1.specs.Units.{Sq1State, IsSq1, solved_sq1, sq1_after, sq1_puzzle}
use Rattle.scr_sq1.proofs.Lawful.{IsLawful-sq1}
use Rattle.scr_sq1far.proofs.Counted.{count_once}
use Rattle.scr_sq1far.specs.Alternating.{is_twist, Alternates, NeedsBy}

-- such a word of at most so many turns
record IsJoined (s end : Sq1State) (most : ℕ) : Type 0 where
  pub twists : Bool
  pub word : List Turn
  pub alternates : Alternates twists word
  pub short : length word ≤ most
  pub plays : play sq1_after s word ≡ Some end

-- a turn before a word that begins with a turn of the other kind, or with none
before : (s r end : Sq1State) (t : Turn) (v : List Turn) → sq1_after s t ≡ Some r → Alternates (not (is_twist t)) v
    → play sq1_after r v ≡ Some end → IsJoined s end (suc (length v))
before s r end t v e alternates plays = record {
  twists = is_twist t;
  word = t ∷ v;
  alternates = (refl, alternates);
  short = omega arith;
  plays = play-first sq1_after s r t v e ∙ plays;
}

-- and before one that begins with a turn of the same kind, with which it merges
merged : (s r q end : Sq1State) (t u : Turn) (v : List Turn) (o : Option Turn) → IsSq1 s → sq1_after s t ≡ Some r
    → sq1_after r u ≡ Some q → IsTrue (turn_merging.alike t u) → turn_merging.merged t u ≡ o
    → ((x : Turn) → o ≡ Some x → is_twist x ≡ is_twist u)
    → Alternates (not (is_twist u)) v → play sq1_after q v ≡ Some end → IsJoined s end (suc (suc (length v)))
unfolding word_of
merged s r q end t u v None valid e f alike is kind alternates plays =
    let made : play sq1_after s [] ≡ Some q =
    ap (λ o. play sq1_after s (word_of o)) (sym is) ∙ IsLawful-sq1.merges s r q t u valid alike e f in
    record {
      twists = not (is_twist u);
      word = v;
      alternates = alternates;
      short = omega arith;
      plays = play-append sq1_after s q [] v made ∙ plays;
    }
merged s r q end t u v (Some x) valid e f alike is kind alternates plays =
    let made : play sq1_after s (x ∷ []) ≡ Some q =
    ap (λ o. play sq1_after s (word_of o)) (sym is) ∙ IsLawful-sq1.merges s r q t u valid alike e f in
    record {
      twists = is_twist u;
      word = x ∷ v;
      alternates = (kind x refl, alternates);
      short = omega arith;
      plays = play-append sq1_after s q (x ∷ []) v made ∙ plays;
    }

layers_kind : (b : Bool) (t x : Turn) → is_twist t ≡ false → (let o : Option Turn = cond b None (Some t) in o ≡ Some x)
    → is_twist x ≡ false
layers_kind true t x is e = absurd (cc)
layers_kind false t x is e = let same : t ≡ x = cc in ap is_twist (sym same) ∙ is

joined : (s r end : Sq1State) (t : Turn) (twists : Bool) (v : List Turn) → IsSq1 s → sq1_after s t ≡ Some r
    → Alternates twists v → play sq1_after r v ≡ Some end → IsJoined s end (suc (length v))
unfolding sq1_after
joined s r end t twists [] valid e alternates plays = before s r end t [] e tt plays
joined s r end (Layers x y) twists (Layers z w ∷ v) valid e alternates plays =
    let parts = play-parts sq1_after r end (Layers z w) v plays in
    merged s r parts.0 end (Layers x y) (Layers z w) v (turn_merging.merged (Layers x y) (Layers z w)) valid e parts.1 refl refl
    (λ u is. layers_kind (are_still (twelfths (x +ℤ z)) (twelfths (y +ℤ w))) (Layers (twelfths (x +ℤ z)) (twelfths (y +ℤ w))) u refl is)
    (subst (λ b. Alternates (not b) v) (sym alternates.0) alternates.1) parts.2
joined s r end Twist twists (Twist ∷ v) valid e alternates plays =
    let parts = play-parts sq1_after r end Twist v plays in
    merged s r parts.0 end Twist Twist v None valid e parts.1 refl refl (λ u is. absurd (cc))
    (subst (λ b. Alternates (not b) v) (sym alternates.0) alternates.1) parts.2
joined s r end (Layers x y) twists (Twist ∷ v) valid e alternates plays =
    before s r end (Layers x y) (Twist ∷ v) e (subst (λ b. Alternates b (Twist ∷ v)) (sym alternates.0) alternates) plays
joined s r end Twist twists (Layers z w ∷ v) valid e alternates plays =
    before s r end Twist (Layers z w ∷ v) e (subst (λ b. Alternates b (Layers z w ∷ v)) (sym alternates.0) alternates) plays
joined s r end (Layers x y) twists (u ∷ v) valid e alternates plays = absurd (cc (play-parts sq1_after r end u v plays).1)
joined s r end Twist twists (u ∷ v) valid e alternates plays = absurd (cc (play-parts sq1_after r end u v plays).1)
joined s r end _ twists (u ∷ v) valid e alternates plays = absurd (cc)

alternating : (s end : Sq1State) (w : List Turn) → IsSq1 s → play sq1_after s w ≡ Some end → IsJoined s end (length w)
alternating s end [] valid e = record { twists = true; word = []; alternates = tt; short = omega arith; plays = e }
alternating s end (t ∷ w) valid e =
    let parts = play-parts sq1_after s end t w e in
    let rest = alternating parts.0 end w (IsLawful-sq1.keeps s parts.0 t valid parts.1) parts.2 in
    let all = joined s parts.0 end t rest.twists rest.word valid parts.1 rest.alternates rest.plays in
    record {
      twists = all.twists;
      word = all.word;
      alternates = all.alternates;
      short = omega (arith, all.short, rest.short);
      plays = all.plays;
    }

by_kind : (s : Sq1State) (least : ℕ) (twists : Bool) → NeedsBy false s least → NeedsBy true s least
    → NeedsBy twists s least
by_kind s least true f t = t
by_kind s least false f t = f

-- so what both kinds of such words need, all words need
pub Needs-both : (s : Sq1State) (least : ℕ) → IsSq1 s → NeedsBy false s least → NeedsBy true s least
    → Needs sq1_puzzle s least
Needs-both s least valid f t = λ w end few plays is.
    let j = alternating s end w valid plays in
    let le : least ≤ length j.word = by_kind s least j.twists f t j.word j.alternates (j.plays ∙ ap Some is) in
    omega (arith, j.short, few, count_once w)

pub NeedsBy-needs : (twists : Bool) (s : Sq1State) (least : ℕ) → Needs sq1_puzzle s least → NeedsBy twists s least
NeedsBy-needs twists s least needs = λ w alternates plays. elim (cases_lt (length w) least) [
  | inl lt ↦ absurd (needs w solved_sq1 (omega (arith, count_once w)) plays refl)
  | inr le ↦ le
]

-- what a turn leads to needs one turn less
pub Needs-behind : (s r : Sq1State) (t : Turn) (least : ℕ) → sq1_after s t ≡ Some r → Needs sq1_puzzle s (suc least)
    → Needs sq1_puzzle r least
Needs-behind s r t least e needs = λ w end few plays is.
    needs (t ∷ w) end (omega (arith, few, count_once (t ∷ w), count_once w)) (play-first sq1_after s r t w e ∙ plays) is

-- and where each of them does, and the state isn't solved, such words need one more
pub NeedsBy-turns : (twists : Bool) (s : Sq1State) (least more : ℕ) → more ≡ suc least → Needs sq1_puzzle s 1
    → ((t : Turn) (r : Sq1State) → is_twist t ≡ twists → sq1_after s t ≡ Some r → NeedsBy (not twists) r least)
    → NeedsBy twists s more
NeedsBy-turns twists s least more is one each [] alternates plays =
    absurd (one [] solved_sq1 (omega (arith, count_once [])) plays refl)
NeedsBy-turns twists s least more is one each (t ∷ w) alternates plays =
    let parts = play-parts sq1_after s solved_sq1 t w plays in
    omega (arith, is, each t parts.0 alternates.0 parts.1 w alternates.1 parts.2)

pub on_true : {P : Type 0} (b : Bool) → (IsTrue b → P) → OnTrue b P
on_true true f = f refl
on_true false f = tt

pub of_on_true : {P : Type 0} (b : Bool) → IsTrue b → OnTrue b P → P
of_on_true true t h = h
of_on_true false t h = absurd (false≢true t)

pub is_true-unless : {P : Type 0} (b : Bool) → OnFalse b (P → ⊥) → P → IsTrue b
is_true-unless true h p = refl
is_true-unless false h p = absurd (h p)

pub beq-differ : (b c : Bool) → beq b c ≡ false → b ≡ c → ⊥
beq-differ true true e same = cc
beq-differ true false e same = cc
beq-differ false true e same = cc
beq-differ false false e same = cc
