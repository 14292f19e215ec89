-- States of several parts: equal parts make equal wholes, what is made part by part, and monoids of two parts side by
-- side, or seen as another's.
use Rattle.std.proofs.Common.{arith, ◌≡◌, ℕ, List, Option, Some, None, map, sym, ap, ◌∙◌, subst}
use Rattle.std.specs.Prelude.{slice_get}
use Rattle.std.specs.Option.{option_map}
use Rattle.std.proofs.lemmas.Option.{same_Some, slice_get-map}
use Rattle.scr_orbit.specs.Monoids.{Monoid, IsMonoid}

-- what is made of two equal parts
pub ap_both : {A B C : Type 0} {a c : A} {b d : B} (f : A → B → C) → a ≡ c → b ≡ d → f a b ≡ f c d
ap_both {a = a} {d = d} f e g = ap (f a) g ∙ ap (λ x. f x d) e

-- or of three
pub ap_three : {A B C D : Type 0} {a x : A} {b y : B} {c z : C} (f : A → B → C → D) → a ≡ x → b ≡ y → c ≡ z
    → f a b c ≡ f x y z
ap_three {a = a} {z = z} f e g h = ap (f a _) h ∙ ap_both (λ u v. f u v z) e g

abbrev pub pair : {S T : Type 0} → S → T → S × T
pair s t = (s, t)

-- What is made of the element at a place of a list.
pub record IsMadeAt {X A : Type 0} (xs : List X) (k : ℕ) (f : X → A) (made : A) : Type 0 where
  pub is : option_map f (slice_get xs k) ≡ Some made

-- of a part of each element
pub IsMadeAt-part : {X Y A : Type 0} {k : ℕ} {f : Y → A} {made : A} (part : X → Y) (xs : List X)
    → IsMadeAt (map part xs) k f made → IsMadeAt xs k (λ x. f (part x)) made
IsMadeAt-part {k = k} {f = f} {made = made} part xs h = record { is = by (slice_get xs k) (sym (ap (option_map f) (slice_get-map part xs k)) ∙ h.is) }
  where
    by : (o : Option _) → option_map f (option_map part o) ≡ Some made → option_map (λ x. f (part x)) o ≡ Some made
    by None e = e
    by (Some x) e = e

-- and of two at once
pub IsMadeAt-both : {X A B : Type 0} {xs : List X} {k : ℕ} {f : X → A} {g : X → B} {a : A} {b : B} → IsMadeAt xs k f a
    → IsMadeAt xs k g b → IsMadeAt xs k (λ x. pair (f x) (g x)) (pair a b)
IsMadeAt-both {xs = xs} {k = k} {f = f} {g = g} {a = a} {b = b} h i = record { is = by (slice_get xs k) h.is i.is }
  where
    by : (o : Option _) → option_map f o ≡ Some a → option_map g o ≡ Some b
        → option_map (λ x. pair (f x) (g x)) o ≡ Some (pair a b)
    by None e d = absurd (cc)
    by (Some x) e d = ap Some (ap_both pair (same_Some (f x) a e) (same_Some (g x) b d))

-- two parts at once
abbrev pub pair_monoid : {S T : Type 0} → Monoid S → Monoid T → Monoid (S × T)
pair_monoid m n = record { turned = λ s r. (m.turned s.0 r.0, n.turned s.1 r.1); solved = (m.solved, n.solved) }

pub IsMonoid-pair : {S T : Type 0} (m : Monoid S) (n : Monoid T) (V : S → Type 0) (W : T → Type 0) → IsMonoid m V
    → IsMonoid n W → IsMonoid (pair_monoid m n) (λ s. V s.0 × W s.1)
IsMonoid-pair m n V W l k = grind (arith, ap_both)

-- What states are seen as: each shows as one of another monoid, which tells them apart, and turning goes along.
pub record IsSeenAs {S T : Type 0} (m : Monoid S) (n : Monoid T) (seen : S → T) : Type 0 where
  pub turned : (s r : S) → seen (m.turned s r) ≡ n.turned (seen s) (seen r)
  pub solved : seen m.solved ≡ n.solved
  pub same : (s r : S) → seen s ≡ seen r → s ≡ r

-- So it is where states are made again of what they are seen as.
pub IsSeenAs-whole : {S T : Type 0} {m : Monoid S} {n : Monoid T} {seen : S → T} (whole : T → S)
    → ((s : S) → whole (seen s) ≡ s) → ((s r : S) → seen (m.turned s r) ≡ n.turned (seen s) (seen r))
    → seen m.solved ≡ n.solved → IsSeenAs m n seen
IsSeenAs-whole whole again turned solved = grind arith

-- Valid states that are kept, and which show as those of a monoid, are one: the equations are the other's.
pub IsMonoid-seen : {S T : Type 0} (m : Monoid S) (n : Monoid T) (seen : S → T) → IsSeenAs m n seen
    → (W : T → Type 0) → IsMonoid n W → (V : S → Type 0) → ((s : S) → V s → W (seen s))
    → ((s r : S) → V s → V r → V (m.turned s r)) → V m.solved → IsMonoid m V
IsMonoid-seen m n seen are W l V parts kept solved = record {
  kept = kept;
  solved = solved;
  grouped = λ s r q h k i.
      are.same _ _ (are.turned (m.turned s r) q
      ∙ ap (λ x. n.turned x (seen q)) (are.turned s r)
      ∙ l.grouped (seen s) (seen r) (seen q) (parts s h) (parts r k) (parts q i)
      ∙ sym (are.turned s (m.turned r q) ∙ ap (n.turned (seen s)) (are.turned r q)));
  solved_first = λ s h.
      are.same _ _ (are.turned m.solved s ∙ ap (λ x. n.turned x (seen s)) are.solved ∙ l.solved_first (seen s) (parts s h));
  solved_last = λ s h.
      are.same _ _ (are.turned s m.solved ∙ ap (n.turned (seen s)) are.solved ∙ l.solved_last (seen s) (parts s h));
}

-- Where states are two parts, each turned by itself: they are valid that have valid parts which go together in some
-- way, which turns keep.
pub IsMonoid-two : {S T U : Type 0} (m : Monoid S) (n : Monoid T) (k : Monoid U) (seen : S → T × U)
    → IsSeenAs m (pair_monoid n k) seen → (V : T → Type 0) (W : U → Type 0) → IsMonoid n V → IsMonoid k W
    → (Valid : S → Type 0) → ((s : S) → Valid s → V (seen s).0 × W (seen s).1)
    → ((s r : S) → Valid s → Valid r → V (seen (m.turned s r)).0 → W (seen (m.turned s r)).1 → Valid (m.turned s r))
    → Valid m.solved → IsMonoid m Valid
IsMonoid-two m n k seen are V W l j Valid parts kept solved =
    let both = IsMonoid-pair n k V W l j in
    IsMonoid-seen m (pair_monoid n k) seen are (λ p. V p.0 × W p.1) both Valid parts
    (λ s r h i.
    let made = subst (λ p. V p.0 × W p.1) (sym (are.turned s r)) (both.kept (seen s) (seen r) (parts s h) (parts r i)) in
    kept s r h i made.0 made.1)
    solved
