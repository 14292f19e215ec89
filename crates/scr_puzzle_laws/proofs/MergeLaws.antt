-- Merges lead from a word to its tidied word, and to no other word that they lead no further from.
use Rattle.std.proofs.Common.{◌≡◌, Bool, true, false, IsTrue, List, [], ◌∷◌, ◌++◌, Option, Some, None, refl, sym, ap, ◌∙◌, subst}
use Rattle.std.specs.Prelude.{All}
use Rattle.std.proofs.lemmas.List.Elements.{All-cons, All-head, All-tail}
use Rattle.scr_combinatorics.specs.Tidy.{Merging, word_of, with_turn, tidy, begins_alike, IsTidy, Merges, here, later, MergesTo, there, then}
use Rattle.scr_combinatorics.specs.Lawful.{IsMerging, together}
use Rattle.scr_combinatorics.proofs.TidyLaws.{with_turn-alike, with_turn-apart, begins_alike-first, IsTidy-apart, IsTidy-tidy, tidy-own, All-tidy}

module _ {T : Type 0} (m : Merging T) where
  -- merges after merges are merges
  pub MergesTo-after : (u v w : List T) → MergesTo m u v → MergesTo m v w → MergesTo m u w
  MergesTo-after _ _ w (there u) b = b
  MergesTo-after _ _ w (then u x v a b) c = then u x w a (MergesTo-after x v w b c)

  -- merges behind a turn are merges
  pub MergesTo-later : (t : T) (v w : List T) → MergesTo m v w → MergesTo m (t ∷ v) (t ∷ w)
  MergesTo-later t _ _ (there w) = there (t ∷ w)
  MergesTo-later t _ _ (then u v w a b) = then (t ∷ u) (t ∷ v) (t ∷ w) (later t u v a) (MergesTo-later t v w b)

  with_turn_by : (t u : T) (w : List T) (b : Bool) → m.alike t u ≡ b → MergesTo m (t ∷ u ∷ w) (with_turn m t (u ∷ w))
  unfolding begins_alike
  with_turn_by t u w true e =
      let P : List T → Type 0 = λ x. MergesTo m (t ∷ u ∷ w) x in
      let merged : List T = word_of (m.merged t u) ++ w in
      subst P (sym (with_turn-alike m t u w e)) (then (t ∷ u ∷ w) merged merged (here t u w e) (there merged))
  with_turn_by t u w false e =
      let P : List T → Type 0 = λ x. MergesTo m (t ∷ u ∷ w) x in
      subst P (sym (with_turn-apart m t (u ∷ w) e)) (there (t ∷ u ∷ w))

  with_turn_is : (t : T) (w : List T) → MergesTo m (t ∷ w) (with_turn m t w)
  unfolding with_turn
  with_turn_is t [] = there (t ∷ [])
  with_turn_is t (u ∷ w) = with_turn_by t u w (m.alike t u) refl

  -- merges lead from a word to its tidied word
  pub MergesTo-tidy : (w : List T) → MergesTo m w (tidy m w)
  unfolding tidy
  MergesTo-tidy [] = there []
  MergesTo-tidy (t ∷ w) =
      MergesTo-after (t ∷ w) (t ∷ tidy m w) (with_turn m t (tidy m w)) (MergesTo-later t w (tidy m w) (MergesTo-tidy w)) (with_turn_is t (tidy m w))

module _ {T : Type 0} (m : Merging T) (IsTurn : T → Type 0) (l : IsMerging m IsTurn) where
  -- what two turns come to, before a word past their face, is tidied one after the other
  apart_by : (t u : T) (w : List T) (o : Option T) → m.merged t u ≡ o → IsTrue (m.alike t u)
      → begins_alike m u w ≡ false → IsTidy m w → tidy m w ≡ w → tidy m (word_of o ++ w) ≡ word_of o ++ w
  unfolding word_of tidy
  apart_by t u w None e a b h own = own
  apart_by t u w (Some v) e a b h own =
      ap (with_turn m v) own
      ∙ with_turn-apart m v w (begins_alike-first m IsTurn l v u w (l.alike_first t u v a e) ∙ b)

  -- where the word goes on with a turn of their face, it doesn't matter which two are merged first
  grouped_by : (t u x : T) (w : List T) (o p : Option T) → m.merged t u ≡ o → m.merged u x ≡ p
      → together m o (Some x) ≡ together m (Some t) p → IsTrue (m.alike t u) → IsTrue (m.alike u x) → IsTidy m (x ∷ w)
      → with_turn m t (word_of p ++ w) ≡ tidy m (word_of o ++ x ∷ w)
  unfolding word_of tidy
  grouped_by t u x w None None e f law a b h =
      let alike : IsTrue (m.alike t x) = l.first t u x a ∙ b in
      let past : begins_alike m t w ≡ false = begins_alike-first m IsTurn l t x w alike ∙ IsTidy-apart m x w h in
      let same : t ≡ x = cc in
      with_turn-apart m t w past ∙ ap (λ y. y ∷ w) same ∙ sym (tidy-own m (x ∷ w) h)
  grouped_by t u x w None (Some y) e f law a b h =
      let alike : IsTrue (m.alike t y) = l.second y x t (l.alike_first u x y b f) ∙ l.first t u x a ∙ b in
      with_turn-alike m t y w alike ∙ ap (λ z. word_of z ++ w) (sym law) ∙ sym (tidy-own m (x ∷ w) h)
  grouped_by t u x w (Some v) None e f law a b h =
      let alike : IsTrue (m.alike t x) = l.first t u x a ∙ b in
      let past : begins_alike m t w ≡ false = begins_alike-first m IsTurn l t x w alike ∙ IsTidy-apart m x w h in
      let onto : IsTrue (m.alike v x) = l.first v u x (l.alike_first t u v a e) ∙ b in
      with_turn-apart m t w past ∙ ap (λ z. word_of z ++ w) (sym law) ∙ sym (with_turn-alike m v x w onto)
      ∙ ap (with_turn m v) (sym (tidy-own m (x ∷ w) h))
  grouped_by t u x w (Some v) (Some y) e f law a b h =
      let alike : IsTrue (m.alike t y) = l.second y x t (l.alike_first u x y b f) ∙ l.first t u x a ∙ b in
      let onto : IsTrue (m.alike v x) = l.first v u x (l.alike_first t u v a e) ∙ b in
      with_turn-alike m t y w alike ∙ ap (λ z. word_of z ++ w) (sym law) ∙ sym (with_turn-alike m v x w onto)
      ∙ ap (with_turn m v) (sym (tidy-own m (x ∷ w) h))

  twice_by : (t u x : T) (w : List T) (b : Bool) → m.alike u x ≡ b → IsTurn t → IsTurn u → IsTurn x
      → IsTrue (m.alike t u) → IsTidy m (x ∷ w)
      → with_turn m t (with_turn m u (x ∷ w)) ≡ tidy m (word_of (m.merged t u) ++ x ∷ w)
  unfolding begins_alike
  twice_by t u x w true b ot ou ox a h =
      ap (with_turn m t) (with_turn-alike m u x w b)
      ∙ grouped_by t u x w (m.merged t u) (m.merged u x) refl refl (l.grouped t u x ot ou ox a b) a b h
  twice_by t u x w false b ot ou ox a h =
      ap (with_turn m t) (with_turn-apart m u (x ∷ w) b) ∙ with_turn-alike m t u (x ∷ w) a
      ∙ sym (apart_by t u (x ∷ w) (m.merged t u) refl a b h (tidy-own m (x ∷ w) h))

  -- two turns of one face, one after the other before a tidy word, are what they come to together
  twice : (t u : T) (w : List T) → IsTurn t → IsTurn u → All IsTurn w → IsTrue (m.alike t u) → IsTidy m w
      → with_turn m t (with_turn m u w) ≡ tidy m (word_of (m.merged t u) ++ w)
  unfolding begins_alike
  twice t u [] ot ou ow a h =
      ap (with_turn m t) (with_turn-apart m u [] refl) ∙ with_turn-alike m t u [] a
      ∙ sym (apart_by t u [] (m.merged t u) refl a refl h (tidy-own m [] h))
  twice t u (x ∷ w) ot ou ow a h = twice_by t u x w (m.alike u x) refl ot ou (All-head IsTurn x w ow) a h

  -- what stands before a tidied word is tidied with it
  before_tidied : (o : Option T) (w : List T) → tidy m (word_of o ++ tidy m w) ≡ tidy m (word_of o ++ w)
  unfolding word_of tidy
  before_tidied None w = tidy-own m (tidy m w) (IsTidy-tidy m IsTurn l w)
  before_tidied (Some v) w = ap (with_turn m v) (tidy-own m (tidy m w) (IsTidy-tidy m IsTurn l w))

  -- a merge doesn't change the tidied word
  pub tidy-merge : (v w : List T) → Merges m v w → All IsTurn v → tidy m v ≡ tidy m w
  unfolding tidy
  tidy-merge _ _ (here t u w e) a =
      let rest = All-tail IsTurn t (u ∷ w) a in
      twice t u (tidy m w) (All-head IsTurn t (u ∷ w) a) (All-head IsTurn u w rest)
      (All-tidy m IsTurn l.closed w (All-tail IsTurn u w rest)) e (IsTidy-tidy m IsTurn l w)
      ∙ before_tidied (m.merged t u) w
  tidy-merge _ _ (later t v w x) a = ap (with_turn m t) (tidy-merge v w x (All-tail IsTurn t v a))

  merged_turns : (t u : T) (w : List T) (o : Option T) → m.merged t u ≡ o → IsTrue (m.alike t u)
      → All IsTurn (t ∷ u ∷ w) → All IsTurn (word_of o ++ w)
  unfolding word_of
  merged_turns t u w None e a h = All-tail IsTurn u w (All-tail IsTurn t (u ∷ w) h)
  merged_turns t u w (Some v) e a h =
      let rest = All-tail IsTurn t (u ∷ w) h in
      All-cons IsTurn v w (l.closed t u v (All-head IsTurn t (u ∷ w) h) (All-head IsTurn u w rest) a e) (All-tail IsTurn u w rest)

  -- and its letters stay turns
  pub All-merge : (v w : List T) → Merges m v w → All IsTurn v → All IsTurn w
  All-merge _ _ (here t u w e) a = merged_turns t u w (m.merged t u) refl e a
  All-merge _ _ (later t v w x) a = All-cons IsTurn t w (All-head IsTurn t v a) (All-merge v w x (All-tail IsTurn t v a))

  -- nor do merges
  pub tidy-merges : (v w : List T) → MergesTo m v w → All IsTurn v → tidy m v ≡ tidy m w
  tidy-merges _ _ (there w) a = refl
  tidy-merges _ _ (then u v w x y) a = tidy-merge u v x a ∙ tidy-merges v w y (All-merge u v x a)

  apart_of : (t u : T) (w : List T) (b : Bool) → m.alike t u ≡ b → ((x : List T) → Merges m (t ∷ u ∷ w) x → ⊥)
      → m.alike t u ≡ false
  apart_of t u w true e n = absurd (n (word_of (m.merged t u) ++ w) (here t u w e))
  apart_of t u w false e n = e

  apart : (t : T) (w : List T) → ((x : List T) → Merges m (t ∷ w) x → ⊥) → begins_alike m t w ≡ false
  unfolding begins_alike
  apart t [] n = refl
  apart t (u ∷ w) n = apart_of t u w (m.alike t u) refl n

  -- a word that can't be merged further is tidy
  pub IsTidy-merged : (w : List T) → ((x : List T) → Merges m w x → ⊥) → IsTidy m w
  unfolding IsTidy
  IsTidy-merged [] n = tt
  IsTidy-merged (t ∷ w) n = (apart t w n, IsTidy-merged w (λ x h. n (t ∷ x) (later t w x h)))

  -- The order of the merges doesn't matter: a word that merges lead to, and that can't be merged further, is the tidied
  -- one.
  pub tidy-only : (v w : List T) → MergesTo m v w → ((x : List T) → Merges m w x → ⊥) → All IsTurn v → w ≡ tidy m v
  tidy-only v w x n a = sym (tidy-own m w (IsTidy-merged w n)) ∙ sym (tidy-merges v w x a)
