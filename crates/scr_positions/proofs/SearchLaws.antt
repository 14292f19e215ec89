-- A search finds the same from a state and from its view: laws of any search spaces, for puzzles' crates to state.
use Rattle.std.proofs.Common.{◌≡◌, ℕ, ◌<◌, Bool, true, false, cond, IsTrue, List, [], ◌∷◌, Option, Some, None, refl, sym, ap, ◌∙◌, subst, arith}
use Rattle.std.specs.Prelude.{option_and_then, nat_lt, Result, IfOk}
use Rattle.std.specs.Option.{option_map}
use Rattle.std.proofs.Math.Logic.{∥∥₁_map}
use Rattle.std.proofs.lemmas.Bool.{ltb-true}
use Rattle.std.proofs.lemmas.Iterator.Adapters.{option_map_id}
use Rattle.scr_combinatorics.specs.Play.{play}
use Rattle.scr_combinatorics.specs.FirstWord.{LeadsTo, IsFirstWord, IsDistance}
use Rattle.scr_combinatorics.proofs.PlayLaws.{play-keeps, map-some}
use Rattle.scr_positions.specs.Coordinates.{Coordinate, StaysBelow, moved}
use Rattle.scr_positions.specs.SearchSpaces.{SearchSpace, positions, Follows, FindsTheSame, ShowsSame}

module _ {S R : Type 0} (space : SearchSpace S) (other : SearchSpace R) (view : S → R) (f : Follows space other view) where
  -- the rest of a word, behind a turn that leads somewhere or nowhere
  rest_played : (w : List ℕ) (o : Option S)
      → ((r : S) → o ≡ Some r → play other.after (view r) w ≡ option_map view (play space.after r w))
      → option_and_then (λ r. play other.after r w) (option_map view o) ≡ option_map view (option_and_then (λ r. play space.after r w) o)
  rest_played w None h = refl
  rest_played w (Some r) h = h r refl

  -- what a word makes of the view is the view of what it makes of the state
  pub play-view : (s : S) (w : List ℕ) → space.IsValid s
      → play other.after (view s) w ≡ option_map view (play space.after s w)
  unfolding play
  play-view s [] v = refl
  play-view s (t ∷ w) v =
      ap (option_and_then (λ r. play other.after r w)) (f.turned s t v)
      ∙ rest_played w (space.after s t) (λ r e. play-view r w (f.kept s r t v e))

  pub LeadsTo-view : (s : S) (w : List ℕ) → space.IsValid s → LeadsTo space.after space.IsGoal s w
      → LeadsTo other.after other.IsGoal (view s) w
  LeadsTo-view s w v l = record {
    end = view l.end;
    played = play-view s w v ∙ ap (option_map view) l.played;
    goal = (f.goals l.end (play-keeps space.after space.IsValid f.kept s l.end w v l.played)).0 l.goal;
  }

  pub LeadsTo-viewed : (s : S) (w : List ℕ) → space.IsValid s → LeadsTo other.after other.IsGoal (view s) w
      → LeadsTo space.after space.IsGoal s w
  LeadsTo-viewed s w v l =
      let made = map-some view (play space.after s w) l.end (sym (play-view s w v) ∙ l.played) in
      record {
        end = made.0;
        played = made.1;
        goal = (f.goals made.0 (play-keeps space.after space.IsValid f.kept s made.0 w v made.1)).1 (subst other.IsGoal (sym made.2) l.goal);
      }

-- Of two spaces and a state of each, where words lead to goals from both or from neither: distances and first words are
-- the same.
distance_by : {S R : Type 0} (space : SearchSpace S) (other : SearchSpace R) (s : S) (r : R) (d : ℕ)
    → ((w : List ℕ) → LeadsTo space.after space.IsGoal s w → LeadsTo other.after other.IsGoal r w)
    → ((w : List ℕ) → LeadsTo other.after other.IsGoal r w → LeadsTo space.after space.IsGoal s w)
    → IsDistance space.after space.IsGoal s d → IsDistance other.after other.IsGoal r d
distance_by space other s r d to back h = record {
  reached = ∥∥₁_map h.reached (λ w. (w.0, to w.0 w.1, w.2));
  least = λ v l. h.least v (back v l);
}

first_by : {S R : Type 0} (space : SearchSpace S) (other : SearchSpace R) (s : S) (r : R) (w : List ℕ)
    → ((w : List ℕ) → LeadsTo space.after space.IsGoal s w → LeadsTo other.after other.IsGoal r w)
    → ((w : List ℕ) → LeadsTo other.after other.IsGoal r w → LeadsTo space.after space.IsGoal s w)
    → IsFirstWord space.after space.IsGoal s w → IsFirstWord other.after other.IsGoal r w
first_by space other s r w to back h = record { leads = to w h.leads; first = λ v l. h.first v (back v l) }

-- What goes along with turns is searched alike.
pub FindsTheSame-follows : {S R : Type 0} (space : SearchSpace S) (other : SearchSpace R) (view : S → R)
    → Follows space other view → FindsTheSame space other view
FindsTheSame-follows space other view f =
    let to = LeadsTo-view space other view f in
    let back = LeadsTo-viewed space other view f in
    record {
      played = play-view space other view f;
      words = λ s w v. (to s w v, back s w v);
      distances = λ s d v. (
        distance_by space other s (view s) d (λ w. to s w v) (λ w. back s w v),
        distance_by other space (view s) s d (λ w. back s w v) (λ w. to s w v),
      );
      first_words = λ s w v. (
        first_by space other s (view s) w (λ w. to s w v) (λ w. back s w v),
        first_by other space (view s) s w (λ w. back s w v) (λ w. to s w v),
      );
    }

map_map : {A B C : Type 0} (g : B → C) (h : A → B) (o : Option A)
    → option_map g (option_map h o) ≡ option_map (λ a. g (h a)) o
map_map g h None = refl
map_map g h (Some a) = refl

-- A view of a view goes along with turns, as a coordinate of one of a puzzle's orbits does with the puzzle's.
pub Follows-through : {S R Q : Type 0} (space : SearchSpace S) (middle : SearchSpace R) (last : SearchSpace Q) (view : S → R) (onward : R → Q)
    → Follows space middle view → Follows middle last onward → Follows space last (λ s. onward (view s))
Follows-through space middle last view onward f g = record {
  kept = f.kept;
  valid = λ s v. g.valid (view s) (f.valid s v);
  turned = λ s t v.
      g.turned (view s) t (f.valid s v) ∙ ap (option_map onward) (f.turned s t v) ∙ map_map onward view (space.after s t);
  goals = λ s v.
      let first = f.goals s v in
      let second = g.goals (view s) (f.valid s v) in
      (λ h. second.0 (first.0 h), λ h. first.1 (second.1 h));
}

-- ---- coordinates that show the same

moved_below : (c : Coordinate) (p t q : ℕ) (b : Bool) → StaysBelow c → p < c.count → nat_lt t c.turns ≡ b
    → cond b (c.after p t) None ≡ Some q → q < c.count
moved_below c p t q true law at e h = law p t q at (ltb-true t c.turns e) h
moved_below c p t q false law at e h = absurd (cc)

moved_same : (c shown : Coordinate) (p t : ℕ) (b : Bool) → ShowsSame c shown → p < c.count → nat_lt t c.turns ≡ b
    → cond b (shown.after p t) None ≡ cond b (c.after p t) None
moved_same c shown p t true same at e = same.after p t at (ltb-true t c.turns e)
moved_same c shown p t false same at e = refl

pub Follows-same : (c shown : Coordinate) → StaysBelow c → ShowsSame c shown
    → Follows (positions c) (positions shown) (λ p. p)
Follows-same c shown law same = record {
  kept = λ p q t at e. moved_below c p t q (nat_lt t c.turns) law at refl e;
  valid = λ p at. omega (arith, same.count);
  turned = λ p t at.
      ap (λ n. cond (nat_lt t n) (shown.after p t) None) same.turns
      ∙ moved_same c shown p t (nat_lt t c.turns) same at refl ∙ sym (option_map_id (moved c p t));
  goals = λ p at. (subst IsTrue (sym (same.is_goal p at)), subst IsTrue (same.is_goal p at));
}

-- what shows the same as one that shows the same
pub ShowsSame-through : (c middle shown : Coordinate) → ShowsSame c middle → ShowsSame middle shown → ShowsSame c shown
ShowsSame-through c middle shown f g = record {
  count = g.count ∙ f.count;
  turns = g.turns ∙ f.turns;
  after = λ p t at turn. g.after p t (omega (arith, f.count)) (omega (arith, f.turns)) ∙ f.after p t at turn;
  is_goal = λ p at. g.is_goal p (omega (arith, f.count)) ∙ f.is_goal p at;
}

-- what moves show of a coordinate, they show of another name for it
pub IfOk-shows : {A E : Type 0} (r : Result A E) (moves : A → Coordinate) (c named : Coordinate) → c ≡ named
    → IfOk r (λ a. ShowsSame c (moves a)) → IfOk r (λ a. ShowsSame named (moves a))
IfOk-shows r moves c named same shows = subst (λ d. IfOk r (λ a. ShowsSame d (moves a))) same shows
