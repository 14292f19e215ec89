-- Two models of a puzzle, where one shows the states of the other: turns reach the same, and as many are needed.
use Rattle.std.proofs.Common.{◌≡◌, ℕ, Bool, true, List, ◌++◌, Option, Some, sym, ◌∙◌, subst}
use Rattle.std.specs.Prelude.{◌↔◌}
use Rattle.std.proofs.lemmas.Option.{same_Some}
use Rattle.scr_combinatorics.specs.Play.{play}
use Rattle.scr_combinatorics.specs.Reach.{Puzzle, IsReached, Needs, IsPermitted}
use Rattle.scr_combinatorics.proofs.PlayLaws.{play-append, IsReached-play, IsReached-solved}

-- a puzzle of these turns
abbrev pub puzzle_by : {S T : Type 0} → (S → T → Option S) → (S → Type 0) → (T → ℕ) → Puzzle S
puzzle_by {T = T} after IsSolved counted = record { Turn = T; after = after; IsSolved = IsSolved; counted = counted }

-- Pictures Q show the states S of a puzzle that turns reach from one solved state: words of turns lead to the picture
-- of the state to which they lead, and to none where they lead to none; only one state has each picture; solved
-- pictures are those of solved states; and a test tells the picture of that one solved state.
pub record TwoModels (S Q T : Type 0) : Type 1 where
  pub counted : T → ℕ
  pub after : S → T → Option S
  pub IsSolved : S → Type 0
  pub solved : S
  pub turned : Q → T → Option Q
  pub IsSolvedPicture : Q → Type 0
  pub solved_picture : Q
  pub show : S → Q
  pub test : Q → Bool
  pub is_solved : IsSolved solved
  pub from_solved : (s : S) → IsReached (puzzle_by after IsSolved counted) s → (w : List T) × (play after solved w ≡ Some s)
  pub follows : (w : List T) (s : S) → play after solved w ≡ Some s → play turned solved_picture w ≡ Some (show s)
  pub only : (w : List T) (r : Q) → play turned solved_picture w ≡ Some r → (s : S) × (play after solved w ≡ Some s)
  pub one : (w v : List T) (s r : S) → play after solved w ≡ Some s → play after solved v ≡ Some r → show s ≡ show r → s ≡ r
  pub shows_solved : (s : S) → IsSolved s → IsSolvedPicture (show s)
  pub solved_shown : (r : Q) → IsSolvedPicture r → (s : S) × IsSolved s × (show s ≡ r)
  pub told : test (show solved) ≡ true
  pub told_alone : (w : List T) (s : S) → play after solved w ≡ Some s → test (show s) ≡ true → s ≡ solved

abbrev pub states : {S Q T : Type 0} → TwoModels S Q T → Puzzle S
states m = puzzle_by m.after m.IsSolved m.counted

abbrev pub pictures : {S Q T : Type 0} → TwoModels S Q T → Puzzle Q
pictures m = puzzle_by m.turned m.IsSolvedPicture m.counted

module _ {S Q T : Type 0} (m : TwoModels S Q T) where
  pub same_state : (s r : S) → IsReached (states m) s → IsReached (states m) r → m.show s ≡ m.show r → s ≡ r
  same_state s r h g e =
      let v = m.from_solved s h in let w = m.from_solved r g in m.one v.0 w.0 s r v.1 w.1 e

  pub only_solved : (s : S) → IsReached (states m) s → m.test (m.show s) ≡ true → s ≡ m.solved
  only_solved s h e = let w = m.from_solved s h in m.told_alone w.0 s w.1 e

  -- words lead on as they do from solved
  along : (s : S) (v w : List T) → play m.after m.solved v ≡ Some s
      → play m.turned m.solved_picture (v ++ w) ≡ play m.turned (m.show s) w
  along s v w e = play-append m.turned m.solved_picture (m.show s) v w (m.follows v s e)

  played : (s r : S) (w : List T) → IsReached (states m) s → play m.after s w ≡ Some r
      → play m.turned (m.show s) w ≡ Some (m.show r)
  played s r w h e =
      let v = m.from_solved s h in
      sym (along s v.0 w v.1) ∙ m.follows (v.0 ++ w) r (play-append m.after m.solved s v.0 w v.1 ∙ e)

  -- a picture to which a word leads is that of the state to which it leads
  record IsOfPlayed (s : S) (w : List T) (r : Q) : Type 0 where
    state : S
    leads : play m.after s w ≡ Some state
    shows : m.show state ≡ r

  of_played : (s : S) (w : List T) (r : Q) → IsReached (states m) s → play m.turned (m.show s) w ≡ Some r
      → IsOfPlayed s w r
  of_played s w r h e =
      let v = m.from_solved s h in
      let comes = m.only (v.0 ++ w) r (along s v.0 w v.1 ∙ e) in
      record {
        state = comes.0;
        leads = sym (play-append m.after m.solved s v.0 w v.1) ∙ comes.1;
        shows = same_Some _ _ (sym (m.follows (v.0 ++ w) comes.0 comes.1) ∙ along s v.0 w v.1 ∙ e);
      }

  -- ---- what is reached

  pub IsReached-shown : (s : S) → IsReached (states m) s → IsReached (pictures m) (m.show s)
  IsReached-shown s h =
      (h.0, m.show h.1, m.shows_solved h.1 h.2, played h.1 s h.0 (IsReached-solved (states m) h.1 h.2) h.3)

  -- a picture is that of a state which turns reach
  pub record IsOfReached (r : Q) : Type 0 where
    pub state : S
    pub reached : IsReached (states m) state
    pub shows : m.show state ≡ r

  pub of_reached : (r : Q) → IsReached (pictures m) r → IsOfReached r
  of_reached r h =
      let start = m.solved_shown h.1 h.2 in
      let first = IsReached-solved (states m) start.0 start.1 in
      let end = of_played start.0 h.0 r first (subst (λ x. play m.turned x h.0 ≡ Some r) (sym start.2) h.3) in
      record {
        state = end.state;
        reached = IsReached-play (states m) start.0 end.state h.0 first end.leads;
        shows = end.shows;
      }

  IsSolved-shown : (s : S) → IsReached (states m) s → m.IsSolvedPicture (m.show s) → m.IsSolved s
  IsSolved-shown s h solved =
      let start = m.solved_shown (m.show s) solved in
      subst m.IsSolved (same_state start.0 s (IsReached-solved (states m) start.0 start.1) h start.2) start.1

  -- ---- how many turns it needs

  pub Needs-shown : (s : S) (least : ℕ) → IsReached (states m) s
      → Needs (states m) s least ↔ Needs (pictures m) (m.show s) least
  Needs-shown s least h = (
    λ needs w r few e solved.
        let end = of_played s w r h e in
        let reached = IsReached-play (states m) s end.state w h end.leads in
        needs w end.state few end.leads (IsSolved-shown end.state reached (subst m.IsSolvedPicture (sym end.shows) solved)),
    λ needs w r few e solved. needs w (m.show r) few (played s r w h e) (m.shows_solved r solved),
  )

  pub IsPermitted-shown : (s : S) (least : ℕ) → IsPermitted (states m) least s
      → IsPermitted (pictures m) least (m.show s)
  IsPermitted-shown s least h = (IsReached-shown s h.0, (Needs-shown s least h.0).0 h.1)

  -- a picture is that of a state which may be drawn
  pub record IsOfPermitted (least : ℕ) (r : Q) : Type 0 where
    pub state : S
    pub permitted : IsPermitted (states m) least state
    pub shows : m.show state ≡ r

  pub of_permitted : (r : Q) (least : ℕ) → IsPermitted (pictures m) least r → IsOfPermitted least r
  of_permitted r least h =
      let of = of_reached r h.0 in
      let needs = subst (λ x. Needs (pictures m) x least) (sym of.shows) h.1 in
      record { state = of.state; permitted = (of.reached, (Needs-shown of.state least of.reached).1 needs); shows = of.shows }
