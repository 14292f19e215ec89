-- Each turn of an event that has nets shows on its net.
use Rattle.std.proofs.Common.{◌≡◌, ℕ, ◌<◌, Bool, true, false, IsTrue, cond, List, [], ◌∷◌, Option, Some, None, refl, sym, ap, subst, arith, lt-ltb, ltb-true, ⊎_elim}
use Rattle.std.specs.Prelude.{◌&&◌, All, IsSome, nat_lt}
use Rattle.std.proofs.lemmas.Bool.{cases_lt}
use Rattle.std.proofs.lemmas.List.Elements.{All-head, All-tail}
use Rattle.scr_combinatorics.specs.Play.{play}
use Rattle.scr_combinatorics.proofs.PlayLaws.{play-empty, play-first}
use Rattle.scr_notation.specs.declared.event.Event.{Event}
use Rattle.scr_notation.specs.declared.event.Kind.{Kind}
use Rattle.scr_notation.specs.declared.event.Kind.TheVariants.{Faces, Axes, LayersAndTwist, PinSets, WideTurns}
use Rattle.scr_notation.specs.declared.turn.Turn.{Turn}
use Rattle.scr_notation.specs.declared.turn.Turn.TheVariants.{Face, Axis, Tip, Layers, Twist, Pins, Over, Wide}
use Rattle.scr_notation.specs.Faces.{is_face_turn}
use Rattle.scr_notation.specs.Event.{kind_of, net_side_of}
use Rattle.scr_notation.specs.Turns.{has_turn, permits}
use Rattle.scr_notation.proofs.Below.{and_first, and_second}
use Rattle.scr_notation.proofs.EachEvent.{each_passes}
use Rattle.scr_notation.proofs.NumberLaws.{face_turn_parts}
use Rattle.scr_net.specs.Nets.{Letters, net_after, solved_net, turned_net}

-- turns of fewer layers than the cube has, at the near faces and at the far ones
module _ (near far side : ℕ) (near_inside : near < side) (far_inside : far < side) where
  shown : (t : Turn) → IsTrue (is_face_turn near far t) → (net : Letters)
      → (after : Letters) × (net_after side net t ≡ Some after)
  shown (Face face depth amount) is net =
      let parts = face_turn_parts near far face depth amount is in
      let inside : depth < side =
      ⊎_elim (λ low. omega (arith, near_inside, parts.near_layers low)) (λ high. omega (arith, far_inside, parts.far_layers (omega arith))) (cases_lt face 3)
      in
      let after = turned_net side face depth amount net in
      (after, ap (λ b. cond b (Some after) None) (lt-ltb depth side inside))
  shown (Axis axis amount) is net = cc
  shown (Tip tip amount) is net = cc
  shown (Layers top bottom) is net = cc
  shown Twist is net = cc
  shown (Pins pins amount) is net = cc
  shown Over is net = cc
  shown (Wide letter plus) is net = cc

  all_shown : (turns : List Turn) → All (λ t. IsTrue (is_face_turn near far t)) turns → (net : Letters)
      → IsSome (play (net_after side) net turns)
  all_shown [] all net = subst IsSome (sym (play-empty (net_after side) net)) refl
  all_shown (t ∷ turns) all net =
      let P : Turn → Type 0 = λ u. IsTrue (is_face_turn near far u) in
      let first = shown t (All-head P t turns all) net in
      subst IsSome (sym (play-first (net_after side) net first.0 t turns first.1)) (all_shown turns (All-tail P t turns all) first.0)

-- ---- of each event

-- a cube of so many layers has those of each turn of a kind, and one more
fits : Kind → Option ℕ → Bool
fits kind None = true
fits (Faces near far) (Some side) = nat_lt near side && nat_lt far side
fits (Axes tips) (Some side) = false
fits LayersAndTwist (Some side) = false
fits PinSets (Some side) = false
fits WideTurns (Some side) = false

by_kind : (kind : Kind) (side : ℕ) → IsTrue (fits kind (Some side)) → (turns : List Turn)
    → All (λ t. IsTrue (has_turn kind t)) turns → IsSome (play (net_after side) (solved_net side) turns)
unfolding fits
by_kind (Faces near far) side inside turns all =
    let near_inside = ltb-true near side (and_first (nat_lt near side) (nat_lt far side) inside) in
    let far_inside = ltb-true far side (and_second (nat_lt near side) (nat_lt far side) inside) in
    all_shown near far side near_inside far_inside turns all (solved_net side)
by_kind (Axes tips) side inside turns all = cc
by_kind LayersAndTwist side inside turns all = cc
by_kind PinSets side inside turns all = cc
by_kind WideTurns side inside turns all = cc

pub nets-shown : (event : Event) (side : ℕ) → net_side_of event ≡ Some side → (turns : List Turn)
    → All (λ t. IsTrue (permits event t)) turns → IsSome (play (net_after side) (solved_net side) turns)
unfolding fits
nets-shown event side is turns all =
    let inside = each_passes (λ e. fits (kind_of e) (net_side_of e)) refl event in
    by_kind (kind_of event) side (subst (λ o. IsTrue (fits (kind_of event) o)) is inside) turns all
