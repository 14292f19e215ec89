-- Laws of scrambles as contracts see them.
use Rattle.std.proofs.Common.{◌≡◌, ℕ, ◌<◌, ◌≤◌, IsTrue, List, [], ◌∷◌, ◌++◌, length, arith, length-append, subst, sym}
use Rattle.std.specs.Prelude.{All}
use Rattle.std.proofs.lemmas.List.{length-map}
use Rattle.std.proofs.lemmas.List.Elements.{All-map, All-push, All-weaker}
use Rattle.scr_notation.specs.declared.event.Event.{Event}
use Rattle.scr_notation.specs.declared.turn.Turn.{Turn}
use Rattle.scr_notation.specs.Event.{kind_of}
use Rattle.scr_notation.specs.Kinds.{IsKind}
use Rattle.scr_notation.specs.TurnNumbers.{turn_at, turn_count}
use Rattle.scr_notation.specs.Turns.{has_turn, permits}
use Rattle.scr_notation.specs.Written.{IsWritten, numbered_word}
use Rattle.scr_notation.proofs.NumberLaws.{has_turn_at}

-- one more turn of the event, where there is room
pub IsWritten-push : (event : Event) (turns more : List Turn) (t : Turn)
    → IsWritten (record { event = event; turns = turns }) → length turns < 160 → IsTrue (permits event t)
    → more ≡ turns ++ t ∷ [] → IsWritten (record { event = event; turns = more })
IsWritten-push event turns more t w l p e =
    let Q : List Turn → Type 0 = λ ts. IsWritten (record { event = event; turns = ts }) in
    subst Q (sym e)
    (record {
      room = omega (arith, length-append turns (t ∷ []));
      permitted = All-push (λ u. IsTrue (permits event u)) turns t w.permitted p;
    })

-- a word of an event's numbers is of its turns
pub IsWritten-numbered : (event : Event) (numbers : List ℕ) → IsKind (kind_of event) → length numbers ≤ 160
    → All (λ n. n < turn_count (kind_of event)) numbers → IsWritten (numbered_word event numbers)
IsWritten-numbered event numbers kind few below =
    let kind_is = kind_of event in
    record {
      room = omega (arith, few, length-map numbers (turn_at kind_is));
      permitted = All-map (λ t. IsTrue (has_turn kind_is t)) (turn_at kind_is) numbers
          (All-weaker (λ n. n < turn_count kind_is) (λ n. IsTrue (has_turn kind_is (turn_at kind_is n))) (λ n l. has_turn_at kind_is n kind l) numbers below);
    }
