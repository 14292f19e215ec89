use Rattle.std.proofs.Common.{map, ap, ◌∙◌}
use Rattle.std.proofs.lemmas.List.{length-map}
use Rattle.scr_combinatorics.specs.Permutations.{IsPermutation}
use Rattle.scr_stages.specs.Tables.{block_turn, block_turns, edges_by}
use Rattle.scr_stages.proofs.TurnArrays.{AreTurns-moves, block_turns-parts, length-turned}
use Rattle.scr_stages.proofs.stage_turns.block_edges_turned.Goals as goal

pub returns-clause-turns : goal.returns-clause-turns
returns-clause-turns g c =
    let block = c.args.block.now in
    c.block_turns.ensures ∙ ap (λ turns. block_turns block turns c.args.numbers.now) c.edge_turns.ensures.defined
    ∙ block_turns-parts (λ r. r.edges) block c.args.numbers.now c.requires.numbers

pub returns-clause-places : goal.returns-clause-places
returns-clause-places g c =
    AreTurns-moves (λ r. IsPermutation g.row.M r.pieces) c.block_turns.result (map (block_turn c.args.block.now) (edges_by c.args.numbers.now))
    (returns-clause-turns g c) c.requires.kept
    _ (length-map (edges_by c.args.numbers.now) (block_turn c.args.block.now) ∙ length-turned (λ r. r.edges) c.args.numbers.now ∙ c.told-numbers) c.requires.some c.requires.few
