use Rattle.scr_positions.specs.SearchSpaces.{positions}
use Rattle.scr_positions.proofs.ProductLaws.{ShowsSame-product}
use Rattle.scr_positions.proofs.SearchLaws.{Follows-same, FindsTheSame-follows}
use Rattle.scr_laws.proofs.positions.shown_alike.Goals as goal

pub returns-clause-searched : goal.returns-clause-searched
returns-clause-searched c d shown law same = FindsTheSame-follows (positions d) (positions shown) (λ p. p) (Follows-same d shown law same)

pub returns-clause-products : goal.returns-clause-products
returns-clause-products c = ShowsSame-product
