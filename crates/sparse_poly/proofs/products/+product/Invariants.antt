use Rattle.std.proofs.Common.{length}
use Rattle.sparse_poly.proofs.products.+product.Given as goal

abbrev pub decreases-product : goal.decreases-product
decreases-product l = length l.mine.now
