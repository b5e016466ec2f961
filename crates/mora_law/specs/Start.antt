-- Where a run begins.
use Rattle.std.specs.Prelude.{List}
use Rattle.rank_algebra.specs.Ranks.{Ranks}
use Rattle.sparse_poly.specs.Ideal.{Problem}
use Rattle.entry_code.specs.declared.item.Item.{Item}
use Rattle.entry_code.specs.declared.item.Item.TheVariants.{Generator, Pair}
use Rattle.entry_code.specs.declared.reading.Reading.{Reading}
use Rattle.entry_code.specs.Entry.{Entry}
use Rattle.rank_algebra.specs.Vector.{Vector}
use Rattle.rank_algebra.specs.Division.{Basis, pair}
use Rattle.mora_law.specs.Ring.{ranks_of_problem, generators_of}
use Rattle.rank_algebra.specs.Ideal.{Generators}
use Rattle.mora_law.specs.Step.{Run}
use Rattle.mora_law.specs.Run.{run_from}
use Rattle.mora_law.specs.Entries.{basis_of}

-- the generator of an item, or the S-pair of its two entries
abbrev pub start_of : Ranks → Generators → Basis → Item → Vector
start_of R G B (Generator g) = G.member g
start_of R G B (Pair i j) = pair R B i j

-- the run of an item over the members of a basis
abbrev pub run_of : Ranks → Generators → Basis → Item → List Reading → Run
run_of R G B item reads = run_from R B.member (start_of R G B item) reads

-- the vector from which the runs of an item begin
abbrev pub start : Problem → List Entry → Item → Vector
start P entries item = start_of (ranks_of_problem P) (generators_of P) (basis_of entries) item

-- the run of an item by these readings
abbrev pub run : Problem → List Entry → Item → List Reading → Run
run P entries item reads = run_of (ranks_of_problem P) (generators_of P) (basis_of entries) item reads
