use Rattle.local_std.proofs.BenchScripts.{bench_tree_of, bench_is_script}
use Rattle.local_std.proofs.laws.bench_scripts.Goals as goal

pub returns : goal.returns
returns c = λ k low. (bench_tree_of k, bench_is_script k low)
