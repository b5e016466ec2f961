use Rattle.std.proofs.Common.{◌≡◌, ℕ, ◌≤◌, List, length, sym, ◌∙◌, subst}
use Rattle.script_grammar.specs.Limits.{max_script}
use Rattle.script_grammar.specs.Trees.{Tree}
use Rattle.script_grammar.specs.Valid.{IsScript}
use Rattle.script_grammar.specs.Meaning.{meaning}
use Rattle.local_std.specs.Bench.{bench_script}
use Rattle.local_std.proofs.BenchScripts.{bench_tree_of, bench_is_script}
use Rattle.local_std.proofs.Benches.{bench_short}
use Rattle.local_std.proofs.bench.read_bench.Goals as goal

pub read_script-requires : goal.read_script-requires
read_script-requires c =
    let bytes : c.as_bytes.result.now ≡ bench_script c.args.number = c.as_bytes.ensures.value ∙ c.in_ok-script.ensures in
    subst (λ (l : List ℕ). length l ≤ max_script) (sym bytes) (bench_short c.args.number c.requires)

pub unreachable-requires : goal.unreachable-requires
unreachable-requires c =
    let k = c.args.number in
    let bytes : c.as_bytes.result.now ≡ bench_script k = c.as_bytes.ensures.value ∙ c.in_ok-script.ensures in
    let only = rw c.in-Err-At.field-0-is at c.in-Err-At.ensures.only in
    let no = only (bench_tree_of k) (subst (λ (l : List ℕ). IsScript l (bench_tree_of k)) (sym bytes) (bench_is_script k c.requires)) in
    absurd (cc (no.1))

pub returns-in-Ok-clause-found : goal.returns-in-Ok-clause-found
returns-in-Ok-clause-found c =
    let bytes : c.as_bytes.result.now ≡ bench_script c.args.number = c.as_bytes.ensures.value ∙ c.in_ok-script.ensures in
    subst (λ (l : List ℕ). (t : Tree) × IsScript l t × (c.in-Ok.read ≡ meaning t)) bytes c.in-Ok.ensures.found
