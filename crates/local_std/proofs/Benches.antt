-- What is due for a bench: the answer to its script, which is in the grammar and short, behind the line with its number.
-- Nothing is read.
use Rattle.std.proofs.Common.{◌≡◌, ℕ, ◌≤◌, List, ◌++◌, length, codes, decimal, refl, ◌∙◌, ap, subst, arith, length-append}
use Rattle.std.proofs.lemmas.Fmt.{length-decimal-le}
use Rattle.script_grammar.specs.declared.script.Script.{Script}
use Rattle.script_grammar.specs.Limits.{max_script}
use Rattle.script_grammar.specs.Trees.{Tree}
use Rattle.script_grammar.specs.Valid.{IsScript}
use Rattle.script_grammar.specs.Meaning.{meaning}
use Rattle.script_grammar.proofs.ValidScriptIsRead.{script_once}
use Rattle.local_std.specs.declared.outcome.Status.{Status}
use Rattle.local_std.specs.Bench.{max_bench, bench_a, bench_b, bench_c, bench_degree, bench_script, bench_line}
use Rattle.local_std.specs.Words.{bench}
use Rattle.local_std.specs.Lent.{Lent, IsUntouched}
use Rattle.local_std.specs.Answer.{Solves}
use Rattle.local_std.specs.Due.{SolvesBehind, RequestDue, Served}
use Rattle.local_std.proofs.BenchScripts.{small_numbers}

-- its script is short
pub bench_short : (k : ℕ) → k ≤ max_bench → length (bench_script k) ≤ max_script
bench_short k low =
    let s = small_numbers k low in
    let two : (n : ℕ) → n ≤ 22 → length (decimal n) ≤ 2 = λ n l. length-decimal-le 2 n (omega arith) (omega (arith, l)) (omega (arith, l)) in
    short (decimal (bench_degree k)) (decimal (bench_a k)) (decimal (bench_b k)) (decimal (bench_c k)) (two _ s.1) (two _ s.2) (two _ s.3) (two _ s.4)
  where
    short : (d a b c : List ℕ) → length d ≤ 2 → length a ≤ 2 → length b ≤ 2 → length c ≤ 2 →
        length (codes "ring r=32003,(x,y,z),ds;\noption(redSB);\nnoether=z^" ++ d
        ++ codes ";\npoly f=x^" ++ a ++ codes "+y^" ++ b ++ codes "+z^" ++ c
        ++ codes "+x*y*z;\nideal j=jacob(f);\nmilnor(f);\nhighcorner(std(j));\n") ≤ max_script
    short d a b c few_d few_a few_b few_c = omega (
      arith,
      few_d,
      few_a,
      few_b,
      few_c,
      length-append (codes "ring r=32003,(x,y,z),ds;\noption(redSB);\nnoether=z^" ++ d ++ codes ";\npoly f=x^" ++ a ++ codes "+y^" ++ b ++ codes "+z^" ++ c) (codes "+x*y*z;\nideal j=jacob(f);\nmilnor(f);\nhighcorner(std(j));\n"),
      length-append (codes "ring r=32003,(x,y,z),ds;\noption(redSB);\nnoether=z^" ++ d ++ codes ";\npoly f=x^" ++ a ++ codes "+y^" ++ b ++ codes "+z^") c,
      length-append (codes "ring r=32003,(x,y,z),ds;\noption(redSB);\nnoether=z^" ++ d ++ codes ";\npoly f=x^" ++ a ++ codes "+y^" ++ b) (codes "+z^"),
      length-append (codes "ring r=32003,(x,y,z),ds;\noption(redSB);\nnoether=z^" ++ d ++ codes ";\npoly f=x^" ++ a ++ codes "+y^") b,
      length-append (codes "ring r=32003,(x,y,z),ds;\noption(redSB);\nnoether=z^" ++ d ++ codes ";\npoly f=x^" ++ a) (codes "+y^"),
      length-append (codes "ring r=32003,(x,y,z),ds;\noption(redSB);\nnoether=z^" ++ d ++ codes ";\npoly f=x^") a,
      length-append (codes "ring r=32003,(x,y,z),ds;\noption(redSB);\nnoether=z^" ++ d) (codes ";\npoly f=x^"),
      length-append (codes "ring r=32003,(x,y,z),ds;\noption(redSB);\nnoether=z^") d,
    )

-- What answers its script, behind its line, is due.
pub bench_due : (k : ℕ) → k ≤ max_bench → (tree : Tree) → IsScript (bench_script k) tree → (s : Script) → s ≡ meaning tree → (line : List ℕ) → line ≡ bench_line k →
    (status : Status) (text proof : List ℕ) → SolvesBehind line s status text proof → RequestDue (bench k) (bench_script k) status text proof
bench_due k low tree is s e line line_is status text proof (blocks, h, spelled) = (
  blocks,
  record {
    tree = tree;
    script = record { few = bench_short k low; is_script = is; only = λ other o. script_once (bench_script k) other tree o is };
    answer = subst (λ z. Solves z status blocks proof) e h;
  },
  spelled ∙ ap (λ (z : List ℕ). z ++ blocks) line_is,
)

-- It is served by its script, with the source as it was
pub bench_served : {S : Type 0} (source : Lent S) (k : ℕ) → IsUntouched source → (status : Status) (text proof : List ℕ) → RequestDue (bench k) (bench_script k) status text proof → Served (bench k) source status text proof
bench_served source k kept status text proof is_due = record { input = bench_script k; reads = (kept, refl); is_due = is_due }
