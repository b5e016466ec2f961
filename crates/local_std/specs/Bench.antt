-- The scripts of the bench, one for each number k up to 4,095. They ask for the Milnor number and the highest corner of the function
-- x^a + y^b + z^c + x*y*z, whose exponents k gives (ours).
use Rattle.std.specs.Prelude.{ℕ, ◌+◌, ◌/◌, ◌%◌, List, ◌++◌, codes, decimal, max}

-- the greatest number
abbrev pub max_bench : ℕ
max_bench = 4095

-- ---- the exponents
abbrev pub bench_a : ℕ → ℕ
bench_a k = 4 + k % 16

abbrev pub bench_b : ℕ → ℕ
bench_b k = 5 + k / 16 % 16

abbrev pub bench_c : ℕ → ℕ
bench_c k = 6 + k / 256

-- the noether degree: one more than the greatest of them
abbrev pub bench_degree : ℕ → ℕ
bench_degree k = max (bench_a k) (max (bench_b k) (bench_c k)) + 1

-- ---- the script
abbrev pub bench_script : ℕ → List ℕ
bench_script k =
    codes "ring r=32003,(x,y,z),ds;\noption(redSB);\nnoether=z^" ++ decimal (bench_degree k)
    ++ codes ";\npoly f=x^" ++ decimal (bench_a k) ++ codes "+y^" ++ decimal (bench_b k) ++ codes "+z^" ++ decimal (bench_c k)
    ++ codes "+x*y*z;\nideal j=jacob(f);\nmilnor(f);\nhighcorner(std(j));\n"

-- the line in front of its answer
abbrev pub bench_line : ℕ → List ℕ
bench_line k = codes "bench " ++ decimal k ++ codes "\n"
