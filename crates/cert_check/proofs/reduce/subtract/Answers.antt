use Rattle.std.proofs.Common.{◌≡◌, ◌<◌, ◌+◌, ◌*◌, ◌-◌, ◌%◌, cond, eqb, ◌∙◌, ap, ap₂, arith}
use Rattle.cert_check.specs.Sparse.{at}
use Rattle.mora_law.specs.Ring.{ranks_of_problem}
use Rattle.mora_law.proofs.Ring.{problem_is_admissible}
use Rattle.cert_check.proofs.Stored.{rank_within, coef_residue}
use Rattle.cert_check.proofs.Tables.{small, left_ranked, right_ranked, times_missed, times_found}
use Rattle.cert_check.proofs.SubtractedSoFar.{none_so_far, rest_left_out, one_more_term}
use Rattle.cert_check.proofs.reduce.subtract.Goals as goal

pub loop-k-init : goal.loop-k-init
loop-k-init c = none_so_far c.args.problem.now (problem_is_admissible _ c.requires.problem) _ _ _ _ c.requires.clean

pub times_rank-requires-clause-first : goal.times_rank-requires-clause-first
times_rank-requires-clause-first c = small c.args.problem.now _ _ c.requires.table c.requires.cofactor

pub times_rank-requires-clause-second : goal.times_rank-requires-clause-second
times_rank-requires-clause-second c = small c.args.problem.now _ _ c.requires.table (rank_within c.args.problem.now c.args.terms.now.list c.requires.terms c.loop-k.k c.get-t.result c.get-t.ensures)

pub mul-requires-clause-b_residue : goal.mul-requires-clause-b_residue
mul-requires-clause-b_residue c = let l = coef_residue c.args.problem.now c.args.terms.now.list c.requires.terms c.loop-k.k c.get-t.result c.get-t.ensures in omega (arith, l, c.field-field.ensures.value)

pub returns-in_default-clause-value : goal.returns-in_default-clause-value
returns-in_default-clause-value c =
    (rest_left_out c.args.problem.now (problem_is_admissible _ c.requires.problem) c.args.factor c.args.cofactor c.args.below (at c.args.h.now.terms)
    c.args.terms.now.list c.requires.terms.rising c.loop-k.k c.get-t.result c.get-t.ensures (at c.loop-k.h.terms) c.loop-k.invariant
    (λ l. absurd (times_missed c.args.problem.now c.requires.problem.some _ c.requires.table c.args.cofactor c.get-t.result.rank c.requires.cofactor small_term
    (c.in_default.ensures _ _ (left_ranked c.args.problem.now c.requires.problem.some _ c.requires.table _ _ c.requires.cofactor small_term)
    (right_ranked c.args.problem.now c.requires.problem.some _ c.requires.table _ _ c.requires.cofactor small_term)) l))).value
  where
    small_term : c.get-t.result.rank < (ranks_of_problem c.args.problem.now).n
    small_term = rank_within c.args.problem.now c.args.terms.now.list c.requires.terms c.loop-k.k c.get-t.result c.get-t.ensures

pub returns-then-rank-below-clause-value : goal.returns-then-rank-below-clause-value
returns-then-rank-below-clause-value c =
    (rest_left_out c.args.problem.now (problem_is_admissible _ c.requires.problem) c.args.factor c.args.cofactor c.args.below (at c.args.h.now.terms)
    c.args.terms.now.list c.requires.terms.rising c.loop-k.k c.get-t.result c.get-t.ensures (at c.loop-k.h.terms) c.loop-k.invariant
    (λ l. omega (arith, found.0, c.if-rank-below.true))).value
  where
    small_term : c.get-t.result.rank < (ranks_of_problem c.args.problem.now).n
    small_term = rank_within c.args.problem.now c.args.terms.now.list c.requires.terms c.loop-k.k c.get-t.result c.get-t.ensures

    found : ((ranks_of_problem c.args.problem.now).times c.args.cofactor c.get-t.result.rank ≡ c.in-Some.rank) × (c.in-Some.rank < (ranks_of_problem c.args.problem.now).n)
    found = times_found c.args.problem.now c.requires.problem.some _ c.requires.table _ _ c.requires.cofactor small_term c.in-Some.rank
        (c.in-Some.ensures _ _ (left_ranked c.args.problem.now c.requires.problem.some _ c.requires.table _ _ c.requires.cofactor small_term)
        (right_ranked c.args.problem.now c.requires.problem.some _ c.requires.table _ _ c.requires.cofactor small_term))

pub loop-k-preserved : goal.loop-k-preserved
loop-k-preserved c =
    one_more_term c.args.problem.now (problem_is_admissible _ c.requires.problem) c.args.factor c.args.cofactor c.args.below (at c.args.h.now.terms)
    c.args.terms.now.list c.requires.terms.rising c.loop-k.k c.get-t.result c.get-t.ensures c.requires.factor (at c.loop-k.h.terms) (at c.add_at.new.self.terms)
    c.mul.result c.in-Some.rank found.0 found.1 c.if-rank-below.false c.loop-k.invariant
    (c.mul.ensures.value ∙ ap₂ (λ m p. (m * c.get-t.result.coef) % p) (c.neg-minus.ensures.value ∙ ap (λ p. (p - c.args.factor) % p) c.field-field.ensures.value) c.field-field.ensures.value)
    (λ r. c.in_ok-add_at.ensures r ∙ ap (λ p. cond (eqb c.in-Some.rank r) ((at c.loop-k.h.terms r + c.mul.result) % p) (at c.loop-k.h.terms r)) c.field-field.ensures.value)
  where
    small_term : c.get-t.result.rank < (ranks_of_problem c.args.problem.now).n
    small_term = rank_within c.args.problem.now c.args.terms.now.list c.requires.terms c.loop-k.k c.get-t.result c.get-t.ensures

    found : ((ranks_of_problem c.args.problem.now).times c.args.cofactor c.get-t.result.rank ≡ c.in-Some.rank) × (c.in-Some.rank < (ranks_of_problem c.args.problem.now).n)
    found = times_found c.args.problem.now c.requires.problem.some _ c.requires.table _ _ c.requires.cofactor small_term c.in-Some.rank
        (c.in-Some.ensures _ _ (left_ranked c.args.problem.now c.requires.problem.some _ c.requires.table _ _ c.requires.cofactor small_term)
        (right_ranked c.args.problem.now c.requires.problem.some _ c.requires.table _ _ c.requires.cofactor small_term))
