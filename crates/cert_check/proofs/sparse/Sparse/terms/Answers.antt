use Rattle.std.proofs.Common.{◌≡◌, List, ℕ, sym, ◌∙◌, ap, subst}
use Rattle.std.specs.Prelude.{unwrap_or}
use Rattle.std.specs.Ordering.{nat_cmp}
use Rattle.std.specs.Map.{lookup, keys_of}
use Rattle.std.specs.BTreeMap.{is_at}
use Rattle.std.specs.List.Sorted.{IsStrictlySortedBy}
use Rattle.cert_check.proofs.MapTerms.{pairs, coef_is_lookup, rising_from_keys, all_taken, none_zero}
use Rattle.cert_check.proofs.sparse.Sparse.terms.Goals as goal

-- at the end the terms are all entries
whole : (c : goal.In-None) → pairs c.loop-rank.terms.list ≡ c.args.self.now.terms.entries
whole c = all_taken (pairs c.loop-rank.terms.list) c.loop-rank.rank-iterator c.args.self.now.terms.entries c.loop-rank.invariant c.in-None.ensures.steps.0

pub returns-clause-rising : goal.returns-clause-rising
returns-clause-rising c = rising_from_keys c.loop-rank.terms.list (subst (λ (es : List (ℕ × ℕ)). IsStrictlySortedBy nat_cmp (keys_of es)) (sym (whole c)) c.iter-rank-items.ensures.ordered)

pub returns-clause-value : goal.returns-clause-value
returns-clause-value c = λ r. coef_is_lookup c.loop-rank.terms.list r ∙ ap (λ (es : List (ℕ × ℕ)). unwrap_or (lookup (is_at (nat_cmp r)) es) 0) (whole c)

pub returns-clause-some : goal.returns-clause-some
returns-clause-some c = none_zero c.loop-rank.terms.list
    (rising_from_keys c.loop-rank.terms.list (subst (λ (es : List (ℕ × ℕ)). IsStrictlySortedBy nat_cmp (keys_of es)) (sym (whole c)) c.iter-rank-items.ensures.ordered))
    (λ r e. c.args.self.now.some r (ap (λ (es : List (ℕ × ℕ)). lookup (is_at (nat_cmp r)) es) (sym (whole c)) ∙ e))
