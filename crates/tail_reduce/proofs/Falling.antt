-- The terms of a vector are in falling order: their ranks rise, and their coefficients are residues.
-- By induction on the ranks; what is said of them one after another then holds of any two.
use Rattle.std.proofs.Common.{◌≡◌, ℕ, zero, suc, ◌+◌, ◌%◌, ◌<◌, ◌≤◌, List, [], ◌∷◌, get_or, All, Some, Bool, true, false, sym, ap, subst, arith}
use Rattle.std.specs.Prelude.{⊤}
use Rattle.std.specs.List.{slice_get}
use Rattle.std.proofs.Math.Nat
use Rattle.std.proofs.lemmas.Option.{slice_get-get_or}
use Rattle.local_order.specs.Shape.{count}
use Rattle.sparse_poly.specs.Shape.{shape_of}
use Rattle.sparse_poly.specs.Ideal.{Problem}
use Rattle.entry_code.specs.declared.term.Term.{Term}
use Rattle.entry_code.specs.Terms.{HasRisingRanks}
use Rattle.rank_algebra.specs.Ranks.{Ranks}
use Rattle.rank_algebra.specs.Vector.{Vector}
use Rattle.mora_law.specs.Ring.{numbering_of, ranks_of_problem, IsAdmissible}
use Rattle.mora_law.specs.Lead.{is_none_at}
use Rattle.mora_law.specs.Entries.{terms_of}
use Rattle.mora_law.proofs.Terms.{term_by, terms_from, terms_walk}

-- terms in falling order, with ranks from `from` on and below n, and with residues as coefficients
abbrev pub AreFalling : ℕ → ℕ → ℕ → List Term → Type 0
AreFalling p n from [] = ⊤
AreFalling p n from (t ∷ ts) = (from ≤ t.rank) × (t.rank < n) × (t.coef < p) × AreFalling p n (suc t.rank) ts

-- falling terms have a rank and a residue each
term_small : (p n from : ℕ) (ts : List Term) (i : ℕ) (t : Term) → AreFalling p n from ts → slice_get ts i ≡ Some t → (from ≤ t.rank) × (t.rank < n) × (t.coef < p)
term_small p n from [] i t h e = absurd (cc e)
term_small p n from (s ∷ ts) zero t h e =
    let z : s ≡ t = cc e in
    subst (λ x. (from ≤ x.rank) × (x.rank < n) × (x.coef < p)) z (h.0, h.1, h.2)
term_small p n from (s ∷ ts) (suc i) t h e = let k = term_small p n (suc s.rank) ts i t h.3 e in (omega (arith, h.0, k.0), k.1, k.2)

-- a later term has a greater rank
term_later : (p n from : ℕ) (ts : List Term) (i j : ℕ) (t s : Term) → AreFalling p n from ts → slice_get ts i ≡ Some t → slice_get ts j ≡ Some s → i < j → t.rank < s.rank
term_later p n from [] i j t s h e f l = absurd (cc e)
term_later p n from (x ∷ ts) i zero t s h e f l = absurd (omega arith)
term_later p n from (x ∷ ts) zero (suc j) t s h e f l =
    let z : x ≡ t = cc e in
    omega (arith, ap (λ (y : Term). y.rank) z, (term_small p n (suc x.rank) ts j s h.3 f).0)
term_later p n from (x ∷ ts) (suc i) (suc j) t s h e f l = term_later p n (suc x.rank) ts i j t s h.3 e f (omega arith)

-- so the ranks rise
pub rising : (p n : ℕ) (ts : List Term) → AreFalling p n 0 ts → HasRisingRanks n ts
rising p n ts h = record {
  rising = λ i j t s l e f. term_later p n 0 ts i j t s h e f l;
  low = λ k d l. (term_small p n 0 ts k (get_or ts k d) h (slice_get-get_or ts k d l)).1;
}

-- and the coefficients are residues
pub residues : (p n : ℕ) (ts : List Term) → AreFalling p n 0 ts → All (λ t. t.coef < p) ts
residues p n ts h = λ k d l. (term_small p n 0 ts k (get_or ts k d) h (slice_get-get_or ts k d l)).2

-- a lesser rank to fall from
falling_from : (p n from low : ℕ) (ts : List Term) → low ≤ from → AreFalling p n from ts → AreFalling p n low ts
falling_from p n from low [] l h = tt
falling_from p n from low (t ∷ ts) l h = (omega (arith, l, h.0), h.1, h.2, h.3)

-- the terms of the ranks from r on are in falling order
falling_walk : (R : Ranks) (v : Vector) (left r : ℕ) → 0 < R.p → r + left ≤ R.n → AreFalling R.p R.n r (terms_from R left r v)
falling_walk R v zero r pos l = tt
falling_walk R v (suc left) r pos l = go (is_none_at R v r) (falling_walk R v left (suc r) pos (omega arith))
  where
    go : (b : Bool) → AreFalling R.p R.n (suc r) (terms_from R left (suc r) v) → AreFalling R.p R.n r (term_by r (v r % R.p) (terms_from R left (suc r) v) b)
    go true h = falling_from R.p R.n (suc r) r (terms_from R left (suc r) v) (omega arith) h
    go false h = (omega arith, omega arith, Nat.mod-lt (v r) pos, h)

-- so are all terms of a vector
pub falling_terms : (P : Problem) (v : Vector) → IsAdmissible P → AreFalling P.p (count (shape_of P)) 0 (terms_of (ranks_of_problem P) v)
unfolding ranks_of_problem numbering_of
falling_terms P v h =
    subst (AreFalling P.p (count (shape_of P)) 0) (sym (terms_walk (ranks_of_problem P) v)) (falling_walk (ranks_of_problem P) v (count (shape_of P)) 0 (omega (arith, h.prime.two_up)) (omega arith))
