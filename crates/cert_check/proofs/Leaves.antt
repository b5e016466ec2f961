-- What is left of the start of an item, and the leads as monomials.
-- Division sees what agrees alone, and a vector of residues that agrees with 0 is 0.
use Rattle.std.proofs.Common.{◌≡◌, ℕ, ◌+◌, ◌<◌, ◌≤◌, ◌↔◌, List, [], ◌∷◌, ◌++◌, length, get_or, take, All, sym, ◌∙◌, ap, subst, arith, inl, inr}
use Rattle.std.proofs.lemmas.List.{take_more, get_or-map, length-map}
use Rattle.sparse_poly.specs.Ideal.{Problem}
use Rattle.entry_code.specs.declared.item.Item.{Item}
use Rattle.entry_code.specs.declared.item.Item.TheVariants.{Generator}
use Rattle.entry_code.specs.declared.term.Term.{Term}
use Rattle.entry_code.specs.Entry.{Entry, no_entry, entry_at}
use Rattle.mono_rank.specs.Rank.{mono_at}
use Rattle.rank_algebra.specs.Vector.{Vector, Agree}
use Rattle.rank_algebra.specs.Division.{remainder}
use Rattle.rank_algebra.proofs.Linear.{agree_sym, agree_trans}
use Rattle.rank_algebra.proofs.Corner.{corner_is}
use Rattle.mora_law.specs.Ring.{numbering_of, ranks_of_problem, IsAdmissible, generators_of}
use Rattle.mora_law.specs.Entries.{basis_of, lead_rank, corner, leads}
use Rattle.mora_law.specs.Start.{start}
use Rattle.mora_law.specs.Settled.{LeavesNothing}
use Rattle.mora_law.proofs.Ring.{numbering_is, ranks_count, ranks_are}
use Rattle.cert_check.specs.Accepted.{IsDivided}
use Rattle.cert_check.specs.Sparse.{IsClean, AreEntries}
use Rattle.cert_check.proofs.Dividing.{remainder_below}
use Rattle.cert_check.proofs.MonicTerms.{zero_of_nothing, nothing_of_zero}

-- one lead more
pub leads_more : (P : Problem) (entries : List Entry) (k : ℕ) (m : List ℕ) (ms ks : List (List ℕ)) → k < length entries → (numbering_of P).mono (lead_rank (entry_at entries k).terms) ≡ m
    → ms ≡ take k (leads P entries) → ks ≡ ms ++ m ∷ [] → ks ≡ take (k + 1) (leads P entries)
leads_more P entries k m ms ks l e h g =
    g ∙ ap (λ (xs : List (List ℕ)). xs ++ m ∷ []) h
    ∙ sym (take_more (leads P entries) k m (omega (arith, l, length-map entries (λ (x : Entry). (numbering_of P).mono (lead_rank x.terms))))
    ∙ ap (λ (x : List ℕ). take k (leads P entries) ++ x ∷ []) (get_or-map (λ (x : Entry). (numbering_of P).mono (lead_rank x.terms)) entries k no_entry m l ∙ e))

-- the first rank of some terms is within the ring
pub lead_within : (P : Problem) (entries : List Entry) → AreEntries P entries → (k : ℕ) → k < length entries → lead_rank (entry_at entries k).terms < (ranks_of_problem P).n
lead_within P entries s k l = go (entry_at entries k).terms (s k no_entry l).some (s k no_entry l).terms.ranks
  where
    go : (ts : List Term) → 0 < length ts → All (λ (t : Term). t.rank < (ranks_of_problem P).n) ts → lead_rank ts < (ranks_of_problem P).n
    go [] m h = absurd (omega (arith, m))
    go (t ∷ ts) m h = h 0 t m

-- a lead as a monomial is in the variables of the ring
lead_long : (P : Problem) → IsAdmissible P → (entries : List Entry) → AreEntries P entries → (k : ℕ) (d : List ℕ) → k < length (leads P entries) → length (get_or (leads P entries) k d) ≡ P.n
lead_long P h entries s k d l =
    let m : k < length entries = omega (arith, l, length-map entries (λ (x : Entry). (numbering_of P).mono (lead_rank x.terms))) in
    ap length (get_or-map (λ (x : Entry). (numbering_of P).mono (lead_rank x.terms)) entries k no_entry d m)
    ∙ (numbering_is P h.some).in_ring (lead_rank (entry_at entries k).terms) (omega (arith, lead_within P entries s k m, ranks_count P))

-- so all are as long as one of them
pub leads_long : (P : Problem) → IsAdmissible P → (entries : List Entry) → AreEntries P entries → (i : ℕ) → i < length entries → (k : ℕ) (d : List ℕ) → k < length (leads P entries) → length (get_or (leads P entries) k d) ≡ length (mono_at (leads P entries) i)
leads_long P h entries s i l k d m = lead_long P h entries s k d m ∙ sym (lead_long P h entries s i [] (omega (arith, l, length-map entries (λ (x : Entry). (numbering_of P).mono (lead_rank x.terms)))))

-- the corner is a rank, or their number
pub corner_within : (P : Problem) → IsAdmissible P → (entries : List Entry) → corner P entries ≤ (ranks_of_problem P).n
corner_within P h entries = (corner_is (ranks_of_problem P) (ranks_are P h) (basis_of entries)).within

-- division leaves nothing exactly where the map is empty at the end
pub leaves_is : (P : Problem) → IsAdmissible P → (entries : List Entry) (item : Item) (v u : Vector) (w : ℕ) → w ≡ corner P entries
    → Agree (ranks_of_problem P) w v (start P entries item) → Agree (ranks_of_problem P) (ranks_of_problem P).n u (remainder (ranks_of_problem P) (basis_of entries) w v) → IsClean P u
    → ((r : ℕ) → u r ≡ 0) ↔ LeavesNothing (ranks_of_problem P) (generators_of P) entries item
leaves_is P h entries item v u w e a b clean = (
  λ z. agree_trans (agree_sym told) (nothing_of_zero (ranks_of_problem P) u z),
  λ n. zero_of_nothing P u clean (agree_trans told n),
)
  where
    told : Agree (ranks_of_problem P) (ranks_of_problem P).n u (remainder (ranks_of_problem P) (basis_of entries) (corner P entries) (start P entries item))
    told = agree_trans (subst (λ x. Agree (ranks_of_problem P) (ranks_of_problem P).n u (remainder (ranks_of_problem P) (basis_of entries) x v)) e b)
        (remainder_below (ranks_of_problem P) (basis_of entries) (corner P entries) (corner P entries) 0 v (start P entries item) (omega arith) (subst (λ x. Agree (ranks_of_problem P) x v (start P entries item)) e a))

-- a generator is divided exactly where nothing is left of it
pub generator_is : (P : Problem) (entries : List Entry) (g : ℕ) → IsDivided P entries (Generator g) → LeavesNothing (ranks_of_problem P) (generators_of P) entries (Generator g)
generator_is P entries g (inl n) = absurd n
generator_is P entries g (inr n) = n
