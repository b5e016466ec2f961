-- One more entry is known: what a worker holds after it has learnt the next entry of a legal list.
-- The next entry is the one behind those that are known, and the monomial of its lead's rank is its lead.
use Rattle.std.proofs.Common.{◌≡◌, ℕ, ◌<◌, ◌≤◌, List, [], ◌∷◌, ◌++◌, length, map, get_or, refl, sym, ◌∙◌, ap, subst, arith, le_trans, length-append}
use Rattle.std.specs.Prelude.{vec_capacity}
use Rattle.std.proofs.lemmas.List.{map-append, length-map, get_or_default, get_or_at}
use Rattle.local_order.specs.Order.{IsAbove}
use Rattle.local_order.specs.Shape.{count}
use Rattle.sparse_poly.specs.Shape.{shape_of}
use Rattle.mono_rank.specs.Rank.{HasRank}
use Rattle.mono_rank.specs.Laws.{IsNumbering}
use Rattle.corner_word.specs.Marks.{IsCoverOf}
use Rattle.sparse_poly.specs.Ideal.{Problem}
use Rattle.entry_code.specs.Entry.{Entry, no_entry, entry_at}
use Rattle.mora_law.specs.Ring.{numbering_of, ranks_of_problem, generators_of, IsAdmissible}
use Rattle.mora_law.specs.Entries.{lead_rank, leads}
use Rattle.mora_law.specs.Legal.{Legal}
use Rattle.mora_law.proofs.Ring.{numbering_is, rank_is, ranks_are, ranks_count, count_is}
use Rattle.mora_law.proofs.Existence.{few_entries}
use Rattle.mora_law.proofs.Problems.{monic}
use Rattle.mora_law.proofs.SettledByRank.{lead_at}
use Rattle.mora_form.specs.State.{Knows, IsOver, AreMonicTerms}
use Rattle.run_core.specs.declared.workspace.Workspace.{Workspace}
use Rattle.run_core.specs.Work.{Holds}
use Rattle.run_core.proofs.Learnable.{legal_terms}

-- the monomial of a rank is the numbering's
pub mono_ranked : (P : Problem) → IsAdmissible P → (m : List ℕ) (r : ℕ) → HasRank (shape_of P) m r → m ≡ (numbering_of P).mono r
mono_ranked P h m r k = let W : IsNumbering P.n P.d IsAbove (numbering_of P) = numbering_is P h.some in
    sym (W.there m k.in_ring k.low) ∙ ap (numbering_of P).mono (rank_is P m ∙ k.rank)

-- there are at most as many legal entries as monomials
pub few : (P : Problem) → IsAdmissible P → (entries : List Entry) → Legal P entries → length entries ≤ count (shape_of P)
few P h entries legal = subst (λ n. length entries ≤ n) (ranks_count P ∙ count_is P) (few_entries (ranks_of_problem P) (ranks_are P h) (generators_of P) entries legal)

-- the last entry of a legal list may be learnt
pub last_terms : (P : Problem) → IsAdmissible P → (known : List Entry) (e : Entry) → Legal P (known ++ e ∷ []) → AreMonicTerms P.p (count (shape_of P)) e.terms
last_terms P h known e legal =
    subst (λ (x : Entry). AreMonicTerms P.p (count (shape_of P)) x.terms) (get_or_at known e [] no_entry (length known) refl)
    (legal_terms P h (known ++ e ∷ []) legal (length known) (omega (arith, length-append known (e ∷ []))))

-- what a worker holds once it has learnt the entry
pub learnt_one : (P : Problem) (known : List Entry) (e : Entry) (w u : Workspace) → Holds P known w → u.table ≡ w.table →
    IsOver P u.mora → Knows (known ++ e ∷ []) u.mora → u.leads.items ≡ w.leads.items ++ (numbering_of P).mono (lead_rank e.terms) ∷ [] → u.cover.shape ≡ w.cover.shape →
    IsCoverOf (map (λ (x : Entry). lead_rank x.terms) known ++ lead_rank e.terms ∷ []) u.cover → vec_capacity w.leads ≤ vec_capacity u.leads → Holds P (known ++ e ∷ []) u
learnt_one P known e w u h table over knows more same cover places = record {
  table = table ∙ h.table;
  over = over;
  knows = knows;
  leads = more ∙ ap (λ l. l ++ (numbering_of P).mono (lead_rank e.terms) ∷ []) h.leads ∙ sym (map-append (λ (x : Entry). (numbering_of P).mono (lead_rank x.terms)) known (e ∷ []));
  shape = same ∙ h.shape;
  cover = subst (λ l. IsCoverOf l u.cover) (sym (map-append (λ (x : Entry). lead_rank x.terms) known (e ∷ []))) cover;
  room = le_trans h.room places;
}

-- the leads of legal entries are monomials of the ring
pub lead_lengths : (P : Problem) → IsAdmissible P → (entries : List Entry) → Legal P entries → (ls : List (List ℕ)) → ls ≡ leads P entries → (k : ℕ) (d : List ℕ) → k < length ls → length (get_or ls k d) ≡ P.n
lead_lengths P h entries legal ls e k d l =
    let W : IsNumbering P.n P.d IsAbove (numbering_of P) = numbering_is P h.some in
    let within : k < length entries = omega (arith, l, ap length e, length-map entries (λ (x : Entry). (numbering_of P).mono (lead_rank x.terms))) in
    let small = (monic P h entries legal).small k within in
    ap length (get_or_default ls k d [] l ∙ ap (λ xs. get_or xs k []) e ∙ lead_at P entries k within) ∙ W.in_ring (lead_rank (entry_at entries k).terms) (omega (arith, small, ranks_count P))
