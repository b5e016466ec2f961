-- A member of the ideal with its lead up to the degree gives a lead of the ideal.
-- A multiple by a monomial has the multiple of the lead for its lead, so leads are closed under multiples.
use Rattle.std.proofs.Common.{◌≡◌, ◌≢◌, ℕ, ◌%◌, ◌≤◌, ◌⊎◌, List, length, Contains, ap, sym, ◌∙◌, inl, inr, subst, arith}
use Rattle.std.proofs.Math.Nat.{zero-mod, one-mul}
use Rattle.local_order.specs.Mono.{degree, mono_times, Divides}
use Rattle.local_order.specs.Order.{IsAbove}
use Rattle.local_order.proofs.Order.{above_cases, above_irrefl, above_trans, above-mono_times, degree_of_above, degree-mono_times, divides_cases, mono_times_comm}
use Rattle.sparse_poly.specs.Poly.{Poly, total, coef, IsIn, term_times}
use Rattle.sparse_poly.specs.Ideal.{Problem, IsLead, IsInIdeal, IsLeadOfIdeal, IsStaircase}
use Rattle.sparse_poly.proofs.Coef.{total-cut_in, total-term_times, total-shift_off}
use Rattle.sparse_poly.proofs.Member.{AllIn, in-term_times, IsInIdeal-term_times}

-- the lead of a member is one of the ideal
pub IsLeadOfIdeal-member : (P : Problem) (f : Poly) (m : List ℕ) → IsIn P.n f → IsInIdeal P f → degree m ≤ P.d → IsLead P f m → IsLeadOfIdeal P m
IsLeadOfIdeal-member P f m i h low lead = record {
  low = low;
  member = f;
  in_ring = i;
  is_in = h;
  lead = record {
    in_ring = lead.in_ring;
    there = λ z. lead.there (sym (ap (λ x. x % P.p) (total-cut_in P.d f m low)) ∙ z);
    greatest = λ k l a. ap (λ x. x % P.p) (total-cut_in P.d f k (omega (arith, degree_of_above k m a, low))) ∙ lead.greatest k l a;
  };
}

-- at a lead its member isn't 0
pub lead_there : (P : Problem) (m : List ℕ) (x : IsLeadOfIdeal P m) → coef P.p x.member m ≢ 0
lead_there P m x z = x.lead.there (ap (λ y. y % P.p) (total-cut_in P.d x.member m x.low) ∙ z)

-- above it the member is 0
pub lead_greatest : (P : Problem) (m : List ℕ) (x : IsLeadOfIdeal P m) (k : List ℕ) → length k ≡ P.n → IsAbove k m → coef P.p x.member k ≡ 0
lead_greatest P m x k l a =
    sym (ap (λ y. y % P.p) (total-cut_in P.d x.member k (omega (arith, degree_of_above k m a, x.low)))) ∙ x.lead.greatest k l a

-- ---- multiples
module _ (p n : ℕ) (b a : List ℕ) (f : Poly) (i : IsIn n f) (bl : length b ≡ n) (al : length a ≡ n) where
  -- the coefficient of the multiple at a multiple is that of the polynomial
  coef-moved : (k : List ℕ) → length k ≡ n → coef p (term_times 1 b f) (mono_times b k) ≡ coef p f k
  coef-moved k l = ap (λ x. x % p) (total-term_times 1 b f k n i bl l ∙ one-mul (total f k))

  -- above the multiple of the lead it is 0
  above_multiple : ((k : List ℕ) → length k ≡ n → IsAbove k a → coef p f k ≡ 0) → (q : List ℕ) → length q ≡ n → IsAbove q (mono_times b a) → coef p (term_times 1 b f) q ≡ 0
  above_multiple greatest q l up = go (divides_cases b q (bl ∙ sym l))
    where
      at : (k : List ℕ) → length k ≡ n → q ≡ mono_times b k → (k ≡ a) ⊎ (IsAbove k a ⊎ IsAbove a k) → coef p f k ≡ 0
      at k kl e (inl s) = absurd (above_irrefl (mono_times b a) (subst (λ x. IsAbove x (mono_times b a)) (e ∙ ap (mono_times b) s) up))
      at k kl e (inr (inl h)) = greatest k kl h
      at k kl e (inr (inr h)) =
          absurd (above_irrefl (mono_times b a)
          (above_trans (mono_times b a) (mono_times b k) (mono_times b a) (above-mono_times b a k (bl ∙ sym al) (bl ∙ sym kl) h) (subst (λ x. IsAbove x (mono_times b a)) e up)))

      go : Divides b q ⊎ ((k : List ℕ) → length k ≡ length q → q ≢ mono_times b k) → coef p (term_times 1 b f) q ≡ 0
      go (inr none) = ap (λ x. x % p) (total-shift_off 1 b f q n i bl l none) ∙ zero-mod p
      go (inl (k, kl, e)) =
          ap (coef p (term_times 1 b f)) e ∙ coef-moved k (kl ∙ l) ∙ at k (kl ∙ l) e (above_cases k a (kl ∙ l ∙ sym al))

-- a multiple of a lead up to the degree is a lead
pub multiple_of_lead : (P : Problem) (a m : List ℕ) → AllIn P.n P.gens → length m ≡ P.n → degree m ≤ P.d → Divides a m → IsLeadOfIdeal P a → IsLeadOfIdeal P m
multiple_of_lead P a m gens l low (b, bl, e) x =
    IsLeadOfIdeal-member P (term_times 1 b x.member) m (in-term_times P.n 1 b x.member bn x.in_ring)
    (IsInIdeal-term_times P 1 b x.member gens bn x.in_ring x.is_in) low
    (subst (IsLead P (term_times 1 b x.member)) (sym at) moved)
  where
    bn : length b ≡ P.n
    bn = bl ∙ l

    at : m ≡ mono_times b a
    at = e ∙ mono_times_comm a b

    moved : IsLead P (term_times 1 b x.member) (mono_times b a)
    moved = record {
      in_ring = ap length (sym at) ∙ l;
      there = λ z. lead_there P a x (sym (coef-moved P.p P.n b a x.member x.in_ring bn x.lead.in_ring a x.lead.in_ring) ∙ z);
      greatest = above_multiple P.p P.n b a x.member x.in_ring bn x.lead.in_ring (lead_greatest P a x);
    }

-- so a divisor of a monomial that is no lead of the ideal is none
pub divisor_in_staircase : (P : Problem) (s : List (List ℕ)) (a m : List ℕ) → AllIn P.n P.gens → IsStaircase P s → length a ≡ P.n → Divides a m → Contains s m → Contains s a
divisor_in_staircase P s a m gens x l d c =
    let o = x.only m c in
    let low : degree a ≤ P.d = omega (arith, ap degree d.2, degree-mono_times a d.0, o.1) in
    (x.exactly a l low).1 (λ lead. (x.exactly m o.0 o.1).0 c (multiple_of_lead P a m gens o.0 o.1 d lead))
