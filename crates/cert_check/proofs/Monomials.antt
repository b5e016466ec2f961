-- Conditions on monomials that are decided: whether a lead divides one, and whether a list has those that are multiples of no lead.
use Rattle.std.proofs.Common.{◌≡◌, ℕ, suc, ◌+◌, ◌-◌, ◌<◌, ◌≤◌, ◌⊎◌, ◌↔◌, List, [], ◌∷◌, length, get_or, Bool, true, false, Contains, refl, sym, ◌∙◌, ap, ap₂, subst, arith, inl, inr}
use Rattle.std.proofs.lemmas.List.{get_or_default}
use Rattle.local_order.specs.Mono.{degree, mono_times, Divides}
use Rattle.local_order.specs.Order.{IsAbove, above}
use Rattle.local_order.proofs.Order.{above_cases, above-true, above-intro}
use Rattle.mono_rank.specs.Laws.{IsNumbering}
use Rattle.sparse_poly.specs.Ideal.{Problem, IsFalling}
use Rattle.entry_code.specs.Entry.{Entry}
use Rattle.mora_law.specs.Ring.{numbering_of}
use Rattle.mora_law.proofs.Ring.{numbering_is}
use Rattle.mora_law.specs.Entries.{leads}
use Rattle.cert_check.specs.Accepted.{IsMultipleOfLeads, IsFirstFree, IsFreeList}
use Rattle.cert_check.proofs.Decide.{Decided, decided_by, decided_both, decided_not, decided_if, decided_each, decided_some, decided_le, decided_nat, decided_list}

-- whether a monomial divides another
decided_divides : (a b : List ℕ) → Decided (Divides a b)
decided_divides [] b = inl (b, refl, refl)
decided_divides (x ∷ a) [] = inr none
  where
    none : Divides (x ∷ a) [] → ⊥
    none ([], e, f) = absurd (cc f)
    none (y ∷ k, e, f) = absurd (omega (arith, e))
decided_divides (x ∷ a) (y ∷ b) = decided_by to from (decided_both (decided_le x y) (decided_divides a b))
  where
    to : (x ≤ y) × Divides a b → Divides (x ∷ a) (y ∷ b)
    to (l, (k, e, f)) = ((y - x) ∷ k, ap suc e, ap₂ ◌∷◌ (let z : y ≡ x + (y - x) = omega (arith, l) in z) f)

    from : Divides (x ∷ a) (y ∷ b) → (x ≤ y) × Divides a b
    from ([], e, f) = absurd (omega (arith, e))
    from (z ∷ k, e, f) =
        let first : y ≡ x + z = cc f in
        let rest : b ≡ mono_times a k = cc f in
        (omega (arith, first), (k, omega (arith, e), rest))

-- whether one is above another
decided_above : (a b : List ℕ) → Decided (IsAbove a b)
decided_above a b = go (above a b) refl
  where
    go : (t : Bool) → above a b ≡ t → Decided (IsAbove a b)
    go true e = inl (above-true a b e)
    go false e = inr (λ x. absurd (let z : true ≡ false = sym (above-intro a b x) ∙ e in cc z))

-- whether a list falls
decided_falling : (P : Problem) (s : List (List ℕ)) → Decided (IsFalling P s)
decided_falling P [] = inl tt
decided_falling P (a ∷ []) = inl tt
decided_falling P (a ∷ b ∷ s) = decided_both (decided_above a b) (decided_falling P (b ∷ s))

-- whether a list has a monomial
decided_contains : (s : List (List ℕ)) (m : List ℕ) → Decided (Contains s m)
decided_contains s m = decided_some (λ k. get_or s k m ≡ m) (λ k. decided_list decided_nat (get_or s k m) m) (length s)

module _ (P : Problem) (some : 1 ≤ P.n) (entries : List Entry) where
  -- the numbering goes by the order
  W : IsNumbering P.n P.d IsAbove (numbering_of P)
  W = numbering_is P some

  -- whether a lead divides m
  pub decided_led : (m : List ℕ) → Decided (IsMultipleOfLeads P entries m)
  decided_led m = decided_by to from (decided_some (λ k. Divides (get_or (leads P entries) k []) m) (λ k. decided_divides (get_or (leads P entries) k []) m) (length (leads P entries)))
    where
      to : (k : ℕ) × (k < length (leads P entries)) × Divides (get_or (leads P entries) k []) m → IsMultipleOfLeads P entries m
      to (k, l, x) = (get_or (leads P entries) k [], (k, l, get_or_default (leads P entries) k _ [] l), x)

      from : IsMultipleOfLeads P entries m → (k : ℕ) × (k < length (leads P entries)) × Divides (get_or (leads P entries) k []) m
      from (a, (k, l, e), x) = (k, l, subst (λ y. Divides y m) (sym e ∙ get_or_default (leads P entries) k a [] l) x)

  -- a monomial of a rank below that of m is above m
  above_by_rank : (m : List ℕ) (r : ℕ) → length m ≡ P.n → degree m ≤ P.d → r < (numbering_of P).rank m → IsAbove ((numbering_of P).mono r) m
  above_by_rank m r e low l = go (above_cases ((numbering_of P).mono r) m (W.in_ring r small ∙ sym e))
    where
      small : r < (numbering_of P).count
      small = omega (arith, l, W.small m e low)

      go : ((numbering_of P).mono r ≡ m) ⊎ (IsAbove ((numbering_of P).mono r) m ⊎ IsAbove m ((numbering_of P).mono r)) → IsAbove ((numbering_of P).mono r) m
      go (inl z) = absurd (omega (arith, l, ap (numbering_of P).rank z, W.back r small))
      go (inr (inl a)) = a
      go (inr (inr a)) = absurd (omega (arith, l, W.back r small, W.falls m ((numbering_of P).mono r) e low (W.in_ring r small) (W.low r small) a))

  -- whether m is the greatest monomial of degree d that is a multiple of no lead
  pub decided_first : (m : List ℕ) → Decided (IsFirstFree P entries m)
  decided_first m = go (decided_nat (length m) P.n) (decided_nat (degree m) P.d)
    where
      Led : ℕ → Type 0
      Led r = degree ((numbering_of P).mono r) ≡ P.d → IsMultipleOfLeads P entries ((numbering_of P).mono r)

      go : Decided (length m ≡ P.n) → Decided (degree m ≡ P.d) → Decided (IsFirstFree P entries m)
      go (inr n) t = inr (λ x. n x.in_ring)
      go (inl e) (inr n) = inr (λ x. n x.top)
      go (inl e) (inl t) = decided_by to from
          (decided_both (decided_not (decided_led m)) (decided_each Led (λ r. decided_if (decided_nat _ _) (decided_led _)) ((numbering_of P).rank m)))
        where
          to : (IsMultipleOfLeads P entries m → ⊥) × ((r : ℕ) → r < (numbering_of P).rank m → Led r) → IsFirstFree P entries m
          to (free, first) = record {
            in_ring = e;
            top = t;
            free = free;
            first = λ k f top a.
                let low : degree k ≤ P.d = omega (arith, top) in
                let same = W.there k f low in
                subst (IsMultipleOfLeads P entries) same (first ((numbering_of P).rank k) (W.falls k m f low e (omega (arith, t)) a) (ap degree same ∙ top));
          }

          from : IsFirstFree P entries m → (IsMultipleOfLeads P entries m → ⊥) × ((r : ℕ) → r < (numbering_of P).rank m → Led r)
          from x = (
            x.free,
            λ r l top. let low : degree m ≤ P.d = omega (arith, t) in
                x.first ((numbering_of P).mono r) (W.in_ring r (omega (arith, l, W.small m e low))) top (above_by_rank m r e low l),
          )

  -- whether a list has the monomials that are multiples of no lead
  pub decided_free : (s : List (List ℕ)) → Decided (IsFreeList P entries s)
  decided_free s = decided_by to from (decided_both (decided_falling P s) (decided_both
      (decided_each Right (λ r. let m = (numbering_of P).mono r in decided_both
      (decided_if (decided_contains s m) (decided_not (decided_led m)))
      (decided_if (decided_not (decided_led m)) (decided_contains s m))) (numbering_of P).count)
      (decided_each Low (λ k. decided_both (decided_nat _ _) (decided_le _ _)) (length s))))
    where
      Right : ℕ → Type 0
      Right r = Contains s ((numbering_of P).mono r) ↔ (IsMultipleOfLeads P entries ((numbering_of P).mono r) → ⊥)

      Low : ℕ → Type 0
      Low k = (length (get_or s k []) ≡ P.n) × (degree (get_or s k []) ≤ P.d)

      to : IsFalling P s × (((r : ℕ) → r < (numbering_of P).count → Right r) × ((k : ℕ) → k < length s → Low k)) → IsFreeList P entries s
      to (f, (h, low)) = record {
        falling = f;
        exactly = λ m e l. subst (λ x. Contains s x ↔ (IsMultipleOfLeads P entries x → ⊥)) (W.there m e l) (h ((numbering_of P).rank m) (W.small m e l));
        only = λ m (k, l, e). subst (λ x. (length x ≡ P.n) × (degree x ≤ P.d)) (get_or_default s k [] m l ∙ e) (low k l);
      }

      from : IsFreeList P entries s → IsFalling P s × (((r : ℕ) → r < (numbering_of P).count → Right r) × ((k : ℕ) → k < length s → Low k))
      from x = (x.falling, ((λ r l. x.exactly ((numbering_of P).mono r) (W.in_ring r l) (W.low r l)), (λ k l. x.only (get_or s k []) (k, l, get_or_default s k _ [] l))))
