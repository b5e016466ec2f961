-- Texts that are written one after another.
use Rattle.std.proofs.Common.{◌≡◌, ℕ, ◌+◌, ◌≤◌, List, [], ◌∷◌, ◌++◌, length, take, Option, Some, None, Result, Ok, Err, OnOk, OnErr, refl, sym, ◌∙◌, ap, subst, arith, length-append}
use Rattle.std.specs.Io.KnownBytes.{Appends}
use Rattle.std.proofs.KnownBytes.{Appends-trans}
use Rattle.std.proofs.lemmas.List.{take-append-le}
use Rattle.io_edge.specs.Faults.{Rose}
use Rattle.cert_write.specs.Writes.{Writes}

-- the front of two lists, past the first
pub take-past : (s t : List ℕ) (n : ℕ) → take (length s + n) (s ++ t) ≡ s ++ take n t
take-past [] t n = ap (λ k. take k t) (let p : 0 + n ≡ n = omega arith in p)
take-past (x ∷ s) t n = ap (λ k. take k (x ∷ s ++ t)) (let p : length (x ∷ s) + n ≡ Rattle.std.proofs.Common.suc (length s + n) = omega arith in p) ∙ ap (λ (z : List ℕ). x ∷ z) (take-past s t n)

-- one text was written, and then another, or a part of it
pub writes_then : {T U E : Type 0} (a b c : Option (List ℕ)) (f g h : ℕ) (p : Result T E) (q : Result U E) (x : T) (s t : List ℕ) → p ≡ Ok x → Writes a b f g p s → Writes b c g h q t → Writes a c f h q (s ++ t)
writes_then a b c f g h p (Ok y) x s t is w v =
    let front : Appends a b s = subst (λ (z : Result _ _). OnOk z (Appends a b s)) is w.ok in
    let alike : g ≡ f = subst (λ (z : Result _ _). OnOk z (g ≡ f)) is w.kept in
    record { ok = Appends-trans a b c s t front v.ok; err = tt; kept = v.kept ∙ alike; cause = record { later = omega (arith, alike, v.cause.later); failed = tt } }
writes_then a b c f g h p (Err e) x s t is w v =
    let front : Appends a b s = subst (λ (z : Result _ _). OnOk z (Appends a b s)) is w.ok in
    let alike : g ≡ f = subst (λ (z : Result _ _). OnOk z (g ≡ f)) is w.kept in
    record {
      ok = tt;
      err = (length s + v.err.0, omega (arith, v.err.1, length-append s t), subst (Appends a c) (sym (take-past s t v.err.0)) (Appends-trans a b c s (take v.err.0 t) front v.err.2));
      kept = tt;
      cause = record { later = omega (arith, alike, v.cause.later); failed = subst (λ k. Rose k h) alike v.cause.failed };
    }

-- what was refused is a part of a longer text too
pub writes_stop : {T U E : Type 0} (a b : Option (List ℕ)) (f g : ℕ) (p : Result T E) (q : Result U E) (x y : E) (s t : List ℕ) → p ≡ Err x → q ≡ Err y → Writes a b f g p s → Writes a b f g q (s ++ t)
writes_stop {T} {U} {E} a b f g p q x y s t p_is q_is w = subst (λ (z : Result U E). Writes a b f g z (s ++ t)) (sym q_is) stopped
  where
    err : (n : ℕ) × (n ≤ length s) × Appends a b (take n s)
    err = subst (λ (z : Result T E). OnErr z ((n : ℕ) × (n ≤ length s) × Appends a b (take n s))) p_is w.err

    rose : Rose f g
    rose = subst (λ (z : Result T E). OnErr z (Rose f g)) p_is w.cause.failed

    later : f ≤ g
    later = w.cause.later

    stopped : Writes {T = U} {E = E} a b f g (Err y) (s ++ t)
    stopped = record {
      ok = tt;
      err = (err.0, omega (arith, err.1, length-append s t), subst (λ (z : List ℕ). Appends a b z) (sym (take-append-le err.0 s t err.1)) err.2);
      kept = tt;
      cause = record { later = later; failed = rose };
    }
