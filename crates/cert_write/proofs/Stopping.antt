-- Texts that are written one after another by calls that take memory: a whole text and then another, or a part of it,
-- are a part of both; and where all was written before, and nothing is left, that is all.
use Rattle.std.proofs.Common.{◌≡◌, ℕ, ◌+◌, ◌≤◌, List, [], ◌∷◌, ◌++◌, length, take, drop, suc, Option, Some, Result, Ok, Err, OnErr, refl, sym, ◌∙◌, ap, subst, arith, length-append}
use Rattle.std.specs.Prelude.{slice_get}
use Rattle.std.specs.Io.KnownBytes.{Appends}
use Rattle.std.proofs.KnownBytes.{Appends-nil, Appends-trans}
use Rattle.std.proofs.lemmas.List.{take-append-le}
use Rattle.io_edge.specs.Faults.{Rose}
use Rattle.cert_write.specs.declared.error.CertWriteError.{CertWriteError}
use Rattle.cert_write.specs.declared.error.CertWriteError.TheVariants.{Failed, Memory}
use Rattle.cert_write.specs.Writes.{HasReason, WritesOrStops}
use Rattle.cert_write.proofs.Writing.{take-past}
use Rattle.cert_write.proofs.Steps.{one_more, all_made}

-- A text was written, and then another was, or a part of it.
pub stops_then : {T : Type 0} (a b c : Option (List ℕ)) (f g h : ℕ) (q : Result T CertWriteError) (s t : List ℕ) → Appends a b s → g ≡ f → WritesOrStops b c g h q t → WritesOrStops a c f h q (s ++ t)
stops_then a b c f g h (Ok y) s t front alike v = record { ok = Appends-trans a b c s t front v.ok; err = tt; reason = v.reason ∙ alike }
stops_then {T} a b c f g h (Err e) s t front alike v = record {
  ok = tt;
  err = (length s + v.err.0, omega (arith, v.err.1, length-append s t), subst (Appends a c) (sym (take-past s t v.err.0)) (Appends-trans a b c s (take v.err.0 t) front v.err.2));
  reason = subst (λ k. HasReason {T = T} k h (Err e)) alike v.reason;
}

-- A part of a text was written, which is a part of a longer text.
pub stops_within : {T U : Type 0} (a b : Option (List ℕ)) (f g : ℕ) (p : Result T CertWriteError) (q : Result U CertWriteError) (x : CertWriteError) (s t : List ℕ) →
    p ≡ Err x → q ≡ Err x → WritesOrStops a b f g p s → WritesOrStops a b f g q (s ++ t)
stops_within {T} {U} a b f g p q x s t p_is q_is w =
    subst (λ (z : Result U CertWriteError). WritesOrStops a b f g z (s ++ t)) (sym q_is) (go x (subst (λ (z : Result T CertWriteError). WritesOrStops a b f g z s) p_is w))
  where
    go : (x : CertWriteError) → WritesOrStops {T = T} a b f g (Err x) s → WritesOrStops {T = U} a b f g (Err x) (s ++ t)
    go x w = record {
      ok = tt;
      err = (w.err.0, omega (arith, w.err.1, length-append s t), subst (λ (z : List ℕ). Appends a b z) (sym (take-append-le w.err.0 s t w.err.1)) w.err.2);
      reason = again x w.reason;
    }
      where
        again : (x : CertWriteError) → HasReason {T = T} f g (Err x) → HasReason {T = U} f g (Err x)
        again Failed r = r
        again Memory r = r

-- What was written on Ok.
pub all_of : {T : Type 0} (a b : Option (List ℕ)) (f g : ℕ) (p : Result T CertWriteError) (x : T) (s : List ℕ) → p ≡ Ok x → WritesOrStops a b f g p s → Appends a b s × (g ≡ f)
all_of {T} a b f g p x s is w = let v = subst (λ (z : Result T CertWriteError). WritesOrStops a b f g z s) is w in (v.ok, v.reason)

-- ---- a text so far
-- Of what F makes of a list that much was written which it makes of the members before place i, and no fault was counted.
pub record IsWrittenUpTo {A : Type 0} (a b : Option (List ℕ)) (f g : ℕ) (F : ℕ → List A → List ℕ) (i : ℕ) (xs : List A) : Type 0 where
  pub done : List ℕ
  pub bytes : Appends a b done
  pub alike : g ≡ f
  pub rest : done ++ F i (drop i xs) ≡ F 0 xs

module _ {A : Type 0} (F : ℕ → List A → List ℕ) (xs : List A) where
  -- Before the first member nothing was written.
  pub none_yet : (a : Option (List ℕ)) (f : ℕ) → IsWrittenUpTo a a f f F 0 xs
  none_yet a f = record { done = []; bytes = Appends-nil a; alike = refl; rest = refl }

  -- What a member makes was written.
  pub one_written : (a b c : Option (List ℕ)) (f g h : ℕ) (i : ℕ) (x : A) (piece : List ℕ) → ((ys : List A) → F i (x ∷ ys) ≡ piece ++ F (suc i) ys) → slice_get xs i ≡ Some x →
      IsWrittenUpTo a b f g F i xs → Appends b c piece → h ≡ g → IsWrittenUpTo a c f h F (i + 1) xs
  one_written a b c f g h i x piece unrolled at w bytes alike = record {
    done = w.done ++ piece;
    bytes = Appends-trans a b c w.done piece w.bytes bytes;
    alike = alike ∙ w.alike;
    rest = one_more F xs i x (F 0 xs) w.done (w.done ++ piece) piece unrolled at refl w.rest;
  }

  -- Where what a member makes was not written whole, a part of all was.
  pub one_stops : {T U : Type 0} (a b c : Option (List ℕ)) (f g h : ℕ) (p : Result T CertWriteError) (q : Result U CertWriteError) (e : CertWriteError) (i : ℕ) (x : A) (piece : List ℕ) →
      ((ys : List A) → F i (x ∷ ys) ≡ piece ++ F (suc i) ys) → slice_get xs i ≡ Some x → p ≡ Err e → q ≡ Err e →
      IsWrittenUpTo a b f g F i xs → WritesOrStops b c g h p piece → WritesOrStops a c f h q (F 0 xs)
  one_stops a b c f g h p q e i x piece unrolled at p_is q_is w stops =
      let rest : List ℕ = F (i + 1) (drop (i + 1) xs) in
      subst (WritesOrStops a c f h q) (one_more F xs i x (F 0 xs) w.done (w.done ++ piece) piece unrolled at refl w.rest)
      (stops_within a c f h p q e (w.done ++ piece) rest p_is q_is (stops_then a b c f g h p w.done piece w.bytes w.alike stops))

  -- Where no member is left, all was written.
  pub all_written : {T : Type 0} (a b : Option (List ℕ)) (f g : ℕ) (x : T) (i : ℕ) → length xs ≤ i → F i [] ≡ [] → IsWrittenUpTo a b f g F i xs → WritesOrStops a b f g (Ok x) (F 0 xs)
  all_written a b f g x i past none w = record {
    ok = subst (Appends a b) (all_made F xs i (F 0 xs) w.done past none w.rest) w.bytes;
    err = tt;
    reason = w.alike;
  }
