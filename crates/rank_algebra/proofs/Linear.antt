-- Vectors as a module: to agree is a congruence of sums, constant multiples and multiples by monomials.
-- Combinations of vectors are spaces, and a space that holds each allowed part holds each combination of them.
use Rattle.std.proofs.Common.{ℕ, ◌+◌, ◌*◌, ◌<◌, ◌≤◌, ◌≡◌, List, [], ◌∷◌, ◌++◌, map, Option, Some, None, refl, sym, ◌∙◌, ap, ap₂, subst, arith, lt_of_le_of_lt}
use Rattle.std.proofs.Math.Nat
use Rattle.rank_algebra.specs.Ranks.{Ranks, IsRanks}
use Rattle.rank_algebra.specs.Vector.{Same, Vector, nothing, add, scale, coef_at, shift, Agree}
use Rattle.rank_algebra.specs.Combination.{Part, part_value, value, Each, Span, IsSpace}
use Rattle.rank_algebra.proofs.Residues.{same_refl, same_of, same_sym, same_trans, same_add, same_times}

-- a vector agrees with itself
pub agree_refl : (R : Ranks) (w : ℕ) (v : Vector) → Agree R w v v
agree_refl R w v = record { at = λ r h. same_refl _ _ }

-- equal coefficients
pub agree_of : (R : Ranks) (w : ℕ) (v u : Vector) → ((r : ℕ) → r < w → v r ≡ u r) → Agree R w v u
agree_of R w v u e = record { at = λ r h. same_of _ _ _ (e r h) }

-- to agree goes both ways
pub agree_sym : {R : Ranks} {w : ℕ} {v u : Vector} → Agree R w v u → Agree R w u v
agree_sym h = record { at = λ r l. same_sym (h.at r l) }

-- and from one to the next
pub agree_trans : {R : Ranks} {w : ℕ} {v u z : Vector} → Agree R w v u → Agree R w u z → Agree R w v z
agree_trans h k = record { at = λ r l. same_trans (h.at r l) (k.at r l) }

-- sums of what agrees agree
pub agree_add : {R : Ranks} {w : ℕ} {v u v' u' : Vector} → Agree R w v u → Agree R w v' u' → Agree R w (add v v') (add u u')
agree_add h k = record { at = λ r l. same_add (h.at r l) (k.at r l) }

-- so do constant multiples
pub agree_scale : {R : Ranks} {w : ℕ} {v u : Vector} (c : ℕ) → Agree R w v u → Agree R w (scale c v) (scale c u)
agree_scale c h = record { at = λ r l. same_times c (h.at r l) }

-- what agrees below a rank agrees below a lesser one
pub agree_below : {R : Ranks} {w w' : ℕ} {v u : Vector} → w' ≤ w → Agree R w v u → Agree R w' v u
agree_below l h = record { at = λ r k. h.at r (omega (arith, l, k)) }

-- the product of a residue that isn't 0 with its inverse is 1
pub inverse_same : (R : Ranks) → IsRanks R → (c : ℕ) → (Same R.p c 0 → ⊥) → Same R.p (R.inverse_of c * c) 1
inverse_same R L c n = record { eq = L.inverse c (λ e. n (record { eq = e ∙ sym (Nat.zero-mod R.p) })) }

module _ (R : Ranks) (L : IsRanks R) where
  -- a quotient has no greater rank
  pub quotient_le : (r a s : ℕ) → r < R.n → R.quotient r a ≡ Some s → s ≤ r
  quotient_le r a s h e = let k = L.quotient_times r a s e in subst (λ x. s ≤ x) k (L.le a s (subst (λ x. x < R.n) (sym k) h))

  -- multiples by a monomial of what agrees agree
  pub agree_shift : (w : ℕ) (v u : Vector) (a : ℕ) → w ≤ R.n → Agree R w v u → Agree R w (shift R a v) (shift R a u)
  agree_shift w v u a wn h = record { at = λ r l. go r l (R.quotient r a) refl }
    where
      go : (r : ℕ) → r < w → (o : Option ℕ) → R.quotient r a ≡ o → Same R.p (coef_at v o) (coef_at u o)
      go r l None e = same_refl _ _
      go r l (Some s) e = h.at s (lt_of_le_of_lt (quotient_le r a s (omega arith) e) l)

  -- the multiple of a sum is the sum of the multiples
  pub shift_add : (a : ℕ) (v u : Vector) (r : ℕ) → shift R a (add v u) r ≡ add (shift R a v) (shift R a u) r
  shift_add a v u r = go (R.quotient r a)
    where
      go : (o : Option ℕ) → coef_at (add v u) o ≡ coef_at v o + coef_at u o
      go None = refl
      go (Some s) = refl

  -- the multiple of a constant multiple is the constant multiple
  pub shift_scale : (a c : ℕ) (v : Vector) (r : ℕ) → shift R a (scale c v) r ≡ scale c (shift R a v) r
  shift_scale a c v r = go (R.quotient r a)
    where
      go : (o : Option ℕ) → coef_at (scale c v) o ≡ c * coef_at v o
      go None = omega arith
      go (Some s) = refl

  -- the multiple of 0 is 0
  pub shift_nothing : (a r : ℕ) → shift R a nothing r ≡ 0
  shift_nothing a r = go (R.quotient r a)
    where
      go : (o : Option ℕ) → coef_at nothing o ≡ 0
      go None = refl
      go (Some s) = refl

  -- a rank that is a product has the other factor as quotient
  pub quotient_eq : (r a s : ℕ) → r < R.n → R.times a s ≡ r → R.quotient r a ≡ Some s
  quotient_eq r a s h e = subst (λ x. R.quotient x a ≡ Some s) e (L.times_quotient a s (subst (λ x. x < R.n) (sym e) h))

  -- the multiple of a multiple is the one by the product
  pub shift_shift : (a b : ℕ) (v : Vector) (r : ℕ) → r < R.n → shift R a (shift R b v) r ≡ shift R (R.times a b) v r
  shift_shift a b v r h = go (R.quotient r a) refl (R.quotient r (R.times a b)) refl
    where
      go2 : (s : ℕ) → R.times a s ≡ r → (o : Option ℕ) → R.quotient s b ≡ o → (o' : Option ℕ) → R.quotient r (R.times a b) ≡ o' → coef_at v o ≡ coef_at v o'
      go2 s e None f None g = refl
      go2 s e (Some q) f o' g = ap (coef_at v) (sym (quotient_eq r (R.times a b) q h (L.assoc a b q ∙ ap (R.times a) (L.quotient_times s b q f) ∙ e)) ∙ g)
      go2 s e None f (Some q) g =
          let k : R.times a (R.times b q) ≡ r = sym (L.assoc a b q) ∙ L.quotient_times r (R.times a b) q g in
          let m : Some s ≡ Some (R.times b q) = sym (quotient_eq r a s h e) ∙ quotient_eq r a (R.times b q) h k in
          let n : R.times b q ≡ s = cc m in
          let below : s < R.n = lt_of_le_of_lt (quotient_le r a s h (quotient_eq r a s h e)) h in
          let z : R.quotient s b ≡ Some q = quotient_eq s b q below n in
          cc

      go : (o : Option ℕ) → R.quotient r a ≡ o → (o' : Option ℕ) → R.quotient r (R.times a b) ≡ o' → coef_at (shift R b v) o ≡ coef_at v o'
      go None e None f = refl
      go None e (Some q) f =
          let k : R.times a (R.times b q) ≡ r = sym (L.assoc a b q) ∙ L.quotient_times r (R.times a b) q f in
          let z : R.quotient r a ≡ Some (R.times b q) = quotient_eq r a (R.times b q) h k in
          cc
      go (Some s) e o' f = go2 s (L.quotient_times r a s e) (R.quotient s b) refl o' f

  -- the multiple by 1 is the vector
  pub shift_unit : (v : Vector) (r : ℕ) → r < R.n → shift R 0 v r ≡ v r
  shift_unit v r h = ap (coef_at v) (quotient_eq r 0 r h (L.unit r h))

-- a part times the monomial b, and times a number
abbrev pub part_shift : Ranks → ℕ → Part → Part
part_shift R b t = record { coef = t.coef; mono = R.times b t.mono; place = t.place }

-- a part times a number
abbrev pub part_scale : ℕ → Part → Part
part_scale d t = record { coef = d * t.coef; mono = t.mono; place = t.place }

-- the value of two lists of parts is the sum
pub value_append : (R : Ranks) (vectors : ℕ → Vector) (ts us : List Part) (r : ℕ) → value R vectors (ts ++ us) r ≡ value R vectors ts r + value R vectors us r
value_append R vectors [] us r = omega arith
value_append R vectors (t ∷ ts) us r = omega (arith, value_append R vectors ts us r)

-- the value of scaled parts is scaled
pub value_scale : (R : Ranks) (vectors : ℕ → Vector) (d : ℕ) (ts : List Part) (r : ℕ) → value R vectors (map (part_scale d) ts) r ≡ d * value R vectors ts r
value_scale R vectors d [] r = omega arith
value_scale R vectors d (t ∷ ts) r = omega (arith, value_scale R vectors d ts r)

-- the value of shifted parts is shifted
pub value_shift : (R : Ranks) → IsRanks R → (vectors : ℕ → Vector) (b : ℕ) (ts : List Part) (r : ℕ) → r < R.n → value R vectors (map (part_shift R b) ts) r ≡ shift R b (value R vectors ts) r
value_shift R L vectors b [] r h = sym (shift_nothing R L b r)
value_shift R L vectors b (t ∷ ts) r h =
    ap₂ ◌+◌ (ap (λ x. t.coef * x) (sym (shift_shift R L b t.mono (vectors t.place) r h)) ∙ sym (shift_scale R L b t.coef (shift R t.mono (vectors t.place)) r)) (value_shift R L vectors b ts r h)
    ∙ sym (shift_add R L b (part_value R vectors t) (value R vectors ts) r)

-- what holds of each part of two lists holds of both together
pub each_append : (P : Part → Type 0) (ts us : List Part) → Each P ts → Each P us → Each P (ts ++ us)
each_append P [] us h k = k
each_append P (t ∷ ts) us h k = (h.0, each_append P ts us h.1 k)

-- what holds of each part holds of its image
pub each_map : (P Q : Part → Type 0) (f : Part → Part) → ((t : Part) → P t → Q (f t)) → (ts : List Part) → Each P ts → Each Q (map f ts)
each_map P Q f up [] h = tt
each_map P Q f up (t ∷ ts) h = (up t h.0, each_map P Q f up ts h.1)

-- what follows for a part follows for each
pub each_weaker : (P Q : Part → Type 0) → ((t : Part) → P t → Q t) → (ts : List Part) → Each P ts → Each Q ts
each_weaker P Q up [] h = tt
each_weaker P Q up (t ∷ ts) h = (up t h.0, each_weaker P Q up ts h.1)

module _ (R : Ranks) (L : IsRanks R) (vectors : ℕ → Vector) where
  -- sums of combinations are combinations
  pub span_plus : (Ok : Part → Type 0) (v u : Vector) → Span R vectors Ok v → Span R vectors Ok u → Span R vectors Ok (add v u)
  span_plus Ok v u h k = record {
    parts = h.parts ++ k.parts;
    allowed = each_append Ok h.parts k.parts h.allowed k.allowed;
    is = record { at = λ r l. same_trans (same_add (h.is.at r l) (k.is.at r l)) (same_of _ _ _ (sym (value_append R vectors h.parts k.parts r))) };
  }

  -- constant multiples of combinations are combinations
  pub span_scale : (Ok : Part → Type 0) → ((d : ℕ) (t : Part) → Ok t → Ok (part_scale d t)) → (d : ℕ) (v : Vector) → Span R vectors Ok v → Span R vectors Ok (scale d v)
  span_scale Ok up d v h = record {
    parts = map (part_scale d) h.parts;
    allowed = each_map Ok Ok (part_scale d) (up d) h.parts h.allowed;
    is = record { at = λ r l. same_trans (same_times d (h.is.at r l)) (same_of _ _ _ (sym (value_scale R vectors d h.parts r))) };
  }

  -- so combinations are a space
  pub span_space : (Ok : Part → Type 0) → ((d : ℕ) (t : Part) → Ok t → Ok (part_scale d t)) → IsSpace R (Span R vectors Ok)
  span_space Ok up = record {
    alike = λ v u a h. record { parts = h.parts; allowed = h.allowed; is = agree_trans a h.is };
    empty = record { parts = []; allowed = tt; is = agree_refl R R.n nothing };
    plus = span_plus Ok;
    multiple = span_scale Ok up;
  }

  -- the multiple of a combination by a monomial
  pub span_shift : (Ok Ok' : Part → Type 0) (b : ℕ) → ((t : Part) → Ok t → Ok' (part_shift R b t)) → (v : Vector) → Span R vectors Ok v → Span R vectors Ok' (shift R b v)
  span_shift Ok Ok' b up v h = record {
    parts = map (part_shift R b) h.parts;
    allowed = each_map Ok Ok' (part_shift R b) up h.parts h.allowed;
    is = agree_trans (agree_shift R L R.n _ _ b (omega arith) h.is) (agree_of R R.n _ _ (λ r l. sym (value_shift R L vectors b h.parts r l)));
  }

  -- a combination of allowed parts is one of parts that more allow
  pub span_weaker : (Ok Ok' : Part → Type 0) → ((t : Part) → Ok t → Ok' t) → (v : Vector) → Span R vectors Ok v → Span R vectors Ok' v
  span_weaker Ok Ok' up v h = record { parts = h.parts; allowed = each_weaker Ok Ok' up h.parts h.allowed; is = h.is }

  -- one part
  pub span_part : (Ok : Part → Type 0) (t : Part) → Ok t → Span R vectors Ok (part_value R vectors t)
  span_part Ok t h = record { parts = t ∷ []; allowed = (h, tt); is = agree_of R R.n _ _ (λ r l. omega arith) }

  -- a space that holds each part that is ok holds each combination of them
  pub value_in : (S : Vector → Type 0) → IsSpace R S → (Ok : Part → Type 0) → ((t : Part) → Ok t → S (shift R t.mono (vectors t.place))) → (ts : List Part) → Each Ok ts → S (value R vectors ts)
  value_in S I Ok up [] h = I.empty
  value_in S I Ok up (t ∷ ts) h = I.plus _ _ (I.multiple t.coef _ (up t h.0)) (value_in S I Ok up ts h.1)

  -- so it holds each vector that is such a combination
  pub span_in : (S : Vector → Type 0) → IsSpace R S → (Ok : Part → Type 0) → ((t : Part) → Ok t → S (shift R t.mono (vectors t.place))) → (v : Vector) → Span R vectors Ok v → S v
  span_in S I Ok up v h = I.alike _ _ h.is (value_in S I Ok up h.parts h.allowed)
