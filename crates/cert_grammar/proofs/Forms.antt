-- The forms of parts of a certificate: what a part may be, its lines, and how it is read. A form has these laws: what is
-- read is such a part and its lines stand there; each part whose lines stand there is read, whatever is behind; and where
-- reading is refused, the lines before the refused one begin a part, and with the refused one, whatever is behind,
-- reading is refused there. Each way of putting forms together keeps the laws, so they hold of certificates.
use Rattle.std.proofs.Common.{◌≡◌, ℕ, zero, suc, Bool, true, false, List, [], ◌∷◌, ◌++◌, length, Option, Some, None, Ok, Err, refl, sym, ◌∙◌, ap, subst, append_assoc, ⊎_elim, arith}
use Rattle.script_grammar.proofs.Steps.{same_is, same_refl}
use Rattle.std.specs.Prelude.{if◌then◌else◌}
use Rattle.std.proofs.lemmas.List.{append-nil}
use Rattle.std.specs.List.{AllByRecursion}
use Rattle.cert_grammar.specs.Lines.{Line, AreLines, IsLine, same_line}
use Rattle.cert_grammar.specs.Cert.{in_turn}
use Rattle.cert_grammar.specs.Reading.{Read, ◌>>=◌, taken, line_at, behind, followed, both, mapped, times_at, one_block_more}
use Rattle.script_grammar.specs.Words.{is_same}
use Rattle.cert_grammar.proofs.Tools.{bind_ok, bind_err, and_true}

-- a refused reading: the lines before the refused one begin a part, and reading is refused there whatever stands behind it
pub record Refused {A : Type 0} (Is : A → Type 0) (lines : A → List Line) (read : Read A) (s after : List Line) : Type 0 where
  pub good : List Line
  pub split : s ≡ good ++ after
  pub value : A
  pub is : Is value
  pub more : List Line
  pub begun : lines value ≡ good ++ more
  pub dead : (l : Line) (rest other : List Line) → after ≡ l ∷ rest → read (good ++ l ∷ other) ≡ Err (l ∷ other)

-- what holds of a part and its reading
pub record IsForm {A : Type 0} (Is : A → Type 0) (lines : A → List Line) (read : Read A) : Type 0 where
  -- there is such a part
  pub some : A
  pub some_is : Is some
  pub plain : (a : A) → Is a → AreLines (lines a)
  pub only : (a : A) (rest : List Line) → Is a → read (lines a ++ rest) ≡ Ok (a, rest)
  pub found : (s : List Line) (x : A × List Line) → read s ≡ Ok x → Is x.0 × (s ≡ lines x.0 ++ x.1)
  pub first : (s after : List Line) → read s ≡ Err after → Refused Is lines read s after

-- ---- one line
-- what holds of a line and its reading
pub record IsLineForm {A : Type 0} (Is : A → Type 0) (line : A → Line) (of : Line → Option A) : Type 0 where
  pub plain : (a : A) → Is a → IsLine (line a)
  pub only : (a : A) → Is a → of (line a) ≡ Some a
  pub found : (l : Line) (a : A) → of l ≡ Some a → Is a × (l ≡ line a)

-- a line that is read is one of the form
one_line_found : {A : Type 0} (Is : A → Type 0) (line : A → Line) (of : Line → Option A) → IsLineForm Is line of →
    (s : List Line) (x : A × List Line) → line_at of s ≡ Ok x → Is x.0 × (s ≡ line x.0 ∷ x.1)
one_line_found {A} Is line of F [] x e = absurd (cc)
one_line_found {A} Is line of F (l ∷ ls) x e = go (of l) refl e
  where
    go : (o : Option A) → of l ≡ o → taken l ls o ≡ Ok x → Is x.0 × (l ∷ ls ≡ line x.0 ∷ x.1)
    go (Some a) is p =
        let q : (a, ls) ≡ x = cc in
        let f : Is a × (l ≡ line a) = F.found l a is in
        subst (λ (z : A × List Line). Is z.0 × (l ∷ ls ≡ line z.0 ∷ z.1)) q (f.0, ap (λ (k : Line). k ∷ ls) f.1)
    go None is p = absurd (cc)

-- where no line of the form stands next, reading is refused there
one_line_first : {A : Type 0} (Is : A → Type 0) (line : A → Line) (of : Line → Option A) (value : A) → Is value →
    (s after : List Line) → line_at of s ≡ Err after → Refused Is (λ a. line a ∷ []) (line_at of) s after
one_line_first {A} Is line of value is [] after e =
    record { good = []; split = cc; value = value; is = is; more = line value ∷ []; begun = refl; dead = λ l rest other p. absurd (let q : [] ≡ l ∷ rest = cc in cc) }
one_line_first {A} Is line of value is (l ∷ ls) after e = go (of l) refl e
  where
    go : (o : Option A) → of l ≡ o → taken l ls o ≡ Err after → Refused Is (λ a. line a ∷ []) (line_at of) (l ∷ ls) after
    go (Some a) was p = absurd (cc)
    go None was p =
        let q : l ∷ ls ≡ after = cc in
        record {
          good = [];
          split = q;
          value = value;
          is = is;
          more = line value ∷ [];
          begun = refl;
          dead = λ k rest other r. let alike : k ≡ l = cc in ap (λ (z : Line). taken z other (of z)) alike ∙ ap (taken l other) was ∙ ap (λ (z : Line). Err (z ∷ other)) (sym alike);
        }

-- a line is a part
pub one_line : {A : Type 0} (Is : A → Type 0) (line : A → Line) (of : Line → Option A) (value : A) → Is value → IsLineForm Is line of →
    IsForm Is (λ a. line a ∷ []) (line_at of)
one_line Is line of value is F = record {
  some = value;
  some_is = is;
  plain = λ a h. (F.plain a h, tt);
  only = λ a rest h. ap (taken (line a) rest) (F.only a h);
  found = one_line_found Is line of F;
  first = one_line_first Is line of value is;
}

-- ---- nothing more
-- nothing is a part
pub done_form : {A : Type 0} (a : A) → IsForm (λ x. x ≡ a) (λ x. []) (λ s. Ok (a, s))
done_form {A} a = record {
  some = a;
  some_is = refl;
  plain = λ x h. tt;
  only = λ x rest h. ap (λ (z : A). Ok (z, rest)) (sym h);
  found = λ s x e. let q : (a, s) ≡ x = cc in subst (λ (z : A × List Line). (z.0 ≡ a) × (s ≡ z.1)) q (refl, refl);
  first = λ s after e. absurd (cc);
}

-- ---- one after another
-- lines and lines are lines
pub lines-append : (a b : List Line) → AreLines a → AreLines b → AreLines (a ++ b)
lines-append [] b h k = k
lines-append (l ∷ a) b h k = (h.0, lines-append a b h.1 k)

-- a second part hangs on the first, and the whole is made of both
pub record IsSplit {A T : Type 0} (IsA : A → Type 0) (linesA : A → List Line) (IsB : A → T → Type 0) (linesB : A → T → List Line) (Is : T → Type 0) (lines : T → List Line) (part : T → A) : Type 0 where
  pub apart : (t : T) → Is t → IsA (part t) × IsB (part t) t × (lines t ≡ linesA (part t) ++ linesB (part t) t)
  pub joined : (a : A) (t : T) → IsA a → IsB a t → Is t × (lines t ≡ linesA a ++ linesB a t)

-- a part, and one that hangs on it, are a part
pub then_form : {A T : Type 0} (IsA : A → Type 0) (linesA : A → List Line) (readA : Read A) (IsB : A → T → Type 0) (linesB : A → T → List Line) (readB : A → Read T)
    (Is : T → Type 0) (lines : T → List Line) (part : T → A) → IsForm IsA linesA readA → ((a : A) → IsA a → IsForm (IsB a) (linesB a) (readB a)) →
    IsSplit IsA linesA IsB linesB Is lines part → IsForm Is lines (λ s. readA s >>= λ x. readB x.0 x.1)
then_form {A} {T} IsA linesA readA IsB linesB readB Is lines part F G S = record {
  some = some.0;
  some_is = (S.joined F.some some.0 F.some_is some.1).0;
  plain = λ t h. let q : IsA (part t) × IsB (part t) t × (lines t ≡ linesA (part t) ++ linesB (part t) t) = S.apart t h in
      subst AreLines (sym q.2) (lines-append (linesA (part t)) (linesB (part t) t) (F.plain (part t) q.0) ((G (part t) q.0).plain t q.1));
  only = λ t rest h. let q : IsA (part t) × IsB (part t) t × (lines t ≡ linesA (part t) ++ linesB (part t) t) = S.apart t h in
      ap (λ (z : List Line). read (z ++ rest)) q.2
      ∙ ap read (append_assoc (linesA (part t)) (linesB (part t) t) rest)
      ∙ ap (λ r. r >>= λ x. readB x.0 x.1) (F.only (part t) (linesB (part t) t ++ rest) q.0)
      ∙ (G (part t) q.0).only t rest q.1;
  found = found;
  first = first;
}
  where
    read : Read T
    read = λ s. readA s >>= λ x. readB x.0 x.1

    some : (t : T) × IsB F.some t
    some = ((G F.some F.some_is).some, (G F.some F.some_is).some_is)

    found : (s : List Line) (y : T × List Line) → read s ≡ Ok y → Is y.0 × (s ≡ lines y.0 ++ y.1)
    found s y e =
        let r : (x : A × List Line) × (readA s ≡ Ok x) × (readB x.0 x.1 ≡ Ok y) = bind_ok (readA s) (λ x. readB x.0 x.1) y e in
        let f : IsA r.0.0 × (s ≡ linesA r.0.0 ++ r.0.1) = F.found s r.0 r.1 in
        let g : IsB r.0.0 y.0 × (r.0.1 ≡ linesB r.0.0 y.0 ++ y.1) = (G r.0.0 f.0).found r.0.1 y r.2 in
        let j : Is y.0 × (lines y.0 ≡ linesA r.0.0 ++ linesB r.0.0 y.0) = S.joined r.0.0 y.0 f.0 g.0 in
        (j.0, f.1 ∙ ap (λ (z : List Line). linesA r.0.0 ++ z) g.1 ∙ sym (append_assoc (linesA r.0.0) (linesB r.0.0 y.0) y.1) ∙ ap (λ (z : List Line). z ++ y.1) (sym j.1))

    first : (s after : List Line) → read s ≡ Err after → Refused Is lines read s after
    first s after e =
        ⊎_elim
        (λ (p : readA s ≡ Err after).
        let r : Refused IsA linesA readA s after = F.first s after p in
        let g : IsForm (IsB r.value) (linesB r.value) (readB r.value) = G r.value r.is in
        let j : Is g.some × (lines g.some ≡ linesA r.value ++ linesB r.value g.some) = S.joined r.value g.some r.is g.some_is in
        record {
          good = r.good;
          split = r.split;
          value = g.some;
          is = j.0;
          more = r.more ++ linesB r.value g.some;
          begun = j.1 ∙ ap (λ (z : List Line). z ++ linesB r.value g.some) r.begun ∙ append_assoc r.good r.more (linesB r.value g.some);
          dead = λ l rest other q. ap (λ z. z >>= λ x. readB x.0 x.1) (r.dead l rest other q);
        })
        (λ (p : (x : A × List Line) × (readA s ≡ Ok x) × (readB x.0 x.1 ≡ Err after)).
        let f : IsA p.0.0 × (s ≡ linesA p.0.0 ++ p.0.1) = F.found s p.0 p.1 in
        let a : A = p.0.0 in
        let r : Refused (IsB a) (linesB a) (readB a) p.0.1 after = (G a f.0).first p.0.1 after p.2 in
        let j : Is r.value × (lines r.value ≡ linesA a ++ linesB a r.value) = S.joined a r.value f.0 r.is in
        record {
          good = linesA a ++ r.good;
          split = f.1 ∙ ap (λ (z : List Line). linesA a ++ z) r.split ∙ sym (append_assoc (linesA a) r.good after);
          value = r.value;
          is = j.0;
          more = r.more;
          begun = j.1 ∙ ap (λ (z : List Line). linesA a ++ z) r.begun ∙ sym (append_assoc (linesA a) r.good r.more);
          dead = λ l rest other q.
              ap read (append_assoc (linesA a) r.good (l ∷ other))
              ∙ ap (λ z. z >>= λ x. readB x.0 x.1) (F.only a (r.good ++ l ∷ other) f.0)
              ∙ r.dead l rest other q;
        })
        (bind_err (readA s) (λ x. readB x.0 x.1) after e)

-- ---- the same form, said otherwise
-- a form told by other words for the same is a form
pub same_form : {A : Type 0} (Is Was : A → Type 0) (lines were : A → List Line) (read : Read A) → ((a : A) → Is a → Was a × (lines a ≡ were a)) → ((a : A) → Was a → Is a × (lines a ≡ were a)) →
    IsForm Was were read → IsForm Is lines read
same_form {A} Is Was lines were read to from F = record {
  some = F.some;
  some_is = (from F.some F.some_is).0;
  plain = λ a h. subst AreLines (sym (to a h).1) (F.plain a (to a h).0);
  only = λ a rest h. ap (λ (z : List Line). read (z ++ rest)) (to a h).1 ∙ F.only a rest (to a h).0;
  found = λ s x e. let f : Was x.0 × (s ≡ were x.0 ++ x.1) = F.found s x e in
      ((from x.0 f.0).0, f.1 ∙ ap (λ (z : List Line). z ++ x.1) (sym (from x.0 f.0).1));
  first = λ s after e. let r : Refused Was were read s after = F.first s after e in
      record { good = r.good; split = r.split; value = r.value; is = (from r.value r.is).0; more = r.more; begun = (from r.value r.is).1 ∙ r.begun; dead = r.dead };
}

-- ---- seen as something else
-- a part that is seen as something else is a part
pub mapped_form : {A T : Type 0} (f : A → T) (g : T → A) (IsA : A → Type 0) (linesA : A → List Line) (readA : Read A) (Is : T → Type 0) (lines : T → List Line) →
    ((t : T) → Is t → IsA (g t) × (lines t ≡ linesA (g t)) × (t ≡ f (g t))) → ((a : A) → IsA a → Is (f a) × (lines (f a) ≡ linesA a)) →
    IsForm IsA linesA readA → IsForm Is lines (mapped f readA)
mapped_form {A} {T} f g IsA linesA readA Is lines to from F =
    then_form IsA linesA readA (λ a t. t ≡ f a) (λ a t. []) (λ a s. Ok (f a, s)) Is lines g F (λ a h. done_form (f a))
    (record {
      apart = λ t h. ((to t h).0, (to t h).2, (to t h).1 ∙ sym (append-nil (linesA (g t))));
      joined = λ a t h e. (subst Is (sym e) (from a h).0, ap lines e ∙ (from a h).1 ∙ sym (append-nil (linesA a)));
    })

-- ---- two parts
-- two parts, the second hanging on the first, are a part
pub both_form : {A B : Type 0} (IsA : A → Type 0) (linesA : A → List Line) (readA : Read A) (IsB : A → B → Type 0) (linesB : A → B → List Line) (readB : A → Read B) →
    IsForm IsA linesA readA → ((a : A) → IsA a → IsForm (IsB a) (linesB a) (readB a)) →
    IsForm {A = A × B} (λ t. IsA t.0 × IsB t.0 t.1) (λ t. linesA t.0 ++ linesB t.0 t.1) (both readA readB)
both_form {A} {B} IsA linesA readA IsB linesB readB F G =
    then_form IsA linesA readA (λ a t. (t.0 ≡ a) × IsB a t.1) (λ a t. linesB a t.1) (λ a. mapped (λ b. (a, b)) (readB a))
    (λ t. IsA t.0 × IsB t.0 t.1) (λ t. linesA t.0 ++ linesB t.0 t.1) (λ t. t.0) F
    (λ a h. mapped_form (λ b. (a, b)) (λ t. t.1) (IsB a) (linesB a) (readB a) (λ t. (t.0 ≡ a) × IsB a t.1) (λ t. linesB a t.1)
    (λ t k. (k.1, refl, ap (λ (z : A). (z, t.1)) k.0)) (λ b k. ((refl, k), refl)) (G a h))
    (record {
      apart = λ t h. (h.0, (refl, h.1), refl);
      joined = λ a t h k. ((subst IsA (sym k.0) h, subst (λ (z : A). IsB z t.1) (sym k.0) k.1), ap (λ (z : A). linesA z ++ linesB z t.1) k.0);
    })

-- ---- a line that is given
-- a line is the same as itself
pub same_line_same : (l : Line) → same_line l l ≡ true
same_line_same [] = refl
same_line_same (w ∷ ws) = rw (same_refl w) (same_line_same ws)

-- lines that are the same are equal
pub same_line_true : (k l : Line) → same_line k l ≡ true → k ≡ l
same_line_true [] [] e = refl
same_line_true [] (w ∷ ws) e = absurd (cc)
same_line_true (v ∷ vs) [] e = absurd (cc)
same_line_true (v ∷ vs) (w ∷ ws) e =
    let q : (is_same v w ≡ true) × (same_line vs ws ≡ true) = and_true (is_same v w) (same_line vs ws) e in
    ap (λ (z : List ℕ). z ∷ vs) (same_is v w q.0) ∙ ap (λ (z : Line). w ∷ z) (same_line_true vs ws q.1)

-- a part behind a given line is a part
pub behind_form : {A : Type 0} (k : Line) (Is : A → Type 0) (lines : A → List Line) (read : Read A) → IsLine k → IsForm Is lines read → IsForm Is (λ a. k ∷ lines a) (behind k read)
behind_form {A} k Is lines read k_is F = record {
  some = F.some;
  some_is = F.some_is;
  plain = λ a h. (k_is, F.plain a h);
  only = λ a rest h. ap (λ b. (if b then Ok (lines a ++ rest) else Err (k ∷ lines a ++ rest)) >>= read) (same_line_same k) ∙ F.only a rest h;
  found = found;
  first = first;
}
  where
    found : (s : List Line) (x : A × List Line) → behind k read s ≡ Ok x → Is x.0 × (s ≡ k ∷ lines x.0 ++ x.1)
    found [] x e = absurd (cc)
    found (l ∷ ls) x e = go (same_line l k) refl e
      where
        go : (b : Bool) → same_line l k ≡ b → (if b then Ok ls else Err (l ∷ ls)) >>= read ≡ Ok x → Is x.0 × (l ∷ ls ≡ k ∷ lines x.0 ++ x.1)
        go true was p = ((F.found ls x p).0, ap (λ (z : Line). z ∷ ls) (same_line_true l k was) ∙ ap (λ (z : List Line). k ∷ z) (F.found ls x p).1)
        go false was p = absurd (cc)

    first : (s after : List Line) → behind k read s ≡ Err after → Refused Is (λ a. k ∷ lines a) (behind k read) s after
    first [] after e =
        record { good = []; split = cc; value = F.some; is = F.some_is; more = k ∷ lines F.some; begun = refl; dead = λ l rest other p. absurd (let q : [] ≡ l ∷ rest = cc in cc) }
    first (l ∷ ls) after e = go (same_line l k) refl e
      where
        go : (b : Bool) → same_line l k ≡ b → (if b then Ok ls else Err (l ∷ ls)) >>= read ≡ Err after → Refused Is (λ a. k ∷ lines a) (behind k read) (l ∷ ls) after
        go true was p =
            let r : Refused Is lines read ls after = F.first ls after p in
            record {
              good = k ∷ r.good;
              split = ap (λ (z : Line). z ∷ ls) (same_line_true l k was) ∙ ap (λ (z : List Line). k ∷ z) r.split;
              value = r.value;
              is = r.is;
              more = r.more;
              begun = ap (λ (z : List Line). k ∷ z) r.begun;
              dead = λ j rest other q. ap (λ b. (if b then Ok (r.good ++ j ∷ other) else Err (k ∷ r.good ++ j ∷ other)) >>= read) (same_line_same k) ∙ r.dead j rest other q;
            }
        go false was p =
            let q : l ∷ ls ≡ after = cc in
            record {
              good = [];
              split = q;
              value = F.some;
              is = F.some_is;
              more = k ∷ lines F.some;
              begun = refl;
              dead = λ j rest other r. let alike : j ≡ l = cc in
                  ap (λ b. (if b then Ok other else Err (j ∷ other)) >>= read) (ap (λ (z : Line). same_line z k) alike ∙ was);
            }

-- a part, and then a line that is given
pub followed_form : {A : Type 0} (k : Line) (Is : A → Type 0) (lines : A → List Line) (read : Read A) → IsLine k → IsForm Is lines read → IsForm Is (λ a. lines a ++ k ∷ []) (followed read k)
followed_form {A} k Is lines read k_is F =
    then_form Is lines read (λ a t. t ≡ a) (λ a t. k ∷ []) (λ a. behind k (λ s. Ok (a, s))) Is (λ a. lines a ++ k ∷ []) (λ a. a) F
    (λ a h. behind_form k (λ t. t ≡ a) (λ t. []) (λ s. Ok (a, s)) k_is (done_form a))
    (record {
      apart = λ t h. (h, refl, refl);
      joined = λ a t h e. (subst Is (sym e) h, ap (λ (z : A). lines z ++ k ∷ []) e);
    })

-- ---- one and then more
-- not empty: the first and the others
abbrev pub IsCons : {A : Type 0} → (List A → Type 0) → A → List A → Type 0
IsCons Rest a [] = ⊥
IsCons Rest a (x ∷ xs) = (x ≡ a) × Rest xs

-- the members behind the first
abbrev pub tail : {A : Type 0} → List A → List A
tail [] = []
tail (x ∷ xs) = xs

-- the first member, and else a
abbrev pub head_or : {A : Type 0} → A → List A → A
head_or a [] = a
head_or a (x ∷ xs) = x

-- a part and then more of them are a part
pub cons_form : {A : Type 0} (IsA : A → Type 0) (linesA : A → List Line) (readA : Read A) (Rest : List A → Type 0) (linesR : List A → List Line) (readR : Read (List A))
    (Is : List A → Type 0) (lines : List A → List Line) → IsForm IsA linesA readA → IsForm Rest linesR readR → (Is [] → ⊥) →
    ((x : A) (xs : List A) → Is (x ∷ xs) → IsA x × Rest xs) → ((x : A) (xs : List A) → IsA x → Rest xs → Is (x ∷ xs)) →
    ((x : A) (xs : List A) → lines (x ∷ xs) ≡ linesA x ++ linesR xs) →
    IsForm Is lines (one_block_more readA readR)
cons_form {A} IsA linesA readA Rest linesR readR Is lines F R none apart joined by =
    then_form IsA linesA readA (IsCons Rest) (λ a t. linesR (tail t)) (λ a. mapped (λ xs. a ∷ xs) readR) Is lines (head_or F.some) F
    (λ a h. mapped_form (λ xs. a ∷ xs) tail Rest linesR readR (IsCons Rest a) (λ t. linesR (tail t)) (to a) (λ xs k. ((refl, k), refl)) R)
    (record { apart = split; joined = join })
  where
    to : (a : A) (t : List A) → IsCons Rest a t → Rest (tail t) × (linesR (tail t) ≡ linesR (tail t)) × (t ≡ a ∷ tail t)
    to a [] h = elim h [ ]
    to a (x ∷ xs) h = (h.1, refl, ap (λ (z : A). z ∷ xs) h.0)

    split : (t : List A) → Is t → IsA (head_or F.some t) × IsCons Rest (head_or F.some t) t × (lines t ≡ linesA (head_or F.some t) ++ linesR (tail t))
    split [] h = absurd (none h)
    split (x ∷ xs) h = ((apart x xs h).0, (refl, (apart x xs h).1), by x xs)

    join : (a : A) (t : List A) → IsA a → IsCons Rest a t → Is t × (lines t ≡ linesA a ++ linesR (tail t))
    join a [] h k = elim k [ ]
    join a (x ∷ xs) h k = (joined x xs (subst IsA (sym k.0) h) k.1, by x xs ∙ ap (λ (z : A). linesA z ++ linesR xs) k.0)

-- ---- so many
-- n of them
abbrev pub AreSoMany : {A : Type 0} → (A → Type 0) → ℕ → List A → Type 0
AreSoMany Is n xs = (length xs ≡ n) × AllByRecursion Is xs

-- so many parts are a part
pub times_form : {A : Type 0} (Is : A → Type 0) (lines : ℕ → A → List Line) (read : ℕ → Read A) → ((i : ℕ) → IsForm Is (lines i) (read i)) →
    (n i : ℕ) → IsForm (AreSoMany Is n) (in_turn lines i) (times_at read n i)
times_form {A} Is lines read F zero i = same_form (AreSoMany Is 0) (λ x. x ≡ []) (in_turn lines i) (λ x. []) (λ s. Ok ([], s)) to (λ a e. (subst (AreSoMany Is 0) (sym e) (refl, tt), ap (in_turn lines i) e)) (done_form [])
  where
    to : (a : List A) → AreSoMany Is 0 a → (a ≡ []) × (in_turn lines i a ≡ [])
    to [] h = (refl, refl)
    to (x ∷ xs) h = absurd (omega (arith, h.0))
times_form {A} Is lines read F (suc n) i =
    cons_form Is (lines i) (read i) (AreSoMany Is n) (in_turn lines (suc i)) (times_at read n (suc i)) (AreSoMany Is (suc n)) (in_turn lines i)
    (F i) (times_form Is lines read F n (suc i)) (λ h. omega (arith, h.0))
    (λ x xs h. (h.1.0, (let q : length xs ≡ n = omega (arith, h.0) in q, h.1.1))) (λ x xs h k. (let q : length (x ∷ xs) ≡ suc n = omega (arith, k.0) in q, (h, k.1))) (λ x xs. refl)
