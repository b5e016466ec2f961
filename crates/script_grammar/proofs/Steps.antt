-- Steps of reading that did or did not fail, what a test says of a token, and tokens that stand one after the other.
-- Each lemma takes one step of a reading function apart, so that the lemmas on these go along their definitions.
use Rattle.std.proofs.Common.{◌≡◌, ℕ, Bool, true, false, cond, ◌||◌, eqb, List, [], ◌∷◌, ◌++◌, Result, Ok, Err, refl, sym, ap, subst, ◌∙◌, ◌⊎◌, inl, inr}
use Rattle.std.proofs.lemmas.Bool.{eqb-true, eq-eqb, and_parts, and_from}
use Rattle.script_grammar.specs.declared.refusal.Refusal.{Refusal}
use Rattle.script_grammar.specs.Tokens.{Token, Place, next, mark, word, text, bad, end, cut}
use Rattle.script_grammar.specs.Words.{is_the_mark, is_the_word, is_the_text, is_the_end, is_same, is_word, word_of}
use Rattle.script_grammar.specs.Steps.{◌>>=◌, kind_at}
use Rattle.script_grammar.specs.declared.refusal.ReadKind.{ReadKind}
use Rattle.script_grammar.specs.Valid.{Stand}

-- the refusal of what stands at a place
abbrev pub refusal : Place → ReadKind → Refusal
refusal t kind = record { left = t.left; kind = kind_at t.token kind }

-- what was read
abbrev done : {A : Type 0} → A → Result A Refusal
done x = Ok x

-- What is read is one thing.
pub ok_is : {A : Type 0} (x y : A) → done x ≡ done y → x ≡ y
ok_is x y e = cc

-- Where two steps read something, the first one did, and the second one behind it.
pub bind_ok : {A B : Type 0} (r : Result A Refusal) (f : A → Result B Refusal) (y : B) → (r >>= f) ≡ Ok y → (x : A) × (r ≡ Ok x) × (f x ≡ Ok y)
bind_ok (Ok x) f y e = (x, refl, e)
bind_ok (Err d) f y e = absurd cc

-- A test went one of two ways.
pub chosen : {A : Type 0} (b : Bool) (x y z : A) → cond b x y ≡ z → ((b ≡ true) × (x ≡ z)) ⊎ ((b ≡ false) × (y ≡ z))
chosen true x y z e = inl (refl, e)
chosen false x y z e = inr (refl, e)

-- the second branch, where the first one fails
pub went_on : {A : Type 0} (b : Bool) (d : Refusal) (r : Result A Refusal) (z : A) → cond b (Err d) r ≡ Ok z → (b ≡ false) × (r ≡ Ok z)
went_on true d r z e = absurd cc
went_on false d r z e = (refl, e)

-- the first branch, where the second one fails
pub went_in : {A : Type 0} (b : Bool) (d : Refusal) (r : Result A Refusal) (z : A) → cond b r (Err d) ≡ Ok z → (b ≡ true) × (r ≡ Ok z)
went_in true d r z e = (refl, e)
went_in false d r z e = absurd cc

-- a step that failed: the first one, or the second behind what was read
pub bind_err : {A B : Type 0} (r : Result A Refusal) (f : A → Result B Refusal) (d : Refusal) → (r >>= f) ≡ Err d → (r ≡ Err d) ⊎ ((x : A) × (r ≡ Ok x) × (f x ≡ Err d))
bind_err (Ok x) f d e = inr (x, refl, e)
bind_err (Err g) f d e = inl cc

-- a refusal
abbrev failed : {A : Type 0} → Refusal → Result A Refusal
failed f = Err f

-- What is refused is refused for one reason.
pub err_is : {A : Type 0} (f g : Refusal) → failed {A = A} f ≡ failed g → f ≡ g
err_is f g e = cc

-- Nothing is both read and refused.
pub never : {A : Type 0} (x : A) (f : Refusal) → done x ≡ Err f → ⊥
never x f e = cc

-- the second of two tests, where the first one fails
pub second_so : (p q : Bool) → (p || q) ≡ true → p ≡ false → q ≡ true
second_so p q h e = sym (ap (λ (b : Bool). b || q) e) ∙ h

-- A token that passes the test of a mark is that mark.
pub mark_is : (m : ℕ) (token : Token) → is_the_mark m token ≡ true → token ≡ mark m
mark_is m (mark n) h = ap (λ k. mark k) (eqb-true n m h)
mark_is m (word w) h = absurd cc
mark_is m (text w) h = absurd cc
mark_is m bad h = absurd cc
mark_is m end h = absurd cc
mark_is m cut h = absurd cc

-- Words that are tested to be the same are the same.
pub same_is : (a b : List ℕ) → is_same a b ≡ true → a ≡ b
same_is [] [] h = refl
same_is [] (y ∷ b) h = absurd cc
same_is (x ∷ a) [] h = absurd cc
same_is (x ∷ a) (y ∷ b) h =
    let p = and_parts (eqb x y) (is_same a b) h in
    ap (λ (k : ℕ). k ∷ a) (eqb-true x y p.0) ∙ ap (λ (l : List ℕ). y ∷ l) (same_is a b p.1)

-- A word is the same as itself.
pub same_refl : (w : List ℕ) → is_same w w ≡ true
same_refl [] = refl
same_refl (b ∷ w) = and_from (eqb b b) (is_same w w) (eq-eqb b b refl) (same_refl w)

-- A token that passes the test of a word is that word.
pub word_is : (w : List ℕ) (i : Token) → is_the_word w i ≡ true → i ≡ word w
word_is w (word v) h = ap (λ (l : List ℕ). word l) (sym (same_is w v h))
word_is w (text v) h = absurd cc
word_is w (mark m) h = absurd cc
word_is w bad h = absurd cc
word_is w end h = absurd cc
word_is w cut h = absurd cc

-- A token that passes the test of a string is that string.
pub text_is : (w : List ℕ) (i : Token) → is_the_text w i ≡ true → i ≡ text w
text_is w (text v) h = ap (λ (l : List ℕ). text l) (sym (same_is w v h))
text_is w (word v) h = absurd cc
text_is w (mark m) h = absurd cc
text_is w bad h = absurd cc
text_is w end h = absurd cc
text_is w cut h = absurd cc

-- A token that is a word is the word that it is.
pub some_word_is : (i : Token) → is_word i ≡ true → i ≡ word (word_of i)
some_word_is (word v) h = refl
some_word_is (text v) h = absurd cc
some_word_is (mark m) h = absurd cc
some_word_is bad h = absurd cc
some_word_is end h = absurd cc
some_word_is cut h = absurd cc

-- A token that passes the test of the end is the end.
pub end_is : (i : Token) → is_the_end i ≡ true → i ≡ end
end_is (word v) h = absurd cc
end_is (text v) h = absurd cc
end_is (mark m) h = absurd cc
end_is bad h = absurd cc
end_is cut h = absurd cc
end_is end h = refl

pub Stand-then : (t : Place) (a : List Token) (m : Place) (b : List Token) (u : Place) → Stand t a m → Stand m b u → Stand t (a ++ b) u
Stand-then t [] m b u p q = subst (λ (x : Place). Stand x b u) (sym p) q
Stand-then t (i ∷ a) m b u p q = (p.0, Stand-then (next t.rest) a m b u p.1 q)

pub Stand-split : (t : Place) (a b : List Token) (u : Place) → Stand t (a ++ b) u → (m : Place) × Stand t a m × Stand m b u
Stand-split t [] b u p = (t, refl, p)
Stand-split t (i ∷ a) b u p =
    let r = Stand-split (next t.rest) a b u p.1 in (r.0, (p.0, r.1), r.2)
