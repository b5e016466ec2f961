-- A refusal with its cause, and single tokens that are refused.
-- All places are told by the tokens that lead there from one start; a token of no kind is refused as such.
use Rattle.std.proofs.Common.{◌≡◌, ℕ, ◌<◌, Bool, true, false, List, [], ◌∷◌, ◌++◌, Result, Ok, Err, refl, sym, ap, subst, ◌∙◌, ◌⊎◌, inl, inr, arith, nat_lt, append_assoc}
use Rattle.std.proofs.lemmas.Bool.{ltb-true, eq-eqb}
use Rattle.prime_field.specs.Decimal.{value_of}
use Rattle.script_grammar.specs.declared.refusal.Refusal.{Refusal}
use Rattle.script_grammar.specs.declared.refusal.ReadKind.{ReadKind}
use Rattle.script_grammar.specs.declared.refusal.ReadKind.TheVariants.{Expected, ExponentTooLarge}
use Rattle.script_grammar.specs.declared.refusal.What.{What}
use Rattle.script_grammar.specs.declared.refusal.What.TheVariants as whats
use Rattle.script_grammar.specs.Tokens.{Token, Place, next, word, text, mark, bad, end, cut}
use Rattle.script_grammar.specs.Words.{is_the_mark, is_the_word, word_of}
use Rattle.script_grammar.specs.Trees.{one}
use Rattle.script_grammar.specs.Steps.{◌>>=◌, refused, kind_at, mark_at, word_at, numeral_at, exponent_at}
use Rattle.script_grammar.specs.Expressions.{Declarations}
use Rattle.script_grammar.specs.Valid.{Stand}
use Rattle.script_grammar.specs.Places.{IsToken, Placed}
use Rattle.script_grammar.specs.First.{refusal_at}
use Rattle.script_grammar.specs.Spots.{Spot, just, Behind, MustStand, SpotInSum, Here}
use Rattle.script_grammar.specs.Causes.{is_number, MayNotEnd, IsCause, HasCause, HasCauseInSum, Wanted}
use Rattle.script_grammar.proofs.Steps.{ok_is, chosen, bind_err, err_is, never, mark_is, word_is, same_refl, Stand-then}
use Rattle.script_grammar.proofs.ReadTokensStand.{numeral_found}
use Rattle.script_grammar.proofs.TreeTokens.{AreTokens, AreTokens-append, token_no_last}
use Rattle.script_grammar.proofs.Places.{next_placed, stand_less}
use Rattle.script_grammar.proofs.LoopsByTokens.{NotEmpty}

-- these tokens, each a word, a string or a mark, lead from one place to another
abbrev pub Leads : Place → List Token → Place → Type 0
Leads s tokens t = Stand s tokens t × AreTokens tokens

-- What leads somewhere, and what stands there, lead on.
pub Leads-then : (s : Place) (a : List Token) (t : Place) (b : List Token) (u : Place) → Leads s a t → Stand t b u → AreTokens b → Leads s (a ++ b) u
Leads-then s a t b u st on tokens = (Stand-then s a t b u st.0 on, AreTokens-append a b st.1 tokens)

-- No test comes out both ways.
pub not_both : (b : Bool) → b ≡ false → b ≡ true → ⊥
not_both b p q = cc

-- Where more tokens stand than lead to a place, the others stand there.
pub stand_behind : (s : Place) (a : List Token) (t : Place) (b : List Token) (u : Place) → Stand s a t → Stand s (a ++ b) u → Stand t b u
stand_behind s [] t b u st all = subst (λ (x : Place). Stand x b u) st all
stand_behind s (i ∷ a) t b u st all = stand_behind (next s.rest) a t b u st.1 all.1

-- a refusal behind the start s, with its cause
pub record Caused (s : Place) (f : Refusal) : Type 0 where
  pub before : List Token
  pub place : Place
  pub kind : ReadKind
  pub stand : Leads s before place
  pub is : f ≡ refusal_at place kind
  pub cause : HasCause kind before place

-- the same in an expression that begins at s
pub record CausedInSum (known : Declarations) (s : Place) (f : Refusal) : Type 0 where
  pub before : List Token
  pub place : Place
  pub kind : ReadKind
  pub stand : Leads s before place
  pub is : f ≡ refusal_at place kind
  pub cause : HasCauseInSum kind known before place

-- What is refused at a spot is refused as a bad byte or as the end where it is one, and else for the cause of its own.
pub cause_at : (known : Declarations) (spot : Spot) (i : Token) (kind : ReadKind) → MayNotEnd spot cut → MayNotEnd spot end → (IsToken i → IsCause kind known spot i) → IsCause (kind_at i kind) known spot i
cause_at known spot (word w) kind at_cut at_end h = h tt
cause_at known spot (text w) kind at_cut at_end h = h tt
cause_at known spot (mark m) kind at_cut at_end h = h tt
cause_at known spot bad kind at_cut at_end h = refl
cause_at known spot end kind at_cut at_end h = at_end
cause_at known spot cut kind at_cut at_end h = at_cut

-- A token that is refused with a cause at a spot has that cause.
pub refused_with : {A : Type 0} (s : Place) (known : Declarations) (spot : Spot) (kind : ReadKind) (c : List Token) (t : Place) (f : Refusal) → Leads s c t → Here known spot c → IsCause (kind_at t.token kind) known spot t.token
    → refused {A = A} t kind ≡ Err f → Caused s f
refused_with {A} s known spot kind c t f st here cause e = record {
  before = c;
  place = t;
  kind = kind_at t.token kind;
  stand = st;
  is = sym (err_is {A = A} (refusal_at t (kind_at t.token kind)) f e);
  cause = (known, inl (spot, here, cause));
}

-- A token that is refused at a spot has its cause there.
pub refused_here : {A : Type 0} (s : Place) (known : Declarations) (spot : Spot) (kind : ReadKind) (c : List Token) (t : Place) (f : Refusal) → Leads s c t → Here known spot c → MayNotEnd spot cut → MayNotEnd spot end
    → (IsToken t.token → IsCause kind known spot t.token) → refused {A = A} t kind ≡ Err f → Caused s f
refused_here {A} s known spot kind c t f st here at_cut at_end h e = refused_with {A = A} s known spot kind c t f st here (cause_at known spot t.token kind at_cut at_end h) e

-- The same holds in an expression.
pub refused_in_sum : {A : Type 0} (s : Place) (known : Declarations) (spot : Spot) (kind : ReadKind) (c : List Token) (t : Place) (f : Refusal) → Leads s c t → SpotInSum spot c → MayNotEnd spot cut → MayNotEnd spot end
    → (IsToken t.token → IsCause kind known spot t.token) → refused {A = A} t kind ≡ Err f → CausedInSum known s f
refused_in_sum {A} s known spot kind c t f st here at_cut at_end h e = record {
  before = c;
  place = t;
  kind = kind_at t.token kind;
  stand = st;
  is = sym (err_is {A = A} (refusal_at t (kind_at t.token kind)) f e);
  cause = (spot, here, cause_at known spot t.token kind at_cut at_end h);
}

-- A numeral that isn't there is refused, as no numeral, and by nothing else.
pub numeral_refused : (t : Place) (f : Refusal) → numeral_at t ≡ Err f → (is_number t.token ≡ false) × (refused {A = List ℕ × Place} t (Expected whats.Numeral) ≡ Err f)
unfolding numeral_at
numeral_refused t f e = elim (chosen (is_number t.token) _ _ _ e) [ inl yea ↦ absurd (never _ f yea.1) | inr nay ↦ nay ]

-- What is read as a numeral is one.
pub number_is : (t : Place) (n : List ℕ × Place) → numeral_at t ≡ Ok n → (is_number t.token ≡ true) × (n.0 ≡ word_of t.token)
number_is t n e =
    let r = numeral_found t n e in
    (subst (λ (i : Token). is_number i ≡ true) (sym r.0) r.1, sym (ap word_of r.0))

-- An exponent is refused for one of two reasons: there is no numeral, or it is above 1,000.
pub exponent_refused : (t : Place) (f : Refusal) → exponent_at t ≡ Err f
    → ((is_number t.token ≡ false) × (refused {A = List ℕ × Place} t (Expected whats.Numeral) ≡ Err f))
    ⊎ ((is_number t.token ≡ true) × (1000 < value_of (word_of t.token)) × (refused {A = List ℕ × Place} t ExponentTooLarge ≡ Err f))
unfolding exponent_at
exponent_refused t f e = elim (bind_err (numeral_at t) _ f e) [
  | inl early ↦ inl (numeral_refused t f early)
  | inr late ↦
      let n = late.0 in
      let is = number_is t n late.1 in
      elim (chosen (nat_lt 1000 (value_of n.0)) _ _ _ late.2) [
        | inl yea ↦ inr (is.0, subst (λ (w : List ℕ). 1000 < value_of w) is.1 (ltb-true 1000 (value_of n.0) yea.0), yea.1)
        | inr nay ↦ absurd (never _ f nay.1)
      ]
]

-- Behind tokens, of which there are some, less is left.
pub tokens_less : (t : Place) (tokens : List Token) (u : Place) → Placed t → AreTokens tokens → NotEmpty tokens → Stand t tokens u → (u.left < t.left) × Placed u
tokens_less t [] u placed are some st = absurd some
tokens_less t (i ∷ tokens) u placed are some st = stand_less t i tokens u placed (token_no_last t.token i st.0 are.0) st

-- ---- one cause for one place
-- Tokens lead to places with as many bytes left only where they are the same, and so are the places.
pub same_place : (s : Place) (a b : List Token) (p q : Place) → Placed s → Leads s a p → Leads s b q → p.left ≡ q.left → (a ≡ b) × (p ≡ q)
same_place s [] [] p q placed to_p to_q e = (refl, sym to_p.0 ∙ to_q.0)
same_place s [] (j ∷ b) p q placed to_p to_q e =
    let less = stand_less s j b q placed (token_no_last s.token j to_q.0.0 to_q.1.0) to_q.0 in
    absurd (omega (arith, less.0, e, ap (λ (x : Place). x.left) to_p.0))
same_place s (i ∷ a) [] p q placed to_p to_q e =
    let less = stand_less s i a p placed (token_no_last s.token i to_p.0.0 to_p.1.0) to_p.0 in
    absurd (omega (arith, less.0, e, ap (λ (x : Place). x.left) to_q.0))
same_place s (i ∷ a) (j ∷ b) p q placed to_p to_q e =
    let r = same_place (next s.rest) a b p q (next_placed s.rest) (to_p.0.1, to_p.1.1) (to_q.0.1, to_q.1.1) e in
    (ap (λ (x : List Token). i ∷ x) r.0 ∙ ap (λ (k : Token). k ∷ b) (sym to_p.0.0 ∙ to_q.0.0), r.1)

-- The cause of a refusal is one of each kind and place that the refusal is told by.
pub cause_of : (C : ReadKind → List Token → Place → Type 0) (s : Place) (f : Refusal) (before tokens : List Token) (place there : Place) (kind why : ReadKind) → Placed s → Leads s before place → Leads s tokens there
    → f ≡ refusal_at place kind → f ≡ refusal_at there why → C why tokens there → C kind before place
cause_of C s f before tokens place there kind why placed to_place to_there is was cause =
    let same = sym was ∙ is in
    let at = same_place s tokens before there place placed to_there to_place (ap (λ (r : Refusal). r.left) same) in
    subst (λ (p : Place). C kind before p) at.1 (subst (λ (b : List Token). C kind b there) at.0 (subst (λ (k : ReadKind). C k tokens there) (ap (λ (r : Refusal). r.kind) same) cause))

-- ---- behind a start
-- Tokens that come behind some part have more behind them.
pub behind_on : {Before : List Token → Type 0} (done tokens more : List Token) → Behind Before done tokens → Behind Before (done ++ more) (tokens ++ more)
behind_on done tokens more h = (h.0, h.1, sym (append_assoc h.0 done more) ∙ ap (λ (x : List Token). x ++ more) h.2)

-- Some tokens come behind a part that is whole.
pub behind_first : {Before : List Token → Type 0} (c tokens : List Token) → Before c → Behind Before tokens (c ++ tokens)
behind_first c tokens h = (c, h, refl)

-- Where just one mark must stand, another token is refused for that; behind the mark reading goes on.
pub mark_or : {B : Type 0} (s : Place) (known : Declarations) (m : ℕ) (what : What) (c : List Token) (t : Place) (g : Place → Result B Refusal) (f : Refusal) → Leads s c t → MustStand known (mark m) c
    → ((t.token ≡ mark m → ⊥) → Wanted what (just (mark m)) t.token) → (mark_at m what t >>= g) ≡ Err f
    → Caused s f ⊎ (Leads s (c ++ one (mark m)) (next t.rest) × (g (next t.rest) ≡ Err f))
unfolding mark_at
mark_or s known m what c t g f st must wanted e = elim (bind_err _ g f e) [
  | inl early ↦ elim (chosen (is_the_mark m t.token) _ _ _ early) [
    | inl yea ↦ absurd (never _ f yea.1)
    | inr nay ↦ inl (refused_here s known (just (mark m)) (Expected what) c t f st must (inl refl) (inr refl) (λ i. (i, wanted (λ here. not_both (is_the_mark m t.token) nay.0 (ap (is_the_mark m) here ∙ eq-eqb m m refl)))) nay.1)
  ]
  | inr late ↦ elim (chosen (is_the_mark m t.token) _ _ _ late.1) [
    | inl yea ↦ inr (
      Leads-then s c t (one (mark m)) (next t.rest) st (mark_is m t.token yea.0, refl) (tt, tt),
      ap g (ok_is (next t.rest) late.0 yea.1) ∙ late.2,
    )
    | inr nay ↦ absurd (never late.0 _ (sym nay.1))
  ]
]

-- The same holds of a word.
pub word_or : {B : Type 0} (s : Place) (known : Declarations) (w : List ℕ) (what : What) (c : List Token) (t : Place) (g : Place → Result B Refusal) (f : Refusal) → Leads s c t → MustStand known (word w) c
    → ((t.token ≡ word w → ⊥) → Wanted what (just (word w)) t.token) → (word_at w what t >>= g) ≡ Err f
    → Caused s f ⊎ (Leads s (c ++ one (word w)) (next t.rest) × (g (next t.rest) ≡ Err f))
unfolding word_at
word_or s known w what c t g f st must wanted e = elim (bind_err _ g f e) [
  | inl early ↦ elim (chosen (is_the_word w t.token) _ _ _ early) [
    | inl yea ↦ absurd (never _ f yea.1)
    | inr nay ↦ inl (refused_here s known (just (word w)) (Expected what) c t f st must (inl refl) (inr refl) (λ i. (i, wanted (λ here. not_both (is_the_word w t.token) nay.0 (ap (is_the_word w) here ∙ same_refl w)))) nay.1)
  ]
  | inr late ↦ elim (chosen (is_the_word w t.token) _ _ _ late.1) [
    | inl yea ↦ inr (
      Leads-then s c t (one (word w)) (next t.rest) st (word_is w t.token yea.0, refl) (tt, tt),
      ap g (ok_is (next t.rest) late.0 yea.1) ∙ late.2,
    )
    | inr nay ↦ absurd (never late.0 _ (sym nay.1))
  ]
]
