-- What the code's functions hand on: refusals and values.
use Rattle.std.proofs.Common.{◌≡◌, ◌∙◌, ◌++◌, ◌∷◌, [], List, ℕ, ap, sym, refl, subst, Result, Ok, Err, arith}
use Rattle.sparse_poly.specs.Poly.{Polynomial, IsCanonical}
use Rattle.expression_reader.specs.Sound.{IsValue}
use Rattle.std.specs.Result.{IsErrAnd}
use Rattle.std.proofs.lemmas.Result.{err_from_is_err_and}
use Rattle.script_grammar.specs.declared.refusal.Refusal.{Refusal}
use Rattle.expression_reader.specs.declared.stop.Stop.{Stop}
use Rattle.script_tokens.specs.declared.token.Place.{Place as Seen}
use Rattle.expression_reader.specs.declared.names.Names.{Names}
use Rattle.expression_reader.specs.Gives.{Fails, Gives, meant}
use Rattle.expression_reader.specs.ReadsValue.{ReadsValue}
use Rattle.script_grammar.specs.Tokens.{Place}
use Rattle.script_grammar.specs.Steps.{◌>>=◌}
use Rattle.std.specs.Prelude.{All}
use Rattle.std.proofs.lemmas.List.Elements.{All-append, All-cons}

-- What failed with a reason gives that reason.
pub gives_failed : {X Y : Type 0} (view : X → Y) (r : Result X Stop) (e : Stop) (read : Result Y Refusal) → IsErrAnd r (λ x. x ≡ e) → Fails e read → Gives view r read
gives_failed view r e read h f = let p = err_from_is_err_and r h in rw (p.1, p.2) f

-- What failed with a reason reads no value for that reason.
pub value_failed : {X Y : Type 0} (names : Names) (left : ℕ) (view : X → Y) (poly : X → Polynomial) (r : Result (X × Seen) Stop) (e : Stop) (read : Result (Y × Place) Refusal) → IsErrAnd r (λ x. x ≡ e) → Fails e read → ReadsValue names left view poly read r
value_failed names left view poly r e read h f = let p = err_from_is_err_and r h in rw (p.1, p.2) (record { gives = f; shorter = tt; valid = tt })

-- a result of the ring's calls is a value
pub value_made : (p n k : ℕ) (f : Polynomial) → f.n ≡ k → k ≡ n → IsCanonical p f.n f.terms → IsValue p n f
value_made p n k f same variables canonical = record { variables = same ∙ variables; canonical = subst (λ m. IsCanonical p m f.terms) (same ∙ variables) canonical }

-- what was read, with its value in place of its tree, where one token more is read behind it
pub after_read : {A B : Type 0} (f : A → B) (x : A) (y : B) → y ≡ f x → (r : Result Place Refusal) → meant f (r >>= λ after. Ok (x, after)) ≡ (r >>= λ after. Ok (y, after))
after_read {A} {B} f x y e (Ok w) = ap (λ (z : B). Ok (z, w)) (sym e)
after_read f x y e (Err g) = refl

-- all of a list and one more
pub All-push : {X : Type 0} (P : X → Type 0) (xs : List X) (x : X) → All P xs → P x → All P (xs ++ x ∷ [])
All-push P xs x all one = All-append P xs (x ∷ []) all (All-cons P x [] one (λ k d h. absurd (omega (arith, h))))
