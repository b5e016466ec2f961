-- The exponents of a short monomial.
use Rattle.std.proofs.Common.{◌≡◌, ◌<◌, ◌≤◌, ◌+◌, ◌++◌, ◌⊎◌, inl, inr, ℕ, zero, suc, List, [], ◌∷◌, Option, Some, None, length, take, map, get_or, slice_set, All, sym, ap, ◌∙◌, arith}
use Rattle.std.specs.Prelude.{IsSome, IfNone, ◌↔◌}
use Rattle.std.proofs.lemmas.List.{take_more_set, take_more, take_all, map-append}
use Rattle.script_tokens.specs.Reads.{at_most}
use Rattle.script_tokens.proofs.Numbers.{at_most_some}
use Rattle.std.proofs.lemmas.Bool.{cases_lt}
use Rattle.std.proofs.lemmas.List.Elements.{All-cons}
use Rattle.local_order.specs.Mono.{degree, IsWithinLimits}
use Rattle.script_grammar.specs.Words.{exponents}
use Rattle.script_grammar.specs.Meaning.{letter_exponent}
use Rattle.expression_reader.specs.Constant.{short_mono}
use Rattle.expression_reader.proofs.Table.{no_some}

-- the degree is no less than an exponent
pub letter_over : (letters w : List ℕ) (i : ℕ) → i < length letters → 1000 < letter_exponent (exponents w) (get_or letters i 0) → 1000 < degree (short_mono letters w)
letter_over [] w i h e = absurd (omega (arith, h))
letter_over (l ∷ letters) w zero h e = omega (arith, e)
letter_over (l ∷ letters) w (suc i) h e = let r = letter_over letters w i (omega (arith, h)) e in omega (arith, r)

-- The exponents are at most 1,000, or the degree is above.
all_low : (m : List ℕ) → All (λ e. e ≤ 1000) m ⊎ (1000 < degree m)
all_low [] = inl (λ k d h. absurd (omega (arith, h)))
all_low (e ∷ m) = join (cases_lt 1000 e) (all_low m)
  where
    join : (1000 < e) ⊎ (e ≤ 1000) → All (λ e. e ≤ 1000) m ⊎ (1000 < degree m) → All (λ e. e ≤ 1000) (e ∷ m) ⊎ (1000 < degree (e ∷ m))
    join (inl h) r = inr (omega (arith, h))
    join (inr h) (inl r) = inl (All-cons (λ e. e ≤ 1000) e m h r)
    join (inr h) (inr r) = inr (omega (arith, r))

-- what is no monomial for the code has a large degree
pub not_within : (m : List ℕ) → 1 ≤ length m → length m ≤ 8 → (IsWithinLimits m → ⊥) → 1000 < degree m
not_within m some few h = from (all_low m)
  where
    from : All (λ e. e ≤ 1000) m ⊎ (1000 < degree m) → 1000 < degree m
    from (inl low) = absurd (h (some, few, low))
    from (inr high) = high

-- ---- exponent by exponent
-- one more exponent
pub exponents_go : (exps letters w : List ℕ) (i x l : ℕ) → i < length exps → i < length letters → l ≡ get_or letters i 0 → at_most 1000 (letter_exponent (exponents w) l) ≡ Some x
    → take i exps ≡ short_mono (take i letters) w → take (i + 1) (slice_set exps i x) ≡ short_mono (take (i + 1) letters) w
exponents_go exps letters w i x l within have l_is some so_far =
    take_more_set exps i x within
    ∙ ap (λ (m : List ℕ). m ++ x ∷ []) so_far
    ∙ ap (λ (y : ℕ). short_mono (take i letters) w ++ y ∷ []) (sym (at_most_some 1000 (letter_exponent (exponents w) l) x some) ∙ ap (letter_exponent (exponents w)) l_is)
    ∙ sym (map-append (letter_exponent (exponents w)) (take i letters) (get_or letters i 0 ∷ []))
    ∙ ap (map (letter_exponent (exponents w))) (sym (take_more letters i 0 have))

-- all exponents
pub exponents_end : (exps letters w : List ℕ) (i n : ℕ) → n ≡ length letters → n ≤ i → i ≤ n → take i exps ≡ short_mono (take i letters) w → take n exps ≡ short_mono letters w
exponents_end exps letters w i n count low high so_far =
    let same : n ≡ i = omega (arith, low, high) in
    ap (λ k. take k exps) same ∙ so_far ∙ ap (λ l. short_mono l w) (take_all i letters (omega (arith, same, count)))

-- a refused monomial
pub none_limits : (X : Type 0) (r : Option X) (Q P : Type 0) → IsSome r ↔ Q → ((Q → ⊥) → P) → IfNone r P
none_limits X (Some x) Q P h f = tt
none_limits X None Q P h f = f (λ q. no_some X (h.1 q))
