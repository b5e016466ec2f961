-- Quotients of products and of common multiples, read place by place.
-- Each place of a quotient is a difference, so each of these identities is one of numbers at each place.
use Rattle.std.proofs.Common.{◌≡◌, ℕ, ◌<◌, ◌≤◌, List, [], ◌∷◌, length, get_or, ap, sym, ◌∙◌, arith}
use Rattle.std.proofs.lemmas.List.{ext_get_or}
use Rattle.local_order.specs.Mono.{degree, mono_one, mono_times, mono_quotient}
use Rattle.local_order.proofs.Order.{length-mono_times, length-mono_quotient, mono_times_comm}
use Rattle.local_order.proofs.Places.{get_or-mono_times, get_or-mono_quotient}
use Rattle.local_order.proofs.Division.{one_of_degree, mono_times-one}

-- ---- degrees
-- a quotient has at most the degree of what is divided
pub degree-mono_quotient : (b a : List ℕ) → degree (mono_quotient b a) ≤ degree b
degree-mono_quotient [] a = omega arith
degree-mono_quotient (y ∷ b) [] = omega arith
degree-mono_quotient (y ∷ b) (x ∷ a) = omega (arith, degree-mono_quotient b a)

-- a product with a monomial of degree 0 is the other factor
pub mono_times-degree_zero : (a b : List ℕ) → length a ≡ length b → degree a ≡ 0 → mono_times a b ≡ b
mono_times-degree_zero a b e z =
    mono_times_comm a b ∙ ap (mono_times b) (one_of_degree a z ∙ ap mono_one e) ∙ mono_times-one b

-- ---- products
-- a product divided by one factor is the other
pub mono_quotient_of_product : (a b : List ℕ) → length a ≡ length b → mono_quotient (mono_times a b) a ≡ b
mono_quotient_of_product a b e =
    ext_get_or 0 (mono_quotient (mono_times a b) a) b (length-mono_quotient (mono_times a b) a ∙ length-mono_times a b e)
    (λ k l. omega (arith, get_or-mono_quotient (mono_times a b) a k, get_or-mono_times a b k))

-- ---- common multiples
-- a times what it lacks to b is b times what it lacks to a
pub common_multiple_from_both : (a b : List ℕ) → length a ≡ length b → mono_times a (mono_quotient b a) ≡ mono_times b (mono_quotient a b)
common_multiple_from_both a b e =
    ext_get_or 0 (mono_times a (mono_quotient b a)) (mono_times b (mono_quotient a b)) (long a b e ∙ sym e ∙ sym (long b a (sym e)))
    (λ k l. omega (arith, get_or-mono_times a (mono_quotient b a) k, get_or-mono_quotient b a k, get_or-mono_times b (mono_quotient a b) k, get_or-mono_quotient a b k))
  where
    long : (a b : List ℕ) → length a ≡ length b → length (mono_times a (mono_quotient b a)) ≡ length b
    long a b e = length-mono_times a (mono_quotient b a) (e ∙ sym (length-mono_quotient b a)) ∙ length-mono_quotient b a

-- where a x is b y, what a lacks to b divides x
pub cofactor_divides : (a b x y : List ℕ) → length a ≡ length b → length x ≡ length b → mono_times a x ≡ mono_times b y →
    mono_times (mono_quotient x (mono_quotient b a)) (mono_quotient b a) ≡ x
cofactor_divides a b x y e f h = ext_get_or 0 (mono_times q c) x (long ∙ sym f) each
  where
    c : List ℕ
    c = mono_quotient b a

    q : List ℕ
    q = mono_quotient x c

    long : length (mono_times q c) ≡ length b
    long = omega (arith, length-mono_times q c (omega (arith, length-mono_quotient x c, length-mono_quotient b a, f)), length-mono_quotient b a)

    each : (k : ℕ) → k < length (mono_times q c) → get_or (mono_times q c) k 0 ≡ get_or x k 0
    each k l =
        omega (
          arith,
          get_or-mono_times q c k,
          get_or-mono_quotient x c k,
          get_or-mono_quotient b a k,
          ap (λ m. get_or m k 0) h,
          get_or-mono_times a x k,
          get_or-mono_times b y k,
        )

-- where a x is b y, that quotient of x times what b lacks to a is y
pub cofactor_gives_other : (a b x y : List ℕ) → length a ≡ length b → length x ≡ length b → length y ≡ length b → mono_times a x ≡ mono_times b y →
    mono_times (mono_quotient x (mono_quotient b a)) (mono_quotient a b) ≡ y
cofactor_gives_other a b x y e f g h = ext_get_or 0 (mono_times q c) y long each
  where
    c : List ℕ
    c = mono_quotient a b

    q : List ℕ
    q = mono_quotient x (mono_quotient b a)

    long : length (mono_times q c) ≡ length y
    long = omega (arith, length-mono_times q c (omega (arith, length-mono_quotient x (mono_quotient b a), length-mono_quotient a b, e, f)), length-mono_quotient a b, e, g)

    each : (k : ℕ) → k < length (mono_times q c) → get_or (mono_times q c) k 0 ≡ get_or y k 0
    each k l =
        omega (
          arith,
          get_or-mono_times q c k,
          get_or-mono_quotient x (mono_quotient b a) k,
          get_or-mono_quotient b a k,
          get_or-mono_quotient a b k,
          ap (λ m. get_or m k 0) h,
          get_or-mono_times a x k,
          get_or-mono_times b y k,
        )
