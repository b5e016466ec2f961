-- A residue other than 0 has no factor in common with a prime, and Euclid's steps keep it so.
-- So they end at 1.
use Rattle.std.proofs.Common.{◌≡◌, ℕ, ◌%◌, ◌<◌, ◌≤◌, ◌≢◌, ap, sym, ◌∙◌, arith, subst}
use Rattle.std.proofs.Math.Nat.{one-dvd, le_of_dvd, mod-eq-zero_of_dvd, mod-eq_of_lt, dvd-mod_iff}
use Rattle.std.proofs.lemmas.Nat.Gcd.{IsGcd-from_zero, same_from_IsGcd}
use Rattle.std.specs.Int.{IsGcd, ◌∣◌}
use Rattle.prime_field.specs.Prime.{IsPrime}

-- a prime and a residue other than 0 have no common divisor but 1
pub coprime : (p a : ℕ) → IsPrime p → a < p → a ≢ 0 → IsGcd p a 1
coprime p a prime l n = (one-dvd p, one-dvd a, shared)
  where
    shared : (d : ℕ) → d ∣ p → d ∣ a → d ∣ 1
    shared d f g =
        let low : d ≤ a = le_of_dvd (omega arith) g in
        subst (λ k. k ∣ 1) (sym (prime.only d (omega arith) (mod-eq-zero_of_dvd d f))) (one-dvd 1)

-- where the lower remainder is 0, the higher one is 1
pub ends_at_one : (p high low x : ℕ) → 1 < p → IsGcd high low 1 → low ≡ 0 → x ≡ high % p → x ≡ 1
ends_at_one p high low x l g z e =
    let one : high ≡ 1 = same_from_IsGcd high low high 1 (IsGcd-from_zero high low z) g in
    e ∙ ap (λ n. n % p) one ∙ mod-eq_of_lt l

-- a step by a remainder keeps the common divisors
pub IsGcd-to_mod : (a b g : ℕ) → IsGcd a b g → IsGcd b (a % b) g
IsGcd-to_mod a b g h =
    (h.1, (dvd-mod_iff g h.1).1 h.0, λ d e f. h.2 d ((dvd-mod_iff d e).0 f) e)
