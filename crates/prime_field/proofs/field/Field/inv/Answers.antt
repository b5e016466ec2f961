use Rattle.std.proofs.Common.{◌≡◌, ℕ, ◌*◌, ◌/◌, ◌%◌, ◌<◌, ◌≤◌, arith, subst, sym, ap, ◌∙◌, refl}
use Rattle.std.proofs.Math.Nat.{mod-lt, mul-zero, mod_self, mul-one, zero-mod}
use Rattle.std.specs.Int.{IsGcd}
use Rattle.prime_field.specs.Prime.{IsPrime, InTable}
use Rattle.prime_field.proofs.Primality.{IsPrime-table}
use Rattle.prime_field.proofs.Residue.{euclid, euclid_factor}
use Rattle.prime_field.proofs.Coprime.{coprime, ends_at_one, IsGcd-to_mod}
use Rattle.prime_field.proofs.Inverse.{inverse-only}
use Rattle.prime_field.proofs.field.Field.inv.Goals as goal

mul_zero_mod : (a p : ℕ) → a * 0 % p ≡ 0
mul_zero_mod a p = rw mul-zero (zero-mod p)

pub loop-low-init : goal.loop-low-init
loop-low-init c =
    let offered : InTable c.args.self.now = subst InTable c.self.view_is c.self.invariant in
    let prime : IsPrime c.args.self.now = IsPrime-table c.args.self.now offered in
    let two : 2 ≤ c.args.self.now = prime.two_up in
    record {
      high_factor_in = omega arith;
      low_factor_in = omega arith;
      high_in = omega arith;
      low_in = omega arith;
      high_is = mul_zero_mod c.args.a c.args.self.now ∙ sym (mod_self c.args.self.now) ∙ ap (λ n. n % c.args.self.now) (sym c.self.view_is);
      low_is = rw mul-one refl;
      coprime = subst (λ n. IsGcd n c.args.a 1) (sym c.self.view_is) (coprime c.args.self.now c.args.a prime c.requires.residue c.requires.nonzero);
    }

pub loop-low-preserved : goal.loop-low-preserved
loop-low-preserved c =
    let inv = c.loop-low.invariant in
    let some : 0 < c.loop-low.low = omega (arith, c.loop-low-test.true) in
    let pos : 0 < c.args.self.now = omega arith in
    record {
      high_factor_in = inv.low_factor_in;
      low_factor_in = c.sub-factor.ensures.residue;
      high_in = omega arith;
      low_in = omega (arith, mod-lt c.loop-low.high some, inv.low_in);
      high_is = inv.low_is;
      low_is = euclid c.args.self.now c.args.a c.loop-low.high c.loop-low.low c.loop-low.high_factor c.loop-low.low_factor c.sub-factor.result pos inv.high_is inv.low_is
          (euclid_factor c.args.self.now c.loop-low.high_factor c.loop-low.low_factor (c.loop-low.high / c.loop-low.low) c.mul.result c.sub-factor.result pos (subst (λ n. c.mul.result ≡ (c.loop-low.high / c.loop-low.low % n * c.loop-low.low_factor) % c.args.self.now) c.self.view_is c.mul.ensures.value) c.sub-factor.ensures.value);
      coprime = IsGcd-to_mod c.loop-low.high c.loop-low.low 1 inv.coprime;
    }

pub returns-clause-value : goal.returns-clause-value
returns-clause-value c =
    let offered : InTable c.args.self.now = subst InTable c.self.view_is c.self.invariant in
    let prime : IsPrime c.args.self.now = IsPrime-table c.args.self.now offered in
    ends_at_one c.args.self.now c.loop-low.high c.loop-low.low _ prime.two_up c.loop-low.invariant.coprime (omega (arith, c.loop-low-test.false)) c.loop-low.invariant.high_is

pub returns-clause-inverse : goal.returns-clause-inverse
returns-clause-inverse c =
    let offered : InTable c.args.self.now = subst InTable c.self.view_is c.self.invariant in
    inverse-only c.args.self.now c.args.a c.loop-low.high_factor (IsPrime-table c.args.self.now offered) c.requires.residue c.requires.nonzero (omega arith) (returns-clause-value c)
