-- What a source gave, where it told its bytes. It gave a beginning of what it had, and all of it where it was read to its end.
use Rattle.std.proofs.Common.{◌≡◌, ℕ, List, [], ◌≤◌, length, refl, Some, None, ap, arith, length-append, IfSome, subst}
use Rattle.std.proofs.KnownBytes.{Consumes-all}
use Rattle.std.specs.declared.option.Option.{Option}
use Rattle.std.specs.Io.KnownBytes.{Consumes}
use Rattle.io_edge.specs.Reads.{Gave}

-- what was left is what was read to the end
pub read_is : (limit : ℕ) (before now : Option (List ℕ)) (bytes input : List ℕ) → before ≡ Some input → Gave before now limit bytes → length bytes ≤ limit → bytes ≡ input
read_is limit before now bytes input is gave few =
    subst (λ o. IfSome o (λ xs. bytes ≡ xs)) is (Consumes-all before now bytes [] bytes gave.given (gave.whole few) refl)

-- what a source gave is no more than what it had
pub given_le : (before now : Option (List ℕ)) (bytes input : List ℕ) → before ≡ Some input → Consumes before now bytes → length bytes ≤ length input
given_le None now bytes input is c = absurd (cc (is))
given_le (Some xs) None bytes input is c = absurd c
given_le (Some xs) (Some ys) bytes input is c = let e : xs ≡ input = cc (is) in omega (arith, ap length c, length-append bytes ys, ap length e)
