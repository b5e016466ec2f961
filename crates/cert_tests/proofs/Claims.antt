-- What is read may be written: writing names the last monomial of the staircase as the corner, which is one of the ring,
-- whatever corner was read.
use Rattle.std.proofs.Common.{ℕ, List, [], ◌∷◌, Option, refl}
use Rattle.std.specs.List.{AllByRecursion}
use Rattle.text_out.specs.declared.answer.Answer.{Answer}
use Rattle.text_out.specs.declared.answer.Answer.TheVariants.{Fits, TooSmall}
use Rattle.cert_grammar.specs.Words.{Ring, IsMonoOf}
use Rattle.cert_grammar.specs.Cert.{IsCorner, IsVerdict}
use Rattle.cert_grammar.specs.declared.certified.Certified.{Certified}
use Rattle.cert_grammar.specs.Certified.{IsCertified, HasCorner, verdict_of, ring_of}
use Rattle.cert_write.specs.Claim.{claim, corner_of, last_of}

-- The last of some monomials of the ring is one.
last_is : (r : Ring) (s : List (List ℕ)) → AllByRecursion (IsMonoOf r) s → IsCorner r (last_of s)
last_is r [] h = tt
last_is r (m ∷ []) h = h.0
last_is r (m ∷ k ∷ s) h = last_is r (k ∷ s) h.1

-- A verdict stays one with the last monomial of its staircase as the corner.
verdict_with : (r : Ring) (a : Answer) (corner : Option (List ℕ)) → IsVerdict r (verdict_of a corner) → IsVerdict r (verdict_of a (corner_of a))
verdict_with r (Fits basis stair) corner h = record { few = h.few; basis = h.basis; corner = last_is r stair h.stair; few_stairs = h.few_stairs; stair = h.stair }
verdict_with r (TooSmall missing) corner h = h

-- Where the degree is too small no corner is named.
named : (a : Answer) → HasCorner a (corner_of a)
named (Fits basis stair) = tt
named (TooSmall missing) = refl

-- What is certified stays so with the corner that is written.
pub claimed : (x : Certified) → IsCertified x → IsCertified (claim x.letters x.problem x.entries x.answer)
claimed x h = record {
  variables = h.variables;
  letters = h.letters;
  problem = h.problem;
  few_entries = h.few_entries;
  entries = h.entries;
  verdict = verdict_with (ring_of x) x.answer x.corner h.verdict;
  corner = named x.answer;
}
