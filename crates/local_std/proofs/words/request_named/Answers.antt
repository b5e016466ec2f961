use Rattle.std.proofs.Common.{◌≡◌, false, Option, Some, None, codes, refl, sym, ◌∙◌}
use Rattle.std.specs.Option.{is_some}
use Rattle.std.proofs.lemmas.Slice.Eq.{bytes_eq-Decides}
use Rattle.local_std.proofs.Readings.{nothing_given}
use Rattle.local_std.proofs.words.request_named.Goals as goal

-- an option that is none has no member
none_left : {A : Type 0} (o : Option A) → is_some o ≡ false → o ≡ None
none_left None e = refl
none_left (Some x) e = absurd (cc (e))

pub returns-then-is_none-2-clause-found : goal.returns-then-is_none-2-clause-found
returns-then-is_none-2-clause-found c = (
  (bytes_eq-Decides c.args.name.now (codes "check")).0 (sym c.eq-in-None.ensures ∙ c.if-eq-2.true),
  λ parts gives. nothing_given parts c.args.given.now gives c.in-None.is (none_left c.args.given.now.cert c.if-is_none.ensures) (none_left c.args.given.now.workers c.if-is_none-2.ensures),
)
