use Rattle.std.proofs.Common.{◌≡◌, ◌∷◌, ◌++◌, [], sym, subst}
use Rattle.std.proofs.lemmas.List.Elements.{All-push}
use Rattle.entry_code.specs.declared.term.Term.{Term}
use Rattle.entry_code.specs.Placed.{Placed}
use Rattle.cert_check.specs.Sparse.{at, AreStored}
use Rattle.cert_check.specs.Replay.{AreKept}
use Rattle.cert_check.proofs.Stored.{terms_in_ring}
use Rattle.cert_check.proofs.Stepping.{terms_some}
use Rattle.cert_check.proofs.step.keep.Goals as goal

pub returns-clause-kept : goal.returns-clause-kept
returns-clause-kept c =
    let e : c.push.new.self.items ≡ c.args.kept.now.items ++ c.in_ok-terms.terms ∷ [] = c.in_ok-push.ensures.items in
    subst (AreKept c.args.problem.now) (sym e)
    (All-push (λ (ts : Placed Term). AreStored c.args.problem.now ts.list) c.args.kept.now.items c.in_ok-terms.terms c.requires.kept
    (record {
      terms = terms_in_ring c.args.problem.now (at c.args.h.now.terms) c.in_ok-terms.terms.list c.requires.clean c.in_ok-terms.ensures.rising c.in_ok-terms.ensures.value c.in_ok-terms.ensures.some;
      some = terms_some c.in_ok-terms.terms.list (at c.args.h.now.terms) c.args.lead c.in_ok-terms.ensures.value c.requires.lead;
    }))
