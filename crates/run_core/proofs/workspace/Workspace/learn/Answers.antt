use Rattle.std.proofs.Common.{◌≡◌, ◌<◌, [], ◌∷◌, ◌++◌, length, map, refl, sym, ◌∙◌, ap, subst, arith, length-append}
use Rattle.std.proofs.lemmas.List.{length-map}
use Rattle.local_order.specs.Shape.{Shape, count}
use Rattle.sparse_poly.specs.Shape.{shape_of}
use Rattle.mono_rank.specs.Rank.{HasRank}
use Rattle.entry_code.specs.Entry.{Entry, entry_of}
use Rattle.mora_law.specs.Ring.{numbering_of}
use Rattle.mora_law.specs.Entries.{lead_rank}
use Rattle.mora_law.proofs.Ring.{problem_is_admissible}
use Rattle.mora_form.specs.State.{AreMonicTerms, IsOver}
use Rattle.mora_form.proofs.Learning.{term_good}
use Rattle.mora_form.proofs.Runs.{first_term}
use Rattle.corner_word.specs.Marks.{IsCoverOf}
use Rattle.run_core.specs.declared.workspace.Workspace.{Workspace}
use Rattle.run_core.proofs.Learned.{last_terms, few, mono_ranked, learnt_one}
use Rattle.run_core.proofs.workspace.Workspace.learn.Goals as goal

pub get-lead-requires : goal.get-lead-requires
get-lead-requires c =
    let n = c.requires.next in
    (last_terms c.args.problem.now (problem_is_admissible c.args.problem.now c.n-problem.ensures.problem) n.0 (entry_of c.args.entry.now) n.2).some

pub mono-requires : goal.mono-requires
mono-requires c =
    let P = c.args.problem.now in
    let n = c.requires.next in
    let good = last_terms P (problem_is_admissible P c.n-problem.ensures.problem) n.0 (entry_of c.args.entry.now) n.2 in
    subst (λ (t : Shape). c.get-lead.result.rank < count t) (sym n.1.table)
    ((term_good P.p (count (shape_of P)) 0 c.args.entry.now.terms.list c.get-lead.result c.get-lead.ensures good).0)

pub put_lead-requires : goal.put_lead-requires
put_lead-requires c =
    let P = c.args.problem.now in
    let n = c.requires.next in
    let e : Entry = entry_of c.args.entry.now in
    let all = few P (problem_is_admissible P c.n-problem.ensures.problem) (n.0 ++ e ∷ []) n.2 in
    omega (arith, all, ap length n.1.leads, length-map n.0 (λ (x : Entry). (numbering_of P).mono (lead_rank x.terms)), n.1.room, length-append n.0 (e ∷ []))

pub learn-requires-clause-few : goal.learn-requires-clause-few
learn-requires-clause-few c =
    let P = c.args.problem.now in
    let n = c.requires.next in
    let e : Entry = entry_of c.args.entry.now in
    let all = few P (problem_is_admissible P c.n-problem.ensures.problem) (n.0 ++ e ∷ []) n.2 in
    subst (λ (t : Shape). length c.args.self.now.mora.known < count t) (sym n.1.table) (omega (arith, all, n.1.knows.all, length-append n.0 (e ∷ [])))

pub learn-requires-clause-entry : goal.learn-requires-clause-entry
learn-requires-clause-entry c =
    let P = c.args.problem.now in
    let n = c.requires.next in
    let good = last_terms P (problem_is_admissible P c.n-problem.ensures.problem) n.0 (entry_of c.args.entry.now) n.2 in
    subst (λ (t : Shape). AreMonicTerms c.args.self.now.mora.p (count t) c.args.entry.now.terms.list) (sym n.1.table)
    (subst (λ p. AreMonicTerms p (count (shape_of P)) c.args.entry.now.terms.list) n.1.over.field good)

pub add-requires-clause-low : goal.add-requires-clause-low
add-requires-clause-low c =
    let P = c.args.problem.now in
    let n = c.requires.next in
    let good = last_terms P (problem_is_admissible P c.n-problem.ensures.problem) n.0 (entry_of c.args.entry.now) n.2 in
    subst (λ m. c.get-lead.result.rank < m) (ap count (sym n.1.shape))
    ((term_good P.p (count (shape_of P)) 0 c.args.entry.now.terms.list c.get-lead.result c.get-lead.ensures good).0)

pub returns-clause-holds : goal.returns-clause-holds
returns-clause-holds c = λ known h.
    let P = c.args.problem.now in
    let e : Entry = entry_of c.args.entry.now in
    let ok = problem_is_admissible P c.n-problem.ensures.problem in
    let lead : c.get-lead.result.rank ≡ lead_rank e.terms = first_term e.terms c.get-lead.result c.get-lead.ensures in
    let over : IsOver P c.learn.new.self = subst (IsOver P) (sym c.learn.ensures.value.2) (record { field = h.over.field; shape = h.over.shape }) in
    let ranked : HasRank (shape_of P) c.mono.result c.get-lead.result.rank = subst (λ (t : Shape). HasRank t c.mono.result c.get-lead.result.rank) h.table c.mono.ensures in
    let monomial : c.mono.result ≡ (numbering_of P).mono (lead_rank e.terms) = mono_ranked P ok c.mono.result c.get-lead.result.rank ranked ∙ ap (numbering_of P).mono lead in
    let w : Workspace = record { table = c.args.self.now.table; mora = c.learn.new.self; cover = c.add.new.self; leads = c.put_lead.new.leads; reductions = c.args.self.now.reductions } in
    learnt_one P known e c.args.self.now w h refl over (c.learn.ensures.knows known h.knows)
    (c.put_lead.ensures.items ∙ ap (λ m. c.args.self.now.leads.items ++ m ∷ []) monomial) c.add.ensures.shape (subst (λ k. IsCoverOf (map (λ (x : Entry). lead_rank x.terms) known ++ k ∷ []) c.add.new.self) lead (c.add.ensures.leads _ h.cover)) c.put_lead.ensures.places
