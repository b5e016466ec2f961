use Rattle.std.proofs.Common.{◌≡◌, length, false, true, refl, sym, ◌∙◌, ap, subst, arith, MatchOption, IsTrue}
use Rattle.mora_law.proofs.Ring.{problem_is_admissible}
use Rattle.cert_check.specs.Accepted.{before}
use Rattle.cert_check.specs.Answers.{HasMembers, IsWrongMember}
use Rattle.cert_check.proofs.Leaves.{corner_within}
use Rattle.cert_check.proofs.Minimal.{members_many}
use Rattle.cert_check.proofs.Passed.{count_fault, member_fault, highest_fault, stair_fault, all_hold}
use Rattle.cert_check.proofs.Tables.{all_ranks}
use Rattle.cert_check.proofs.block.check_fits.Goals as goal

pub returns-then-len : goal.returns-then-len
returns-then-len c = count_fault c.args.block.now c.args.basis.now c.args.stair.now _ c.requires.answer
    (λ h. absurd (omega (arith, c.if-len.true, c.len.ensures, c.len-2.ensures, members_many c.args.block.now.problem c.args.block.now.entries c.in_ok-places.places.items c.in_ok-places.ensures, h)))
    (omega (arith, c.requires.passed.line))

pub returns-in-Some : goal.returns-in-Some
returns-in-Some c = member_fault c.args.block.now c.args.basis.now c.args.stair.now c.in-Some.k _ c.requires.answer
    (omega (arith, c.if-len.false, c.len.ensures, c.len-2.ensures, members_many c.args.block.now.problem c.args.block.now.entries c.in_ok-places.places.items c.in_ok-places.ensures))
    (subst (λ o. MatchOption o (HasMembers c.args.block.now.problem c.args.block.now.entries c.args.basis.now (length c.args.basis.now)) (IsWrongMember c.args.block.now.problem c.args.block.now.entries c.args.basis.now)) c.in-Some.is c.in_ok-k.ensures)
    (omega (arith, c.requires.passed.line))

pub is_before-requires-clause-low : goal.is_before-requires-clause-low
is_before-requires-clause-low c =
    let z = corner_within c.args.block.now.problem (problem_is_admissible _ c.requires.read.problem) c.args.block.now.entries in
    omega (arith, z, c.requires.passed.corner, all_ranks c.args.block.now.problem _ c.requires.table)

pub returns-then-not-is_before : goal.returns-then-not-is_before
returns-then-not-is_before c = highest_fault c.args.block.now c.args.basis.now c.args.stair.now _ c.requires.answer
    (omega (arith, c.if-len.false, c.len.ensures, c.len-2.ensures, members_many c.args.block.now.problem c.args.block.now.entries c.in_ok-places.places.items c.in_ok-places.ensures))
    (subst (λ o. MatchOption o (HasMembers c.args.block.now.problem c.args.block.now.entries c.args.basis.now (length c.args.basis.now)) (IsWrongMember c.args.block.now.problem c.args.block.now.entries c.args.basis.now)) c.in_default.is c.in_ok-k.ensures)
    (λ h. let z : false ≡ true = c.if-not-is_before.ensures.1 (h ∙ ap (before c.args.block.now.problem) (sym c.requires.passed.corner)) in cc z)
    (omega (arith, c.requires.passed.line, c.len-then-not-is_before.ensures))

pub returns-then-not-branch : goal.returns-then-not-branch
returns-then-not-branch c = stair_fault c.args.block.now c.args.basis.now c.args.stair.now _ c.requires.answer
    (omega (arith, c.if-len.false, c.len.ensures, c.len-2.ensures, members_many c.args.block.now.problem c.args.block.now.entries c.in_ok-places.places.items c.in_ok-places.ensures))
    (subst (λ o. MatchOption o (HasMembers c.args.block.now.problem c.args.block.now.entries c.args.basis.now (length c.args.basis.now)) (IsWrongMember c.args.block.now.problem c.args.block.now.entries c.args.basis.now)) c.in_default.is c.in_ok-k.ensures)
    (c.if-not-is_before.ensures.0 refl ∙ ap (before c.args.block.now.problem) c.requires.passed.corner)
    (λ h. let z : IsTrue c.in_ok-is_free_list.field-0 = c.in_ok-is_free_list.ensures.1 h in cc (z, c.if-not-branch.true))
    (omega (arith, c.requires.passed.line, c.len-then-not-branch.ensures))

pub returns : goal.returns
returns c = all_hold c.args.block.now c.args.basis.now c.args.stair.now c.requires.answer
    (omega (arith, c.if-len.false, c.len.ensures, c.len-2.ensures, members_many c.args.block.now.problem c.args.block.now.entries c.in_ok-places.places.items c.in_ok-places.ensures))
    (subst (λ o. MatchOption o (HasMembers c.args.block.now.problem c.args.block.now.entries c.args.basis.now (length c.args.basis.now)) (IsWrongMember c.args.block.now.problem c.args.block.now.entries c.args.basis.now)) c.in_default.is c.in_ok-k.ensures)
    (c.if-not-is_before.ensures.0 refl ∙ ap (before c.args.block.now.problem) c.requires.passed.corner)
    (c.in_ok-is_free_list.ensures.0 c.if-not-branch.false)
