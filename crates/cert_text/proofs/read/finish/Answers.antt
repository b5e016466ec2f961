use Rattle.std.proofs.Common.{ap, sym, ◌∙◌, subst, Err}
use Rattle.cert_grammar.specs.Form.{IsFormLine}
use Rattle.cert_grammar.proofs.Refusals.{read_line_number}
use Rattle.cert_text.proofs.Finish.{found_read, refused, whole_read, more_left, none_read, same_read}
use Rattle.cert_text.proofs.read.finish.Goals as goal

pub returns-in-Form-clause-only : goal.returns-in-Form-clause-only
returns-in-Form-clause-only c = none_read c.args.bytes.now c.args.left (refused c.args.bytes.now c.args.read c.args.left (c.in-Err.is ∙ ap (λ z. Err z) c.in-Form.is) c.requires.read)

pub returns-in-Form-clause-form : goal.returns-in-Form-clause-form
returns-in-Form-clause-form c =
    subst (IsFormLine c.args.bytes.now) (sym c.line_at_stop.ensures) (read_line_number c.args.bytes.now c.args.left (refused c.args.bytes.now c.args.read c.args.left (c.in-Err.is ∙ ap (λ z. Err z) c.in-Form.is) c.requires.read))

pub returns-then-count-eq0-clause-found : goal.returns-then-count-eq0-clause-found
returns-then-count-eq0-clause-found c =
    found_read c.args.bytes.now c.in-Ok.cert (whole_read c.args.bytes.now c.args.read c.args.left c.in-Ok.cert c.in-Ok.is (sym c.count.ensures.value ∙ c.if-count-eq0.true) c.requires.read) (rw c.in-Ok.is at c.requires.certified)

pub returns-then-count-eq0-clause-only : goal.returns-then-count-eq0-clause-only
returns-then-count-eq0-clause-only c =
    same_read c.args.bytes.now c.in-Ok.cert (whole_read c.args.bytes.now c.args.read c.args.left c.in-Ok.cert c.in-Ok.is (sym c.count.ensures.value ∙ c.if-count-eq0.true) c.requires.read) (rw c.in-Ok.is at c.requires.certified)

pub returns-else-count-eq0-clause-only : goal.returns-else-count-eq0-clause-only
returns-else-count-eq0-clause-only c =
    none_read c.args.bytes.now c.args.left (more_left c.args.bytes.now c.args.read c.args.left c.in-Ok.cert c.in-Ok.is (λ q. c.if-count-eq0.false (c.count.ensures.value ∙ q)) c.requires.read)

pub returns-else-count-eq0-clause-form : goal.returns-else-count-eq0-clause-form
returns-else-count-eq0-clause-form c =
    subst (IsFormLine c.args.bytes.now) (sym c.line_at_stop-else-count-eq0.ensures)
    (read_line_number c.args.bytes.now c.args.left (more_left c.args.bytes.now c.args.read c.args.left c.in-Ok.cert c.in-Ok.is (λ q. c.if-count-eq0.false (c.count.ensures.value ∙ q)) c.requires.read))
