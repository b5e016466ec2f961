use Rattle.std.proofs.Common.{◌≡◌, ◌∙◌, [], ◌∷◌, ap, sym}
use Rattle.entry_code.specs.declared.reading.Reading.{Reading}
use Rattle.board_tests.proofs.Sitting.{single}
use Rattle.board_tests.proofs.desk.has_reading.Goals as goal

pub returns : goal.returns
returns c = λ _.
    let reading : c.get-reading.result ≡ record { known = c.args.known; corner = c.args.corner } = λ i. record { known = c.if-reading-known.false i; corner = c.if-reading-corner.false i } in
    single c.args.entry.now.reads.list c.get-reading.result (sym c.len.ensures ∙ c.if-len-ne1.false) c.get-reading.ensures ∙ ap (λ (d : Reading). d ∷ []) reading
