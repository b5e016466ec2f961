use Rattle.std.proofs.Common.{◌≡◌, ◌∷◌, ◌++◌, [], ◌∙◌, ap, ap₂}
use Rattle.std.specs.Prelude.{min}
use Rattle.entry_code.specs.declared.reading.Reading.{Reading}
use Rattle.mora_law.proofs.Growth.{legal_take}
use Rattle.run_core.specs.Hand.{but_stuck}
use Rattle.run_core.specs.State.{Seat, State, known_by}
use Rattle.run_core.specs.Effects.{read_corner, cornered}
use Rattle.run_core.specs.SeatCode.{seat_at, with_reads}
use Rattle.run_core.proofs.Machines.{seat_read, seat_there, corner_is, read_is, corner_made}
use Rattle.run_core.proofs.machine.Machine.do_read.Goals as goal

pub returns-clause-ok : goal.returns-clause-ok
returns-clause-ok c =
    let s = c.args.self.now in
    let i = c.args.i in
    let v : Seat = seat_at s i in
    let w = c.args.worker.now in
    let a = c.requires.work in
    let is : c.index_mut-seat.result.now ≡ v = seat_read s _ i c.index_mut-seat.result.now c.self.view_is c.requires.place c.index_mut-seat.ensures.value in
    let legal = legal_take s.problem s.entries v.known (c.requires.sound.seats i v (seat_there s i c.requires.place)).known c.requires.sound.legal in
    let own = corner_is s.problem (known_by s v) v.hand w a c.requires.sound.problem legal c.corner.result c.corner.ensures.least in
    let low : c.min-corner.result ≡ read_corner s v = c.min-corner.ensures ∙ ap₂ min (ap (λ (t : State). t.corner) c.self.view_is) own in
    let knows : c.seat.inside.known ≡ v.known = ap (λ (z : Seat). z.known) (c.seat.view_is ∙ is) in
    let d : Reading = record { known = v.known; corner = read_corner s v } in
    let reading : record { known = c.seat.inside.known; corner = c.min-corner.result } ≡ d = ap₂ (λ k x. record { known = k; corner = x }) knows low in
    let reads = c.in_ok-more_reads.ensures ∙ ap (λ x. but_stuck w.mora.end w.mora.reads ++ x ∷ []) reading in
    let seat : c.read.new.self ≡ cornered s v = c.read.ensures ∙ ap (λ (z : Seat). record z { hand = with_reads c.in_ok-more_reads.field-0.list z.hand }) is
    ∙ ap (λ o. record v { hand = o }) (read_is s.problem (known_by s v) v.hand w a d c.in_ok-more_reads.field-0.list reads) in
    corner_made s _ i c.min-corner.result c.read.new.self c.self.view_is low seat
