use Rattle.std.proofs.Common.{◌≡◌, ◌∙◌, ℕ, sym, ap, arith}
use Rattle.local_order.specs.Shape.{count}
use Rattle.mora_law.proofs.Ring.{count_is, ranks_count}
use Rattle.reducer_list.specs.View.{top}
use Rattle.board_tests.proofs.desk.Desk.new.Goals as goal

pub returns : goal.returns
returns c =
    let n : ℕ = top c.args.board.now.setting in
    let is : c.count-n.result ≡ n = c.count-n.ensures.value ∙ ap count c.table.ensures ∙ sym (ranks_count c.args.board.now.setting.problem ∙ count_is c.args.board.now.setting.problem) in
    let words = c.in_ok-words.ensures in
    let room = c.in_ok-room.ensures.room in
    (omega (arith, is, words), (omega (arith, is, room.0), omega (arith, is, room.1)))
