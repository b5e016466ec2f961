use Rattle.std.proofs.Common.{◌≡◌, ◌+◌, ◌≤◌, List, [], ◌∷◌, length, map, sym, ap, ◌∙◌, subst, arith, rules, length-append}
use Rattle.std.specs.Prelude.{All}
use Rattle.entry_code.specs.Entry.{Entry, HasRoom}
use Rattle.mora_law.specs.Legal.{Legal}
use Rattle.run_core.specs.Idle.{SettlesAll}
use Rattle.reducer_list.specs.View.{Setting, Board, top}
use Rattle.reducer_list.specs.Steps.{LastIdle}
use Rattle.workers.specs.Working.{Working, CanTurn, IsCounted, numbers_of}
use Rattle.workers.specs.Manned.{IsIdle, HasLast, HasEvery, KnowsOf, AreCounts}
use Rattle.workers.specs.Rounds.{CanEnd, IsLegalView}
use Rattle.workers.proofs.Gathering.{all_front, all_last, every_turned}
use Rattle.workers.proofs.Finishing.{finished_legal, finished_settled, finished_whole, finished_counts}
use Rattle.workers.proofs.crew.Crew.finish.Goals as goal

-- workers whose seats may be joined
can_end : (b : Board) (ws : List Working) → All (CanTurn b) ws → All IsIdle ws → All (λ w. IsCounted w × IsLegalView w.seat.view) ws → All (CanEnd b) ws
can_end b ws ready idle counted k d less = record { turn = ready k d less; idle = idle k d less; counted = (counted k d less).0; legal = (counted k d less).1 }

pub gather-requires-clause-others : goal.gather-requires-clause-others
gather-requires-clause-others c =
    let b : Board = c.args.self.board in
    let all = c.args.self.workers.items in
    all_front (CanEnd b) all c.pop.new.self.items c.in-Some.first c.in-Some.ensures.items (can_end b all c.requires.manned.ready c.requires.idle c.in_ok-reductions.ensures.counted)

pub gather-requires-clause-numbers : goal.gather-requires-clause-numbers
gather-requires-clause-numbers c =
    let b : Board = c.args.self.board in
    subst (λ (x : Working). HasEvery b.setting.workers (numbers_of x ∷ map numbers_of c.pop.new.self.items)) (sym c.first.view_is)
    (every_turned b.setting.workers c.args.self.workers.items c.pop.new.self.items c.in-Some.first c.in-Some.ensures.items c.requires.manned.numbers)

pub gather-requires-clause-last : goal.gather-requires-clause-last
gather-requires-clause-last c = λ none.
    let is = c.in-Some.ensures.items in
    let size = length-append c.pop.new.self.items (c.in-Some.first ∷ []) in
    subst (λ (x : Working). LastIdle x.seat.view) (sym c.first.view_is)
    (all_last HasLast c.args.self.workers.items c.pop.new.self.items c.in-Some.first is (c.requires.last (omega (arith, ap length is, size, none))))

pub recall_all-requires-clause-words : goal.recall_all-requires-clause-words
recall_all-requires-clause-words c =
    let b : Board = c.args.self.board in
    let turn = all_last (CanTurn b) c.args.self.workers.items c.pop.new.self.items c.in-Some.first c.in-Some.ensures.items c.requires.manned.ready in
    let set : c.first.inside.runner.seat.view.setting ≡ b.setting = ap (λ (x : Working). x.seat.view.setting) c.first.view_is ∙ turn.board.1 in
    let words : top b.setting + 4 ≤ c.first.inside.runner.words.len = subst (λ (p : Setting). top p + 4 ≤ c.first.inside.runner.words.len) set c.first.invariant.0.words in
    search rules

pub recall_all-requires-clause-room : goal.recall_all-requires-clause-room
recall_all-requires-clause-room c =
    let b : Board = c.args.self.board in
    let turn = all_last (CanTurn b) c.args.self.workers.items c.pop.new.self.items c.in-Some.first c.in-Some.ensures.items c.requires.manned.ready in
    let set : c.first.inside.runner.seat.view.setting ≡ b.setting = ap (λ (x : Working). x.seat.view.setting) c.first.view_is ∙ turn.board.1 in
    subst (λ (p : Setting). HasRoom (top p) c.first.inside.runner.room) set c.first.invariant.0.room

pub returns-clause-legal : goal.returns-clause-legal
returns-clause-legal c =
    let b : Board = c.args.self.board in
    subst (Legal b.setting.problem) (sym c.in_ok-entries.ensures)
    (finished_legal b c.args.self.workers.items c.pop.new.self.items c.in-Some.first c.in-Some.ensures.items c.first.inside.runner.seat.view c.gather.new.seat.view
    (ap (λ (x : Working). x.seat.view) c.first.view_is) c.gather.ensures.board.1 c.gather.ensures.gathered)

pub returns-clause-settled : goal.returns-clause-settled
returns-clause-settled c =
    let b : Board = c.args.self.board in
    subst (SettlesAll b.setting.problem) (sym c.in_ok-entries.ensures)
    (finished_settled b c.args.self.workers.items c.pop.new.self.items c.in-Some.first c.in-Some.ensures.items c.first.inside.runner.seat.view c.gather.new.seat.view
    (ap (λ (x : Working). x.seat.view) c.first.view_is) c.gather.ensures.board.1 c.gather.ensures.gathered)

pub returns-clause-bounds : goal.returns-clause-bounds
returns-clause-bounds c =
    let b : Board = c.args.self.board in
    let counted = c.in_ok-reductions.ensures.counted in
    subst (λ (l : List Entry). AreCounts b.setting.problem l c.in_ok-reductions.reductions) (sym c.in_ok-entries.ensures)
    (finished_counts b c.args.self.workers.items c.pop.new.self.items c.in-Some.first c.in-Some.ensures.items c.first.inside.runner.seat.view c.gather.new.seat.view
    (ap (λ (x : Working). x.seat.view) c.first.view_is) c.gather.ensures.board.1 c.gather.ensures.gathered
    c.requires.manned.ready (λ k d less. (counted k d less).0) c.in_ok-reductions.reductions c.in_ok-reductions.ensures.counts)

pub returns-clause-whole : goal.returns-clause-whole
returns-clause-whole c =
    let b : Board = c.args.self.board in
    subst (λ (l : List Entry). All (KnowsOf l) c.args.self.workers.items) (sym c.in_ok-entries.ensures)
    (finished_whole b c.args.self.workers.items c.pop.new.self.items c.in-Some.first c.in-Some.ensures.items c.first.inside.runner.seat.view c.gather.new.seat.view
    (ap (λ (x : Working). x.seat.view) c.first.view_is) c.gather.ensures.board.1 c.gather.ensures.gathered)
