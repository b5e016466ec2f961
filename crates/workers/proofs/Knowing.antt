-- What a worker knows after each step of its seat.
-- The list stays, or has one entry more, which the workspace has learnt then.
use Rattle.std.proofs.Common.{◌≡◌, ℕ, ◌+◌, ◌≤◌, List, [], ◌∷◌, ◌++◌, length, sym, ap, ◌∙◌, subst, arith, length-append}
use Rattle.sparse_poly.specs.Ideal.{Problem}
use Rattle.std.specs.Prelude.{vec_len}
use Rattle.entry_code.specs.Entry.{Entry, HasRoom, entry_at, no_entry}
use Rattle.std.proofs.lemmas.List.{get_or_at}
use Rattle.mora_law.specs.Legal.{Legal}
use Rattle.run_core.specs.declared.workspace.Workspace.{Workspace}
use Rattle.run_core.specs.Work.{Holds}
use Rattle.reducer_list.specs.View.{View, Setting, Board, top}
use Rattle.reducer_list.specs.Steps.{made, posted}
use Rattle.reducer_list.specs.Calls.{IsAt}
use Rattle.workers.specs.declared.runner.Runner.{Runner}
use Rattle.workers.specs.Running.{IsKnown, IsPlaced}

-- once the own entry is published
pub known_posted : (v w : View) (s s' : Workspace) → IsKnown v s → w ≡ posted v →
    Legal v.setting.problem (v.list ++ made v ∷ []) → Holds v.setting.problem (v.list ++ made v ∷ []) s' → IsKnown w s'
known_posted v w s s' k is legal holds = subst (λ (u : View). IsKnown u s') (sym is) (record {
  problem = k.problem;
  generators = k.generators;
  legal = legal;
  count = omega (arith, k.count, length-append v.list (made v ∷ []));
  quiet = k.quiet;
  holds = holds;
})

-- the entry behind those that are known may be learnt
pub next_known : (P : Problem) (v : View) (s : Workspace) (e : Entry) → IsKnown v s → P ≡ v.setting.problem → Legal v.setting.problem (v.list ++ e ∷ []) →
    (known : List Entry) × Holds P known s × Legal P (known ++ e ∷ [])
next_known P v s e k is legal = (v.list, subst (λ p. Holds p v.list s) (sym is) k.holds, subst (λ p. Legal p (v.list ++ e ∷ [])) (sym is) legal)

-- the own entry is the last one
pub own_entry : (v : View) (s : Workspace) → IsKnown v s → (i : ℕ) → i ≡ v.seat.known → entry_at (v.list ++ made v ∷ []) i ≡ made v
own_entry v s k i is = get_or_at v.list (made v) [] no_entry i (sym k.count ∙ sym is)

-- a runner that is still at its board, with the same room
pub placed_with : (b : Board) (r r' : Runner) → IsPlaced b r → IsAt b r'.seat → r'.seat.view.seat.numbers ≡ r.seat.view.seat.numbers → r'.seat.view.setting ≡ r.seat.view.setting →
    IsKnown r'.seat.view r'.space → vec_len r'.words ≡ vec_len r.words → HasRoom (top b.setting) r'.room → IsPlaced b r'
placed_with b r r' p at numbers setting known words room = record {
  board = at;
  one = ap length numbers ∙ p.one;
  equipped = record {
    known = known;
    words = subst (λ (q : Setting). top q + 4 ≤ vec_len r'.words) (sym setting) (subst (λ n. top r.seat.view.setting + 4 ≤ n) (sym words) p.equipped.words);
    room = subst (λ (q : Setting). HasRoom (top q) r'.room) (sym at.1) room;
  };
}

-- its room
pub room_here : (b : Board) (r : Runner) → IsPlaced b r → HasRoom (top b.setting) r.room
room_here b r p = subst (λ (q : Setting). HasRoom (top q) r.room) p.board.1 p.equipped.room

-- its problem
pub problem_here : (b : Board) (r : Runner) → IsPlaced b r → (P : Problem) → P ≡ b.setting.problem → P ≡ r.seat.view.setting.problem
problem_here b r p P is = is ∙ ap (λ (q : Setting). q.problem) (sym p.board.1)
