-- The loop over remarks, by what the rest of it still reads.
use Rattle.std.proofs.Common.{◌≡◌, ℕ, zero, suc, ◌<◌, ◌≤◌, true, false, List, [], ◌∷◌, ◌++◌, Result, Ok, Err, refl, sym, ap, ◌∙◌, arith}
use Rattle.script_grammar.specs.declared.refusal.Refusal.{Refusal}
use Rattle.script_grammar.specs.Tokens.{Place}
use Rattle.script_grammar.specs.Trees.{Remark}
use Rattle.script_grammar.specs.Steps.{◌>>=◌}
use Rattle.script_grammar.specs.Statements.{begins_remark, remark_at, remarks_at}
use Rattle.ring_reader.specs.Behind.{behind_read}

-- what the loop still reads makes the whole
pub record RemarksSoFar (whole : Result Place Refusal) (t : Place) : Type 0 where
  pub turns : ℕ
  pub done : List Remark
  pub enough : t.left ≤ turns
  pub reads : behind_read (remarks_at turns done t) ≡ whole

-- the place behind what was read, and what that was
pub behind_ok : {A : Type 0} (r : Result (A × Place) Refusal) (u : Place) → behind_read r ≡ Ok u → (x : A) × (r ≡ Ok (x, u))
behind_ok {A} (Ok x) u e = (x.0, ap (λ (p : Place). Ok (x.0, p)) cc)
behind_ok (Err f) u e = absurd cc

-- What refuses the place behind refuses what is read.
pub behind_err : {A : Type 0} (r : Result (A × Place) Refusal) (f : Refusal) → behind_read r ≡ Err f → r ≡ Err f
behind_err (Ok x) f e = absurd cc
behind_err (Err g) f e = cc

-- Where a remark begins, it is read, and then more.
remarks_step : (whole : Result Place Refusal) (t : Place) (n : ℕ) (done : List Remark) → begins_remark t.token ≡ true
    → remarks_at (suc n) done t ≡ (remark_at t >>= λ r. remarks_at n (done ++ r.0 ∷ []) r.1)
unfolding remarks_at
remarks_step whole t n done here = rw here refl

-- Remarks go on behind one, where the loop of the grammar has turns left.
remarks_go-at : (whole : Result Place Refusal) (t u : Place) (n : ℕ) (done : List Remark) → begins_remark t.token ≡ true → u.left < t.left → t.left ≤ n
    → behind_read (remark_at t) ≡ Ok u → behind_read (remarks_at n done t) ≡ whole → RemarksSoFar whole u
remarks_go-at whole t u zero done here shorter enough e so_far = absurd (omega (arith, shorter, enough))
remarks_go-at whole t u (suc n) done here shorter enough e so_far =
    let x = behind_ok (remark_at t) u e in
    let read : remarks_at (suc n) done t ≡ remarks_at n (done ++ x.0 ∷ []) u = remarks_step whole t n done here ∙ ap (λ (r : Result (Remark × Place) Refusal). r >>= λ y. remarks_at n (done ++ y.0 ∷ []) y.1) x.1 in
    record { turns = n; done = done ++ x.0 ∷ []; enough = omega (arith, shorter, enough); reads = ap behind_read (sym read) ∙ so_far }

-- Remarks go on behind one.
pub remarks_go : (whole : Result Place Refusal) (t u : Place) → begins_remark t.token ≡ true → u.left < t.left → behind_read (remark_at t) ≡ Ok u → RemarksSoFar whole t → RemarksSoFar whole u
remarks_go whole t u here shorter e s = remarks_go-at whole t u s.turns s.done here shorter s.enough e s.reads

-- What refuses a remark refuses them all, where the loop of the grammar has turns left.
remarks_fail-at : (whole : Result Place Refusal) (t : Place) (f : Refusal) (n : ℕ) (done : List Remark) → begins_remark t.token ≡ true → 0 < t.left → t.left ≤ n
    → behind_read (remark_at t) ≡ Err f → behind_read (remarks_at n done t) ≡ whole → whole ≡ Err f
remarks_fail-at whole t f zero done here some enough e so_far = absurd (omega (arith, some, enough))
remarks_fail-at whole t f (suc n) done here some enough e so_far =
    let x = behind_err (remark_at t) f e in
    let read : remarks_at (suc n) done t ≡ Err f = remarks_step whole t n done here ∙ ap (λ (r : Result (Remark × Place) Refusal). r >>= λ y. remarks_at n (done ++ y.0 ∷ []) y.1) x in
    sym so_far ∙ ap behind_read read

-- What refuses a remark refuses them all.
pub remarks_fail : (whole : Result Place Refusal) (t : Place) (f : Refusal) → begins_remark t.token ≡ true → 0 < t.left → behind_read (remark_at t) ≡ Err f → RemarksSoFar whole t → whole ≡ Err f
remarks_fail whole t f here some e s = remarks_fail-at whole t f s.turns s.done here some s.enough e s.reads

-- Remarks end where none begins, whatever turns the loop of the grammar has left.
remarks_end-at : (whole : Result Place Refusal) (t : Place) (n : ℕ) (done : List Remark) → begins_remark t.token ≡ false → behind_read (remarks_at n done t) ≡ whole → whole ≡ Ok t
unfolding remarks_at
remarks_end-at whole t zero done here so_far = sym so_far
remarks_end-at whole t (suc n) done here so_far =
    let read : remarks_at (suc n) done t ≡ Ok (done, t) = rw here refl in
    sym so_far ∙ ap behind_read read

-- Remarks end where none begins.
pub remarks_end : (whole : Result Place Refusal) (t : Place) → begins_remark t.token ≡ false → RemarksSoFar whole t → whole ≡ Ok t
remarks_end whole t here s = remarks_end-at whole t s.turns s.done here s.reads
