-- One more reading: a run with it is one step more, and what holds along the readings goes on.
-- A reading that ended with Stuck may be dropped before a later one, since later corners cut at least as much.
use Rattle.std.proofs.Common.{◌≡◌, ℕ, ◌≤◌, List, [], ◌∷◌, ◌++◌, Bool, true, false, Option, Some, None, cond, ltb, refl, sym, ◌∙◌, ap, arith}
use Rattle.std.proofs.Math.Path.{fun_ext}
use Rattle.std.proofs.lemmas.Bool.{lt-ltb, ltb-true}
use Rattle.rank_algebra.specs.Ranks.{Ranks}
use Rattle.entry_code.specs.declared.item.Item.{Item}
use Rattle.entry_code.specs.declared.reading.Reading.{Reading}
use Rattle.rank_algebra.specs.Vector.{Vector, cut_at}
use Rattle.rank_algebra.specs.Division.{Basis, corner_of, first_of}
use Rattle.rank_algebra.specs.Ideal.{Generators}
use Rattle.mora_law.specs.declared.step_end.StepEnd.TheVariants.{Stuck}
use Rattle.mora_law.specs.Lead.{lead}
use Rattle.mora_law.specs.Step.{Reducer, choose, firsts, Run, reduce, step_at, step}
use Rattle.mora_law.specs.Run.{steps, AreOrderly, last_known, last_corner}
use Rattle.mora_law.specs.Start.{run_of}
use Rattle.mora_law.specs.Legal.{HaveCorners}

-- a run with one more reading is one step more
pub steps_more : (R : Ranks) (entries : ℕ → Vector) (s : Run) (ds : List Reading) (d : Reading) → steps R entries s (ds ++ d ∷ []) ≡ step R entries (steps R entries s ds) d
steps_more R entries s [] d = refl
steps_more R entries s (e ∷ ds) d = steps_more R entries (step R entries s e) ds d

-- the same of the run of an item
pub run_more : (R : Ranks) (G : Generators) (B : Basis) (item : Item) (ds : List Reading) (d : Reading) → run_of R G B item (ds ++ d ∷ []) ≡ step R B.member (run_of R G B item ds) d
run_more R G B item ds d = steps_more R B.member _ ds d

-- the last of one more reading
pub last_known_more : (known : ℕ) (ds : List Reading) (d : Reading) → last_known known (ds ++ d ∷ []) ≡ d.known
last_known_more known [] d = refl
last_known_more known (e ∷ ds) d = last_known_more e.known ds d

-- so with its corner
pub last_corner_more : (w : ℕ) (ds : List Reading) (d : Reading) → last_corner w (ds ++ d ∷ []) ≡ d.corner
last_corner_more w [] d = refl
last_corner_more w (e ∷ ds) d = last_corner_more e.corner ds d

-- a later reading that knows no less, with a corner that is no greater, may follow
pub orderly_append : (s s' : ℕ) (ds : List Reading) (d : Reading) (known w : ℕ) → AreOrderly s known w ds → last_known known ds ≤ d.known → d.known ≤ s' → d.corner ≤ last_corner w ds →
    AreOrderly s' known w (ds ++ d ∷ [])
orderly_append s s' [] d known w o k l c = (k, c, l)
orderly_append s s' (e ∷ ds) d known w o k l c = (o.0, o.1, orderly_append s s' ds d e.known e.corner o.2 k l c)

-- so with the bounds of corners
pub corners_append : (R : Ranks) (B : Basis) (lowest : ℕ) (ds : List Reading) (d : Reading) → HaveCorners R B lowest ds → lowest ≤ d.corner → d.corner ≤ corner_of R (first_of d.known B) →
    HaveCorners R B lowest (ds ++ d ∷ [])
corners_append R B lowest [] d h l m = (l, m, tt)
corners_append R B lowest (e ∷ ds) d h l m = (h.0, h.1, corners_append R B lowest ds d h.2 l m)

-- a cut at a lesser rank undoes one at a greater
pub cut_cut : (w w' : ℕ) (v : Vector) → w' ≤ w → cut_at w' (cut_at w v) ≡ cut_at w' v
cut_cut w w' v l = fun_ext (λ r. at r (ltb r w') refl)
  where
    at : (r : ℕ) (b : Bool) → ltb r w' ≡ b → cond (ltb r w') (cond (ltb r w) (v r) 0) 0 ≡ cond (ltb r w') (v r) 0
    at r true e = ap (λ b. cond (ltb r w') (cond b (v r) 0) 0) (lt-ltb r w (omega (arith, ltb-true r w' e, l)))
    at r false e = ap (λ b. cond b (cond (ltb r w) (v r) 0) 0) e ∙ sym (ap (λ b. cond b (v r) 0) e)

-- a Stuck step cuts, and keeps the rest
stuck_cuts : (R : Ranks) (entries : ℕ → Vector) (s : Run) (d : Reading) → (step R entries s d).end ≡ Some Stuck →
    ((step R entries s d).poly ≡ cut_at d.corner s.poly) × ((step R entries s d).kept ≡ s.kept)
stuck_cuts R entries s d = go (lead R (cut_at d.corner s.poly))
  where
    h : Vector
    h = cut_at d.corner s.poly

    go2 : (r : ℕ) (o : Option Reducer) → (reduce R s.kept (cut_at d.corner s.poly) r o).end ≡ Some Stuck →
        ((reduce R s.kept (cut_at d.corner s.poly) r o).poly ≡ cut_at d.corner s.poly) × ((reduce R s.kept (cut_at d.corner s.poly) r o).kept ≡ s.kept)
    go2 r None e = (refl, refl)
    go2 r (Some c) e = absurd (cc e)

    go : (o : Option ℕ) → (step_at R entries d.known s.kept (cut_at d.corner s.poly) o).end ≡ Some Stuck →
        ((step_at R entries d.known s.kept (cut_at d.corner s.poly) o).poly ≡ cut_at d.corner s.poly) × ((step_at R entries d.known s.kept (cut_at d.corner s.poly) o).kept ≡ s.kept)
    go None e = (refl, refl)
    go (Some r) e = go2 r (choose R r (firsts d.known 0 entries ++ s.kept)) e

-- a step after a Stuck one is the step without it
pub stuck_dropped : (R : Ranks) (entries : ℕ → Vector) (s : Run) (d d' : Reading) → (step R entries s d).end ≡ Some Stuck → d'.corner ≤ d.corner →
    step R entries (step R entries s d) d' ≡ step R entries s d'
stuck_dropped R entries s d d' e l =
    let h = stuck_cuts R entries s d e in
    ap (λ v. step_at R entries d'.known (step R entries s d).kept v (lead R v)) (ap (cut_at d'.corner) h.0 ∙ cut_cut d.corner d'.corner s.poly l)
    ∙ ap (λ kept. step_at R entries d'.known kept (cut_at d'.corner s.poly) (lead R (cut_at d'.corner s.poly))) h.1
