-- What stays when entries are added, by rank: runs that know the first entries alone, legal entries, and what goes to zero.
-- Vectors and leads begin in the same way, so each step, each start and each corner of first entries is the same.
use Rattle.std.proofs.Common.{ℕ, zero, suc, ◌+◌, ◌<◌, ◌≤◌, ◌≡◌, List, [], ◌∷◌, ◌++◌, length, take, Option, Some, None, refl, sym, ◌∙◌, ap, ap₂, subst, arith, ◌⊎◌, inl, inr, le_trans, length-append}
use Rattle.std.proofs.lemmas.List.{get_or_append_left, get_or_at, get_or-take, length-take-le}
use Rattle.std.proofs.lemmas.Bool.{cases_lt}
use Rattle.rank_algebra.specs.Ranks.{Ranks, IsRanks}
use Rattle.entry_code.specs.declared.reading.Reading.{Reading}
use Rattle.entry_code.specs.declared.item.Item.{Item}
use Rattle.entry_code.specs.declared.item.Item.TheVariants.{Generator, Pair}
use Rattle.entry_code.specs.Entry.{Entry, no_entry, entry_at}
use Rattle.rank_algebra.specs.Vector.{Vector, shift, less, cut_at}
use Rattle.rank_algebra.specs.Division.{Basis, IsCover, corner_of, first_of}
use Rattle.rank_algebra.specs.Ideal.{Generators}
use Rattle.mora_law.specs.Lead.{lead}
use Rattle.mora_law.specs.Step.{choose, firsts, Run, reduce, step_at, step}
use Rattle.mora_law.specs.Run.{steps, run_from, AreOrderly}
use Rattle.mora_law.specs.Entries.{terms_of, monic, lead_rank, basis_of}
use Rattle.entry_code.specs.Terms.{vector_of_terms}
use Rattle.mora_law.specs.Legal.{IsItemOf, HaveCorners, IsLegalEntry, AreLegal}
use Rattle.mora_law.specs.Start.{start_of, run_of}
use Rattle.rank_algebra.proofs.Corner.{corner_is, corner_least, Begins, corner_of_same}
use Rattle.mora_law.specs.Settled.{HasEntry, GoesToZero}
use Rattle.mora_law.proofs.Orderly.{orderly_more, known_le, orderly_take}

-- the first vectors are the same
firsts_same : (entries entries' : ℕ → Vector) (s left k : ℕ) → k + left ≤ s → ((x : ℕ) → x < s → entries' x ≡ entries x) → firsts left k entries' ≡ firsts left k entries
firsts_same entries entries' s zero k l h = refl
firsts_same entries entries' s (suc left) k l h = ap₂ ◌∷◌ (h k (omega arith)) (firsts_same entries entries' s left (suc k) (omega arith) h)

-- a step that knows the first entries alone sees these
pub step_same : (R : Ranks) (entries entries' : ℕ → Vector) (s : ℕ) (x : Run) (d : Reading) → d.known ≤ s → ((k : ℕ) → k < s → entries' k ≡ entries k) → step R entries' x d ≡ step R entries x d
step_same R entries entries' s x d l h = go (lead R (cut_at d.corner x.poly))
  where
    go : (o : Option ℕ) → step_at R entries' d.known x.kept (cut_at d.corner x.poly) o ≡ step_at R entries d.known x.kept (cut_at d.corner x.poly) o
    go None = refl
    go (Some r) = ap (λ gs. reduce R x.kept (cut_at d.corner x.poly) r (choose R r (gs ++ x.kept))) (firsts_same entries entries' s d.known 0 (omega arith) h)

-- so do steps
steps_same : (R : Ranks) (entries entries' : ℕ → Vector) (s : ℕ) → ((k : ℕ) → k < s → entries' k ≡ entries k) → (ds : List Reading) (known w : ℕ) (x : Run) → AreOrderly s known w ds → steps R entries' x ds ≡ steps R entries x ds
steps_same R entries entries' s h [] known w x o = refl
steps_same R entries entries' s h (d ∷ ds) known w x o = ap (λ y. steps R entries' y ds) (step_same R entries entries' s x d (known_le s ds d.known d.corner o.2) h) ∙ steps_same R entries entries' s h ds d.known d.corner (step R entries x d) o.2

-- so do runs from one start
pub run_same : (R : Ranks) (entries entries' : ℕ → Vector) (s : ℕ) → ((k : ℕ) → k < s → entries' k ≡ entries k) → (f : Vector) (ds : List Reading) → AreOrderly s 0 R.n ds → run_from R entries' f ds ≡ run_from R entries f ds
run_same R entries entries' s h f ds o = steps_same R entries entries' s h ds 0 R.n _ o

-- the start of an item of the first entries is the same
pub start_same : (R : Ranks) (G : Generators) (B B' : Basis) (s : ℕ) → Begins s B B' → (item : Item) → IsItemOf G.count s item → start_of R G B' item ≡ start_of R G B item
start_same R G B B' s b (Generator g) f = refl
start_same R G B B' s b (Pair i j) f =
    ap₂ (λ x y. less R 1 (shift R (R.cofactor y x) (B'.member j)) (shift R (R.cofactor x y) (B'.member i))) (b.lead i (omega (arith, f.0, f.1))) (b.lead j f.1)
    ∙ ap₂ (λ x y. less R 1 (shift R (R.cofactor (B.lead j) (B.lead i)) y) (shift R (R.cofactor (B.lead i) (B.lead j)) x)) (b.member i (omega (arith, f.0, f.1))) (b.member j f.1)

-- corners are justified by the same entries
pub corners_same : (R : Ranks) (B B' : Basis) (s : ℕ) → Begins s B B' → (lowest : ℕ) (ds : List Reading) (known w : ℕ) → AreOrderly s known w ds → HaveCorners R B lowest ds → HaveCorners R B' lowest ds
corners_same R B B' s b lowest [] known w o h = tt
corners_same R B B' s b lowest (d ∷ ds) known w o h = (h.0, subst (λ z. d.corner ≤ z) (sym (corner_of_same R B B' s d.known (known_le s ds d.known d.corner o.2) b)) h.1, corners_same R B B' s b lowest ds d.known d.corner o.2 h.2)

-- and lie above a lesser bound too
pub corners_lower : (R : Ranks) (B : Basis) (c c' : ℕ) → c' ≤ c → (ds : List Reading) → HaveCorners R B c ds → HaveCorners R B c' ds
corners_lower R B c c' l [] h = tt
corners_lower R B c c' l (d ∷ ds) h = (le_trans l h.0, h.1, corners_lower R B c c' l ds h.2)

-- an item of the first entries is one of more
pub fits_more : (G : Generators) (i s : ℕ) → i ≤ s → (item : Item) → IsItemOf G.count i item → IsItemOf G.count s item
fits_more G i s l (Generator g) f = f
fits_more G i s l (Pair a b) f = (f.0, omega (arith, f.1, l))

-- what is legal after the first entries of B is so after those of B'
module _ (R : Ranks) (G : Generators) (s : ℕ) (B B' : Basis) (b : Begins s B B') (i : ℕ) (l : i ≤ s) (x : Entry) where
  -- the start of entry i
  start_at : IsItemOf G.count i x.item → start_of R G B' x.item ≡ start_of R G B x.item
  start_at f = start_same R G B B' s b x.item (fits_more G i s l x.item f)

  -- its run
  run_at : IsItemOf G.count i x.item → (ds : List Reading) → AreOrderly i 0 R.n ds → run_from R B'.member (start_of R G B' x.item) ds ≡ run_from R B.member (start_of R G B x.item) ds
  run_at f ds o = ap (λ g. run_from R B'.member g ds) (start_at f) ∙ run_same R B.member B'.member s b.member (start_of R G B x.item) ds (orderly_more i s l ds 0 R.n o)

  -- so a legal entry is legal after the same entries in the longer list
  pub legal_at : IsLegalEntry R G B i x → IsLegalEntry R G B' i x
  legal_at h = record {
    item = h.item;
    ends = record {
      some = h.ends.some;
      before = λ j m n. ap (λ y. y.end) (run_at h.item (take j x.reads) (orderly_take i j x.reads 0 R.n h.orderly)) ∙ h.ends.before j m n;
      last_end = ap (λ y. y.end) (run_at h.item x.reads h.orderly) ∙ h.ends.last_end;
    };
    orderly = h.orderly;
    knows = h.knows;
    corners = corners_lower R B' _ _ (omega (arith, corner_of_same R B B' s i l b)) x.reads (corners_same R B B' s b (corner_of R (first_of i B)) x.reads 0 R.n (orderly_more i s l x.reads 0 R.n h.orderly) h.corners);
    terms = h.terms ∙ ap (λ y. terms_of R (monic R y.poly)) (sym (run_at h.item x.reads h.orderly));
  }

-- the longer list begins with the shorter
pub record IsPrefix (entries longer : List Entry) : Type 0 where
  pub shorter : length entries ≤ length longer
  pub same : (k : ℕ) → k < length entries → entry_at longer k ≡ entry_at entries k

-- a list begins a longer one that is made of it
pub prefix_append : (entries more : List Entry) → IsPrefix entries (entries ++ more)
prefix_append entries more = record { shorter = omega (arith, length-append entries more); same = λ k l. get_or_append_left entries more no_entry k l }

-- the first entries begin the list
pub prefix_take : (k : ℕ) (entries : List Entry) → k ≤ length entries → IsPrefix (take k entries) entries
prefix_take k entries l = record {
  shorter = omega (arith, l, length-take-le k entries l);
  same = λ i m. sym (get_or-take k entries i no_entry (omega (arith, m, length-take-le k entries l)));
}

-- so the vectors and the leads begin in the same way
pub begins : (entries longer : List Entry) → IsPrefix entries longer → Begins (length entries) (basis_of entries) (basis_of longer)
begins entries longer b = record { member = λ k l. ap (λ x. vector_of_terms x.terms) (b.same k l); lead = λ k l. ap (λ x. lead_rank x.terms) (b.same k l) }

-- and the other way round
begins_back : (s : ℕ) (B B' : Basis) → Begins s B B' → Begins s B' B
begins_back s B B' b = record { member = λ k l. sym (b.member k l); lead = λ k l. sym (b.lead k l) }

-- the last entry of a list with one more
pub entry_last : (entries : List Entry) (e : Entry) → entry_at (entries ++ e ∷ []) (length entries) ≡ e
entry_last entries e = get_or_at entries e [] no_entry (length entries) refl

-- its length
pub length_more : (entries : List Entry) (e : Entry) → length (entries ++ e ∷ []) ≡ length entries + 1
length_more entries e = length-append entries (e ∷ []) ∙ omega arith

module _ (R : Ranks) (G : Generators) where
  -- a list with a legal entry more is legal
  pub legal_more : (entries : List Entry) (e : Entry) → AreLegal R G entries → IsLegalEntry R G (basis_of entries) (length entries) e → AreLegal R G (entries ++ e ∷ [])
  legal_more entries e legal new i l = go (cases_lt i (length entries))
    where
      b : Begins (length entries) (basis_of entries) (basis_of (entries ++ e ∷ []))
      b = begins entries (entries ++ e ∷ []) (prefix_append entries (e ∷ []))

      go : (i < length entries) ⊎ (length entries ≤ i) → IsLegalEntry R G (basis_of (entries ++ e ∷ [])) i (entry_at (entries ++ e ∷ []) i)
      go (inl m) = subst (IsLegalEntry R G (basis_of (entries ++ e ∷ [])) i) (sym ((prefix_append entries (e ∷ [])).same i m))
          (legal_at R G (length entries) (basis_of entries) (basis_of (entries ++ e ∷ [])) b i (omega arith) (entry_at entries i) (legal i m))
      go (inr m) = let z : length entries ≡ i = omega (arith, m, l, length_more entries e) in
          subst (λ j. IsLegalEntry R G (basis_of (entries ++ e ∷ [])) j (entry_at (entries ++ e ∷ []) j)) z
          (subst (IsLegalEntry R G (basis_of (entries ++ e ∷ [])) (length entries)) (sym (entry_last entries e))
          (legal_at R G (length entries) (basis_of entries) (basis_of (entries ++ e ∷ [])) b (length entries) (omega arith) e new))

  module _ (entries longer : List Entry) (b : IsPrefix entries longer) where
    -- what begins a legal list is legal
    pub legal_prefix : AreLegal R G longer → AreLegal R G entries
    legal_prefix legal i l =
        legal_at R G (length entries) (basis_of longer) (basis_of entries) (begins_back (length entries) (basis_of entries) (basis_of longer) (begins entries longer b)) i (omega arith) (entry_at entries i)
        (subst (IsLegalEntry R G (basis_of longer) i) (b.same i l) (legal i (omega (arith, l, b.shorter))))

    -- a run that knows the first entries alone is the same over more entries
    pub run_prefix : (item : Item) (ds : List Reading) → IsItemOf G.count (length entries) item → AreOrderly (length entries) 0 R.n ds →
        run_of R G (basis_of longer) item ds ≡ run_of R G (basis_of entries) item ds
    run_prefix item ds f o =
        ap (λ g. run_from R (basis_of longer).member g ds) (start_same R G (basis_of entries) (basis_of longer) (length entries) (begins entries longer b) item f)
        ∙ run_same R (basis_of entries).member (basis_of longer).member (length entries) (begins entries longer b).member _ ds o

    -- an item with an entry has it in the longer list too
    pub has_entry_more : (item : Item) → HasEntry entries item → HasEntry longer item
    has_entry_more item h = record { place = h.place; within = omega (arith, h.within, b.shorter); is = ap (λ x. x.item) (b.same h.place h.within) ∙ h.is }

    module _ (L : IsRanks R) where
      -- the corner never rises
      pub corner_falls : corner_of R (basis_of longer) ≤ corner_of R (basis_of entries)
      corner_falls = corner_least R L (basis_of longer) (corner_of R (basis_of entries)) (record {
        within = c.within;
        covers = λ r m n. let x = c.covers r m n in
            record { place = x.place; cofactor = x.cofactor; known = omega (arith, x.known, b.shorter); is = ap (R.times x.cofactor) ((begins entries longer b).lead x.place x.known) ∙ x.is };
      })
        where
          c : IsCover R (basis_of entries) (corner_of R (basis_of entries))
          c = corner_is R L (basis_of entries)

      -- a run that ends with Zero does so over more entries
      pub to_zero_more : (item : Item) → IsItemOf G.count (length entries) item → GoesToZero R G entries item → GoesToZero R G longer item
      to_zero_more item f z = record {
        reads = z.reads;
        last_end = ap (λ x. x.end) (run_prefix item z.reads f z.orderly) ∙ z.last_end;
        orderly = orderly_more (length entries) (length longer) b.shorter z.reads 0 R.n z.orderly;
        corners = corners_lower R (basis_of longer) (corner_of R (basis_of entries)) (corner_of R (basis_of longer)) corner_falls z.reads
            (corners_same R (basis_of entries) (basis_of longer) (length entries) (begins entries longer b) (corner_of R (basis_of entries)) z.reads 0 R.n z.orderly z.corners);
      }
