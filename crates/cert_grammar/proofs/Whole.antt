-- The form of the blocks that follow each other, and of a certificate.
use Rattle.std.proofs.Common.{◌≡◌, ℕ, zero, suc, ◌≤◌, Bool, true, false, List, [], ◌∷◌, ◌++◌, length, Result, Ok, Err, refl, sym, ◌∙◌, ap, subst, ◌⊎◌, inl, inr, ⊎_elim, arith, codes}
use Rattle.std.specs.List.{AllByRecursion}
use Rattle.cert_grammar.specs.Lines.{Line, IsLine, AreLines, same_line}
use Rattle.cert_grammar.specs.Blocks.{Block}
use Rattle.cert_grammar.specs.Cert.{head_line, numbered, block_lines, blocks_lines, cert_lines, IsBlock, IsCert}
use Rattle.cert_grammar.specs.Reading.{Read, behind, one_block_more, block_at, blocks_at, cert_at}
use Rattle.cert_grammar.proofs.Tools.{err_same, err_ok}
use Rattle.cert_grammar.proofs.Forms.{Refused, IsForm, done_form, same_form, behind_form, cons_form, same_line_same, same_line_true}
use Rattle.cert_grammar.proofs.Parts.{numbered_plain, block_form}

-- ---- a line that ends it, or one part more
-- this line, or else what is read
abbrev pub choice : {A : Type 0} → A → Read A → Line → List Line → Bool → Result (A × List Line) (List Line)
choice e readC l ls b = elim b [ true ↦ Ok (e, ls) | false ↦ readC (l ∷ ls) ]

-- the part's lines begin with one that does not end it
pub record BeginsOther (k : Line) (lines : List Line) : Type 0 where
  pub front : Line
  pub more : List Line
  pub is : lines ≡ front ∷ more
  pub other : same_line front k ≡ false

-- one line, or a part that does not begin with it, are a part
pub or_form : {A : Type 0} (k : Line) (e : A) (IsC : A → Type 0) (readC : Read A) (Is : A → Type 0) (lines : A → List Line) (read : Read A) → IsLine k → IsForm IsC lines readC →
    Is e → lines e ≡ k ∷ [] → ((a : A) → Is a → (a ≡ e) ⊎ IsC a) → ((a : A) → IsC a → Is a) → ((a : A) → IsC a → BeginsOther k (lines a)) →
    read [] ≡ Err [] → ((l : Line) (ls : List Line) → read (l ∷ ls) ≡ choice e readC l ls (same_line l k)) → IsForm Is lines read
or_form {A} k e IsC readC Is lines read k_is C e_is e_line to from begins none step = record {
  some = e;
  some_is = e_is;
  plain = λ a h. ⊎_elim (λ (p : a ≡ e). subst AreLines (sym (ap lines p ∙ e_line)) (k_is, tt)) (C.plain a) (to a h);
  only = λ a rest h. ⊎_elim
      (λ (p : a ≡ e). ap (λ z. read (lines z ++ rest)) p ∙ ap (λ (z : List Line). read (z ++ rest)) e_line ∙ step k rest ∙ ap (choice e readC k rest) (same_line_same k) ∙ ap (λ (z : A). Ok (z, rest)) (sym p))
      (λ (p : IsC a). let b : BeginsOther k (lines a) = begins a p in
      ap (λ (z : List Line). read (z ++ rest)) b.is ∙ step b.front (b.more ++ rest) ∙ ap (choice e readC b.front (b.more ++ rest)) b.other
      ∙ ap (λ (z : List Line). readC (z ++ rest)) (sym b.is) ∙ C.only a rest p)
      (to a h);
  found = found;
  first = first;
}
  where
    found : (s : List Line) (x : A × List Line) → read s ≡ Ok x → Is x.0 × (s ≡ lines x.0 ++ x.1)
    found [] x p = absurd (err_ok (read []) [] x none p)
    found (l ∷ ls) x p = go (same_line l k) refl (sym (step l ls) ∙ p)
      where
        go : (b : Bool) → same_line l k ≡ b → choice e readC l ls b ≡ Ok x → Is x.0 × (l ∷ ls ≡ lines x.0 ++ x.1)
        go true was p =
            let q : (e, ls) ≡ x = cc in
            subst (λ (z : A × List Line). Is z.0 × (l ∷ ls ≡ lines z.0 ++ z.1)) q
            (e_is, ap (λ (z : Line). z ∷ ls) (same_line_true l k was) ∙ ap (λ (z : List Line). z ++ ls) (sym e_line))
        go false was p = (from x.0 (C.found (l ∷ ls) x p).0, (C.found (l ∷ ls) x p).1)

    first : (s after : List Line) → read s ≡ Err after → Refused Is lines read s after
    first [] after p =
        let q : [] ≡ after = err_same (read []) [] after none p in
        record { good = []; split = q; value = e; is = e_is; more = lines e; begun = refl; dead = λ l rest other u. absurd (let v : [] ≡ l ∷ rest = cc in cc) }
    first (l ∷ ls) after p = go (same_line l k) refl (sym (step l ls) ∙ p)
      where
        go : (b : Bool) → same_line l k ≡ b → choice e readC l ls b ≡ Err after → Refused Is lines read (l ∷ ls) after
        go true was p = absurd (cc)
        go false was p =
            let R : Refused IsC lines readC (l ∷ ls) after = C.first (l ∷ ls) after p in
            record {
              good = R.good;
              split = R.split;
              value = R.value;
              is = from R.value R.is;
              more = R.more;
              begun = R.begun;
              dead = λ j rest other u. there R.good j rest other R.split u ∙ R.dead j rest other u;
            }
          where
            -- the first line is the one that was read
            there : (good : List Line) (j : Line) (rest other : List Line) → l ∷ ls ≡ good ++ after → after ≡ j ∷ rest → read (good ++ j ∷ other) ≡ readC (good ++ j ∷ other)
            there [] j rest other s u = let q : j ≡ l = cc in step j other ∙ ap (choice e readC j other) (ap (λ (z : Line). same_line z k) q ∙ was)
            there (g ∷ good) j rest other s u = let q : g ≡ l = cc in step g (good ++ j ∷ other) ∙ ap (choice e readC g (good ++ j ∷ other)) (ap (λ (z : Line). same_line z k) q ∙ was)

-- ---- blocks
-- at most k blocks
abbrev pub AreBlocks : ℕ → List Block → Type 0
AreBlocks k xs = (length xs ≤ k) × AllByRecursion IsBlock xs

-- one block, and at most k more
abbrev pub AreMore : ℕ → List Block → Type 0
AreMore k [] = ⊥
AreMore k (x ∷ xs) = IsBlock x × AreBlocks k xs

-- the last line behind b blocks
abbrev pub done_line : ℕ → Line
done_line b = numbered (codes "done") b

-- a block and then more of them are a part
more_form : (k b : ℕ) → IsForm (AreBlocks k) (blocks_lines (suc b)) (blocks_at k (suc b)) → IsForm (AreMore k) (blocks_lines b) (one_block_more (block_at (suc b)) (blocks_at k (suc b)))
more_form k b F =
    cons_form IsBlock (block_lines (suc b)) (block_at (suc b)) (AreBlocks k) (blocks_lines (suc b)) (blocks_at k (suc b)) (AreMore k) (blocks_lines b) (block_form (suc b)) F
    (λ h. h) (λ x xs h. h) (λ x xs h j. (h, j)) (λ x xs. refl)

-- no block is read of no lines
blocks_end : (k b : ℕ) → blocks_at (suc k) b [] ≡ Err []
unfolding blocks_at
blocks_end k b = refl

-- the next line decides whether a block follows
blocks_step : (k b : ℕ) (l : Line) (ls : List Line) → blocks_at (suc k) b (l ∷ ls) ≡ choice [] (one_block_more (block_at (suc b)) (blocks_at k (suc b))) l ls (same_line l (done_line b))
unfolding blocks_at
blocks_step k b l ls = refl

-- the blocks up to the last line are a part
pub blocks_form : (k b : ℕ) → IsForm (AreBlocks k) (blocks_lines b) (blocks_at k b)
unfolding blocks_at
blocks_form zero b =
    same_form (AreBlocks 0) (λ x. x ≡ []) (blocks_lines b) (λ x. done_line b ∷ []) (behind (done_line b) (λ t. Ok ([], t))) to
    (λ x p. (subst (AreBlocks 0) (sym p) (let q : 0 ≤ 0 = omega arith in q, tt), ap (blocks_lines b) p))
    (behind_form (done_line b) (λ x. x ≡ []) (λ x. []) (λ t. Ok ([], t)) (numbered_plain (codes "done") b refl) (done_form []))
  where
    to : (x : List Block) → AreBlocks 0 x → (x ≡ []) × (blocks_lines b x ≡ done_line b ∷ [])
    to [] h = (refl, refl)
    to (x ∷ xs) h = absurd (omega (arith, h.0))
blocks_form (suc k) b =
    or_form (done_line b) [] (AreMore k) (one_block_more (block_at (suc b)) (blocks_at k (suc b))) (AreBlocks (suc k)) (blocks_lines b) (blocks_at (suc k) b)
    (numbered_plain (codes "done") b refl) (more_form k b (blocks_form k (suc b))) (let q : 0 ≤ suc k = omega arith in q, tt) refl to from begins (blocks_end k b) (blocks_step k b)
  where
    to : (xs : List Block) → AreBlocks (suc k) xs → (xs ≡ []) ⊎ AreMore k xs
    to [] h = inl refl
    to (x ∷ xs) h = inr (h.1.0, (let q : length xs ≤ k = omega (arith, h.0) in q, h.1.1))

    from : (xs : List Block) → AreMore k xs → AreBlocks (suc k) xs
    from [] h = elim h [ ]
    from (x ∷ xs) h = (let q : length (x ∷ xs) ≤ suc k = omega (arith, h.1.0) in q, (h.0, h.1.1))

    begins : (xs : List Block) → AreMore k xs → BeginsOther (done_line b) (blocks_lines b xs)
    begins [] h = elim h [ ]
    begins (x ∷ xs) h = record { front = _; more = _; is = refl; other = refl }

-- ---- a certificate
-- a certificate is a part
pub cert_form : IsForm IsCert cert_lines cert_at
cert_form =
    behind_form head_line IsCert (blocks_lines 0) (one_block_more (block_at 1) (blocks_at 63 1)) (refl, (refl, tt))
    (same_form IsCert (AreMore 63) (blocks_lines 0) (blocks_lines 0) (one_block_more (block_at 1) (blocks_at 63 1)) to from (more_form 63 0 (blocks_form 63 1)))
  where
    to : (xs : List Block) → IsCert xs → AreMore 63 xs × (blocks_lines 0 xs ≡ blocks_lines 0 xs)
    to xs h = go xs h.some h.few h.each
      where
        go : (xs : List Block) → 1 ≤ length xs → length xs ≤ 64 → AllByRecursion IsBlock xs → AreMore 63 xs × (blocks_lines 0 xs ≡ blocks_lines 0 xs)
        go [] a b c = absurd (omega arith)
        go (x ∷ xs) a b c = ((c.0, (let q : length xs ≤ 63 = omega (arith, b) in q, c.1)), refl)

    from : (xs : List Block) → AreMore 63 xs → IsCert xs × (blocks_lines 0 xs ≡ blocks_lines 0 xs)
    from [] h = elim h [ ]
    from (x ∷ xs) h = (record { some = omega arith; few = let q : length xs ≤ 63 = h.1.0 in omega arith; each = (h.0, h.1.1) }, refl)
