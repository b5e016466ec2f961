-- Reading blocks: those read so far in front of what reading goes on with are what is read.
use Rattle.std.proofs.Common.{◌≡◌, ℕ, zero, suc, ◌+◌, ◌-◌, ◌<◌, Bool, true, false, List, [], ◌∷◌, ◌++◌, Result, Ok, Err, refl, sym, ◌∙◌, ap, arith, codes}
use Rattle.std.specs.Fmt.{digits}
use Rattle.std.proofs.lemmas.List.{append-nil}
use Rattle.cert_grammar.specs.Lines.{Line, same_line}
use Rattle.cert_grammar.specs.Blocks.{Block}
use Rattle.cert_grammar.specs.Cert.{head_line, numbered}
use Rattle.cert_text.specs.Gives.{Stops, GivesLine, next_is, with_items}
use Rattle.cert_text.specs.declared.stop.Stop.{Stop}
use Rattle.cert_text.specs.declared.stop.Stop.TheVariants.{Form, Memory}
use Rattle.cert_grammar.specs.Reading.{cert_at, Read, ◌>>=◌, given_at, behind, one_block_more, block_at, blocks_at}
use Rattle.cert_text.proofs.Loops.{cons_items}

-- the last line
abbrev pub last_at : ℕ → Read (List Block)
last_at b = behind (numbered (codes "done") b) (λ t. Ok ([], t))

-- the last line where it stands next, and else a block and more
abbrev pub chosen : ℕ → ℕ → List Line → Bool → Result (List Block × List Line) (List Line)
chosen k b s true = last_at b s
chosen k b s false = one_block_more (block_at (suc b)) (blocks_at k (suc b)) s

-- what stands next decides
blocks_by : (k b : ℕ) (s : List Line) → blocks_at (suc k) b s ≡ chosen k b s (next_is (numbered (codes "done") b) s)
unfolding blocks_at
blocks_by k b [] = refl
blocks_by k b (l ∷ ls) = go (same_line l (numbered (codes "done") b)) refl
  where
    go : (c : Bool) → same_line l (numbered (codes "done") b) ≡ c →
        elim c [ true ↦ Ok ([], ls) | false ↦ one_block_more (block_at (suc b)) (blocks_at k (suc b)) (l ∷ ls) ] ≡ chosen k b (l ∷ ls) c
    go true e = sym (ap (λ c. (Rattle.std.specs.Prelude.if◌then◌else◌ c (Ok ls) (Err (l ∷ ls))) >>= λ t. Ok ([], t)) e)
    go false e = refl

-- behind the last block that there may be only the last line stands
blocks_end : (b : ℕ) (s : List Line) → blocks_at zero b s ≡ last_at b s
unfolding blocks_at
blocks_end b s = refl

-- the last line is taken behind the blocks
with_last : (xs : List Block) (b : ℕ) (s t : List Line) → given_at (numbered (codes "done") b) s ≡ Ok t → with_items xs (last_at b s) ≡ Ok (xs, t)
with_last xs b s t e = ap (λ z. with_items xs (z >>= λ t. Ok ([], t))) e ∙ ap (λ (z : List Block). Ok (z, t)) (append-nil xs)

-- what is left is read as the next line says
left_over : (xs : List Block) (b : ℕ) (s : List Line) (c : Bool) → b < 64 → next_is (numbered (codes "done") b) s ≡ c → with_items xs (blocks_at (64 - b) b s) ≡ with_items xs (chosen (63 - b) b s c)
left_over xs b s c h is =
    ap (λ k. with_items xs (blocks_at k b s)) (let p : 64 - b ≡ suc (63 - b) = omega arith in p) ∙ ap (with_items xs) (blocks_by (63 - b) b s ∙ ap (chosen (63 - b) b s) is)

-- the last line stands next
pub blocks_done : (xs : List Block) (b : ℕ) (s t : List Line) (all : Result (List Block × List Line) (List Line)) → b < 64 → next_is (numbered (codes "done") b) s ≡ true → given_at (numbered (codes "done") b) s ≡ Ok t →
    with_items xs (blocks_at (64 - b) b s) ≡ all → all ≡ Ok (xs, t)
blocks_done xs b s t all h is e a = sym a ∙ left_over xs b s true h is ∙ with_last xs b s t e

-- a block more
pub blocks_more : (xs : List Block) (b : ℕ) (s t : List Line) (x : Block) → b < 64 → next_is (numbered (codes "done") b) s ≡ false → block_at (b + 1) s ≡ Ok (x, t) →
    with_items (xs ++ x ∷ []) (blocks_at (64 - (b + 1)) (b + 1) t) ≡ with_items xs (blocks_at (64 - b) b s)
blocks_more xs b s t x h is e =
    let p : b + 1 ≡ suc b = omega arith in
    ap (λ k. with_items (xs ++ x ∷ []) (blocks_at k (b + 1) t)) (let q : 64 - (b + 1) ≡ 63 - b = omega arith in q)
    ∙ ap (λ k. with_items (xs ++ x ∷ []) (blocks_at (63 - b) k t)) p
    ∙ cons_items xs x (blocks_at (63 - b) (suc b) t)
    ∙ sym (ap (λ z. with_items xs (z >>= λ x. (blocks_at (63 - b) (suc b) x.1 >>= λ y. Ok (x.0 ∷ y.0, y.1)))) (ap (λ k. block_at k s) (sym p) ∙ e))
    ∙ sym (left_over xs b s false h is)

-- a block is refused
pub blocks_stop : (stop : Stop) (xs : List Block) (b : ℕ) (s t : List Line) (all : Result (List Block × List Line) (List Line)) → b < 64 → next_is (numbered (codes "done") b) s ≡ false → Stops stop t (block_at (b + 1) s) →
    with_items xs (blocks_at (64 - b) b s) ≡ all → Stops stop t all
blocks_stop Memory xs b s t all h is e a = tt
blocks_stop Form xs b s t all h is e a =
    let p : b + 1 ≡ suc b = omega arith in
    sym a ∙ left_over xs b s false h is
    ∙ ap (λ z. with_items xs (z >>= λ x. (blocks_at (63 - b) (suc b) x.1 >>= λ y. Ok (x.0 ∷ y.0, y.1)))) (ap (λ k. block_at k s) (sym p) ∙ e)

-- behind all blocks that there may be only the last line is left
full : (xs : List Block) (b : ℕ) (s : List Line) → b ≡ 64 → with_items xs (blocks_at (64 - b) b s) ≡ with_items xs (last_at 64 s)
full xs b s e = ap (λ k. with_items xs (blocks_at (64 - k) k s)) e ∙ ap (with_items xs) (blocks_end 64 s)

-- behind 64 blocks
pub end_done : (xs : List Block) (b : ℕ) (s t : List Line) (all : Result (List Block × List Line) (List Line)) → b ≡ 64 → given_at (numbered (codes "done") 64) s ≡ Ok t → with_items xs (blocks_at (64 - b) b s) ≡ all → all ≡ Ok (xs, t)
end_done xs b s t all h e a = sym a ∙ full xs b s h ∙ with_last xs 64 s t e

-- where the last line is refused there, reading is
pub end_stop : (stop : Stop) (xs : List Block) (b : ℕ) (s t : List Line) (all : Result (List Block × List Line) (List Line)) → b ≡ 64 → GivesLine {X = Unit {0}} (Err stop) t (given_at (numbered (codes "done") 64) s) →
    with_items xs (blocks_at (64 - b) b s) ≡ all → Stops stop t all
end_stop Memory xs b s t all h e a = tt
end_stop Form xs b s t all h e a = sym a ∙ full xs b s h ∙ ap (λ z. with_items xs (z >>= λ t. Ok ([], t))) e

-- ---- the whole
-- the first line
head_is : numbered (codes "lstd-cert") 1 ≡ head_line
unfolding digits
head_is = refl

-- a block in front of others
front_one : (x : Block) (z : Result (List Block × List Line) (List Line)) → z >>= (λ y. Ok (x ∷ y.0, y.1)) ≡ with_items (x ∷ []) z
front_one x (Ok y) = refl
front_one x (Err s) = refl

-- what is left behind the first line: a block, and the others
abbrev pub first_block : Result (List Line) (List Line) → Result (List Block × List Line) (List Line)
first_block z = z >>= λ t. (block_at 1 t >>= λ x. with_items (x.0 ∷ []) (blocks_at 63 1 x.1))

-- a certificate is its first line, a block and the others
pub cert_by : (s : List Line) → cert_at s ≡ first_block (given_at (numbered (codes "lstd-cert") 1) s)
cert_by s = go (given_at head_line s) ∙ ap (λ k. first_block (given_at k s)) (sym head_is)
  where
    block : (z : Result (Block × List Line) (List Line)) → (z >>= λ x. (blocks_at 63 1 x.1 >>= λ y. Ok (x.0 ∷ y.0, y.1))) ≡ (z >>= λ x. with_items (x.0 ∷ []) (blocks_at 63 1 x.1))
    block (Ok x) = front_one x.0 (blocks_at 63 1 x.1)
    block (Err t) = refl

    go : (z : Result (List Line) (List Line)) → z >>= one_block_more (block_at 1) (blocks_at 63 1) ≡ first_block z
    go (Ok t) = block (block_at 1 t)
    go (Err t) = refl
