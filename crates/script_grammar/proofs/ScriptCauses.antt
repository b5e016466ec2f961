-- Each refusal of a script has its cause.
-- Part by part along the reading function of the whole tree: remarks, the ring, remarks, the noether monomial, statements.
use Rattle.std.proofs.Common.{◌≡◌, ℕ, suc, ◌<◌, false, List, [], ◌++◌, Result, Ok, Err, refl, sym, ap, subst, ◌∙◌, inl, inr, arith, append_assoc}
use Rattle.std.proofs.lemmas.List.{append-nil}
use Rattle.std.specs.Prelude.{codes}
use Rattle.std.specs.List.{flat_map}
use Rattle.prime_field.specs.Decimal.{value_of}
use Rattle.prime_field.specs.Prime.{table}
use Rattle.script_grammar.specs.declared.refusal.Refusal.{Refusal}
use Rattle.script_grammar.specs.declared.refusal.ReadKind.TheVariants.{Expected, MissingNoether}
use Rattle.script_grammar.specs.declared.refusal.What.TheVariants as whats
use Rattle.script_grammar.specs.Tokens.{Token, Place, next, word}
use Rattle.script_grammar.specs.Words.{is_the_word}
use Rattle.script_grammar.specs.Trees.{Remark, remark_tokens, Ring, ring_tokens, Monomial, noether_tokens, Statement, Tree, tree_tokens, one}
use Rattle.script_grammar.specs.Steps.{◌>>=◌}
use Rattle.script_grammar.specs.Expressions.{Declarations}
use Rattle.script_grammar.specs.Statements.{begins_remark, letters_of, remarks_at}
use Rattle.script_grammar.specs.Script.{begins_later, ring_part, noether_part}
use Rattle.script_grammar.specs.Valid.{Stand, ValidRing, ValidNoether, first_known}
use Rattle.script_grammar.specs.Places.{Placed}
use Rattle.script_grammar.specs.Spots.{the_ring, the_noether, BeforeNoether}
use Rattle.script_grammar.proofs.Places.{stand_placed}
use Rattle.script_grammar.proofs.Steps.{bind_err, chosen, never, word_is}
use Rattle.script_grammar.proofs.ReadRingIsValid.{ring_found}
use Rattle.script_grammar.proofs.ReadNoetherIsValid.{noether_found}
use Rattle.script_grammar.proofs.StepsAreRead.{from_table}
use Rattle.script_grammar.proofs.TreeTokens.{AreTokens-ring, AreTokens-noether}
use Rattle.script_grammar.proofs.RingByTokens.{any_more}
use Rattle.script_grammar.proofs.ScriptByTokens.{statements_read, start, finished, tree_read}
use Rattle.script_grammar.proofs.CauseSteps.{Leads, Leads-then, Caused, refused_here, behind_first}
use Rattle.script_grammar.proofs.RemarkCauses.{nothing, remarks_caused, remarks_kept}
use Rattle.script_grammar.proofs.RingCauses.{ring_caused}
use Rattle.script_grammar.proofs.NoetherCauses.{noether_caused}
use Rattle.script_grammar.proofs.StatementCauses.{statements_caused}

-- The characteristic of a valid ring is above 1.
prime_more : (r : Ring) → ValidRing r → 1 < value_of r.prime
prime_more r v = any_more table (value_of r.prime) refl (from_table (value_of r.prime) v.prime.1)

-- Behind remarks, a valid ring and remarks, the noether statement comes.
before_noether : (before : List Remark) (r : Ring) (done : List Remark) → ValidRing r → BeforeNoether (first_known r) ((flat_map remark_tokens before ++ ring_tokens r) ++ flat_map remark_tokens done)
before_noether before r done valid = (before, done, r, valid, refl, sym (append_assoc (flat_map remark_tokens before) (ring_tokens r) (flat_map remark_tokens done)))

-- the whole tree, once its statements are read
abbrev tree_end : List Remark → Ring → List Remark → Monomial → List Statement × Place → Result (Tree × Place) Refusal
tree_end before r between m statements = Ok (finished before r between m statements.0, statements.1)

-- what is read behind the ring
abbrev behind_ring_read : List Remark → Ring → Place → Result (Tree × Place) Refusal
behind_ring_read before r t =
    remarks_at t.left [] t >>= λ between. noether_part (letters_of r.variables) between.1 >>= λ noether. statements_read (suc noether.1.left) (start r) noether.1 >>= tree_end before r between.0 noether.0

module _ (s : Place) where
  -- Behind remarks, the ring statement is refused, or what is none.
  ring_part_caused : (remarks : List Remark) (t : Place) (f : Refusal) → Leads s (flat_map remark_tokens remarks) t → begins_remark t.token ≡ false → ring_part t ≡ Err f → Caused s f
  ring_part_caused remarks t f st none e =
      let c = flat_map remark_tokens remarks in
      let w = word (codes "ring") in
      elim (chosen (is_the_word (codes "ring") t.token) _ _ _ e) [
        | inl yea ↦ ring_caused s (c ++ one w) (next t.rest) f (behind_first c (one w) (remarks, refl)) (Leads-then s c t (one w) (next t.rest) st (word_is (codes "ring") t.token yea.0, refl) (tt, tt)) yea.1
        | inr nay ↦ refused_here s nothing the_ring (Expected whats.Ring) c t f st (remarks, refl) (inl refl) (inr refl) (λ i. (i, (none, nay.0))) nay.1
      ]

  -- A ring statement that is read is valid, and leads on.
  ring_part_kept : (c : List Token) (t : Place) (r : Ring) (u : Place) → Leads s c t → Placed t → ring_part t ≡ Ok (r, u) → Leads s (c ++ ring_tokens r) u × Placed u × ValidRing r
  ring_part_kept c t r u st placed e = elim (chosen (is_the_word (codes "ring") t.token) _ _ _ e) [
    | inl yea ↦
        let is = ring_found (next t.rest) (r, u) yea.1 in
        let stand : Stand t (ring_tokens r) u = (word_is (codes "ring") t.token yea.0, is.0) in
        (Leads-then s c t (ring_tokens r) u st stand (AreTokens-ring r), (stand_placed t (ring_tokens r) u placed stand).1, is.1)
    | inr nay ↦ absurd (never (r, u) _ (sym nay.1))
  ]

  -- Behind the ring and remarks, the noether statement is refused, or what is none.
  noether_part_caused : (known : Declarations) (c : List Token) (t : Place) (f : Refusal) → BeforeNoether known c → Leads s c t → begins_remark t.token ≡ false → noether_part known.letters t ≡ Err f → Caused s f
  noether_part_caused known c t f here st none e =
      let w = word (codes "noether") in
      elim (chosen (is_the_word (codes "noether") t.token) _ _ _ e) [
        | inl yea ↦ noether_caused s known (c ++ one w) (next t.rest) f (behind_first c (one w) here) (Leads-then s c t (one w) (next t.rest) st (word_is (codes "noether") t.token yea.0, refl) (tt, tt)) yea.1
        | inr nay ↦ elim (chosen (begins_later t.token) _ _ _ nay.1) [
          | inl early ↦ refused_here s known the_noether MissingNoether c t f st here (inl refl) (inr refl) (λ i. early.0) early.1
          | inr other ↦ refused_here s known the_noether (Expected whats.Noether) c t f st here (inl refl) (inr refl) (λ i. (i, (none, nay.0, other.0))) other.1
        ]
      ]

  -- A noether statement that is read is valid, and leads on.
  noether_part_kept : (letters : List ℕ) (c : List Token) (t : Place) (m : Monomial) (u : Place) → Leads s c t → Placed t → noether_part letters t ≡ Ok (m, u) → Leads s (c ++ noether_tokens m) u × Placed u × ValidNoether letters m
  noether_part_kept letters c t m u st placed e = elim (chosen (is_the_word (codes "noether") t.token) _ _ _ e) [
    | inl yea ↦
        let is = noether_found letters (next t.rest) (m, u) yea.1 in
        let stand : Stand t (noether_tokens m) u = (word_is (codes "noether") t.token yea.0, is.0) in
        (Leads-then s c t (noether_tokens m) u st stand (AreTokens-noether m), (stand_placed t (noether_tokens m) u placed stand).1, is.1)
    | inr nay ↦ elim (chosen (begins_later t.token) _ _ _ nay.1) [ inl early ↦ absurd (never (m, u) _ (sym early.1)) | inr other ↦ absurd (never (m, u) _ (sym other.1)) ]
  ]

  -- The statements behind the noether monomial are refused where one of them is.
  behind_noether_caused : (before between : List Remark) (r : Ring) (m : Monomial) (t : Place) (f : Refusal) → ValidRing r → ValidNoether (letters_of r.variables) m
      → Leads s (flat_map remark_tokens before ++ (ring_tokens r ++ (flat_map remark_tokens between ++ noether_tokens m))) t → Placed t → statements_read (suc t.left) (start r) t ≡ Err f → Caused s f
  behind_noether_caused before between r m t f ring noether st placed e =
      let h : Tree = finished before r between m [] in
      let a = flat_map remark_tokens before in
      let b = ring_tokens r in
      let c = flat_map remark_tokens between in
      let same : a ++ (b ++ (c ++ noether_tokens m)) ≡ tree_tokens h = ap (λ (x : List Token). a ++ (b ++ (c ++ x))) (sym (append-nil (noether_tokens m))) in
      statements_caused s h (start r) t f ring noether (record { leads = subst (λ (x : List Token). Leads s x t) same st; valid = (refl, refl); few = omega arith; prime = prime_more r ring }) placed e

  -- Behind the ring, remarks are refused, the noether statement, or what is behind that.
  behind_ring : (before : List Remark) (r : Ring) (t : Place) (f : Refusal) → Leads s (flat_map remark_tokens before ++ ring_tokens r) t → Placed t → ValidRing r → behind_ring_read before r t ≡ Err f → Caused s f
  behind_ring before r t f st placed valid e =
      let a = flat_map remark_tokens before in
      let c = a ++ ring_tokens r in
      let here = λ (done : List Remark). before_noether before r done valid in
      elim (bind_err (remarks_at t.left [] t) _ f e) [
        | inl early ↦ remarks_caused s c t f (λ done. inr (inl (first_known r, here done))) st placed early
        | inr third ↦
            let between = third.0 in
            let k = remarks_kept s c t between.0 between.1 st placed third.1 in
            let d = flat_map remark_tokens between.0 in
            elim (bind_err (noether_part (letters_of r.variables) between.1) _ f third.2) [
              | inl early ↦ noether_part_caused (first_known r) (c ++ d) between.1 f (here between.0) k.0 k.2 early
              | inr fourth ↦
                  let m = fourth.0 in
                  let q = noether_part_kept (letters_of r.variables) (c ++ d) between.1 m.0 m.1 k.0 k.1 fourth.1 in
                  let same : (c ++ d) ++ noether_tokens m.0 ≡ a ++ (ring_tokens r ++ (d ++ noether_tokens m.0)) = append_assoc c d (noether_tokens m.0) ∙ append_assoc a (ring_tokens r) (d ++ noether_tokens m.0) in
                  elim (bind_err (statements_read (suc m.1.left) (start r) m.1) _ f fourth.2) [
                    | inl early ↦ behind_noether_caused before between.0 r m.0 m.1 f valid q.2 (subst (λ (x : List Token). Leads s x m.1) same q.0) q.1 early
                    | inr all ↦ absurd (never _ f all.2)
                  ]
            ]
      ]

  -- A script is refused where one of its parts is.
  pub tree_caused : (f : Refusal) → Placed s → tree_read s ≡ Err f → Caused s f
  unfolding tree_read
  tree_caused f placed e = elim (bind_err (remarks_at s.left [] s) _ f e) [
    | inl early ↦ remarks_caused s [] s f (λ done. inl (done, refl)) (refl, tt) placed early
    | inr first ↦
        let before = first.0 in
        let k = remarks_kept s [] s before.0 before.1 (refl, tt) placed first.1 in
        let a = flat_map remark_tokens before.0 in
        elim (bind_err (ring_part before.1) _ f first.2) [
          | inl early ↦ ring_part_caused before.0 before.1 f k.0 k.2 early
          | inr second ↦
              let ring = second.0 in
              let q = ring_part_kept a before.1 ring.0 ring.1 k.0 k.1 second.1 in
              behind_ring before.0 ring.0 ring.1 f q.0 q.1 q.2 second.2
        ]
  ]
