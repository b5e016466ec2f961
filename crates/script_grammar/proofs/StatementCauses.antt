-- Each refusal in a later statement has its cause.
-- A command by what it is asked of, a statement by its first word, and then the loop over statements.
use Rattle.std.proofs.Common.{◌≡◌, ℕ, suc, ◌+◌, ◌≤◌, ◌<◌, Bool, true, false, cond, not, ◌&&◌, eqb, List, [], ◌∷◌, ◌++◌, Option, Some, None, Result, Ok, Err, refl, sym, ap, subst, ◌∙◌, inl, inr, arith, append_assoc}
use Rattle.std.proofs.lemmas.Bool.{eqb-true, eqb-false, leb-false, not-true, not-false}
use Rattle.std.proofs.lemmas.List.{append-nil}
use Rattle.std.proofs.lemmas.Grind.{flat_map-append}
use Rattle.std.specs.Prelude.{codes, nat_le}
use Rattle.std.specs.List.{flat_map}
use Rattle.script_grammar.specs.declared.refusal.Refusal.{Refusal}
use Rattle.script_grammar.specs.declared.refusal.ReadKind.{ReadKind}
use Rattle.script_grammar.specs.declared.refusal.ReadKind.TheVariants.{Expected, TooManyCommands}
use Rattle.script_grammar.specs.declared.refusal.What.TheVariants as whats
use Rattle.script_grammar.specs.declared.script.Word.{Word}
use Rattle.script_grammar.specs.Tokens.{Token, Place, next, word, text, mark, bad, end, cut}
use Rattle.script_grammar.specs.Words.{is_the_word, is_the_end}
use Rattle.script_grammar.specs.Trees.{Statement, command, command_std, command_word, statement_tokens, remark_tokens, ring_tokens, noether_tokens, Tree, tree_tokens, one}
use Rattle.script_grammar.specs.Steps.{◌>>=◌, refused, wanted, kind_at, mark_at}
use Rattle.script_grammar.specs.Expressions.{Declarations}
use Rattle.script_grammar.specs.Statements.{begins_remark, letters_of, is_on_poly, argument_at, command_at, remark_at}
use Rattle.script_grammar.specs.Script.{command_of, command_from, after, commands_in, statement_at}
use Rattle.script_grammar.specs.Valid.{ValidRing, ValidNoether, ValidStatement, first_known}
use Rattle.script_grammar.specs.Places.{is_last, IsToken, Placed}
use Rattle.script_grammar.specs.Spots.{a_statement, Behind, BeforeStatement, BeforeArgument, of_command, of_std, AreValid, of_argument, of_end}
use Rattle.script_grammar.specs.Causes.{IsCause}
use Rattle.script_grammar.proofs.Steps.{bind_err, chosen, err_is, never, word_is}
use Rattle.script_grammar.proofs.WordKinds.{command_of_is}
use Rattle.script_grammar.proofs.ReadStatementsAreValid.{statement_found, commands_fit}
use Rattle.script_grammar.proofs.TreeTokens.{AreTokens-statement}
use Rattle.script_grammar.proofs.ScriptByTokens.{Progress, advanced, stopped, statement_item, read_more, statements_read, statements_loop, prime_kept, statement_some}
use Rattle.script_grammar.proofs.LoopEnds.{LoopEnds, loop_ends}
use Rattle.script_grammar.proofs.CauseSteps.{Leads, Leads-then, Caused, refused_with, tokens_less, behind_on, behind_first, mark_or}
use Rattle.script_grammar.proofs.NameCauses.{argument_or, closed_or}
use Rattle.script_grammar.proofs.IdealCauses.{poly_caused, ideal_caused}
use Rattle.script_grammar.proofs.RemarkCauses.{remark_caused}

-- the end of a command, behind a name in parentheses, alone or in std( )
abbrev command_end : Word → List ℕ × Place → Result (Statement × Place) Refusal
command_end w name = mark_at 59 whats.Semicolon name.1 >>= λ last. Ok (command w name.0, last)

-- the end of a command on an ideal in std( )
abbrev std_end : Word → List ℕ × Place → Result (Statement × Place) Refusal
std_end w name = mark_at 41 whats.Close name.1 >>= λ closed. mark_at 59 whats.Semicolon closed >>= λ last. Ok (command_std w name.0, last)

module _ (s : Place) where
  -- ---- commands
  -- A command on an ideal in std( ) is refused where that is, or its end.
  std_caused : (known : Declarations) (count : ℕ) (w : Word) (c : List Token) (t : Place) (f : Refusal) → count < 64 → is_on_poly w ≡ false → Leads s c t → Behind (BeforeStatement known count) (word (command_word w) ∷ mark 40 ∷ one (word (codes "std"))) c
      → (argument_at known.ideals t >>= std_end w) ≡ Err f → Caused s f
  std_caused known count w c t f room ideals st b e =
      elim (argument_or s known known.ideals (mark 41) (one (mark 59)) c t _ f st (of_std count w c room ideals b) e) [
        | inl done ↦ done
        | inr r ↦ elim (mark_or s known 41 whats.Close _ r.2 _ f r.3 (of_end known.ideals r.0 (mark 41) (mark 41) (one (mark 59)) (one (mark 41)) (one (mark 59)) _ r.1 refl r.4) (λ no. (refl, no)) r.5) [
          | inl done ↦ done
          | inr a ↦ elim (mark_or s known 59 whats.Semicolon _ _ _ f a.0 (of_end known.ideals r.0 (mark 59) (mark 41) (one (mark 59)) (mark 41 ∷ one (mark 41)) [] _ r.1 refl (behind_on _ _ (one (mark 41)) r.4)) (λ no. (refl, no)) a.1) [
            | inl done ↦ done
            | inr all ↦ absurd (never _ f all.1)
          ]
        ]
      ]

  -- A command on a polynomial is refused where its argument is, or its end.
  on_poly_caused : (known : Declarations) (count : ℕ) (w : Word) (c : List Token) (t : Place) (f : Refusal) → count < 64 → is_on_poly w ≡ true → Leads s c t → Behind (BeforeStatement known count) (one (word (command_word w))) c
      → (argument_at known.polys t >>= command_end w) ≡ Err f → Caused s f
  on_poly_caused known count w c t f room polys st b e =
      let may = subst (λ (x : Bool). BeforeArgument known (cond x known.polys known.ideals) (one (mark 59)) c) polys (of_command count w c room b) in
      elim (argument_or s known known.polys (mark 59) [] c t _ f st may e) [
        | inl done ↦ done
        | inr r ↦ elim (mark_or s known 59 whats.Semicolon _ r.2 _ f r.3 (of_end known.polys r.0 (mark 59) (mark 59) [] (one (mark 41)) [] _ r.1 refl r.4) (λ no. (refl, no)) r.5) [
          | inl done ↦ done
          | inr all ↦ absurd (never _ f all.1)
        ]
      ]

  -- A command is refused where its argument is, or its end.
  command_caused : (known : Declarations) (count : ℕ) (w : Word) (c : List Token) (t : Place) (f : Refusal) → count < 64 → Leads s c t → Behind (BeforeStatement known count) (one (word (command_word w))) c → command_at known w t ≡ Err f → Caused s f
  unfolding command_at
  command_caused known count w c t f room st b e = elim (chosen (is_on_poly w) _ _ _ e) [
    | inl yea ↦ on_poly_caused known count w c t f room yea.0 st b yea.1
    | inr nay ↦
        let may = subst (λ (x : Bool). BeforeArgument known (cond x known.polys known.ideals) (one (mark 59)) c) nay.0 (of_command count w c room b) in
        elim (mark_or s known 40 whats.Open c t _ f st (of_argument known.ideals (one (mark 59)) c may) (λ no. (refl, no)) nay.1) [
          | inl done ↦ done
          | inr a ↦
              let d = c ++ one (mark 40) in
              let u = next t.rest in
              let std = word (codes "std") in
              elim (chosen (is_the_word (codes "std") u.token) _ _ _ a.1) [
                | inl yea ↦
                    std_caused known count w (d ++ one std) (next u.rest) f room nay.0 (Leads-then s d u (one std) (next u.rest) a.0 (word_is (codes "std") u.token yea.0, refl) (tt, tt)) (behind_on _ d (one std) (behind_on _ c (one (mark 40)) b)) yea.1
                | inr plain ↦
                    elim (closed_or s known known.ideals (mark 59) [] d u (command_end w) f a.0 (behind_first c (one (mark 40)) may) plain.1) [
                      | inl done ↦ done
                      | inr r ↦ elim (mark_or s known 59 whats.Semicolon _ r.2 _ f r.3 (of_end known.ideals r.0 (mark 59) (mark 59) [] (one (mark 41)) [] _ r.1 refl r.4) (λ no. (refl, no)) r.5) [
                        | inl done ↦ done
                        | inr all ↦ absurd (never _ f all.1)
                      ]
                    ]
              ]
        ]
  ]

  -- ---- one statement
  -- What isn't the end is refused where a statement must begin as a bad byte, or for a cause of its own.
  at_statement : (known : Declarations) (count : ℕ) (kind : ReadKind) (c : List Token) (t : Place) (f : Refusal) → is_last t.token ≡ false → Leads s c t → BeforeStatement known count c → (IsToken t.token → IsCause kind known (a_statement count) t.token)
      → refused {A = Statement × Place} t kind ≡ Err f → Caused s f
  at_statement known count kind c t f goes st here h e = refused_with s known (a_statement count) kind c t f st here (by_token t.token goes h) e
    where
      by_token : (i : Token) → is_last i ≡ false → (IsToken i → IsCause kind known (a_statement count) i) → IsCause (kind_at i kind) known (a_statement count) i
      by_token (word w) o k = k tt
      by_token (text w) o k = k tt
      by_token (mark m) o k = k tt
      by_token bad o k = refl
      by_token end o k = absurd cc
      by_token cut o k = absurd cc

  -- What begins no statement is refused where one must begin, and the word of the 65th command.
  command_from_caused : (known : Declarations) (count : ℕ) (c : List Token) (t : Place) (f : Refusal) (o : Option Word) → count ≤ 64 → is_last t.token ≡ false → Leads s c t → BeforeStatement known count c → command_of t.token ≡ o
      → begins_remark t.token ≡ false → is_the_word (codes "poly") t.token ≡ false → is_the_word (codes "ideal") t.token ≡ false → command_from known count t o ≡ Err f → Caused s f
  command_from_caused known count c t f None few goes st here is no_remark no_poly no_ideal e = at_statement known count (Expected whats.Statement) c t f goes st here (λ i. (i, (no_remark, rw (no_poly, no_ideal, is) refl))) e
  command_from_caused known count c t f (Some w) few goes st here is no_remark no_poly no_ideal e = elim (chosen (eqb count 64) _ _ _ e) [
    | inl full ↦ at_statement known count TooManyCommands c t f goes st here (λ i. (rw (is) refl, eqb-true count 64 full.0)) full.1
    | inr room ↦
        let less : count < 64 = omega (arith, few, eqb-false count 64 room.0) in
        let there = command_of_is t.token w is in
        command_caused known count w (c ++ one (word (command_word w))) (next t.rest) f less (Leads-then s c t (one (word (command_word w))) (next t.rest) st (there, refl) (tt, tt)) (behind_first c (one (word (command_word w))) here) room.1
  ]

  -- A statement is refused where what its first word begins is.
  statement_caused : (known : Declarations) (count : ℕ) (c : List Token) (t : Place) (f : Refusal) → 1 < known.prime → count ≤ 64 → is_last t.token ≡ false → Leads s c t → BeforeStatement known count c → statement_at known count t ≡ Err f → Caused s f
  unfolding statement_at
  statement_caused known count c t f prime few goes st here e = elim (chosen (begins_remark t.token) _ _ _ e) [
    | inl yea ↦ elim (bind_err (remark_at t) _ f yea.1) [
      | inl early ↦ remark_caused s c t f st (inr (inr (known, count, here))) yea.0 early
      | inr late ↦ absurd (never _ f late.2)
    ]
    | inr nay ↦ elim (chosen (is_the_word (codes "poly") t.token) _ _ _ nay.1) [
      | inl yea ↦
          let w = word (codes "poly") in
          poly_caused s known count (c ++ one w) (next t.rest) f prime (Leads-then s c t (one w) (next t.rest) st (word_is (codes "poly") t.token yea.0, refl) (tt, tt)) (behind_first c (one w) here) yea.1
      | inr other ↦ elim (chosen (is_the_word (codes "ideal") t.token) _ _ _ other.1) [
        | inl yea ↦
            let w = word (codes "ideal") in
            ideal_caused s known count (c ++ one w) (next t.rest) f prime (Leads-then s c t (one w) (next t.rest) st (word_is (codes "ideal") t.token yea.0, refl) (tt, tt)) (behind_first c (one w) here) yea.1
        | inr none ↦ command_from_caused known count c t f (command_of t.token) few goes st here refl nay.0 other.0 none.0 none.1
      ]
    ]
  ]

  -- ---- the loop over statements
  -- a tree with these statements
  abbrev pub with_statements : Tree → List Statement → Tree
  with_statements h done = record h { statements = done }

  -- statements that lead from the start to a place, each valid behind those before it
  pub record Stated (h : Tree) (y : Progress) (t : Place) : Type 0 where
    pub leads : Leads s (tree_tokens (with_statements h y.done)) t
    pub valid : AreValid (first_known h.ring) 0 y.done y.known y.count
    pub few : y.count ≤ 64
    pub prime : 1 < y.known.prime

  -- One more valid statement behind valid ones.
  valid-append : (first known : Declarations) (none count : ℕ) (done : List Statement) (x : Statement) → AreValid first none done known count → ValidStatement known count x → AreValid first none (done ++ x ∷ []) (after known x) (count + commands_in x)
  valid-append first known none count [] x h v =
      let at : ValidStatement first none x = subst (λ (n : ℕ). ValidStatement first n x) (sym h.1) (subst (λ (d : Declarations). ValidStatement d count x) (sym h.0) v) in
      (at, (ap (λ (d : Declarations). after d x) h.0, ap (λ (n : ℕ). n + commands_in x) h.1))
  valid-append first known none count (y ∷ done) x h v = (h.0, valid-append (after first y) known (none + commands_in y) count done x h.1 v)

  -- The tokens of one more statement come last.
  tokens-append : (h : Tree) (done : List Statement) (x : Statement) → tree_tokens (with_statements h (done ++ x ∷ [])) ≡ tree_tokens (with_statements h done) ++ statement_tokens x
  tokens-append h done x =
      let a = flat_map remark_tokens h.before in
      let b = ring_tokens h.ring in
      let c = flat_map remark_tokens h.between in
      let d = noether_tokens h.noether in
      let e = flat_map statement_tokens done in
      let last : flat_map statement_tokens (done ++ x ∷ []) ≡ e ++ statement_tokens x = flat_map-append statement_tokens done (x ∷ []) ∙ ap (λ (z : List Token). e ++ z) (append-nil (statement_tokens x)) in
      ap (λ (z : List Token). a ++ (b ++ (c ++ (d ++ z)))) last
      ∙ sym (
      append_assoc a (b ++ (c ++ (d ++ e))) (statement_tokens x) ∙ ap (λ (z : List Token). a ++ z) (
      append_assoc b (c ++ (d ++ e)) (statement_tokens x) ∙ ap (λ (z : List Token). b ++ z) (append_assoc c (d ++ e) (statement_tokens x) ∙ ap (λ (z : List Token). c ++ z) (append_assoc d e (statement_tokens x)))
      )
      )

  -- A statement that is read is one of them, and less is left.
  statements_kept : (h : Tree) (y : Progress) (t : Place) (x : Statement) (u : Place) → Stated h y t → Placed t → not (is_last t.token) ≡ true → statement_item y t ≡ Ok (x, u) → (u.left < t.left) × Placed u × Stated h (advanced y x) u
  statements_kept h y t x u k placed goes e =
      let is = statement_found y.known y.count t (x, u) k.few e in
      let less = tokens_less t (statement_tokens x) u placed (AreTokens-statement x) (statement_some x) is.0 in (
        less.0,
        less.1,
        record {
          leads = subst (λ (z : List Token). Leads s z u) (sym (tokens-append h y.done x)) (Leads-then s (tree_tokens (with_statements h y.done)) t (statement_tokens x) u k.leads is.0 (AreTokens-statement x));
          valid = valid-append (first_known h.ring) y.known 0 y.count y.done x k.valid is.1;
          few = commands_fit y.known y.count x k.few is.1;
          prime = subst (λ (p : ℕ). 1 < p) (prime_kept y.known x) k.prime;
        },
      )

  -- Where no statement begins and none may end the script, the end is refused.
  stopped_caused : (known : Declarations) (count : ℕ) (done : List Statement) (c : List Token) (t : Place) (f : Refusal) → Leads s c t → BeforeStatement known count c → is_last t.token ≡ true
      → cond (nat_le 1 count && is_the_end t.token) (Ok (done, t)) (wanted {A = List Statement × Place} t whats.Statement) ≡ Err f → Caused s f
  stopped_caused known count done c t f st here last e = elim (chosen (nat_le 1 count && is_the_end t.token) _ _ _ e) [
    | inl yea ↦ absurd (never _ f yea.1)
    | inr nay ↦ refused_with s known (a_statement count) (Expected whats.Statement) c t f st here (by_token t.token last nay.0) nay.1
  ]
    where
      by_token : (i : Token) → is_last i ≡ true → (nat_le 1 count && is_the_end i) ≡ false → IsCause (kind_at i (Expected whats.Statement)) known (a_statement count) i
      by_token (word w) o k = absurd cc
      by_token (text w) o k = absurd cc
      by_token (mark m) o k = absurd cc
      by_token bad o k = absurd cc
      by_token cut o k = inl refl
      by_token end o k = inr (refl, no_more (nat_le 1 count) refl k)
        where
          no_more : (b : Bool) → nat_le 1 count ≡ b → (b && true) ≡ false → count ≡ 0
          no_more true e h = absurd cc
          no_more false e h = let less = leb-false 1 count e in omega (arith, less)

  -- The statements are refused where one of them is, or where the end comes before a command.
  pub statements_caused : (h : Tree) (y : Progress) (t : Place) (f : Refusal) → ValidRing h.ring → ValidNoether (letters_of h.ring.variables) h.noether → Stated h y t → Placed t → statements_read (suc t.left) y t ≡ Err f → Caused s f
  statements_caused h y t f ring noether k placed e =
      let end : LoopEnds Progress Statement (List Statement) (λ y i. not (is_last i)) statement_item stopped (Stated h) (Err f) =
      loop_ends Progress Statement (List Statement) (λ y i. not (is_last i)) statement_item advanced stopped read_more statements_loop (Stated h)
      (λ y t x u kept placed goes e. statements_kept h y t x u kept placed goes e) t.left y t (Err f) (omega arith) placed k e in
      let q = end.place in
      let z = end.so_far in
      let here : BeforeStatement z.known z.count (tree_tokens (with_statements h z.done)) = (with_statements h z.done, ring, noether, end.kept.valid, refl) in
      elim end.ended [
        | inl refused ↦
            statement_caused z.known z.count (tree_tokens (with_statements h z.done)) q f end.kept.prime end.kept.few (not-true (is_last q.token) refused.0) end.kept.leads here (refused.2 ∙ ap (λ (r : Refusal). Err r) (sym (err_is {A = List Statement × Place} f refused.1 refused.3)))
        | inr stopped ↦ stopped_caused z.known z.count z.done (tree_tokens (with_statements h z.done)) q f end.kept.leads here (not-false (is_last q.token) stopped.0) stopped.1
      ]
