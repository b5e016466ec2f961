-- Each refusal in the statement of a polynomial or an ideal has its cause.
-- The members of an ideal one by one and with their loop; behind each, what may come is told by the member.
use Rattle.script_grammar.specs.declared.refusal.ReadKind.{ReadKind}
use Rattle.script_grammar.specs.Causes.{IsCause}
use Rattle.std.proofs.Common.{◌≡◌, ℕ, suc, ◌+◌, ◌≤◌, ◌<◌, true, false, cond, not, ◌||◌, eqb, List, [], ◌∷◌, ◌++◌, length, Result, Ok, Err, refl, sym, ap, subst, ◌∙◌, ◌⊎◌, inl, inr, arith, nat_lt, append_assoc}
use Rattle.std.proofs.lemmas.Bool.{eqb-true, eqb-false, ltb-true, ltb-false, or_cases, or_parts, not-true, not-false}
use Rattle.std.specs.Prelude.{codes}
use Rattle.script_grammar.specs.declared.refusal.Refusal.{Refusal}
use Rattle.script_grammar.specs.declared.refusal.ReadKind.TheVariants.{Expected, UnknownName, ExponentTooLarge, TooManyGenerators}
use Rattle.script_grammar.specs.declared.refusal.What.TheVariants as whats
use Rattle.script_grammar.specs.Tokens.{Token, Place, next, word, mark}
use Rattle.script_grammar.specs.Words.{is_numeral, is_one_of, keywords, is_short, has_large, is_the_mark, is_the_word, is_word, word_of}
use Rattle.script_grammar.specs.Trees.{sum_tokens, Member, generator, jacobian, member_tokens, Members, only, more, members_tokens, Statement, poly, ideal, one}
use Rattle.script_grammar.specs.Steps.{◌>>=◌, refused, kind_at, mark_at}
use Rattle.script_grammar.specs.Expressions.{Declarations, expression_at}
use Rattle.script_grammar.specs.Statements.{name_among, poly_at, no_room as no_room_at, count_of, member_at, members_at, ideal_at, no_room_kind, members_from}
use Rattle.script_grammar.specs.Valid.{Stand, IsNew, IsOneOf, ValidMembers}
use Rattle.script_grammar.specs.Places.{Placed}
use Rattle.script_grammar.specs.First.{refusal_at}
use Rattle.script_grammar.specs.Spots.{behind_power, behind_jacobian, no_room, Behind, BeforeStatement, BeforeMember, BeforeArgument, of_again, of_jacob, Here, of_new_name, of_argument, of_end, of_jacobian}
use Rattle.script_grammar.proofs.Places.{next_placed, stand_placed, behind_mark}
use Rattle.script_grammar.proofs.Steps.{ok_is, bind_ok, bind_err, chosen, went_on, err_is, never, mark_is, word_is}
use Rattle.script_grammar.proofs.ReadExpressionsAreValid.{expression_found}
use Rattle.script_grammar.proofs.StepsBehindRead.{mark_step, name_among_step}
use Rattle.script_grammar.proofs.ReadIdealsAreValid.{member_found, no_room_never}
use Rattle.script_grammar.proofs.TreeTokens.{AreTokens-sum, AreTokens-member}
use Rattle.script_grammar.proofs.IdealsByTokens.{comma_member, last_member, more_members, members_loop}
use Rattle.script_grammar.proofs.LoopEnds.{LoopEnds, loop_ends}
use Rattle.script_grammar.proofs.CauseSteps.{Leads, Leads-then, stand_behind, Caused, refused_here, behind_on, behind_first, mark_or}
use Rattle.script_grammar.proofs.SumCauses.{expression_ended}
use Rattle.script_grammar.proofs.SumRefusals.{sum_in_script}
use Rattle.script_grammar.proofs.NameCauses.{new_name_or, name_among_or, argument_or}

-- what is read behind the name in jacob( )
abbrev jacob_on : Declarations → ℕ → Place → List ℕ × Place → Result (Member × Place) Refusal
jacob_on known gens t name = cond (nat_lt 64 (gens + length known.letters)) (refused t TooManyGenerators) (mark_at 41 whats.Close name.1 >>= λ closed. Ok (jacobian name.0, closed))

-- the statement of an ideal from its members
abbrev ideal_of : List ℕ → Members × Place → Result (Statement × Place) Refusal
ideal_of name members = Ok (ideal name members.0, members.1)

module _ (s : Place) where
  -- Behind the expression of a polynomial, a token that is neither an operator nor the ; is refused.
  last_caused : {B : Type 0} (known : Declarations) (c : List Token) (t : Place) (f : Refusal) (made : Place → B) → Leads s c t → Here known (behind_power (59 ∷ [])) c
      → (is_the_mark 43 t.token ≡ false) × (is_the_mark 45 t.token ≡ false) × (is_the_mark 42 t.token ≡ false) → (mark_at 59 whats.Operator t >>= λ after. Ok (made after)) ≡ Err f → Caused s f
  unfolding mark_at
  last_caused known c t f made st here ended e = elim (bind_err (mark_at 59 whats.Operator t) _ f e) [
    | inl early ↦ elim (chosen (is_the_mark 59 t.token) _ _ _ early) [
      | inl yea ↦ absurd (never _ f yea.1)
      | inr nay ↦ refused_here s known (behind_power (59 ∷ [])) (Expected whats.Operator) c t f st here (inl refl) (inr refl) (λ i. (i, (ended.0, ended.1, ended.2, rw (nay.0) refl))) nay.1
    ]
    | inr late ↦ absurd (never _ f late.2)
  ]

  -- The statement of a polynomial is refused where its name is, its expression, or the end behind that.
  pub poly_caused : (known : Declarations) (count : ℕ) (c : List Token) (t : Place) (f : Refusal) → 1 < known.prime → Leads s c t → Behind (BeforeStatement known count) (one (word (codes "poly"))) c → poly_at known t ≡ Err f → Caused s f
  unfolding poly_at
  poly_caused known count c t f prime st b e = elim (new_name_or s known c t _ f st (count, codes "poly", inl refl, b) e) [
    | inl done ↦ done
    | inr n ↦
        let b-1 = behind_on _ c (one (word n.0)) b in
        elim (mark_or s known 61 whats.Equals _ _ _ f n.2 (of_new_name count (codes "poly") n.0 _ (inl refl) n.1 b-1) (λ no. (refl, no)) n.3) [
          | inl done ↦ done
          | inr a ↦
              let b-2 = behind_on _ _ (one (mark 61)) b-1 in
              let start = next (next t.rest).rest in
              let d = (c ++ one (word n.0)) ++ one (mark 61) in
              elim (bind_err (expression_at known start) _ f a.1) [
                | inl early ↦ sum_in_script s known d start f prime a.0 (next_placed (next t.rest).rest) (inl (count, n.0, n.1, b-2)) early
                | inr late ↦
                    let x = late.0 in
                    let is = expression_found known start x late.1 in
                    let ended = expression_ended known start x.0 x.1 (next_placed (next t.rest).rest) late.1 in
                    last_caused known (d ++ sum_tokens x.0) x.1 f (λ after. (poly n.0 x.0, after)) (Leads-then s d start (sum_tokens x.0) x.1 a.0 is.0 (AreTokens-sum x.0))
                    (inr (inl (count, n.0, x.0, refl, n.1, is.1, behind_on _ d (sum_tokens x.0) b-2))) ended late.2
              ]
        ]
  ]

  -- ---- members
  -- Where there is no room for a member, a word is refused for that, or for what an operand is refused for.
  no_room_word : (known : Declarations) (i : Token) (kind : ReadKind) → is_word i ≡ true → no_room_kind known (word_of i) ≡ kind → IsCause kind known no_room i
  no_room_word known i kind is e =
      let w = word_of i in
      let by = λ (k : ReadKind) (same : k ≡ kind) (h : IsCause k known no_room i). subst (λ (r : ReadKind). IsCause r known no_room i) same h in
      elim (chosen (is_numeral w) _ _ _ e) [
        | inl numeral ↦ by TooManyGenerators numeral.1 (inl (is, inl numeral.0))
        | inr other ↦ elim (chosen (is_one_of keywords w) _ _ _ other.1) [
          | inl keyword ↦ by UnknownName keyword.1 (is, inl keyword.0)
          | inr free ↦ elim (chosen (is_one_of known.polys w) _ _ _ free.1) [
            | inl named ↦ by TooManyGenerators named.1 (inl (is, inr (free.0, inl named.0)))
            | inr strange ↦ elim (chosen (not (is_short known.letters w)) _ _ _ strange.1) [
              | inl long ↦ by UnknownName long.1 (is, inr (other.0, strange.0, not-true (is_short known.letters w) long.0))
              | inr short ↦
                  let fits = not-false (is_short known.letters w) short.0 in
                  elim (chosen (has_large w) _ _ _ short.1) [
                    | inl large ↦ by ExponentTooLarge large.1 (is, (free.0, other.0, strange.0, fits, large.0))
                    | inr small ↦ by TooManyGenerators small.1 (inl (is, inr (free.0, inr (fits, small.0))))
                  ]
            ]
          ]
        ]
      ]

  -- Where there is no room for a member, its first token is refused for that, or for what an operand is refused for.
  no_room_caused : {A : Type 0} (known : Declarations) (c : List Token) (t : Place) (f : Refusal) → Leads s c t → BeforeMember known 64 c → no_room_at {A = A} known t ≡ Err f → Caused s f
  no_room_caused known c t f st here e =
      elim (chosen (is_word t.token) _ _ _ e) [
        | inl is ↦ refused_here s known no_room (no_room_kind known (word_of t.token)) c t f st here (inl refl) (inr refl) (λ i. no_room_word known t.token (no_room_kind known (word_of t.token)) is.0 refl) is.1
        | inr no_word ↦ elim (chosen (is_the_mark 40 t.token || (is_the_mark 43 t.token || is_the_mark 45 t.token)) _ _ _ no_word.1) [
          | inl begins ↦ refused_here s known no_room TooManyGenerators c t f st here (inl refl) (inr refl) (λ i. inr (one_of_three begins.0)) begins.1
          | inr none ↦
              let p = or_parts (is_the_mark 40 t.token) (is_the_mark 43 t.token || is_the_mark 45 t.token) none.0 in
              let q = or_parts (is_the_mark 43 t.token) (is_the_mark 45 t.token) p.1 in
              refused_here s known no_room (Expected whats.Operand) c t f st here (inl refl) (inr refl) (λ i. (i, (no_word.0, p.0, q.0, q.1))) none.1
        ]
      ]
    where
      one_of_three : (is_the_mark 40 t.token || (is_the_mark 43 t.token || is_the_mark 45 t.token)) ≡ true → (t.token ≡ mark 40) ⊎ (t.token ≡ mark 43) ⊎ (t.token ≡ mark 45)
      one_of_three h = elim (or_cases (is_the_mark 40 t.token) (is_the_mark 43 t.token || is_the_mark 45 t.token) h) [
        | inl a ↦ inl (mark_is 40 t.token a)
        | inr b ↦ elim (or_cases (is_the_mark 43 t.token) (is_the_mark 45 t.token) b) [ inl a ↦ inr (inl (mark_is 43 t.token a)) | inr a ↦ inr (inr (mark_is 45 t.token a)) ]
      ]

  -- The generators of jacob( ) are refused at its word where there is no room for them.
  jacob_late : {A : Type 0} (known : Declarations) (gens : ℕ) (c : List Token) (t : Place) (name : List ℕ) (u : Place) (f : Refusal) → Leads s c t → BeforeMember known gens c → Stand t (word (codes "jacob") ∷ mark 40 ∷ one (word name)) u
      → IsOneOf known.polys name → 64 < gens + length known.letters → refused {A = A} t TooManyGenerators ≡ Err f → Caused s f
  jacob_late {A} known gens c t name u f st here stand among full e = record {
    before = c;
    place = t;
    kind = TooManyGenerators;
    stand = st;
    is = sym (err_is {A = A} (refusal_at t (kind_at t.token TooManyGenerators)) f e) ∙ ap (λ (i : Token). refusal_at t (kind_at i TooManyGenerators)) stand.0;
    cause = (known, inr (gens, name, u, here, stand, among, full));
  }

  -- The member jacob( ) is refused where a part of it is, or where there is no room for its generators.
  jacob_caused : (known : Declarations) (gens : ℕ) (c : List Token) (t : Place) (f : Refusal) → Leads s c t → BeforeMember known gens c → t.token ≡ word (codes "jacob")
      → (mark_at 40 whats.Open (next t.rest) >>= λ opened. name_among known.polys opened >>= jacob_on known gens t) ≡ Err f
      → Caused s f
  jacob_caused known gens c t f st here is e =
      let w = word (codes "jacob") in
      let b : Behind (BeforeMember known gens) (one w) (c ++ one w) = behind_first c (one w) here in
      let may : BeforeArgument known known.polys [] (c ++ one w) = of_jacob gens _ b in
      let st-1 = Leads-then s c t (one w) (next t.rest) st (is, refl) (tt, tt) in
      elim (mark_or s known 40 whats.Open _ _ _ f st-1 (of_argument known.polys [] _ may) (λ no. (refl, no)) e) [
        | inl done ↦ done
        | inr a ↦ elim (name_among_or s known known.polys _ _ _ f a.0 ([], behind_first (c ++ one w) (one (mark 40)) may) a.1) [
          | inl done ↦ done
          | inr n ↦
              let u = next (next (next t.rest).rest).rest in
              let b-2 = behind_on _ _ (one (word n.0)) (behind_on _ _ (one (mark 40)) b) in
              let all : ((c ++ one w) ++ one (mark 40)) ++ one (word n.0) ≡ c ++ (w ∷ mark 40 ∷ one (word n.0)) = append_assoc (c ++ one w) (one (mark 40)) (one (word n.0)) ∙ append_assoc c (one w) (mark 40 ∷ one (word n.0)) in
              elim (chosen (nat_lt 64 (gens + length known.letters)) _ _ _ n.3) [
                | inl full ↦ jacob_late known gens c t n.0 u f st here (stand_behind s c t (word (codes "jacob") ∷ mark 40 ∷ one (word n.0)) u st.0 (subst (λ (x : List Token). Stand s x u) all n.2.0)) n.1 (ltb-true 64 (gens + length known.letters) full.0) full.1
                | inr room ↦ elim (mark_or s known 41 whats.Close _ _ _ f n.2 (of_jacobian gens n.0 _ (ltb-false 64 (gens + length known.letters) room.0) n.1 b-2) (λ no. (refl, no)) room.1) [
                  | inl done ↦ done
                  | inr all ↦ absurd (never _ f all.1)
                ]
              ]
        ]
      ]

  -- what stands behind a member: what may come behind an expression, where no operator goes on with it, or behind jacob( )
  abbrev BehindMember : Declarations → List Token → Place → Type 0
  BehindMember known c t = (Here known (behind_power (44 ∷ 59 ∷ [])) c × (is_the_mark 43 t.token ≡ false) × (is_the_mark 45 t.token ≡ false) × (is_the_mark 42 t.token ≡ false)) ⊎ Here known behind_jacobian c

  -- A member is refused where its jacob( ) is, where there is no room, or where its expression is.
  member_caused : (known : Declarations) (gens : ℕ) (c : List Token) (t : Place) (f : Refusal) → 1 < known.prime → gens ≤ 64 → Leads s c t → Placed t → BeforeMember known gens c → member_at known gens t ≡ Err f → Caused s f
  unfolding member_at
  member_caused known gens c t f prime few st placed here e = elim (chosen (is_the_word (codes "jacob") t.token) _ _ _ e) [
    | inl yea ↦ jacob_caused known gens c t f st here (word_is (codes "jacob") t.token yea.0) yea.1
    | inr nay ↦ elim (chosen (eqb gens 64) _ _ _ nay.1) [
      | inl full ↦ no_room_caused known c t f st (subst (λ (n : ℕ). BeforeMember known n c) (eqb-true gens 64 full.0) here) full.1
      | inr room ↦
          let less : gens < 64 = omega (arith, few, eqb-false gens 64 room.0) in
          elim (bind_err (expression_at known t) _ f room.1) [ inl early ↦ sum_in_script s known c t f prime st placed (inr (gens, less, here)) early | inr late ↦ absurd (never _ f late.2) ]
    ]
  ]

  -- Behind a member that is read stands what may come there.
  member_behind : (known : Declarations) (gens : ℕ) (c : List Token) (t : Place) (x : Member) (u : Place) → gens ≤ 64 → Placed t → BeforeMember known gens c → member_at known gens t ≡ Ok (x, u) → BehindMember known (c ++ member_tokens x) u
  unfolding member_at
  member_behind known gens c t x u few placed here e = elim (chosen (is_the_word (codes "jacob") t.token) _ _ _ e) [
    | inl yea ↦
        let opened = mark_step _ _ _ _ _ yea.1 in
        let name = name_among_step _ _ _ _ opened.1 in
        let g = went_on (nat_lt 64 (gens + length known.letters)) _ _ (x, u) name.3 in
        let closed = mark_step _ _ _ _ _ g.1 in
        subst (λ (q : Member × Place). BehindMember known (c ++ member_tokens q.0) q.1) (ok_is _ (x, u) closed.1) (inr (gens, name.0, ltb-false 64 _ g.0, name.2, (c, here, refl)))
    | inr nay ↦ elim (chosen (eqb gens 64) _ _ _ nay.1) [
      | inl full ↦ absurd (no_room_never _ known t (x, u) full.1)
      | inr room ↦
          let less : gens < 64 = omega (arith, few, eqb-false gens 64 room.0) in
          let a = bind_ok _ _ _ room.1 in
          let is = expression_found known t a.0 a.1 in
          let ended = expression_ended known t a.0.0 a.0.1 placed a.1 in
          subst (λ (q : Member × Place). BehindMember known (c ++ member_tokens q.0) q.1) (ok_is (generator a.0.0, a.0.1) (x, u) a.2)
          (inl (inr (inr (gens, a.0.0, refl, less, is.1, (c, here, refl))), ended.0, ended.1, ended.2))
    ]
  ]

  -- ---- the loop over members
  -- members that lead from the start to a place, behind the = that ends c
  record Membered (known : Declarations) (c : List Token) (ms : Members) (t : Place) : Type 0 where
    leads : Leads s (c ++ members_tokens ms) t
    valid : ValidMembers known ms
    few : count_of known ms ≤ 64
    behind : BehindMember known (c ++ members_tokens ms) t

  -- the statement of an ideal up to its =
  abbrev IdealBegins : Declarations → List Token → Type 0
  IdealBegins known c = (count : ℕ) × (name : List ℕ) × IsNew known name × Behind (BeforeStatement known count) (word (codes "ideal") ∷ word name ∷ one (mark 61)) c

  -- Behind a comma, one more member must stand.
  member_comes : (known : Declarations) (c : List Token) (ms : Members) (t : Place) → IdealBegins known c → Membered known c ms t → BeforeMember known (count_of known ms) ((c ++ members_tokens ms) ++ one (mark 44))
  member_comes known c ms t b k =
      (b.0, b.1, b.2, inr (ms, k.valid, k.few, refl, subst (λ (x : List Token). Behind (BeforeStatement known b.0) (word (codes "ideal") ∷ word b.1 ∷ mark 61 ∷ (members_tokens ms ++ one (mark 44))) x) (sym (append_assoc c (members_tokens ms) (one (mark 44)))) (behind_on _ c (members_tokens ms ++ one (mark 44)) b.3)))

  -- A member that is read behind a comma is one of them, and less is left.
  members_kept : (known : Declarations) (c : List Token) (ms : Members) (t : Place) (m : Member) (u : Place) → IdealBegins known c → Membered known c ms t → Placed t → is_the_mark 44 t.token ≡ true → member_at known (count_of known ms) (next t.rest) ≡ Ok (m, u)
      → (u.left < t.left) × Placed u × Membered known c (more ms m) u
  members_kept known c ms t m u b k placed comma e =
      let read = c ++ members_tokens ms in
      let is = member_found known (count_of known ms) (next t.rest) (m, u) k.few e in
      let here = mark_is 44 t.token comma in
      let less = behind_mark t 44 (member_tokens m) u placed here is.stand in
      let same : read ++ (mark 44 ∷ member_tokens m) ≡ c ++ (members_tokens ms ++ (mark 44 ∷ member_tokens m)) = append_assoc c (members_tokens ms) (mark 44 ∷ member_tokens m) in
      let behind = member_behind known (count_of known ms) (read ++ one (mark 44)) (next t.rest) m u k.few (next_placed t.rest) (member_comes known c ms t b k) e in (
        less.0,
        less.1,
        record {
          leads = subst (λ (x : List Token). Leads s x u) same (Leads-then s read t (mark 44 ∷ member_tokens m) u k.leads (here, is.stand) (tt, AreTokens-member m));
          valid = (k.valid, is.valid);
          few = is.fits;
          behind = subst (λ (x : List Token). BehindMember known x u) (append_assoc read (one (mark 44)) (member_tokens m) ∙ same) behind;
        },
      )

  -- What stands behind a member and neither is a comma nor the ; is refused.
  member_end : {A : Type 0} (known : Declarations) (c : List Token) (t : Place) (f : Refusal) → Leads s c t → BehindMember known c t → is_the_mark 44 t.token ≡ false → is_the_mark 59 t.token ≡ false → refused {A = A} t (Expected whats.Operator) ≡ Err f → Caused s f
  member_end known c t f st (inl h) comma last e = refused_here s known (behind_power (44 ∷ 59 ∷ [])) (Expected whats.Operator) c t f st h.0 (inl refl) (inr refl) (λ i. (i, (h.1, h.2, h.3, rw (comma, last) refl))) e
  member_end known c t f st (inr h) comma last e = refused_here s known behind_jacobian (Expected whats.Operator) c t f st h (inl refl) (inr refl) (λ i. (i, (comma, last))) e

  -- Members are refused where one of them is, or what stands behind one.
  members_caused : (known : Declarations) (c : List Token) (ms : Members) (t : Place) (f : Refusal) → 1 < known.prime → IdealBegins known c → Membered known c ms t → Placed t → members_at (suc t.left) known ms t ≡ Err f → Caused s f
  members_caused known c ms t f prime b k placed e =
      let end : LoopEnds Members Member Members (λ y i. is_the_mark 44 i) (comma_member known) last_member (Membered known c) (Err f) =
      loop_ends Members Member Members (λ y i. is_the_mark 44 i) (comma_member known) more last_member (more_members known) (members_loop known) (Membered known c)
      (λ y t m u kept placed goes e. members_kept known c y t m u b kept placed goes e) t.left ms t (Err f) (omega arith) placed k e in
      let q = end.place in
      let read = c ++ members_tokens end.so_far in
      elim end.ended [
        | inl refused ↦
            member_caused known (count_of known end.so_far) (read ++ one (mark 44)) (next q.rest) f prime end.kept.few (Leads-then s read q (one (mark 44)) (next q.rest) end.kept.leads (mark_is 44 q.token refused.0, refl) (tt, tt)) (next_placed q.rest)
            (member_comes known c end.so_far q b end.kept) (refused.2 ∙ ap (λ (z : Refusal). Err z) (sym (err_is {A = Members × Place} f refused.1 refused.3)))
        | inr stopped ↦ elim (chosen (is_the_mark 59 q.token) _ _ _ stopped.1) [
          | inl closed ↦ absurd (never _ f closed.1)
          | inr none ↦ member_end known read q f end.kept.leads end.kept.behind stopped.0 none.0 none.1
        ]
      ]

  -- An ideal is refused behind its = where its first member is, or one behind it.
  ideal_members_caused : (known : Declarations) (name : List ℕ) (c : List Token) (t : Place) (f : Refusal) → 1 < known.prime → IdealBegins known c → Leads s c t → Placed t
      → (members_from known t >>= ideal_of name) ≡ Err f → Caused s f
  ideal_members_caused known name c t f prime b st placed e =
      let here : BeforeMember known 0 c = (b.0, b.1, b.2, inl (b.3, refl)) in
      elim (bind_err (members_from known t) (ideal_of name) f e) [
        | inr all ↦ absurd (never _ f all.2)
        | inl inside ↦ elim (bind_err (member_at known 0 t) _ f inside) [
          | inl early ↦ member_caused known 0 c t f prime (omega arith) st placed here early
          | inr late ↦
              let m = late.0 in
              let is = member_found known 0 t m (omega arith) late.1 in
              let there = stand_placed t (member_tokens m.0) m.1 placed is.stand in
              let k : Membered known c (only m.0) m.1 = record { leads = Leads-then s c t (member_tokens m.0) m.1 st is.stand (AreTokens-member m.0); valid = is.valid; few = omega (arith, is.fits); behind = member_behind known 0 c t m.0 m.1 (omega arith) placed here late.1 } in
              members_caused known c (only m.0) m.1 f prime b k there.1 late.2
        ]
      ]

  -- The statement of an ideal is refused where its name is, the = behind it, std( ) with its end, or a member.
  pub ideal_caused : (known : Declarations) (count : ℕ) (c : List Token) (t : Place) (f : Refusal) → 1 < known.prime → Leads s c t → Behind (BeforeStatement known count) (one (word (codes "ideal"))) c → ideal_at known t ≡ Err f → Caused s f
  unfolding ideal_at
  ideal_caused known count c t f prime st b e = elim (new_name_or s known c t _ f st (count, codes "ideal", inr refl, b) e) [
    | inl done ↦ done
    | inr n ↦
        let b-1 = behind_on _ c (one (word n.0)) b in
        elim (mark_or s known 61 whats.Equals _ _ _ f n.2 (of_new_name count (codes "ideal") n.0 _ (inr refl) n.1 b-1) (λ no. (refl, no)) n.3) [
          | inl done ↦ done
          | inr a ↦
              let b-2 = behind_on _ _ (one (mark 61)) b-1 in
              let start = next (next t.rest).rest in
              let std = word (codes "std") in
              let d = (c ++ one (word n.0)) ++ one (mark 61) in
              elim (chosen (is_the_word (codes "std") start.token) _ _ _ a.1) [
                | inl yea ↦
                    let st-3 = Leads-then s d start (one std) (next start.rest) a.0 (word_is (codes "std") start.token yea.0, refl) (tt, tt) in
                    let may : BeforeArgument known known.ideals (one (mark 59)) (d ++ one std) = of_again count n.0 _ n.1 (behind_on _ d (one std) b-2) in
                    elim (argument_or s known known.ideals (mark 59) [] _ _ _ f st-3 may yea.1) [
                      | inl done ↦ done
                      | inr r ↦ elim (mark_or s known 59 whats.Semicolon _ r.2 _ f r.3 (of_end known.ideals r.0 (mark 59) (mark 59) [] (one (mark 41)) [] _ r.1 refl r.4) (λ no. (refl, no)) r.5) [
                        | inl done ↦ done
                        | inr all ↦ absurd (never _ f all.1)
                      ]
                    ]
                | inr nay ↦ ideal_members_caused known n.0 d start f prime (count, n.0, n.1, b-2) a.0 (next_placed (next t.rest).rest) nay.1
              ]
        ]
  ]
