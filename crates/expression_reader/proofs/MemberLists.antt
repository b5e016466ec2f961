-- Members: the refusal where there is no room, derivatives one by one, and the loop over members.
use Rattle.std.proofs.Common.{◌≡◌, ℕ, zero, suc, ◌+◌, ◌<◌, ◌≤◌, ◌++◌, true, false, cond, Bool, List, [], ◌∷◌, length, map, Result, Ok, Err, refl, sym, ap, subst, ◌∙◌, arith}
use Rattle.std.proofs.lemmas.List.{length-append, length-map, map-append}
use Rattle.std.proofs.lemmas.List.FromFn.{length-map-range_with_len, map-range_with_len_more}
use Rattle.std.specs.Prelude.{codes}
use Rattle.std.specs.List.{range_with_len}
use Rattle.std.proofs.lemmas.Bool.{le-ltb}
use mathlib.Core.List.{append_assoc}
use Rattle.script_grammar.specs.declared.refusal.Refusal.{Refusal}
use Rattle.script_grammar.specs.declared.refusal.What.TheVariants as whats
use Rattle.sparse_poly.specs.Poly.{Poly, Polynomial, in_variables}
use Rattle.script_grammar.specs.Tokens.{Place, next, word}
use Rattle.script_grammar.specs.Words.{is_the_mark, is_the_word}
use Rattle.script_grammar.specs.Trees.{Member, generator, jacobian, Members, only, more}
use Rattle.script_grammar.specs.Steps.{◌>>=◌, refused, wanted, mark_at}
use Rattle.script_grammar.specs.Expressions.{Declarations}
use Rattle.script_grammar.specs.Statements.{no_room, name_among, member_at, members_at, generators, count_of, no_room_kind}
use Rattle.script_grammar.specs.Meaning.{Values, variable_count, value_in, member_value, members_value}
use Rattle.expression_reader.specs.declared.stop.Stop.{Stop}
use Rattle.expression_reader.specs.Gives.{Fails, meant}
use Rattle.expression_reader.specs.Generators.{in_ring_of, member_gens, members_gens, jacobian_gens}
use Rattle.expression_reader.proofs.Loops.{meant_ok, fails_meant, fails_on}
use Rattle.expression_reader.proofs.Handed.{after_read}

-- ---- no room
-- A word for which there is no room is refused by its kind.
pub no_room_word : (known : Declarations) (t : Place) (w : List ℕ) → t.token ≡ word w → no_room {A = Member × Place} known t ≡ refused t (no_room_kind known w)
no_room_word known t w is = rw is refl

-- Where there is no room, what refuses its first token refuses the member.
pub full_refused : {B : Type 0} (g : Member → B) (known : Declarations) (count : ℕ) (t : Place) (f : Refusal) → is_the_word (codes "jacob") t.token ≡ false → count ≡ 64
    → no_room {A = Member × Place} known t ≡ Err f → meant g (member_at known count t) ≡ Err f
unfolding member_at
full_refused g known count t f here full e =
    let read : member_at known count t ≡ no_room known t = rw (here, full) refl in
    ap (meant g) (read ∙ e)

-- ---- the derivatives of a polynomial
pub jacob_reads : (known : Declarations) (count : ℕ) (t start a b c : Place) (w : List ℕ) → is_the_word (codes "jacob") t.token ≡ true → start ≡ next t.rest
    → mark_at 40 whats.Open start ≡ Ok a → name_among known.polys a ≡ Ok (w, b) → count + length known.letters ≤ 64 → mark_at 41 whats.Close b ≡ Ok c
    → member_at known count t ≡ Ok (jacobian w, c)
unfolding member_at
jacob_reads known count t start a b c w here starts opened name room closed =
    let opened' = subst (λ p. mark_at 40 whats.Open p ≡ Ok a) starts opened in
    rw (here, opened', name, le-ltb 64 (count + length known.letters) room, closed) refl

-- ---- derivatives one by one
pub jacobian_go : (v : Values) (g : ℕ → Poly) (old gens : List Polynomial) (i : ℕ) (f : Polynomial) → f ≡ in_variables (variable_count v) (g i)
    → gens ≡ old ++ in_ring_of v (map g (range_with_len 0 i)) → gens ++ f ∷ [] ≡ old ++ in_ring_of v (map g (range_with_len 0 (i + 1)))
jacobian_go v g old gens i f is so_far =
    ap (λ (l : List Polynomial). l ++ f ∷ []) so_far
    ∙ append_assoc old (in_ring_of v (map g (range_with_len 0 i))) (f ∷ [])
    ∙ ap (λ (l : List Polynomial). old ++ l)
    (ap (λ (h : Polynomial). in_ring_of v (map g (range_with_len 0 i)) ++ h ∷ []) is
    ∙ sym (map-append (in_variables (variable_count v)) (map g (range_with_len 0 i)) (g i ∷ []))
    ∙ ap (in_ring_of v) (sym (map-range_with_len_more g 0 i i (omega arith))))

-- The derivatives of a declared polynomial are the generators of jacob( ).
pub jacob_gens : (v : Values) (w : List ℕ) (f : Poly) → value_in v.polys [] w ≡ f → jacobian_gens v f ≡ member_gens v (jacobian w)
jacob_gens v w f e = ap (jacobian_gens v) (sym e)

-- There are as many derivatives as variables.
pub length_jacobian : (v : Values) (f : Poly) → length (jacobian_gens v f) ≡ variable_count v
length_jacobian v f = length-map _ (in_variables (variable_count v)) ∙ length-map-range_with_len _ 0 (variable_count v)

-- ---- members
pub gens_more : (v : Values) (ms : Members) (m : Member) → members_gens v (more ms m) ≡ members_gens v ms ++ member_gens v m
gens_more v ms m = map-append (in_variables (variable_count v)) (members_value v ms) (member_value v m)

-- A member has as many generators as the grammar counts.
count_one : (known : Declarations) (v : Values) → known.letters ≡ v.letters → (m : Member) → length (member_gens v m) ≡ generators known m
count_one known v same (generator s) = refl
count_one known v same (jacobian f) =
    length-map _ (in_variables (variable_count v)) ∙ length-map-range_with_len _ 0 (variable_count v) ∙ ap length (sym same)

-- Members have as many generators as the grammar counts.
pub count_gens : (known : Declarations) (v : Values) → known.letters ≡ v.letters → (ms : Members) → length (members_gens v ms) ≡ count_of known ms
count_gens known v same (only m) = count_one known v same m
count_gens known v same (more ms m) =
    ap length (gens_more v ms m) ∙ length-append (members_gens v ms) (member_gens v m)
    ∙ ap (λ k. k + length (member_gens v m)) (count_gens known v same ms) ∙ ap (λ k. count_of known ms + k) (count_one known v same m)

-- the loop has read the members, and what it still reads makes the whole
pub record MembersSoFar (known : Declarations) (v : Values) (whole : Result (Members × Place) Refusal) (gens : List Polynomial) (t : Place) : Type 0 where
  pub turns : ℕ
  pub tree : Members
  pub enough : t.left < turns
  pub gens_are : gens ≡ members_gens v tree
  pub reads : members_at turns known tree t ≡ whole

-- Behind a comma one more member is read.
members_step : (known : Declarations) (n : ℕ) (ms : Members) (t : Place) → is_the_mark 44 t.token ≡ true
    → members_at (suc n) known ms t ≡ (member_at known (count_of known ms) (next t.rest) >>= λ m. members_at n known (more ms m.0) m.1)
unfolding members_at
members_step known n ms t here = rw here refl

-- Members go on behind a comma, where the loop of the grammar has turns left.
members_go-at : (known : Declarations) (v : Values) (whole : Result (Members × Place) Refusal) (gens made : List Polynomial) (t u : Place)
    → known.letters ≡ v.letters → is_the_mark 44 t.token ≡ true → u.left < t.left → meant (λ m. gens ++ member_gens v m) (member_at known (length gens) (next t.rest)) ≡ Ok (made, u)
    → (n : ℕ) (ms : Members) → t.left < n → gens ≡ members_gens v ms → members_at n known ms t ≡ whole → MembersSoFar known v whole made u
members_go-at known v whole gens made t u same here shorter e zero ms enough gens_are reads = absurd (omega (arith, enough))
members_go-at known v whole gens made t u same here shorter e (suc n) ms enough gens_are reads =
    let m = meant_ok (λ m. gens ++ member_gens v m) (member_at known (length gens) (next t.rest)) made u e in
    let count : length gens ≡ count_of known ms = ap length gens_are ∙ count_gens known v same ms in
    let step = members_step known n ms t here ∙ ap (λ k. member_at known k (next t.rest) >>= λ x. members_at n known (more ms x.0) x.1) (sym count) in
    record {
      turns = n;
      tree = more ms m.0;
      enough = omega (arith, shorter, enough);
      gens_are = m.2 ∙ ap (λ (l : List Polynomial). l ++ member_gens v m.0) gens_are ∙ sym (gens_more v ms m.0);
      reads = sym (step ∙ ap (λ (r : Result (Member × Place) Refusal). r >>= λ x. members_at n known (more ms x.0) x.1) m.1) ∙ reads;
    }

-- Members go on behind a comma.
pub members_go : (known : Declarations) (v : Values) (whole : Result (Members × Place) Refusal) (gens made : List Polynomial) (t u start : Place)
    → known.letters ≡ v.letters → is_the_mark 44 t.token ≡ true → u.left < t.left → start ≡ next t.rest
    → meant (λ m. gens ++ member_gens v m) (member_at known (length gens) start) ≡ Ok (made, u) → MembersSoFar known v whole gens t → MembersSoFar known v whole made u
members_go known v whole gens made t u start same here shorter starts e s =
    members_go-at known v whole gens made t u same here shorter (subst (λ p. meant (λ m. gens ++ member_gens v m) (member_at known (length gens) p) ≡ Ok (made, u)) starts e) s.turns s.tree s.enough s.gens_are s.reads

-- What refuses the member behind a comma refuses them all, where the loop of the grammar has turns left.
members_fail-at : (known : Declarations) (v : Values) (whole : Result (Members × Place) Refusal) (gens : List Polynomial) (t : Place) (stop : Stop)
    → known.letters ≡ v.letters → is_the_mark 44 t.token ≡ true → Fails stop (meant (λ m. gens ++ member_gens v m) (member_at known (length gens) (next t.rest)))
    → (n : ℕ) (ms : Members) → t.left < n → gens ≡ members_gens v ms → members_at n known ms t ≡ whole → Fails stop (meant (members_gens v) whole)
members_fail-at known v whole gens t stop same here h zero ms enough gens_are reads = absurd (omega (arith, enough))
members_fail-at known v whole gens t stop same here h (suc n) ms enough gens_are reads =
    let count : length gens ≡ count_of known ms = ap length gens_are ∙ count_gens known v same ms in
    let f = λ (x : Member × Place). members_at n known (more ms x.0) x.1 in
    let step : (member_at known (length gens) (next t.rest) >>= f) ≡ whole = ap (λ k. member_at known k (next t.rest) >>= f) count ∙ sym (members_step known n ms t here) ∙ reads in
    fails_on (λ x. Ok (members_gens v x.0, x.1)) stop whole
    (subst (λ w. Fails stop w) step (fails_on f stop (member_at known (length gens) (next t.rest)) (fails_meant (λ m. gens ++ member_gens v m) stop (member_at known (length gens) (next t.rest)) h)))

-- What refuses the member behind a comma refuses them all.
pub members_fail : (known : Declarations) (v : Values) (whole : Result (Members × Place) Refusal) (gens : List Polynomial) (t start : Place) (stop : Stop)
    → known.letters ≡ v.letters → is_the_mark 44 t.token ≡ true → start ≡ next t.rest
    → Fails stop (meant (λ m. gens ++ member_gens v m) (member_at known (length gens) start)) → MembersSoFar known v whole gens t → Fails stop (meant (members_gens v) whole)
members_fail known v whole gens t start stop same here starts h s =
    members_fail-at known v whole gens t stop same here (subst (λ p. Fails stop (meant (λ m. gens ++ member_gens v m) (member_at known (length gens) p))) starts h) s.turns s.tree s.enough s.gens_are s.reads

-- behind the last member only ; may stand
members_stop-by : (ms : Members) (t : Place) (b : Bool) → cond {A = Result (Members × Place) Refusal} b (Ok (ms, next t.rest)) (wanted t whats.Operator)
    ≡ (cond {A = Result Place Refusal} b (Ok (next t.rest)) (wanted t whats.Operator) >>= λ after. Ok (ms, after))
members_stop-by ms t true = refl
members_stop-by ms t false = refl

-- Where no comma stands, the ; must.
members_stop : (known : Declarations) (n : ℕ) (ms : Members) (t : Place) → is_the_mark 44 t.token ≡ false → members_at (suc n) known ms t ≡ (mark_at 59 whats.Operator t >>= λ after. Ok (ms, after))
unfolding members_at mark_at
members_stop known n ms t here =
    rw here (members_stop-by ms t (is_the_mark 59 t.token))

-- The ; ends the members, or its refusal does, where the loop of the grammar has turns left.
members_end-at : (known : Declarations) (v : Values) (whole : Result (Members × Place) Refusal) (gens : List Polynomial) (t : Place) (mark : Result Place Refusal)
    → is_the_mark 44 t.token ≡ false → mark_at 59 whats.Operator t ≡ mark → (n : ℕ) (ms : Members) → t.left < n → gens ≡ members_gens v ms → members_at n known ms t ≡ whole
    → meant (members_gens v) whole ≡ (mark >>= λ after. Ok (gens, after))
members_end-at known v whole gens t mark here closed zero ms enough gens_are reads = absurd (omega (arith, enough))
members_end-at known v whole gens t mark here closed (suc n) ms enough gens_are reads =
    ap (meant (members_gens v)) (sym reads ∙ members_stop known n ms t here)
    ∙ after_read (members_gens v) ms gens gens_are (mark_at 59 whats.Operator t)
    ∙ ap (λ (r : Result Place Refusal). r >>= λ after. Ok (gens, after)) closed

-- The ; ends the members, or its refusal does.
pub members_end : (known : Declarations) (v : Values) (whole : Result (Members × Place) Refusal) (gens : List Polynomial) (t : Place) (mark : Result Place Refusal)
    → is_the_mark 44 t.token ≡ false → mark_at 59 whats.Operator t ≡ mark → MembersSoFar known v whole gens t → meant (members_gens v) whole ≡ (mark >>= λ after. Ok (gens, after))
members_end known v whole gens t mark here closed s = members_end-at known v whole gens t mark here closed s.turns s.tree s.enough s.gens_are s.reads
