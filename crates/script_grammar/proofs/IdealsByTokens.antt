-- Names, and what declares them: polys and ideals with their members.
-- The member of jacob is tested for its room at its first token, once its name was read.
use Rattle.std.proofs.Common.{◌≡◌, ℕ, zero, suc, ◌+◌, ◌<◌, Bool, true, false, cond, not, ◌&&◌, ◌||◌, eqb, List, ◌∷◌, ◌++◌, length, Option, Some, None, Result, Ok, refl, sym, ap, subst, ◌∙◌, nat_lt, append_assoc}
use Rattle.std.specs.Prelude.{codes, nat_le}
use Rattle.script_grammar.specs.declared.refusal.Refusal.{Refusal}
use Rattle.script_grammar.specs.declared.refusal.ReadKind.{ReadKind}
use Rattle.script_grammar.specs.declared.refusal.What.TheVariants as whats
use Rattle.script_grammar.specs.declared.refusal.ReadKind.TheVariants.{Expected, NameClash, TooManyNames, UnknownName, ExponentTooLarge, TooManyGenerators}
use Rattle.script_grammar.specs.Tokens.{Token, Place, next, mark, word}
use Rattle.script_grammar.specs.Words.{is_numeral, is_one_of, keywords, is_named, is_short, has_large, is_the_mark, is_the_word, is_word, word_of}
use Rattle.script_grammar.specs.Trees.{number, Sum, plain, single, bare, sum_tokens, Member, generator, jacobian, member_tokens, Members, only, more, members_tokens, Statement, poly, again, ideal, statement_tokens, one, enclosed}
use Rattle.script_grammar.specs.Steps.{◌>>=◌, refused, wanted, mark_at}
use Rattle.script_grammar.specs.Expressions.{Declarations, expression_at}
use Rattle.script_grammar.specs.Statements.{clashes, new_name_at, name_among, argument_at, poly_at, no_room, member_at, count_of, members_at, ideal_at, no_room_kind, members_from}
use Rattle.script_grammar.specs.Formed.{FormedSum, FormedMember, FormedMembers, FormedStatement}
use Rattle.script_grammar.specs.First.{IsLate}
use Rattle.script_grammar.proofs.Steps.{mark_is, word_is}
use Rattle.script_grammar.proofs.ByTokens.{Reader, Local, local_done, local_refuse, local_to, local_same, local_value, local_if, local_cases}
use Rattle.script_grammar.proofs.ByTokensInTurn.{local_then, local_mark, local_map, local_behind, bind_assoc}
use Rattle.script_grammar.proofs.LoopsByTokens.{NotEmpty, IsLoop, local_loop}
use Rattle.script_grammar.proofs.LateRefusals.{LateAt, tested, late_test, late_split}
use Rattle.script_grammar.proofs.OperandsByTokens.{nil}
use Rattle.script_grammar.proofs.ExpressionsByTokens.{no_mark, expression_local}
use Rattle.script_grammar.proofs.RingByTokens.{a_name, SpellsName, name_spelled}
use Rattle.script_grammar.proofs.FormedValid.{sum_formed}

-- A name that is declared is read, or refused, by its token.
new_name_local : {n : ℕ} {W : Token → Type 0} (known : Declarations) → Local IsLate (List ℕ) n W (new_name_at known) SpellsName
unfolding new_name_at
new_name_local known =
    let some : (w : List ℕ) × (tokens : List Token) × SpellsName w tokens = (a_name, one (word a_name), (refl, refl)) in
    local_if (λ i. not (is_word i && is_named (word_of i))) (local_refuse (Expected whats.Name) some)
    (local_if (λ i. clashes known (word_of i)) (local_refuse NameClash some)
    (local_if (λ i. nat_le 64 (length known.polys + length known.ideals)) (local_refuse TooManyNames some) (local_value word_of some (λ i w. name_spelled i w.0.0.1))))

-- The name of something declared is read, or refused, by its token.
pub name_among_local : {n : ℕ} {W : Token → Type 0} (names : List (List ℕ)) → Local IsLate (List ℕ) n W (name_among names) SpellsName
unfolding name_among
name_among_local names =
    let some : (w : List ℕ) × (tokens : List Token) × SpellsName w tokens = (a_name, one (word a_name), (refl, refl)) in
    local_if (λ i. not (is_word i && is_named (word_of i))) (local_refuse (Expected whats.Argument) some)
    (local_if (λ i. is_one_of names (word_of i)) (local_value word_of some (λ i w. name_spelled i w.0.1)) (local_refuse UnknownName some))

abbrev pub SpellsArgument : List ℕ → List Token → Type 0
SpellsArgument w tokens = (enclosed (one (word w)) ≡ tokens) × (is_named w ≡ true)

-- A name in parentheses is read, or refused, by its tokens.
pub argument_local : {n : ℕ} {W : Token → Type 0} (names : List (List ℕ)) → Local IsLate (List ℕ) n W (argument_at names) SpellsArgument
unfolding argument_at
argument_local names =
    local_mark 40 whats.Open (local_then _ (name_among_local names) (λ w a l. local_mark 41 whats.Close (local_done w (ap (λ (z : List Token). mark 40 ∷ (z ++ one (mark 41))) l.0, l.1))))

abbrev FormedSpells : Sum → List Token → Type 0
FormedSpells x tokens = (sum_tokens x ≡ tokens) × FormedSum x

-- An expression is read, or refused, by its tokens, and those before a refusal begin a formed one.
formed_local : {n : ℕ} {W : Token → Type 0} (known : Declarations) → 1 < known.prime → Local IsLate Sum n W (expression_at known) FormedSpells
formed_local known prime = local_to (λ x a l. (l.0, sum_formed known 32 x l.1)) (expression_local known prime)

-- a statement behind its word
abbrev pub Follows : List ℕ → Statement → List Token → Type 0
Follows w s tokens = (statement_tokens s ≡ word w ∷ tokens) × FormedStatement s

-- The statement of a polynomial is read, or refused, by its tokens.
pub poly_local : {n : ℕ} {W : Token → Type 0} (known : Declarations) → 1 < known.prime → Local IsLate Statement n W (poly_at known) (Follows (codes "poly"))
unfolding poly_at
poly_local known prime =
    local_then _ (new_name_local known) (λ name a l. local_mark 61 whats.Equals
    (local_then _ (formed_local known prime) (λ sum b m. local_mark 59 whats.Operator
    (local_done (poly name sum) (
      ap (λ (z : List Token). word (codes "poly") ∷ (z ++ (mark 61 ∷ (sum_tokens sum ++ one (mark 59))))) l.0 ∙ ap (λ (z : List Token). word (codes "poly") ∷ (a ++ (mark 61 ∷ (z ++ one (mark 59))))) m.0,
      (l.1, m.1),
    )))))

-- ---- members
abbrev SpellsMember : Member → List Token → Type 0
SpellsMember m tokens = (member_tokens m ≡ tokens) × FormedMember m

-- the expression 0
abbrev nought : Sum
nought = bare (single (plain (number nil)))

-- The expression 0 is one word.
nought_tokens : sum_tokens nought ≡ one (word nil)
unfolding sum_tokens
nought_tokens = refl

-- There is a member: 0.
some_member : (m : Member) × (tokens : List Token) × SpellsMember m tokens
some_member = (generator nought, one (word nil), (nought_tokens, refl))

-- A member without room is refused by its first token.
no_room_local : {n : ℕ} {W : Token → Type 0} (known : Declarations) → Local IsLate Member n W (no_room known) SpellsMember
no_room_local known =
    local_if is_word (local_cases (λ i t. refused t (no_room_kind known (word_of i))) some_member (λ i w. local_refuse (no_room_kind known (word_of i)) some_member))
    (local_if (λ i. is_the_mark 40 i || (is_the_mark 43 i || is_the_mark 45 i)) (local_refuse TooManyGenerators some_member) (local_refuse (Expected whats.Operand) some_member))

-- the name in jacob( )
abbrev jacob_name : List (List ℕ) → Reader (List ℕ)
jacob_name polys t = mark_at 40 whats.Open (next t.rest) >>= name_among polys

-- the ) of jacob( )
abbrev jacob_end : List ℕ × Place → Result (Member × Place) Refusal
jacob_end name = mark_at 41 whats.Close name.1 >>= λ closed. Ok (jacobian name.0, closed)

-- the refusal of a name for which there is no room
abbrev room_test : Bool → List ℕ → Option ReadKind
room_test full name = cond full (Some TooManyGenerators) None

-- The member jacob( ) is its name, the test of its room, and its end.
jacob_split : (polys : List (List ℕ)) (full : Bool) (t : Place)
    → (mark_at 40 whats.Open (next t.rest) >>= λ opened. name_among polys opened >>= λ name. cond full (refused t TooManyGenerators) (jacob_end name))
    ≡ (jacob_name polys t >>= (λ y. tested t y (room_test full y.0)) >>= jacob_end)
jacob_split polys full t =
    sym (bind_assoc (mark_at 40 whats.Open (next t.rest)) (name_among polys) (λ name. cond full (refused t TooManyGenerators) (jacob_end name)))
    ∙ late_split t (jacob_name polys t) (room_test full) jacob_end (λ name. cond full (refused t TooManyGenerators) (jacob_end name)) (λ name. one_test full name)
  where
    one_test : (b : Bool) (name : List ℕ × Place) → cond b (refused t TooManyGenerators) (jacob_end name) ≡ (tested t name (room_test b name.0) >>= jacob_end)
    one_test true name = refl
    one_test false name = refl

-- The refusal of jacob( ) is known behind its name.
room_late : (full : Bool) (name : List ℕ) (kind : ReadKind) → cond full (Some TooManyGenerators) None ≡ Some kind → LateAt IsLate (word (codes "jacob") ∷ mark 40 ∷ one (word name)) kind
room_late true name kind e =
    let same : TooManyGenerators ≡ kind = cc in
    subst (λ (k : ReadKind). IsLate k (word (codes "jacob") ∷ mark 40 ∷ one (word name))) same (name, refl)
room_late false name kind e = absurd cc

abbrev SpellsJacob : List ℕ → List Token → Type 0
SpellsJacob name tokens = (word (codes "jacob") ∷ mark 40 ∷ one (word name) ≡ tokens) × (is_named name ≡ true)

-- A member is read, or refused, by its tokens.
member_local : {n : ℕ} {W : Token → Type 0} (known : Declarations) (count : ℕ) → 1 < known.prime → Local IsLate Member n W (member_at known count) SpellsMember
unfolding member_at
member_local known count prime =
    let full = nat_lt 64 (count + length known.letters) in
    local_if (is_the_word (codes "jacob"))
    (local_same (λ t placed. jacob_split known.polys full t)
    (local_then jacob_end (late_test {N = SpellsJacob} (room_test full) (local_behind (word (codes "jacob")) (λ i w. word_is (codes "jacob") i w.1)
    (local_mark 40 whats.Open (local_to (λ name a l. (ap (λ (z : List Token). word (codes "jacob") ∷ mark 40 ∷ z) l.0, l.1)) (name_among_local known.polys))))
    (λ name tokens kind l e. subst (λ (z : List Token). LateAt IsLate z kind) l.0 (room_late full name kind e)))
    (λ name a l. local_mark 41 whats.Close (local_done (jacobian name) (ap (λ (z : List Token). z ++ one (mark 41)) l.0, l.1)))))
    (local_if (λ i. eqb count 64) (no_room_local known) (local_map generator (formed_local known prime) (λ x a l. l)))

-- behind members, up to the ;
abbrev GoesMembers : Members → Members → List Token → Type 0
GoesMembers y x tokens = (members_tokens x ++ one (mark 59) ≡ members_tokens y ++ tokens) × (FormedMembers y → FormedMembers x)

abbrev CommaMember : Member → List Token → Type 0
CommaMember m tokens = (mark 44 ∷ member_tokens m ≡ tokens) × FormedMember m

-- the loop over members, with a turn at least
abbrev pub more_members : Declarations → ℕ → Members → Reader Members
more_members known n y t = members_at (suc n) known y t

-- the member behind a comma
abbrev pub comma_member : Declarations → Members → Reader Member
comma_member known y t = member_at known (count_of known y) (next t.rest)

-- the ; behind the members
abbrev pub last_member : Members → Reader Members
last_member y t = cond (is_the_mark 59 t.token) (Ok (y, next t.rest)) (wanted t whats.Operator)

-- Members behind commas are read by a loop.
pub members_loop : (known : Declarations) → IsLoop Members Member Members (λ y i. is_the_mark 44 i) (comma_member known) more last_member (more_members known)
unfolding members_at
members_loop known = record {
  step = λ n y t. refl;
  base = λ y t h. ap (λ (b : Bool). cond b (comma_member known y t >>= λ m. members_at zero known (more y m.0) m.1) (last_member y t)) h;
  over = λ y i h. no_mark 44 i h;
}

-- The loop over members reads, or refuses, by the tokens.
members_local : {n : ℕ} {W : Token → Type 0} (known : Declarations) → 1 < known.prime → (y : Members) → Local IsLate Members n W (λ t. more_members known t.left y t) (GoesMembers y)
members_local known prime y =
    local_loop _ Members Member Members (λ y i. is_the_mark 44 i) (comma_member known) more last_member (more_members known) (λ y. Unit {0}) (λ y. CommaMember) GoesMembers (members_loop known)
    (record {
      items = λ n y good. local_behind (mark 44) (λ i w. mark_is 44 i w) (local_to (λ x a l. (ap (λ (z : List Token). mark 44 ∷ z) l.0, l.1)) (member_local known (count_of known y) prime));
      takes = λ y m tokens g. subst NotEmpty g.0 tt;
      keeps = λ y m tokens good g. tt;
      stops = λ n y good. local_if (is_the_mark 59) (local_behind (mark 59) (λ i w. mark_is 59 i w.1) (local_done y (refl, λ v. v))) (local_refuse (Expected whats.Operator) (y, one (mark 59), (refl, λ v. v)));
      more = λ y m a x b g l. (
        l.0 ∙ append_assoc (members_tokens y) (mark 44 ∷ member_tokens m) b ∙ ap (λ (z : List Token). members_tokens y ++ (z ++ b)) g.0,
        λ v. l.1 (v, g.1),
      );
    }) y tt

abbrev SpellsMembers : Members → List Token → Type 0
SpellsMembers ms tokens = (members_tokens ms ++ one (mark 59) ≡ tokens) × FormedMembers ms

-- Members from the first one on are read, or refused, by their tokens.
members_from_local : {n : ℕ} {W : Token → Type 0} (known : Declarations) → 1 < known.prime → Local IsLate Members n W (members_from known) SpellsMembers
members_from_local known prime =
    local_then _ (member_local known 0 prime) (λ first b m. local_to (λ ms c g. (g.0 ∙ ap (λ (z : List Token). z ++ c) m.0, g.1 m.1)) (members_local known prime (only first)))

-- The statement of an ideal is read, or refused, by its tokens.
pub ideal_local : {n : ℕ} {W : Token → Type 0} (known : Declarations) → 1 < known.prime → Local IsLate Statement n W (ideal_at known) (Follows (codes "ideal"))
unfolding ideal_at
ideal_local known prime =
    local_then _ (new_name_local known) (λ name a l. local_mark 61 whats.Equals (local_if (is_the_word (codes "std"))
    (local_behind (word (codes "std")) (λ i w. word_is (codes "std") i w.1)
    (local_then _ (argument_local known.ideals) (λ other b m. local_mark 59 whats.Semicolon
    (local_done (again name other) (
      ap (λ (z : List Token). word (codes "ideal") ∷ (z ++ (mark 61 ∷ word (codes "std") ∷ (enclosed (one (word other)) ++ one (mark 59))))) l.0 ∙ ap (λ (z : List Token). word (codes "ideal") ∷ (a ++ (mark 61 ∷ word (codes "std") ∷ (z ++ one (mark 59))))) m.0,
      (l.1, m.1),
    )))))
    (local_map (ideal name) (members_from_local known prime) (λ ms b m. (
      ap (λ (z : List Token). word (codes "ideal") ∷ (z ++ (mark 61 ∷ (members_tokens ms ++ one (mark 59))))) l.0 ∙ ap (λ (z : List Token). word (codes "ideal") ∷ (a ++ (mark 61 ∷ z))) m.0,
      (l.1, m.1),
    )))))
