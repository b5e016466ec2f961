-- The blocks of the first commands, and of one more.
use Rattle.std.proofs.Common.{◌≡◌, ℕ, ◌+◌, ◌≤◌, List, [], ◌∷◌, ◌++◌, length, refl, sym, ◌∙◌, ap, arith, subst, take, append_assoc, Bool, true, false, ◌&&◌, Some, add-zero, length-take-le}
use Rattle.std.specs.Prelude.{slice_get, Contains}
use Rattle.std.specs.Bool.{OnTrue, OnFalse}
use Rattle.std.proofs.lemmas.List.{append-nil, take_all}
use Rattle.std.proofs.lemmas.List.Elements.{All-nil, All-more, Contains-append_left, Contains-push}
use Rattle.std.proofs.lemmas.Option.{slice_get_within, get_or_from_slice_get}
use Rattle.sparse_poly.specs.Ideal.{Fits}
use Rattle.script_grammar.specs.declared.script.Command.{Command}
use Rattle.script_grammar.specs.declared.script.Script.{Script}
use Rattle.local_std.proofs.Prefixes.{first_and_next}
use Rattle.local_std.specs.Answer.{problem_of, IsBlock, AreBlocks, AllFit, SomeIsSmall}
use Rattle.local_std.specs.Answered.{AreDone, AreAnswered}

-- the degree fits for a command
abbrev pub IsFitting : Script → Command → Type 0
IsFitting s c = Fits (problem_of s c)

-- it is too small for it
abbrev pub IsSmall : Script → Command → Type 0
IsSmall s c = Fits (problem_of s c) → ⊥

-- one block more
blocks_push : (s : Script) (i : ℕ) (cs : List Command) (c : Command) (text block : List ℕ) → AreBlocks s i cs text → IsBlock s (i + length cs) c block → AreBlocks s i (cs ++ c ∷ []) (text ++ block)
blocks_push s i [] c text block are is =
    (block, [], subst (λ n. IsBlock s n c block) (add-zero i) is, refl, ap (λ (l : List ℕ). l ++ block) are ∙ sym (append-nil block))
blocks_push s i (d ∷ cs) c text block (first, rest, one, more, spelled) is = (
  first,
  rest ++ block,
  one,
  blocks_push s (i + 1) cs c rest block more (let e : i + length (d ∷ cs) ≡ i + 1 + length cs = omega arith in subst (λ n. IsBlock s n c block) e is),
  ap (λ (l : List ℕ). l ++ block) spelled ∙ append_assoc first rest block,
)

module _ (s : Script) (cs : List Command) (k : ℕ) (c : Command) (at : slice_get cs k ≡ Some c) (text block : List ℕ) (is : IsBlock s (k + 1) c block) where
  -- the blocks of k commands and that of the next are the blocks of one command more
  blocks_next : AreBlocks s 1 (take k cs) text → AreBlocks s 1 (take (k + 1) cs) (text ++ block)
  blocks_next are =
      let within = slice_get_within cs k c at in
      let n : k + 1 ≡ 1 + length (take k cs) = omega (arith, length-take-le k cs (omega (arith, within))) in
      subst (λ l. AreBlocks s 1 l (text ++ block)) (sym (first_and_next cs k c at))
      (blocks_push s 1 (take k cs) c text block are (subst (λ m. IsBlock s m c block) n is))

  -- where k commands fit and the next does, one command more fit
  fit_next : AllFit s (take k cs) → IsFitting s c → AllFit s (take (k + 1) cs)
  fit_next all one =
      All-more (IsFitting s) cs k c (slice_get_within cs k c at) all
      (subst (IsFitting s) (sym (get_or_from_slice_get cs k c c at)) one)

  -- what is too small among k commands is so among one more
  small_before : SomeIsSmall s (take k cs) → SomeIsSmall s (take (k + 1) cs)
  small_before (e, there, small) =
      (e, subst (λ l. Contains l e) (sym (first_and_next cs k c at)) (Contains-append_left (take k cs) (c ∷ []) e there), small)

  -- and where the next command is too small, one among these is
  small_here : IsSmall s c → SomeIsSmall s (take (k + 1) cs)
  small_here small = (c, subst (λ l. Contains l c) (sym (first_and_next cs k c at)) (Contains-push (take k cs) c), small)

  -- one command more
  one_more : (fits here : Bool) → AreDone s (take k cs) text fits → OnTrue here (IsFitting s c) → OnFalse here (IsSmall s c) → AreDone s (take (k + 1) cs) (text ++ block) (fits && here)
  one_more true true done fit small = record { blocks = blocks_next done.blocks; fit = fit_next done.fit fit; small = tt }
  one_more true false done fit small = record { blocks = blocks_next done.blocks; fit = tt; small = small_here small }
  one_more false here done fit small = record { blocks = blocks_next done.blocks; fit = tt; small = small_before done.small }

-- Before the first command nothing is done, and the front alone stands there.
pub none_answered : (s : Script) (front : List ℕ) → AreAnswered s front 0 true front
none_answered s front = record {
  blocks = [];
  done = record { blocks = refl; fit = All-nil (IsFitting s); small = tt };
  spelled = sym (append-nil front);
}

-- One command more is answered.
pub answered_more : (s : Script) (front : List ℕ) (k : ℕ) (c : Command) → slice_get s.commands k ≡ Some c → (text more block : List ℕ) → IsBlock s (k + 1) c block → more ≡ text ++ block →
    (fits here : Bool) → OnTrue here (IsFitting s c) → OnFalse here (IsSmall s c) → AreAnswered s front k fits text → AreAnswered s front (k + 1) (fits && here) more
answered_more s front k c at text more block is spelled fits here fit small a = record {
  blocks = a.blocks ++ block;
  done = one_more s s.commands k c at a.blocks block is fits here a.done fit small;
  spelled = spelled ∙ ap (λ (l : List ℕ). l ++ block) a.spelled ∙ append_assoc front a.blocks block;
}

-- All commands are done.
pub all_done : (s : Script) (cs : List Command) (k : ℕ) (text : List ℕ) (fits : Bool) → length cs ≤ k → AreDone s (take k cs) text fits → AreDone s cs text fits
all_done s cs k text fits past done = subst (λ l. AreDone s l text fits) (take_all k cs past) done
