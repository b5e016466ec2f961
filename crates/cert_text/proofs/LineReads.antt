-- What the words of a line tell, word by word.
use Rattle.std.proofs.Common.{◌≡◌, ℕ, Bool, true, false, List, [], ◌∷◌, Option, Some, None, refl, ◌∙◌, ap, codes}
use Rattle.std.specs.Prelude.{option_and_then, ◌&&◌, if◌then◌else◌}
use Rattle.std.specs.Option.{option_map}
use Rattle.script_grammar.specs.Words.{is_same}
use Rattle.cert_grammar.specs.Lines.{Word, Line, same_line}
use Rattle.cert_text.specs.Cuts.{is_empty}
use Rattle.cert_grammar.specs.Phrases.{one_word, behind_word, keyword_at, ended, whole}
use Rattle.cert_grammar.specs.Words.{Ring, mono_of_word}
use Rattle.cert_grammar.specs.Reading.{alone_of, corner_word_of, corner_of}

-- a phrase of one word is that word, taken so
pub one_of : {A : Type 0} (of : Word → Option A) (ws : List Word) → option_and_then ended (one_word of ws) ≡ option_and_then of (option_and_then ended (one_word (λ w. Some w) ws))
one_of {A} of [] = refl
one_of {A} of (w ∷ []) = go (of w)
  where
    go : (o : Option A) → option_and_then ended (option_map (λ a. (a, [])) o) ≡ o
    go None = refl
    go (Some a) = refl
one_of {A} of (w ∷ v ∷ ws) = go (of w)
  where
    go : (o : Option A) → option_and_then ended (option_map (λ a. (a, v ∷ ws)) o) ≡ None
    go None = refl
    go (Some a) = refl

-- behind a word too
pub behind_of : {A : Type 0} (k : Word) (of : Word → Option A) (l : Line) → whole (behind_word k (one_word of)) l ≡ option_and_then of (whole (behind_word k (one_word (λ w. Some w))) l)
behind_of k of l = go (keyword_at k l)
  where
    go : (o : Option (List Word)) → option_and_then ended (option_and_then (one_word of) o) ≡ option_and_then of (option_and_then ended (option_and_then (one_word (λ w. Some w)) o))
    go None = refl
    go (Some ws) = one_of of ws

-- a line of a word and one behind it, by the word that is there
pub behind_told : {A : Type 0} (k : Word) (of : Word → Option A) (l : Line) (o : Option Word) → whole (behind_word k (one_word (λ w. Some w))) l ≡ o → whole (behind_word k (one_word of)) l ≡ option_and_then of o
behind_told k of l o e = behind_of k of l ∙ ap (option_and_then of) e

-- a line of one word, by the word that is there
pub alone_told : {A : Type 0} (of : Word → Option A) (l : Line) (o : Option Word) → whole (one_word (λ w. Some w)) l ≡ o → alone_of of l ≡ option_and_then of o
alone_told of l o e = one_of of l ∙ ap (option_and_then of) e

-- the word of a corner
pub corner_told : (r : Ring) (l : Line) (o : Option Word) → whole (behind_word (codes "corner") (one_word (λ w. Some w))) l ≡ o → corner_of r l ≡ option_and_then (corner_word_of r) o
corner_told r l o e = behind_of (codes "corner") (corner_word_of r) l ∙ ap (option_and_then (corner_word_of r)) e

-- it is none, or a monomial
pub corner_by : (r : Ring) (w : Word) (a : Bool) (o : Option (List ℕ)) → is_same w (codes "none") ≡ a → mono_of_word r w ≡ o → corner_word_of r w ≡ (if a then Some None else option_map (λ m. Some m) o)
corner_by r w a o e f = ap (λ z. if z then Some None else option_map (λ m. Some m) (mono_of_word r w)) e ∙ ap (λ z. if a then Some None else option_map (λ m. Some m) z) f

-- a line of two words that are given
abbrev pub is_nothing_left : Option (List Word) → Bool
is_nothing_left None = false
is_nothing_left (Some ws) = is_empty ws

-- a line of two given words is told word by word
pub two_given : (l : Line) (a b : Word) → same_line l (a ∷ b ∷ []) ≡ is_nothing_left (option_and_then (keyword_at b) (keyword_at a l))
two_given [] a b = refl
two_given (v ∷ vs) a b = go (is_same v a) vs
  where
    inner : (c : Bool) (ws : List Word) → (c && same_line ws []) ≡ is_nothing_left (if c then Some ws else None)
    inner true [] = refl
    inner true (w ∷ ws) = refl
    inner false ws = refl

    go : (c : Bool) (vs : List Word) → (c && same_line vs (b ∷ [])) ≡ is_nothing_left (option_and_then (keyword_at b) (if c then Some vs else None))
    go false vs = refl
    go true [] = refl
    go true (w ∷ ws) = inner (is_same w b) ws
