use Rattle.std.proofs.Common.{◌≡◌, ℕ, ◌<◌, ◌++◌, ◌∷◌, List, [], length, map, String, Global, string_bytes, IfSome, IfNone, Some, None, ◌∙◌, arith}
use Rattle.std.specs.declared.option.Option.{Option}
use Rattle.std.proofs.lemmas.List.Elements.{All-head}
use Rattle.local_std.specs.Words.{Part, IsPart, words_of}
use Rattle.local_std.specs.declared.words.Given.{Given}
use Rattle.local_std.specs.View.{kinds_in, kinds_of, together, AreOnce, Gives, AreParts}
use Rattle.local_std.proofs.Readings.{some_in, none_first, none_twice, none_behind, parts_more, kinds_on}
use Rattle.local_std.proofs.words.+given_behind.Goals as goal

-- some words have some bytes
some_words : (ws : List (String Global)) → 0 < length ws → map string_bytes ws ≡ [] → ⊥
some_words [] some e = omega (arith, some)
some_words (w ∷ ws) some e = cc (e)

pub returns-in-None-clause-none : goal.returns-in-None-clause-none
returns-in-None-clause-none t c = λ parts are once.
    none_first _ (some_words c.args.words.now (some_in _ c.if-is_empty.ensures)) c.in-None.ensures.none parts are

pub returns-in-None-with-clause-none : goal.returns-in-None-with-clause-none
returns-in-None-with-clause-none t c = λ parts are once.
    let found = c.in-Some.ensures.found in
    none_twice _ _ found.0 (All-head IsPart found.0 [] found.1.values) found.2 (kinds_in c.args.before) (kinds_in c.in-Some.split.0)
    found.1.kinds c.in-None-with.ensures.none parts are once

module _ (words rest : List (List ℕ)) (part : Part) (is_part : IsPart part) (first : words ≡ words_of part ++ rest) (before one more : Given) (gives : Gives (part ∷ []) one) (m : kinds_in more ≡ together (kinds_in before) (kinds_in one)) where
  -- what is given goes on behind the first part
  go_found : (r : Option Given) → IfSome r (λ g. (parts : List Part) × AreParts rest parts × (kinds_in g ≡ together (kinds_in more) (kinds_of parts))) →
      IfSome r (λ g. (parts : List Part) × AreParts words parts × (kinds_in g ≡ together (kinds_in before) (kinds_of parts)))
  go_found None found = tt
  go_found (Some g) (parts, are, kinds) = (
    part ∷ parts,
    parts_more words rest part is_part first parts are,
    kinds ∙ kinds_on words rest part is_part first (kinds_in before) (kinds_in one) gives.kinds (kinds_in more) parts m,
  )

  -- and isn't where it doesn't
  go_none : (r : Option Given) → IfNone r ((parts : List Part) → AreParts rest parts → AreOnce (together (kinds_in more) (kinds_of parts)) → ⊥) →
      IfNone r ((parts : List Part) → AreParts words parts → AreOnce (together (kinds_in before) (kinds_of parts)) → ⊥)
  go_none None none = none_behind words rest part is_part first (kinds_in before) (kinds_in one) gives.kinds (kinds_in more) m none
  go_none (Some g) none = tt

pub returns-in-Some-with-clause-found : goal.returns-in-Some-with-clause-found
returns-in-Some-with-clause-found t c =
    let found = c.in-Some.ensures.found in
    go_found _ _ found.0 (All-head IsPart found.0 [] found.1.values) found.2 c.args.before c.in-Some.split.0 c.in-Some-with.more found.1 c.in-Some-with.ensures.found c.given_behind.result c.given_behind.ensures.found

pub returns-in-Some-with-clause-none : goal.returns-in-Some-with-clause-none
returns-in-Some-with-clause-none t c =
    let found = c.in-Some.ensures.found in
    go_none _ _ found.0 (All-head IsPart found.0 [] found.1.values) found.2 c.args.before c.in-Some.split.0 c.in-Some-with.more found.1 c.in-Some-with.ensures.found c.given_behind.result c.given_behind.ensures.none
