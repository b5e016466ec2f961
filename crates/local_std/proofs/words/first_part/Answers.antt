use Rattle.std.proofs.Common.{◌∙◌, ◌∷◌, ◌++◌, sym, ap, List, ℕ, map, string_bytes, codes}
use Rattle.local_std.specs.Words.{numeral, cert, workers, option_words}
use Rattle.local_std.proofs.Readings.{none_in, some_in, no_path, no_count, no_part, gives_cert, gives_workers, gives_number}
use Rattle.local_std.proofs.words.first_part.Goals as goal

pub returns-then-is_empty-clause-none : goal.returns-then-is_empty-clause-none
returns-then-is_empty-clause-none c = λ part others is_part h.
    let found = c.in-Some-option_value.ensures.found in
    no_path _ _ found.0 c.in-Some-option_value.path.now _ (none_in _ c.if-is_empty.ensures) found.2 part others is_part (sym c.in-Some.ensures.found ∙ h)

pub returns-in-Some-option_value-clause-found : goal.returns-in-Some-option_value-clause-found
returns-in-Some-option_value-clause-found c =
    let found = c.in-Some-option_value.ensures.found in
    let path = c.in-Some-option_value.path in
    (cert found.0 path.now, gives_cert found.0 path (some_in _ c.if-is_empty.ensures) found.1, c.in-Some.ensures.found ∙ found.2)

pub returns-in-None-worker_numeral-clause-none : goal.returns-in-None-worker_numeral-clause-none
returns-in-None-worker_numeral-clause-none c = λ part others is_part h.
    let found = c.in-Some-option_value-2.ensures.found in
    no_count _ _ found.0 c.in-Some-option_value-2.value.now _ c.in-None-worker_numeral.ensures.none found.2 part others is_part (sym c.in-Some.ensures.found ∙ h)

pub returns-in-Some-worker_numeral-clause-found : goal.returns-in-Some-worker_numeral-clause-found
returns-in-Some-worker_numeral-clause-found c =
    let found = c.in-Some-option_value-2.ensures.found in
    let number = c.in-Some-worker_numeral.ensures.found in
    let behind : List (List ℕ) = map string_bytes c.in-Some-option_value-2.behind.now in (
      workers found.0 c.in-Some-worker_numeral.count,
      gives_workers found.0 _ number.0 number.1,
      c.in-Some.ensures.found ∙ found.2 ∙ ap (λ v. option_words (codes "--workers") found.0 v ++ behind) number.2,
    )

pub returns-in-None-numeral-clause-none : goal.returns-in-None-numeral-clause-none
returns-in-None-numeral-clause-none c = λ part others is_part h.
    no_part _ _ c.in_default.ensures.none c.in_default-option_value.ensures.none c.in-None-numeral.ensures.none part others is_part (sym c.in-Some.ensures.found ∙ h)

pub returns-in-Some-numeral-clause-found : goal.returns-in-Some-numeral-clause-found
returns-in-Some-numeral-clause-found c =
    let found = c.in-Some-numeral.ensures.found in
    (numeral c.in-Some-numeral.number, gives_number _ found.0, c.in-Some.ensures.found ∙ ap (λ (w : List ℕ). w ∷ map string_bytes c.in-Some.split.1.now) found.1)
