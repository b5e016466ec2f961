use Rattle.std.proofs.Common.{List, ℕ, ◌≡◌, map, string_bytes}
use Rattle.local_std.specs.declared.words.Given.{Given}
use Rattle.local_std.specs.Words.{Part}
use Rattle.local_std.specs.View.{kinds_in, kinds_of, Gives, AreParts}
use Rattle.local_std.proofs.Lines.{numbered_by}
use Rattle.local_std.proofs.Readings.{line_by, no_request}
use Rattle.local_std.proofs.words.line_of.Goals as goal

-- parts of the words with these kinds give this
gives_of : (words : List (List ℕ)) (given : Given) (parts : List Part) → AreParts words parts → kinds_in given ≡ kinds_of parts → Gives parts given
gives_of words given parts are kinds = record { values = are.values; kinds = kinds }

pub returns-in-None-request_named-clause-none : goal.returns-in-None-request_named-clause-none
returns-in-None-request_named-clause-none c =
    let given = c.in-Some-given_behind.given in
    let found = c.in-Some-given_behind.ensures.found in
    no_request (map string_bytes c.args.words.now) _ _ c.in-Some.ensures.found found.0 found.1 given (gives_of _ given found.0 found.1 found.2) c.in-None-request_named.ensures.none

pub returns-in-Some-request_named-clause-found : goal.returns-in-Some-request_named-clause-found
returns-in-Some-request_named-clause-found c =
    let given = c.in-Some-given_behind.given in
    let found = c.in-Some-given_behind.ensures.found in
    let gives = gives_of _ given found.0 found.1 found.2 in
    let request = c.in-Some-request_named.ensures.found in
    (found.0, line_by (map string_bytes c.args.words.now) _ _ c.in-Some.ensures.found found.0 found.1 _ request.0 (request.1 found.0 gives) given gives, found.2)

pub returns-in-Some-request_named-clause-numbered : goal.returns-in-Some-request_named-clause-numbered
returns-in-Some-request_named-clause-numbered c =
    let given = c.in-Some-given_behind.given in
    let found = c.in-Some-given_behind.ensures.found in
    numbered_by _ found.0 found.1.values (c.in-Some-request_named.ensures.found.1 found.0 (gives_of _ given found.0 found.1 found.2))
