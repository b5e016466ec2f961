-- What reading a certificate answers.
use Rattle.std.specs.Prelude.{◌≡◌, ℕ, List, Result, Ok, Err}
use Rattle.cert_grammar.specs.declared.certified.Certified.{Certified}
use Rattle.cert_grammar.specs.Form.{IsFormLine}
use Rattle.cert_text.specs.declared.error.CertError.{CertError}
use Rattle.cert_text.specs.declared.error.CertError.TheVariants as errors

-- this certificate, unless memory ran out
abbrev pub Answers : List Certified → Result (List Certified) CertError → Type 0
Answers blocks (Ok c) = c ≡ blocks
Answers blocks (Err (errors.Form line)) = ⊥
Answers blocks (Err errors.Memory) = Unit {0}

-- the line is the one at which the bytes go wrong
abbrev pub TellsLine : List ℕ → Result (List Certified) CertError → Type 0
TellsLine bytes (Ok c) = Unit {0}
TellsLine bytes (Err (errors.Form line)) = IsFormLine bytes line
TellsLine bytes (Err errors.Memory) = Unit {0}
