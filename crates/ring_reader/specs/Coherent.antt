-- What holds of each script that is read: its commands speak of one ring and one degree, within the limits.
use Rattle.std.specs.Prelude.{◌≡◌, ℕ, ◌+◌, ◌≤◌, true, false, Bool, length, All}
use Rattle.local_order.specs.Limits.{max_degree, max_monomials}
use Rattle.local_order.specs.Count.{monomial_count}
use Rattle.script_grammar.specs.Limits.{max_commands}
use Rattle.std.specs.Str.{IsAscii}
use Rattle.prime_field.specs.Prime.{InTable}
use Rattle.sparse_poly.specs.Letters.{AreLetters}
use Rattle.sparse_poly.specs.Poly.{IsCanonical, HasDegreeAtMost}
use Rattle.sparse_poly.specs.Ideal.{IsProblem}
use Rattle.script_grammar.specs.declared.script.Subject.{Subject}
use Rattle.script_grammar.specs.declared.script.Subject.TheVariants.{Ideal, Function}
use Rattle.script_grammar.specs.declared.script.Command.{Command}
use Rattle.script_grammar.specs.declared.script.Script.{Script}
use Rattle.script_grammar.specs.Statements.{is_on_poly}

-- a command on a polynomial has one, cut beyond one degree more; another has an ideal
abbrev pub IsSubject : ℕ → ℕ → ℕ → Bool → Subject → Type 0
IsSubject p n d on_poly (Ideal P) = (on_poly ≡ false) × (P.p ≡ p) × (P.n ≡ n) × (P.d ≡ d) × IsProblem P
IsSubject p n d on_poly (Function f) = (on_poly ≡ true) × (f.n ≡ n) × IsCanonical p f.n f.terms × HasDegreeAtMost (d + 1) f.terms

-- a command in a field, in so many variables and with a noether degree
abbrev pub IsCommandIn : ℕ → ℕ → ℕ → Command → Type 0
IsCommandIn p n d c = IsAscii c.name × IsSubject p n d (is_on_poly c.word) c.subject

abbrev pub BelongsTo : Script → Command → Type 0
BelongsTo s c = IsCommandIn s.field (length s.names) s.d c

pub record IsCoherent (s : Script) : Type 0 where
  pub field : InTable s.field
  pub letters : AreLetters s.names
  pub some : 1 ≤ s.d
  pub low : s.d ≤ max_degree
  pub monomials : monomial_count (length s.names) s.d ≤ max_monomials
  pub asked : 1 ≤ length s.commands
  pub few : length s.commands ≤ max_commands
  pub belong : All (BelongsTo s) s.commands
