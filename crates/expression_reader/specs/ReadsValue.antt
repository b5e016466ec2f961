-- What the functions of expressions answer.
use Rattle.std.specs.Prelude.{ℕ, ◌≤◌, length, Result, IfOk}
use Rattle.sparse_poly.specs.Poly.{Polynomial}
use Rattle.script_grammar.specs.declared.refusal.Refusal.{Refusal}
use Rattle.script_grammar.specs.Tokens.{Place}
use Rattle.script_tokens.specs.declared.token.Place.{Place as Seen}
use Rattle.script_tokens.specs.PlaceView.{place_of}
use Rattle.expression_reader.specs.declared.names.Names.{Names}
use Rattle.expression_reader.specs.declared.stop.Stop.{Stop}
use Rattle.expression_reader.specs.Gives.{Gives}
use Rattle.expression_reader.specs.Sound.{IsValue}

-- What is answered, seen by view, is what the grammar reads; no more than so many bytes are left behind it; and its polynomial
-- is one of the ring.
pub record ReadsValue {X Y : Type 0} (names : Names) (left : ℕ) (view : X → Y) (poly : X → Polynomial) (read : Result (Y × Place) Refusal) (result : Result (X × Seen) Stop) : Type 0 where
  pub gives : Gives (λ x. (view x.0, place_of x.1)) result read
  pub shorter : IfOk result (λ x. x.1.left ≤ left)
  pub valid : IfOk result (λ x. IsValue names.field (length names.letters) (poly x.0))
