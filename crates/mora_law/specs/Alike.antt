-- Runs that differ only in which numbers stand for residues.
use Rattle.std.specs.Prelude.{◌≡◌, List, [], ◌∷◌, ⊤}
use Rattle.rank_algebra.specs.Ranks.{Ranks}
use Rattle.rank_algebra.specs.Vector.{Vector, Agree}
use Rattle.mora_law.specs.Step.{Run}

-- two lists agree place by place
abbrev pub AllAlike : Ranks → List Vector → List Vector → Type 0
AllAlike R [] [] = ⊤
AllAlike R [] (g ∷ gs) = ⊥
AllAlike R (g ∷ gs) [] = ⊥
AllAlike R (g ∷ gs) (h ∷ hs) = Agree R R.n g h × AllAlike R gs hs

-- the same end, what is left agrees, and so do the intermediates
pub record RunAlike (R : Ranks) (x y : Run) : Type 0 where
  pub end : x.end ≡ y.end
  pub poly : Agree R R.n x.poly y.poly
  pub kept : AllAlike R x.kept y.kept
