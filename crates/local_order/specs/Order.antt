-- The local order ds: the lesser degree is the greater monomial, and in one degree the less last exponent that differs.
use Rattle.std.specs.declared.cmp.Ordering.{Ordering}
use Rattle.std.specs.declared.cmp.Ordering.TheVariants.{Less, Equal, Greater}
use Rattle.std.specs.Prelude.{◌≡◌, ℕ, ◌<◌, ◌⊎◌, List, [], ◌∷◌, Bool, false, ◌&&◌, ◌||◌, nat_lt, ◌==◌, if◌then◌else◌}
use Rattle.local_order.specs.Mono.{degree, same}

-- at the last place where they differ, a' has the less
abbrev pub IsLastLess : List ℕ → List ℕ → Type 0
IsLastLess [] b' = ⊥
IsLastLess (a ∷ a') [] = ⊥
IsLastLess (a ∷ a') (b ∷ b') = IsLastLess a' b' ⊎ ((a' ≡ b') × (a < b))

-- a' is the greater in the order ds
abbrev pub IsAbove : List ℕ → List ℕ → Type 0
IsAbove a' b' = (degree a' < degree b') ⊎ ((degree a' ≡ degree b') × IsLastLess a' b')

-- ---- tests that compute
-- whether at the last place where they differ a' has the less
abbrev pub last_less : List ℕ → List ℕ → Bool
last_less [] b' = false
last_less (a ∷ a') [] = false
last_less (a ∷ a') (b ∷ b') = last_less a' b' || (same a' b' && nat_lt a b)

-- whether a' is the greater in ds
abbrev pub above : List ℕ → List ℕ → Bool
above a' b' = nat_lt (degree a') (degree b') || (degree a' == degree b' && last_less a' b')

-- a' against b' by the last place where they differ
abbrev pub compare_last : List ℕ → List ℕ → Ordering
compare_last a' b' = if last_less a' b' then Greater else if same a' b' then Equal else Less

-- a' against b' in ds
abbrev pub compare_ds : List ℕ → List ℕ → Ordering
compare_ds a' b' = if above a' b' then Greater else if same a' b' then Equal else Less
