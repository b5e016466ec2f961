-- The checks of a list one by one: what holds of every check of the order holds at every place that it speaks of.
use Rattle.std.proofs.Common.{◌≡◌, ℕ, zero, suc, ◌+◌, ◌<◌, ◌≤◌, ◌⊎◌, List, [], ◌∷◌, ◌++◌, All, subst, arith, inl, inr}
use Rattle.std.proofs.lemmas.Bool.{cases_lt}
use Rattle.cert_check.specs.Checks.{Check, known, corner, run, member, reading_checks, member_checks}

-- Q holds of the first and of every other
abbrev pub Every : {X : Type 0} → (X → Type 0) → List X → Type 0
Every Q [] = Unit {0}
Every Q (x ∷ xs) = Q x × Every Q xs

module _ {X : Type 0} (Q : X → Type 0) where
  -- it holds at every place
  pub every_all : (xs : List X) → Every Q xs → All Q xs
  every_all [] h k d l = absurd (omega (arith, l))
  every_all (x ∷ xs) h zero d l = h.0
  every_all (x ∷ xs) h (suc k) d l = every_all xs h.1 k d (omega (arith, l))

  -- and what holds at every place holds of every member
  pub all_every : (xs : List X) → All Q xs → Every Q xs
  all_every [] h = tt
  all_every (x ∷ xs) h = (h 0 x (omega arith), all_every xs (λ k d l. h (suc k) d (omega (arith, l))))

  -- of two lists, one behind the other
  pub every_append : (xs ys : List X) → Every Q xs → Every Q ys → Every Q (xs ++ ys)
  every_append [] ys g h = h
  every_append (x ∷ xs) ys g h = (g.0, every_append xs ys g.1 h)

  -- and of each of the two
  pub every_parts : (xs ys : List X) → Every Q (xs ++ ys) → Every Q xs × Every Q ys
  every_parts [] ys h = (tt, h)
  every_parts (x ∷ xs) ys h = let z = every_parts xs ys h.1 in ((h.0, z.0), z.1)

module _ (Q : Check → Type 0) where
  -- the three checks of reading j of entry i
  pub record AtReading (i j : ℕ) : Type 0 where
    pub knows : Q (known i j)
    pub corners : Q (corner i j)
    pub runs : Q (run i j)

  -- the checks of the readings from j on hold where those of each do
  pub readings_every : (i left j : ℕ) → ((k : ℕ) → j ≤ k → k < j + left → AtReading i k) → Every Q (reading_checks i left j)
  readings_every i zero j h = tt
  readings_every i (suc left) j h =
      let z = h j (omega arith) (omega arith) in
      (z.knows, (z.corners, (z.runs, readings_every i left (suc j) (λ k l m. h k (omega (arith, l)) (omega (arith, m))))))

  -- and the other way round
  pub every_readings : (i left j : ℕ) → Every Q (reading_checks i left j) → (k : ℕ) → j ≤ k → k < j + left → AtReading i k
  every_readings i zero j h k l m = absurd (omega (arith, l, m))
  every_readings i (suc left) j h k l m = go (cases_lt j k) (λ n. every_readings i left (suc j) h.1.1.1 k (omega (arith, n)) (omega (arith, m)))
    where
      go : (j < k) ⊎ (k ≤ j) → (j < k → AtReading i k) → AtReading i k
      go (inl n) later = later n
      go (inr n) later = let z : j ≡ k = omega arith in subst (AtReading i) z (record { knows = h.0; corners = h.1.0; runs = h.1.1.0 })

  -- the checks of the members from k on hold where those of each do
  pub members_every : (left k : ℕ) → ((j : ℕ) → k ≤ j → j < k + left → Q (member j)) → Every Q (member_checks left k)
  members_every zero k h = tt
  members_every (suc left) k h = (h k (omega arith) (omega arith), members_every left (suc k) (λ j l m. h j (omega (arith, l)) (omega (arith, m))))

  -- and the other way round
  pub every_members : (left k : ℕ) → Every Q (member_checks left k) → (j : ℕ) → k ≤ j → j < k + left → Q (member j)
  every_members zero k h j l m = absurd (omega (arith, l, m))
  every_members (suc left) k h j l m = go (cases_lt k j) (λ n. every_members left (suc k) h.1 j (omega (arith, n)) (omega (arith, m)))
    where
      go : (k < j) ⊎ (j ≤ k) → (k < j → Q (member j)) → Q (member j)
      go (inl n) later = later n
      go (inr n) later = let z : k ≡ j = omega arith in subst (λ x. Q (member x)) z h.0
