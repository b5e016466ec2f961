-- A block has a first fault exactly where it isn't accepted, and one alone.
use Rattle.std.proofs.Common.{◌≡◌, ℕ, zero, suc, ◌+◌, ◌<◌, ◌≤◌, ◌⊎◌, List, [], ◌∷◌, ◌++◌, length, take, slice_get, All, Some, refl, sym, ◌∙◌, ap, subst, arith, inl, inr}
use Rattle.std.proofs.lemmas.Bool.{cases_order}
use Rattle.std.proofs.lemmas.Option.{get_or_from_slice_get}
use Rattle.std.proofs.lemmas.List.{get_or-take}
use Rattle.cert_check.specs.declared.reason.Reason.{Reason}
use Rattle.cert_grammar.specs.declared.certified.Certified.{Certified}
use Rattle.cert_check.specs.Block.{IsRead}
use Rattle.cert_check.specs.Accepted.{IsAcceptedBlock}
use Rattle.cert_check.specs.Checks.{Check, checks, line_of, reason_of, Holds}
use Rattle.cert_check.specs.Fault.{IsFirstFaultIn, IsFirstFault, block_line, IsFirstFaultOf}
use Rattle.cert_check.proofs.Every.{Every, every_all, all_every}
use Rattle.cert_check.proofs.Decide.{Decided}
use Rattle.cert_check.proofs.Conditions.{decided_check}
use Rattle.cert_check.proofs.Accepted.{accepted_is_checked}

-- the first member of a list that fails
record IsFirst {X : Type 0} (Q : X → Type 0) (xs : List X) : Type 0 where
  pub place : ℕ
  pub member : X
  pub there : slice_get xs place ≡ Some member
  pub earlier : Every Q (take place xs)
  pub fails : Q member → ⊥

-- where each is decided, all hold or there is one
first_or_all : {X : Type 0} (Q : X → Type 0) → ((x : X) → Decided (Q x)) → (xs : List X) → Every Q xs ⊎ IsFirst Q xs
first_or_all Q q [] = inl tt
first_or_all {X} Q q (x ∷ xs) = go (q x) (first_or_all Q q xs)
  where
    go : Decided (Q x) → Every Q xs ⊎ IsFirst Q xs → Every Q (x ∷ xs) ⊎ IsFirst Q (x ∷ xs)
    go (inr n) r = inr (record { place = 0; member = x; there = refl; earlier = tt; fails = n })
    go (inl y) (inl h) = inl (y, h)
    go (inl y) (inr f) = inr (record { place = suc f.place; member = f.member; there = f.there; earlier = (y, f.earlier); fails = f.fails })

-- a member at a place is within the list
place_within : {X : Type 0} (xs : List X) (k : ℕ) (x : X) → slice_get xs k ≡ Some x → k < length xs
place_within [] k x e = absurd (cc e)
place_within (y ∷ xs) zero x e = omega arith
place_within (y ∷ xs) (suc k) x e = let z = place_within xs k x e in omega (arith, z)

-- so many of the first
take_long : {X : Type 0} (n : ℕ) (xs : List X) → n ≤ length xs → length (take n xs) ≡ n
take_long zero xs l = refl
take_long (suc n) [] l = absurd (omega (arith, l))
take_long (suc n) (x ∷ xs) l = ap suc (take_long n xs (omega (arith, l)))

module _ (b : Certified) where
  -- a block is accepted, or has a first fault
  pub accepted_or_fault : IsRead b → IsAcceptedBlock b ⊎ ((line : ℕ) × (reason : Reason) × IsFirstFault b line reason)
  accepted_or_fault r = go (first_or_all (Holds b) (decided_check b r.problem.some) (checks b))
    where
      go : Every (Holds b) (checks b) ⊎ IsFirst (Holds b) (checks b) → IsAcceptedBlock b ⊎ ((line : ℕ) × (reason : Reason) × IsFirstFault b line reason)
      go (inl h) = inl ((accepted_is_checked b r).1 (every_all (Holds b) (checks b) h))
      go (inr f) = inr (
        line_of b f.member,
        reason_of f.member,
        record {
          place = f.place;
          check = f.member;
          there = f.there;
          earlier = every_all (Holds b) (take f.place (checks b)) f.earlier;
          fails = f.fails;
          at = refl;
          because = refl;
        },
      )

  -- a block with a fault isn't accepted
  pub fault_refuses : IsRead b → (line : ℕ) (reason : Reason) → IsFirstFault b line reason → IsAcceptedBlock b → ⊥
  fault_refuses r line reason f a =
      let h = (accepted_is_checked b r).0 a f.place f.check (place_within (checks b) f.place f.check f.there) in
      f.fails (subst (Holds b) (get_or_from_slice_get (checks b) f.place f.check f.check f.there) h)

  -- a check before the place of a fault holds
  earlier_holds : (line : ℕ) (reason : Reason) (f : IsFirstFault b line reason) (k : ℕ) (c : Check) → slice_get (checks b) k ≡ Some c → k < f.place → Holds b c
  earlier_holds line reason f k c e l =
      let long = take_long f.place (checks b) (let z = place_within (checks b) f.place f.check f.there in omega (arith, z)) in
      subst (Holds b) (get_or-take f.place (checks b) k c l ∙ get_or_from_slice_get (checks b) k c c e) (f.earlier k c (omega (arith, l, long)))

  -- two first faults are one
  pub one_fault : (line other : ℕ) (reason why : Reason) → IsFirstFault b line reason → IsFirstFault b other why → (line ≡ other) × (reason ≡ why)
  one_fault line other reason why f g = go (cases_order f.place g.place)
    where
      go : (f.place ≡ g.place) ⊎ ((f.place < g.place) ⊎ (g.place < f.place)) → (line ≡ other) × (reason ≡ why)
      go (inl e) =
          let z : Some f.check ≡ Some g.check = sym f.there ∙ ap (slice_get (checks b)) e ∙ g.there in
          let same : f.check ≡ g.check = cc z in
          (f.at ∙ ap (line_of b) same ∙ sym g.at, f.because ∙ ap reason_of same ∙ sym g.because)
      go (inr (inl l)) = absurd (f.fails (earlier_holds other why g f.place f.check f.there l))
      go (inr (inr l)) = absurd (g.fails (earlier_holds line reason f g.place g.check g.there l))

-- ---- parts of the order
-- a fault in the first of two lists is one in both
pub fault_left : (b : Certified) (cs ds : List Check) (line : ℕ) (reason : Reason) → IsFirstFaultIn b cs line reason → IsFirstFaultIn b (cs ++ ds) line reason
fault_left b cs ds line reason f = record {
  place = f.place;
  check = f.check;
  there = there cs f.place f.there;
  earlier = subst (All (Holds b)) (sym (taken cs f.place (place_within cs f.place f.check f.there))) f.earlier;
  fails = f.fails;
  at = f.at;
  because = f.because;
}
  where
    there : (xs : List Check) (k : ℕ) → slice_get xs k ≡ Some f.check → slice_get (xs ++ ds) k ≡ Some f.check
    there [] k e = absurd (cc e)
    there (x ∷ xs) zero e = e
    there (x ∷ xs) (suc k) e = there xs k e

    taken : (xs : List Check) (k : ℕ) → k < length xs → take k (xs ++ ds) ≡ take k xs
    taken xs zero l = refl
    taken [] (suc k) l = absurd (omega (arith, l))
    taken (x ∷ xs) (suc k) l = ap (λ zs. x ∷ zs) (taken xs k (omega (arith, l)))

-- and so is a fault in the second, where the first holds
pub fault_right : (b : Certified) (cs ds : List Check) (line : ℕ) (reason : Reason) → Every (Holds b) cs → IsFirstFaultIn b ds line reason → IsFirstFaultIn b (cs ++ ds) line reason
fault_right b [] ds line reason h f = f
fault_right b (c ∷ cs) ds line reason h f =
    let g = fault_right b cs ds line reason h.1 f in
    record {
      place = suc g.place;
      check = g.check;
      there = g.there;
      earlier = every_all (Holds b) (c ∷ take g.place (cs ++ ds)) (h.0, all_every (Holds b) (take g.place (cs ++ ds)) g.earlier);
      fails = g.fails;
      at = g.at;
      because = g.because;
    }

-- a check that fails is the first fault where it stands first
pub fault_here : (b : Certified) (c : Check) (cs : List Check) (line : ℕ) (reason : Reason) → (Holds b c → ⊥) → line ≡ line_of b c → reason ≡ reason_of c → IsFirstFaultIn b (c ∷ cs) line reason
fault_here b c cs line reason n l e = record { place = 0; check = c; there = refl; earlier = every_all (Holds b) [] tt; fails = n; at = l; because = e }

-- ---- certificates
-- the first block that isn't accepted, with its fault
record IsFirstBlock (bs : List Certified) : Type 0 where
  pub place : ℕ
  pub block : Certified
  pub there : slice_get bs place ≡ Some block
  pub earlier : Every IsAcceptedBlock (take place bs)
  pub within : ℕ
  pub reason : Reason
  pub fault : IsFirstFault block within reason

-- all blocks are accepted, or there is one
first_block : (bs : List Certified) → Every IsRead bs → Every IsAcceptedBlock bs ⊎ IsFirstBlock bs
first_block [] r = inl tt
first_block (b ∷ bs) r = go (accepted_or_fault b r.0) (first_block bs r.1)
  where
    go : IsAcceptedBlock b ⊎ ((line : ℕ) × (reason : Reason) × IsFirstFault b line reason) → Every IsAcceptedBlock bs ⊎ IsFirstBlock bs → Every IsAcceptedBlock (b ∷ bs) ⊎ IsFirstBlock (b ∷ bs)
    go (inr (line, reason, f)) x = inr (record { place = 0; block = b; there = refl; earlier = tt; within = line; reason = reason; fault = f })
    go (inl a) (inl h) = inl (a, h)
    go (inl a) (inr f) = inr (record { place = suc f.place; block = f.block; there = f.there; earlier = (a, f.earlier); within = f.within; reason = f.reason; fault = f.fault })

-- so all are accepted or there is a first fault
pub all_accepted_or_fault : (bs : List Certified) → All IsRead bs → All IsAcceptedBlock bs ⊎ ((line : ℕ) × (reason : Reason) × IsFirstFaultOf bs line reason)
all_accepted_or_fault bs r = go (first_block bs (all_every IsRead bs r))
  where
    go : Every IsAcceptedBlock bs ⊎ IsFirstBlock bs → All IsAcceptedBlock bs ⊎ ((line : ℕ) × (reason : Reason) × IsFirstFaultOf bs line reason)
    go (inl h) = inl (every_all IsAcceptedBlock bs h)
    go (inr f) = inr (
      block_line bs f.place + f.within,
      f.reason,
      record {
        place = f.place;
        block = f.block;
        there = f.there;
        earlier = every_all IsAcceptedBlock (take f.place bs) f.earlier;
        within = f.within;
        fault = f.fault;
        at = refl;
      },
    )

-- where there is one, not all are accepted
pub fault_refuses_all : (bs : List Certified) → All IsRead bs → (line : ℕ) (reason : Reason) → IsFirstFaultOf bs line reason → All IsAcceptedBlock bs → ⊥
fault_refuses_all bs r line reason f a =
    let l = place_within bs f.place f.block f.there in
    let at = get_or_from_slice_get bs f.place f.block f.block f.there in
    fault_refuses f.block (subst IsRead at (r f.place f.block l)) f.within reason f.fault (subst IsAcceptedBlock at (a f.place f.block l))
