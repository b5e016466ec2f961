-- What holds of the seats after one of them changed.
-- The seat that changed is told from the others by its place.
use Rattle.std.proofs.Common.{◌≡◌, ◌≢◌, ◌⊎◌, ℕ, ◌<◌, ◌≤◌, true, false, true≢false, List, [], length, take, set, Option, Some, None, refl, sym, ap, ◌∙◌, subst, inl, inr, ⊎_elim, arith, le_trans}
use Rattle.std.specs.Prelude.{sum_by}
use Rattle.std.proofs.lemmas.List.{length-take-le, take-take}
use mathlib.Core.Logic.{dite}
use mathlib.Core.Option.{some, some-injective}
use native.Mathlib.Decide.{ℕ_discrete}
use lib.ListN.{get_elem?}
use Rattle.sparse_poly.specs.Ideal.{Problem}
use Rattle.entry_code.specs.Entry.{Entry}
use Rattle.mora_law.specs.Settled.{IsSettled}
use Rattle.mora_law.proofs.Prefixes.{IsPrefix, prefix_take}
use Rattle.mora_law.specs.Items.{item_for}
use Rattle.run_core.specs.Hand.{Hand, is_open, has_open}
use Rattle.run_core.specs.State.{Seat}
use Rattle.run_core.specs.Sound.{IsHandSound, IsSeatSound, AreApart, IsHeld, IsWholeKnown}
use Rattle.run_core.proofs.Places.{at_set, set_here, set_else, sum_set}
use Rattle.run_core.proofs.Ends.{open_longer}
use Rattle.run_core.proofs.Hands.{hand_later}

-- one place changes: what holds of the others and of the new one
pub each_set : (Q : ℕ → Seat → Type 0) (seats : List Seat) (i : ℕ) (w : Seat) → ((j : ℕ) (u : Seat) → j ≢ i → get_elem? seats j ≡ some u → Q j u) → Q i w → (j : ℕ) (u : Seat) → get_elem? (set seats i w) j ≡ some u → Q j u
each_set Q seats i w others mine j u e =
    ⊎_elim
    (λ (x : (j ≡ i) × (w ≡ u)). subst (λ (y : ℕ × Seat). Q y.0 y.1) (λ k. (sym x.0 k, x.1 k)) mine)
    (λ (x : (j ≢ i) × (get_elem? seats j ≡ some u)). others j u x.0 x.1)
    (at_set seats i j w u e)

-- a sum stays where the new seat counts as much as the old one
pub sum_kept : (f : Seat → ℕ) (seats : List Seat) (i : ℕ) (v w : Seat) → get_elem? seats i ≡ some v → f w ≡ f v → sum_by f (set seats i w) ≡ sum_by f seats
sum_kept f seats i v w at same = omega (arith, sum_set f seats i v w at)

-- the seat at a place is the one that is told
pub is_seat : (seats : List Seat) (i j : ℕ) (u v : Seat) → get_elem? seats j ≡ some u → get_elem? seats i ≡ some v → j ≡ i → u ≡ v
is_seat seats i j u v there at same = some-injective u v (sym there ∙ ap (get_elem? seats) same ∙ at)

-- the seat has no ticket that another one has
abbrev pub HasOther : List Seat → ℕ → Seat → Type 0
HasOther seats i w = (j : ℕ) (u : Seat) (h k : Hand) → j ≢ i → get_elem? seats j ≡ some u → u.hand ≡ Some h → w.hand ≡ Some k → h.ticket ≢ k.ticket

-- hands stay apart where the new hand has a ticket of its own
pub apart_set : (seats : List Seat) (i : ℕ) (w : Seat) → AreApart seats → HasOther seats i w → AreApart (set seats i w)
apart_set seats i w apart other a b x y h k ea eb eh ek same =
    ⊎_elim
    (λ (t : (a ≡ i) × (w ≡ x)). ⊎_elim
    (λ (t' : (b ≡ i) × (w ≡ y)). t.0 ∙ sym t'.0)
    (λ (t' : (b ≢ i) × (get_elem? seats b ≡ some y)). absurd (other b y k h t'.0 t'.1 ek (ap (λ (z : Seat). z.hand) t.1 ∙ eh) (sym same)))
    (at_set seats i b w y eb))
    (λ (t : (a ≢ i) × (get_elem? seats a ≡ some x)). ⊎_elim
    (λ (t' : (b ≡ i) × (w ≡ y)). absurd (other a x h k t.0 t.1 eh (ap (λ (z : Seat). z.hand) t'.1 ∙ ek) same))
    (λ (t' : (b ≢ i) × (get_elem? seats b ≡ some y)). apart a b x y h k t.1 t'.1 eh ek same)
    (at_set seats i b w y eb))
    (at_set seats i a w x ea)

-- or where its ticket is that of the old hand
pub apart_same : (seats : List Seat) (i : ℕ) (v w : Seat) → get_elem? seats i ≡ some v → AreApart seats → ((k : Hand) → w.hand ≡ Some k → (h : Hand) × (v.hand ≡ Some h) × (h.ticket ≡ k.ticket)) → AreApart (set seats i w)
apart_same seats i v w at apart same = apart_set seats i w apart (λ j u h k ne e eh ek t. let s = same k ek in ne (apart j i u v h s.0 e at eh s.1 (t ∙ sym s.2)))

-- some seat knows the whole list, where the seat keeps its numbers, what it knows and its mark
pub whole_same : (P : Problem) (ticket : ℕ) (entries : List Entry) (seats : List Seat) (i : ℕ) (v w : Seat) → get_elem? seats i ≡ some v → w.numbers ≡ v.numbers → w.known ≡ v.known → w.idle ≡ v.idle →
    IsWholeKnown P ticket entries seats → IsWholeKnown P ticket entries (set seats i w)
whole_same P ticket entries seats i v w at numbers known idle k = dite (ℕ_discrete k.0 i)
    (λ same. let is : k.1 ≡ v = is_seat seats i k.0 k.1 v k.2 at same in (i, w, set_here seats i v w at, (λ none. k.3 (ap (λ (z : Seat). z.numbers) is ∙ sym numbers ∙ none)), known ∙ ap (λ (z : Seat). z.known) (sym is) ∙ k.4, ⊎_elim (λ busy. inl (idle ∙ ap (λ (z : Seat). z.idle) (sym is) ∙ busy)) (λ all. inr all) k.5))
    (λ apart. (k.0, k.1, set_else seats i k.0 w apart ∙ k.2, k.3, k.4, k.5))

-- a seat stays sound as the corner word falls, the ticket word rises and there are more entries
pub seat_later : (P : Problem) (word word' ticket ticket' count count' : ℕ) (list : List Entry) (v : Seat) → word' ≤ word → ticket ≤ ticket' → count ≤ count' → IsSeatSound P word ticket count list v → IsSeatSound P word' ticket' count' list v
seat_later P word word' ticket ticket' count count' list v l m n s = record {
  known = le_trans s.known n;
  seen = le_trans s.seen m;
  hand = λ h e. hand_later P word word' ticket ticket' list h l m (s.hand h e);
  idle = s.idle;
  alone = s.alone;
  spent = s.spent;
}

-- the seat still works at ticket k
abbrev pub WorksAt : Problem → List Entry → Seat → ℕ → Type 0
WorksAt P entries w k = (h : Hand) × (w.hand ≡ Some h) × (h.ticket ≡ k) × (is_open P (take w.known entries) h ≡ true)

-- a ticket in an open hand stays in one or is settled, where that is so of the seat that changes
pub held_set : (P : Problem) (entries longer : List Entry) (seats : List Seat) (i : ℕ) (v w : Seat) (k : ℕ) → get_elem? seats i ≡ some v →
    ((j : ℕ) (u : Seat) → j ≢ i → get_elem? seats j ≡ some u → take u.known longer ≡ take u.known entries) →
    ((h : Hand) → v.hand ≡ Some h → h.ticket ≡ k → is_open P (take v.known entries) h ≡ true → IsSettled P longer (item_for P k) ⊎ WorksAt P longer w k) →
    IsHeld P entries seats k → IsSettled P longer (item_for P k) ⊎ IsHeld P longer (set seats i w) k
held_set P entries longer seats i v w k at others mine held = dite (ℕ_discrete held.place i)
    (λ same. here (is_seat seats i held.place held.seat v held.there at same))
    (λ apart. inr record {
      place = held.place;
      seat = held.seat;
      hand = held.hand;
      there = set_else seats i held.place w apart ∙ held.there;
      has = held.has;
      is = held.is;
      opened = ap (λ l. is_open P l held.hand) (others held.place held.seat apart held.there) ∙ held.opened;
    })
  where
    here : held.seat ≡ v → IsSettled P longer (item_for P k) ⊎ IsHeld P longer (set seats i w) k
    here is = ⊎_elim inl
        (λ (t : WorksAt P longer w k). inr record { place = i; seat = w; hand = t.0; there = set_here seats i v w at; has = t.1; is = t.2; opened = t.3 })
        (mine held.hand (ap (λ (z : Seat). z.hand) (sym is) ∙ held.has) held.is (ap (λ (z : Seat). is_open P (take z.known entries) held.hand) (sym is) ∙ held.opened))

-- no work is at a shut hand
pub not_open : (P : Problem) (known : List Entry) (o : Option Hand) (h : Hand) → has_open P known o ≡ false → o ≡ Some h → is_open P known h ≡ true → ⊥
not_open P known o h shut e opened = true≢false (sym opened ∙ ap (has_open P known) (sym e) ∙ shut)

-- the hand that is open
pub open_is : (P : Problem) (known : List Entry) (o : Option Hand) → has_open P known o ≡ true → (h : Hand) × (o ≡ Some h) × (is_open P known h ≡ true)
open_is P known None e = absurd (true≢false (sym e))
open_is P known (Some h) e = (h, refl, e)

-- there is an open hand over more entries exactly where there is one over those that the seat knows
pub has_open_longer : (P : Problem) (word ticket : ℕ) (short long : List Entry) (o : Option Hand) → IsPrefix short long → ((h : Hand) → o ≡ Some h → IsHandSound P word ticket short h) → has_open P long o ≡ has_open P short o
has_open_longer P word ticket short long None b s = refl
has_open_longer P word ticket short long (Some h) b s = let t = s h refl in open_longer P short long b h t.within t.orderly

-- the first k entries begin the first j
pub take_prefix : (entries : List Entry) (k j : ℕ) → k ≤ j → j ≤ length entries → IsPrefix (take k entries) (take j entries)
take_prefix entries k j l m = subst (λ x. IsPrefix x (take j entries)) (take-take k j entries l) (prefix_take k (take j entries) (omega (arith, length-take-le j entries m)))

-- a list that is not empty
pub some_number : (ns : List ℕ) → 0 < length ns → ns ≢ []
some_number ns l e = let z : length ns ≡ 0 = ap length e in omega arith
