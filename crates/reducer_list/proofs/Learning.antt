-- The load of a word of a published body. All but the last leave the machine as it was; the last word of the entry behind what is known is the
-- event Look, and the last word of a known one shows that entry. What is read agrees with the words of the entry, which lie there for good.
use Rattle.std.proofs.Common.{◌≡◌, ◌≢◌, ℕ, zero, suc, ◌+◌, ◌<◌, ◌≤◌, List, [], ◌∷◌, ◌++◌, length, map, take, set, get_or, refl, sym, ap, ◌∙◌, subst, inl, arith, length-append}
use Rattle.std.proofs.lemmas.List.{set-get_or}
use Rattle.std.specs.Prelude.{Option, Some}
use mathlib.Core.Option.{some, none}
use lib.ListN.{get_elem?}
use lib.Seq.{map-set}
use Rattle.atomic_table.specs.Table.{step, keeps, Allows}
use Rattle.atomic_table.proofs.Lists.{at_map}
use Rattle.sparse_poly.specs.Ideal.{IsProblem}
use Rattle.entry_code.specs.Entry.{Entry, entry_at}
use Rattle.entry_code.specs.Words.{words_of}
use Rattle.entry_code.proofs.Spellings.{count_words}
use Rattle.mora_law.specs.Ring.{ranks_of_problem, generators_of}
use Rattle.mora_law.specs.Legal.{Legal}
use Rattle.mora_law.proofs.Prefixes.{prefix_take, legal_prefix}
use Rattle.run_core.specs.declared.event.Event.TheVariants.{Look}
use Rattle.run_core.specs.State.{Seat, State}
use Rattle.run_core.specs.Effects.{learnt}
use Rattle.run_core.specs.Sound.{IsSound}
use Rattle.reducer_list.specs.View.{Setting, BodyReading, View, top}
use Rattle.reducer_list.specs.Rule.{Words, body, Lies, shown_by, seat_of, core, Fits, Kept}
use Rattle.reducer_list.specs.Steps.{Me, read_more, HasCounted, ReadWord, words_read, place_read, IsEntryOf, learnt_view, LearntWord, done_reading, RecalledWord}
use Rattle.reducer_list.proofs.Bodies.{get_front, lies_agree, lies_next, same_lists}
use Rattle.reducer_list.proofs.Frames.{Law, fits_now, kept_view, kept_sound}
use Rattle.reducer_list.proofs.Publishing.{begins_more}
use Rattle.reducer_list.proofs.Spellable.{Spells, spells}

-- the entry at a place within the list stands there
there_at : (es : List Entry) (i : ℕ) → i < length es → get_elem? es i ≡ some (entry_at es i)
there_at [] i l = absurd (omega arith)
there_at (x ∷ xs) zero l = refl
there_at (x ∷ xs) (suc i) l = there_at xs i (omega arith)

-- the first entries and the next
take_next : (es : List Entry) (i : ℕ) → i < length es → take (suc i) es ≡ take i es ++ entry_at es i ∷ []
take_next [] i l = absurd (omega arith)
take_next (x ∷ xs) zero l = refl
take_next (x ∷ xs) (suc i) l = ap (λ (es : List Entry). x ∷ es) (take_next xs i (omega arith))

-- the entry at a place of the first entries
entry_before : (es : List Entry) (n i : ℕ) → i < n → entry_at (take n es) i ≡ entry_at es i
entry_before [] zero i l = absurd (omega arith)
entry_before [] (suc n) i l = refl
entry_before (x ∷ xs) zero i l = absurd (omega arith)
entry_before (x ∷ xs) (suc n) zero l = refl
entry_before (x ∷ xs) (suc n) (suc i) l = entry_before xs n i (omega arith)

-- the first entries of a legal list are legal
begun_legal : (p : Setting) (s : Words) (k : Kept p s) (n : ℕ) → n ≤ length k.entries → Legal p.problem (take n k.entries)
begun_legal p s k n le = legal_prefix (ranks_of_problem p.problem) (generators_of p.problem) (take n k.entries) k.entries (prefix_take n k.entries le) k.sound.legal

-- what the rule says of a body that is being read
record BodyAt (p : Setting) (s : Words) (k : Kept p s) (r : BodyReading) : Type 0 where
  within : r.place < length k.entries
  lies : Lies s.words (body p r.chunk) (words_of (entry_at k.entries r.place))
  read : Lies s.words (body p r.chunk) r.words
  short : length r.words ≤ top p + 8
  told : Spells p.problem (entry_at k.entries r.place)

-- a view that reads a body has it
body_at : (p : Setting) (s : Words) (k : Kept p s) (v : View) (r : BodyReading) → IsProblem p.problem → Fits p k.entries k.heads s.words v → v.reading ≡ Some r → BodyAt p s k r
body_at p s k v r ok f reading =
    let t = f.reading r reading in
    let sp = k.spelled r.place (entry_at k.entries r.place) (there_at k.entries r.place t.0) in
    record {
      within = t.0;
      lies = subst (λ (n : ℕ). Lies s.words (body p n) (words_of (entry_at k.entries r.place))) t.1 sp.0;
      read = t.2;
      short = t.3;
      told = spells p.problem k.entries r.place ok k.sound.legal t.0 k.few;
    }

-- the second word and the third of a body are the numbers of readings and of terms
counts_read : (p : Setting) (s : Words) (k : Kept p s) (r : BodyReading) → BodyAt p s k r → 2 < length r.words → (get_or r.words 1 0 ≡ length (entry_at k.entries r.place).reads) × (get_or r.words 2 0 ≡ length (entry_at k.entries r.place).terms)
counts_read p s k r b many =
    let n = count_words (entry_at k.entries r.place) in (
      lies_agree s.words (body p r.chunk) r.words (words_of (entry_at k.entries r.place)) 1 b.read b.lies (omega arith) (omega (arith, n)),
      lies_agree s.words (body p r.chunk) r.words (words_of (entry_at k.entries r.place)) 2 b.read b.lies many (omega (arith, n, b.told.some, b.told.spellable.some_reads)),
    )

-- one word more of a body
abbrev next_reading : ℕ → BodyReading → BodyReading
next_reading x r = record r { words = r.words ++ x ∷ [] }

-- it stands there too
body_more : (p : Setting) (s : Words) (k : Kept p s) (r : BodyReading) → BodyAt p s k r → length r.words < top p + 8 → BodyAt p s k (next_reading (get_or s.words (body p r.chunk + length r.words) 0) r)
body_more p s k r b small = record {
  within = b.within;
  lies = b.lies;
  read = lies_next s.words (body p r.chunk) (get_or s.words (body p r.chunk + length r.words) 0) r.words refl b.read;
  short = omega (arith, length-append r.words (get_or s.words (body p r.chunk + length r.words) 0 ∷ []));
  told = b.told;
}

-- once as many words are read as the entry has, they are its words
all_read : (p : Setting) (s : Words) (k : Kept p s) (r : BodyReading) → BodyAt p s k r → 2 < length r.words → length r.words ≡ 3 + get_or r.words 1 0 + get_or r.words 2 0 → IsEntryOf p r.words (entry_at k.entries r.place)
all_read p s k r b many all =
    let e : Entry = entry_at k.entries r.place in
    let c = counts_read p s k r b many in
    let len : length (words_of e) ≡ length r.words = omega (arith, count_words e, c.0, c.1, all) in
    (same_lists (words_of e) r.words len (λ n less. lies_agree s.words (body p r.chunk) (words_of e) r.words n b.lies b.read less (omega (arith, less, len))), b.told.spellable)

-- where the next word stands
abbrev pub next_word : Setting → BodyReading → ℕ
next_word p r = body p r.chunk + length r.words

module _ (p : Setting) (slots id : ℕ) (me : Me) (r : BodyReading) (ok : IsProblem p.problem) (is : me.0.setting ≡ p) (full : me.0.seat.numbers ≢ []) (reading : me.0.reading ≡ Some r) (small : length r.words < top p + 8) where
  -- the view fits when it has read the next word
  reading_fits : (s : Words) (k : Kept p s) → Fits p k.entries k.heads s.words me.0 → Fits p k.entries k.heads s.words (record me.0 { reading = read_more (get_or s.words (next_word p r) 0) me.0.reading })
  reading_fits s k f =
      let b = body_more p s k r (body_at p s k me.0 r ok f reading) small in
      record {
        setting = f.setting;
        list = f.list;
        chunks = f.chunks;
        draft = f.draft;
        short = f.short;
        taken = f.taken;
        reading = (λ q e. let same : next_reading (get_or s.words (next_word p r) 0) r ≡ q = some_reading (sym (ap (read_more (get_or s.words (next_word p r) 0)) reading) ∙ e) in
            subst (λ (q : BodyReading). (q.place < length k.entries) × (get_or k.heads q.place 0 ≡ q.chunk) × Lies s.words (body p q.chunk) q.words × (length q.words ≤ top p + 8)) same (b.within, (f.reading r reading).1, b.read, b.short));
        joined = f.joined;
      }
    where
      some_reading : {a b : BodyReading} → Some a ≡ Some b → a ≡ b
      some_reading e = cc e

  -- the load of a word that isn't the last
  pub reads_more : Allows (Kept p) slots id me (next_word p r) (λ n. n) (ReadWord (step slots (next_word p r) 0 0 none) me)
  reads_more s k _ at _ =
      let f = fits_now p s k id me.0 at full in
      let found : ℕ = get_or s.words (next_word p r) 0 in
      let w : View = record me.0 { reading = read_more found me.0.reading } in (
        w,
        keeps,
        tt,
        kept_view p s k id me.0 w (set s.words (next_word p r) found) (set-get_or s.words (next_word p r) 0) at refl refl (reading_fits s k f),
        (
          refl,
          refl,
          subst (λ (x : Setting × Option BodyReading). HasCounted x.0 x.1) (λ i. (sym is i, sym (ap (read_more found) reading) i)) (counted s k f),
        ),
      )
    where
      counted : (s : Words) (k : Kept p s) → Fits p k.entries k.heads s.words me.0 → HasCounted p (Some (next_reading (get_or s.words (next_word p r) 0) r))
      counted s k f three =
          let b = body_more p s k r (body_at p s k me.0 r ok f reading) small in
          let c = counts_read p s k (next_reading (get_or s.words (next_word p r) 0) r) b (omega arith) in
          (omega (arith, c.0, b.told.spellable.some_reads), omega (arith, c.1, b.told.some), omega (arith, c.0, c.1, b.told.few))

module _ (p : Setting) (slots id : ℕ) (me : Me) (r : BodyReading) (ok : IsProblem p.problem) (is : me.0.setting ≡ p) (full : me.0.seat.numbers ≢ []) (reading : me.0.reading ≡ Some r) (small : length r.words < top p + 8) (many : 2 < length r.words) (last : length r.words ≡ 2 + get_or r.words 1 0 + get_or r.words 2 0) where
  -- with the last word the words are those of the entry
  whole : (s : Words) (k : Kept p s) → Fits p k.entries k.heads s.words me.0 → IsEntryOf p (r.words ++ get_or s.words (next_word p r) 0 ∷ []) (entry_at k.entries r.place)
  whole s k f =
      let x : ℕ = get_or s.words (next_word p r) 0 in
      let b = body_more p s k r (body_at p s k me.0 r ok f reading) small in
      let n = length-append r.words (x ∷ []) in
      let one = get_front r.words (x ∷ []) 1 (omega arith) in
      let two = get_front r.words (x ∷ []) 2 many in
      all_read p s k (next_reading x r) b (omega (arith, n, many)) (omega (arith, n, last, one, two))

  -- so they are as the view has them
  words_are : (s : Words) (k : Kept p s) → Fits p k.entries k.heads s.words me.0 → IsEntryOf p (words_read me.0.reading ++ get_or s.words (next_word p r) 0 ∷ []) (entry_at k.entries r.place)
  words_are s k f = subst (λ (o : Option BodyReading). IsEntryOf p (words_read o ++ get_or s.words (next_word p r) 0 ∷ []) (entry_at k.entries r.place)) (sym reading) (whole s k f)

  -- the load of the last word of the entry behind what is known
  pub learns : Law → r.place ≡ me.0.seat.known → Allows (Kept p) slots id me (next_word p r) (λ n. n) (LearntWord (step slots (next_word p r) 0 0 none) me)
  learns law place s k _ at _ =
      let v : View = me.0 in
      let found : ℕ = get_or s.words (next_word p r) 0 in
      let f = fits_now p s k id v at full in
      let less : v.seat.known < length k.entries = subst (λ (n : ℕ). n < length k.entries) place (f.reading r reading).0 in
      let e : Entry = entry_at k.entries v.seat.known in
      let w : View = learnt_view e v in
      let now : State = shown_by p k.entries s in
      let next : State = record now { seats = set (map seat_of s.views) id (learnt v.seat) } in
      let sound : IsSound (core p k.entries (get_or s.words 0 0) (get_or s.words 1 0) (set s.views id w)) =
      subst (λ (l : List Seat). IsSound (record now { seats = l })) (sym (map-set seat_of s.views id w)) (law now next id Look k.sound (v.seat, at_map seat_of s.views id v at, full, inl (less, refl)))
      in
      let list : v.list ++ e ∷ [] ≡ take (suc v.seat.known) k.entries = ap (λ (l : List Entry). l ++ e ∷ []) f.list ∙ sym (take_next k.entries v.seat.known less) in (
        w,
        keeps,
        tt,
        kept_sound p s k id v w (set s.words (next_word p r) found) (set-get_or s.words (next_word p r) 0) at refl
            record {
              setting = f.setting;
              list = list;
              chunks = f.chunks;
              draft = f.draft;
              short = f.short;
              taken = (λ c e'. absurd (cc));
              reading = (λ q e'. absurd (cc));
              joined = begins_more v.joined v.list e f.joined;
            }
            sound,
        (refl, (e, subst (λ (x : Setting × Entry). IsEntryOf x.0 (words_read v.reading ++ found ∷ []) x.1) (λ i. (sym is i, entry_at k.entries (place i))) (words_are s k f), refl, subst (λ (x : Setting × List Entry). Legal x.0.problem x.1) (λ i. (sym is i, sym list i)) (begun_legal p s k (suc v.seat.known) (omega arith)))),
      )

  -- the load of the last word of an entry that is known
  pub recalls : r.place < me.0.seat.known → Allows (Kept p) slots id me (next_word p r) (λ n. n) (RecalledWord (step slots (next_word p r) 0 0 none) me)
  recalls less s k _ at _ =
      let v : View = me.0 in
      let found : ℕ = get_or s.words (next_word p r) 0 in
      let f = fits_now p s k id v at full in
      let there : entry_at k.entries r.place ≡ entry_at v.list (place_read v.reading) =
      sym (entry_before k.entries v.seat.known r.place less) ∙ (λ i. entry_at (sym f.list i) (place_read (sym reading i)))
      in (
        done_reading v,
        keeps,
        tt,
        kept_view p s k id v (done_reading v) (set s.words (next_word p r) found) (set-get_or s.words (next_word p r) 0) at refl refl
            record {
              setting = f.setting;
              list = f.list;
              chunks = f.chunks;
              draft = f.draft;
              short = f.short;
              taken = f.taken;
              reading = (λ q e. absurd (cc));
              joined = f.joined;
            },
        (refl, refl, subst (λ (x : Setting × Entry). IsEntryOf x.0 (words_read v.reading ++ found ∷ []) x.1) (λ i. (sym is i, there i)) (words_are s k f)),
      )
