-- What a certificate without its last bytes, or with bytes behind it, answers: no more lines are in order than are whole.
use Rattle.std.proofs.Common.{◌≡◌, ◌≢◌, ℕ, suc, ◌+◌, Bool, true, false, List, [], ◌∷◌, ◌++◌, length, refl, sym, ◌∙◌, ap, subst, ◌⊎◌, inl, inr, ⊎_elim, append_assoc, arith}
use Rattle.std.specs.Prelude.{not, ◌==◌, ◌&&◌, if◌then◌else◌}
use Rattle.std.specs.List.{join_with_byte}
use Rattle.std.proofs.lemmas.List.{append-nil}
use Rattle.cert_grammar.specs.Lines.{Word, Line, line_text, text, is_plain, IsLine, AreLines, lines_of}
use Rattle.cert_grammar.specs.Blocks.{Block}
use Rattle.cert_grammar.specs.Cert.{cert_lines, cert_text, IsCert}
use Rattle.cert_grammar.specs.Reading.{cert_at}
use Rattle.cert_grammar.specs.Form.{IsCertText, IsFormLine, line_count}
use Rattle.cert_grammar.proofs.Tools.{ok_same, and_true}
use Rattle.cert_grammar.proofs.Whole.{cert_form}
use Rattle.cert_grammar.proofs.Texts.{lines_again, no_lines}
use Rattle.cert_grammar.proofs.Refusals.{text-append, not_ended, lines-back}

-- ---- counting lines
-- the ends of lines of two texts are those of both
count-append : (a b : List ℕ) → line_count (a ++ b) ≡ line_count a + line_count b
count-append [] b = omega arith
count-append (x ∷ a) b = go (x == 10) (count-append a b)
  where
    go : (c : Bool) → line_count (a ++ b) ≡ line_count a + line_count b → (if c then suc (line_count (a ++ b)) else line_count (a ++ b)) ≡ (if c then suc (line_count a) else line_count a) + line_count b
    go true e = omega arith
    go false e = e

-- a word has no end of a line
count-word : (w : Word) → is_plain w ≡ true → line_count w ≡ 0
count-word [] h = refl
count-word (b ∷ w) h =
    let p : (not (b == 32) ≡ true) × ((not (b == 10) && is_plain w) ≡ true) = and_true (not (b == 32)) (not (b == 10) && is_plain w) h in
    let q : (not (b == 10) ≡ true) × (is_plain w ≡ true) = and_true (not (b == 10)) (is_plain w) p.1 in
    ap (λ c. if c then suc (line_count w) else line_count w) (not_true (b == 10) q.0) ∙ count-word w q.1
  where
    not_true : (b : Bool) → not b ≡ true → b ≡ false
    not_true true e = absurd (cc)
    not_true false e = refl

-- words have no end of a line
count-words : (w : Word) (ws : List Word) → IsLine (w ∷ ws) → line_count (join_with_byte 32 (w ∷ ws)) ≡ 0
count-words w [] h = count-word w h.0
count-words w (v ∷ ws) h =
    let p : line_count (join_with_byte 32 (v ∷ ws)) ≡ 0 = count-words v ws h.1 in
    let q : line_count w ≡ 0 = count-word w h.0 in
    let r : line_count (w ++ (32 ∷ join_with_byte 32 (v ∷ ws))) ≡ line_count w + line_count (32 ∷ join_with_byte 32 (v ∷ ws)) = count-append w (32 ∷ join_with_byte 32 (v ∷ ws)) in
    r ∙ ap (λ n. n + line_count (join_with_byte 32 (v ∷ ws))) q ∙ (let s : 0 + line_count (join_with_byte 32 (v ∷ ws)) ≡ 0 = omega (arith, p) in s)

-- a line without its end has none
count-join : (l : Line) → IsLine l → line_count (join_with_byte 32 l) ≡ 0
count-join [] h = elim h [ ]
count-join (w ∷ ws) h = count-words w ws h

-- a line has one end
count-line : (l : Line) → IsLine l → line_count (line_text l) ≡ 1
count-line l h = count-append (join_with_byte 32 l) (10 ∷ []) ∙ ap (λ n. n + 1) (count-join l h)

-- a text has as many ends as lines
pub count-text : (ls : List Line) → AreLines ls → line_count (text ls) ≡ length ls
count-text [] h = refl
count-text (l ∷ ls) h =
    let p : line_count (line_text l) ≡ 1 = count-line l h.0 in
    let q : line_count (text ls) ≡ length ls = count-text ls h.1 in
    let r : line_count (line_text l ++ text ls) ≡ line_count (line_text l) + line_count (text ls) = count-append (line_text l) (text ls) in
    r ∙ ap (λ n. n + line_count (text ls)) p ∙ (let s : 1 + line_count (text ls) ≡ length (l ∷ ls) = omega (arith, q) in s)

-- ---- bytes behind a certificate
-- a certificate with bytes behind it is none
tail_none : (c : List Block) (v : List ℕ) → IsCert c → v ≢ [] → IsCertText (cert_text c ++ v) → ⊥
tail_none c v is some t =
    let both_read : (c, lines_of v) ≡ (t.blocks, []) =
    ok_same (cert_at (lines_of (cert_text c ++ v))) (c, lines_of v) (t.blocks, [])
    (ap cert_at (lines_again (cert_lines c) v (cert_form.plain c is)) ∙ cert_form.only c (lines_of v) is)
    (ap (λ (z : List ℕ). cert_at (lines_of z)) (t.spelled ∙ sym (append-nil (cert_text t.blocks))) ∙ ap cert_at (lines_again (cert_lines t.blocks) [] (cert_form.plain t.blocks t.is)) ∙ cert_form.only t.blocks [] t.is) in
    some (no_lines v (ap (λ (z : List Block × List Line). z.1) both_read))

-- a certificate with bytes behind it goes wrong behind its last line
pub with_tail : (t v : List ℕ) → IsCertText t → v ≢ [] → IsFormLine (t ++ v) (line_count t + 1)
with_tail t v h some =
    let plain : AreLines (cert_lines h.blocks) = cert_form.plain h.blocks h.is in
    record {
      good = cert_lines h.blocks;
      rest = v;
      split = ap (λ (z : List ℕ). z ++ v) h.spelled;
      number = ap (λ n. n + 1) (ap line_count h.spelled ∙ count-text (cert_lines h.blocks) plain);
      begun = record { blocks = h.blocks; is = h.is; more = []; begins = sym (append-nil (cert_lines h.blocks)) };
      no_more = λ l other p b. not_ended h.blocks l b h.is;
      none = λ k. tail_none h.blocks v h.is some (subst (λ (z : List ℕ). IsCertText (z ++ v)) h.spelled k);
    }

-- ---- a certificate without its last bytes
record Longer (a c : List ℕ) (b d : List ℕ) : Type 0 where
  by : List ℕ
  is : a ≡ c ++ by
  left : by ++ b ≡ d

record Shorter (a c : List ℕ) (b : List ℕ) : Type 0 where
  by : List ℕ
  is : c ≡ a ++ by
  some : by ≢ []

-- of two beginnings of a text one goes on as the other
compared_bytes : (a b c d : List ℕ) → a ++ b ≡ c ++ d → Longer a c b d ⊎ Shorter a c b
compared_bytes a b [] d e = inl (record { by = a; is = refl; left = e })
compared_bytes [] b (x ∷ c) d e = inr (record { by = x ∷ c; is = refl; some = λ q. cc })
compared_bytes (y ∷ a) b (x ∷ c) d e =
    let p : y ≡ x = cc in
    let q : a ++ b ≡ c ++ d = cc in
    ⊎_elim
    (λ (l : Longer a c b d). inl (record { by = l.by; is = ap (λ z. z ∷ a) p ∙ ap (λ (z : List ℕ). x ∷ z) l.is; left = l.left }))
    (λ (s : Shorter a c b). inr (record { by = s.by; is = ap (λ z. z ∷ c) (sym p) ∙ ap (λ (z : List ℕ). y ∷ z) s.is; some = s.some }))
    (compared_bytes a b c d q)

-- whole lines, and a part of the next
record Cuts (u : List ℕ) (ls : List Line) : Type 0 where
  good : List Line
  l : Line
  more : List Line
  rest : List ℕ
  tail : List ℕ
  is : ls ≡ good ++ l ∷ more
  split : u ≡ text good ++ rest
  part : line_text l ≡ rest ++ tail
  some : tail ≢ []

-- a text that is cut ends in one of its lines
cut_of : (ls : List Line) (u v : List ℕ) → u ++ v ≡ text ls → v ≢ [] → Cuts u ls
cut_of [] u v e some = absurd (some (no_bytes u v e))
  where
    no_bytes : (u v : List ℕ) → u ++ v ≡ [] → v ≡ []
    no_bytes [] v e = e
    no_bytes (x ∷ u) v e = absurd (cc)
cut_of (l ∷ ls) u v e some = go (cut_of ls) (compared_bytes u v (line_text l) (text ls) e)
  where
    go : ((u v : List ℕ) → u ++ v ≡ text ls → v ≢ [] → Cuts u ls) → Longer u (line_text l) v (text ls) ⊎ Shorter u (line_text l) v → Cuts u (l ∷ ls)
    go again (inl k) =
        let r : Cuts k.by ls = again k.by v k.left some in
        record {
          good = l ∷ r.good;
          l = r.l;
          more = r.more;
          rest = r.rest;
          tail = r.tail;
          is = ap (λ (z : List Line). l ∷ z) r.is;
          split = k.is ∙ ap (λ (z : List ℕ). line_text l ++ z) r.split ∙ sym (append_assoc (line_text l) (text r.good) r.rest);
          part = r.part;
          some = r.some;
        }
    go again (inr k) = record { good = []; l = l; more = ls; rest = u; tail = k.by; is = refl; split = refl; part = k.is; some = k.some }

-- a part of a line has no end
no_end : (l : Line) (rest tail : List ℕ) → IsLine l → line_text l ≡ rest ++ tail → tail ≢ [] → line_count rest ≡ 0
no_end l rest tail h e some =
    ⊎_elim
    (λ (k : Longer (join_with_byte 32 l) rest (10 ∷ []) tail).
    let p : line_count rest + line_count k.by ≡ 0 = sym (count-append rest k.by) ∙ ap line_count (sym k.is) ∙ count-join l h in omega (arith, p))
    (λ (k : Shorter (join_with_byte 32 l) rest (10 ∷ [])).
    let p : k.by ++ tail ≡ 10 ∷ [] = same_front (join_with_byte 32 l) (k.by ++ tail) (10 ∷ []) (sym (append_assoc (join_with_byte 32 l) k.by tail) ∙ ap (λ (z : List ℕ). z ++ tail) (sym k.is) ∙ sym e) in
    absurd (nothing k.by tail p k.some some))
    (compared_bytes (join_with_byte 32 l) (10 ∷ []) rest tail e)
  where
    same_front : (a b c : List ℕ) → a ++ b ≡ a ++ c → b ≡ c
    same_front [] b c e = e
    same_front (x ∷ a) b c e = same_front a b c (cc)

    nothing : (a b : List ℕ) → a ++ b ≡ 10 ∷ [] → a ≢ [] → b ≢ [] → ⊥
    nothing [] b e h k = h refl
    nothing (x ∷ []) b e h k = k (cc)
    nothing (x ∷ y ∷ a) b e h k = cc

-- a certificate without its last bytes goes wrong behind its whole lines
pub without_end : (u v : List ℕ) → IsCertText (u ++ v) → v ≢ [] → IsFormLine u (line_count u + 1)
without_end u v h some =
    let c : Cuts u (cert_lines h.blocks) = cut_of (cert_lines h.blocks) u v h.spelled some in
    let plain : AreLines (c.good ++ c.l ∷ c.more) = subst AreLines c.is (cert_form.plain h.blocks h.is) in
    let line : IsLine c.l = (lines-back c.good (c.l ∷ c.more) plain).0 in
    let zero_ends : line_count c.rest ≡ 0 = no_end c.l c.rest c.tail line c.part c.some in
    record {
      good = c.good;
      rest = c.rest;
      split = c.split;
      number = (let p : line_count u ≡ line_count (text c.good) + line_count c.rest = ap line_count c.split ∙ count-append (text c.good) c.rest in
          let q : line_count (text c.good) ≡ length c.good = count-text c.good (Rattle.cert_grammar.proofs.Refusals.lines-front c.good (c.l ∷ c.more) plain) in omega (arith, p, q, zero_ends));
      begun = record { blocks = h.blocks; is = h.is; more = c.l ∷ c.more; begins = c.is };
      no_more = λ l other p b.
          let q : line_count c.rest ≡ line_count (text (l ∷ [])) + line_count other = ap line_count p ∙ count-append (text (l ∷ [])) other in
          let r : line_count (text (l ∷ [])) ≡ line_count (join_with_byte 32 l ++ 10 ∷ []) = ap line_count (append-nil (line_text l)) in
          let s : line_count (join_with_byte 32 l ++ 10 ∷ []) ≡ line_count (join_with_byte 32 l) + 1 = count-append (join_with_byte 32 l) (10 ∷ []) in
          omega (arith, q, r, s, zero_ends);
      none = λ k. tail_none k.blocks v k.is some (subst (λ (z : List ℕ). IsCertText (z ++ v)) k.spelled h);
    }
