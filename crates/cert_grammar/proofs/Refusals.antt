-- What reading a text answers: the certificate that it is, or the line at which it goes wrong.
use Rattle.std.proofs.Common.{◌≡◌, ℕ, ◌+◌, List, [], ◌∷◌, ◌++◌, length, Ok, Err, refl, sym, ◌∙◌, ap, subst, ◌⊎◌, inl, inr, ⊎_elim, append_assoc, arith, length-append}
use Rattle.std.proofs.lemmas.List.{append-nil}
use Rattle.cert_grammar.specs.Lines.{Line, line_text, text, IsLine, AreLines, lines_of}
use Rattle.cert_grammar.specs.Blocks.{Block}
use Rattle.cert_grammar.specs.Cert.{cert_lines, cert_text, IsCert}
use Rattle.cert_grammar.specs.Reading.{◌>>=◌, cert_at, all_read, cert_of, read_text, line_number}
use Rattle.cert_grammar.specs.Form.{IsCertText, BeginsCert, IsFormLine}
use Rattle.cert_grammar.proofs.Tools.{bind_ok, bind_err, err_ok, ok_same}
use Rattle.cert_grammar.proofs.Forms.{Refused}
use Rattle.cert_grammar.proofs.Whole.{cert_form}
use Rattle.cert_grammar.proofs.Texts.{one_line_again, lines_again, BeginsWith, BeginsWithLine, one_line_there, lines_there, no_lines}

-- ---- lists
-- no line is left behind nothing
pub lines-front : (a b : List Line) → AreLines (a ++ b) → AreLines a
lines-front [] b h = tt
lines-front (l ∷ a) b h = (h.0, lines-front a b h.1)

-- the last of some lines are lines
pub lines-back : (a b : List Line) → AreLines (a ++ b) → AreLines b
lines-back [] b h = h
lines-back (l ∷ a) b h = lines-back a b h.1

-- the text of lines and lines
pub text-append : (a b : List Line) → text (a ++ b) ≡ text a ++ text b
text-append [] b = refl
text-append (l ∷ a) b = ap (λ (z : List ℕ). line_text l ++ z) (text-append a b) ∙ sym (append_assoc (line_text l) (text a) (text b))

-- some line is not none
cons_nil : (l : Line) (ls : List Line) → l ∷ ls ≡ [] → ⊥
cons_nil l ls e = cc

-- ---- beginnings
-- the lines with which a certificate begins are lines
begun_lines : (good : List Line) → BeginsCert good → AreLines good
begun_lines good b = lines-front good b.more (subst AreLines b.begins (cert_form.plain b.blocks b.is))

-- a beginning of a beginning
begun_front : (a b : List Line) → BeginsCert (a ++ b) → BeginsCert a
begun_front a b h = record { blocks = h.blocks; is = h.is; more = b ++ h.more; begins = h.begins ∙ append_assoc a b h.more }

-- what begins a certificate and one line more is read through that line
begun_read : (good : List Line) (l : Line) (b : BeginsCert (good ++ l ∷ [])) → cert_at (good ++ l ∷ b.more) ≡ Ok (b.blocks, [])
begun_read good l b =
    ap cert_at (sym (append_assoc good (l ∷ []) b.more) ∙ sym b.begins ∙ sym (append-nil (cert_lines b.blocks))) ∙ cert_form.only b.blocks [] b.is

-- a certificate goes on with no line
pub not_ended : (c : List Block) (k : Line) (b : BeginsCert (cert_lines c ++ k ∷ [])) → IsCert c → ⊥
not_ended c k b is =
    let q : (c, k ∷ b.more) ≡ (b.blocks, []) = ok_same (cert_at (cert_lines c ++ k ∷ b.more)) _ _ (cert_form.only c (k ∷ b.more) is) (begun_read (cert_lines c) k b) in
    cons_nil k b.more (ap (λ (z : List Block × List Line). z.1) q)

-- ---- what is read
-- what is read is a certificate, and the bytes are its text
pub read_found : (bytes : List ℕ) (blocks : List Block) → read_text bytes ≡ Ok blocks → IsCert blocks × (bytes ≡ cert_text blocks)
read_found bytes blocks e =
    let b : (x : List Block × List Line) × (cert_at (lines_of bytes) ≡ Ok x) × (all_read x ≡ Ok blocks) = bind_ok (cert_at (lines_of bytes)) all_read blocks e in
    let f : IsCert b.0.0 × (lines_of bytes ≡ cert_lines b.0.0 ++ b.0.1) = cert_form.found (lines_of bytes) b.0 b.1 in
    go b.0 b.2 f
  where
    go : (x : List Block × List Line) → all_read x ≡ Ok blocks → IsCert x.0 × (lines_of bytes ≡ cert_lines x.0 ++ x.1) → IsCert blocks × (bytes ≡ cert_text blocks)
    go (c, l ∷ ls) p f = absurd (cc)
    go (c, []) p f =
        let q : c ≡ blocks = cc in
        let t : BeginsWith bytes (cert_lines c) [] = lines_there bytes (cert_lines c) [] (cert_form.plain c f.0) f.1 in
        subst (λ (z : List Block). IsCert z × (bytes ≡ cert_text z)) q
        (f.0, t.split ∙ ap (λ (z : List ℕ). cert_text c ++ z) (no_lines t.rest t.behind) ∙ append-nil (cert_text c))

-- a certificate is read from its text
pub read_only : (blocks : List Block) → IsCert blocks → read_text (cert_text blocks) ≡ Ok blocks
read_only blocks is =
    ap (λ (z : List ℕ). read_text z) (sym (append-nil (cert_text blocks)))
    ∙ ap cert_of (lines_again (cert_lines blocks) [] (cert_form.plain blocks is))
    ∙ ap (λ z. z >>= all_read) (cert_form.only blocks [] is)

-- where reading is refused the bytes are no certificate
pub read_none : (bytes : List ℕ) (after : List Line) → read_text bytes ≡ Err after → IsCertText bytes → ⊥
read_none bytes after e t = err_ok (read_text (cert_text t.blocks)) after t.blocks (ap read_text (sym t.spelled) ∙ e) (read_only t.blocks t.is)

-- ---- where it is refused
-- the lines before, and what is behind them
record Stops (bytes : List ℕ) (after : List Line) : Type 0 where
  good : List Line
  split : lines_of bytes ≡ good ++ after
  begun : BeginsCert good
  no_more : (l : Line) (more : List Line) → after ≡ l ∷ more → BeginsCert (good ++ l ∷ []) → ⊥

-- where reading is refused, the lines before begin a certificate and no certificate goes on with the next
stops : (bytes : List ℕ) (after : List Line) → read_text bytes ≡ Err after → Stops bytes after
stops bytes after e = ⊎_elim refused rest (bind_err (cert_at (lines_of bytes)) all_read after e)
  where
    refused : cert_at (lines_of bytes) ≡ Err after → Stops bytes after
    refused p =
        let r : Refused IsCert cert_lines cert_at (lines_of bytes) after = cert_form.first (lines_of bytes) after p in
        record {
          good = r.good;
          split = r.split;
          begun = record { blocks = r.value; is = r.is; more = r.more; begins = r.begun };
          no_more = λ l more q b. err_ok (cert_at (r.good ++ l ∷ b.more)) (l ∷ b.more) (b.blocks, []) (r.dead l more b.more q) (begun_read r.good l b);
        }

    rest : (x : List Block × List Line) × (cert_at (lines_of bytes) ≡ Ok x) × (all_read x ≡ Err after) → Stops bytes after
    rest ((c, []), p, q) = absurd (cc)
    rest ((c, l ∷ ls), p, q) =
        let f : IsCert c × (lines_of bytes ≡ cert_lines c ++ l ∷ ls) = cert_form.found (lines_of bytes) (c, l ∷ ls) p in
        let alike : l ∷ ls ≡ after = cc in
        record {
          good = cert_lines c;
          split = f.1 ∙ ap (λ (z : List Line). cert_lines c ++ z) alike;
          begun = record { blocks = c; is = f.0; more = []; begins = sym (append-nil (cert_lines c)) };
          no_more = λ k more u b. not_ended c k b f.0;
        }

-- the line at which reading is refused is the one at which the bytes go wrong
pub read_line_number : (bytes : List ℕ) (after : List Line) → read_text bytes ≡ Err after → IsFormLine bytes (line_number bytes after)
read_line_number bytes after e =
    let s : Stops bytes after = stops bytes after e in
    let t : BeginsWith bytes s.good after = lines_there bytes s.good after (begun_lines s.good s.begun) s.split in
    record {
      good = s.good;
      rest = t.rest;
      split = t.split;
      begun = s.begun;
      none = read_none bytes after e;
      number = let q : length (lines_of bytes) ≡ length s.good + length after = ap length s.split ∙ length-append s.good after in omega (arith, q);
      no_more = λ l other p b.
          let is : IsLine l = (lines-back s.good (l ∷ []) (begun_lines (s.good ++ l ∷ []) b)).0 in
          let u : after ≡ l ∷ lines_of other =
          sym t.behind ∙ ap lines_of (p ∙ ap (λ (z : List ℕ). z ++ other) (append-nil (line_text l))) ∙ one_line_again l other is in
          s.no_more l (lines_of other) u b;
    }

-- ---- one certificate, one line
-- a text is that of one certificate
pub one_cert : (a b : List Block) → IsCert a → IsCert b → cert_text a ≡ cert_text b → a ≡ b
one_cert a b ha hb e =
    ok_same (read_text (cert_text a)) a b (read_only a ha) (ap read_text e ∙ read_only b hb)

-- of two beginnings of a list one begins the other
record GoesOn (a b x : List Line) : Type 0 where
  front : Line
  more : List Line
  back : List Line
  is : b ≡ a ++ front ∷ more
  left : x ≡ front ∷ back

-- of two beginnings of some lines one goes on as the other
compared : (a b x y : List Line) → a ++ x ≡ b ++ y → (a ≡ b) ⊎ (GoesOn a b x ⊎ GoesOn b a y)
compared [] [] x y e = inl refl
compared [] (l ∷ b) x y e = inr (inl (record { front = l; more = b; back = b ++ y; is = refl; left = e }))
compared (l ∷ a) [] x y e = inr (inr (record { front = l; more = a; back = a ++ x; is = refl; left = sym e }))
compared (l ∷ a) (m ∷ b) x y e =
    let p : l ≡ m = cc in
    let q : a ++ x ≡ b ++ y = cc in
    ⊎_elim
    (λ (r : a ≡ b). inl (ap (λ (z : Line). z ∷ a) p ∙ ap (λ (z : List Line). m ∷ z) r))
    (λ r. inr (⊎_elim
    (λ (g : GoesOn a b x). inl (record { front = g.front; more = g.more; back = g.back; is = ap (λ (z : Line). z ∷ b) (sym p) ∙ ap (λ (z : List Line). l ∷ z) g.is; left = g.left }))
    (λ (g : GoesOn b a y). inr (record { front = g.front; more = g.more; back = g.back; is = ap (λ (z : Line). z ∷ a) p ∙ ap (λ (z : List Line). m ∷ z) g.is; left = g.left })) r))
    (compared a b x y q)

-- nothing goes on with the lines before the one at which a text goes wrong
no_longer : (bytes : List ℕ) (L : ℕ) (f : IsFormLine bytes L) (b : List Line) → BeginsCert b → GoesOn f.good b (lines_of f.rest) → ⊥
no_longer bytes L f b h g =
    let begun : BeginsCert (f.good ++ g.front ∷ []) = begun_front (f.good ++ g.front ∷ []) g.more (subst BeginsCert (g.is ∙ sym (append_assoc f.good (g.front ∷ []) g.more)) h) in
    go g.front begun g.left
  where
    go : (l : Line) → BeginsCert (f.good ++ l ∷ []) → lines_of f.rest ≡ l ∷ g.back → ⊥
    go [] begun left = elim (lines-back f.good ([] ∷ []) (begun_lines (f.good ++ [] ∷ []) begun)).0 [ ]
    go (w ∷ ws) begun left =
        let r : BeginsWithLine f.rest (w ∷ ws) g.back = one_line_there f.rest w ws g.back left in
        f.no_more (w ∷ ws) r.rest (r.split ∙ ap (λ (z : List ℕ). z ++ r.rest) (sym (append-nil (line_text (w ∷ ws))))) begun

-- a text goes wrong at one line
pub one_form_line : (bytes : List ℕ) (L M : ℕ) → IsFormLine bytes L → IsFormLine bytes M → L ≡ M
one_form_line bytes L M f g =
    ⊎_elim
    (λ (p : f.good ≡ g.good). f.number ∙ ap (λ (z : List Line). length z + 1) p ∙ sym g.number)
    (λ r. absurd (⊎_elim (no_longer bytes L f g.good g.begun) (no_longer bytes M g f.good f.begun) r))
    (compared f.good g.good (lines_of f.rest) (lines_of g.rest) (sym (lines_are f.good f.rest f.begun f.split) ∙ lines_are g.good g.rest g.begun g.split))
  where
    lines_are : (good : List Line) (rest : List ℕ) → BeginsCert good → bytes ≡ text good ++ rest → lines_of bytes ≡ good ++ lines_of rest
    lines_are good rest b s = ap lines_of s ∙ lines_again good rest (begun_lines good b)
