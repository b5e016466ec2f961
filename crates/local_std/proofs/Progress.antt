-- A script is answered command by command. What was written of its certificate is the beginning of one that is due, since there is
-- something to certify of each command that is left; so a call that stops has written a part of it.
use Rattle.std.proofs.Common.{◌≡◌, ℕ, zero, suc, ◌+◌, ◌<◌, ◌≤◌, List, [], ◌∷◌, ◌++◌, length, take, drop, get_or, Bool, true, false, Option, Some, Result, Ok, Err, codes, refl, sym, ◌∙◌, ap, subst, arith, length-append, length-take-le}
use Rattle.std.specs.Prelude.{slice_get, All, IfOk, string_bytes}
use Rattle.std.specs.Bool.{OnTrue, OnFalse}
use Rattle.std.specs.List.{AllByRecursion, AllZip}
use Rattle.std.specs.Io.KnownBytes.{Appends}
use Rattle.std.proofs.KnownBytes.{Appends-trans}
use Rattle.std.proofs.lemmas.Slice.Zip.{AllZip-long}
use Rattle.std.proofs.Math.Seq.{take-append_seam}
use Rattle.std.proofs.lemmas.List.{append-nil, take_all, take-append-drop}
use Rattle.std.proofs.lemmas.List.Elements.{All-nil, All-cons, All-drop}
use Rattle.std.proofs.lemmas.Option.{slice_get_within, get_or_from_slice_get}
use Rattle.script_grammar.specs.declared.script.Command.{Command}
use Rattle.script_grammar.specs.declared.script.Script.{Script}
use Rattle.script_grammar.specs.Limits.{max_commands}
use Rattle.ring_reader.specs.Coherent.{IsCoherent, BelongsTo}
use Rattle.sparse_poly.specs.Ideal.{Problem, Fits}
use Rattle.text_out.specs.declared.answer.Answer.{Answer}
use Rattle.text_out.specs.declared.answer.Answer.TheVariants as answers
use Rattle.text_out.specs.Block.{block}
use Rattle.staircase.proofs.Staircases.{none_missing}
use Rattle.cert_grammar.specs.Lines.{line_text, text}
use Rattle.cert_grammar.specs.Cert.{head_line, numbered, block_lines}
use Rattle.cert_grammar.specs.declared.certified.Certified.{Certified}
use Rattle.cert_grammar.specs.Certified.{IsCertified, block_of, certificate_text}
use Rattle.cert_write.specs.declared.error.CertWriteError.{CertWriteError}
use Rattle.cert_write.specs.declared.error.CertWriteError.TheVariants.{Memory}
use Rattle.cert_write.specs.Writes.{WritesOrStops}
use Rattle.cert_write.proofs.Stopping.{stops_then, stops_within}
use Rattle.local_std.specs.declared.block.Blocks.{Blocks}
use Rattle.local_std.specs.declared.outcome.Status.{Status}
use Rattle.local_std.specs.declared.solved.Solved.{Solved}
use Rattle.local_std.specs.Solved.{IsSolved, IsPlaceOf, claim_of}
use Rattle.local_std.specs.Answer.{problem_of, IsAnswerOf, IsBlock, AreBlocks, IsCertificate, Certifies, Solves, AllFit, SomeIsSmall}
use Rattle.local_std.specs.Answered.{AreAnswered, Answers, status_of}
use Rattle.local_std.proofs.Prefixes.{first_and_next}
use Rattle.local_std.proofs.Blocks.{IsFitting, IsSmall, all_done}
use Rattle.local_std.proofs.Certificates.{certified_for, certifies, zip_append, all_append, begun_text, rest_text, certificate_split, begun_more, rest_last}
use Rattle.local_std.proofs.Existence.{some_claim}
use Rattle.local_std.proofs.Dues.{solves}

-- ---- claims of all commands
-- What is certified of a command makes its block of the answer.
claimed_block : (s : Script) (index : ℕ) (c : Command) (x : Certified) → Certifies s c x → (text : List ℕ) × IsBlock s index c text
claimed_block s index c x h =
    (block index s.names c x.answer, record { answer = x.answer; answers = subst (λ (P : Problem). IsAnswerOf P x.answer) h.problem h.answer; spelled = refl })

-- What is certified of some commands makes their blocks.
claimed_blocks : (s : Script) (i : ℕ) (cs : List Command) (xs : List Certified) → AllZip (Certifies s) cs xs → (text : List ℕ) × AreBlocks s i cs text
claimed_blocks s i [] [] h = ([], refl)
claimed_blocks s i [] (x ∷ xs) h = absurd h
claimed_blocks s i (c ∷ cs) [] h = absurd h
claimed_blocks s i (c ∷ cs) (x ∷ xs) h =
    let one = claimed_block s i c x h.0 in
    let rest = claimed_blocks s (i + 1) cs xs h.1 in
    (one.0 ++ rest.0, (one.0, rest.0, one.1, rest.1, refl))

-- whether the degree fits for some commands, as a flag says
abbrev IsTold : Script → List Command → Bool → Type 0
IsTold s cs fits = OnTrue fits (AllFit s cs) × OnFalse fits (SomeIsSmall s cs)

-- An answer tells whether the degree fits.
answer_tells : (P : Problem) (a : Answer) → IsAnswerOf P a → (fits : Bool) × OnTrue fits (Fits P) × OnFalse fits (Fits P → ⊥)
answer_tells P (answers.Fits basis stair) h = (true, h.0, tt)
answer_tells P (answers.TooSmall m) h = (false, tt, λ f. none_missing P m f h)

-- So do claims of some commands.
claims_tell : (s : Script) (cs : List Command) (xs : List Certified) → AllZip (Certifies s) cs xs → (fits : Bool) × IsTold s cs fits
claims_tell s [] [] h = (true, (All-nil (IsFitting s), tt))
claims_tell s [] (x ∷ xs) h = absurd h
claims_tell s (c ∷ cs) [] h = absurd h
claims_tell s (c ∷ cs) (x ∷ xs) h = go (answer_tells (problem_of s c) x.answer (subst (λ (P : Problem). IsAnswerOf P x.answer) h.0.problem h.0.answer)) (claims_tell s cs xs h.1)
  where
    go : (fits : Bool) × OnTrue fits (IsFitting s c) × OnFalse fits (IsSmall s c) → (fits : Bool) × IsTold s cs fits → (fits : Bool) × IsTold s (c ∷ cs) fits
    go (true, fit, u) (true, (all, v)) = (true, (All-cons (IsFitting s) c cs fit all, tt))
    go (true, fit, u) (false, (v, (d, (k, l, e), small))) = (false, (tt, (d, (suc k, omega (arith, l), e), small)))
    go (false, u, small) rest = (false, (tt, (c, (0, omega arith, refl), small)))

module _ (s : Script) (coherent : IsCoherent s) where
  -- Claims of all commands are a certificate.
  certificate_is : (xs : List Certified) → AllZip (Certifies s) s.commands xs → AllByRecursion IsCertified xs → IsCertificate s (certificate_text xs)
  certificate_is xs each certified =
      let long : length xs ≡ length s.commands = AllZip-long (Certifies s) s.commands xs each in
      record {
        blocks = xs;
        is = record { some = subst (λ k. 1 ≤ k) (sym long) coherent.asked; few = subst (λ k. k ≤ max_commands) (sym long) coherent.few; each = certified };
        each = each;
        spelled = refl;
      }

  -- With it an answer is due.
  due_with : (xs : List Certified) → AllZip (Certifies s) s.commands xs → AllByRecursion IsCertified xs → (status : Status) × (text : List ℕ) × Solves s status text (certificate_text xs)
  due_with xs each certified =
      let blocks = claimed_blocks s 1 s.commands xs each in
      let told = claims_tell s s.commands xs each in
      (status_of told.0, blocks.0, solves s told.0 told.1.0 told.1.1 blocks.0 (certificate_text xs) blocks.1 (certificate_is xs each certified))

  -- Something can be certified of each of some commands.
  some_claims : (cs : List Command) → ((k : ℕ) (z : Command) → k < length cs → BelongsTo s (get_or cs k z)) → (xs : List Certified) × AllZip (Certifies s) cs xs × AllByRecursion IsCertified xs
  some_claims [] belong = ([], tt, tt)
  some_claims (c ∷ cs) belong =
      let one = some_claim s coherent c (belong 0 c (omega arith)) in
      let rest = some_claims cs (λ k z l. belong (suc k) z (omega (arith, l))) in
      (one.0 ∷ rest.0, (one.2, rest.1), (one.1, rest.2))

  -- A script that is read has an answer, and a certificate.
  pub some_answer : (status : Status) × (text proof : List ℕ) × Solves s status text proof
  some_answer =
      let all = some_claims s.commands coherent.belong in
      let due = due_with all.0 all.1 all.2 in
      (due.0, due.1, certificate_text all.0, due.2)

  -- Claims of the first commands are the first ones of claims of all.
  completed : (k : ℕ) (xs : List Certified) → AllZip (Certifies s) (take k s.commands) xs → AllByRecursion IsCertified xs →
      (ys : List Certified) × AllZip (Certifies s) s.commands (xs ++ ys) × AllByRecursion IsCertified (xs ++ ys)
  completed k xs each certified =
      let rest = some_claims (drop k s.commands) (All-drop (BelongsTo s) k s.commands coherent.belong) in (
        rest.0,
        subst (λ (l : List Command). AllZip (Certifies s) l (xs ++ rest.0)) (take-append-drop k s.commands) (zip_append (Certifies s) (take k s.commands) (drop k s.commands) xs rest.0 each rest.1),
        all_append IsCertified xs rest.0 certified rest.2,
      )

-- ---- a certificate so far
-- The blocks of the first k commands were written behind the first line, and no fault was counted.
pub record IsUnderway (s : Script) (k : ℕ) (a b : Option (List ℕ)) (f g : ℕ) : Type 0 where
  pub claims : List Certified
  pub each : AllZip (Certifies s) (take k s.commands) claims
  pub certified : AllByRecursion IsCertified claims
  pub bytes : Appends a b (begun_text claims)
  pub alike : g ≡ f

-- Behind the first line no block is written.
pub none_written : (s : Script) (a b : Option (List ℕ)) (f g : ℕ) → Appends a b (line_text head_line) × (g ≡ f) → IsUnderway s 0 a b f g
none_written s a b f g h = record { claims = []; each = tt; certified = tt; bytes = subst (Appends a b) (sym (append-nil (line_text head_line))) h.0; alike = h.1 }

-- As many claims were written as commands.
claims_long : (s : Script) (k : ℕ) (xs : List Certified) → k ≤ length s.commands → AllZip (Certifies s) (take k s.commands) xs → length xs ≡ k
claims_long s k xs low each = AllZip-long (Certifies s) (take k s.commands) xs each ∙ length-take-le k s.commands low

module _ (s : Script) (k : ℕ) (c : Command) (at : slice_get s.commands k ≡ Some c) (x : Certified) (own : Certifies s c x) (certified : IsCertified x) where
  -- the block of the next command
  piece : List ℕ
  piece = text (block_lines (k + 1) (block_of x))

  module _ (a b : Option (List ℕ)) (f g : ℕ) (u : IsUnderway s k a b f g) where
    -- with it one command more is certified
    each_more : AllZip (Certifies s) (take (k + 1) s.commands) (u.claims ++ x ∷ [])
    each_more =
        subst (λ (l : List Command). AllZip (Certifies s) l (u.claims ++ x ∷ [])) (sym (first_and_next s.commands k c at))
        (zip_append (Certifies s) (take k s.commands) (c ∷ []) u.claims (x ∷ []) u.each (own, tt))

    -- and its text stands behind what was written
    text_more : begun_text (u.claims ++ x ∷ []) ≡ begun_text u.claims ++ text (block_lines (k + 1) (block_of x))
    text_more =
        let long : suc (length u.claims) ≡ k + 1 = omega (arith, claims_long s k u.claims (omega (arith, slice_get_within s.commands k c at)) u.each) in
        begun_more u.claims x ∙ ap (λ n. begun_text u.claims ++ text (block_lines n (block_of x))) long

    -- The block of one command more was written.
    pub one_written : (d : Option (List ℕ)) (h : ℕ) → Appends b d (text (block_lines (k + 1) (block_of x))) × (h ≡ g) → IsUnderway s (k + 1) a d f h
    one_written d h w = record {
      claims = u.claims ++ x ∷ [];
      each = each_more;
      certified = all_append IsCertified u.claims (x ∷ []) u.certified (certified, tt);
      bytes = subst (Appends a d) (sym text_more) (Appends-trans a b d (begun_text u.claims) (text (block_lines (k + 1) (block_of x))) u.bytes w.0);
      alike = w.1 ∙ u.alike;
    }

-- ---- the next command
-- What stands at a place below the length.
stands : {A : Type 0} (xs : List A) (k : ℕ) → k < length xs → (x : A) × (slice_get xs k ≡ Some x)
stands [] k l = absurd (omega (arith, l))
stands (x ∷ xs) zero l = (x, refl)
stands (x ∷ xs) (suc k) l = stands xs k (omega (arith, l))

-- the command at place k, and the problem that was solved for it, which stands at a place
pub record IsNext (s : Script) (k : ℕ) (solved : List Solved) (place : ℕ) : Type 0 where
  pub command : Command
  pub at : slice_get s.commands k ≡ Some command
  pub one : Solved
  pub there : slice_get solved place ≡ Some one
  pub certifies : Certifies s command (claim_of s.names one)
  pub certified : IsCertified (claim_of s.names one)

-- What was solved for the next command certifies it.
pub next_is : (s : Script) → IsCoherent s → (k : ℕ) → k < length s.commands → (solved : List Solved) (place : ℕ) → All IsSolved solved →
    ((c : Command) → slice_get s.commands k ≡ Some c → IsPlaceOf (problem_of s c) solved place) → IsNext s k solved place
next_is s coherent k within solved place all h = record {
  command = c.0;
  at = c.1;
  one = p.0;
  there = p.1;
  certifies = certifies s coherent c.0 belongs p.0 own p.2;
  certified = certified_for s coherent c.0 belongs p.0 own p.2;
}
  where
    c : (c : Command) × (slice_get s.commands k ≡ Some c)
    c = stands s.commands k within

    p : IsPlaceOf (problem_of s c.0) solved place
    p = h c.0 c.1

    belongs : BelongsTo s c.0
    belongs = subst (BelongsTo s) (get_or_from_slice_get s.commands k c.0 c.0 c.1) (coherent.belong k c.0 within)

    own : IsSolved p.0
    own = subst IsSolved (get_or_from_slice_get solved place p.0 p.0 p.1) (all place p.0 (slice_get_within solved place p.0 p.1))

-- ---- how the call ends
module _ (s : Script) (coherent : IsCoherent s) (front : List ℕ) (a : Option (List ℕ)) (f : ℕ) where
  -- A call that stops has written a part of a certificate that is due.
  stopped : (b : Option (List ℕ)) (g : ℕ) (e : CertWriteError) (result : Result Blocks CertWriteError) → result ≡ Err e → (xs : List Certified) → AllZip (Certifies s) s.commands xs → AllByRecursion IsCertified xs →
      WritesOrStops a b f g result (certificate_text xs) → Answers s front a b f g result
  stopped b g e result is xs each certified writes =
      let due = due_with s coherent xs each certified in
      record {
        status = due.0;
        text = front ++ due.1;
        proof = certificate_text xs;
        is_due = (due.1, due.2, refl);
        writes = writes;
        told = subst (λ (r : Result Blocks CertWriteError). IfOk r (λ b. (due.0 ≡ status_of b.fits) × (front ++ due.1 ≡ string_bytes b.text))) (sym is) tt;
      }

  -- It may stop at the first line.
  pub stops_first : {T : Type 0} (b : Option (List ℕ)) (g : ℕ) (e : CertWriteError) (p : Result T CertWriteError) (result : Result Blocks CertWriteError) → p ≡ Err e → result ≡ Err e →
      WritesOrStops a b f g p (line_text head_line) → Answers s front a b f g result
  stops_first b g e p result p_is is w =
      let all = completed s coherent 0 [] tt tt in
      stopped b g e result is all.0 all.1 all.2 (stops_within a b f g p result e (line_text head_line) (rest_text 0 all.0) p_is is w)

  module _ (b : Option (List ℕ)) (g : ℕ) (k : ℕ) (u : IsUnderway s k a b f g) where
    -- It may stop before a block, for want of memory.
    pub stops_between : (result : Result Blocks CertWriteError) → result ≡ Err Memory → Answers s front a b f g result
    stops_between result is =
        let all = completed s coherent k u.claims u.each u.certified in
        let begun : List ℕ = begun_text u.claims in
        let rest : List ℕ = rest_text (length u.claims) all.0 in
        let first : take (length begun) (begun ++ rest) ≡ begun = take-append_seam begun rest in
        let writes : WritesOrStops {T = Blocks} a b f g (Err Memory) (begun ++ rest) = record {
          ok = tt;
          err = (length begun, omega (arith, length-append begun rest), subst (Appends a b) (sym first) u.bytes);
          reason = u.alike;
        } in
        stopped b g Memory result is (u.claims ++ all.0) all.1 all.2
        (subst (λ (r : Result Blocks CertWriteError). WritesOrStops a b f g r (certificate_text (u.claims ++ all.0))) (sym is)
        (subst (WritesOrStops {T = Blocks} a b f g (Err Memory)) (sym (certificate_split u.claims all.0)) writes))

    -- It may stop at a block.
    pub stops_at : {T : Type 0} (d : Option (List ℕ)) (h : ℕ) (e : CertWriteError) (p : Result T CertWriteError) (result : Result Blocks CertWriteError) → p ≡ Err e → result ≡ Err e →
        (c : Command) → slice_get s.commands k ≡ Some c → (x : Certified) → Certifies s c x → IsCertified x →
        WritesOrStops b d g h p (text (block_lines (k + 1) (block_of x))) → Answers s front a d f h result
    stops_at d h e p result p_is is c at x own certified w =
        let more : List Certified = u.claims ++ x ∷ [] in
        let all = completed s coherent (k + 1) more (each_more s k c at x own certified a b f g u) (all_append IsCertified u.claims (x ∷ []) u.certified (certified, tt)) in
        let part : List ℕ = text (block_lines (k + 1) (block_of x)) in
        let rest : List ℕ = rest_text (length more) all.0 in
        let same : certificate_text (more ++ all.0) ≡ (begun_text u.claims ++ part) ++ rest = certificate_split more all.0 ∙ ap (λ (z : List ℕ). z ++ rest) (text_more s k c at x own certified a b f g u) in
        stopped d h e result is (more ++ all.0) all.1 all.2
        (subst (WritesOrStops a d f h result) (sym same)
        (stops_within a d f h p result e (begun_text u.claims ++ part) rest p_is is (stops_then a b d f g h p (begun_text u.claims) part u.bytes u.alike w)))

    module _ (past : k ≡ length s.commands) where
      -- all commands are certified
      each_of_all : AllZip (Certifies s) s.commands u.claims
      each_of_all = subst (λ (l : List Command). AllZip (Certifies s) l u.claims) (take_all k s.commands (omega (arith, past))) u.each

      -- and what is left is the last line
      last_left : certificate_text u.claims ≡ begun_text u.claims ++ line_text (numbered (codes "done") (length s.commands))
      last_left =
          let long : length u.claims ≡ length s.commands = AllZip-long (Certifies s) s.commands u.claims each_of_all in
          ap certificate_text (sym (append-nil u.claims)) ∙ certificate_split u.claims []
          ∙ ap (λ (z : List ℕ). begun_text u.claims ++ z) (rest_last (length u.claims) ∙ ap (λ n. line_text (numbered (codes "done") n)) long)

      -- It may stop at the last line.
      pub stops_last : {T : Type 0} (d : Option (List ℕ)) (h : ℕ) (e : CertWriteError) (p : Result T CertWriteError) (result : Result Blocks CertWriteError) → p ≡ Err e → result ≡ Err e →
          WritesOrStops b d g h p (line_text (numbered (codes "done") (length s.commands))) → Answers s front a d f h result
      stops_last d h e p result p_is is w =
          let last : List ℕ = line_text (numbered (codes "done") (length s.commands)) in
          stopped d h e result is u.claims each_of_all u.certified
          (subst (WritesOrStops a d f h result) (append-nil (begun_text u.claims ++ last) ∙ sym last_left)
          (stops_within a d f h p result e (begun_text u.claims ++ last) [] p_is is (stops_then a b d f g h p (begun_text u.claims) last u.bytes u.alike w)))

      -- Or all is written, and the answer is told.
      pub ends_whole : (d : Option (List ℕ)) (h : ℕ) (blocks : Blocks) → Appends b d (line_text (numbered (codes "done") (length s.commands))) × (h ≡ g) →
          AreAnswered s front k blocks.fits (string_bytes blocks.text) → Answers s front a d f h (Ok blocks)
      ends_whole d h blocks w answered =
          let last : List ℕ = line_text (numbered (codes "done") (length s.commands)) in
          let done = all_done s s.commands k answered.blocks blocks.fits (omega (arith, past)) answered.done in
          record {
            status = status_of blocks.fits;
            text = string_bytes blocks.text;
            proof = certificate_text u.claims;
            is_due = (answered.blocks, solves s blocks.fits done.fit done.small answered.blocks (certificate_text u.claims) done.blocks (certificate_is s coherent u.claims each_of_all u.certified), answered.spelled);
            writes = record {
              ok = subst (Appends a d) (sym last_left) (Appends-trans a b d (begun_text u.claims) last u.bytes w.0);
              err = tt;
              reason = w.1 ∙ u.alike;
            };
            told = (refl, refl);
          }

-- Where all is written, the answer is the one that is due.
pub answer_told : (s : Script) (front : List ℕ) (a b : Option (List ℕ)) (f g : ℕ) (result : Result Blocks CertWriteError) (blocks : Blocks) → result ≡ Ok blocks → (x : Answers s front a b f g result) →
    (x.status ≡ status_of blocks.fits) × (x.text ≡ string_bytes blocks.text)
answer_told s front a b f g result blocks is x = subst (λ (r : Result Blocks CertWriteError). IfOk r (λ b. (x.status ≡ status_of b.fits) × (x.text ≡ string_bytes b.text))) is x.told
