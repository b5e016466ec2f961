use Rattle.std.proofs.Common.{◌≡◌, ◌≤◌, ◌∙◌, sym, ap, subst, true≢false, map, arith}
use Rattle.prime_field.proofs.Primality.{InTable-le}
use Rattle.entry_code.specs.Entry.{entry_of}
use Rattle.entry_code.specs.Words.{IsSpellable, ArePassed, words_of, entry_in, reading_in, term_in}
use Rattle.entry_code.proofs.Spellings.{checked_spellable, spelled_again, spelling_checked}
use Rattle.entry_code.proofs.respell.read_words.Goals as goal

-- the words pass
passed : (c : goal.After-put_terms) → ArePassed c.args.field.now c.args.n_ranks c.args.words.now
passed c = subst (λ p. ArePassed p c.args.n_ranks c.args.words.now) c.prime.ensures.value (c.are_passed.ensures.0 c.if-not-are_passed.false)

-- the entry is what they say
said : (c : goal.After-put_terms) → entry_of record { item = c.item_in-into.result; reads = c.put_readings.new.into; terms = c.put_terms.new.into } ≡ entry_in c.args.words.now
said c = λ i. record {
  item = c.item_in-into.ensures i;
  reads = (c.put_readings.ensures.list ∙ ap (map reading_in) c.reading_words.ensures) i;
  terms = (c.put_terms.ensures.list ∙ ap (map term_in) c.term_words.ensures) i;
}

pub returns-then-not-are_passed-clause-refused : goal.returns-then-not-are_passed-clause-refused
returns-then-not-are_passed-clause-refused c e s =
    let small : c.args.field.now ≤ 2147483647 = InTable-le c.args.field.now c.prime.ensures.offered in
    true≢false (sym (c.are_passed.ensures.1 (subst (λ p. ArePassed p c.args.n_ranks c.args.words.now) (sym c.prime.ensures.value) (spelling_checked c.args.field.now c.args.n_ranks c.args.words.now (omega (arith, small)) s))) ∙ c.if-not-are_passed.true)

pub returns-clause-spelled : goal.returns-clause-spelled
returns-clause-spelled c e = subst (IsSpellable c.args.field.now c.args.n_ranks) (sym (said c)) (checked_spellable c.args.field.now c.args.n_ranks c.args.words.now (passed c))

pub returns-clause-words : goal.returns-clause-words
returns-clause-words c e = ap words_of (said c) ∙ spelled_again c.args.words.now (passed c).0.0 (passed c).0.5
