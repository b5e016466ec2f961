use Rattle.cert_grammar.proofs.Certificates.{certificate_text_is, text_certifies, one_certificate}
use Rattle.cert_grammar.proofs.laws.certified_problems.Goals as goal

pub returns : goal.returns
returns c = record { text = certificate_text_is; all = text_certifies; one = one_certificate }
