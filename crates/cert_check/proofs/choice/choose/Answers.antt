use Rattle.cert_check.specs.Replay.{vectors_of}
use Rattle.cert_check.proofs.choice.choose.Goals as goal

pub returns : goal.returns
returns c = c.choose_entry.ensures c.args.kept.now (vectors_of c.args.kept.now) (c.choose_kept-behind.ensures c.args.entries.now c.args.known)
