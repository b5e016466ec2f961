use Rattle.ring_reader.proofs.Asked.{answer_found, answer_only}
use Rattle.ring_reader.proofs.script.read_script.Goals as goal

pub returns-clause-found : goal.returns-clause-found
returns-clause-found c = answer_found c.args.bytes.now c.located_script.result c.located_script.ensures.exact

pub returns-clause-only : goal.returns-clause-only
returns-clause-only c = answer_only c.args.bytes.now c.located_script.result c.located_script.ensures.exact
