use Rattle.cert_text.proofs.Certifying.{read_block, certified_read}
use Rattle.cert_text.proofs.lines.Lines.block.Goals as goal

pub certify-requires : goal.certify-requires
certify-requires c = read_block c.args.b c.args.self.now c.block_lines.new.self c.in_ok-lines.lines c.in_ok-lines.ensures

pub returns-clause-read : goal.returns-clause-read
returns-clause-read c = (certified_read c.args.b c.args.self.now c.block_lines.new.self c.in_ok-lines.lines c.in_ok-block.block c.in_ok-lines.ensures c.in_ok-block.ensures).1

pub returns-clause-certified : goal.returns-clause-certified
returns-clause-certified c = (certified_read c.args.b c.args.self.now c.block_lines.new.self c.in_ok-lines.lines c.in_ok-block.block c.in_ok-lines.ensures c.in_ok-block.ensures).0
