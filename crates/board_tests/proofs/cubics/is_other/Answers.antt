use Rattle.std.proofs.Common.{◌≡◌}
use Rattle.board_tests.proofs.cubics.is_other.Goals as goal

pub returns : goal.returns
returns c = λ yes. record { generator = c.args.generator; low = c.requires; other = c.if-generator-ticket.false; terms = c.has_term.ensures yes }
