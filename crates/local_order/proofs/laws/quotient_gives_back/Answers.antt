use Rattle.std.proofs.Common.{sym}
use Rattle.local_order.proofs.Division.{mono_times-mono_quotient_by_places, places_from_Divides}
use Rattle.local_order.proofs.laws.quotient_gives_back.Goals as goal

pub returns : goal.returns
returns c a b e d = sym (mono_times-mono_quotient_by_places b a (sym e) (λ k l. places_from_Divides b a d k))
