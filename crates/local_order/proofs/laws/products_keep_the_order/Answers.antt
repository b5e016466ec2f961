use Rattle.local_order.proofs.Order.{mono_times_comm, above-mono_times}
use Rattle.local_order.proofs.laws.products_keep_the_order.Goals as goal

pub returns : goal.returns
returns c a b m e f h = rw (mono_times_comm a m, mono_times_comm b m) (above-mono_times m a b e f h)
