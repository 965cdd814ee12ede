use Rattle.std.proofs.Common.{◌≡◌, ◌++◌, map, vec_len}
use Rattle.bk_seq.specs.Sequents.{sequent_of}
use Rattle.bk_kernel.specs.Standing.{in_order}
use Rattle.bk_replay.proofs.standing.put_first.Given as goal

abbrev pub invariant-loop-last : goal.invariant-loop-last
invariant-loop-last l = map sequent_of l.news.items ++ in_order l.open.items ≡ map sequent_of l.initial.news.items ++ in_order l.initial.open.items

abbrev pub decreases-loop-last : goal.decreases-loop-last
decreases-loop-last l = vec_len l.news
