use Rattle.std.proofs.Common.{◌≡◌, ℕ, ◌<◌, take, None}
use Rattle.bk_lin.specs.Certificate.{inequalities, width_of, facts_after, fault_at}
use Rattle.bk_lin.specs.Layout.{standing_of}
use Rattle.bk_lin.proofs.certificate.make_facts.Given as goal

abbrev pub invariant-loop-index : goal.invariant-loop-index
invariant-loop-index l = record {
  facts : facts_after (width_of l.facts) (inequalities l.facts) (take l.index l.cert) ≡ standing_of l.facts l.size l.index l.work;
  right : (k : ℕ) → k < l.index → fault_at l.facts l.cert k ≡ None;
}
