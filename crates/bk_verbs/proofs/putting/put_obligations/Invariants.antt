use Rattle.std.proofs.Common.{◌≡◌, ◌≤◌, take, map}
use Rattle.bk_io.specs.Pieces.{written_with}
use Rattle.bk_po.specs.Shown.{named_sequent}
use Rattle.bk_report.specs.Obligations.{obligation_text, obligations_text}
use Rattle.bk_verbs.specs.Puts.{PutsEach}
use Rattle.bk_verbs.proofs.putting.put_obligations.Given as goal

abbrev pub invariant-loop-obligation : goal.invariant-loop-obligation
invariant-loop-obligation g l = record {
  written : g.K.Sink.written l.out ≡ written_with (g.K.Sink.written l.fn.out) (obligations_text l.table (map named_sequent (take l.obligation-index l.list)));
  pieces : PutsEach (map (obligation_text l.table) (map named_sequent (take l.obligation-index l.list))) (g.K.Sink.pieces l.fn.out) (g.K.Sink.pieces l.out);
  faults : g.K.Sink.faults l.fn.out ≤ g.K.Sink.faults l.out;
}
