use Rattle.std.proofs.Common.{◌≡◌, ◌≤◌, ◌-◌, take, length}
use Rattle.bk_io.specs.Pieces.{written_with}
use Rattle.bk_io.proofs.Written.{PutUpTo}
use Rattle.bk_io.proofs.sink.put_all.Given as goal

-- what is done so far is written
abbrev pub invariant-loop-done : goal.invariant-loop-done
invariant-loop-done g l =
    record {
      within : l.done ≤ length l.text;
      written : g.K.Sink.written l.sink ≡ written_with (g.K.Sink.written l.fn.sink) (take l.done l.text);
      put : PutUpTo l.text l.done (g.K.Sink.pieces l.fn.sink) (g.K.Sink.pieces l.sink);
      later : g.K.Sink.faults l.fn.sink ≤ g.K.Sink.faults l.sink;
    }

abbrev pub decreases-loop-done : goal.decreases-loop-done
decreases-loop-done g l = length l.text - l.done
