use Rattle.std.proofs.Common.{◌≡◌, ℕ, List, None, Option, Result, Ok, Err, IfOk, OnErr, refl}
use Rattle.bk_io.specs.Pieces.{Piece}
use Rattle.bk_io.specs.declared.sink.SinkFault.{SinkFault}
use Rattle.bk_io.proofs.edge.StdSinkSink.TheImpl.Goals as goal

-- nothing is told before or after, whatever is answered
at_ok : {A : Type 0} (r : Result ℕ SinkFault) (told : Option (List A)) → IfOk r (λ _. told ≡ told)
at_ok (Ok n) told = refl
at_ok (Err e) told = tt

at_err : {A : Type 0} (r : Result ℕ SinkFault) (told : Option (List A)) → OnErr r (told ≡ told)
at_err (Ok n) told = tt
at_err (Err e) told = refl

pub put-tells : goal.put-tells
put-tells g c =
    record {
      taken = c.ensures.taken;
      ok = at_ok {A = ℕ} c.result None;
      err = at_err {A = ℕ} c.result None;
      failed = c.ensures.failed;
      told = at_ok {A = Piece} c.result None;
      untold = at_err {A = Piece} c.result None;
    }
