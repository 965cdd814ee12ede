-- The main goals of the development whose implementation runs where the machine does not end.
use Rattle.std.proofs.Common.{◌≡◌, pos, refl, ap, Bool, true, false, not, ◌&&◌}
use Rattle.bk_val.specs.Value.{int}
use Rattle.bk_val.specs.CmpLaws.{same_value}
use Rattle.bk_form.specs.Operators.{is_equal, implies}
use Rattle.bk_po.specs.Laws.{EagerAsksTheMachine}

-- where n is the same at both levels the test of the implementation is that of the machine
by-tests : (low high linked : Bool) → low ≡ high → linked ≡ true → (implies low (implies high (high && (true && linked))) && implies (not low) (implies high (high && (false && linked)))) ≡ true
by-tests true true true h k = refl
by-tests false false true h k = refl
by-tests true false linked h k = absurd (cc)
by-tests false true linked h k = absurd (cc)
by-tests true true false h k = absurd (cc)
by-tests false false false h k = absurd (cc)

pub eager_asks_the_machine : EagerAsksTheMachine
eager_asks_the_machine = record {
  below = λ find e typed h. by-tests (is_equal (e 1) (int (pos 5))) (is_equal (e 0) (int (pos 5))) (is_equal (e 3) (e 2)) (ap (λ v. is_equal v (int (pos 5))) (same_value (e 1) (e 0) h.0)) h.1.0;
  machine = λ find e h. ap (λ v. is_equal v (int (pos 5)) && implies (is_equal v (int (pos 5))) true) h;
}
