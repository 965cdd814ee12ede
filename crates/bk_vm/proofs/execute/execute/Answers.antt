use Rattle.std.proofs.Common.{rules, FitsSigned, w64}
use Rattle.std.proofs.lemmas.Int.{to_z-of_z}
use Rattle.bk_code.specs.Numbers.{int_max}
use Rattle.bk_vm.proofs.execute.execute.Goals as goal

pub returns-in-ALoad-clause-outcome : goal.returns-in-ALoad-clause-outcome
returns-in-ALoad-clause-outcome g c =
    let low : FitsSigned w64 c.in-ALoad.low = search rules in
    let done = simp (to_z-of_z, low) at (c.load_element.ensures.outcome (int_max c.args.image.now)) in
    rw c.in-ALoad.is done

pub returns-in-AStore-clause-outcome : goal.returns-in-AStore-clause-outcome
returns-in-AStore-clause-outcome g c =
    let low : FitsSigned w64 c.in-AStore.low = search rules in
    let done = simp (to_z-of_z, low) at (c.store_element.ensures.outcome (int_max c.args.image.now)) in
    rw c.in-AStore.is done
