use Rattle.std.proofs.Common.{◌≡◌, List, ℕ, arith, ap, length}
use Rattle.std.proofs.lemmas.Result.{err_from_is_err_and}
use Rattle.bk_image.proofs.Layouts.{layout_take}
use Rattle.bk_image.proofs.Verdicts.{layout_fault_of, number_fault_of}
use Rattle.bk_image.proofs.Versions.{rightly_spelled}
use Rattle.bk_image.proofs.loader.load_in_rounds.Goals as goal

pub returns-in_err-version-clause-fault : goal.returns-in_err-version-clause-fault
returns-in_err-version-clause-fault c =
    let p = err_from_is_err_and c.from_residual.result c.from_residual.ensures.1 in
    rw (p.1, p.2) (layout_fault_of c.args.bytes.now c.in_err-version.field-0.0 (λ i. omega (arith, c.type_inv.bytes i)) c.in_err-version.ensures.read)

pub number_fault-requires-clause-fits : goal.number_fault-requires-clause-fits
number_fault-requires-clause-fits c =
    (layout_take c.args.bytes.now (c.in_ok-version.version, c.in_ok-version.image) (λ i. omega (arith, c.type_inv.bytes i)) c.in_ok-version.ensures.read).1

pub number_fault-requires-clause-room : goal.number_fault-requires-clause-room
number_fault-requires-clause-room c =
    let t = layout_take c.args.bytes.now (c.in_ok-version.version, c.in_ok-version.image) (λ i. omega (arith, c.type_inv.bytes i)) c.in_ok-version.ensures.read in
    omega (arith, ap length t.0, c.layout.ensures.room)

pub returns-in-Some-clause-fault : goal.returns-in-Some-clause-fault
returns-in-Some-clause-fault c =
    let v = c.in_ok-version.version in
    let image = c.in_ok-version.image in
    let t = layout_take c.args.bytes.now (v, image) (λ i. omega (arith, c.type_inv.bytes i)) c.in_ok-version.ensures.read in
    number_fault_of c.args.bytes.now v image c.in-Some.fault t.1 t.0 c.in-Some.ensures

pub stack_fault-requires-clause-numbered : goal.stack_fault-requires-clause-numbered
stack_fault-requires-clause-numbered c = c.in_default.ensures.numbered

pub stack_fault-requires-clause-room : goal.stack_fault-requires-clause-room
stack_fault-requires-clause-room c =
    let v = c.in_ok-version.version in
    let image = c.in_ok-version.image in
    let t = layout_take c.args.bytes.now (v, image) (λ i. omega (arith, c.type_inv.bytes i)) c.in_ok-version.ensures.read in
    let s = rightly_spelled c.args.bytes.now v image t.0 t.1 c.in_default.ensures in
    omega (arith, ap length s.1, c.layout.ensures.room)

pub returns-in-Some-2-clause-fault : goal.returns-in-Some-2-clause-fault
returns-in-Some-2-clause-fault c =
    let v = c.in_ok-version.version in
    let image = c.in_ok-version.image in
    let t = layout_take c.args.bytes.now (v, image) (λ i. omega (arith, c.type_inv.bytes i)) c.in_ok-version.ensures.read in
    let s = rightly_spelled c.args.bytes.now v image t.0 t.1 c.in_default.ensures in
    record { image = image; spelled = s.0; is = s.1; numbered = c.in_default.ensures.numbered; first = rw c.in-Some-2.is at c.in_ok-at.ensures }

pub returns-in-None-clause-found : goal.returns-in-None-clause-found
returns-in-None-clause-found c =
    let v = c.in_ok-version.version in
    let image = c.in_ok-version.image in
    let t = layout_take c.args.bytes.now (v, image) (λ i. omega (arith, c.type_inv.bytes i)) c.in_ok-version.ensures.read in
    let s = rightly_spelled c.args.bytes.now v image t.0 t.1 c.in_default.ensures in
    record { loadable = rw c.in-None.is at c.in_ok-at.ensures; spelled = s.0; is = s.1 }
