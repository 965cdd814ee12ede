use Rattle.bk_front.proofs.range.parsed.Goals as goal

pub returns-in-Ok : goal.returns-in-Ok
returns-in-Ok c =
    let read = c.in-Ok.ensures.value.0 in
    (read.0.0, read.1)

pub returns-in-Err : goal.returns-in-Err
returns-in-Err c = λ digits small. c.in-Err.ensures.value.0 (digits, small)
