use Rattle.std.proofs.Common.{◌≡◌, ℕ, ◌+◌, ◌*◌, take, ap, subst, ◌∙◌, arith, Some, None, Result, Ok, Err, OnOk, MatchResult}
use Rattle.std.proofs.lemmas.List.{take-take}
use Rattle.bk_lin.specs.declared.fact.CertFault.{CertFault}
use Rattle.bk_lin.specs.Certificate.{width_of, line_fact, line_fault}
use Rattle.bk_lin.proofs.Held.{standing_of-agree, held_at-next}
use Rattle.bk_lin.proofs.certificate.make_line.Goals as goal

on_ok_weaker : (r : Result (Unit {0}) CertFault) (P Q : Type 0) → (P → Q) → OnOk r P → OnOk r Q
on_ok_weaker (Ok v) P Q f p = f p
on_ok_weaker (Err e) P Q f p = tt

pub returns-clause-fault : goal.returns-clause-fault
returns-clause-fault c =
    let n : ℕ = c.args.index * c.args.size in
    let front : take n c.split_at_mut-made.result.0.now ≡ take n c.args.work.now =
    ap (λ xs. take n xs) c.split_at_mut-made.ensures.front ∙ take-take n n c.args.work.now (omega arith) in
    subst (λ st. MatchResult c.make_next.result
    (λ _. line_fault (width_of c.args.facts.now) (c.args.index + 1) st c.args.line.now ≡ None)
    (λ e. line_fault (width_of c.args.facts.now) (c.args.index + 1) st c.args.line.now ≡ Some e))
    (standing_of-agree c.args.facts.now c.args.size c.args.index c.split_at_mut-made.result.0.now c.args.work.now front)
    c.make_next.ensures.fault

pub returns-clause-made : goal.returns-clause-made
returns-clause-made c =
    let n : ℕ = c.args.index * c.args.size in
    let front : take n c.split_at_mut-made.result.0.now ≡ take n c.args.work.now =
    ap (λ xs. take n xs) c.split_at_mut-made.ensures.front ∙ take-take n n c.args.work.now (omega arith) in
    on_ok_weaker c.make_next.result _ _
    (λ made. held_at-next c.args.size c.args.index c.split_at_mut-made.result.0.now c.make_next.new.rest c.split_at_mut-made.ensures.front_len
    ∙ made
    ∙ ap (λ st. line_fact (width_of c.args.facts.now) st c.args.line.now)
    (standing_of-agree c.args.facts.now c.args.size c.args.index c.split_at_mut-made.result.0.now c.args.work.now front))
    c.make_next.ensures.made
