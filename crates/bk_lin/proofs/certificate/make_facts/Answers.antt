use Rattle.std.proofs.Common.{◌≡◌, ℕ, ◌+◌, ◌-◌, ◌∷◌, ◌++◌, List, [], take, length, slice_get, refl, sym, ap, subst, ◌∙◌, arith, Some, Result, Ok, Err, IfErr, IsErrAnd, below_more}
use Rattle.std.proofs.lemmas.Option.{slice_get_read}
use Rattle.bk_lin.specs.declared.fact.CertFault.{CertFault}
use Rattle.bk_lin.specs.declared.fact.Line.{Line}
use Rattle.bk_lin.specs.Inequality.{Inequality}
use Rattle.bk_lin.specs.Certificate.{inequalities, width_of, facts_after, fault_at, line_fact, line_fault, IsFirstFault}
use Rattle.bk_lin.specs.Layout.{standing_of, held_at, number_of}
use Rattle.bk_lin.proofs.Held.{standing_of-agree, standing_of-more}
use Rattle.bk_lin.proofs.Lines.{facts_after-more, fault_at-line, line_fault-number}
use Rattle.bk_lin.proofs.certificate.make_facts.Goals as goal

pub loop-index-preserved : goal.loop-index-preserved
loop-index-preserved c =
    let i : ℕ = c.loop-index.index in
    let width : ℕ = width_of c.args.facts.now in
    let line : Line = c.index-cert-index.result in
    let given : List Inequality = inequalities c.args.facts.now in
    let before : List Inequality = facts_after width given (take i c.args.cert.now) in
    let held : List Inequality = standing_of c.args.facts.now c.args.size i c.loop-index.work in
    let same : before ≡ held = c.loop-index.invariant.facts in
    let read : slice_get c.args.cert.now i ≡ Some line = slice_get_read c.args.cert.now (length c.args.cert.now) i line refl (omega arith) c.index-cert-index.is in
    record {
      facts =
          facts_after-more width given c.args.cert.now i line read
          ∙ ap (λ st. st ++ line_fact width st line ∷ []) same
          ∙ ap (λ p. held ++ p ∷ []) (sym c.in_ok-make_line.ensures.made)
          ∙ ap (λ st. st ++ held_at c.args.size c.make_line.new.work i ∷ [])
          (standing_of-agree c.args.facts.now c.args.size i c.loop-index.work c.make_line.new.work (sym c.in_ok-make_line.ensures.kept))
          ∙ sym (standing_of-more c.args.facts.now c.args.size i c.make_line.new.work);
      right =
          below_more _ _ c.loop-index.invariant.right
          (fault_at-line c.args.facts.now c.args.cert.now i line read
          ∙ ap (λ st. line_fault width (i + 1) st line) same
          ∙ c.in_ok-make_line.ensures.fault);
    }

err_given : (r : Result (Unit {0}) CertFault) (e : CertFault) (P : CertFault → Type 0) → IsErrAnd r (λ x. x ≡ e) → P e → IfErr r P
err_given (Ok v) e P h p = tt
err_given (Err x) e P h p = subst P (sym h) p

pub returns-in_err-make_line-clause-fault : goal.returns-in_err-make_line-clause-fault
returns-in_err-make_line-clause-fault c =
    let i : ℕ = c.loop-index.index in
    let width : ℕ = width_of c.args.facts.now in
    let line : Line = c.index-cert-index.result in
    let read : slice_get c.args.cert.now i ≡ Some line = slice_get_read c.args.cert.now (length c.args.cert.now) i line refl (omega arith) c.index-cert-index.is in
    let fault : CertFault = c.in_err-make_line.field-0.0 in
    let number : number_of fault ≡ i + 1 =
    line_fault-number width (i + 1) (standing_of c.args.facts.now c.args.size i c.loop-index.work) line fault c.in_err-make_line.ensures.fault in
    let here : fault_at c.args.facts.now c.args.cert.now i ≡ Some fault =
    fault_at-line c.args.facts.now c.args.cert.now i line read
    ∙ ap (λ st. line_fault width (i + 1) st line) c.loop-index.invariant.facts
    ∙ c.in_err-make_line.ensures.fault in
    let place : number_of fault - 1 ≡ i = omega arith in
    err_given c.from_residual.result fault (λ e. IsFirstFault c.args.facts.now c.args.cert.now (number_of e) e) c.from_residual.ensures.1
    (record {
      is_line = omega arith;
      before = λ j h. c.loop-index.invariant.right j (omega arith);
      here = ap (λ k. fault_at c.args.facts.now c.args.cert.now k) place ∙ here;
    })
