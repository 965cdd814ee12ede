use Rattle.std.proofs.Common.{◌≡◌, ◌∙◌, ◌++◌, Some, find, map, sym, ap, rules}
use Rattle.std.proofs.lemmas.List.{append-nil}
use Rattle.std.specs.Str.{bytes_eq}
use Rattle.bk_po.specs.declared.obligation.Obligation.{Obligation}
use Rattle.bk_status.specs.States.{name_text}
use Rattle.bk_evidence.specs.declared.report.Stray.{Stray}
use Rattle.bk_proof_program.proofs.Strays.{one_found}
use Rattle.bk_proof_program.proofs.list.add_stray.Goals as goal

pub returns-in-Some : goal.returns-in-Some
returns-in-Some c =
    let list = c.args.whole.now.list.items in
    let s = c.args.script.now in
    let old = map (λ (x : Stray). x.name) c.args.strays.now.items in
    let same : c.in_ok-name.name.items ≡ name_text s.name = search rules in
    let here : Some c.in-Some.field-0.now ≡ find (λ (o : Obligation). bytes_eq (name_text s.name) o.name) list =
    c.in-Some.ensures ∙ (λ i. find (λ (o : Obligation). bytes_eq ((c.deref-3.ensures.value ∙ same) i) o.name) (c.deref-2.ensures.value i)) in
    sym (ap (λ more. old ++ more) (one_found list s c.in-Some.field-0.now here) ∙ append-nil old)
