use Rattle.std.proofs.Common.{List, subst}
use Rattle.bk_evidence.specs.declared.item.Item.{Item}
use Rattle.bk_evidence.specs.declared.report.Stray.{Stray}
use Rattle.bk_proof_program.specs.Told.{WritesList}
use Rattle.bk_proof_program.proofs.list.rows_text.Goals as goal

pub returns : goal.returns
returns c =
    let items = c.in_ok-all.all.items in
    let text = c.in_ok-text.text.items in
    let written = subst (λ (xs : List Item). WritesList c.args.as_json c.args.is_open_only xs c.deref-2.result.now text) c.deref.ensures.value c.in_ok-text.ensures in
    (items, c.in_ok-others.others.items, c.in_ok-all.ensures, c.in_ok-others.ensures, subst (λ (xs : List Stray). WritesList c.args.as_json c.args.is_open_only items xs text) c.deref-2.ensures.value written)
