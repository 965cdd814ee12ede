use Rattle.std.proofs.Common.{◌∙◌, ◌++◌, ◌∷◌, [], take, sym, ap}
use Rattle.std.proofs.lemmas.List.{take_more, take_all}
use Rattle.bk_raw.specs.Trees.ScriptTree.{RawScript}
use Rattle.bk_proof_program.specs.Told.{stray_names}
use Rattle.bk_proof_program.proofs.Strays.{strays_append}
use Rattle.bk_proof_program.proofs.list.strays.Goals as goal

pub loop-script-preserved : goal.loop-script-preserved
loop-script-preserved c =
    let list = c.args.whole.now.list.items in
    let scripts = c.all-scripts.result.now in
    let i = c.loop-script.script-index in
    let s = c.script-item.result in
    c.in_ok-add_stray.ensures ∙ (ap (λ names. names ++ stray_names list (s ∷ [])) c.loop-script.invariant ∙ sym (ap (stray_names list) (take_more scripts i s c.loop-script-test.true ∙ ap (λ (x : RawScript). take i scripts ++ x ∷ []) (sym c.script-item.is)) ∙ strays_append list (take i scripts) (s ∷ [])))

pub returns : goal.returns
returns c =
    let list = c.args.whole.now.list.items in
    c.loop-script.invariant ∙ (ap (stray_names list) (take_all c.loop-script.script-index c.all-scripts.result.now c.loop-script-test.false) ∙ ap (stray_names list) c.all-scripts.ensures)
