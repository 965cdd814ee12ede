use Rattle.std.proofs.Common.{◌∙◌, List, ap, sym}
use Rattle.std.specs.Borrow.{Bor}
use Rattle.bk_raw.specs.declared.term.RawName.{RawName}
use Rattle.bk_raw.specs.Trees.ComponentTree.{RawSet}
use Rattle.bk_raw.specs.Errors.Blame.{blame}
use Rattle.bk_elab_terms.specs.Shown.{told}
use Rattle.bk_elab_terms.specs.Visible.{visible_names}
use Rattle.bk_statics.specs.Components.{set_names}
use Rattle.bk_statics.specs.NameFaults.{named_texts, taken}
use Rattle.bk_scope.specs.Shown.{refs}
use Rattle.bk_scope.proofs.FaultLists.{taken-join}
use Rattle.bk_scope.proofs.FaultSteps.{told-both}
use Rattle.bk_check_clauses.proofs.name_fault.taken.Goals as goal

pub returns : goal.returns
returns c =
    let ts = named_texts (visible_names c.args.names.now) in
    let comp = c.args.component.now in
    told-both (taken ts (set_names (refs comp.sets.items))) (taken ts (refs comp.constants.items)) (told c.taken_sets-sets.result) (told c.taken_constants.result) (told c.earlier.result)
    (c.taken_sets-sets.ensures ∙ ap (λ (l : List (Bor RawSet)). blame (taken ts (set_names (refs l)))) c.deref.ensures.value) (c.taken_constants.ensures ∙ ap (λ (l : List (Bor RawName)). blame (taken ts (refs l))) c.deref-2.ensures.value) c.earlier.ensures
    ∙ ap blame (sym (taken-join ts (set_names (refs comp.sets.items)) (refs comp.constants.items)))
