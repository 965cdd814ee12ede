use Rattle.std.proofs.Common.{[], ◌∷◌, map, refl, ◌∙◌, ap, subst}
use Rattle.std.specs.Prelude.{not}
use Rattle.bk_seq.specs.Sequents.{sequent_of}
use Rattle.bk_goal.specs.Shown.{ShowsBetween}
use Rattle.bk_goal.specs.declared.brought.Brought.{Brought}
use Rattle.bk_goal.proofs.goal.alone.Goals as goal

pub returns : goal.returns
returns c =
    let unmarked : Brought = record { old = 0; news = 0 } in
    let table = c.args.asked.table.now in
    let text = c.in_ok-text.text.items in
    let titled = c.deref-2.ensures.value ∙ c.in_ok-before.ensures in
    let shown = subst (λ held. ShowsBetween c.deref-2.result.now [] table unmarked (map sequent_of held) text) (c.deref.ensures.value ∙ c.in_ok-open.ensures) c.in_ok-text.ensures in
    record {
      brought = unmarked;
      none = refl;
      shows = subst (λ t. ShowsBetween t [] table unmarked (map sequent_of (c.args.sequent ∷ [])) text) titled shown;
      open_is = ap not c.is_obvious-is_open.ensures;
    }
