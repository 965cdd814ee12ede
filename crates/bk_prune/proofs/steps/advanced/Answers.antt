use Rattle.std.proofs.Common.{List, ◌∙◌, subst, append-nil}
use Rattle.bk_form.specs.Each.{Each}
use Rattle.bk_seq.specs.declared.sequent.Sequent.{Sequent}
use Rattle.bk_kernel.specs.Standing.{in_order}
use Rattle.bk_status.specs.Replayable.{IsReplayable}
use Rattle.bk_prune.proofs.Ready.{each_of_first, each_of_others}
use Rattle.bk_prune.proofs.steps.advanced.Goals as goal

pub replaced-requires : goal.replaced-requires
replaced-requires c =
    let held = c.args.open.now.items in
    let others = c.pop.new.self.items in
    record {
      first = each_of_first (IsReplayable c.args.types.now) held others c.in-Some.first c.in-Some.ensures.items c.requires;
      others = each_of_others (IsReplayable c.args.types.now) held others c.in-Some.first c.in-Some.ensures.items c.requires;
    }

pub returns-in-None : goal.returns-in-None
returns-in-None c = subst (λ (held : List Sequent). Each (IsReplayable c.args.types.now) (in_order held)) (c.in-None.ensures.items ∙ append-nil c.pop.new.self.items) c.requires
