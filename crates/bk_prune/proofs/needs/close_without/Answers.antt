use Rattle.std.proofs.Common.{List, length, sym, ◌∙◌, ap, subst, arith}
use Rattle.std.specs.List.{insert}
use Rattle.bk_seq.specs.Sequents.{sequent_of}
use Rattle.bk_kernel.specs.Derivations.{Derives}
use Rattle.bk_kernel.specs.declared.rule.Rule.{Rule}
use Rattle.bk_prune.proofs.Ready.{put_back, fewer}
use Rattle.bk_prune.proofs.needs.close_without.Goals as goal

pub closes-requires : goal.closes-requires
closes-requires c =
    let rules = c.args.rules.now.items in
    let gone = ap (λ (rs : List Rule). length rs) (c.as_slice.ensures.value ∙ c.remove-left_out.ensures.items) in
    record { replayable = c.requires.replayable; countable = omega (arith, c.requires.countable, gone, fewer rules c.args.index) }

pub returns : goal.returns
returns c =
    let rules = c.args.rules.now.items in
    let index = c.args.index in
    let left_out = c.remove-left_out.result in
    let gone = c.as_slice.ensures.value ∙ c.remove-left_out.ensures.items in
    let derives = λ (rs : List Rule). Derives c.args.table.now rs (sequent_of c.args.sequent.now) in
    record {
      same = c.in_ok-insert.ensures.items ∙ ap (λ (rs : List Rule). insert rs index left_out) c.remove-left_out.ensures.items ∙ put_back rules index left_out c.requires.within c.remove-left_out.ensures.value;
      right = λ yes. subst derives gone (c.in_ok-does.ensures.right yes);
      whole = λ derived. c.in_ok-does.ensures.whole (subst derives (sym gone) derived);
    }
