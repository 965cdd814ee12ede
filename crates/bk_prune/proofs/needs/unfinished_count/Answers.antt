use Rattle.std.proofs.Common.{refl, sym, subst, arith}
use Rattle.bk_p_proof.specs.Files.{IsShort}
use Rattle.bk_prune.specs.Pruned.{IsFinished}
use Rattle.bk_prune.proofs.Ready.{all_more}
use Rattle.bk_prune.proofs.needs.unfinished_count.Goals as goal

pub is_finished-requires : goal.is_finished-requires
is_finished-requires c =
    let l = c.loop-script in
    record { ready = c.requires.ready; short = subst IsShort (sym c.script-item.is) (c.requires.short l.script-index c.script-item.result c.loop-script-test.true) }

pub loop-script-init : goal.loop-script-init
loop-script-init c = record { none = λ counted k d less. absurd (omega arith); all = λ each. refl }

pub loop-script-preserved : goal.loop-script-preserved
loop-script-preserved c =
    let l = c.loop-script in
    let finished = IsFinished c.args.proved.dev.now c.args.proved.list.now in
    record {
      none = λ counted.
          let both = c.count_with-count.ensures.none counted in
          all_more finished c.args.scripts.now l.script-index c.script-item.result c.loop-script-test.true c.script-item.is (l.invariant.none both.0) (c.in_ok-is_finished.ensures.right both.1);
      all = λ each.
          let here = subst finished (sym c.script-item.is) (each l.script-index c.script-item.result c.loop-script-test.true) in
          c.count_with-count.ensures.all (l.invariant.all each) (c.in_ok-is_finished.ensures.whole here);
    }

pub returns : goal.returns
returns c = (λ counted k d less. c.loop-script.invariant.none counted k d (omega arith), c.loop-script.invariant.all)
