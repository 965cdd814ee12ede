use Rattle.std.proofs.Common.{◌∙◌, ap}
use Rattle.bk_raw.specs.declared.term.RawRange.{RawRange}
use Rattle.bk_raw.specs.Trees.RawTree.{RawTree}
use Rattle.bk_raw.specs.Meaning.TermReading.{stricts}
use Rattle.bk_raw.specs.Errors.Blame.{blame}
use Rattle.bk_elab_terms.specs.Shown.{told}
use Rattle.bk_elab_terms.proofs.Strict.{terms-more, ranges-more}
use Rattle.bk_elab_terms.proofs.written.+strict.Goals as goal

pub first_strict_of-loop-term-preserved : goal.first_strict_of-loop-term-preserved
first_strict_of-loop-term-preserved t c =
    terms-more c.args.terms.now c.loop-term.term-index c.term-item.result (told c.loop-term.fault) (told c.earlier-fault.result) (told c.first_strict.result) _ c.loop-term-test.true
    (c.first_strict.ensures ∙ ap (λ (x : RawTree). blame (stricts x)) c.term-item.is) c.earlier-fault.ensures c.loop-term.invariant

pub first_strict_in-loop-range-preserved : goal.first_strict_in-loop-range-preserved
first_strict_in-loop-range-preserved t c =
    ranges-more c.args.ranges.now c.loop-range.range-index c.range-item.result (told c.loop-range.fault) (told c.earlier-fault.result) (told c.first_strict.result) _ c.loop-range-test.true
    (c.first_strict.ensures ∙ ap (λ (x : RawRange). blame (stricts x.range)) c.range-item.is) c.earlier-fault.ensures c.loop-range.invariant
