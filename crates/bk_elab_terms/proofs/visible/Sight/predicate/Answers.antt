use Rattle.bk_raw.specs.Meaning.Outcome.{ask_predicate}
use Rattle.bk_elab_terms.specs.Visible.{reading_by}
use Rattle.std.specs.Prelude.{true}
use Rattle.bk_elab_terms.proofs.Under.{asked-under}
use Rattle.bk_elab_terms.proofs.visible.Sight.predicate.Goals as goal

pub returns : goal.returns
returns c =
    asked-under ask_predicate (reading_by true c.args.self.now c.args.term.now) c.in_ok-read.read c.ask_predicate.result.answer c.behind.result.answer c.ask_predicate.result.fault c.behind.result.fault
    c.in_ok-read.ensures c.ask_predicate.ensures c.behind.ensures.answer c.behind.ensures.fault
