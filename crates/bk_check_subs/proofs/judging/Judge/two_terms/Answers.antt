use Rattle.std.specs.Option.{option_copied}
use Rattle.bk_elab_terms.specs.Shown.{told}
use Rattle.bk_check_subs.specs.Judged.{term_by}
use Rattle.bk_scope.proofs.FaultSteps.{told-both}
use Rattle.bk_check_subs.proofs.judging.Judge.two_terms.Goals as goal

pub returns : goal.returns
returns c =
    told-both (term_by c.args.self.now (option_copied c.args.first) c.args.index.now) (term_by c.args.self.now (option_copied c.args.second) c.args.value.now) (told c.in_ok-one.one) (told c.in_ok-other.other) (told c.earlier.result)
    c.in_ok-one.ensures c.in_ok-other.ensures c.earlier.ensures
