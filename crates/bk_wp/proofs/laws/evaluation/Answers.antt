use Rattle.bk_wp.proofs.Boxes.{guarded_is_predicate}
use Rattle.bk_wp.proofs.Cleaning.{guarded_is_clean}
use Rattle.bk_wp.proofs.laws.evaluation.Goals as goal

pub returns-clause-clean : goal.returns-clause-clean
returns-clause-clean c = λ find table arrays s r e h.
    guarded_is_clean find h.search table h.formed arrays s h.flat h.types r h.closed h.apart e h.state h.box

pub returns-clause-predicates : goal.returns-clause-predicates
returns-clause-predicates c = λ table arrays s h. guarded_is_predicate table h.formed h.numbered arrays h.arrays_typed s h.flat h.types
