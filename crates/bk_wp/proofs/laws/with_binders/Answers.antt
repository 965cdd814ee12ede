use Rattle.bk_wp.proofs.Binders.{box-means, diamond-means, diamond-is-conjugate}
use Rattle.bk_wp.proofs.laws.with_binders.Goals as goal

pub returns-clause-boxes : goal.returns-clause-boxes
returns-clause-boxes c = λ find table s r h e. box-means find h.search table h.formed s h.loops h.types r h.predicate h.apart e

pub returns-clause-diamonds : goal.returns-clause-diamonds
returns-clause-diamonds c = λ find table s r h e. diamond-means find h.search table h.formed s h.loops h.types r h.predicate h.apart e

pub returns-clause-conjugates : goal.returns-clause-conjugates
returns-clause-conjugates c = λ find table s r h e.
    diamond-is-conjugate find h.search table h.formed s h.loops h.types r h.predicate h.apart e
