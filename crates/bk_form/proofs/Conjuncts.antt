-- Lists of predicates, and conjunctions.
use Rattle.std.proofs.Common.{List, [], ◌∷◌, ◌++◌, true, refl, ◌≡◌}
use Rattle.bk_form.specs.Formula.{Formula, btrue, binary}
use Rattle.bk_form.specs.Search.{Finder}
use Rattle.bk_form.specs.Environment.{Environment}
use Rattle.bk_form.specs.Meaning.{truth}
use Rattle.bk_form.specs.Predicates.{AllHold, conjuncts}
use Rattle.bk_form.specs.declared.operator.BinOp.TheVariants.{And}
use Rattle.bk_form.proofs.Members.{and-both, and-true}

module _ (find : Finder) where
  pub true-append : (e : Environment) (ps qs : List Formula) → AllHold find e ps → AllHold find e qs → AllHold find e (ps ++ qs)
  true-append e [] qs h k = k
  true-append e (p ∷ ps) qs h k = (h.0, true-append e ps qs h.1 k)

  pub true-first : (e : Environment) (ps qs : List Formula) → AllHold find e (ps ++ qs) → AllHold find e ps
  true-first e [] qs h = tt
  true-first e (p ∷ ps) qs h = (h.0, true-first e ps qs h.1)

  pub true-second : (e : Environment) (ps qs : List Formula) → AllHold find e (ps ++ qs) → AllHold find e qs
  true-second e [] qs h = h
  true-second e (p ∷ ps) qs h = true-second e ps qs h.1

  pub parts-true : (e : Environment) (p : Formula) → truth find e p ≡ true → AllHold find e (conjuncts p)
  parts-true e (binary And p q) h = let w = and-both (truth find e p) (truth find e q) h in true-append e (conjuncts p) (conjuncts q) (parts-true e p w.0) (parts-true e q w.1)
  parts-true e btrue h = tt
  parts-true e p h = (h, tt)

  pub whole-true : (e : Environment) (p : Formula) → AllHold find e (conjuncts p) → truth find e p ≡ true
  whole-true e (binary And p q) h = and-true (truth find e p) (truth find e q) (whole-true e p (true-first e (conjuncts p) (conjuncts q) h)) (whole-true e q (true-second e (conjuncts p) (conjuncts q) h))
  whole-true e btrue h = refl
  whole-true e p h = h.0
