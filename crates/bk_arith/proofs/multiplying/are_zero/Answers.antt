use Rattle.std.proofs.Common.{◌≡◌, List, [], ◌∷◌, ◌&&◌, ap, sym, refl, ◌∙◌, rules, tests}
use Rattle.std.specs.List.{list_all}
use Rattle.std.proofs.lemmas.Iterator.{YieldsList-from_slice}
use Rattle.std.proofs.lemmas.Iterator.Search.{all_from_yields_List}
use Rattle.bk_arith.specs.declared.multiplying.Monomial.{Monomial as StoredMonomial}
use Rattle.bk_arith.specs.Polynomials.{is_zero}
use Rattle.bk_arith.specs.Layout.{monomial_of, polynomial_of}
use Rattle.bk_arith.proofs.multiplying.are_zero.Goals as goal

stored-all : (ms : List StoredMonomial) → list_all is_zero (polynomial_of ms) ≡ list_all (λ m. is_zero (monomial_of m)) ms
stored-all [] = refl
stored-all (m ∷ ms) = ap (λ b. is_zero (monomial_of m) && b) (stored-all ms)

pub returns : goal.returns
returns c =
    all_from_yields_List (λ (m : StoredMonomial). is_zero (monomial_of m)) _ _ c.all.result c.all.ensures.ran (YieldsList-from_slice _ c.iter.ensures.rest) (λ x b q k. search (rules, tests))
    ∙ sym (stored-all c.args.list.now)
