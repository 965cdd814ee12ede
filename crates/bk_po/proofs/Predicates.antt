-- What is built of predicates is a predicate: conjunctions, conditions of assertions and what a goal is taken apart into.
use Rattle.std.proofs.Common.{◌≡◌, ℕ, List, [], ◌∷◌, ◌++◌, map, refl, sym, ◌∙◌, not}
use Rattle.std.specs.List.{filter}
use Rattle.bk_form.specs.Table.{Table, IsWellFormed}
use Rattle.bk_form.specs.Formula.{Formula, btrue, binary}
use Rattle.bk_form.specs.Role.{Role, predicate, connective_role, role}
use Rattle.bk_form.specs.declared.operator.BinOp.TheVariants.{And, Imp}
use Rattle.bk_form.specs.Predicates.{IsPredicate, conjuncts, equation}
use Rattle.bk_dev.specs.Development.{is_btrue}
use Rattle.bk_dev.specs.Facts.{AreAlike, AllAlike}
use Rattle.bk_form.specs.Each.{Each}
use Rattle.bk_dev.specs.Claims.{beside}
use Rattle.bk_wd.specs.Joining.{where_true}
use Rattle.bk_wd.specs.WellDefined.{defined}
use Rattle.bk_wd.proofs.Parts.{both-role, where-role}
use Rattle.bk_wd.proofs.Predicates.{defined-predicate}
use Rattle.bk_seq.specs.Sequents.{Types as TypedSequent, split}
use Rattle.bk_po.specs.Obligations.{joined_onto, joined_all, conjunction, each_after, defined_in_turn}
use Rattle.bk_po.proofs.Lists.{append-each, map-each, filter-each, each-so}
use Rattle.bk_form.proofs.Equations.{equation-predicate}

-- ---- roles
connective-both : (a b : Role) → connective_role a b ≡ predicate → (a ≡ predicate) × (b ≡ predicate)
connective-both predicate predicate h = (refl, refl)
connective-both a b h = absurd (cc)

module _ (table : Table) where
  and-predicate : (p q : Formula) → IsPredicate table p → IsPredicate table q → IsPredicate table (binary And p q)
  and-predicate p q h k = λ i. connective_role (h i) (k i)

  -- ---- conjunctions
  onto-predicate : (p : Formula) (qs : List Formula) → IsPredicate table p → Each (IsPredicate table) qs → IsPredicate table (joined_onto p qs)
  onto-predicate p [] h k = h
  onto-predicate p (q ∷ qs) h k = onto-predicate (binary And p q) qs (and-predicate p q h k.0) k.1

  joined-predicate : (ps : List Formula) → Each (IsPredicate table) ps → IsPredicate table (joined_all ps)
  joined-predicate [] h = refl
  joined-predicate (p ∷ ps) h = onto-predicate p ps h.0 h.1

  pub conjunction-predicate : (ps : List Formula) → Each (IsPredicate table) ps → IsPredicate table (conjunction ps)
  conjunction-predicate ps h = joined-predicate (filter (λ p. not (is_btrue p)) ps) (filter-each (IsPredicate table) (λ p. not (is_btrue p)) ps h)

  pub after-predicate : (ps : List Formula) → Each (IsPredicate table) ps → IsPredicate table (each_after ps)
  after-predicate [] h = refl
  after-predicate (p ∷ []) h = h.0
  after-predicate (p ∷ q ∷ qs) h = λ i. connective_role (h.0 i) (connective_role (h.0 i) (after-predicate (q ∷ qs) h.1 i))

  pub in-turn-predicate : IsWellFormed table → (ps : List Formula) → Each (IsPredicate table) ps → IsPredicate table (defined_in_turn table ps)
  in-turn-predicate well [] h = refl
  in-turn-predicate well (p ∷ ps) h = both-role table [] (defined table [] p) (where_true p (defined_in_turn table ps)) (defined-predicate table well p h.0) (where-role table [] p (defined_in_turn table ps) h.0 (in-turn-predicate well ps h.1))

  pub links-predicates : (ps : List (ℕ × ℕ)) → Each (λ p. AreAlike table p.0 p.1) ps → Each (IsPredicate table) (map equation ps)
  links-predicates ps h = map-each (IsPredicate table) equation ps (each-so (λ p. AreAlike table p.0 p.1) (λ p. IsPredicate table (equation p)) ps (equation-predicate table) h)

  pub links-predicate : (ps : List (ℕ × ℕ)) → Each (λ p. AreAlike table p.0 p.1) ps → IsPredicate table (conjunction (map equation ps))
  links-predicate ps h = conjunction-predicate (map equation ps) (links-predicates ps h)

  pub beside-alike : (xs ys zs : List ℕ) → AllAlike table xs zs → AllAlike table ys zs → Each (λ p. AreAlike table p.0 p.1) (beside xs ys)
  beside-alike [] ys zs h k = tt
  beside-alike (x ∷ xs) [] zs h k = tt
  beside-alike (x ∷ xs) (y ∷ ys) [] h k = absurd h
  beside-alike (x ∷ xs) (y ∷ ys) (z ∷ zs) h k = ((h.0.0, h.0.1, k.0.1 ∙ sym k.0.2 ∙ h.0.2), beside-alike xs ys zs h.1 k.1)

  -- ---- formulas taken apart
  pub parts-predicates : (p : Formula) → IsPredicate table p → Each (IsPredicate table) (conjuncts p)
  parts-predicates (binary And p q) h =
      let w = connective-both (role table [] p) (role table [] q) h in
      append-each (IsPredicate table) (conjuncts p) (conjuncts q) (parts-predicates p w.0) (parts-predicates q w.1)
  parts-predicates btrue h = tt
  parts-predicates p h = (h, tt)

  pub split-typed : (hyps : List Formula) (p : Formula) → Each (IsPredicate table) hyps → IsPredicate table p → Each (TypedSequent table) (split hyps p)
  split-typed hyps (binary And p q) k h =
      let w = connective-both (role table [] p) (role table [] q) h in
      append-each (TypedSequent table) (split hyps p) (split hyps q) (split-typed hyps p k w.0) (split-typed hyps q k w.1)
  split-typed hyps (binary Imp p q) k h =
      let w = connective-both (role table [] p) (role table [] q) h in
      split-typed (hyps ++ conjuncts p) q (append-each (IsPredicate table) hyps (conjuncts p) k (parts-predicates p w.0)) w.1
  split-typed hyps btrue k h = tt
  split-typed hyps p k h = ((k, h), tt)
