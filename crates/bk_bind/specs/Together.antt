-- Variables bound all at once. Only private contracts cite it: that this is what binding one after the other makes is proved.
use Rattle.std.specs.Prelude.{ℕ, ◌+◌, nat_eq, cond, List, [], ◌∷◌, length, Option, Some, None, unwrap_or}
use Rattle.std.specs.Option.{option_map, option_or}
use Rattle.bk_form.specs.Formula.{Formula, variable, bound, literal, truth_value, element, empty_set, named, btrue, bfalse}
use Rattle.bk_form.specs.Formula.{unary, binary, for_all, for_some, comprehension, lambda, Formulas, no_formulas, formula_and}
use Rattle.bk_form.specs.Replacement.{count}

-- how many variables are bound within this one, where `within` are bound within all of these; of equal ones the last counts
abbrev pub place_above : ℕ → List ℕ → ℕ → Option ℕ
place_above within [] n = None
place_above within (z ∷ zs) n = option_or (place_above within zs n) (cond (nat_eq n z) (Some (length zs + within)) None)

abbrev mutual
  -- each variable that has a place becomes the bound number of this place, where the formula is under k binders of its own
  pub bound_together : (ℕ → Option ℕ) → ℕ → Formula → Formula
  bound_together place k (variable n) = unwrap_or (option_map (λ p. bound (p + k)) (place n)) (variable n)
  bound_together place k (bound n) = bound n
  bound_together place k (literal i) = literal i
  bound_together place k (truth_value b) = truth_value b
  bound_together place k (element s i) = element s i
  bound_together place k (empty_set t) = empty_set t
  bound_together place k (named d) = named d
  bound_together place k btrue = btrue
  bound_together place k bfalse = bfalse
  bound_together place k (unary o a) = unary o (bound_together place k a)
  bound_together place k (binary o a b) = binary o (bound_together place k a) (bound_together place k b)
  bound_together place k (for_all ts p) = for_all ts (bound_together place (length ts + k) p)
  bound_together place k (for_some ts p) = for_some ts (bound_together place (length ts + k) p)
  bound_together place k (comprehension rs p) = comprehension (all_bound_together place k rs) (bound_together place (count rs + k) p)
  bound_together place k (lambda rs p v) =
      lambda (all_bound_together place k rs) (bound_together place (count rs + k) p) (bound_together place (count rs + k) v)

  -- the same in each of these formulas
  pub all_bound_together : (ℕ → Option ℕ) → ℕ → Formulas → Formulas
  all_bound_together place k no_formulas = no_formulas
  all_bound_together place k (formula_and f fs) = formula_and (bound_together place k f) (all_bound_together place k fs)
