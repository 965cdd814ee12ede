-- Meanings that compute, to be checked by hand.
use Rattle.std.proofs.Common.{◌≡◌, refl, sym, ◌∙◌, ap, pos, true, false, not}
use Rattle.bk_val.specs.Value.{int}
use Rattle.bk_form.specs.Operators.{is_equal}
use Rattle.bk_form.specs.Laws.{Examples, DefinedExamples}

pub examples : Examples
examples = record {
  empty_interval = λ find e. refl;
  applied = λ find e. refl;
  applied_outside = λ find e. refl;
  applied_twice = λ find e. refl;
  chosen = λ find e. refl;
  chosen_pairs = λ find e. refl;
  squares = λ find e. refl;
  divided = λ find e. refl;
  divided_by_zero = λ find e. refl;
  remainder_outside = λ find e. refl;
  power_outside = λ find e. refl;
  greatest_of_none = λ find e. refl;
  counted = λ find e. refl;
  image = λ find e. refl;
  composed = λ find e. refl;
  overridden = λ find e. refl;
  restricted = λ find e. refl;
  subtracted = λ find e. refl;
  product = λ find e. refl;
  product_of_domains = λ find e. refl;
  power_set = λ find e. refl;
  power_set_without_empty = λ find e. refl;
  partial = λ find e. refl;
  not_injective = λ find e. refl;
}

pub defined-examples : DefinedExamples
defined-examples = record {
  left_first = λ find e h. ((tt, tt, refl), λ k. absurd (let q : true ≡ false = sym (ap (λ v. is_equal v (int (pos 0))) h) ∙ k in cc));
  left_undefined = λ find e h d. let q : false ≡ true = sym (ap (λ v. not (is_equal v (int (pos 0)))) h) ∙ d.0.0.2 in cc;
  fits = λ find e. (tt, tt, refl);
  too_large = λ find e d. let q : false ≡ true = d.2 in cc;
}
