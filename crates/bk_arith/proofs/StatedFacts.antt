-- What is wrong with the facts alone.
use Rattle.std.proofs.Common.{◌≡◌, ◌⊎◌, inl, inr, List, Option, Some, None, MatchOption, Result, Ok, Err, OnOk, IfErr, refl, sym, ap, ◌∙◌, Bool, true, false, cond, length}
use Rattle.std.specs.Prelude.{is_none, is_some}
use Rattle.std.specs.List.{list_any}
use Rattle.std.specs.Option.{option_or, option_map, some_prefix}
use Rattle.bk_form.specs.Formula.{Formula}
use Rattle.bk_lin.specs.declared.fact.Line.{Line}
use Rattle.bk_lin.specs.Answer.{certificate_fault}
use Rattle.bk_arith.specs.declared.comparison.Stated.{Stated}
use Rattle.bk_arith.specs.declared.error.ArithFault.{ArithFault}
use Rattle.bk_arith.specs.declared.error.ArithFault.TheVariants.{NotLinear, TooWide, Cert, Memory}
use Rattle.bk_arith.specs.Reading.{atoms_of}
use Rattle.bk_arith.specs.Decision.{first_unread, terms_of, readings, facts_fault}
use Rattle.bk_arith.specs.Layout.{terms_in}
use Rattle.bk_arith.specs.Laws.{FactsDecide}

-- something is stated exactly where terms are
pub told : (o : Option Stated) (terms : Option (List Formula)) → MatchOption o (terms ≡ None) (λ s. terms ≡ Some (terms_in s)) → is_some o ≡ is_some terms
told None terms h = ap is_some (sym h)
told (Some s) terms h = ap is_some (sym h)

module _ (hyps : List Formula) (goal : Formula) where
  unread : first_unread hyps goal ≡ None → facts_fault hyps goal ≡ cond (list_any is_none (readings (terms_of hyps goal))) (Some TooWide) None
  unread h = ap (λ o. option_or (option_map NotLinear o) (cond (list_any is_none (readings (terms_of hyps goal))) (Some TooWide) None)) h

  pub right : {A : Type 0} (r : Result A ArithFault) → first_unread hyps goal ≡ None → OnOk r (list_any is_none (readings (terms_of hyps goal)) ≡ false) → OnOk r (facts_fault hyps goal ≡ None)
  right (Ok a) h n = unread h ∙ ap (λ b. cond b (Some TooWide) None) n
  right (Err e) h n = tt

  pub wrong : {A : Type 0} (r : Result A ArithFault) → first_unread hyps goal ≡ None → IfErr r (λ e. (e ≡ Memory) ⊎ ((e ≡ TooWide) × (list_any is_none (readings (terms_of hyps goal)) ≡ true))) → IfErr r (λ e. (e ≡ Memory) ⊎ (facts_fault hyps goal ≡ Some e))
  wrong (Ok a) h f = tt
  wrong (Err e) h (inl m) = inl m
  wrong (Err e) h (inr w) = inr (unread h ∙ ap (λ b. cond b (Some TooWide) None) w.1 ∙ ap (λ x. Some x) (sym w.0))

-- whatever comes behind
module _ (last : Option ArithFault) where
  by_width : (b : Bool) → cond b (Some TooWide) last ≡ option_or (cond b (Some TooWide) None) last
  by_width true = refl
  by_width false = refl

  by_first : (first : Option ArithFault) (b : Bool) → option_or first (cond b (Some TooWide) last) ≡ option_or (option_or first (cond b (Some TooWide) None)) last
  by_first None b = by_width b
  by_first (Some e) b = refl

pub facts_decide : FactsDecide
facts_decide hyps goal cert = by_first (option_map Cert (certificate_fault (length (atoms_of (terms_of hyps goal))) (some_prefix (readings (terms_of hyps goal))) cert)) (option_map NotLinear (first_unread hyps goal)) (list_any is_none (readings (terms_of hyps goal)))
