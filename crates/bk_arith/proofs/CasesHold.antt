-- A term in an interval of literals is equal to one of its numbers.
use Rattle.std.proofs.Common.{◌≡◌, inl, inr, ℕ, zero, suc, ℤ, pos, ◌+ℤ◌, ◌-ℤ◌, List, refl, sym, ◌∙◌, subst, true}
use Rattle.std.specs.Prelude.{Option, Some, None, int_le}
use Rattle.bk_val.specs.Value.{MathValue}
use Rattle.bk_val.specs.CmpLaws.{value_eq-self}
use Rattle.bk_form.specs.Formula.{Formula, literal, binary}
use Rattle.bk_form.specs.Search.{Finder}
use Rattle.bk_form.specs.Environment.{Environment}
use Rattle.bk_form.specs.Operators.{is_equal, numbers_from, count_of}
use Rattle.bk_form.specs.Meaning.{value, truth}
use Rattle.bk_form.specs.declared.operator.BinOp.TheVariants.{In, Range}
use Rattle.bk_form.proofs.Members.{Has, has-then, element-set_value}
use Rattle.bk_arith.specs.Cases.{literals_from, equations, listed_range, equations_with, interval_cases}
use Rattle.bk_arith.specs.Laws.{OneHolds, CasesAreAll}
use Rattle.bk_arith.proofs.Options.{cond-then, some-same}

module _ (find : Finder) (env : Environment) where
  abbrev val : Formula → MathValue
  val f = value find env f

  among-literals : (e : Formula) (v : MathValue) → val e ≡ v → (n : ℕ) (z : ℤ) → Has v (numbers_from z n) → OneHolds find env (equations e (literals_from z n))
  among-literals e v q zero z h = absurd h
  among-literals e v q (suc n) z (inl h) = inl (subst (λ x. is_equal (val e) x ≡ true) (q ∙ h) (value_eq-self (val e)))
  among-literals e v q (suc n) z (inr h) = inr (among-literals e v q n (z +ℤ pos 1) h)

  record IsLiteralRange (r : Formula) (fs : List Formula) : Type 0 where
    low : ℤ
    high : ℤ
    is_range : r ≡ binary Range (literal low) (literal high)
    is_list : literals_from low (count_of ((high +ℤ pos 1) -ℤ low)) ≡ fs

  range-then : (r : Formula) (fs : List Formula) → listed_range r ≡ Some fs → IsLiteralRange r fs
  range-then (binary Range (literal a) (literal b)) fs h = record { low = a; high = b; is_range = refl; is_list = (cond-then (int_le (b -ℤ a) (pos 63)) (literals_from a (count_of ((b +ℤ pos 1) -ℤ a))) fs h).1 }
  range-then _ fs h = absurd (cc)

  among-range : (e r : Formula) (fs : List Formula) → listed_range r ≡ Some fs → truth find env (binary In e r) ≡ true → OneHolds find env (equations e fs)
  among-range e r fs h k =
      let w = range-then r fs h in
      let a = w.low in
      let b = w.high in
      let ns = numbers_from a (count_of ((b +ℤ pos 1) -ℤ a)) in
      let inside : truth find env (binary In e (binary Range (literal a) (literal b))) ≡ true = subst (λ x. truth find env (binary In e x) ≡ true) w.is_range k in
      let has = has-then (val e) ns (sym (element-set_value ns (val e)) ∙ inside) in
      subst (λ l. OneHolds find env (equations e l)) w.is_list (among-literals e (val e) refl (count_of ((b +ℤ pos 1) -ℤ a)) a has)

  by-list : (e r : Formula) (o : Option (List Formula)) (cases : List Formula) → listed_range r ≡ o → equations_with e o ≡ Some cases → truth find env (binary In e r) ≡ true → OneHolds find env cases
  by-list e r None cases q h k = absurd (cc)
  by-list e r (Some fs) cases q h k = subst (OneHolds find env) (some-same (equations e fs) cases h) (among-range e r fs q k)

  pub cases-hold : (hyp : Formula) (cases : List Formula) → interval_cases hyp ≡ Some cases → truth find env hyp ≡ true → OneHolds find env cases
  cases-hold (binary In e r) cases h k = by-list e r (listed_range r) cases refl h k
  cases-hold _ cases h k = absurd (cc)

pub cases_are_all : CasesAreAll
cases_are_all find env hyp cases h k = cases-hold find env hyp cases h k
