-- What is accepted is valid: the facts of true hypotheses and of a false goal are true, and an accepted certificate
-- contradicts them.
use Rattle.std.proofs.Common.{◌≡◌, ℕ, ℤ, pos, ◌-ℤ◌, ◌≤ℤ◌, List, [], ◌∷◌, ◌++◌, map, length, All, refl, ap, sym, subst, ◌∙◌, arith, Bool, true, false, not, cond, Option, Some, None, unwrap_or, int_le}
use Rattle.std.specs.Prelude.{is_none, int_lt}
use Rattle.std.specs.List.{list_any, list_all, flat_map}
use Rattle.std.specs.Option.{option_or, option_map, some_prefix}
use Rattle.std.proofs.lemmas.Int.{ints}
use Rattle.std.proofs.lemmas.List.Elements.{All-nil, All-cons}
use Rattle.bk_val.specs.Value.{MathValue, int}
use Rattle.bk_val.specs.CmpLaws.{same_value}
use Rattle.bk_form.specs.Table.{set_size}
use Rattle.bk_form.specs.Formula.{Formula, named, unary, binary}
use Rattle.bk_form.specs.Search.{Finder}
use Rattle.bk_form.specs.Environment.{Environment, at_state}
use Rattle.bk_form.specs.Operators.{number_in, is_in_named}
use Rattle.bk_form.specs.Meaning.{value, truth, within}
use Rattle.bk_form.specs.declared.operator.UnOp.{UnOp}
use Rattle.bk_form.specs.declared.operator.UnOp.TheVariants.{Not}
use Rattle.bk_form.specs.declared.operator.BinOp.{BinOp}
use Rattle.bk_form.specs.declared.operator.BinOp.TheVariants.{Eq, Lt, Le, In, Range}
use Rattle.bk_form.specs.declared.operator.Domain.TheVariants.{Natural, Natural1}
use Rattle.bk_form.proofs.Members.{and-both}
use Rattle.bk_form.proofs.Domains.{interval-members}
use Rattle.bk_form.specs.Predicates.{AllHold}
use Rattle.bk_lin.specs.declared.fact.Line.{Line}
use Rattle.bk_lin.specs.declared.fact.CertFault.{CertFault}
use Rattle.bk_lin.specs.Inequality.{Inequality, IsTrueOf}
use Rattle.bk_lin.specs.Answer.{certificate_fault}
use Rattle.bk_lin.proofs.Answer.{contradictory}
use Rattle.bk_arith.specs.declared.error.ArithFault.{ArithFault}
use Rattle.bk_arith.specs.declared.error.ArithFault.TheVariants.{NotLinear, TooWide, Cert}
use Rattle.bk_arith.specs.Comparison.{terms_of_member, terms_of_comparison, terms_of_denied, terms_of_negation, terms_of_hypothesis, terms_of_goal}
use Rattle.bk_arith.specs.Reading.{occurrences, atoms_of, reading}
use Rattle.bk_arith.specs.Decision.{first_unread, terms_of, readings, fault_of_terms, linear_fault, is_accepted}
use Rattle.bk_arith.specs.Laws.{atom_values, AcceptedIsValid}
use Rattle.bk_arith.proofs.Products.{form_value}
use Rattle.bk_arith.proofs.AtomLists.{stands, IsOnce, atoms-once, atoms-has, all-append}
use Rattle.bk_arith.proofs.SideValues.{has-value}

-- ---- comparisons of numbers
le_then : (x y : ℤ) → int_le x y ≡ true → pos 0 ≤ℤ (y -ℤ x)
le_then x y h = grind (arith, ints)

lt_then : (x y : ℤ) → int_lt x y ≡ true → pos 0 ≤ℤ ((y -ℤ x) -ℤ pos 1)
lt_then x y h = grind (arith, ints)

not_le_then : (x y : ℤ) → int_le x y ≡ false → pos 0 ≤ℤ ((x -ℤ y) -ℤ pos 1)
not_le_then x y h = grind (arith, ints)

not_lt_then : (x y : ℤ) → int_lt x y ≡ false → pos 0 ≤ℤ (x -ℤ y)
not_lt_then x y h = grind (arith, ints)

same_then : (x y : ℤ) → x ≡ y → pos 0 ≤ℤ (y -ℤ x)
same_then x y h = omega (arith, ints)

least_then : (x : ℤ) → int_le (pos 0) x ≡ true → pos 0 ≤ℤ x
least_then x h = grind (arith, ints)

first_then : (x : ℤ) → int_le (pos 1) x ≡ true → pos 0 ≤ℤ (x -ℤ pos 1)
first_then x h = grind (arith, ints)

natural_then : (sizes : ℕ → ℕ) (v : MathValue) → is_in_named sizes Natural v ≡ true → pos 0 ≤ℤ number_in v
natural_then sizes (int z) h = least_then z h
natural_then sizes _ h = absurd (cc)

natural1_then : (sizes : ℕ → ℕ) (v : MathValue) → is_in_named sizes Natural1 v ≡ true → pos 0 ≤ℤ (number_in v -ℤ pos 1)
natural1_then sizes (int z) h = first_then z h
natural1_then sizes _ h = absurd (cc)

not_then : (b : Bool) → not b ≡ true → b ≡ false
not_then false h = refl
not_then true h = absurd (cc)

module _ (find : Finder) (e : Environment) where
  abbrev number_of : Formula → ℤ
  number_of t = number_in (value find e t)

  -- each term is at least 0
  abbrev NotNegative : List Formula → Type 0
  NotNegative [] = Unit {0}
  NotNegative (t ∷ ts) = (pos 0 ≤ℤ number_of t) × NotNegative ts

  -- so is each of those that are stated
  abbrev Stated : Option (List Formula) → Type 0
  Stated o = NotNegative (unwrap_or o [])

  in_range : (a l h : Formula) (v : MathValue) → v ≡ value find e a → within find e v (binary Range l h) ≡ true → (pos 0 ≤ℤ (number_of a -ℤ number_of l)) × (pos 0 ≤ℤ (number_of h -ℤ number_of a))
  in_range a l h v same k =
      let z = interval-members.others find e l h v k in
      let number : z.0 ≡ number_of a = ap number_in (sym z.1 ∙ same) in
      let inside : within find e (int z.0) (binary Range l h) ≡ true = subst (λ w. within find e w (binary Range l h) ≡ true) z.1 k in
      let both = and-both (int_le (number_of l) z.0) (int_le z.0 (number_of h)) (sym (interval-members.numbers find e l h z.0) ∙ inside) in (
        le_then (number_of l) (number_of a) (subst (λ n. int_le (number_of l) n ≡ true) number both.0),
        le_then (number_of a) (number_of h) (subst (λ n. int_le n (number_of h) ≡ true) number both.1),
      )

  of_member : (a b : Formula) → within find e (value find e a) b ≡ true → Stated (terms_of_member a b)
  of_member a (named Natural) h = (natural_then (set_size e.table) (value find e a) h, tt)
  of_member a (named Natural1) h = (natural1_then (set_size e.table) (value find e a) h, tt)
  of_member a (binary Range l m) h = let k = in_range a l m (value find e a) refl h in (k.0, (k.1, tt))
  of_member a _ h = tt

  of_comparison : (o : BinOp) (a b : Formula) → truth find e (binary o a b) ≡ true → Stated (terms_of_comparison o a b)
  of_comparison Le a b h = (le_then (number_of a) (number_of b) h, tt)
  of_comparison Lt a b h = (lt_then (number_of a) (number_of b) h, tt)
  of_comparison Eq a b h =
      let same : number_of a ≡ number_of b = ap number_in (same_value (value find e a) (value find e b) h) in
      (same_then (number_of a) (number_of b) same, (same_then (number_of b) (number_of a) (sym same), tt))
  of_comparison In a b h = of_member a b h
  of_comparison _ a b h = tt

  denied_comparison : (o : BinOp) (a b : Formula) → truth find e (binary o a b) ≡ false → Stated (terms_of_denied (binary o a b))
  denied_comparison Le a b h = (not_le_then (number_of a) (number_of b) h, tt)
  denied_comparison Lt a b h = (not_lt_then (number_of a) (number_of b) h, tt)
  denied_comparison _ a b h = tt

  of_denied : (p : Formula) → truth find e p ≡ false → Stated (terms_of_denied p)
  of_denied (binary o a b) h = denied_comparison o a b h
  of_denied _ h = tt

  of_negation : (o : UnOp) (p : Formula) → truth find e (unary o p) ≡ true → Stated (terms_of_negation o p)
  of_negation Not p h = of_denied p (not_then (truth find e p) h)
  of_negation _ p h = tt

  of_hypothesis : (p : Formula) → truth find e p ≡ true → Stated (terms_of_hypothesis p)
  of_hypothesis (binary o a b) h = of_comparison o a b h
  of_hypothesis (unary o p) h = of_negation o p h
  of_hypothesis _ h = tt

  of_goal : (p : Formula) → truth find e p ≡ false → Stated (terms_of_goal p)
  of_goal (binary o a b) h = denied_comparison o a b h
  of_goal _ h = tt

  joined : (ts us : List Formula) → NotNegative ts → NotNegative us → NotNegative (ts ++ us)
  joined [] us h k = k
  joined (t ∷ ts) us h k = (h.0, joined ts us h.1 k)

  of_all : (hyps : List Formula) (goal : Formula) → AllHold find e hyps → truth find e goal ≡ false → NotNegative (terms_of hyps goal)
  of_all [] goal hold h = joined (unwrap_or (terms_of_goal goal) []) [] (of_goal goal h) tt
  of_all (p ∷ ps) goal hold h =
      joined (unwrap_or (terms_of_hypothesis p) []) (terms_of ps goal) (of_hypothesis p hold.0) (of_all ps goal hold.1 h)

  -- ---- the terms' linear forms
  true_facts : (atoms : List Formula) → IsOnce atoms → (terms : List Formula) → list_all (stands atoms) (flat_map occurrences terms) ≡ true → NotNegative terms → All (IsTrueOf (atom_values find e atoms)) (some_prefix (map (reading atoms) terms))
  true_facts atoms once [] h k = All-nil (IsTrueOf (atom_values find e atoms))
  true_facts atoms once (t ∷ ts) h k =
      let stand = all-append (stands atoms) (occurrences t) (flat_map occurrences ts) h in
      first (reading atoms t) (has-value find e atoms once t stand.0) (true_facts atoms once ts stand.1 k.1)
    where
      first : (o : Option Inequality) → ((p : Inequality) → o ≡ Some p → form_value (atom_values find e atoms) p ≡ number_of t) → All (IsTrueOf (atom_values find e atoms)) (some_prefix (map (reading atoms) ts)) → All (IsTrueOf (atom_values find e atoms)) (some_prefix (o ∷ map (reading atoms) ts))
      first None f rest = All-nil (IsTrueOf (atom_values find e atoms))
      first (Some p) f rest =
          All-cons (IsTrueOf (atom_values find e atoms)) p (some_prefix (map (reading atoms) ts))
          (subst (λ z. pos 0 ≤ℤ z) (sym (f p refl)) k.0) rest

-- ---- what acceptance says
none_then : (o : Option ArithFault) → is_none o ≡ true → o ≡ None
none_then None h = refl
none_then (Some f) h = absurd (cc)

neither : (o p : Option ArithFault) → option_or o p ≡ None → p ≡ None
neither None p h = h
neither (Some f) p h = absurd (cc)

narrow_only : (b : Bool) (o : Option CertFault) → cond b (Some TooWide) (option_map Cert o) ≡ None → o ≡ None
narrow_only true o h = absurd (cc)
narrow_only false None h = refl
narrow_only false (Some f) h = absurd (cc)

checked : (hyps : List Formula) (goal : Formula) (cert : List Line) → is_accepted hyps goal cert ≡ true → certificate_fault (length (atoms_of (terms_of hyps goal))) (some_prefix (readings (terms_of hyps goal))) cert ≡ None
checked hyps goal cert h =
    let terms : List Formula = terms_of hyps goal in
    narrow_only (list_any is_none (readings terms)) (certificate_fault (length (atoms_of terms)) (some_prefix (readings terms)) cert)
    (neither (option_map NotLinear (first_unread hyps goal)) (fault_of_terms terms cert) (none_then (linear_fault hyps goal cert) h))

pub accepted_is_valid : AcceptedIsValid
accepted_is_valid table hyps goal cert h find law state typed hold = by_truth (truth find (at_state table state) goal) refl
  where
    by_truth : (b : Bool) → truth find (at_state table state) goal ≡ b → truth find (at_state table state) goal ≡ true
    by_truth true k = k
    by_truth false k =
        let e : Environment = at_state table state in
        let terms : List Formula = terms_of hyps goal in
        absurd (contradictory (length (atoms_of terms)) (some_prefix (readings terms)) cert (checked hyps goal cert h) (atom_values find e (atoms_of terms))
        (true_facts find e (atoms_of terms) (atoms-once terms) terms (atoms-has terms) (of_all find e hyps goal hold k)))
