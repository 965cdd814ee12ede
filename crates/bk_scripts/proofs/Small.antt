-- The small cases.
use Rattle.std.proofs.Common.{◌≡◌, ◌<◌, ◌^◌, ℕ, List, [], ◌∷◌, Some, None, refl, sym, subst, inl, inr, arith}
use Rattle.std.specs.Prelude.{codes}
use Rattle.std.specs.List.{AllZip}
use Rattle.std.specs.Global.{Vec}
use Rattle.std.specs.Fmt.{digits}
use Rattle.bk_val.specs.ValueType.{int_type, bool_type}
use Rattle.bk_form.specs.Formula.{variable}
use Rattle.bk_raw.specs.Trees.WrittenType.{written_integer, written_bool, written_set}
use Rattle.bk_raw.specs.Meaning.Names.{seen}
use Rattle.bk_raw.specs.declared.script.RawTyped.{RawTyped}
use Rattle.bk_raw.specs.declared.script.RuleWord.TheVariants.{Fix as FixWord}
use Rattle.bk_raw.specs.Trees.ScriptTree.{part_typed}
use Rattle.bk_kernel.specs.declared.rule.Rule.TheVariants.{Fix, Unread}
use Rattle.bk_kernel.specs.declared.rule.Place.TheVariants.{Goal}
use Rattle.bk_scripts.specs.LawNames.{law_number}
use Rattle.bk_scripts.specs.Parts.{Around, NameMeans, TermMeans}
use Rattle.bk_scripts.specs.Grounding.{StandsFor}
use Rattle.bk_scripts.specs.Examples.{typed, rule, around_below, around_reset, GroundingExamples}
use Rattle.bk_scripts.proofs.Turns.{zip-at}

o5 : law_number (codes "O5") ≡ Some 105
unfolding digits
o5 = refl

m65 : law_number (codes "M65") ≡ Some 365
unfolding digits
m65 = refl

g29 : law_number (codes "G29") ≡ None
unfolding digits
g29 = refl

g01 : law_number (codes "G01") ≡ None
unfolding digits
g01 = refl

-- where the only name means nothing, the rule is not read
not-read : (a : Around) (x : RawTyped) → ((n : ℕ) → NameMeans a x n → ⊥) → StandsFor a (rule FixWord (part_typed (x ∷ []) ∷ [])) Unread
not-read a x lacks = inr ((λ r m. let k = zip-at (NameMeans a) (x ∷ []) m.0.items 0 x (omega arith) m.1 in lacks k.0 k.1), refl)

other : (n : ℕ) → NameMeans around_below (typed (codes "u") written_bool) n → ⊥
other n m =
    let here : seen (variable 4) int_type ≡ seen (variable n) m.of_type = m.meant in
    let there : Some bool_type ≡ Some m.of_type = m.typed in
    let no_int : int_type ≡ bool_type = cc in
    absurd (cc)

untyped : (n : ℕ) → NameMeans around_below (typed (codes "w") (written_set (codes "T"))) n → ⊥
untyped n m = let there : None ≡ Some m.of_type = m.typed in absurd (cc)

one-number : (w n : ℕ) → n ≡ w → w < 2 ^ 32 → (ns : List ℕ) → ns ≡ n ∷ [] → AllZip (λ x y. (y ≡ x) × (x < 2 ^ 32)) (w ∷ []) ns
one-number w n e l ns h = subst (AllZip (λ x y. (y ≡ x) × (x < 2 ^ 32)) (w ∷ [])) (sym h) ((e, l), tt)

one-name : (a : Around) (x : RawTyped) (n : ℕ) → NameMeans a x n → (ns : Vec ℕ) → ns.items ≡ n ∷ [] → StandsFor a (rule FixWord (part_typed (x ∷ []) ∷ [])) (Fix ns)
one-name a x n m ns e = inl (ns, subst (AllZip (NameMeans a) (x ∷ [])) (sym e) (m, tt), refl)

pub small_cases : GroundingExamples
small_cases = record {
  its_level = refl;
  its_operation = refl;
  new_below = refl;
  wide_below = refl;
  scope_below = refl;
  scope_above = refl;
  new_reset = refl;
  input_meant = refl;
  constant_meant = refl;
  own_constant = refl;
  lower_constant = refl;
  lower_set = refl;
  lower_element = refl;
  w_is_unseen = refl;
  law_in_place = o5;
  the_last = m65;
  past_the_last = g29;
  with_a_nought = g01;
  nought = inl (0, (refl, omega arith), refl);
  too_great = inr ((λ r m. let l : 4294967296 < 2 ^ 32 = m.1.1 in absurd (omega (arith, l))), refl);
  two_numbers = inr ((λ r m. m.1), refl);
  new_name = one-name around_below (typed (codes "u") written_integer) 4 (record { of_type = int_type; meant = refl; typed = refl });
  an_input = one-name around_reset (typed (codes "c") written_integer) 5 (record { of_type = int_type; meant = refl; typed = refl });
  other_type = not-read around_below (typed (codes "u") written_bool) other;
  no_type = not-read around_below (typed (codes "w") (written_set (codes "T"))) untyped;
  a_law = λ fs e path h. inl (((105, fs), Goal path), ((o5, subst (AllZip (TermMeans around_below) []) (sym e) tt), one-number 1 1 refl (omega arith) path.items h), refl);
}
