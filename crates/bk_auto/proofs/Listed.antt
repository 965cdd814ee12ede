-- The rule that cites all comparisons is a step that closes the sequent.
use Rattle.std.proofs.Common.{inl, inr, ◌≡◌, ℕ, suc, ◌+◌, true, cond, List, [], ◌∷◌, map, Some, refl, ap, sym, ◌∙◌, arith}
use Rattle.std.specs.Prelude.{is_none}
use Rattle.std.specs.Global.{Vec}
use Rattle.std.specs.List.{slice_get}
use Rattle.std.specs.Option.{option_map, option_and_then}
use Rattle.std.proofs.lemmas.Bool.{cases_Bool}
use Rattle.bk_form.specs.Table.{Table}
use Rattle.bk_form.specs.Formula.{Formula}
use Rattle.bk_lin.specs.declared.fact.Line.{Line}
use Rattle.bk_arith.specs.Comparison.{terms_of_hypothesis}
use Rattle.bk_arith.specs.Decision.{is_accepted}
use Rattle.bk_seq.specs.Paths.{numbered_item}
use Rattle.bk_kernel.specs.declared.rule.Rule.TheVariants.{Lin}
use Rattle.bk_kernel.specs.Branches.{extended, closed_if}
use Rattle.bk_kernel.specs.Rules.{listed_facts, IsInstance}
use Rattle.bk_kernel.specs.Derivations.{Derives}
use Rattle.bk_auto.specs.Easy.{comparisons}
use Rattle.bk_auto.specs.Found.{comparison_numbers}

-- the hypotheses from number n on are these
abbrev Stand : List Formula → List Formula → ℕ → Type 0
Stand all hs n = (i : ℕ) → numbered_item all (suc (n + i)) ≡ slice_get hs i

stand_more : (all hs : List Formula) (h : Formula) (n : ℕ) → Stand all (h ∷ hs) n → Stand all hs (suc n)
stand_more all hs h n s i = let e : suc (suc n + i) ≡ suc (n + suc i) = omega arith in ap (numbered_item all) e ∙ s (suc i)

listed : (all hs : List Formula) (n : ℕ) → Stand all hs n → listed_facts all (comparison_numbers (suc n) hs) ≡ Some (comparisons hs)
listed all [] n s = refl
listed all (h ∷ hs) n s = elim (cases_Bool (is_none (terms_of_hypothesis h))) as (λ _. listed_facts all (comparison_numbers (suc n) (h ∷ hs)) ≡ Some (comparisons (h ∷ hs))) [
  | inl e ↦ ap (λ b. listed_facts all (cond b (comparison_numbers (suc (suc n)) hs) (suc n ∷ comparison_numbers (suc (suc n)) hs))) e
      ∙ listed all hs (suc n) (stand_more all hs h n s)
      ∙ ap (λ b. Some (cond b (comparisons hs) (h ∷ comparisons hs))) (sym e)
  | inr e ↦ ap (λ b. listed_facts all (cond b (comparison_numbers (suc (suc n)) hs) (suc n ∷ comparison_numbers (suc (suc n)) hs))) e
      ∙ ap (λ o. option_and_then (λ p. option_map (λ ps. p ∷ ps) (listed_facts all (comparison_numbers (suc (suc n)) hs))) o) (let k : suc n ≡ suc (n + 0) = omega arith in ap (numbered_item all) k ∙ s 0)
      ∙ ap (λ o. option_map (λ ps. h ∷ ps) o) (listed all hs (suc n) (stand_more all hs h n s))
      ∙ ap (λ b. Some (cond b (comparisons hs) (h ∷ comparisons hs))) (sym e)
]

stand_all : (hs : List Formula) → Stand hs hs 0
stand_all hs i = let e : suc (0 + i) ≡ suc i = omega arith in ap (numbered_item hs) e

pub closes : (table : Table) (hyps : List Formula) (goal : Formula) (numbers : Vec ℕ) (lines : Vec Line) → numbers.items ≡ comparison_numbers 1 hyps → is_accepted (comparisons hyps) goal lines.items ≡ true → IsInstance table (hyps, goal) (Lin numbers lines) []
closes table hyps goal numbers lines same accepted = record {
  made = ap (λ o. option_map (map (extended (hyps, goal))) (option_and_then (λ ps. closed_if (is_accepted ps goal lines.items)) o)) (ap (listed_facts hyps) same ∙ listed hyps hyps 0 (stand_all hyps))
      ∙ ap (λ b. option_map (map (extended (hyps, goal))) (closed_if b)) accepted;
  type = tt;
  within = tt;
}

pub derives : (table : Table) (hyps : List Formula) (goal : Formula) (numbers : Vec ℕ) (lines : Vec Line) → numbers.items ≡ comparison_numbers 1 hyps → is_accepted (comparisons hyps) goal lines.items ≡ true → Derives table (Lin numbers lines ∷ []) (hyps, goal)
derives table hyps goal numbers lines same accepted = ([], closes table hyps goal numbers lines same accepted, refl)
