-- Facts that were read: where they are within the bounds, the elimination decides whether they contradict each other.
use Rattle.std.proofs.Common.{◌≡◌, inl, inr, ℕ, suc, ◌+◌, ◌≤◌, ◌^◌, true, false, cond, List, [], ◌∷◌, ◌++◌, map, length, Some, None, refl, ap, sym, subst, ◌∙◌, All, Bool, arith, Option}
use Rattle.std.specs.Prelude.{is_none, MatchOption}
use Rattle.std.specs.Global.{Vec}
use Rattle.std.specs.List.{list_any, position_from}
use Rattle.std.specs.Option.{option_or, option_map, some_prefix}
use Rattle.std.proofs.lemmas.Bool.{cases_Bool}
use Rattle.std.proofs.lemmas.List.{get_or-map}
use Rattle.std.proofs.lemmas.List.Elements.{All-head, All-map}
use Rattle.bk_form.specs.Formula.{Formula}
use Rattle.bk_lin.specs.declared.fact.Fact.{Fact}
use Rattle.bk_lin.specs.declared.fact.Line.{Line}
use Rattle.bk_lin.specs.Inequality.{Inequality}
use Rattle.bk_lin.specs.Certificate.{inequality_of, inequalities, width_of}
use Rattle.bk_lin.specs.Answer.{certificate_fault}
use Rattle.bk_elim.specs.Refutation.{IsSmall, IsSmallSystem, Refutes}
use Rattle.bk_arith.specs.declared.error.ArithFault.{ArithFault}
use Rattle.bk_arith.specs.declared.error.ArithFault.TheVariants.{NotLinear, TooWide, Cert}
use Rattle.bk_arith.specs.Comparison.{terms_of_hypothesis, terms_of_goal}
use Rattle.bk_arith.specs.Reading.{atoms_of}
use Rattle.bk_arith.specs.Decision.{statements, first_unread, terms_of, readings, facts_fault, is_accepted}
use Rattle.bk_arith.proofs.Faults.{width}
use Rattle.bk_arith.proofs.StatedFacts.{facts_decide}
use Rattle.bk_seq.specs.Sequents.{Sequent}
use Rattle.bk_kernel.specs.declared.rule.Rule.{Rule}
use Rattle.bk_kernel.specs.declared.rule.Rule.TheVariants.{Lin}
use Rattle.bk_auto.specs.Easy.{comparisons, AreContradictory}
use Rattle.bk_auto.specs.Found.{comparison_numbers, AreReadFrom, AreWithinBounds, Closes}
use Rattle.bk_auto.proofs.Listed.{derives}

-- ---- what is read
all_there : (ps : List Inequality) → list_any is_none (map Some ps) ≡ false
all_there [] = refl
all_there (p ∷ ps) = all_there ps

all_of_them : (ps : List Inequality) → some_prefix (map Some ps) ≡ ps
all_of_them [] = refl
all_of_them (p ∷ ps) = ap (λ xs. p ∷ xs) (all_of_them ps)

all_read : (n : ℕ) (hyps : List Formula) (goal : Formula) → is_none (terms_of_goal goal) ≡ false → position_from is_none n (statements (comparisons hyps) goal) ≡ None
all_read n [] goal h = ap (λ b. cond b (Some n) None) h
all_read n (p ∷ ps) goal h = elim (cases_Bool (is_none (terms_of_hypothesis p))) as (λ _. position_from is_none n (statements (comparisons (p ∷ ps)) goal) ≡ None) [
  | inl e ↦ ap (λ b. position_from is_none n (statements (cond b (comparisons ps) (p ∷ comparisons ps)) goal)) e ∙ all_read n ps goal h
  | inr e ↦ ap (λ b. position_from is_none n (statements (cond b (comparisons ps) (p ∷ comparisons ps)) goal)) e
      ∙ ap (λ b. cond b (Some n) (position_from is_none (n + 1) (statements (comparisons ps) goal))) e
      ∙ all_read (n + 1) ps goal h
]

-- each comparison, and the goal, is read
pub comparisons_read : (hyps : List Formula) (goal : Formula) → is_none (terms_of_goal goal) ≡ false → first_unread (comparisons hyps) goal ≡ None
comparisons_read hyps goal h = all_read 1 hyps goal h

-- ---- facts outside 128 bits are not within the bounds
no_fault : (a : Option ArithFault) (b : Bool) → option_or a (cond b (Some TooWide) None) ≡ None → b ≡ false
no_fault None false h = refl
no_fault None true h = absurd (cc)
no_fault (Some x) b h = absurd (cc)

pub wide_facts : (hyps : List Formula) (goal : Formula) (fault : ArithFault) → first_unread hyps goal ≡ None → facts_fault hyps goal ≡ Some fault → AreContradictory (terms_of hyps goal) → ⊥
wide_facts hyps goal fault read h c =
    let none : facts_fault hyps goal ≡ None =
    ap (λ o. option_or (option_map NotLinear o) (cond (list_any is_none (readings (terms_of hyps goal))) (Some TooWide) None)) read
    ∙ ap (λ rs. cond (list_any is_none rs) (Some TooWide) None) c.read
    ∙ ap (λ b. cond b (Some TooWide) None) (all_there c.facts) in
    let never : Some fault ≡ None = sym h ∙ none in cc

-- ---- facts that were read
length_inequalities : (fs : List Fact) → length (inequalities fs) ≡ length fs
length_inequalities [] = refl
length_inequalities (f ∷ fs) = ap (λ n. suc n) (length_inequalities fs)

all_facts : (fs : List Fact) → All IsSmall (inequalities fs) → All (λ f. IsSmall (inequality_of f)) fs
all_facts fs h k d b = subst IsSmall (get_or-map inequality_of fs k d (inequality_of d) b) (h k (inequality_of d) (let e = length_inequalities fs in omega arith))

few_atoms : (fs : List Fact) → All (λ (f : Fact). length f.coefs.items ≤ 4) fs → width_of fs ≤ 4
few_atoms [] h = omega arith
few_atoms (f ∷ fs) h = All-head (λ (g : Fact). length g.coefs.items ≤ 4) f fs h

module _ (hyps : List Formula) (goal : Formula) (fs : List Fact) (r : AreReadFrom hyps goal fs) where
  abbrev terms : List Formula
  terms = terms_of hyps goal

  narrow : list_any is_none (readings terms) ≡ false
  narrow = no_fault (option_map NotLinear (first_unread hyps goal)) (list_any is_none (readings terms)) r.right

  one_width : length (atoms_of terms) ≡ width_of fs
  one_width = width terms (atoms_of terms) fs refl narrow r.read r.width

  same_facts : (c : AreContradictory terms) → inequalities fs ≡ c.facts
  same_facts c = r.read ∙ ap some_prefix c.read ∙ all_of_them c.facts

  -- a contradiction is one of facts within the bounds
  pub bounded : AreContradictory terms → AreWithinBounds fs
  bounded c = record {
    few = (let e = length_inequalities fs in let f = ap length (same_facts c) in let g = c.few in omega arith);
    all = λ k d b. record {
      narrow = (let e = r.width k d b in let f = c.few_atoms in omega arith);
      small = all_facts fs (subst (All IsSmall) (sym (same_facts c)) c.small) k d b;
    };
  }

  pub system : AreWithinBounds fs → IsSmallSystem (width_of fs) (inequalities fs)
  system w = record {
    few_atoms = few_atoms fs (λ k d b. (w.all k d b).narrow);
    few = (let e = length_inequalities fs in let f = w.few in omega arith);
    one_width = All-map (λ (p : Inequality). length p.coefs ≡ width_of fs) inequality_of fs (λ k d b. r.width k d b ∙ one_width);
    small = All-map IsSmall inequality_of fs (λ k d b. (w.all k d b).small);
  }

  pub not_refuted : ((ms : List ℕ) → Refutes (width_of fs) (inequalities fs) ms → ⊥) → AreContradictory terms → ⊥
  not_refuted h c = h c.multipliers (subst (λ (n : ℕ). Refutes n (inequalities fs) c.multipliers) one_width (subst (λ (ps : List Inequality). Refutes (length (atoms_of terms)) ps c.multipliers) (sym (same_facts c)) c.sum))

  pub certified : (line : Line) → certificate_fault (width_of fs) (inequalities fs) (line ∷ []) ≡ None → is_accepted hyps goal (line ∷ []) ≡ true
  certified line h =
      ap is_none (facts_decide hyps goal (line ∷ [])
      ∙ ap (λ o. option_or o (option_map Cert (certificate_fault (length (atoms_of terms)) (some_prefix (readings terms)) (line ∷ [])))) r.right
      ∙ ap (λ ps. option_map Cert (certificate_fault (length (atoms_of terms)) ps (line ∷ []))) (sym r.read)
      ∙ ap (λ n. option_map Cert (certificate_fault n (inequalities fs) (line ∷ []))) one_width
      ∙ ap (option_map Cert) h)

-- ---- the rule
pub closes_lin : (r0 r1 : List Rule) (hyps : List Formula) (goal : Formula) (numbers : Vec ℕ) (lines : Vec Line) (line : Line) → r1 ≡ r0 ++ Lin numbers lines ∷ [] → numbers.items ≡ comparison_numbers 1 hyps → lines.items ≡ line ∷ [] → is_accepted (comparisons hyps) goal (line ∷ []) ≡ true → Closes r0 r1 (hyps, goal)
closes_lin r0 r1 hyps goal numbers lines line e same one right = record {
  more = Lin numbers lines ∷ [];
  same = e;
  derives = λ table t w. derives table hyps goal numbers lines same (ap (is_accepted (comparisons hyps) goal) one ∙ right);
  bare = ((line, one, comparisons hyps, goal, ap (is_accepted (comparisons hyps) goal) one ∙ right), tt);
}

-- what the elimination answers
pub decides : (hyps : List Formula) (goal : Formula) (fs : List Fact) (r : AreReadFrom hyps goal fs) (o : Option Line) → MatchOption o ((ms : List ℕ) → Refutes (width_of fs) (inequalities fs) ms → ⊥) (λ line. certificate_fault (width_of fs) (inequalities fs) (line ∷ []) ≡ None) → MatchOption o (AreContradictory (terms_of hyps goal) → ⊥) (λ line. is_accepted hyps goal (line ∷ []) ≡ true)
decides hyps goal fs r None h = not_refuted hyps goal fs r h
decides hyps goal fs r (Some line) h = certified hyps goal fs r line h
