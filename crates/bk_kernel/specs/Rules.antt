-- The rules of proof, as one table: what a rule makes of a sequent, if anything.
-- Source: after the B-Book's rules of inference.
use Rattle.std.specs.Prelude.{◌≡◌, ℕ, zero, suc, pos, List, [], ◌∷◌, map, Option, Some, None}
use Rattle.std.specs.Option.{option_map, option_and_then}
use Rattle.bk_form.specs.Each.{Each}
use Rattle.bk_form.specs.Table.{Table}
use Rattle.bk_form.specs.Formula.{Formula, bound, literal, btrue, bfalse, unary, binary, for_some}
use Rattle.bk_form.specs.Role.{role}
use Rattle.bk_form.specs.declared.operator.UnOp.TheVariants.{Not as Negation}
use Rattle.bk_form.specs.declared.operator.BinOp.TheVariants.{And as Conjunction, Or as Disjunction, Imp as Implication}
use Rattle.bk_form.specs.declared.operator.BinOp.TheVariants.{Iff as Equivalence, Eq as Equality, Maps as Maplet}
use Rattle.bk_bind.specs.Opening.{opened}
use Rattle.bk_seq.specs.Paths.{numbered_item}
use Rattle.bk_seq.specs.Sequents.{Sequent, Types, IsWithin}
use Rattle.bk_lin.specs.declared.fact.Line.{Line}
use Rattle.bk_arith.specs.Same.{is_same}
use Rattle.bk_arith.specs.Decision.{is_accepted}
use Rattle.bk_arith.specs.Polynomials.{equal_polynomials}
use Rattle.bk_arith.specs.Cases.{equations, interval_cases}
use Rattle.bk_kernel.specs.declared.rule.Rule.{Rule}
use Rattle.bk_kernel.specs.declared.rule.Rule.TheVariants.{Hyp, True, Same, Eval, False, Absurd, And, Iff, Imp, Not, Left}
use Rattle.bk_kernel.specs.declared.rule.Rule.TheVariants.{Right, Or, Contra, Fix, UseTerms, Split, Cases, Apply, Inst, OpenSome}
use Rattle.bk_kernel.specs.declared.rule.Rule.TheVariants.{Cut, Case, Drop, Eq, Qe, Law, Wal, TypeOf, Neg, Mem, Val, Ext, Sub}
use Rattle.bk_kernel.specs.declared.rule.Rule.TheVariants.{Ex, Pair, Elems, Interval, Induct, Poly, Lin, Unread}
use Rattle.bk_kernel.specs.Branches.{Branch, extended, more, goal, when, closed_if, sides, operand, universal, existential}
use Rattle.bk_kernel.specs.Naming.{give_each, names_of, are_fresh}
use Rattle.bk_kernel.specs.Deciding.{decided, is_yes}
use Rattle.bk_kernel.specs.Listing.{one_for_each, elements_of_type, listed_types, over_naturals, next_case}
use Rattle.bk_kernel.specs.Rewriting.{eq_to, eq_from, law_to, law_from, deciding, typing, negating}
use Rattle.bk_kernel.specs.Rewriting.{belonging, applying, extending, including, witnessing, rewritten}

-- the hypotheses of these numbers, in that order
abbrev pub listed_facts : List Formula → List ℕ → Option (List Formula)
listed_facts hyps [] = Some []
listed_facts hyps (n ∷ ns) = option_and_then (λ p. option_map (λ ps. p ∷ ps) (listed_facts hyps ns)) (numbered_item hyps n)

-- the list without the item of this number, from 0
abbrev pub without : {A : Type 0} → ℕ → List A → Option (List A)
without n [] = None
without zero (x ∷ xs) = Some xs
without (suc n) (x ∷ xs) = option_map (λ ys. x ∷ ys) (without n xs)

-- the list without the item of this number, from 1
abbrev pub without_item : {A : Type 0} → ℕ → List A → Option (List A)
without_item zero xs = None
without_item (suc n) xs = without n xs

-- ---- rules with lists of terms, names or facts
-- the goal is a `!`, and its body for fresh names is the new goal
abbrev pub fixed : Table → Sequent → List ℕ → Option (List Branch)
fixed table s ns = option_and_then (λ q. when (are_fresh table s q.0 ns) (goal (opened (names_of ns) q.1) ∷ [])) (universal s.1)

-- the goal is a `#`, and its body for terms of its types is the new goal
abbrev pub used : Table → Sequent → List Formula → Option (List Branch)
used table s fs = option_and_then (λ q. when (give_each table q.0 fs) (goal (opened fs q.1) ∷ [])) (existential s.1)

-- hypothesis i is a `!`, and its body for terms of its types is one more hypothesis
abbrev pub instantiated : Table → Sequent → ℕ → List Formula → Option (List Branch)
instantiated table s i fs = option_and_then
    (λ h. option_and_then (λ q. when (give_each table q.0 fs) (more s (opened fs q.1 ∷ []))) (universal h)) (numbered_item s.0 i)

-- hypothesis i is a `#`, and its body for fresh names is one more hypothesis
abbrev pub named_for : Table → Sequent → ℕ → List ℕ → Option (List Branch)
named_for table s i ns = option_and_then (λ h.
    option_and_then (λ q. when (are_fresh table s q.0 ns) (more s (opened (names_of ns) q.1 ∷ []))) (existential h)) (numbered_item s.0 i)

-- the certificate shows that the listed hypotheses and the negated goal contradict each other
abbrev pub certified : Sequent → List ℕ → List Line → Option (List Branch)
certified s facts lines = option_and_then (λ ps. closed_if (is_accepted ps s.1 lines)) (listed_facts s.0 facts)

-- the table: what each rule adds to a sequent; hypotheses count from 1
abbrev pub branches : Table → Sequent → Rule → Option (List Branch)
branches table s (Hyp i) = option_and_then (λ h. closed_if (is_same h s.1)) (numbered_item s.0 i)
branches table s True = closed_if (is_same s.1 btrue)
branches table s Same = option_and_then (λ x. closed_if (is_same x.0 x.1)) (sides Equality s.1)
branches table s (Eval None) = closed_if (is_yes (decided s.1))
branches table s (Eval (Some place)) = rewritten table s deciding place
branches table s (False i) = option_and_then (λ h. closed_if (is_same h bfalse)) (numbered_item s.0 i)
branches table s (Absurd i j) =
    option_and_then (λ p. option_and_then (λ h. closed_if (is_same h (unary Negation p))) (numbered_item s.0 j)) (numbered_item s.0 i)
branches table s And = option_map (λ x. goal x.0 ∷ goal x.1 ∷ []) (sides Conjunction s.1)
branches table s Iff = option_map (λ x. goal (binary Implication x.0 x.1) ∷ goal (binary Implication x.1 x.0) ∷ []) (sides Equivalence s.1)
branches table s Imp = option_map (λ x. (x.0 ∷ [], x.1) ∷ []) (sides Implication s.1)
branches table s Not = option_map (λ p. (p ∷ [], bfalse) ∷ []) (operand Negation s.1)
branches table s Left = option_map (λ x. goal x.0 ∷ []) (sides Disjunction s.1)
branches table s Right = option_map (λ x. goal x.1 ∷ []) (sides Disjunction s.1)
branches table s Or = option_map (λ x. (unary Negation x.0 ∷ [], x.1) ∷ []) (sides Disjunction s.1)
branches table s Contra = Some ((unary Negation s.1 ∷ [], bfalse) ∷ [])
branches table s (Fix ns) = fixed table s ns.items
branches table s (UseTerms fs) = used table s fs.items
branches table s (Split i) = option_and_then (λ h. option_map (λ x. more s (x.0 ∷ x.1 ∷ [])) (sides Conjunction h)) (numbered_item s.0 i)
branches table s (Cases i) =
    option_and_then (λ h. option_map (λ x. (x.0 ∷ [], s.1) ∷ (x.1 ∷ [], s.1) ∷ []) (sides Disjunction h)) (numbered_item s.0 i)
branches table s (Apply i) =
    option_and_then (λ h. option_map (λ x. goal x.0 ∷ (x.1 ∷ [], s.1) ∷ []) (sides Implication h)) (numbered_item s.0 i)
branches table s (Inst i fs) = instantiated table s i fs.items
branches table s (OpenSome i ns) = named_for table s i ns.items
branches table s (Cut p) = Some (goal p ∷ (p ∷ [], s.1) ∷ [])
branches table s (Case p) = Some ((p ∷ [], s.1) ∷ (unary Negation p ∷ [], s.1) ∷ [])
branches table s (Drop i) = None
branches table s (Eq i place) = rewritten table s (eq_to i) place
branches table s (Qe i place) = rewritten table s (eq_from i) place
branches table s (Law law picks place) = rewritten table s (law_to law picks.items) place
branches table s (Wal law picks place) = rewritten table s (law_from law picks.items) place
branches table s (TypeOf place) = rewritten table s typing place
branches table s (Neg place) = rewritten table s negating place
branches table s (Mem place) = rewritten table s belonging place
branches table s (Val place) = rewritten table s applying place
branches table s (Ext place) = rewritten table s extending place
branches table s (Sub place) = rewritten table s including place
branches table s (Ex place) = rewritten table s witnessing place
branches table s (Pair e) = option_map
    (λ w. more s (for_some (w.0 ∷ w.1 ∷ []) (binary Equality e (binary Maplet (bound 1) (bound 0))) ∷ [])) (listed_types (role table [] e))
branches table s (Elems e) = option_map (λ fs. one_for_each s.1 (equations e fs)) (elements_of_type table (role table [] e))
branches table s (Interval i) = option_and_then (λ h. option_map (one_for_each s.1) (interval_cases h)) (numbered_item s.0 i)
branches table s Induct = option_map (λ p. goal (opened (literal (pos 0) ∷ []) p) ∷ goal (next_case p) ∷ []) (over_naturals s.1)
branches table s Poly = option_and_then (λ x. closed_if (equal_polynomials x.0 x.1)) (sides Equality s.1)
branches table s (Lin facts lines) = certified s facts.items lines.items
branches table s Unread = None

-- the sequent without hypothesis i, alone
abbrev pub without_hypothesis : Sequent → ℕ → Option (List Sequent)
without_hypothesis s i = option_map (λ hyps. (hyps, s.1) ∷ []) (without_item i s.0)

-- what a rule makes of a sequent: drop takes a hypothesis away, and every other rule leaves those that there were
abbrev pub makes : Table → Sequent → Rule → Option (List Sequent)
makes table s (Drop i) = without_hypothesis s i
makes table s rule = option_map (map (extended s)) (branches table s rule)

-- a step: by the table, and all formulas that come of it type and are within the limits
pub record IsInstance (table : Table) (s : Sequent) (rule : Rule) (news : List Sequent) : Type 0 where
  pub made : makes table s rule ≡ Some news
  pub type : Each (Types table) news
  pub within : Each IsWithin news
