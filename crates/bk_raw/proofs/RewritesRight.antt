-- The rewritings hold of what terms read as.
use Rattle.std.proofs.Common.{◌≡◌, ℕ, List, refl, sym, ◌∙◌, ap, Bool, true, false, ℤ}
use Rattle.std.specs.Prelude.{Option, None, Some, pos}
use Rattle.bk_val.specs.ValueType.{ValueType, int_type, bool_type, enum_type, pair_type, set_type}
use Rattle.bk_form.specs.Formula.{Formula, literal, unary, binary}
use Rattle.bk_form.specs.Role.{same_type}
use Rattle.bk_form.specs.declared.operator.UnOp.TheVariants.{Not as Negation, Pow as PowerOf}
use Rattle.bk_form.specs.declared.operator.BinOp.TheVariants.{And as Conjunction, Eq, In, Lt, Le, Add, Sub}
use Rattle.bk_form.proofs.Roles.{same_type-then}
use Rattle.bk_raw.specs.declared.operator.WordOp.TheVariants.{Pow}
use Rattle.bk_raw.specs.Trees.RawTree.{RawTree, raw, raw_infix, RawTrees, no_trees, tree_and}
use Rattle.bk_raw.specs.declared.operator.InfixOp.TheVariants.{Union}
use Rattle.bk_raw.specs.Meaning.Names.{Names}
use Rattle.bk_raw.specs.Meaning.Outcome.{union_joint, inter_joint, minus_joint, over_joint, Partial, whole, hollow, single_of, pair_of, joint_of, where_holds, filled, whole_of, Outcome, partial, ranging, holding, silent, Reading, silently, clean, no_type, fitting, ask, ask_domain, ask_predicate, of_answer, of_answers}
use Rattle.bk_raw.specs.Meaning.OperatorReadings.{depending, on_values, one_type_by, equal, strict, strictly, in_domain, in_power, joint, minus, negated, stepped, word_reading, single_reading, extended}
use Rattle.bk_raw.specs.Meaning.TermReading.{place_of, part, from_one, from_two, reading, elements_reading}
use Rattle.bk_raw.specs.Meaning.GivesTakes.{expression}
use Rattle.bk_raw.specs.Meaning.Rewritings.{single_set, united, Rewritings}
use Rattle.bk_raw.proofs.Filled.{same_type-self}
use Rattle.bk_raw.specs.Errors.Faults.{Fault}

-- what `not` makes of an outcome
abbrev denied : Outcome → Outcome
denied o = of_answer (λ p. holding (unary Negation p)) (ask_predicate o).answer

-- ---- negations
denied-answer : (k : Formula → Formula) (f : Option Formula) → of_answer (λ g. holding (unary Negation (k g))) f ≡ denied (of_answer (λ g. holding (k g)) f)
denied-answer k None = refl
denied-answer k (Some g) = refl

denied-depending : {A : Type 0} (t : A → ValueType) (k : A → Formula → Formula) (fs : List Fault) (x : Option A) (at : ℕ) (o : Outcome) → (depending t (λ d e. holding (unary Negation (k d e))) fs x at o).outcome ≡ denied (depending t (λ d e. holding (k d e)) fs x at o).outcome
denied-depending t k fs None at o = refl
denied-depending t k fs (Some y) at o = denied-answer (k y) (ask at o (t y)).answer

denied-one : (at : ℕ) (v w : Option (Formula × ValueType)) (p q : Partial) → (one_type_by (λ t. true) (λ f g t. holding (negated (binary Eq) f g)) (silently (no_type at)) at v w p q).outcome ≡ denied (one_type_by (λ t. true) (λ f g t. holding (binary Eq f g)) (silently (no_type at)) at v w p q).outcome
denied-one at (Some v) w p q = denied-answer (λ g. binary Eq v.0 g) (fitting at (filled q v.1)).answer
denied-one at None (Some w) p q = denied-answer (λ f. binary Eq f w.0) (fitting at (filled p w.1)).answer
denied-one at None None p q = refl

denied-equal : (at : ℕ) (a b : Outcome) → (on_values (equal (negated (binary Eq)) at) a b).outcome ≡ denied (on_values (equal (binary Eq) at) a b).outcome
denied-equal at (partial p) (partial q) = denied-one at (whole_of p) (whole_of q) p q
denied-equal at (partial p) (ranging f t there) = refl
denied-equal at (partial p) (holding f) = refl
denied-equal at (partial p) silent = refl
denied-equal at (ranging f t there) b = refl
denied-equal at (holding f) b = refl
denied-equal at silent b = refl

-- ---- inclusions
power-member : (k : Formula → Formula → Formula) (x y : ℕ) (a b : Outcome) → (in_power k x y a b).outcome ≡ (in_domain k x y a (word_reading Pow y y b).outcome).outcome
power-member k x y a (partial (whole f (set_type t))) = refl
power-member k x y a (ranging f t there) = refl
power-member k x y a _ = refl

bool-same : (b c : Bool) → (b ≡ true → c ≡ true) → (c ≡ true → b ≡ true) → b ≡ c
bool-same true c f g = sym (f refl)
bool-same false true f g = g refl
bool-same false false f g = refl

same_type-sym : (t u : ValueType) → same_type t u ≡ same_type u t
same_type-sym t u = bool-same (same_type t u) (same_type u t) (λ e. turn t u (same_type-then t u e)) (λ e. turn u t (same_type-then u t e))
  where
    turn : (v w : ValueType) → v ≡ w → same_type w v ≡ true
    turn v w e = ap (λ z. same_type w z) e ∙ same_type-self w

-- S : POW(T) & not(S = T), by what it makes of both
abbrev included : ℕ → ℕ → ℕ → Outcome → Outcome → Outcome
included at x y a b = of_answers (λ p q. holding (binary Conjunction p q)) (ask_predicate (in_domain (binary In) x y a (word_reading Pow y y b).outcome).outcome).answer (ask_predicate (denied (on_values (equal (binary Eq) at) a b).outcome)).answer

strict-made : (x at : ℕ) (g : Formula) (f : Option Formula) → of_answer (λ e. holding (strict e g)) (fitting x f).answer ≡ of_answers (λ p q. holding (binary Conjunction p q)) (ask_predicate (of_answer (λ e. holding (binary In e (unary PowerOf g))) (fitting x f).answer)).answer (ask_predicate (denied (of_answer (λ e. holding (binary Eq e g)) (fitting at f).answer))).answer
strict-made x at g None = refl
strict-made x at g (Some f) = refl

strict-whole : (x at : ℕ) (g f : Formula) (b c : Bool) → b ≡ c → of_answer (λ e. holding (strict e g)) (fitting x (where_holds b (Some f))).answer ≡ of_answers (λ p q. holding (binary Conjunction p q)) (ask_predicate (of_answer (λ e. holding (binary In e (unary PowerOf g))) (fitting x (where_holds b (Some f))).answer)).answer (ask_predicate (denied (of_answer (λ e. holding (binary Eq f e)) (fitting at (where_holds c (Some g))).answer))).answer
strict-whole x at g f true true e = refl
strict-whole x at g f false c e = refl
strict-whole x at g f true false e = absurd (cc)

no-second : (k : Formula → Formula → Outcome) (f : Option Formula) → silent ≡ of_answers k f None
no-second k None = refl
no-second k (Some f) = refl

strict-included : (at x y : ℕ) (a b : Outcome) → (strictly x y a b).outcome ≡ included at x y a b
strict-included at x y (partial (whole f u)) (partial (whole g (set_type t))) = strict-whole x at g f (same_type u (set_type t)) (same_type (set_type t) u) (same_type-sym u (set_type t))
strict-included at x y (partial hollow) (partial (whole g (set_type t))) = strict-made x at g (filled hollow (set_type t))
strict-included at x y (partial (single_of p)) (partial (whole g (set_type t))) = strict-made x at g (filled (single_of p) (set_type t))
strict-included at x y (partial (pair_of p q)) (partial (whole g (set_type t))) = strict-made x at g (filled (pair_of p q) (set_type t))
strict-included at x y (partial (joint_of j p q)) (partial (whole g (set_type t))) = strict-made x at g (filled (joint_of j p q) (set_type t))
strict-included at x y (ranging f u there) (partial (whole g (set_type t))) = refl
strict-included at x y (holding f) (partial (whole g (set_type t))) = refl
strict-included at x y silent (partial (whole g (set_type t))) = refl
strict-included at x y (partial p) (ranging g t there) = no-second (λ p q. holding (binary Conjunction p q)) (ask_predicate (in_domain (binary In) x y (partial p) (word_reading Pow y y (ranging g t there)).outcome).outcome).answer
strict-included at x y (ranging f u here) (ranging g t there) = refl
strict-included at x y (holding f) (ranging g t there) = refl
strict-included at x y silent (ranging g t there) = refl
strict-included at x y a (partial (whole g int_type)) = refl
strict-included at x y a (partial (whole g bool_type)) = refl
strict-included at x y a (partial (whole g (enum_type n))) = refl
strict-included at x y a (partial (whole g (pair_type t u))) = refl
strict-included at x y a (partial hollow) = refl
strict-included at x y a (partial (single_of p)) = refl
strict-included at x y a (partial (pair_of p q)) = refl
strict-included at x y a (partial (joint_of j p q)) = refl
strict-included at x y a (holding g) = refl
strict-included at x y a silent = refl

-- ---- numbers
turned-answers : (k : Formula → Formula → Outcome) (f g : Option Formula) → of_answers (λ x y. k y x) f g ≡ of_answers k g f
turned-answers k None None = refl
turned-answers k None (Some g) = refl
turned-answers k (Some f) None = refl
turned-answers k (Some f) (Some g) = refl

next-made : (f : Option Formula) → of_answer (stepped Add) f ≡ of_answers (λ x y. partial (whole (binary Add x y) int_type)) f (Some (literal (pos 1)))
next-made None = refl
next-made (Some f) = refl

-- E - 1: where E takes Int, the difference is one of numbers; else neither is told
previous-whole : (x at y : ℕ) (f : Formula) (u : ValueType) → of_answer (stepped Sub) (fitting x (filled (whole f u) int_type)).answer ≡ (minus at x y (whole f u) (whole (literal (pos 1)) int_type)).outcome
previous-whole x at y f int_type = refl
previous-whole x at y f bool_type = refl
previous-whole x at y f (enum_type n) = refl
previous-whole x at y f (pair_type t v) = refl
previous-whole x at y f (set_type t) = refl

previous-made : (x at y : ℕ) (a : Outcome) → of_answer (stepped Sub) (ask x a int_type).answer ≡ (on_values (minus at x y) a (partial (whole (literal (pos 1)) int_type))).outcome
previous-made x at y (partial (whole f u)) = previous-whole x at y f u
previous-made x at y (partial hollow) = refl
previous-made x at y (partial (single_of p)) = refl
previous-made x at y (partial (pair_of p q)) = refl
previous-made x at y (partial (joint_of union_joint p q)) = refl
previous-made x at y (partial (joint_of inter_joint p q)) = refl
previous-made x at y (partial (joint_of minus_joint p q)) = refl
previous-made x at y (partial (joint_of over_joint p q)) = refl
previous-made x at y (ranging f t there) = refl
previous-made x at y (holding f) = refl
previous-made x at y silent = refl

-- ---- extensions
extended-joint : (at : ℕ) (a b : Outcome) → (extended at a b).outcome ≡ (on_values (joint union_joint at) a (single_reading b).outcome).outcome
extended-joint at (partial p) (partial q) = refl
extended-joint at (partial p) (ranging f t there) = refl
extended-joint at (partial p) (holding f) = refl
extended-joint at (partial p) silent = refl
extended-joint at (ranging f t there) b = refl
extended-joint at (holding f) b = refl
extended-joint at silent b = refl

module _ (max : ℤ) (names : Names) (at : ℕ) where
  elements-united : (ts : RawTrees) (before : Reading) (s : RawTree) → before.outcome ≡ expression max names s → (elements_reading max names at before ts).outcome ≡ expression max names (united at s ts)
  elements-united no_trees before s e = e
  elements-united (tree_and t ts) before s e =
      elements-united ts (from_two (extended at) before (part false t (reading max names t))) (raw at (raw_infix Union s (single_set t))) (extended-joint at before.outcome (expression max names t) ∙ ap (λ o. (on_values (joint union_joint at) o (single_reading (expression max names t)).outcome).outcome) e)

pub rewritings : Rewritings
rewritings = record {
  unequal = λ at a b max names. denied-equal at (expression max names a) (expression max names b);
  no_member = λ at a b max names. denied-depending (λ (d : Formula × ValueType). d.1) (λ (d : Formula × ValueType) e. binary In e d.0) (ask_domain (place_of b) (expression max names b)).faults (ask_domain (place_of b) (expression max names b)).answer (place_of a) (expression max names a);
  no_subset = λ at a b max names. denied-depending (λ (d : Formula × ValueType). set_type d.1) (λ (d : Formula × ValueType) e. binary In e (unary PowerOf d.0)) (ask_domain (place_of b) (expression max names b)).faults (ask_domain (place_of b) (expression max names b)).answer (place_of a) (expression max names a);
  subset = λ at a b max names. power-member (binary In) (place_of a) (place_of b) (expression max names a) (expression max names b);
  strict_subset = λ at a b none max names. ap (λ fs. clean fs (strictly (place_of a) (place_of b) (expression max names a) (expression max names b)).outcome) none ∙ strict-included at (place_of a) (place_of b) (expression max names a) (expression max names b);
  greater = λ at a b max names. turned-answers (λ f g. holding (binary Lt f g)) (ask (place_of a) (expression max names a) int_type).answer (ask (place_of b) (expression max names b) int_type).answer;
  at_least = λ at a b max names. turned-answers (λ f g. holding (binary Le f g)) (ask (place_of a) (expression max names a) int_type).answer (ask (place_of b) (expression max names b) int_type).answer;
  successor = λ at there a max names. next-made (ask (place_of a) (expression max names a) int_type).answer;
  predecessor = λ at there a max names. previous-made (place_of a) at there (expression max names a);
  finite_sets = λ at a max names. refl;
  finite_nonempty_sets = λ at a max names. refl;
  greatest = λ at max names. refl;
  least = λ at max names. refl;
  integers = λ at max names. refl;
  naturals = λ at max names. refl;
  positives = λ at max names. refl;
  extension = λ at t ts max names. elements-united max names at ts (from_one single_reading (part false t (reading max names t))) (single_set t) refl;
  pair = λ at a b max names. refl;
}
