-- Every rule makes one list of sequents, and is sound.
use Rattle.std.proofs.Common.{◌≡◌, ℕ, zero, suc, List, [], ◌∷◌, map, refl, sym, ◌∙◌, subst, true}
use Rattle.std.specs.Prelude.{Some, None}
use Rattle.std.specs.Option.{option_map}
use Rattle.bk_form.specs.declared.operator.BinOp.TheVariants.{Eq}
use Rattle.bk_form.specs.Meaning.{truth}
use Rattle.bk_form.proofs.Valued.{state-typed}
use Rattle.bk_form.specs.Table.{Table, IsWellFormed}
use Rattle.bk_form.specs.Formula.{Formula}
use Rattle.bk_form.specs.Search.{Finder, IsSearch}
use Rattle.bk_form.specs.Environment.{State, IsTyped, at_state}
use Rattle.bk_form.specs.Predicates.{AllHold}
use Rattle.bk_seq.specs.Sequents.{Sequent}
use Rattle.bk_kernel.specs.declared.rule.Rule.{Rule}
use Rattle.bk_kernel.specs.declared.rule.Rule.TheVariants.{Hyp, True, Same, Eval, False, Absurd, And as AndRule, Iff as IffRule, Imp as ImpRule, Not as NotRule, Left, Right, Or as OrRule, Contra, Fix, UseTerms, Split, Cases, Apply, Inst, OpenSome, Cut, Case, Drop, Eq as EqRule, Qe, Law, Wal, TypeOf, Neg, Mem, Val, Ext, Sub, Ex, Pair, Elems, Interval, Induct, Poly, Lin, Unread}
use Rattle.bk_kernel.specs.declared.rule.Place.{Place}
use Rattle.bk_kernel.specs.Branches.{Branch, extended, closed_if, sides}
use Rattle.bk_kernel.specs.Rewriting.{Rewriting, eq_to, eq_from, law_to, law_from, deciding, typing, negating, belonging, applying, extending, including, witnessing, rewritten}
use Rattle.bk_kernel.specs.Rules.{without, without_item, branches, makes}
use Rattle.bk_form.specs.Each.{Each}
use Rattle.bk_form.specs.Predicates.{IsPredicate}
use Rattle.bk_seq.specs.Sequents.{Types, IsValidSequent}
use Rattle.bk_kernel.specs.RuleLaws.{RulesAreFunctions, RulesAreSound}
use Rattle.bk_kernel.proofs.PlainRules.{Holds, Leads, typed-state, hyp-sound, always-sound, same-sound, decide-sound, never-sound, absurdity-sound, conj-sound, iff-sound, imp-sound, negation-sound, left-sound, right-sound, disj-sound, contra-sound, use-sound, split-sound, cases-sound, apply-sound, inst-sound, cut-sound, case-sound, lin-sound}
use Rattle.bk_kernel.proofs.FreshNames.{fix-sound, open-sound}
use Rattle.bk_kernel.proofs.CaseRules.{pairs-sound, elems-sound, interval-sound, induct-sound}
use Rattle.bk_kernel.proofs.PlaceRules.{BranchTypes, rewritten-sound}
use Rattle.bk_arith.proofs.Options.{chained, mapped, some-same}
use Rattle.bk_kernel.proofs.EachItem.{each-right, hold-append}
use Rattle.bk_kernel.proofs.Viewed.{each-map, sides-then, when-then}
use Rattle.bk_arith.specs.Polynomials.{equal_polynomials}
use Rattle.bk_arith.proofs.PolynomialLaw.{equation-true}

-- an equation of equal polynomials
poly-sound : (table : Table) (well : IsWellFormed table) (find : Finder) (law : IsSearch find) (st : State) (typed : IsTyped (at_state table st)) (s : Sequent) (bs : List Branch) → IsPredicate table s.1 → branches table s Poly ≡ Some bs → truth find (at_state table st) s.1 ≡ true
poly-sound table well find law st typed s bs p e =
    let k = chained (λ x. closed_if (equal_polynomials x.0 x.1)) (sides Eq s.1) bs e in
    let shape = sides-then Eq s.1 k.0 k.1 in
    let same = (when-then (equal_polynomials k.0.0 k.0.1) [] bs k.2).0 in
    subst (λ g. truth find (at_state table st) g ≡ true) (sym shape) (equation-true table well find law st typed k.0.0 k.0.1 (subst (IsPredicate table) shape p) same)

-- the rules that are sound at each state by itself: all but those that bring names and the one that drops a hypothesis
module _ (table : Table) (well : IsWellFormed table) where
  abbrev SoundAt : Rule → Type 0
  SoundAt rule = (s : Sequent) (bs : List Branch) → Types table s → branches table s rule ≡ Some bs → Each (BranchTypes table) bs → (find : Finder) (law : IsSearch find) (st : State) (typed : IsTyped (at_state table st)) → AllHold find (at_state table st) s.0 → Each (Leads table well find law st typed) bs → Holds table well find law st typed s.1

  branch-leads : (s : Sequent) (find : Finder) (law : IsSearch find) (st : State) (typed : IsTyped (at_state table st)) → AllHold find (at_state table st) s.0 → (b : Branch) → IsValidSequent table (extended s b) → Leads table well find law st typed b
  branch-leads s find law st typed hold b valid news = valid find law st (typed-state table well find law st typed) (hold-append find (at_state table st) s.0 b.0 hold news)

  branch-types : (s : Sequent) (b : Branch) → Types table (extended s b) → BranchTypes table b
  branch-types s b t = (each-right (IsPredicate table) s.0 b.0 t.0, t.1)

  lifted : (rule : Rule) → SoundAt rule → (s : Sequent) (bs : List Branch) → Types table s → branches table s rule ≡ Some bs → Each (Types table) (map (extended s) bs) → Each (IsValidSequent table) (map (extended s) bs) → IsValidSequent table s
  lifted rule sound s bs types e new_types valid find law st typed hold =
      sound s bs types e (each-map (Types table) (BranchTypes table) (extended s) bs (branch-types s) new_types) find law st (state-typed table st typed) hold
      (each-map (IsValidSequent table) (Leads table well find law st (state-typed table st typed)) (extended s) bs (branch-leads s find law st (state-typed table st typed) hold) valid)

  -- a rule that rewrites
  rewrites : (rule : Rule) (r : Rewriting) (place : Place) → ((s : Sequent) → branches table s rule ≡ rewritten table s r place) → (s : Sequent) (bs : List Branch) → Types table s → branches table s rule ≡ Some bs → Each (Types table) (map (extended s) bs) → Each (IsValidSequent table) (map (extended s) bs) → IsValidSequent table s
  rewrites rule r place is = lifted rule (λ s bs t e nt find law st typed hold leads. rewritten-sound table well find law st typed s.0 t.0 hold r place s.1 bs t.1 (sym (is s) ∙ e) nt leads)

  branches-sound : (rule : Rule) (s : Sequent) (bs : List Branch) → Types table s → branches table s rule ≡ Some bs → Each (Types table) (map (extended s) bs) → Each (IsValidSequent table) (map (extended s) bs) → IsValidSequent table s
  branches-sound (Hyp i) = lifted (Hyp i) (λ s bs t e nt find law st typed hold leads. hyp-sound table well find law st typed s hold bs leads i e)
  branches-sound True = lifted True (λ s bs t e nt find law st typed hold leads. always-sound table well find law st typed s hold bs leads e)
  branches-sound Same = lifted Same (λ s bs t e nt find law st typed hold leads. same-sound table well find law st typed s hold bs leads e)
  branches-sound (Eval None) = lifted (Eval None) (λ s bs t e nt find law st typed hold leads. decide-sound table well find law st typed s hold bs leads e)
  branches-sound (False i) = lifted (False i) (λ s bs t e nt find law st typed hold leads. never-sound table well find law st typed s hold bs leads i e)
  branches-sound (Absurd i j) = lifted (Absurd i j) (λ s bs t e nt find law st typed hold leads. absurdity-sound table well find law st typed s hold bs leads i j e)
  branches-sound AndRule = lifted AndRule (λ s bs t e nt find law st typed hold leads. conj-sound table well find law st typed s hold bs leads e)
  branches-sound IffRule = lifted IffRule (λ s bs t e nt find law st typed hold leads. iff-sound table well find law st typed s hold bs leads e)
  branches-sound ImpRule = lifted ImpRule (λ s bs t e nt find law st typed hold leads. imp-sound table well find law st typed s hold bs leads e)
  branches-sound NotRule = lifted NotRule (λ s bs t e nt find law st typed hold leads. negation-sound table well find law st typed s hold bs leads e)
  branches-sound Left = lifted Left (λ s bs t e nt find law st typed hold leads. left-sound table well find law st typed s hold bs leads e)
  branches-sound Right = lifted Right (λ s bs t e nt find law st typed hold leads. right-sound table well find law st typed s hold bs leads e)
  branches-sound OrRule = lifted OrRule (λ s bs t e nt find law st typed hold leads. disj-sound table well find law st typed s hold bs leads e)
  branches-sound Contra = lifted Contra (λ s bs t e nt find law st typed hold leads. contra-sound table well find law st typed s hold bs leads e)
  branches-sound (Fix ns) = λ s bs t e nt valid. fix-sound table well s bs valid ns e
  branches-sound (UseTerms fs) = lifted (UseTerms fs) (λ s bs t e nt find law st typed hold leads. use-sound table well find law st typed s hold bs leads fs e)
  branches-sound (Split i) = lifted (Split i) (λ s bs t e nt find law st typed hold leads. split-sound table well find law st typed s hold bs leads i e)
  branches-sound (Cases i) = lifted (Cases i) (λ s bs t e nt find law st typed hold leads. cases-sound table well find law st typed s hold bs leads i e)
  branches-sound (Apply i) = lifted (Apply i) (λ s bs t e nt find law st typed hold leads. apply-sound table well find law st typed s hold bs leads i e)
  branches-sound (Inst i fs) = lifted (Inst i fs) (λ s bs t e nt find law st typed hold leads. inst-sound table well find law st typed s hold bs leads i fs e)
  branches-sound (OpenSome i ns) = λ s bs t e nt valid. open-sound table well s bs valid i ns e
  branches-sound (Cut p) = lifted (Cut p) (λ s bs t e nt find law st typed hold leads. cut-sound table well find law st typed s hold bs leads p e)
  branches-sound (Case p) = lifted (Case p) (λ s bs t e nt find law st typed hold leads. case-sound table well find law st typed s hold bs leads p e)
  branches-sound (Drop i) = λ s bs t e nt valid. absurd (cc)
  branches-sound (EqRule i place) = rewrites (EqRule i place) (eq_to i) place (λ s. refl)
  branches-sound (Qe i place) = rewrites (Qe i place) (eq_from i) place (λ s. refl)
  branches-sound (Law law picks place) = rewrites (Law law picks place) (law_to law picks.items) place (λ s. refl)
  branches-sound (Wal law picks place) = rewrites (Wal law picks place) (law_from law picks.items) place (λ s. refl)
  branches-sound (Eval (Some place)) = rewrites (Eval (Some place)) deciding place (λ s. refl)
  branches-sound (TypeOf place) = rewrites (TypeOf place) typing place (λ s. refl)
  branches-sound (Neg place) = rewrites (Neg place) negating place (λ s. refl)
  branches-sound (Mem place) = rewrites (Mem place) belonging place (λ s. refl)
  branches-sound (Val place) = rewrites (Val place) applying place (λ s. refl)
  branches-sound (Ext place) = rewrites (Ext place) extending place (λ s. refl)
  branches-sound (Sub place) = rewrites (Sub place) including place (λ s. refl)
  branches-sound (Ex place) = rewrites (Ex place) witnessing place (λ s. refl)
  branches-sound (Pair f) = lifted (Pair f) (λ s bs t e nt find law st typed hold leads. pairs-sound table well find law st typed s hold bs leads f e)
  branches-sound (Elems f) = lifted (Elems f) (λ s bs t e nt find law st typed hold leads. elems-sound table well find law st typed s hold bs leads f e)
  branches-sound (Interval i) = lifted (Interval i) (λ s bs t e nt find law st typed hold leads. interval-sound table well find law st typed s hold bs leads i e)
  branches-sound Induct = lifted Induct (λ s bs t e nt find law st typed hold leads. induct-sound table well find law st typed s hold bs leads e)
  branches-sound Poly = lifted Poly (λ s bs t e nt find law st typed hold leads. poly-sound table well find law st typed s bs t.1 e)
  branches-sound (Lin facts lines) = lifted (Lin facts lines) (λ s bs t e nt find law st typed hold leads. lin-sound table well find law st typed s hold bs leads facts lines e)
  branches-sound Unread = λ s bs t e nt valid. absurd (cc)

  -- ---- fewer hypotheses
  without-hold : (find : Finder) (st : State) (n : ℕ) (hyps fewer : List Formula) → without n hyps ≡ Some fewer → AllHold find (at_state table st) hyps → AllHold find (at_state table st) fewer
  without-hold find st n [] fewer e hold = absurd (cc)
  without-hold find st zero (p ∷ ps) fewer e hold = subst (λ x. AllHold find (at_state table st) x) (some-same ps fewer e) hold.1
  without-hold find st (suc n) (p ∷ ps) fewer e hold =
      let k = mapped (λ ys. p ∷ ys) (without n ps) fewer e in
      subst (λ x. AllHold find (at_state table st) x) k.2 (hold.0, without-hold find st n ps k.0 k.1 hold.1)

  item-hold : (find : Finder) (st : State) (i : ℕ) (hyps fewer : List Formula) → without_item i hyps ≡ Some fewer → AllHold find (at_state table st) hyps → AllHold find (at_state table st) fewer
  item-hold find st zero hyps fewer e hold = absurd (cc)
  item-hold find st (suc n) hyps fewer e hold = without-hold find st n hyps fewer e hold

  drop-sound : (s : Sequent) (i : ℕ) (news : List Sequent) → makes table s (Drop i) ≡ Some news → Each (IsValidSequent table) news → IsValidSequent table s
  drop-sound s i news e valid find law st typed hold =
      let k = mapped (λ (hyps : List Formula). (let l : List Sequent = (hyps, s.1) ∷ [] in l)) (without_item i s.0) news e in
      let v = (subst (λ x. Each (IsValidSequent table) x) (sym k.2) valid).0 in
      v find law st typed (item-hold find st i s.0 k.0 k.1 hold)

  made-sound : (rule : Rule) (s : Sequent) (news : List Sequent) → Types table s → option_map (map (extended s)) (branches table s rule) ≡ Some news → Each (Types table) news → Each (IsValidSequent table) news → IsValidSequent table s
  made-sound rule s news types e new_types valid =
      let k = mapped (map (extended s)) (branches table s rule) news e in
      branches-sound rule s k.0 types k.1 (subst (λ x. Each (Types table) x) (sym k.2) new_types) (subst (λ x. Each (IsValidSequent table) x) (sym k.2) valid)

  rule-sound : (s : Sequent) (rule : Rule) (news : List Sequent) → Types table s → makes table s rule ≡ Some news → Each (Types table) news → Each (IsValidSequent table) news → IsValidSequent table s
  rule-sound s (Drop i) news types e new_types valid = drop-sound s i news e valid
  rule-sound s rule news types e new_types valid = made-sound rule s news types e new_types valid

pub rules-are-sound : RulesAreSound
rules-are-sound table well s rule news types step valid = rule-sound table well s rule news types step.made step.type valid

pub rules-are-functions : RulesAreFunctions
rules-are-functions table s rule news others a b = some-same news others (sym a.made ∙ b.made)
