-- The rules that look at no other state: at one state, where the hypotheses hold and each branch leads to its goal, the goal is true.
use Rattle.std.proofs.Common.{◌≡◌, inl, inr, ℕ, List, [], ◌∷◌, map, refl, sym, ◌∙◌, ap, subst, Bool, true, false, not, ◌||◌}
use Rattle.std.specs.Prelude.{Option, Some, None}
use Rattle.std.specs.Option.{option_map, option_and_then}
use Rattle.std.specs.Global.{Vec}
use Rattle.bk_val.specs.ValueType.{ValueType, is_value_of, are_of_types}
use Rattle.bk_val.specs.CmpLaws.{value_eq-self}
use Rattle.bk_form.specs.Table.{Table, set_size, IsWellFormed}
use Rattle.bk_form.specs.Formula.{Formula, btrue, bfalse, unary, binary, for_all, for_some}
use Rattle.bk_form.specs.Search.{Finder, IsSearch}
use Rattle.bk_form.specs.Environment.{State, IsTyped, IsTypedState, under, at_state}
use Rattle.bk_form.specs.Operators.{implies}
use Rattle.bk_form.specs.Meaning.{value, truth}
use Rattle.bk_form.specs.declared.operator.UnOp.TheVariants.{Not}
use Rattle.bk_form.specs.declared.operator.BinOp.TheVariants.{And, Or, Imp, Iff, Eq}
use Rattle.bk_form.proofs.Members.{or-cases, or-left, or-right, and-true, and-both}
use Rattle.bk_form.proofs.Truth.{for_all-true, for_some-true}
use Rattle.bk_form.proofs.Valued.{typed-value}
use Rattle.bk_form.specs.Predicates.{AllHold}
use Rattle.bk_seq.specs.Paths.{numbered_item}
use Rattle.bk_arith.specs.Same.{is_same}
use Rattle.bk_arith.specs.Decision.{is_accepted}
use Rattle.bk_arith.proofs.SameFormula.{same-then}
use Rattle.bk_arith.proofs.Accepted.{accepted_is_valid}
use Rattle.bk_lin.specs.declared.fact.Line.{Line}
use Rattle.bk_bind.specs.Opening.{opened}
use Rattle.bk_bind.specs.Laws.{TermsGive}
use Rattle.bk_seq.specs.Sequents.{Sequent}
use Rattle.bk_kernel.specs.declared.rule.Rule.{Rule}
use Rattle.bk_kernel.specs.declared.rule.Rule.TheVariants.{Hyp, True, Same, Eval, False, Absurd, And as AndRule, Iff as IffRule, Imp as ImpRule, Not as NotRule, Left, Right, Or as OrRule, Contra, UseTerms, Split, Cases, Apply, Inst, Cut, Case, Lin}
use Rattle.bk_kernel.specs.Branches.{Branch, closed_if, goal, more, sides, operand, universal, existential, when}
use Rattle.bk_kernel.specs.Naming.{give_each}
use Rattle.bk_kernel.specs.Deciding.{is_yes, decided}
use Rattle.bk_kernel.specs.Rules.{listed_facts, branches}
use Rattle.bk_form.specs.Each.{Each}
use Rattle.bk_bind.proofs.UnderTerms.{opening_means}
use Rattle.bk_arith.proofs.Options.{chained, mapped, some-same}
use Rattle.bk_kernel.proofs.EachItem.{hold-item}
use Rattle.bk_kernel.proofs.Viewed.{when-then, sides-then, operand-then, universal-then, existential-then, give_each-then}
use Rattle.bk_kernel.proofs.Decided.{decided-true}

implied : (p q : Bool) → (p ≡ true → q ≡ true) → implies p q ≡ true
implied true q f = f refl
implied false q f = refl

implies-then : (p q : Bool) → implies p q ≡ true → p ≡ true → q ≡ true
implies-then true q h k = h
implies-then false q h k = absurd (cc)

false-true : {A : Type 0} → false ≡ true → A
false-true h = absurd (cc)

-- where it is true or leads to the rest, one of both
by-denial : (p q : Bool) → (not p ≡ true → q ≡ true) → (p || q) ≡ true
by-denial true q f = refl
by-denial false q f = f refl

not-both : (p : Bool) → p ≡ true → not p ≡ true → false ≡ true
not-both p h k = sym (ap not h) ∙ k

module _ (table : Table) (well : IsWellFormed table) (find : Finder) (law : IsSearch find) (st : State) (typed : IsTyped (at_state table st)) where
  -- the state as one that is typed under no binder
  pub typed-state : IsTypedState table st
  typed-state = record { typed = typed.variables }

  abbrev pub true_here : Formula → Bool
  true_here p = truth find (at_state table st) p

  abbrev pub Holds : Formula → Type 0
  Holds p = true_here p ≡ true

  -- where what is new in it holds, so does its goal
  abbrev pub Leads : Branch → Type 0
  Leads b = AllHold find (at_state table st) b.0 → Holds b.1

  is : (f g : Formula) → f ≡ g → Holds g → Holds f
  is f g e h = subst Holds (sym e) h

  onto : (f g : Formula) → f ≡ g → Holds f → Holds g
  onto f g e h = subst Holds e h

  -- the values of terms are of their types
  terms-typed : (ts : List ValueType) (fs : List Formula) → TermsGive table ts fs → are_of_types (set_size table) ts (map (value find (at_state table st)) fs) ≡ true
  terms-typed [] [] h = refl
  terms-typed [] (f ∷ fs) h = absurd h
  terms-typed (t ∷ ts) [] h = absurd h
  terms-typed (t ∷ ts) (f ∷ fs) h = and-true (is_value_of (set_size table) t (value find (at_state table st) f)) (are_of_types (set_size table) ts (map (value find (at_state table st)) fs)) (typed-value find (at_state table st) well typed f t h.0) (terms-typed ts fs h.1)

  pub opened-truth : (ts : List ValueType) (fs : List Formula) → TermsGive table ts fs → (p : Formula) → true_here (opened fs p) ≡ truth find (under (at_state table st) ts (map (value find (at_state table st)) fs)) p
  opened-truth ts fs h p = ap (λ m. m.truth) (opening_means find table well st ts fs h p)

  all-opened : (ts : List ValueType) (fs : List Formula) (p : Formula) → TermsGive table ts fs → Holds (for_all ts p) → Holds (opened fs p)
  all-opened ts fs p h k = opened-truth ts fs h p ∙ (for_all-true find law (at_state table st) ts p).0 k (map (value find (at_state table st)) fs) (terms-typed ts fs h)

  some-opened : (ts : List ValueType) (fs : List Formula) (p : Formula) → TermsGive table ts fs → Holds (opened fs p) → Holds (for_some ts p)
  some-opened ts fs p h k = (for_some-true find law (at_state table st) ts p).1 (map (value find (at_state table st)) fs, terms-typed ts fs h, sym (opened-truth ts fs h p) ∙ k)

  yes-decided : (f : Formula) (o : Option Bool) → decided f ≡ o → is_yes o ≡ true → Holds f
  yes-decided f (Some b) e h = decided-true find (at_state table st) f b e ∙ h
  yes-decided f None e h = absurd (cc)

  listed-hold : (hyps : List Formula) (ns : List ℕ) (ps : List Formula) → listed_facts hyps ns ≡ Some ps → AllHold find (at_state table st) hyps → AllHold find (at_state table st) ps
  listed-hold hyps [] ps e hold = subst (λ x. AllHold find (at_state table st) x) (some-same [] ps e) tt
  listed-hold hyps (n ∷ ns) ps e hold =
      let k = chained (λ p. option_map (λ qs. p ∷ qs) (listed_facts hyps ns)) (numbered_item hyps n) ps e in
      let m = mapped (λ qs. k.0 ∷ qs) (listed_facts hyps ns) ps k.2 in
      subst (λ x. AllHold find (at_state table st) x) m.2 (hold-item find (at_state table st) hyps n k.0 hold k.1, listed-hold hyps ns m.0 m.1 hold)

  by-truth : (p g : Formula) → (Holds p → Holds g) → (true_here p ≡ false → Holds g) → Holds g
  by-truth p g f h = at (true_here p) refl
    where
      at : (b : Bool) → true_here p ≡ b → Holds g
      at true e = f e
      at false e = h e

  -- the facts of the branches, where they are known
  leading : (bs cs : List Branch) → cs ≡ bs → Each Leads bs → Each Leads cs
  leading bs cs e h = subst (λ x. Each Leads x) (sym e) h

  module _ (s : Sequent) (hold : AllHold find (at_state table st) s.0) (bs : List Branch) (leads : Each Leads bs) where
    hypothesis : (i : ℕ) (h : Formula) → numbered_item s.0 i ≡ Some h → Holds h
    hypothesis i h e = hold-item find (at_state table st) s.0 i h hold e

    led : (cs : List Branch) → cs ≡ bs → Each Leads cs
    led cs e = leading bs cs e leads

    -- an entry that looks at hypothesis i
    abbrev Of : Rule → Type 0
    Of rule = branches table s rule ≡ Some bs → Holds s.1

    pub hyp-sound : (i : ℕ) → Of (Hyp i)
    hyp-sound i e =
        let k = chained (λ h. closed_if (is_same h s.1)) (numbered_item s.0 i) bs e in
        onto k.0 s.1 (same-then k.0 s.1 (when-then (is_same k.0 s.1) [] bs k.2).0) (hypothesis i k.0 k.1)

    pub always-sound : Of True
    always-sound e = is s.1 btrue (same-then s.1 btrue (when-then (is_same s.1 btrue) [] bs e).0) refl

    pub same-sound : Of Same
    same-sound e =
        let k = chained (λ x. closed_if (is_same x.0 x.1)) (sides Eq s.1) bs e in
        let x = k.0 in
        is s.1 (binary Eq x.0 x.1) (sides-then Eq s.1 x k.1)
        (subst (λ y. Holds (binary Eq x.0 y)) (same-then x.0 x.1 (when-then (is_same x.0 x.1) [] bs k.2).0) (value_eq-self (value find (at_state table st) x.0)))

    pub decide-sound : Of (Eval None)
    decide-sound e = yes-decided s.1 (decided s.1) refl (when-then (is_yes (decided s.1)) [] bs e).0

    pub never-sound : (i : ℕ) → Of (False i)
    never-sound i e =
        let k = chained (λ h. closed_if (is_same h bfalse)) (numbered_item s.0 i) bs e in
        false-true (onto k.0 bfalse (same-then k.0 bfalse (when-then (is_same k.0 bfalse) [] bs k.2).0) (hypothesis i k.0 k.1))

    pub absurdity-sound : (i j : ℕ) → Of (Absurd i j)
    absurdity-sound i j e =
        let k = chained (λ p. option_and_then (λ h. closed_if (is_same h (unary Not p))) (numbered_item s.0 j)) (numbered_item s.0 i) bs e in
        let m = chained (λ h. closed_if (is_same h (unary Not k.0))) (numbered_item s.0 j) bs k.2 in
        let no = onto m.0 (unary Not k.0) (same-then m.0 (unary Not k.0) (when-then (is_same m.0 (unary Not k.0)) [] bs m.2).0) (hypothesis j m.0 m.1) in
        false-true (not-both (true_here k.0) (hypothesis i k.0 k.1) no)

    pub conj-sound : Of AndRule
    conj-sound e =
        let k = mapped (λ x. goal x.0 ∷ goal x.1 ∷ []) (sides And s.1) bs e in
        let l = led (goal k.0.0 ∷ goal k.0.1 ∷ []) k.2 in
        is s.1 (binary And k.0.0 k.0.1) (sides-then And s.1 k.0 k.1) (and-true (true_here k.0.0) (true_here k.0.1) (l.0 tt) (l.1.0 tt))

    pub iff-sound : Of IffRule
    iff-sound e =
        let k = mapped (λ x. goal (binary Imp x.0 x.1) ∷ goal (binary Imp x.1 x.0) ∷ []) (sides Iff s.1) bs e in
        let l = led (goal (binary Imp k.0.0 k.0.1) ∷ goal (binary Imp k.0.1 k.0.0) ∷ []) k.2 in
        is s.1 (binary Iff k.0.0 k.0.1) (sides-then Iff s.1 k.0 k.1) (and-true (true_here (binary Imp k.0.0 k.0.1)) (true_here (binary Imp k.0.1 k.0.0)) (l.0 tt) (l.1.0 tt))

    pub imp-sound : Of ImpRule
    imp-sound e =
        let k = mapped (λ x. (x.0 ∷ [], x.1) ∷ []) (sides Imp s.1) bs e in
        let l = led ((k.0.0 ∷ [], k.0.1) ∷ []) k.2 in
        is s.1 (binary Imp k.0.0 k.0.1) (sides-then Imp s.1 k.0 k.1) (implied (true_here k.0.0) (true_here k.0.1) (λ h. l.0 (h, tt)))

    pub negation-sound : Of NotRule
    negation-sound e =
        let k = mapped (λ p. (p ∷ [], bfalse) ∷ []) (operand Not s.1) bs e in
        let l = led ((k.0 ∷ [], bfalse) ∷ []) k.2 in
        is s.1 (unary Not k.0) (operand-then Not s.1 k.0 k.1) (by-truth k.0 (unary Not k.0) (λ h. false-true (l.0 (h, tt))) (λ h. ap not h))

    pub left-sound : Of Left
    left-sound e =
        let k = mapped (λ x. goal x.0 ∷ []) (sides Or s.1) bs e in
        is s.1 (binary Or k.0.0 k.0.1) (sides-then Or s.1 k.0 k.1) (or-left (true_here k.0.0) (true_here k.0.1) ((led (goal k.0.0 ∷ []) k.2).0 tt))

    pub right-sound : Of Right
    right-sound e =
        let k = mapped (λ x. goal x.1 ∷ []) (sides Or s.1) bs e in
        is s.1 (binary Or k.0.0 k.0.1) (sides-then Or s.1 k.0 k.1) (or-right (true_here k.0.0) (true_here k.0.1) ((led (goal k.0.1 ∷ []) k.2).0 tt))

    pub disj-sound : Of OrRule
    disj-sound e =
        let k = mapped (λ x. (unary Not x.0 ∷ [], x.1) ∷ []) (sides Or s.1) bs e in
        let l = led ((unary Not k.0.0 ∷ [], k.0.1) ∷ []) k.2 in
        is s.1 (binary Or k.0.0 k.0.1) (sides-then Or s.1 k.0 k.1) (by-denial (true_here k.0.0) (true_here k.0.1) (λ h. l.0 (h, tt)))

    pub contra-sound : Of Contra
    contra-sound e =
        let l = led ((unary Not s.1 ∷ [], bfalse) ∷ []) (some-same ((unary Not s.1 ∷ [], bfalse) ∷ []) bs e) in
        by-truth s.1 s.1 (λ h. h) (λ h. false-true (l.0 (ap not h, tt)))

    pub use-sound : (terms : Vec Formula) → Of (UseTerms terms)
    use-sound terms e =
        let fs = terms.items in
        let k = chained (λ q. when (give_each table q.0 fs) (goal (opened fs q.1) ∷ [])) (existential s.1) bs e in
        let m = when-then (give_each table k.0.0 fs) (goal (opened fs k.0.1) ∷ []) bs k.2 in
        let l = led (goal (opened fs k.0.1) ∷ []) m.1 in
        is s.1 (for_some k.0.0 k.0.1) (existential-then s.1 k.0 k.1) (some-opened k.0.0 fs k.0.1 (give_each-then table k.0.0 fs m.0) (l.0 tt))

    pub split-sound : (i : ℕ) → Of (Split i)
    split-sound i e =
        let k = chained (λ h. option_map (λ x. more s (x.0 ∷ x.1 ∷ [])) (sides And h)) (numbered_item s.0 i) bs e in
        let m = mapped (λ x. more s (x.0 ∷ x.1 ∷ [])) (sides And k.0) bs k.2 in
        let l = led (more s (m.0.0 ∷ m.0.1 ∷ [])) m.2 in
        let both = and-both (true_here m.0.0) (true_here m.0.1) (onto k.0 (binary And m.0.0 m.0.1) (sides-then And k.0 m.0 m.1) (hypothesis i k.0 k.1)) in
        l.0 (both.0, (both.1, tt))

    pub cases-sound : (i : ℕ) → Of (Cases i)
    cases-sound i e =
        let k = chained (λ h. option_map (λ x. (x.0 ∷ [], s.1) ∷ (x.1 ∷ [], s.1) ∷ []) (sides Or h)) (numbered_item s.0 i) bs e in
        let m = mapped (λ x. (x.0 ∷ [], s.1) ∷ (x.1 ∷ [], s.1) ∷ []) (sides Or k.0) bs k.2 in
        let l = led ((m.0.0 ∷ [], s.1) ∷ (m.0.1 ∷ [], s.1) ∷ []) m.2 in
        let one = onto k.0 (binary Or m.0.0 m.0.1) (sides-then Or k.0 m.0 m.1) (hypothesis i k.0 k.1) in
        elim (or-cases (true_here m.0.0) (true_here m.0.1) one) [ inl h ↦ l.0 (h, tt) | inr h ↦ l.1.0 (h, tt) ]

    pub apply-sound : (i : ℕ) → Of (Apply i)
    apply-sound i e =
        let k = chained (λ h. option_map (λ x. goal x.0 ∷ (x.1 ∷ [], s.1) ∷ []) (sides Imp h)) (numbered_item s.0 i) bs e in
        let m = mapped (λ x. goal x.0 ∷ (x.1 ∷ [], s.1) ∷ []) (sides Imp k.0) bs k.2 in
        let l = led (goal m.0.0 ∷ (m.0.1 ∷ [], s.1) ∷ []) m.2 in
        let q = implies-then (true_here m.0.0) (true_here m.0.1) (onto k.0 (binary Imp m.0.0 m.0.1) (sides-then Imp k.0 m.0 m.1) (hypothesis i k.0 k.1)) (l.0 tt) in
        l.1.0 (q, tt)

    pub inst-sound : (i : ℕ) (terms : Vec Formula) → Of (Inst i terms)
    inst-sound i terms e =
        let fs = terms.items in
        let k = chained (λ h. option_and_then (λ q. when (give_each table q.0 fs) (more s (opened fs q.1 ∷ []))) (universal h)) (numbered_item s.0 i) bs e in
        let m = chained (λ q. when (give_each table q.0 fs) (more s (opened fs q.1 ∷ []))) (universal k.0) bs k.2 in
        let w = when-then (give_each table m.0.0 fs) (more s (opened fs m.0.1 ∷ [])) bs m.2 in
        let l = led (more s (opened fs m.0.1 ∷ [])) w.1 in
        let all = onto k.0 (for_all m.0.0 m.0.1) (universal-then k.0 m.0 m.1) (hypothesis i k.0 k.1) in
        l.0 (all-opened m.0.0 fs m.0.1 (give_each-then table m.0.0 fs w.0) all, tt)

    pub cut-sound : (p : Formula) → Of (Cut p)
    cut-sound p e =
        let l = led (goal p ∷ (p ∷ [], s.1) ∷ []) (some-same (goal p ∷ (p ∷ [], s.1) ∷ []) bs e) in
        l.1.0 (l.0 tt, tt)

    pub case-sound : (p : Formula) → Of (Case p)
    case-sound p e =
        let l = led ((p ∷ [], s.1) ∷ (unary Not p ∷ [], s.1) ∷ []) (some-same ((p ∷ [], s.1) ∷ (unary Not p ∷ [], s.1) ∷ []) bs e) in
        by-truth p s.1 (λ h. l.0 (h, tt)) (λ h. l.1.0 (ap not h, tt))

    pub lin-sound : (numbers : Vec ℕ) (certificate : Vec Line) → Of (Lin numbers certificate)
    lin-sound numbers certificate e =
        let facts = numbers.items in
        let lines = certificate.items in
        let k = chained (λ ps. closed_if (is_accepted ps s.1 lines)) (listed_facts s.0 facts) bs e in
        let w = when-then (is_accepted k.0 s.1 lines) [] bs k.2 in
        accepted_is_valid table k.0 s.1 lines w.0 find law st typed-state (listed-hold s.0 facts k.0 k.1 hold)
