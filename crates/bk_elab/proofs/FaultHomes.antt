-- Which variables are a level's own: those of its plan. So what is judged with the plan is what is meant.
use Rattle.std.proofs.Common.{◌≡◌, inl, inr, ℕ, List, [], ◌∷◌, ◌++◌, length, map, refl, sym, ◌∙◌, ap, subst, Bool, true, false}
use Rattle.std.specs.Prelude.{Option, ℤ, ◌||◌, nat_eq}
use Rattle.std.proofs.lemmas.List.{length-map}
use Rattle.bk_form.proofs.Members.{both_ways, or-cases}
use Rattle.bk_gsl.specs.State.{among}
use Rattle.bk_raw.specs.Meaning.Names.{Names}
use Rattle.bk_raw.specs.Trees.SubTree.{SubTree}
use Rattle.bk_raw.specs.Errors.Blame.{blame, earlier}
use Rattle.bk_raw.specs.Errors.Faults.{Fault}
use Rattle.bk_elab_terms.specs.Visible.{typing_of, visible_names}
use Rattle.bk_dev.specs.Development.{Development}
use Rattle.bk_dev.specs.Facts.{AllAre, is_variable_of, home_of, writes_own, HomesAreThere}
use Rattle.bk_statics.specs.Components.{Component, initialisation}
use Rattle.bk_statics.specs.Typings.{Typing, interval}
use Rattle.bk_statics.specs.Plan.{Placed, Plan, plan, operations_of, scope, body_scope}
use Rattle.bk_statics.specs.ClauseFaults.{input_faults, clause_faults}
use Rattle.bk_statics.specs.SubFaults.{declared_faults, sub_faults}
use Rattle.bk_statics.specs.LevelOf.{made}
use Rattle.bk_statics.specs.NameFaults.{name_faults}
use Rattle.bk_statics.specs.OperationFaults.{operation_faults}
use Rattle.bk_statics.specs.ValueFaults.{value_faults_of}
use Rattle.bk_statics.specs.StaticFaults.{outputs_of, init_faults, all_body_faults, planned_faults}
use Rattle.bk_statics.proofs.InnerHomes.{vars-at-home, no-others}
use Rattle.bk_statics.proofs.SubStays.{nat_eq-then}
use Rattle.bk_check_subs.specs.declared.left.Interval.{Interval}
use Rattle.bk_scope.specs.declared.plan.Plan.{Plan as PlanKept}
use Rattle.bk_scope.specs.declared.way.Typing.{Typing as TypingKept}
use Rattle.bk_scope.specs.Shown.{plan_shown, declared_shown, placed_shown, IsPlanOf}
use Rattle.bk_check_subs.specs.Written.{writable_by}
use Rattle.bk_scope.proofs.FaultSteps.{told-both, or-false}
use Rattle.bk_elab.specs.Answered.{WritesOwn, bodies_judged}

has-all : (p : ℕ → Bool) (ns : List ℕ) (n : ℕ) → AllAre p ns → among ns n ≡ true → p n ≡ true
has-all p [] n h e = absurd (cc)
has-all p (m ∷ ns) n h e = elim (or-cases (nat_eq n m) (among ns n) e) [ inl a ↦ subst (λ k. p k ≡ true) (sym (nat_eq-then n m a)) h.0 | inr b ↦ has-all p ns n h.1 b ]

own-writes : (int_max : ℤ) (higher : Development) (comp : Component) → length higher.homes ≡ length higher.table.variables → HomesAreThere higher → (n : ℕ) →
    is_variable_of (plan higher comp).level (home_of (made int_max higher comp (plan higher comp)) n) ≡ among (interval (plan higher comp).variables_at (length (plan higher comp).variables)) n
own-writes int_max higher comp homes-so stand n =
    let new = made int_max higher comp (plan higher comp) in
    both_ways (is_variable_of (plan higher comp).level (home_of new n)) (among (interval (plan higher comp).variables_at (length (plan higher comp).variables)) n) (no-others int_max higher comp homes-so stand n)
    (λ h. has-all (λ m. is_variable_of (plan higher comp).level (home_of new m)) (interval (plan higher comp).variables_at (length (plan higher comp).variables)) n (vars-at-home int_max higher comp homes-so) h)

-- the plan that is kept tells the level's variables
pub kept-writes : (p : PlanKept) (int_max : ℤ) (higher : Development) (comp : Component) → plan_shown p ≡ record (plan higher comp) { heads = [] } → length higher.homes ≡ length higher.table.variables → HomesAreThere higher →
    WritesOwn p (made int_max higher comp (plan higher comp))
kept-writes p int_max higher comp e homes-so stand n =
    let new = made int_max higher comp (plan higher comp) in
    let variables : length p.variables.items ≡ length (plan higher comp).variables = sym (length-map p.variables.items declared_shown) ∙ ap (λ (q : Plan). length q.variables) e in
    ap (λ (q : Plan). is_variable_of q.level (home_of new n)) e
    ∙ (own-writes int_max higher comp homes-so stand n
    ∙ (ap (λ (k : ℕ). among (interval (plan higher comp).variables_at k) n) (sym variables) ∙ ap (λ (q : Plan). among (interval q.variables_at (length p.variables.items)) n) (sym e)))

-- the bodies' faults
pub bodies-meant : (t : TypingKept) (typing : Typing) (p : PlanKept) (higher : Development) (comp : Component) (os : List Placed) → plan_shown p ≡ record (plan higher comp) { heads = [] } →
    bodies_judged t typing p (made t.max higher comp (plan higher comp)) os ≡ all_body_faults t.max higher comp typing (plan higher comp) os
bodies-meant t typing p higher comp [] e = refl
bodies-meant t typing p higher comp (o ∷ os) e =
    let new = made t.max higher comp (plan higher comp) in
    ap (λ (q : Plan). (input_faults typing o.headed.inputs o.headed.operation.inputs ++ (declared_faults typing o.outputs_at o.headed.operation.outputs
    ++ sub_faults t.max typing q.upper (body_scope q o) (writes_own new q.level (outputs_of o)) o.binders_at o.headed.operation.body)) ++ bodies_judged t typing p new os) e
    ∙ ap (λ l. (input_faults typing o.headed.inputs o.headed.operation.inputs ++ (declared_faults typing o.outputs_at o.headed.operation.outputs
    ++ sub_faults t.max typing (plan higher comp).upper (body_scope (plan higher comp) o) (writes_own new (plan higher comp).level (outputs_of o)) o.binders_at o.headed.operation.body)) ++ l) (bodies-meant t typing p higher comp os e)

-- ---- what may be written
funs : (f g : ℕ → Bool) → ((n : ℕ) → f n ≡ g n) → f ≡ g
funs f g h = λ i n. h n i

-- the level's variables
own-one : (v : Interval) (p : PlanKept) (dev : Development) → v.first ≡ p.variables_at → v.count ≡ length p.variables.items → WritesOwn p dev → (n : ℕ) → among (interval v.first v.count) n ≡ is_variable_of p.level (home_of dev n)
own-one v p dev a b w n = ap (λ m. among (interval m v.count) n) a ∙ (ap (λ k. among (interval p.variables_at k) n) b ∙ sym (w n))

-- and outputs
own-two : (v o : Interval) (p : PlanKept) (dev : Development) → v.first ≡ p.variables_at → v.count ≡ length p.variables.items → WritesOwn p dev → (n : ℕ) → writable_by (v ∷ o ∷ []) n ≡ writes_own dev p.level (interval o.first o.count) n
own-two v o p dev a b w n =
    ap (λ (c : Bool). c || (among (interval o.first o.count) n || false)) (own-one v p dev a b w n) ∙ ap (λ c. is_variable_of p.level (home_of dev n) || c) (or-false (among (interval o.first o.count) n))

-- the initialisation's faults
pub start-meant : (max : ℤ) (typing : Typing) (v : Interval) (p : PlanKept) (dev : Development) (upper names : Names) (s : SubTree) → v.first ≡ p.variables_at → v.count ≡ length p.variables.items → names ≡ scope (plan_shown p) → WritesOwn p dev →
    sub_faults max typing upper names (writable_by (v ∷ [])) p.binders_at s ≡ sub_faults max typing upper (scope (plan_shown p)) (writes_own dev p.level []) p.binders_at s
start-meant max typing v p dev upper names s a b e w =
    ap (λ (ns : Names). sub_faults max typing upper ns (writable_by (v ∷ [])) p.binders_at s) e
    ∙ ap (λ (f : ℕ → Bool). sub_faults max typing upper (scope (plan_shown p)) f p.binders_at s)
    (funs (writable_by (v ∷ [])) (writes_own dev p.level []) (λ n. ap (λ (c : Bool). c || false) (own-one v p dev a b w n)))

-- a body's
pub body-meant : (max : ℤ) (typing : Typing) (v o : Interval) (p : PlanKept) (dev : Development) (upper names : Names) (l : Placed) (s : SubTree) → v.first ≡ p.variables_at → v.count ≡ length p.variables.items →
    o.first ≡ l.outputs_at → o.count ≡ length l.headed.operation.outputs → names ≡ body_scope (plan_shown p) l → WritesOwn p dev →
    sub_faults max typing upper names (writable_by (v ∷ o ∷ [])) l.binders_at s ≡ sub_faults max typing upper (body_scope (plan_shown p) l) (writes_own dev p.level (outputs_of l)) l.binders_at s
body-meant max typing v o p dev upper names l s a b c d e w =
    let same : interval o.first o.count ≡ outputs_of l = ap (λ m. interval m o.count) c ∙ ap (λ k. interval l.outputs_at k) d in
    ap (λ (ns : Names). sub_faults max typing upper ns (writable_by (v ∷ o ∷ [])) l.binders_at s) e
    ∙ ap (λ (f : ℕ → Bool). sub_faults max typing upper (body_scope (plan_shown p) l) f l.binders_at s)
    (funs (writable_by (v ∷ o ∷ [])) (writes_own dev p.level (outputs_of l)) (λ n. own-two v o p dev a b w n ∙ ap (λ (ns : List ℕ). writes_own dev p.level ns n) same))

-- ---- all of them
pub planned : (t : TypingKept) (p : PlanKept) (higher : Development) (comp : Component) → IsPlanOf p higher comp → length higher.homes ≡ length higher.table.variables → HomesAreThere higher →
    (names clauses operations start bodies values written started shaped stated every : Option Fault) →
    names ≡ blame (name_faults higher comp) →
    clauses ≡ blame (clause_faults t.max (typing_of t.types.now) (plan_shown p) comp) →
    operations ≡ blame (operation_faults higher comp (plan higher comp)) →
    ((dev : Development) → WritesOwn p dev → start ≡ blame (sub_faults t.max (typing_of t.types.now) (visible_names p.upper.items) (scope (plan_shown p)) (writes_own dev p.level []) p.binders_at (initialisation comp))) →
    ((dev : Development) → WritesOwn p dev → bodies ≡ blame (bodies_judged t (typing_of t.types.now) p dev (map placed_shown p.operations.items))) →
    values ≡ blame (value_faults_of t.max higher (typing_of t.types.now) (plan_shown p) comp) →
    written ≡ earlier bodies values → started ≡ earlier start written → shaped ≡ earlier operations started → stated ≡ earlier clauses shaped → every ≡ earlier names stated →
    every ≡ blame (planned_faults t.max higher comp (plan higher comp) (typing_of t.types.now))
planned t p higher comp is homes-so stand names clauses operations start bodies values written started shaped stated every a b c d e f g1 g2 g3 g4 g5 =
    let typing = typing_of t.types.now in
    let own = plan higher comp in
    let new = made t.max higher comp own in
    let w = kept-writes p t.max higher comp is.shown homes-so stand in
    let b2 : clauses ≡ blame (clause_faults t.max typing own comp) = b ∙ ap (λ (q : Plan). blame (clause_faults t.max typing q comp)) is.shown in
    let d2 : start ≡ blame (init_faults t.max higher comp typing own) = d new w ∙ ap (λ (q : Plan). blame (sub_faults t.max typing q.upper (scope q) (writes_own new q.level []) q.binders_at (initialisation comp))) is.shown in
    let e2 : bodies ≡ blame (all_body_faults t.max higher comp typing own (operations_of own comp)) =
    e new w ∙ ap blame (bodies-meant t typing p higher comp (map placed_shown p.operations.items) is.shown ∙ ap (λ (os : List Placed). all_body_faults t.max higher comp typing own os) is.operations) in
    let f2 : values ≡ blame (value_faults_of t.max higher typing own comp) = f ∙ ap (λ (q : Plan). blame (value_faults_of t.max higher typing q comp)) is.shown in
    let bv = value_faults_of t.max higher typing own comp in
    let bb = all_body_faults t.max higher comp typing own (operations_of own comp) in
    let bi = init_faults t.max higher comp typing own in
    let bo = operation_faults higher comp own in
    let bc = clause_faults t.max typing own comp in
    told-both (name_faults higher comp) (bc ++ (bo ++ (bi ++ (bb ++ bv)))) names stated every a
    (told-both bc (bo ++ (bi ++ (bb ++ bv))) clauses shaped stated b2 (told-both bo (bi ++ (bb ++ bv)) operations started shaped c (told-both bi (bb ++ bv) start written started d2 (told-both bb bv bodies values written e2 f2 g1) g2) g3) g4) g5
