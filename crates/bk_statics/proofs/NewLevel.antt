-- Without faults a component is a level, but for its bodies.
use Rattle.std.proofs.Common.{◌≡◌, ℕ, zero, suc, ◌+◌, ◌<◌, ◌≤◌, List, [], ◌∷◌, ◌++◌, length, refl, sym, ◌∙◌, ap, subst, Bool, true, false, inl, inr, arith}
use Rattle.std.specs.Prelude.{Option, None, Some, ℤ, slice_get, slice_index_or}
use Rattle.bk_val.specs.ValueType.{ValueType}
use Rattle.bk_form.specs.Each.{Each}
use Rattle.bk_form.specs.Table.{Table, VariableEntry, variable_type}
use Rattle.bk_gsl.specs.Substitution.{Substitution}
use Rattle.bk_dev.specs.declared.kind.Kind.{Kind}
use Rattle.bk_dev.specs.declared.kind.Home.{Home}
use Rattle.bk_dev.specs.Development.{Level, Development, level_at, blank_level}
use Rattle.bk_dev.specs.Facts.{AllAre, LoopsStandIn, binders, is_variable_of, is_variable_above, is_inner_of, home_of, AreAlike, IsLink, IsSubOf, IsKindAt, HomesAreThere}
use Rattle.bk_raw.proofs.RulesFit.{none-left, none-right}
use Rattle.bk_raw.specs.Errors.Faults.{Fault}
use Rattle.bk_statics.specs.Components.{Component, is_machine, initialisation}
use Rattle.bk_statics.specs.Typings.{interval}
use Rattle.bk_statics.specs.Binders.{binder_count}
use Rattle.bk_statics.specs.Plan.{plan, operations_of, scope, output_count}
use Rattle.bk_statics.specs.LevelOf.{types_at, level_made, made}
use Rattle.bk_statics.specs.ClauseFaults.{clause_faults}
use Rattle.bk_statics.specs.NameFaults.{name_faults}
use Rattle.bk_statics.specs.OperationFaults.{shape_faults, bodies_shape, lower_faults, missing_init, operation_faults}
use Rattle.bk_statics.specs.StaticFaults.{init_faults, all_body_faults, static_faults}
use Rattle.bk_statics.specs.ValueFaults.{value_faults_of}
use Rattle.bk_statics.specs.LevelLaws.{IsIn, IsReady, HasClauses, NewLevelHasClauses, body_count}
use Rattle.bk_statics.proofs.Intervals.{binds-interval, interval-distinct}
use Rattle.bk_statics.proofs.Shapes.{sub-shaped}
use Rattle.bk_statics.proofs.Listed.{of_entry, variable-entry}
use Rattle.bk_statics.proofs.Stands.{low-type, stands}
use Rattle.bk_statics.proofs.Homes.{old-home}
use Rattle.bk_statics.proofs.InnerHomes.{vars-at-home, no-others, all-inner}
use Rattle.bk_statics.proofs.Starts.{starts-right}
use Rattle.bk_statics.proofs.States.{states-right}
use Rattle.bk_statics.proofs.Links.{links-above, above-low, links-right}

-- ---- lists
each-in : {A : Type 0} (P : A → Type 0) (xs : List A) → ((x : A) → IsIn x xs → P x) → Each P xs
each-in P [] f = tt
each-in P (x ∷ xs) f = (f x (inl refl), each-in P xs (λ y h. f y (inr h)))

pub index-last : {A : Type 0} (xs : List A) (x d : A) → slice_index_or (xs ++ x ∷ []) (length xs) d ≡ x
index-last [] x d = refl
index-last (y ∷ ys) x d = index-last ys x d

-- ---- links
above-split : (k : ℕ) (o : Option Home) → is_variable_above k o ≡ true → (j : ℕ) × (k ≡ suc j) × (is_variable_of j o ≡ true)
above-split zero o h = absurd (cc)
above-split (suc j) o h = (j, refl, h)

entry-there : (vs : List VariableEntry) (i : ℕ) → i < length vs → (t : ValueType) × (of_entry (slice_get vs i) ≡ Some t)
entry-there [] i h = absurd (omega arith)
entry-there (v ∷ vs) zero h = (v.of_type, refl)
entry-there (v ∷ vs) (suc i) h = entry-there vs i (omega arith)

link-stands : (int_max : ℤ) (higher : Development) (comp : Component) → IsReady higher → (l : ℕ × ℕ) → IsIn l (level_made int_max (types_at int_max higher comp (plan higher comp)) (plan higher comp) comp).links → IsLink (made int_max higher comp (plan higher comp)) (plan higher comp).level l
link-stands int_max higher comp ready l h =
    let p = plan higher comp in
    let new = made int_max higher comp p in
    let right = links-right int_max higher comp ready l.0 l.1 h in
    let up = links-above higher comp ready l.0 l.1 h in
    let low = above-low higher ready.homes l.1 up in
    let split = above-split (length higher.levels) (home_of higher l.1) up in
    let there = entry-there higher.table.variables l.1 low in
    let type : variable_type higher.table l.1 ≡ Some there.0 = variable-entry higher.table l.1 ∙ there.1 in
    let st = stands int_max higher comp ready.table in
    record {
      below = right.0;
      above = (split.0, split.1, ap (is_variable_of split.0) (old-home int_max higher comp ready.homes l.1 low) ∙ split.2);
      alike = (there.0, st.settled.types l.0 there.0 (right.1 ∙ type), st.settled.types l.1 there.0 (low-type int_max higher comp ready.table l.1 low ∙ type));
    }

-- ---- where the initialisation may stand
starts-shaped : (higher : Development) (comp : Component) → operation_faults higher comp (plan higher comp) ≡ [] → shape_faults comp.kind false (initialisation comp) ≡ []
starts-shaped higher comp none =
    let missing = missing_init comp.at comp.init (plan higher comp).variables in
    let shape = shape_faults comp.kind false (initialisation comp) in
    let rest = bodies_shape comp.kind comp.operations ++ lower_faults (is_machine comp.kind) higher comp in
    none-left shape rest (none-right missing (shape ++ rest) none)

-- ---- the level
pub new-clauses : NewLevelHasClauses
new-clauses int_max higher comp ready stand kind none =
    let p = plan higher comp in
    let new = made int_max higher comp p in
    let typing = types_at int_max higher comp p in
    let l = level_made int_max typing p comp in
    let clauses = clause_faults int_max typing p comp in
    let operations = operation_faults higher comp p in
    let after = init_faults int_max higher comp typing p ++ (all_body_faults int_max higher comp typing p (operations_of p comp) ++ value_faults_of int_max higher typing p comp) in
    let operations-none = none-left operations after (none-right clauses (operations ++ after) (none-right (name_faults higher comp) (clauses ++ (operations ++ after)) none)) in
    let states = states-right int_max higher comp ready in
    let starts = starts-right int_max higher comp ready none in
    let shaped = sub-shaped comp.kind int_max typing p.upper (initialisation comp) false (scope p) p.binders_at (starts-shaped higher comp operations-none) in
    let at : (level_at new p.level).kind ≡ comp.kind = ap (λ (m : Level). m.kind) (index-last higher.levels l blank_level) in
    record {
      kind = kind;
      vars = vars-at-home int_max higher comp ready.homes;
      all = no-others int_max higher comp ready.homes stand;
      distinct = interval-distinct p.variables_at (length p.variables);
      properties = states.properties;
      properties_names = states.properties_names;
      invariant = states.invariant;
      assertions = states.assertions;
      links = each-in (IsLink new p.level) l.links (link-stands int_max higher comp ready);
      init = record {
        types = starts.types;
        stays = starts.stays;
        loops = subst (λ k. LoopsStandIn k l.init) (sym at) shaped.loops;
        binds_inner = subst (AllAre (λ n. is_inner_of p.level (home_of new n))) (sym (binds-interval (initialisation comp) int_max typing p.upper (scope p) p.binders_at)) (all-inner int_max higher comp ready.homes p.binders_at (binder_count (initialisation comp)) (omega arith) (omega arith));
      };
      shape = shaped.may;
    }
