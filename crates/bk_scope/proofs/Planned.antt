-- The plan of a component from its parts.
use Rattle.std.proofs.Common.{◌≡◌, refl, sym, ap, ◌∙◌, ◌+◌, ◌<◌, ◌≤◌, ℕ, Bool, cond, List, [], ◌∷◌, ◌++◌, length, map, take, get_or, drop, arith, append_assoc, ◌||◌, true, false}
use Rattle.std.proofs.lemmas.List.{drop_more, take-append-le, take-map, length-append, length-map}
use Rattle.std.specs.List.{list_any}
use Rattle.std.specs.Str.{bytes_eq}
use Rattle.bk_dev.specs.Development.{Development, Head}
use Rattle.bk_raw.specs.Meaning.Binders.{is_text}
use Rattle.bk_raw.specs.Meaning.Names.{Names}
use Rattle.bk_statics.specs.Above.{upper_of}
use Rattle.bk_statics.specs.Binders.{binder_count}
use Rattle.bk_statics.specs.Components.{Component, WrittenVariable as WrittenMeant, is_machine, initialisation}
use Rattle.bk_statics.specs.Plan.{Declared as DeclaredMeant, Headed as HeadedMeant, Placed as PlacedMeant, Plan as PlanMeant, all_declared, declared_texts, own, own_one, is_headed, input_count, output_count, placed, operations_of, plan, plan_globals, plan_headed, sizes, other_sizes}
use Rattle.bk_scope.specs.declared.component.WrittenVariable.{WrittenVariable}
use Rattle.bk_scope.specs.declared.plan.Declared.{Declared}
use Rattle.bk_scope.specs.declared.plan.Counts.{Counts}
use Rattle.bk_scope.specs.declared.plan.Plan.{Plan}
use Rattle.bk_elab_terms.specs.Visible.{visible_names}
use Rattle.bk_scope.specs.Shown.{declared_shown, placed_shown, variable_shown, variables_shown, plan_shown, IsCounted, IsPlanOf}

-- ---- tests
pub headed_any : (hs : List Head) (x : List ℕ) → list_any (λ (h : Head). bytes_eq h.name x) hs ≡ is_headed hs x
headed_any [] x = refl
headed_any (h ∷ hs) x = ap (λ b. bytes_eq h.name x || b) (headed_any hs x)

pub carried_any : (ds : List Declared) (x : List ℕ) → list_any (λ (d : Declared). bytes_eq d.text.now x) ds ≡ is_text (declared_texts (map declared_shown ds)) x
carried_any [] x = refl
carried_any (d ∷ ds) x = ap (λ b. bytes_eq d.text.now x || b) (carried_any ds x)

-- ---- variables
own_one_more : (F : List (List ℕ)) (upper : Names) (v : WrittenMeant) (vs : List WrittenMeant) → own F upper (v ∷ vs) ≡ own F upper (v ∷ []) ++ own F upper vs
own_one_more F upper v vs = split (is_text F v.name.text)
  where
    split : (b : Bool) → cond b (own F upper vs) (own_one upper v ∷ own F upper vs) ≡ cond b [] (own_one upper v ∷ []) ++ own F upper vs
    split true = refl
    split false = refl

pub own_found : (first : List DeclaredMeant) (upper : Names) (vs : List WrittenVariable) (i : ℕ) (v : WrittenVariable) (before : ℕ) (old new : List Declared) (whole : List DeclaredMeant)
    → i < length vs → v ≡ get_or vs i v
    → map declared_shown (take before old) ≡ first
    → map declared_shown old ++ own (declared_texts first) upper (variables_shown (drop i vs)) ≡ whole
    → map declared_shown new ≡ map declared_shown old ++ own (declared_texts (map declared_shown (take before old))) upper (variable_shown v ∷ [])
    → map declared_shown new ++ own (declared_texts first) upper (variables_shown (drop (i + 1) vs)) ≡ whole
own_found first upper vs i v before old new whole lt is same inv pushed =
    let rest : List DeclaredMeant = own (declared_texts first) upper (variables_shown (drop (i + 1) vs)) in
    let one : List DeclaredMeant = own (declared_texts first) upper (variable_shown v ∷ []) in
    let next : variables_shown (drop i vs) ≡ variable_shown v ∷ variables_shown (drop (i + 1) vs) = ap (λ ds. variables_shown ds) (drop_more vs i v lt ∙ ap (λ y. y ∷ drop (i + 1) vs) (sym is)) in
    ap (λ ds. ds ++ rest) (pushed ∙ ap (λ ds. map declared_shown old ++ own (declared_texts ds) upper (variable_shown v ∷ [])) same)
    ∙ append_assoc (map declared_shown old) one rest
    ∙ ap (λ ds. map declared_shown old ++ ds) (sym (ap (λ ds. own (declared_texts first) upper ds) next ∙ own_one_more (declared_texts first) upper (variable_shown v) (variables_shown (drop (i + 1) vs))))
    ∙ inv

pub own_before : (first : List DeclaredMeant) (before : ℕ) (old new : List Declared) (more : List DeclaredMeant) → before ≤ length old
    → map declared_shown (take before old) ≡ first → map declared_shown new ≡ map declared_shown old ++ more → map declared_shown (take before new) ≡ first
own_before first before old new more le same pushed =
    let mapped : before ≤ length (map declared_shown old) = omega (arith, length-map old declared_shown) in
    sym (take-map declared_shown before new) ∙ ap (λ ds. take before ds) pushed ∙ take-append-le before (map declared_shown old) more mapped ∙ take-map declared_shown before old ∙ same

pub own_within : (before : ℕ) (old new : List Declared) (more : List DeclaredMeant) → before ≤ length old → map declared_shown new ≡ map declared_shown old ++ more → before ≤ length new
own_within before old new more le pushed =
    omega (arith, length-map old declared_shown, length-map new declared_shown, ap length pushed, length-append (map declared_shown old) more)

-- ---- operations
pub headed_of_placed : (n b : ℕ) (hs : List HeadedMeant) → map (λ (o : PlacedMeant). o.headed) (placed n b hs) ≡ hs
headed_of_placed n b [] = refl
headed_of_placed n b (h ∷ hs) = ap (λ os. h ∷ os) (headed_of_placed (n + length h.operation.outputs) (b + binder_count h.operation.body) hs)

-- ---- the plan
pub planned : (dev : Development) (c : Component) (level constants_at variables_at inputs_at outputs_at binders_at far : ℕ) (globals upper : Names) (variables : List DeclaredMeant) (headed : List HeadedMeant)
    → level ≡ length dev.levels
    → constants_at ≡ length dev.table.variables
    → variables_at ≡ constants_at + length c.constants
    → upper ≡ upper_of dev
    → variables ≡ all_declared dev upper c.variables
    → inputs_at ≡ variables_at + length variables
    → outputs_at ≡ inputs_at + cond (is_machine c.kind) (input_count c.operations) 0
    → far ≡ outputs_at + (binder_count (initialisation c) + (sizes dev.heads c.operations + other_sizes dev.heads c.operations))
    → globals ≡ plan_globals dev c
    → headed ≡ plan_headed dev c inputs_at far
    → binders_at ≡ outputs_at + output_count headed
    → record { level = level; constants_at = constants_at; variables_at = variables_at; inputs_at = inputs_at; outputs_at = outputs_at; binders_at = binders_at; globals = globals; upper = upper; variables = variables; heads = []; headed = headed } ≡ record (plan dev c) { heads = [] }
planned dev c level constants_at variables_at inputs_at outputs_at binders_at far globals upper variables headed e1 e2 e3 e4 e5 e6 e7 e8 e9 e10 e11 = cc

-- what a plan has is the component's plan, where its parts are the parts of that
pub is_plan : (dev : Development) (c : Component) (p : Plan) (n : Counts) (hs : List HeadedMeant) (b count : ℕ)
    → IsCounted n dev c count → count ≡ length p.variables.items
    → p.level ≡ length dev.levels
    → p.constants_at ≡ n.constants_at → p.variables_at ≡ n.variables_at → p.inputs_at ≡ n.inputs_at → p.outputs_at ≡ n.outputs_at
    → visible_names p.upper.items ≡ upper_of dev
    → map declared_shown p.variables.items ≡ all_declared dev (visible_names p.upper.items) c.variables
    → visible_names p.globals.items ≡ plan_globals dev c
    → hs ≡ plan_headed dev c n.inputs_at n.far
    → p.binders_at ≡ n.outputs_at + output_count hs
    → map placed_shown p.operations.items ≡ placed n.outputs_at b hs
    → b ≡ p.binders_at + binder_count (initialisation c)
    → IsPlanOf p dev c
is_plan dev c p n hs b count counted as_many e1 ec ev ei eo eu evs eg eh eb ep es =
    let heads : map (λ (o : PlacedMeant). o.headed) (map placed_shown p.operations.items) ≡ hs = ap (λ os. map (λ (o : PlacedMeant). o.headed) os) ep ∙ headed_of_placed n.outputs_at b hs in
    let own : length (map declared_shown p.variables.items) ≡ length p.variables.items = length-map p.variables.items declared_shown in
    let at_variables : p.variables_at ≡ p.constants_at + length c.constants = ev ∙ counted.variables ∙ ap (λ k. k + length c.constants) (sym ec) in
    let at_inputs : p.inputs_at ≡ p.variables_at + length (map declared_shown p.variables.items) = ei ∙ counted.inputs ∙ ap (λ k. k + count) (sym ev) ∙ ap (λ k. p.variables_at + k) (as_many ∙ sym own) in
    let at_outputs : p.outputs_at ≡ p.inputs_at + cond (is_machine c.kind) (input_count c.operations) 0 = eo ∙ counted.outputs ∙ ap (λ k. k + cond (is_machine c.kind) (input_count c.operations) 0) (sym ei) in
    let behind : n.far ≡ p.outputs_at + (binder_count (initialisation c) + (sizes dev.heads c.operations + other_sizes dev.heads c.operations)) = counted.behind ∙ ap (λ k. k + (binder_count (initialisation c) + (sizes dev.heads c.operations + other_sizes dev.heads c.operations))) (sym eo) in
    let all_headed : map (λ (o : PlacedMeant). o.headed) (map placed_shown p.operations.items) ≡ plan_headed dev c p.inputs_at n.far = heads ∙ eh ∙ ap (λ k. plan_headed dev c k n.far) (sym ei) in
    let at_binders : p.binders_at ≡ p.outputs_at + output_count (map (λ (o : PlacedMeant). o.headed) (map placed_shown p.operations.items)) = eb ∙ ap (λ k. k + output_count hs) (sym eo) ∙ ap (λ os. p.outputs_at + output_count os) (sym heads) in
    let shown : plan_shown p ≡ record (plan dev c) { heads = [] } =
    planned dev c p.level p.constants_at p.variables_at p.inputs_at p.outputs_at p.binders_at n.far
    (visible_names p.globals.items) (visible_names p.upper.items) (map declared_shown p.variables.items) (map (λ (o : PlacedMeant). o.headed) (map placed_shown p.operations.items))
    e1 (ec ∙ counted.constants) at_variables eu evs at_inputs at_outputs behind eg all_headed at_binders in
    let all_placed : map placed_shown p.operations.items ≡ operations_of (plan_shown p) c =
    ep ∙ ap (λ k. placed k b hs) (sym eo) ∙ ap (λ k. placed p.outputs_at k hs) es ∙ ap (λ os. placed p.outputs_at (p.binders_at + binder_count (initialisation c)) os) (sym heads) in
    record { shown = shown; operations = all_placed ∙ ap (λ (q : PlanMeant). operations_of q c) shown }
