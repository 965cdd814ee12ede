-- What is told of what is executed: one list of faults more, a formula that is no B0, and what scalars are.
use Rattle.std.proofs.Common.{◌≡◌, ℕ, zero, suc, ◌+◌, ◌<◌, List, [], ◌∷◌, ◌++◌, length, get_or, drop, map, refl, sym, ◌∙◌, ap, subst, Bool, true, false, cond, ◌&&◌, arith, append_assoc, ◌≤◌}
use Rattle.std.specs.Prelude.{Option, None, Some, ◌||◌}
use Rattle.std.specs.Option.{option_map}
use Rattle.std.proofs.lemmas.List.{drop_more, drop_all}
use Rattle.bk_val.specs.ValueType.{ValueType, int_type, bool_type, enum_type, pair_type, set_type}
use Rattle.bk_raw.specs.declared.term.RawName.{RawName}
use Rattle.bk_raw.specs.Trees.RawTree.{RawTree, raw, raw_name, raw_infix, raw_apply, raw_extension, no_trees, tree_and, trees_of}
use Rattle.bk_raw.specs.Codes.RawView.{tree_of}
use Rattle.bk_raw.specs.declared.term.RawNode.{RawNode}
use Rattle.bk_raw.specs.declared.term.RawNode.TheVariants.{Name}
use Rattle.bk_raw.specs.declared.operator.InfixOp.TheVariants.{Times}
use Rattle.bk_form.specs.Formula.{Formula}
use Rattle.bk_check_b0.specs.Executed.{fill_sides, only, whole_told}
use Rattle.bk_raw.specs.Meaning.Names.{Names}
use Rattle.bk_raw.specs.Errors.Blame.{blame, earlier}
use Rattle.bk_elab_terms.specs.Visible.{visible_names, meaning_of}
use Rattle.bk_elab_terms.specs.declared.sight.Visible.{Visible}
use Rattle.bk_raw.proofs.Blamed.{blame-joins, earlier-joins, earlier-none}
use Rattle.bk_raw.specs.Errors.Faults.{Fault, not_b0}
use Rattle.bk_statics.specs.Components.{WrittenVariable, abstract_names}
use Rattle.bk_statics.specs.ClauseFaults.{is_flat, declared_at, place_or}
use Rattle.bk_statics.specs.ValueFaults.{is_there}
use Rattle.bk_statics.specs.Plan.{Plan, body_scope}
use Rattle.bk_statics.specs.Typings.{type_at, type_named, variable_named, target_in}
use Rattle.bk_statics.specs.Executable.{Executing, not_executable, or_whole, is_scalar_option, abstract_faults, stored_faults, output_scalars, input_scalars, operations_executable, statement_faults, expression_faults, expression_in, is_array, gives_scalar, all_expression_faults, array_of, assigned_faults, is_fill, is_fill_value, same_domain, domain_read}
use Rattle.bk_scope.specs.Shown.{declared_shown, placed_shown, variables_shown}
use Rattle.bk_scope.specs.declared.component.WrittenVariable.{WrittenVariable as VariableKept}
use Rattle.bk_scope.specs.declared.plan.Declared.{Declared}
use Rattle.bk_scope.specs.declared.plan.Placed.{Placed as PlacedKept}

-- ---- one list of faults more
-- what is told of one list of faults more
pub told-next : (before after first : Option Fault) (fs rest all : List Fault) (whole : Option Fault) → all ≡ fs ++ rest → first ≡ blame fs → after ≡ earlier before first → earlier before (blame all) ≡ whole → earlier after (blame rest) ≡ whole
told-next before after first fs rest all whole split f a h =
    ap (λ (o : Option Fault). earlier o (blame rest)) a ∙ (earlier-joins before first (blame rest) ∙ (ap (λ (o : Option Fault). earlier before (earlier o (blame rest))) f ∙ (sym (ap (λ (gs : List Fault). earlier before (blame gs)) split ∙ ap (earlier before) (blame-joins fs rest)) ∙ h)))

-- what is told of two lists and of three, one after another
pub told-two : (one other both : Option Fault) (fs gs : List Fault) → one ≡ blame fs → other ≡ blame gs → both ≡ earlier one other → both ≡ blame (fs ++ gs)
told-two one other both fs gs f g e =
    e ∙ (ap (λ (o : Option Fault). earlier o other) f ∙ (ap (earlier (blame fs)) g ∙ sym (blame-joins fs gs)))

-- ---- what is no B0
pub blame-whole : (at : ℕ) (fs : List Fault) → blame (or_whole at fs) ≡ whole_told at (blame fs)
blame-whole at [] = refl
blame-whole at (f ∷ fs) = refl

pub blame-either : (b : Bool) (fs gs : List Fault) → blame (cond b fs gs) ≡ cond b (blame fs) (blame gs)
blame-either true fs gs = refl
blame-either false fs gs = refl

pub ruleset wholes = (blame-whole, blame-either)

-- ---- applications
-- of a name
pub apply-named : (x : Executing) (names : Names) (at there : ℕ) (n : List ℕ) (f b : RawTree) → raw there (raw_name n) ≡ f →
    expression_in x names at (raw_apply f b) ≡ cond (is_array x names n) (expression_faults x names b) (or_whole at (not_executable (gives_scalar x names f) there ++ expression_faults x names b))
apply-named x names at there n f b e =
    subst (λ (g : RawTree). expression_in x names at (raw_apply g b) ≡ cond (is_array x names n) (expression_faults x names b) (or_whole at (not_executable (gives_scalar x names g) there ++ expression_faults x names b))) e refl

-- and of what is no name
pub apply-other : (x : Executing) (names : Names) (at there : ℕ) (node : RawNode) (f b : RawTree) → tree_of there node ≡ f → ((n : List ℕ) → node ≡ Name n → ⊥) →
    expression_in x names at (raw_apply f b) ≡ or_whole at (expression_faults x names f ++ expression_faults x names b)
apply-other x names at there node f b e apart = subst (λ (g : RawTree). expression_in x names at (raw_apply g b) ≡ or_whole at (expression_faults x names g ++ expression_faults x names b)) e (go node apart)
  where
    go : (m : RawNode) → ((n : List ℕ) → m ≡ Name n → ⊥) → expression_in x names at (raw_apply (tree_of there m) b) ≡ or_whole at (expression_faults x names (tree_of there m) ++ expression_faults x names b)
    go (Name n) apart = absurd (apart n refl)
    go _ apart = refl

-- what is told of a formula with two parts, of which it is not the whole that is B0
pub whole-told : (at : ℕ) (one whole : Option Fault) (fs : List Fault) → one ≡ blame fs → whole ≡ whole_told at one → whole ≡ blame (or_whole at fs)
whole-told at one whole fs e w = w ∙ (ap (whole_told at) e ∙ sym (blame-whole at fs))

-- ---- scalars
pub flat-scalar : (t : Option ValueType) → is_flat t ≡ is_scalar_option t
flat-scalar None = refl
flat-scalar (Some int_type) = refl
flat-scalar (Some bool_type) = refl
flat-scalar (Some (enum_type n)) = refl
flat-scalar (Some (pair_type t u)) = refl
flat-scalar (Some (set_type t)) = refl

-- ---- declarations
abstract-first : (v : WrittenVariable) (vs : List WrittenVariable) → abstract_faults (abstract_names (v ∷ vs)) ≡ not_executable v.is_concrete v.name.at ++ abstract_faults (abstract_names vs)
abstract-first v vs = go v.is_concrete
  where
    go : (b : Bool) → abstract_faults (cond b (abstract_names vs) (v.name ∷ abstract_names vs)) ≡ not_executable b v.name.at ++ abstract_faults (abstract_names vs)
    go true = refl
    go false = refl

-- a written variable more
pub abstract-more : (vs : List VariableKept) (i : ℕ) (d : VariableKept) (before after first whole : Option Fault) → i < length vs → d ≡ get_or vs i d → first ≡ blame (not_executable d.is_concrete d.name.now.at) → after ≡ earlier before first →
    earlier before (blame (abstract_faults (abstract_names (variables_shown (drop i vs))))) ≡ whole → earlier after (blame (abstract_faults (abstract_names (variables_shown (drop (i + 1) vs))))) ≡ whole
abstract-more vs i d before after first whole l is f a h =
    let rest : List VariableKept = drop (i + 1) vs in
    told-next before after first (not_executable d.is_concrete d.name.now.at) (abstract_faults (abstract_names (variables_shown rest))) (abstract_faults (abstract_names (variables_shown (drop i vs)))) whole
    (ap (λ (us : List VariableKept). abstract_faults (abstract_names (variables_shown us))) (drop_more vs i d l)
    ∙ (ap (λ (u : VariableKept). abstract_faults (abstract_names (variables_shown (u ∷ rest)))) (sym is)
    ∙ abstract-first (record { name = d.name.now; is_concrete = d.is_concrete }) (variables_shown rest))) f a h

next-is : (n i : ℕ) → suc (n + i) ≡ n + (i + 1)
next-is n i = omega arith

-- a variable more
pub stored-more : (x : Executing) (at : ℕ) (ws : List WrittenVariable) (n : ℕ) (ds : List Declared) (i : ℕ) (d : Declared) (b : Bool) (p : ℕ) (before after first whole : Option Fault) → i < length ds → d ≡ get_or ds i d →
    b ≡ (is_scalar_option (x.typing (n + i)) || is_there (x.array (n + i))) → p ≡ place_or at (declared_at ws d.text.now) → first ≡ blame (not_executable b p) → after ≡ earlier before first →
    earlier before (blame (stored_faults x at ws (n + i) (map declared_shown (drop i ds)))) ≡ whole → earlier after (blame (stored_faults x at ws (n + (i + 1)) (map declared_shown (drop (i + 1) ds)))) ≡ whole
stored-more x at ws n ds i d b p before after first whole l is e q f a h =
    let rest : List Fault = stored_faults x at ws (n + (i + 1)) (map declared_shown (drop (i + 1) ds)) in
    let split : stored_faults x at ws (n + i) (map declared_shown (drop i ds)) ≡ not_executable b p ++ rest =
    ap (λ (es : List Declared). stored_faults x at ws (n + i) (map declared_shown es)) (drop_more ds i d l)
    ∙ (ap (λ (y : Declared). stored_faults x at ws (n + i) (declared_shown y ∷ map declared_shown (drop (i + 1) ds))) (sym is)
    ∙ (ap (λ (k : ℕ). not_executable (is_scalar_option (x.typing (n + i)) || is_there (x.array (n + i))) (place_or at (declared_at ws d.text.now)) ++ stored_faults x at ws k (map declared_shown (drop (i + 1) ds))) (next-is n i)
    ∙ (ap (λ (c : Bool). not_executable c (place_or at (declared_at ws d.text.now)) ++ rest) (sym e)
    ∙ ap (λ (k : ℕ). not_executable b k ++ rest) (sym q)))) in
    told-next before after first (not_executable b p) rest (stored_faults x at ws (n + i) (map declared_shown (drop i ds))) whole split f a h

get-again : {A : Type 0} (xs : List A) (i : ℕ) (d : A) → i < length xs → get_or xs i d ≡ get_or xs i (get_or xs i d)
get-again [] i d h = absurd (omega arith)
get-again (x ∷ xs) zero d h = refl
get-again (x ∷ xs) (suc i) d h = get-again xs i d (omega arith)

-- the same, by what the program reads of a list that is the variables
pub stored-step : (x : Executing) (at : ℕ) (ws : List WrittenVariable) (n : ℕ) (ds es : List Declared) (i : ℕ) (d : Declared) (b : Bool) (p : ℕ) (before after first whole : Option Fault) → es ≡ ds → i < length es →
    b ≡ (is_scalar_option (x.typing (n + i)) || is_there (x.array (n + i))) → p ≡ place_or at (declared_at ws (get_or es i d).text.now) → first ≡ blame (not_executable b p) → after ≡ earlier before first →
    earlier before (blame (stored_faults x at ws (n + i) (map declared_shown (drop i ds)))) ≡ whole → earlier after (blame (stored_faults x at ws (n + (i + 1)) (map declared_shown (drop (i + 1) ds)))) ≡ whole
stored-step x at ws n ds es i d b p before after first whole same l e q f a h =
    let within : i < length ds = omega (arith, ap length same) in
    stored-more x at ws n ds i (get_or ds i d) b p before after first whole within (get-again ds i d within) e (q ∙ ap (λ (ys : List Declared). place_or at (declared_at ws (get_or ys i d).text.now)) same) f a h

-- an output more
pub output-more : (x : Executing) (n : ℕ) (ys : List RawName) (i : ℕ) (y : RawName) (b : Bool) (before after first whole : Option Fault) → i < length ys → y ≡ get_or ys i y → b ≡ is_scalar_option (x.typing (n + i)) →
    first ≡ blame (not_executable b y.at) → after ≡ earlier before first → earlier before (blame (output_scalars x (n + i) (drop i ys))) ≡ whole → earlier after (blame (output_scalars x (n + (i + 1)) (drop (i + 1) ys))) ≡ whole
output-more x n ys i y b before after first whole l is e f a h =
    let rest : List Fault = output_scalars x (n + (i + 1)) (drop (i + 1) ys) in
    let split : output_scalars x (n + i) (drop i ys) ≡ not_executable b y.at ++ rest =
    ap (λ (zs : List RawName). output_scalars x (n + i) zs) (drop_more ys i y l)
    ∙ (ap (λ (z : RawName). output_scalars x (n + i) (z ∷ drop (i + 1) ys)) (sym is)
    ∙ (ap (λ (k : ℕ). not_executable (is_scalar_option (x.typing (n + i))) y.at ++ output_scalars x k (drop (i + 1) ys)) (next-is n i)
    ∙ ap (λ (c : Bool). not_executable c y.at ++ rest) (sym e))) in
    told-next before after first (not_executable b y.at) rest (output_scalars x (n + i) (drop i ys)) whole split f a h

-- where there is no output any more nothing is told
pub output-end : (x : Executing) (n : ℕ) (ys : List RawName) (i : ℕ) (before whole : Option Fault) → length ys ≤ i → earlier before (blame (output_scalars x (n + i) (drop i ys))) ≡ whole → before ≡ whole
output-end x n ys i before whole k h =
    sym (ap (λ (zs : List RawName). earlier before (blame (output_scalars x (n + i) zs))) (drop_all i ys k) ∙ earlier-none before) ∙ h

-- an input more
pub input-more : (x : Executing) (ns : List Visible) (ys : List RawName) (i : ℕ) (n : Visible) (y : RawName) (b : Bool) (before after first whole : Option Fault) → i < length ns → n ≡ get_or ns i n → i < length ys → y ≡ get_or ys i y →
    b ≡ is_scalar_option (type_at x.typing (target_in (meaning_of n.meaning))) → first ≡ blame (not_executable b y.at) → after ≡ earlier before first →
    earlier before (blame (input_scalars x (visible_names (drop i ns)) (drop i ys))) ≡ whole → earlier after (blame (input_scalars x (visible_names (drop (i + 1) ns)) (drop (i + 1) ys))) ≡ whole
input-more x ns ys i n y b before after first whole k there l is e f a h =
    let rest : List Fault = input_scalars x (visible_names (drop (i + 1) ns)) (drop (i + 1) ys) in
    let split : input_scalars x (visible_names (drop i ns)) (drop i ys) ≡ not_executable b y.at ++ rest =
    ap (λ (zs : List RawName). input_scalars x (visible_names (drop i ns)) zs) (drop_more ys i y l)
    ∙ (ap (λ (ms : List Visible). input_scalars x (visible_names ms) (get_or ys i y ∷ drop (i + 1) ys)) (drop_more ns i n k)
    ∙ (ap (λ (z : RawName). input_scalars x (visible_names (get_or ns i n ∷ drop (i + 1) ns)) (z ∷ drop (i + 1) ys)) (sym is)
    ∙ (ap (λ (m : Visible). input_scalars x (visible_names (m ∷ drop (i + 1) ns)) (y ∷ drop (i + 1) ys)) (sym there)
    ∙ ap (λ (c : Bool). not_executable c y.at ++ rest) (sym e)))) in
    told-next before after first (not_executable b y.at) rest (input_scalars x (visible_names (drop i ns)) (drop i ys)) whole split f a h

-- where there is no input any more nothing is told either
pub input-end : (x : Executing) (ns : List Visible) (ys : List RawName) (i : ℕ) (before whole : Option Fault) → length ys ≤ i → earlier before (blame (input_scalars x (visible_names (drop i ns)) (drop i ys))) ≡ whole → before ≡ whole
input-end x ns ys i before whole k h =
    sym (ap (λ (zs : List RawName). earlier before (blame (input_scalars x (visible_names (drop i ns)) zs))) (drop_all i ys k) ∙ (ap (λ (fs : List Fault). earlier before (blame fs)) (no-input (visible_names (drop i ns))) ∙ earlier-none before)) ∙ h
  where
    no-input : (ms : Names) → input_scalars x ms [] ≡ []
    no-input [] = refl
    no-input (m ∷ ms) = refl

-- an expression more
pub expressions-more : (x : Executing) (names : Names) (ts : List RawTree) (i : ℕ) (t : RawTree) (before after first whole : Option Fault) → i < length ts → t ≡ get_or ts i t → first ≡ blame (expression_faults x names t) → after ≡ earlier before first →
    earlier before (blame (all_expression_faults x names (trees_of (drop i ts)))) ≡ whole → earlier after (blame (all_expression_faults x names (trees_of (drop (i + 1) ts)))) ≡ whole
expressions-more x names ts i t before after first whole l is f a h =
    told-next before after first (expression_faults x names t) (all_expression_faults x names (trees_of (drop (i + 1) ts))) (all_expression_faults x names (trees_of (drop i ts))) whole
    (ap (λ (us : List RawTree). all_expression_faults x names (trees_of us)) (drop_more ts i t l) ∙ ap (λ (u : RawTree). expression_faults x names u ++ all_expression_faults x names (trees_of (drop (i + 1) ts))) (sym is)) f a h

-- an operation more
pub operations-more : (x : Executing) (p : Plan) (os : List PlacedKept) (i : ℕ) (o : PlacedKept) (before after outputs inputs body own inner whole : Option Fault) → i < length os → o ≡ get_or os i o →
    outputs ≡ blame (output_scalars x o.outputs_at o.operation.now.outputs) → inputs ≡ blame (input_scalars x (visible_names o.inputs.items) o.operation.now.inputs) →
    body ≡ blame (statement_faults x (body_scope p (placed_shown o)) o.binders_at o.operation.now.body) → inner ≡ earlier inputs body → own ≡ earlier outputs inner → after ≡ earlier before own →
    earlier before (blame (operations_executable x p (map placed_shown (drop i os)))) ≡ whole → earlier after (blame (operations_executable x p (map placed_shown (drop (i + 1) os)))) ≡ whole
operations-more x p os i o before after outputs inputs body own inner whole l is eo ei eb ej ek a h =
    let fo : List Fault = output_scalars x o.outputs_at o.operation.now.outputs in
    let fi : List Fault = input_scalars x (visible_names o.inputs.items) o.operation.now.inputs in
    let fb : List Fault = statement_faults x (body_scope p (placed_shown o)) o.binders_at o.operation.now.body in
    let rest : List Fault = operations_executable x p (map placed_shown (drop (i + 1) os)) in
    let split : operations_executable x p (map placed_shown (drop i os)) ≡ (fo ++ (fi ++ fb)) ++ rest =
    ap (λ (qs : List PlacedKept). operations_executable x p (map placed_shown qs)) (drop_more os i o l)
    ∙ (ap (λ (q : PlacedKept). operations_executable x p (placed_shown q ∷ map placed_shown (drop (i + 1) os))) (sym is)
    ∙ sym (append_assoc fo (fi ++ fb) rest ∙ ap (λ (fs : List Fault). fo ++ fs) (append_assoc fi fb rest))) in
    told-next before after own (fo ++ (fi ++ fb)) rest (operations_executable x p (map placed_shown (drop i os))) whole split (told-two outputs inner own fo (fi ++ fb) eo (told-two inputs body inner fi fb ei eb ej) ek) a h

-- ---- fills
-- a set of one is a fill, and no other is
pub fill-only : (at there : ℕ) (d : RawTree) (ts : List RawTree) → fill_sides (raw at (raw_infix Times d (raw there (raw_extension (trees_of ts))))) ≡ option_map (λ e. (d, e)) (only ts)
fill-only at there d [] = refl
fill-only at there d (t ∷ []) = refl
fill-only at there d (t ∷ u ∷ us) = refl

pub ruleset fills = (fill-only)

some-fill : (x : Executing) (names : Names) (declared : Formula) (t : RawTree) → None ≡ fill_sides t → false ≡ is_fill x names (Some declared) t
some-fill x names declared (raw at (raw_infix Times d (raw there (raw_extension (tree_and e no_trees))))) h = cc
some-fill x names declared _ h = refl

-- what is written otherwise is none
pub not-fill : (x : Executing) (names : Names) (o : Option Formula) (t : RawTree) → None ≡ fill_sides t → false ≡ is_fill x names o t
not-fill x names None t h = refl
not-fill x names (Some declared) t h = some-fill x names declared t h

same-sides : (p q : RawTree × RawTree) → Some p ≡ Some q → p ≡ q
same-sides p q h = cc

-- a fill is one by its domain and its value
pub fill-is : (x : Executing) (names : Names) (declared : Formula) (t d v : RawTree) → Some (d, v) ≡ fill_sides t → is_fill x names (Some declared) t ≡ (same_domain declared (domain_read x names d) && is_fill_value x names v)
fill-is x names declared (raw at (raw_infix Times a (raw there (raw_extension (tree_and e no_trees))))) d v h =
    let k : ◌≡◌ {A = RawTree × RawTree} (a, e) (d, v) = sym (same-sides (d, v) (a, e) h) in
    (λ i. same_domain declared (domain_read x names (k i).0) && is_fill_value x names (k i).1)
fill-is x names declared _ d v h = cc

-- of another domain it is none
pub fill-apart : (x : Executing) (names : Names) (declared : Formula) (t d v : RawTree) → Some (d, v) ≡ fill_sides t → false ≡ same_domain declared (domain_read x names d) → false ≡ is_fill x names (Some declared) t
fill-apart x names declared t d v h k = sym (fill-is x names declared t d v h ∙ ap (λ (b : Bool). b && is_fill_value x names v) (sym k))

pub fill-own : (x : Executing) (names : Names) (declared : Formula) (t d v : RawTree) (b : Bool) → Some (d, v) ≡ fill_sides t → true ≡ same_domain declared (domain_read x names d) → b ≡ is_fill_value x names v → b ≡ is_fill x names (Some declared) t
fill-own x names declared t d v b h k e = e ∙ sym (fill-is x names declared t d v h ∙ ap (λ (c : Bool). c && is_fill_value x names v) (sym k))

-- ---- assignments
-- of one term an assignment is B0, and of no other list
abbrev pub assigned_by : Executing → Names → ℕ → RawName → Option RawTree → List Fault
assigned_by x names at v None = not_b0 at ∷ []
assigned_by x names at v (Some t) = cond (is_scalar_option (type_named x.typing names v.text)) (expression_faults x names t) (not_executable (is_fill x names (array_of x (variable_named names v.text)) t) at)

pub assigned-only : (x : Executing) (names : Names) (at : ℕ) (v : RawName) (ts : List RawTree) → assigned_faults x names at (v ∷ []) (trees_of ts) ≡ assigned_by x names at v (only ts)
assigned-only x names at v [] = refl
assigned-only x names at v (t ∷ []) = refl
assigned-only x names at v (t ∷ u ∷ us) = refl

pub ruleset assignments = (assigned-only, blame-either)
