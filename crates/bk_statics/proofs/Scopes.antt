-- The names in a component's scopes, all its ways, and the table that they give.
use Rattle.std.proofs.Common.{◌≡◌, ℕ, suc, ◌+◌, List, [], ◌∷◌, ◌++◌, length, refl, sym, ◌∙◌, ap, Bool, true, false, cond}
use Rattle.std.specs.Prelude.{Option, None, Some}
use Rattle.bk_dev.specs.declared.kind.Kind.{Kind}
use Rattle.bk_raw.specs.declared.term.RawName.{RawName}
use Rattle.bk_raw.specs.Trees.RawTree.{RawTree}
use Rattle.bk_raw.specs.Meaning.Names.{Names}
use Rattle.bk_statics.specs.Binders.{binder_count}
use Rattle.bk_statics.specs.Ways.{Way, assigned_ways, ways, no_ways, ways_by}
use Rattle.bk_raw.specs.Trees.ComponentTree.{RawOperation}
use Rattle.bk_statics.specs.Components.{Component, outermost, is_machine, initialisation}
use Rattle.bk_statics.specs.Plan.{Declared, names_from, entries_of, fresh, Headed, Placed, placed, machine_headed, inputs_by, lower_headed, input_count, output_count, Plan, plan, operations_of, level_names, scope, invariant_scope, body_scope, input_scope, sizes, other_sizes, other_headed}
use Rattle.bk_statics.specs.LevelOf.{next_place, variable_ways, all_input_ways, lower_output_ways, output_ways, all_output_ways, all_binder_ways, all_ways, new_texts}
use Rattle.bk_statics.specs.LevelLaws.{body_count}
use Rattle.bk_statics.proofs.Counted.{join-count, new-count}
use Rattle.bk_statics.proofs.WaysOf.{conjunct-count, assigned-count, ways-count}
use Rattle.bk_dev.specs.Development.{Development}

-- ---- how many ways there are
no-count : {A : Type 0} → (xs : List A) → length (no_ways xs) ≡ length xs
no-count [] = refl
no-count (x ∷ xs) = ap suc (no-count xs)

pub by-count : (names : Names) (p : Option RawTree) (xs : List RawName) → length (ways_by names p xs) ≡ length xs
by-count names None xs = no-count xs
by-count names (Some p) xs = conjunct-count names xs p 0 xs

pub variable-count : (names : Names) (p : Option RawTree) (group : List RawName) (i : ℕ) (ds : List Declared) → length (variable_ways names p group i ds) ≡ length ds
variable-count names p group i [] = refl
variable-count names p group i (d ∷ ds) = ap suc (variable-count names p group (next_place i d.higher) ds)

abbrev headed_inputs : List Headed → ℕ
headed_inputs [] = 0
headed_inputs (h ∷ hs) = length h.operation.inputs + headed_inputs hs

input-count : (p : Plan) (n b : ℕ) (hs : List Headed) → length (all_input_ways p (placed n b hs)) ≡ headed_inputs hs
input-count p n b [] = refl
input-count p n b (h ∷ hs) =
    let o : Placed = record { headed = h; outputs_at = n; binders_at = b } in
    let rest = placed (n + length h.operation.outputs) (b + binder_count h.operation.body) hs in
    join-count (ways_by (input_scope p o) (outermost h.operation.body) h.operation.inputs) (all_input_ways p rest) (length h.operation.inputs) (headed_inputs hs) (by-count (input_scope p o) (outermost h.operation.body) h.operation.inputs) (input-count p (n + length h.operation.outputs) (b + binder_count h.operation.body) hs)

machine-inputs : (n : ℕ) (os : List RawOperation) → headed_inputs (machine_headed n os) ≡ input_count os
machine-inputs n [] = refl
machine-inputs n (o ∷ os) = ap (λ k. length o.inputs + k) (machine-inputs (n + length o.inputs) os)

where-inputs : (c : Bool) (p : Plan) (n b i : ℕ) (os : List RawOperation) (lower : List Headed) → length (cond c (all_input_ways p (placed n b (cond c (machine_headed i os) lower))) []) ≡ cond c (input_count os) 0
where-inputs true p n b i os lower = input-count p n b (machine_headed i os) ∙ machine-inputs i os
where-inputs false p n b i os lower = refl

pub lower-count : (names : Names) (xs : List RawName) → length (lower_output_ways names xs) ≡ length xs
lower-count names [] = refl
lower-count names (x ∷ xs) = ap suc (lower-count names xs)

either-count : (c : Bool) (a b : List Way) (n : ℕ) → length a ≡ n → length b ≡ n → length (cond c a b) ≡ n
either-count true a b n h k = h
either-count false a b n h k = k

pub output-count : (kind : Kind) (p : Plan) (n b : ℕ) (hs : List Headed) → length (all_output_ways kind p (placed n b hs)) ≡ output_count hs
output-count kind p n b [] = refl
output-count kind p n b (h ∷ hs) =
    let o : Placed = record { headed = h; outputs_at = n; binders_at = b } in
    let xs = h.operation.outputs in
    join-count (output_ways kind p o) (all_output_ways kind p (placed (n + length xs) (b + binder_count h.operation.body) hs)) (length xs) (output_count hs)
    (either-count (is_machine kind) (assigned_ways (body_scope p o) b h.operation.body n xs) (lower_output_ways h.machine_outputs xs) (length xs) (assigned-count (body_scope p o) b h.operation.body n xs) (lower-count h.machine_outputs xs))
    (output-count kind p (n + length xs) (b + binder_count h.operation.body) hs)

binder-ways-count : (p : Plan) (n b : ℕ) (hs : List Headed) → length (all_binder_ways p (placed n b hs)) ≡ body_count hs
binder-ways-count p n b [] = refl
binder-ways-count p n b (h ∷ hs) =
    let o : Placed = record { headed = h; outputs_at = n; binders_at = b } in
    join-count (ways (body_scope p o) b h.operation.body) (all_binder_ways p (placed (n + length h.operation.outputs) (b + binder_count h.operation.body) hs)) (binder_count h.operation.body) (body_count hs) (ways-count h.operation.body (body_scope p o) b) (binder-ways-count p (n + length h.operation.outputs) (b + binder_count h.operation.body) hs)

-- the number behind all others
abbrev pub far_of : Development → Component → ℕ
far_of higher comp = (plan higher comp).outputs_at + (binder_count (initialisation comp) + (sizes higher.heads comp.operations + other_sizes higher.heads comp.operations))

pub all-count : (higher : Development) (comp : Component) → length (all_ways (plan higher comp) comp) ≡ length (new_texts (plan higher comp) comp)
all-count higher comp =
    let p = plan higher comp in
    let b = p.binders_at + binder_count (initialisation comp) in
    let os = placed p.outputs_at b p.headed in
    let c = cond (is_machine comp.kind) (input_count comp.operations) 0 in
    let w5 = all_binder_ways p os in
    let w4 = ways (scope p) p.binders_at (initialisation comp) in
    let w3 = all_output_ways comp.kind p os in
    let w2 = cond (is_machine comp.kind) (all_input_ways p os) [] in
    let w1 = variable_ways (p.upper ++ p.globals) comp.invariant (fresh p.upper comp.variables) 0 p.variables in
    let w0 = ways_by p.globals comp.properties comp.constants in
    let n4 = binder_count (initialisation comp) + body_count p.headed in
    let e4 = join-count w4 w5 (binder_count (initialisation comp)) (body_count p.headed) (ways-count (initialisation comp) (scope p) p.binders_at) (binder-ways-count p p.outputs_at b p.headed) in
    let e3 = join-count w3 (w4 ++ w5) (output_count p.headed) n4 (output-count comp.kind p p.outputs_at b p.headed) e4 in
    let e2 = join-count w2 (w3 ++ (w4 ++ w5)) c (output_count p.headed + n4) (where-inputs (is_machine comp.kind) p p.outputs_at b p.inputs_at comp.operations (lower_headed (far_of higher comp) higher 0 higher.heads comp.operations ++ other_headed (far_of higher comp) higher.heads comp.operations)) e3 in
    let e1 = join-count w1 (w2 ++ (w3 ++ (w4 ++ w5))) (length p.variables) (c + (output_count p.headed + n4)) (variable-count (p.upper ++ p.globals) comp.invariant (fresh p.upper comp.variables) 0 p.variables) e2 in
    join-count w0 (w1 ++ (w2 ++ (w3 ++ (w4 ++ w5)))) (length comp.constants) (length p.variables + (c + (output_count p.headed + n4))) (by-count p.globals comp.properties comp.constants) e1 ∙ sym (new-count p comp)
