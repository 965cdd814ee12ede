-- The ways of all names of a plan do not depend on its headers.
use Rattle.std.proofs.Common.{◌≡◌, refl, ap, ◌∙◌, List, [], ◌∷◌, ◌++◌, map, cond, append_assoc}
use Rattle.bk_dev.specs.declared.kind.Kind.{Kind}
use Rattle.bk_dev.specs.Development.{Development}
use Rattle.bk_statics.specs.Components.{Component, is_machine, initialisation, outermost}
use Rattle.bk_statics.specs.Plan.{Plan, Placed, plan, fresh, scope, body_scope, input_scope}
use Rattle.bk_statics.specs.Ways.{Way, ways_by, ways}
use Rattle.bk_statics.specs.LevelOf.{variable_ways, all_input_ways, output_ways, all_output_ways, all_binder_ways, all_ways}
use Rattle.bk_scope.specs.declared.plan.Plan.{Plan as Made}
use Rattle.bk_scope.specs.Shown.{plan_shown, placed_shown, IsPlanOf}

-- without headers
abbrev bare : Plan → Plan
bare p = record p { heads = [] }

inputs-bare : (p : Plan) (os : List Placed) → all_input_ways (bare p) os ≡ all_input_ways p os
inputs-bare p [] = refl
inputs-bare p (o ∷ os) = ap (λ (ws : List Way). ways_by (input_scope p o) (outermost o.headed.operation.body) o.headed.operation.inputs ++ ws) (inputs-bare p os)

outputs-bare : (kind : Kind) (p : Plan) (os : List Placed) → all_output_ways kind (bare p) os ≡ all_output_ways kind p os
outputs-bare kind p [] = refl
outputs-bare kind p (o ∷ os) = ap (λ (ws : List Way). output_ways kind p o ++ ws) (outputs-bare kind p os)

binders-bare : (p : Plan) (os : List Placed) → all_binder_ways (bare p) os ≡ all_binder_ways p os
binders-bare p [] = refl
binders-bare p (o ∷ os) = ap (λ (ws : List Way). ways (body_scope p o) o.binders_at o.headed.operation.body ++ ws) (binders-bare p os)

-- the ways of a plan and its operations
abbrev pub ways_with : Plan → Component → List Placed → List Way
ways_with p c os =
    ways_by p.globals c.properties c.constants
    ++ (variable_ways (p.upper ++ p.globals) c.invariant (fresh p.upper c.variables) 0 p.variables
    ++ (cond (is_machine c.kind) (all_input_ways p os) []
    ++ (all_output_ways c.kind p os
    ++ (ways (scope p) p.binders_at (initialisation c)
    ++ all_binder_ways p os))))

-- the same with the last three given
abbrev ways_from : Plan → Component → List Way → List Way → List Way → List Way
ways_from p c inputs outputs binders =
    ways_by p.globals c.properties c.constants
    ++ (variable_ways (p.upper ++ p.globals) c.invariant (fresh p.upper c.variables) 0 p.variables
    ++ (cond (is_machine c.kind) inputs [] ++ (outputs ++ (ways (scope p) p.binders_at (initialisation c) ++ binders))))

with-bare : (p : Plan) (c : Component) (os : List Placed) → ways_with (bare p) c os ≡ ways_with p c os
with-bare p c os =
    ap (λ (ws : List Way). ways_from p c ws (all_output_ways c.kind (bare p) os) (all_binder_ways (bare p) os)) (inputs-bare p os)
    ∙ ap (λ (ws : List Way). ways_from p c (all_input_ways p os) ws (all_binder_ways (bare p) os)) (outputs-bare c.kind p os)
    ∙ ap (λ (ws : List Way). ways_from p c (all_input_ways p os) (all_output_ways c.kind p os) ws) (binders-bare p os)

-- so what is made of a plan that the component has is what the component has
pub all-ways : (made : Made) (dev : Development) (c : Component) → IsPlanOf made dev c → ways_with (plan_shown made) c (map placed_shown made.operations.items) ≡ all_ways (plan dev c) c
all-ways made dev c h =
    ap (λ (p : Plan). ways_with p c (map placed_shown made.operations.items)) h.shown
    ∙ with-bare (plan dev c) c (map placed_shown made.operations.items)
    ∙ ap (λ (os : List Placed). ways_with (plan dev c) c os) h.operations

-- what goes behind one another
pub six-behind : (f a b c d e g f1 f2 f3 f4 f5 f6 : List Way) → f1 ≡ f ++ a → f2 ≡ f1 ++ b → f3 ≡ f2 ++ c → f4 ≡ f3 ++ d → f5 ≡ f4 ++ e → f6 ≡ f5 ++ g → f6 ≡ f ++ (a ++ (b ++ (c ++ (d ++ (e ++ g)))))
six-behind f a b c d e g f1 f2 f3 f4 f5 f6 h1 h2 h3 h4 h5 h6 =
    h6 ∙ ap (λ (x : List Way). x ++ g) (h5 ∙ ap (λ (x : List Way). x ++ e) (h4 ∙ ap (λ (x : List Way). x ++ d) (h3 ∙ ap (λ (x : List Way). x ++ c) (h2 ∙ ap (λ (x : List Way). x ++ b) h1))))
    ∙ simp append_assoc refl
