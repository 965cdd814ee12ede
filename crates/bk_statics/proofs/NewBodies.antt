-- Without faults an operation of a component has the machine's header.
use Rattle.std.proofs.Common.{◌≡◌, ℕ, zero, suc, ◌+◌, ◌<◌, ◌≤◌, List, [], ◌∷◌, ◌++◌, length, refl, sym, ◌∙◌, ap, subst, Bool, true, false, arith}
use Rattle.std.specs.Prelude.{ℤ}
use Rattle.bk_dev.specs.Development.{Head, Body, Level, Development, level_at, blank_level}
use Rattle.bk_dev.specs.Facts.{AllAre, LoopsStandIn, is_inner_of, home_of, names_own, names_joined, writes_own}
use Rattle.bk_statics.specs.Components.{Component, outermost, inner_body, initialisation}
use Rattle.bk_statics.specs.Typings.{interval}
use Rattle.bk_statics.specs.Binders.{binder_count}
use Rattle.bk_statics.specs.Elaborated.{elaborated}
use Rattle.bk_statics.specs.Plan.{plan, operations_of, body_scope, output_count}
use Rattle.bk_statics.specs.LevelOf.{types_at, level_made, made}
use Rattle.bk_statics.specs.ClauseFaults.{clause_faults}
use Rattle.bk_statics.specs.NameFaults.{name_faults}
use Rattle.bk_statics.specs.OperationFaults.{operation_faults}
use Rattle.bk_statics.specs.StaticFaults.{outputs_of, init_faults, all_body_faults}
use Rattle.bk_statics.specs.ValueFaults.{value_faults_of}
use Rattle.bk_statics.specs.LevelLaws.{body_count, NewBodiesAreBodies}
use Rattle.bk_raw.proofs.RulesFit.{none-left, none-right}
use Rattle.bk_statics.proofs.Intervals.{binds-interval, interval-distinct}
use Rattle.bk_statics.proofs.Apart.{inner-count}
use Rattle.bk_statics.proofs.Shapes.{sub-shaped}
use Rattle.bk_statics.proofs.Bodies.{bodies-right}
use Rattle.bk_statics.proofs.InnerHomes.{all-inner}
use Rattle.bk_statics.proofs.Parts.{body-parts, inner-shape}
use Rattle.bk_statics.proofs.NewLevel.{index-last}

pub interval-length : (n k : ℕ) → length (interval n k) ≡ k
interval-length n zero = refl
interval-length n (suc k) = ap suc (interval-length (suc n) k)

pub new-bodies : NewBodiesAreBodies
new-bodies int_max higher comp ready none head machine o h =
    let p = plan higher comp in
    let new = made int_max higher comp p in
    let typing = types_at int_max higher comp p in
    let l = level_made int_max typing p comp in
    let s = o.headed.operation.body in
    let outs = outputs_of o in
    let count = length o.headed.operation.outputs in
    let clauses = clause_faults int_max typing p comp in
    let rest = operation_faults higher comp p ++ (init_faults int_max higher comp typing p ++ (all_body_faults int_max higher comp typing p (operations_of p comp) ++ value_faults_of int_max higher typing p comp)) in
    let said = none-left clauses rest (none-right (name_faults higher comp) (clauses ++ rest) none) in
    let right = bodies-right int_max higher comp ready said head.inputs o h.placed h.no_faults in
    let parts = body-parts int_max new.table typing p.upper (body_scope p o) o.binders_at (names_own new p.level head.inputs outs) (names_joined new p.level) (writes_own new p.level outs) s (right.types, right.stays) in
    let shaped = sub-shaped comp.kind int_max typing p.upper (inner_body s) false (body_scope p o) o.binders_at (inner-shape comp.kind false s h.no_shapes) in
    let at : (level_at new p.level).kind ≡ comp.kind = ap (λ (m : Level). m.kind) (index-last higher.levels l blank_level) in
    let w0 = h.within.outputs in
    let w1 = h.within.all_outputs in
    let w2 = h.within.binders in
    let w3 = h.within.all_binders in
    let fewer = inner-count s in
    record {
      condition = parts.condition;
      condition_names = parts.names;
      sub = record {
        types = parts.types;
        stays = parts.stays;
        loops = subst (λ k. LoopsStandIn k (elaborated int_max typing p.upper (body_scope p o) o.binders_at (inner_body s))) (sym at) shaped.loops;
        binds_inner = subst (AllAre (λ n. is_inner_of p.level (home_of new n))) (sym (binds-interval (inner_body s) int_max typing p.upper (body_scope p o) o.binders_at)) (all-inner int_max higher comp ready.homes o.binders_at (binder_count (inner_body s)) (omega arith) (omega arith));
      };
      outputs = all-inner int_max higher comp ready.homes o.outputs_at count (omega arith) (omega arith);
      distinct_outputs = interval-distinct o.outputs_at count;
      as_many_outputs = interval-length o.outputs_at count ∙ h.counted;
      output_types = h.alike;
    }
