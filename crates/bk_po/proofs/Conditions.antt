-- Where boxes and conditions of all levels are true, what is met is defined or fits the machine.
use Rattle.std.proofs.Common.{◌≡◌, ◌<◌, ℕ, zero, suc, [], length, refl, Bool, true, false, cond, arith, Option}
use Rattle.bk_form.specs.ArrayTable.{ArrayTable}
use Rattle.bk_form.specs.Formula.{Formula, btrue}
use Rattle.bk_form.specs.Replacement.{occurs}
use Rattle.bk_form.specs.Search.{Finder, IsSearch}
use Rattle.bk_form.specs.Environment.{State, at_state, IsTypedState}
use Rattle.bk_form.specs.Defined.{Defined}
use Rattle.bk_form.specs.Predicates.{IsPredicate, AllHold}
use Rattle.bk_form.proofs.Closed.{predicate-closed}
use Rattle.bk_gsl.specs.Substitution.{pre}
use Rattle.bk_gsl.specs.State.{holds}
use Rattle.bk_gsl.specs.Clean.{Clean}
use Rattle.bk_dev.specs.Development.{Body, Development, level_at, body_at, is_btrue, whole}
use Rattle.bk_dev.specs.Facts.{IsLawful, IsFlatDevelopment, OnlyLastIsImplementation}
use Rattle.bk_dev.specs.Hypotheses.{init_hypotheses, unasserted_hypotheses}
use Rattle.bk_dev.specs.Claims.{arrays_at}
use Rattle.bk_wd.specs.Joining.{where_true}
use Rattle.bk_wd.specs.WellDefined.{defined}
use Rattle.bk_wp.specs.Box.{diamond}
use Rattle.bk_wp.specs.Guarded.{guarded}
use Rattle.bk_wp.proofs.Cleaning.{guarded_is_clean, split, given, predicate-at}
use Rattle.bk_wp.proofs.Predicates.{diamond-predicate}
use Rattle.bk_po.specs.Obligations.{joining_goal}
use Rattle.bk_po.specs.Levels.{BoxesHold, ConditionsHold, AllClean}
use Rattle.bk_po.specs.Laws.{ConditionsAreClean}
use Rattle.bk_po.proofs.Predicates.{beside-alike}
use Rattle.bk_po.proofs.Chain.{lower-apart, upper-no-loop, level, body, head, inputs-at, goal-predicate, goal-names, machine-apart, whole-types, whole-flat, whole-apart}

-- a precondition that is btrue is always defined and true; else the whole body is asked that it is defined, and the rest where it is true
module _ (find : Finder) (law : IsSearch find) (dev : Development) (f : IsLawful dev) (arrays : Option ArrayTable) (b : Body) (w : IsPredicate dev.table b.condition) (e : State) (o : IsTypedState dev.table e) where
  whole-defined : holds find dev.table e (guarded dev.table arrays (whole b)) ≡ true → Defined find (at_state dev.table e) b.condition
  whole-defined h = by_test (is_btrue b.condition) refl h
    where
      none : (p : Formula) → is_btrue p ≡ true → Defined find (at_state dev.table e) p
      none btrue q = tt
      none p q = absurd (cc)

      by_test : (x : Bool) → is_btrue b.condition ≡ x → holds find dev.table e (guarded dev.table arrays (cond x b.sub (pre b.condition b.sub))) ≡ true → Defined find (at_state dev.table e) b.condition
      by_test true q h = none b.condition q
      by_test false q h = predicate-at find law dev.table f.table e o b.condition w (split find law dev.table f.table e (defined dev.table [] b.condition) (where_true b.condition (guarded dev.table arrays b.sub)) h).0

  whole-asked : holds find dev.table e b.condition ≡ true → holds find dev.table e (guarded dev.table arrays (whole b)) ≡ true → holds find dev.table e (guarded dev.table arrays b.sub) ≡ true
  whole-asked c = elim (is_btrue b.condition) as (λ x. holds find dev.table e (guarded dev.table arrays (cond x b.sub (pre b.condition b.sub))) ≡ true → holds find dev.table e (guarded dev.table arrays b.sub) ≡ true) [
    | true ↦ λ h. h
    | false ↦ λ h. given find law dev.table f.table e b.condition (guarded dev.table arrays b.sub) (split find law dev.table f.table e (defined dev.table [] b.condition) (where_true b.condition (guarded dev.table arrays b.sub)) h).1 c
  ]

module _ (find : Finder) (law : IsSearch find) (dev : Development) (f : IsLawful dev) (only : OnlyLastIsImplementation dev) (flat : IsFlatDevelopment dev) (boxes : BoxesHold find dev) (asked : ConditionsHold find dev) where
  machine-init-clean : (e : State) → IsTypedState dev.table e → AllHold find (at_state dev.table e) (init_hypotheses dev 0) → Clean find dev.table (arrays_at dev 0) (level_at dev 0).init e
  machine-init-clean e t h =
      let l = level find law dev f only flat boxes 0 f.some_level in
      guarded_is_clean find law dev.table f.table (arrays_at dev 0) (level_at dev 0).init (flat.init 0 f.some_level) l.init.types (level_at dev 0).invariant (predicate-closed dev.table (level_at dev 0).invariant l.invariant.is_predicate)
      (machine-apart find law dev f only flat boxes [] [] (level_at dev 0).init l.init) e t (boxes.inits 0 f.some_level e t h) (asked.inits 0 f.some_level e t h)

  lower-init-clean : (j : ℕ) → suc j < length dev.levels → (e : State) → IsTypedState dev.table e → AllHold find (at_state dev.table e) (init_hypotheses dev (suc j)) → Clean find dev.table (arrays_at dev (suc j)) (level_at dev (suc j)).init e
  lower-init-clean j h e t hyps =
      let upper : j < length dev.levels = omega (arith, h) in
      let s = (level_at dev (suc j)).init in
      let u = (level_at dev j).init in
      let r = joining_goal dev (suc j) [] [] in
      let low = (level find law dev f only flat boxes (suc j) h).init in
      let high = (level find law dev f only flat boxes j upper).init in
      let names = goal-names find law dev f only flat boxes j h [] [] in
      let none = upper-no-loop find law dev f only j h [] [] [] tt tt tt s u low high (flat.init j upper) in
      let d = diamond-predicate dev.table f.table u r high.types none (goal-predicate find law dev f only flat boxes j h [] [] tt) in
      guarded_is_clean find law dev.table f.table (arrays_at dev (suc j)) s (flat.init (suc j) h) low.types (diamond dev.table u r) (predicate-closed dev.table (diamond dev.table u r) d)
      (lower-apart find law dev f only j h [] [] [] tt tt tt s u low high r names) e t (boxes.inits (suc j) h e t hyps) (asked.inits (suc j) h e t hyps)

  lower-clean : (j : ℕ) → suc j < length dev.levels → (o : ℕ) → o < length dev.heads → (e : State) → IsTypedState dev.table e → AllHold find (at_state dev.table e) (unasserted_hypotheses dev (suc j) o) → Clean find dev.table (arrays_at dev (suc j)) (whole (body_at dev (suc j) o)) e
  lower-clean j h o m e t hyps =
      let upper : j < length dev.levels = omega (arith, h) in
      let b = body find law dev f only flat boxes (suc j) h o m in
      let v = body find law dev f only flat boxes j upper o m in
      let low = body_at dev (suc j) o in
      let high = body_at dev j o in
      let r = joining_goal dev (suc j) low.outputs high.outputs in
      let inputs = (head find law dev f only flat boxes o).inputs in
      let ins = inputs-at find law dev f only flat boxes o in
      let none = upper-no-loop find law dev f only j h inputs low.outputs high.outputs ins b.outputs v.outputs low.sub high.sub b.sub v.sub (flat.bodies j upper o m) in
      let p = goal-predicate find law dev f only flat boxes j h low.outputs high.outputs (beside-alike dev.table low.outputs high.outputs (body_at dev 0 o).outputs b.output_types v.output_types) in
      let d = diamond-predicate dev.table f.table high.sub r v.sub.types none p in
      guarded_is_clean find law dev.table f.table (arrays_at dev (suc j)) (whole low) (whole-flat find dev.table low (flat.bodies (suc j) h o m)) (whole-types find dev.table low b.condition b.sub.types) (diamond dev.table high.sub r) (predicate-closed dev.table (diamond dev.table high.sub r) d)
      (whole-apart find dev.table low (λ n. occurs n (diamond dev.table high.sub r)) (lower-apart find law dev f only j h inputs low.outputs high.outputs ins b.outputs v.outputs low.sub high.sub b.sub v.sub r (goal-names find law dev f only flat boxes j h low.outputs high.outputs)))
      e t (boxes.operations j h o m e t hyps) (asked.operations j h o m e t hyps)

  pub all-clean : AllClean find dev
  all-clean = record {
    inits = by_level;
    conditions = λ o l e s. whole-defined find law dev f (arrays_at dev 0) (body_at dev 0 o) (body find law dev f only flat boxes 0 f.some_level o l).condition e s.typed (asked.machine o l e s);
    machine = λ o l e s c.
        let b = body find law dev f only flat boxes 0 f.some_level o l in
        guarded_is_clean find law dev.table f.table (arrays_at dev 0) (body_at dev 0 o).sub (flat.bodies 0 f.some_level o l) b.sub.types (level_at dev 0).invariant
        (predicate-closed dev.table (level_at dev 0).invariant (level find law dev f only flat boxes 0 f.some_level).invariant.is_predicate)
        (machine-apart find law dev f only flat boxes (head find law dev f only flat boxes o).inputs (body_at dev 0 o).outputs (body_at dev 0 o).sub b.sub) e s.typed (boxes.machine o l e s c)
        (whole-asked find law dev f (arrays_at dev 0) (body_at dev 0 o) b.condition e s.typed c (asked.machine o l e s));
    operations = lower-clean;
  }
    where
      by_level : (k : ℕ) → k < length dev.levels → (e : State) → IsTypedState dev.table e → AllHold find (at_state dev.table e) (init_hypotheses dev k) → Clean find dev.table (arrays_at dev k) (level_at dev k).init e
      by_level zero h = machine-init-clean
      by_level (suc j) h = lower-init-clean j h

pub conditions_are_clean : ConditionsAreClean
conditions_are_clean find law dev c boxes asked = all-clean find law dev c.lawful c.only_last c.flat boxes asked
