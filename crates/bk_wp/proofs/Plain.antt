-- Substitutions without binders.
use Rattle.bk_form.specs.Table.{Table}
use Rattle.bk_form.specs.Formula.{Formula, unary}
use Rattle.bk_form.specs.declared.operator.UnOp.TheVariants.{Not}
use Rattle.bk_form.specs.Search.{Finder}
use Rattle.bk_form.specs.Environment.{State}
use Rattle.bk_gsl.specs.Substitution.{Substitution, skip, assign, pre, guard, choice, if_else, any, seq, par, assert, becomes_such, loop}
use Rattle.bk_wp.specs.Box.{box, diamond}
use Rattle.bk_wp.specs.Shapes.{HasNoBinder, HasNoLoop}
use Rattle.bk_wp.specs.Laws.{BoxWithoutBinders, DiamondWithoutBinders, ConjugateWithoutBinders}
use Rattle.bk_wp.proofs.Exact.{FineBox, FineDiamond, box-then, box-if, diamond-exact, conjugate}

pub no-loop : (s : Substitution) → HasNoBinder s → HasNoLoop s
no-loop skip h = tt
no-loop (assign ps) h = tt
no-loop (pre p s) h = no-loop s h
no-loop (guard p s) h = no-loop s h
no-loop (choice s t) h = (no-loop s h.0, no-loop t h.1)
no-loop (if_else p s t) h = (no-loop s h.0, no-loop t h.1)
no-loop (any zs s) h = absurd h
no-loop (seq s t) h = (no-loop s h.0, no-loop t h.1)
no-loop (par s t) h = h
no-loop (assert p s) h = no-loop s h
no-loop (becomes_such xs p) h = tt
no-loop (loop p s i v) h = h

abbrev Any : State → Type 0
Any e = Unit {0}

module _ (find : Finder) (table : Table) where
  fine-box : (s : Substitution) (r : Formula) → HasNoBinder s → FineBox find table Any s r
  fine-box skip r h = tt
  fine-box (assign ps) r h = tt
  fine-box (pre p s) r h = fine-box s r h
  fine-box (guard p s) r h = fine-box s r h
  fine-box (choice s t) r h = (fine-box s r h.0, fine-box t r h.1)
  fine-box (if_else p s t) r h = (fine-box s r h.0, fine-box t r h.1)
  fine-box (any zs s) r h = absurd h
  fine-box (seq s t) r h = (fine-box t r h.1, fine-box s (box table t r) h.0)
  fine-box (par s t) r h = h
  fine-box (assert p s) r h = fine-box s r h
  fine-box (becomes_such xs p) r h = absurd h
  fine-box (loop p s i v) r h = absurd h

  fine-diamond : (s : Substitution) (r : Formula) → HasNoBinder s → FineDiamond find table s r
  fine-diamond skip r h = tt
  fine-diamond (assign ps) r h = tt
  fine-diamond (pre p s) r h = fine-diamond s r h
  fine-diamond (guard p s) r h = fine-diamond s r h
  fine-diamond (choice s t) r h = (fine-diamond s r h.0, fine-diamond t r h.1)
  fine-diamond (if_else p s t) r h = (fine-diamond s r h.0, fine-diamond t r h.1)
  fine-diamond (any zs s) r h = absurd h
  fine-diamond (seq s t) r h = (fine-diamond t r h.1, fine-diamond s (diamond table t r) h.0)
  fine-diamond (par s t) r h = h
  fine-diamond (assert p s) r h = fine-diamond s r h
  fine-diamond (becomes_such xs p) r h = absurd h
  fine-diamond (loop p s i v) r h = h

pub box-plain : BoxWithoutBinders
box-plain find table s n w r e = (
  (λ h. box-then find table Any (λ s w e f o q. tt) (λ e zs vs o q. tt) s r w (fine-box find table s r n) e tt h),
  (λ m. box-if find table Any s r (no-loop s n) w (fine-box find table s r n) e m),
)

pub diamond-plain : DiamondWithoutBinders
diamond-plain find table s n w r e = diamond-exact find table s r w (fine-diamond find table s r n) e

pub conjugate-plain : ConjugateWithoutBinders
conjugate-plain find table s n w r e = conjugate find table s r w (fine-diamond find table s r n) e (box-plain find table s n w (unary Not r) e)
