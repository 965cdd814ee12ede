-- What a development whose substitutions are flat has at each level: bodies for all operations, no || anywhere, and no loop above the last level.
use Rattle.std.proofs.Common.{◌≡◌, ◌<◌, ◌-◌, ℕ, zero, suc, List, [], ◌∷◌, length, sym, ap, subst, true, false, cond, arith}
use Rattle.std.specs.Prelude.{slice_index_or}
use Rattle.bk_gsl.specs.Substitution.{Substitution, skip, assign, pre, guard, choice, if_else, any, seq, par, assert, becomes_such, loop}
use Rattle.bk_gsl.specs.Flat.{IsFlat}
use Rattle.bk_dev.specs.declared.kind.Kind.{Kind}
use Rattle.bk_dev.specs.declared.kind.Kind.TheVariants.{Machine, Refinement, Implementation}
use Rattle.bk_dev.specs.Development.{Head, Body, Development, level_at, body_at, is_implementing, is_btrue, whole}
use Rattle.bk_dev.specs.Facts.{EachBody, MayLoop, LoopsStandIn, IsBodyOf}
use Rattle.bk_form.specs.Each.{Each}
use Rattle.bk_wp.specs.Shapes.{HasNoLoop}
use Rattle.bk_dev.proofs.Levels.{level_fact, body-at}
use Rattle.bk_po.specs.FlatFacts.{IsFlattened}

pub each-or : {A : Type 0} (P : A → Type 0) (xs : List A) (k : ℕ) (d : A) → P d → Each P xs → P (slice_index_or xs k d)
each-or {A} P [] k d b e = b
each-or {A} P (x ∷ xs) zero d b e = e.0
each-or {A} P (x ∷ xs) (suc k) d b e = each-or P xs k d b e.1

-- ---- bodies
as-many : (dev : Development) (k : ℕ) (hs : List Head) (ms bs : List Body) → EachBody dev k hs ms bs → length bs ≡ length hs
as-many dev k [] [] [] h = λ i. 0
as-many dev k (x ∷ hs) (m ∷ ms) (b ∷ bs) h = ap suc (as-many dev k hs ms bs h.1)
as-many dev k _ _ _ h = absurd h

-- each operation has a body at each level
pub body_stands : (dev : Development) → IsFlattened dev → (k o : ℕ) → k < length dev.levels → o < length dev.heads → o < length (level_at dev k).bodies
body_stands dev f k o h l = omega (arith, l, as-many dev k dev.heads (level_at dev 0).bodies (level_at dev k).bodies (level_fact dev f.lawful k h).bodies)

abbrev no_head : Head
no_head = record { name = []; inputs = []; outputs = 0 }

body-fact : (dev : Development) → IsFlattened dev → (k : ℕ) → k < length dev.levels → (o : ℕ) → o < length dev.heads → IsBodyOf dev k (slice_index_or dev.heads o no_head) (body_at dev 0 o) (body_at dev k o)
body-fact dev f k h o l = body-at dev k dev.heads (level_at dev 0).bodies (level_at dev k).bodies no_head o l (level_fact dev f.lawful k h).bodies

-- ---- no ||
pub init_is_flat : (dev : Development) → IsFlattened dev → (k : ℕ) → k < length dev.levels → IsFlat (level_at dev k).init
init_is_flat dev f k h = f.flat.init k h

pub body_is_flat : (dev : Development) → IsFlattened dev → (k : ℕ) → k < length dev.levels → (o : ℕ) → o < length dev.heads → IsFlat (body_at dev k o).sub
body_is_flat dev f k h o l = f.flat.bodies k h o l

pub whole_is_flat : (b : Body) → IsFlat b.sub → IsFlat (whole b)
whole_is_flat b h = elim (is_btrue b.condition) as (λ x. IsFlat (cond x b.sub (pre b.condition b.sub))) [ true ↦ h | false ↦ h ]

-- ---- no loop above the last level
may-not-loop : (kind : Kind) → is_implementing kind ≡ false → MayLoop kind → ⊥
may-not-loop Machine m l = l
may-not-loop Refinement m l = l
may-not-loop Implementation m l = absurd (cc)

pub no-loop : (kind : Kind) → is_implementing kind ≡ false → (s : Substitution) → LoopsStandIn kind s → IsFlat s → HasNoLoop s
no-loop kind m skip l f = tt
no-loop kind m (assign ps) l f = tt
no-loop kind m (pre p s) l f = no-loop kind m s l f
no-loop kind m (guard p s) l f = no-loop kind m s l f
no-loop kind m (choice s t) l f = (no-loop kind m s l.0 f.0, no-loop kind m t l.1 f.1)
no-loop kind m (if_else p s t) l f = (no-loop kind m s l.0 f.0, no-loop kind m t l.1 f.1)
no-loop kind m (any zs s) l f = no-loop kind m s l f
no-loop kind m (seq s t) l f = (no-loop kind m s l.0 f.0, no-loop kind m t l.1 f.1)
no-loop kind m (par s t) l f = absurd f
no-loop kind m (assert p s) l f = no-loop kind m s l f
no-loop kind m (becomes_such xs p) l f = tt
no-loop kind m (loop p s i v) l f = absurd (may-not-loop kind m l.0)

pub upper_init : (dev : Development) → IsFlattened dev → (j : ℕ) → suc j < length dev.levels → HasNoLoop (level_at dev j).init
upper_init dev f j h =
    let upper : j < length dev.levels = omega (arith, h) in
    no-loop (level_at dev j).kind (f.only_last j h) (level_at dev j).init (level_fact dev f.lawful j upper).init.loops (f.flat.init j upper)

pub upper_body : (dev : Development) → IsFlattened dev → (j : ℕ) → suc j < length dev.levels → (o : ℕ) → o < length dev.heads → HasNoLoop (body_at dev j o).sub
upper_body dev f j h o l =
    let upper : j < length dev.levels = omega (arith, h) in
    no-loop (level_at dev j).kind (f.only_last j h) (body_at dev j o).sub (body-fact dev f j upper o l).sub.loops (f.flat.bodies j upper o l)

-- the same by the number of the level below
pub above_init : (dev : Development) → IsFlattened dev → (k : ℕ) → k < length dev.levels → 0 < k → HasNoLoop (level_at dev (k - 1)).init
above_init dev f zero h p = absurd (omega (arith, p))
above_init dev f (suc j) h p = let same : suc j - 1 ≡ j = omega arith in subst (λ m. HasNoLoop (level_at dev m).init) (sym same) (upper_init dev f j h)

pub above_body : (dev : Development) → IsFlattened dev → (k : ℕ) → k < length dev.levels → 0 < k → (o : ℕ) → o < length dev.heads → HasNoLoop (body_at dev (k - 1) o).sub
above_body dev f zero h p o l = absurd (omega (arith, p))
above_body dev f (suc j) h p o l = let same : suc j - 1 ≡ j = omega arith in subst (λ m. HasNoLoop (body_at dev m o).sub) (sym same) (upper_body dev f j h o l)

pub ruleset flat_parts = (init_is_flat, body_is_flat, whole_is_flat, above_init, above_body)
