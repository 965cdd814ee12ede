-- The copies that flattening makes are fewer than the nodes of the obligations.
use Rattle.std.proofs.Common.{◌≡◌, ◌≤◌, ◌<◌, ℕ, zero, suc, ◌+◌, List, [], ◌∷◌, ◌++◌, map, length, length-append, refl, sym, ◌∙◌, ap, subst, Bool, true, false, cond, All, arith}
use Rattle.std.specs.Prelude.{slice_get, slice_index_or}
use Rattle.std.specs.List.{flat_map, filter_map}
use Rattle.bk_limits.specs.declared.TheConstants.{MOST_NODES_TOGETHER}
use Rattle.bk_form.specs.Table.{Table}
use Rattle.bk_form.specs.Formula.{Formula, binary, unary, formula_size}
use Rattle.bk_form.specs.Predicates.{equation}
use Rattle.bk_form.specs.Replacement.{looked_up}
use Rattle.bk_form.specs.declared.operator.UnOp.TheVariants.{Not}
use Rattle.bk_form.specs.declared.operator.BinOp.TheVariants.{And, Imp}
use Rattle.bk_bind.proofs.ClosedOver.{size_closed_each}
use Rattle.bk_bind.proofs.Renamed.{size_renamed}
use Rattle.bk_gsl.specs.Substitution.{Substitution, skip, assign, pre, guard, choice, if_else, any, seq, par, assert, becomes_such, loop}
use Rattle.bk_gsl.specs.State.{firsts}
use Rattle.bk_gsl.specs.Writes.{writes}
use Rattle.bk_gsl.specs.Flat.{reading, copies_from, copy_of, equations_onto, by_copies, copied, flat_from, IsFlat}
use Rattle.bk_wp.specs.Quantifiers.{all_of, all_written}
use Rattle.bk_wp.specs.Box.{box}
use Rattle.bk_wp.proofs.Growth.{by_replacing}
use Rattle.bk_dev.specs.Development.{Body, Level, Development, blank_body, blank_level, level_at, body_at, is_btrue, is_implementation, whole}
use Rattle.bk_dev.specs.Flattened.{copied_in_bodies, copied_in_level, copied_in_levels, flattened}
use Rattle.bk_dev.proofs.Flattening.{flat-flat}
use Rattle.bk_dev.proofs.FlatSame.{levels-many, level-is, body-is}
use Rattle.bk_elab.proofs.Rooms.{fewer}
use Rattle.bk_po.specs.declared.clause.Clause.{Clause}
use Rattle.bk_po.specs.declared.clause.Clause.TheVariants.{PropertiesDefined, ValuesMeet, InvariantDefined, AssertionsDefined, AssertionsHold, Initialisation, InitialisationDefined, Operation, OperationDefined}
use Rattle.bk_po.specs.Obligations.{Obligation, numbers_below, clauses_of, init_goal, operation_goal, obligation_of, level_obligations, obligations}
use Rattle.bk_po.specs.Limits.{nodes_of, all_nodes, PassNoLimit}

-- ---- what the equations of copies weigh
-- the nodes of the conditions under which it is, those of the equations of copies among them
abbrev weight : Substitution → ℕ
weight skip = 0
weight (assign ps) = 0
weight (pre p s) = formula_size p + weight s
weight (guard p s) = formula_size p + weight s
weight (choice s t) = weight s + weight t
weight (if_else p s t) = weight s + weight t
weight (any zs s) = weight s
weight (seq s t) = weight s + weight t
weight (par s t) = 0
weight (assert p s) = weight s
weight (becomes_such xs p) = 0
weight (loop p s i v) = weight s

-- reading copies weighs the same
reading-weight : (by : ℕ → ℕ) (s : Substitution) → weight (reading by s) ≡ weight s
reading-weight by skip = refl
reading-weight by (assign ps) = refl
reading-weight by (pre p s) = λ i. size_renamed by p i + reading-weight by s i
reading-weight by (guard p s) = λ i. size_renamed by p i + reading-weight by s i
reading-weight by (choice s t) = λ i. reading-weight by s i + reading-weight by t i
reading-weight by (if_else p s t) = λ i. reading-weight by s i + reading-weight by t i
reading-weight by (any zs s) = reading-weight by s
reading-weight by (seq s t) = λ i. reading-weight by s i + reading-weight by t i
reading-weight by (par s t) = refl
reading-weight by (assert p s) = reading-weight by s
reading-weight by (becomes_such xs p) = refl
reading-weight by (loop p s i v) = reading-weight by s

-- each equation has a node
equations-weigh : (f : Formula) (ps : List (ℕ × ℕ)) → formula_size f + length ps ≤ formula_size (equations_onto f ps)
equations-weigh f [] = omega arith
equations-weigh f (p ∷ ps) = omega (arith, equations-weigh (binary And f (equation p)) ps)

copies-many : (k : ℕ) (xs : List ℕ) → length (copies_from k xs) ≡ length xs
copies-many k [] = refl
copies-many k (x ∷ xs) = ap suc (copies-many (suc k) xs)

-- the two sides and a node for each copy
sides-weigh : (k : ℕ) (xs : List ℕ) (s t : Substitution) → weight s + weight t + length xs ≤ weight (by_copies (copies_from k xs) s t)
sides-weigh k [] s t = omega arith
sides-weigh k (x ∷ xs) s t = omega (arith, equations-weigh (equation (k, x)) (copies_from (suc k) xs), copies-many (suc k) xs, reading-weight (copy_of ((k, x) ∷ copies_from (suc k) xs)) t)

-- the copies are no more than their equations weigh
copies-weigh : (k : ℕ) (s : Substitution) → length (copied s) ≤ weight (flat_from k s)
copies-weigh k skip = omega arith
copies-weigh k (assign ps) = omega arith
copies-weigh k (pre p s) = omega (arith, copies-weigh k s)
copies-weigh k (guard p s) = omega (arith, copies-weigh k s)
copies-weigh k (choice s t) = omega (arith, length-append (copied s) (copied t), copies-weigh k s, copies-weigh (k + length (copied s)) t)
copies-weigh k (if_else p s t) = omega (arith, length-append (copied s) (copied t), copies-weigh k s, copies-weigh (k + length (copied s)) t)
copies-weigh k (any zs s) = copies-weigh k s
copies-weigh k (seq s t) = omega (arith, length-append (copied s) (copied t), copies-weigh k s, copies-weigh (k + length (copied s)) t)
copies-weigh k (par s t) =
    let last = k + length (copied s) + length (copied t) in
    omega (arith, length-append (copied s ++ copied t) (writes s), length-append (copied s) (copied t), copies-weigh k s, copies-weigh (k + length (copied s)) t, sides-weigh last (writes s) (flat_from k s) (flat_from (k + length (copied s)) t))
copies-weigh k (assert p s) = copies-weigh k s
copies-weigh k (becomes_such xs p) = omega arith
copies-weigh k (loop p s i v) = copies-weigh k s

-- ---- boxes
all-grows : (table : Table) (zs : List ℕ) (f : Formula) → formula_size f ≤ formula_size (all_of table zs f)
all-grows table zs f = omega (arith, size_closed_each zs f)

written-grows : (table : Table) (zs : List ℕ) (f : Formula) → formula_size f ≤ formula_size (all_written table zs f)
written-grows table [] f = omega arith
written-grows table (z ∷ zs) f = all-grows table (z ∷ zs) f

-- a box is as large as what stands behind it, with a node for each copy
box-grows : (table : Table) (s : Substitution) → IsFlat s → (r : Formula) → weight s + formula_size r ≤ formula_size (box table s r)
box-grows table skip h r = omega arith
box-grows table (assign ps) h r = omega (arith, (by_replacing (looked_up ps) r).nodes)
box-grows table (pre p s) h r = omega (arith, box-grows table s h r)
box-grows table (guard p s) h r = omega (arith, box-grows table s h r)
box-grows table (choice s t) h r = omega (arith, box-grows table s h.0 r, box-grows table t h.1 r)
box-grows table (if_else p s t) h r = omega (arith, box-grows table s h.0 r, box-grows table t h.1 r)
box-grows table (any zs s) h r = omega (arith, all-grows table zs (box table s r), box-grows table s h r)
box-grows table (seq s t) h r = omega (arith, box-grows table s h.0 (box table t r), box-grows table t h.1 r)
box-grows table (par s t) h r = absurd h
box-grows table (assert p s) h r = omega (arith, box-grows table s h r)
box-grows table (becomes_such xs p) h r = omega (arith, size_closed_each (firsts xs) r)
box-grows table (loop p s i v) h r =
    let kept = written-grows table (writes s) (binary Imp (binary And i p) (box table s i)) in
    let leaves = written-grows table (writes s) (binary Imp (binary And i (unary Not p)) r) in
    omega (arith, kept, leaves, box-grows table s h i)

-- what a box holds of a substitution made flat
box-counts : (table : Table) (k : ℕ) (s : Substitution) (r : Formula) → length (copied s) ≤ formula_size (box table (flat_from k s) r)
box-counts table k s r = omega (arith, copies-weigh k s, box-grows table (flat_from k s) (flat-flat k s) r)

-- the same of a substitution that is equal to it
equal-counts : (table : Table) (k : ℕ) (s t : Substitution) → t ≡ flat_from k s → (r : Formula) → length (copied s) ≤ formula_size (box table t r)
equal-counts table k s t e r = subst (λ x. length (copied s) ≤ formula_size (box table x r)) (sym e) (box-counts table k s r)

-- and with its outermost precondition
whole-counts : (table : Table) (k : ℕ) (s : Substitution) (b : Body) → b.sub ≡ flat_from k s → (r : Formula) → length (copied s) ≤ formula_size (box table (whole b) r)
whole-counts table k s b e r = by_test (equal-counts table k s b.sub e r) (is_btrue b.condition)
  where
    by_test : length (copied s) ≤ formula_size (box table b.sub r) → (c : Bool) → length (copied s) ≤ formula_size (box table (cond c b.sub (pre b.condition b.sub)) r)
    by_test h true = h
    by_test h false = omega (arith, h)

-- ---- sums
abbrev total_below : (ℕ → ℕ) → ℕ → ℕ
total_below f zero = 0
total_below f (suc n) = total_below f n + f n

total-first : (f : ℕ → ℕ) (n : ℕ) → total_below f (suc n) ≡ f 0 + total_below (λ j. f (suc j)) n
total-first f zero = omega arith
total-first f (suc n) = omega (arith, total-first f n)

total-more : (f g : ℕ → ℕ) (n : ℕ) → ((j : ℕ) → j < n → f j ≤ g j) → total_below f n ≤ total_below g n
total-more f g zero h = omega arith
total-more f g (suc n) h = omega (arith, total-more f g n (λ j l. h j (omega (arith, l))), h n (omega arith))

nodes-append : (xs ys : List Obligation) → all_nodes (xs ++ ys) ≡ all_nodes xs + all_nodes ys
nodes-append [] ys = omega arith
nodes-append (x ∷ xs) ys = omega (arith, nodes-append xs ys)

flat-append : (F : ℕ → List Obligation) (xs ys : List ℕ) → all_nodes (flat_map F (xs ++ ys)) ≡ all_nodes (flat_map F xs) + all_nodes (flat_map F ys)
flat-append F [] ys = omega arith
flat-append F (x ∷ xs) ys = omega (arith, nodes-append (F x) (flat_map F (xs ++ ys)), nodes-append (F x) (flat_map F xs), flat-append F xs ys)

flat-total : (F : ℕ → List Obligation) (n : ℕ) → all_nodes (flat_map F (numbers_below n)) ≡ total_below (λ j. all_nodes (F j)) n
flat-total F zero = refl
flat-total F (suc n) = omega (arith, flat-append F (numbers_below n) (n ∷ []), nodes-append (F n) [], flat-total F n)

asked-append : (F : Clause → Obligation) (xs ys : List Clause) → all_nodes (map F (xs ++ ys)) ≡ all_nodes (map F xs) + all_nodes (map F ys)
asked-append F [] ys = omega arith
asked-append F (x ∷ xs) ys = omega (arith, asked-append F xs ys)

operations-append : (F : Clause → Obligation) (xs ys : List ℕ) → all_nodes (map F (map Operation (xs ++ ys))) ≡ all_nodes (map F (map Operation xs)) + all_nodes (map F (map Operation ys))
operations-append F [] ys = omega arith
operations-append F (x ∷ xs) ys = omega (arith, operations-append F xs ys)

operations-total : (F : Clause → Obligation) (n : ℕ) → all_nodes (map F (map Operation (numbers_below n))) ≡ total_below (λ o. nodes_of (F (Operation o))) n
operations-total F zero = refl
operations-total F (suc n) = omega (arith, operations-append F (numbers_below n) (n ∷ []), operations-total F n)

-- the initialisation and each operation are asked of a component
clauses-count : (dev : Development) (k : ℕ) (F : Clause → Obligation) → nodes_of (F Initialisation) + total_below (λ o. nodes_of (F (Operation o))) (length dev.heads) ≤ all_nodes (map F (clauses_of dev k))
clauses-count dev k F =
    let first = PropertiesDefined ∷ [] ++ cond (is_implementation (level_at dev k)) (ValuesMeet ∷ []) [] in
    let middle = InvariantDefined ∷ AssertionsDefined ∷ AssertionsHold ∷ Initialisation ∷ InitialisationDefined ∷ [] in
    let these = map Operation (numbers_below (length dev.heads)) in
    let those = map OperationDefined (numbers_below (length dev.heads)) in
    omega (arith, asked-append F (first ++ middle ++ these) those, asked-append F (first ++ middle) these, asked-append F first middle, operations-total F (length dev.heads))

-- ---- components
-- the copies of an initialisation
init-counts : (dev : Development) (j : ℕ) → length (copied (level_at dev j).init) ≤ formula_size (init_goal (flattened dev) j)
init-counts dev zero =
    let l = level-is dev 0 in
    equal-counts (flattened dev).table l.0 (level_at dev 0).init (level_at (flattened dev) 0).init (ap (λ (x : Level). x.init) l.1) _
init-counts dev (suc j) =
    let l = level-is dev (suc j) in
    equal-counts (flattened dev).table l.0 (level_at dev (suc j)).init (level_at (flattened dev) (suc j)).init (ap (λ (x : Level). x.init) l.1) _

-- the copies of a body
operation-counts : (dev : Development) (j o : ℕ) → length (copied (body_at dev j o).sub) ≤ formula_size (operation_goal (flattened dev) j o)
operation-counts dev zero o =
    let b = body-is dev 0 o in
    equal-counts (flattened dev).table b.0 (body_at dev 0 o).sub (body_at (flattened dev) 0 o).sub (ap (λ (x : Body). x.sub) b.1) _
operation-counts dev (suc j) o =
    let b = body-is dev (suc j) o in
    whole-counts (flattened dev).table b.0 (body_at dev (suc j) o).sub (body_at (flattened dev) (suc j) o) (ap (λ (x : Body). x.sub) b.1) _

-- by their numbers
bodies-total : (bs : List Body) (n : ℕ) → length bs ≤ n → length (copied_in_bodies bs) ≤ total_below (λ o. length (copied (slice_index_or bs o blank_body).sub)) n
bodies-total [] n h = omega arith
bodies-total (b ∷ bs) zero h = absurd (omega (arith, h))
bodies-total (b ∷ bs) (suc n) h =
    let first = total-first (λ o. length (copied (slice_index_or (b ∷ bs) o blank_body).sub)) n in
    omega (arith, length-append (copied b.sub) (copied_in_bodies bs), first, bodies-total bs n (omega (arith, h)))

levels-total : (ls : List Level) → length (copied_in_levels ls) ≡ total_below (λ j. length (copied_in_level (slice_index_or ls j blank_level))) (length ls)
levels-total [] = refl
levels-total (l ∷ ls) =
    let first = total-first (λ j. length (copied_in_level (slice_index_or (l ∷ ls) j blank_level))) (length ls) in
    omega (arith, length-append (copied_in_level l) (copied_in_levels ls), first, levels-total ls)

-- the copies of a component
level-counts : (dev : Development) (j : ℕ) → length (level_at dev j).bodies ≤ length dev.heads → length (copied_in_level (level_at dev j)) ≤ all_nodes (level_obligations (flattened dev) j)
level-counts dev j h =
    let F = obligation_of (flattened dev) j in
    let each = total-more (λ o. length (copied (body_at dev j o).sub)) (λ o. nodes_of (F (Operation o))) (length dev.heads) (λ o l. omega (arith, operation-counts dev j o)) in
    omega (arith, length-append (copied (level_at dev j).init) (copied_in_bodies (level_at dev j).bodies), init-counts dev j, bodies-total (level_at dev j).bodies (length dev.heads) h, each, clauses-count (flattened dev) j F)

-- the copies of a development are no more than the nodes of its obligations
pub copies-counted : (dev : Development) → All (λ (l : Level). length l.bodies ≤ length dev.heads) dev.levels → length (copied_in_levels dev.levels) ≤ all_nodes (obligations dev)
copies-counted dev few =
    let F = level_obligations (flattened dev) in
    let each = total-more (λ j. length (copied_in_level (level_at dev j))) (λ j. all_nodes (F j)) (length dev.levels) (λ j l. level-counts dev j (few j blank_level l)) in
    let all : all_nodes (obligations dev) ≡ total_below (λ j. all_nodes (F j)) (length dev.levels) =
    flat-total F (length (flattened dev).levels) ∙ ap (total_below (λ j. all_nodes (F j))) (levels-many (length dev.table.variables) dev.levels) in
    omega (arith, levels-total dev.levels, each, all)

-- with all copies there are at most 20000000 variables more, where the obligations pass no limit
pub variables-bounded : (dev : Development) → All (λ (l : Level). length l.bodies ≤ length dev.heads) dev.levels → PassNoLimit (obligations dev) → length (flattened dev).table.variables ≤ length dev.table.variables + MOST_NODES_TOGETHER
variables-bounded dev few pass =
    let more = filter_map (slice_get dev.table.variables) (copied_in_levels dev.levels) in
    omega (arith, length-append dev.table.variables more, fewer (slice_get dev.table.variables) (copied_in_levels dev.levels), copies-counted dev few, pass.nodes)
