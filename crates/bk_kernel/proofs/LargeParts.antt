-- A formula is within the limits only where its parts are.
use Rattle.std.proofs.Common.{◌≡◌, ℕ, List, [], ◌∷◌, ◌++◌, sym, subst, arith}
use Rattle.std.specs.Prelude.{Option, Some}
use Rattle.std.specs.Option.{option_and_then}
use Rattle.bk_val.specs.ValueType.{ValueType}
use Rattle.bk_form.specs.Each.{Each}
use Rattle.bk_form.specs.Table.{Table}
use Rattle.bk_form.specs.Formula.{Formula, unary, binary, for_all, for_some}
use Rattle.bk_form.specs.Role.{role}
use Rattle.bk_form.specs.declared.operator.UnOp.{UnOp}
use Rattle.bk_form.specs.declared.operator.BinOp.{BinOp}
use Rattle.bk_form.specs.declared.operator.BinOp.TheVariants.{And}
use Rattle.bk_form.proofs.Members.{and-both}
use Rattle.bk_bind.specs.Limits.{IsWithinLimits}
use Rattle.bk_seq.specs.Paths.{sub_at, put_at}
use Rattle.bk_seq.proofs.Paths.{size-part, height-part, put-stands}
use Rattle.bk_arith.specs.Same.{is_same}
use Rattle.bk_arith.proofs.SameFormula.{same-then}
use Rattle.bk_arith.proofs.Options.{chained, mapped}
use Rattle.bk_laws.specs.Rows.{Instance}
use Rattle.bk_kernel.specs.Membership.{conjoined, conjunction}
use Rattle.bk_kernel.specs.Rewriting.{Rewriting, instance_for, same_role, stands_for, part_rewritten, goals_then, goal_changed, hypothesis_changed}
use Rattle.bk_kernel.specs.Held.{HasLarge, HasLargePart, IsTooLarge}
use Rattle.bk_kernel.specs.Branches.{Branch, IsWithinBranch, when}
use Rattle.bk_kernel.proofs.Viewed.{when-then}
use Rattle.bk_kernel.proofs.EachItem.{each-left, each-right}

pub operand-within : (o : UnOp) (a : Formula) → IsWithinLimits (unary o a) → IsWithinLimits a
operand-within o a w = record { nodes = omega (arith, w.nodes); height = omega (arith, w.height) }

pub left-within : (o : BinOp) (a b : Formula) → IsWithinLimits (binary o a b) → IsWithinLimits a
left-within o a b w = record { nodes = omega (arith, w.nodes); height = omega (arith, w.height) }

pub right-within : (o : BinOp) (a b : Formula) → IsWithinLimits (binary o a b) → IsWithinLimits b
right-within o a b w = record { nodes = omega (arith, w.nodes); height = omega (arith, w.height) }

pub all-within : (ts : List ValueType) (p : Formula) → IsWithinLimits (for_all ts p) → IsWithinLimits p
all-within ts p w = record { nodes = omega (arith, w.nodes); height = omega (arith, w.height) }

pub some-within : (ts : List ValueType) (p : Formula) → IsWithinLimits (for_some ts p) → IsWithinLimits p
some-within ts p w = record { nodes = omega (arith, w.nodes); height = omega (arith, w.height) }

pub ruleset parts_within = (operand-within, left-within, right-within, all-within, some-within)

-- ---- conjunctions
joined-within : (p : Formula) (qs : List Formula) → IsWithinLimits (conjoined p qs) → IsWithinLimits p × Each IsWithinLimits qs
joined-within p [] w = (w, tt)
joined-within p (q ∷ qs) w =
    let k = joined-within (binary And p q) qs w in
    (left-within And p q k.0, (right-within And p q k.0, k.1))

pub joined-first : (p : Formula) (qs : List Formula) → IsWithinLimits (conjoined p qs) → IsWithinLimits p
joined-first p qs w = (joined-within p qs w).0

pub conjunction-within : (ps : List Formula) → IsWithinLimits (conjunction ps) → Each IsWithinLimits ps
conjunction-within [] w = tt
conjunction-within (p ∷ ps) w = joined-within p ps w

pub first-parts : (ps qs : List Formula) → IsWithinLimits (conjunction (ps ++ qs)) → Each IsWithinLimits ps
first-parts ps qs w = each-left IsWithinLimits ps qs (conjunction-within (ps ++ qs) w)

pub last-parts : (ps qs : List Formula) → IsWithinLimits (conjunction (ps ++ qs)) → Each IsWithinLimits qs
last-parts ps qs w = each-right IsWithinLimits ps qs (conjunction-within (ps ++ qs) w)

pub ruleset conjunctions_within = (joined-first, first-parts, last-parts)

-- ---- at a place
pub part-within : (f : Formula) (path : List ℕ) (part : Formula) → IsWithinLimits f → sub_at f path ≡ Some part → IsWithinLimits part
part-within f path part h e =
    let size = h.nodes in
    let height = h.height in
    record { nodes = omega (arith, size-part f path part e); height = omega (arith, height-part f path part e) }

-- what is put at a path is within the limits where the whole is
pub put-within : (f : Formula) (path : List ℕ) (old new : Formula) → sub_at f path ≡ Some old → IsWithinLimits (put_at f path new) → IsWithinLimits new
put-within f path old new e h = part-within (put_at f path new) path new h (put-stands f path old new e)

-- where the law at what stands there is too large, so is what comes
pub replaced-large : (table : Table) (hyps : List Formula) (r : Rewriting) (f : Formula) (path : List ℕ) (old : Formula) → IsWithinLimits f → sub_at f path ≡ Some old → HasLarge (instance_for table hyps r old) → HasLargePart (part_rewritten table hyps r f path)
replaced-large table hyps r f path old small stands large x e sides whole =
    let made : Instance → List Formula × Formula = λ i. (i.sides, put_at f path i.right) in
    let k = chained (λ o. option_and_then (λ i. when (stands_for table o i) (made i)) (instance_for table hyps r o)) (sub_at f path) x e in
    let same : k.0 ≡ old = cc (k.1, stands) in
    let m = chained (λ i. when (stands_for table k.0 i) (made i)) (instance_for table hyps r k.0) x k.2 in
    let i = m.0 in
    let w = when-then (stands_for table k.0 i) (made i) x m.2 in
    let both = and-both (is_same i.left k.0) (same_role (role table [] i.left) (role table [] i.right)) w.0 in
    let left : IsWithinLimits i.left = subst IsWithinLimits (sym (same-then i.left k.0 both.0)) (part-within f path k.0 small k.1) in
    let right : IsWithinLimits i.right = put-within f path k.0 i.right k.1 (subst (λ y. IsWithinLimits y.1) (sym w.1) whole) in
    large i (subst (λ o. instance_for table hyps r o ≡ Some i) same m.1) (subst (λ y. Each IsWithinLimits y.0) (sym w.1) sides, left, right)

-- ---- what is made of it
goals-within : (ps : List Formula) (last : Branch) → Each IsWithinBranch (goals_then ps last) → Each IsWithinLimits ps × IsWithinBranch last
goals-within [] last w = (tt, w.0)
goals-within (p ∷ ps) last w = let k = goals-within ps last w.1 in ((w.0.1, k.0), k.1)

pub goal-change-large : (entry : Option (List Formula × Formula)) → HasLargePart entry → IsTooLarge (goal_changed entry)
goal-change-large entry large bs e w =
    let made : List Formula × Formula → List Branch = λ x. goals_then x.0 ([], x.1) in
    let k = mapped made entry bs e in
    let g = goals-within k.0.0 ([], k.0.1) (subst (λ x. Each IsWithinBranch x) (sym k.2) w) in
    large k.0 k.1 g.0 g.1.1

pub hypothesis-change-large : (goal : Formula) (entry : Option (List Formula × Formula)) → HasLargePart entry → IsTooLarge (hypothesis_changed goal entry)
hypothesis-change-large goal entry large bs e w =
    let made : List Formula × Formula → List Branch = λ x. goals_then x.0 (x.1 ∷ [], goal) in
    let k = mapped made entry bs e in
    let g = goals-within k.0.0 (k.0.1 ∷ [], goal) (subst (λ x. Each IsWithinBranch x) (sym k.2) w) in
    large k.0 k.1 g.0 g.1.0.0
