-- Typed sequents without large formulas: those that come of them are such, too, and within the limits.
use Rattle.std.proofs.Common.{◌≡◌, ℕ, ◌+◌, ◌≤◌, List, [], ◌∷◌, ◌++◌, refl, ap, sym, ◌∙◌, subst, arith, All}
use Rattle.std.proofs.lemmas.List.Elements.{All-head, All-tail}
use Rattle.bk_limits.specs.declared.TheConstants.{MOST_NODES, GREATEST_HEIGHT}
use Rattle.bk_val.specs.ValueType.{ValueType, int_type, set_type}
use Rattle.bk_form.specs.Table.{Table, IsWellFormed}
use Rattle.bk_form.specs.Wider.{IsWider}
use Rattle.bk_form.specs.Each.{Each}
use Rattle.bk_form.specs.Formula.{Formula, binary, formula_size, formula_height}
use Rattle.bk_form.specs.Role.{Role, role, gives, ranges_over, predicate, if_number, if_domain, numbers_role}
use Rattle.bk_form.specs.Predicates.{IsPredicate}
use Rattle.bk_form.specs.Settings.{IsOver}
use Rattle.bk_form.specs.declared.operator.BinOp.TheVariants.{And, Imp, Eq, Lt, Le, In, Range}
use Rattle.bk_form.proofs.RoleParts.{connective-parts, equality-parts, membership-parts, interval-parts}
use Rattle.bk_bind.specs.Limits.{IsWithinLimits}
use Rattle.bk_seq.specs.Sequents.{Sequent, Types, IsWithin}
use Rattle.bk_auto.specs.Easy.{parts, supposed}
use Rattle.bk_auto.specs.Found.{IsShort, IsReady}
use Rattle.bk_auto.proofs.Wider.{types-wider}

-- ---- lists
pub each-append : {A : Type 0} (P : A → Type 0) (xs ys : List A) → Each P xs → Each P ys → Each P (xs ++ ys)
each-append P [] ys h k = k
each-append P (x ∷ xs) ys h k = (h.0, each-append P xs ys h.1 k)

pub each-all : {A : Type 0} (P : A → Type 0) (xs : List A) → All P xs → Each P xs
each-all P [] h = tt
each-all P (x ∷ xs) h = (All-head P x xs h, each-all P xs (All-tail P x xs h))

pub each-map : {A : Type 0} (P Q : A → Type 0) (xs : List A) → ((x : A) → P x → Q x) → Each P xs → Each Q xs
each-map P Q [] f h = tt
each-map P Q (x ∷ xs) f h = (f x h.0, each-map P Q xs f h.1)

-- ---- limits
pub short-within : (f : Formula) → IsShort f → IsWithinLimits f
short-within f s = record { nodes = (let h = s.nodes in omega arith); height = (let h = s.height in omega arith) }

pub ready-within : (table : Table) (s : Sequent) → IsReady table s → IsWithin s
ready-within table s r = (each-map IsShort IsWithinLimits s.0 short-within r.hyps, short-within s.1 r.goal)

-- ---- wider tables
pub ready-types : (small wide : Table) (s : Sequent) → IsReady small s → IsWider small wide → Types wide s
ready-types small wide s r w = types-wider small wide r.well w s r.types

pub ready-wider : (small wide : Table) (s : Sequent) → IsReady small s → IsWellFormed wide → IsWider small wide → IsReady wide s
ready-wider small wide s r well w = record { well = well; types = ready-types small wide s r w; hyps = r.hyps; goal = r.goal }

-- ---- parts
left-short : (o : Rattle.bk_form.specs.declared.operator.BinOp.BinOp) (p q : Formula) → IsShort (binary o p q) → IsShort p
left-short o p q s = record { nodes = (let h = s.nodes in omega arith); height = (let h = s.height in omega arith) }

right-short : (o : Rattle.bk_form.specs.declared.operator.BinOp.BinOp) (p q : Formula) → IsShort (binary o p q) → IsShort q
right-short o p q s = record { nodes = (let h = s.nodes in omega arith); height = (let h = s.height in omega arith) }

-- a formula that is typed and not large
pub record IsFine (table : Table) (f : Formula) : Type 0 where
  pub types : IsPredicate table f
  pub short : IsShort f

pub and-sides : (table : Table) (p q : Formula) → IsFine table (binary And p q) → IsFine table p × IsFine table q
and-sides table p q h =
    let k = connective-parts (role table [] p) (role table [] q) h.types in
    (record { types = k.0; short = left-short And p q h.short }, record { types = k.1; short = right-short And p q h.short })

pub imp-sides : (table : Table) (p q : Formula) → IsFine table (binary Imp p q) → IsFine table p × IsFine table q
imp-sides table p q h =
    let k = connective-parts (role table [] p) (role table [] q) h.types in
    (record { types = k.0; short = left-short Imp p q h.short }, record { types = k.1; short = right-short Imp p q h.short })

pub parts-fine : (table : Table) (p : Formula) → IsFine table p → Each (IsFine table) (parts p)
parts-fine table (binary And p q) h =
    let k = and-sides table p q h in
    (k.0, (k.1, each-append (IsFine table) (parts p) (parts q) (parts-fine table p k.0) (parts-fine table q k.1)))
parts-fine table _ h = tt

pub goal-fine : (table : Table) (s : Sequent) → IsReady table s → IsFine table s.1
goal-fine table s r = record { types = r.types.1; short = r.goal }

with_goal : (table : Table) (hyps : List Formula) (p q : Formula) → IsReady table (hyps, p) → IsFine table q → IsReady table (hyps, q)
with_goal table hyps p q r f = record { well = r.well; types = (r.types.0, f.types); hyps = r.hyps; goal = f.short }

pub ready-left : (table : Table) (hyps : List Formula) (p q : Formula) → IsReady table (hyps, binary And p q) → IsReady table (hyps, p)
ready-left table hyps p q r = with_goal table hyps (binary And p q) p r (and-sides table p q (goal-fine table (hyps, binary And p q) r)).0

pub ready-right : (table : Table) (hyps : List Formula) (p q : Formula) → IsReady table (hyps, binary And p q) → IsReady table (hyps, q)
ready-right table hyps p q r = with_goal table hyps (binary And p q) q r (and-sides table p q (goal-fine table (hyps, binary And p q) r)).1

pub with_more : (table : Table) (hyps more : List Formula) (q : Formula) → IsReady table (hyps, q) → Each (IsFine table) more → IsReady table (hyps ++ more, q)
with_more table hyps more q r f = record {
  well = r.well;
  types = (each-append (IsPredicate table) hyps more r.types.0 (each-map (IsFine table) (IsPredicate table) more (λ x h. h.types) f), r.types.1);
  hyps = each-append IsShort hyps more r.hyps (each-map (IsFine table) IsShort more (λ x h. h.short) f);
  goal = r.goal;
}

-- one more hypothesis
pub ready-more : (table : Table) (hyps : List Formula) (p q : Formula) → IsReady table (hyps, binary Imp p q) → IsReady table (hyps ++ p ∷ [], q)
ready-more table hyps p q r =
    let k = imp-sides table p q (goal-fine table (hyps, binary Imp p q) r) in
    with_more table hyps (p ∷ []) q (with_goal table hyps (binary Imp p q) q r k.1) (k.0, tt)

-- and the sides of a conjunction among them
pub ready-sides : (table : Table) (hyps : List Formula) (p q aim : Formula) → IsReady table (hyps, aim) → IsPredicate table (binary And p q) → IsShort (binary And p q) → IsReady table (hyps ++ p ∷ q ∷ [], aim)
ready-sides table hyps p q aim r t s =
    let k = and-sides table p q (record { types = t; short = s }) in
    with_more table hyps (p ∷ q ∷ []) aim r (k.0, (k.1, tt))

pub ready-supposed : (table : Table) (hyps : List Formula) (p q : Formula) → IsReady table (hyps, binary Imp p q) → IsReady table (supposed hyps p, q)
ready-supposed table hyps p q r =
    let k = imp-sides table p q (goal-fine table (hyps, binary Imp p q) r) in
    with_more table hyps (p ∷ parts p) q (with_goal table hyps (binary Imp p q) q r k.1) (k.0, parts-fine table p k.0)
