-- The code of executed formulas and statements is as long as it is counted.
use Rattle.std.proofs.Common.{◌≡◌, ◌⊎◌, inl, inr, ℕ, zero, suc, ◌+◌, List, [], ◌∷◌, ◌++◌, length, refl, sym, ◌∙◌, ap, subst, Bool, true, false, cond, nat_eq, neg_ℤ, pos, Some, None, Option, arith, All}
use Rattle.std.proofs.lemmas.List.{length-append}
use Rattle.std.proofs.lemmas.List.Elements.{All-head, All-tail}
use Rattle.bk_form.specs.Formula.{Formula, variable, literal, truth_value, element, unary, binary}
use Rattle.bk_form.specs.declared.arrays.ArrayRow.{ArrayRow}
use Rattle.bk_form.specs.declared.operator.UnOp.{UnOp}
use Rattle.bk_form.specs.declared.operator.UnOp.TheVariants.{Not, BoolOf, Neg as Negative}
use Rattle.bk_form.specs.declared.operator.BinOp.{BinOp}
use Rattle.bk_form.specs.declared.operator.BinOp.TheVariants.{And, Or, Eq as Equal, Lt as Less, Le as LessOrEqual, Add as Sum, Sub as Difference, Mul as Product, Div as Quotient, Mod as Remainder, Apply}
use Rattle.bk_gsl.specs.Substitution.{Substitution, skip, assign, if_else, any, seq, assert, loop}
use Rattle.bk_dev.specs.Development.{Body}
use Rattle.bk_code.specs.declared.instruction.Inst.{Inst}
use Rattle.bk_code.specs.declared.instruction.Inst.TheVariants.{Push, Store, Jump, JumpZero, Ret}
use Rattle.bk_b0.specs.Kinds.{literal_number}
use Rattle.bk_b0.specs.Places.{Places, placed_name, placed_load, placed_value, placed_write, placed_store, placed_assignment, placed_statement, placed_block, placed_bodies, fill}
use Rattle.bk_b0.specs.CodeUnit.{CodeUnit, unit_places, unit_code}
use Rattle.bk_gen.specs.Executed.{HasLeafCode, IsSign, IsOperator, HasCode, sign_code, calculation, fork_code, operated, written_code, IsWrite, IsFilling, HasStoreCode, HasAssignmentCode, HasStatementCode}
use Rattle.bk_gen.specs.Sizes.{sign_size, operator_size, value_size, written_size, store_size, assignment_size, statement_size, block_size, blocks_size}
use Rattle.bk_gen.proofs.Operated.{signed, operation_is, branches_code, array_is}

-- ---- lists
-- what stands behind a list makes it so much longer
pub longer : (before list after : List Inst) (k : ℕ) → after ≡ before ++ list → length list ≡ k → length after ≡ length before + k
longer before list after k is long = ap length is ∙ (length-append before list ∙ ap (λ n. length before + n) long)

pair_size : (xs ys : List Inst) (inst : Inst) (m n : ℕ) → length xs ≡ m → length ys ≡ n → length (xs ++ ys ++ inst ∷ []) ≡ m + n + 1
pair_size xs ys inst m n h k = omega (arith, h, k, length-append (xs ++ ys) (inst ∷ []), length-append xs ys)

fork_size : (test first second : List Inst) → length (test ++ fork_code first second) ≡ length test + length first + length second + 2
fork_size test first second = omega (arith, length-append test (fork_code first second), length-append first (Jump (pos (length second + 1)) ∷ second))

-- ---- expressions and conditions
name_long : (p : Places) (x : ℕ) (cs : List (ℕ × Formula)) → length (placed_name p x cs) ≡ 1
name_long p x [] = refl
name_long p x (c ∷ cs) = by_test (nat_eq x c.0) (name_long p x cs)
  where
    by_test : (b : Bool) → length (placed_name p x cs) ≡ 1 → length (cond b (Push (literal_number c.1) ∷ []) (placed_name p x cs)) ≡ 1
    by_test true rest = refl
    by_test false rest = rest

pub leaf_long : (p : Places) (f : Formula) → HasLeafCode f → length (placed_value p f) ≡ 1
leaf_long p (variable x) h = name_long p x p.values
leaf_long p (literal z) h = refl
leaf_long p (truth_value b) h = refl
leaf_long p (element s i) h = refl
leaf_long p f h = absurd h

sign_long : (o : UnOp) → IsSign o → length (sign_code o) ≡ sign_size o
sign_long Negative h = refl
sign_long Not h = refl
sign_long BoolOf h = refl
sign_long o h = absurd h

load_long : (p : Places) (f : ℕ) (o : Option ArrayRow) (r : ArrayRow) → o ≡ Some r → length (placed_load p f o) ≡ 1
load_long p f (Some q) r h = refl
load_long p f None r h = absurd (cc)

operated_long : (p : Places) (o : BinOp) (a b : Formula) (m n : ℕ) → IsOperator p o a → length (placed_value p a) ≡ m → length (placed_value p b) ≡ n → length (operated p o a b) ≡ m + n + operator_size o
operated_long p Sum a b m n h k l = pair_size (placed_value p a) (placed_value p b) (calculation Sum) m n k l
operated_long p Difference a b m n h k l = pair_size (placed_value p a) (placed_value p b) (calculation Difference) m n k l
operated_long p Product a b m n h k l = pair_size (placed_value p a) (placed_value p b) (calculation Product) m n k l
operated_long p Quotient a b m n h k l = pair_size (placed_value p a) (placed_value p b) (calculation Quotient) m n k l
operated_long p Remainder a b m n h k l = pair_size (placed_value p a) (placed_value p b) (calculation Remainder) m n k l
operated_long p Equal a b m n h k l = pair_size (placed_value p a) (placed_value p b) (calculation Equal) m n k l
operated_long p Less a b m n h k l = pair_size (placed_value p a) (placed_value p b) (calculation Less) m n k l
operated_long p LessOrEqual a b m n h k l = pair_size (placed_value p a) (placed_value p b) (calculation LessOrEqual) m n k l
operated_long p And a b m n h k l = omega (arith, k, l, fork_size (placed_value p a) (placed_value p b) (Push (pos 0) ∷ []))
operated_long p Or a b m n h k l = omega (arith, k, l, fork_size (placed_value p a) (Push (pos 1) ∷ []) (placed_value p b))
operated_long p Apply (variable f) b m n h k l =
    let one : length (placed_value p (variable f)) ≡ 1 = name_long p f p.values in
    omega (arith, k, l, one, length-append (placed_value p b) (placed_load p f (p.row f)), load_long p f (p.row f) h.0 h.1)
operated_long p Apply a b m n h k l = absurd h
operated_long p o a b m n h k l = absurd h

pub value_long : (p : Places) (f : Formula) → HasCode p f → length (placed_value p f) ≡ value_size f
value_long p (unary o a) h = ap length (signed p o a h.1) ∙ omega (arith, length-append (placed_value p a) (sign_code o), value_long p a h.0, sign_long o h.1)
value_long p (binary o a b) h = ap length (operation_is p o a b h.2) ∙ operated_long p o a b (value_size a) (value_size b) h.2 (value_long p a h.0) (value_long p b h.1)
value_long p (variable x) h = name_long p x p.values
value_long p (literal z) h = refl
value_long p (truth_value b) h = refl
value_long p (element s i) h = refl
value_long p f h = absurd h

-- ---- assignments
pub fill_long : (code : List Inst) → length code ≡ 1 → (cell n : ℕ) → length (fill code cell n) ≡ n + n
fill_long code one cell zero = refl
fill_long code one cell (suc n) = omega (arith, one, length-append code (Store cell ∷ fill code (cell + 1) n), fill_long code one (cell + 1) n)

written_long : (p : Places) (x : ℕ) (r : ArrayRow) (f : Formula) → IsWrite p x f ⊎ IsFilling f → length (written_code p x r f) ≡ written_size (p.cells x) f
written_long p x r f (inl w) = subst (λ g. length (written_code p x r g) ≡ written_size (p.cells x) g) (sym w.is)
    (omega (arith, length-append (placed_value p w.index ++ placed_value p w.value) (placed_write p x r), length-append (placed_value p w.index) (placed_value p w.value), value_long p w.index w.has_index, value_long p w.value w.has_value))
written_long p x r f (inr w) = subst (λ g. length (written_code p x r g) ≡ written_size (p.cells x) g) (sym w.is)
    (fill_long (placed_value p w.value) (leaf_long p w.value w.has_value) (p.first_cell x) (p.cells x))

pub store_long : (p : Places) (x : ℕ) (o : Option ArrayRow) (f : Formula) → HasStoreCode p x o f → length (placed_store p x o f) ≡ store_size (p.cells x) o f
store_long p x None f h = omega (arith, length-append (placed_value p f) (Store (p.first_cell x) ∷ []), value_long p f h)
store_long p x (Some r) f h = sym (ap length (array_is p x r f h)) ∙ written_long p x r f h

assignment_long : (p : Places) (ps : List (ℕ × Formula)) → HasAssignmentCode p ps → length (placed_assignment p ps) ≡ assignment_size p ps
assignment_long p [] h = absurd h
assignment_long p (a ∷ []) h = store_long p a.0 (p.row a.0) a.1 h
assignment_long p (a ∷ b ∷ ps) h = absurd h

-- ---- statements
turn_size : (test body : List Inst) (first last : Inst) → length (test ++ first ∷ body ++ last ∷ []) ≡ length test + length body + 2
turn_size test body first last = omega (arith, length-append (test ++ first ∷ body) (last ∷ []), length-append test (first ∷ body))

pub statement_long : (p : Places) (s : Substitution) → HasStatementCode p s → length (placed_statement p s) ≡ statement_size p s
statement_long p skip h = refl
statement_long p (assign ps) h = assignment_long p ps h
statement_long p (seq s t) h = omega (arith, length-append (placed_statement p s) (placed_statement p t), statement_long p s h.0, statement_long p t h.1)
statement_long p (any zs s) h = statement_long p s h
statement_long p (assert q s) h = statement_long p s h
statement_long p (if_else q s t) h =
    ap length (branches_code p q s t) ∙
    omega (arith, value_long p q h.0, statement_long p s h.1, statement_long p t h.2, fork_size (placed_value p q) (placed_statement p s) (placed_statement p t))
statement_long p (loop q s i v) h =
    omega (arith, value_long p q h.0, statement_long p s h.1, turn_size (placed_value p q) (placed_statement p s) (JumpZero (pos (length (placed_statement p s) + 2))) (Jump (neg_ℤ (pos (length (placed_value p q) + 1 + length (placed_statement p s))))))
statement_long p s h = absurd h

pub block_long : (p : Places) (s : Substitution) → HasStatementCode p s → length (placed_block p s) ≡ block_size p s
block_long p s h = omega (arith, length-append (placed_statement p s) (Ret ∷ []), statement_long p s h)

blocks_long : (p : Places) (bs : List Body) → All (λ b. HasStatementCode p b.sub) bs → length (placed_bodies p bs) ≡ blocks_size p bs
blocks_long p [] a = refl
blocks_long p (b ∷ bs) a = omega (arith, length-append (placed_block p b.sub) (placed_bodies p bs), block_long p b.sub (All-head (λ x. HasStatementCode p x.sub) b bs a), blocks_long p bs (All-tail (λ x. HasStatementCode p x.sub) b bs a))

pub unit_long : (u : CodeUnit) → HasStatementCode (unit_places u) u.init → All (λ b. HasStatementCode (unit_places u) b.sub) u.bodies → length (unit_code u) ≡ block_size (unit_places u) u.init + blocks_size (unit_places u) u.bodies
unit_long u h a = omega (arith, length-append (placed_block (unit_places u) u.init) (placed_bodies (unit_places u) u.bodies), block_long (unit_places u) u.init h, blocks_long (unit_places u) u.bodies a)
