use Rattle.std.proofs.Common.{rules, ◌≡◌, ◌+◌, ◌≤◌, ◌++◌, List, [], ◌∷◌, pos, length, refl, ap, sym, ◌∙◌, subst, arith, append_assoc}
use Rattle.std.specs.Prelude.{OnOk}
use Rattle.bk_limits.specs.declared.TheConstants.{MOST_INSTRUCTIONS}
use Rattle.bk_form.specs.Formula.{unary, binary}
use Rattle.bk_code.specs.declared.instruction.Inst.{Inst}
use Rattle.bk_code.specs.declared.instruction.Inst.TheVariants.{Push, Jump, JumpZero}
use Rattle.bk_b0.specs.CodeUnit.{unit_places}
use Rattle.bk_b0.specs.Places.{placed_value}
use Rattle.bk_gen.specs.Executed.{HasCode, sign_code, calculation, read_code}
use Rattle.bk_gen.specs.Sizes.{value_size}
use Rattle.bk_gen.proofs.Emitted.{both_emitted, either_emitted}
use Rattle.bk_gen.proofs.Lengths.{longer, value_long}
use Rattle.bk_gen.proofs.Operated.{signed, operation_is}
use Rattle.bk_gen.proofs.value.+value.Goals as goal

pub add_value-returns-in_ok-add_sign-in-Un : goal.add_value-returns-in_ok-add_sign-in-Un
add_value-returns-in_ok-add_sign-in-Un t c =
    let p = unit_places c.args.unit.now in
    let before = c.args.code.now.items in
    let operand = c.in-Un.operand.now in
    let is : c.args.form.now ≡ unary c.in-Un.op operand = cc (c.in-Un.ensures) in
    let has = subst (HasCode p) is c.requires.has in
    c.in_ok-add_sign-in-Un.ensures ∙ (ap (λ xs. xs ++ sign_code c.in-Un.op) c.in_ok-add_value-in-Un.ensures ∙ (append_assoc before (placed_value p operand) (sign_code c.in-Un.op) ∙
    (ap (λ xs. before ++ xs) (sym (signed p c.in-Un.op operand has.1)) ∙ ap (λ f. before ++ placed_value p f) (sym is))))

pub add_value-returns-in-Bin : goal.add_value-returns-in-Bin
add_value-returns-in-Bin t c =
    let p = unit_places c.args.unit.now in
    let before = c.args.code.now.items in
    let is : c.args.form.now ≡ binary c.in-Bin.op c.in-Bin.left.now c.in-Bin.right.now = cc (c.in-Bin.ensures) in
    let has = subst (HasCode p) is c.requires.has in
    let same = ap (λ xs. before ++ xs) (sym (operation_is p c.in-Bin.op c.in-Bin.left.now c.in-Bin.right.now has.2)) ∙ ap (λ f. before ++ placed_value p f) (sym is) in
    subst (λ (xs : List Inst). OnOk c.add_operation.result (c.add_operation.new.code.items ≡ xs)) same c.add_operation.ensures

pub add_calculation-add_value-requires-2 : goal.add_calculation-add_value-requires-2
add_calculation-add_value-requires-2 t c =
    let p = unit_places c.args.unit.now in
    let fits : length c.args.code.now.items + (value_size c.args.left.now + value_size c.args.right.now) ≤ MOST_INSTRUCTIONS = c.requires.short in
    let e1 : c.add_value.new.code.items ≡ c.args.code.now.items ++ placed_value p c.args.left.now = c.in_ok-add_value.ensures in
    let l1 : length c.add_value.new.code.items ≡ length c.args.code.now.items + value_size c.args.left.now = longer c.args.code.now.items (placed_value p c.args.left.now) c.add_value.new.code.items (value_size c.args.left.now) e1 (value_long p c.args.left.now c.requires.has_left) in
    (search rules, (c.requires.ready, (c.requires.has_right, omega arith)))

pub add_calculation-returns : goal.add_calculation-returns
add_calculation-returns t c =
    let p = unit_places c.args.unit.now in
    let e1 : c.add_value.new.code.items ≡ c.args.code.now.items ++ placed_value p c.args.left.now = c.in_ok-add_value.ensures in
    let e2 : c.add_value-2.new.code.items ≡ c.add_value.new.code.items ++ placed_value p c.args.right.now = c.in_ok-add_value-2.ensures in
    let e3 : c.push.new.self.items ≡ c.add_value-2.new.code.items ++ calculation c.args.op ∷ [] = c.in_ok-push.ensures.items ∙ ap (λ inst. c.add_value-2.new.code.items ++ inst ∷ []) c.instruction.ensures in
    e3 ∙ (ap (λ xs. xs ++ calculation c.args.op ∷ []) (e2 ∙ ap (λ xs. xs ++ placed_value p c.args.right.now) e1) ∙
    (ap (λ xs. xs ++ calculation c.args.op ∷ []) (append_assoc c.args.code.now.items (placed_value p c.args.left.now) (placed_value p c.args.right.now)) ∙ append_assoc c.args.code.now.items (placed_value p c.args.left.now ++ placed_value p c.args.right.now) (calculation c.args.op ∷ [])))

pub add_element-returns : goal.add_element-returns
add_element-returns t c =
    let p = unit_places c.args.unit.now in
    let e1 : c.add_value.new.code.items ≡ c.args.code.now.items ++ placed_value p c.args.index.now = c.in_ok-add_value.ensures in
    c.in_ok-add_read.ensures ∙ (ap (λ xs. xs ++ read_code p c.args.array.now) e1 ∙ append_assoc c.args.code.now.items (placed_value p c.args.index.now) (read_code p c.args.array.now))

pub add_both-add_value-requires-2 : goal.add_both-add_value-requires-2
add_both-add_value-requires-2 t c =
    let p = unit_places c.args.unit.now in
    let fits : length c.args.code.now.items + (value_size c.args.left.now + value_size c.args.right.now + 3) ≤ MOST_INSTRUCTIONS = c.requires.short in
    let e1 : c.add_value.new.code.items ≡ c.args.code.now.items ++ placed_value p c.args.left.now = c.in_ok-add_value.ensures in
    let l1 : length c.add_value.new.code.items ≡ length c.args.code.now.items + value_size c.args.left.now = longer c.args.code.now.items (placed_value p c.args.left.now) c.add_value.new.code.items (value_size c.args.left.now) e1 (value_long p c.args.left.now c.requires.has_left) in
    let e2 : c.push.new.self.items ≡ c.add_value.new.code.items ++ JumpZero (pos 0) ∷ [] = c.in_ok-push.ensures.items in
    let l2 : length c.push.new.self.items ≡ length c.add_value.new.code.items + 1 = longer c.add_value.new.code.items (JumpZero (pos 0) ∷ []) c.push.new.self.items 1 e2 refl in
    (search rules, (c.requires.ready, (c.requires.has_right, omega arith)))

pub add_both-set_test-requires-clause-short : goal.add_both-set_test-requires-clause-short
add_both-set_test-requires-clause-short t c =
    let p = unit_places c.args.unit.now in
    let fits : length c.args.code.now.items + (value_size c.args.left.now + value_size c.args.right.now + 3) ≤ MOST_INSTRUCTIONS = c.requires.short in
    let e1 : c.add_value.new.code.items ≡ c.args.code.now.items ++ placed_value p c.args.left.now = c.in_ok-add_value.ensures in
    let l1 : length c.add_value.new.code.items ≡ length c.args.code.now.items + value_size c.args.left.now = longer c.args.code.now.items (placed_value p c.args.left.now) c.add_value.new.code.items (value_size c.args.left.now) e1 (value_long p c.args.left.now c.requires.has_left) in
    let e2 : c.push.new.self.items ≡ c.add_value.new.code.items ++ JumpZero (pos 0) ∷ [] = c.in_ok-push.ensures.items in
    let l2 : length c.push.new.self.items ≡ length c.add_value.new.code.items + 1 = longer c.add_value.new.code.items (JumpZero (pos 0) ∷ []) c.push.new.self.items 1 e2 refl in
    let e3 : c.add_value-2.new.code.items ≡ c.push.new.self.items ++ placed_value p c.args.right.now = c.in_ok-add_value-2.ensures in
    let l3 : length c.add_value-2.new.code.items ≡ length c.push.new.self.items + value_size c.args.right.now = longer c.push.new.self.items (placed_value p c.args.right.now) c.add_value-2.new.code.items (value_size c.args.right.now) e3 (value_long p c.args.right.now c.requires.has_right) in
    let e4 : c.push-2.new.self.items ≡ c.add_value-2.new.code.items ++ Jump (pos 2) ∷ [] = c.in_ok-push-2.ensures.items in
    let l4 : length c.push-2.new.self.items ≡ length c.add_value-2.new.code.items + 1 = longer c.add_value-2.new.code.items (Jump (pos 2) ∷ []) c.push-2.new.self.items 1 e4 refl in
    omega arith

pub add_both-returns : goal.add_both-returns
add_both-returns t c =
    let p = unit_places c.args.unit.now in
    let e1 : c.add_value.new.code.items ≡ c.args.code.now.items ++ placed_value p c.args.left.now = c.in_ok-add_value.ensures in
    let e2 : c.push.new.self.items ≡ c.add_value.new.code.items ++ JumpZero (pos 0) ∷ [] = c.in_ok-push.ensures.items in
    let e3 : c.add_value-2.new.code.items ≡ c.push.new.self.items ++ placed_value p c.args.right.now = c.in_ok-add_value-2.ensures in
    let e4 : c.push-2.new.self.items ≡ c.add_value-2.new.code.items ++ Jump (pos 2) ∷ [] = c.in_ok-push-2.ensures.items in
    let there : c.len-test.result ≡ length c.add_value.new.code.items = omega (arith, c.len-test.ensures, c.add_value.new.code.ok) in
    both_emitted c.args.code.now.items (placed_value p c.args.left.now) (placed_value p c.args.right.now)
    c.add_value.new.code.items c.push.new.self.items c.add_value-2.new.code.items c.push-2.new.self.items c.set_test.new.code.items c.push-3.new.self.items c.len-test.result
    e1 there e2 e3 e4 c.set_test.ensures c.in_ok-push-3.ensures.items

pub add_either-add_value-requires-2 : goal.add_either-add_value-requires-2
add_either-add_value-requires-2 t c =
    let p = unit_places c.args.unit.now in
    let fits : length c.args.code.now.items + (value_size c.args.left.now + value_size c.args.right.now + 3) ≤ MOST_INSTRUCTIONS = c.requires.short in
    let e1 : c.add_value.new.code.items ≡ c.args.code.now.items ++ placed_value p c.args.left.now = c.in_ok-add_value.ensures in
    let l1 : length c.add_value.new.code.items ≡ length c.args.code.now.items + value_size c.args.left.now = longer c.args.code.now.items (placed_value p c.args.left.now) c.add_value.new.code.items (value_size c.args.left.now) e1 (value_long p c.args.left.now c.requires.has_left) in
    let e2 : c.push.new.self.items ≡ c.add_value.new.code.items ++ JumpZero (pos 3) ∷ [] = c.in_ok-push.ensures.items in
    let l2 : length c.push.new.self.items ≡ length c.add_value.new.code.items + 1 = longer c.add_value.new.code.items (JumpZero (pos 3) ∷ []) c.push.new.self.items 1 e2 refl in
    let e3 : c.push-2.new.self.items ≡ c.push.new.self.items ++ Push (pos 1) ∷ [] = c.in_ok-push-2.ensures.items in
    let l3 : length c.push-2.new.self.items ≡ length c.push.new.self.items + 1 = longer c.push.new.self.items (Push (pos 1) ∷ []) c.push-2.new.self.items 1 e3 refl in
    let e4 : c.push-3.new.self.items ≡ c.push-2.new.self.items ++ Jump (pos 0) ∷ [] = c.in_ok-push-3.ensures.items in
    let l4 : length c.push-3.new.self.items ≡ length c.push-2.new.self.items + 1 = longer c.push-2.new.self.items (Jump (pos 0) ∷ []) c.push-3.new.self.items 1 e4 refl in
    (search rules, (c.requires.ready, (c.requires.has_right, omega arith)))

pub add_either-set_jump-requires-clause-short : goal.add_either-set_jump-requires-clause-short
add_either-set_jump-requires-clause-short t c =
    let p = unit_places c.args.unit.now in
    let fits : length c.args.code.now.items + (value_size c.args.left.now + value_size c.args.right.now + 3) ≤ MOST_INSTRUCTIONS = c.requires.short in
    let e1 : c.add_value.new.code.items ≡ c.args.code.now.items ++ placed_value p c.args.left.now = c.in_ok-add_value.ensures in
    let l1 : length c.add_value.new.code.items ≡ length c.args.code.now.items + value_size c.args.left.now = longer c.args.code.now.items (placed_value p c.args.left.now) c.add_value.new.code.items (value_size c.args.left.now) e1 (value_long p c.args.left.now c.requires.has_left) in
    let e2 : c.push.new.self.items ≡ c.add_value.new.code.items ++ JumpZero (pos 3) ∷ [] = c.in_ok-push.ensures.items in
    let l2 : length c.push.new.self.items ≡ length c.add_value.new.code.items + 1 = longer c.add_value.new.code.items (JumpZero (pos 3) ∷ []) c.push.new.self.items 1 e2 refl in
    let e3 : c.push-2.new.self.items ≡ c.push.new.self.items ++ Push (pos 1) ∷ [] = c.in_ok-push-2.ensures.items in
    let l3 : length c.push-2.new.self.items ≡ length c.push.new.self.items + 1 = longer c.push.new.self.items (Push (pos 1) ∷ []) c.push-2.new.self.items 1 e3 refl in
    let e4 : c.push-3.new.self.items ≡ c.push-2.new.self.items ++ Jump (pos 0) ∷ [] = c.in_ok-push-3.ensures.items in
    let l4 : length c.push-3.new.self.items ≡ length c.push-2.new.self.items + 1 = longer c.push-2.new.self.items (Jump (pos 0) ∷ []) c.push-3.new.self.items 1 e4 refl in
    let e5 : c.add_value-2.new.code.items ≡ c.push-3.new.self.items ++ placed_value p c.args.right.now = c.in_ok-add_value-2.ensures in
    let l5 : length c.add_value-2.new.code.items ≡ length c.push-3.new.self.items + value_size c.args.right.now = longer c.push-3.new.self.items (placed_value p c.args.right.now) c.add_value-2.new.code.items (value_size c.args.right.now) e5 (value_long p c.args.right.now c.requires.has_right) in
    omega arith

pub add_either-returns : goal.add_either-returns
add_either-returns t c =
    let p = unit_places c.args.unit.now in
    let e1 : c.add_value.new.code.items ≡ c.args.code.now.items ++ placed_value p c.args.left.now = c.in_ok-add_value.ensures in
    let e2 : c.push.new.self.items ≡ c.add_value.new.code.items ++ JumpZero (pos 3) ∷ [] = c.in_ok-push.ensures.items in
    let e3 : c.push-2.new.self.items ≡ c.push.new.self.items ++ Push (pos 1) ∷ [] = c.in_ok-push-2.ensures.items in
    let e4 : c.push-3.new.self.items ≡ c.push-2.new.self.items ++ Jump (pos 0) ∷ [] = c.in_ok-push-3.ensures.items in
    let e5 : c.add_value-2.new.code.items ≡ c.push-3.new.self.items ++ placed_value p c.args.right.now = c.in_ok-add_value-2.ensures in
    let there : c.len-decided.result ≡ length c.push-2.new.self.items = omega (arith, c.len-decided.ensures, c.push-2.new.self.ok) in
    either_emitted c.args.code.now.items (placed_value p c.args.left.now) (placed_value p c.args.right.now)
    c.add_value.new.code.items c.push.new.self.items c.push-2.new.self.items c.push-3.new.self.items c.add_value-2.new.code.items c.set_jump.new.code.items c.len-decided.result
    e1 e2 e3 there e4 e5 c.set_jump.ensures
