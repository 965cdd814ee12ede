use Rattle.std.proofs.Common.{rules, ◌≡◌, ◌+◌, ◌≤◌, ◌++◌, [], ◌∷◌, pos, neg_ℤ, length, refl, ap, sym, ◌∙◌, subst, arith}
use Rattle.std.specs.Prelude.{◌-◌}
use Rattle.std.proofs.lemmas.List.{length-set}
use Rattle.bk_limits.specs.declared.TheConstants.{MOST_INSTRUCTIONS}
use Rattle.bk_gsl.specs.Substitution.{seq}
use Rattle.bk_gsl.specs.Codes.SubView.{sub_view}
use Rattle.bk_code.specs.declared.instruction.Inst.TheVariants.{Jump, JumpZero}
use Rattle.bk_b0.specs.CodeUnit.{unit_places}
use Rattle.bk_b0.specs.Places.{placed_value, placed_statement}
use Rattle.bk_gen.specs.Executed.{HasStatementCode}
use Rattle.bk_gen.specs.Sizes.{value_size, statement_size}
use Rattle.bk_gen.proofs.Emitted.{branches_emitted, loop_emitted}
use Rattle.bk_gen.proofs.Lengths.{longer, value_long, statement_long}
use Rattle.bk_gen.proofs.Operated.{branches_code}
use Rattle.bk_gen.proofs.statement.+statement.Goals as goal

pub add_statement-add_statement-requires-in-Seq : goal.add_statement-add_statement-requires-in-Seq
add_statement-add_statement-requires-in-Seq t c =
    let p = unit_places c.args.unit.now in
    let is : c.args.sub.now ≡ seq c.in-Seq.first c.in-Seq.second = sym c.sub.view_is ∙ ap sub_view (sym c.deref.ensures ∙ c.in-Seq.is) in
    let has = subst (HasStatementCode p) is c.requires.has in
    let fits : length c.args.code.now.items + (statement_size p c.in-Seq.first + statement_size p c.in-Seq.second) ≤ MOST_INSTRUCTIONS = subst (λ s. length c.args.code.now.items + statement_size p s ≤ MOST_INSTRUCTIONS) is c.requires.short in
    let e1 : c.add_statement.new.code.items ≡ c.args.code.now.items ++ placed_statement p c.in-Seq.first = c.in_ok-add_statement-in-Seq.ensures in
    let l1 : length c.add_statement.new.code.items ≡ length c.args.code.now.items + statement_size p c.in-Seq.first = longer c.args.code.now.items (placed_statement p c.in-Seq.first) c.add_statement.new.code.items (statement_size p c.in-Seq.first) e1 (statement_long p c.in-Seq.first has.0) in
    (search rules, (c.requires.ready, (has.1, omega arith)))

pub add_branches-add_statement-requires : goal.add_branches-add_statement-requires
add_branches-add_statement-requires t c =
    let p = unit_places c.args.unit.now in
    let fits : length c.args.code.now.items + (value_size c.args.test.now + (statement_size p c.args.yes.now + statement_size p c.args.no.now) + 2) ≤ MOST_INSTRUCTIONS = c.requires.short in
    let e1 : c.add_value.new.code.items ≡ c.args.code.now.items ++ placed_value p c.args.test.now = c.in_ok-add_value.ensures in
    let l1 : length c.add_value.new.code.items ≡ length c.args.code.now.items + value_size c.args.test.now = longer c.args.code.now.items (placed_value p c.args.test.now) c.add_value.new.code.items (value_size c.args.test.now) e1 (value_long p c.args.test.now c.requires.has_test) in
    let e2 : c.push.new.self.items ≡ c.add_value.new.code.items ++ JumpZero (pos 0) ∷ [] = c.in_ok-push.ensures.items in
    let l2 : length c.push.new.self.items ≡ length c.add_value.new.code.items + 1 = longer c.add_value.new.code.items (JumpZero (pos 0) ∷ []) c.push.new.self.items 1 e2 refl in
    (search rules, (c.requires.ready, (c.requires.has_yes, omega arith)))

pub add_branches-set_test-requires-clause-short : goal.add_branches-set_test-requires-clause-short
add_branches-set_test-requires-clause-short t c =
    let p = unit_places c.args.unit.now in
    let fits : length c.args.code.now.items + (value_size c.args.test.now + (statement_size p c.args.yes.now + statement_size p c.args.no.now) + 2) ≤ MOST_INSTRUCTIONS = c.requires.short in
    let e1 : c.add_value.new.code.items ≡ c.args.code.now.items ++ placed_value p c.args.test.now = c.in_ok-add_value.ensures in
    let l1 : length c.add_value.new.code.items ≡ length c.args.code.now.items + value_size c.args.test.now = longer c.args.code.now.items (placed_value p c.args.test.now) c.add_value.new.code.items (value_size c.args.test.now) e1 (value_long p c.args.test.now c.requires.has_test) in
    let e2 : c.push.new.self.items ≡ c.add_value.new.code.items ++ JumpZero (pos 0) ∷ [] = c.in_ok-push.ensures.items in
    let l2 : length c.push.new.self.items ≡ length c.add_value.new.code.items + 1 = longer c.add_value.new.code.items (JumpZero (pos 0) ∷ []) c.push.new.self.items 1 e2 refl in
    let e3 : c.add_statement.new.code.items ≡ c.push.new.self.items ++ placed_statement p c.args.yes.now = c.in_ok-add_statement.ensures in
    let l3 : length c.add_statement.new.code.items ≡ length c.push.new.self.items + statement_size p c.args.yes.now = longer c.push.new.self.items (placed_statement p c.args.yes.now) c.add_statement.new.code.items (statement_size p c.args.yes.now) e3 (statement_long p c.args.yes.now c.requires.has_yes) in
    let e4 : c.push-2.new.self.items ≡ c.add_statement.new.code.items ++ Jump (pos 0) ∷ [] = c.in_ok-push-2.ensures.items in
    let l4 : length c.push-2.new.self.items ≡ length c.add_statement.new.code.items + 1 = longer c.add_statement.new.code.items (Jump (pos 0) ∷ []) c.push-2.new.self.items 1 e4 refl in
    omega arith

pub add_branches-add_statement-requires-2 : goal.add_branches-add_statement-requires-2
add_branches-add_statement-requires-2 t c =
    let p = unit_places c.args.unit.now in
    let fits : length c.args.code.now.items + (value_size c.args.test.now + (statement_size p c.args.yes.now + statement_size p c.args.no.now) + 2) ≤ MOST_INSTRUCTIONS = c.requires.short in
    let e1 : c.add_value.new.code.items ≡ c.args.code.now.items ++ placed_value p c.args.test.now = c.in_ok-add_value.ensures in
    let l1 : length c.add_value.new.code.items ≡ length c.args.code.now.items + value_size c.args.test.now = longer c.args.code.now.items (placed_value p c.args.test.now) c.add_value.new.code.items (value_size c.args.test.now) e1 (value_long p c.args.test.now c.requires.has_test) in
    let e2 : c.push.new.self.items ≡ c.add_value.new.code.items ++ JumpZero (pos 0) ∷ [] = c.in_ok-push.ensures.items in
    let l2 : length c.push.new.self.items ≡ length c.add_value.new.code.items + 1 = longer c.add_value.new.code.items (JumpZero (pos 0) ∷ []) c.push.new.self.items 1 e2 refl in
    let e3 : c.add_statement.new.code.items ≡ c.push.new.self.items ++ placed_statement p c.args.yes.now = c.in_ok-add_statement.ensures in
    let l3 : length c.add_statement.new.code.items ≡ length c.push.new.self.items + statement_size p c.args.yes.now = longer c.push.new.self.items (placed_statement p c.args.yes.now) c.add_statement.new.code.items (statement_size p c.args.yes.now) e3 (statement_long p c.args.yes.now c.requires.has_yes) in
    let e4 : c.push-2.new.self.items ≡ c.add_statement.new.code.items ++ Jump (pos 0) ∷ [] = c.in_ok-push-2.ensures.items in
    let l4 : length c.push-2.new.self.items ≡ length c.add_statement.new.code.items + 1 = longer c.add_statement.new.code.items (Jump (pos 0) ∷ []) c.push-2.new.self.items 1 e4 refl in
    let l5 : length c.set_test.new.code.items ≡ length c.push-2.new.self.items = ap length c.set_test.ensures ∙ length-set c.push-2.new.self.items c.len-start.result _ in
    (search rules, (c.requires.ready, (c.requires.has_no, omega arith)))

pub add_branches-set_jump-requires-clause-short : goal.add_branches-set_jump-requires-clause-short
add_branches-set_jump-requires-clause-short t c =
    let p = unit_places c.args.unit.now in
    let fits : length c.args.code.now.items + (value_size c.args.test.now + (statement_size p c.args.yes.now + statement_size p c.args.no.now) + 2) ≤ MOST_INSTRUCTIONS = c.requires.short in
    let e1 : c.add_value.new.code.items ≡ c.args.code.now.items ++ placed_value p c.args.test.now = c.in_ok-add_value.ensures in
    let l1 : length c.add_value.new.code.items ≡ length c.args.code.now.items + value_size c.args.test.now = longer c.args.code.now.items (placed_value p c.args.test.now) c.add_value.new.code.items (value_size c.args.test.now) e1 (value_long p c.args.test.now c.requires.has_test) in
    let e2 : c.push.new.self.items ≡ c.add_value.new.code.items ++ JumpZero (pos 0) ∷ [] = c.in_ok-push.ensures.items in
    let l2 : length c.push.new.self.items ≡ length c.add_value.new.code.items + 1 = longer c.add_value.new.code.items (JumpZero (pos 0) ∷ []) c.push.new.self.items 1 e2 refl in
    let e3 : c.add_statement.new.code.items ≡ c.push.new.self.items ++ placed_statement p c.args.yes.now = c.in_ok-add_statement.ensures in
    let l3 : length c.add_statement.new.code.items ≡ length c.push.new.self.items + statement_size p c.args.yes.now = longer c.push.new.self.items (placed_statement p c.args.yes.now) c.add_statement.new.code.items (statement_size p c.args.yes.now) e3 (statement_long p c.args.yes.now c.requires.has_yes) in
    let e4 : c.push-2.new.self.items ≡ c.add_statement.new.code.items ++ Jump (pos 0) ∷ [] = c.in_ok-push-2.ensures.items in
    let l4 : length c.push-2.new.self.items ≡ length c.add_statement.new.code.items + 1 = longer c.add_statement.new.code.items (Jump (pos 0) ∷ []) c.push-2.new.self.items 1 e4 refl in
    let l5 : length c.set_test.new.code.items ≡ length c.push-2.new.self.items = ap length c.set_test.ensures ∙ length-set c.push-2.new.self.items c.len-start.result _ in
    let e6 : c.add_statement-2.new.code.items ≡ c.set_test.new.code.items ++ placed_statement p c.args.no.now = c.in_ok-add_statement-2.ensures in
    let l6 : length c.add_statement-2.new.code.items ≡ length c.set_test.new.code.items + statement_size p c.args.no.now = longer c.set_test.new.code.items (placed_statement p c.args.no.now) c.add_statement-2.new.code.items (statement_size p c.args.no.now) e6 (statement_long p c.args.no.now c.requires.has_no) in
    omega arith

pub add_branches-returns : goal.add_branches-returns
add_branches-returns t c =
    let p = unit_places c.args.unit.now in
    let e1 : c.add_value.new.code.items ≡ c.args.code.now.items ++ placed_value p c.args.test.now = c.in_ok-add_value.ensures in
    let e2 : c.push.new.self.items ≡ c.add_value.new.code.items ++ JumpZero (pos 0) ∷ [] = c.in_ok-push.ensures.items in
    let e3 : c.add_statement.new.code.items ≡ c.push.new.self.items ++ placed_statement p c.args.yes.now = c.in_ok-add_statement.ensures in
    let e4 : c.push-2.new.self.items ≡ c.add_statement.new.code.items ++ Jump (pos 0) ∷ [] = c.in_ok-push-2.ensures.items in
    let e6 : c.add_statement-2.new.code.items ≡ c.set_test.new.code.items ++ placed_statement p c.args.no.now = c.in_ok-add_statement-2.ensures in
    let there : c.len-start.result ≡ length c.add_value.new.code.items = omega (arith, c.len-start.ensures, c.add_value.new.code.ok) in
    let behind : c.len-end.result ≡ length c.add_statement.new.code.items = omega (arith, c.len-end.ensures, c.add_statement.new.code.ok) in
    branches_emitted c.args.code.now.items (placed_value p c.args.test.now) (placed_statement p c.args.yes.now) (placed_statement p c.args.no.now)
    c.add_value.new.code.items c.push.new.self.items c.add_statement.new.code.items c.push-2.new.self.items c.set_test.new.code.items c.add_statement-2.new.code.items c.set_jump.new.code.items c.len-start.result c.len-end.result
    e1 there e2 e3 behind e4 c.set_test.ensures e6 c.set_jump.ensures ∙
    ap (λ xs. c.args.code.now.items ++ xs) (sym (branches_code p c.args.test.now c.args.yes.now c.args.no.now))

pub add_loop-add_statement-requires : goal.add_loop-add_statement-requires
add_loop-add_statement-requires t c =
    let p = unit_places c.args.unit.now in
    let fits : length c.args.code.now.items + (value_size c.args.test.now + statement_size p c.args.body.now + 2) ≤ MOST_INSTRUCTIONS = c.requires.short in
    let e1 : c.add_value.new.code.items ≡ c.args.code.now.items ++ placed_value p c.args.test.now = c.in_ok-add_value.ensures in
    let l1 : length c.add_value.new.code.items ≡ length c.args.code.now.items + value_size c.args.test.now = longer c.args.code.now.items (placed_value p c.args.test.now) c.add_value.new.code.items (value_size c.args.test.now) e1 (value_long p c.args.test.now c.requires.has_test) in
    let e2 : c.push.new.self.items ≡ c.add_value.new.code.items ++ JumpZero (pos 0) ∷ [] = c.in_ok-push.ensures.items in
    let l2 : length c.push.new.self.items ≡ length c.add_value.new.code.items + 1 = longer c.add_value.new.code.items (JumpZero (pos 0) ∷ []) c.push.new.self.items 1 e2 refl in
    (search rules, (c.requires.ready, (c.requires.has_body, omega arith)))

pub add_loop-add_jump_back-requires-clause-stands : goal.add_loop-add_jump_back-requires-clause-stands
add_loop-add_jump_back-requires-clause-stands t c =
    let p = unit_places c.args.unit.now in
    let came : c.len-again.result ≡ length c.args.code.now.items = omega (arith, c.len-again.ensures, c.args.code.now.ok) in
    let e1 : c.add_value.new.code.items ≡ c.args.code.now.items ++ placed_value p c.args.test.now = c.in_ok-add_value.ensures in
    let l1 : length c.add_value.new.code.items ≡ length c.args.code.now.items + value_size c.args.test.now = longer c.args.code.now.items (placed_value p c.args.test.now) c.add_value.new.code.items (value_size c.args.test.now) e1 (value_long p c.args.test.now c.requires.has_test) in
    let e2 : c.push.new.self.items ≡ c.add_value.new.code.items ++ JumpZero (pos 0) ∷ [] = c.in_ok-push.ensures.items in
    let l2 : length c.push.new.self.items ≡ length c.add_value.new.code.items + 1 = longer c.add_value.new.code.items (JumpZero (pos 0) ∷ []) c.push.new.self.items 1 e2 refl in
    let e3 : c.add_statement.new.code.items ≡ c.push.new.self.items ++ placed_statement p c.args.body.now = c.in_ok-add_statement.ensures in
    let l3 : length c.add_statement.new.code.items ≡ length c.push.new.self.items + statement_size p c.args.body.now = longer c.push.new.self.items (placed_statement p c.args.body.now) c.add_statement.new.code.items (statement_size p c.args.body.now) e3 (statement_long p c.args.body.now c.requires.has_body) in
    omega arith

pub add_loop-add_jump_back-requires-clause-short : goal.add_loop-add_jump_back-requires-clause-short
add_loop-add_jump_back-requires-clause-short t c =
    let p = unit_places c.args.unit.now in
    let fits : length c.args.code.now.items + (value_size c.args.test.now + statement_size p c.args.body.now + 2) ≤ MOST_INSTRUCTIONS = c.requires.short in
    let e1 : c.add_value.new.code.items ≡ c.args.code.now.items ++ placed_value p c.args.test.now = c.in_ok-add_value.ensures in
    let l1 : length c.add_value.new.code.items ≡ length c.args.code.now.items + value_size c.args.test.now = longer c.args.code.now.items (placed_value p c.args.test.now) c.add_value.new.code.items (value_size c.args.test.now) e1 (value_long p c.args.test.now c.requires.has_test) in
    let e2 : c.push.new.self.items ≡ c.add_value.new.code.items ++ JumpZero (pos 0) ∷ [] = c.in_ok-push.ensures.items in
    let l2 : length c.push.new.self.items ≡ length c.add_value.new.code.items + 1 = longer c.add_value.new.code.items (JumpZero (pos 0) ∷ []) c.push.new.self.items 1 e2 refl in
    let e3 : c.add_statement.new.code.items ≡ c.push.new.self.items ++ placed_statement p c.args.body.now = c.in_ok-add_statement.ensures in
    let l3 : length c.add_statement.new.code.items ≡ length c.push.new.self.items + statement_size p c.args.body.now = longer c.push.new.self.items (placed_statement p c.args.body.now) c.add_statement.new.code.items (statement_size p c.args.body.now) e3 (statement_long p c.args.body.now c.requires.has_body) in
    omega arith

pub add_loop-set_test-requires-clause-stands : goal.add_loop-set_test-requires-clause-stands
add_loop-set_test-requires-clause-stands t c =
    let p = unit_places c.args.unit.now in
    let there : c.len-start.result ≡ length c.add_value.new.code.items = omega (arith, c.len-start.ensures, c.add_value.new.code.ok) in
    let e1 : c.add_value.new.code.items ≡ c.args.code.now.items ++ placed_value p c.args.test.now = c.in_ok-add_value.ensures in
    let l1 : length c.add_value.new.code.items ≡ length c.args.code.now.items + value_size c.args.test.now = longer c.args.code.now.items (placed_value p c.args.test.now) c.add_value.new.code.items (value_size c.args.test.now) e1 (value_long p c.args.test.now c.requires.has_test) in
    let e2 : c.push.new.self.items ≡ c.add_value.new.code.items ++ JumpZero (pos 0) ∷ [] = c.in_ok-push.ensures.items in
    let l2 : length c.push.new.self.items ≡ length c.add_value.new.code.items + 1 = longer c.add_value.new.code.items (JumpZero (pos 0) ∷ []) c.push.new.self.items 1 e2 refl in
    let e3 : c.add_statement.new.code.items ≡ c.push.new.self.items ++ placed_statement p c.args.body.now = c.in_ok-add_statement.ensures in
    let l3 : length c.add_statement.new.code.items ≡ length c.push.new.self.items + statement_size p c.args.body.now = longer c.push.new.self.items (placed_statement p c.args.body.now) c.add_statement.new.code.items (statement_size p c.args.body.now) e3 (statement_long p c.args.body.now c.requires.has_body) in
    let e4 : c.add_jump_back.new.code.items ≡ c.add_statement.new.code.items ++ Jump (neg_ℤ (pos (length c.add_statement.new.code.items - c.len-again.result))) ∷ [] = c.in_ok-add_jump_back.ensures in
    let l4 : length c.add_jump_back.new.code.items ≡ length c.add_statement.new.code.items + 1 = longer c.add_statement.new.code.items (Jump (neg_ℤ (pos (length c.add_statement.new.code.items - c.len-again.result))) ∷ []) c.add_jump_back.new.code.items 1 e4 refl in
    omega arith

pub add_loop-set_test-requires-clause-short : goal.add_loop-set_test-requires-clause-short
add_loop-set_test-requires-clause-short t c =
    let p = unit_places c.args.unit.now in
    let fits : length c.args.code.now.items + (value_size c.args.test.now + statement_size p c.args.body.now + 2) ≤ MOST_INSTRUCTIONS = c.requires.short in
    let e1 : c.add_value.new.code.items ≡ c.args.code.now.items ++ placed_value p c.args.test.now = c.in_ok-add_value.ensures in
    let l1 : length c.add_value.new.code.items ≡ length c.args.code.now.items + value_size c.args.test.now = longer c.args.code.now.items (placed_value p c.args.test.now) c.add_value.new.code.items (value_size c.args.test.now) e1 (value_long p c.args.test.now c.requires.has_test) in
    let e2 : c.push.new.self.items ≡ c.add_value.new.code.items ++ JumpZero (pos 0) ∷ [] = c.in_ok-push.ensures.items in
    let l2 : length c.push.new.self.items ≡ length c.add_value.new.code.items + 1 = longer c.add_value.new.code.items (JumpZero (pos 0) ∷ []) c.push.new.self.items 1 e2 refl in
    let e3 : c.add_statement.new.code.items ≡ c.push.new.self.items ++ placed_statement p c.args.body.now = c.in_ok-add_statement.ensures in
    let l3 : length c.add_statement.new.code.items ≡ length c.push.new.self.items + statement_size p c.args.body.now = longer c.push.new.self.items (placed_statement p c.args.body.now) c.add_statement.new.code.items (statement_size p c.args.body.now) e3 (statement_long p c.args.body.now c.requires.has_body) in
    let e4 : c.add_jump_back.new.code.items ≡ c.add_statement.new.code.items ++ Jump (neg_ℤ (pos (length c.add_statement.new.code.items - c.len-again.result))) ∷ [] = c.in_ok-add_jump_back.ensures in
    let l4 : length c.add_jump_back.new.code.items ≡ length c.add_statement.new.code.items + 1 = longer c.add_statement.new.code.items (Jump (neg_ℤ (pos (length c.add_statement.new.code.items - c.len-again.result))) ∷ []) c.add_jump_back.new.code.items 1 e4 refl in
    omega arith

pub add_loop-returns : goal.add_loop-returns
add_loop-returns t c =
    let p = unit_places c.args.unit.now in
    let e1 : c.add_value.new.code.items ≡ c.args.code.now.items ++ placed_value p c.args.test.now = c.in_ok-add_value.ensures in
    let e2 : c.push.new.self.items ≡ c.add_value.new.code.items ++ JumpZero (pos 0) ∷ [] = c.in_ok-push.ensures.items in
    let e3 : c.add_statement.new.code.items ≡ c.push.new.self.items ++ placed_statement p c.args.body.now = c.in_ok-add_statement.ensures in
    let e4 : c.add_jump_back.new.code.items ≡ c.add_statement.new.code.items ++ Jump (neg_ℤ (pos (length c.add_statement.new.code.items - c.len-again.result))) ∷ [] = c.in_ok-add_jump_back.ensures in
    let came : c.len-again.result ≡ length c.args.code.now.items = omega (arith, c.len-again.ensures, c.args.code.now.ok) in
    let there : c.len-start.result ≡ length c.add_value.new.code.items = omega (arith, c.len-start.ensures, c.add_value.new.code.ok) in
    loop_emitted c.args.code.now.items (placed_value p c.args.test.now) (placed_statement p c.args.body.now)
    c.add_value.new.code.items c.push.new.self.items c.add_statement.new.code.items c.add_jump_back.new.code.items c.set_test.new.code.items c.len-again.result c.len-start.result
    came e1 there e2 e3 e4 c.set_test.ensures
