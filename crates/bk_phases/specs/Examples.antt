-- What small components are answered phase by phase, by computation.
-- Source: this project.
use Rattle.std.specs.Prelude.{◌≡◌, ◌+ℤ◌, suc, pos, [], ◌∷◌, None, Some, replicate}
use Rattle.bk_limits.specs.declared.TheConstants.{MOST_NAMES, MAXINT}
use Rattle.bk_form.specs.Formula.{variable, element, named, binary, unary}
use Rattle.bk_form.specs.declared.operator.UnOp.TheVariants.{Not as Negation}
use Rattle.bk_form.specs.declared.operator.BinOp.TheVariants.{And as Conjunction, Eq, In}
use Rattle.bk_form.specs.declared.operator.Domain.TheVariants.{Enum}
use Rattle.bk_gsl.specs.Substitution.{assign, guard, choice, if_else, any, becomes_such, skip}
use Rattle.bk_raw.specs.declared.operator.InfixOp.TheVariants.{Equal, Power, Plus}
use Rattle.bk_raw.specs.declared.operator.Constant.TheVariants.{Bool as BoolWord, True as TrueWord}
use Rattle.bk_raw.specs.declared.component.ClauseWord.TheVariants.{Sets, Constants, Variables, ConcreteVariables, Invariant}
use Rattle.bk_raw.specs.Trees.RawTree.{RawTree, raw, raw_number, raw_constant, raw_empty_set, raw_level_name, no_trees, tree_and}
use Rattle.bk_raw.specs.Trees.SubTree.{SubTree, sub, sub_skip, sub_assign, sub_member, sub_such, sub_call, sub_begin, sub_pre}
use Rattle.bk_raw.specs.Trees.SubTree.{sub_if, sub_choice, sub_select, sub_any, sub_let, sub_var, sub_sequence}
use Rattle.bk_raw.specs.Trees.SubTree.{sub_parallel, no_branches, else_branch, branch_and, no_choices, choice_and}
use Rattle.bk_raw.specs.Trees.ComponentTree.{clause_sets, clause_names, clause_term}
use Rattle.bk_raw.specs.declared.component.ComponentKind.TheVariants.{Machine as AsMachine}
use Rattle.bk_raw.specs.Errors.Faults.{twice_named, unknown_name, without_type, not_predicate}
use Rattle.bk_raw.specs.Errors.Faults.{wrong_operation, not_b0, wrong_write, wrong_value}
use Rattle.bk_statics.specs.Verdict.{accepted, at_fault, past_limit}
use Rattle.bk_statics.specs.Texts.{name_at, term_at, number, infix_at, up_to, is_in, takes, takes_at, clause, operation, component}
use Rattle.bk_statics.specs.Texts.{counter_text, counter_code_text, counter_made, a_text, b_text, c_text, f_text, s_text, t_text}
use Rattle.bk_statics.specs.Texts.{u_text, v_text, x_text, step_text, in_set, machine_of, machine_with, machine_text}
use Rattle.bk_statics.specs.Texts.{by_local, both_start, refinement_of, step_by, started, with_operations, stepping, refinement_text}
use Rattle.bk_statics.specs.Texts.{refined, code_with, code_doing, c_is, d_is, filled_at, array_code}
use Rattle.bk_phases.specs.Texts.{below, first_level, machine_verdict, lower_verdict, step_done, above_code, deferred_verdict}
use Rattle.bk_phases.specs.Texts.{is_truth, both, typed_machine, stepping_by, standing_by, stepping_with, telling_by}
use Rattle.bk_phases.specs.Texts.{wrong_twice}

-- v := a and v := b
abbrev pub to_a : SubTree
to_a = takes_at 70 v_text a_text

-- v := b, at byte 80
abbrev pub to_b : SubTree
to_b = takes_at 80 v_text b_text

-- x = a and x = b
abbrev pub is_a : RawTree
is_a = infix_at 66 Equal (term_at 66 x_text) (term_at 68 a_text)

-- x = b, at byte 76
abbrev pub is_b : RawTree
is_b = infix_at 76 Equal (term_at 76 x_text) (term_at 78 b_text)

-- the developments that are written out
pub record DevelopmentsAreMade : Type 0 where
  -- the counter's machine and implementation
  pub counter : below (Some (below None counter_text)) counter_code_text ≡ counter_made
  pub counter_is_right : machine_verdict counter_text ≡ accepted (below None counter_text)
  -- a set, a constant and a concrete variable, and a refinement
  pub refines : below first_level refinement_text ≡ refined
  pub machine_is_right : machine_verdict machine_text ≡ accepted (below None machine_text)
  pub refinement_is_right : lower_verdict refinement_text ≡ accepted refined

-- the notation's words, in step(x), where x has the number 2 and what is bound those from 3 on; v has the number 1
pub record WordsAreRead : Type 0 where
  -- SELECT x = a THEN v := a WHEN x = b THEN v := b ELSE skip END
  pub select : step_done (sub 60 (sub_select is_a to_a (branch_and is_b to_b (else_branch (sub 90 sub_skip)))))
      ≡ choice (choice (guard (binary Eq (variable 2) (element 0 0)) (assign ((1, element 0 0) ∷ [])))
      (guard (binary Eq (variable 2) (element 0 1)) (assign ((1, element 0 1) ∷ []))))
      (guard (binary Conjunction (unary Negation (binary Eq (variable 2) (element 0 0)))
      (unary Negation (binary Eq (variable 2) (element 0 1)))) skip)
  -- CHOICE v := a OR v := b OR skip END
  pub choose : step_done (sub 60 (sub_choice to_a (choice_and to_b (choice_and (sub 90 sub_skip) no_choices))))
      ≡ choice (choice (assign ((1, element 0 0) ∷ [])) (assign ((1, element 0 1) ∷ []))) skip
  -- CHOICE with one branch is that branch
  pub choose_one : step_done (sub 60 (sub_choice to_a no_choices)) ≡ assign ((1, element 0 0) ∷ [])
  -- IF x = a THEN v := a ELSIF x = b THEN v := b END
  pub elsif : step_done (sub 60 (sub_if is_a to_a (branch_and is_b to_b no_branches)))
      ≡ if_else (binary Eq (variable 2) (element 0 0)) (assign ((1, element 0 0) ∷ []))
      (if_else (binary Eq (variable 2) (element 0 1)) (assign ((1, element 0 1) ∷ [])) skip)
  -- LET t BE t = x IN v := t END
  pub let_in : step_done
      (sub 60 (sub_let (name_at 64 t_text ∷ []) (infix_at 66 Equal (term_at 66 t_text) (term_at 68 x_text)) (takes_at 70 v_text t_text)))
      ≡ any (3 ∷ []) (guard (binary Eq (variable 3) (variable 2)) (assign ((1, variable 3) ∷ [])))
  -- v :: S
  pub member : step_done (sub 60 (sub_member (name_at 60 v_text) (term_at 64 s_text))) ≡
      any (3 ∷ []) (guard (binary In (variable 3) (named (Enum 0))) (assign ((1, variable 3) ∷ [])))
  -- v :( v = v$0 )
  pub such_that : step_done
      (sub 60 (sub_such (name_at 60 v_text ∷ []) (infix_at 64 Equal (term_at 64 v_text) (raw 68 (raw_level_name v_text 0))))) ≡
      becomes_such ((1, 3) ∷ []) (binary Eq (variable 1) (variable 3))
  -- BEGIN round a PRE: it is the outermost precondition all the same, and types the input
  pub begin_pre : machine_verdict (machine_of (operation [] (name_at 50 step_text) (name_at 55 x_text ∷ [])
      (sub 58 (sub_begin (sub 60 (sub_pre (in_set 64 x_text) (takes_at 70 v_text x_text))))) ∷ []))
      ≡ accepted (below None machine_text)
  -- an output is typed by its first assignment
  pub output : machine_verdict
      (machine_of (operation (name_at 48 u_text ∷ []) (name_at 50 step_text) [] (takes_at 60 u_text v_text) ∷ [])) ≡
      accepted (below None (machine_of (operation (name_at 48 u_text ∷ []) (name_at 50 step_text) [] (takes_at 60 u_text v_text) ∷ [])))

-- the faults
pub record FaultsAreTold : Type 0 where
  -- ---- 6
  -- a concrete variable again as an abstract one; again as a concrete one it is right, and changes nothing
  pub concrete_first : lower_verdict
      (refinement_of (name_at 20 u_text ∷ name_at 22 v_text ∷ []) (started both_start ∷ stepping by_local ∷ [])) ≡ at_fault (twice_named 22)
  pub concrete_again : lower_verdict (refinement_of (name_at 20 u_text ∷ []) (clause ConcreteVariables 34
      (clause_names (name_at 36 v_text ∷ [])) ∷ started both_start ∷ stepping by_local ∷ [])) ≡ accepted refined
  -- a constant with the name of a variable above, and a variable with the name of an element above
  pub variable_above : lower_verdict (refinement_of (name_at 20 u_text ∷ []) (clause Constants 34 (clause_names (name_at 36 v_text ∷ [])) ∷
      started both_start ∷ stepping by_local ∷ [])) ≡ at_fault (twice_named 36)
  pub element_above : lower_verdict
      (refinement_of (name_at 20 u_text ∷ name_at 22 a_text ∷ []) (started both_start ∷ stepping by_local ∷ [])) ≡ at_fault (twice_named 22)
  -- VARIABLES u and CONCRETE_VARIABLES u
  pub both_clauses : lower_verdict (refinement_of (name_at 20 u_text ∷ []) (clause ConcreteVariables 34
      (clause_names (name_at 36 u_text ∷ [])) ∷ started both_start ∷ stepping by_local ∷ [])) ≡ at_fault (twice_named 36)
  -- an input with the name of an output
  pub header : machine_verdict (machine_of (operation (name_at 48 x_text ∷ []) (name_at 50 step_text) (name_at 55 x_text ∷ [])
      (sub 60 (sub_pre (in_set 64 x_text) (takes_at 70 x_text a_text))) ∷ [])) ≡ at_fault (twice_named 55)
  -- the name of the machine again
  pub component_twice : lower_verdict (record refinement_text { name = name_at 8 (77 ∷ []) }) ≡ at_fault (twice_named 8)
  -- ---- 7
  -- an unknown name is told before ; in a machine
  pub unknown : machine_verdict (machine_with (sub 70 (sub_sequence (takes_at 70 v_text a_text) (takes_at 80 v_text u_text)))) ≡
      at_fault (unknown_name 80)
  -- in an operation that the machine lacks too
  pub unknown_in_other : lower_verdict (refinement_of (name_at 20 u_text ∷ []) (started both_start ∷ with_operations
      (step_by (name_at 58 x_text ∷ []) by_local ∷ operation [] (name_at 90 t_text) [] (takes_at 94 u_text f_text) ∷ []) ∷ []))
      ≡ at_fault (unknown_name 94)
  -- v$0 outside of v :( )
  pub old_value : machine_verdict (machine_with (takes 70 v_text (raw 74 (raw_level_name v_text 0)))) ≡ at_fault (unknown_name 74)
  -- ---- 9
  -- an invariant that is an expression
  pub no_predicate : machine_verdict (component AsMachine (77 ∷ []) None (clause Invariant 10 (clause_term (number 20 1)) ∷ [])) ≡
      at_fault (not_predicate 20)
  -- ---- 8
  -- a header with an input more, which has no type
  pub longer : lower_verdict (refinement_of (name_at 20 u_text ∷ []) (started both_start ∷
      with_operations (step_by (name_at 58 x_text ∷ name_at 59 u_text ∷ []) by_local ∷ []) ∷ [])) ≡ at_fault (without_type 59)
  -- a constant and a variable without a type, and a set that is a name alone
  pub constant : machine_verdict (component AsMachine (77 ∷ []) None (clause Constants 10 (clause_names (name_at 20 c_text ∷ [])) ∷ [])) ≡
      at_fault (without_type 20)
  pub variable_untyped : machine_verdict
      (component AsMachine (77 ∷ []) None (clause Variables 10 (clause_names (name_at 20 v_text ∷ [])) ∷ [])) ≡ at_fault (without_type 20)
  pub set_alone : machine_verdict (component AsMachine (77 ∷ []) None
      (clause Sets 10 (clause_sets (record { name = name_at 20 s_text; elements = [] } ∷ [])) ∷ [])) ≡ at_fault (without_type 20)
  -- ANY t WHERE a = t: the name stands right
  pub untyped_name : machine_verdict
      (machine_with (sub 60 (sub_any (name_at 64 t_text ∷ []) (infix_at 66 Equal (term_at 66 a_text) (term_at 70 t_text)) to_a))) ≡
      at_fault (without_type 64)
  -- ---- 10
  -- no initialisation where a concrete variable stands from above
  pub no_start : lower_verdict (refinement_of (name_at 20 u_text ∷ []) (stepping by_local ∷ [])) ≡ at_fault (wrong_operation 0)
  -- ; in a machine
  pub sequence : machine_verdict (machine_with (sub 70 (sub_sequence (takes_at 70 v_text a_text) (takes_at 80 v_text a_text)))) ≡
      at_fault (wrong_operation 70)
  -- a call, which stands nowhere yet; its arguments are not asked
  pub call : machine_verdict (machine_with (sub 70 (sub_call [] (name_at 70 t_text) (tree_and (term_at 72 u_text) no_trees)))) ≡
      at_fault (wrong_operation 70)
  -- ; inside || in a refinement
  pub inside : lower_verdict (refinement_of (name_at 20 u_text ∷ []) (started (sub 40 (sub_parallel (takes_at 40 u_text c_text)
      (sub 50 (sub_begin (sub 51 (sub_sequence (takes_at 51 v_text a_text) (takes_at 53 v_text b_text))))))) ∷ stepping by_local ∷ [])) ≡
      at_fault (wrong_operation 51)
  -- a header without the input, an operation that the machine lacks, and one that is missing
  pub shorter : lower_verdict (refinement_of (name_at 20 u_text ∷ [])
      (started both_start ∷ with_operations (step_by [] by_local ∷ []) ∷ [])) ≡ at_fault (wrong_operation 56)
  pub other_operation : lower_verdict (refinement_of (name_at 20 u_text ∷ []) (started both_start ∷ with_operations (step_by
      (name_at 58 x_text ∷ []) by_local ∷ operation [] (name_at 90 t_text) [] (sub 94 sub_skip) ∷ []) ∷ [])) ≡ at_fault (wrong_operation 90)
  pub missing : lower_verdict (refinement_of (name_at 20 u_text ∷ []) (started both_start ∷ [])) ≡ at_fault (wrong_operation 0)
  -- ---- 12
  -- an input is written
  pub input : machine_verdict (machine_with (takes_at 70 x_text a_text)) ≡ at_fault (wrong_write 70)
  -- v, v := a, b; and v := a, b
  pub twice : machine_verdict (machine_with (sub 70 (sub_assign (name_at 70 v_text ∷ name_at 72 v_text ∷ [])
      (tree_and (term_at 76 a_text) (tree_and (term_at 78 b_text) no_trees))))) ≡ at_fault (wrong_write 72)
  pub lengths : machine_verdict
      (machine_with (sub 70 (sub_assign (name_at 70 v_text ∷ []) (tree_and (term_at 76 a_text) (tree_and (term_at 78 b_text) no_trees))))) ≡
      at_fault (wrong_write 70)
  -- both sides of || write v
  pub both_write : lower_verdict (refinement_of (name_at 20 u_text ∷ []) (started
      (sub 40 (sub_parallel (takes_at 40 v_text a_text) (takes_at 50 v_text b_text))) ∷ stepping by_local ∷ [])) ≡ at_fault (wrong_write 50)
  -- ---- 14
  -- a constant without a value, one outside INT, one of another type, one that stands twice, and a right one
  pub no_value : lower_verdict (code_with (takes_at 40 v_text a_text) []) ≡ at_fault (wrong_value 8)
  pub large_value : lower_verdict (code_with (takes_at 40 v_text a_text) (c_is (raw 34 (raw_number (MAXINT +ℤ pos 1))) ∷ [])) ≡
      at_fault (wrong_value 30)
  pub other_value : lower_verdict (code_with (takes_at 40 v_text a_text) (c_is (term_at 34 a_text) ∷ [])) ≡ at_fault (wrong_value 30)
  pub value_twice : lower_verdict (code_with (takes_at 40 v_text a_text)
      (c_is (number 34 5) ∷ record { name = name_at 36 c_text; value = number 37 5 } ∷ [])) ≡ at_fault (wrong_value 36)
  pub right_value : lower_verdict (code_doing (takes_at 40 v_text a_text)) ≡
      accepted (below first_level (code_doing (takes_at 40 v_text a_text)))
  -- a deferred set above without a size, one without a size that has an entry, and one with a size
  pub no_size : deferred_verdict 0 (c_is (number 34 5) ∷ []) ≡ at_fault (wrong_value 8)
  pub entry_of_set : deferred_verdict 0 (c_is (number 34 5) ∷ d_is ∷ []) ≡ at_fault (wrong_value 36)
  pub right_size : deferred_verdict 4 (c_is (number 34 5) ∷ [])
      ≡ accepted (below (above_code 4) (code_doing (takes_at 40 v_text a_text)))
  -- ---- 11
  -- v :: S is not B0, which is told after a wrong value
  pub not_code : lower_verdict (code_doing (sub 40 (sub_member (name_at 40 v_text) (term_at 44 s_text)))) ≡ at_fault (not_b0 40)
  pub value_first : lower_verdict (code_with (sub 40 (sub_member (name_at 40 v_text) (term_at 44 s_text))) []) ≡ at_fault (wrong_value 8)
  -- VAR t IN t := 1 + c ** 2 ; v := a END is at fault at c ** 2
  pub power : lower_verdict (code_doing (sub 40 (sub_var (name_at 42 t_text ∷ []) (sub 44 (sub_sequence (takes 44 t_text (infix_at 45
      Plus (number 45 1) (infix_at 46 Power (term_at 46 c_text) (number 48 2)))) (takes_at 50 v_text a_text)))))) ≡ at_fault (not_b0 46)
  -- IF c = 5 THEN v := a ELSIF v = b THEN skip ELSE v := b END is B0
  pub branches : lower_verdict
      (code_doing (sub 40 (sub_if (infix_at 41 Equal (term_at 41 c_text) (number 43 5)) (takes_at 44 v_text a_text) (branch_and
      (infix_at 46 Equal (term_at 46 v_text) (term_at 47 b_text)) (sub 48 sub_skip) (else_branch (takes_at 50 v_text b_text))))))
      ≡ accepted (below first_level
      (code_doing (sub 40 (sub_if (infix_at 41 Equal (term_at 41 c_text) (number 43 5)) (takes_at 44 v_text a_text) (branch_and
      (infix_at 46 Equal (term_at 46 v_text) (term_at 47 b_text)) (sub 48 sub_skip) (else_branch (takes_at 50 v_text b_text)))))))
  -- a fill over the declared domain, and over another
  pub fill : lower_verdict (array_code (filled_at 46 9)) ≡ accepted (below first_level (array_code (filled_at 46 9)))
  pub other_fill : lower_verdict (array_code (filled_at 46 8)) ≡ at_fault (not_b0 46)
  -- ---- limit 5
  -- MOST_NAMES names and one more
  pub many : machine_verdict
      (component AsMachine (77 ∷ []) None (clause Constants 10 (clause_names (replicate (suc MOST_NAMES) (name_at 20 c_text))) ∷ [])) ≡
      past_limit 5

-- names get their types in an order: each from the first conjunct whose right side has a type by then
pub record TypesComeInOrder : Type 0 where
  pub right : machine_verdict (stepping_by (sub 80 sub_skip)) ≡ accepted (below None (stepping_by (sub 80 sub_skip)))
  -- a variable by the first conjunct, which names a constant: v = c & v : BOOL is at fault at the second v
  pub variable_by_constant : machine_verdict (standing_by (both (infix_at 28 Equal (term_at 28 v_text) (term_at 30 c_text))
      (both (is_truth 34 v_text) (infix_at 44 Equal (term_at 44 u_text) (term_at 46 c_text))))) ≡ at_fault (without_type 34)
  -- one pass: u = v & v : 0 .. 5 leaves u without a type, at its declaration
  pub left_to_right : machine_verdict (standing_by (both (infix_at 28 Equal (term_at 28 u_text) (term_at 30 v_text))
      (is_in 34 v_text (up_to 38 5)))) ≡ at_fault (without_type 24)
  -- an input by a variable: x = v & x : BOOL
  pub input_by_variable : machine_verdict (stepping_with (both (infix_at 82 Equal (term_at 82 x_text) (term_at 84 v_text))
      (is_truth 88 x_text))) ≡ at_fault (without_type 88)
  -- a name of ANY by a variable, and by a name of an ANY around it
  pub any_by_variable : machine_verdict (stepping_by (sub 80 (sub_any (name_at 82 x_text ∷ [])
      (both (infix_at 84 Equal (term_at 84 x_text) (term_at 86 v_text)) (is_truth 88 x_text)) (sub 96 sub_skip)))) ≡
      at_fault (without_type 88)
  pub any_by_any : machine_verdict (stepping_by (sub 80 (sub_any (name_at 82 t_text ∷ []) (is_in 84 t_text (up_to 86 5))
      (sub 90 (sub_any (name_at 92 x_text ∷ []) (both (infix_at 94 Equal (term_at 94 x_text) (term_at 96 t_text)) (is_truth 98 x_text))
      (sub 104 sub_skip)))))) ≡ at_fault (without_type 98)
  -- an output waits for a name of ANY: ANY t WHERE t : 0 .. 5 THEN s := t END
  pub output_waits : machine_verdict
      (telling_by (sub 80 (sub_any (name_at 82 t_text ∷ []) (is_in 84 t_text (up_to 86 5)) (takes_at 90 s_text t_text)))) ≡ accepted
      (below None (telling_by (sub 80 (sub_any (name_at 82 t_text ∷ []) (is_in 84 t_text (up_to 86 5)) (takes_at 90 s_text t_text)))))
  -- names that wait for each other have none: ANY t WHERE t = s THEN s := t END
  pub circle : machine_verdict (telling_by (sub 80 (sub_any (name_at 82 t_text ∷ [])
      (infix_at 84 Equal (term_at 84 t_text) (term_at 86 s_text)) (takes_at 90 s_text t_text)))) ≡ at_fault (without_type 72)
  -- v :: BOOL is at fault at BOOL
  pub domain_of_another : machine_verdict (stepping_by (sub 80 (sub_member (name_at 80 v_text) (raw 85 (raw_constant BoolWord))))) ≡
      at_fault (without_type 85)
  -- v := 1, {} and v, u := 1 are wrong writes: {} has no place that asks a type
  pub no_place : machine_verdict (stepping_by (sub 80 (sub_assign (name_at 80 v_text ∷ [])
      (tree_and (number 85 1) (tree_and (raw 88 raw_empty_set) no_trees))))) ≡ at_fault (wrong_write 80)
  -- so for a := {}, a being an element
  pub element_written : machine_verdict (machine_with (takes 70 a_text (raw 75 raw_empty_set))) ≡ at_fault (wrong_write 70)
  pub no_term : machine_verdict (stepping_by (sub 80 (sub_assign (name_at 80 v_text ∷ name_at 82 u_text ∷ [])
      (tree_and (number 85 1) no_trees)))) ≡ at_fault (wrong_write 80)

-- of two faults the one of the earlier kind is told: names that stand twice, unknown names, what is no predicate, what has no type, wrong
-- operations, writes and values, and what is not B0
pub record KindsComeInOrder : Type 0 where
  -- an unknown name before a predicate that is none, which comes before a type that is none
  pub unknown_first : machine_verdict (standing_by wrong_twice) ≡ at_fault (unknown_name 34)
  pub sort_first : machine_verdict (standing_by (both (infix_at 28 Equal (number 28 1) (raw 30 (raw_constant TrueWord))) (number 34 1))) ≡
      at_fault (not_predicate 34)
  -- a name that stands twice before all
  pub twice_first : machine_verdict (typed_machine wrong_twice
      (operation [] (name_at 72 step_text) (name_at 76 x_text ∷ name_at 78 x_text ∷ []) (sub 80 sub_skip))) ≡ at_fault (twice_named 78)
  -- a type before ; in a machine, and that before a wrong write
  pub type_first : machine_verdict (stepping_by (sub 80 (sub_sequence (takes 80 c_text (number 85 1))
      (takes 90 v_text (raw 95 (raw_constant TrueWord)))))) ≡ at_fault (without_type 95)
  pub place_first : machine_verdict (stepping_by (sub 80 (sub_sequence (takes 80 c_text (number 85 1)) (takes 90 v_text (number 95 1))))) ≡
      at_fault (wrong_operation 80)
