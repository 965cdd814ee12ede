-- Each substitution as a tree of numbers, which gives it back: by it a proof tells substitutions apart.
use Rattle.std.specs.Prelude.{◌≡◌, zero, suc, refl}
use Rattle.std.proofs.Common.{ap, sym, ◌∙◌}
use Rattle.std.specs.Coded.{Coded}
use base.Stored.{Gv, gnil, gnum, gcons}
use Rattle.bk_raw.specs.Codes.RawCodes.{name_code, name_back, name_back-code, names_code, names_back, names_back-code}
use Rattle.bk_raw.specs.Codes.RawCodes.{tree_code, tree_back, tree_back-code, trees_code, trees_back, trees_back-code}
use Rattle.bk_raw.specs.Trees.SubTree.{SubTree, sub, SubNode, sub_skip, sub_assign, sub_assign_at, sub_member, sub_such, sub_call}
use Rattle.bk_raw.specs.Trees.SubTree.{sub_begin, sub_pre, sub_assert, sub_if, sub_choice, sub_select, sub_any, sub_let, sub_var, sub_while}
use Rattle.bk_raw.specs.Trees.SubTree.{sub_parallel, sub_sequence, Branches, no_branches, else_branch, branch_and}
use Rattle.bk_raw.specs.Trees.SubTree.{Choices, no_choices, choice_and}

-- substitutions, nodes and lists, each node by its number and its parts
abbrev mutual
  pub sub_code : SubTree → Gv
  sub_code (sub at node) = gcons (gnum at) (sub_node_code node)

  pub sub_node_code : SubNode → Gv
  sub_node_code sub_skip = gnil
  sub_node_code (sub_assign a0 a1) = gcons (gnum 0) (gcons (names_code a0) (trees_code a1))
  sub_node_code (sub_assign_at a0 a1 a2) = gcons (gnum 1) (gcons (name_code a0) (gcons (tree_code a1) (tree_code a2)))
  sub_node_code (sub_member a0 a1) = gcons (gnum 2) (gcons (name_code a0) (tree_code a1))
  sub_node_code (sub_such a0 a1) = gcons (gnum 3) (gcons (names_code a0) (tree_code a1))
  sub_node_code (sub_begin a0) = gcons (gnum 4) (sub_code a0)
  sub_node_code (sub_pre a0 a1) = gcons (gnum 5) (gcons (tree_code a0) (sub_code a1))
  sub_node_code (sub_assert a0 a1) = gcons (gnum 6) (gcons (tree_code a0) (sub_code a1))
  sub_node_code (sub_if a0 a1 a2) = gcons (gnum 7) (gcons (tree_code a0) (gcons (sub_code a1) (branches_code a2)))
  sub_node_code (sub_choice a0 a1) = gcons (gnum 8) (gcons (sub_code a0) (choices_code a1))
  sub_node_code (sub_select a0 a1 a2) = gcons (gnum 9) (gcons (tree_code a0) (gcons (sub_code a1) (branches_code a2)))
  sub_node_code (sub_any a0 a1 a2) = gcons (gnum 10) (gcons (names_code a0) (gcons (tree_code a1) (sub_code a2)))
  sub_node_code (sub_let a0 a1 a2) = gcons (gnum 11) (gcons (names_code a0) (gcons (tree_code a1) (sub_code a2)))
  sub_node_code (sub_var a0 a1) = gcons (gnum 12) (gcons (names_code a0) (sub_code a1))
  sub_node_code (sub_while a0 a1 a2 a3) = gcons (gnum 13) (gcons (tree_code a0) (gcons (sub_code a1) (gcons (tree_code a2) (tree_code a3))))
  sub_node_code (sub_parallel a0 a1) = gcons (gnum 14) (gcons (sub_code a0) (sub_code a1))
  sub_node_code (sub_sequence a0 a1) = gcons (gnum 15) (gcons (sub_code a0) (sub_code a1))
  sub_node_code (sub_call a0 a1 a2) = gcons (gnum 16) (gcons (names_code a0) (gcons (name_code a1) (trees_code a2)))

  pub branches_code : Branches → Gv
  branches_code no_branches = gnil
  branches_code (else_branch s) = gcons (gnum 0) (sub_code s)
  branches_code (branch_and p s bs) = gcons (gnum 1) (gcons (tree_code p) (gcons (sub_code s) (branches_code bs)))

  pub choices_code : Choices → Gv
  choices_code no_choices = gnil
  choices_code (choice_and s cs) = gcons (sub_code s) (choices_code cs)

-- the substitution of a code
abbrev mutual
  pub sub_back : Gv → SubTree
  sub_back (gcons (gnum n) g) = sub n (sub_node_back g)
  sub_back _ = sub 0 sub_skip

  pub sub_node_back : Gv → SubNode
  sub_node_back (gcons (gnum zero) (gcons a0 a1)) = sub_assign (names_back a0) (trees_back a1)
  sub_node_back (gcons (gnum (suc zero)) (gcons a0 (gcons a1 a2))) = sub_assign_at (name_back a0) (tree_back a1) (tree_back a2)
  sub_node_back (gcons (gnum (suc (suc zero))) (gcons a0 a1)) = sub_member (name_back a0) (tree_back a1)
  sub_node_back (gcons (gnum (suc (suc (suc zero)))) (gcons a0 a1)) = sub_such (names_back a0) (tree_back a1)
  sub_node_back (gcons (gnum (suc (suc (suc (suc zero))))) a0) = sub_begin (sub_back a0)
  sub_node_back (gcons (gnum (suc (suc (suc (suc (suc zero)))))) (gcons a0 a1)) = sub_pre (tree_back a0) (sub_back a1)
  sub_node_back (gcons (gnum (suc (suc (suc (suc (suc (suc zero))))))) (gcons a0 a1)) = sub_assert (tree_back a0) (sub_back a1)
  sub_node_back (gcons (gnum (suc (suc (suc (suc (suc (suc (suc zero)))))))) (gcons a0 (gcons a1 a2))) =
      sub_if (tree_back a0) (sub_back a1) (branches_back a2)
  sub_node_back (gcons (gnum (suc (suc (suc (suc (suc (suc (suc (suc zero))))))))) (gcons a0 a1)) =
      sub_choice (sub_back a0) (choices_back a1)
  sub_node_back (gcons (gnum (suc (suc (suc (suc (suc (suc (suc (suc (suc zero)))))))))) (gcons a0 (gcons a1 a2))) =
      sub_select (tree_back a0) (sub_back a1) (branches_back a2)
  sub_node_back (gcons (gnum (suc (suc (suc (suc (suc (suc (suc (suc (suc (suc zero))))))))))) (gcons a0 (gcons a1 a2))) =
      sub_any (names_back a0) (tree_back a1) (sub_back a2)
  sub_node_back (gcons (gnum (suc (suc (suc (suc (suc (suc (suc (suc (suc (suc (suc zero)))))))))))) (gcons a0 (gcons a1 a2))) =
      sub_let (names_back a0) (tree_back a1) (sub_back a2)
  sub_node_back (gcons (gnum (suc (suc (suc (suc (suc (suc (suc (suc (suc (suc (suc (suc zero))))))))))))) (gcons a0 a1)) =
      sub_var (names_back a0) (sub_back a1)
  sub_node_back (gcons (gnum (suc (suc (suc (suc (suc (suc (suc (suc (suc (suc (suc (suc (suc zero))))))))))))))
      (gcons a0 (gcons a1 (gcons a2 a3)))) = sub_while (tree_back a0) (sub_back a1) (tree_back a2) (tree_back a3)
  sub_node_back (gcons (gnum (suc (suc (suc (suc (suc (suc (suc (suc (suc (suc (suc (suc (suc (suc zero))))))))))))))) (gcons a0 a1)) =
      sub_parallel (sub_back a0) (sub_back a1)
  sub_node_back (gcons (gnum (suc (suc (suc (suc (suc (suc (suc (suc (suc (suc (suc (suc (suc (suc (suc zero))))))))))))))))
      (gcons a0 a1)) = sub_sequence (sub_back a0) (sub_back a1)
  sub_node_back (gcons (gnum (suc (suc (suc (suc (suc (suc (suc (suc (suc (suc (suc (suc (suc (suc (suc (suc zero)))))))))))))))))
      (gcons a0 (gcons a1 a2))) = sub_call (names_back a0) (name_back a1) (trees_back a2)
  sub_node_back _ = sub_skip

  pub branches_back : Gv → Branches
  branches_back (gcons (gnum zero) g) = else_branch (sub_back g)
  branches_back (gcons (gnum (suc n)) (gcons p (gcons s bs))) = branch_and (tree_back p) (sub_back s) (branches_back bs)
  branches_back _ = no_branches

  pub choices_back : Gv → Choices
  choices_back (gcons g h) = choice_and (sub_back g) (choices_back h)
  choices_back _ = no_choices

-- a code gives its substitution back
mutual
  pub sub_back-code : (s : SubTree) → sub_back (sub_code s) ≡ s
  sub_back-code (sub at node) = λ i. sub at (sub_node_back-code node i)

  pub sub_node_back-code : (n : SubNode) → sub_node_back (sub_node_code n) ≡ n
  sub_node_back-code sub_skip = refl
  sub_node_back-code (sub_assign a0 a1) = λ i. sub_assign (names_back-code a0 i) (trees_back-code a1 i)
  sub_node_back-code (sub_assign_at a0 a1 a2) = λ i. sub_assign_at (name_back-code a0 i) (tree_back-code a1 i) (tree_back-code a2 i)
  sub_node_back-code (sub_member a0 a1) = λ i. sub_member (name_back-code a0 i) (tree_back-code a1 i)
  sub_node_back-code (sub_such a0 a1) = λ i. sub_such (names_back-code a0 i) (tree_back-code a1 i)
  sub_node_back-code (sub_begin a0) = λ i. sub_begin (sub_back-code a0 i)
  sub_node_back-code (sub_pre a0 a1) = λ i. sub_pre (tree_back-code a0 i) (sub_back-code a1 i)
  sub_node_back-code (sub_assert a0 a1) = λ i. sub_assert (tree_back-code a0 i) (sub_back-code a1 i)
  sub_node_back-code (sub_if a0 a1 a2) = λ i. sub_if (tree_back-code a0 i) (sub_back-code a1 i) (branches_back-code a2 i)
  sub_node_back-code (sub_choice a0 a1) = λ i. sub_choice (sub_back-code a0 i) (choices_back-code a1 i)
  sub_node_back-code (sub_select a0 a1 a2) = λ i. sub_select (tree_back-code a0 i) (sub_back-code a1 i) (branches_back-code a2 i)
  sub_node_back-code (sub_any a0 a1 a2) = λ i. sub_any (names_back-code a0 i) (tree_back-code a1 i) (sub_back-code a2 i)
  sub_node_back-code (sub_let a0 a1 a2) = λ i. sub_let (names_back-code a0 i) (tree_back-code a1 i) (sub_back-code a2 i)
  sub_node_back-code (sub_var a0 a1) = λ i. sub_var (names_back-code a0 i) (sub_back-code a1 i)
  sub_node_back-code (sub_while a0 a1 a2 a3) =
      λ i. sub_while (tree_back-code a0 i) (sub_back-code a1 i) (tree_back-code a2 i) (tree_back-code a3 i)
  sub_node_back-code (sub_parallel a0 a1) = λ i. sub_parallel (sub_back-code a0 i) (sub_back-code a1 i)
  sub_node_back-code (sub_sequence a0 a1) = λ i. sub_sequence (sub_back-code a0 i) (sub_back-code a1 i)
  sub_node_back-code (sub_call a0 a1 a2) = λ i. sub_call (names_back-code a0 i) (name_back-code a1 i) (trees_back-code a2 i)

  pub branches_back-code : (bs : Branches) → branches_back (branches_code bs) ≡ bs
  branches_back-code no_branches = refl
  branches_back-code (else_branch s) = λ i. else_branch (sub_back-code s i)
  branches_back-code (branch_and p s bs) = λ i. branch_and (tree_back-code p i) (sub_back-code s i) (branches_back-code bs i)

  pub choices_back-code : (cs : Choices) → choices_back (choices_code cs) ≡ cs
  choices_back-code no_choices = refl
  choices_back-code (choice_and s cs) = λ i. choice_and (sub_back-code s i) (choices_back-code cs i)

-- so substitutions can be told apart by their codes
abbrev pub coded_sub : Coded SubTree
coded_sub = record { code = sub_code; inj = λ a b e. sym (sub_back-code a) ∙ ap sub_back e ∙ sub_back-code b }
