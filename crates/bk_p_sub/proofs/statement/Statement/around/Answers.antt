use Rattle.std.proofs.Common.{◌≡◌, ◌≤◌, ◌∙◌, ◌+◌, sym, ap, subst, arith}
use Rattle.std.proofs.lemmas.Result.{IfOk-weaker}
use Rattle.bk_limits.specs.declared.TheConstants.{GREATEST_TREE_HEIGHT}
use Rattle.bk_raw.specs.Trees.RawTree.{RawTree, tree_height}
use Rattle.bk_raw.specs.Trees.SubTree.{sub, sub_begin, sub_var, sub_height, sub_node_height}
use Rattle.bk_p_sub.specs.Statements.{IsTerm, IsStatement, IsAround, head_node}
use Rattle.bk_p_sub.proofs.Heights.{is_built, around_too_high, under_too_high, built_around, head_height}
use Rattle.bk_p_sub.proofs.statement.Statement.around.Goals as goal

pub returns-in_default : goal.returns-in_default
returns-in_default c = λ s form h w. around_too_high c.args.at c.args.block form c.args.self s c.in_default.is h w

pub returns-in-Begin : goal.returns-in-Begin
returns-in-Begin c = IfOk-weaker c.built.result _ _ (λ new made s form h w.
    let k : (c.in-Built.body.value ≡ s) × (c.in-Built.height ≡ sub_height s) × (c.in-Built.height ≤ GREATEST_TREE_HEIGHT) = subst (λ t. IsStatement s t) c.in-Built.is h in
    let e : form ≡ sub_begin = subst (λ b. IsAround form b) c.in-Begin.is w in
    built_around c.args.at sub_begin form c.in-Built.body.value s c.in-Built.height new e k.0 (ap (λ n. n + 1) (sym k.1)) made) c.built.ensures

pub returns-in-Var : goal.returns-in-Var
returns-in-Var c = IfOk-weaker c.built-in-Var.result _ _ (λ new made s form h w.
    let k : (c.in-Built.body.value ≡ s) × (c.in-Built.height ≡ sub_height s) × (c.in-Built.height ≤ GREATEST_TREE_HEIGHT) = subst (λ t. IsStatement s t) c.in-Built.is h in
    let e : form ≡ sub_var c.in-Var.names.items = subst (λ b. IsAround form b) c.in-Var.is w in
    built_around c.args.at (sub_var c.in-Var.names.items) form c.in-Built.body.value s c.in-Built.height new e k.0 (ap (λ n. n + 1) (sym k.1)) made) c.built-in-Var.ensures

pub returns-in_default-test : goal.returns-in_default-test
returns-in_default-test c = λ s form h w.
    let u : (p : RawTree) × (form ≡ head_node c.in-Under.head p) × IsTerm p c.in-Under.test = subst (λ b. IsAround form b) c.in-Under.is w in
    under_too_high c.args.at c.in-Under.head form c.in-Under.test u.0 s (ap is_built c.in_default-test.is) u.1 u.2

pub returns-in-Built-test : goal.returns-in-Built-test
returns-in-Built-test c = IfOk-weaker c.built-in-Under.result _ _ (λ new made s form h w.
    let k : (c.in-Built.body.value ≡ s) × (c.in-Built.height ≡ sub_height s) × (c.in-Built.height ≤ GREATEST_TREE_HEIGHT) = subst (λ t. IsStatement s t) c.in-Built.is h in
    let u : (p : RawTree) × (form ≡ head_node c.in-Under.head p) × IsTerm p c.in-Under.test = subst (λ b. IsAround form b) c.in-Under.is w in
    let q : (c.in-Built-test.test.value ≡ u.0) × (c.in-Built-test.other ≡ tree_height u.0) × (c.in-Built-test.other ≤ GREATEST_TREE_HEIGHT) = subst (λ t. IsTerm u.0 t) c.in-Built-test.is u.2 in
    made (sub c.args.at (form s)) ((λ i. sub c.args.at (c.node_under.ensures i)) ∙ (λ i. sub c.args.at (head_node c.in-Under.head ((c.into_inner.ensures ∙ q.0) i) (k.0 i))) ∙ (λ i. sub c.args.at (sym u.1 i s))) ((λ i. sub_node_height (u.1 i s)) ∙ omega (arith, head_height c.in-Under.head u.0 s, k.1, q.1, c.max.ensures))) c.built-in-Under.ensures
