use Rattle.std.proofs.Common.{◌≡◌, ◌∙◌, ◌+◌, ◌*◌, ◌<◌, ◌++◌, ◌∷◌, ap, sym, subst, refl, ℕ, List, [], true, false, Bool, length, suc, arith}
use Rattle.std.proofs.lemmas.Result.{IfOk-weaker}
use Rattle.bk_form.specs.Formula.{Formula, binary, for_all, formula_size}
use Rattle.bk_form.specs.FormShown.{shown}
use Rattle.bk_form.specs.declared.operator.BinOp.{BinOp}
use Rattle.bk_bind.specs.Opening.{opened}
use Rattle.bk_seq.specs.Sequents.{Sequent, sequent_of}
use Rattle.bk_kernel.specs.declared.rule.Rule.{Rule}
use Rattle.bk_kernel.specs.declared.rule.Rule.TheVariants.{Imp}
use Rattle.bk_kernel.specs.Naming.{names_of}
use Rattle.bk_auto.specs.Easy.{supposed}
use Rattle.bk_auto.specs.Found.{Told, Settles, splits}
use Rattle.bk_auto.proofs.Wider.{has_new-refl, has_new-trans}
use Rattle.bk_auto.proofs.Opened.{size_opened}
use Rattle.bk_auto.proofs.Tellings.{told_closed, told_false, told_at_most, told_less, hard_sides, hard_shape}
use Rattle.bk_auto.proofs.Shapes.{reads_false, reads_at_most, reads_less, true_told, first_ready, second_ready, first_hard, both_told, supposed_ready, supposed_told, types_listed, fixed_ready, fixed_told}
use Rattle.bk_auto.proofs.easy.+shapes.Goals as goal

-- ---- the goal is obvious, or goes by its shape
pub easy-close-requires : goal.easy-close-requires
easy-close-requires t c = sym c.is_obvious.ensures ∙ c.if-is_obvious.true

pub easy-returns-then-is_obvious-clause-new : goal.easy-returns-then-is_obvious-clause-new
easy-returns-then-is_obvious-clause-new t c = has_new-refl c.args.types.now

pub easy-returns-then-is_obvious-clause-told : goal.easy-returns-then-is_obvious-clause-told
easy-returns-then-is_obvious-clause-told t c = told_closed c.args.types.now c.args.rules.now.items c.close.new.rules.items (sequent_of c.args.sequent.now) c.requires c.in_ok-close.ensures

pub easy-by_shape-requires : goal.easy-by_shape-requires
easy-by_shape-requires t c = (omega arith, (c.requires, sym c.is_obvious.ensures ∙ c.if-is_obvious.false))

-- ---- the shape of the goal
pub by_shape-by_sides-requires : goal.by_shape-by_sides-requires
by_shape-by_sides-requires t c = (omega arith, (c.requires.ready, (sym c.in-Bin.ensures, c.requires.open)))

pub by_shape-fixing-requires : goal.by_shape-fixing-requires
by_shape-fixing-requires t c = (omega arith, (c.requires.ready, (sym c.in-All.ensures, c.requires.open)))

pub by_shape-by_arithmetic-requires : goal.by_shape-by_arithmetic-requires
by_shape-by_arithmetic-requires t c = reads_false c.args.sequent.now.goal (sym (ap shown c.in-False.is) ∙ c.view.ensures)

pub by_shape-returns-in-False-clause-told : goal.by_shape-returns-in-False-clause-told
by_shape-returns-in-False-clause-told t c =
    let table = c.args.types.now in
    let r0 = c.args.rules.now.items in
    let r1 = c.by_arithmetic.new.rules.items in
    let s = sequent_of c.args.sequent.now in
    IfOk-weaker c.by_arithmetic.result (λ (b : Bool). Settles b r0 r1 s) (λ (b : Bool). Told b table table r0 r1 s)
    (λ b h. told_false b table r0 r1 c.args.sequent.now.hyps.items c.args.sequent.now.goal (sym (ap shown c.in-False.is) ∙ c.view.ensures) c.requires.ready c.requires.open h)
    c.by_arithmetic.ensures

pub by_shape-returns-in_ok-add-in-True-clause-told : goal.by_shape-returns-in_ok-add-in-True-clause-told
by_shape-returns-in_ok-add-in-True-clause-told t c =
    true_told c.args.types.now c.args.rules.now.items c.add.new.rules.items c.args.sequent.now.hyps.items c.args.sequent.now.goal (sym (ap shown c.in-True.is) ∙ c.view.ensures) c.requires.ready c.in_ok-add-in-True.ensures

pub by_shape-returns-in_default : goal.by_shape-returns-in_default
by_shape-returns-in_default t c = record {
  new = has_new-refl c.args.types.now;
  told = hard_shape c.view.result c.args.types.now c.args.sequent.now.hyps.items c.args.sequent.now.goal c.view.ensures c.requires.open c.in_default.not-Bin c.in_default.not-All c.in_default.not-False;
}

-- ---- goals with two sides
pub by_sides-both-requires : goal.by_sides-both-requires
by_sides-both-requires t c = (omega arith, (c.requires.ready, (c.requires.goal ∙ ap (λ (o : BinOp). binary o c.args.left.now c.args.right.now) c.in-And.is, c.requires.open)))

pub by_sides-supposing-requires : goal.by_sides-supposing-requires
by_sides-supposing-requires t c = (omega arith, (c.requires.ready, (c.requires.goal ∙ ap (λ (o : BinOp). binary o c.args.left.now c.args.right.now) c.in-Imp.is, c.requires.open)))

pub by_sides-within-requires-clause-goal : goal.by_sides-within-requires-clause-goal
by_sides-within-requires-clause-goal t c = c.requires.goal ∙ ap (λ (o : BinOp). binary o c.args.left.now c.args.right.now) c.in-In.is

pub by_sides-equal-requires-clause-goal : goal.by_sides-equal-requires-clause-goal
by_sides-equal-requires-clause-goal t c = c.requires.goal ∙ ap (λ (o : BinOp). binary o c.args.left.now c.args.right.now) c.in-Eq.is

pub by_sides-by_arithmetic-requires : goal.by_sides-by_arithmetic-requires
by_sides-by_arithmetic-requires t c = reads_at_most c.args.left.now c.args.right.now c.args.sequent.now.goal (sym (c.requires.goal ∙ ap (λ (o : BinOp). binary o c.args.left.now c.args.right.now) c.in-Le.is))

pub by_sides-by_arithmetic-requires-in-Lt : goal.by_sides-by_arithmetic-requires-in-Lt
by_sides-by_arithmetic-requires-in-Lt t c = reads_less c.args.left.now c.args.right.now c.args.sequent.now.goal (sym (c.requires.goal ∙ ap (λ (o : BinOp). binary o c.args.left.now c.args.right.now) c.in-Lt.is))

pub by_sides-returns-in-Le-clause-told : goal.by_sides-returns-in-Le-clause-told
by_sides-returns-in-Le-clause-told t c =
    let table = c.args.types.now in
    let r0 = c.args.rules.now.items in
    let r1 = c.by_arithmetic.new.rules.items in
    let s = sequent_of c.args.sequent.now in
    IfOk-weaker c.by_arithmetic.result (λ (b : Bool). Settles b r0 r1 s) (λ (b : Bool). Told b table table r0 r1 s)
    (λ b h. told_at_most b table r0 r1 c.args.sequent.now.hyps.items c.args.left.now c.args.right.now c.args.sequent.now.goal (sym (c.requires.goal ∙ ap (λ (o : BinOp). binary o c.args.left.now c.args.right.now) c.in-Le.is)) c.requires.ready c.requires.open h)
    c.by_arithmetic.ensures

pub by_sides-returns-in-Lt-clause-told : goal.by_sides-returns-in-Lt-clause-told
by_sides-returns-in-Lt-clause-told t c =
    let table = c.args.types.now in
    let r0 = c.args.rules.now.items in
    let r1 = c.by_arithmetic-in-Lt.new.rules.items in
    let s = sequent_of c.args.sequent.now in
    IfOk-weaker c.by_arithmetic-in-Lt.result (λ (b : Bool). Settles b r0 r1 s) (λ (b : Bool). Told b table table r0 r1 s)
    (λ b h. told_less b table r0 r1 c.args.sequent.now.hyps.items c.args.left.now c.args.right.now c.args.sequent.now.goal (sym (c.requires.goal ∙ ap (λ (o : BinOp). binary o c.args.left.now c.args.right.now) c.in-Lt.is)) c.requires.ready c.requires.open h)
    c.by_arithmetic-in-Lt.ensures

pub by_sides-returns-in_default : goal.by_sides-returns-in_default
by_sides-returns-in_default t c = record {
  new = has_new-refl c.args.types.now;
  told = hard_sides c.args.op c.args.types.now c.args.sequent.now.hyps.items c.args.left.now c.args.right.now c.args.sequent.now.goal (sym c.requires.goal) c.requires.open c.in_default.not-And c.in_default.not-Imp c.in_default.not-In c.in_default.not-Eq c.in_default.not-Le c.in_default.not-Lt;
}

-- ---- a conjunction
pub both-easy-requires : goal.both-easy-requires
both-easy-requires t c =
    let e = ap formula_size c.requires.goal in
    let f = ap (λ (s : Sequent). formula_size s.1) c.in_ok-first.ensures in (
      omega arith,
      first_ready c.args.types.now c.args.rules.now.items c.add.new.rules.items c.args.sequent.now.hyps.items c.args.sequent.now.goal c.args.left.now c.args.right.now c.requires.goal c.requires.ready c.requires.open
          (sequent_of c.in_ok-first.first) c.in_ok-first.ensures,
    )

pub both-returns-then-not-branch-clause-told : goal.both-returns-then-not-branch-clause-told
both-returns-then-not-branch-clause-told t c =
    first_hard c.args.types.now c.args.rules.now.items c.add.new.rules.items c.args.sequent.now.hyps.items c.args.sequent.now.goal c.args.left.now c.args.right.now c.requires.goal c.requires.ready c.requires.open
    c.in_ok-easy.field-0 c.easy.new.types c.easy.new.rules.items (sequent_of c.in_ok-first.first) c.if-not-branch.true c.in_ok-first.ensures c.in_ok-easy.ensures.told

pub both-easy-requires-2 : goal.both-easy-requires-2
both-easy-requires-2 t c =
    let e = ap formula_size c.requires.goal in
    let f = ap (λ (s : Sequent). formula_size s.1) c.in_ok-second.ensures in (
      omega arith,
      second_ready c.args.types.now c.args.rules.now.items c.add.new.rules.items c.args.sequent.now.hyps.items c.args.sequent.now.goal c.args.left.now c.args.right.now c.requires.goal c.requires.ready c.requires.open
          c.easy.new.types (sequent_of c.in_ok-second.second) c.is_formed.ensures c.easy.ensures.new c.in_ok-second.ensures,
    )

pub both-returns-clause-new : goal.both-returns-clause-new
both-returns-clause-new t c = has_new-trans c.args.types.now c.easy.new.types c.easy-2.new.types c.easy.ensures.new c.easy-2.ensures.new

pub both-returns-clause-told : goal.both-returns-clause-told
both-returns-clause-told t c =
    let r1 = c.easy.new.rules.items in
    let r2 = c.easy-2.new.rules.items in
    IfOk-weaker c.easy-2.result (λ (b : Bool). Told b c.easy.new.types c.easy-2.new.types r1 r2 (sequent_of c.in_ok-second.second)) (λ (b : Bool). Told b c.args.types.now c.easy-2.new.types c.args.rules.now.items r2 (sequent_of c.args.sequent.now))
    (λ b h. both_told c.args.types.now c.args.rules.now.items c.add.new.rules.items c.args.sequent.now.hyps.items c.args.sequent.now.goal c.args.left.now c.args.right.now c.requires.goal c.requires.ready c.requires.open
    c.in_ok-easy.field-0 b c.easy.new.types c.easy-2.new.types r1 r2 (sequent_of c.in_ok-first.first) (sequent_of c.in_ok-second.second) c.if-not-branch.false c.in_ok-add.ensures c.in_ok-first.ensures c.in_ok-second.ensures c.easy.ensures.new c.easy-2.ensures.new c.in_ok-easy.ensures.told h)
    c.easy-2.ensures.told

-- ---- an implication
pub supposing-easy-requires : goal.supposing-easy-requires
supposing-easy-requires t c =
    let p = c.args.left.now in
    let q = c.args.right.now in
    let next : sequent_of c.in_ok-next.next ≡ (supposed c.args.sequent.now.hyps.items p, q) = c.in_ok-next.ensures.sequent ∙ ap {B = Sequent} (λ (hs : List Formula). (supposed hs p, q)) c.deref.ensures.value in
    let e = ap formula_size c.requires.goal in
    let f = ap (λ (s : Sequent). formula_size s.1) next in
    (omega arith, supposed_ready c.args.types.now c.args.sequent.now.hyps.items c.args.sequent.now.goal p q c.requires.goal c.requires.ready (sequent_of c.in_ok-next.next) next)

pub supposing-returns-clause-told : goal.supposing-returns-clause-told
supposing-returns-clause-told t c =
    let t0 = c.args.types.now in
    let t2 = c.easy.new.types in
    let r0 : List Rule = c.args.rules.now.items in
    let r1 : List Rule = c.suppose.new.rules.items in
    let r2 : List Rule = c.easy.new.rules.items in
    let hyps = c.args.sequent.now.hyps.items in
    let p = c.args.left.now in
    let q = c.args.right.now in
    let next : sequent_of c.in_ok-next.next ≡ (supposed hyps p, q) = c.in_ok-next.ensures.sequent ∙ ap {B = Sequent} (λ (hs : List Formula). (supposed hs p, q)) c.deref.ensures.value in
    let rule : r1 ≡ r0 ++ Imp ∷ splits (length hyps) (suc (length hyps)) p = c.in_ok-next.ensures.rules ∙ ap (λ (hs : List Formula). r0 ++ Imp ∷ splits (length hs) (suc (length hs)) p) c.deref.ensures.value in
    IfOk-weaker c.easy.result (λ (b : Bool). Told b t0 t2 r1 r2 (sequent_of c.in_ok-next.next)) (λ (b : Bool). Told b t0 t2 r0 r2 (sequent_of c.args.sequent.now))
    (λ b h. supposed_told t0 hyps c.args.sequent.now.goal p q c.requires.goal c.requires.ready b t2 r0 r1 r2 (sequent_of c.in_ok-next.next) c.requires.open next rule c.easy.ensures.new h)
    c.easy.ensures.told

-- ---- `!`
pub fixing-add_variables-requires : goal.fixing-add_variables-requires
fixing-add_variables-requires t c = types_listed c.args.types.now c.args.sequent.now.hyps.items c.args.sequent.now.goal c.args.bound.now c.args.body.now c.requires.goal c.requires.ready

pub fixing-easy-requires : goal.fixing-easy-requires
fixing-easy-requires t c =
    let ns = c.in_ok-names.names in
    let body = c.args.body.now in
    let next : sequent_of c.in_ok-next.next ≡ (c.args.sequent.now.hyps.items, opened (names_of ns.items) body) =
    c.in_ok-next.ensures ∙ ap {B = Sequent} (λ (xs : List ℕ). (c.args.sequent.now.hyps.items, opened (names_of xs) body)) c.deref.ensures.value in
    let e = ap formula_size c.requires.goal in
    let f = ap (λ (s : Sequent). formula_size s.1) next in
    let k = size_opened ns.items body in (
      omega arith,
      fixed_ready c.args.types.now c.args.sequent.now.hyps.items c.args.sequent.now.goal c.args.bound.now body c.requires.goal c.requires.ready
          c.add_variables.new.types ns (sequent_of c.in_ok-next.next) c.in_ok-names.ensures.grew c.in_ok-names.ensures.numbers c.is_formed.ensures c.add_variables.ensures.new next,
    )

pub fixing-returns-clause-new : goal.fixing-returns-clause-new
fixing-returns-clause-new t c = has_new-trans c.args.types.now c.add_variables.new.types c.easy.new.types c.add_variables.ensures.new c.easy.ensures.new

pub fixing-returns-clause-told : goal.fixing-returns-clause-told
fixing-returns-clause-told t c =
    let t0 = c.args.types.now in
    let t1 = c.add_variables.new.types in
    let t2 = c.easy.new.types in
    let r0 : List Rule = c.args.rules.now.items in
    let r1 : List Rule = c.add.new.rules.items in
    let r2 : List Rule = c.easy.new.rules.items in
    let hyps = c.args.sequent.now.hyps.items in
    let ts = c.args.bound.now in
    let body = c.args.body.now in
    let ns = c.in_ok-names.names in
    let next : sequent_of c.in_ok-next.next ≡ (hyps, opened (names_of ns.items) body) = c.in_ok-next.ensures ∙ ap {B = Sequent} (λ (xs : List ℕ). (hyps, opened (names_of xs) body)) c.deref.ensures.value in
    IfOk-weaker c.easy.result (λ (b : Bool). Told b t1 t2 r1 r2 (sequent_of c.in_ok-next.next)) (λ (b : Bool). Told b t0 t2 r0 r2 (sequent_of c.args.sequent.now))
    (λ b h. fixed_told t0 hyps c.args.sequent.now.goal ts body c.requires.goal c.requires.ready b t1 t2 ns r0 r1 r2 (sequent_of c.in_ok-next.next) c.requires.open c.in_ok-names.ensures.grew c.in_ok-names.ensures.numbers c.is_formed.ensures c.add_variables.ensures.new c.easy.ensures.new next c.in_ok-add.ensures h)
    c.easy.ensures.told
