-- What an answer says of a sequent by the shape of its goal, as the functions that go by this shape hold it.
use Rattle.std.proofs.Common.{◌≡◌, ℕ, zero, suc, ◌+◌, ◌<◌, List, [], ◌∷◌, ◌++◌, length, refl, sym, ◌∙◌, ap, subst, Bool, true, false, arith}
use Rattle.std.proofs.lemmas.List.{append_assoc}
use Rattle.std.specs.Prelude.{is_none}
use Rattle.std.specs.Global.{Vec}
use Rattle.std.specs.Borrow.{Bor}
use Rattle.bk_val.specs.ValueType.{ValueType}
use Rattle.bk_form.specs.Table.{Table, IsWellFormed}
use Rattle.bk_form.specs.Formula.{Formula, bfalse, btrue, binary, for_all}
use Rattle.bk_form.specs.Role.{role, predicate, bind, all_listed, if_predicate}
use Rattle.bk_form.specs.declared.operator.BinOp.TheVariants.{And as Conjunction, Imp as Implication, Lt, Le}
use Rattle.bk_form.proofs.RoleParts.{if_holds-predicate}
use Rattle.bk_bind.specs.Opening.{opened}
use Rattle.bk_arith.specs.Comparison.{terms_of_goal}
use Rattle.bk_seq.specs.Sequents.{Sequent}
use Rattle.bk_kernel.specs.declared.rule.Rule.{Rule}
use Rattle.bk_kernel.specs.declared.rule.Rule.TheVariants.{And, Imp, Fix, True}
use Rattle.bk_kernel.specs.Naming.{names_of}
use Rattle.bk_kernel.specs.Obvious.{is_obvious}
use Rattle.bk_kernel.specs.Derivations.{Derives}
use Rattle.bk_auto.specs.Easy.{IsEasy, supposed}
use Rattle.bk_auto.specs.NewVariables.{HasNew}
use Rattle.bk_auto.specs.Named.{IsBare, Brings}
use Rattle.bk_auto.specs.Found.{IsReady, IsHard, IsOrder, Adds, Settles, Orders, Closes, ClosesBoth, Told, TellsBoth, GrewBy, numbers_from, splits}
use Rattle.bk_auto.proofs.Wider.{has_new-wider}
use Rattle.bk_auto.proofs.Ready.{each-append, ready-left, ready-right, ready-supposed, ready-wider}
use Rattle.bk_auto.proofs.Obvious.{closes_true}
use Rattle.bk_auto.proofs.Tellings.{told_closed, told_both, told_supposed, told_fixed, ready_opened, hard_first, ordered, found, not_easy}

-- ---- answers that are known
hard_of : (b : Bool) (small large : Table) (r0 r1 : List Rule) (s : Sequent) → b ≡ false → Told b small large r0 r1 s → IsHard small s
hard_of b small large r0 r1 s e h = subst (λ (x : Bool). Told x small large r0 r1 s) e h

adds_of : (b : Bool) (small large : Table) (r0 r1 : List Rule) (s : Sequent) → b ≡ true → Told b small large r0 r1 s → Adds small large r0 r1 s
adds_of b small large r0 r1 s e h = subst (λ (x : Bool). Told x small large r0 r1 s) e h

-- ---- the answer of the search
pub not_found : (b : Bool) (small large : Table) (r0 r1 : List Rule) (s : Sequent) → b ≡ false → Told b small large r0 r1 s → IsEasy small s → ⊥
not_found b small large r0 r1 s failed h = not_easy small s (hard_of b small large r0 r1 s failed h)

pub found_rules : (b : Bool) (small large : Table) (r0 r1 : List Rule) (s : Sequent) → b ≡ true → r0 ≡ [] → IsWellFormed large → Told b small large r0 r1 s → Derives large r1 s
found_rules b small large r0 r1 s passed none well h = found small large r1 s well (subst (λ (rs : List Rule). Adds small large rs r1 s) none (adds_of b small large r0 r1 s passed h))

pub found_names : (b : Bool) (small large : Table) (r0 r1 : List Rule) (s : Sequent) → b ≡ true → r0 ≡ [] → Told b small large r0 r1 s → Brings small large s.1 r1
found_names b small large r0 r1 s passed none h =
    let a : Adds small large [] r1 s = subst (λ (rs : List Rule). Adds small large rs r1 s) none (adds_of b small large r0 r1 s passed h) in
    subst (λ (rs : List Rule). Brings small large s.1 rs) (sym a.same) a.brings

-- ---- goals that are read by arithmetic
pub reads_false : (goal : Formula) → bfalse ≡ goal → is_none (terms_of_goal goal) ≡ false
reads_false goal e = subst (λ (g : Formula). is_none (terms_of_goal g) ≡ false) e refl

pub reads_at_most : (p q goal : Formula) → binary Le p q ≡ goal → is_none (terms_of_goal goal) ≡ false
reads_at_most p q goal e = subst (λ (g : Formula). is_none (terms_of_goal g) ≡ false) e refl

pub reads_less : (p q goal : Formula) → binary Lt p q ≡ goal → is_none (terms_of_goal goal) ≡ false
reads_less p q goal e = subst (λ (g : Formula). is_none (terms_of_goal g) ≡ false) e refl

-- ---- one order, then another
pub ordered_by : (b : Bool) (r0 r1 : List Rule) (hyps : List Formula) (goal : Formula) → IsOrder goal → is_obvious hyps goal ≡ false → Settles b r0 r1 (hyps, goal) → Orders b r0 r1 (hyps, goal)
ordered_by b r0 r1 hyps goal o = subst (λ (g : Formula). is_obvious hyps g ≡ false → Settles b r0 r1 (hyps, g) → Orders b r0 r1 (hyps, g)) o.is (ordered b r0 r1 hyps o.left o.right)

orders_as : (a b : Bool) (r0 r1 : List Rule) (s t : Sequent) → a ≡ b → s ≡ t → Orders a r0 r1 s → Orders b r0 r1 t
orders_as a b r0 r1 s t e f h = subst (λ (x : Sequent). Orders b r0 r1 x) f (subst (λ (x : Bool). Orders x r0 r1 s) e h)

pub first_fails : (b : Bool) (r0 r1 : List Rule) (hyps : List Formula) (p q : Formula) (s : Sequent) → b ≡ false → s ≡ (hyps, p) → Orders b r0 r1 s → TellsBoth false r0 r1 hyps p q
first_fails b r0 r1 hyps p q s failed e h = λ n table k l. orders_as b false r0 r1 s (hyps, p) failed e h table n k

both_tell : (b : Bool) (r0 r1 r2 : List Rule) (hyps : List Formula) (p q : Formula) → Closes r0 r1 (hyps, p) → Orders b r1 r2 (hyps, q) → TellsBoth b r0 r2 hyps p q
both_tell true r0 r1 r2 hyps p q c d = record {
  first = c.more;
  second = d.more;
  same = d.same ∙ ap (λ (rs : List Rule). rs ++ d.more) c.same ∙ append_assoc r0 c.more d.more;
  derives_first = c.derives;
  derives_second = d.derives;
  bare = each-append IsBare c.more d.more c.bare d.bare;
}
both_tell false r0 r1 r2 hyps p q c d = λ n table k l. d table n l

pub second_tells : (a b : Bool) (r0 r1 r2 : List Rule) (hyps : List Formula) (p q : Formula) (s t : Sequent) → a ≡ true → s ≡ (hyps, p) → t ≡ (hyps, q) → Orders a r0 r1 s → Orders b r1 r2 t → TellsBoth b r0 r2 hyps p q
second_tells a b r0 r1 r2 hyps p q s t passed e f c d = both_tell b r0 r1 r2 hyps p q (orders_as a true r0 r1 s (hyps, p) passed e c) (orders_as b b r1 r2 t (hyps, q) refl f d)

-- ---- `btrue`
pub true_told : (table : Table) (r0 r1 : List Rule) (hyps : List Formula) (goal : Formula) → btrue ≡ goal → IsReady table (hyps, goal) → r1 ≡ r0 ++ True ∷ [] → Adds table table r0 r1 (hyps, goal)
true_told table r0 r1 hyps goal e ready rule = told_closed table r0 r1 (hyps, goal) ready (closes_true r0 r1 (hyps, goal) (sym e) rule)

-- ---- a conjunction
module _ (t0 : Table) (r0 ra : List Rule) (hyps : List Formula) (goal p q : Formula) (is : goal ≡ binary Conjunction p q) (ready : IsReady t0 (hyps, goal)) (unclosed : is_obvious hyps goal ≡ false) where
  conjunction : IsReady t0 (hyps, binary Conjunction p q)
  conjunction = subst (λ (g : Formula). IsReady t0 (hyps, g)) is ready

  not_obvious : is_obvious hyps (binary Conjunction p q) ≡ false
  not_obvious = subst (λ (g : Formula). is_obvious hyps g ≡ false) is unclosed

  pub first_ready : (s : Sequent) → s ≡ (hyps, p) → IsReady t0 s
  first_ready s e = subst (λ (x : Sequent). IsReady t0 x) (sym e) (ready-left t0 hyps p q conjunction)

  pub second_ready : (t1 : Table) (s : Sequent) → IsWellFormed t1 → HasNew t0 t1 → s ≡ (hyps, q) → IsReady t1 s
  second_ready t1 s well n e = subst (λ (x : Sequent). IsReady t1 x) (sym e) (ready-wider t0 t1 (hyps, q) (ready-right t0 hyps p q conjunction) well (has_new-wider t0 t1 n))

  pub first_hard : (b : Bool) (t1 : Table) (r1 : List Rule) (s : Sequent) → b ≡ false → s ≡ (hyps, p) → Told b t0 t1 ra r1 s → IsHard t0 (hyps, goal)
  first_hard b t1 r1 s failed e h =
      subst (λ (g : Formula). IsHard t0 (hyps, g)) (sym is) (hard_first t0 hyps p q not_obvious (subst (λ (x : Sequent). IsHard t0 x) e (hard_of b t0 t1 ra r1 s failed h)))

  pub both_told : (a b : Bool) (t1 t2 : Table) (r1 r2 : List Rule) (s t : Sequent) → a ≡ true → ra ≡ r0 ++ And ∷ [] → s ≡ (hyps, p) → t ≡ (hyps, q) → HasNew t0 t1 → HasNew t1 t2 → Told a t0 t1 ra r1 s → Told b t1 t2 r1 r2 t → Told b t0 t2 r0 r2 (hyps, goal)
  both_told a b t1 t2 r1 r2 s t passed rule es et n m f g =
      let first : Adds t0 t1 (r0 ++ And ∷ []) r1 (hyps, p) =
      subst (λ (rs : List Rule). Adds t0 t1 rs r1 (hyps, p)) rule (subst (λ (x : Sequent). Adds t0 t1 ra r1 x) es (adds_of a t0 t1 ra r1 s passed f)) in
      let second : Told b t1 t2 r1 r2 (hyps, q) = subst (λ (x : Sequent). Told b t1 t2 r1 r2 x) et g in
      subst (λ (x : Formula). Told b t0 t2 r0 r2 (hyps, x)) (sym is)
      (told_both b t0 t1 t2 r0 r1 r2 hyps p q conjunction not_obvious (has_new-wider t0 t1 n) (has_new-wider t1 t2 m) first second)

-- ---- an implication
module _ (t0 : Table) (hyps : List Formula) (goal p q : Formula) (is : goal ≡ binary Implication p q) (ready : IsReady t0 (hyps, goal)) where
  implication : IsReady t0 (hyps, binary Implication p q)
  implication = subst (λ (g : Formula). IsReady t0 (hyps, g)) is ready

  pub supposed_ready : (s : Sequent) → s ≡ (supposed hyps p, q) → IsReady t0 s
  supposed_ready s e = subst (λ (x : Sequent). IsReady t0 x) (sym e) (ready-supposed t0 hyps p q implication)

  pub supposed_told : (b : Bool) (t2 : Table) (r0 r1 r2 : List Rule) (s : Sequent) → is_obvious hyps goal ≡ false → s ≡ (supposed hyps p, q) → r1 ≡ r0 ++ Imp ∷ splits (length hyps) (suc (length hyps)) p → HasNew t0 t2 → Told b t0 t2 r1 r2 s → Told b t0 t2 r0 r2 (hyps, goal)
  supposed_told b t2 r0 r1 r2 s unclosed e rule n h =
      subst (λ (x : Formula). Told b t0 t2 r0 r2 (hyps, x)) (sym is)
      (told_supposed b t0 t2 r0 r1 r2 hyps p q implication (subst (λ (g : Formula). is_obvious hyps g ≡ false) is unclosed) (has_new-wider t0 t2 n) rule
      (subst (λ (x : Sequent). Told b t0 t2 r1 r2 x) e h))

-- ---- `!`
module _ (t0 : Table) (hyps : List Formula) (goal : Formula) (ts : List ValueType) (body : Formula) (is : goal ≡ for_all ts body) (ready : IsReady t0 (hyps, goal)) where
  universal : IsReady t0 (hyps, for_all ts body)
  universal = subst (λ (g : Formula). IsReady t0 (hyps, g)) is ready

  pub types_listed : all_listed t0 ts ≡ true
  types_listed = (if_holds-predicate (all_listed t0 ts) (if_predicate predicate (role t0 (bind ts []) body)) universal.types.1).0

  pub fixed_ready : (t1 : Table) (ns : Vec ℕ) (s : Sequent) → GrewBy t0 t1 ts → ns.items ≡ numbers_from (length t0.variables) (length ts) → IsWellFormed t1 → HasNew t0 t1 → s ≡ (hyps, opened (names_of ns.items) body) → IsReady t1 s
  fixed_ready t1 ns s grew are well n e = subst (λ (x : Sequent). IsReady t1 x) (sym e) (ready_opened t0 t1 hyps ts body ns universal grew are well (has_new-wider t0 t1 n))

  pub fixed_told : (b : Bool) (t1 t2 : Table) (ns : Vec ℕ) (r0 r1 r2 : List Rule) (s : Sequent) → is_obvious hyps goal ≡ false → GrewBy t0 t1 ts → ns.items ≡ numbers_from (length t0.variables) (length ts) → IsWellFormed t1 → HasNew t0 t1 → HasNew t1 t2 → s ≡ (hyps, opened (names_of ns.items) body) → r1 ≡ r0 ++ Fix ns ∷ [] → Told b t1 t2 r1 r2 s → Told b t0 t2 r0 r2 (hyps, goal)
  fixed_told b t1 t2 ns r0 r1 r2 s unclosed grew are well n m e rule h =
      subst (λ (x : Formula). Told b t0 t2 r0 r2 (hyps, x)) (sym is)
      (told_fixed t0 t1 hyps ts body ns universal grew are b t2 r0 r1 r2 (subst (λ (g : Formula). is_obvious hyps g ≡ false) is unclosed) well (has_new-wider t0 t1 n) (has_new-wider t1 t2 m) rule
      (subst (λ (x : Sequent). Told b t1 t2 r1 r2 x) e h))
