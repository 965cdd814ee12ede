-- The rules that close obvious sequents.
use Rattle.std.proofs.Common.{◌≡◌, inl, inr, ℕ, ℤ, pos, List, [], ◌∷◌, ◌++◌, map, refl, sym, ◌∙◌, ap, subst, Bool, true, false, ◌&&◌, ◌||◌, append_assoc, arith}
use Rattle.std.specs.Prelude.{int_lt, int_le, Option, Some, None}
use Rattle.std.specs.Ordering.{int_eq}
use Rattle.std.specs.List.{list_any}
use Rattle.std.specs.Global.{Vec}
use Rattle.std.specs.Option.{option_map, option_and_then}
use Rattle.bk_form.specs.Table.{Table}
use Rattle.bk_form.specs.Formula.{Formula, named, btrue, binary}
use Rattle.bk_form.specs.Role.{role, predicate}
use Rattle.bk_form.specs.Predicates.{IsPredicate}
use Rattle.bk_form.specs.declared.operator.BinOp.{BinOp}
use Rattle.bk_form.specs.declared.operator.BinOp.TheVariants.{Eq, Lt, Le, In, Range}
use Rattle.bk_form.specs.declared.operator.Domain.TheVariants.{Natural, Natural1}
use Rattle.bk_form.proofs.Members.{and-true}
use Rattle.bk_seq.specs.Paths.{numbered_item}
use Rattle.bk_seq.specs.Sequents.{Sequent, Types, IsWithin}
use Rattle.bk_laws.specs.Rows.{Instance}
use Rattle.bk_arith.specs.ClosedSum.{closed_sum}
use Rattle.bk_arith.specs.Same.{is_same}
use Rattle.std.specs.Borrow.{Bor}
use Rattle.bk_form.specs.FormShown.{shown}
use Rattle.bk_form.specs.declared.form.View.{View}
use Rattle.bk_form.specs.declared.form.View.TheVariants.{Bin}
use Rattle.bk_arith.proofs.SameFormula.{same-if, same-then}
use Rattle.bk_kernel.specs.declared.rule.Rule.{Rule}
use Rattle.bk_kernel.specs.declared.rule.Rule.TheVariants.{Hyp, True, Same, Eval, TypeOf}
use Rattle.bk_kernel.specs.declared.rule.Place.TheVariants.{Goal}
use Rattle.bk_kernel.specs.Branches.{extended, when, closed_if}
use Rattle.bk_kernel.specs.Obvious.{both_pass, has_all, has_number, holds_plainly, is_plain, is_obvious}
use Rattle.bk_kernel.specs.Deciding.{compared, both_true, decided_in, decided_by, decided}
use Rattle.bk_kernel.specs.Rewriting.{becomes, stands_for, same_role, goal_changed, instance_for, typing}
use Rattle.bk_kernel.specs.Derivations.{Derives}
use Rattle.bk_seq.specs.Paths.{sub_at, put_at}
use Rattle.bk_auto.specs.Found.{Closes, ClosesAnywhere}
use Rattle.bk_auto.proofs.Composing.{same_hyps, derives_hyp, derives_same, derives_decided}

-- ---- true comparisons and memberships of closed sums
pass-compared : (test : ℤ → ℤ → Bool) (x y : Option ℤ) → both_pass test x y ≡ true → compared test x y ≡ Some true
pass-compared test (Some x) (Some y) h = ap Some h
pass-compared test (Some x) None h = absurd (cc)
pass-compared test None y h = absurd (cc)

both-compared : (p q : Option Bool) → p ≡ Some true → q ≡ Some true → both_true p q ≡ Some true
both-compared p q h k = λ i. both_true (h i) (k i)

and-parts : (a b : Bool) → (a && b) ≡ true → (a ≡ true) × (b ≡ true)
and-parts true true h = (refl, refl)
and-parts true false h = absurd (cc)
and-parts false b h = absurd (cc)

decided-number : (z : Option ℤ) (n : Formula) → has_number z n ≡ true → decided_in z n ≡ Some true
decided-number z (named Natural) h = pass-compared int_le (Some (pos 0)) z h
decided-number z (named Natural1) h = pass-compared int_le (Some (pos 1)) z h
decided-number z (binary Range a b) h =
    let k = and-parts (both_pass int_le (closed_sum a) z) (both_pass int_le z (closed_sum b)) h in
    both-compared (compared int_le (closed_sum a) z) (compared int_le z (closed_sum b)) (pass-compared int_le (closed_sum a) z k.0) (pass-compared int_le z (closed_sum b) k.1)
decided-number z _ h = absurd (cc)

pub or-second : (a b : Bool) → (a || b) ≡ true → a ≡ false → b ≡ true
or-second true b h k = absurd (cc)
or-second false b h k = h

pub decided-equation : (a b : Formula) → holds_plainly Eq a b ≡ true → is_same a b ≡ false → decided (binary Eq a b) ≡ Some true
decided-equation a b h k = pass-compared int_eq (closed_sum a) (closed_sum b) (or-second (is_same a b) (both_pass int_eq (closed_sum a) (closed_sum b)) h k)

pub decided-member : (a b : Formula) → holds_plainly In a b ≡ true → has_all b ≡ false → decided (binary In a b) ≡ Some true
decided-member a b h k = decided-number (closed_sum a) b (or-second (has_all b) (has_number (closed_sum a) b) h k)

pub decided-other : (o : BinOp) (a b : Formula) → (o ≡ Eq → ⊥) → (o ≡ In → ⊥) → holds_plainly o a b ≡ true → decided (binary o a b) ≡ Some true
decided-other Eq a b e i h = absurd (e refl)
decided-other In a b e i h = absurd (i refl)
decided-other Lt a b e i h = pass-compared int_lt (closed_sum a) (closed_sum b) h
decided-other Le a b e i h = pass-compared int_le (closed_sum a) (closed_sum b) h
decided-other _ a b e i h = absurd (cc)

-- ---- the membership in a set with every value of a type
derives_typing : (table : Table) (hyps : List Formula) (a n : Formula) (path : Vec ℕ) → path.items ≡ [] → has_all n ≡ true → Types table (hyps, binary In a n) → IsWithin (hyps, btrue) → Derives table (TypeOf (Goal path) ∷ True ∷ []) (hyps, binary In a n)
derives_typing table hyps a n path whole all types within =
    let old : Formula = binary In a n in
    let fits : stands_for table old (becomes old btrue) ≡ true =
    and-true (is_same old old) (same_role (role table [] old) predicate) (same-if old old refl) (ap (λ r. same_role r predicate) types.1) in (
      (hyps, btrue) ∷ [],
      record {
        made = ap (λ ks. option_map (map (extended (hyps, old))) (goal_changed (option_and_then (λ f. option_and_then (λ (i : Instance). when (stands_for table f i) (i.sides, put_at old ks i.right)) (instance_for table hyps typing f)) (sub_at old ks)))) whole
            ∙ ap (λ b. option_map (map (extended (hyps, old))) (goal_changed (option_and_then (λ (i : Instance). when (stands_for table old i) (i.sides, put_at old [] i.right)) (when b (becomes old btrue))))) all
            ∙ ap (λ b. option_map (map (extended (hyps, old))) (goal_changed (when b ([], btrue)))) fits
            ∙ ap (λ s. Some (s ∷ [])) (same_hyps hyps btrue);
        type = ((types.0, refl), tt);
        within = (within, tt);
      },
      ([], record { made = refl; type = tt; within = tt }, refl),
    )

-- ---- each kind
pub closes_hyp : (r0 r1 : List Rule) (hyps : List Formula) (goal : Formula) (n : ℕ) → r1 ≡ r0 ++ Hyp n ∷ [] → numbered_item hyps n ≡ Some goal → Closes r0 r1 (hyps, goal)
closes_hyp r0 r1 hyps goal n e here = record { more = Hyp n ∷ []; same = e; derives = λ table t w. derives_hyp table hyps goal n goal here (same-if goal goal refl); bare = (tt, tt) }

pub closes_anywhere : (r0 r1 : List Rule) (hyps : List Formula) (goal : Formula) → ClosesAnywhere r0 r1 goal → Closes r0 r1 (hyps, goal)
closes_anywhere r0 r1 hyps goal c = record { more = c.more; same = c.same; derives = λ table t w. c.derives table hyps t w; bare = c.bare }

pub closes_same : (r0 r1 : List Rule) (a b : Formula) → r1 ≡ r0 ++ Same ∷ [] → a ≡ b → ClosesAnywhere r0 r1 (binary Eq a b)
closes_same r0 r1 a b e h = record { more = Same ∷ []; same = e; derives = λ table hyps t w. derives_same table hyps a b (same-if a b h); bare = (tt, tt) }

pub closes_typing : (r0 r1 r2 : List Rule) (a n : Formula) (path : Vec ℕ) → r1 ≡ r0 ++ TypeOf (Goal path) ∷ [] → r2 ≡ r1 ++ True ∷ [] → path.items ≡ [] → has_all n ≡ true → ClosesAnywhere r0 r2 (binary In a n)
closes_typing r0 r1 r2 a n path e f whole all = record {
  more = TypeOf (Goal path) ∷ True ∷ [];
  same = f ∙ ap (λ rs. rs ++ True ∷ []) e ∙ append_assoc r0 (TypeOf (Goal path) ∷ []) (True ∷ []);
  derives = λ table hyps t w. derives_typing table hyps a n path whole all t (w.0, record { nodes = omega arith; height = omega arith });
  bare = (whole, (tt, tt));
}

pub closes_decided : (r0 r1 : List Rule) (goal : Formula) → r1 ≡ r0 ++ Eval None ∷ [] → decided goal ≡ Some true → ClosesAnywhere r0 r1 goal
closes_decided r0 r1 goal e h = record { more = Eval None ∷ []; same = e; derives = λ table hyps t w. derives_decided table hyps goal h; bare = (tt, tt) }

-- `btrue` is closed, too
pub closes_true : (r0 r1 : List Rule) (s : Sequent) → s.1 ≡ btrue → r1 ≡ r0 ++ True ∷ [] → Closes r0 r1 s
closes_true r0 r1 s is e = record { more = True ∷ []; same = e; derives = λ table t w. ([], record { made = ap (λ g. option_map (map (extended s)) (closed_if (is_same g btrue))) is; type = tt; within = tt }, refl); bare = (tt, tt) }

pub not_plain : (v : View) → ((o : BinOp) (a b : Bor Formula) → v ≡ Bin o a b → ⊥) → is_plain (shown v) ≡ true → ⊥
not_plain (Bin o a b) n h = n o a b refl
not_plain _ n h = cc

pub not_same : (a b : Formula) → (a ≡ b → ⊥) → is_same a b ≡ false
not_same a b h = at (is_same a b) refl
  where
    at : (t : Bool) → is_same a b ≡ t → t ≡ false
    at true e = absurd (h (same-then a b e))
    at false e = refl
