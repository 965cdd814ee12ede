-- What an answer says of a sequent, from what the answers for simpler ones say.
use Rattle.std.proofs.Common.{◌≡◌, ◌⊎◌, inl, inr, ℕ, zero, suc, ◌+◌, ◌<◌, ◌≤◌, max, List, [], ◌∷◌, ◌++◌, length, length-append, map, refl, sym, ◌∙◌, ap, subst, Bool, true, false, not, ◌&&◌, ◌||◌, arith, All}
use Rattle.std.proofs.lemmas.List.{append-nil, append_assoc}
use Rattle.std.specs.Prelude.{Some, None, slice_get}
use Rattle.std.specs.Global.{Vec}
use Rattle.bk_limits.specs.declared.TheConstants.{MOST_NODES, GREATEST_HEIGHT}
use Rattle.bk_val.specs.ValueType.{ValueType, int_type, set_type}
use Rattle.bk_form.specs.Table.{Table, IsWellFormed}
use Rattle.bk_form.specs.Wider.{IsWider}
use Rattle.bk_form.specs.Each.{Each}
use Rattle.bk_form.specs.Formula.{Formula, bfalse, binary, for_all, formula_size, formula_height}
use Rattle.bk_form.specs.Role.{Role, role, gives, ranges_over, predicate, untyped, bind, all_listed, if_holds, if_predicate, numbers_role, connective_role, membership_role}
use Rattle.bk_form.specs.Predicates.{IsPredicate}
use Rattle.bk_form.specs.Settings.{IsOver}
use Rattle.std.specs.Borrow.{Bor}
use Rattle.bk_form.specs.FormShown.{shown}
use Rattle.bk_form.specs.declared.form.View.{View}
use Rattle.bk_form.specs.declared.form.View.TheVariants.{Bin, All as Universal, False}
use Rattle.bk_form.specs.declared.operator.BinOp.{BinOp}
use Rattle.bk_form.specs.declared.operator.BinOp.TheVariants.{And as Conjunction, Imp as Implication, Eq, Lt, Le, In, Range}
use Rattle.bk_form.proofs.Members.{and-both, and-true}
use Rattle.bk_form.proofs.Equations.{same_type-self}
use Rattle.bk_form.proofs.RoleParts.{if_holds-predicate, if_predicate-predicate, equality-parts, membership-parts, interval-parts}
use Rattle.bk_form.proofs.Widening.{get-wider}
use Rattle.bk_bind.specs.Limits.{IsWithinLimits}
use Rattle.bk_bind.specs.Opening.{opened}
use Rattle.bk_bind.proofs.UnderTerms.{opening_keeps_role}
use Rattle.bk_laws.specs.Rows.{Instance}
use Rattle.bk_seq.specs.Sequents.{Sequent, Types, IsWithin}
use Rattle.bk_arith.specs.Same.{is_same}
use Rattle.bk_arith.proofs.SameFormula.{same-if}
use Rattle.bk_kernel.specs.declared.rule.Rule.{Rule}
use Rattle.bk_kernel.specs.declared.rule.Rule.TheVariants.{And, Imp, Fix, Law}
use Rattle.bk_kernel.specs.declared.rule.Place.TheVariants.{Goal}
use Rattle.bk_kernel.specs.Branches.{sides}
use Rattle.bk_kernel.specs.Naming.{names_of, give_each, are_distinct, is_new, are_fresh}
use Rattle.bk_kernel.specs.Obvious.{is_obvious}
use Rattle.bk_kernel.specs.Derivations.{Leaves, Derives}
use Rattle.bk_kernel.specs.Rewriting.{law_instance, stands_for, same_role}
use Rattle.bk_kernel.proofs.Viewed.{give_each-then}
use Rattle.std.specs.List.{list_all}
use Rattle.bk_auto.specs.Easy.{IsEasy, IsEasyIn, EasyOf, EasyBy, AreContradictory, terms_read, parts, supposed}
use Rattle.bk_auto.specs.Found.{IsShort, IsReady, IsHard, Adds, Closes, Told, Settles, Orders, ClosesBoth, TellsBoth, splits, IsLawOfGoal, GrewBy, numbers_from}
use Rattle.bk_auto.proofs.Composing.{derives_both, derives_supposed, derives_fixed, derives_split}
use Rattle.bk_auto.proofs.Laws.{equal_is, within_is, derives_by_law}
use Rattle.bk_auto.proofs.Inversion.{easy_both, easy_supposed, easy_opened, easy_within, easy_equal, easy_at_most, easy_less, easy_false, easy_by_shape}
use Rattle.bk_auto.proofs.Wider.{wider-refl, wider-trans, number-wider, easy_wider}
use Rattle.bk_auto.proofs.Ready.{each-map, each-all, ready-types, ready-wider, ready-within, ready-left, ready-right, ready-more, short-within, IsFine, and-sides, imp-sides, parts-fine, goal-fine, with_more}
use Rattle.bk_auto.proofs.Opened.{size_opened, height_opened}
use Rattle.bk_auto.proofs.Fresh.{fresh}
use Rattle.bk_auto.specs.Named.{IsPart}
use Rattle.bk_auto.proofs.Brought.{splits_bare, brings_bare, brings_both, brings_behind, brings_fixed, brings_law}

-- ---- one goal, without simpler ones
pub told_closed : (table : Table) (r0 r1 : List Rule) (s : Sequent) → IsReady table s → Closes r0 r1 s → Adds table table r0 r1 s
told_closed table r0 r1 s ready c = record {
  more = c.more;
  same = c.same;
  derives = λ wide ok w. c.derives wide (ready-types table wide s ready w) (ready-within table s ready);
  brings = brings_bare table s.1 c.more c.bare;
}

settled : (b : Bool) (table : Table) (r0 r1 : List Rule) (s : Sequent) → IsReady table s → ((AreContradictory (terms_read s.0 s.1) → ⊥) → IsHard table s) → Settles b r0 r1 s → Told b table table r0 r1 s
settled true table r0 r1 s ready hard c = told_closed table r0 r1 s ready c
settled false table r0 r1 s ready hard c = hard c

pub told_false : (b : Bool) (table : Table) (r0 r1 : List Rule) (hyps : List Formula) (goal : Formula) → bfalse ≡ goal → IsReady table (hyps, goal) → is_obvious hyps goal ≡ false → Settles b r0 r1 (hyps, goal) → Told b table table r0 r1 (hyps, goal)
told_false b table r0 r1 hyps goal e = subst (λ (g : Formula). IsReady table (hyps, g) → is_obvious hyps g ≡ false → Settles b r0 r1 (hyps, g) → Told b table table r0 r1 (hyps, g)) e
    (λ ready unclosed. settled b table r0 r1 (hyps, bfalse) ready (λ h n k. h (easy_false n table hyps unclosed k)))

pub told_at_most : (b : Bool) (table : Table) (r0 r1 : List Rule) (hyps : List Formula) (p q goal : Formula) → binary Le p q ≡ goal → IsReady table (hyps, goal) → is_obvious hyps goal ≡ false → Settles b r0 r1 (hyps, goal) → Told b table table r0 r1 (hyps, goal)
told_at_most b table r0 r1 hyps p q goal e = subst (λ (g : Formula). IsReady table (hyps, g) → is_obvious hyps g ≡ false → Settles b r0 r1 (hyps, g) → Told b table table r0 r1 (hyps, g)) e
    (λ ready unclosed. settled b table r0 r1 (hyps, binary Le p q) ready (λ h n k. h (easy_at_most n table hyps p q unclosed k)))

pub told_less : (b : Bool) (table : Table) (r0 r1 : List Rule) (hyps : List Formula) (p q goal : Formula) → binary Lt p q ≡ goal → IsReady table (hyps, goal) → is_obvious hyps goal ≡ false → Settles b r0 r1 (hyps, goal) → Told b table table r0 r1 (hyps, goal)
told_less b table r0 r1 hyps p q goal e = subst (λ (g : Formula). IsReady table (hyps, g) → is_obvious hyps g ≡ false → Settles b r0 r1 (hyps, g) → Told b table table r0 r1 (hyps, g)) e
    (λ ready unclosed. settled b table r0 r1 (hyps, binary Lt p q) ready (λ h n k. h (easy_less n table hyps p q unclosed k)))

-- one order of two
pub ordered : (b : Bool) (r0 r1 : List Rule) (hyps : List Formula) (p q : Formula) → is_obvious hyps (binary Le p q) ≡ false → Settles b r0 r1 (hyps, binary Le p q) → Orders b r0 r1 (hyps, binary Le p q)
ordered true r0 r1 hyps p q unclosed c = c
ordered false r0 r1 hyps p q unclosed c = λ table n k. c (easy_at_most n table hyps p q unclosed k)

-- ---- rules that were added one after the other
one_after : (r0 r1 r2 : List Rule) (rule : Rule) (first second : List Rule) → r1 ≡ (r0 ++ rule ∷ []) ++ first → r2 ≡ r1 ++ second → r2 ≡ r0 ++ rule ∷ (first ++ second)
one_after r0 r1 r2 rule first second e f =
    f ∙ ap (λ rs. rs ++ second) (e ∙ append_assoc r0 (rule ∷ []) first) ∙ append_assoc r0 (rule ∷ first) second

-- ---- a conjunction
pub hard_first : (table : Table) (hyps : List Formula) (p q : Formula) → is_obvious hyps (binary Conjunction p q) ≡ false → IsHard table (hyps, p) → IsHard table (hyps, binary Conjunction p q)
hard_first table hyps p q unclosed h n e = let k = easy_both n table hyps p q unclosed e in h k.0 k.1

pub told_both : (b : Bool) (t0 t1 t2 : Table) (r0 r1 r2 : List Rule) (hyps : List Formula) (p q : Formula) → IsReady t0 (hyps, binary Conjunction p q) → is_obvious hyps (binary Conjunction p q) ≡ false → IsWider t0 t1 → IsWider t1 t2 → Adds t0 t1 (r0 ++ And ∷ []) r1 (hyps, p) → Told b t1 t2 r1 r2 (hyps, q) → Told b t0 t2 r0 r2 (hyps, binary Conjunction p q)
told_both true t0 t1 t2 r0 r1 r2 hyps p q ready unclosed w v f s = record {
  more = And ∷ (f.more ++ s.more);
  same = one_after r0 r1 r2 And f.more s.more f.same s.same;
  derives = λ wide ok u.
      (let to : IsWider t0 wide = wider-trans t0 t1 wide w (wider-trans t1 t2 wide v u) in
      derives_both wide hyps p q f.more s.more (ready-types t0 wide (hyps, p) (ready-left t0 hyps p q ready) to) (ready-types t0 wide (hyps, q) (ready-right t0 hyps p q ready) to)
      (ready-within t0 (hyps, p) (ready-left t0 hyps p q ready)) (ready-within t0 (hyps, q) (ready-right t0 hyps p q ready))
      (f.derives wide ok (wider-trans t1 t2 wide v u)) (s.derives wide ok u));
  brings = brings_both t0 t1 t2 Conjunction p q And f.more s.more tt v f.brings s.brings;
}
told_both false t0 t1 t2 r0 r1 r2 hyps p q ready unclosed w v f s = λ n e. let k = easy_both n t0 hyps p q unclosed e in s k.0 (easy_wider t0 t1 ready.well w k.0 hyps q k.2)

-- ---- an implication
last_item : (hyps : List Formula) (p : Formula) → slice_get (hyps ++ p ∷ []) (length hyps) ≡ Some p
last_item [] p = refl
last_item (h ∷ hyps) p = last_item hyps p

first_of_two : (hyps : List Formula) (p q : Formula) → slice_get (hyps ++ p ∷ q ∷ []) (length hyps) ≡ Some p
first_of_two [] p q = refl
first_of_two (h ∷ hyps) p q = first_of_two hyps p q

second_of_two : (hyps : List Formula) (p q : Formula) → slice_get (hyps ++ p ∷ q ∷ []) (suc (length hyps)) ≡ Some q
second_of_two [] p q = refl
second_of_two (h ∷ hyps) p q = second_of_two hyps p q

module _ (wide : Table) (aim : Formula) where
  -- the rules that take a hypothesis apart
  splits-derive : (f : Formula) (index count : ℕ) (hs : List Formula) (rest : List Rule) → slice_get hs index ≡ Some f → count ≡ length hs → IsReady wide (hs, aim) → IsFine wide f → Derives wide rest (hs ++ parts f, aim) → Derives wide (splits index count f ++ rest) (hs, aim)
  splits-derive (binary Conjunction p q) index count hs rest here long ready fine d =
      let k = and-sides wide p q fine in
      let two : List Formula = p ∷ q ∷ [] in
      let ready2 : IsReady wide (hs ++ two, aim) = with_more wide hs two aim ready (k.0, (k.1, tt)) in
      let ready3 : IsReady wide ((hs ++ two) ++ parts p, aim) = with_more wide (hs ++ two) (parts p) aim ready2 (parts-fine wide p k.0) in
      let x : List Rule = splits count (suc (suc count)) p in
      let y : List Rule = splits (suc count) (suc (suc count) + length (parts p)) q in
      let long2 : suc (suc count) ≡ length (hs ++ two) = (let e = length-append hs two in omega arith) in
      let long3 : suc (suc count) + length (parts p) ≡ length ((hs ++ two) ++ parts p) = (let e = length-append (hs ++ two) (parts p) in omega arith) in
      let at_p : slice_get (hs ++ two) count ≡ Some p = ap (slice_get (hs ++ two)) long ∙ first_of_two hs p q in
      let at_q : slice_get (hs ++ two) (suc count) ≡ Some q = ap (λ n. slice_get (hs ++ two) (suc n)) long ∙ second_of_two hs p q in
      let all : Derives wide rest (((hs ++ two) ++ parts p) ++ parts q, aim) =
      subst (λ (fs : List Formula). Derives wide rest (fs, aim)) (sym (append_assoc (hs ++ two) (parts p) (parts q) ∙ append_assoc hs two (parts p ++ parts q))) d in
      let after_p : Derives wide (y ++ rest) ((hs ++ two) ++ parts p, aim) =
      splits-derive q (suc count) (suc (suc count) + length (parts p)) ((hs ++ two) ++ parts p) rest (get-wider (hs ++ two) (parts p) (suc count) q at_q) long3 ready3 k.1 all in
      let after : Derives wide (x ++ (y ++ rest)) (hs ++ two, aim) = splits-derive p count (suc (suc count)) (hs ++ two) (y ++ rest) at_p long2 ready2 k.0 after_p in
      derives_split wide hs p q aim (suc index) ((x ++ y) ++ rest) here ready2.types (ready-within wide (hs ++ two, aim) ready2)
      (subst (λ (rs : List Rule). Derives wide rs (hs ++ two, aim)) (sym (append_assoc x y rest)) after)
  splits-derive f index count hs rest here long ready fine d = subst (λ (fs : List Formula). Derives wide rest (fs, aim)) (append-nil hs) d

pub told_supposed : (b : Bool) (t0 t2 : Table) (r0 r1 r2 : List Rule) (hyps : List Formula) (p q : Formula) → IsReady t0 (hyps, binary Implication p q) → is_obvious hyps (binary Implication p q) ≡ false → IsWider t0 t2 → r1 ≡ r0 ++ Imp ∷ splits (length hyps) (suc (length hyps)) p → Told b t0 t2 r1 r2 (supposed hyps p, q) → Told b t0 t2 r0 r2 (hyps, binary Implication p q)
told_supposed true t0 t2 r0 r1 r2 hyps p q ready unclosed w e s = record {
  more = Imp ∷ (splits (length hyps) (suc (length hyps)) p ++ s.more);
  same = s.same ∙ ap (λ rs. rs ++ s.more) e ∙ append_assoc r0 (Imp ∷ splits (length hyps) (suc (length hyps)) p) s.more;
  derives = λ wide ok u. suppose wide (ready-wider t0 wide (hyps, binary Implication p q) ready ok (wider-trans t0 t2 wide w u)) (s.derives wide ok u);
  brings = brings_behind t0 t2 Implication p q (Imp ∷ splits (length hyps) (suc (length hyps)) p) s.more (tt, splits_bare p (length hyps) (suc (length hyps))) s.brings;
}
  where
    suppose : (wide : Table) → IsReady wide (hyps, binary Implication p q) → Derives wide s.more (supposed hyps p, q) → Derives wide (Imp ∷ (splits (length hyps) (suc (length hyps)) p ++ s.more)) (hyps, binary Implication p q)
    suppose wide now d =
        let one : List Formula = p ∷ [] in
        let next : IsReady wide (hyps ++ one, q) = ready-more wide hyps p q now in
        let fine : IsFine wide p = (imp-sides wide p q (goal-fine wide (hyps, binary Implication p q) now)).0 in
        let long : suc (length hyps) ≡ length (hyps ++ one) = (let k = length-append hyps one in omega arith) in
        derives_supposed wide hyps p q (splits (length hyps) (suc (length hyps)) p ++ s.more) next.types (ready-within wide (hyps ++ one, q) next)
        (splits-derive wide q p (length hyps) (suc (length hyps)) (hyps ++ one) s.more (last_item hyps p) long next fine
        (subst (λ (fs : List Formula). Derives wide s.more (fs, q)) (sym (append_assoc hyps one (parts p))) d))
told_supposed false t0 t2 r0 r1 r2 hyps p q ready unclosed w e s = λ n k. let m = easy_supposed n t0 hyps p q unclosed k in s m.0 m.1

-- ---- new variables
module _ (t0 t1 : Table) (hyps : List Formula) (ts : List ValueType) (body : Formula) (ns : Vec ℕ) (ready : IsReady t0 (hyps, for_all ts body)) (grew : GrewBy t0 t1 ts) (are : ns.items ≡ numbers_from (length t0.variables) (length ts)) where
  fresh_over : (wide : Table) → IsWider t1 wide → are_fresh wide (hyps, for_all ts body) ts ns.items ≡ true
  fresh_over wide w = fresh t0 t1 wide (hyps, for_all ts body) ts ns.items ready.types grew w are

  given_over : (wide : Table) → IsWider t1 wide → give_each wide ts (names_of ns.items) ≡ true
  given_over wide w =
      (and-both (give_each wide ts (names_of ns.items)) (are_distinct ns.items) (and-both (give_each wide ts (names_of ns.items) && are_distinct ns.items) (list_all (is_new (for_all ts body ∷ hyps)) ns.items) (fresh_over wide w)).0).0

  pub ready_opened : IsWellFormed t1 → IsWider t0 t1 → IsReady t1 (hyps, opened (names_of ns.items) body)
  ready_opened well w =
      let types : Types t1 (hyps, for_all ts body) = ready-types t0 t1 (hyps, for_all ts body) ready w in
      let given : give_each t1 ts (names_of ns.items) ≡ true = given_over t1 (wider-refl t1) in
      let inner = if_holds-predicate (all_listed t1 ts) (if_predicate predicate (role t1 (bind ts []) body)) types.1 in
      let is_body : role t1 (bind ts []) body ≡ predicate = (if_predicate-predicate predicate (role t1 (bind ts []) body) inner.1).0 in
      record {
        well = well;
        types = (types.0, opening_keeps_role t1 well ts (names_of ns.items) (give_each-then t1 ts (names_of ns.items) given) body ∙ is_body);
        hyps = ready.hyps;
        goal = record {
          nodes = (let e = size_opened ns.items body in let h = ready.goal.nodes in omega arith);
          height = (let e = height_opened ns.items body in let h = ready.goal.height in omega arith);
        };
      }

  pub told_fixed : (b : Bool) (t2 : Table) (r0 r1 r2 : List Rule) → is_obvious hyps (for_all ts body) ≡ false → IsWellFormed t1 → IsWider t0 t1 → IsWider t1 t2 → r1 ≡ r0 ++ Fix ns ∷ [] → Told b t1 t2 r1 r2 (hyps, opened (names_of ns.items) body) → Told b t0 t2 r0 r2 (hyps, for_all ts body)
  told_fixed true t2 r0 r1 r2 unclosed well w v e s = record {
    more = Fix ns ∷ s.more;
    same = s.same ∙ ap (λ rs. rs ++ s.more) e ∙ append_assoc r0 (Fix ns ∷ []) s.more;
    derives = λ wide ok u.
        (let to : IsWider t1 wide = wider-trans t1 t2 wide v u in
        let next : IsReady t1 (hyps, opened (names_of ns.items) body) = ready_opened well w in
        derives_fixed wide hyps ts body ns s.more (fresh_over wide to) (ready-types t1 wide (hyps, opened (names_of ns.items) body) next to) (ready-within t1 (hyps, opened (names_of ns.items) body) next) (s.derives wide ok u));
    brings = brings_fixed t0 t1 t2 ts body ns s.more grew are given_over v s.brings;
  }
  told_fixed false t2 r0 r1 r2 unclosed well w v e s = λ n k. let m = easy_opened n t0 t1 hyps ts body ns.items unclosed w (fresh_over t1 (wider-refl t1)) k in s m.0 m.1

-- ---- two orders
number-not-over : (a b : Role) (t : ValueType) → numbers_role (gives (set_type int_type)) a b ≡ ranges_over t → ⊥
number-not-over (gives int_type) (gives int_type) t h = absurd (cc)
number-not-over (gives int_type) _ t h = absurd (cc)
number-not-over _ b t h = absurd (cc)

record AreNumbers (a b c : Role) : Type 0 where
  pub first : a ≡ gives int_type
  pub second : b ≡ gives int_type
  pub third : c ≡ gives int_type

within-numbers : (a l h : Role) → membership_role a (numbers_role (gives (set_type int_type)) l h) ≡ predicate → AreNumbers a l h
within-numbers a l h e =
    let k = membership-parts a (numbers_role (gives (set_type int_type)) l h) e in
    elim k.2 [
      | inl q ↦ (let i = interval-parts l h (set_type k.0) q in let same : k.0 ≡ int_type = (let r = i.2 in cc) in record { first = k.1 ∙ ap gives same; second = i.0; third = i.1 })
      | inr q ↦ absurd (number-not-over l h k.0 q)
    ]

order-typed : (table : Table) (a b : Formula) → role table [] a ≡ gives int_type → role table [] b ≡ gives int_type → IsPredicate table (binary Le a b)
order-typed table a b h k = λ i. numbers_role predicate (h i) (k i)

both-typed : (table : Table) (p q : Formula) → IsPredicate table p → IsPredicate table q → IsPredicate table (binary Conjunction p q)
both-typed table p q h k = λ i. connective_role (h i) (k i)

stands : (table : Table) (old new : Formula) → IsPredicate table old → IsPredicate table new → stands_for table old (record { sides = []; left = old; right = new }) ≡ true
stands table old new h k = and-true (is_same old old) (same_role (role table [] old) (role table [] new)) (same-if old old refl) (λ i. same_role (h i) (k i))

-- what the law makes of the goal is typed and within the limits
record AreOrders (table : Table) (hyps : List Formula) (p q : Formula) : Type 0 where
  pub hyps_typed : Each (IsPredicate table) hyps
  pub hyps_within : Each IsWithinLimits hyps
  pub p_typed : IsPredicate table p
  pub q_typed : IsPredicate table q
  pub p_within : IsWithinLimits p
  pub q_within : IsWithinLimits q
  pub both_within : IsWithinLimits (binary Conjunction p q)

by_law : (table : Table) (hyps : List Formula) (old p q : Formula) (law : ℕ) (picks : Vec Formula) (path : Vec ℕ) (first second : List Rule) → path.items ≡ [] → law_instance law picks.items ≡ Some (record { sides = []; left = old; right = binary Conjunction p q }) → IsPredicate table old → AreOrders table hyps p q → Derives table first (hyps, p) → Derives table second (hyps, q) → Derives table (Law law picks (Goal path) ∷ And ∷ (first ++ second)) (hyps, old)
by_law table hyps old p q law picks path first second whole is typed o d e =
    let both : IsPredicate table (binary Conjunction p q) = both-typed table p q o.p_typed o.q_typed in
    derives_by_law table hyps old (binary Conjunction p q) law picks path (And ∷ (first ++ second)) whole is (stands table old (binary Conjunction p q) typed both)
    (o.hyps_typed, both) (o.hyps_within, o.both_within)
    (derives_both table hyps p q first second (o.hyps_typed, o.p_typed) (o.hyps_typed, o.q_typed) (o.hyps_within, o.p_within) (o.hyps_within, o.q_within) d e)

law_then_both : (r0 r1 r2 : List Rule) (law : Rule) (first second : List Rule) → r1 ≡ r0 ++ law ∷ [] → r2 ≡ (r1 ++ And ∷ []) ++ (first ++ second) → r2 ≡ r0 ++ law ∷ And ∷ (first ++ second)
law_then_both r0 r1 r2 law first second e f =
    f ∙ append_assoc r1 (And ∷ []) (first ++ second) ∙ ap (λ rs. rs ++ And ∷ (first ++ second)) e ∙ append_assoc r0 (law ∷ []) (And ∷ (first ++ second))

two_orders : (table : Table) (r0 r1 r2 : List Rule) (hyps : List Formula) (old p q : Formula) (law : ℕ) (picks : List Formula) → law_instance law picks ≡ Some (record { sides = []; left = old; right = binary Conjunction p q }) → IsReady table (hyps, old) → (law ≡ 101) ⊎ (law ≡ 105) → ((wide : Table) (first : ℕ) → Each (IsPart wide first old) picks) → ((wide : Table) → IsPredicate wide old → Each (IsPredicate wide) hyps → IsWider table wide → AreOrders wide hyps p q) → IsLawOfGoal r0 r1 law picks → ClosesBoth (r1 ++ And ∷ []) r2 hyps p q → Adds table table r0 r2 (hyps, old)
two_orders table r0 r1 r2 hyps old p q law picks is ready which parts orders l c = record {
  more = Law law l.terms (Goal l.path) ∷ And ∷ (c.first ++ c.second);
  same = law_then_both r0 r1 r2 (Law law l.terms (Goal l.path)) c.first c.second l.same c.same;
  derives = λ wide ok w.
      (let types : Types wide (hyps, old) = ready-types table wide (hyps, old) ready w in
      let o : AreOrders wide hyps p q = orders wide types.1 types.0 w in
      by_law wide hyps old p q law l.terms l.path c.first c.second l.whole (ap (law_instance law) l.are_picks ∙ is) types.1 o
      (c.derives_first wide (o.hyps_typed, o.p_typed) (o.hyps_within, o.p_within)) (c.derives_second wide (o.hyps_typed, o.q_typed) (o.hyps_within, o.q_within)));
  brings = brings_law table old law l.terms l.path (And ∷ (c.first ++ c.second)) which (λ wide first. subst (λ (fs : List Formula). Each (IsPart wide first old) fs) (sym l.are_picks) (parts wide first)) l.whole (tt, c.bare);
}

-- the goal `a : l .. h`
within_orders : (table : Table) (hyps : List Formula) (a l h : Formula) → IsReady table (hyps, binary In a (binary Range l h)) → (wide : Table) → IsPredicate wide (binary In a (binary Range l h)) → Each (IsPredicate wide) hyps → IsWider table wide → AreOrders wide hyps (binary Le l a) (binary Le a h)
within_orders table hyps a l h ready wide typed all w =
    let n = within-numbers (role wide [] a) (role wide [] l) (role wide [] h) typed in
    let size = ready.goal.nodes in
    let high = ready.goal.height in
    record {
      hyps_typed = all;
      hyps_within = each-map IsShort IsWithinLimits hyps short-within ready.hyps;
      p_typed = order-typed wide l a n.second n.first;
      q_typed = order-typed wide a h n.first n.third;
      p_within = record { nodes = omega arith; height = omega arith };
      q_within = record { nodes = omega arith; height = omega arith };
      both_within = record { nodes = omega arith; height = omega arith };
    }

told_within_at : (b : Bool) (table : Table) (r0 r1 r2 : List Rule) (hyps : List Formula) (a l h : Formula) → IsReady table (hyps, binary In a (binary Range l h)) → is_obvious hyps (binary In a (binary Range l h)) ≡ false → IsLawOfGoal r0 r1 105 (a ∷ l ∷ h ∷ []) → TellsBoth b (r1 ++ And ∷ []) r2 hyps (binary Le l a) (binary Le a h) → Told b table table r0 r2 (hyps, binary In a (binary Range l h))
told_within_at true table r0 r1 r2 hyps a l h ready unclosed law c = two_orders table r0 r1 r2 hyps (binary In a (binary Range l h)) (binary Le l a) (binary Le a h) 105 (a ∷ l ∷ h ∷ []) (within_is a l h) ready (inr refl) (λ wide first. ((2, inr (inl (inl refl))), ((3, inr (inr (inr (inl (inl refl))))), ((3, inr (inr (inr (inr (inl refl))))), tt)))) (within_orders table hyps a l h ready) law c
told_within_at false table r0 r1 r2 hyps a l h ready unclosed law c = λ n e. let k = easy_within n table hyps a l h unclosed e in c k.0 table k.1 k.2

pub told_within : (b : Bool) (table : Table) (r0 r1 r2 : List Rule) (hyps : List Formula) (a l h goal : Formula) → binary In a (binary Range l h) ≡ goal → IsReady table (hyps, goal) → is_obvious hyps goal ≡ false → IsLawOfGoal r0 r1 105 (a ∷ l ∷ h ∷ []) → TellsBoth b (r1 ++ And ∷ []) r2 hyps (binary Le l a) (binary Le a h) → Told b table table r0 r2 (hyps, goal)
told_within b table r0 r1 r2 hyps a l h goal e = subst (λ (g : Formula). IsReady table (hyps, g) → is_obvious hyps g ≡ false → IsLawOfGoal r0 r1 105 (a ∷ l ∷ h ∷ []) → TellsBoth b (r1 ++ And ∷ []) r2 hyps (binary Le l a) (binary Le a h) → Told b table table r0 r2 (hyps, g)) e
    (told_within_at b table r0 r1 r2 hyps a l h)

-- the goal `a = b`
equal_orders : (table : Table) (hyps : List Formula) (a b : Formula) → IsReady table (hyps, binary Eq a b) → role table [] a ≡ gives int_type → (wide : Table) → IsPredicate wide (binary Eq a b) → Each (IsPredicate wide) hyps → IsWider table wide → AreOrders wide hyps (binary Le a b) (binary Le b a)
equal_orders table hyps a b ready number wide typed all w =
    let k = equality-parts (role wide [] a) (role wide [] b) typed in
    let first : role wide [] a ≡ gives int_type = number-wider table wide ready.well w a number in
    let same : k.0 ≡ int_type = (let r : gives k.0 ≡ gives int_type = sym k.1 ∙ first in cc) in
    let second : role wide [] b ≡ gives int_type = k.2 ∙ ap gives same in
    let size = ready.goal.nodes in
    let high = ready.goal.height in
    record {
      hyps_typed = all;
      hyps_within = each-map IsShort IsWithinLimits hyps short-within ready.hyps;
      p_typed = order-typed wide a b first second;
      q_typed = order-typed wide b a second first;
      p_within = record { nodes = omega arith; height = omega arith };
      q_within = record { nodes = omega arith; height = omega arith };
      both_within = record { nodes = omega arith; height = omega arith };
    }

told_equal_at : (b : Bool) (table : Table) (r0 r1 r2 : List Rule) (hyps : List Formula) (x y : Formula) → IsReady table (hyps, binary Eq x y) → is_obvious hyps (binary Eq x y) ≡ false → role table [] x ≡ gives int_type → IsLawOfGoal r0 r1 101 (x ∷ y ∷ []) → TellsBoth b (r1 ++ And ∷ []) r2 hyps (binary Le x y) (binary Le y x) → Told b table table r0 r2 (hyps, binary Eq x y)
told_equal_at true table r0 r1 r2 hyps x y ready unclosed number law c = two_orders table r0 r1 r2 hyps (binary Eq x y) (binary Le x y) (binary Le y x) 101 (x ∷ y ∷ []) (equal_is x y) ready (inl refl) (λ wide first. ((2, inr (inl (inl refl))), ((2, inr (inr (inl refl))), tt))) (equal_orders table hyps x y ready number) law c
told_equal_at false table r0 r1 r2 hyps x y ready unclosed number law c = λ n e. let k = easy_equal n table hyps x y unclosed e in c k.0 table k.2 k.3

pub told_equal : (b : Bool) (table : Table) (r0 r1 r2 : List Rule) (hyps : List Formula) (x y goal : Formula) → binary Eq x y ≡ goal → IsReady table (hyps, goal) → is_obvious hyps goal ≡ false → role table [] x ≡ gives int_type → IsLawOfGoal r0 r1 101 (x ∷ y ∷ []) → TellsBoth b (r1 ++ And ∷ []) r2 hyps (binary Le x y) (binary Le y x) → Told b table table r0 r2 (hyps, goal)
told_equal b table r0 r1 r2 hyps x y goal e = subst (λ (g : Formula). IsReady table (hyps, g) → is_obvious hyps g ≡ false → role table [] x ≡ gives int_type → IsLawOfGoal r0 r1 101 (x ∷ y ∷ []) → TellsBoth b (r1 ++ And ∷ []) r2 hyps (binary Le x y) (binary Le y x) → Told b table table r0 r2 (hyps, g)) e
    (told_equal_at b table r0 r1 r2 hyps x y)

-- an equation of other values is not easy
pub hard_equal : (table : Table) (hyps : List Formula) (x y goal : Formula) → binary Eq x y ≡ goal → is_obvious hyps goal ≡ false → (role table [] x ≡ gives int_type → ⊥) → IsHard table (hyps, goal)
hard_equal table hyps x y goal e = subst (λ (g : Formula). is_obvious hyps g ≡ false → (role table [] x ≡ gives int_type → ⊥) → IsHard table (hyps, g)) e
    (λ unclosed other n k. other (easy_equal n table hyps x y unclosed k).1)

-- ---- goals of other shapes are not easy
not-interval : (table : Table) (hyps : List Formula) (a set : Formula) (n : ℕ) → sides Range set ≡ None → EasyOf (IsEasyIn n) table In hyps a set → ⊥
not-interval table hyps a (binary Range l h) n none e = cc
not-interval table hyps a _ n none e = e

pub hard_within : (table : Table) (hyps : List Formula) (a set goal : Formula) → binary In a set ≡ goal → is_obvious hyps goal ≡ false → sides Range set ≡ None → IsHard table (hyps, goal)
hard_within table hyps a set goal e = subst (λ (g : Formula). is_obvious hyps g ≡ false → sides Range set ≡ None → IsHard table (hyps, g)) e
    (λ unclosed none n k. let m = easy_by_shape n table hyps (binary In a set) unclosed k in not-interval table hyps a set m.0 none m.1)

other-sides : (o : BinOp) (table : Table) (hyps : List Formula) (p q : Formula) (n : ℕ) → (o ≡ Conjunction → ⊥) → (o ≡ Implication → ⊥) → (o ≡ In → ⊥) → (o ≡ Eq → ⊥) → (o ≡ Le → ⊥) → (o ≡ Lt → ⊥) → EasyOf (IsEasyIn n) table o hyps p q → ⊥
other-sides Conjunction table hyps p q n a i m e l s h = a refl
other-sides Implication table hyps p q n a i m e l s h = i refl
other-sides In table hyps p q n a i m e l s h = m refl
other-sides Eq table hyps p q n a i m e l s h = e refl
other-sides Le table hyps p q n a i m e l s h = l refl
other-sides Lt table hyps p q n a i m e l s h = s refl
other-sides _ table hyps p q n a i m e l s h = h

pub hard_sides : (o : BinOp) (table : Table) (hyps : List Formula) (p q goal : Formula) → binary o p q ≡ goal → is_obvious hyps goal ≡ false → (o ≡ Conjunction → ⊥) → (o ≡ Implication → ⊥) → (o ≡ In → ⊥) → (o ≡ Eq → ⊥) → (o ≡ Le → ⊥) → (o ≡ Lt → ⊥) → IsHard table (hyps, goal)
hard_sides o table hyps p q goal e = subst (λ (g : Formula). is_obvious hyps g ≡ false → (o ≡ Conjunction → ⊥) → (o ≡ Implication → ⊥) → (o ≡ In → ⊥) → (o ≡ Eq → ⊥) → (o ≡ Le → ⊥) → (o ≡ Lt → ⊥) → IsHard table (hyps, g)) e
    (λ unclosed a i m q' l s n k. let j = easy_by_shape n table hyps (binary o p q) unclosed k in other-sides o table hyps p q j.0 a i m q' l s j.1)

other-shape : (v : View) (table : Table) (hyps : List Formula) (n : ℕ) → ((o : BinOp) (a b : Bor Formula) → v ≡ Bin o a b → ⊥) → ((ts : Bor (List ValueType)) (p : Bor Formula) → v ≡ Universal ts p → ⊥) → (v ≡ False → ⊥) → EasyBy (IsEasyIn n) table hyps (shown v) → ⊥
other-shape (Bin o a b) table hyps n x y z h = x o a b refl
other-shape (Universal ts p) table hyps n x y z h = y ts p refl
other-shape False table hyps n x y z h = z refl
other-shape _ table hyps n x y z h = h

pub hard_shape : (v : View) (table : Table) (hyps : List Formula) (goal : Formula) → shown v ≡ goal → is_obvious hyps goal ≡ false → ((o : BinOp) (a b : Bor Formula) → v ≡ Bin o a b → ⊥) → ((ts : Bor (List ValueType)) (p : Bor Formula) → v ≡ Universal ts p → ⊥) → (v ≡ False → ⊥) → IsHard table (hyps, goal)
hard_shape v table hyps goal e = subst (λ (g : Formula). is_obvious hyps g ≡ false → ((o : BinOp) (a b : Bor Formula) → v ≡ Bin o a b → ⊥) → ((ts : Bor (List ValueType)) (p : Bor Formula) → v ≡ Universal ts p → ⊥) → (v ≡ False → ⊥) → IsHard table (hyps, g)) e
    (λ unclosed x y z n k. let j = easy_by_shape n table hyps (shown v) unclosed k in other-shape v table hyps j.0 x y z j.1)

-- ---- the whole
pub found : (small table : Table) (rules : List Rule) (s : Sequent) → IsWellFormed table → Adds small table [] rules s → Derives table rules s
found small table rules s well a = subst (λ (rs : List Rule). Derives table rs s) (sym a.same) (a.derives table well (wider-refl table))

pub not_easy : (table : Table) (s : Sequent) → IsHard table s → IsEasy table s → ⊥
not_easy table s h e = h e.steps e.easy

pub large_goal : (table : Table) (s : Sequent) → (IsShort s.1 → ⊥) → IsEasy table s → ⊥
large_goal table s h e = h (record { nodes = e.goal.nodes; height = e.goal.height })

pub large_hyps : (table : Table) (s : Sequent) → (All IsShort s.0 → ⊥) → IsEasy table s → ⊥
large_hyps table s h e = h (λ k d b. record { nodes = (e.hyps k d b).nodes; height = (e.hyps k d b).height })

pub ready_from : (table : Table) (s : Sequent) → IsWellFormed table → Types table s → All IsShort s.0 → IsShort s.1 → IsReady table s
ready_from table s well types hyps goal = record { well = well; types = types; hyps = each-all IsShort s.0 hyps; goal = goal }
