-- A step over a table is a step with any sizes for the sets that have none, and so is a derivation.
use Rattle.std.proofs.Common.{◌≡◌, ℕ, zero, suc, List, [], ◌∷◌, ◌++◌, refl, sym, ◌∙◌, ap, subst, Bool, true, false, ◌&&◌, map}
use Rattle.std.specs.Prelude.{Option, Some, None, slice_get}
use Rattle.std.specs.Option.{option_map, option_and_then}
use Rattle.bk_val.specs.ValueType.{ValueType, bool_type, enum_type, set_type, pair_type}
use Rattle.bk_form.specs.Table.{Table, SetEntry, set_elements, IsWellFormed}
use Rattle.bk_form.specs.Formula.{Formula, unary, binary, for_some}
use Rattle.bk_form.specs.Each.{Each}
use Rattle.bk_form.specs.Role.{Role, untyped, gives, ranges_over, predicate, role}
use Rattle.bk_form.specs.Wider.{IsTypedRole}
use Rattle.bk_form.specs.Sized.{sized_from, with_sizes, AreSizes}
use Rattle.bk_form.specs.declared.operator.UnOp.TheVariants.{Dom, Ran, Pow}
use Rattle.bk_form.specs.declared.operator.BinOp.TheVariants.{Eq as Equality, In, Image, Comp, Maps}
use Rattle.bk_form.proofs.Sizing.{role-sized, well-sized, sizes_fit}
use Rattle.bk_form.proofs.Members.{and-true, and-both}
use Rattle.bk_seq.specs.Paths.{numbered_item, sub_at, put_at}
use Rattle.bk_seq.specs.Sequents.{Sequent, Types, IsValidSequent, IsValidForAllSizes}
use Rattle.bk_seq.proofs.SizedValidity.{predicate-sized, types-sized, each-at}
use Rattle.bk_arith.specs.Same.{is_same}
use Rattle.bk_laws.specs.Rows.{Instance}
use Rattle.bk_kernel.specs.declared.rule.Rule.{Rule}
use Rattle.bk_kernel.specs.declared.rule.Rule.TheVariants.{Eval, Fix, UseTerms, Inst, OpenSome, Drop, Eq, Qe, Law, Wal, TypeOf, Neg, Mem, Val, Ext, Sub, Ex, Pair, Elems}
use Rattle.bk_kernel.specs.declared.rule.Place.{Place}
use Rattle.bk_kernel.specs.declared.rule.Place.TheVariants.{Goal, Hyp as InHyp}
use Rattle.bk_kernel.specs.Branches.{Branch, extended, when, universal, existential, sides, operand}
use Rattle.bk_kernel.specs.Naming.{gives_type, give_each, names_of, are_fresh, are_distinct, is_new}
use Rattle.bk_kernel.specs.Listing.{named_elements, elements_of_type, listed_types}
use Rattle.bk_kernel.specs.Rewriting.{Rewriting, eq_to, eq_from, law_to, law_from, deciding, typing, negating, belonging, applying, extending, including, witnessing, set_of_type, relation_of_types, witness, instance_for, same_role, stands_for, part_rewritten, goal_changed, hypothesis_changed, rewritten}
use Rattle.bk_kernel.specs.Rules.{fixed, used, instantiated, named_for, branches, makes, IsInstance}
use Rattle.bk_kernel.specs.Derivations.{Leaves, Derives}
use Rattle.bk_kernel.specs.RuleLaws.{SoundForAllSizes}
use Rattle.bk_kernel.specs.Laws.{ObviousForAllSizes}
use Rattle.bk_kernel.proofs.SoundRules.{rules-are-sound}
use Rattle.bk_kernel.proofs.DerivedValid.{derived-is-valid, derived-wider-is-valid}
use Rattle.bk_kernel.proofs.Validity.{obvious_is_valid}

-- ---- what is answered stays the answer
then-kept : {A B : Type 0} (f g : A → Option B) (y : B) → ((x : A) → f x ≡ Some y → g x ≡ Some y) → (o : Option A) → option_and_then f o ≡ Some y → option_and_then g o ≡ Some y
then-kept f g y k None h = absurd (cc)
then-kept f g y k (Some x) h = k x h

map-kept : {A B : Type 0} (f : A → B) (y : B) (o p : Option A) → ((x : A) → o ≡ Some x → p ≡ Some x) → option_map f o ≡ Some y → option_map f p ≡ Some y
map-kept f y None p k h = absurd (cc)
map-kept f y (Some x) p k h = ap (option_map f) (k x refl) ∙ h

when-kept : {A : Type 0} (b c : Bool) (x y : A) → (b ≡ true → c ≡ true) → when b x ≡ Some y → when c x ≡ Some y
when-kept true c x y k h = ap (λ b. when b x) (k refl) ∙ h
when-kept false c x y k h = absurd (cc)

-- what is answered by what a formula stands for, and is nothing where it does not type
role-kept : {A : Type 0} (f : Role → Option A) (r s : Role) (x : A) → f untyped ≡ None → (IsTypedRole r → s ≡ r) → f r ≡ Some x → f s ≡ Some x
role-kept f untyped s x n k h = let never : None ≡ Some x = sym n ∙ h in absurd (cc)
role-kept f (gives t) s x n k h = ap f (k tt) ∙ h
role-kept f (ranges_over t) s x n k h = ap f (k tt) ∙ h
role-kept f predicate s x n k h = ap f (k tt) ∙ h

test-kept : (f : Role → Bool) (r s : Role) → f untyped ≡ false → (IsTypedRole r → s ≡ r) → f r ≡ true → f s ≡ true
test-kept f untyped s n k h = let never : false ≡ true = sym n ∙ h in absurd (cc)
test-kept f (gives t) s n k h = ap f (k tt) ∙ h
test-kept f (ranges_over t) s n k h = ap f (k tt) ∙ h
test-kept f predicate s n k h = ap f (k tt) ∙ h

-- two that stand for the same kind of thing both type
both-type : (r s : Role) → same_role r s ≡ true → IsTypedRole r × IsTypedRole s
both-type (gives t) (gives u) h = (tt, tt)
both-type (ranges_over t) (ranges_over u) h = (tt, tt)
both-type predicate predicate h = (tt, tt)
both-type _ _ h = absurd (cc)

-- sizes leave the names of elements
names-sized : (sizes : ℕ → ℕ) (n : ℕ) (ss : List SetEntry) (s : ℕ) → option_map (λ x. x.elements) (slice_get (sized_from sizes n ss) s) ≡ option_map (λ x. x.elements) (slice_get ss s)
names-sized sizes n [] s = refl
names-sized sizes n (x ∷ xs) zero = refl
names-sized sizes n (x ∷ xs) (suc s) = names-sized sizes (suc n) xs s

module _ (sizes : ℕ → ℕ) (table : Table) where
  abbrev sized : Table
  sized = with_sizes sizes table

  kept : {A : Type 0} (c : Role → Option A) (f : Formula) (x : A) → c untyped ≡ None → c (role table [] f) ≡ Some x → c (role sized [] f) ≡ Some x
  kept c f x n h = role-kept c (role table [] f) (role sized [] f) x n (role-sized sizes table [] f) h

  -- ---- terms and names
  each-kept : (ts : List ValueType) (fs : List Formula) → give_each table ts fs ≡ true → give_each sized ts fs ≡ true
  each-kept [] [] h = refl
  each-kept (t ∷ ts) (f ∷ fs) h =
      let k = and-both (gives_type (role table [] f) t) (give_each table ts fs) h in
      and-true (gives_type (role sized [] f) t) (give_each sized ts fs) (test-kept (λ r. gives_type r t) (role table [] f) (role sized [] f) refl (role-sized sizes table [] f) k.0) (each-kept ts fs k.1)
  each-kept _ _ h = absurd (cc)

  fresh-kept : (s : Sequent) (ts : List ValueType) (ns : List ℕ) → are_fresh table s ts ns ≡ true → are_fresh sized s ts ns ≡ true
  fresh-kept s ts ns h =
      let rest = Rattle.std.specs.List.list_all (is_new (s.1 ∷ s.0)) ns in
      let k = and-both (give_each table ts (names_of ns) && are_distinct ns) rest h in
      let m = and-both (give_each table ts (names_of ns)) (are_distinct ns) k.0 in
      and-true (give_each sized ts (names_of ns) && are_distinct ns) rest (and-true (give_each sized ts (names_of ns)) (are_distinct ns) (each-kept ts (names_of ns) m.0) m.1) k.1

  -- ---- what comes at a place
  witness-kept : (x d f : Formula) → witness table x d ≡ Some f → witness sized x d ≡ Some f
  witness-kept x (unary Dom r) f h = map-kept _ f (relation_of_types (role table [] r)) (relation_of_types (role sized [] r)) (λ w. kept relation_of_types r w refl) h
  witness-kept x (unary Ran r) f h = map-kept _ f (relation_of_types (role table [] r)) (relation_of_types (role sized [] r)) (λ w. kept relation_of_types r w refl) h
  witness-kept x (binary Image r a) f h = map-kept _ f (relation_of_types (role table [] r)) (relation_of_types (role sized [] r)) (λ w. kept relation_of_types r w refl) h
  witness-kept x (binary Comp r q) f h = then-kept _ _ f (λ y k. map-kept _ f (relation_of_types (role table [] r)) (relation_of_types (role sized [] r)) (λ w. kept relation_of_types r w refl) k) (sides Maps x) h
  witness-kept x _ f h = absurd (cc)

  instance-kept : (hyps : List Formula) (r : Rewriting) (old : Formula) (i : Instance) → instance_for table hyps r old ≡ Some i → instance_for sized hyps r old ≡ Some i
  instance-kept hyps extending old i h = then-kept _ _ i (λ x k. map-kept _ i (set_of_type (role table [] x.0)) (set_of_type (role sized [] x.0)) (λ t. kept set_of_type x.0 t refl) k) (sides Equality old) h
  instance-kept hyps including old i h =
      then-kept _ _ i (λ x k. then-kept _ _ i (λ a m. map-kept _ i (set_of_type (role table [] x.0)) (set_of_type (role sized [] x.0)) (λ t. kept set_of_type x.0 t refl) m) (operand Pow x.1) k) (sides In old) h
  instance-kept hyps witnessing old i h = then-kept _ _ i (λ x k. map-kept _ i (witness table x.0 x.1) (witness sized x.0 x.1) (λ f. witness-kept x.0 x.1 f) k) (sides In old) h
  instance-kept hyps _ old i h = h

  stands-kept : (old : Formula) (i : Instance) → stands_for table old i ≡ true → stands_for sized old i ≡ true
  stands-kept old i h =
      let k = and-both (is_same i.left old) (same_role (role table [] i.left) (role table [] i.right)) h in
      let t = both-type (role table [] i.left) (role table [] i.right) k.1 in
      and-true (is_same i.left old) (same_role (role sized [] i.left) (role sized [] i.right)) k.0 ((λ j. same_role (role-sized sizes table [] i.left t.0 j) (role-sized sizes table [] i.right t.1 j)) ∙ k.1)

  replaced-kept : (hyps : List Formula) (r : Rewriting) (f : Formula) (path : List ℕ) (x : List Formula × Formula) → part_rewritten table hyps r f path ≡ Some x → part_rewritten sized hyps r f path ≡ Some x
  replaced-kept hyps r f path x h =
      then-kept _ _ x (λ old k. by_instance old (instance_for table hyps r old) refl k) (sub_at f path) h
    where
      by_instance : (old : Formula) (o : Option Instance) → instance_for table hyps r old ≡ o → option_and_then (λ i. when (stands_for table old i) (i.sides, put_at f path i.right)) o ≡ Some x → option_and_then (λ i. when (stands_for sized old i) (i.sides, put_at f path i.right)) (instance_for sized hyps r old) ≡ Some x
      by_instance old None q k = absurd (cc)
      by_instance old (Some i) q k =
          ap (option_and_then (λ i. when (stands_for sized old i) (i.sides, put_at f path i.right))) (instance-kept hyps r old i q)
          ∙ when-kept (stands_for table old i) (stands_for sized old i) (i.sides, put_at f path i.right) x (stands-kept old i) k

  rewritten-kept : (s : Sequent) (r : Rewriting) (place : Place) (bs : List Branch) → rewritten table s r place ≡ Some bs → rewritten sized s r place ≡ Some bs
  rewritten-kept s r (Goal path) bs h = map-kept _ bs (part_rewritten table s.0 r s.1 path.items) (part_rewritten sized s.0 r s.1 path.items) (λ x. replaced-kept s.0 r s.1 path.items x) h
  rewritten-kept s r (InHyp i path) bs h = then-kept _ _ bs (λ p k. map-kept _ bs (part_rewritten table s.0 r p path.items) (part_rewritten sized s.0 r p path.items) (λ x. replaced-kept s.0 r p path.items x) k) (numbered_item s.0 i) h

  -- ---- rules
  all-kept : (r : Role) (fs : List Formula) → elements_of_type table r ≡ Some fs → elements_of_type sized r ≡ Some fs
  all-kept (gives bool_type) fs h = h
  all-kept (gives (enum_type s)) fs h = ap (named_elements s) (names-sized sizes 0 table.sets s) ∙ h
  all-kept _ fs h = absurd (cc)

  elements-kept : (e : Formula) (fs : List Formula) → elements_of_type table (role table [] e) ≡ Some fs → elements_of_type sized (role sized [] e) ≡ Some fs
  elements-kept e fs h = kept (elements_of_type sized) e fs refl (all-kept (role table [] e) fs h)

  branches-kept : (s : Sequent) (rule : Rule) (bs : List Branch) → branches table s rule ≡ Some bs → branches sized s rule ≡ Some bs
  branches-kept s (Eval (Some place)) bs h = rewritten-kept s deciding place bs h
  branches-kept s (Fix ns) bs h = then-kept _ _ bs (λ q k. when-kept (are_fresh table s q.0 ns.items) (are_fresh sized s q.0 ns.items) _ bs (fresh-kept s q.0 ns.items) k) (universal s.1) h
  branches-kept s (UseTerms fs) bs h = then-kept _ _ bs (λ q k. when-kept (give_each table q.0 fs.items) (give_each sized q.0 fs.items) _ bs (each-kept q.0 fs.items) k) (existential s.1) h
  branches-kept s (Inst i fs) bs h = then-kept _ _ bs (λ p m. then-kept _ _ bs (λ q k. when-kept (give_each table q.0 fs.items) (give_each sized q.0 fs.items) _ bs (each-kept q.0 fs.items) k) (universal p) m) (numbered_item s.0 i) h
  branches-kept s (OpenSome i ns) bs h = then-kept _ _ bs (λ p m. then-kept _ _ bs (λ q k. when-kept (are_fresh table s q.0 ns.items) (are_fresh sized s q.0 ns.items) _ bs (fresh-kept s q.0 ns.items) k) (existential p) m) (numbered_item s.0 i) h
  branches-kept s (Eq i place) bs h = rewritten-kept s (eq_to i) place bs h
  branches-kept s (Qe i place) bs h = rewritten-kept s (eq_from i) place bs h
  branches-kept s (Law law picks place) bs h = rewritten-kept s (law_to law picks.items) place bs h
  branches-kept s (Wal law picks place) bs h = rewritten-kept s (law_from law picks.items) place bs h
  branches-kept s (TypeOf place) bs h = rewritten-kept s typing place bs h
  branches-kept s (Neg place) bs h = rewritten-kept s negating place bs h
  branches-kept s (Mem place) bs h = rewritten-kept s belonging place bs h
  branches-kept s (Val place) bs h = rewritten-kept s applying place bs h
  branches-kept s (Ext place) bs h = rewritten-kept s extending place bs h
  branches-kept s (Sub place) bs h = rewritten-kept s including place bs h
  branches-kept s (Ex place) bs h = rewritten-kept s witnessing place bs h
  branches-kept s (Pair e) bs h = map-kept _ bs (listed_types (role table [] e)) (listed_types (role sized [] e)) (λ w. kept listed_types e w refl) h
  branches-kept s (Elems e) bs h = map-kept _ bs (elements_of_type table (role table [] e)) (elements_of_type sized (role sized [] e)) (λ fs. elements-kept e fs) h
  branches-kept s _ bs h = h

  made-kept : (s : Sequent) (rule : Rule) (news : List Sequent) → makes table s rule ≡ Some news → makes sized s rule ≡ Some news
  made-kept s (Drop i) news h = h
  made-kept s rule news h = map-kept (map (extended s)) news (branches table s rule) (branches sized s rule) (λ bs. branches-kept s rule bs) h

  each-types : (ss : List Sequent) → Each (Types table) ss → Each (Types sized) ss
  each-types [] h = tt
  each-types (s ∷ ss) h = (types-sized sizes table s h.0, each-types ss h.1)

  -- a step is a step with these sizes
  pub step-kept : (s : Sequent) (rule : Rule) (news : List Sequent) → IsInstance table s rule news → IsInstance sized s rule news
  step-kept s rule news h = record { made = made-kept s rule news h.made; type = each-types news h.type; within = h.within }

  leaves-kept : (claims : List Sequent) (rules : List Rule) (left : List Sequent) → Leaves table claims rules left → Leaves sized claims rules left
  leaves-kept claims [] left h = h
  leaves-kept [] (r ∷ rs) left h = absurd h
  leaves-kept (s ∷ claims) (r ∷ rs) left h = (h.0, step-kept s r h.0 h.1, leaves-kept (h.0 ++ claims) rs left h.2)

  -- what is derived is derived with these sizes
  pub derived-kept : (rules : List Rule) (s : Sequent) → Derives table rules s → Derives sized rules s
  derived-kept rules s h = leaves-kept (s ∷ []) rules [] h

pub sound_for_all_sizes : SoundForAllSizes
sound_for_all_sizes = record {
  steps = λ table well s rule news types h valid sizes p. rules-are-sound (with_sizes sizes table) (well-sized sizes table well) s rule news (types-sized sizes table s types) (step-kept sizes table s rule news h) (each-at sizes p table news valid);
  derived = λ table well rules s types h sizes p. derived-is-valid (with_sizes sizes table) (well-sized sizes table well) rules s (types-sized sizes table s types) (derived-kept sizes table rules s h);
  wider = λ small large rules s h sizes p.
      derived-wider-is-valid (with_sizes sizes small) (with_sizes sizes large) rules s (record {
        small_formed = well-sized sizes small h.small_formed;
        large_formed = well-sized sizes large h.large_formed;
        wider = sizes_fit.wider sizes small large h.wider;
        types = types-sized sizes small s h.types;
        derives = derived-kept sizes large rules s h.derives;
      });
}

pub obvious_for_all_sizes : ObviousForAllSizes
obvious_for_all_sizes table well hyps goal h o sizes p = obvious_is_valid (with_sizes sizes table) (well-sized sizes table well) hyps goal (predicate-sized sizes table goal h) o
