-- A written substitution that stands where it may reads as one that does.
use Rattle.std.proofs.Common.{◌≡◌, inl, inr, ℕ, ◌+◌, List, [], ◌∷◌, ◌++◌, length, refl, Bool, true, false, not, ◌&&◌}
use Rattle.std.specs.Prelude.{Option, None, Some, ℤ}
use Rattle.bk_val.specs.ValueType.{ValueType, int_type, bool_type, enum_type, pair_type, set_type}
use Rattle.bk_form.specs.Formula.{Formula, unary, binary}
use Rattle.bk_form.specs.Role.{bind}
use Rattle.bk_form.specs.declared.operator.UnOp.TheVariants.{Not as Negation}
use Rattle.bk_form.specs.declared.operator.BinOp.TheVariants.{And as Conjunction}
use Rattle.bk_gsl.specs.Substitution.{Substitution, guard, choice}
use Rattle.bk_dev.specs.declared.kind.Kind.{Kind}
use Rattle.bk_dev.specs.declared.kind.Kind.TheVariants.{Machine, Refinement, Implementation}
use Rattle.bk_dev.specs.Development.{is_implementing}
use Rattle.bk_dev.specs.Facts.{IsGuard, MaySequence, MayLoop, LoopsStandIn, MayStandIn, IsUnordered}
use Rattle.bk_raw.specs.Trees.RawTree.{RawTree}
use Rattle.bk_raw.specs.Trees.SubTree.{SubTree, sub, SubNode, sub_skip, sub_call, sub_assign, sub_assign_at, sub_member, sub_such, sub_begin, sub_pre, sub_assert, sub_if, sub_choice, sub_select, sub_any, sub_let, sub_var, sub_while, sub_parallel, sub_sequence, Branches, no_branches, else_branch, branch_and, Choices, no_choices, choice_and}
use Rattle.bk_raw.specs.Meaning.Names.{Names}
use Rattle.bk_raw.specs.Meaning.Outcome.{ask_domain}
use Rattle.bk_raw.proofs.RulesFit.{none-left, none-right, some-fault}
use Rattle.bk_raw.proofs.Filled.{and-both}
use Rattle.bk_raw.specs.Errors.Faults.{Fault, wrong_operation}
use Rattle.bk_statics.specs.Typings.{Typing, numbered, target, number_of, type_at, predicate_read, outcome_of, term_read}
use Rattle.bk_statics.specs.Binders.{binder_count}
use Rattle.bk_statics.specs.Elaborated.{overridden, put_read, all_one_type, chosen_where, chosen_in, elaborated, elaborated_node, else_part, choices, selected}
use Rattle.bk_statics.specs.OperationFaults.{unless, may_sequence, shape_faults, shape_in, branches_shape, choices_shape}
use Rattle.bk_statics.specs.ShapeLaws.{IsShaped}

unless-then : (b : Bool) (at : ℕ) (fs : List Fault) → unless b at ++ fs ≡ [] → (b ≡ true) × (fs ≡ [])
unless-then true at fs h = (refl, h)
unless-then false at fs h = some-fault (wrong_operation at) fs h

sequence-then : (kind : Kind) → may_sequence kind ≡ true → MaySequence kind
sequence-then Machine h = absurd (cc)
sequence-then Refinement h = tt
sequence-then Implementation h = tt

loop-then : (kind : Kind) → is_implementing kind ≡ true → MayLoop kind
loop-then Machine h = absurd (cc)
loop-then Refinement h = absurd (cc)
loop-then Implementation h = tt

not-inside : (b : Bool) {A : Type 0} → not b ≡ true → b ≡ true → A
not-inside true h e = absurd (cc)
not-inside false h e = absurd (cc)

over-shaped : (kind : Kind) (inside : Bool) (f : ℕ) (e v : Option Formula) → IsShaped kind inside (overridden f e v)
over-shaped kind inside f None v = record { loops = tt; may = tt; unordered = λ e. tt }
over-shaped kind inside f (Some e) None = record { loops = tt; may = tt; unordered = λ e. tt }
over-shaped kind inside f (Some e) (Some v) = record { loops = tt; may = tt; unordered = λ e. tt }

put-shaped : (kind : Kind) (inside : Bool) (int_max : ℤ) (typing : Typing) (names : Names) (f : ℕ) (t : Option ValueType) (e v : RawTree) → IsShaped kind inside (put_read int_max typing names f t e v)
put-shaped kind inside int_max typing names f None e v = record { loops = tt; may = tt; unordered = λ e. tt }
put-shaped kind inside int_max typing names f (Some int_type) e v = record { loops = tt; may = tt; unordered = λ e. tt }
put-shaped kind inside int_max typing names f (Some bool_type) e v = record { loops = tt; may = tt; unordered = λ e. tt }
put-shaped kind inside int_max typing names f (Some (enum_type n)) e v = record { loops = tt; may = tt; unordered = λ e. tt }
put-shaped kind inside int_max typing names f (Some (pair_type t u)) e v = record { loops = tt; may = tt; unordered = λ e. tt }
put-shaped kind inside int_max typing names f (Some (set_type int_type)) e v = record { loops = tt; may = tt; unordered = λ e. tt }
put-shaped kind inside int_max typing names f (Some (set_type bool_type)) e v = record { loops = tt; may = tt; unordered = λ e. tt }
put-shaped kind inside int_max typing names f (Some (set_type (enum_type n))) e v = record { loops = tt; may = tt; unordered = λ e. tt }
put-shaped kind inside int_max typing names f (Some (set_type (set_type t))) e v = record { loops = tt; may = tt; unordered = λ e. tt }
put-shaped kind inside int_max typing names f (Some (set_type (pair_type t u))) e v = over-shaped kind inside f (term_read int_max typing names t e) (term_read int_max typing names u v)

-- a guard, with nothing in it that has a place of its own
record IsPlainGuard (kind : Kind) (s : Substitution) : Type 0 where
  is_guard : IsGuard s
  loops : LoopsStandIn kind s
  may : MayStandIn kind s
  unordered : IsUnordered s

where-guard : (kind : Kind) (c : Bool) (x z : ℕ) (d : Formula) → IsPlainGuard kind (chosen_where c x z d)
where-guard kind true x z d = record { is_guard = tt; loops = tt; may = tt; unordered = tt }
where-guard kind false x z d = record { is_guard = tt; loops = tt; may = tt; unordered = tt }

chosen-guard : (kind : Kind) (typing : Typing) (x : ℕ) (t : Option ValueType) (z : ℕ) (d : Option (Formula × ValueType)) → IsPlainGuard kind (chosen_in typing x t z d)
chosen-guard kind typing x t z None = record { is_guard = tt; loops = tt; may = tt; unordered = tt }
chosen-guard kind typing x t z (Some d) = where-guard kind (all_one_type t (typing z) d.1) x z d.0

module _ (kind : Kind) (int_max : ℤ) (typing : Typing) (above : Names) where
  mutual
    pub sub-shaped : (s : SubTree) (inside : Bool) (names : Names) (n : ℕ) → shape_faults kind inside s ≡ [] → IsShaped kind inside (elaborated int_max typing above names n s)
    sub-shaped (sub at node) inside names n e = node-shaped node inside at names n e

    node-shaped : (node : SubNode) (inside : Bool) (at : ℕ) (names : Names) (n : ℕ) → shape_in kind inside at node ≡ [] → IsShaped kind inside (elaborated_node int_max typing above names n node)
    node-shaped sub_skip inside at names n e = record { loops = tt; may = tt; unordered = λ e. tt }
    node-shaped (sub_call ys o ts) inside at names n e = record { loops = tt; may = tt; unordered = λ e. tt }
    node-shaped (sub_assign xs es) inside at names n e = record { loops = tt; may = tt; unordered = λ e. tt }
    node-shaped (sub_assign_at f a v) inside at names n e = put-shaped kind inside int_max typing names (number_of (target names f.text)) (type_at typing (target names f.text)) a v
    node-shaped (sub_member x a) inside at names n e =
        let g = chosen-guard kind typing (number_of (target names x.text)) (type_at typing (target names x.text)) n (ask_domain 0 (outcome_of int_max typing names a)).answer in
        record { loops = g.loops; may = (inl g.is_guard, g.may); unordered = λ e. (g.is_guard, g.unordered) }
    node-shaped (sub_such xs p) inside at names n e = record { loops = tt; may = tt; unordered = λ e. tt }
    node-shaped (sub_begin s) inside at names n e = sub-shaped s inside names n e
    node-shaped (sub_pre p s) inside at names n e = let k = sub-shaped s inside names n e in record { loops = k.loops; may = k.may; unordered = k.unordered }
    node-shaped (sub_assert p s) inside at names n e = let k = sub-shaped s inside names n e in record { loops = k.loops; may = k.may; unordered = k.unordered }
    node-shaped (sub_if p s bs) inside at names n e =
        let k = sub-shaped s inside names n (none-left (shape_faults kind inside s) (branches_shape kind inside bs) e) in
        let l = else-shaped bs inside names (n + binder_count s) (none-right (shape_faults kind inside s) (branches_shape kind inside bs) e) in
        record { loops = (k.loops, l.loops); may = (k.may, l.may); unordered = λ i. (k.unordered i, l.unordered i) }
    node-shaped (sub_choice s cs) inside at names n e =
        let k = sub-shaped s inside names n (none-left (shape_faults kind inside s) (choices_shape kind inside cs) e) in
        choices-shaped cs inside names (n + binder_count s) (elaborated int_max typing above names n s) k (none-right (shape_faults kind inside s) (choices_shape kind inside cs) e)
    node-shaped (sub_select p s bs) inside at names n e =
        let k = sub-shaped s inside names n (none-left (shape_faults kind inside s) (branches_shape kind inside bs) e) in
        let read = predicate_read int_max typing names p in
        selected-shaped bs inside names (n + binder_count s) (unary Negation read) (guard read (elaborated int_max typing above names n s)) (record { loops = k.loops; may = k.may; unordered = k.unordered }) (none-right (shape_faults kind inside s) (branches_shape kind inside bs) e)
    node-shaped (sub_any xs p s) inside at names n e = let k = sub-shaped s inside (bind (numbered n xs) names) (n + length xs) e in record { loops = k.loops; may = (inl tt, k.may); unordered = λ i. (tt, k.unordered i) }
    node-shaped (sub_let xs p s) inside at names n e = let k = sub-shaped s inside (bind (numbered n xs) names) (n + length xs) e in record { loops = k.loops; may = (inl tt, k.may); unordered = λ i. (tt, k.unordered i) }
    node-shaped (sub_var xs s) inside at names n e =
        let r = unless-then (may_sequence kind && not inside) at (shape_faults kind inside s) e in
        let b = and-both (may_sequence kind) (not inside) r.0 in
        let k = sub-shaped s inside (bind (numbered n xs) names) (n + length xs) r.1 in
        record { loops = k.loops; may = (inr (sequence-then kind b.0), k.may); unordered = λ i. not-inside inside b.1 i }
    node-shaped (sub_while p s i v) inside at names n e =
        let r = unless-then (is_implementing kind && not inside) at (shape_faults kind inside s) e in
        let b = and-both (is_implementing kind) (not inside) r.0 in
        let k = sub-shaped s inside names n r.1 in
        record { loops = (loop-then kind b.0, k.loops); may = k.may; unordered = λ i. not-inside inside b.1 i }
    node-shaped (sub_parallel s t) inside at names n e =
        let k = sub-shaped s true names n (none-left (shape_faults kind true s) (shape_faults kind true t) e) in
        let l = sub-shaped t true names (n + binder_count s) (none-right (shape_faults kind true s) (shape_faults kind true t) e) in
        record { loops = (k.loops, l.loops); may = (k.unordered refl, l.unordered refl, k.may, l.may); unordered = λ i. (k.unordered refl, l.unordered refl) }
    node-shaped (sub_sequence s t) inside at names n e =
        let r = unless-then (may_sequence kind && not inside) at (shape_faults kind inside s ++ shape_faults kind inside t) e in
        let b = and-both (may_sequence kind) (not inside) r.0 in
        let k = sub-shaped s inside names n (none-left (shape_faults kind inside s) (shape_faults kind inside t) r.1) in
        let l = sub-shaped t inside names (n + binder_count s) (none-right (shape_faults kind inside s) (shape_faults kind inside t) r.1) in
        record { loops = (k.loops, l.loops); may = (sequence-then kind b.0, k.may, l.may); unordered = λ i. not-inside inside b.1 i }

    else-shaped : (bs : Branches) (inside : Bool) (names : Names) (n : ℕ) → branches_shape kind inside bs ≡ [] → IsShaped kind inside (else_part int_max typing above names n bs)
    else-shaped no_branches inside names n e = record { loops = tt; may = tt; unordered = λ e. tt }
    else-shaped (else_branch s) inside names n e = sub-shaped s inside names n e
    else-shaped (branch_and p s bs) inside names n e =
        let k = sub-shaped s inside names n (none-left (shape_faults kind inside s) (branches_shape kind inside bs) e) in
        let l = else-shaped bs inside names (n + binder_count s) (none-right (shape_faults kind inside s) (branches_shape kind inside bs) e) in
        record { loops = (k.loops, l.loops); may = (k.may, l.may); unordered = λ i. (k.unordered i, l.unordered i) }

    choices-shaped : (cs : Choices) (inside : Bool) (names : Names) (n : ℕ) (before : Substitution) → IsShaped kind inside before → choices_shape kind inside cs ≡ [] → IsShaped kind inside (choices int_max typing above names n before cs)
    choices-shaped no_choices inside names n before b e = b
    choices-shaped (choice_and s cs) inside names n before b e =
        let k = sub-shaped s inside names n (none-left (shape_faults kind inside s) (choices_shape kind inside cs) e) in
        choices-shaped cs inside names (n + binder_count s) (choice before (elaborated int_max typing above names n s)) (record { loops = (b.loops, k.loops); may = (b.may, k.may); unordered = λ i. (b.unordered i, k.unordered i) }) (none-right (shape_faults kind inside s) (choices_shape kind inside cs) e)

    selected-shaped : (bs : Branches) (inside : Bool) (names : Names) (n : ℕ) (nots : Formula) (before : Substitution) → IsShaped kind inside before → branches_shape kind inside bs ≡ [] → IsShaped kind inside (selected int_max typing above names n nots before bs)
    selected-shaped no_branches inside names n nots before b e = b
    selected-shaped (else_branch s) inside names n nots before b e = let k = sub-shaped s inside names n e in record { loops = (b.loops, k.loops); may = (b.may, k.may); unordered = λ i. (b.unordered i, k.unordered i) }
    selected-shaped (branch_and p s bs) inside names n nots before b e =
        let k = sub-shaped s inside names n (none-left (shape_faults kind inside s) (branches_shape kind inside bs) e) in
        let read = predicate_read int_max typing names p in
        selected-shaped bs inside names (n + binder_count s) (binary Conjunction nots (unary Negation read)) (choice before (guard read (elaborated int_max typing above names n s))) (record { loops = (b.loops, k.loops); may = (b.may, k.may); unordered = λ i. (b.unordered i, k.unordered i) }) (none-right (shape_faults kind inside s) (branches_shape kind inside bs) e)
