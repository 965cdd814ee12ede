-- Each new number has an entry, and what a level binds stands apart from all that was bound above.
use Rattle.std.proofs.Common.{◌≡◌, inl, inr, ℕ, suc, ◌+◌, ◌<◌, ◌≤◌, List, [], ◌∷◌, ◌++◌, length, refl, sym, ◌∙◌, ap, subst, Bool, true, false, arith}
use Rattle.std.specs.Prelude.{cond, ℤ}
use Rattle.std.specs.List.{flat_map}
use Rattle.bk_gsl.specs.State.{among}
use Rattle.bk_dev.specs.Development.{Level, Development}
use Rattle.bk_dev.specs.Facts.{binders, AreDistinct}
use Rattle.bk_raw.specs.declared.term.RawName.{RawName}
use Rattle.bk_raw.specs.Trees.SubTree.{SubTree, sub, SubNode, sub_skip, sub_call, sub_assign, sub_assign_at, sub_member, sub_such, sub_begin, sub_pre, sub_assert, sub_if, sub_choice, sub_select, sub_any, sub_let, sub_var, sub_while, sub_parallel, sub_sequence, Branches, no_branches, else_branch, branch_and, Choices, no_choices, choice_and}
use Rattle.bk_statics.specs.Binders.{texts, binder_count, count_in, branches_count, choices_count, old_texts, binder_texts, texts_in, branches_texts, choices_texts}
use Rattle.bk_statics.specs.Typings.{Typing, interval}
use Rattle.bk_statics.proofs.Intervals.{interval-join, interval-distinct}
use Rattle.bk_statics.proofs.SubStays.{among-interval}
use Rattle.bk_raw.specs.Trees.ComponentTree.{RawOperation}
use Rattle.bk_statics.specs.Components.{Component, is_machine, initialisation}
use Rattle.bk_statics.specs.Plan.{Declared, declared_texts, Headed, Plan, plan, input_count, output_count}
use Rattle.bk_statics.specs.LevelOf.{at_level, input_texts, output_texts, bound_texts, new_texts, entries_from, types_at, level_made}
use Rattle.bk_statics.specs.Verdict.{level_below}
use Rattle.bk_statics.specs.LevelLaws.{body_count, StandApart}
use Rattle.bk_statics.proofs.Apart.{in-left, in-right, level-outputs, level-binders, join-cases, all-distinct}

pub length-join : {A : Type 0} → (xs ys : List A) → length (xs ++ ys) ≡ length xs + length ys
length-join [] ys = omega arith
length-join (x ∷ xs) ys = let e = length-join xs ys in omega arith

texts-count : (xs : List RawName) → length (texts xs) ≡ length xs
texts-count [] = refl
texts-count (x ∷ xs) = ap suc (texts-count xs)

old-count : (xs : List RawName) → length (old_texts xs) ≡ length xs
old-count [] = refl
old-count (x ∷ xs) = ap suc (old-count xs)

level-count : (k : ℕ) (xs : List (List ℕ)) → length (at_level k xs) ≡ length xs
level-count k [] = refl
level-count k (x ∷ xs) = ap suc (level-count k xs)

declared-count : (ds : List Declared) → length (declared_texts ds) ≡ length ds
declared-count [] = refl
declared-count (d ∷ ds) = ap suc (declared-count ds)

pub entries-count : (typing : Typing) (n : ℕ) (xs : List (List ℕ)) → length (entries_from typing n xs) ≡ length xs
entries-count typing n [] = refl
entries-count typing n (x ∷ xs) = ap suc (entries-count typing (suc n) xs)

-- two lists of these lengths
pub join-count : {A : Type 0} → (xs ys : List A) (m n : ℕ) → length xs ≡ m → length ys ≡ n → length (xs ++ ys) ≡ m + n
join-count xs ys m n h k = let e = length-join xs ys in omega arith

mutual
  pub binder-count : (s : SubTree) → length (binder_texts s) ≡ binder_count s
  binder-count (sub at node) = node-count node

  node-count : (node : SubNode) → length (texts_in node) ≡ count_in node
  node-count sub_skip = refl
  node-count (sub_call ys o ts) = refl
  node-count (sub_assign xs es) = refl
  node-count (sub_assign_at x e v) = refl
  node-count (sub_member x e) = refl
  node-count (sub_such xs p) = old-count xs
  node-count (sub_begin s) = binder-count s
  node-count (sub_pre p s) = binder-count s
  node-count (sub_assert p s) = binder-count s
  node-count (sub_if p s bs) = join-count (binder_texts s) (branches_texts bs) (binder_count s) (branches_count bs) (binder-count s) (branches-count bs)
  node-count (sub_choice s cs) = join-count (binder_texts s) (choices_texts cs) (binder_count s) (choices_count cs) (binder-count s) (choices-count cs)
  node-count (sub_select p s bs) = join-count (binder_texts s) (branches_texts bs) (binder_count s) (branches_count bs) (binder-count s) (branches-count bs)
  node-count (sub_any xs p s) = join-count (texts xs) (binder_texts s) (length xs) (binder_count s) (texts-count xs) (binder-count s)
  node-count (sub_let xs p s) = join-count (texts xs) (binder_texts s) (length xs) (binder_count s) (texts-count xs) (binder-count s)
  node-count (sub_var xs s) = join-count (texts xs) (binder_texts s) (length xs) (binder_count s) (texts-count xs) (binder-count s)
  node-count (sub_while p s i v) = binder-count s
  node-count (sub_sequence s t) = join-count (binder_texts s) (binder_texts t) (binder_count s) (binder_count t) (binder-count s) (binder-count t)
  node-count (sub_parallel s t) = join-count (binder_texts s) (binder_texts t) (binder_count s) (binder_count t) (binder-count s) (binder-count t)

  branches-count : (bs : Branches) → length (branches_texts bs) ≡ branches_count bs
  branches-count no_branches = refl
  branches-count (else_branch s) = binder-count s
  branches-count (branch_and p s bs) = join-count (binder_texts s) (branches_texts bs) (binder_count s) (branches_count bs) (binder-count s) (branches-count bs)

  choices-count : (cs : Choices) → length (choices_texts cs) ≡ choices_count cs
  choices-count no_choices = refl
  choices-count (choice_and s cs) = join-count (binder_texts s) (choices_texts cs) (binder_count s) (choices_count cs) (binder-count s) (choices-count cs)

pub inputs-count : (os : List RawOperation) → length (input_texts os) ≡ input_count os
inputs-count [] = refl
inputs-count (o ∷ os) = join-count (texts o.inputs) (input_texts os) (length o.inputs) (input_count os) (texts-count o.inputs) (inputs-count os)

where-inputs : (c : Bool) (os : List RawOperation) → length (cond c (input_texts os) []) ≡ cond c (input_count os) 0
where-inputs true os = inputs-count os
where-inputs false os = refl

pub outputs-count : (k : ℕ) (hs : List Headed) → length (output_texts k hs) ≡ output_count hs
outputs-count k [] = refl
outputs-count k (h ∷ hs) = join-count (at_level k (texts h.operation.outputs)) (output_texts k hs) (length h.operation.outputs) (output_count hs) (level-count k (texts h.operation.outputs) ∙ texts-count h.operation.outputs) (outputs-count k hs)

pub bodies-count : (hs : List Headed) → length (bound_texts hs) ≡ body_count hs
bodies-count [] = refl
bodies-count (h ∷ hs) = join-count (binder_texts h.operation.body) (bound_texts hs) (binder_count h.operation.body) (body_count hs) (binder-count h.operation.body) (bodies-count hs)

pub new-count : (p : Plan) (comp : Component) → length (new_texts p comp) ≡ length comp.constants + (length p.variables + (cond (is_machine comp.kind) (input_count comp.operations) 0 + (output_count p.headed + (binder_count (initialisation comp) + body_count p.headed))))
new-count p comp =
    let bound = join-count (binder_texts (initialisation comp)) (bound_texts p.headed) (binder_count (initialisation comp)) (body_count p.headed) (binder-count (initialisation comp)) (bodies-count p.headed) in
    let out = join-count (output_texts p.level p.headed) (binder_texts (initialisation comp) ++ bound_texts p.headed) (output_count p.headed) (binder_count (initialisation comp) + body_count p.headed) (outputs-count p.level p.headed) bound in
    let ins = join-count (cond (is_machine comp.kind) (input_texts comp.operations) []) (output_texts p.level p.headed ++ (binder_texts (initialisation comp) ++ bound_texts p.headed)) (cond (is_machine comp.kind) (input_count comp.operations) 0) (output_count p.headed + (binder_count (initialisation comp) + body_count p.headed)) (where-inputs (is_machine comp.kind) comp.operations) out in
    let vars = join-count (at_level p.level (declared_texts p.variables)) (cond (is_machine comp.kind) (input_texts comp.operations) [] ++ (output_texts p.level p.headed ++ (binder_texts (initialisation comp) ++ bound_texts p.headed))) (length p.variables) (cond (is_machine comp.kind) (input_count comp.operations) 0 + (output_count p.headed + (binder_count (initialisation comp) + body_count p.headed))) (level-count p.level (declared_texts p.variables) ∙ declared-count p.variables) ins in
    join-count (texts comp.constants) (at_level p.level (declared_texts p.variables) ++ (cond (is_machine comp.kind) (input_texts comp.operations) [] ++ (output_texts p.level p.headed ++ (binder_texts (initialisation comp) ++ bound_texts p.headed)))) (length comp.constants) (length p.variables + (cond (is_machine comp.kind) (input_count comp.operations) 0 + (output_count p.headed + (binder_count (initialisation comp) + body_count p.headed)))) (texts-count comp.constants) vars

-- ---- all levels
flat-last : (f : Level → List ℕ) (ls : List Level) (l : Level) → flat_map f (ls ++ l ∷ []) ≡ flat_map f ls ++ f l
flat-last f [] l = empty-last (f l)
  where
    empty-last : (xs : List ℕ) → xs ++ [] ≡ xs
    empty-last [] = refl
    empty-last (x ∷ xs) = ap (λ l. x ∷ l) (empty-last xs)
flat-last f (m ∷ ls) l = ap (λ xs. f m ++ xs) (flat-last f ls l) ∙ join-assoc (f m) (flat_map f ls) (f l)
  where
    join-assoc : (xs ys zs : List ℕ) → xs ++ (ys ++ zs) ≡ (xs ++ ys) ++ zs
    join-assoc [] ys zs = refl
    join-assoc (x ∷ xs) ys zs = ap (λ l. x ∷ l) (join-assoc xs ys zs)

-- the outputs and the binders of a level
abbrev pub level_outputs : Level → List ℕ
level_outputs l = flat_map (λ b. b.outputs) l.bodies

abbrev pub level_binders : Level → List ℕ
level_binders l = binders l.init ++ flat_map (λ b. binders b.sub) l.bodies

one-more : (a b os ws : List ℕ) (base top o m w : ℕ) → AreDistinct (a ++ b) → ((n : ℕ) → among (a ++ b) n ≡ true → n < base) → os ≡ interval o m → ws ≡ interval (o + m) w → base ≤ o → o + (m + w) ≤ top → AreDistinct ((a ++ os) ++ (b ++ ws)) × ((n : ℕ) → among ((a ++ os) ++ (b ++ ws)) n ≡ true → n < top)
one-more a b os ws base top o m w d u e k l t =
    let both : os ++ ws ≡ interval o (m + w) = (λ i. e i ++ k i) ∙ interval-join o m w in
    let out : (n : ℕ) → among os n ≡ true → (o ≤ n) × (n < o + m) = λ n h. among-interval o m n (subst (λ x. among x n ≡ true) e h) in
    let bound : (n : ℕ) → among ws n ≡ true → (o + m ≤ n) × (n < (o + m) + w) = λ n h. among-interval (o + m) w n (subst (λ x. among x n ≡ true) k h) in
    let new : (n : ℕ) → among (os ++ ws) n ≡ true → (o ≤ n) × (n < o + (m + w)) = λ n h. among-interval o (m + w) n (subst (λ x. among x n ≡ true) both h) in (
      all-distinct a b os ws base top d u (subst AreDistinct (sym both) (interval-distinct o (m + w))) (λ n h. let r = (new n h).0 in omega arith),
      λ n h. elim (join-cases (a ++ os) (b ++ ws) n h) [
        | inl x ↦ elim (join-cases a os n x) [ inl y ↦ (let r = u n (in-left a b n y) in omega arith) | inr y ↦ (let r = (out n y).1 in omega arith) ]
        | inr x ↦ elim (join-cases b ws n x) [ inl y ↦ (let r = u n (in-right a b n y) in omega arith) | inr y ↦ (let r = (bound n y).1 in omega arith) ]
      ],
    )

pub stands-apart : (int_max : ℤ) (higher : Development) (comp : Component) → StandApart higher → StandApart (level_below int_max higher comp)
stands-apart int_max higher comp h =
    let p = plan higher comp in
    let typing = types_at int_max higher comp p in
    let l = level_made int_max typing p comp in
    let base = length higher.table.variables in
    let a = output_count p.headed in
    let w = binder_count (initialisation comp) + body_count p.headed in
    let long : length (higher.table.variables ++ entries_from typing base (new_texts p comp)) ≡ base + length (new_texts p comp) = join-count higher.table.variables (entries_from typing base (new_texts p comp)) base (length (new_texts p comp)) refl (entries-count typing base (new_texts p comp)) in
    let count = new-count p comp in
    let made-so = one-more (flat_map level_outputs higher.levels) (flat_map level_binders higher.levels) (level_outputs l) (level_binders l) base (length (higher.table.variables ++ entries_from typing base (new_texts p comp))) p.outputs_at a w h.differ h.below (level-outputs int_max typing p comp) (level-binders int_max typing p comp) (far int_max higher comp) (enough int_max higher comp long count) in
    let same : flat_map level_outputs (higher.levels ++ l ∷ []) ++ flat_map level_binders (higher.levels ++ l ∷ []) ≡ (flat_map level_outputs higher.levels ++ level_outputs l) ++ (flat_map level_binders higher.levels ++ level_binders l) = λ i. flat-last level_outputs higher.levels l i ++ flat-last level_binders higher.levels l i in
    record { differ = subst AreDistinct (sym same) made-so.0; below = λ n e. made-so.1 n (subst (λ x. among x n ≡ true) same e) }
  where
    far : (int_max : ℤ) (higher : Development) (comp : Component) → length higher.table.variables ≤ (plan higher comp).outputs_at
    far int_max higher comp = let c = cond (is_machine comp.kind) (input_count comp.operations) 0 in let v = length (plan higher comp).variables in within (length higher.table.variables) (length comp.constants) v c
      where
        within : (b x v c : ℕ) → b ≤ ((b + x) + v) + c
        within b x v c = omega arith

    enough : (int_max : ℤ) (higher : Development) (comp : Component) {m : ℕ} → m ≡ length higher.table.variables + length (new_texts (plan higher comp) comp) → length (new_texts (plan higher comp) comp) ≡ length comp.constants + (length (plan higher comp).variables + (cond (is_machine comp.kind) (input_count comp.operations) 0 + (output_count (plan higher comp).headed + (binder_count (initialisation comp) + body_count (plan higher comp).headed)))) → (plan higher comp).outputs_at + (output_count (plan higher comp).headed + (binder_count (initialisation comp) + body_count (plan higher comp).headed)) ≤ m
    enough int_max higher comp {m} e f = sums (length higher.table.variables) (length comp.constants) (length (plan higher comp).variables) (cond (is_machine comp.kind) (input_count comp.operations) 0) (output_count (plan higher comp).headed + (binder_count (initialisation comp) + body_count (plan higher comp).headed)) m (length (new_texts (plan higher comp) comp)) e f
      where
        sums : (b x v c r m k : ℕ) → m ≡ b + k → k ≡ x + (v + (c + r)) → (((b + x) + v) + c) + r ≤ m
        sums b x v c r m k e f = omega arith
