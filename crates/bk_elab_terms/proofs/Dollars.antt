-- What is found of names with a dollar sign stays the same where bound names get types that are not among them.
use Rattle.std.proofs.Common.{◌≡◌, ◌⊎◌, inl, inr, ◌≤◌, ◌<◌, ℕ, suc, ◌+◌, ◌-◌, List, [], ◌∷◌, ◌++◌, length, refl, sym, ◌∙◌, ap, subst, Bool, true, false, cond, not, ◌&&◌, ◌||◌, arith}
use Rattle.std.specs.Prelude.{nat_le, nat_lt, nat_eq, decimal}
use Rattle.std.proofs.lemmas.Bool.Decides.{nat_tests}
use Rattle.std.specs.Str.{bytes_eq}
use Rattle.std.proofs.lemmas.Slice.Eq.{bytes_eq-Decides}
use Rattle.bk_raw.specs.declared.term.RawName.{RawName}
use Rattle.bk_raw.specs.Trees.FreeNames.{is_among}
use Rattle.bk_raw.specs.Trees.RawTree.{RawTree, raw, RawTreeNode, raw_name, raw_level_name, raw_bound_name, raw_number, raw_constant, raw_word, raw_negative, raw_infix, raw_inverse, raw_image, raw_apply, raw_composition, raw_pair, raw_empty_set, raw_extension, raw_comprehension, raw_lambda, raw_for_all, raw_exists, raw_typed_empty, raw_typed_for_all, raw_typed_exists, raw_ranged_comprehension, raw_ranged_lambda, RawTrees, no_trees, tree_and, RawRanges, no_ranges, range_and}
use Rattle.bk_raw.specs.Meaning.Names.{Names, local, Sight, unseen, count_locals, local_at, local_sight, bound_sight, level_name}
use Rattle.bk_raw.specs.Meaning.Binders.{Bound, inside, has_type}
use Rattle.bk_raw.specs.Meaning.KeptReading.{DollarName, at_level, of_bound, StandsIn, StandsInNode, StandsInSome, StandsInRanges, IsFoundAlike}
use Rattle.bk_raw.proofs.BoundNames.{no-name, or-neither, or-none, either}
use Rattle.bk_elab_terms.specs.Kept.{Grows, has_dollar, dollar_untyped, names_dollar, is_own, has_unsettled, node_has_unsettled, some_have_unsettled, ranges_have_unsettled}
use Rattle.bk_elab_terms.proofs.Grown.{NoneIs, same-grown}

-- ---- names at a level
dollar-behind : (xs ys : List ℕ) → has_dollar (xs ++ 36 ∷ ys) ≡ true
dollar-behind [] ys = refl
dollar-behind (x ∷ xs) ys = by (nat_eq x 36) (dollar-behind xs ys)
  where
    by : (c : Bool) → has_dollar (xs ++ 36 ∷ ys) ≡ true → (c || has_dollar (xs ++ 36 ∷ ys)) ≡ true
    by true h = refl
    by false h = h

pub level-dollar : (x : List ℕ) (n : ℕ) → has_dollar (level_name x n) ≡ true
level-dollar x n = dollar-behind x (decimal n)

none-dollar : (bs : List Bound) (x : List ℕ) → dollar_untyped bs ≡ false → has_dollar x ≡ true → NoneIs x bs
none-dollar [] x h k = tt
none-dollar (b ∷ bs) x h k = let n = or-neither (not (has_type b.of_type) && has_dollar b.text) (dollar_untyped bs) h in (here (has_type b.of_type) n.0, none-dollar bs x n.1 k)
  where
    other : has_dollar b.text ≡ false → bytes_eq b.text x ≡ false
    other f = elim (either (bytes_eq b.text x)) [ inl e ↦ no-name (sym f ∙ (ap has_dollar ((bytes_eq-Decides b.text x).0 e) ∙ k)) | inr e ↦ e ]

    here : (c : Bool) → (not c && has_dollar b.text) ≡ false → (c ≡ true) ⊎ (bytes_eq b.text x ≡ false)
    here true e = inl refl
    here false e = inr (other e)

-- ---- bound variables by their numbers
local-behind : (bs : List Bound) (ns : Names) (i : ℕ) → local_at (inside bs ns) (length bs + i) ≡ local_at ns i
local-behind [] ns i =
    let none : length {A = Bound} [] + i ≡ i = omega arith in
    ap (local_at ns) none
local-behind (b ∷ bs) ns i =
    let more : length (b ∷ bs) + i ≡ length bs + suc i = omega arith in
    ap (local_at (inside (b ∷ bs) ns)) more ∙ local-behind bs (record { text = b.text; meaning = local b.of_type } ∷ ns) (suc i)

pub count-inside : (bs : List Bound) (ns : Names) → count_locals (inside bs ns) ≡ length bs + count_locals ns
count-inside [] ns =
    let none : length {A = Bound} [] + count_locals ns ≡ count_locals ns = omega arith in
    sym none
count-inside (b ∷ bs) ns =
    let one : count_locals (inside bs (record { text = b.text; meaning = local b.of_type } ∷ ns)) ≡ length bs + suc (count_locals ns) = count-inside bs (record { text = b.text; meaning = local b.of_type } ∷ ns) in
    omega (arith, one)

length-same : (bs cs : List Bound) → Grows bs cs → length bs ≡ length cs
length-same [] [] g = refl
length-same [] (c ∷ cs) g = absurd g
length-same (b ∷ bs) [] g = absurd g
length-same (b ∷ bs) (c ∷ cs) g = ap suc (length-same bs cs g.2)

where-true : (c : Bool) (s t : Sight) → (c ≡ true → s ≡ t) → cond c s unseen ≡ cond c t unseen
where-true true s t h = h refl
where-true false s t h = refl

both-true : (a b : Bool) → (a && b) ≡ true → (a ≡ true) × (b ≡ true)
both-true true true h = (refl, refl)
both-true true false h = no-name h
both-true false b h = no-name h

le-of : (m n : ℕ) → nat_le m n ≡ true → m ≤ n
le-of m n h = grind (arith, nat_tests)

lt-not : (m n : ℕ) → nat_lt m n ≡ false → n ≤ m
lt-not m n h = grind (arith, nat_tests)

le-not : (m n : ℕ) → nat_le m n ≡ false → n < m
le-not m n h = grind (arith, nat_tests)

and-cases : (a b : Bool) → (a && b) ≡ false → (a ≡ false) ⊎ (b ≡ false)
and-cases true b h = inr h
and-cases false b h = inl refl

-- one that is none of the binder's own
same-number : (bs cs : List Bound) (ns : Names) (k : ℕ) → Grows bs cs → is_own (count_locals ns) (length bs) k ≡ false → bound_sight (count_locals (inside bs ns)) (inside bs ns) k ≡ bound_sight (count_locals (inside cs ns)) (inside cs ns) k
same-number bs cs ns k g o =
    ap (λ (c : ℕ). bound_sight c (inside bs ns) k) (count-inside bs ns)
    ∙ (where-true (nat_le 1 k && nat_le k (length bs + count_locals ns)) (local_sight (length bs + count_locals ns - k) (local_at (inside bs ns) (length bs + count_locals ns - k))) (local_sight (length bs + count_locals ns - k) (local_at (inside cs ns) (length bs + count_locals ns - k)))
    (λ t. ap (local_sight (length bs + count_locals ns - k)) (here (both-true (nat_le 1 k) (nat_le k (length bs + count_locals ns)) t).1))
    ∙ ap (λ (c : ℕ). bound_sight c (inside cs ns) k) (sym (count-inside cs ns ∙ ap (λ (n : ℕ). n + count_locals ns) (sym (length-same bs cs g)))))
  where
    there : k ≤ count_locals ns → local_at (inside bs ns) (length bs + count_locals ns - k) ≡ local_at (inside cs ns) (length bs + count_locals ns - k)
    there l =
        let same : length bs + count_locals ns - k ≡ length bs + (count_locals ns - k) = omega (arith, l) in
        let other : length bs + count_locals ns - k ≡ length cs + (count_locals ns - k) = same ∙ ap (λ (n : ℕ). n + (count_locals ns - k)) (length-same bs cs g) in
        ap (local_at (inside bs ns)) same ∙ (local-behind bs ns (count_locals ns - k) ∙ (sym (local-behind cs ns (count_locals ns - k)) ∙ sym (ap (local_at (inside cs ns)) other)))

    here : nat_le k (length bs + count_locals ns) ≡ true → local_at (inside bs ns) (length bs + count_locals ns - k) ≡ local_at (inside cs ns) (length bs + count_locals ns - k)
    here l = elim (and-cases (nat_lt (count_locals ns) k) (nat_le k (count_locals ns + length bs)) o) [
      | inl f ↦ there (lt-not (count_locals ns) k f)
      | inr f ↦
          let one = le-of k (length bs + count_locals ns) l in
          let two = le-not k (count_locals ns + length bs) f in
          let no : ⊥ = omega (arith, one, two) in
          absurd no
    ]

-- ---- all that stand in a term
module _ (first count : ℕ) (dollar : Bool) where
  -- it is none of the binder's own
  abbrev pub Settled : DollarName → Type 0
  Settled (at_level x) = (dollar ≡ false) × (has_dollar x ≡ true)
  Settled (of_bound k) = is_own first count k ≡ false

  in-both : (A B : Type 0) (a b : Bool) (m : DollarName) → (a || b) ≡ false → (a ≡ false → A → Settled m) → (b ≡ false → B → Settled m) → A ⊎ B → Settled m
  in-both A B a b m h f g s = let n = or-neither a b h in elim s [ inl k ↦ f n.0 k | inr k ↦ g n.1 k ]

  mutual
    pub settled : (t : RawTree) (m : DollarName) → has_unsettled first count dollar t ≡ false → StandsIn t m → Settled m
    settled (raw at node) m h s = settled-in node m h s

    settled-in : (node : RawTreeNode) (m : DollarName) → node_has_unsettled first count dollar node ≡ false → StandsInNode node m → Settled m
    settled-in (raw_name x) m h s = absurd s
    settled-in (raw_level_name x n) m h s = subst Settled (sym s) (h, level-dollar x n)
    settled-in (raw_bound_name k) m h s = subst Settled (sym s) h
    settled-in (raw_number z) m h s = absurd s
    settled-in (raw_constant c) m h s = absurd s
    settled-in (raw_word o a) m h s = settled a m h s
    settled-in (raw_negative a) m h s = settled a m h s
    settled-in (raw_infix o a b) m h s = in-both _ _ _ _ m h (settled a m) (settled b m) s
    settled-in (raw_inverse a) m h s = settled a m h s
    settled-in (raw_image a b) m h s = in-both _ _ _ _ m h (settled a m) (settled b m) s
    settled-in (raw_apply a b) m h s = in-both _ _ _ _ m h (settled a m) (settled b m) s
    settled-in (raw_composition a b) m h s = in-both _ _ _ _ m h (settled a m) (settled b m) s
    settled-in (raw_pair a b) m h s = in-both _ _ _ _ m h (settled a m) (settled b m) s
    settled-in raw_empty_set m h s = absurd s
    settled-in (raw_extension ts) m h s = settled-some ts m h s
    settled-in (raw_comprehension xs p) m h s = settled p m h s
    settled-in (raw_lambda xs p e) m h s = in-both _ _ _ _ m h (settled p m) (settled e m) s
    settled-in (raw_for_all xs p) m h s = settled p m h s
    settled-in (raw_exists xs p) m h s = settled p m h s
    settled-in (raw_typed_empty t) m h s = absurd s
    settled-in (raw_typed_for_all bs p) m h s = settled p m h s
    settled-in (raw_typed_exists bs p) m h s = settled p m h s
    settled-in (raw_ranged_comprehension rs p) m h s = in-both _ _ _ _ m h (settled-ranges rs m) (settled p m) s
    settled-in (raw_ranged_lambda rs p e) m h s = in-both _ _ _ _ m h (settled-ranges rs m) (λ k l. in-both _ _ _ _ m k (settled p m) (settled e m) l) s

    settled-some : (ts : RawTrees) (m : DollarName) → some_have_unsettled first count dollar ts ≡ false → StandsInSome ts m → Settled m
    settled-some no_trees m h s = absurd s
    settled-some (tree_and t ts) m h s = in-both _ _ _ _ m h (settled t m) (settled-some ts m) s

    settled-ranges : (rs : RawRanges) (m : DollarName) → ranges_have_unsettled first count dollar rs ≡ false → StandsInRanges rs m → Settled m
    settled-ranges no_ranges m h s = absurd s
    settled-ranges (range_and at n d rs) m h s = in-both _ _ _ _ m h (settled d m) (settled-ranges rs m) s

-- they are found alike
pub dollars-alike : (d : RawTree) (bs cs : List Bound) (names : Names) → Grows bs cs → has_unsettled (count_locals names) (length bs) (dollar_untyped bs) d ≡ false → (m : DollarName) → StandsIn d m → IsFoundAlike (inside bs names) (inside cs names) m
dollars-alike d bs cs names g h m s = by m (settled (count_locals names) (length bs) (dollar_untyped bs) d m h s)
  where
    by : (m : DollarName) → Settled (count_locals names) (length bs) (dollar_untyped bs) m → IsFoundAlike (inside bs names) (inside cs names) m
    by (at_level x) k = same-grown bs cs names names x g (none-dollar bs x k.0 k.1) (λ i. refl) 0
    by (of_bound k) e = same-number bs cs names k g e

-- none of the names of a binder is one with a dollar sign
pub names-none : (xs : List RawName) (x : List ℕ) → names_dollar xs ≡ false → has_dollar x ≡ true → is_among x xs ≡ false
names-none [] x h k = refl
names-none (y ∷ ys) x h k =
    let n = or-neither (has_dollar y.text) (names_dollar ys) h in
    or-none (bytes_eq y.text x) (is_among x ys) (other n.0) (names-none ys x n.1 k)
  where
    other : has_dollar y.text ≡ false → bytes_eq y.text x ≡ false
    other f = elim (either (bytes_eq y.text x)) [ inl e ↦ no-name (sym f ∙ (ap has_dollar ((bytes_eq-Decides y.text x).0 e) ∙ k)) | inr e ↦ e ]
