-- A step is what the table makes of a sequent, where all that is new types and is within the limits.
use Rattle.std.proofs.Common.{◌≡◌, ℕ, zero, suc, ◌+◌, ◌-◌, ◌<◌, ◌≤◌, List, [], ◌∷◌, ◌++◌, length, map, take, drop, Result, Ok, Err, IfOk, refl, sym, ◌∙◌, ap, subst, Vec, Global, arith}
use Rattle.std.specs.Prelude.{Option, Some, None}
use Rattle.std.specs.Option.{option_map}
use Rattle.bk_form.specs.Each.{Each}
use Rattle.bk_form.specs.Table.{Table}
use Rattle.bk_form.specs.Formula.{Formula}
use Rattle.bk_form.specs.Predicates.{IsPredicate}
use Rattle.bk_bind.specs.Limits.{IsWithinLimits}
use Rattle.bk_seq.specs.declared.sequent.Sequent.{Sequent as StoredSequent}
use Rattle.bk_seq.specs.Sequents.{Sequent, sequent_of, Types, IsWithin}
use Rattle.bk_arith.proofs.Options.{mapped, some-same}
use Rattle.bk_kernel.specs.declared.error.StepFault.{StepFault}
use Rattle.bk_kernel.specs.declared.rule.Rule.{Rule}
use Rattle.bk_kernel.specs.declared.rule.Rule.TheVariants.{Drop}
use Rattle.bk_kernel.specs.Branches.{Branch, extended, IsWithinBranch}
use Rattle.bk_kernel.specs.Rules.{without, without_item, without_hypothesis, branches, makes, IsInstance}
use Rattle.bk_kernel.specs.Code.{dropped}
use Rattle.bk_kernel.specs.declared.branch.Branch.{Branch as StoredBranch}
use Rattle.bk_kernel.specs.Held.{branch_of, IsGood, IsFine, IsExtension, HasNoFine, IsTooLarge}
use Rattle.bk_kernel.proofs.EachItem.{each-append, each-right}

-- ---- what is good
module _ (table : Table) where
  good-types : (ps : List Formula) → Each (IsGood table) ps → Each (IsPredicate table) ps
  good-types [] h = tt
  good-types (p ∷ ps) h = (h.0.0, good-types ps h.1)

  good-within : (ps : List Formula) → Each (IsGood table) ps → Each IsWithinLimits ps
  good-within [] h = tt
  good-within (p ∷ ps) h = (h.0.1, good-within ps h.1)

  all-good : (ps : List Formula) → Each (IsPredicate table) ps → Each IsWithinLimits ps → Each (IsGood table) ps
  all-good [] h k = tt
  all-good (p ∷ ps) h k = ((h.0, k.0), all-good ps h.1 k.1)

  pub fine-within : (bs : List Branch) → Each (IsFine table) bs → Each IsWithinBranch bs
  fine-within [] h = tt
  fine-within (b ∷ bs) h = ((good-within b.0 h.0.0, h.0.1.1), fine-within bs h.1)

  -- what is too large is not fine
  pub large-not-fine : (entry : Option (List Branch)) → IsTooLarge entry → HasNoFine table entry
  large-not-fine entry large bs e h = large bs e (fine-within bs h)

  module _ (s : Sequent) where
    extended-types : (bs : List Branch) → Each (IsPredicate table) s.0 → Each (IsFine table) bs → Each (Types table) (map (extended s) bs)
    extended-types [] t h = tt
    extended-types (b ∷ bs) t h = ((each-append (IsPredicate table) s.0 b.0 t (good-types b.0 h.0.0), h.0.1.0), extended-types bs t h.1)

    extended-within : (bs : List Branch) → Each IsWithinLimits s.0 → Each (IsFine table) bs → Each IsWithin (map (extended s) bs)
    extended-within [] w h = tt
    extended-within (b ∷ bs) w h = ((each-append IsWithinLimits s.0 b.0 w (good-within b.0 h.0.0), h.0.1.1), extended-within bs w h.1)

    all-fine : (bs : List Branch) → Each (Types table) (map (extended s) bs) → Each IsWithin (map (extended s) bs) → Each (IsFine table) bs
    all-fine [] t w = tt
    all-fine (b ∷ bs) t w = ((all-good b.0 (each-right (IsPredicate table) s.0 b.0 t.0.0) (each-right IsWithinLimits s.0 b.0 w.0.0), (t.0.1, w.0.1)), all-fine bs t.1 w.1)

    -- ---- the two kinds of rules
    by-branches : (rule : Rule) → None ≡ dropped rule → makes table s rule ≡ option_map (map (extended s)) (branches table s rule)
    by-branches (Drop i) h = absurd (cc)
    by-branches rule h = refl

    by-drop : (rule : Rule) (i : ℕ) → Some i ≡ dropped rule → makes table s rule ≡ without_hypothesis s i
    by-drop (Drop j) i h = ap (without_hypothesis s) (some-same j i (sym h))
    by-drop rule i h = absurd (cc)

    extension-step : (rule : Rule) → None ≡ dropped rule → Types table s → IsWithin s → (news : List Sequent) → IsExtension table s (branches table s rule) news → IsInstance table s rule news
    extension-step rule d types within news x = record {
      made = by-branches rule d ∙ ap (option_map (map (extended s))) x.1 ∙ ap Some (sym x.3);
      type = subst (λ ns. Each (Types table) ns) (sym x.3) (extended-types x.0 types.0 x.2);
      within = subst (λ ns. Each IsWithin ns) (sym x.3) (extended-within x.0 within.0 x.2);
    }

    pub extensions-step : (rule : Rule) (r : Result (Vec StoredSequent Global) StepFault) → None ≡ dropped rule → Types table s → IsWithin s → IfOk r (λ news. IsExtension table s (branches table s rule) (map sequent_of news.items)) → IfOk r (λ news. IsInstance table s rule (map sequent_of news.items))
    extensions-step rule (Ok news) d types within x = extension-step rule d types within (map sequent_of news.items) x
    extensions-step rule (Err e) d types within x = tt

    pub no-extension : (rule : Rule) → None ≡ dropped rule → HasNoFine table (branches table s rule) → (news : List Sequent) → IsInstance table s rule news → ⊥
    no-extension rule d none news x =
        let k = mapped (map (extended s)) (branches table s rule) news (sym (by-branches rule d) ∙ x.made) in
        none k.0 k.1 (all-fine k.0 (subst (λ ns. Each (Types table) ns) (sym k.2) x.type) (subst (λ ns. Each IsWithin ns) (sym k.2) x.within))

    -- ---- a hypothesis less
    without-each : (P : Formula → Type 0) (n : ℕ) (xs ys : List Formula) → without n xs ≡ Some ys → Each P xs → Each P ys
    without-each P n [] ys e h = absurd (cc)
    without-each P zero (x ∷ xs) ys e h = subst (λ l. Each P l) (some-same xs ys e) h.1
    without-each P (suc n) (x ∷ xs) ys e h =
        let k = mapped (λ l. x ∷ l) (without n xs) ys e in
        subst (λ l. Each P l) k.2 (h.0, without-each P n xs k.0 k.1 h.1)

    item-each : (P : Formula → Type 0) (i : ℕ) (xs ys : List Formula) → without_item i xs ≡ Some ys → Each P xs → Each P ys
    item-each P zero xs ys e h = absurd (cc)
    item-each P (suc n) xs ys e h = without-each P n xs ys e h

    drop-step : (rule : Rule) (i : ℕ) → Some i ≡ dropped rule → Types table s → IsWithin s → (news : List Sequent) → without_hypothesis s i ≡ Some news → IsInstance table s rule news
    drop-step rule i d types within news e =
        let alone : List Formula → List Sequent = λ hyps. (hyps, s.1) ∷ [] in
        let k = mapped alone (without_item i s.0) news e in
        record {
          made = by-drop rule i d ∙ e;
          type = subst (λ ns. Each (Types table) ns) k.2 ((item-each (IsPredicate table) i s.0 k.0 k.1 types.0, types.1), tt);
          within = subst (λ ns. Each IsWithin ns) k.2 ((item-each IsWithinLimits i s.0 k.0 k.1 within.0, within.1), tt);
        }

    pub drops-step : (rule : Rule) (i : ℕ) (r : Result (Vec StoredSequent Global) StepFault) → Some i ≡ dropped rule → Types table s → IsWithin s → IfOk r (λ news. without_hypothesis s i ≡ Some (map sequent_of news.items)) → IfOk r (λ news. IsInstance table s rule (map sequent_of news.items))
    drops-step rule i (Ok news) d types within e = drop-step rule i d types within (map sequent_of news.items) e
    drops-step rule i (Err f) d types within e = tt

    pub no-drop : (rule : Rule) (i : ℕ) → Some i ≡ dropped rule → without_hypothesis s i ≡ None → (news : List Sequent) → IsInstance table s rule news → ⊥
    no-drop rule i d none news x = let never : None ≡ Some news = sym none ∙ sym (by-drop rule i d) ∙ x.made in absurd (cc)

-- ---- the list without an item, as the program takes it apart
without-past : (n : ℕ) (xs : List Formula) → length xs ≤ n → None ≡ without n xs
without-past n [] all = refl
without-past zero (x ∷ xs) all = absurd (omega arith)
without-past (suc n) (x ∷ xs) all = ap (option_map (λ l. x ∷ l)) (without-past n xs (omega arith))

without-taken : (n : ℕ) (xs : List Formula) → n < length xs → Some (take n xs ++ drop (suc n) xs) ≡ without n xs
without-taken n [] less = absurd (omega arith)
without-taken zero (x ∷ xs) less = refl
without-taken (suc n) (x ∷ xs) less = ap (option_map (λ l. x ∷ l)) (without-taken n xs (omega arith))

-- no item has the number 0
pub none-dropped : (number : ℕ) (xs : List Formula) → (1 ≤ number → ⊥) → None ≡ without_item number xs
none-dropped zero xs none = refl
none-dropped (suc n) xs none = absurd (none (omega arith))

-- nor one past the end
pub past-dropped : (number index : ℕ) (xs : List Formula) → 1 ≤ number → index ≡ number - 1 → length xs ≤ index → None ≡ without_item number xs
past-dropped zero index xs some e all = absurd (omega arith)
past-dropped (suc n) index xs some e all = without-past n xs (omega arith)

pub item-dropped : (number index : ℕ) (xs kept : List Formula) → 1 ≤ number → index ≡ number - 1 → index < length xs → kept ≡ take index xs ++ drop (index + 1) xs → Some kept ≡ without_item number xs
item-dropped zero index xs kept some e less made = absurd (omega arith)
item-dropped (suc n) index xs kept some e less made =
    let same : index ≡ n = omega arith in
    let next : index + 1 ≡ suc n = omega arith in
    ap Some (made ∙ ap (λ k. take k xs ++ drop (index + 1) xs) same ∙ ap (λ k. take n xs ++ drop k xs) next)
    ∙ without-taken n xs (omega arith)

pub ruleset drops = (none-dropped, past-dropped, item-dropped)

-- ---- the sequents of branches
map-twice : {A B C : Type 0} (f : B → C) (g : A → B) (xs : List A) → map (λ x. f (g x)) xs ≡ map f (map g xs)
map-twice f g [] = refl
map-twice f g (x ∷ xs) = ap (λ ys. f (g x) ∷ ys) (map-twice f g xs)

pub extension-of : (table : Table) (s : Sequent) (bs : List StoredBranch) (news : List Sequent) → Each (IsFine table) (map branch_of bs) → news ≡ map (λ b. extended s (branch_of b)) bs → IsExtension table s (Some (map branch_of bs)) news
extension-of table s bs news fine e = (map branch_of bs, refl, fine, e ∙ map-twice (extended s) branch_of bs)

pub ruleset extensions = (extension-of)
