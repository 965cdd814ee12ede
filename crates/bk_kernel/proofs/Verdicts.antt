-- One thing is said of a list of rules and a sequent.
use Rattle.std.proofs.Common.{◌≡◌, Result, Ok, Err, IfOk, ◌⊎◌, inl, inr, ℕ, zero, suc, ◌-◌, ◌^◌, ◌<◌, ◌≤◌, min, List, [], ◌∷◌, ◌++◌, take, length, refl, sym, ◌∙◌, ap, subst, arith}
use Rattle.std.specs.Prelude.{Some, slice_get, IsErr}
use Rattle.std.proofs.lemmas.List.{take_all}
use Rattle.std.proofs.lemmas.Option.{slice_get_within}
use Rattle.bk_form.specs.Table.{Table}
use Rattle.bk_seq.specs.Paths.{numbered_item}
use Rattle.bk_kernel.specs.declared.rule.Rule.{Rule}
use Rattle.bk_kernel.specs.declared.replaying.Verdict.{Verdict}
use Rattle.bk_kernel.specs.declared.replaying.Verdict.TheVariants.{Closed, BadStep, Open, Extra}
use Rattle.bk_seq.specs.Sequents.{Sequent}
use Rattle.bk_kernel.specs.Rules.{IsInstance}
use Rattle.bk_kernel.specs.Derivations.{Leaves, Derives, FailsAt, StaysOpen, EndsBefore, IsVerdict}
use Rattle.bk_kernel.specs.RuleLaws.{OneVerdict}
use Rattle.bk_kernel.proofs.SoundRules.{rules-are-functions}

get-take : {A : Type 0} (xs : List A) (n j : ℕ) → j < n → slice_get (take n xs) j ≡ slice_get xs j
get-take [] zero j h = absurd (omega arith)
get-take [] (suc n) j h = refl
get-take (x ∷ xs) zero j h = absurd (omega arith)
get-take (x ∷ xs) (suc n) zero h = refl
get-take (x ∷ xs) (suc n) (suc j) h = get-take xs n j (omega arith)

take-take : {A : Type 0} (xs : List A) (n j : ℕ) → j ≤ n → take j (take n xs) ≡ take j xs
take-take [] zero zero h = refl
take-take [] zero (suc j) h = absurd (omega arith)
take-take [] (suc n) zero h = refl
take-take [] (suc n) (suc j) h = refl
take-take (x ∷ xs) n zero h = refl
take-take (x ∷ xs) zero (suc j) h = absurd (omega arith)
take-take (x ∷ xs) (suc n) (suc j) h = ap (λ ys. x ∷ ys) (take-take xs n j (omega arith))

same-rule : (r q : Rule) → Some r ≡ Some q → r ≡ q
same-rule r q h = cc

empty-not : (s : Sequent) (others : List Sequent) → s ∷ others ≡ [] → ⊥
empty-not s others h = let n : length (s ∷ others) ≡ 0 = ap length h in omega arith

same-first : (s t : Sequent) (others rest : List Sequent) → s ∷ others ≡ t ∷ rest → s ≡ t
same-first s t others rest h = cc

-- a number whose item there is, is not 0
item-number : {A : Type 0} (xs : List A) (k : ℕ) (x : A) → numbered_item xs k ≡ Some x → (k ≡ suc (k - 1)) × (slice_get xs (k - 1) ≡ Some x)
item-number xs zero x h = absurd (cc)
item-number xs (suc j) x h = let e : suc j - 1 ≡ j = omega arith in (omega arith, rw e h)

module _ (table : Table) where
  pub leaves-one : (claims : List Sequent) (rules : List Rule) (l m : List Sequent) → Leaves table claims rules l → Leaves table claims rules m → l ≡ m
  leaves-one claims [] l m h k = sym h ∙ k
  leaves-one [] (r ∷ rs) l m h k = absurd h
  leaves-one (s ∷ claims) (r ∷ rs) l m h k =
      let same = rules-are-functions table s r h.0 k.0 h.1 k.1 in
      leaves-one (k.0 ++ claims) rs l m (subst (λ ns. Leaves table (ns ++ claims) rs l) same h.2) k.2

  -- a rule that was applied
  record Applied (claims : List Sequent) (rules : List Rule) (j : ℕ) (rule : Rule) : Type 0 where
    first : Sequent
    others : List Sequent
    news : List Sequent
    before : Leaves table claims (take j rules) (first ∷ others)
    step : IsInstance table first rule news

  applied : (claims : List Sequent) (rules : List Rule) (left : List Sequent) (j : ℕ) (rule : Rule) → Leaves table claims rules left → slice_get rules j ≡ Some rule → Applied claims rules j rule
  applied claims [] left j rule h e = absurd (cc)
  applied [] (r ∷ rs) left j rule h e = absurd h
  applied (s ∷ claims) (r ∷ rs) left zero rule h e = record { first = s; others = claims; news = h.0; before = refl; step = subst (λ x. IsInstance table s x h.0) (same-rule r rule e) h.1 }
  applied (s ∷ claims) (r ∷ rs) left (suc j) rule h e =
      let k = applied (h.0 ++ claims) rs left j rule h.2 e in
      record { first = k.first; others = k.others; news = k.news; before = (h.0, h.1, k.before); step = k.step }

  module _ (rules : List Rule) (s : Sequent) where
    -- rule j, from 0, is applied to nothing
    record Stops (j : ℕ) : Type 0 where
      rule : Rule
      is_rule : slice_get rules j ≡ Some rule
      never : (first : Sequent) (others news : List Sequent) → Leaves table (s ∷ []) (take j rules) (first ∷ others) → IsInstance table first rule news → ⊥

    no-further : (j n : ℕ) (left : List Sequent) → Stops j → j < n → Leaves table (s ∷ []) (take n rules) left → ⊥
    no-further j n left stops less reached =
        let there = get-take rules n j less ∙ stops.is_rule in
        let k = applied (s ∷ []) (take n rules) left j stops.rule reached there in
        let small : j ≤ n = omega arith in
        let before : Leaves table (s ∷ []) (take j rules) (k.first ∷ k.others) = subst (λ rs. Leaves table (s ∷ []) rs (k.first ∷ k.others)) (take-take rules n j small) k.before in
        stops.never k.first k.others k.news before k.step

    fails-stops : (k : ℕ) → FailsAt table rules s k → Stops (k - 1)
    fails-stops k h = record {
      rule = h.rule;
      is_rule = (item-number rules k h.rule h.is_rule).1;
      never = λ first others news before step.
          let same = same-first first h.first others h.others (leaves-one (s ∷ []) (take (k - 1) rules) (first ∷ others) (h.first ∷ h.others) before h.before) in
          h.no_instance news (subst (λ x. IsInstance table x h.rule news) same step);
    }

    ends-stops : (k : ℕ) → EndsBefore table rules s k → Stops (k - 1)
    ends-stops k h = record {
      rule = h.rule;
      is_rule = (item-number rules k h.rule h.is_rule).1;
      never = λ first others news before step. empty-not first others (leaves-one (s ∷ []) (take (k - 1) rules) (first ∷ others) [] before h.before);
    }

    -- not all rules are applied
    not-all : (j : ℕ) (left : List Sequent) → Stops j → Leaves table (s ∷ []) rules left → ⊥
    not-all j left stops reached =
        let less = slice_get_within rules j stops.rule stops.is_rule in
        no-further j (length rules) left stops less (subst (λ rs. Leaves table (s ∷ []) rs left) (sym (take_all (length rules) rules (omega arith))) reached)

    one-place : (j k : ℕ) (l m : List Sequent) → Stops j → Stops k → Leaves table (s ∷ []) (take j rules) l → Leaves table (s ∷ []) (take k rules) m → j ≡ k
    one-place j k l m stops other reached there = by-order (order j k)
      where
        order : (a b : ℕ) → (a < b) ⊎ ((b < a) ⊎ (a ≡ b))
        order zero zero = inr (inr refl)
        order zero (suc b) = inl (omega arith)
        order (suc a) zero = inr (inl (omega arith))
        order (suc a) (suc b) = elim (order a b) [ inl h ↦ inl (omega arith) | inr h ↦ elim h [ inl k ↦ inr (inl (omega arith)) | inr e ↦ inr (inr (ap suc e)) ] ]

        by-order : (j < k) ⊎ ((k < j) ⊎ (j ≡ k)) → j ≡ k
        by-order (inl less) = absurd (no-further j k m stops less there)
        by-order (inr (inl less)) = absurd (no-further k j l other less reached)
        by-order (inr (inr e)) = e

    same-number : (k l : ℕ) (x y : Rule) → numbered_item rules k ≡ Some x → numbered_item rules l ≡ Some y → k - 1 ≡ l - 1 → k ≡ l
    same-number k l x y h i e =
        let a = (item-number rules k x h).0 in
        let b = (item-number rules l y i).0 in
        omega arith

    fails-twice : (k l : ℕ) → FailsAt table rules s k → FailsAt table rules s l → k ≡ l
    fails-twice k l h i = same-number k l h.rule i.rule h.is_rule i.is_rule (one-place (k - 1) (l - 1) (h.first ∷ h.others) (i.first ∷ i.others) (fails-stops k h) (fails-stops l i) h.before i.before)

    ends-twice : (k l : ℕ) → EndsBefore table rules s k → EndsBefore table rules s l → k ≡ l
    ends-twice k l h i = same-number k l h.rule i.rule h.is_rule i.is_rule (one-place (k - 1) (l - 1) [] [] (ends-stops k h) (ends-stops l i) h.before i.before)

    not-both : (k l : ℕ) → FailsAt table rules s k → EndsBefore table rules s l → ⊥
    not-both k l h i =
        let e = one-place (k - 1) (l - 1) (h.first ∷ h.others) [] (fails-stops k h) (ends-stops l i) h.before i.before in
        let there : Leaves table (s ∷ []) (take (k - 1) rules) [] = subst (λ n. Leaves table (s ∷ []) (take n rules) []) (sym e) i.before in
        empty-not h.first h.others (leaves-one (s ∷ []) (take (k - 1) rules) (h.first ∷ h.others) [] h.before there)

    closed-or-open : (n : ℕ) → Leaves table (s ∷ []) rules [] → StaysOpen table rules s n → ⊥
    closed-or-open n h i =
        let e = leaves-one (s ∷ []) rules i.left [] i.after h in
        let none : length i.left ≡ 0 = ap length e in
        let some = i.some in
        omega arith

    open-twice : (m n : ℕ) → StaysOpen table rules s m → StaysOpen table rules s n → m ≡ n
    open-twice m n h i = h.counted ∙ ap (λ left. min (length left) (2 ^ 32 - 1)) (leaves-one (s ∷ []) rules h.left i.left h.after i.after) ∙ sym i.counted

    pub one : (v w : Verdict) → IsVerdict table rules s v → IsVerdict table rules s w → v ≡ w
    one Closed Closed h i = refl
    one Closed (Open n) h i = absurd (closed-or-open n h i)
    one (Open n) Closed h i = absurd (closed-or-open n i h)
    one (Open m) (Open n) h i = ap Open (open-twice m n h i)
    one Closed (BadStep k) h i = absurd (not-all (k - 1) [] (fails-stops k i) h)
    one Closed (Extra k) h i = absurd (not-all (k - 1) [] (ends-stops k i) h)
    one (Open n) (BadStep k) h i = absurd (not-all (k - 1) h.left (fails-stops k i) h.after)
    one (Open n) (Extra k) h i = absurd (not-all (k - 1) h.left (ends-stops k i) h.after)
    one (BadStep k) Closed h i = absurd (not-all (k - 1) [] (fails-stops k h) i)
    one (Extra k) Closed h i = absurd (not-all (k - 1) [] (ends-stops k h) i)
    one (BadStep k) (Open n) h i = absurd (not-all (k - 1) i.left (fails-stops k h) i.after)
    one (Extra k) (Open n) h i = absurd (not-all (k - 1) i.left (ends-stops k h) i.after)
    one (BadStep k) (BadStep l) h i = ap BadStep (fails-twice k l h i)
    one (Extra k) (Extra l) h i = ap Extra (ends-twice k l h i)
    one (BadStep k) (Extra l) h i = absurd (not-both k l h i)
    one (Extra k) (BadStep l) h i = absurd (not-both l k i h)

pub one-verdict : OneVerdict
one-verdict table rules s v w h i = one table rules s v w h i

-- the verdict on a sequent that the rules derive
pub closed_where_derived : {E : Type 0} (table : Table) (rules : List Rule) (s : Sequent) (r : Result Verdict E) → IfOk r (IsVerdict table rules s) → Derives table rules s → (r ≡ Ok Closed) ⊎ IsErr r
closed_where_derived table rules s (Ok v) h d = inl (ap Ok (one-verdict table rules s v Closed h d))
closed_where_derived table rules s (Err e) h d = inr refl
