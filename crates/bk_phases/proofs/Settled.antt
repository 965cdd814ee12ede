-- The rounds end: after as many as there are names another one changes nothing, so no name without a type could still get one.
use Rattle.std.proofs.Common.{◌≡◌, inl, inr, ◌⊎◌, ℕ, zero, suc, ◌+◌, ◌<◌, ◌≤◌, List, [], ◌∷◌, length, refl, sym, ◌∙◌, ap, subst, Bool, true, false, cond, arith, nat_eq}
use Rattle.std.specs.Prelude.{Option, None, Some, ℤ, slice_get}
use Rattle.std.proofs.lemmas.Bool.Decides.{nat_tests}
use Rattle.bk_val.specs.ValueType.{ValueType}
use Rattle.bk_phases.specs.Symbols.{Symbol, Source}
use Rattle.bk_statics.specs.Above.{known}
use Rattle.bk_phases.specs.Resolved.{Resolved}
use Rattle.bk_phases.specs.Types.{Types, given, with_one, typed_by, round, repeated, types_of}

-- ---- how many of the numbers from n on have a type
abbrev one : Option ValueType → ℕ
one None = 0
one (Some t) = 1

abbrev count : ℕ → ℕ → Types → ℕ
count n zero types = 0
count n (suc k) types = one (types.of n) + count (suc n) k types

one-few : (o : Option ValueType) → one o ≤ 1
one-few None = omega arith
one-few (Some t) = omega arith

count-few : (n k : ℕ) (types : Types) → count n k types ≤ k
count-few n zero types = omega arith
count-few n (suc k) types = let a = one-few (types.of n) in let b = count-few (suc n) k types in omega (arith, a, b)

-- a type more for the number m: it counts nothing among others
other-one : (m n : ℕ) (t : ValueType) (o : Option ValueType) → nat_eq n m ≡ false → one (cond (nat_eq n m) (Some t) o) ≡ one o
other-one m n t o e = rw e refl

count-other : (m n k : ℕ) (t : ValueType) (types : Types) → m < n → count n k (with_one m (Some t) types) ≡ count n k types
count-other m n zero t types h = refl
count-other m n (suc k) t types h =
    let e : nat_eq n m ≡ false = grind (arith, nat_tests) in
    let a = other-one m n t (types.of n) e in
    let b = count-other m (suc n) k t types (omega arith) in
    omega (arith, a, b)

new-one : (n : ℕ) (t : ValueType) (o : Option ValueType) → nat_eq n n ≡ true → o ≡ None → one (cond (nat_eq n n) (Some t) o) ≡ suc (one o)
new-one n t o e h = rw (e, h) refl

-- and one where it had none
count-new : (m n k : ℕ) (t : ValueType) (types : Types) → types.of m ≡ None → n ≤ m → m < n + k → count n k (with_one m (Some t) types) ≡ suc (count n k types)
count-new m n zero t types h a b = absurd (omega arith)
count-new m n (suc k) t types h a b = here (λ d. count-new m (suc n) k t types h (omega (arith, d)) (omega (arith, b))) (nat_eq n m) refl
  where
    here : (n < m → count (suc n) k (with_one m (Some t) types) ≡ suc (count (suc n) k types)) → (c : Bool) → nat_eq n m ≡ c → count n (suc k) (with_one m (Some t) types) ≡ suc (count n (suc k) types)
    here behind true e =
        let s : n ≡ m = grind (arith, nat_tests) in
        let q : nat_eq n n ≡ true = grind (arith, nat_tests) in
        let g : types.of n ≡ None = subst (λ x. types.of x ≡ None) (sym s) h in
        let x : one (cond (nat_eq n m) (Some t) (types.of n)) ≡ suc (one (types.of n)) = subst (λ y. one (cond (nat_eq n y) (Some t) (types.of n)) ≡ suc (one (types.of n))) s (new-one n t (types.of n) q g) in
        let y = count-other m (suc n) k t types (omega (arith, s)) in
        omega (arith, x, y)
    here behind false e =
        let d : n < m = grind (arith, nat_tests) in
        let x = other-one m n t (types.of n) e in
        let y = behind d in
        omega (arith, x, y)

-- ---- a step, and a round
-- the types stay, or one name more has a type
abbrev StaysOrGrows : ℕ → ℕ → Types → Types → Type 0
StaysOrGrows n k types next = (next ≡ types) ⊎ (suc (count n k types) ≤ count n k next)

module _ (base size : ℕ) where
  step-given : (m : ℕ) (types : Types) (u : Option ValueType) → types.of m ≡ None → base ≤ m → m < base + size → StaysOrGrows base size types (with_one m u types)
  step-given m types None h a b = inl refl
  step-given m types (Some t) h a b = let e = count-new m base size t types h a b in inr (omega (arith, e))

  step-by : (m : ℕ) (s : Source) (types : Types) (o : Option ValueType) → types.of m ≡ o → base ≤ m → m < base + size → StaysOrGrows base size types (typed_by m s o types)
  step-by m s types (Some t) h a b = inl refl
  step-by m s types None h a b = step-given m types (given types s) h a b

  round-by : (m : ℕ) (ss : List Symbol) (types : Types) → base ≤ m → m + length ss ≤ base + size → StaysOrGrows base size types (round m ss types)
  round-by m [] types a b = inl refl
  round-by m (s ∷ ss) types a b = joined (step-by m s.source types (types.of m) refl a (omega arith)) (round-by (suc m) ss (typed_by m s.source (types.of m) types) (omega arith) (omega arith))
    where
      joined : {one two : Types} → StaysOrGrows base size types one → StaysOrGrows base size one two → StaysOrGrows base size types two
      joined (inl e) (inl f) = inl (f ∙ e)
      joined {one = x} {two = y} (inl e) (inr g) = inr (subst (λ z. suc (count base size z) ≤ count base size y) e g)
      joined {one = x} {two = y} (inr g) (inl f) = inr (subst (λ z. suc (count base size types) ≤ count base size z) (sym f) g)
      joined {one = x} {two = y} (inr g) (inr h) = inr (omega (arith, g, h))

-- ---- rounds
-- what changes nothing changes nothing the next time
stays : (f : Types → Types) (k : ℕ) (types : Types) → f types ≡ types → repeated k f types ≡ types
stays f zero types e = refl
stays f (suc k) types e = ap (repeated k f) e ∙ stays f k types e

module _ (base size : ℕ) (f : Types → Types) (h : (types : Types) → StaysOrGrows base size types (f types)) where
  many : (k : ℕ) (types : Types) → (f (repeated k f types) ≡ repeated k f types) ⊎ (k + count base size types ≤ count base size (repeated k f types))
  many zero types = inr (omega arith)
  many (suc k) types = by (many k (f types)) (h types)
    where
      later : suc (count base size types) ≤ count base size (f types) → (f (repeated k f (f types)) ≡ repeated k f (f types)) ⊎ (k + count base size (f types) ≤ count base size (repeated k f (f types))) → (f (repeated (suc k) f types) ≡ repeated (suc k) f types) ⊎ (suc k + count base size types ≤ count base size (repeated (suc k) f types))
      later g (inl e) = inl e
      later g (inr i) = inr (omega (arith, g, i))

      by : (f (repeated k f (f types)) ≡ repeated k f (f types)) ⊎ (k + count base size (f types) ≤ count base size (repeated k f (f types))) → StaysOrGrows base size types (f types) → (f (repeated (suc k) f types) ≡ repeated (suc k) f types) ⊎ (suc k + count base size types ≤ count base size (repeated (suc k) f types))
      by rest (inl e) = let r : repeated (suc k) f types ≡ types = stays f (suc k) types e in inl (ap f r ∙ e ∙ sym r)
      by rest (inr g) = later g rest

  pub ends : (types : Types) → f (repeated size f types) ≡ repeated size f types
  ends types = by (many size types) (h (repeated size f types))
    where
      by : (f (repeated size f types) ≡ repeated size f types) ⊎ (size + count base size types ≤ count base size (repeated size f types)) → StaysOrGrows base size (repeated size f types) (f (repeated size f types)) → f (repeated size f types) ≡ repeated size f types
      by (inl e) s = e
      by (inr g) (inl e) = e
      by (inr g) (inr s) = let few = count-few base size (f (repeated size f types)) in absurd (omega (arith, g, s, few))

-- ---- what a round that changes nothing says of each symbol
-- a step that is no step
same-given : (m : ℕ) (types : Types) (u : Option ValueType) → types.of m ≡ None → with_one m u types ≡ types → u ≡ None
same-given m types None h e = refl
same-given m types (Some t) h e =
    let q : nat_eq m m ≡ true = grind (arith, nat_tests) in
    let x : Some t ≡ cond (nat_eq m m) (Some t) (types.of m) = rw q refl in
    let y : cond (nat_eq m m) (Some t) (types.of m) ≡ types.of m = ap (λ (z : Types). z.of m) e in
    absurd (cc (x, y, h))

module _ (base size : ℕ) (types : Types) where
  same-front : (m : ℕ) (s : Symbol) (ss : List Symbol) → base ≤ m → m + suc (length ss) ≤ base + size → round (suc m) ss (typed_by m s.source (types.of m) types) ≡ types → typed_by m s.source (types.of m) types ≡ types
  same-front m s ss a b e = by (step-by base size m s.source types (types.of m) refl a (omega arith)) (round-by base size (suc m) ss (typed_by m s.source (types.of m) types) (omega arith) (omega arith))
    where
      by : StaysOrGrows base size types (typed_by m s.source (types.of m) types) → StaysOrGrows base size (typed_by m s.source (types.of m) types) (round (suc m) ss (typed_by m s.source (types.of m) types)) → typed_by m s.source (types.of m) types ≡ types
      by (inl f) g = f
      by (inr f) (inl g) = sym g ∙ e
      by (inr f) (inr g) = let same = ap (count base size) e in absurd (omega (arith, f, g, same))

  same-source : (m : ℕ) (s : Source) (o : Option ValueType) → types.of m ≡ o → o ≡ None → typed_by m s o types ≡ types → given types s ≡ None
  same-source m s None h e f = same-given m types (given types s) h f
  same-source m s (Some t) h e f = absurd (cc)

  none-left-over : (m : ℕ) (ss : List Symbol) → base ≤ m → m + length ss ≤ base + size → round m ss types ≡ types → (i : ℕ) (s : Symbol) → slice_get ss i ≡ Some s → types.of (m + i) ≡ None → given types s.source ≡ None
  none-left-over m [] a b e i s g h = absurd (cc)
  none-left-over m (x ∷ ss) a b e zero s g h =
      let f = same-front m x ss a b e in
      let z : m + 0 ≡ m = omega arith in
      let o : types.of m ≡ None = subst (λ n. types.of n ≡ None) z h in
      let r = same-source m x.source (types.of m) refl o f in
      let q : x ≡ s = some-inner g in
      subst (λ (y : Symbol). given types y.source ≡ None) q r
    where
      some-inner : {A : Type 0} {p q : A} → Some p ≡ Some q → p ≡ q
      some-inner e = cc e
  none-left-over m (x ∷ ss) a b e (suc i) s g h =
      let f = same-front m x ss a b e in
      let rest : round (suc m) ss types ≡ types = subst (λ (t : Types). round (suc m) ss t ≡ types) f e in
      let z : m + suc i ≡ suc m + i = omega arith in
      none-left-over (suc m) ss (omega arith) (omega arith) rest i s g (subst (λ n. types.of n ≡ None) z h)

pub settled : (max : ℤ) (r : Resolved) (i : ℕ) (s : Symbol) → slice_get r.symbols i ≡ Some s → (types_of max r).of (length r.above.table.variables + i) ≡ None → given (types_of max r) s.source ≡ None
settled max r i s g h =
    let base = length r.above.table.variables in
    let size = length r.symbols in
    let first : Types = record { max = max; of = known r.above } in
    let fixed = ends base size (round base r.symbols) (λ types. round-by base size base r.symbols types (omega arith) (omega arith)) first in
    none-left-over base size (types_of max r) base r.symbols (omega arith) (omega arith) fixed i s g h
