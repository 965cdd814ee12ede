-- The operations of a component under the headers of the machine: how many there are, and how much they bind.
use Rattle.std.proofs.Common.{◌≡◌, inl, inr, ℕ, suc, ◌+◌, ◌≤◌, List, [], ◌∷◌, ◌++◌, length, refl, sym, ◌∙◌, ap, subst, Bool, true, false, cond, ◌||◌, All, arith}
use Rattle.std.specs.Str.{bytes_eq}
use Rattle.std.proofs.lemmas.Slice.Eq.{bytes_eq-Decides}
use Rattle.std.proofs.lemmas.List.Elements.{All-nil}
use Rattle.bk_dev.specs.Development.{Head, Level, Development}
use Rattle.bk_raw.specs.Trees.ComponentTree.{RawOperation}
use Rattle.bk_raw.specs.Meaning.Binders.{is_text, twice}
use Rattle.bk_raw.proofs.BoundNames.{either, or-neither}
use Rattle.bk_raw.proofs.RulesFit.{none-left, none-right}
use Rattle.bk_raw.specs.Errors.Faults.{Fault, twice_named}
use Rattle.bk_statics.specs.Binders.{texts}
use Rattle.bk_statics.specs.Components.{Component, operation_names}
use Rattle.bk_statics.specs.Plan.{Headed, is_headed, operation_named, size_of, sizes, machine_heads, machine_headed, lower_headed, other_headed, output_count}
use Rattle.bk_statics.specs.OperationFaults.{header_faults, missing_faults, lower_faults}
use Rattle.bk_statics.specs.LevelLaws.{body_count}
use Rattle.bk_statics.proofs.Paired.{others-none}
use Rattle.bk_statics.proofs.SubStays.{or-left, or-right}
use Rattle.bk_bounds.proofs.Sizes.{all_sizes}

-- no two of the headers have one name
abbrev pub AreNamedApart : List Head → Type 0
AreNamedApart [] = Unit {0}
AreNamedApart (h ∷ hs) = (is_headed hs h.name ≡ false) × AreNamedApart hs

-- ---- texts
-- different in one order, different in the other
other-way : (x y : List ℕ) → bytes_eq x y ≡ false → bytes_eq y x ≡ false
other-way x y h = elim (either (bytes_eq y x)) [
  | inl e ↦ (let t : bytes_eq x y ≡ true = (bytes_eq-Decides x y).1 (sym ((bytes_eq-Decides y x).0 e)) in absurd (cc))
  | inr e ↦ e
]

-- a text that stands in the list differs from one that does not
differs-from : (t x : List ℕ) (before : List (List ℕ)) → is_text before t ≡ false → is_text before x ≡ true → bytes_eq t x ≡ false
differs-from t x before h k = elim (either (bytes_eq t x)) [
  | inl e ↦ (let w : is_text before t ≡ true = ap (is_text before) ((bytes_eq-Decides t x).0 e) ∙ k in absurd (cc))
  | inr e ↦ e
]

none-of : (a b : Bool) → a ≡ false → b ≡ false → (a || b) ≡ false
none-of true b h k = absurd (cc)
none-of false b h k = k

not-again : (c : Bool) (at : ℕ) → cond {A = List Fault} c (twice_named at ∷ []) [] ≡ [] → c ≡ false
not-again true at h = absurd (cc)
not-again false at h = refl

-- ---- the machine's headers
-- a name that stands before is none of the headers', where no operation's name stands before
not-headed : (before : List (List ℕ)) (n : ℕ) (os : List RawOperation) → twice before (operation_names os) ≡ [] → (x : List ℕ) → is_text before x ≡ true → is_headed (machine_heads n os) x ≡ false
not-headed before n [] h x e = refl
not-headed before n (o ∷ os) h x e =
    let now : List Fault = cond (is_text before o.name.text) (twice_named o.name.at ∷ []) [] in
    let later = twice (o.name.text ∷ before) (operation_names os) in
    let new = not-again (is_text before o.name.text) o.name.at (none-left now later h) in
    none-of (bytes_eq o.name.text x) (is_headed (machine_heads (n + length o.inputs) os) x) (differs-from o.name.text x before new e)
    (not-headed (o.name.text ∷ before) (n + length o.inputs) os (none-right now later h) x (or-right (bytes_eq o.name.text x) (is_text before x) e))

-- operations whose names differ have headers whose names differ
pub machine-apart : (before : List (List ℕ)) (n : ℕ) (os : List RawOperation) → twice before (operation_names os) ≡ [] → AreNamedApart (machine_heads n os)
machine-apart before n [] h = tt
machine-apart before n (o ∷ os) h =
    let now : List Fault = cond (is_text before o.name.text) (twice_named o.name.at ∷ []) [] in
    let rest = none-right now (twice (o.name.text ∷ before) (operation_names os)) h in (
      not-headed (o.name.text ∷ before) (n + length o.inputs) os rest o.name.text (or-left (bytes_eq o.name.text o.name.text) (is_text before o.name.text) ((bytes_eq-Decides o.name.text o.name.text).1 refl)),
      machine-apart (o.name.text ∷ before) (n + length o.inputs) os rest,
    )

heads-length : (n : ℕ) (os : List RawOperation) → length (machine_heads n os) ≡ length os
heads-length n [] = refl
heads-length n (o ∷ os) = ap suc (heads-length (n + length o.inputs) os)

machine-length : (n : ℕ) (os : List RawOperation) → length (machine_headed n os) ≡ length os
machine-length n [] = refl
machine-length n (o ∷ os) = ap suc (machine-length (n + length o.inputs) os)

machine-size : (n : ℕ) (os : List RawOperation) → output_count (machine_headed n os) + body_count (machine_headed n os) ≡ all_sizes os
machine-size n [] = refl
machine-size n (o ∷ os) = let r = machine-size (n + length o.inputs) os in omega arith

-- ---- the operations of these headers
lower-length : (far : ℕ) (dev : Development) (k : ℕ) (hs : List Head) (os : List RawOperation) → length (lower_headed far dev k hs os) ≡ length hs
lower-length far dev k [] os = refl
lower-length far dev k (h ∷ hs) os = ap suc (lower-length far dev (suc k) hs os)

lower-size : (far : ℕ) (dev : Development) (k : ℕ) (hs : List Head) (os : List RawOperation) → output_count (lower_headed far dev k hs os) + body_count (lower_headed far dev k hs os) ≡ sizes hs os
lower-size far dev k [] os = refl
lower-size far dev k (h ∷ hs) os = let r = lower-size far dev (suc k) hs os in omega arith

none-sized : (hs : List Head) → sizes hs [] ≡ 0
none-sized [] = refl
none-sized (h ∷ hs) = let r = none-sized hs in omega arith

-- an operation of none of these names counts nothing
not-named : (hs : List Head) (o : RawOperation) (os : List RawOperation) → is_headed hs o.name.text ≡ false → sizes hs (o ∷ os) ≡ sizes hs os
not-named [] o os e = refl
not-named (h ∷ hs) o os e =
    let both = or-neither (bytes_eq h.name o.name.text) (is_headed hs o.name.text) e in
    let here = other-way h.name o.name.text both.0 in
    let rest = not-named hs o os both.1 in
    (λ i. size_of (cond (here i) o (operation_named h.name os)) + rest i)

-- one more operation stands under one header at most
one-more : (hs : List Head) (o : RawOperation) (os : List RawOperation) → AreNamedApart hs → sizes hs (o ∷ os) ≤ size_of o + sizes hs os
one-more [] o os a = omega arith
one-more (h ∷ hs) o os a = elim (either (bytes_eq o.name.text h.name)) [
  | inl e ↦ (let out : is_headed hs o.name.text ≡ false = ap (is_headed hs) ((bytes_eq-Decides o.name.text h.name).0 e) ∙ a.0 in
      let rest = not-named hs o os out in
      let here : size_of (cond (bytes_eq o.name.text h.name) o (operation_named h.name os)) ≡ size_of o = ap (λ c. size_of (cond c o (operation_named h.name os))) e in
      omega arith)
  | inr e ↦ (let rest = one-more hs o os a.1 in
      let here : size_of (cond (bytes_eq o.name.text h.name) o (operation_named h.name os)) ≡ size_of (operation_named h.name os) = ap (λ c. size_of (cond c o (operation_named h.name os))) e in
      omega arith)
]

-- the operations of different headers have together no more than all operations
pub sizes-few : (hs : List Head) (os : List RawOperation) → AreNamedApart hs → sizes hs os ≤ all_sizes os
sizes-few hs [] a = let e = none-sized hs in omega arith
sizes-few hs (o ∷ os) a = let r = sizes-few hs os a in let m = one-more hs o os a in omega arith

-- ---- a component's headers and operations
join-none : {A : Type 0} (xs : List A) → xs ++ [] ≡ xs
join-none [] = refl
join-none (x ∷ xs) = ap (λ l. x ∷ l) (join-none xs)

-- headers that differ, and operations that are as few as they are written, below these levels
pub record Fit (levels : List Level) (written : List RawOperation) (hs : List Head) (headed : List Headed) : Type 0 where
  pub apart : AreNamedApart hs
  pub few : output_count headed + body_count headed ≤ all_sizes written
  pub as_many : length headed ≤ length hs
  pub above : All (λ (l : Level). length l.bodies ≤ length hs) levels

pub fits : (is_first : Bool) (n far : ℕ) (dev : Development) (comp : Component) → (is_first ≡ true → dev.levels ≡ []) → AreNamedApart dev.heads → All (λ (l : Level). length l.bodies ≤ length dev.heads) dev.levels → twice [] (operation_names comp.operations) ≡ [] → lower_faults is_first dev comp ≡ []
    → Fit dev.levels comp.operations (cond is_first (machine_heads n comp.operations) dev.heads) (cond is_first (machine_headed n comp.operations) (lower_headed far dev 0 dev.heads comp.operations ++ other_headed far dev.heads comp.operations))
fits true n far dev comp first a above once none =
    let os = comp.operations in
    let size = machine-size n os in
    let many = machine-length n os in
    let heads = heads-length n os in
    record {
      apart = machine-apart [] n os once;
      few = omega arith;
      as_many = omega arith;
      above = subst (All (λ (l : Level). length l.bodies ≤ length (machine_heads n os))) (sym (first refl)) (All-nil (λ (l : Level). length l.bodies ≤ length (machine_heads n os)));
    }
fits false n far dev comp first a above once none =
    let os = comp.operations in
    let lower = lower_headed far dev 0 dev.heads os in
    let said = none-left (header_faults dev os) (missing_faults comp.at (texts (operation_names os)) dev.heads) none in
    let so : lower ++ other_headed far dev.heads os ≡ lower = ap (λ l. lower ++ l) (others-none dev far os said) ∙ join-none lower in
    let size = lower-size far dev 0 dev.heads os in
    let many = lower-length far dev 0 dev.heads os in
    let few = sizes-few dev.heads os a in
    let outputs = ap output_count so in
    let bodies = ap body_count so in
    let count : length (lower ++ other_headed far dev.heads os) ≡ length lower = ap length so in
    record { apart = a; few = omega arith; as_many = omega arith; above = above }
