-- Names of a header, which stand for the numbers that the machine gave them.
use Rattle.std.proofs.Common.{◌≡◌, ◌⊎◌, inl, inr, ℕ, zero, suc, List, [], ◌∷◌, ◌++◌, length, refl, sym, ◌∙◌, ap, subst, Bool, true, false, cond, ◌&&◌, ◌||◌, arith, nat_eq}
use Rattle.std.specs.Prelude.{Option, None, Some}
use Rattle.std.specs.Str.{bytes_eq}
use Rattle.std.proofs.lemmas.Bool.Decides.{nat_tests}
use Rattle.std.proofs.lemmas.Slice.Eq.{bytes_eq-Decides}
use Rattle.bk_form.specs.Table.{Table}
use Rattle.bk_gsl.specs.State.{among}
use Rattle.bk_dev.specs.declared.kind.Kind.{Kind}
use Rattle.bk_dev.specs.Development.{Head, Development}
use Rattle.bk_raw.specs.declared.term.RawName.{RawName}
use Rattle.bk_raw.specs.Trees.ComponentTree.{RawOperation}
use Rattle.bk_raw.specs.Meaning.Names.{Names}
use Rattle.bk_raw.specs.Meaning.Binders.{is_text, twice}
use Rattle.bk_raw.proofs.BoundNames.{either}
use Rattle.bk_raw.proofs.Filled.{and-both}
use Rattle.bk_raw.proofs.RulesFit.{none-left, none-right, some-fault}
use Rattle.bk_raw.specs.Errors.Faults.{Fault, twice_named, wrong_operation}
use Rattle.bk_statics.specs.Components.{first_token, operation_names}
use Rattle.bk_statics.specs.Settled.{AreOf, AreSeen}
use Rattle.bk_statics.specs.Typings.{or_else, as_variable, as_number, variable_target, target, variable_named}
use Rattle.bk_statics.specs.Binders.{texts}
use Rattle.bk_statics.specs.Above.{stem, text_of, names_at_level, inputs_named}
use Rattle.bk_statics.specs.Plan.{Headed, operation_named, is_headed, inputs_by, headed_by, other_headed}
use Rattle.bk_statics.specs.NameFaults.{named_texts, header_twice}
use Rattle.bk_statics.specs.OperationFaults.{unless, shape_faults, bodies_shape, same_texts, heads_as, header_faults}
use Rattle.bk_statics.specs.LevelLaws.{IsIn}
use Rattle.bk_statics.proofs.SubStays.{or-left, or-right}

-- ---- texts
pub texts-same : (xs ys : List (List ℕ)) → same_texts xs ys ≡ true → xs ≡ ys
texts-same [] [] e = refl
texts-same [] (y ∷ ys) e = absurd (cc)
texts-same (x ∷ xs) [] e = absurd (cc)
texts-same (x ∷ xs) (y ∷ ys) e =
    let k = and-both (bytes_eq x y) (same_texts xs ys) e in
    ap (λ z. z ∷ xs) ((bytes_eq-Decides x y).0 k.0) ∙ ap (λ l. y ∷ l) (texts-same xs ys k.1)

-- ---- names that stand for numbers
abbrev pub ArePaired : Names → List RawName → List ℕ → Type 0
ArePaired names [] [] = Unit {0}
ArePaired names (x ∷ xs) (m ∷ ms) = (variable_named names x.text ≡ Some m) × ArePaired names xs ms
ArePaired names _ _ = ⊥

-- variables with names that depend on their numbers
abbrev pub names_by : (ℕ → List ℕ) → List ℕ → Names
names_by f [] = []
names_by f (n ∷ ns) = as_variable (f n) n ∷ names_by f ns

pub by-level : (k : ℕ) (table : Table) (ns : List ℕ) → names_at_level k table ns ≡ names_by (λ n. stem k (text_of table n)) ns
by-level k table [] = refl
by-level k table (n ∷ ns) = ap (λ l. as_variable (stem k (text_of table n)) n ∷ l) (by-level k table ns)

pub by-input : (table : Table) (ns : List ℕ) → inputs_named table ns ≡ names_by (text_of table) ns
by-input table [] = refl
by-input table (n ∷ ns) = ap (λ l. as_variable (text_of table n) n ∷ l) (by-input table ns)

not-again : (c : Bool) (at : ℕ) → cond {A = List Fault} c (twice_named at ∷ []) [] ≡ [] → c ≡ false
not-again true at h = absurd (cc)
not-again false at h = refl

differs : (t x : List ℕ) (before : List (List ℕ)) → is_text before t ≡ true → is_text before x ≡ false → bytes_eq t x ≡ false
differs t x before h k = elim (either (bytes_eq t x)) [
  | inl e ↦ (let s : t ≡ x = (bytes_eq-Decides t x).0 e in let w : is_text before x ≡ true = ap (is_text before) (sym s) ∙ h in absurd (cc))
  | inr e ↦ e
]

weaken : (names : Names) (t : List ℕ) (n : ℕ) (xs : List RawName) (ms : List ℕ) (before : List (List ℕ)) → is_text before t ≡ true → twice before xs ≡ [] → ArePaired names xs ms → ArePaired (as_variable t n ∷ names) xs ms
weaken names t n [] [] before h k p = tt
weaken names t n [] (m ∷ ms) before h k p = absurd p
weaken names t n (x ∷ xs) [] before h k p = absurd p
weaken names t n (x ∷ xs) (m ∷ ms) before h k p =
    let now : List Fault = cond (is_text before x.text) (twice_named x.at ∷ []) [] in
    let no = not-again (is_text before x.text) x.at (none-left now (twice (x.text ∷ before) xs) k) in
    let apart = differs t x.text before h no in (
      ap (λ c. as_number (cond c (variable_target n) (target names x.text))) apart ∙ p.0,
      weaken names t n xs ms (x.text ∷ before) (or-right (bytes_eq x.text t) (is_text before t) h) (none-right now (twice (x.text ∷ before) xs) k) p.1,
    )

pub paired : (f : ℕ → List ℕ) (ns : List ℕ) (xs : List RawName) → named_texts (names_by f ns) ≡ texts xs → (before : List (List ℕ)) → twice before xs ≡ [] → ArePaired (names_by f ns) xs ns
paired f [] [] e before k = tt
paired f [] (x ∷ xs) e before k = absurd (cc)
paired f (n ∷ ns) [] e before k = absurd (cc)
paired f (n ∷ ns) (x ∷ xs) e before k =
    let a : f n ≡ x.text = cc in
    let r : named_texts (names_by f ns) ≡ texts xs = cc in
    let rest = none-right (cond (is_text before x.text) (twice_named x.at ∷ []) []) (twice (x.text ∷ before) xs) k in (
      ap (λ c. as_number (cond c (variable_target n) (target (names_by f ns) x.text))) ((bytes_eq-Decides (f n) x.text).1 a),
      weaken (names_by f ns) (f n) n xs ns (x.text ∷ before) (or-left (bytes_eq x.text (f n)) (is_text before (f n)) ((bytes_eq-Decides x.text (f n)).1 (sym a))) rest (paired f ns xs r (x.text ∷ before) rest),
    )

pub paired-length : (names : Names) (xs : List RawName) (ms : List ℕ) → ArePaired names xs ms → length xs ≡ length ms
paired-length names [] [] p = refl
paired-length names [] (m ∷ ms) p = absurd p
paired-length names (x ∷ xs) [] p = absurd p
paired-length names (x ∷ xs) (m ∷ ms) p = ap suc (paired-length names xs ms p.1)

-- ---- binding lists in two parts
pub twice-front : (before : List (List ℕ)) (xs ys : List RawName) → twice before (xs ++ ys) ≡ [] → twice before xs ≡ []
twice-front before [] ys h = refl
twice-front before (x ∷ xs) ys h =
    let now : List Fault = cond (is_text before x.text) (twice_named x.at ∷ []) [] in
    ap (λ l. l ++ twice (x.text ∷ before) xs) (none-left now (twice (x.text ∷ before) (xs ++ ys)) h) ∙ twice-front (x.text ∷ before) xs ys (none-right now (twice (x.text ∷ before) (xs ++ ys)) h)

pub twice-behind : (before : List (List ℕ)) (xs ys : List RawName) → twice before (xs ++ ys) ≡ [] → (b : List (List ℕ)) × (twice b ys ≡ [])
twice-behind before [] ys h = (before, h)
twice-behind before (x ∷ xs) ys h = twice-behind (x.text ∷ before) xs ys (none-right (cond (is_text before x.text) (twice_named x.at ∷ []) []) (twice (x.text ∷ before) (xs ++ ys)) h)

-- ---- inputs
pub inputs-alone : (table : Table) (far : ℕ) (names : Names) (xs : List RawName) → AreOf table (inputs_by far names xs)
inputs-alone table far names [] = tt
inputs-alone table far names (x ∷ xs) = (tt, inputs-alone table far names xs)

pub inputs-seen : (v : ℕ → Bool) (far : ℕ) (names : Names) (xs : List RawName) (ms : List ℕ) → ArePaired names xs ms → ((m : ℕ) → among ms m ≡ true → v m ≡ true) → AreSeen v (inputs_by far names xs)
inputs-seen v far names [] [] p f = tt
inputs-seen v far names [] (m ∷ ms) p f = absurd p
inputs-seen v far names (x ∷ xs) [] p f = absurd p
inputs-seen v far names (x ∷ xs) (m ∷ ms) p f =
    let s : or_else far (variable_named names x.text) ≡ m = ap (or_else far) p.0 in
    (subst (λ k. v k ≡ true) (sym s) (f m (or-left (nat_eq m m) (among ms m) (grind (arith, nat_tests)))), inputs-seen v far names xs ms p.1 (λ k e. f k (or-right (nat_eq k m) (among ms k) e)))

-- ---- operations by their names
pub unless-then : (b : Bool) (at : ℕ) (fs : List Fault) → unless b at ++ fs ≡ [] → (b ≡ true) × (fs ≡ [])
unless-then true at fs h = (refl, h)
unless-then false at fs h = some-fault (wrong_operation at) fs h

pub found-in : (x : List ℕ) (os : List RawOperation) → is_text (texts (operation_names os)) x ≡ true → IsIn (operation_named x os) os × (bytes_eq (operation_named x os).name.text x ≡ true)
found-in x [] h = absurd (cc)
found-in x (o ∷ os) h = elim (either (bytes_eq o.name.text x)) [
  | inl e ↦ (let s : operation_named x (o ∷ os) ≡ o = ap (λ c. cond c o (operation_named x os)) e in (subst (λ (r : RawOperation). IsIn r (o ∷ os)) (sym s) (inl refl), subst (λ (r : RawOperation). bytes_eq r.name.text x ≡ true) (sym s) e))
  | inr e ↦ (let s : operation_named x (o ∷ os) ≡ operation_named x os = ap (λ c. cond c o (operation_named x os)) e in
      let k = found-in x os (sym (ap (λ c. c || is_text (texts (operation_names os)) x) e) ∙ h) in
      (subst (λ (r : RawOperation). IsIn r (o ∷ os)) (sym s) (inr k.0), subst (λ (r : RawOperation). bytes_eq r.name.text x ≡ true) (sym s) k.1))
]

pub headers-all : (dev : Development) (os : List RawOperation) → header_faults dev os ≡ [] → (o : RawOperation) → IsIn o os → (is_headed dev.heads o.name.text && heads_as dev 0 dev.heads o) ≡ true
headers-all dev [] h o i = absurd i
headers-all dev (q ∷ os) h o i =
    let k = unless-then (is_headed dev.heads q.name.text && heads_as dev 0 dev.heads q) (first_token q) (header_faults dev os) h in
    elim i [ inl e ↦ subst (λ (r : RawOperation). (is_headed dev.heads r.name.text && heads_as dev 0 dev.heads r) ≡ true) (sym e) k.0 | inr j ↦ headers-all dev os k.1 o j ]

pub shapes-all : (kind : Kind) (os : List RawOperation) → bodies_shape kind os ≡ [] → (o : RawOperation) → IsIn o os → shape_faults kind false o.body ≡ []
shapes-all kind [] h o i = absurd i
shapes-all kind (q ∷ os) h o i =
    elim i [
      | inl e ↦ subst (λ (r : RawOperation). shape_faults kind false r.body ≡ []) (sym e) (none-left (shape_faults kind false q.body) (bodies_shape kind os) h)
      | inr j ↦ shapes-all kind os (none-right (shape_faults kind false q.body) (bodies_shape kind os) h) o j
    ]

pub twice-all : (os : List RawOperation) → header_twice os ≡ [] → (o : RawOperation) → IsIn o os → twice [] (o.outputs ++ o.inputs) ≡ []
twice-all [] h o i = absurd i
twice-all (q ∷ os) h o i =
    elim i [
      | inl e ↦ subst (λ (r : RawOperation). twice [] (r.outputs ++ r.inputs) ≡ []) (sym e) (none-left (twice [] (q.outputs ++ q.inputs)) (header_twice os) h)
      | inr j ↦ twice-all os (none-right (twice [] (q.outputs ++ q.inputs)) (header_twice os) h) o j
    ]

-- the machine lacks none of the operations
pub others-none : (dev : Development) (far : ℕ) (os : List RawOperation) → header_faults dev os ≡ [] → other_headed far dev.heads os ≡ []
others-none dev far [] h = refl
others-none dev far (o ∷ os) h =
    let k = unless-then (is_headed dev.heads o.name.text && heads_as dev 0 dev.heads o) (first_token o) (header_faults dev os) h in
    let there = (and-both (is_headed dev.heads o.name.text) (heads_as dev 0 dev.heads o) k.0).0 in
    ap (λ c. cond c (other_headed far dev.heads os) (headed_by far [] [] o ∷ other_headed far dev.heads os)) there ∙ others-none dev far os k.1
