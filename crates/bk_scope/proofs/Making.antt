-- Lists that grow at their end, and what a component adds to a development.
use Rattle.std.proofs.Common.{◌≡◌, ℕ, suc, ◌+◌, ◌-◌, ◌<◌, ◌≤◌, List, [], ◌∷◌, ◌++◌, length, get_or, drop, replicate, refl, sym, ◌∙◌, ap, Bool, true, false, cond, arith, append_assoc, length-append}
use Rattle.std.specs.Prelude.{Option, None, Some}
use Rattle.std.specs.Borrow.{Bor}
use Rattle.std.proofs.lemmas.List.{drop_more, drop_all, append-nil}
use Rattle.bk_dev.specs.Development.{Head}
use Rattle.bk_scope.specs.Shown.{refs}
use Rattle.bk_dev.specs.declared.kind.Home.{Home}
use Rattle.bk_dev.specs.declared.kind.Home.TheVariants.{Constant, Input, Inner}
use Rattle.bk_raw.specs.declared.term.RawName.{RawName}
use Rattle.bk_raw.specs.Trees.ComponentTree.{RawOperation}
use Rattle.bk_statics.specs.Binders.{texts, binder_texts}
use Rattle.bk_statics.specs.Components.{Component, is_machine, initialisation}
use Rattle.bk_statics.specs.Plan.{Plan, Headed, Declared as DeclaredMeant, declared_texts, links_from, link_of, machine_heads}
use Rattle.bk_statics.specs.LevelOf.{at_level, input_texts, output_texts, bound_texts, new_texts, homes_as, variable_homes, new_homes}

-- ---- lists that grow
-- one more at the end
pub one-more : {A : Type 0} (found after : List A) (x : A) (rest all whole : List A) → all ≡ x ∷ rest → after ≡ found ++ x ∷ [] → found ++ all ≡ whole → after ++ rest ≡ whole
one-more {A} found after x rest all whole split a h =
    ap (λ (xs : List A). xs ++ rest) a ∙ (append_assoc found (x ∷ []) rest ∙ (sym (ap (λ (xs : List A). found ++ xs) split) ∙ h))

-- several more
pub some-more : {A : Type 0} (found after more rest all whole : List A) → all ≡ more ++ rest → after ≡ found ++ more → found ++ all ≡ whole → after ++ rest ≡ whole
some-more {A} found after more rest all whole split a h =
    ap (λ (xs : List A). xs ++ rest) a ∙ (append_assoc found more rest ∙ (sym (ap (λ (xs : List A). found ++ xs) split) ∙ h))

-- a function of what is left of a list, one step on, where it joins what it makes of the first to what it makes of the others
pub joined-more : {A B : Type 0} (F : List A → List B) → ((x : A) (xs : List A) → F (x ∷ xs) ≡ F (x ∷ []) ++ F xs) → (xs : List A) (i : ℕ) (d : A) (found more after whole : List B) → i < length xs → d ≡ get_or xs i d → more ≡ F (d ∷ []) → after ≡ found ++ more →
    found ++ F (drop i xs) ≡ whole → after ++ F (drop (i + 1) xs) ≡ whole
joined-more {A} {B} F step xs i d found more after whole l is e a h =
    some-more found after more (F (drop (i + 1) xs)) (F (drop i xs)) whole
    (ap F (drop_more xs i d l) ∙ (ap (λ (x : A). F (x ∷ drop (i + 1) xs)) (sym is) ∙ (step d (drop (i + 1) xs) ∙ ap (λ (ys : List B). ys ++ F (drop (i + 1) xs)) (sym e)))) a h

-- the same, where it counts
pub counted-more : {A B : Type 0} (F : ℕ → List A → List B) → ((n : ℕ) (x : A) (xs : List A) → F n (x ∷ xs) ≡ F n (x ∷ []) ++ F (suc n) xs) → (n : ℕ) (xs : List A) (i : ℕ) (d : A) (found more after whole : List B) → i < length xs → d ≡ get_or xs i d → more ≡ F (n + i) (d ∷ []) → after ≡ found ++ more →
    found ++ F (n + i) (drop i xs) ≡ whole → after ++ F (n + (i + 1)) (drop (i + 1) xs) ≡ whole
counted-more {A} {B} F step n xs i d found more after whole l is e a h =
    let next : suc (n + i) ≡ n + (i + 1) = omega arith in
    some-more found after more (F (n + (i + 1)) (drop (i + 1) xs)) (F (n + i) (drop i xs)) whole
    (ap (F (n + i)) (drop_more xs i d l) ∙ (ap (λ (x : A). F (n + i) (x ∷ drop (i + 1) xs)) (sym is)
    ∙ (step (n + i) d (drop (i + 1) xs) ∙ (ap (λ (m : ℕ). F (n + i) (d ∷ []) ++ F m (drop (i + 1) xs)) next ∙ ap (λ (ys : List B). ys ++ F (n + (i + 1)) (drop (i + 1) xs)) (sym e))))) a h

-- nothing is left
pub nothing-more : {A B : Type 0} (F : List A → List B) → F [] ≡ [] → (xs : List A) (i : ℕ) (found whole : List B) → length xs ≤ i → found ++ F (drop i xs) ≡ whole → found ≡ whole
nothing-more {A} {B} F none xs i found whole l h =
    sym (ap (λ (ys : List A). found ++ F ys) (drop_all i xs l) ∙ (ap (λ (ys : List B). found ++ ys) none ∙ append-nil found)) ∙ h

-- one more of the same
pub replicate-more : {A : Type 0} (x : A) (count k : ℕ) (found after whole : List A) → k < count → after ≡ found ++ x ∷ [] → found ++ replicate (count - k) x ≡ whole → after ++ replicate (count - (k + 1)) x ≡ whole
replicate-more {A} x count k found after whole l a h =
    let left : count - k ≡ suc (count - (k + 1)) = omega arith in
    one-more found after x (replicate (count - (k + 1)) x) (replicate (count - k) x) whole (ap (λ (n : ℕ). replicate n x) left) a h

-- ---- links
-- the link of a variable stands in front of the others
pub link-first : (n : ℕ) (d : DeclaredMeant) (ds : List DeclaredMeant) → links_from n (d ∷ ds) ≡ links_from n (d ∷ []) ++ links_from (suc n) ds
link-first n d ds = go d.higher
  where
    go : (h : Option ℕ) → link_of n h (links_from (suc n) ds) ≡ link_of n h [] ++ links_from (suc n) ds
    go None = refl
    go (Some m) = refl

-- ---- homes
-- the same home for each of a list
homes-replicated : {A : Type 0} (h : Home) (xs : List A) → homes_as h xs ≡ replicate (length xs) h
homes-replicated h [] = refl
homes-replicated h (x ∷ xs) = ap (λ (hs : List Home). h ∷ hs) (homes-replicated h xs)

homes-joined : {A : Type 0} (h : Home) (xs ys : List A) → homes_as h (xs ++ ys) ≡ homes_as h xs ++ homes_as h ys
homes-joined h [] ys = refl
homes-joined h (x ∷ xs) ys = ap (λ (hs : List Home). h ∷ hs) (homes-joined h xs ys)

pub texts-long : (xs : List RawName) → length (texts xs) ≡ length xs
texts-long [] = refl
texts-long (x ∷ xs) = ap suc (texts-long xs)

pub level-long : (k : ℕ) (xs : List (List ℕ)) → length (at_level k xs) ≡ length xs
level-long k [] = refl
level-long k (x ∷ xs) = ap suc (level-long k xs)

pub declared-long : (ds : List DeclaredMeant) → length (declared_texts ds) ≡ length ds
declared-long [] = refl
declared-long (d ∷ ds) = ap suc (declared-long ds)

variables-long : (k : ℕ) (ds : List DeclaredMeant) → length (variable_homes k ds) ≡ length ds
variables-long k [] = refl
variables-long k (d ∷ ds) = ap suc (variables-long k ds)

homes-long : {A : Type 0} (h : Home) (xs : List A) → length (homes_as h xs) ≡ length xs
homes-long h [] = refl
homes-long h (x ∷ xs) = ap suc (homes-long h xs)

inputs-long : (b : Bool) (xs : List (List ℕ)) → length (cond b (homes_as Input xs) []) ≡ length (cond b xs [])
inputs-long true xs = homes-long Input xs
inputs-long false xs = refl

-- constants have as many homes as there are
pub constants-home : (found after : List Home) (cs : List RawName) (n : ℕ) → n ≡ length cs → found ≡ [] → after ≡ found ++ replicate n Constant → after ≡ homes_as Constant cs
constants-home found after cs n e none a =
    a ∙ (ap (λ (hs : List Home). hs ++ replicate n Constant) none ∙ (ap (λ (m : ℕ). replicate m Constant) e ∙ sym (homes-replicated Constant cs)))

-- the inputs of an operation
pub inputs-home : (o : RawOperation) (os : List RawOperation) → homes_as Input (input_texts (o ∷ os)) ≡ homes_as Input (input_texts (o ∷ [])) ++ homes_as Input (input_texts os)
inputs-home o os =
    homes-joined Input (texts o.inputs) (input_texts os) ∙ ap (λ (ts : List (List ℕ)). homes_as Input ts ++ homes_as Input (input_texts os)) (sym (append-nil (texts o.inputs)))

pub inputs-replicated : (o : RawOperation) (n : ℕ) → n ≡ length o.inputs → replicate n Input ≡ homes_as Input (input_texts (o ∷ []))
inputs-replicated o n e =
    sym (ap (λ (ts : List (List ℕ)). homes_as Input ts) (append-nil (texts o.inputs)) ∙ (homes-replicated Input (texts o.inputs) ∙ ap (λ (m : ℕ). replicate m Input) (texts-long o.inputs ∙ sym e)))

-- the texts of inputs, of outputs and of what bodies bind
pub inputs-first : (o : RawOperation) (os : List RawOperation) → input_texts (o ∷ os) ≡ input_texts (o ∷ []) ++ input_texts os
inputs-first o os = ap (λ (ts : List (List ℕ)). ts ++ input_texts os) (sym (append-nil (texts o.inputs)))

pub outputs-first : (k : ℕ) (h : Headed) (hs : List Headed) → output_texts k (h ∷ hs) ≡ output_texts k (h ∷ []) ++ output_texts k hs
outputs-first k h hs = ap (λ (ts : List (List ℕ)). ts ++ output_texts k hs) (sym (append-nil (at_level k (texts h.operation.outputs))))

pub bound-first : (h : Headed) (hs : List Headed) → bound_texts (h ∷ hs) ≡ bound_texts (h ∷ []) ++ bound_texts hs
bound-first h hs = ap (λ (ts : List (List ℕ)). ts ++ bound_texts hs) (sym (append-nil (binder_texts h.operation.body)))

-- what is left of the numbers has its home within
pub rest-home : (p : Plan) (c : Component) (found after : List Home) (count before others : ℕ) → count ≡ length (new_texts p c) → found ≡ homes_as Constant c.constants ++ (variable_homes p.level p.variables ++ cond (is_machine c.kind) (homes_as Input (input_texts c.operations)) []) →
    before ≡ length found → others ≡ count - before → after ≡ found ++ replicate others (Inner p.level) → after ≡ new_homes p c
rest-home p c found after count before others e f b k a =
    let cs : List Home = homes_as Constant c.constants in
    let vs : List Home = variable_homes p.level p.variables in
    let ins : List (List ℕ) = cond (is_machine c.kind) (input_texts c.operations) [] in
    let is : List Home = cond (is_machine c.kind) (homes_as Input (input_texts c.operations)) [] in
    let left : List (List ℕ) = output_texts p.level p.headed ++ (binder_texts (initialisation c) ++ bound_texts p.headed) in
    let vts : List (List ℕ) = at_level p.level (declared_texts p.variables) in
    let all : length (new_texts p c) ≡ length c.constants + (length p.variables + (length ins + length left)) =
    length-append (texts c.constants) (vts ++ (ins ++ left))
    ∙ (λ i. texts-long c.constants i + length-append vts (ins ++ left) i)
    ∙ (λ i. length c.constants + ((level-long p.level (declared_texts p.variables) ∙ declared-long p.variables) i + length-append ins left i)) in
    let some : length found ≡ length c.constants + (length p.variables + length ins) =
    ap length f ∙ length-append cs (vs ++ is)
    ∙ (λ i. homes-long Constant c.constants i + length-append vs is i)
    ∙ (λ i. length c.constants + (variables-long p.level p.variables i + inputs-long (is_machine c.kind) (input_texts c.operations) i)) in
    let others-are : others ≡ length left = omega (arith, all, some, e, b, k) in
    a ∙ (ap (λ (n : ℕ). found ++ replicate n (Inner p.level)) others-are
    ∙ (ap (λ (hs : List Home). found ++ hs) (sym (homes-replicated (Inner p.level) left))
    ∙ (ap (λ (hs : List Home). hs ++ homes_as (Inner p.level) left) f
    ∙ (append_assoc cs (vs ++ is) (homes_as (Inner p.level) left) ∙ ap (λ (hs : List Home). cs ++ hs) (append_assoc vs is (homes_as (Inner p.level) left))))))

-- ---- headers
-- the header of one operation more
pub heads-more : (os : List (Bor RawOperation)) (i : ℕ) (o : Bor RawOperation) (n next : ℕ) (found more after whole : List Head) → i < length os → o ≡ get_or os i o → next ≡ n + length o.now.inputs → more ≡ machine_heads n (o.now ∷ []) → after ≡ found ++ more →
    found ++ machine_heads n (refs (drop i os)) ≡ whole → after ++ machine_heads next (refs (drop (i + 1) os)) ≡ whole
heads-more os i o n next found more after whole l is e m a h =
    let rest : List (Bor RawOperation) = drop (i + 1) os in
    some-more found after more (machine_heads next (refs rest)) (machine_heads n (refs (drop i os))) whole
    (ap (λ (xs : List (Bor RawOperation)). machine_heads n (refs xs)) (drop_more os i o l) ∙ (ap (λ (x : Bor RawOperation). machine_heads n (x.now ∷ refs rest)) (sym is)
    ∙ (ap (λ (k : ℕ). machine_heads n (o.now ∷ []) ++ machine_heads k (refs rest)) (sym e) ∙ ap (λ (hs : List Head). hs ++ machine_heads next (refs rest)) (sym m)))) a h
