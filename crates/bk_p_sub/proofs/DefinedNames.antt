-- What a test of conjuncts tells of LET's predicate.
use Rattle.std.specs.Prelude.{◌≡◌, ℕ, Bool, true, false, not, ◌&&◌, ◌||◌, List, [], ◌∷◌, All, Option, None, Some, refl}
use Rattle.std.specs.Str.{bytes_eq}
use Rattle.std.proofs.Common.{sym, ◌∙◌, ap}
use Rattle.std.proofs.lemmas.List.Elements.{All-nil, All-cons, All-head, All-tail}
use Rattle.std.proofs.lemmas.Slice.Eq.{bytes_eq-Decides}
use Rattle.bk_raw.specs.Trees.FreeNames.{conjuncts, stands_free, is_among, IsDefinition, AreDefinitions, Defines}
use Rattle.bk_raw.specs.Trees.RawTree.{RawTree, raw, raw_infix, raw_name}
use Rattle.bk_raw.specs.declared.operator.InfixOp.TheVariants.{Equal}
use Rattle.bk_raw.specs.declared.term.RawName.{RawName}
use Rattle.bk_p_expr.specs.Conjuncts.{AreConjuncts, definition, free_names}
use Rattle.bk_p_expr.specs.declared.free.Conjunct.{Conjunct}
use Rattle.bk_p_expr.proofs.Known.{is_one_of, one_of_free}
use Rattle.bk_p_sub.specs.Defining.{has_one_of, is_named, define_each}

-- ---- two lists of names with none in common
true_false : true ≡ false → ⊥
true_false e = cc

same_false : (a b : Bool) → (a ≡ true → b ≡ true) → (b ≡ true → a ≡ true) → a ≡ b
same_false true true f g = refl
same_false false false f g = refl
same_false true false f g = sym (f refl)
same_false false true f g = g refl

bytes_sym : (x y : List ℕ) → bytes_eq x y ≡ bytes_eq y x
bytes_sym x y = same_false (bytes_eq x y) (bytes_eq y x) (λ e. (bytes_eq-Decides y x).1 (sym ((bytes_eq-Decides x y).0 e))) (λ e. (bytes_eq-Decides x y).1 (sym ((bytes_eq-Decides y x).0 e)))

or_apart : (p q r s : Bool) → ((p || q) || (r || s)) ≡ ((p || r) || (q || s))
or_apart true q r s = refl
or_apart false true true s = refl
or_apart false true false s = refl
or_apart false false true s = refl
or_apart false false false s = refl

one_more : (a : RawName) (all : List RawName) (ys : List (List ℕ)) → has_one_of (a ∷ all) ys ≡ (is_one_of a.text ys || has_one_of all ys)
one_more a all [] = refl
one_more a all (y ∷ ys) = (λ i. (bytes_sym a.text y i || is_among y all) || one_more a all ys i) ∙ or_apart (bytes_eq y a.text) (is_among y all) (is_one_of a.text ys) (has_one_of all ys)

none_of : (ys : List (List ℕ)) → has_one_of [] ys ≡ false
none_of [] = refl
none_of (y ∷ ys) = none_of ys

left_false : (a b : Bool) → (a || b) ≡ false → a ≡ false
left_false true b e = e
left_false false b e = refl

right_false : (a b : Bool) → (a || b) ≡ false → b ≡ false
right_false true b e = absurd (true_false e)
right_false false b e = e

both_false : (a b : Bool) → a ≡ false → b ≡ false → (a || b) ≡ false
both_false a b e f = (λ i. e i || b) ∙ f

free_of : (all : List RawName) (ys : List (List ℕ)) → has_one_of all ys ≡ false → All (λ y. is_one_of y.text ys ≡ false) all
free_of [] ys h = All-nil (λ y. is_one_of y.text ys ≡ false)
free_of (a ∷ all) ys h =
    let k : (is_one_of a.text ys || has_one_of all ys) ≡ false = sym (one_more a all ys) ∙ h in
    All-cons (λ y. is_one_of y.text ys ≡ false) a all (left_false (is_one_of a.text ys) (has_one_of all ys) k) (free_of all ys (right_false (is_one_of a.text ys) (has_one_of all ys) k))

none_free : (all : List RawName) (ys : List (List ℕ)) → All (λ y. is_one_of y.text ys ≡ false) all → has_one_of all ys ≡ false
none_free [] ys h = none_of ys
none_free (a ∷ all) ys h = one_more a all ys ∙ both_false (is_one_of a.text ys) (has_one_of all ys) (All-head (λ y. is_one_of y.text ys ≡ false) a all h) (none_free all ys (All-tail (λ y. is_one_of y.text ys ≡ false) a all h))

-- the same of the names that stand free in a term
as_free : (all : List RawName) (e : RawTree) → All (λ y. is_one_of y.text (free_names e) ≡ false) all → All (λ y. stands_free y.text e ≡ false) all
as_free [] e h = All-nil (λ y. stands_free y.text e ≡ false)
as_free (a ∷ all) e h = All-cons (λ y. stands_free y.text e ≡ false) a all (sym (one_of_free a.text e) ∙ All-head (λ y. is_one_of y.text (free_names e) ≡ false) a all h) (as_free all e (All-tail (λ y. is_one_of y.text (free_names e) ≡ false) a all h))

of_free : (all : List RawName) (e : RawTree) → All (λ y. stands_free y.text e ≡ false) all → All (λ y. is_one_of y.text (free_names e) ≡ false) all
of_free [] e h = All-nil (λ y. is_one_of y.text (free_names e) ≡ false)
of_free (a ∷ all) e h = All-cons (λ y. is_one_of y.text (free_names e) ≡ false) a all (one_of_free a.text e ∙ All-head (λ y. stands_free y.text e ≡ false) a all h) (of_free all e (All-tail (λ y. stands_free y.text e ≡ false) a all h))

-- ---- one definition
-- a definition, by the name and the term that are taken from it
abbrev Taken : List RawName → RawName → RawTree → Type 0
Taken all x t = ((definition t).0 ≡ Some x.text) × All (λ y. stands_free y.text (definition t).1 ≡ false) all

some_same : (a b : List ℕ) → Some a ≡ Some b → a ≡ b
some_same a b e = cc

none_some : (a : List ℕ) → None ≡ Some a → ⊥
none_some a e = cc

of_taken : (all : List RawName) (x : RawName) (t : RawTree) → Taken all x t → IsDefinition all x t
of_taken all x (raw at (raw_infix Equal (raw bt (raw_name text)) e)) h = (some_same text x.text h.0, h.1)
of_taken all x t h = absurd (none_some x.text h.0)

as_taken : (all : List RawName) (x : RawName) (t : RawTree) → IsDefinition all x t → Taken all x t
as_taken all x (raw at (raw_infix Equal (raw bt (raw_name text)) e)) h = ((λ i. Some (h.0 i)), h.1)
as_taken all x t h = absurd h

and_left : (a b : Bool) → (a && b) ≡ true → a ≡ true
and_left true b e = refl
and_left false b e = e

and_right : (a b : Bool) → (a && b) ≡ true → b ≡ true
and_right true b e = e
and_right false b e = absurd (true_false (sym e))

and_both : (a b : Bool) → a ≡ true → b ≡ true → (a && b) ≡ true
and_both a b e f = (λ i. e i && b) ∙ f

not_false : (a : Bool) → not a ≡ true → a ≡ false
not_false true e = sym e
not_false false e = refl

named_is : (x : List ℕ) (o : Option (List ℕ)) → is_named x o ≡ true → o ≡ Some x
named_is x None e = absurd (true_false (sym e))
named_is x (Some y) e = λ i. Some ((bytes_eq-Decides y x).0 e i)

is_named_by : (x : List ℕ) (o : Option (List ℕ)) → o ≡ Some x → is_named x o ≡ true
is_named_by x o e = ap (is_named x) e ∙ (bytes_eq-Decides x x).1 refl

-- ---- one after another
pub define_so : (all xs : List RawName) (ts : List RawTree) (cs : List Conjunct) → AreConjuncts ts cs → define_each all xs cs ≡ true → AreDefinitions all xs ts
define_so all [] [] [] h e = tt
define_so all [] [] (c ∷ cs) h e = absurd h
define_so all [] (t ∷ ts) [] h e = absurd h
define_so all [] (t ∷ ts) (c ∷ cs) h e = absurd (true_false (sym e))
define_so all (x ∷ xs) [] [] h e = absurd (true_false (sym e))
define_so all (x ∷ xs) [] (c ∷ cs) h e = absurd h
define_so all (x ∷ xs) (t ∷ ts) [] h e = absurd h
define_so all (x ∷ xs) (t ∷ ts) (c ∷ cs) h e =
    let first : (is_named x.text c.name && not (has_one_of all c.free.items)) ≡ true = and_left (is_named x.text c.name && not (has_one_of all c.free.items)) (define_each all xs cs) e in
    let name : c.name ≡ Some x.text = named_is x.text c.name (and_left (is_named x.text c.name) (not (has_one_of all c.free.items)) first) in
    let none : has_one_of all c.free.items ≡ false = not_false (has_one_of all c.free.items) (and_right (is_named x.text c.name) (not (has_one_of all c.free.items)) first) in
    let free : has_one_of all (free_names (definition t).1) ≡ false = ap (has_one_of all) (sym h.0.1) ∙ none in
    (of_taken all x t (sym h.0.0 ∙ name, as_free all (definition t).1 (free_of all (free_names (definition t).1) free)), define_so all xs ts cs h.1 (and_right (is_named x.text c.name && not (has_one_of all c.free.items)) (define_each all xs cs) e))

pub defined_by : (all xs : List RawName) (ts : List RawTree) (cs : List Conjunct) → AreConjuncts ts cs → AreDefinitions all xs ts → define_each all xs cs ≡ true
defined_by all [] [] [] h d = refl
defined_by all [] [] (c ∷ cs) h d = absurd h
defined_by all [] (t ∷ ts) cs h d = absurd d
defined_by all (x ∷ xs) [] cs h d = absurd d
defined_by all (x ∷ xs) (t ∷ ts) [] h d = absurd h
defined_by all (x ∷ xs) (t ∷ ts) (c ∷ cs) h d =
    let k : Taken all x t = as_taken all x t d.0 in
    let none : has_one_of all c.free.items ≡ false = ap (has_one_of all) h.0.1 ∙ none_free all (free_names (definition t).1) (of_free all (definition t).1 k.1) in
    and_both (is_named x.text c.name && not (has_one_of all c.free.items)) (define_each all xs cs) (and_both (is_named x.text c.name) (not (has_one_of all c.free.items)) (is_named_by x.text c.name (h.0.0 ∙ k.0)) (ap not none)) (defined_by all xs ts cs h.1 d.1)

-- ---- what the answer tells
pub is_defining : (names : List RawName) (p : RawTree) (known : List Conjunct) (r : Bool) → AreConjuncts (conjuncts p) known → r ≡ define_each names names known → r ≡ true → Defines names p
is_defining names p known r h e t = define_so names names (conjuncts p) known h (sym e ∙ t)

pub is_not_defining : (names : List RawName) (p : RawTree) (known : List Conjunct) (r : Bool) → AreConjuncts (conjuncts p) known → r ≡ define_each names names known → r ≡ false → Defines names p → ⊥
is_not_defining names p known r h e f d = true_false (sym (defined_by names names (conjuncts p) known h d) ∙ sym e ∙ f)
