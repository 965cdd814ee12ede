-- The operations of a component whose headers are the machine's, in the machine's order.
use Rattle.std.proofs.Common.{◌≡◌, inl, inr, ℕ, List, [], ◌∷◌, ◌++◌, length, map, refl, sym, ◌∙◌, ap, subst, Bool, true, false, cond, not, ◌&&◌}
use Rattle.std.proofs.lemmas.List.{map-append}
use Rattle.std.proofs.lemmas.Slice.Eq.{bytes_eq-Decides}
use Rattle.std.specs.List.{flat_map, filter}
use Rattle.std.specs.Str.{bytes_eq}
use Rattle.bk_form.specs.Each.{Each}
use Rattle.bk_dev.specs.Development.{Head, Development}
use Rattle.bk_raw.specs.declared.term.RawName.{RawName}
use Rattle.bk_raw.specs.Trees.ComponentTree.{RawOperation}
use Rattle.bk_raw.specs.Meaning.Binders.{is_text}
use Rattle.bk_raw.proofs.RulesFit.{none-left, none-right, some-fault}
use Rattle.bk_statics.specs.Components.{Component, first_token, operation_names}
use Rattle.bk_phases.specs.TermNames.{texts}
use Rattle.bk_phases.specs.Resolve.{Scope}
use Rattle.bk_phases.specs.Resolved.{Operation, is_headed, in_order, machine_header, resolved_operation, resolved_operations, after_names}
use Rattle.bk_phases.specs.TwiceNamed.{twice_among, texts_of}
use Rattle.bk_phases.specs.Operations.{same_texts, is_header, missing, other_headers}
use Rattle.bk_phases.proofs.Lists.{each-as}
use Rattle.bk_phases.proofs.Scoped.{or-cases, or-left, or-right}

cond-true : {A : Type 0} (c : Bool) (a b : A) → c ≡ true → cond c a b ≡ a
cond-true c a b e = rw e refl

cond-false : {A : Type 0} (c : Bool) (a b : A) → c ≡ false → cond c a b ≡ b
cond-false c a b e = rw e refl

-- ---- filters that let nothing through
by-none : {A : Type 0} (p : A → Bool) (x : A) (xs : List A) (c : Bool) → p x ≡ c → cond c (x ∷ filter p xs) (filter p xs) ≡ [] → (p x ≡ false) × (filter p xs ≡ [])
by-none p x xs true e h = some-fault x (filter p xs) h
by-none p x xs false e h = (e, h)

filter-none : {A : Type 0} (p : A → Bool) (xs : List A) → filter p xs ≡ [] → Each (λ x. p x ≡ false) xs
filter-none p [] h = tt
filter-none p (x ∷ xs) h = let k = by-none p x xs (p x) refl h in (k.0, filter-none p xs k.1)

filter-false : {A : Type 0} (p : A → Bool) (xs : List A) → Each (λ x. p x ≡ false) xs → filter p xs ≡ []
filter-false p [] h = refl
filter-false p (x ∷ xs) h = cond-false (p x) (x ∷ filter p xs) (filter p xs) h.0 ∙ filter-false p xs h.1

map-none : {A B : Type 0} (f : A → B) (xs : List A) → map f xs ≡ [] → xs ≡ []
map-none f [] h = refl
map-none f (x ∷ xs) h = some-fault (f x) (map f xs) h

not-false : (c : Bool) → not c ≡ false → c ≡ true
not-false true h = refl
not-false false h = absurd (cc)

and-first : (a b : Bool) → (a && b) ≡ true → a ≡ true
and-first true b h = refl
and-first false b h = absurd (cc)

-- ---- names that stand once
twice-first : (before : List (List ℕ)) (x : RawName) (xs : List RawName) (c : Bool) → is_text before x.text ≡ c → cond c (x.at ∷ []) [] ++ twice_among (x.text ∷ before) xs ≡ [] → (is_text before x.text ≡ false) × (twice_among (x.text ∷ before) xs ≡ [])
twice-first before x xs true e h = some-fault x.at (twice_among (x.text ∷ before) xs) h
twice-first before x xs false e h = (e, h)

differs : (name x : List ℕ) (before : List (List ℕ)) (c : Bool) → bytes_eq name x ≡ c → is_text before name ≡ true → is_text before x ≡ false → bytes_eq name x ≡ false
differs name x before false q h k = q
differs name x before true q h k =
    let same : name ≡ x = (bytes_eq-Decides name x).0 q in
    let there : is_text before x ≡ true = subst (λ y. is_text before y ≡ true) same h in
    absurd (cc)

-- the operations of this name
abbrev named : List ℕ → List RawOperation → List RawOperation
named name os = filter (λ (o : RawOperation). bytes_eq name o.name.text) os

abbrev names_of : List RawOperation → List (List ℕ)
names_of os = map (λ (o : RawOperation). o.name.text) os

none-named : (name : List ℕ) (before : List (List ℕ)) (os : List RawOperation) → is_text before name ≡ true → twice_among before (operation_names os) ≡ [] → named name os ≡ []
none-named name before [] h e = refl
none-named name before (o ∷ os) h e =
    let k = twice-first before o.name (operation_names os) (is_text before o.name.text) refl e in
    let other = differs name o.name.text before (bytes_eq name o.name.text) refl h k.0 in
    cond-false (bytes_eq name o.name.text) (o ∷ named name os) (named name os) other ∙ none-named name (o.name.text ∷ before) os (or-right (bytes_eq o.name.text name) (is_text before name) h) k.1

one-named : (name : List ℕ) (before : List (List ℕ)) (os : List RawOperation) → twice_among before (operation_names os) ≡ [] → is_text (texts (operation_names os)) name ≡ true → names_of (named name os) ≡ name ∷ []
one-named name before [] e t = absurd (cc)
one-named name before (o ∷ os) e t = by (λ q. one-named name (o.name.text ∷ before) os rest (later q)) (bytes_eq name o.name.text) refl
  where
    rest : twice_among (o.name.text ∷ before) (operation_names os) ≡ []
    rest = (twice-first before o.name (operation_names os) (is_text before o.name.text) refl e).1

    later : bytes_eq name o.name.text ≡ false → is_text (texts (operation_names os)) name ≡ true
    later q = elim (or-cases (bytes_eq o.name.text name) (is_text (texts (operation_names os)) name) t) [
      | inl a ↦ (let same : bytes_eq name o.name.text ≡ true = (bytes_eq-Decides name o.name.text).1 (sym ((bytes_eq-Decides o.name.text name).0 a)) in absurd (cc))
      | inr b ↦ b
    ]

    by : (bytes_eq name o.name.text ≡ false → names_of (named name os) ≡ name ∷ []) → (c : Bool) → bytes_eq name o.name.text ≡ c → names_of (named name (o ∷ os)) ≡ name ∷ []
    by others true q =
        let same : name ≡ o.name.text = (bytes_eq-Decides name o.name.text).0 q in
        let back : bytes_eq o.name.text name ≡ true = (bytes_eq-Decides o.name.text name).1 (sym same) in
        let none = none-named name (o.name.text ∷ before) os (or-left (bytes_eq o.name.text name) (is_text before name) back) rest in
        ap names_of (cond-true (bytes_eq name o.name.text) (o ∷ named name os) (named name os) q) ∙ (ap (λ l. o.name.text ∷ names_of l) none ∙ ap (λ y. y ∷ []) (sym same))
    by others false q = ap names_of (cond-false (bytes_eq name o.name.text) (o ∷ named name os) (named name os) q) ∙ others q

-- ---- all headers
each-named : (hs : List Head) (os : List RawOperation) → twice_among [] (operation_names os) ≡ [] → Each (λ (h : Head). is_text (texts (operation_names os)) h.name ≡ true) hs → names_of (flat_map (λ (h : Head). named h.name os) hs) ≡ map (λ (h : Head). h.name) hs
each-named [] os e t = refl
each-named (h ∷ hs) os e t =
    map-append (λ (o : RawOperation). o.name.text) (named h.name os) (flat_map (λ (g : Head). named g.name os) hs)
    ∙ (ap (λ l. l ++ names_of (flat_map (λ (g : Head). named g.name os) hs)) (one-named h.name [] os e t.0) ∙ ap (λ l. h.name ∷ l) (each-named hs os e t.1))

resolved-names : (dev : Development) (m : Bool) (c : Scope) (os : List RawOperation) → map (λ (o : Operation). o.written.name.text) (resolved_operations dev m c os) ≡ names_of os
resolved-names dev m c [] = refl
resolved-names dev m c (o ∷ os) =
    let first = resolved_operation m c (machine_header dev 0 dev.heads o.name.text) o in
    ap (λ l. o.name.text ∷ l) (resolved-names dev m (after_names (length first.symbols) c) os)

pub are-headed : (dev : Development) (m : Bool) (s : Scope) (c : Component) → twice_among [] (operation_names c.operations) ≡ [] → other_headers false dev c ≡ [] → map (λ (o : Operation). o.written.name.text) (resolved_operations dev m s (in_order dev.heads c.operations)) ≡ map (λ (h : Head). h.name) dev.heads
are-headed dev m s c e h =
    let os = c.operations in
    let wrong = filter (λ (o : RawOperation). not (is_header dev o)) os in
    let headers = filter-none (λ (o : RawOperation). not (is_header dev o)) os (map-none first_token wrong (none-left (map first_token wrong) (map (λ (g : Head). c.at) (missing dev c)) h)) in
    let there = filter-none (λ (g : Head). not (is_text (texts (operation_names os)) g.name)) dev.heads (map-none (λ (g : Head). c.at) (missing dev c) (none-right (map first_token wrong) (map (λ (g : Head). c.at) (missing dev c)) h)) in
    let others = filter-false (λ (o : RawOperation). not (is_headed dev.heads o.name.text)) os (each-as (λ (o : RawOperation). not (is_header dev o) ≡ false) (λ (o : RawOperation). not (is_headed dev.heads o.name.text) ≡ false) (λ o k. headed o (not-false (is_header dev o) k)) os headers) in
    let all = each-named dev.heads os e (each-as (λ (g : Head). not (is_text (texts (operation_names os)) g.name) ≡ false) (λ (g : Head). is_text (texts (operation_names os)) g.name ≡ true) (λ g k. not-false (is_text (texts (operation_names os)) g.name) k) dev.heads there) in
    resolved-names dev m s (in_order dev.heads os)
    ∙ (ap (λ l. names_of (flat_map (λ (g : Head). named g.name os) dev.heads ++ l)) others ∙ (ap names_of (nothing-after (flat_map (λ (g : Head). named g.name os) dev.heads)) ∙ all))
  where
    headed : (o : RawOperation) → is_header dev o ≡ true → not (is_headed dev.heads o.name.text) ≡ false
    headed o k =
        let own = machine_header dev 0 dev.heads o.name.text in
        ap not (and-first (is_headed dev.heads o.name.text) (same_texts (texts_of own.inputs) (texts o.inputs) && same_texts (texts_of own.outputs) (texts o.outputs)) k)

    nothing-after : (xs : List RawOperation) → xs ++ [] ≡ xs
    nothing-after [] = refl
    nothing-after (x ∷ xs) = ap (λ l. x ∷ l) (nothing-after xs)
