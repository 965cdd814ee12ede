-- Names that stand twice, and names on the left: which stood before, in whatever order.
use Rattle.std.proofs.Common.{◌≡◌, ℕ, ◌+◌, ◌<◌, ◌≤◌, List, [], ◌∷◌, ◌++◌, length, get_or, take, drop, map, refl, sym, ◌∙◌, ap, Bool, true, false, cond, append_assoc}
use Rattle.std.specs.Prelude.{Option, ◌||◌, nat_eq}
use Rattle.std.specs.Str.{bytes_eq}
use Rattle.std.specs.Borrow.{Bor}
use Rattle.std.proofs.lemmas.List.{append-nil, map-append, drop_all}
use Rattle.bk_gsl.specs.State.{among}
use Rattle.bk_raw.specs.declared.term.RawName.{RawName}
use Rattle.bk_raw.specs.Trees.ComponentTree.{RawOperation}
use Rattle.bk_raw.specs.Meaning.Names.{Names}
use Rattle.bk_raw.specs.Meaning.Binders.{is_text, twice}
use Rattle.bk_raw.specs.Errors.Blame.{blame, earlier}
use Rattle.bk_raw.proofs.Blamed.{earlier-none}
use Rattle.bk_raw.specs.Errors.Faults.{Fault, twice_named, wrong_write}
use Rattle.bk_statics.specs.Binders.{texts}
use Rattle.bk_statics.specs.Components.{operation_names}
use Rattle.bk_statics.specs.Typings.{Target, unknown, no_variable, variable_target, target}
use Rattle.bk_statics.specs.SubFaults.{target_faults, is_again, with_target, left_faults}
use Rattle.bk_scope.specs.Shown.{refs}
use Rattle.bk_scope.proofs.FaultSteps.{next, last, or-swap, or-false, told-more, told-both}

-- ---- texts
or-assoc : (a b c : Bool) → ((a || b) || c) ≡ (a || (b || c))
or-assoc true b c = refl
or-assoc false b c = refl

or-comm : (a b : Bool) → (a || b) ≡ (b || a)
or-comm true true = refl
or-comm true false = refl
or-comm false b = sym (or-false b)

pub is_text-join : (ts us : List (List ℕ)) (t : List ℕ) → is_text (ts ++ us) t ≡ (is_text ts t || is_text us t)
is_text-join [] us t = refl
is_text-join (x ∷ ts) us t = ap (λ b. bytes_eq x t || b) (is_text-join ts us t) ∙ sym (or-assoc (bytes_eq x t) (is_text ts t) (is_text us t))

pub texts-join : (xs ys : List RawName) → texts (xs ++ ys) ≡ texts xs ++ texts ys
texts-join [] ys = refl
texts-join (x ∷ xs) ys = ap (λ l. x.text ∷ l) (texts-join xs ys)

-- ---- names that stand twice
-- only the texts before matter, not their order
pub twice-same : (ts us : List (List ℕ)) (xs : List RawName) → ((t : List ℕ) → is_text ts t ≡ is_text us t) → twice ts xs ≡ twice us xs
twice-same ts us [] h = refl
twice-same ts us (x ∷ xs) h =
    ap (λ b. cond b (twice_named x.at ∷ []) [] ++ twice (x.text ∷ ts) xs) (h x.text)
    ∙ ap (λ l. cond (is_text us x.text) (twice_named x.at ∷ []) [] ++ l) (twice-same (x.text ∷ ts) (x.text ∷ us) xs (λ t. ap (λ b. bytes_eq x.text t || b) (h t)))

-- a text between others is one in front of them
front : (ts us : List (List ℕ)) (x t : List ℕ) → is_text (ts ++ x ∷ us) t ≡ is_text (x ∷ (ts ++ us)) t
front ts us x t =
    is_text-join ts (x ∷ us) t ∙ (or-swap (is_text ts t) (bytes_eq x t) (is_text us t) ∙ ap (λ b. bytes_eq x t || b) (sym (is_text-join ts us t)))

-- names behind others
pub twice-join : (before : List (List ℕ)) (xs ys : List RawName) → twice before (xs ++ ys) ≡ twice before xs ++ twice (texts xs ++ before) ys
twice-join before [] ys = refl
twice-join before (x ∷ xs) ys =
    let one = cond (is_text before x.text) (twice_named x.at ∷ []) [] in
    ap (λ l. one ++ l) (twice-join (x.text ∷ before) xs ys)
    ∙ (sym (append_assoc one (twice (x.text ∷ before) xs) (twice (texts xs ++ x.text ∷ before) ys))
    ∙ ap (λ l. (one ++ twice (x.text ∷ before) xs) ++ l) (twice-same (texts xs ++ x.text ∷ before) (x.text ∷ (texts xs ++ before)) ys (front (texts xs) before x.text)))

-- one name more, where the names of a list are these, and others stand before
pub twice-next : {X : Type 0} (f : X → RawName) (others : List (List ℕ)) (xs : List X) (i : ℕ) (x : X) (again : Bool) (before now after whole : Option Fault) → i < length xs → x ≡ get_or xs i x →
    again ≡ (is_text others (f x).text || is_text (texts (map f (take i xs))) (f x).text) → now ≡ blame (cond again (twice_named ((f x).at) ∷ []) []) → after ≡ earlier before now →
    earlier before (blame (twice (texts (map f (take i xs)) ++ others) (map f (drop i xs)))) ≡ whole → earlier after (blame (twice (texts (map f (take (i + 1) xs)) ++ others) (map f (drop (i + 1) xs)))) ≡ whole
twice-next f others xs i x again before now after whole h e seen k g inv =
    told-more (twice was (map f (drop i xs))) (cond again (twice_named ((f x).at) ∷ []) []) (twice is ys) before now after whole step k g inv
  where
    was : List (List ℕ)
    was = texts (map f (take i xs)) ++ others

    is : List (List ℕ)
    is = texts (map f (take (i + 1) xs)) ++ others

    ys : List RawName
    ys = map f (drop (i + 1) xs)

    one-more : texts (map f (take i xs ++ x ∷ [])) ≡ texts (map f (take i xs)) ++ (f x).text ∷ []
    one-more = ap texts (map-append f (take i xs) (x ∷ [])) ∙ texts-join (map f (take i xs)) (f x ∷ [])

    grown : (t : List ℕ) → is_text ((f x).text ∷ was) t ≡ is_text is t
    grown t =
        sym (front (texts (map f (take i xs))) others (f x).text t)
        ∙ ap (λ l. is_text l t) (sym (append_assoc (texts (map f (take i xs))) ((f x).text ∷ []) others) ∙ sym (ap (λ l. l ++ others) (last (λ l. texts (map f l)) xs i x h e ∙ one-more)))

    known : is_text was (f x).text ≡ again
    known = is_text-join (texts (map f (take i xs))) others (f x).text ∙ (or-comm (is_text (texts (map f (take i xs))) (f x).text) (is_text others (f x).text) ∙ sym seen)

    step : twice was (map f (drop i xs)) ≡ cond again (twice_named ((f x).at) ∷ []) [] ++ twice is ys
    step =
        next (λ l. twice was (map f l)) xs i x h e
        ∙ (ap (λ b. cond b (twice_named ((f x).at) ∷ []) [] ++ twice ((f x).text ∷ was) ys) known
        ∙ ap (λ l. cond again (twice_named ((f x).at) ∷ []) [] ++ l) (twice-same ((f x).text ∷ was) is ys grown))

-- after all of them
pub twice-end : {X : Type 0} (f : X → RawName) (others : List (List ℕ)) (xs : List X) (i : ℕ) (fault whole : Option Fault) → length xs ≤ i →
    earlier fault (blame (twice (texts (map f (take i xs)) ++ others) (map f (drop i xs)))) ≡ whole → fault ≡ whole
twice-end f others xs i fault whole h inv =
    sym (earlier-none fault) ∙ (ap (λ l. earlier fault (blame (twice (texts (map f (take i xs)) ++ others) (map f l)))) (sym (drop_all i xs h)) ∙ inv)

pub map-same : {X : Type 0} (xs : List X) → map (λ x. x) xs ≡ xs
map-same [] = refl
map-same (x ∷ xs) = ap (λ l. x ∷ l) (map-same xs)

pub operations-named : (os : List (Bor RawOperation)) → map (λ o. o.now.name) os ≡ operation_names (refs os)
operations-named [] = refl
operations-named (o ∷ os) = ap (λ l. o.now.name ∷ l) (operations-named os)

-- ---- names on the left
pub among-push : (ns : List ℕ) (m n : ℕ) → among (ns ++ m ∷ []) n ≡ among (m ∷ ns) n
among-push [] m n = refl
among-push (k ∷ ns) m n = ap (λ b. nat_eq n k || b) (among-push ns m n) ∙ or-swap (nat_eq n k) (nat_eq n m) (among ns n)

again-same : (ts us : List ℕ) (t : Target) → ((n : ℕ) → among ts n ≡ among us n) → is_again ts t ≡ is_again us t
again-same ts us unknown h = refl
again-same ts us no_variable h = refl
again-same ts us (variable_target n) h = h n

with-same : (ts us : List ℕ) (t : Target) → ((n : ℕ) → among ts n ≡ among us n) → (n : ℕ) → among (with_target t ts) n ≡ among (with_target t us) n
with-same ts us unknown h n = h n
with-same ts us no_variable h n = h n
with-same ts us (variable_target m) h n = ap (λ b. nat_eq n m || b) (h n)

-- only the variables before matter, not their order
pub left-same : (names : Names) (w : ℕ → Bool) (ts us : List ℕ) (xs : List RawName) → ((n : ℕ) → among ts n ≡ among us n) → left_faults names w ts xs ≡ left_faults names w us xs
left-same names w ts us [] h = refl
left-same names w ts us (x ∷ xs) h =
    let t = target names x.text in
    ap (λ b. target_faults w x.at t ++ (cond b (wrong_write x.at ∷ []) [] ++ left_faults names w (with_target t ts) xs)) (again-same ts us t h)
    ∙ ap (λ l. target_faults w x.at t ++ (cond (is_again us t) (wrong_write x.at ∷ []) [] ++ l)) (left-same names w (with_target t ts) (with_target t us) xs (with-same ts us t h))

-- one name more
pub left-next : (names : Names) (w : ℕ → Bool) (old new : List ℕ) (xs : List RawName) (i : ℕ) (x : RawName) (t : Target) (wrong again before now after whole : Option Fault) → i < length xs → x ≡ get_or xs i x → t ≡ target names x.text →
    ((n : ℕ) → among new n ≡ among (with_target t old) n) → wrong ≡ blame (target_faults w x.at t) → again ≡ blame (cond (is_again old t) (wrong_write x.at ∷ []) []) → now ≡ earlier wrong again → after ≡ earlier before now →
    earlier before (blame (left_faults names w old (drop i xs))) ≡ whole → earlier after (blame (left_faults names w new (drop (i + 1) xs))) ≡ whole
left-next names w old new xs i x t wrong again before now after whole h e kind grown a b c d inv =
    told-more (left_faults names w old (drop i xs)) (one ++ other) (left_faults names w new ys) before now after whole step (told-both one other wrong again now a b c) d inv
  where
    ys : List RawName
    ys = drop (i + 1) xs

    one : List Fault
    one = target_faults w x.at t

    other : List Fault
    other = cond (is_again old t) (wrong_write x.at ∷ []) []

    step : left_faults names w old (drop i xs) ≡ (one ++ other) ++ left_faults names w new ys
    step =
        next (left_faults names w old) xs i x h e
        ∙ (ap (λ u. target_faults w x.at u ++ (cond (is_again old u) (wrong_write x.at ∷ []) [] ++ left_faults names w (with_target u old) ys)) (sym kind)
        ∙ (ap (λ l. one ++ (other ++ l)) (sym (left-same names w new (with_target t old) ys grown)) ∙ sym (append_assoc one other (left_faults names w new ys))))

-- outputs, and then inputs
pub header-twice : (xs ys : List RawName) → twice [] xs ++ twice (texts xs) ys ≡ twice [] (xs ++ ys)
header-twice xs ys = sym (twice-join [] xs ys ∙ ap (λ ts. twice [] xs ++ twice ts ys) (append-nil (texts xs)))
