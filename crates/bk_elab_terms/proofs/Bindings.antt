-- Names that binders bind, one after another.
use Rattle.std.proofs.Common.{◌≡◌, ℕ, zero, suc, ◌+◌, ◌-◌, ◌<◌, ◌≤◌, List, [], ◌∷◌, ◌++◌, length, get_or, take, drop, map, refl, sym, ◌∙◌, ap, subst, Bool, true, false, cond, arith}
use Rattle.std.specs.Prelude.{Option, None, Some, ◌||◌, ◌&&◌, is_none}
use Rattle.bk_form.specs.Formula.{Formula}
use Rattle.std.specs.Str.{bytes_eq}
use Rattle.std.proofs.lemmas.List.{take_more, drop_more, map-append, take_at, drop_at}
use Rattle.bk_val.specs.ValueType.{ValueType}
use Rattle.bk_form.specs.Role.{bind}
use Rattle.bk_raw.specs.Meaning.Binders.{Bound, bound_names, is_text, twice, untyped_faults, has_type, or_bool, all_typed, types_of, where_typed, locals, Ranged, unranged, as_bound, range_type}
use Rattle.bk_raw.specs.Meaning.Names.{Names, local}
use Rattle.bk_raw.specs.Meaning.Printed.{printed_bounds, type_read, wrong_number, wrong_bounds}
use Rattle.bk_raw.specs.declared.term.RawBound.{RawBound}
use Rattle.bk_elab_terms.specs.declared.binder.Ranged.{Ranged as RangedName}
use Rattle.bk_raw.specs.Trees.FreeNames.{is_among}
use Rattle.bk_raw.specs.Meaning.Outcome.{Outcome, silent, clean, no_type}
use Rattle.bk_raw.specs.declared.term.RawName.{RawName}
use Rattle.bk_raw.specs.Errors.Blame.{blame, earlier}
use Rattle.bk_elab_terms.specs.declared.sight.Local.{Local}
use Rattle.bk_elab_terms.specs.Sights.{bounds_of, ranges_as, TypesOf}
use Rattle.bk_raw.proofs.Blamed.{blame-joins, earlier-joins}
use Rattle.bk_raw.specs.Errors.Faults.{Fault, twice_named, without_type}
use Rattle.bk_elab_terms.proofs.Twice.{texts_onto}

-- ---- names that stand twice
texts-last : (onto : List (List ℕ)) (xs : List RawName) (i : ℕ) (d : RawName) → i < length xs → texts_onto onto (take (suc i) xs) ≡ (get_or xs i d).text ∷ texts_onto onto (take i xs)
texts-last onto [] i d h = absurd (omega arith)
texts-last onto (x ∷ xs) zero d h = refl
texts-last onto (x ∷ xs) (suc i) d h = texts-last (x.text ∷ onto) xs i d (omega arith)

or-swap : (a b c : Bool) → (a || (b || c)) ≡ (b || (a || c))
or-swap true true c = refl
or-swap true false c = refl
or-swap false b c = refl

or-assoc : (a b c : Bool) → (a || (b || c)) ≡ ((a || b) || c)
or-assoc true b c = refl
or-assoc false b c = refl

or-false : (b : Bool) → (b || false) ≡ b
or-false true = refl
or-false false = refl

texts-among : (onto : List (List ℕ)) (xs : List RawName) (t : List ℕ) → is_text (texts_onto onto xs) t ≡ (is_among t xs || is_text onto t)
texts-among onto [] t = refl
texts-among onto (x ∷ xs) t =
    texts-among (x.text ∷ onto) xs t ∙ (or-swap (is_among t xs) (bytes_eq x.text t) (is_text onto t) ∙ or-assoc (bytes_eq x.text t) (is_among t xs) (is_text onto t))

one-blamed : (b : Bool) (f : Fault) → blame (cond b (f ∷ []) []) ≡ cond b (Some f) None
one-blamed true f = refl
one-blamed false f = refl

-- what is told of the names from the i-th on
pub twice-step : (xs : List RawName) (i : ℕ) (d : RawName) → i < length xs → blame (twice (texts_onto [] (take i xs)) (drop i xs)) ≡
    earlier (cond (is_among (get_or xs i d).text (take i xs)) (Some (twice_named ((get_or xs i d).at))) None) (blame (twice (texts_onto [] (take (i + 1) xs)) (drop (i + 1) xs)))
twice-step xs i d h = go (get_or xs i d) (texts_onto [] (take i xs)) (drop_more xs i d h)
    (ap (λ (n : ℕ). texts_onto [] (take n xs)) (suc-of i) ∙ texts-last [] xs i d h)
    (texts-among [] (take i xs) (get_or xs i d).text ∙ or-false (is_among (get_or xs i d).text (take i xs)))
  where
    suc-of : (n : ℕ) → n + 1 ≡ suc n
    suc-of n = omega arith

    go : (x : RawName) (onto : List (List ℕ)) → drop i xs ≡ x ∷ drop (i + 1) xs → texts_onto [] (take (i + 1) xs) ≡ x.text ∷ onto → is_text onto x.text ≡ is_among x.text (take i xs) →
        blame (twice onto (drop i xs)) ≡ earlier (cond (is_among x.text (take i xs)) (Some (twice_named x.at)) None) (blame (twice (texts_onto [] (take (i + 1) xs)) (drop (i + 1) xs)))
    go x onto next more seen =
        ap (λ (ys : List RawName). blame (twice onto ys)) next
        ∙ (blame-joins (cond (is_text onto x.text) (twice_named x.at ∷ []) []) (twice (x.text ∷ onto) (drop (i + 1) xs))
        ∙ (ap (λ (o : Option Fault). earlier o (blame (twice (x.text ∷ onto) (drop (i + 1) xs)))) (one-blamed (is_text onto x.text) (twice_named x.at))
        ∙ (ap (λ (b : Bool). earlier (cond b (Some (twice_named x.at)) None) (blame (twice (x.text ∷ onto) (drop (i + 1) xs)))) seen
        ∙ ap (λ (ts : List (List ℕ)). earlier (cond (is_among x.text (take i xs)) (Some (twice_named x.at)) None) (blame (twice ts (drop (i + 1) xs)))) (sym more))))

-- what is told of one name more, and what is told so far
pub twice-more : (xs : List RawName) (i : ℕ) (x : RawName) (b : Bool) (before after whole : Option Fault) → i < length xs → x ≡ get_or xs i x → is_among x.text (take i xs) ≡ b →
    earlier before (blame (twice (texts_onto [] (take i xs)) (drop i xs))) ≡ whole → after ≡ earlier before (cond b (Some (twice_named x.at)) None) →
    earlier after (blame (twice (texts_onto [] (take (i + 1) xs)) (drop (i + 1) xs))) ≡ whole
twice-more xs i x b before after whole h g e k f =
    let rest : Option Fault = blame (twice (texts_onto [] (take (i + 1) xs)) (drop (i + 1) xs)) in
    let this : cond (is_among (get_or xs i x).text (take i xs)) (Some (twice_named ((get_or xs i x).at))) None ≡ cond b (Some (twice_named x.at)) None =
    ap (λ (y : RawName). cond (is_among y.text (take i xs)) (Some (twice_named y.at)) None) (sym g) ∙ ap (λ (c : Bool). cond c (Some (twice_named x.at)) None) e in
    ap (λ (o : Option Fault). earlier o rest) f
    ∙ (earlier-joins before (cond b (Some (twice_named x.at)) None) rest
    ∙ (ap (λ (o : Option Fault). earlier before (earlier o rest)) (sym this)
    ∙ (ap (earlier before) (sym (twice-step xs i x h)) ∙ k)))

-- ---- names without types
untyped-one : (o : Option ValueType) (at : ℕ) → blame (cond (has_type o) [] (no_type at)) ≡ cond (has_type o) None (Some (without_type at))
untyped-one None at = refl
untyped-one (Some t) at = refl

pub untyped-step : (b : Bound) (bs : List Bound) → blame (untyped_faults (b ∷ bs)) ≡ earlier (cond (has_type b.of_type) None (Some (without_type b.at))) (blame (untyped_faults bs))
untyped-step b bs = blame-joins (cond (has_type b.of_type) [] (no_type b.at)) (untyped_faults bs) ∙ ap (λ (o : Option Fault). earlier o (blame (untyped_faults bs))) (untyped-one b.of_type b.at)

-- of a type that is missing or not
missing : (o : Option ValueType) (at : ℕ) → ◌≡◌ {A = Option Fault} (cond (has_type o) None (Some (without_type at))) (cond (is_none o) (Some (without_type at)) None)
missing None at = refl
missing (Some t) at = refl

-- what is told of one name more without a type, and what is told so far
untyped-onto : (x : Bound) (xs : List Bound) (b : Bool) (before after whole : Option Fault) → is_none x.of_type ≡ b →
    earlier before (blame (untyped_faults (x ∷ xs))) ≡ whole → after ≡ earlier before (cond b (Some (without_type x.at)) None) → earlier after (blame (untyped_faults xs)) ≡ whole
untyped-onto x xs b before after whole e k f =
    ap (λ (o : Option Fault). earlier o (blame (untyped_faults xs))) f
    ∙ (earlier-joins before (cond b (Some (without_type x.at)) None) (blame (untyped_faults xs))
    ∙ (ap (λ (o : Option Fault). earlier before (earlier o (blame (untyped_faults xs)))) (ap (λ (c : Bool). cond {A = Option Fault} c (Some (without_type x.at)) None) (sym e) ∙ sym (missing x.of_type x.at))
    ∙ (ap (earlier before) (sym (untyped-step x xs)) ∙ k)))

pub untyped-more : (ls : List Local) (i : ℕ) (x : Local) (b : Bool) (before after whole : Option Fault) → i < length ls → x ≡ get_or ls i x → is_none x.ty ≡ b →
    earlier before (blame (untyped_faults (bounds_of (drop i ls)))) ≡ whole → after ≡ earlier before (cond b (Some (without_type x.at)) None) → earlier after (blame (untyped_faults (bounds_of (drop (i + 1) ls)))) ≡ whole
untyped-more ls i x b before after whole h g e k f =
    let next : drop i ls ≡ x ∷ drop (i + 1) ls = drop_more ls i x h ∙ ap (λ (y : Local). y ∷ drop (i + 1) ls) (sym g) in
    untyped-onto (record { text = x.text.now; at = x.at; of_type = x.ty }) (bounds_of (drop (i + 1) ls)) b before after whole e
    (ap (λ (ys : List Local). earlier before (blame (untyped_faults (bounds_of ys)))) (sym next) ∙ k) f

range-missing : (o : Option (Formula × ValueType × ℕ)) → is_none (range_type o) ≡ is_none o
range-missing None = refl
range-missing (Some r) = refl

pub unranged-next : (ls : List RangedName) (i : ℕ) (x : RangedName) (b : Bool) (before after whole : Option Fault) → i < length ls → x ≡ get_or ls i x → is_none x.range ≡ b →
    earlier before (blame (untyped_faults (as_bound (ranges_as (drop i ls))))) ≡ whole → after ≡ earlier before (cond b (Some (without_type x.at)) None) → earlier after (blame (untyped_faults (as_bound (ranges_as (drop (i + 1) ls))))) ≡ whole
unranged-next ls i x b before after whole h g e k f =
    let next : drop i ls ≡ x ∷ drop (i + 1) ls = drop_more ls i x h ∙ ap (λ (y : RangedName). y ∷ drop (i + 1) ls) (sym g) in
    untyped-onto (record { text = x.text.now; at = x.at; of_type = range_type x.range }) (as_bound (ranges_as (drop (i + 1) ls))) b before after whole (range-missing x.range ∙ e)
    (ap (λ (ys : List RangedName). earlier before (blame (untyped_faults (as_bound (ranges_as ys))))) (sym next) ∙ k) f

-- what is told of one more printed bound variable
pub wrong-next : (xs : List RawBound) (s i : ℕ) (x : RawBound) (before after wrong whole : Option Fault) → i < length xs → x ≡ get_or xs i x → wrong ≡ blame (wrong_number x.at x.number (suc (s + i))) → after ≡ earlier before wrong →
    earlier before (blame (wrong_bounds (suc (s + i)) (drop i xs))) ≡ whole → earlier after (blame (wrong_bounds (suc (s + (i + 1))) (drop (i + 1) xs))) ≡ whole
wrong-next xs s i x before after wrong whole h g e f k =
    let next : drop i xs ≡ x ∷ drop (i + 1) xs = drop_more xs i x h ∙ ap (λ (y : RawBound). y ∷ drop (i + 1) xs) (sym g) in
    let more : suc (s + (i + 1)) ≡ suc (suc (s + i)) = omega arith in
    (λ j. earlier (f j) (blame (wrong_bounds (more j) (drop (i + 1) xs))))
    ∙ (earlier-joins before wrong (blame (wrong_bounds (suc (suc (s + i))) (drop (i + 1) xs)))
    ∙ (ap (λ (o : Option Fault). earlier before (earlier o (blame (wrong_bounds (suc (suc (s + i))) (drop (i + 1) xs))))) e
    ∙ (ap (earlier before) (sym (blame-joins (wrong_number x.at x.number (suc (s + i))) (wrong_bounds (suc (suc (s + i))) (drop (i + 1) xs))))
    ∙ (ap (λ (ys : List RawBound). earlier before (blame (wrong_bounds (suc (s + i)) ys))) (sym next) ∙ k))))

-- ---- names that go behind others
-- one more at the end
pub bounds-more : (ls : List Local) (l : Local) → bounds_of (ls ++ l ∷ []) ≡ bounds_of ls ++ record { text = l.text.now; at = l.at; of_type = l.ty } ∷ []
bounds-more ls l = map-append (λ (x : Local). record { text = x.text.now; at = x.at; of_type = x.ty }) ls (l ∷ [])

pub names-more : (xs : List RawName) (i : ℕ) (d : RawName) → i < length xs → bound_names (take (i + 1) xs) ≡ bound_names (take i xs) ++ record { text = (get_or xs i d).text; at = (get_or xs i d).at; of_type = None } ∷ []
names-more xs i d h = ap bound_names (take_more xs i d h) ∙ joined (take i xs) (get_or xs i d)
  where
    joined : (ys : List RawName) (y : RawName) → bound_names (ys ++ y ∷ []) ≡ bound_names ys ++ record { text = y.text; at = y.at; of_type = None } ∷ []
    joined [] y = refl
    joined (z ∷ zs) y = ap (λ (bs : List Bound). record { text = z.text; at = z.at; of_type = None } ∷ bs) (joined zs y)

pub printed-more : (names : Names) (xs : List RawBound) (i : ℕ) (d : RawBound) → i < length xs → printed_bounds names (take (i + 1) xs) ≡ printed_bounds names (take i xs) ++ record { text = []; at = (get_or xs i d).at; of_type = type_read names (get_or xs i d).ty } ∷ []
printed-more names xs i d h = ap (printed_bounds names) (take_more xs i d h) ∙ joined (take i xs) (get_or xs i d)
  where
    joined : (ys : List RawBound) (y : RawBound) → printed_bounds names (ys ++ y ∷ []) ≡ printed_bounds names ys ++ record { text = []; at = y.at; of_type = type_read names y.ty } ∷ []
    joined [] y = refl
    joined (z ∷ zs) y = ap (λ (bs : List Bound). record { text = []; at = z.at; of_type = type_read names z.ty } ∷ bs) (joined zs y)

pub ranged-more : (xs : List RangedName) (i : ℕ) (d : RangedName) → i < length xs → as_bound (ranges_as (take (i + 1) xs)) ≡ as_bound (ranges_as (take i xs)) ++ record { text = (get_or xs i d).text.now; at = (get_or xs i d).at; of_type = range_type (get_or xs i d).range } ∷ []
ranged-more xs i d h = ap (λ (ys : List RangedName). as_bound (ranges_as ys)) (take_more xs i d h) ∙ joined (take i xs) (get_or xs i d)
  where
    joined : (ys : List RangedName) (y : RangedName) → as_bound (ranges_as (ys ++ y ∷ [])) ≡ as_bound (ranges_as ys) ++ record { text = y.text.now; at = y.at; of_type = range_type y.range } ∷ []
    joined [] y = refl
    joined (z ∷ zs) y = ap (λ (bs : List Bound). record { text = z.text.now; at = z.at; of_type = range_type z.range } ∷ bs) (joined zs y)

pub unranged-more : (xs : List RawName) (i : ℕ) (d : RawName) → i < length xs → unranged (take (i + 1) xs) ≡ unranged (take i xs) ++ record { text = (get_or xs i d).text; at = (get_or xs i d).at; range = None } ∷ []
unranged-more xs i d h = ap unranged (take_more xs i d h) ∙ joined (take i xs) (get_or xs i d)
  where
    joined : (ys : List RawName) (y : RawName) → unranged (ys ++ y ∷ []) ≡ unranged ys ++ record { text = y.text; at = y.at; range = None } ∷ []
    joined [] y = refl
    joined (z ∷ zs) y = ap (λ (bs : List Ranged). record { text = z.text; at = z.at; range = None } ∷ bs) (joined zs y)

pub ranges-more : (ls : List RangedName) (l : RangedName) → ranges_as (ls ++ l ∷ []) ≡ ranges_as ls ++ record { text = l.text.now; at = l.at; range = l.range } ∷ []
ranges-more ls l = map-append (λ (x : RangedName). record { text = x.text.now; at = x.at; range = x.range }) ls (l ∷ [])

-- all that are added stand in front of those around
names-joined : (bs : List Bound) (ls : List Local) (around : Names) → bind (locals (bs ++ bounds_of ls)) around ≡ bind (locals (bounds_of ls)) (bind (locals bs) around)
names-joined [] ls around = refl
names-joined (b ∷ bs) ls around = names-joined bs ls (record { text = b.text; meaning = local b.of_type } ∷ around)

pub locals-joined : (xs ys : List Local) (around : Names) → bind (locals (bounds_of (xs ++ ys))) around ≡ bind (locals (bounds_of ys)) (bind (locals (bounds_of xs)) around)
locals-joined xs ys around =
    ap (λ (bs : List Bound). bind (locals bs) around) (map-append (λ (x : Local). record { text = x.text.now; at = x.at; of_type = x.ty }) xs ys) ∙ names-joined (bounds_of xs) ys around

pub taken : (xs ys : List Local) → take (length xs) (xs ++ ys) ≡ xs
taken xs ys = take_at xs ys (length xs) refl

pub dropped : (xs ys : List Local) → drop (length xs) (xs ++ ys) ≡ ys
dropped xs ys = drop_at xs ys (length xs) refl

-- ---- the types of names
typed-not : (ls : List Local) (i : ℕ) (d : Local) → i < length ls → (get_or ls i d).ty ≡ None → all_typed (bounds_of ls) ≡ false
typed-not [] i d h e = absurd (omega arith)
typed-not (l ∷ ls) zero d h e = ap (λ (o : Option ValueType). has_type o && all_typed (bounds_of ls)) e
typed-not (l ∷ ls) (suc i) d h e = by (has_type l.ty) (typed-not ls i d (omega arith) e)
  where
    by : (b : Bool) → all_typed (bounds_of ls) ≡ false → (b && all_typed (bounds_of ls)) ≡ false
    by true g = g
    by false g = refl

-- where one has none, not all have one
pub types-lack : (ls : List Local) (i : ℕ) (d : Local) → i < length ls → (get_or ls i d).ty ≡ None → TypesOf None (bounds_of ls)
types-lack ls i d h e = typed-not ls i d h e

typed-join : (ls : List Local) (l : Local) (t : ValueType) → all_typed (bounds_of ls) ≡ true → l.ty ≡ Some t → all_typed (bounds_of (ls ++ l ∷ [])) ≡ true
typed-join [] l t e k = ap (λ (o : Option ValueType). has_type o && true) k
typed-join (x ∷ ls) l t e k = by (has_type x.ty) e (λ q. typed-join ls l t q k)
  where
    by : (b : Bool) → (b && all_typed (bounds_of ls)) ≡ true → (all_typed (bounds_of ls) ≡ true → all_typed (bounds_of (ls ++ l ∷ [])) ≡ true) → (b && all_typed (bounds_of (ls ++ l ∷ []))) ≡ true
    by true q g = g q
    by false q g = q

types-join : (ls : List Local) (l : Local) (t : ValueType) → l.ty ≡ Some t → types_of (bounds_of (ls ++ l ∷ [])) ≡ types_of (bounds_of ls) ++ t ∷ []
types-join [] l t k = ap (λ (o : Option ValueType). or_bool o ∷ []) k
types-join (x ∷ ls) l t k = ap (λ (ts : List ValueType). or_bool x.ty ∷ ts) (types-join ls l t k)

-- the types of one name more
pub types-next : (ts : List ValueType) (ls : List Local) (i : ℕ) (d : Local) (t : ValueType) → i < length ls → (get_or ls i d).ty ≡ Some t → TypesOf (Some ts) (bounds_of (take i ls)) → TypesOf (Some (ts ++ t ∷ [])) (bounds_of (take (i + 1) ls))
types-next ts ls i d t h e k =
    subst (λ (ys : List Local). TypesOf (Some (ts ++ t ∷ [])) (bounds_of ys)) (sym (take_more ls i d h))
    (typed-join (take i ls) (get_or ls i d) t k.0 e, ap (λ (us : List ValueType). us ++ t ∷ []) k.1 ∙ sym (types-join (take i ls) (get_or ls i d) t e))

pub ruleset bindings = (twice-step, untyped-step, bounds-more, names-more, printed-more, ranged-more, unranged-more, ranges-more, locals-joined, taken, dropped, types-lack, types-next)

-- ---- what is told where a binder has a fault
pub clean-faulty : (fs : List Fault) (f : Fault) (o : Outcome) → blame fs ≡ Some f → clean fs o ≡ silent
clean-faulty [] f o e = let no : None ≡ Some f = e in cc
clean-faulty (g ∷ fs) f o e = refl

pub clean-none : (fs : List Fault) (o : Outcome) → blame fs ≡ None → clean fs o ≡ o
clean-none [] o e = refl
clean-none (g ∷ fs) o e = cc

pub clean-silent : (fs : List Fault) → clean fs silent ≡ silent
clean-silent [] = refl
clean-silent (f ∷ fs) = refl

pub typed-silent : (b : Bool) → where_typed b silent ≡ silent
typed-silent true = refl
typed-silent false = refl

pub ruleset cleans = (clean-faulty, clean-none, clean-silent, typed-silent)
