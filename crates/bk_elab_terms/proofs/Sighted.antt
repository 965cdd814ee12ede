-- What is found among bound names and among the names around them, one by one.
use Rattle.std.proofs.Common.{◌≡◌, ℕ, zero, suc, ◌+◌, ◌-◌, ◌<◌, ◌≤◌, List, [], ◌∷◌, ◌++◌, length, get_or, take, drop, refl, sym, ◌∙◌, ap, subst, Bool, true, false, cond, arith}
use Rattle.std.specs.Prelude.{Option, None, Some, slice_get, ◌||◌, ◌&&◌, nat_le}
use Rattle.std.proofs.lemmas.Bool.Decides.{nat_tests}
use Rattle.std.proofs.lemmas.List.{take_all, drop_more}
use Rattle.std.proofs.lemmas.Option.{same_Some, slice_get-get_or}
use Rattle.std.proofs.lemmas.Slice.Eq.{bytes_eq-Decides}
use Rattle.std.specs.Option.{option_map}
use Rattle.std.specs.Str.{bytes_eq}
use Rattle.bk_val.specs.ValueType.{ValueType, enum_type, set_type}
use Rattle.bk_form.specs.Formula.{Formula, element, named, bound}
use Rattle.bk_form.specs.declared.operator.Domain.TheVariants.{Enum}
use Rattle.bk_form.specs.Role.{bind}
use Rattle.bk_form.specs.Table.{Table, SetEntry, set_elements, variable_type}
use Rattle.bk_raw.specs.Meaning.Names.{Names, Meaning, local, global, set_name, element_name, nothing, Sight, unseen, seen, sight, behind, found, local_at, count_locals, pick, local_sight, untyped_name, bound_sight}
use Rattle.bk_raw.specs.Meaning.Binders.{locals}
use Rattle.bk_raw.specs.Meaning.ScopeReading.{ScopeNames, element_names, set_names, variable_meaning, scope_names, names_in, last_from}
use Rattle.bk_elab_terms.specs.declared.sight.Local.{Local}
use Rattle.bk_elab_terms.specs.declared.sight.Outer.{Outer}
use Rattle.bk_elab_terms.specs.declared.sight.Outer.TheVariants.{OverTable, InSight}
use Rattle.bk_elab_terms.specs.declared.sight.Reader.{Reader}
use Rattle.bk_elab_terms.specs.declared.sight.Standing.{Standing}
use Rattle.bk_elab_terms.specs.declared.sight.Standing.TheVariants.{Variable, Set, Element}
use Rattle.bk_elab_terms.specs.declared.sight.Visible.{Visible}
use Rattle.bk_elab_terms.specs.Visible.{typed_meaning, seen_names}
use Rattle.bk_elab_terms.specs.Sights.{bounds_of, names_of, outer_around, outer_names, among, set_in_front, seen_or, IsFirstAt}
use Rattle.bk_elab_terms.specs.declared.sight.Seen.{Seen}
use Rattle.bk_elab_terms.proofs.Seen.{seen_last}

-- ---- names that no binder around binds
abbrev IsOuter : Meaning → Type 0
IsOuter (local t) = ⊥
IsOuter _ = Unit {0}

abbrev pub AreOuter : Names → Type 0
AreOuter [] = Unit {0}
AreOuter (n ∷ ns) = IsOuter n.meaning × AreOuter ns

outer-behind : (m : Meaning) (i : ℕ) → IsOuter m → behind i m ≡ i
outer-behind (local t) i h = absurd h
outer-behind (global n t) i h = refl
outer-behind (set_name s) i h = refl
outer-behind (element_name s e) i h = refl
outer-behind nothing i h = refl

outer-sight : (m : Meaning) (i : ℕ) → IsOuter m → sight i m ≡ sight 0 m
outer-sight (local t) i h = absurd h
outer-sight (global n None) i h = refl
outer-sight (global n (Some t)) i h = refl
outer-sight (set_name s) i h = refl
outer-sight (element_name s e) i h = refl
outer-sight nothing i h = refl

-- the numbers of bound names before them do not matter
pub outer-found : (ns : Names) (i : ℕ) (text : List ℕ) → AreOuter ns → found i ns text ≡ found 0 ns text
outer-found [] i text h = refl
outer-found (n ∷ ns) i text h =
    ap (λ (s : Sight). cond (bytes_eq n.text text) s (found (behind i n.meaning) ns text)) (outer-sight n.meaning i h.0)
    ∙ ap (λ (s : Sight). cond (bytes_eq n.text text) (sight 0 n.meaning) s)
    ((ap (λ (j : ℕ). found j ns text) (outer-behind n.meaning i h.0) ∙ outer-found ns i text h.1) ∙ sym (ap (λ (j : ℕ). found j ns text) (outer-behind n.meaning 0 h.0)))

outer-pick : (m : Meaning) (i : ℕ) (rest : ℕ → Option (Option ValueType)) → IsOuter m → pick m i rest ≡ rest i
outer-pick (local t) i rest h = absurd h
outer-pick (global n t) i rest h = refl
outer-pick (set_name s) i rest h = refl
outer-pick (element_name s e) i rest h = refl
outer-pick nothing i rest h = refl

-- no bound name is among them
outer-local : (ns : Names) (i : ℕ) → AreOuter ns → local_at ns i ≡ None
outer-local [] i h = refl
outer-local (n ∷ ns) i h = outer-pick n.meaning i (local_at ns) h.0 ∙ outer-local ns i h.1

outer-count : (ns : Names) → AreOuter ns → count_locals ns ≡ 0
outer-count [] h = refl
outer-count (n ∷ ns) h = outer-behind n.meaning (count_locals ns) h.0 ∙ outer-count ns h.1

elements-outer : (s i : ℕ) (xs : List (List ℕ)) (rest : Names) → AreOuter rest → AreOuter (element_names s i xs ++ rest)
elements-outer s i [] rest h = h
elements-outer s i (x ∷ xs) rest h = (tt, elements-outer s (suc i) xs rest h)

sets-outer : (s : ℕ) (es : List SetEntry) → AreOuter (set_names s es)
sets-outer s [] = tt
sets-outer s (e ∷ es) = (tt, elements-outer s 0 e.elements (set_names (suc s) es) (sets-outer (suc s) es))

variable-outer : (n : ℕ) (o : Option ValueType) → IsOuter (variable_meaning n o)
variable-outer n None = tt
variable-outer n (Some t) = tt

scope-outer : (table : Table) (ps : List (List ℕ × ℕ)) (around : Names) → AreOuter around → AreOuter (scope_names table ps around)
scope-outer table [] around h = h
scope-outer table (p ∷ ps) around h =
    scope-outer table ps (record { text = p.0; meaning = variable_meaning p.1 (variable_type table p.1) } ∷ around) (variable-outer p.1 (variable_type table p.1), h)

pub names-outer : (table : Table) (scope : ScopeNames) → AreOuter (names_in table scope)
names-outer table scope = scope-outer table scope.names (set_names 0 table.sets) (sets-outer 0 table.sets)

typed-outer : (ts : List (Option ValueType)) (m : Standing) → IsOuter (typed_meaning ts m)
typed-outer ts (Variable n) = tt
typed-outer ts (Set s) = tt
typed-outer ts (Element s i) = tt

pub seen-outer : (ts : List (Option ValueType)) (vs : List Visible) → AreOuter (seen_names ts vs)
seen-outer ts [] = tt
seen-outer ts (v ∷ vs) = (typed-outer ts v.meaning, seen-outer ts vs)

pub around-outer : (o : Outer) → AreOuter (outer_around o).names
around-outer (OverTable s t) = names-outer t.now s.now
around-outer (InSight m ns ts) = seen-outer ts.now ns.now

-- ---- names in sight, one by one
-- the next has the text
pub visible-here : (ts : List (Option ValueType)) (vs : List Visible) (i : ℕ) (d : Visible) (text : List ℕ) → i < length vs → bytes_eq (get_or vs i d).text.now text ≡ true →
    found 0 (seen_names ts (drop i vs)) text ≡ sight 0 (typed_meaning ts (get_or vs i d).meaning)
visible-here ts vs i d text h same =
    let x = get_or vs i d in
    ap (λ (ws : List Visible). found 0 (seen_names ts ws) text) (drop_more vs i d h)
    ∙ ap (λ (b : Bool). cond b (sight 0 (typed_meaning ts x.meaning)) (found (behind 0 (typed_meaning ts x.meaning)) (seen_names ts (drop (i + 1) vs)) text)) same

-- the next has another
pub visible-past : (ts : List (Option ValueType)) (vs : List Visible) (i : ℕ) (d : Visible) (text : List ℕ) → i < length vs → bytes_eq (get_or vs i d).text.now text ≡ false →
    found 0 (seen_names ts (drop i vs)) text ≡ found 0 (seen_names ts (drop (i + 1) vs)) text
visible-past ts vs i d text h other =
    let x = get_or vs i d in
    ap (λ (ws : List Visible). found 0 (seen_names ts ws) text) (drop_more vs i d h)
    ∙ (ap (λ (b : Bool). cond b (sight 0 (typed_meaning ts x.meaning)) (found (behind 0 (typed_meaning ts x.meaning)) (seen_names ts (drop (i + 1) vs)) text)) other
    ∙ ap (λ (j : ℕ). found j (seen_names ts (drop (i + 1) vs)) text) (outer-behind (typed_meaning ts x.meaning) 0 (typed-outer ts x.meaning)))

pub ruleset visibles = (visible-here, visible-past)

-- ---- bound names in front of others
-- the names with which a binder's names stand in front
abbrev pub before : List Local → Names → Names
before ls outer = bind (locals (bounds_of ls)) outer

-- the innermost of the first k + 1 is looked at first
found-last : (ls : List Local) (outer : Names) (text : List ℕ) (n k : ℕ) (d : Local) → k < length ls →
    found n (before (take (suc k) ls) outer) text ≡ cond (bytes_eq (get_or ls k d).text.now text) (sight n (local (get_or ls k d).ty)) (found (suc n) (before (take k ls) outer) text)
found-last [] outer text n k d h = absurd (omega arith)
found-last (l ∷ ls) outer text n zero d h = refl
found-last (l ∷ ls) outer text n (suc k) d h = found-last ls (record { text = l.text.now; meaning = local l.ty } ∷ outer) text n k d (omega arith)

-- the same at a place counted from the end
pub found-next : (ls : List Local) (outer : Names) (text : List ℕ) (n : ℕ) (d : Local) → n < length ls →
    found n (before (take (length ls - n) ls) outer) text ≡ cond (bytes_eq (get_or ls (length ls - 1 - n) d).text.now text) (sight n (local (get_or ls (length ls - 1 - n) d).ty)) (found (n + 1) (before (take (length ls - (n + 1)) ls) outer) text)
found-next ls outer text n d h = go (length ls - 1 - n) (omega arith) (omega arith) (omega arith)
  where
    go : (k : ℕ) → length ls - n ≡ suc k → length ls - (n + 1) ≡ k → k < length ls →
        found n (before (take (length ls - n) ls) outer) text ≡ cond (bytes_eq (get_or ls k d).text.now text) (sight n (local (get_or ls k d).ty)) (found (n + 1) (before (take (length ls - (n + 1)) ls) outer) text)
    go k more less l =
        let one : n + 1 ≡ suc n = omega arith in
        ap (λ (m : ℕ). found n (before (take m ls) outer) text) more
        ∙ (found-last ls outer text n k d l
        ∙ ap (λ (s : Sight). cond (bytes_eq (get_or ls k d).text.now text) (sight n (local (get_or ls k d).ty)) s)
        (ap (λ (m : ℕ). found m (before (take k ls) outer) text) (sym one) ∙ ap (λ (m : ℕ). found (n + 1) (before (take m ls) outer) text) (sym less)))

zero-plus : (n : ℕ) → 0 + n ≡ n
zero-plus n = omega arith

local-past : (ls : List Local) (outer : Names) (i : ℕ) → local_at (before ls outer) (length ls + i) ≡ local_at outer i
local-past [] outer i = ap (local_at outer) (zero-plus i)
local-past (l ∷ ls) outer i =
    let e : length (l ∷ ls) + i ≡ length ls + suc i = omega arith in
    ap (local_at (before ls (record { text = l.text.now; meaning = local l.ty } ∷ outer))) e ∙ local-past ls (record { text = l.text.now; meaning = local l.ty } ∷ outer) (suc i)

-- none is bound with a number past those that are
pub local-beyond : (ls : List Local) (outer : Names) (i : ℕ) → AreOuter outer → length ls ≤ i → local_at (before ls outer) i ≡ None
local-beyond ls outer i h k =
    let e : i ≡ length ls + (i - length ls) = omega arith in
    ap (local_at (before ls outer)) e ∙ (local-past ls outer (i - length ls) ∙ outer-local outer (i - length ls) h)

local-in : (ls : List Local) (outer : Names) (k i : ℕ) (d : Local) → k + suc i ≡ length ls → local_at (before ls outer) i ≡ Some (get_or ls k d).ty
local-in [] outer k i d h = absurd (omega arith)
local-in (l ∷ ls) outer zero i d h =
    let e : i ≡ length ls + 0 = omega arith in
    ap (local_at (before ls (record { text = l.text.now; meaning = local l.ty } ∷ outer))) e ∙ local-past ls (record { text = l.text.now; meaning = local l.ty } ∷ outer) 0
local-in (l ∷ ls) outer (suc k) i d h = local-in ls (record { text = l.text.now; meaning = local l.ty } ∷ outer) k i d (omega arith)

-- the one with this number, counted outward
pub local-within : (ls : List Local) (outer : Names) (i : ℕ) (d : Local) → i < length ls → local_at (before ls outer) i ≡ Some (get_or ls (length ls - 1 - i) d).ty
local-within ls outer i d h = local-in ls outer (length ls - 1 - i) i d (omega arith)

count-before : (ls : List Local) (outer : Names) → count_locals (before ls outer) ≡ length ls + count_locals outer
count-before [] outer = sym (zero-plus (count_locals outer))
count-before (l ∷ ls) outer =
    let more : count_locals (before ls (record { text = l.text.now; meaning = local l.ty } ∷ outer)) ≡ length ls + suc (count_locals outer) = count-before ls (record { text = l.text.now; meaning = local l.ty } ∷ outer) in
    let e : length ls + suc (count_locals outer) ≡ length (l ∷ ls) + count_locals outer = omega arith in
    more ∙ e

-- as many as there are
pub counted : (ls : List Local) (outer : Names) → AreOuter outer → count_locals (before ls outer) ≡ length ls
counted ls outer h =
    let none : count_locals outer ≡ 0 = outer-count outer h in
    let all : count_locals (before ls outer) ≡ length ls + count_locals outer = count-before ls outer in
    omega arith

-- ---- elements of sets
pub elements-lack : (s i : ℕ) (xs : List (List ℕ)) (rest : Names) (text : List ℕ) → among text xs ≡ false → found 0 (element_names s i xs ++ rest) text ≡ found 0 rest text
elements-lack s i [] rest text h = refl
elements-lack s i (x ∷ xs) rest text h = by (bytes_eq x text) h (λ e. elements-lack s (suc i) xs rest text e)
  where
    by : (b : Bool) → (b || among text xs) ≡ false → (among text xs ≡ false → found 0 (element_names s (suc i) xs ++ rest) text ≡ found 0 rest text) → cond b (seen (element s i) (enum_type s)) (found 0 (element_names s (suc i) xs ++ rest) text) ≡ found 0 rest text
    by true e k = let no : true ≡ false = e in cc
    by false e k = k e

pub elements-have : (s i k : ℕ) (xs : List (List ℕ)) (rest : Names) (text : List ℕ) → slice_get xs k ≡ Some text → among text (take k xs) ≡ false → bytes_eq text text ≡ true →
    found 0 (element_names s i xs ++ rest) text ≡ seen (element s (i + k)) (enum_type s)
elements-have s i k [] rest text h a t = let no : None ≡ Some text = h in cc
elements-have s i zero (x ∷ xs) rest text h a t =
    let same : x ≡ text = let e : Some x ≡ Some text = h in cc in
    let e : i ≡ i + zero = omega arith in
    ap (λ (y : List ℕ). cond (bytes_eq y text) (seen (element s i) (enum_type s)) (found 0 (element_names s (suc i) xs ++ rest) text)) same
    ∙ (ap (λ (b : Bool). cond b (seen (element s i) (enum_type s)) (found 0 (element_names s (suc i) xs ++ rest) text)) t
    ∙ ap (λ (j : ℕ). seen (element s j) (enum_type s)) e)
elements-have s i (suc k) (x ∷ xs) rest text h a t = by (bytes_eq x text) a (λ e. elements-have s (suc i) k xs rest text h e t)
  where
    by : (b : Bool) → (b || among text (take k xs)) ≡ false → (among text (take k xs) ≡ false → found 0 (element_names s (suc i) xs ++ rest) text ≡ seen (element s (suc i + k)) (enum_type s)) → cond b (seen (element s i) (enum_type s)) (found 0 (element_names s (suc i) xs ++ rest) text) ≡ seen (element s (i + suc k)) (enum_type s)
    by true e g = let no : true ≡ false = e in cc
    by false e g =
        let more : suc i + k ≡ i + suc k = omega arith in
        g e ∙ ap (λ (j : ℕ). seen (element s j) (enum_type s)) more

-- none of one name more has the text
pub among-more : (text : List ℕ) (xs : List (List ℕ)) (n : ℕ) (d : List ℕ) → n < length xs → among text (take n xs) ≡ false → bytes_eq (get_or xs n d) text ≡ false → among text (take (n + 1) xs) ≡ false
among-more text xs n d h e g =
    let one : n + 1 ≡ suc n = omega arith in
    ap (λ (m : ℕ). among text (take m xs)) one ∙ go xs n h e g
  where
    either : (a b c : Bool) → (a || b) ≡ false → (b ≡ false → c ≡ false) → (a || c) ≡ false
    either true b c p k = p
    either false b c p k = k p

    go : (xs : List (List ℕ)) (n : ℕ) → n < length xs → among text (take n xs) ≡ false → bytes_eq (get_or xs n d) text ≡ false → among text (take (suc n) xs) ≡ false
    go [] n h e g = absurd (omega arith)
    go (x ∷ xs) zero h e g = either (bytes_eq x text) false false (ap (λ (b : Bool). b || false) g) (λ k. k)
    go (x ∷ xs) (suc n) h e g = either (bytes_eq x text) (among text (take n xs)) (among text (take (suc n) xs)) e (λ k. go xs n (omega arith) k g)

pub among-none : (text : List ℕ) (xs : List (List ℕ)) (n : ℕ) → length xs ≤ n → among text (take n xs) ≡ false → among text xs ≡ false
among-none text xs n h e = ap (among text) (sym (take_all n xs h)) ∙ e

-- the first one that has it
pub first-at : (text : List ℕ) (xs names : List (List ℕ)) (n : ℕ) (d : List ℕ) → Some xs ≡ Some names → n < length xs → among text (take n xs) ≡ false → bytes_eq (get_or xs n d) text ≡ true → IsFirstAt text names n
first-at text xs names n d k h e g =
    let same : xs ≡ names = same_Some xs names k in
    subst (λ (ys : List (List ℕ)). IsFirstAt text ys n) same (slice_get-get_or xs n d h ∙ ap Some ((bytes_eq-Decides (get_or xs n d) text).0 g), e)

-- the sets from the s-th on, where the s-th one is this
pub set-step : (sets : List SetEntry) (s : ℕ) (e : SetEntry) → slice_get sets s ≡ Some e → set_names s (drop s sets) ≡ set_in_front s e (set_names (s + 1) (drop (s + 1) sets))
set-step sets s e h = go sets s s h
  where
    go : (xs : List SetEntry) (k n : ℕ) → slice_get xs k ≡ Some e → set_names n (drop k xs) ≡ set_in_front n e (set_names (n + 1) (drop (k + 1) xs))
    go [] k n g = let no : None ≡ Some e = g in cc
    go (x ∷ xs) zero n g =
        let same : x ≡ e = let k : Some x ≡ Some e = g in cc in
        let one : suc n ≡ n + 1 = omega arith in
        ap (λ (y : SetEntry). set_in_front n y (set_names (suc n) xs)) same ∙ ap (λ (m : ℕ). set_in_front n e (set_names m xs)) one
    go (x ∷ xs) (suc k) n g =
        let more : suc (k + 1) ≡ suc k + 1 = omega arith in
        go xs k n g ∙ ap (λ (m : ℕ). set_in_front n e (set_names (n + 1) (drop m (x ∷ xs)))) more

-- the element of a set that has the text
pub element-found : (table : Table) (s k : ℕ) (e : SetEntry) (rest : Names) (text : List ℕ) (f : Formula) (t : ValueType) → slice_get table.sets s ≡ Some e → bytes_eq e.name text ≡ false →
    ((names : List (List ℕ)) → set_elements table s ≡ Some names → IsFirstAt text names k) → f ≡ element s k → t ≡ enum_type s → found 0 (set_in_front s e rest) text ≡ seen f t
element-found table s k e rest text f t h other first g u =
    let here : IsFirstAt text e.elements k = first e.elements (ap (option_map (λ (x : SetEntry). x.elements)) h) in
    let none : 0 + k ≡ k = omega arith in
    ap (λ (b : Bool). cond b (seen (named (Enum s)) (set_type (enum_type s))) (found 0 (element_names s 0 e.elements ++ rest) text)) other
    ∙ (elements-have s 0 k e.elements rest text here.0 here.1 ((bytes_eq-Decides text text).1 refl)
    ∙ ((λ i. seen (element s (none i)) (enum_type s)) ∙ (λ i. seen (sym g i) (sym u i))))

entry-at : (xs : List SetEntry) (k : ℕ) → k < length xs → (e : SetEntry) × (slice_get xs k ≡ Some e)
entry-at [] k h = absurd (omega arith)
entry-at (x ∷ xs) zero h = (x, refl)
entry-at (x ∷ xs) (suc k) h = entry-at xs k (omega arith)

-- what the s-th set and its elements are, or what those behind them are
pub set-found : (sets : List SetEntry) (s : ℕ) (text : List ℕ) (f : Option Seen) → s < length sets → ((e : SetEntry) (rest : Names) → slice_get sets s ≡ Some e → found 0 (set_in_front s e rest) text ≡ seen_or f (found 0 rest text)) →
    found 0 (set_names s (drop s sets)) text ≡ seen_or f (found 0 (set_names (s + 1) (drop (s + 1) sets)) text)
set-found sets s text f h g =
    let there = entry-at sets s h in
    ap (λ (ns : Names). found 0 ns text) (set-step sets s there.0 there.1) ∙ g there.0 (set_names (s + 1) (drop (s + 1) sets)) there.1

-- ---- what a reader finds
local-is : (i : ℕ) (o : Option ValueType) → sight i (local o) ≡ local_sight i (Some o)
local-is i None = refl
local-is i (Some t) = refl

pub found-here : (r : Reader) (text : List ℕ) (n : ℕ) (d : Local) → n < length r.locals.items → bytes_eq (get_or r.locals.items (length r.locals.items - 1 - n) d).text.now text ≡ true →
    found n (before (take (length r.locals.items - n) r.locals.items) (outer_names r)) text ≡ local_sight n (local_at (names_of r) n)
found-here r text n d h e =
    here r.locals.items (outer_names r) h e
  where
    here : (ls : List Local) (outer : Names) → n < length ls → bytes_eq (get_or ls (length ls - 1 - n) d).text.now text ≡ true → found n (before (take (length ls - n) ls) outer) text ≡ local_sight n (local_at (before ls outer) n)
    here ls outer l g =
        found-next ls outer text n d l
        ∙ (ap (λ (b : Bool). cond b (sight n (local (get_or ls (length ls - 1 - n) d).ty)) (found (n + 1) (before (take (length ls - (n + 1)) ls) outer) text)) g
        ∙ (local-is n (get_or ls (length ls - 1 - n) d).ty ∙ ap (local_sight n) (sym (local-within ls outer n d l))))

pub found-not : (r : Reader) (text : List ℕ) (n : ℕ) (d : Local) → n < length r.locals.items → bytes_eq (get_or r.locals.items (length r.locals.items - 1 - n) d).text.now text ≡ false →
    found n (before (take (length r.locals.items - n) r.locals.items) (outer_names r)) text ≡ found (n + 1) (before (take (length r.locals.items - (n + 1)) r.locals.items) (outer_names r)) text
found-not r text n d h e =
    past r.locals.items (outer_names r) h e
  where
    past : (ls : List Local) (outer : Names) → n < length ls → bytes_eq (get_or ls (length ls - 1 - n) d).text.now text ≡ false → found n (before (take (length ls - n) ls) outer) text ≡ found (n + 1) (before (take (length ls - (n + 1)) ls) outer) text
    past ls outer l g =
        found-next ls outer text n d l
        ∙ ap (λ (b : Bool). cond b (sight n (local (get_or ls (length ls - 1 - n) d).ty)) (found (n + 1) (before (take (length ls - (n + 1)) ls) outer) text)) g

pub found-end : (r : Reader) (text : List ℕ) (n : ℕ) → length r.locals.items ≤ n → found n (before (take (length r.locals.items - n) r.locals.items) (outer_names r)) text ≡ found 0 (outer_names r) text
found-end r text n h =
    let none : length r.locals.items - n ≡ 0 = omega arith in
    ap (λ (m : ℕ). found n (before (take m r.locals.items) (outer_names r)) text) none
    ∙ outer-found (outer_names r) n text (around-outer r.scope)

pub found-start : (r : Reader) (text : List ℕ) → found 0 (before (take (length r.locals.items - 0) r.locals.items) (outer_names r)) text ≡ found 0 (names_of r) text
found-start r text = ap (λ (ls : List Local). found 0 (before ls (outer_names r)) text) (take_all (length r.locals.items - 0) r.locals.items (omega arith))

pub local-none : (r : Reader) (n : ℕ) → length r.locals.items ≤ n → local_sight n (local_at (names_of r) n) ≡ unseen
local-none r n h = ap (local_sight n) (local-beyond r.locals.items (outer_names r) n (around-outer r.scope) h)

pub local-untyped : (r : Reader) (n : ℕ) (d : Local) → n < length r.locals.items → (get_or r.locals.items (length r.locals.items - 1 - n) d).ty ≡ None → local_sight n (local_at (names_of r) n) ≡ untyped_name
local-untyped r n d h e = ap (local_sight n) (local-within r.locals.items (outer_names r) n d h) ∙ ap (λ (o : Option ValueType). local_sight n (Some o)) e

pub local-typed : (r : Reader) (n : ℕ) (d : Local) (t : ValueType) → n < length r.locals.items → (get_or r.locals.items (length r.locals.items - 1 - n) d).ty ≡ Some t → local_sight n (local_at (names_of r) n) ≡ seen (bound n) t
local-typed r n d t h e = ap (local_sight n) (local-within r.locals.items (outer_names r) n d h) ∙ ap (λ (o : Option ValueType). local_sight n (Some o)) e

pub all-counted : (r : Reader) → count_locals (names_of r) ≡ length r.locals.items
all-counted r = counted r.locals.items (outer_names r) (around-outer r.scope)

both-hold : (a b : Bool) → a ≡ true → b ≡ true → (a && b) ≡ true
both-hold true b e h = h
both-hold false b e h = e

one-fails : (a b : Bool) → b ≡ false → (a && b) ≡ false
one-fails true b e = e
one-fails false b e = refl

le-true : (a b : ℕ) → a ≤ b → nat_le a b ≡ true
le-true a b h = grind (arith, nat_tests)

le-false : (a b : ℕ) → b < a → nat_le a b ≡ false
le-false a b h = grind (arith, nat_tests)

pub numbered-in : (r : Reader) (k : ℕ) → 1 ≤ k → k ≤ length r.locals.items → bound_sight (count_locals (names_of r)) (names_of r) k ≡ local_sight (length r.locals.items - k) (local_at (names_of r) (length r.locals.items - k))
numbered-in r k h g =
    ap (λ (c : ℕ). bound_sight c (names_of r) k) (all-counted r)
    ∙ ap (λ (b : Bool). cond b (local_sight (length r.locals.items - k) (local_at (names_of r) (length r.locals.items - k))) unseen) (both-hold (nat_le 1 k) (nat_le k (length r.locals.items)) (le-true 1 k h) (le-true k (length r.locals.items) g))

pub numbered-past : (r : Reader) (k : ℕ) → length r.locals.items < k → bound_sight (count_locals (names_of r)) (names_of r) k ≡ unseen
numbered-past r k h =
    ap (λ (c : ℕ). bound_sight c (names_of r) k) (all-counted r)
    ∙ ap (λ (b : Bool). cond b (local_sight (length r.locals.items - k) (local_at (names_of r) (length r.locals.items - k))) unseen) (one-fails (nat_le 1 k) (nat_le k (length r.locals.items)) (le-false k (length r.locals.items) h))

pub numbered-none : (r : Reader) → bound_sight (count_locals (names_of r)) (names_of r) 0 ≡ unseen
numbered-none r = refl

pub ruleset finding = (found-here, found-not, found-end, found-start)

pub ruleset finding_bound = (local-none, local-untyped, local-typed)

pub ruleset finding_numbered = (numbered-in, numbered-past, numbered-none)

pub ruleset finding_elements = (among-more, among-none, first-at)

pub ruleset finding_sets = (elements-lack, elements-have, set-step)

-- ---- the names of a scope, one after another
meaning-behind : (n : ℕ) (o : Option ValueType) → behind 0 (variable_meaning n o) ≡ 0
meaning-behind n None = refl
meaning-behind n (Some t) = refl

picked : (table : Table) (b : Bool) (n : ℕ) (o : Option ℕ) (other : Sight) → cond b (sight 0 (variable_meaning n (variable_type table n))) (seen_last table o other) ≡ seen_last table (cond b (Some n) o) other
picked table true n o other = refl
picked table false n o other = refl

-- what the names of entries mean in front of others
found-entries : (table : Table) (ps : List (List ℕ × ℕ)) (around : Names) (text : List ℕ) (o : Option ℕ) (other : Sight) → found 0 around text ≡ seen_last table o other → found 0 (scope_names table ps around) text ≡ seen_last table (last_from o ps text) other
found-entries table [] around text o other h = h
found-entries table (p ∷ ps) around text o other h =
    let m = variable_meaning p.1 (variable_type table p.1) in
    let next : found 0 (record { text = p.0; meaning = m } ∷ around) text ≡ seen_last table (cond (bytes_eq p.0 text) (Some p.1) o) other =
    ap (λ (j : ℕ). cond (bytes_eq p.0 text) (sight 0 m) (found j around text)) (meaning-behind p.1 (variable_type table p.1)) ∙ (ap (λ (s : Sight). cond (bytes_eq p.0 text) (sight 0 m) s) h ∙ picked table (bytes_eq p.0 text) p.1 o other) in
    found-entries table ps (record { text = p.0; meaning = m } ∷ around) text (cond (bytes_eq p.0 text) (Some p.1) o) other next

pub found_in : (table : Table) (scope : ScopeNames) (text : List ℕ) → found 0 (names_in table scope) text ≡ seen_last table (last_from None scope.names text) (found 0 (set_names 0 table.sets) text)
found_in table scope text = found-entries table scope.names (set_names 0 table.sets) text None (found 0 (set_names 0 table.sets) text) refl

pub ruleset finding_outside = (found_in)
