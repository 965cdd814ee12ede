-- Where a name stands that has to be given its type or its range.
use Rattle.std.proofs.Common.{◌≡◌, ℕ, zero, suc, ◌+◌, ◌<◌, ◌≤◌, List, [], ◌∷◌, length, length-drop, get_or, set, take, drop, map, ◌-◌, refl, sym, ◌∙◌, ap, Bool, true, false, cond, arith}
use Rattle.std.specs.Borrow.{Bor}
use Rattle.std.specs.Prelude.{Option, None, Some, ◌||◌, is_some}
use Rattle.std.proofs.lemmas.List.{get_or-drop}
use Rattle.std.specs.Str.{bytes_eq}
use Rattle.bk_val.specs.ValueType.{ValueType}
use Rattle.bk_form.specs.Formula.{Formula}
use Rattle.bk_raw.specs.Meaning.Binders.{Bound, typed_as, first_type, Ranged, ranged_as, first_range}
use Rattle.bk_elab_terms.specs.declared.binder.Ranged.{Ranged as RangedName}
use Rattle.bk_elab_terms.specs.declared.sight.Local.{Local}
use Rattle.bk_elab_terms.specs.Sights.{bounds_of, ranges_as, typed_at, AwaitsNone, AwaitsAt, ranged_at, LacksNone, LacksAt}

-- ---- types
-- whether one of the names has this text
abbrev pub has_text : List ℕ → List Local → Bool
has_text text [] = false
has_text text (l ∷ ls) = bytes_eq l.text.now text || has_text text ls

pub has-more : (text : List ℕ) (ls : List Local) (n : ℕ) (d : Local) → n < length ls → has_text text (take n ls) ≡ false → bytes_eq (get_or ls n d).text.now text ≡ false → has_text text (take (n + 1) ls) ≡ false
has-more text ls n d h e g =
    let one : n + 1 ≡ suc n = omega arith in
    ap (λ (m : ℕ). has_text text (take m ls)) one ∙ go ls n h e g
  where
    either : (a b c : Bool) → (a || b) ≡ false → (b ≡ false → c ≡ false) → (a || c) ≡ false
    either true b c p k = p
    either false b c p k = k p

    go : (ls : List Local) (n : ℕ) → n < length ls → has_text text (take n ls) ≡ false → bytes_eq (get_or ls n d).text.now text ≡ false → has_text text (take (suc n) ls) ≡ false
    go [] n h e g = absurd (omega arith)
    go (l ∷ ls) zero h e g = either (bytes_eq l.text.now text) false false (ap (λ (b : Bool). b || false) g) (λ k. k)
    go (l ∷ ls) (suc n) h e g = either (bytes_eq l.text.now text) (has_text text (take n ls)) (has_text text (take (suc n) ls)) e (λ k. go ls n (omega arith) k g)

-- where none has it, no type is given
pub awaits-none : (text : List ℕ) (ls : List Local) (n : ℕ) → length ls ≤ n → has_text text (take n ls) ≡ false → AwaitsNone text (bounds_of ls)
awaits-none text [] n h e t = refl
awaits-none text (l ∷ ls) zero h e t = absurd (omega arith)
awaits-none text (l ∷ ls) (suc n) h e t = by (bytes_eq l.text.now text) e (λ q. awaits-none text ls n (omega arith) q t)
  where
    by : (b : Bool) → (b || has_text text (take n ls)) ≡ false → (has_text text (take n ls) ≡ false → typed_as text t (bounds_of ls) ≡ bounds_of ls) → cond b (record { text = l.text.now; at = l.at; of_type = first_type l.ty t } ∷ bounds_of ls) (record { text = l.text.now; at = l.at; of_type = l.ty } ∷ typed_as text t (bounds_of ls)) ≡ bounds_of (l ∷ ls)
    by true k f = let no : true ≡ false = k in cc
    by false k f = ap (λ (bs : List Bound). record { text = l.text.now; at = l.at; of_type = l.ty } ∷ bs) (f k)

-- nor where the first that has it has a type
pub awaits-typed : (text : List ℕ) (ls : List Local) (n : ℕ) (d : Local) (u : ValueType) → n < length ls → has_text text (take n ls) ≡ false → bytes_eq (get_or ls n d).text.now text ≡ true → (get_or ls n d).ty ≡ Some u → AwaitsNone text (bounds_of ls)
awaits-typed text [] n d u h e g k t = absurd (omega arith)
awaits-typed text (l ∷ ls) zero d u h e g k t =
    ap (λ (b : Bool). cond b (record { text = l.text.now; at = l.at; of_type = first_type l.ty t } ∷ bounds_of ls) (record { text = l.text.now; at = l.at; of_type = l.ty } ∷ typed_as text t (bounds_of ls))) g
    ∙ (ap (λ (o : Option ValueType). record { text = l.text.now; at = l.at; of_type = first_type o t } ∷ bounds_of ls) k
    ∙ ap (λ (o : Option ValueType). record { text = l.text.now; at = l.at; of_type = o } ∷ bounds_of ls) (sym k))
awaits-typed text (l ∷ ls) (suc n) d u h e g k t = by (bytes_eq l.text.now text) e (λ q. awaits-typed text ls n d u (omega arith) q g k t)
  where
    by : (b : Bool) → (b || has_text text (take n ls)) ≡ false → (has_text text (take n ls) ≡ false → typed_as text t (bounds_of ls) ≡ bounds_of ls) → cond b (record { text = l.text.now; at = l.at; of_type = first_type l.ty t } ∷ bounds_of ls) (record { text = l.text.now; at = l.at; of_type = l.ty } ∷ typed_as text t (bounds_of ls)) ≡ bounds_of (l ∷ ls)
    by true q f = let no : true ≡ false = q in cc
    by false q f = ap (λ (bs : List Bound). record { text = l.text.now; at = l.at; of_type = l.ty } ∷ bs) (f q)

typed-first : (text : List ℕ) (ls : List Local) (n : ℕ) (d : Local) (t : ValueType) → n < length ls → has_text text (take n ls) ≡ false → bytes_eq (get_or ls n d).text.now text ≡ true → (get_or ls n d).ty ≡ None → typed_as text t (bounds_of ls) ≡ typed_at n t (bounds_of ls)
typed-first text [] n d t h e g k = absurd (omega arith)
typed-first text (l ∷ ls) zero d t h e g k =
    ap (λ (b : Bool). cond b (record { text = l.text.now; at = l.at; of_type = first_type l.ty t } ∷ bounds_of ls) (record { text = l.text.now; at = l.at; of_type = l.ty } ∷ typed_as text t (bounds_of ls))) g
    ∙ ap (λ (o : Option ValueType). record { text = l.text.now; at = l.at; of_type = first_type o t } ∷ bounds_of ls) k
typed-first text (l ∷ ls) (suc n) d t h e g k = by (bytes_eq l.text.now text) e (λ q. typed-first text ls n d t (omega arith) q g k)
  where
    by : (b : Bool) → (b || has_text text (take n ls)) ≡ false → (has_text text (take n ls) ≡ false → typed_as text t (bounds_of ls) ≡ typed_at n t (bounds_of ls)) → cond b (record { text = l.text.now; at = l.at; of_type = first_type l.ty t } ∷ bounds_of ls) (record { text = l.text.now; at = l.at; of_type = l.ty } ∷ typed_as text t (bounds_of ls)) ≡ record { text = l.text.now; at = l.at; of_type = l.ty } ∷ typed_at n t (bounds_of ls)
    by true q f = let no : true ≡ false = q in cc
    by false q f = ap (λ (bs : List Bound). record { text = l.text.now; at = l.at; of_type = l.ty } ∷ bs) (f q)

pub length-bounds : (ls : List Local) → length (bounds_of ls) ≡ length ls
length-bounds [] = refl
length-bounds (l ∷ ls) = ap suc (length-bounds ls)

-- the first that has it lacks a type
pub awaits-at : (text : List ℕ) (ls : List Local) (n : ℕ) (d : Local) → n < length ls → has_text text (take n ls) ≡ false → bytes_eq (get_or ls n d).text.now text ≡ true → (get_or ls n d).ty ≡ None → AwaitsAt text (bounds_of ls) n
awaits-at text ls n d h e g k =
    let same : length (bounds_of ls) ≡ length ls = length-bounds ls in
    (omega arith, λ t. typed-first text ls n d t h e g k)

-- a type that is written to a place
pub typed-set : (ls : List Local) (n : ℕ) (d l : Local) (t : ValueType) → n < length ls → l.text.now ≡ (get_or ls n d).text.now → l.at ≡ (get_or ls n d).at → l.ty ≡ Some t → bounds_of (set ls n l) ≡ typed_at n t (bounds_of ls)
typed-set [] n d l t h e g k = absurd (omega arith)
typed-set (x ∷ ls) zero d l t h e g k = λ i. record { text = e i; at = g i; of_type = k i } ∷ bounds_of ls
typed-set (x ∷ ls) (suc n) d l t h e g k = ap (λ (bs : List Bound). record { text = x.text.now; at = x.at; of_type = x.ty } ∷ bs) (typed-set ls n d l t (omega arith) e g k)

-- the same, as the program looks at it
pub awaits-some : (text : List ℕ) (ls : List Local) (n : ℕ) (x : Local) → n < length ls → has_text text (take n ls) ≡ false → x ≡ get_or ls n x → bytes_eq x.text.now text ≡ true → is_some x.ty ≡ true → AwaitsNone text (bounds_of ls)
awaits-some text ls n x h e g k s = by x.ty refl
  where
    by : (o : Option ValueType) → x.ty ≡ o → AwaitsNone text (bounds_of ls)
    by None q = let no : false ≡ true = sym (ap is_some q) ∙ s in absurd (cc)
    by (Some u) q = awaits-typed text ls n x u h e (ap (λ (y : Local). bytes_eq y.text.now text) (sym g) ∙ k) (ap (λ (y : Local). y.ty) (sym g) ∙ q)

drop-set : (xs : List Local) (f n k : ℕ) (l : Local) → k ≡ f + n → drop f (set xs k l) ≡ set (drop f xs) n l
drop-set xs zero n k l e = let same : k ≡ n = omega arith in ap (λ (m : ℕ). set xs m l) same
drop-set [] (suc f) n k l e = refl
drop-set (x ∷ xs) (suc f) n zero l e = absurd (omega arith)
drop-set (x ∷ xs) (suc f) n (suc k) l e = drop-set xs f n k l (omega arith)

-- a type that is written to a place behind the first ones
pub type-taken : (ls : List Local) (first n : ℕ) (l x : Local) (t : ValueType) → first + n < length ls → x ≡ get_or ls (first + n) x → l.text ≡ x.text → l.at ≡ x.at → l.ty ≡ Some t → bounds_of (drop first (set ls (first + n) l)) ≡ typed_at n t (bounds_of (drop first ls))
type-taken ls first n l x t h g a b c =
    let long : length (drop first ls) ≡ length ls - first = length-drop first ls in
    let there : get_or (drop first ls) n x ≡ x = get_or-drop first ls n x ∙ sym g in
    ap bounds_of (drop-set ls first n (first + n) l refl)
    ∙ typed-set (drop first ls) n x l t (omega arith) (ap (λ (y : Bor (List ℕ)). y.now) a ∙ ap (λ (y : Local). y.text.now) (sym there)) (b ∙ ap (λ (y : Local). y.at) (sym there)) c

-- ---- ranges
-- whether one of the names has this text
abbrev pub has_name : List ℕ → List RangedName → Bool
has_name text [] = false
has_name text (l ∷ ls) = bytes_eq l.text.now text || has_name text ls

pub named-more : (text : List ℕ) (ls : List RangedName) (n : ℕ) (d : RangedName) → n < length ls → has_name text (take n ls) ≡ false → bytes_eq (get_or ls n d).text.now text ≡ false → has_name text (take (n + 1) ls) ≡ false
named-more text ls n d h e g =
    let one : n + 1 ≡ suc n = omega arith in
    ap (λ (m : ℕ). has_name text (take m ls)) one ∙ go ls n h e g
  where
    either : (a b c : Bool) → (a || b) ≡ false → (b ≡ false → c ≡ false) → (a || c) ≡ false
    either true b c p k = p
    either false b c p k = k p

    go : (ls : List RangedName) (n : ℕ) → n < length ls → has_name text (take n ls) ≡ false → bytes_eq (get_or ls n d).text.now text ≡ false → has_name text (take (suc n) ls) ≡ false
    go [] n h e g = absurd (omega arith)
    go (l ∷ ls) zero h e g = either (bytes_eq l.text.now text) false false (ap (λ (b : Bool). b || false) g) (λ k. k)
    go (l ∷ ls) (suc n) h e g = either (bytes_eq l.text.now text) (has_name text (take n ls)) (has_name text (take (suc n) ls)) e (λ k. go ls n (omega arith) k g)

pub lacks-none : (text : List ℕ) (ls : List RangedName) (n : ℕ) → length ls ≤ n → has_name text (take n ls) ≡ false → LacksNone text (ranges_as ls)
lacks-none text [] n h e r = refl
lacks-none text (l ∷ ls) zero h e r = absurd (omega arith)
lacks-none text (l ∷ ls) (suc n) h e r = by (bytes_eq l.text.now text) e (λ q. lacks-none text ls n (omega arith) q r)
  where
    by : (b : Bool) → (b || has_name text (take n ls)) ≡ false → (has_name text (take n ls) ≡ false → ranged_as text r (ranges_as ls) ≡ ranges_as ls) → cond b (record { text = l.text.now; at = l.at; range = first_range l.range r } ∷ ranges_as ls) (record { text = l.text.now; at = l.at; range = l.range } ∷ ranged_as text r (ranges_as ls)) ≡ ranges_as (l ∷ ls)
    by true k f = let no : true ≡ false = k in cc
    by false k f = ap (λ (bs : List Ranged). record { text = l.text.now; at = l.at; range = l.range } ∷ bs) (f k)

pub lacks-ranged : (text : List ℕ) (ls : List RangedName) (n : ℕ) (d : RangedName) (u : Formula × ValueType × ℕ) → n < length ls → has_name text (take n ls) ≡ false → bytes_eq (get_or ls n d).text.now text ≡ true → (get_or ls n d).range ≡ Some u → LacksNone text (ranges_as ls)
lacks-ranged text [] n d u h e g k r = absurd (omega arith)
lacks-ranged text (l ∷ ls) zero d u h e g k r =
    ap (λ (b : Bool). cond b (record { text = l.text.now; at = l.at; range = first_range l.range r } ∷ ranges_as ls) (record { text = l.text.now; at = l.at; range = l.range } ∷ ranged_as text r (ranges_as ls))) g
    ∙ (ap (λ (o : Option (Formula × ValueType × ℕ)). record { text = l.text.now; at = l.at; range = first_range o r } ∷ ranges_as ls) k
    ∙ ap (λ (o : Option (Formula × ValueType × ℕ)). record { text = l.text.now; at = l.at; range = o } ∷ ranges_as ls) (sym k))
lacks-ranged text (l ∷ ls) (suc n) d u h e g k r = by (bytes_eq l.text.now text) e (λ q. lacks-ranged text ls n d u (omega arith) q g k r)
  where
    by : (b : Bool) → (b || has_name text (take n ls)) ≡ false → (has_name text (take n ls) ≡ false → ranged_as text r (ranges_as ls) ≡ ranges_as ls) → cond b (record { text = l.text.now; at = l.at; range = first_range l.range r } ∷ ranges_as ls) (record { text = l.text.now; at = l.at; range = l.range } ∷ ranged_as text r (ranges_as ls)) ≡ ranges_as (l ∷ ls)
    by true q f = let no : true ≡ false = q in cc
    by false q f = ap (λ (bs : List Ranged). record { text = l.text.now; at = l.at; range = l.range } ∷ bs) (f q)

ranged-first : (text : List ℕ) (ls : List RangedName) (n : ℕ) (d : RangedName) (r : Formula × ValueType × ℕ) → n < length ls → has_name text (take n ls) ≡ false → bytes_eq (get_or ls n d).text.now text ≡ true → (get_or ls n d).range ≡ None → ranged_as text r (ranges_as ls) ≡ ranged_at n r (ranges_as ls)
ranged-first text [] n d r h e g k = absurd (omega arith)
ranged-first text (l ∷ ls) zero d r h e g k =
    ap (λ (b : Bool). cond b (record { text = l.text.now; at = l.at; range = first_range l.range r } ∷ ranges_as ls) (record { text = l.text.now; at = l.at; range = l.range } ∷ ranged_as text r (ranges_as ls))) g
    ∙ ap (λ (o : Option (Formula × ValueType × ℕ)). record { text = l.text.now; at = l.at; range = first_range o r } ∷ ranges_as ls) k
ranged-first text (l ∷ ls) (suc n) d r h e g k = by (bytes_eq l.text.now text) e (λ q. ranged-first text ls n d r (omega arith) q g k)
  where
    by : (b : Bool) → (b || has_name text (take n ls)) ≡ false → (has_name text (take n ls) ≡ false → ranged_as text r (ranges_as ls) ≡ ranged_at n r (ranges_as ls)) → cond b (record { text = l.text.now; at = l.at; range = first_range l.range r } ∷ ranges_as ls) (record { text = l.text.now; at = l.at; range = l.range } ∷ ranged_as text r (ranges_as ls)) ≡ record { text = l.text.now; at = l.at; range = l.range } ∷ ranged_at n r (ranges_as ls)
    by true q f = let no : true ≡ false = q in cc
    by false q f = ap (λ (bs : List Ranged). record { text = l.text.now; at = l.at; range = l.range } ∷ bs) (f q)

length-ranges : (ls : List RangedName) → length (ranges_as ls) ≡ length ls
length-ranges [] = refl
length-ranges (l ∷ ls) = ap suc (length-ranges ls)

pub lacks-at : (text : List ℕ) (ls : List RangedName) (n : ℕ) (d : RangedName) → n < length ls → has_name text (take n ls) ≡ false → bytes_eq (get_or ls n d).text.now text ≡ true → (get_or ls n d).range ≡ None → LacksAt text (ranges_as ls) n
lacks-at text ls n d h e g k =
    let same : length (ranges_as ls) ≡ length ls = length-ranges ls in
    (omega arith, λ r. ranged-first text ls n d r h e g k)

pub ranged-set : (ls : List RangedName) (n : ℕ) (d l : RangedName) (r : Formula × ValueType × ℕ) → n < length ls → l.text.now ≡ (get_or ls n d).text.now → l.at ≡ (get_or ls n d).at → l.range ≡ Some r → ranges_as (set ls n l) ≡ ranged_at n r (ranges_as ls)
ranged-set [] n d l r h e g k = absurd (omega arith)
ranged-set (x ∷ ls) zero d l r h e g k = λ i. record { text = e i; at = g i; range = k i } ∷ ranges_as ls
ranged-set (x ∷ ls) (suc n) d l r h e g k = ap (λ (bs : List Ranged). record { text = x.text.now; at = x.at; range = x.range } ∷ bs) (ranged-set ls n d l r (omega arith) e g k)

pub lacks-some : (text : List ℕ) (ls : List RangedName) (n : ℕ) (x : RangedName) → n < length ls → has_name text (take n ls) ≡ false → x ≡ get_or ls n x → bytes_eq x.text.now text ≡ true → is_some x.range ≡ true → LacksNone text (ranges_as ls)
lacks-some text ls n x h e g k s = by x.range refl
  where
    by : (o : Option (Formula × ValueType × ℕ)) → x.range ≡ o → LacksNone text (ranges_as ls)
    by None q = let no : false ≡ true = sym (ap is_some q) ∙ s in absurd (cc)
    by (Some u) q = lacks-ranged text ls n x u h e (ap (λ (y : RangedName). bytes_eq y.text.now text) (sym g) ∙ k) (ap (λ (y : RangedName). y.range) (sym g) ∙ q)

pub ruleset awaited = (has-more, awaits-none, awaits-typed, awaits-at, typed-set, named-more, lacks-none, lacks-ranged, lacks-at, ranged-set)
