-- The ranges of names and the type of a tuple of their elements, one after another.
use Rattle.std.proofs.Common.{◌≡◌, ℕ, zero, suc, ◌+◌, ◌<◌, ◌≤◌, List, [], ◌∷◌, ◌++◌, length, get_or, take, drop, refl, sym, ◌∙◌, ap, subst, Bool, true, false, arith}
use Rattle.std.specs.Prelude.{Option, None, Some, ◌&&◌}
use Rattle.std.proofs.lemmas.List.{take_more, take_all}
use Rattle.bk_val.specs.ValueType.{ValueType, pair_type}
use Rattle.bk_form.specs.Formula.{Formula, Formulas, formula_and, no_formulas, formulas_of}
use Rattle.bk_form.specs.Role.{tuple_type, tuple_type_onto}
use Rattle.bk_raw.specs.Meaning.Binders.{Ranged, as_bound, ranges_of, range_or, range_type, all_typed, types_of, has_type, or_bool, is_some_name}
use Rattle.bk_elab_terms.specs.declared.binder.Ranged.{Ranged as RangedName}
use Rattle.bk_elab_terms.specs.Sights.{ranges_as, AreTaken, with_last}

-- the type of a tuple, where there is a part
abbrev pub tuple_of : List ValueType → Option ValueType
tuple_of [] = None
tuple_of (t ∷ ts) = Some (tuple_type (t ∷ ts))

-- what is taken of the first i names
pub record TakenSoFar (ranges : List Formula) (tuple : Option ValueType) (names : List RangedName) (i : ℕ) : Type 0 where
  pub typed : all_typed (as_bound (ranges_as (take i names))) ≡ true
  pub same : formulas_of ranges ≡ ranges_of (ranges_as (take i names))
  pub tupled : tuple ≡ tuple_of (types_of (as_bound (ranges_as (take i names))))

onto-last : (u : ValueType) (ts : List ValueType) (t : ValueType) → tuple_type_onto u (ts ++ t ∷ []) ≡ pair_type (tuple_type_onto u ts) t
onto-last u [] t = refl
onto-last u (v ∷ ts) t = onto-last (pair_type u v) ts t

tuple-last : (ts : List ValueType) (t : ValueType) → tuple_of (ts ++ t ∷ []) ≡ Some (with_last (tuple_of ts) t)
tuple-last [] t = refl
tuple-last (u ∷ ts) t = ap Some (onto-last u ts t)

typed-join : (ns : List RangedName) (n : RangedName) (r : Formula × ValueType × ℕ) → all_typed (as_bound (ranges_as ns)) ≡ true → n.range ≡ Some r → all_typed (as_bound (ranges_as (ns ++ n ∷ []))) ≡ true
typed-join [] n r e k = ap (λ (o : Option (Formula × ValueType × ℕ)). has_type (range_type o) && true) k
typed-join (x ∷ ns) n r e k = by (has_type (range_type x.range)) e (λ q. typed-join ns n r q k)
  where
    by : (b : Bool) → (b && all_typed (as_bound (ranges_as ns))) ≡ true → (all_typed (as_bound (ranges_as ns)) ≡ true → all_typed (as_bound (ranges_as (ns ++ n ∷ []))) ≡ true) → (b && all_typed (as_bound (ranges_as (ns ++ n ∷ [])))) ≡ true
    by true q g = g q
    by false q g = q

types-join : (ns : List RangedName) (n : RangedName) (r : Formula × ValueType × ℕ) → n.range ≡ Some r → types_of (as_bound (ranges_as (ns ++ n ∷ []))) ≡ types_of (as_bound (ranges_as ns)) ++ r.1 ∷ []
types-join [] n r k = ap (λ (o : Option (Formula × ValueType × ℕ)). or_bool (range_type o) ∷ []) k
types-join (x ∷ ns) n r k = ap (λ (ts : List ValueType). or_bool (range_type x.range) ∷ ts) (types-join ns n r k)

ranges-join : (fs : List Formula) (ns : List RangedName) (n : RangedName) (r : Formula × ValueType × ℕ) → formulas_of fs ≡ ranges_of (ranges_as ns) → n.range ≡ Some r → formulas_of (fs ++ r.0 ∷ []) ≡ ranges_of (ranges_as (ns ++ n ∷ []))
ranges-join [] [] n r e k = ap (λ (o : Option (Formula × ValueType × ℕ)). formula_and (range_or o) no_formulas) (sym k)
ranges-join [] (x ∷ ns) n r e k = let no : no_formulas ≡ formula_and (range_or x.range) (ranges_of (ranges_as ns)) = e in cc
ranges-join (f ∷ fs) [] n r e k = let no : formula_and f (formulas_of fs) ≡ no_formulas = e in cc
ranges-join (f ∷ fs) (x ∷ ns) n r e k =
    let both : formula_and f (formulas_of fs) ≡ formula_and (range_or x.range) (ranges_of (ranges_as ns)) = e in
    let head : f ≡ range_or x.range = cc in
    let tail : formulas_of fs ≡ ranges_of (ranges_as ns) = cc in
    λ i. formula_and (head i) (ranges-join fs ns n r tail k i)

pub next-taken : (fs : List Formula) (o : Option ValueType) (ns : List RangedName) (i : ℕ) (d : RangedName) (r : Formula × ValueType × ℕ) → TakenSoFar fs o ns i → i < length ns → (get_or ns i d).range ≡ Some r → TakenSoFar (fs ++ r.0 ∷ []) (Some (with_last o r.1)) ns (i + 1)
next-taken fs o ns i d r h l k = go (get_or ns i d) (sym (take_more ns i d l)) k
  where
    go : (n : RangedName) → take i ns ++ n ∷ [] ≡ take (i + 1) ns → n.range ≡ Some r → TakenSoFar (fs ++ r.0 ∷ []) (Some (with_last o r.1)) ns (i + 1)
    go n e q = record {
      typed = ap (λ (xs : List RangedName). all_typed (as_bound (ranges_as xs))) (sym e) ∙ typed-join (take i ns) n r h.typed q;
      same = ranges-join fs (take i ns) n r h.same q ∙ ap (λ (xs : List RangedName). ranges_of (ranges_as xs)) e;
      tupled = ap (λ (p : Option ValueType). Some (with_last p r.1)) h.tupled
          ∙ (sym (tuple-last (types_of (as_bound (ranges_as (take i ns)))) r.1)
          ∙ (ap tuple_of (sym (types-join (take i ns) n r q)) ∙ ap (λ (xs : List RangedName). tuple_of (types_of (as_bound (ranges_as xs)))) e));
    }

untyped-within : (ns : List RangedName) (i : ℕ) (d : RangedName) → i < length ns → (get_or ns i d).range ≡ None → all_typed (as_bound (ranges_as ns)) ≡ false
untyped-within [] i d h e = absurd (omega arith)
untyped-within (y ∷ ys) zero d h e = ap (λ (o : Option (Formula × ValueType × ℕ)). has_type (range_type o) && all_typed (as_bound (ranges_as ys))) e
untyped-within (y ∷ ys) (suc i) d h e = by (has_type (range_type y.range)) (untyped-within ys i d (omega arith) e)
  where
    by : (b : Bool) → all_typed (as_bound (ranges_as ys)) ≡ false → (b && all_typed (as_bound (ranges_as ys))) ≡ false
    by true g = g
    by false g = refl

lacks : (ns : List RangedName) (i : ℕ) (d : RangedName) → i < length ns → (get_or ns i d).range ≡ None → (is_some_name (ranges_as ns) && all_typed (as_bound (ranges_as ns))) ≡ false
lacks [] i d h e = absurd (omega arith)
lacks (x ∷ xs) i d h e = untyped-within (x ∷ xs) i d h e

pub not-taken : (ns : List RangedName) (i : ℕ) (d : RangedName) → i < length ns → (get_or ns i d).range ≡ None → AreTaken None (ranges_as ns)
not-taken ns i d h e = lacks ns i d h e

-- at the end
pub all-taken : (fs : List Formula) (ns : List RangedName) (i : ℕ) (t : ValueType) → TakenSoFar fs (Some t) ns i → length ns ≤ i → AreTaken (Some (fs, t)) (ranges_as ns)
all-taken fs [] zero t h l = let no : Some t ≡ None = h.tupled in cc
all-taken fs [] (suc i) t h l = let no : Some t ≡ None = h.tupled in cc
all-taken fs (x ∷ ns) i t h l =
    let e : take i (x ∷ ns) ≡ x ∷ ns = take_all i (x ∷ ns) l in
    let tupled : Some t ≡ Some (tuple_type (types_of (as_bound (ranges_as (x ∷ ns))))) = h.tupled ∙ ap (λ (xs : List RangedName). tuple_of (types_of (as_bound (ranges_as xs)))) e in (
      ap (λ (xs : List RangedName). all_typed (as_bound (ranges_as xs))) (sym e) ∙ h.typed,
      h.same ∙ ap (λ (xs : List RangedName). ranges_of (ranges_as xs)) e,
      cc,
    )

pub none-taken : (fs : List Formula) (ns : List RangedName) (i : ℕ) → TakenSoFar fs None ns i → length ns ≤ i → AreTaken None (ranges_as ns)
none-taken fs [] i h l = refl
none-taken fs (x ∷ ns) i h l =
    let e : take i (x ∷ ns) ≡ x ∷ ns = take_all i (x ∷ ns) l in
    let tupled : None ≡ Some (tuple_type (types_of (as_bound (ranges_as (x ∷ ns))))) = h.tupled ∙ ap (λ (xs : List RangedName). tuple_of (types_of (as_bound (ranges_as xs)))) e in
    cc

pub nothing-taken : (ns : List RangedName) → TakenSoFar [] None ns 0
nothing-taken ns = record { typed = refl; same = refl; tupled = refl }

pub ruleset taking = (next-taken, not-taken, all-taken, none-taken, nothing-taken)
