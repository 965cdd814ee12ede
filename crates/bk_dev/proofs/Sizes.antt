-- Developments whose sets get sizes.
use Rattle.std.proofs.Common.{◌≡◌, inl, inr, All, ℕ, zero, suc, ◌<◌, ◌≤◌, ◌^◌, ◌+◌, pos, List, [], ◌∷◌, ◌++◌, length, refl, sym, ◌∙◌, ap, subst, true, false, Bool, arith}
use Rattle.std.specs.Prelude.{Option, Some, slice_get}
use Rattle.std.specs.Option.{option_map_or}
use Rattle.std.proofs.lemmas.List.Elements.{All-nil, All-cons, All-head, All-tail}
use Rattle.bk_val.specs.Value.{int}
use Rattle.bk_val.specs.ValueType.{ValueType}
use Rattle.bk_val.specs.CmpLaws.{value_eq-self}
use Rattle.bk_form.specs.Table.{Table, SetEntry, at_least_one, set_size, IsCounted}
use Rattle.bk_form.specs.Formula.{Formula, named, unary, literal}
use Rattle.bk_form.specs.Search.{Finder}
use Rattle.bk_form.specs.Environment.{Environment}
use Rattle.bk_form.specs.Role.{gives, role}
use Rattle.bk_form.specs.Meaning.{value, truth}
use Rattle.bk_form.specs.Operators.{is_equal}
use Rattle.bk_form.specs.Each.{Each}
use Rattle.bk_form.specs.Predicates.{IsPredicate, AllHold}
use Rattle.bk_form.specs.Wider.{IsTypedRole}
use Rattle.bk_form.specs.Sized.{sized_from, with_sizes, AreSizes, HasSizes}
use Rattle.bk_form.specs.declared.operator.UnOp.TheVariants.{Card}
use Rattle.bk_form.specs.declared.operator.Domain.TheVariants.{Enum}
use Rattle.bk_form.proofs.Sizing.{role-sized, sized-length, well-sized, sized-whole, sizes_fit, sets_are_counted}
use Rattle.bk_gsl.specs.Substitution.{Substitution, skip, assign, pre, guard, choice, if_else, any, seq, par, assert, becomes_such, loop}
use Rattle.bk_gsl.specs.Typed.{IsTerm, AreTypedTerms, Types}
use Rattle.bk_dev.specs.Development.{Head, Body, Level, Development, level_at, is_complete, with_set_sizes}
use Rattle.bk_dev.specs.Flattened.{flattened}
use Rattle.bk_dev.specs.Hypotheses.{size_equations_of, size_equations_from, size_equations}
use Rattle.bk_dev.specs.Facts.{IsHeadOf, IsSubOf, IsBodyOf, IsStated, IsLink, EachBody, IsLevelOf, EachLevel, IsValue, IsLiteral, HasItsValues, IsLawful, IsDevelopment}
use Rattle.bk_dev.specs.Laws.{SizesKeepDevelopments, SizesHold}

-- ---- what types
module _ (sizes : ℕ → ℕ) (table : Table) where
  pub predicate-sized : (p : Formula) → IsPredicate table p → IsPredicate (with_sizes sizes table) p
  predicate-sized p h = role-sized sizes table [] p (subst IsTypedRole (sym h) tt) ∙ h

  pub term-sized : (t : ValueType) (f : Formula) → IsTerm table t f → IsTerm (with_sizes sizes table) t f
  term-sized t f h = role-sized sizes table [] f (subst IsTypedRole (sym h) tt) ∙ h

  terms-sized : (ps : List (ℕ × Formula)) → AreTypedTerms table ps → AreTypedTerms (with_sizes sizes table) ps
  terms-sized [] h = tt
  terms-sized (p ∷ ps) h = ((h.0.0, h.0.1, term-sized h.0.0 p.1 h.0.2), terms-sized ps h.1)

  pub substitution-sized : (s : Substitution) → Types table s → Types (with_sizes sizes table) s
  substitution-sized skip h = tt
  substitution-sized (assign ps) h = terms-sized ps h
  substitution-sized (pre p s) h = (predicate-sized p h.0, substitution-sized s h.1)
  substitution-sized (guard p s) h = (predicate-sized p h.0, substitution-sized s h.1)
  substitution-sized (choice s t) h = (substitution-sized s h.0, substitution-sized t h.1)
  substitution-sized (if_else p s t) h = (predicate-sized p h.0, substitution-sized s h.1, substitution-sized t h.2)
  substitution-sized (any zs s) h = (h.0, substitution-sized s h.1)
  substitution-sized (seq s t) h = (substitution-sized s h.0, substitution-sized t h.1)
  substitution-sized (par s t) h = (substitution-sized s h.0, substitution-sized t h.1)
  substitution-sized (assert p s) h = (predicate-sized p h.0, substitution-sized s h.1)
  substitution-sized (becomes_such xs p) h = (h.0, predicate-sized p h.1)
  substitution-sized (loop p s i v) h = (predicate-sized p h.0, substitution-sized s h.1, predicate-sized i h.2, term-sized _ v h.3)

-- ---- developments
module _ (sizes : ℕ → ℕ) (dev : Development) where
  abbrev sized : Development
  sized = with_set_sizes sizes dev

  sub-sized : (k : ℕ) (inputs outputs : List ℕ) (s : Substitution) → IsSubOf dev k inputs outputs s → IsSubOf sized k inputs outputs s
  sub-sized k inputs outputs s h = record { types = substitution-sized sizes dev.table s h.types; stays = h.stays; loops = h.loops; binds_inner = h.binds_inner }

  body-sized : (k : ℕ) (head : Head) (machine b : Body) → IsBodyOf dev k head machine b → IsBodyOf sized k head machine b
  body-sized k head machine b h = record {
    condition = predicate-sized sizes dev.table b.condition h.condition;
    condition_names = h.condition_names;
    sub = sub-sized k head.inputs b.outputs b.sub h.sub;
    outputs = h.outputs;
    distinct_outputs = h.distinct_outputs;
    as_many_outputs = h.as_many_outputs;
    output_types = h.output_types;
  }

  stated-sized : (k : ℕ) (p : Formula) → IsStated dev k p → IsStated sized k p
  stated-sized k p h = record { is_predicate = predicate-sized sizes dev.table p h.is_predicate; names = h.names }

  all-stated : (k : ℕ) (ps : List Formula) → Each (IsStated dev k) ps → Each (IsStated sized k) ps
  all-stated k [] h = tt
  all-stated k (p ∷ ps) h = (stated-sized k p h.0, all-stated k ps h.1)

  links-sized : (k : ℕ) (ps : List (ℕ × ℕ)) → Each (IsLink dev k) ps → Each (IsLink sized k) ps
  links-sized k [] h = tt
  links-sized k (p ∷ ps) h = (record { below = (h.0).below; above = (h.0).above; alike = (h.0).alike }, links-sized k ps h.1)

  bodies-sized : (k : ℕ) (hs : List Head) (ms bs : List Body) → EachBody dev k hs ms bs → EachBody sized k hs ms bs
  bodies-sized k [] [] [] h = tt
  bodies-sized k (d ∷ hs) (m ∷ ms) (b ∷ bs) h = (body-sized k d m b h.0, bodies-sized k hs ms bs h.1)
  bodies-sized k _ _ _ h = absurd h

  level-sized : (k : ℕ) (l : Level) → IsLevelOf dev k l → IsLevelOf sized k l
  level-sized k l h = record {
    kind = h.kind;
    vars = h.vars;
    all = h.all;
    distinct = h.distinct;
    properties = predicate-sized sizes dev.table l.properties h.properties;
    properties_names = h.properties_names;
    invariant = stated-sized k l.invariant h.invariant;
    assertions = all-stated k l.assertions h.assertions;
    links = links-sized k l.links h.links;
    init = sub-sized k [] [] l.init h.init;
    bodies = bodies-sized k dev.heads (level_at dev 0).bodies l.bodies h.bodies;
  }

  levels-sized : (k : ℕ) (ls : List Level) → EachLevel dev k ls → EachLevel sized k ls
  levels-sized k [] h = tt
  levels-sized k (l ∷ ls) h = (level-sized k l h.0, levels-sized (suc k) ls h.1)

  heads-sized : (hs : List Head) → Each (IsHeadOf dev) hs → Each (IsHeadOf sized) hs
  heads-sized [] h = tt
  heads-sized (d ∷ hs) h = (record { inputs = (h.0).inputs; distinct = (h.0).distinct }, heads-sized hs h.1)

  literal-sized : (f : Formula) → IsLiteral dev f → IsLiteral sized f
  literal-sized (literal z) h = h
  literal-sized (Rattle.bk_form.specs.Formula.truth_value b) h = tt
  literal-sized (Rattle.bk_form.specs.Formula.element s i) h = tt
  literal-sized _ h = absurd h

  values-sized : (ps : List (ℕ × Formula)) → Each (IsValue dev) ps → Each (IsValue sized) ps
  values-sized [] h = tt
  values-sized (p ∷ ps) h =
      let t = (h.0).of_type in
      (record { constant = (h.0).constant; is_literal = literal-sized p.1 (h.0).is_literal; of_type = (t.0, t.1, term-sized sizes dev.table t.0 p.1 t.2) }, values-sized ps h.1)

  complete-sized : (b : Bool) → HasItsValues dev b → HasItsValues sized b
  complete-sized true h = h
  complete-sized false h = h

  pub lawful-sized : IsLawful dev → IsLawful sized
  lawful-sized f = record {
    range = f.range;
    some_level = f.some_level;
    table = well-sized sizes dev.table f.table;
    sets = ap (sized_from sizes 0) f.sets;
    homes = f.homes;
    heads = heads-sized dev.heads f.heads;
    own_inputs = f.own_inputs;
    levels = levels-sized 0 dev.levels f.levels;
    values = values-sized dev.values f.values;
    complete = complete-sized (is_complete dev) f.complete;
  }

  pub development-sized : AreSizes sizes → IsDevelopment dev → IsDevelopment sized
  development-sized p d = record {
    lawful = lawful-sized d.lawful;
    only_last = d.only_last;
    sizes = λ h. sizes_fit.each sizes p (record dev.table { sets = dev.sets });
    shapes = d.shapes;
    binders_differ = d.binders_differ;
    room = d.room;
    few_sets = subst (λ n. n ≤ 2 ^ 32) (sym (sized-length sizes 0 dev.table.sets)) d.few_sets;
    homes_there = d.homes_there;
    extents = record {
      one_each = d.extents.one_each;
      whole = d.extents.whole ∙ ap (λ (n : ℕ). (n, length dev.table.variables)) (sym (sized-length sizes 0 dev.table.sets));
      sets = d.extents.sets;
      variables = d.extents.variables;
    };
  }

  pub development-whole : IsDevelopment dev → HasSizes dev.sets → sized ≡ dev
  development-whole d each =
      let same = sized-whole sizes 0 dev.sets each in
      let too : sized_from sizes 0 dev.table.sets ≡ dev.table.sets = subst (λ ss. sized_from sizes 0 ss ≡ ss) d.lawful.sets same in
      λ i. record dev { table = record dev.table { sets = too i }; sets = same i }

-- a set with written elements has as many
written-has : (s : SetEntry) → IsCounted s → 0 < length s.elements → 0 < s.size
written-has s (inl none) h = let no : 0 < 0 = subst (λ es. 0 < length es) none h in absurd (omega arith)
written-has s (inr same) h = subst (λ n. 0 < n) (sym same) h

written-have : (ss : List SetEntry) → All IsCounted ss → All (λ s. 0 < length s.elements) ss → HasSizes ss
written-have [] counted h = All-nil (λ (s : SetEntry). 0 < s.size)
written-have (s ∷ ss) counted h =
    let first = written-has s (All-head IsCounted s ss counted) (All-head (λ (s : SetEntry). 0 < length s.elements) s ss h) in
    let rest = written-have ss (All-tail IsCounted s ss counted) (All-tail (λ (s : SetEntry). 0 < length s.elements) s ss h) in
    All-cons (λ (s : SetEntry). 0 < s.size) s ss first rest

pub sizes_keep_developments : SizesKeepDevelopments
sizes_keep_developments = record {
  development = λ sizes p dev d. development-sized sizes dev p d;
  whole = development-whole;
  complete = λ dev d c. d.sizes c;
  written = λ dev d h. written-have dev.sets (subst (All IsCounted) (sym d.lawful.sets) d.lawful.table.counted) h;
  flat = λ sizes dev. refl;
}

-- ---- what is said of the sizes
module _ (find : Finder) (e : Environment) where
  equation-holds : (k n : ℕ) → set_size e.table k ≡ suc n → is_equal (value find e (unary Card (named (Enum k)))) (int (pos (suc n))) ≡ true
  equation-holds k n h = subst (λ v. is_equal v (int (pos (suc n))) ≡ true) (sym (sets_are_counted find e k ∙ ap (λ m. int (pos m)) h)) (value_eq-self (int (pos (suc n))))

  of-set : (k : ℕ) (es : List (List ℕ)) (n : ℕ) → set_size e.table k ≡ at_least_one n → AllHold find e (size_equations_of k es n)
  of-set k [] (suc n) h = (equation-holds k n h, tt)
  of-set k [] zero h = tt
  of-set k (x ∷ es) n h = tt

  join-hold : (ps qs : List Formula) → AllHold find e ps → AllHold find e qs → AllHold find e (ps ++ qs)
  join-hold [] qs h k = k
  join-hold (p ∷ ps) qs h k = (h.0, join-hold ps qs h.1 k)

  from-hold : (k : ℕ) (ss : List SetEntry) → ((n : ℕ) → slice_get ss n ≡ slice_get e.table.sets (k + n)) → AllHold find e (size_equations_from k ss)
  from-hold k [] h = tt
  from-hold k (s ∷ ss) h =
      let here : Some s ≡ slice_get e.table.sets k = h 0 ∙ ap (slice_get e.table.sets) (omega arith) in
      join-hold (size_equations_of k s.elements s.size) (size_equations_from (suc k) ss)
      (of-set k s.elements s.size (ap (λ o. option_map_or (λ (x : SetEntry). at_least_one x.size) o 0) (sym here)))
      (from-hold (suc k) ss (λ n. h (suc n) ∙ ap (slice_get e.table.sets) (omega arith)))

pub sizes_hold : SizesHold
sizes_hold find dev same e t = from-hold find e 0 dev.sets (λ n. ap (λ ss. slice_get ss n) (same ∙ sym (ap (λ x. x.sets) t)) ∙ ap (slice_get e.table.sets) (omega arith))
