-- Each member of the family is a development, and in B0.
use Rattle.std.proofs.Common.{◌≡◌, inl, inr, ◌≤◌, ◌<◌, ◌||◌, ◌&&◌, ◌++◌, not, ℕ, zero, suc, ◌^◌, pos, List, [], ◌∷◌, length, refl, sym, ap, subst, ◌∙◌, Bool, true, false, All, IsTrue, arith}
use Rattle.std.specs.Prelude.{nat_eq, Option, Some, None, slice_get}
use Rattle.std.specs.List.{list_all, filter_map}
use Rattle.std.proofs.lemmas.List.{append-nil}
use Rattle.std.proofs.lemmas.List.Elements.{All-nil, All-cons}
use Rattle.bk_val.specs.ValueType.{int_type, bool_type, pair_type, set_type}
use Rattle.bk_form.specs.Each.{Each}
use Rattle.bk_form.specs.Table.{SetEntry, VariableEntry, lists_type, IsWellFormed}
use Rattle.bk_form.specs.Formula.{variable, literal, named, unary, binary}
use Rattle.bk_form.specs.declared.arrays.ArrayDomain.TheVariants.{Interval}
use Rattle.bk_form.specs.declared.operator.BinOp.TheVariants.{In, TotalFunctions, Range, Times, Apply}
use Rattle.bk_form.specs.declared.operator.UnOp.TheVariants.{Single}
use Rattle.bk_form.specs.declared.operator.Domain.TheVariants.{Integer}
use Rattle.bk_gsl.proofs.States.{nat_eq-same}
use Rattle.bk_gsl.specs.State.{among}
use Rattle.bk_gsl.specs.Substitution.{Substitution, skip, seq}
use Rattle.bk_dev.proofs.Extents.{two-extents}
use Rattle.bk_dev.proofs.HomesThere.{homes-stand}
use Rattle.bk_dev.proofs.CounterFacts.{names-none, names-one}
use Rattle.bk_dev.proofs.Levels.{two-levels}
use Rattle.bk_dev.specs.B0.{IsScalarName, IsArrayName, IsB0Development}
use Rattle.bk_dev.specs.declared.kind.Home.{Home}
use Rattle.bk_dev.specs.declared.kind.Home.TheVariants.{Input, Inner}
use Rattle.bk_dev.specs.Development.{Development, inputs_of}
use Rattle.bk_dev.specs.Flattened.{copied_in_levels}
use Rattle.bk_dev.specs.Facts.{AllAre, AreDistinct, is_constant, is_variable_of, is_inner_of, home_of, Names, names_constants, names_joined, names_own, binders, all_binders, all_outputs, IsSubOf, IsLevelOf, IsLawful, IsDevelopment}
use Rattle.bk_tests_sessions.proofs.Drawn.{names_literal, names_truth, names_both, names_under, local_is}
use Rattle.bk_tests_sessions.specs.Drawn.{family_table, family_homes, zero_to_two, element_at, answering, is_array, all_zero, family_machine, family_code, family, machine_outputs, code_outputs, Rise, IsDrawn, IsFamily}
use Rattle.bk_dev.proofs.DefaultRange.{default_range}

-- ---- the table and the homes
and-first : (a b : Bool) → a && b ≡ true → a ≡ true
and-first true b h = refl
and-first false b h = absurd (cc)

and-rest : (a b : Bool) → a && b ≡ true → b ≡ true
and-rest true b h = h
and-rest false b h = absurd (cc)

all-from : (p : VariableEntry → Bool) → (xs : List VariableEntry) → list_all p xs ≡ true → All (λ x. IsTrue (p x)) xs
all-from p [] h = All-nil (λ (x : VariableEntry). IsTrue (p x))
all-from p (x ∷ xs) h = All-cons (λ (x : VariableEntry). IsTrue (p x)) x xs (and-first (p x) (list_all p xs) h) (all-from p xs (and-rest (p x) (list_all p xs) h))

table-facts : IsWellFormed family_table
table-facts = record { counted = λ k d h. absurd (omega (arith)); listed = all-listed }
  where
    all-listed : All (λ v. IsTrue (lists_type family_table v.of_type)) family_table.variables
    all-listed = all-from (λ (v : VariableEntry). lists_type family_table v.of_type) family_table.variables refl

none-first : (a b : Bool) → not a && b ≡ true → a ≡ true → ⊥
none-first true b h e = absurd (cc)
none-first false b h e = absurd (cc)

none-rest : (a b : Bool) → not a && b ≡ true → b ≡ true
none-rest true b h = absurd (cc)
none-rest false b h = h

-- a home that none of these is
none-at : (p : Option Home → Bool) → p None ≡ false → (hs : List Home) → list_all (λ h. not (p (Some h))) hs ≡ true → (n : ℕ) → p (slice_get hs n) ≡ true → ⊥
none-at p none [] all n h = absurd (cc)
none-at p none (x ∷ hs) all zero h = none-first (p (Some x)) (list_all (λ h. not (p (Some h))) hs) all h
none-at p none (x ∷ hs) all (suc n) h = none-at p none hs (none-rest (p (Some x)) (list_all (λ h. not (p (Some h))) hs) all) n h

abbrev later-homes : List Home
later-homes = Input ∷ Inner 0 ∷ Inner 0 ∷ Inner 0 ∷ Inner 0 ∷ Inner 0 ∷ Inner 0 ∷ Inner 1 ∷ Inner 1 ∷ Inner 1 ∷ Inner 1 ∷ Inner 1 ∷ Inner 1 ∷ Inner 1 ∷ Inner 1 ∷ Inner 1 ∷ Inner 1 ∷ Inner 1 ∷ Inner 1 ∷ Inner 1 ∷ Inner 1 ∷ []

at-machine : (n : ℕ) → is_variable_of 0 (home_of (family skip) n) ≡ true → among [] n ≡ true
at-machine n h = absurd (none-at (is_variable_of 0) refl family_homes refl n h)

at-code : (n : ℕ) → is_variable_of 1 (home_of (family skip) n) ≡ true → among (0 ∷ 1 ∷ 2 ∷ 3 ∷ []) n ≡ true
at-code zero h = refl
at-code (suc zero) h = refl
at-code (suc (suc zero)) h = refl
at-code (suc (suc (suc zero))) h = refl
at-code (suc (suc (suc (suc n)))) h = absurd (none-at (is_variable_of 1) refl later-homes refl n h)

no-constant : (n : ℕ) → is_constant (home_of (family skip) n) ≡ true → among [] n ≡ true
no-constant n h = absurd (none-at is_constant refl family_homes refl n h)

-- ---- the machine
machine-facts : (s : Substitution) → IsLevelOf (family s) 0 family_machine
machine-facts s =
    let own : ℕ → Bool = names_own (family s) 0 (4 ∷ []) machine_outputs in
    record {
      kind = refl;
      vars = tt;
      all = at-machine;
      distinct = tt;
      properties = refl;
      properties_names = names-none (names_constants (family s));
      invariant = record { is_predicate = refl; names = names-none (names_joined (family s) 0) };
      assertions = tt;
      links = tt;
      init = record { types = tt; stays = tt; loops = tt; binds_inner = tt };
      bodies = (
        record {
          condition = refl;
          condition_names = names-none own;
          sub = record { types = tt; stays = tt; loops = tt; binds_inner = tt };
          outputs = (refl, (refl, (refl, (refl, (refl, (refl, tt))))));
          distinct_outputs = (refl, (refl, (refl, (refl, (refl, (refl, tt))))));
          as_many_outputs = refl;
          output_types = ((int_type, refl, refl), ((int_type, refl, refl), ((bool_type, refl, refl), ((int_type, refl, refl), ((int_type, refl, refl), ((int_type, refl, refl), tt))))));
        },
        tt,
      );
    }

-- ---- the implementation
module _ (visible : ℕ → Bool) (array : visible 3 ≡ true) where
  names-range : Names visible zero_to_two
  names-range = names_both visible Range (literal (pos 0)) (literal (pos 2)) (names_literal visible (pos 0)) (names_literal visible (pos 2))

  names-zero : Names visible all_zero
  names-zero = names_both visible Times zero_to_two (unary Single (literal (pos 0))) names-range (names_under visible Single (literal (pos 0)) (names_literal visible (pos 0)))

  names-integers : Names visible (named Integer)
  names-integers = record { closed = tt; visible_only = λ n h. absurd (cc) }

  names-array : Names visible is_array
  names-array = names_both visible In (variable 3) (binary TotalFunctions zero_to_two (named Integer)) (names-one visible 3 array) (names_both visible TotalFunctions zero_to_two (named Integer) names-range names-integers)

  names-element : (n : ℕ) → Names visible (element_at n)
  names-element n = names_both visible Apply (variable 3) (literal (pos n)) (names-one visible 3 array) (names_literal visible (pos n))

all-inner : (low high : ℕ) (ns : List ℕ) → 17 ≤ low → high ≤ 25 → Rise low high ns → AllAre (λ n. is_inner_of 1 (home_of (family skip) n)) ns
all-inner low high [] l h r = tt
all-inner low high (n ∷ ns) l h r =
    let at : low ≤ n = r.0 in
    let below : n < high = rise-below n high ns r.1 in
    ((local_is n (omega (arith, l, at)) (omega (arith, h, below))).inner, all-inner (suc n) high ns (omega (arith, l, at)) h r.1)
  where
    rise-below : (n high : ℕ) (ns : List ℕ) → Rise (suc n) high ns → n < high
    rise-below n high [] r = r
    rise-below n high (m ∷ ns) r =
        let later = rise-below m high ns r.1 in
        let at : suc n ≤ m = r.0 in
        omega (arith, later, at)

inner-of-step : (s : Substitution) → IsDrawn [] 17 25 s → AllAre (λ n. is_inner_of 1 (home_of (family s) n)) (binders (seq s answering))
inner-of-step s d = subst (AllAre (λ n. is_inner_of 1 (home_of (family s) n))) (sym (append-nil (binders s))) (all-inner 17 25 (binders s) (omega arith) (omega arith) d.binds)

step-facts : (s : Substitution) → IsDrawn [] 17 25 s → IsSubOf (family s) 1 (4 ∷ []) code_outputs (seq s answering)
step-facts s d =
    let own : ℕ → Bool = names_own (family s) 1 (4 ∷ []) code_outputs in
    record {
      types = (d.types, (((int_type, refl, refl), tt), (((int_type, refl, refl), tt), (((bool_type, refl, refl), tt), (((int_type, refl, refl), tt), (((int_type, refl, refl), tt), ((int_type, refl, refl), tt)))))));
      stays = (
        d.stays,
        (
          (refl, names-one own 0 refl, refl, tt),
          (
            (refl, names-one own 1 refl, refl, tt),
            (
              (refl, names-one own 2 refl, refl, tt),
              (
                (refl, names-element own refl 0, refl, tt),
                ((refl, names-element own refl 1, refl, tt), (refl, names-element own refl 2, refl, tt)),
              ),
            ),
          ),
        ),
      );
      loops = (d.loops, (tt, (tt, (tt, (tt, (tt, tt))))));
      binds_inner = inner-of-step s d;
    }

code-facts : (s : Substitution) → IsDrawn [] 17 25 s → IsLevelOf (family s) 1 (family_code s)
code-facts s d =
    let own : ℕ → Bool = names_own (family s) 1 [] [] in
    let joined : ℕ → Bool = names_joined (family s) 1 in
    record {
      kind = omega (arith);
      vars = (refl, (refl, (refl, (refl, tt))));
      all = at-code;
      distinct = (refl, (refl, (refl, (refl, tt))));
      properties = refl;
      properties_names = names-none (names_constants (family s));
      invariant = record { is_predicate = refl; names = names-array joined refl };
      assertions = tt;
      links = tt;
      init = record {
        types = (((int_type, refl, refl), tt), (((int_type, refl, refl), tt), (((bool_type, refl, refl), tt), ((set_type (pair_type int_type int_type), refl, refl), tt))));
        stays = ((refl, names_literal own (pos 0), refl, tt), ((refl, names_literal own (pos 0), refl, tt), ((refl, names_truth own false, refl, tt), (refl, names-zero own refl, refl, tt))));
        loops = (tt, (tt, (tt, tt)));
        binds_inner = tt;
      };
      bodies = (
        record {
          condition = refl;
          condition_names = names-none (names_own (family s) 1 (4 ∷ []) code_outputs);
          sub = step-facts s d;
          outputs = (refl, (refl, (refl, (refl, (refl, (refl, tt))))));
          distinct_outputs = (refl, (refl, (refl, (refl, (refl, (refl, tt))))));
          as_many_outputs = refl;
          output_types = ((int_type, refl, refl), ((int_type, refl, refl), ((bool_type, refl, refl), ((int_type, refl, refl), ((int_type, refl, refl), ((int_type, refl, refl), tt))))));
        },
        tt,
      );
    }

family-lawful : (s : Substitution) → IsDrawn [] 17 25 s → IsLawful (family s)
family-lawful s d = record {
  range = default_range;
  some_level = omega (arith);
  table = table-facts;
  sets = refl;
  homes = refl;
  heads = (record { inputs = (refl, tt); distinct = (refl, tt) }, tt);
  own_inputs = (refl, tt);
  levels = (machine-facts s, (code-facts s d, tt));
  values = tt;
  complete = (tt, no-constant);
}

-- ---- what is bound
not-among : (low high n : ℕ) (ns : List ℕ) → n < low → Rise low high ns → among ns n ≡ false
not-among low high n [] h r = refl
not-among low high n (m ∷ ms) h r =
    let at : low ≤ m = r.0 in
    by-test (nat_eq n m) refl at (not-among (suc m) high n ms (omega (arith, h, at)) r.1)
  where
    by-test : (b : Bool) → nat_eq n m ≡ b → low ≤ m → among ms n ≡ false → nat_eq n m || among ms n ≡ false
    by-test true e at rest = let same = nat_eq-same n m e in absurd (omega (arith, same, h, at))
    by-test false e at rest = ap (λ b. b || among ms n) e ∙ rest

rise-differ : (low high : ℕ) (ns : List ℕ) → Rise low high ns → AreDistinct ns
rise-differ low high [] r = tt
rise-differ low high (n ∷ ns) r = (not-among (suc n) high n ns (omega arith) r.1, rise-differ (suc n) high ns r.1)

bound-in-family : (s : Substitution) → binders s ≡ all_binders (family s)
bound-in-family s = simp append-nil

outputs-differ : (ns : List ℕ) → Rise 17 25 ns → AreDistinct (machine_outputs ++ code_outputs ++ ns)
outputs-differ ns r =
    let new : (n : ℕ) → n < 17 → among ns n ≡ false = λ n h. not-among 17 25 n ns h r in (
      new 5 (omega arith),
      (
        new 6 (omega arith),
        (
          new 7 (omega arith),
          (
            new 8 (omega arith),
            (
              new 9 (omega arith),
              (
                new 10 (omega arith),
                (new 11 (omega arith), (new 12 (omega arith), (new 13 (omega arith), (new 14 (omega arith), (new 15 (omega arith), (new 16 (omega arith), rise-differ 17 25 ns r)))))),
              ),
            ),
          ),
        ),
      ),
    )

all-differ : (s : Substitution) → IsDrawn [] 17 25 s → AreDistinct (all_outputs (family s) ++ all_binders (family s))
all-differ s d =
    subst (λ (ns : List ℕ). AreDistinct (all_outputs (family s) ++ ns)) (bound-in-family s) (outputs-differ (binders s) d.binds)

nothing-copied : (s : Substitution) → IsDrawn [] 17 25 s → copied_in_levels (family s).levels ≡ []
nothing-copied s d = rw d.flat refl

room-enough : length (family_table.variables ++ filter_map (slice_get family_table.variables) []) < 2 ^ 32
room-enough = omega (arith)

pub family_facts : (s : Substitution) → IsDrawn [] 17 25 s → IsDevelopment (family s)
family_facts s d = record {
  lawful = family-lawful s d;
  only_last = two-levels (family s) refl refl;
  sizes = λ h. All-nil (λ (x : SetEntry). 0 < x.size);
  shapes = (record { init = tt; bodies = (tt, tt) }, (record { init = (tt, tt, (tt, tt, (tt, tt, tt))); bodies = ((tt, d.shape, (tt, tt, (tt, tt, (tt, tt, (tt, tt, (tt, tt, tt)))))), tt) }, tt));
  binders_differ = all-differ s d;
  room = subst (λ (ns : List ℕ). length (family_table.variables ++ filter_map (slice_get family_table.variables) ns) < 2 ^ 32) (sym (nothing-copied s d)) room-enough;
  few_sets = omega (arith);
  homes_there = homes-stand 2 family_homes refl;
  extents = two-extents (family s) 0 11 refl refl (omega (arith)) (omega (arith));
}

-- ---- in B0
inputs-are : (s : Substitution) (o : ℕ) → o < 1 → Each (IsScalarName (family s)) (inputs_of (family s) o)
inputs-are s zero h = ((refl, refl), tt)
inputs-are s (suc o) h = absurd (omega arith)

few : (n : ℕ) → n ≤ 1 → n ≤ 998
few n h = omega (arith, h)

pub family_in_b0 : (s : Substitution) → IsDrawn [] 17 25 s → IsB0Development (family s)
family_in_b0 s d =
    let none = few 0 (omega arith) in
    let one = few 1 (omega arith) in
    let array : IsArrayName (family s) 3 = (record { var = 3; domain = Interval (pos 0) (pos 2) }, refl) in
    record {
      complete = refl;
      variables = (inl (refl, refl), (inl (refl, refl), (inl (refl, refl), (inr array, tt))));
      inputs = inputs-are s;
      init = (refl, (refl, (tt, inr (record { domain = zero_to_two; value = literal (pos 0); is = refl; is_declared = (named Integer, refl); is_value = refl }))));
      init_shallow = ((none, tt), ((none, tt), ((none, tt), (tt, tt))));
      bodies = (
        record {
          condition = refl;
          outputs = ((refl, refl), ((refl, refl), ((refl, refl), ((refl, refl), ((refl, refl), ((refl, refl), tt))))));
          sub = (d.b0 s, ((refl, refl), ((refl, refl), ((refl, refl), ((array, refl), ((array, refl), (array, refl)))))));
          shallow = (d.shallow, ((none, tt), ((none, tt), ((none, tt), ((one, tt), ((one, tt), (one, tt)))))));
        },
        tt,
      );
    }

-- ---- in the family
pub is_member : (dev : Development) (s : Substitution) → IsDrawn [] 17 25 s → dev ≡ family s → IsFamily dev
is_member dev s d same = record { step = s; drawn = d; is = same }
