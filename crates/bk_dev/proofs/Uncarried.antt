-- The two are developments that do not carry: there is a state from which the implementation goes where the machine does not.
use Rattle.std.proofs.Common.{◌≡◌, ◌<◌, inr, ℕ, zero, suc, pos, [], ◌∷◌, ◌++◌, length, refl, sym, ◌∙◌, ap, subst, Bool, true, false, arith}
use Rattle.std.specs.Prelude.{Some, nat_eq, ◌^◌}
use Rattle.std.proofs.lemmas.List.Elements.{All-nil}
use Rattle.bk_val.specs.Value.{int}
use Rattle.bk_val.specs.ValueType.{ValueType, int_type, is_value_of}
use Rattle.bk_val.specs.CmpLaws.{same_value}
use Rattle.bk_form.specs.Table.{set_size, variable_type}
use Rattle.bk_form.specs.Formula.{variable, literal, btrue}
use Rattle.bk_gsl.specs.Substitution.{Substitution}
use Rattle.bk_gsl.proofs.States.{nat_eq-same}
use Rattle.bk_form.specs.Search.{Finder}
use Rattle.bk_form.specs.Environment.{State, IsTypedState}
use Rattle.bk_form.proofs.Members.{and-both}
use Rattle.bk_gsl.specs.State.{among}
use Rattle.bk_gsl.specs.Run.{Runs, assigned}
use Rattle.bk_dev.specs.Flattened.{flattened}
use Rattle.bk_dev.specs.Development.{body_at, level_at}
use Rattle.bk_dev.specs.declared.kind.Kind.TheVariants.{Machine, Implementation}
use Rattle.bk_dev.specs.Facts.{AreDistinct, is_constant, is_variable_of, home_of, all_outputs, all_binders, Names, names_constants, names_joined, names_own, MayStandIn, IsSubOf, IsStated, IsLevelOf, IsLawful, IsDevelopment}
use Rattle.bk_dev.proofs.CounterFacts.{names-none, names-number, names-one, first-or, table-facts}
use Rattle.bk_dev.specs.Claims.{Carries, Answered}
use Rattle.bk_dev.specs.Uncarried.{turning, is_five, eager, one_after_the_other}
use Rattle.bk_dev.specs.Laws.{AreNotCarried}
use Rattle.bk_dev.proofs.Extents.{two-extents}
use Rattle.bk_dev.proofs.HomesThere.{homes-stand}
use Rattle.bk_dev.proofs.Levels.{two-levels}
use Rattle.bk_dev.proofs.DefaultRange.{default_range}

-- ---- they are developments
module _ (above below : Substitution) where
  at-machine : (n : ℕ) → is_variable_of 0 (home_of (turning above below) n) ≡ true → among (0 ∷ 2 ∷ []) n ≡ true
  at-machine zero h = refl
  at-machine (suc zero) h = absurd (cc)
  at-machine (suc (suc zero)) h = refl
  at-machine (suc (suc (suc zero))) h = absurd (cc)
  at-machine (suc (suc (suc (suc n)))) h = absurd (cc)

  at-implementation : (n : ℕ) → is_variable_of 1 (home_of (turning above below) n) ≡ true → among (1 ∷ 3 ∷ []) n ≡ true
  at-implementation zero h = absurd (cc)
  at-implementation (suc zero) h = refl
  at-implementation (suc (suc zero)) h = absurd (cc)
  at-implementation (suc (suc (suc zero))) h = refl
  at-implementation (suc (suc (suc (suc n)))) h = absurd (cc)

  no-constant : (n : ℕ) → is_constant (home_of (turning above below) n) ≡ true → among [] n ≡ true
  no-constant zero h = absurd (cc)
  no-constant (suc zero) h = absurd (cc)
  no-constant (suc (suc zero)) h = absurd (cc)
  no-constant (suc (suc (suc zero))) h = absurd (cc)
  no-constant (suc (suc (suc (suc n)))) h = absurd (cc)

  nothing-stated : (k : ℕ) → IsStated (turning above below) k btrue
  nothing-stated k = record { is_predicate = refl; names = names-none (names_joined (turning above below) k) }

  machine-level : IsSubOf (turning above below) 0 [] [] above → IsLevelOf (turning above below) 0 (level_at (turning above below) 0)
  machine-level sub =
      let own = names_own (turning above below) 0 [] [] in
      record {
        kind = refl;
        vars = (refl, (refl, tt));
        all = at-machine;
        distinct = (refl, (refl, tt));
        properties = refl;
        properties_names = names-none (names_constants (turning above below));
        invariant = nothing-stated 0;
        assertions = tt;
        links = tt;
        init = record { types = ((int_type, refl, refl), ((int_type, refl, refl), tt)); stays = (refl, names-number own 0, refl, (refl, names-number own 1, refl, tt)); loops = tt; binds_inner = tt };
        bodies = (record { condition = refl; condition_names = names-none own; sub = sub; outputs = tt; distinct_outputs = tt; as_many_outputs = refl; output_types = tt }, tt);
      }

  implementation-level : IsSubOf (turning above below) 1 [] [] below → IsLevelOf (turning above below) 1 (level_at (turning above below) 1)
  implementation-level sub =
      let own = names_own (turning above below) 1 [] [] in
      record {
        kind = omega (arith);
        vars = (refl, (refl, tt));
        all = at-implementation;
        distinct = (refl, (refl, tt));
        properties = refl;
        properties_names = names-none (names_constants (turning above below));
        invariant = nothing-stated 1;
        assertions = tt;
        links = (record { below = refl; above = (0, refl, refl); alike = (int_type, refl, refl) }, (record { below = refl; above = (0, refl, refl); alike = (int_type, refl, refl) }, tt));
        init = record { types = ((int_type, refl, refl), ((int_type, refl, refl), tt)); stays = (refl, names-number own 0, refl, (refl, names-number own 1, refl, tt)); loops = tt; binds_inner = tt };
        bodies = (record { condition = refl; condition_names = names-none own; sub = sub; outputs = tt; distinct_outputs = tt; as_many_outputs = refl; output_types = tt }, tt);
      }

  turning-lawful : IsSubOf (turning above below) 0 [] [] above → IsSubOf (turning above below) 1 [] [] below → IsLawful (turning above below)
  turning-lawful upper lower = record {
    range = default_range;
    some_level = omega (arith);
    table = table-facts;
    sets = refl;
    homes = refl;
    heads = (record { inputs = tt; distinct = tt }, tt);
    own_inputs = tt;
    levels = (machine-level upper, (implementation-level lower, tt));
    values = tt;
    complete = (tt, no-constant);
  }

  turning-facts : IsSubOf (turning above below) 0 [] [] above → IsSubOf (turning above below) 1 [] [] below → MayStandIn Machine above → MayStandIn Implementation below → AreDistinct (all_outputs (turning above below) ++ all_binders (turning above below)) → length (flattened (turning above below)).table.variables < 2 ^ 32 → IsDevelopment (turning above below)
  turning-facts upper lower machine implementation differ room = record {
    lawful = turning-lawful upper lower;
    only_last = two-levels (turning above below) refl refl;
    sizes = λ h. All-nil (λ s. 0 < s.size);
    shapes = (record { init = tt; bodies = (machine, tt) }, (record { init = tt; bodies = (implementation, tt) }, tt));
    binders_differ = differ;
    room = room;
    few_sets = omega (arith);
    homes_there = homes-stand 2 (turning above below).homes refl;
    extents = two-extents (turning above below) 0 3 refl refl (omega (arith)) (omega (arith));
  }

names-five : (visible : ℕ → Bool) (k : ℕ) → visible k ≡ true → Names visible (is_five k)
names-five visible k v = record { closed = (tt, tt); visible_only = λ n h. subst (λ m. visible m ≡ true) (nat_eq-same k n (first-or (nat_eq k n) h)) v }

eager-facts : IsDevelopment eager
eager-facts =
    let above = names_own eager 0 [] [] in
    let below = names_own eager 1 [] [] in
    turning-facts (body_at eager 0 0).sub (body_at eager 1 0).sub
    (record { types = (refl, ((int_type, refl, refl), tt)); stays = (names-five above 0 refl, (refl, names-number above 0, refl, tt)); loops = tt; binds_inner = tt })
    (record {
      types = (refl, ((int_type, refl, refl), tt), ((int_type, refl, refl), tt));
      stays = (names-five below 1 refl, (refl, names-number below 0, refl, tt), (refl, names-number below 3, refl, tt));
      loops = (tt, tt);
      binds_inner = tt;
    })
    tt (tt, tt) tt (omega (arith))

other-facts : IsDevelopment one_after_the_other
other-facts =
    let above = names_own one_after_the_other 0 [] [] in
    let below = names_own one_after_the_other 1 [] [] in
    let copies : length (flattened one_after_the_other).table.variables ≡ 5 = refl in
    turning-facts (body_at one_after_the_other 0 0).sub (body_at one_after_the_other 1 0).sub
    (record {
      types = (((int_type, refl, refl), tt), ((int_type, refl, refl), tt));
      stays = ((refl, names-one above 2 refl, refl, tt), (refl, names-one above 0 refl, refl, tt), (refl, tt));
      loops = (tt, tt);
      binds_inner = tt;
    })
    (record {
      types = (((int_type, refl, refl), tt), ((int_type, refl, refl), tt));
      stays = ((refl, names-one below 3 refl, refl, tt), (refl, names-one below 1 refl, refl, tt));
      loops = (tt, tt);
      binds_inner = tt;
    })
    (tt, tt, tt, tt) (tt, tt, tt) tt (omega (arith, copies))

-- ---- a state from which they part
-- n is 0 and r is 1 at both levels
abbrev start : State
start zero = int (pos 0)
start (suc zero) = int (pos 0)
start _ = int (pos 1)

start-number : (sizes : ℕ → ℕ) (n : ℕ) → is_value_of sizes int_type (start n) ≡ true
start-number sizes zero = refl
start-number sizes (suc zero) = refl
start-number sizes (suc (suc n)) = refl

same : (sizes : ℕ → ℕ) (t : ValueType) (n : ℕ) → Some int_type ≡ Some t → is_value_of sizes t (start n) ≡ true
same sizes t n q = let k : int_type ≡ t = cc in subst (λ x. is_value_of sizes x (start n) ≡ true) k (start-number sizes n)

-- ---- the machine ends under its precondition alone
eager-typed : IsTypedState (flattened eager).table start
eager-typed = record { typed = at }
  where
    at : (n : ℕ) (t : ValueType) → variable_type (flattened eager).table n ≡ Some t → is_value_of (set_size (flattened eager).table) t (start n) ≡ true
    at zero t q = same (set_size (flattened eager).table) t zero q
    at (suc zero) t q = same (set_size (flattened eager).table) t (suc zero) q
    at (suc (suc zero)) t q = same (set_size (flattened eager).table) t (suc (suc zero)) q
    at (suc (suc (suc zero))) t q = same (set_size (flattened eager).table) t (suc (suc (suc zero))) q
    at (suc (suc (suc (suc n)))) t q = absurd (cc)

module _ (find : Finder) where
  -- where the implementation goes
  abbrev at_three : State
  at_three = assigned find (flattened eager).table ((1, literal (pos 3)) ∷ []) start

  eager-carries : Carries find eager 0 → ⊥
  eager-carries c =
      let w : Answered find (flattened eager) 1 (body_at (flattened eager) 0 0).sub [] [] at_three = (c.operations 0 (omega (arith)) start eager-typed (refl, (refl, tt))).results at_three (inr (refl, refl)) in
      let g = w.0 in
      let below : g 1 ≡ int (pos 3) = ap (λ (x : State). x 1) w.1 in
      let above : g 0 ≡ int (pos 0) = ap (λ (x : State). x 0) w.1 in
      let equal : g 1 ≡ g 0 = same_value (g 1) (g 0) w.2.0 in
      let no : int (pos 3) ≡ int (pos 0) = sym below ∙ equal ∙ above in
      cc

-- ---- one assignment after the other in place of both at once
swap-typed : IsTypedState (flattened one_after_the_other).table start
swap-typed = record { typed = at }
  where
    at : (n : ℕ) (t : ValueType) → variable_type (flattened one_after_the_other).table n ≡ Some t → is_value_of (set_size (flattened one_after_the_other).table) t (start n) ≡ true
    at zero t q = same (set_size (flattened one_after_the_other).table) t zero q
    at (suc zero) t q = same (set_size (flattened one_after_the_other).table) t (suc zero) q
    at (suc (suc zero)) t q = same (set_size (flattened one_after_the_other).table) t (suc (suc zero)) q
    at (suc (suc (suc zero))) t q = same (set_size (flattened one_after_the_other).table) t (suc (suc (suc zero))) q
    at (suc (suc (suc (suc zero)))) t q = same (set_size (flattened one_after_the_other).table) t (suc (suc (suc (suc zero)))) q
    at (suc (suc (suc (suc (suc n))))) t q = absurd (cc)

module _ (find : Finder) where
  -- the implementation's first assignment, and its second
  abbrev between : State
  between = assigned find (flattened one_after_the_other).table ((1, variable 3) ∷ []) start

  abbrev both_one : State
  both_one = assigned find (flattened one_after_the_other).table ((3, variable 1) ∷ []) between

  -- whatever the copy is, the machine gives r what n was
  machine-swaps : (f g : State) → Runs find (flattened one_after_the_other).table (body_at (flattened one_after_the_other) 0 0).sub f g → (g 2 ≡ f 0) × (g 3 ≡ f 3)
  machine-swaps f g ([], typed, run) = absurd (cc)
  machine-swaps f g (v ∷ [], typed, run) =
      let first = run.1.1.1 in
      let second = run.1.1.2 in (
        ap (λ (x : State). x 2) run.2 ∙ ap (λ (x : State). x 2) second ∙ ap (λ (x : State). x 4) first ∙ same_value v (f 0) run.1.0,
        ap (λ (x : State). x 3) run.2 ∙ ap (λ (x : State). x 3) second ∙ ap (λ (x : State). x 3) first,
      )
  machine-swaps f g (v ∷ w ∷ vs, typed, run) =
      let no : false ≡ true = (and-both (is_value_of (set_size (flattened one_after_the_other).table) int_type v) false typed).1 in
      absurd (cc no)

  swap-carries : Carries find one_after_the_other 0 → ⊥
  swap-carries c =
      let w : Answered find (flattened one_after_the_other) 1 (body_at (flattened one_after_the_other) 0 0).sub [] [] both_one = (c.operations 0 (omega (arith)) start swap-typed (refl, (refl, tt))).results both_one (between, refl, refl) in
      let g = w.0 in
      let k = machine-swaps both_one g w.1 in
      let equal : g 3 ≡ g 2 = same_value (g 3) (g 2) w.2.1.0 in
      let no : int (pos 1) ≡ int (pos 0) = sym k.1 ∙ equal ∙ k.0 in
      cc

pub are_not_carried : AreNotCarried
are_not_carried = record {
  eager_facts = eager-facts;
  eager = eager-carries;
  other_facts = other-facts;
  one_after_the_other = swap-carries;
}
