-- The adder and the stepper are developments.
use Rattle.std.proofs.Common.{◌<◌, ◌≡◌, ◌⊎◌, inl, inr, ℕ, zero, suc, ℤ, pos, [], ◌∷◌, refl, subst, Bool, true, All, IsTrue, arith}
use Rattle.std.proofs.lemmas.List.Elements.{All-nil}
use Rattle.bk_val.specs.ValueType.{int_type}
use Rattle.bk_form.specs.Table.{lists_type, IsWellFormed}
use Rattle.bk_form.specs.Formula.{Formula, variable, literal, binary, btrue}
use Rattle.bk_form.specs.Replacement.{occurs}
use Rattle.bk_form.specs.declared.operator.BinOp.{BinOp}
use Rattle.bk_form.specs.declared.operator.BinOp.TheVariants.{And, Lt, Le, In, Range, Add}
use Rattle.bk_gsl.specs.State.{among}
use Rattle.bk_gsl.proofs.States.{nat_eq-same}
use Rattle.bk_dev.specs.Development.{level_at, body_at}
use Rattle.bk_dev.specs.Facts.{is_constant, is_variable_of, home_of, Names, names_constants, names_joined, names_own, IsBodyOf, IsLevelOf, IsDevelopment, IsLawful}
use Rattle.bk_dev.specs.Counter.{counter_table}
use Rattle.bk_wp.proofs.Steps.{or-cases}
use Rattle.bk_po.specs.Examples.{between, plus, getting, inc_head, get_head, tally_table, may_add, adding, tally, stepping, stepper}
use Rattle.bk_po.specs.Laws.{ExamplesAreDevelopments}
use Rattle.bk_dev.proofs.Extents.{two-extents}
use Rattle.bk_dev.proofs.HomesThere.{homes-stand}
use Rattle.bk_dev.proofs.Levels.{two-levels}
use Rattle.bk_dev.proofs.DefaultRange.{default_range}

-- ---- what formulas name
module _ (visible : ℕ → Bool) where
  names-none : Names visible btrue
  names-none = record { closed = tt; visible_only = λ n h. absurd (cc) }

  names-number : (z : ℤ) → Names visible (literal z)
  names-number z = record { closed = tt; visible_only = λ n h. absurd (cc) }

  names-one : (k : ℕ) → visible k ≡ true → Names visible (variable k)
  names-one k v = record { closed = tt; visible_only = λ n h. subst (λ m. visible m ≡ true) (nat_eq-same k n h) v }

  names-both : (o : BinOp) (a b : Formula) → Names visible a → Names visible b → Names visible (binary o a b)
  names-both o a b h k = record { closed = (h.closed, k.closed); visible_only = λ n w. by_side n (or-cases (occurs n a) (occurs n b) w) }
    where
      by_side : (n : ℕ) → (occurs n a ≡ true) ⊎ (occurs n b ≡ true) → visible n ≡ true
      by_side n (inl w) = h.visible_only n w
      by_side n (inr w) = k.visible_only n w

  names-between : (k low high : ℕ) → visible k ≡ true → Names visible (between (variable k) low high)
  names-between k low high v = names-both In (variable k) (binary Range (literal (pos low)) (literal (pos high))) (names-one k v) (names-both Range (literal (pos low)) (literal (pos high)) (names-number (pos low)) (names-number (pos high)))

  names-added : (n k : ℕ) → visible n ≡ true → visible k ≡ true → Names visible (plus (variable n) (variable k))
  names-added n k v w = names-both Add (variable n) (variable k) (names-one n v) (names-one k w)

  names-next : (n : ℕ) → visible n ≡ true → Names visible (plus (variable n) (literal (pos 1)))
  names-next n v = names-both Add (variable n) (literal (pos 1)) (names-one n v) (names-number (pos 1))

-- ---- the adder
tally-table : IsWellFormed tally_table
tally-table = record { counted = λ k d h. absurd (omega (arith)); listed = listed }
  where
    listed : All (λ v. IsTrue (lists_type tally_table v.of_type)) tally_table.variables
    listed zero d h = refl
    listed (suc zero) d h = refl
    listed (suc (suc zero)) d h = refl
    listed (suc (suc (suc zero))) d h = refl
    listed (suc (suc (suc (suc zero)))) d h = refl
    listed (suc (suc (suc (suc (suc k))))) d h = absurd (omega (arith))

tally-variable : (n : ℕ) → is_variable_of 0 (home_of tally n) ≡ true → among (0 ∷ []) n ≡ true
tally-variable zero h = refl
tally-variable (suc zero) h = absurd (cc)
tally-variable (suc (suc zero)) h = absurd (cc)
tally-variable (suc (suc (suc zero))) h = absurd (cc)
tally-variable (suc (suc (suc (suc zero)))) h = absurd (cc)
tally-variable (suc (suc (suc (suc (suc n))))) h = absurd (cc)

tally-below : (n : ℕ) → is_variable_of 1 (home_of tally n) ≡ true → among (1 ∷ []) n ≡ true
tally-below zero h = absurd (cc)
tally-below (suc zero) h = refl
tally-below (suc (suc zero)) h = absurd (cc)
tally-below (suc (suc (suc zero))) h = absurd (cc)
tally-below (suc (suc (suc (suc zero)))) h = absurd (cc)
tally-below (suc (suc (suc (suc (suc n))))) h = absurd (cc)

tally-constant : (n : ℕ) → is_constant (home_of tally n) ≡ true → among [] n ≡ true
tally-constant zero h = absurd (cc)
tally-constant (suc zero) h = absurd (cc)
tally-constant (suc (suc zero)) h = absurd (cc)
tally-constant (suc (suc (suc zero))) h = absurd (cc)
tally-constant (suc (suc (suc (suc zero)))) h = absurd (cc)
tally-constant (suc (suc (suc (suc (suc n))))) h = absurd (cc)

machine-adds : IsBodyOf tally 0 (inc_head (4 ∷ [])) (body_at tally 0 0) (adding may_add 0)
machine-adds =
    let own = names_own tally 0 (4 ∷ []) [] in
    record {
      condition = refl;
      condition_names = names-both own And (between (variable 4) 1 10) (binary Le (plus (variable 0) (variable 4)) (literal (pos 10))) (names-between own 4 1 10 refl) (names-both own Le (plus (variable 0) (variable 4)) (literal (pos 10)) (names-added own 0 4 refl refl) (names-number own (pos 10)));
      sub = record { types = ((int_type, refl, refl), tt); stays = (refl, names-added own 0 4 refl refl, refl, tt); loops = tt; binds_inner = tt };
      outputs = tt;
      distinct_outputs = tt;
      as_many_outputs = refl;
      output_types = tt;
    }

code-adds : IsBodyOf tally 1 (inc_head (4 ∷ [])) (body_at tally 0 0) (adding btrue 1)
code-adds =
    let own = names_own tally 1 (4 ∷ []) [] in
    record {
      condition = refl;
      condition_names = names-none own;
      sub = record { types = ((int_type, refl, refl), tt); stays = (refl, names-added own 1 4 refl refl, refl, tt); loops = tt; binds_inner = tt };
      outputs = tt;
      distinct_outputs = tt;
      as_many_outputs = refl;
      output_types = tt;
    }

tally-answers : IsBodyOf tally 0 get_head (body_at tally 0 1) (getting 2 0)
tally-answers =
    let own = names_own tally 0 [] (2 ∷ []) in
    record {
      condition = refl;
      condition_names = names-none own;
      sub = record { types = ((int_type, refl, refl), tt); stays = (refl, names-one own 0 refl, refl, tt); loops = tt; binds_inner = tt };
      outputs = (refl, tt);
      distinct_outputs = (refl, tt);
      as_many_outputs = refl;
      output_types = ((int_type, refl, refl), tt);
    }

tally-code-answers : IsBodyOf tally 1 get_head (body_at tally 0 1) (getting 3 1)
tally-code-answers =
    let own = names_own tally 1 [] (3 ∷ []) in
    record {
      condition = refl;
      condition_names = names-none own;
      sub = record { types = ((int_type, refl, refl), tt); stays = (refl, names-one own 1 refl, refl, tt); loops = tt; binds_inner = tt };
      outputs = (refl, tt);
      distinct_outputs = (refl, tt);
      as_many_outputs = refl;
      output_types = ((int_type, refl, refl), tt);
    }

tally-machine : IsLevelOf tally 0 (level_at tally 0)
tally-machine = record {
  kind = refl;
  vars = (refl, tt);
  all = tally-variable;
  distinct = (refl, tt);
  properties = refl;
  properties_names = names-none (names_constants tally);
  invariant = record { is_predicate = refl; names = names-between (names_joined tally 0) 0 0 10 refl };
  assertions = tt;
  links = tt;
  init = record { types = ((int_type, refl, refl), tt); stays = (refl, names-number (names_own tally 0 [] []) (pos 0), refl, tt); loops = tt; binds_inner = tt };
  bodies = (machine-adds, (tally-answers, tt));
}

tally-implementation : IsLevelOf tally 1 (level_at tally 1)
tally-implementation = record {
  kind = omega (arith);
  vars = (refl, tt);
  all = tally-below;
  distinct = (refl, tt);
  properties = refl;
  properties_names = names-none (names_constants tally);
  invariant = record { is_predicate = refl; names = names-between (names_joined tally 1) 1 0 10 refl };
  assertions = tt;
  links = (record { below = refl; above = (0, refl, refl); alike = (int_type, refl, refl) }, tt);
  init = record { types = ((int_type, refl, refl), tt); stays = (refl, names-number (names_own tally 1 [] []) (pos 0), refl, tt); loops = tt; binds_inner = tt };
  bodies = (code-adds, (tally-code-answers, tt));
}

tally_lawful : IsLawful tally
tally_lawful = record {
  range = default_range;
  some_level = omega (arith);
  table = tally-table;
  sets = refl;
  homes = refl;
  heads = (record { inputs = (refl, tt); distinct = (refl, tt) }, (record { inputs = tt; distinct = tt }, tt));
  own_inputs = (refl, tt);
  levels = (tally-machine, (tally-implementation, tt));
  values = tt;
  complete = (tt, tally-constant);
}

pub tally_facts : IsDevelopment tally
tally_facts = record {
  lawful = tally_lawful;
  only_last = two-levels tally refl refl;
  sizes = λ h. All-nil (λ s. 0 < s.size);
  shapes = ((record { init = tt; bodies = (tt, (tt, tt)) }, (record { init = tt; bodies = (tt, (tt, tt)) }, tt)));
  binders_differ = (refl, (refl, tt));
  room = omega (arith);
  few_sets = omega (arith);
  homes_there = homes-stand 2 tally.homes refl;
  extents = two-extents tally 0 5 refl refl (omega (arith)) (omega (arith));
}

-- ---- the stepper
stepper-table : IsWellFormed counter_table
stepper-table = record { counted = λ k d h. absurd (omega (arith)); listed = listed }
  where
    listed : All (λ v. IsTrue (lists_type counter_table v.of_type)) counter_table.variables
    listed zero d h = refl
    listed (suc zero) d h = refl
    listed (suc (suc zero)) d h = refl
    listed (suc (suc (suc zero))) d h = refl
    listed (suc (suc (suc (suc k)))) d h = absurd (omega (arith))

stepper-variable : (n : ℕ) → is_variable_of 0 (home_of stepper n) ≡ true → among (0 ∷ []) n ≡ true
stepper-variable zero h = refl
stepper-variable (suc zero) h = absurd (cc)
stepper-variable (suc (suc zero)) h = absurd (cc)
stepper-variable (suc (suc (suc zero))) h = absurd (cc)
stepper-variable (suc (suc (suc (suc n)))) h = absurd (cc)

stepper-below : (n : ℕ) → is_variable_of 1 (home_of stepper n) ≡ true → among (1 ∷ []) n ≡ true
stepper-below zero h = absurd (cc)
stepper-below (suc zero) h = refl
stepper-below (suc (suc zero)) h = absurd (cc)
stepper-below (suc (suc (suc zero))) h = absurd (cc)
stepper-below (suc (suc (suc (suc n)))) h = absurd (cc)

stepper-constant : (n : ℕ) → is_constant (home_of stepper n) ≡ true → among [] n ≡ true
stepper-constant zero h = absurd (cc)
stepper-constant (suc zero) h = absurd (cc)
stepper-constant (suc (suc zero)) h = absurd (cc)
stepper-constant (suc (suc (suc zero))) h = absurd (cc)
stepper-constant (suc (suc (suc (suc n)))) h = absurd (cc)

machine-steps : IsBodyOf stepper 0 (inc_head []) (body_at stepper 0 0) (stepping 0)
machine-steps =
    let own = names_own stepper 0 [] [] in
    record {
      condition = refl;
      condition_names = names-none own;
      sub = record { types = (refl, ((int_type, refl, refl), tt), tt); stays = (names-both own Lt (variable 0) (literal (pos 10)) (names-one own 0 refl) (names-number own (pos 10)), (refl, names-next own 0 refl, refl, tt), tt); loops = (tt, tt); binds_inner = tt };
      outputs = tt;
      distinct_outputs = tt;
      as_many_outputs = refl;
      output_types = tt;
    }

code-steps : IsBodyOf stepper 1 (inc_head []) (body_at stepper 0 0) (stepping 1)
code-steps =
    let own = names_own stepper 1 [] [] in
    record {
      condition = refl;
      condition_names = names-none own;
      sub = record { types = (refl, ((int_type, refl, refl), tt), tt); stays = (names-both own Lt (variable 1) (literal (pos 10)) (names-one own 1 refl) (names-number own (pos 10)), (refl, names-next own 1 refl, refl, tt), tt); loops = (tt, tt); binds_inner = tt };
      outputs = tt;
      distinct_outputs = tt;
      as_many_outputs = refl;
      output_types = tt;
    }

stepper-answers : IsBodyOf stepper 0 get_head (body_at stepper 0 1) (getting 2 0)
stepper-answers =
    let own = names_own stepper 0 [] (2 ∷ []) in
    record {
      condition = refl;
      condition_names = names-none own;
      sub = record { types = ((int_type, refl, refl), tt); stays = (refl, names-one own 0 refl, refl, tt); loops = tt; binds_inner = tt };
      outputs = (refl, tt);
      distinct_outputs = (refl, tt);
      as_many_outputs = refl;
      output_types = ((int_type, refl, refl), tt);
    }

stepper-code-answers : IsBodyOf stepper 1 get_head (body_at stepper 0 1) (getting 3 1)
stepper-code-answers =
    let own = names_own stepper 1 [] (3 ∷ []) in
    record {
      condition = refl;
      condition_names = names-none own;
      sub = record { types = ((int_type, refl, refl), tt); stays = (refl, names-one own 1 refl, refl, tt); loops = tt; binds_inner = tt };
      outputs = (refl, tt);
      distinct_outputs = (refl, tt);
      as_many_outputs = refl;
      output_types = ((int_type, refl, refl), tt);
    }

stepper-machine : IsLevelOf stepper 0 (level_at stepper 0)
stepper-machine = record {
  kind = refl;
  vars = (refl, tt);
  all = stepper-variable;
  distinct = (refl, tt);
  properties = refl;
  properties_names = names-none (names_constants stepper);
  invariant = record { is_predicate = refl; names = names-between (names_joined stepper 0) 0 0 10 refl };
  assertions = tt;
  links = tt;
  init = record { types = ((int_type, refl, refl), tt); stays = (refl, names-number (names_own stepper 0 [] []) (pos 0), refl, tt); loops = tt; binds_inner = tt };
  bodies = (machine-steps, (stepper-answers, tt));
}

stepper-implementation : IsLevelOf stepper 1 (level_at stepper 1)
stepper-implementation = record {
  kind = omega (arith);
  vars = (refl, tt);
  all = stepper-below;
  distinct = (refl, tt);
  properties = refl;
  properties_names = names-none (names_constants stepper);
  invariant = record { is_predicate = refl; names = names-between (names_joined stepper 1) 1 0 10 refl };
  assertions = tt;
  links = (record { below = refl; above = (0, refl, refl); alike = (int_type, refl, refl) }, tt);
  init = record { types = ((int_type, refl, refl), tt); stays = (refl, names-number (names_own stepper 1 [] []) (pos 0), refl, tt); loops = tt; binds_inner = tt };
  bodies = (code-steps, (stepper-code-answers, tt));
}

stepper_lawful : IsLawful stepper
stepper_lawful = record {
  range = default_range;
  some_level = omega (arith);
  table = stepper-table;
  sets = refl;
  homes = refl;
  heads = (record { inputs = tt; distinct = tt }, (record { inputs = tt; distinct = tt }, tt));
  own_inputs = tt;
  levels = (stepper-machine, (stepper-implementation, tt));
  values = tt;
  complete = (tt, stepper-constant);
}

pub stepper_facts : IsDevelopment stepper
stepper_facts = record {
  lawful = stepper_lawful;
  only_last = two-levels stepper refl refl;
  sizes = λ h. All-nil (λ s. 0 < s.size);
  shapes = ((record { init = tt; bodies = ((tt, tt), (tt, tt)) }, (record { init = tt; bodies = ((tt, tt), (tt, tt)) }, tt)));
  binders_differ = (refl, (refl, tt));
  room = omega (arith);
  few_sets = omega (arith);
  homes_there = homes-stand 2 stepper.homes refl;
  extents = two-extents stepper 0 3 refl refl (omega (arith)) (omega (arith));
}

-- ---- both are developments
pub examples_are_developments : ExamplesAreDevelopments
examples_are_developments = record { tally_facts = tally_facts; stepper_facts = stepper_facts }
