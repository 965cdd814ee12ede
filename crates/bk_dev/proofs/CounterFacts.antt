-- The counter is a development.
use Rattle.std.proofs.Common.{◌<◌, ◌≡◌, ◌||◌, ℕ, zero, suc, pos, List, [], ◌∷◌, refl, sym, ap, subst, Bool, true, false, All, IsTrue, arith}
use Rattle.std.specs.Prelude.{nat_eq, Some}
use Rattle.std.proofs.lemmas.List.Elements.{All-nil}
use Rattle.bk_val.specs.ValueType.{int_type}
use Rattle.bk_form.specs.Table.{variable_type, lists_type, IsWellFormed}
use Rattle.bk_form.specs.Formula.{variable, literal, binary, btrue}
use Rattle.bk_form.specs.declared.operator.BinOp.TheVariants.{In, Range}
use Rattle.bk_gsl.specs.Substitution.{assign}
use Rattle.bk_gsl.specs.State.{among}
use Rattle.bk_gsl.proofs.States.{nat_eq-same}
use Rattle.bk_dev.specs.Development.{Body, level_at, body_at}
use Rattle.bk_gsl.specs.Typed.{IsTerm}
use Rattle.bk_dev.specs.Facts.{AllAlike, is_constant, is_variable_of, is_inner_of, home_of, Names, names_constants, names_joined, names_own, writes_own, IsSubOf, IsBodyOf, IsLevelOf, IsHeadOf, IsDevelopment, IsLawful}
use Rattle.bk_dev.specs.Counter.{reset_name, setmax_name, get_name, counter_table, setting, counter}
use Rattle.bk_dev.proofs.Extents.{two-extents}
use Rattle.bk_dev.proofs.HomesThere.{homes-stand}
use Rattle.bk_dev.proofs.Levels.{two-levels}
use Rattle.bk_dev.proofs.DefaultRange.{default_range}

-- ---- what formulas name
-- nothing at all
pub names-none : (visible : ℕ → Bool) → Names visible btrue
names-none visible = record { closed = tt; visible_only = λ n h. absurd (cc) }

pub names-number : (visible : ℕ → Bool) (z : ℕ) → Names visible (literal (pos z))
names-number visible z = record { closed = tt; visible_only = λ n h. absurd (cc) }

-- one variable
pub names-one : (visible : ℕ → Bool) (k : ℕ) → visible k ≡ true → Names visible (variable k)
names-one visible k v = record { closed = tt; visible_only = λ n h. subst (λ m. visible m ≡ true) (nat_eq-same k n h) v }

pub first-or : (b : Bool) → b || false ≡ true → b ≡ true
first-or true h = refl
first-or false h = h

names-bounds : (visible : ℕ → Bool) (k : ℕ) → visible k ≡ true → Names visible (binary In (variable k) (binary Range (literal (pos 0)) (literal (pos 10))))
names-bounds visible k v = record { closed = (tt, (tt, tt)); visible_only = λ n h. subst (λ m. visible m ≡ true) (nat_eq-same k n (first-or (nat_eq k n) h)) v }

-- ---- the table
pub table-facts : IsWellFormed counter_table
table-facts = record { counted = λ k d h. absurd (omega (arith)); listed = listed }
  where
    listed : All (λ v. IsTrue (lists_type counter_table v.of_type)) counter_table.variables
    listed zero d h = refl
    listed (suc zero) d h = refl
    listed (suc (suc zero)) d h = refl
    listed (suc (suc (suc zero))) d h = refl
    listed (suc (suc (suc (suc k)))) d h = absurd (omega (arith))

-- ---- the substitutions and bodies
module _ (k x : ℕ) (t : variable_type counter_table x ≡ Some int_type) (own : is_variable_of k (home_of counter x) ≡ true) where
  module _ (inputs outputs : List ℕ) where
    writes : writes_own counter k outputs x ≡ true
    writes = ap (λ b. b || among outputs x) own

  setting-facts : (z : ℕ) → IsSubOf counter k [] [] (assign ((x, literal (pos z)) ∷ []))
  setting-facts z = record { types = ((int_type, t, refl), tt); stays = (writes [] [], names-number (names_own counter k [] []) z, refl, tt); loops = tt; binds_inner = tt }

  setting-body : (name : List ℕ) (machine : Body) (z : ℕ) → machine.outputs ≡ [] → IsBodyOf counter k (record { name = name; inputs = []; outputs = 0 }) machine (setting btrue x (literal (pos z)))
  setting-body name machine z h = record {
    condition = refl;
    condition_names = names-none (names_own counter k [] []);
    sub = setting-facts z;
    outputs = tt;
    distinct_outputs = tt;
    as_many_outputs = refl;
    output_types = subst (λ ys. AllAlike counter_table [] ys) (sym h) tt;
  }

-- get : r := n
getting-body : (name : List ℕ) (machine : Body) (k x r : ℕ) → AllAlike counter_table (r ∷ []) machine.outputs → variable_type counter_table r ≡ Some int_type → IsTerm counter_table int_type (variable x) → names_own counter k [] (r ∷ []) x ≡ true → writes_own counter k (r ∷ []) r ≡ true → is_inner_of k (home_of counter r) ≡ true → IsBodyOf counter k (record { name = name; inputs = []; outputs = 1 }) machine (record { condition = btrue; sub = assign ((r, variable x) ∷ []); outputs = r ∷ [] })
getting-body name machine k x r h t g v w i = record {
  condition = refl;
  condition_names = names-none (names_own counter k [] (r ∷ []));
  sub = record { types = ((int_type, t, g), tt); stays = (w, names-one (names_own counter k [] (r ∷ [])) x v, refl, tt); loops = tt; binds_inner = tt };
  outputs = (i, tt);
  distinct_outputs = (refl, tt);
  as_many_outputs = refl;
  output_types = h;
}

-- ---- the levels
only_zero : (n : ℕ) → is_variable_of 0 (home_of counter n) ≡ true → among (0 ∷ []) n ≡ true
only_zero zero h = refl
only_zero (suc zero) h = absurd (cc)
only_zero (suc (suc zero)) h = absurd (cc)
only_zero (suc (suc (suc zero))) h = absurd (cc)
only_zero (suc (suc (suc (suc n)))) h = absurd (cc)

only_one : (n : ℕ) → is_variable_of 1 (home_of counter n) ≡ true → among (1 ∷ []) n ≡ true
only_one zero h = absurd (cc)
only_one (suc zero) h = refl
only_one (suc (suc zero)) h = absurd (cc)
only_one (suc (suc (suc zero))) h = absurd (cc)
only_one (suc (suc (suc (suc n)))) h = absurd (cc)

machine-facts : IsLevelOf counter 0 (level_at counter 0)
machine-facts = record {
  kind = refl;
  vars = (refl, tt);
  all = only_zero;
  distinct = (refl, tt);
  properties = refl;
  properties_names = names-none (names_constants counter);
  invariant = record { is_predicate = refl; names = names-bounds (names_joined counter 0) 0 refl };
  assertions = tt;
  links = tt;
  init = setting-facts 0 0 refl refl 0;
  bodies = (setting-body 0 0 refl refl reset_name (body_at counter 0 0) 0 refl, (setting-body 0 0 refl refl setmax_name (body_at counter 0 1) 10 refl, (getting-body get_name (body_at counter 0 2) 0 0 2 ((int_type, refl, refl), tt) refl refl refl refl refl, tt)));
}

implementation-facts : IsLevelOf counter 1 (level_at counter 1)
implementation-facts = record {
  kind = omega (arith);
  vars = (refl, tt);
  all = only_one;
  distinct = (refl, tt);
  properties = refl;
  properties_names = names-none (names_constants counter);
  invariant = record { is_predicate = refl; names = names-bounds (names_joined counter 1) 1 refl };
  assertions = tt;
  links = (record { below = refl; above = (0, refl, refl); alike = (int_type, refl, refl) }, tt);
  init = setting-facts 1 1 refl refl 0;
  bodies = (setting-body 1 1 refl refl reset_name (body_at counter 0 0) 0 refl, (setting-body 1 1 refl refl setmax_name (body_at counter 0 1) 10 refl, (getting-body get_name (body_at counter 0 2) 1 1 3 ((int_type, refl, refl), tt) refl refl refl refl refl, tt)));
}

no_constant : (n : ℕ) → is_constant (home_of counter n) ≡ true → among [] n ≡ true
no_constant zero h = absurd (cc)
no_constant (suc zero) h = absurd (cc)
no_constant (suc (suc zero)) h = absurd (cc)
no_constant (suc (suc (suc zero))) h = absurd (cc)
no_constant (suc (suc (suc (suc n)))) h = absurd (cc)

head-facts : (name : List ℕ) (outputs : ℕ) → IsHeadOf counter (record { name = name; inputs = []; outputs = outputs })
head-facts name outputs = record { inputs = tt; distinct = tt }

counter_lawful : IsLawful counter
counter_lawful = record {
  range = default_range;
  some_level = omega (arith);
  table = table-facts;
  sets = refl;
  homes = refl;
  heads = (head-facts reset_name 0, (head-facts setmax_name 0, (head-facts get_name 1, tt)));
  own_inputs = tt;
  levels = (machine-facts, (implementation-facts, tt));
  values = tt;
  complete = (tt, no_constant);
}

pub counter_facts : IsDevelopment counter
counter_facts = record {
  lawful = counter_lawful;
  only_last = two-levels counter refl refl;
  sizes = λ h. All-nil (λ s. 0 < s.size);
  shapes = ((record { init = tt; bodies = (tt, (tt, (tt, tt))) }, (record { init = tt; bodies = (tt, (tt, (tt, tt))) }, tt)));
  binders_differ = (refl, (refl, tt));
  room = omega (arith);
  few_sets = omega (arith);
  homes_there = homes-stand 2 counter.homes refl;
  extents = two-extents counter 0 3 refl refl (omega (arith)) (omega (arith));
}
