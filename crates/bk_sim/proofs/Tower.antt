-- The tower is lawful, its levels carry one another, and its translation follows it.
use Rattle.std.proofs.Common.{◌≡◌, inl, ◌≤◌, ◌<◌, ℕ, zero, suc, pos, [], ◌∷◌, length, refl, sym, subst, true, false, All, IsTrue, arith}
use Rattle.bk_limits.specs.declared.TheConstants.{MOST_OPERATORS}
use Rattle.bk_val.specs.ValueType.{int_type}
use Rattle.bk_form.specs.Each.{Each}
use Rattle.bk_form.specs.Search.{Finder}
use Rattle.bk_form.specs.Environment.{State, at_state}
use Rattle.bk_form.specs.Defined.{Defined}
use Rattle.bk_form.specs.Table.{lists_type, IsWellFormed}
use Rattle.bk_form.specs.Formula.{literal, btrue}
use Rattle.bk_gsl.specs.State.{among, holds}
use Rattle.bk_gsl.specs.Run.{assigned}
use Rattle.bk_dev.specs.B0.{IsScalarName, IsB0Development}
use Rattle.bk_dev.specs.Claims.{Establishes, Answered, KeepsFlat, CarriesFlat, Carries}
use Rattle.bk_dev.specs.Development.{inputs_of, level_at, body_at, whole}
use Rattle.bk_dev.specs.Facts.{is_constant, is_variable_of, home_of, names_constants, names_joined, names_own, IsLevelOf, IsLawful, OnlyLastIsImplementation}
use Rattle.bk_dev.proofs.CounterFacts.{names-none, names-number}
use Rattle.bk_sim.specs.Tower.{tower_table, tower}
use Rattle.bk_sim.specs.Laws.{TowerIsFollowed}
use Rattle.bk_sim.proofs.B0Code.{lawful_follows}
use Rattle.bk_dev.proofs.DefaultRange.{default_range}

-- ---- it is lawful
table-facts : IsWellFormed tower_table
table-facts = record { counted = λ k d h. absurd (omega (arith)); listed = listed }
  where
    listed : All (λ v. IsTrue (lists_type tower_table v.of_type)) tower_table.variables
    listed zero d h = refl
    listed (suc zero) d h = refl
    listed (suc (suc zero)) d h = refl
    listed (suc (suc (suc k))) d h = absurd (omega (arith))

at-machine : (n : ℕ) → is_variable_of 0 (home_of tower n) ≡ true → among (0 ∷ []) n ≡ true
at-machine zero h = refl
at-machine (suc zero) h = absurd (cc)
at-machine (suc (suc zero)) h = absurd (cc)
at-machine (suc (suc (suc n))) h = absurd (cc)

at-implementation : (n : ℕ) → is_variable_of 1 (home_of tower n) ≡ true → among (1 ∷ []) n ≡ true
at-implementation zero h = absurd (cc)
at-implementation (suc zero) h = refl
at-implementation (suc (suc zero)) h = absurd (cc)
at-implementation (suc (suc (suc n))) h = absurd (cc)

at-last : (n : ℕ) → is_variable_of 2 (home_of tower n) ≡ true → among (2 ∷ []) n ≡ true
at-last zero h = absurd (cc)
at-last (suc zero) h = absurd (cc)
at-last (suc (suc zero)) h = refl
at-last (suc (suc (suc n))) h = absurd (cc)

no-constant : (n : ℕ) → is_constant (home_of tower n) ≡ true → among [] n ≡ true
no-constant zero h = absurd (cc)
no-constant (suc zero) h = absurd (cc)
no-constant (suc (suc zero)) h = absurd (cc)
no-constant (suc (suc (suc n))) h = absurd (cc)

machine-facts : IsLevelOf tower 0 (level_at tower 0)
machine-facts =
    let own = names_own tower 0 [] [] in
    record {
      kind = refl;
      vars = (refl, tt);
      all = at-machine;
      distinct = (refl, tt);
      properties = refl;
      properties_names = names-none (names_constants tower);
      invariant = record { is_predicate = refl; names = names-none (names_joined tower 0) };
      assertions = tt;
      links = tt;
      init = record { types = ((int_type, refl, refl), tt); stays = (refl, names-number own 0, refl, tt); loops = tt; binds_inner = tt };
      bodies = (
        record {
          condition = refl;
          condition_names = names-none own;
          sub = record { types = ((int_type, refl, refl), tt); stays = (refl, names-number own 10, refl, tt); loops = tt; binds_inner = tt };
          outputs = tt;
          distinct_outputs = tt;
          as_many_outputs = refl;
          output_types = tt;
        },
        tt,
      );
    }

implementation-facts : IsLevelOf tower 1 (level_at tower 1)
implementation-facts =
    let own = names_own tower 1 [] [] in
    record {
      kind = omega (arith);
      vars = (refl, tt);
      all = at-implementation;
      distinct = (refl, tt);
      properties = refl;
      properties_names = names-none (names_constants tower);
      invariant = record { is_predicate = refl; names = names-none (names_joined tower 1) };
      assertions = tt;
      links = (record { below = refl; above = (0, refl, refl); alike = (int_type, refl, refl) }, tt);
      init = record { types = ((int_type, refl, refl), tt); stays = (refl, names-number own 0, refl, tt); loops = tt; binds_inner = tt };
      bodies = (
        record {
          condition = refl;
          condition_names = names-none own;
          sub = record { types = ((int_type, refl, refl), tt); stays = (refl, names-number own 10, refl, tt); loops = tt; binds_inner = tt };
          outputs = tt;
          distinct_outputs = tt;
          as_many_outputs = refl;
          output_types = tt;
        },
        tt,
      );
    }

last-facts : IsLevelOf tower 2 (level_at tower 2)
last-facts =
    let own = names_own tower 2 [] [] in
    record {
      kind = omega (arith);
      vars = (refl, tt);
      all = at-last;
      distinct = (refl, tt);
      properties = refl;
      properties_names = names-none (names_constants tower);
      invariant = record { is_predicate = refl; names = names-none (names_joined tower 2) };
      assertions = tt;
      links = (record { below = refl; above = (1, refl, refl); alike = (int_type, refl, refl) }, tt);
      init = record { types = ((int_type, refl, refl), tt); stays = (refl, names-number own 0, refl, tt); loops = tt; binds_inner = tt };
      bodies = (
        record {
          condition = refl;
          condition_names = names-none own;
          sub = record { types = ((int_type, refl, refl), tt); stays = (refl, names-number own 10, refl, tt); loops = tt; binds_inner = tt };
          outputs = tt;
          distinct_outputs = tt;
          as_many_outputs = refl;
          output_types = tt;
        },
        tt,
      );
    }

tower-lawful : IsLawful tower
tower-lawful = record {
  range = default_range;
  some_level = omega (arith);
  table = table-facts;
  sets = refl;
  homes = refl;
  heads = (record { inputs = tt; distinct = tt }, tt);
  own_inputs = tt;
  levels = (machine-facts, (implementation-facts, (last-facts, tt)));
  values = tt;
  complete = (tt, no-constant);
}

no-development : OnlyLastIsImplementation tower → ⊥
no-development only = let no : true ≡ false = only 1 (omega (arith)) in cc

-- ---- in B0
inputs-are : (o : ℕ) → o < 1 → Each (IsScalarName tower) (inputs_of tower o)
inputs-are zero h = tt
inputs-are (suc o) h = absurd (omega arith)

few : (n : ℕ) → n ≤ 1 → n ≤ MOST_OPERATORS
few n h = omega (arith, h)

tower-in-b0 : IsB0Development tower
tower-in-b0 =
    let none = few 0 (omega arith) in
    record {
      complete = refl;
      variables = (inl (refl, refl), tt);
      inputs = inputs-are;
      init = refl;
      init_shallow = (none, tt);
      bodies = (record { condition = refl; outputs = tt; sub = refl; shallow = (none, tt) }, tt);
    }

-- ---- the claims
module _ (find : Finder) where
  keeps-operation : (o : ℕ) → o < 1 → (e : State) → Establishes find tower 0 (body_at tower 0 o).sub e (λ f. holds find tower_table f (level_at tower 0).invariant ≡ true)
  keeps-operation zero l e = record { ends = tt; clean = (tt, tt); results = λ g r. refl }
  keeps-operation (suc o) l e = absurd (omega (arith, l))

  conditions : (o : ℕ) → o < 1 → (body_at tower 0 o).condition ≡ btrue
  conditions zero l = refl
  conditions (suc o) l = absurd (omega (arith, l))

  keeps : KeepsFlat find tower
  keeps = record {
    init = λ e t h. record { ends = tt; clean = (tt, tt); results = λ g r. refl };
    conditions = λ o l e s. subst (λ p. Defined find (at_state tower_table e) p) (sym (conditions o l)) tt;
    operations = λ o l e s c. keeps-operation o l e;
  }

  abbrev answered : ℕ → ℕ → State → Type 0
  answered j o = Answered find tower (suc j) (body_at tower j o).sub (body_at tower (suc j) o).outputs (body_at tower j o).outputs

  -- the implementation carries the machine
  first-operation : (o : ℕ) → o < 1 → (e : State) → Establishes find tower 1 (whole (body_at tower 1 o)) e (answered 0 o)
  first-operation zero l e = record { ends = tt; clean = (tt, tt); results = λ f r. subst (answered 0 0) (sym r) (assigned find tower_table ((0, literal (pos 10)) ∷ []) (assigned find tower_table ((1, literal (pos 10)) ∷ []) e), refl, (refl, tt)) }
  first-operation (suc o) l e = absurd (omega (arith, l))

  first : CarriesFlat find tower 0
  first = record {
    init = λ e t h. record { ends = tt; clean = (tt, tt); results = λ f r. subst (Answered find tower 1 (level_at tower 0).init [] []) (sym r) (assigned find tower_table ((0, literal (pos 0)) ∷ []) (assigned find tower_table ((1, literal (pos 0)) ∷ []) e), refl, (refl, tt)) };
    operations = λ o l e t h. first-operation o l e;
  }

  -- and the one below carries it
  second-operation : (o : ℕ) → o < 1 → (e : State) → Establishes find tower 2 (whole (body_at tower 2 o)) e (answered 1 o)
  second-operation zero l e = record { ends = tt; clean = (tt, tt); results = λ f r. subst (answered 1 0) (sym r) (assigned find tower_table ((1, literal (pos 10)) ∷ []) (assigned find tower_table ((2, literal (pos 10)) ∷ []) e), refl, (refl, tt)) }
  second-operation (suc o) l e = absurd (omega (arith, l))

  second : CarriesFlat find tower 1
  second = record {
    init = λ e t h. record { ends = tt; clean = (tt, tt); results = λ f r. subst (Answered find tower 2 (level_at tower 1).init [] []) (sym r) (assigned find tower_table ((1, literal (pos 0)) ∷ []) (assigned find tower_table ((2, literal (pos 0)) ∷ []) e), refl, (refl, tt)) };
    operations = λ o l e t h. second-operation o l e;
  }

  carries : (j : ℕ) → suc j < length tower.levels → Carries find tower j
  carries zero h = first
  carries (suc zero) h = second
  carries (suc (suc j)) h = absurd (omega (arith, h))

pub tower_is_followed : TowerIsFollowed
tower_is_followed = record {
  lawful = tower-lawful;
  no_development = no-development;
  in_b0 = tower-in-b0;
  meets = λ find e t h. tt;
  keeps = keeps;
  carries = carries;
  follows = λ find. lawful_follows.follows find tower tower-lawful (record { in_b0 = tower-in-b0; values = λ e t h. tt; keeps = keeps find; carries = carries find });
  ends = λ find. lawful_follows.ends find tower tower-lawful (record { in_b0 = tower-in-b0; values = λ e t h. tt; keeps = keeps find; carries = carries find });
}
