-- The exchange is a development, and in B0.
use Rattle.std.proofs.Common.{◌≡◌, ◌⊎◌, inl, inr, ◌≤◌, ◌<◌, ◌||◌, ℕ, zero, suc, pos, [], ◌∷◌, refl, Bool, true, All, IsTrue, arith}
use Rattle.std.proofs.lemmas.List.Elements.{All-nil}
use Rattle.bk_limits.specs.declared.TheConstants.{MOST_OPERATORS}
use Rattle.bk_val.specs.ValueType.{int_type, pair_type, set_type}
use Rattle.bk_form.specs.Each.{Each}
use Rattle.bk_form.specs.Table.{lists_type, IsWellFormed}
use Rattle.bk_form.specs.Formula.{Formula, variable, literal, named, unary, binary}
use Rattle.bk_form.specs.Replacement.{occurs}
use Rattle.bk_form.specs.declared.operator.BinOp.{BinOp}
use Rattle.bk_form.specs.declared.operator.UnOp.{UnOp}
use Rattle.bk_form.specs.declared.operator.UnOp.TheVariants.{Single}
use Rattle.bk_form.specs.declared.operator.BinOp.TheVariants.{And, Lt, Le, In, TotalFunctions, Range, Times, Sub, Apply}
use Rattle.bk_form.specs.declared.operator.Domain.TheVariants.{Integer}
use Rattle.bk_form.specs.declared.arrays.ArrayDomain.TheVariants.{Interval}
use Rattle.bk_form.proofs.Members.{or-cases}
use Rattle.bk_gsl.specs.State.{among}
use Rattle.bk_gsl.specs.Typed.{Types}
use Rattle.bk_dev.specs.B0.{IsScalarName, IsArrayName, IsB0Development}
use Rattle.bk_dev.specs.Development.{inputs_of}
use Rattle.bk_dev.specs.Facts.{is_constant, is_variable_of, home_of, Names, names_constants, names_joined, names_own, IsSubOf, IsLevelOf, IsLawful, IsDevelopment}
use Rattle.bk_dev.proofs.CounterFacts.{names-none, names-number, names-one}
use Rattle.bk_sim.specs.Exchange.{exchange_table, set_to, zero_to_two, machine_level, counting_down, swapping, code_level, exchange}
use Rattle.bk_dev.proofs.Extents.{two-extents}
use Rattle.bk_dev.proofs.HomesThere.{homes-stand}
use Rattle.bk_dev.proofs.Levels.{two-levels}
use Rattle.bk_dev.proofs.DefaultRange.{default_range}

-- ---- what formulas name
module _ (visible : ℕ → Bool) where
  names-integers : Names visible (named Integer)
  names-integers = record { closed = tt; visible_only = λ n h. absurd (cc) }

  pub names-both : (o : BinOp) (a b : Formula) → Names visible a → Names visible b → Names visible (binary o a b)
  names-both o a b h k = record { closed = (h.closed, k.closed); visible_only = λ n w. by_side n (or-cases (occurs n a) (occurs n b) w) }
    where
      by_side : (n : ℕ) → (occurs n a ≡ true) ⊎ (occurs n b ≡ true) → visible n ≡ true
      by_side n (inl w) = h.visible_only n w
      by_side n (inr w) = k.visible_only n w

  names-under : (o : UnOp) (a : Formula) → Names visible a → Names visible (unary o a)
  names-under o a h = record { closed = h.closed; visible_only = h.visible_only }

  names-range : Names visible zero_to_two
  names-range = names-both Range (literal (pos 0)) (literal (pos 2)) (names-number visible 0) (names-number visible 2)

-- ---- the table and the homes
table-facts : IsWellFormed exchange_table
table-facts = record { counted = λ k d h. absurd (omega (arith)); listed = listed }
  where
    listed : All (λ v. IsTrue (lists_type exchange_table v.of_type)) exchange_table.variables
    listed zero d h = refl
    listed (suc zero) d h = refl
    listed (suc (suc zero)) d h = refl
    listed (suc (suc (suc zero))) d h = refl
    listed (suc (suc (suc (suc zero)))) d h = refl
    listed (suc (suc (suc (suc (suc zero))))) d h = refl
    listed (suc (suc (suc (suc (suc (suc k)))))) d h = absurd (omega (arith))

at-machine : (n : ℕ) → is_variable_of 0 (home_of exchange n) ≡ true → among (0 ∷ 1 ∷ []) n ≡ true
at-machine zero h = refl
at-machine (suc zero) h = refl
at-machine (suc (suc zero)) h = absurd (cc)
at-machine (suc (suc (suc zero))) h = absurd (cc)
at-machine (suc (suc (suc (suc zero)))) h = absurd (cc)
at-machine (suc (suc (suc (suc (suc zero))))) h = absurd (cc)
at-machine (suc (suc (suc (suc (suc (suc n)))))) h = absurd (cc)

at-implementation : (n : ℕ) → is_variable_of 1 (home_of exchange n) ≡ true → among (2 ∷ 3 ∷ 4 ∷ []) n ≡ true
at-implementation zero h = absurd (cc)
at-implementation (suc zero) h = absurd (cc)
at-implementation (suc (suc zero)) h = refl
at-implementation (suc (suc (suc zero))) h = refl
at-implementation (suc (suc (suc (suc zero)))) h = refl
at-implementation (suc (suc (suc (suc (suc zero))))) h = absurd (cc)
at-implementation (suc (suc (suc (suc (suc (suc n)))))) h = absurd (cc)

no-constant : (n : ℕ) → is_constant (home_of exchange n) ≡ true → among [] n ≡ true
no-constant zero h = absurd (cc)
no-constant (suc zero) h = absurd (cc)
no-constant (suc (suc zero)) h = absurd (cc)
no-constant (suc (suc (suc zero))) h = absurd (cc)
no-constant (suc (suc (suc (suc zero)))) h = absurd (cc)
no-constant (suc (suc (suc (suc (suc zero))))) h = absurd (cc)
no-constant (suc (suc (suc (suc (suc (suc n)))))) h = absurd (cc)

-- ---- the machine
machine-facts : IsLevelOf exchange 0 machine_level
machine-facts =
    let own = names_own exchange 0 [] [] in
    record {
      kind = refl;
      vars = (refl, (refl, tt));
      all = at-machine;
      distinct = (refl, (refl, tt));
      properties = refl;
      properties_names = names-none (names_constants exchange);
      invariant = record { is_predicate = refl; names = names-none (names_joined exchange 0) };
      assertions = tt;
      links = tt;
      init = record { types = (((int_type, refl, refl), tt), ((int_type, refl, refl), tt)); stays = ((refl, names-number own 0, refl, tt), (refl, names-number own 0, refl, tt), (refl, tt)); loops = (tt, tt); binds_inner = tt };
      bodies = (
        record {
          condition = refl;
          condition_names = names-none own;
          sub = record { types = (((int_type, refl, refl), tt), ((int_type, refl, refl), tt)); stays = ((refl, names-one own 1 refl, refl, tt), (refl, names-one own 0 refl, refl, tt), (refl, tt)); loops = (tt, tt); binds_inner = tt };
          outputs = tt;
          distinct_outputs = tt;
          as_many_outputs = refl;
          output_types = tt;
        },
        tt,
      );
    }

-- ---- the implementation
swapping-facts : IsSubOf exchange 1 [] [] swapping
swapping-facts =
    let inner : ℕ → Bool = λ n. among (5 ∷ []) n || names_own exchange 1 [] [] n in
    let joined : ℕ → Bool = λ n. names_joined exchange 1 n || inner n in
    let set : Types exchange_table (set_to 5 (literal (pos 5))) = ((int_type, refl, refl), tt) in
    let turn : Types exchange_table counting_down = (refl, ((int_type, refl, refl), tt), refl, refl) in
    let low = names-both joined Le (literal (pos 0)) (variable 5) (names-number joined 0) (names-one joined 5 refl) in
    let high = names-both joined Le (variable 5) (literal (pos 5)) (names-one joined 5 refl) (names-number joined 5) in
    record {
      types = (((int_type, refl), tt), (((int_type, refl, refl), tt), (((int_type, refl, refl), tt), (((int_type, refl, refl), tt), (((int_type, refl, refl), tt), (set, turn))))));
      stays = (
        (refl, tt),
        (refl, tt),
        (
          (refl, names-one inner 2 refl, refl, tt),
          (
            (refl, names-one inner 3 refl, refl, tt),
            (
              (refl, names-one inner 5 refl, refl, tt),
              (
                (refl, names-both inner Apply (variable 4) (literal (pos 1)) (names-one inner 4 refl) (names-number inner 1), refl, tt),
                (
                  (refl, names-number inner 5, refl, tt),
                  (
                    names-both inner Lt (literal (pos 0)) (variable 5) (names-number inner 0) (names-one inner 5 refl),
                    (refl, names-both inner Sub (variable 5) (literal (pos 1)) (names-one inner 5 refl) (names-number inner 1), refl, tt),
                    names-both joined And (binary Le (literal (pos 0)) (variable 5)) (binary Le (variable 5) (literal (pos 5))) low high,
                    names-one joined 5 refl,
                  ),
                ),
              ),
            ),
          ),
        ),
      );
      loops = (tt, (tt, (tt, (tt, (tt, (tt, tt))))));
      binds_inner = (refl, tt);
    }

code-facts : IsLevelOf exchange 1 code_level
code-facts =
    let own = names_own exchange 1 [] [] in
    let joined = names_joined exchange 1 in
    record {
      kind = omega (arith);
      vars = (refl, (refl, (refl, tt)));
      all = at-implementation;
      distinct = (refl, (refl, (refl, tt)));
      properties = refl;
      properties_names = names-none (names_constants exchange);
      invariant = record { is_predicate = refl; names = names-both joined In (variable 4) (binary TotalFunctions zero_to_two (named Integer)) (names-one joined 4 refl) (names-both joined TotalFunctions zero_to_two (named Integer) (names-range joined) (names-integers joined)) };
      assertions = tt;
      links = (record { below = refl; above = (0, refl, refl); alike = (int_type, refl, refl) }, (record { below = refl; above = (0, refl, refl); alike = (int_type, refl, refl) }, tt));
      init = record {
        types = (((int_type, refl, refl), tt), (((int_type, refl, refl), tt), ((set_type (pair_type int_type int_type), refl, refl), tt)));
        stays = ((refl, names-number own 0, refl, tt), ((refl, names-number own 0, refl, tt), (refl, names-both own Times zero_to_two (unary Single (literal (pos 0))) (names-range own) (names-under own Single (literal (pos 0)) (names-number own 0)), refl, tt)));
        loops = (tt, (tt, tt));
        binds_inner = tt;
      };
      bodies = (
        record {
          condition = refl;
          condition_names = names-none own;
          sub = swapping-facts;
          outputs = tt;
          distinct_outputs = tt;
          as_many_outputs = refl;
          output_types = tt;
        },
        tt,
      );
    }

exchange-lawful : IsLawful exchange
exchange-lawful = record {
  range = default_range;
  some_level = omega (arith);
  table = table-facts;
  sets = refl;
  homes = refl;
  heads = (record { inputs = tt; distinct = tt }, tt);
  own_inputs = tt;
  levels = (machine-facts, (code-facts, tt));
  values = tt;
  complete = (tt, no-constant);
}

pub exchange_facts : IsDevelopment exchange
exchange_facts = record {
  lawful = exchange-lawful;
  only_last = two-levels exchange refl refl;
  sizes = λ h. All-nil (λ s. 0 < s.size);
  shapes = (record { init = (tt, tt, tt, tt); bodies = ((tt, tt, tt, tt), tt) }, (record { init = (tt, tt, (tt, tt, tt)); bodies = ((inr tt, (tt, tt, (tt, tt, (tt, tt, (tt, tt, (tt, tt, tt)))))), tt) }, tt));
  binders_differ = (refl, tt);
  room = omega (arith);
  few_sets = omega (arith);
  homes_there = homes-stand 2 exchange.homes refl;
  extents = two-extents exchange 0 2 refl refl (omega (arith)) (omega (arith));
}

-- ---- in B0
inputs-are : (o : ℕ) → o < 1 → Each (IsScalarName exchange) (inputs_of exchange o)
inputs-are zero h = tt
inputs-are (suc o) h = absurd (omega arith)

few : (n : ℕ) → n ≤ 1 → n ≤ MOST_OPERATORS
few n h = omega (arith, h)

pub exchange_in_b0 : IsB0Development exchange
exchange_in_b0 =
    let none = few 0 (omega arith) in
    let one = few 1 (omega arith) in
    let array : IsArrayName exchange 4 = (record { var = 4; domain = Interval (pos 0) (pos 2) }, refl) in
    record {
      complete = refl;
      variables = (inl (refl, refl), (inl (refl, refl), (inr array, tt)));
      inputs = inputs-are;
      init = (refl, (refl, inr (record { domain = zero_to_two; value = literal (pos 0); is = refl; is_declared = (named Integer, refl); is_value = refl })));
      init_shallow = ((none, tt), ((none, tt), (tt, tt)));
      bodies = (
        record {
          condition = refl;
          outputs = tt;
          sub = (((refl, refl), tt), ((refl, refl), ((refl, refl), ((refl, refl), ((array, refl), (refl, ((refl, (refl, refl)), ((refl, refl), refl))))))));
          shallow = ((none, tt), ((none, tt), ((none, tt), ((one, tt), ((none, tt), (one, (one, tt)))))));
        },
        tt,
      );
    }
