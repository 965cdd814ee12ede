-- The settling development, and three codes that do not follow it: one stores what the local held before, one comes back behind the start of the test,
-- and one does not come back.
use Rattle.std.proofs.Common.{◌≡◌, inl, inr, ◌≤◌, ◌<◌, ◌||◌, ℕ, zero, suc, ℤ, pos, List, [], ◌∷◌, length, refl, sym, ◌∙◌, ap, subst, Bool, true, false, All, IsTrue, arith}
use Rattle.std.proofs.lemmas.List.Elements.{All-nil}
use Rattle.bk_limits.specs.declared.TheConstants.{MOST_OPERATORS}
use Rattle.bk_val.specs.Value.{int}
use Rattle.bk_val.specs.ValueType.{int_type}
use Rattle.bk_form.specs.Each.{Each}
use Rattle.bk_form.specs.Operators.{is_equal}
use Rattle.bk_form.specs.Search.{Finder}
use Rattle.bk_form.specs.Environment.{State}
use Rattle.bk_form.specs.Table.{lists_type, IsWellFormed}
use Rattle.bk_form.specs.Formula.{variable, literal, binary}
use Rattle.bk_form.specs.declared.operator.BinOp.TheVariants.{And, Lt, Le, Add, Sub}
use Rattle.bk_gsl.specs.State.{among}
use Rattle.bk_gsl.specs.Substitution.{Substitution, skip, if_else, seq}
use Rattle.bk_dev.specs.B0.{IsScalarName, IsB0, EvaluatesShallow, IsB0Development}
use Rattle.bk_dev.specs.Development.{Development, inputs_of, level_at}
use Rattle.bk_dev.specs.Layout.{arrays_of, cell_count}
use Rattle.bk_dev.specs.Machine.{Abstract, Reach, Steps, IsCall, Legal}
use Rattle.bk_dev.specs.Facts.{is_constant, is_variable_of, home_of, names_constants, names_joined, names_own, IsSubOf, IsLevelOf, IsLawful, IsDevelopment}
use Rattle.bk_dev.proofs.CounterFacts.{names-none, names-number, names-one}
use Rattle.bk_code.specs.declared.image.Image.{Image}
use Rattle.bk_code.specs.declared.instruction.Inst.{Inst}
use Rattle.bk_code.specs.Checks.{IsLoadable}
use Rattle.bk_code.specs.Step.{Config, GoesOn, Returns, Stuck, step}
use Rattle.bk_code.specs.Run.{Leads, Done, Ends}
use Rattle.bk_code.proofs.Runs.{one_place, not_further}
use Rattle.bk_sim.specs.Shows.{Linked}
use Rattle.bk_sim.specs.Follows.{IsBegun, started, Follows}
use Rattle.bk_sim.specs.Exchange.{set_to}
use Rattle.bk_b0.specs.Translation.{translation}
use Rattle.bk_gen.specs.Laws.{HasElementsInRange}
use Rattle.bk_gen.proofs.Loads.{translations_load}
use Rattle.bk_sim.specs.Settling.{settling_table, by_local, by_loop, settling_by, settling, call_by_local, call_by_loop, local_entry, loop_entry, settling_code, settled, unsettled, to_the_test, behind_the_start, onwards}
use Rattle.bk_sim.specs.Laws.{WrongCodesDoNotFollow}
use Rattle.bk_sim.proofs.ExchangeFacts.{names-both}
use Rattle.bk_dev.proofs.Extents.{two-extents}
use Rattle.bk_dev.proofs.HomesThere.{homes-stand}
use Rattle.bk_dev.proofs.Levels.{two-levels}
use Rattle.bk_dev.proofs.DefaultRange.{default_range}

-- ---- it is a development
table-facts : IsWellFormed settling_table
table-facts = record { counted = λ k d h. absurd (omega (arith)); listed = listed }
  where
    listed : All (λ v. IsTrue (lists_type settling_table v.of_type)) settling_table.variables
    listed zero d h = refl
    listed (suc zero) d h = refl
    listed (suc (suc zero)) d h = refl
    listed (suc (suc (suc k))) d h = absurd (omega (arith))

module _ (second : Substitution) where
  abbrev dev : Development
  dev = settling_by second

  at-machine : (n : ℕ) → is_variable_of 0 (home_of dev n) ≡ true → among (0 ∷ []) n ≡ true
  at-machine zero h = refl
  at-machine (suc zero) h = absurd (cc)
  at-machine (suc (suc zero)) h = absurd (cc)
  at-machine (suc (suc (suc n))) h = absurd (cc)

  at-implementation : (n : ℕ) → is_variable_of 1 (home_of dev n) ≡ true → among (1 ∷ []) n ≡ true
  at-implementation zero h = absurd (cc)
  at-implementation (suc zero) h = refl
  at-implementation (suc (suc zero)) h = absurd (cc)
  at-implementation (suc (suc (suc n))) h = absurd (cc)

  no-constant : (n : ℕ) → is_constant (home_of dev n) ≡ true → among [] n ≡ true
  no-constant zero h = absurd (cc)
  no-constant (suc zero) h = absurd (cc)
  no-constant (suc (suc zero)) h = absurd (cc)
  no-constant (suc (suc (suc n))) h = absurd (cc)

  to-ten : IsSubOf dev 0 [] [] (set_to 0 (literal (pos 10)))
  to-ten = record { types = ((int_type, refl, refl), tt); stays = (refl, names-number (names_own dev 0 [] []) 10, refl, tt); loops = tt; binds_inner = tt }

  machine-facts : IsLevelOf dev 0 (level_at dev 0)
  machine-facts =
      let own = names_own dev 0 [] [] in
      record {
        kind = refl;
        vars = (refl, tt);
        all = at-machine;
        distinct = (refl, tt);
        properties = refl;
        properties_names = names-none (names_constants dev);
        invariant = record { is_predicate = refl; names = names-none (names_joined dev 0) };
        assertions = tt;
        links = tt;
        init = record { types = ((int_type, refl, refl), tt); stays = (refl, names-number own 0, refl, tt); loops = tt; binds_inner = tt };
        bodies = (
          record { condition = refl; condition_names = names-none own; sub = to-ten; outputs = tt; distinct_outputs = tt; as_many_outputs = refl; output_types = tt },
          (record { condition = refl; condition_names = names-none own; sub = to-ten; outputs = tt; distinct_outputs = tt; as_many_outputs = refl; output_types = tt }, tt),
        );
      }

  local-facts : IsSubOf dev 1 [] [] by_local
  local-facts =
      let inner : ℕ → Bool = λ n. among (2 ∷ []) n || names_own dev 1 [] [] n in
      record {
        types = (((int_type, refl), tt), (((int_type, refl, refl), tt), ((int_type, refl, refl), tt)));
        stays = ((refl, tt), (refl, tt), ((refl, names-number inner 10, refl, tt), (refl, names-one inner 2 refl, refl, tt)));
        loops = (tt, tt);
        binds_inner = (refl, tt);
      }

  code-facts : IsSubOf dev 1 [] [] second → IsLevelOf dev 1 (level_at dev 1)
  code-facts given =
      let own = names_own dev 1 [] [] in
      record {
        kind = omega (arith);
        vars = (refl, tt);
        all = at-implementation;
        distinct = (refl, tt);
        properties = refl;
        properties_names = names-none (names_constants dev);
        invariant = record { is_predicate = refl; names = names-none (names_joined dev 1) };
        assertions = tt;
        links = (record { below = refl; above = (0, refl, refl); alike = (int_type, refl, refl) }, tt);
        init = record { types = ((int_type, refl, refl), tt); stays = (refl, names-number own 0, refl, tt); loops = tt; binds_inner = tt };
        bodies = (
          record { condition = refl; condition_names = names-none own; sub = local-facts; outputs = tt; distinct_outputs = tt; as_many_outputs = refl; output_types = tt },
          (record { condition = refl; condition_names = names-none own; sub = given; outputs = tt; distinct_outputs = tt; as_many_outputs = refl; output_types = tt }, tt),
        );
      }

  settling-lawful : IsSubOf dev 1 [] [] second → IsLawful dev
  settling-lawful given = record {
    range = default_range;
    some_level = omega (arith);
    table = table-facts;
    sets = refl;
    homes = refl;
    heads = (record { inputs = tt; distinct = tt }, (record { inputs = tt; distinct = tt }, tt));
    own_inputs = tt;
    levels = (machine-facts, (code-facts given, tt));
    values = tt;
    complete = (tt, no-constant);
  }

  inputs-are : (o : ℕ) → o < 2 → Each (IsScalarName dev) (inputs_of dev o)
  inputs-are zero h = tt
  inputs-are (suc zero) h = tt
  inputs-are (suc (suc o)) h = absurd (omega (arith, h))

  few : (n : ℕ) → n ≤ 1 → n ≤ MOST_OPERATORS
  few n h = omega (arith, h)

  in-b0 : IsB0 dev second → EvaluatesShallow (arrays_of dev) second → IsB0Development dev
  in-b0 sub shallow =
      let none = few 0 (omega arith) in
      record {
        complete = refl;
        variables = (inl (refl, refl), tt);
        inputs = inputs-are;
        init = refl;
        init_shallow = (none, tt);
        bodies = (
          record { condition = refl; outputs = tt; sub = (((refl, refl), tt), (refl, (refl, refl))); shallow = ((none, tt), (none, tt)) },
          (record { condition = refl; outputs = tt; sub = sub; shallow = shallow }, tt),
        );
      }

loop-facts : IsSubOf settling 1 [] [] by_loop
loop-facts =
    let own : ℕ → Bool = names_own settling 1 [] [] in
    let joined : ℕ → Bool = λ n. names_joined settling 1 n || own n in
    let low = names-both joined Le (literal (pos 0)) (variable 1) (names-number joined 0) (names-one joined 1 refl) in
    let high = names-both joined Le (variable 1) (literal (pos 10)) (names-one joined 1 refl) (names-number joined 10) in
    record {
      types = (((int_type, refl, refl), tt), (refl, ((int_type, refl, refl), tt), refl, refl));
      stays = (
        (refl, names-number own 0, refl, tt),
        (
          names-both own Lt (variable 1) (literal (pos 10)) (names-one own 1 refl) (names-number own 10),
          (refl, names-both own Add (variable 1) (literal (pos 1)) (names-one own 1 refl) (names-number own 1), refl, tt),
          names-both joined And (binary Le (literal (pos 0)) (variable 1)) (binary Le (variable 1) (literal (pos 10))) low high,
          names-both joined Sub (literal (pos 10)) (variable 1) (names-number joined 10) (names-one joined 1 refl),
        ),
      );
      loops = (tt, (tt, tt));
      binds_inner = tt;
    }

-- n := 0 ; IF n < 10 THEN n := n + 1 END
abbrev by_test : Substitution
by_test = seq (set_to 1 (literal (pos 0))) (if_else (binary Lt (variable 1) (literal (pos 10))) (set_to 1 (binary Add (variable 1) (literal (pos 1)))) skip)

test-facts : IsSubOf (settling_by by_test) 1 [] [] by_test
test-facts =
    let own : ℕ → Bool = names_own (settling_by by_test) 1 [] [] in
    record {
      types = (((int_type, refl, refl), tt), (refl, ((int_type, refl, refl), tt), tt));
      stays = (
        (refl, names-number own 0, refl, tt),
        (
          names-both own Lt (variable 1) (literal (pos 10)) (names-one own 1 refl) (names-number own 10),
          (refl, names-both own Add (variable 1) (literal (pos 1)) (names-one own 1 refl) (names-number own 1), refl, tt),
          tt,
        ),
      );
      loops = (tt, (tt, tt));
      binds_inner = tt;
    }

settling_lawful : IsLawful settling
settling_lawful = settling-lawful by_loop loop-facts

settling_facts : IsDevelopment settling
settling_facts = record {
  lawful = settling_lawful;
  only_last = two-levels settling refl refl;
  sizes = λ h. All-nil (λ s. 0 < s.size);
  shapes = (record { init = tt; bodies = (tt, (tt, tt)) }, (record { init = tt; bodies = ((inr tt, (tt, tt, tt)), ((tt, tt, tt), tt)) }, tt));
  binders_differ = (refl, tt);
  room = omega (arith);
  few_sets = omega (arith);
  homes_there = homes-stand 2 settling.homes refl;
  extents = two-extents settling 0 1 refl refl (omega (arith)) (omega (arith));
}

settling_in_b0 : IsB0Development settling
settling_in_b0 =
    let none = few by_loop 0 (omega arith) in
    let one = few by_loop 1 (omega arith) in
    in-b0 by_loop (refl, (((refl, refl), refl), ((refl, refl), refl))) ((none, tt), (one, (one, tt)))

test_in_b0 : IsB0Development (settling_by by_test)
test_in_b0 =
    let none = few by_test 0 (omega arith) in
    let one = few by_test 1 (omega arith) in
    in-b0 by_test (refl, (((refl, refl), refl), ((refl, refl), refl), tt)) ((none, tt), (one, (one, tt), tt))

-- ---- calls of a code
abbrev config : ℕ → List ℤ → List ℤ → Config
config n stack cells = record { place = n; stack = stack; cells = cells }

abbrev zeros : List ℤ
zeros = pos 0 ∷ pos 0 ∷ []

-- the initialisation leaves 0 in both cells
begun : (settle : List Inst) (back : ℤ) → IsBegun (settling_code settle back) 5 zeros
begun settle back = (3, config 2 [] zeros, (omega (arith), ((config 1 (pos 0 ∷ []) zeros, (config 0 [] zeros, refl, refl), refl), refl)), refl)

-- ---- what the local held before
abbrev wrong_local : Image
wrong_local = settling_code unsettled to_the_test

local-call : IsCall settling call_by_local
local-call = record { op = omega (arith); types = refl; range = refl }

-- 0 is in n afterwards
stores-zero : Ends wrong_local 5 (started local_entry call_by_local zeros) (Done 5) (config 7 [] (pos 0 ∷ pos 10 ∷ []))
stores-zero = (omega (arith), ((config 6 (pos 0 ∷ []) (pos 0 ∷ pos 10 ∷ []), (config 5 (pos 10 ∷ pos 0 ∷ []) zeros, (config 4 (pos 0 ∷ []) zeros, (config 3 [] zeros, refl, refl), refl), refl), refl), refl))

-- the machine has 10 there
steps-to-ten : (find : Finder) (a b : Abstract) → Steps find settling call_by_local a [] b → b ≡ int (pos 10) ∷ []
steps-to-ten find a b q = sym q.5 ∙ ap (λ (s : State). s 0 ∷ []) q.3

reaches-ten : (find : Finder) (a : Abstract) → Reach find settling (call_by_local ∷ []) ([] ∷ []) a → a ≡ int (pos 10) ∷ []
reaches-ten find a h = steps-to-ten find h.0 a h.2

not-linked : (find : Finder) (z w : ℤ) → is_equal (int z) (int (pos 10)) ≡ false → (a : Abstract) → a ≡ int (pos 10) ∷ [] → Linked find settling a (z ∷ w ∷ []) → ⊥
not-linked find z w differ a h l =
    let e = l.0 in
    let k = l.1 in
    let shown : e 0 ∷ [] ≡ int (pos 10) ∷ [] = k.abstract_state ∙ h in
    let ten : e 0 ≡ int (pos 10) = cc in
    let held : e 1 ∷ [] ≡ int z ∷ [] = k.cells.variables in
    let stored : e 1 ≡ int z = cc in
    let same : is_equal (e 1) (e 0) ≡ true = k.joined.0 in
    let clash : is_equal (int z) (int (pos 10)) ≡ true = subst (λ x. is_equal (int z) x ≡ true) ten (subst (λ x. is_equal x (e 0) ≡ true) stored same) in
    let no : false ≡ true = sym differ ∙ clash in
    cc

old-value : (find : Finder) → Follows find settling wrong_local → ⊥
old-value find f =
    let legal : Legal find settling (call_by_local ∷ []) [] = λ a o e g. refl in
    let good = f.session 5 zeros zeros [] call_by_local [] local_entry (record { begun = begun unsettled to_the_test; calls = tt; call = local-call; done = refl; legal = legal; named = refl }) (Done 5) (config 7 [] (pos 0 ∷ pos 10 ∷ [])) stores-zero in
    not-linked find (pos 0) (pos 10) refl good.0 (reaches-ten find good.0 good.1) good.2

-- ---- a way back that is one instruction short
abbrev wrong_loop : Image
wrong_loop = settling_code settled behind_the_start

loop-call : IsCall settling call_by_loop
loop-call = record { op = omega (arith); types = refl; range = refl }

-- n is 1 after the first turn
abbrev one : List ℤ
one = pos 1 ∷ pos 0 ∷ []

-- so far it does not turn on the way back
first-turn : (back : ℤ) → Leads (settling_code settled back) 10 (started loop_entry call_by_loop zeros) (config 18 [] one)
first-turn back = (
  config 17 (pos 1 ∷ []) zeros,
  (
    config 16 (pos 1 ∷ pos 0 ∷ []) zeros,
    (
      config 15 (pos 0 ∷ []) zeros,
      (
        config 14 [] zeros,
        (
          config 13 (pos 1 ∷ []) zeros,
          (
            config 12 (pos 10 ∷ pos 0 ∷ []) zeros,
            (config 11 (pos 0 ∷ []) zeros, (config 10 [] zeros, (config 9 (pos 0 ∷ []) zeros, (config 8 [] zeros, refl, refl), refl), refl), refl),
            refl,
          ),
          refl,
        ),
        refl,
      ),
      refl,
    ),
    refl,
  ),
  refl,
)

-- after the first turn 10 is pushed without n below it
second-test : Leads wrong_loop 12 (started loop_entry call_by_loop zeros) (config 12 (pos 10 ∷ []) one)
second-test = (config 11 [] one, (config 18 [] one, first-turn behind_the_start, refl), refl)

stuck-stops : (image : Image) (d : Config) → step image d ≡ Stuck → (f : Config) → step image d ≡ GoesOn f → ⊥
stuck-stops image d is f goes = cc

return-stops : (image : Image) (d : Config) → step image d ≡ Returns → (f : Config) → step image d ≡ GoesOn f → ⊥
return-stops image d is f goes = cc

-- what is stuck returns after no number of steps
never-returns : (image : Image) (m n : ℕ) (c d e : Config) → Leads image m c d → step image d ≡ Stuck → Leads image n c e → step image e ≡ Returns → ⊥
never-returns image m n c d e p stuck q returns =
    let up : n ≤ m = not_further image m n c d e p (stuck-stops image d stuck) q in
    let down : m ≤ n = not_further image n m c e d q (return-stops image e returns) p in
    let same : m ≡ n = omega (arith, up, down) in
    let place : d ≡ e = one_place image n c d e (subst (λ k. Leads image k c d) same p) q in
    let no : Stuck ≡ Returns = sym stuck ∙ ap (step image) place ∙ returns in
    cc

short-way-back : (find : Finder) → Follows find settling wrong_loop → ⊥
unfolding begun
short-way-back find f =
    let first = f.opening 5 (Done 3) (config 2 [] zeros) (begun settled behind_the_start).2 in
    let done = (f.local first.0 zeros call_by_loop loop_entry (record { linked = first.2; call = loop-call; pre = λ e g. refl; named = refl })).0 in
    by_steps done.0 done.1 done.2 done.3
  where
    by_steps : (fuel n : ℕ) (d : Config) → Ends wrong_loop fuel (started loop_entry call_by_loop zeros) (Done n) d → ⊥
    by_steps fuel zero d h = h.1
    by_steps fuel (suc n) d h = never-returns wrong_loop 12 n (started loop_entry call_by_loop zeros) (config 12 (pos 10 ∷ []) one) d second-test refl h.1.0 h.1.1

-- ---- no way back
abbrev wrong_turn : Image
wrong_turn = settling_code settled onwards

begun-onwards : IsBegun wrong_turn 12 zeros
begun-onwards = (3, config 2 [] zeros, (omega (arith), ((config 1 (pos 0 ∷ []) zeros, (config 0 [] zeros, refl, refl), refl), refl)), refl)

-- 1 is in n afterwards
turned-once : Ends wrong_turn 12 (started loop_entry call_by_loop zeros) (Done 12) (config 19 [] one)
turned-once = (omega (arith), ((config 18 [] one, first-turn onwards, refl), refl))

loop-reaches-ten : (find : Finder) (a : Abstract) → Reach find settling (call_by_loop ∷ []) ([] ∷ []) a → a ≡ int (pos 10) ∷ []
loop-reaches-ten find a h = sym h.2.5 ∙ ap (λ (s : State). s 0 ∷ []) h.2.3

one-turn : (find : Finder) → Follows find settling wrong_turn → ⊥
one-turn find f =
    let legal : Legal find settling (call_by_loop ∷ []) [] = λ a o e g. refl in
    let good = f.session 12 zeros zeros [] call_by_loop [] loop_entry (record { begun = begun-onwards; calls = tt; call = loop-call; done = refl; legal = legal; named = refl }) (Done 12) (config 19 [] one) turned-once in
    not-linked find (pos 1) (pos 0) refl good.0 (loop-reaches-ten find good.0 good.1) good.2

-- it is the code of IF in place of WHILE
code-of-if : translation (settling_by by_test) ≡ wrong_turn
code-of-if = refl

cells : cell_count (settling_by by_test) ≡ 2
cells = refl

long : length (translation (settling_by by_test)).code ≡ 20
long = refl

no-elements : HasElementsInRange (settling_by by_test)
no-elements s i h = absurd (omega (arith, h))

one-turn-loads : IsLoadable wrong_turn
one-turn-loads = subst IsLoadable code-of-if (translations_load (settling_by by_test) (settling-lawful by_test test-facts) test_in_b0 no-elements (omega (arith, cells)) (omega (arith, long)))

pub wrong_codes_do_not_follow : WrongCodesDoNotFollow
wrong_codes_do_not_follow = record {
  facts = settling_facts;
  in_b0 = settling_in_b0;
  right_code = refl;
  old_value = old-value;
  short_way_back = short-way-back;
  one_turn = one-turn;
  loads = one-turn-loads;
}
