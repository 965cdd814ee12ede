-- The counter's translation follows it.
use Rattle.std.proofs.Common.{◌≡◌, ℕ, zero, suc, ℤ, pos, List, [], ◌∷◌, map, refl, sym, ◌∙◌, ap, subst, true, false, arith}
use Rattle.bk_val.specs.Value.{MathValue, int}
use Rattle.bk_val.specs.CmpLaws.{same_value}
use Rattle.bk_form.specs.Formula.{variable, literal, btrue}
use Rattle.bk_form.specs.Search.{Finder}
use Rattle.bk_form.specs.Environment.{State, IsTypedState, at_state}
use Rattle.bk_gsl.specs.State.{with_value}
use Rattle.bk_gsl.specs.Run.{assigned}
use Rattle.bk_gsl.proofs.States.{with_value-typed}
use Rattle.bk_dev.specs.Development.{inputs_of}
use Rattle.bk_dev.specs.Hypotheses.{joinings_of}
use Rattle.bk_form.specs.Predicates.{AllHold}
use Rattle.bk_dev.specs.Machine.{Abstract, Opens, Call, IsCall, Gives}
use Rattle.bk_dev.specs.Counter.{counter_table, counter}
use Rattle.bk_dev.proofs.Counting.{numbers-typed, opens-at-zero}
use Rattle.bk_code.specs.declared.image.Image.{Image}
use Rattle.bk_code.specs.declared.image.OpEntry.{OpEntry}
use Rattle.bk_code.specs.Step.{Config}
use Rattle.bk_code.specs.Run.{ReturnsAfter}
use Rattle.bk_code.specs.Session.{first_start}
use Rattle.bk_sim.specs.Shown.{AreOfKinds}
use Rattle.bk_sim.specs.Shows.{Linked}
use Rattle.bk_sim.specs.Follows.{IsEntry, started, GoesWell, IsDone, IsStep, HasOperations, OpensWell, CallsGoWell}
use Rattle.bk_sim.specs.CounterCode.{counter_code, reset_entry, setmax_entry, get_entry}
use Rattle.bk_sim.specs.Laws.{TranslationFollows}
use Rattle.bk_sim.proofs.Chain.{calls_decide}
use Rattle.bk_sim.proofs.Ends.{done-well}

abbrev ten : Image
ten = counter_code 10

abbrev config : ℕ → List ℤ → List ℤ → Config
config n stack cells = record { place = n; stack = stack; cells = cells }

operations : HasOperations counter ten
operations zero h = (reset_entry, refl, refl, refl)
operations (suc zero) h = (setmax_entry, refl, refl, refl)
operations (suc (suc zero)) h = (get_entry, refl, refl, refl)
operations (suc (suc (suc n))) h = absurd (omega (arith))

-- ---- the cells
-- there are two
two : (m : List ℤ) → AreOfKinds counter (1 ∷ 3 ∷ []) m → (z : ℤ) × (r : ℤ) × (m ≡ z ∷ r ∷ [])
two [] q = absurd (let k : 0 ≡ 1 = q.0 in omega (arith))
two (z ∷ []) q = absurd (let k : 0 ≡ 1 = q.2.0 in omega (arith))
two (z ∷ r ∷ []) q = (z, r, refl)
two (z ∷ r ∷ x ∷ m) q = absurd q.2.2

-- a state with n at both levels
abbrev both : ℕ → State → State
both n e = with_value (with_value e 0 (int (pos n))) 1 (int (pos n))

-- a call without arguments
abbrev asked : ℕ → Call
asked op = record { op = op; args = [] }

module _ (find : Finder) where
  linked-to : (e : State) (n : ℕ) (r : ℤ) → IsTypedState counter_table e → AreOfKinds counter (1 ∷ 3 ∷ []) (pos n ∷ r ∷ []) → AllHold find (at_state counter_table (both n e)) (joinings_of counter 2) → Linked find counter (int (pos n) ∷ []) (pos n ∷ r ∷ [])
  linked-to e n r t kinds joined = (
    both n e,
    record {
      typed = with_value-typed counter_table (with_value e 0 (int (pos n))) (with_value-typed counter_table e t 0 (int (pos n)) refl) 1 (int (pos n)) refl;
      values = tt;
      abstract_state = refl;
      cells = record { kinds = kinds; variables = refl };
      joined = joined;
    },
  )

  opening : OpensWell find counter ten
  opening fuel =
      let zero-linked : Linked find counter (int (pos 0) ∷ []) (pos 0 ∷ pos 0 ∷ []) = linked-to (λ n. int (pos 0)) 0 (pos 0) (numbers-typed (λ n. int (pos 0)) (λ n. refl)) (refl, refl, (refl, refl, tt)) (refl, (refl, (refl, tt))) in
      done-well ten (first_start ten) (λ m. (a : Abstract) × Opens find counter a × Linked find counter a m) 3 (config 2 [] (pos 0 ∷ pos 0 ∷ [])) ((config 1 (pos 0 ∷ []) (pos 0 ∷ pos 0 ∷ []), (config 0 [] (pos 0 ∷ pos 0 ∷ []), refl, refl), refl), refl) (int (pos 0) ∷ [], opens-at-zero find btrue, zero-linked) fuel

  GoesOn : Abstract → List ℤ → Call → OpEntry → Type 0
  GoesOn a m c entry = IsDone ten (started entry c m) × ((fuel : ℕ) → GoesWell ten fuel (started entry c m) (IsStep find counter c entry a))

  goes-on : (a : Abstract) (m : List ℤ) (c : Call) (entry : OpEntry) (d : Config) → ReturnsAfter ten 3 (started entry c m) d → IsStep find counter c entry a d.cells → GoesOn a m c entry
  unfolding GoesOn
  goes-on a m c entry d r p = ((3, 3, d, (omega (arith), r)), λ fuel. done-well ten (started entry c m) (IsStep find counter c entry a) 3 d r p fuel)

  gives : (a : Abstract) (m : List ℤ) (op : ℕ) → inputs_of counter op ≡ [] → (l : Linked find counter a m) → Gives find counter (asked op) a l.0
  gives a m op none l = record { typed = l.1.typed; values = tt; shown = l.1.abstract_state; args = ap (λ xs. map l.0 xs) none }

  -- reset and setmax
  resets : (a : Abstract) (z r : ℤ) → Linked find counter a (z ∷ r ∷ []) → GoesOn a (z ∷ r ∷ []) (asked 0) reset_entry
  resets a z r l = goes-on a (z ∷ r ∷ []) (asked 0) reset_entry (config 5 [] (pos 0 ∷ r ∷ [])) ((config 4 (pos 0 ∷ []) (z ∷ r ∷ []), (config 3 [] (z ∷ r ∷ []), refl, refl), refl), refl)
      (int (pos 0) ∷ [], (l.0, assigned find counter_table ((0, literal (pos 0)) ∷ []) l.0, gives a (z ∷ r ∷ []) 0 refl l, refl, refl, refl), linked-to l.0 0 r l.1.typed (refl, refl, l.1.cells.kinds.2) (refl, (refl, (refl, tt))))

  sets : (a : Abstract) (z r : ℤ) → Linked find counter a (z ∷ r ∷ []) → GoesOn a (z ∷ r ∷ []) (asked 1) setmax_entry
  sets a z r l = goes-on a (z ∷ r ∷ []) (asked 1) setmax_entry (config 8 [] (pos 10 ∷ r ∷ [])) ((config 7 (pos 10 ∷ []) (z ∷ r ∷ []), (config 6 [] (z ∷ r ∷ []), refl, refl), refl), refl)
      (int (pos 10) ∷ [], (l.0, assigned find counter_table ((0, literal (pos 10)) ∷ []) l.0, gives a (z ∷ r ∷ []) 1 refl l, refl, refl, refl), linked-to l.0 10 r l.1.typed (refl, refl, l.1.cells.kinds.2) (refl, (refl, (refl, tt))))

  -- n of the machine is the number of the first cell
  first-cell : (a : Abstract) (z r : ℤ) (l : Linked find counter a (z ∷ r ∷ [])) → l.0 0 ≡ int z
  first-cell a z r l =
      let held : l.0 1 ∷ [] ≡ int z ∷ [] = l.1.cells.variables in
      let below : l.0 1 ≡ int z = cc in
      sym (same_value (l.0 1) (l.0 0) l.1.joined.1.1.0) ∙ below

  gets : (a : Abstract) (z r : ℤ) → Linked find counter a (z ∷ r ∷ []) → GoesOn a (z ∷ r ∷ []) (asked 2) get_entry
  gets a z r l = goes-on a (z ∷ r ∷ []) (asked 2) get_entry (config 11 [] (z ∷ z ∷ [])) ((config 10 (z ∷ []) (z ∷ r ∷ []), (config 9 [] (z ∷ r ∷ []), refl, refl), refl), refl) (
    a,
    (l.0, assigned find counter_table ((2, variable 0) ∷ []) l.0, gives a (z ∷ r ∷ []) 2 refl l, refl, ap (λ v. v ∷ []) (first-cell a z r l), l.1.abstract_state),
    (
      l.0,
      record {
        typed = l.1.typed;
        values = tt;
        abstract_state = l.1.abstract_state;
        cells = record { kinds = (refl, l.1.cells.kinds.1, (refl, l.1.cells.kinds.1, tt)); variables = l.1.cells.variables };
        joined = l.1.joined;
      },
    ),
  )

  by_op : (a : Abstract) (z r : ℤ) (op : ℕ) (args : List MathValue) (entry : OpEntry) → Linked find counter a (z ∷ r ∷ []) → IsCall counter (record { op = op; args = args }) → IsEntry ten op entry → GoesOn a (z ∷ r ∷ []) (record { op = op; args = args }) entry
  by_op a z r zero [] entry l is e = let k : reset_entry ≡ entry = cc in subst (λ x. GoesOn a (z ∷ r ∷ []) (asked 0) x) k (resets a z r l)
  by_op a z r zero (v ∷ vs) entry l is e = absurd (let k : false ≡ true = is.types in cc)
  by_op a z r (suc zero) [] entry l is e = let k : setmax_entry ≡ entry = cc in subst (λ x. GoesOn a (z ∷ r ∷ []) (asked 1) x) k (sets a z r l)
  by_op a z r (suc zero) (v ∷ vs) entry l is e = absurd (let k : false ≡ true = is.types in cc)
  by_op a z r (suc (suc zero)) [] entry l is e = let k : get_entry ≡ entry = cc in subst (λ x. GoesOn a (z ∷ r ∷ []) (asked 2) x) k (gets a z r l)
  by_op a z r (suc (suc zero)) (v ∷ vs) entry l is e = absurd (let k : false ≡ true = is.types in cc)
  by_op a z r (suc (suc (suc n))) args entry l is e = absurd (cc)

  calls : CallsGoWell find counter ten
  unfolding GoesOn
  calls a m c entry h =
      let q = two m h.linked.1.cells.kinds in
      subst (λ x. Linked find counter a x → GoesOn a x c entry) (sym q.2) (λ k. by_op a q.0 q.1 c.op c.args entry k h.call h.named) h.linked

pub translation_follows : TranslationFollows
translation_follows find = calls_decide find counter ten operations (opening find) (calls find)
