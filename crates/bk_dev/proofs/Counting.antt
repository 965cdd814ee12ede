-- What the counter reaches.
use Rattle.std.proofs.Common.{◌≡◌, ◌↔◌, ℕ, zero, suc, pos, List, [], ◌∷◌, map, refl, sym, ◌∙◌, ap, subst, true, false}
use Rattle.std.specs.Prelude.{Some}
use Rattle.bk_val.specs.Value.{MathValue, int}
use Rattle.bk_val.specs.ValueType.{ValueType, int_type, is_value_of}
use Rattle.bk_form.specs.Table.{set_size, variable_type}
use Rattle.bk_form.specs.Formula.{Formula, variable, literal, btrue, bfalse}
use Rattle.bk_form.specs.Search.{Finder}
use Rattle.bk_form.specs.Environment.{State, IsTypedState}
use Rattle.bk_gsl.proofs.States.{with_value-typed}
use Rattle.bk_gsl.specs.State.{with_value}
use Rattle.bk_gsl.specs.Run.{assigned}
use Rattle.bk_dev.specs.Development.{inputs_of}
use Rattle.bk_dev.specs.Machine.{Abstract, Call, Opens, Gives, Steps, Reach}
use Rattle.bk_dev.specs.Counter.{counter_table, counter_with, counter, setmax, get}
use Rattle.bk_dev.specs.Laws.{ReachesTen, AnswersTen, LegalWhere}

-- a state of numbers is typed
pub numbers-typed : (e : State) → ((n : ℕ) → is_value_of (set_size counter_table) int_type (e n) ≡ true) → IsTypedState counter_table e
numbers-typed e h = record { typed = at }
  where
    same : (t : ValueType) (n : ℕ) → Some int_type ≡ Some t → is_value_of (set_size counter_table) t (e n) ≡ true
    same t n q = let k : int_type ≡ t = cc in subst (λ x. is_value_of (set_size counter_table) x (e n) ≡ true) k (h n)

    at : (n : ℕ) (t : ValueType) → variable_type counter_table n ≡ Some t → is_value_of (set_size counter_table) t (e n) ≡ true
    at zero t q = same t zero q
    at (suc zero) t q = same t (suc zero) q
    at (suc (suc zero)) t q = same t (suc (suc zero)) q
    at (suc (suc (suc zero))) t q = same t (suc (suc (suc zero))) q
    at (suc (suc (suc (suc n)))) t q = absurd (cc)

-- every variable has this number
pub all_at : ℕ → State
all_at k n = int (pos k)

pub all-typed : (k : ℕ) → IsTypedState counter_table (all_at k)
unfolding all_at
all-typed k = numbers-typed (all_at k) (λ n. refl)

-- one variable has another
abbrev at_ten : State
at_ten n = with_value (all_at 0) 0 (int (pos 10)) n

module _ (find : Finder) (condition : Formula) where
  pub opens-at-zero : Opens find (counter_with condition) (int (pos 0) ∷ [])
  unfolding all_at
  opens-at-zero = (all_at 0, assigned find counter_table ((0, literal (pos 0)) ∷ []) (all_at 0), all-typed 0, tt, refl, refl)

  gives-zero : (c : Call) → map (all_at 0) (inputs_of (counter_with condition) c.op) ≡ c.args → Gives find (counter_with condition) c (int (pos 0) ∷ []) (all_at 0)
  unfolding all_at
  gives-zero c h = record { typed = all-typed 0; values = tt; shown = refl; args = h }

-- ---- setmax
module _ (find : Finder) where
  steps-to-ten : (a us b : List MathValue) → Steps find counter setmax a us b → (us ≡ []) × (b ≡ int (pos 10) ∷ [])
  steps-to-ten a us b q = (sym q.4, sym q.5 ∙ ap (λ (x : State). x 0 ∷ []) q.3)

  ten-reached : (a : Abstract) → a ≡ int (pos 10) ∷ [] → Reach find counter (setmax ∷ []) ([] ∷ []) a
  ten-reached a h =
      let f = assigned find counter_table ((0, literal (pos 10)) ∷ []) (all_at 0) in
      (int (pos 0) ∷ [], opens-at-zero find btrue, (all_at 0, f, gives-zero find btrue setmax refl, refl, refl, sym h))

  reach-setmax : (a : Abstract) → Reach find counter (setmax ∷ []) ([] ∷ []) a ↔ (a ≡ int (pos 10) ∷ [])
  reach-setmax a = ((λ q. (steps-to-ten q.0 [] a q.2).1), (λ h. ten-reached a h))

  -- ---- get after it
  at_ten-typed : IsTypedState counter_table at_ten
  unfolding all_at
  at_ten-typed = with_value-typed counter_table (all_at 0) (all-typed 0) 0 (int (pos 10)) refl

  answer-then : (us : List MathValue) → ((a : Abstract) × Reach find counter (setmax ∷ get ∷ []) ([] ∷ us ∷ []) a) → us ≡ int (pos 10) ∷ []
  answer-then us q =
      let b = q.1.0 in
      let ten : b ≡ int (pos 10) ∷ [] = (reach-setmax b).0 q.1.1 in
      let s = q.1.2 in
      sym s.4 ∙ ap (λ (x : State). x 2 ∷ []) s.3 ∙ s.2.shown ∙ ten

  answer-if : (us : List MathValue) → us ≡ int (pos 10) ∷ [] → (a : Abstract) × Reach find counter (setmax ∷ get ∷ []) ([] ∷ us ∷ []) a
  answer-if us h =
      let ten = int (pos 10) ∷ [] in
      let f = assigned find counter_table ((2, variable 0) ∷ []) at_ten in
      let given : Gives find counter get ten at_ten = record { typed = at_ten-typed; values = tt; shown = refl; args = refl } in
      (ten, (ten, ten-reached ten refl, (at_ten, f, given, refl, sym h, refl)))

  reach-get : (us : List MathValue) → ((a : Abstract) × Reach find counter (setmax ∷ get ∷ []) ([] ∷ us ∷ []) a) ↔ (us ≡ int (pos 10) ∷ [])
  reach-get us = (answer-then us, answer-if us)

pub reaches-ten : ReachesTen
reaches-ten find a = reach-setmax find a

pub answers-ten : AnswersTen
answers-ten find us = reach-get find us

pub legal-where : LegalWhere
legal-where = record {
  allowed = λ find a o e g. refl;
  not_allowed = λ find l. let q : false ≡ true = l (int (pos 0) ∷ []) (opens-at-zero find bfalse) (all_at 0) (gives-zero find bfalse setmax refl) in cc;
}
