-- The exchange keeps its invariant, and its implementation carries it: the loop runs five times and changes t alone.
use Rattle.std.proofs.Common.{◌≡◌, inr, ◌<◌, ◌≤◌, ℕ, zero, suc, ℤ, pos, negsuc, [], ◌∷◌, length, refl, sym, ◌∙◌, ap, Bool, true, false, cond, ◌&&◌, ◌||◌, nat_eq, arith}
use Rattle.std.specs.Prelude.{◌-ℤ◌, int_lt, int_le, map}
use Rattle.std.proofs.lemmas.Int.{ints}
use Rattle.bk_val.specs.Value.{MathValue, int}
use Rattle.bk_val.specs.ValueType.{int_type, is_value_of}
use Rattle.bk_val.specs.Sets.{has}
use Rattle.bk_val.specs.CmpLaws.{value_eq-self}
use Rattle.bk_form.specs.Table.{Table, set_size}
use Rattle.bk_form.specs.Formula.{Formula, variable, literal, named, binary}
use Rattle.bk_form.specs.declared.operator.BinOp.TheVariants.{TotalFunctions, Apply}
use Rattle.bk_form.specs.declared.operator.Domain.TheVariants.{Integer}
use Rattle.bk_form.specs.Search.{Finder, IsSearch}
use Rattle.bk_form.specs.Environment.{Environment, State, at_state, IsTypedState}
use Rattle.bk_form.specs.Operators.{number_in, is_equal, elements, first_part}
use Rattle.bk_form.specs.Meaning.{value, within}
use Rattle.bk_form.specs.Predicates.{AllHold}
use Rattle.bk_form.specs.Defined.{Defined, is_in_int}
use Rattle.bk_form.proofs.Domains.{total-means, interval-members}
use Rattle.bk_form.proofs.Members.{and-true, and-both}
use Rattle.bk_gsl.specs.State.{holds, value_at, with_values, over, among}
use Rattle.bk_gsl.specs.Run.{Runs, Ends, Turns, Bounded, assigned}
use Rattle.bk_gsl.specs.Clean.{Clean, Reached}
use Rattle.bk_gsl.proofs.States.{clash}
use Rattle.bk_dev.specs.Development.{Development, int_max, level_at, body_at, whole}
use Rattle.bk_dev.specs.Hypotheses.{unasserted_hypotheses}
use Rattle.bk_dev.specs.Flattened.{flattened}
use Rattle.bk_dev.specs.Claims.{Establishes, KeepsFlat, Keeps, Answered, CarriesFlat, Carries, ValuesMeet, arrays_at}
use Rattle.bk_sim.specs.Exchange.{set_to, zero_to_two, is_positive, one_less, counting_down, swapping_steps, swapping, all_zero, code_level, exchange}

-- ---- one less
less : (n : ℕ) → (pos (suc n) -ℤ pos 1) ≡ pos n
less n = grind (arith, ints)

-- one less than a number up to five is a number of the machine
fits-less : (n : ℕ) → n ≤ 5 → is_in_int (int_max exchange) (pos n -ℤ pos 1) ≡ true
fits-less zero h = refl
fits-less (suc zero) h = refl
fits-less (suc (suc zero)) h = refl
fits-less (suc (suc (suc zero))) h = refl
fits-less (suc (suc (suc (suc zero)))) h = refl
fits-less (suc (suc (suc (suc (suc zero))))) h = refl
fits-less (suc (suc (suc (suc (suc (suc n)))))) h = absurd (omega (arith, h))

-- ---- 0..2 * {0} is an array
above : (n : ℕ) → int_le (pos (suc (suc (suc n)))) (pos 2) ≡ true → ⊥
above n h = grind (arith, ints)

negative : (n : ℕ) → int_le (pos 0) (negsuc n) ≡ true → ⊥
negative n h = grind (arith, ints)

module _ (find : Finder) (law : IsSearch find) where
  abbrev arrow : Formula
  arrow = binary TotalFunctions zero_to_two (named Integer)

  covers : (e : Environment) (z : ℤ) → int_le (pos 0) z && int_le z (pos 2) ≡ true → has (map first_part (elements (value find e all_zero))) (int z) ≡ true
  covers e (pos zero) h = refl
  covers e (pos (suc zero)) h = refl
  covers e (pos (suc (suc zero))) h = refl
  covers e (pos (suc (suc (suc n)))) h = absurd (above n (and-both (int_le (pos 0) (pos (suc (suc (suc n))))) (int_le (pos (suc (suc (suc n)))) (pos 2)) h).1)
  covers e (negsuc n) h = absurd (negative n (and-both (int_le (pos 0) (negsuc n)) (int_le (negsuc n) (pos 2)) h).0)

  is-array : (e : Environment) → within find e (value find e all_zero) arrow ≡ true
  is-array e = (total-means find law e zero_to_two (named Integer) (value find e all_zero)).1 (refl, by_value)
    where
      by_value : (v : MathValue) → is_value_of (set_size e.table) int_type v ≡ true → within find e v zero_to_two ≡ true → has (map first_part (elements (value find e all_zero))) v ≡ true
      by_value (int z) t w = covers e z (sym (interval-members.numbers find e (literal (pos 0)) (literal (pos 2)) z) ∙ w)
      by_value v t w = absurd (cc)

  abbrev flat : Development
  flat = flattened exchange

  abbrev table : Table
  table = flat.table

  -- ---- the machine keeps its invariant
  conditions : (o : ℕ) → o < 1 → (e : State) → Defined find (at_state table e) (body_at flat 0 o).condition
  conditions zero h e = tt
  conditions (suc o) h e = absurd (omega (arith, h))

  kept : (o : ℕ) → o < 1 → (e : State) → Establishes find flat 0 (body_at flat 0 o).sub e (λ f. holds find table f (level_at flat 0).invariant ≡ true)
  kept zero h e = record { ends = λ vs a g. (tt, λ k r. tt); clean = λ vs a. ((tt, tt, refl), λ g. ((tt, tt), λ k r. (tt, tt))); results = λ f r. refl }
  kept (suc o) h e = absurd (omega (arith, h))

  keeps : KeepsFlat find flat
  keeps = record {
    init = λ e t h. record { ends = λ vs a g. (tt, λ k r. tt); clean = λ vs a. ((tt, tt, refl), λ g. ((tt, tt), λ k r. (tt, tt))); results = λ f r. refl };
    conditions = λ o l e s. conditions o l e;
    operations = λ o l e s c. kept o l e;
  }

  -- ---- the loop
  abbrev turn : State → State → Type 0
  turn e f = Runs find table (set_to 5 one_less) e f

  abbrev test : State → Bool
  test e = holds find table e is_positive

  test-at : (e : State) (n : ℕ) → e 5 ≡ int (pos n) → test e ≡ int_lt (pos 0) (pos n)
  test-at e n h = ap (λ v. int_lt (pos 0) (number_in v)) h

  turned : (e f : State) (n : ℕ) → e 5 ≡ int (pos (suc n)) → turn e f → f 5 ≡ int (pos n)
  turned e f n h r = ap (λ (s : State). s 5) r ∙ ap (λ v. int (number_in v -ℤ pos 1)) h ∙ ap int (less n)

  bounded : (n : ℕ) (e : State) → e 5 ≡ int (pos n) → Bounded (Runs find table (set_to 5 one_less)) (Ends find table (set_to 5 one_less)) (λ x. holds find table x is_positive) n e
  bounded zero e h = test-at e 0 h
  bounded (suc n) e h = inr (tt, λ f r. bounded n f (turned e f n h r))

  -- at each turn t is a number up to five
  record IsUpToFive (f : State) : Type 0 where
    at : ℕ
    few : at ≤ 5
    is : f 5 ≡ int (pos at)

  reached : (n k : ℕ) (e f : State) → k ≤ 5 → e 5 ≡ int (pos k) → Reached (Runs find table (set_to 5 one_less)) (λ x. holds find table x is_positive) n e f → IsUpToFive f
  reached zero k e f few h r = record { at = k; few = few; is = ap (λ (s : State). s 5) r ∙ h }
  reached (suc n) zero e f few h r = clash (test e) r.0 (test-at e 0 h)
  reached (suc n) (suc k) e f few h r = reached n k r.1.0 f (omega (arith, few)) (turned e r.1.0 k h r.1.1) r.1.2

  -- an assignment to one variable leaves the others
  stays : (y : ℕ) (t : Formula) (e : State) (x : ℕ) → nat_eq x y ≡ false → assigned find table ((y, t) ∷ []) e x ≡ e x
  stays y t e x h = ap (λ b. value_at find table e (cond b t (variable x))) h

  loop-stays : (n : ℕ) (e f : State) → Turns (Runs find table (set_to 5 one_less)) (λ x. holds find table x is_positive) n e f → (x : ℕ) → nat_eq x 5 ≡ false → f x ≡ e x
  loop-stays zero e f r x h = ap (λ (s : State). s x) r.1
  loop-stays (suc n) e f r x h = loop-stays n r.1.0 f r.1.2 x h ∙ ap (λ (s : State). s x) r.1.1 ∙ stays 5 one_less e x h

  loop-clean : (e : State) → e 5 ≡ int (pos 5) → Clean find table (arrays_at flat 1) counting_down e
  loop-clean e h n f r =
      let w = reached n 5 e f (omega arith) h r in
      let fits : is_in_int (int_max exchange) (number_in (f 5) -ℤ pos 1) ≡ true = ap (λ v. is_in_int (int_max exchange) (number_in v -ℤ pos 1)) w.is ∙ fits-less w.at w.few in
      (((tt, tt, refl), λ q. (tt, tt, refl)), (tt, tt, refl), λ q. (((tt, tt, fits), tt), tt))

  -- ---- the initialisation
  opened : (e f : State) → IsTypedState table e → Runs find table code_level.init e f → Answered find flat 1 (level_at flat 0).init [] [] f
  opened e f t r =
      let x : f 2 ≡ int (pos 0) = ap (λ (s : State). s 2) r.2.2 ∙ ap (λ (s : State). s 2) r.2.1 ∙ ap (λ (s : State). s 2) r.1 in
      let y : f 3 ≡ int (pos 0) = ap (λ (s : State). s 3) r.2.2 ∙ ap (λ (s : State). s 3) r.2.1 in
      let a : f 4 ≡ value find (at_state table r.2.0) all_zero = ap (λ (s : State). s 4) r.2.2 in
      let z : f 0 ≡ e 0 = ap (λ (s : State). s 0) r.2.2 ∙ ap (λ (s : State). s 0) r.2.1 ∙ ap (λ (s : State). s 0) r.1 in
      let typed : is_value_of (set_size table) int_type (f 0) ≡ true = ap (is_value_of (set_size table) int_type) z ∙ t.typed 0 int_type refl in
      let start : State = with_values f (6 ∷ []) (f 0 ∷ []) in
      let middle : State = assigned find table ((0, literal (pos 0)) ∷ []) start in
      let end : State = assigned find table ((1, literal (pos 0)) ∷ []) middle in
      let g : State = over (among (6 ∷ [])) f end in (
        g,
        (f 0 ∷ [], and-true (is_value_of (set_size table) int_type (f 0)) true typed refl, (end, (value_eq-self (f 0), (middle, refl, refl)), refl)),
        (ap (λ v. within find (at_state table g) v arrow) a ∙ is-array (at_state table g), (ap (λ v. is_equal v (int (pos 0))) x, (ap (λ v. is_equal v (int (pos 0))) y, tt))),
      )

  -- ---- the operation
  module _ (e f : State) (t : IsTypedState table e) (array : within find (at_state table e) (e 4) arrow ≡ true) (first : is_equal (e 2) (e 0) ≡ true) (second : is_equal (e 3) (e 1) ≡ true) where
    -- from the values that x, y and the rest have afterwards
    answered : f 2 ≡ e 3 → f 3 ≡ e 2 → ((n : ℕ) → nat_eq n 2 ≡ false → nat_eq n 3 ≡ false → nat_eq n 5 ≡ false → f n ≡ e n) → Answered find flat 1 (body_at flat 0 0).sub [] [] f
    answered x y others =
        let above_x : f 0 ≡ e 0 = others 0 refl refl refl in
        let above_y : f 1 ≡ e 1 = others 1 refl refl refl in
        let a : f 4 ≡ e 4 = others 4 refl refl refl in
        let typed : is_value_of (set_size table) int_type (f 0) ≡ true = ap (is_value_of (set_size table) int_type) above_x ∙ t.typed 0 int_type refl in
        let start : State = with_values f (7 ∷ []) (f 0 ∷ []) in
        let middle : State = assigned find table ((0, variable 1) ∷ []) start in
        let end : State = assigned find table ((1, variable 7) ∷ []) middle in
        let g : State = over (among (7 ∷ [])) f end in (
          g,
          (f 0 ∷ [], and-true (is_value_of (set_size table) int_type (f 0)) true typed refl, (end, (value_eq-self (f 0), (middle, refl, refl)), refl)),
          (ap (λ v. within find (at_state table g) v arrow) a ∙ array, ((λ i. is_equal (x i) (above_y i)) ∙ second, ((λ i. is_equal (y i) (above_x i)) ∙ first, tt))),
        )

    -- t := x ; x := y ; y := t ; t := f(1) ; t := 5 ; WHILE .. END
    module _ (v : MathValue) (k : State) (run : Runs find table swapping_steps (with_values e (5 ∷ []) (v ∷ [])) k) (put : f ≡ over (among (5 ∷ [])) e k) where
      out : (n : ℕ) → nat_eq n 5 ≡ false → f n ≡ k n
      out n h = ap (λ (s : State). s n) put ∙ ap (λ b. cond (b || false) (e n) (k n)) h

      -- the loop and what is before it, from y := t on
      after : (n : ℕ) → nat_eq n 5 ≡ false → k n ≡ run.2.2.0 n
      after n h =
          let read = run.2.2.2 in
          let five = read.2 in
          let loop = five.2 in
          loop-stays loop.0 five.0 k loop.1 n h ∙ ap (λ (s : State). s n) five.1 ∙ stays 5 (literal (pos 5)) read.0 n h ∙ ap (λ (s : State). s n) read.1 ∙ stays 5 (binary Apply (variable 4) (literal (pos 1))) run.2.2.0 n h

      new-x : f 2 ≡ e 3
      new-x = out 2 refl ∙ after 2 refl ∙ ap (λ (s : State). s 2) run.2.2.1 ∙ ap (λ (s : State). s 2) run.2.1 ∙ ap (λ (s : State). s 3) run.1

      new-y : f 3 ≡ e 2
      new-y = out 3 refl ∙ after 3 refl ∙ ap (λ (s : State). s 3) run.2.2.1 ∙ ap (λ (s : State). s 5) run.2.1 ∙ ap (λ (s : State). s 5) run.1

      others : (n : ℕ) → nat_eq n 2 ≡ false → nat_eq n 3 ≡ false → nat_eq n 5 ≡ false → f n ≡ e n
      others n p q h = out n h ∙ after n h ∙ ap (λ (s : State). s n) run.2.2.1 ∙ stays 3 (variable 5) run.2.0 n q ∙ ap (λ (s : State). s n) run.2.1 ∙ stays 2 (variable 3) run.0 n p
          ∙ ap (λ (s : State). s n) run.1 ∙ stays 5 (variable 2) (with_values e (5 ∷ []) (v ∷ [])) n h ∙ ap (λ b. cond b v (e n)) h

      swapped-one : Answered find flat 1 (body_at flat 0 0).sub [] [] f
      swapped-one = answered new-x new-y others

    swapped : Runs find table swapping e f → Answered find flat 1 (body_at flat 0 0).sub [] [] f
    swapped ([], typed, run) = absurd (cc)
    swapped (v ∷ [], typed, run) = swapped-one v run.0 run.1 run.2
    swapped (v ∷ w ∷ vs, typed, run) =
        let no : false ≡ true = (and-both (is_value_of (set_size table) int_type v) false typed).1 in
        absurd (cc no)

  carried : (o : ℕ) → o < 1 → (e : State) → IsTypedState table e → AllHold find (at_state table e) (unasserted_hypotheses flat 1 o) → Establishes find flat 1 (whole (body_at flat 1 o)) e (Answered find flat 1 (body_at flat 0 o).sub (body_at flat 1 o).outputs (body_at flat 0 o).outputs)
  carried zero l e t h = record {
    ends = λ vs a. (tt, λ g p. (tt, λ k q. (tt, λ m r. (tt, λ n s. (tt, λ x y. (5, bounded 5 x (ap (λ (z : State). z 5) y)))))));
    clean = λ vs a. ((tt, tt), λ g p. ((tt, tt), λ k q. ((tt, tt), λ m r. (((tt, tt, refl), tt), λ n s. ((tt, tt), λ x y. loop-clean x (ap (λ (z : State). z 5) y))))));
    results = λ f r. swapped e f t h.0 h.1.0 h.1.1.0 r;
  }
  carried (suc o) l e t h = absurd (omega (arith, l))

  carries : CarriesFlat find flat 0
  carries = record {
    init = λ e t h. record { ends = (tt, λ g r. (tt, λ k q. tt)); clean = ((tt, tt), λ g r. ((tt, tt), λ k q. (((tt, tt, refl), tt, refl), tt))); results = λ f r. opened e f t r };
    operations = λ o l e t h. carried o l e t h;
  }

pub exchange_keeps : (find : Finder) → IsSearch find → Keeps find exchange
exchange_keeps find law = keeps find law

pub exchange_carries : (find : Finder) → IsSearch find → (j : ℕ) → suc j < length exchange.levels → Carries find exchange j
exchange_carries find law zero h = carries find law
exchange_carries find law (suc j) h = absurd (omega (arith, h))

pub exchange_meets : (find : Finder) → ValuesMeet find exchange
exchange_meets find e t v = tt
