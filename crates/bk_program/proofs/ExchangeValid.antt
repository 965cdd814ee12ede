-- The exchange's five sequents are valid: INITIALISATION and swap of the machine, INITIALISATION, swap and swap.chk of the implementation.
use Rattle.std.proofs.Common.{◌≡◌, ℕ, zero, suc, ℤ, pos, List, [], ◌∷◌, refl, sym, ◌∙◌, Bool, true, not, ◌&&◌, arith}
use Rattle.std.specs.Prelude.{◌-ℤ◌, int_lt, int_le, neg_ℤ, negsuc, map}
use Rattle.bk_limits.specs.declared.TheConstants.{MAXINT}
use Rattle.std.proofs.lemmas.Int.{ints}
use Rattle.bk_val.specs.Value.{MathValue, int}
use Rattle.bk_val.specs.ValueType.{ValueType, int_type, is_value_of, are_of_types}
use Rattle.bk_val.specs.Sets.{has}
use Rattle.bk_val.specs.CmpLaws.{value_eq-self}
use Rattle.bk_form.specs.Table.{Table, set_size}
use Rattle.bk_form.specs.Formula.{Formula, variable, bound, literal, named, btrue, unary, binary, for_all, for_some}
use Rattle.bk_form.specs.declared.operator.UnOp.TheVariants.{Not, Single}
use Rattle.bk_form.specs.declared.operator.BinOp.TheVariants.{And, Imp, Eq, Lt, Le, In, TotalFunctions, Times, Sub}
use Rattle.bk_form.specs.declared.operator.Domain.TheVariants.{Integer, Natural}
use Rattle.bk_form.specs.Search.{Finder, IsSearch}
use Rattle.bk_form.specs.Environment.{Environment, State, at_state, under}
use Rattle.bk_form.specs.Operators.{implies, is_equal, first_part, elements}
use Rattle.bk_form.specs.Meaning.{truth, value, within}
use Rattle.bk_form.proofs.Domains.{total-means, interval-members}
use Rattle.bk_form.proofs.Members.{and-true, and-both}
use Rattle.bk_form.proofs.Truth.{for_all-true, for_some-true}
use Rattle.bk_wp.proofs.Steps.{implies-if}
use Rattle.bk_dev.specs.Flattened.{flattened}
use Rattle.bk_sim.specs.Exchange.{zero_to_two, exchange}
use Rattle.bk_sim.proofs.ExchangeFacts.{exchange_facts, exchange_in_b0}
use Rattle.bk_po.specs.Obligations.{HasValidObligations}
use Rattle.bk_program.specs.Following.{ExchangeIsRight}
use Rattle.bk_program.proofs.Following.{valid_obligations_follow}

-- ---- one number
one-number : (sizes : ℕ → ℕ) (P : List MathValue → Type 0) → ((z : ℤ) → P (int z ∷ [])) → (vs : List MathValue) → are_of_types sizes (int_type ∷ []) vs ≡ true → P vs
one-number sizes P f [] h = absurd (cc)
one-number sizes P f (int z ∷ []) h = f z
one-number sizes P f (int z ∷ w ∷ vs) h = absurd (cc)
one-number sizes P f (v ∷ vs) h = absurd (cc)

natural : (z : ℤ) → int_lt (pos 0) z ≡ true → int_le (pos 0) z ≡ true
natural z h = grind (arith, ints)

abbrev table : Table
table = (flattened exchange).table

abbrev at : State → Environment
at e = at_state table e

abbrev numbers : List ValueType
numbers = int_type ∷ []

-- f : 0..2 --> INTEGER, for this f
abbrev is_array : Formula → Formula
is_array f = binary In f (binary TotalFunctions zero_to_two (named Integer))

-- every quantified formula over one number is true where it is for each
each-number : (find : Finder) → IsSearch find → (e : Environment) (p : Formula) → ((z : ℤ) → truth find (under e numbers (int z ∷ [])) p ≡ true) → truth find e (for_all numbers p) ≡ true
each-number find law e p h = (for_all-true find law e numbers p).1 (one-number (set_size e.table) (λ vs. truth find (under e numbers vs) p ≡ true) h)

some-number : (find : Finder) → IsSearch find → (e : Environment) (v : MathValue) (p : Formula) → is_value_of (set_size e.table) int_type v ≡ true → truth find (under e numbers (v ∷ [])) p ≡ true → truth find e (for_some numbers p) ≡ true
some-number find law e v p t h = (for_some-true find law e numbers p).1 (v ∷ [], and-true (is_value_of (set_size e.table) int_type v) true t refl, h)

-- c = x$0 => btrue
abbrev copied : Formula
copied = binary Imp (binary Eq (bound 0) (variable 0)) btrue

-- c = x$0 & (f : 0..2 --> INTEGER & (x$1 = .. & y$1 = ..))
abbrev joined : Formula → Formula → Formula → Formula → Formula → Formula
joined f a b c d = binary And (binary Eq (bound 0) (variable 0)) (binary And (is_array f) (binary And (binary Eq a b) (binary Eq c d)))

abbrev nought : Formula
nought = literal (pos 0)

abbrev filled : Formula
filled = binary Times zero_to_two (unary Single nought)

-- the loop's five parts, t being bound
abbrev positive : Formula
positive = binary Lt nought (bound 0)

-- 0 <= t & t <= 5
abbrev bounded : Formula → Formula
bounded a = binary And (binary Le nought a) (binary Le a (literal (pos 5)))

abbrev less_one : Formula
less_one = binary Sub (bound 0) (literal (pos 1))

abbrev going : Formula
going = binary And (bounded (bound 0)) positive

abbrev done : Formula
done = binary And (bounded (bound 0)) (unary Not positive)

abbrev answer : Formula
answer = for_some numbers (joined (variable 4) (variable 3) (variable 1) (variable 2) (bound 0))

abbrev looping : Formula
looping = binary And (binary And (binary And (binary And (bounded (literal (pos 5)))
    (for_all numbers (binary Imp going (bounded less_one))))
    (for_all numbers (binary Imp going (binary In (bound 0) (named Natural)))))
    (for_all numbers (binary Imp going (binary Lt less_one (bound 0)))))
    (for_all numbers (binary Imp done answer))

-- ---- numbers
one_less : (w : ℤ) → int_lt (pos 0) w ≡ true → int_le (pos 0) (w -ℤ pos 1) ≡ true
one_less w h = grind (arith, ints)

still_below : (w : ℤ) → int_le w (pos 5) ≡ true → int_le (w -ℤ pos 1) (pos 5) ≡ true
still_below w h = grind (arith, ints)

falls : (w : ℤ) → int_lt (w -ℤ pos 1) w ≡ true
falls w = grind (arith, ints)

not_below : (w : ℤ) → int_le (pos 0) w ≡ true → int_le (neg_ℤ MAXINT) (w -ℤ pos 1) ≡ true
not_below w h = grind (arith, ints)

not_above : (w : ℤ) → int_le w (pos 5) ≡ true → int_le (w -ℤ pos 1) MAXINT ≡ true
not_above w h = grind (arith, ints)

-- 0..2 * {0} is an array
above : (n : ℕ) → int_le (pos (suc (suc (suc n)))) (pos 2) ≡ true → ⊥
above n h = grind (arith, ints)

negative : (n : ℕ) → int_le (pos 0) (negsuc n) ≡ true → ⊥
negative n h = grind (arith, ints)

filled-covers : (find : Finder) (e : Environment) (z : ℤ) → int_le (pos 0) z && int_le z (pos 2) ≡ true → has (map first_part (elements (value find e filled))) (int z) ≡ true
filled-covers find e (pos zero) h = refl
filled-covers find e (pos (suc zero)) h = refl
filled-covers find e (pos (suc (suc zero))) h = refl
filled-covers find e (pos (suc (suc (suc n)))) h = absurd (above n (and-both (int_le (pos 0) (pos (suc (suc (suc n))))) (int_le (pos (suc (suc (suc n)))) (pos 2)) h).1)
filled-covers find e (negsuc n) h = absurd (negative n (and-both (int_le (pos 0) (negsuc n)) (int_le (negsuc n) (pos 2)) h).0)

filled-is-array : (find : Finder) → IsSearch find → (e : Environment) → truth find e (is_array filled) ≡ true
filled-is-array find law e = (total-means find law e zero_to_two (named Integer) (value find e filled)).1 (refl, by_value)
  where
    by_value : (v : MathValue) → is_value_of (set_size e.table) int_type v ≡ true → within find e v zero_to_two ≡ true → has (map first_part (elements (value find e filled))) v ≡ true
    by_value (int z) t w = filled-covers find e z (sym (interval-members.numbers find e (literal (pos 0)) (literal (pos 2)) z) ∙ w)
    by_value v t w = absurd (cc)

machine-init : (find : Finder) → IsSearch find → (e : State) → truth find (at e) (for_all numbers copied) ≡ true
machine-init find law e = each-number find law (at e) copied (λ z. implies-if (is_equal (int z) (e 0)) true (λ k. refl))

code-init : (find : Finder) → IsSearch find → (e : State) → is_value_of (set_size table) int_type (e 0) ≡ true → truth find (at e) (for_some numbers (joined filled nought nought nought nought)) ≡ true
code-init find law e t = some-number find law (at e) (e 0) (joined filled nought nought nought nought) t
    (and-true (is_equal (e 0) (e 0)) (truth find (under (at e) numbers (e 0 ∷ [])) (is_array filled) && true) (value_eq-self (e 0)) (and-true (truth find (under (at e) numbers (e 0 ∷ [])) (is_array filled)) true (filled-is-array find law (under (at e) numbers (e 0 ∷ []))) refl))

abbrev fits : Formula
fits = binary And (binary Le (literal (neg_ℤ MAXINT)) less_one) (binary Le less_one (literal MAXINT))

abbrev checked : Formula
checked = binary And (binary And (binary Le nought (literal (pos 1))) (binary Le (literal (pos 1)) (literal (pos 2)))) (for_all numbers (binary Imp (bounded (bound 0)) (binary Imp positive fits)))

check : (find : Finder) → IsSearch find → (e : State) → truth find (at e) (for_all numbers checked) ≡ true
check find law e = each-number find law (at e) checked (λ z.
    let inner : Environment = under (at e) numbers (int z ∷ []) in
    each-number find law inner (binary Imp (bounded (bound 0)) (binary Imp positive fits)) (λ w.
    let a = int_le (pos 0) w in
    let b = int_le w (pos 5) in
    let low = int_le (neg_ℤ MAXINT) (w -ℤ pos 1) in
    let high = int_le (w -ℤ pos 1) MAXINT in
    implies-if (a && b) (implies (int_lt (pos 0) w) (low && high)) (λ k. implies-if (int_lt (pos 0) w) (low && high) (λ l. let m = and-both a b k in and-true low high (not_below w m.0) (not_above w m.1)))))

-- where f is an array and the links hold
swaps : (find : Finder) → IsSearch find → (e : State) → is_value_of (set_size table) int_type (e 0) ≡ true → truth find (at e) (is_array (variable 4)) ≡ true → is_equal (e 2) (e 0) ≡ true → is_equal (e 3) (e 1) ≡ true → truth find (at e) (for_all numbers looping) ≡ true
swaps find law e t f x y = each-number find law (at e) looping (λ z.
    let inner : Environment = under (at e) numbers (int z ∷ []) in
    let in_bounds : ℤ → Bool = λ w. int_le (pos 0) w && int_le w (pos 5) in
    let before : ℤ → Bool = λ w. in_bounds w && int_lt (pos 0) w in
    let a = each-number find law inner (binary Imp going (bounded less_one)) (λ w. implies-if (before w) (in_bounds (w -ℤ pos 1)) (λ k.
    let m = and-both (in_bounds w) (int_lt (pos 0) w) k in
    let n = and-both (int_le (pos 0) w) (int_le w (pos 5)) m.0 in
    and-true (int_le (pos 0) (w -ℤ pos 1)) (int_le (w -ℤ pos 1) (pos 5)) (one_less w m.1) (still_below w n.1))) in
    let b = each-number find law inner (binary Imp going (binary In (bound 0) (named Natural))) (λ w. implies-if (before w) (int_le (pos 0) w) (λ k. natural w (and-both (in_bounds w) (int_lt (pos 0) w) k).1)) in
    let c = each-number find law inner (binary Imp going (binary Lt less_one (bound 0))) (λ w. implies-if (before w) (int_lt (w -ℤ pos 1) w) (λ k. falls w)) in
    let d = each-number find law inner (binary Imp done answer) (λ w.
    let deep : Environment = under inner numbers (int w ∷ []) in
    implies-if (in_bounds w && not (int_lt (pos 0) w)) (truth find deep answer) (λ k.
    some-number find law deep (e 0) (joined (variable 4) (variable 3) (variable 1) (variable 2) (bound 0)) t
    (and-true (is_equal (e 0) (e 0)) (truth find (at e) (is_array (variable 4)) && (is_equal (e 3) (e 1) && is_equal (e 2) (e 0))) (value_eq-self (e 0))
    (and-true (truth find (at e) (is_array (variable 4))) (is_equal (e 3) (e 1) && is_equal (e 2) (e 0)) f (and-true (is_equal (e 3) (e 1)) (is_equal (e 2) (e 0)) y x))))) in
    λ i. ((a i && b i) && c i) && d i)

pub exchange_is_valid : HasValidObligations exchange
exchange_is_valid = (
  (λ sizes p find law e typed hold. machine-init find law e),
  (
    (λ sizes p find law e typed hold. machine-init find law e),
    (
      (λ sizes p find law e typed hold. code-init find law e (typed.typed 0 int_type refl)),
      (
        (λ sizes p find law e typed hold. swaps find law e (typed.typed 0 int_type refl) hold.0 hold.1.0 hold.1.1.0),
        ((λ sizes p find law e typed hold. check find law e), tt),
      ),
    ),
  ),
)

pub exchange_is_right : ExchangeIsRight
exchange_is_right = record { valid = exchange_is_valid; follows = λ find law. valid_obligations_follow find law exchange exchange_facts exchange_in_b0 exchange_is_valid }
