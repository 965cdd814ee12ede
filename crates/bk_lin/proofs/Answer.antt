-- What is wrong with a certificate, told by its lines; and where nothing is, the given facts contradict each other.
use Rattle.std.proofs.Common.{◌≡◌, ℕ, zero, suc, ◌+◌, ◌-◌, ◌<◌, ℤ, pos, ◌<ℤ◌, List, [], ◌∷◌, ◌++◌, take, length, All, slice_get, Option, Some, None, refl, ap, sym, ◌∙◌, arith, Bool, true, false, ◌&&◌, cond, nat_lt}
use Rattle.std.specs.Prelude.{int_lt}
use Rattle.std.specs.Option.{option_and_then, option_or}
use Rattle.std.specs.List.{list_all}
use Rattle.std.specs.Ordering.{int_eq}
use Rattle.std.proofs.lemmas.Int.{ints}
use Rattle.std.proofs.lemmas.Bool.Decides.{nat_tests}
use Rattle.std.proofs.lemmas.List.{length-map}
use Rattle.std.proofs.lemmas.List.Elements.{All-push, All-head, All-tail, All-nil, All-cons}
use Rattle.bk_lin.specs.declared.fact.Fact.{Fact}
use Rattle.bk_lin.specs.declared.fact.Line.{Line}
use Rattle.bk_lin.specs.declared.fact.CertFault.{CertFault}
use Rattle.bk_lin.specs.declared.fact.CertFault.TheVariants.{NotClosed}
use Rattle.bk_lin.specs.Inequality.{Inequality, IsTrueOf, IsContradiction}
use Rattle.bk_lin.specs.Certificate.{inequality_of, inequalities, width_of, fact_at, line_fact, line_fault, facts_after, IsRight, IsFirstFault, IsClosed}
use Rattle.bk_lin.specs.Answer.{first_fault, is_contradiction, is_closed, certificate_fault}
use Rattle.bk_lin.proofs.Sound.{IsTrueOf-line_fact, not_true_contradiction, IsTrueOf-fact_at}

-- ---- the first fault, by the place of its line
-- what is wrong with the line at a place, where the first line has this number
abbrev fault_from : ℕ → ℕ → List Inequality → List Line → ℕ → Option CertFault
fault_from width number standing cert k =
    option_and_then (λ line. line_fault width (k + number) (facts_after width standing (take k cert)) line) (slice_get cert k)

one_on : (width number : ℕ) (standing : List Inequality) (l : Line) (ls : List Line) (k : ℕ) → fault_from width number standing (l ∷ ls) (suc k) ≡ fault_from width (number + 1) (standing ++ line_fact width standing l ∷ []) ls k
one_on width number standing l ls k =
    let same : suc k + number ≡ k + (number + 1) = omega arith in
    ap (λ n. option_and_then (λ line. line_fault width n (facts_after width (standing ++ line_fact width standing l ∷ []) (take k ls)) line) (slice_get ls k)) same

at_front : (width number : ℕ) (standing : List Inequality) (l : Line) (ls : List Line) → line_fault width number standing l ≡ fault_from width number standing (l ∷ ls) 0
at_front width number standing l ls = let same : number ≡ 0 + number = omega arith in ap (λ n. line_fault width n standing l) same

first_fault-at : (width number : ℕ) (standing : List Inequality) (cert : List Line) (k : ℕ) (e : CertFault) → ((j : ℕ) → j < k → fault_from width number standing cert j ≡ None) → fault_from width number standing cert k ≡ Some e → first_fault width number standing cert ≡ Some e
first_fault-at width number standing [] k e before here = absurd (cc)
first_fault-at width number standing (l ∷ ls) zero e before here =
    ap (λ o. option_or o (first_fault width (number + 1) (standing ++ line_fact width standing l ∷ []) ls)) (at_front width number standing l ls ∙ here)
first_fault-at width number standing (l ∷ ls) (suc k) e before here =
    ap (λ o. option_or o (first_fault width (number + 1) (standing ++ line_fact width standing l ∷ []) ls)) (at_front width number standing l ls ∙ before 0 (omega arith))
    ∙ first_fault-at width (number + 1) (standing ++ line_fact width standing l ∷ []) ls k e
    (λ j h. sym (one_on width number standing l ls j) ∙ before (suc j) (omega arith))
    (sym (one_on width number standing l ls k) ∙ here)

first_fault-none : (width number : ℕ) (standing : List Inequality) (cert : List Line) → ((k : ℕ) → k < length cert → fault_from width number standing cert k ≡ None) → first_fault width number standing cert ≡ None
first_fault-none width number standing [] right = refl
first_fault-none width number standing (l ∷ ls) right =
    ap (λ o. option_or o (first_fault width (number + 1) (standing ++ line_fact width standing l ∷ []) ls)) (at_front width number standing l ls ∙ right 0 (omega arith))
    ∙ first_fault-none width (number + 1) (standing ++ line_fact width standing l ∷ []) ls
    (λ k h. sym (one_on width number standing l ls k) ∙ right (suc k) (omega arith))

-- ---- the last fact
both-true : (a b : Bool) → a ≡ true → b ≡ true → (a && b) ≡ true
both-true true b h k = k
both-true false b h k = cc

left-true : (a b : Bool) → (a && b) ≡ true → a ≡ true
left-true true b h = refl
left-true false b h = cc

right-true : (a b : Bool) → (a && b) ≡ true → b ≡ true
right-true true b h = h
right-true false b h = cc

int_eq-then : (a b : ℤ) → int_eq a b ≡ true → a ≡ b
int_eq-then a b h = grind (arith, ints)

int_eq-if : (a b : ℤ) → a ≡ b → int_eq a b ≡ true
int_eq-if a b h = grind (arith, ints)

int_lt-then : (a b : ℤ) → int_lt a b ≡ true → a <ℤ b
int_lt-then a b h = grind (arith, ints)

int_lt-if : (a b : ℤ) → a <ℤ b → int_lt a b ≡ true
int_lt-if a b h = grind (arith, ints)

nat_lt-then : (a b : ℕ) → nat_lt a b ≡ true → a < b
nat_lt-then a b h = grind (arith, nat_tests)

nat_lt-if : (a b : ℕ) → a < b → nat_lt a b ≡ true
nat_lt-if a b h = grind (arith, nat_tests)

zeros-then : (cs : List ℤ) → list_all (λ c. int_eq c (pos 0)) cs ≡ true → All (λ c. c ≡ pos 0) cs
zeros-then [] h = All-nil (λ c. c ≡ pos 0)
zeros-then (c ∷ cs) h =
    All-cons (λ d. d ≡ pos 0) c cs (int_eq-then c (pos 0) (left-true (int_eq c (pos 0)) (list_all (λ d. int_eq d (pos 0)) cs) h))
    (zeros-then cs (right-true (int_eq c (pos 0)) (list_all (λ d. int_eq d (pos 0)) cs) h))

zeros-if : (cs : List ℤ) → All (λ c. c ≡ pos 0) cs → list_all (λ c. int_eq c (pos 0)) cs ≡ true
zeros-if [] h = refl
zeros-if (c ∷ cs) h =
    both-true (int_eq c (pos 0)) (list_all (λ d. int_eq d (pos 0)) cs) (int_eq-if c (pos 0) (All-head (λ d. d ≡ pos 0) c cs h))
    (zeros-if cs (All-tail (λ d. d ≡ pos 0) c cs h))

contradiction-then : (p : Inequality) → is_contradiction p ≡ true → IsContradiction p
contradiction-then p h = (
  zeros-then p.coefs (left-true (list_all (λ c. int_eq c (pos 0)) p.coefs) (int_lt p.constant (pos 0)) h),
  int_lt-then p.constant (pos 0) (right-true (list_all (λ c. int_eq c (pos 0)) p.coefs) (int_lt p.constant (pos 0)) h),
)

contradiction-if : (p : Inequality) → IsContradiction p → is_contradiction p ≡ true
contradiction-if p h =
    both-true (list_all (λ c. int_eq c (pos 0)) p.coefs) (int_lt p.constant (pos 0)) (zeros-if p.coefs h.0) (int_lt-if p.constant (pos 0) h.1)

-- the last fact, where the facts are those of the program
last-same : (facts : List Fact) (cert : List Line) → fact_at (facts_after (width_of facts) (inequalities facts) cert) (length (inequalities facts) + length cert) ≡ fact_at (facts_after (width_of facts) (inequalities facts) cert) (length facts + length cert)
last-same facts cert = ap (λ n. fact_at (facts_after (width_of facts) (inequalities facts) cert) (n + length cert)) (length-map facts inequality_of)

closed-then : (facts : List Fact) (cert : List Line) → is_closed (width_of facts) (inequalities facts) cert ≡ true → IsClosed facts cert
closed-then facts cert h =
    let last = fact_at (facts_after (width_of facts) (inequalities facts) cert) (length (inequalities facts) + length cert) in
    let c : is_contradiction last ≡ true = right-true (nat_lt 0 (length cert)) (is_contradiction last) h in (
      nat_lt-then 0 (length cert) (left-true (nat_lt 0 (length cert)) (is_contradiction last) h),
      contradiction-then (fact_at (facts_after (width_of facts) (inequalities facts) cert) (length facts + length cert)) (ap (λ p. is_contradiction p) (sym (last-same facts cert)) ∙ c),
    )

closed-if : (facts : List Fact) (cert : List Line) → IsClosed facts cert → is_closed (width_of facts) (inequalities facts) cert ≡ true
closed-if facts cert h =
    let last = fact_at (facts_after (width_of facts) (inequalities facts) cert) (length (inequalities facts) + length cert) in
    both-true (nat_lt 0 (length cert)) (is_contradiction last) (nat_lt-if 0 (length cert) h.0)
    (ap (λ p. is_contradiction p) (last-same facts cert) ∙ contradiction-if (fact_at (facts_after (width_of facts) (inequalities facts) cert) (length facts + length cert)) h.1)

-- ---- the answers of the check

pub answer_at_fault : (facts : List Fact) (cert : List Line) (k : ℕ) (e : CertFault) → IsFirstFault facts cert k e → certificate_fault (width_of facts) (inequalities facts) cert ≡ Some e
answer_at_fault facts cert k e p =
    ap (λ o. option_or o (cond (is_closed (width_of facts) (inequalities facts) cert) None (Some NotClosed)))
    (first_fault-at (width_of facts) 1 (inequalities facts) cert (k - 1) e (λ j h. p.before j (omega arith)) p.here)

pub answer_at_closed : (facts : List Fact) (cert : List Line) → IsRight facts cert → IsClosed facts cert → certificate_fault (width_of facts) (inequalities facts) cert ≡ None
answer_at_closed facts cert right closed =
    ap (λ o. option_or o (cond (is_closed (width_of facts) (inequalities facts) cert) None (Some NotClosed)))
    (first_fault-none (width_of facts) 1 (inequalities facts) cert right)
    ∙ ap (λ b. cond b None (Some NotClosed)) (closed-if facts cert closed)

open-closed : (facts : List Fact) (cert : List Line) (b : Bool) → is_closed (width_of facts) (inequalities facts) cert ≡ b → (IsClosed facts cert → ⊥) → cond b None (Some NotClosed) ≡ Some NotClosed
open-closed facts cert true h unclosed = absurd (unclosed (closed-then facts cert h))
open-closed facts cert false h unclosed = refl

pub answer_at_open : (facts : List Fact) (cert : List Line) → IsRight facts cert → (IsClosed facts cert → ⊥) → certificate_fault (width_of facts) (inequalities facts) cert ≡ Some NotClosed
answer_at_open facts cert right unclosed =
    ap (λ o. option_or o (cond (is_closed (width_of facts) (inequalities facts) cert) None (Some NotClosed)))
    (first_fault-none (width_of facts) 1 (inequalities facts) cert right)
    ∙ open-closed facts cert (is_closed (width_of facts) (inequalities facts) cert) refl unclosed

-- ---- what an accepted certificate shows of inequalities
neither-left : (o p : Option CertFault) → option_or o p ≡ None → o ≡ None
neither-left None p h = refl
neither-left (Some e) p h = absurd (cc)

neither-right : (o p : Option CertFault) → option_or o p ≡ None → p ≡ None
neither-right None p h = h
neither-right (Some e) p h = absurd (cc)

true_after : (x : ℕ → ℤ) (width number : ℕ) (standing : List Inequality) (cert : List Line) → first_fault width number standing cert ≡ None → All (IsTrueOf x) standing → All (IsTrueOf x) (facts_after width standing cert)
true_after x width number standing [] h given = given
true_after x width number standing (l ∷ ls) h given =
    let rest = first_fault width (number + 1) (standing ++ line_fact width standing l ∷ []) ls in
    true_after x width (number + 1) (standing ++ line_fact width standing l ∷ []) ls (neither-right (line_fault width number standing l) rest h)
    (All-push (IsTrueOf x) standing (line_fact width standing l) given
    (IsTrueOf-line_fact x width number standing l given (neither-left (line_fault width number standing l) rest h)))

closed-only : (b : Bool) → cond b None (Some NotClosed) ≡ None → b ≡ true
closed-only true h = refl
closed-only false h = absurd (cc)

-- where nothing is wrong with a certificate, no whole numbers make its facts true
pub contradictory : (width : ℕ) (facts : List Inequality) (cert : List Line) → certificate_fault width facts cert ≡ None → (x : ℕ → ℤ) → All (IsTrueOf x) facts → ⊥
contradictory width facts cert h x given =
    let rest = cond (is_closed width facts cert) None (Some NotClosed) in
    let all = true_after x width 1 facts cert (neither-left (first_fault width 1 facts cert) rest h) given in
    let closed = closed-only (is_closed width facts cert) (neither-right (first_fault width 1 facts cert) rest h) in
    let last = fact_at (facts_after width facts cert) (length facts + length cert) in
    not_true_contradiction x last (contradiction-then last (right-true (nat_lt 0 (length cert)) (is_contradiction last) closed))
    (IsTrueOf-fact_at x (facts_after width facts cert) (length facts + length cert) all)
