-- A certificate as a whole: its facts line by line, its first fault, and what its acceptance shows.
use Rattle.std.proofs.Common.{◌≡◌, ℕ, zero, suc, ◌+◌, ◌-◌, ◌<◌, ◌≤◌, ℤ, pos, int_le, List, [], ◌∷◌, ◌++◌, take, length, All, slice_get, Option, Some, None, refl, ap, sym, ◌∙◌, arith, add-one, Bool, true, false, cond, inl, inr}
use Rattle.std.specs.Option.{option_and_then}
use Rattle.std.specs.List.{list_all}
use Rattle.std.proofs.lemmas.Bool.Decides.{leb_tells}
use Rattle.std.proofs.lemmas.List.{take_all}
use Rattle.std.proofs.lemmas.List.Elements.{All-push, All-same}
use Rattle.bk_lin.specs.declared.fact.Fact.{Fact}
use Rattle.bk_lin.specs.declared.fact.Line.{Line}
use Rattle.bk_lin.specs.declared.fact.Line.TheVariants.{Sum, Div}
use Rattle.bk_lin.specs.declared.fact.CertFault.{CertFault}
use Rattle.bk_lin.specs.declared.fact.CertFault.TheVariants.{BadLine, Negative, TooWide}
use Rattle.bk_lin.specs.Inequality.{Inequality, is_divisible, IsTrueOf}
use Rattle.bk_lin.specs.Certificate.{inequalities, width_of, fact_at, is_number, multiples_of, sums_fit, line_fact, line_fault, facts_after, fault_at, IsRight, IsFirstFault, IsClosed}
use Rattle.bk_lin.specs.Layout.{number_of}
use Rattle.bk_lin.proofs.Sound.{IsTrueOf-line_fact, not_true_contradiction, IsTrueOf-fact_at}

pub facts_after-more : (width : ℕ) (standing : List Inequality) (cert : List Line) (k : ℕ) (line : Line) → slice_get cert k ≡ Some line → facts_after width standing (take (k + 1) cert) ≡ facts_after width standing (take k cert) ++ line_fact width (facts_after width standing (take k cert)) line ∷ []
facts_after-more width standing [] k line h = absurd (cc)
facts_after-more width standing (l ∷ ls) zero line h =
    let same : l ≡ line = cc in ap (λ m. standing ++ line_fact width standing m ∷ []) same
facts_after-more width standing (l ∷ ls) (suc k) line h =
    let more : suc k + 1 ≡ suc (k + 1) = omega arith in
    ap (λ n. facts_after width standing (take n (l ∷ ls))) more
    ∙ facts_after-more width (standing ++ line_fact width standing l ∷ []) ls k line h

pub fault_at-line : (facts : List Fact) (cert : List Line) (k : ℕ) (line : Line) → slice_get cert k ≡ Some line → fault_at facts cert k ≡ line_fault (width_of facts) (k + 1) (facts_after (width_of facts) (inequalities facts) (take k cert)) line
fault_at-line facts cert k line h =
    ap (λ o. option_and_then (λ l. line_fault (width_of facts) (k + 1) (facts_after (width_of facts) (inequalities facts) (take k cert)) l) o) h

a_line : (cert : List Line) (k : ℕ) → k < length cert → (line : Line) × (slice_get cert k ≡ Some line)
a_line [] k h = absurd (omega arith)
a_line (l ∷ ls) zero h = (l, refl)
a_line (l ∷ ls) (suc k) h = a_line ls k (omega arith)

numbered : (a b c : Bool) (u v w e : CertFault) (n : ℕ) → cond a (cond b (cond c None (Some u)) (Some v)) (Some w) ≡ Some e → number_of u ≡ n → number_of v ≡ n → number_of w ≡ n → number_of e ≡ n
numbered true true true u v w e n h p q r = absurd (cc)
numbered true true false u v w e n h p q r = let same : u ≡ e = cc in ap (λ f. number_of f) (sym same) ∙ p
numbered true false c u v w e n h p q r = let same : v ≡ e = cc in ap (λ f. number_of f) (sym same) ∙ q
numbered false b c u v w e n h p q r = let same : w ≡ e = cc in ap (λ f. number_of f) (sym same) ∙ r

pub line_fault-number : (width number : ℕ) (standing : List Inequality) (line : Line) (e : CertFault) → line_fault width number standing line ≡ Some e → number_of e ≡ number
line_fault-number width number standing (Sum parts) e h =
    numbered (list_all (λ (p : ℤ × ℕ). is_number standing p.1) parts.items) (list_all (λ (p : ℤ × ℕ). int_le (pos 0) p.0) parts.items) (sums_fit width (multiples_of standing parts.items))
    (TooWide number) (Negative number) (BadLine number) e number h refl refl refl
line_fault-number width number standing (Div n d) e h =
    numbered (is_number standing n) (int_le (pos 1) d) (is_divisible d (fact_at standing n))
    (BadLine number) (Negative number) (BadLine number) e number h refl refl refl

-- the first lines that are right keep what is true
All-facts_after : (x : ℕ → ℤ) (facts : List Fact) (cert : List Line) (k : ℕ) → k ≤ length cert → IsRight facts cert → All (IsTrueOf x) (inequalities facts) → All (IsTrueOf x) (facts_after (width_of facts) (inequalities facts) (take k cert))
All-facts_after x facts cert zero h right given = given
All-facts_after x facts cert (suc k) h right given =
    let line = a_line cert k (omega arith) in
    let before : List Inequality = facts_after (width_of facts) (inequalities facts) (take k cert) in
    let true_before : All (IsTrueOf x) before = All-facts_after x facts cert k (omega arith) right given in
    let right_line : line_fault (width_of facts) (k + 1) before line.0 ≡ None =
    sym (fault_at-line facts cert k line.0 line.1) ∙ right k (omega arith) in
    All-same (IsTrueOf x) (facts_after (width_of facts) (inequalities facts) (take (suc k) cert)) (before ++ line_fact (width_of facts) before line.0 ∷ [])
    (ap (λ n. facts_after (width_of facts) (inequalities facts) (take n cert)) (sym (add-one k)) ∙ facts_after-more (width_of facts) (inequalities facts) cert k line.0 line.1)
    (All-push (IsTrueOf x) before (line_fact (width_of facts) before line.0) true_before
    (IsTrueOf-line_fact x (width_of facts) (k + 1) before line.0 true_before right_line))

pub accepted_is_contradictory : (facts : List Fact) (cert : List Line) → IsRight facts cert → IsClosed facts cert → (x : ℕ → ℤ) → All (IsTrueOf x) (inequalities facts) → ⊥
accepted_is_contradictory facts cert right closed x given =
    let all : All (IsTrueOf x) (facts_after (width_of facts) (inequalities facts) (take (length cert) cert)) = All-facts_after x facts cert (length cert) (omega arith) right given in
    let all' : All (IsTrueOf x) (facts_after (width_of facts) (inequalities facts) cert) =
    All-same (IsTrueOf x) _ _ (ap (λ ls. facts_after (width_of facts) (inequalities facts) ls) (sym (take_all (length cert) cert (omega arith)))) all in
    not_true_contradiction x (fact_at (facts_after (width_of facts) (inequalities facts) cert) (length facts + length cert)) closed.1
    (IsTrueOf-fact_at x (facts_after (width_of facts) (inequalities facts) cert) (length facts + length cert) all')

no_line : (cert : List Line) (k : ℕ) → length cert ≤ k → slice_get cert k ≡ None
no_line [] k h = refl
no_line (l ∷ ls) zero h = absurd (omega arith)
no_line (l ∷ ls) (suc k) h = no_line ls k (omega arith)

no_fault : (facts : List Fact) (cert : List Line) (k : ℕ) → length cert ≤ k → fault_at facts cert k ≡ None
no_fault facts cert k h =
    ap (λ o. option_and_then (λ l. line_fault (width_of facts) (k + 1) (facts_after (width_of facts) (inequalities facts) (take k cert)) l) o) (no_line cert k h)

none_and_some : (o : Option CertFault) (e : CertFault) → o ≡ None → o ≡ Some e → ⊥
none_and_some o e h k = cc

some_same : (e f : CertFault) → Some e ≡ Some f → e ≡ f
some_same e f h = cc

-- a certificate has one first fault
pub first_fault_is_one : (facts : List Fact) (cert : List Line) (k l : ℕ) (e f : CertFault) → IsFirstFault facts cert k e → IsFirstFault facts cert l f → e ≡ f
first_fault_is_one facts cert k l e f p q =
    elim (leb_tells k l) [
      | inl kl ↦ elim (leb_tells l k) [
        | inl lk ↦ (let same : k ≡ l = omega arith in some_same e f (sym p.here ∙ ap (λ n. fault_at facts cert (n - 1)) same ∙ q.here))
        | inr lk ↦ absurd (none_and_some _ e (q.before (k - 1) (omega (arith, p.is_line))) p.here)
      ]
      | inr kl ↦ absurd (none_and_some _ f (p.before (l - 1) (omega (arith, q.is_line))) q.here)
    ]

pub first_fault_is_not_right : (facts : List Fact) (cert : List Line) (k : ℕ) (e : CertFault) → IsFirstFault facts cert k e → IsRight facts cert → ⊥
first_fault_is_not_right facts cert k e p right =
    elim (leb_tells (length cert) (k - 1)) [
      | inl past ↦ none_and_some _ e (no_fault facts cert (k - 1) past.1) p.here
      | inr within ↦ none_and_some _ e (right (k - 1) within.1) p.here
    ]
