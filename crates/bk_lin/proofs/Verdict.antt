-- What each answer of the check says of the certificate.
use Rattle.std.proofs.Common.{◌≡◌, ℕ, ℤ, ◌↔◌, List, length, All, Result, Ok, Err, IsOk, OnOk, IsErrAnd, MatchResult, Some, None, refl, ap, sym, subst, arith}
use Rattle.bk_lin.specs.declared.fact.Fact.{Fact}
use Rattle.bk_lin.specs.declared.fact.Line.{Line}
use Rattle.bk_lin.specs.declared.fact.CertFault.{CertFault}
use Rattle.bk_lin.specs.declared.fact.CertFault.TheVariants.{BadLine, Negative, TooWide, NotClosed}
use Rattle.bk_lin.specs.Inequality.{IsTrueOf}
use Rattle.bk_lin.specs.Certificate.{inequalities, IsRight, IsFirstFault, IsClosed}
use Rattle.bk_lin.specs.Certificate.{width_of}
use Rattle.bk_lin.specs.Answer.{certificate_fault}
use Rattle.bk_lin.specs.Layout.{number_of}
use Rattle.bk_lin.proofs.Answer.{answer_at_fault, answer_at_closed, answer_at_open}
use Rattle.bk_lin.proofs.Lines.{accepted_is_contradictory, first_fault_is_one, first_fault_is_not_right}

abbrev pub Answer : Type 0
Answer = Result (Unit {0}) CertFault

-- the contract of the check
pub record IsAnswer (facts : List Fact) (cert : List Line) (r : Answer) : Type 0 where
  pub ok : IsOk r ↔ (IsRight facts cert × IsClosed facts cert)
  pub bad_line : (k : ℕ) → (r ≡ Err (BadLine k)) ↔ IsFirstFault facts cert k (BadLine k)
  pub negative : (k : ℕ) → (r ≡ Err (Negative k)) ↔ IsFirstFault facts cert k (Negative k)
  pub too_wide : (k : ℕ) → (r ≡ Err (TooWide k)) ↔ IsFirstFault facts cert k (TooWide k)
  pub not_closed : (r ≡ Err NotClosed) ↔ (IsRight facts cert × (IsClosed facts cert → ⊥))
  pub answer : MatchResult r (λ _. certificate_fault (width_of facts) (inequalities facts) cert ≡ None) (λ e. certificate_fault (width_of facts) (inequalities facts) cert ≡ Some e)
  pub sound : OnOk r ((atoms : ℕ → ℤ) → All (IsTrueOf atoms) (inequalities facts) → ⊥)

err_is_not_ok : (r : Answer) (e : CertFault) → r ≡ Err e → IsOk r → ⊥
err_is_not_ok (Ok v) e h k = cc
err_is_not_ok (Err f) e h k = cc

err_same : (e f : CertFault) (r s : Answer) → r ≡ Err e → s ≡ Err f → r ≡ s → e ≡ f
err_same e f r s h k l = cc

not_ok_and_err : (v : Unit {0}) (f : CertFault) (r s : Answer) → r ≡ Ok v → s ≡ Err f → r ≡ s → ⊥
not_ok_and_err v f r s h k l = cc

fault_iff : (facts : List Fact) (cert : List Line) (e f : CertFault) → IsFirstFault facts cert (number_of e) e → let r : Answer = Err e in let s : Answer = Err f in (r ≡ s) ↔ IsFirstFault facts cert (number_of f) f
fault_iff facts cert e f p = (
  λ h. subst (λ g. IsFirstFault facts cert (number_of g) g) (err_same e f _ _ refl refl h) p,
  λ q. ap (λ g. Err g) (first_fault_is_one facts cert (number_of e) (number_of f) e f p q),
)

not_closed_is_no_fault : (facts : List Fact) (cert : List Line) (e : CertFault) → IsFirstFault facts cert (number_of e) e → e ≡ NotClosed → ⊥
not_closed_is_no_fault facts cert e p h =
    let q = subst (λ g. IsFirstFault facts cert (number_of g) g) h p in omega (arith, q.is_line)

pub at_fault : (facts : List Fact) (cert : List Line) (e : CertFault) → IsFirstFault facts cert (number_of e) e → IsAnswer facts cert (Err e)
at_fault facts cert e p = record {
  ok = (λ h. absurd (err_is_not_ok (Err e) e refl h), λ h. absurd (first_fault_is_not_right facts cert (number_of e) e p h.0));
  bad_line = λ k. fault_iff facts cert e (BadLine k) p;
  negative = λ k. fault_iff facts cert e (Negative k) p;
  too_wide = λ k. fault_iff facts cert e (TooWide k) p;
  not_closed = (λ h. absurd (not_closed_is_no_fault facts cert e p (err_same e NotClosed _ _ refl refl h)), λ h. absurd (first_fault_is_not_right facts cert (number_of e) e p h.0));
  answer = answer_at_fault facts cert (number_of e) e p;
  sound = tt;
}

pub at_closed : (facts : List Fact) (cert : List Line) → IsRight facts cert → IsClosed facts cert → IsAnswer facts cert (Ok tt)
at_closed facts cert right closed = record {
  ok = (λ _. (right, closed), λ _. refl);
  bad_line = λ k. (λ h. absurd (not_ok_and_err tt (BadLine k) _ _ refl refl h), λ p. absurd (first_fault_is_not_right facts cert k (BadLine k) p right));
  negative = λ k. (λ h. absurd (not_ok_and_err tt (Negative k) _ _ refl refl h), λ p. absurd (first_fault_is_not_right facts cert k (Negative k) p right));
  too_wide = λ k. (λ h. absurd (not_ok_and_err tt (TooWide k) _ _ refl refl h), λ p. absurd (first_fault_is_not_right facts cert k (TooWide k) p right));
  not_closed = (λ h. absurd (not_ok_and_err tt NotClosed _ _ refl refl h), λ h. absurd (h.1 closed));
  answer = answer_at_closed facts cert right closed;
  sound = accepted_is_contradictory facts cert right closed;
}

other_fault : (e : CertFault) (f : CertFault) (r s : Answer) → r ≡ Err e → s ≡ Err f → (e ≡ f → ⊥) → r ≡ s → ⊥
other_fault e f r s h k n l = n (err_same e f r s h k l)

pub at_open : (facts : List Fact) (cert : List Line) → IsRight facts cert → (IsClosed facts cert → ⊥) → IsAnswer facts cert (Err NotClosed)
at_open facts cert right unclosed = record {
  ok = (λ h. absurd (err_is_not_ok (Err NotClosed) NotClosed refl h), λ h. absurd (unclosed h.1));
  bad_line = λ k. (λ h. absurd (other_fault NotClosed (BadLine k) _ _ refl refl (λ e. cc) h), λ p. absurd (first_fault_is_not_right facts cert k (BadLine k) p right));
  negative = λ k. (λ h. absurd (other_fault NotClosed (Negative k) _ _ refl refl (λ e. cc) h), λ p. absurd (first_fault_is_not_right facts cert k (Negative k) p right));
  too_wide = λ k. (λ h. absurd (other_fault NotClosed (TooWide k) _ _ refl refl (λ e. cc) h), λ p. absurd (first_fault_is_not_right facts cert k (TooWide k) p right));
  not_closed = (λ _. (right, unclosed), λ _. refl);
  answer = answer_at_open facts cert right unclosed;
  sound = tt;
}

pub at_empty : (facts : List Fact) (cert : List Line) → length cert ≡ 0 → IsAnswer facts cert (Err NotClosed)
at_empty facts cert h = at_open facts cert (λ k l. absurd (omega arith)) (λ closed. absurd (omega (arith, closed.0)))

-- the answer that `?` passes on
pub at_passed_on : (facts : List Fact) (cert : List Line) (r : Answer) (e : CertFault) → IsErrAnd r (λ x. x ≡ e) → IsFirstFault facts cert (number_of e) e → IsAnswer facts cert r
at_passed_on facts cert (Ok v) e h p = absurd h
at_passed_on facts cert (Err x) e h p = at_fault facts cert x (subst (λ f. IsFirstFault facts cert (number_of f) f) (sym h) p)
