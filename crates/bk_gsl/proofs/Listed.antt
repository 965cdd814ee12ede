-- What a substitution that types assigns to, and what it writes, is listed by the table.
use Rattle.std.proofs.Common.{◌≡◌, inl, inr, ℕ, List, [], ◌∷◌, sym, ◌∙◌, subst, true, nat_eq}
use Rattle.bk_form.specs.Table.{Table}
use Rattle.bk_form.specs.Formula.{Formula}
use Rattle.bk_form.proofs.Members.{or-cases, or-left, or-right}
use Rattle.bk_gsl.specs.Substitution.{Substitution, skip, assign, pre, guard, choice, if_else, any, seq, par, assert, becomes_such, loop}
use Rattle.bk_gsl.specs.State.{among, firsts}
use Rattle.bk_gsl.specs.Writes.{written, writes}
use Rattle.bk_gsl.specs.Typed.{IsListed, AreListed, AreTypedTerms, AreTypedPairs, Types}
use Rattle.bk_gsl.proofs.States.{nat_eq-same, nat_eq-self, among-in_order}
use Rattle.bk_gsl.proofs.Reading.{among-cases, outside-then}

pub among-listed : (table : Table) (zs : List ℕ) → AreListed table zs → (n : ℕ) → among zs n ≡ true → IsListed table n
among-listed table [] l n h = absurd (cc)
among-listed table (z ∷ zs) l n h = elim (or-cases (nat_eq n z) (among zs n) h) [ inl q ↦ subst (IsListed table) (sym (nat_eq-same n z q)) l.0 | inr q ↦ among-listed table zs l.1 n q ]

are-listed : (table : Table) (zs : List ℕ) → ((n : ℕ) → among zs n ≡ true → IsListed table n) → AreListed table zs
are-listed table [] h = tt
are-listed table (z ∷ zs) h = (h z (or-left (nat_eq z z) (among zs z) (nat_eq-self z)), are-listed table zs (λ n q. h n (or-right (nat_eq n z) (among zs n) q)))

pub terms-listed : (table : Table) (ps : List (ℕ × Formula)) → AreTypedTerms table ps → AreListed table (firsts ps)
terms-listed table [] w = tt
terms-listed table (p ∷ ps) w = ((w.0.0, w.0.1), terms-listed table ps w.1)

pub firsts-listed : (table : Table) (xs : List (ℕ × ℕ)) → AreTypedPairs table xs → AreListed table (firsts xs)
firsts-listed table [] w = tt
firsts-listed table (x ∷ xs) w = ((w.0.0, w.0.1), firsts-listed table xs w.1)

pub written-listed : (table : Table) (s : Substitution) → Types table s → (n : ℕ) → among (written s) n ≡ true → IsListed table n
written-listed table skip w n h = absurd (cc)
written-listed table (assign ps) w n h = among-listed table (firsts ps) (terms-listed table ps w) n h
written-listed table (pre p s) w n h = written-listed table s w.1 n h
written-listed table (guard p s) w n h = written-listed table s w.1 n h
written-listed table (choice s t) w n h = elim (among-cases (written s) (written t) n h) [ inl q ↦ written-listed table s w.0 n q | inr q ↦ written-listed table t w.1 n q ]
written-listed table (if_else p s t) w n h = elim (among-cases (written s) (written t) n h) [ inl q ↦ written-listed table s w.1 n q | inr q ↦ written-listed table t w.2 n q ]
written-listed table (any zs s) w n h = written-listed table s w.1 n (outside-then zs (written s) n h).0
written-listed table (seq s t) w n h = elim (among-cases (written s) (written t) n h) [ inl q ↦ written-listed table s w.0 n q | inr q ↦ written-listed table t w.1 n q ]
written-listed table (par s t) w n h = elim (among-cases (written s) (written t) n h) [ inl q ↦ written-listed table s w.0 n q | inr q ↦ written-listed table t w.1 n q ]
written-listed table (assert p s) w n h = written-listed table s w.1 n h
written-listed table (becomes_such xs p) w n h = among-listed table (firsts xs) (firsts-listed table xs w.0) n h
written-listed table (loop p s i v) w n h = written-listed table s w.1 n h

pub writes-listed : (table : Table) (s : Substitution) → Types table s → AreListed table (writes s)
writes-listed table s w = are-listed table (writes s) (λ n h. written-listed table s w n (sym (among-in_order (written s) n) ∙ h))
