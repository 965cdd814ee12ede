-- A goal that is taken apart: each part is valid exactly where the whole is.
use Rattle.std.proofs.Common.{◌≡◌, List, [], ◌∷◌, ◌++◌, refl, Bool, true, false}
use Rattle.bk_form.specs.Each.{Each}
use Rattle.bk_form.specs.Table.{Table}
use Rattle.bk_form.specs.Formula.{Formula, btrue, binary}
use Rattle.bk_form.specs.Environment.{at_state}
use Rattle.bk_form.specs.Operators.{implies}
use Rattle.bk_form.specs.Meaning.{truth}
use Rattle.bk_form.specs.Predicates.{conjuncts}
use Rattle.bk_form.specs.declared.operator.BinOp.TheVariants.{And, Imp}
use Rattle.bk_form.proofs.Members.{and-both, and-true}
use Rattle.bk_form.proofs.Conjuncts.{true-append, true-first, true-second, parts-true, whole-true}
use Rattle.bk_bind.specs.Valid.{IsValid}
use Rattle.bk_seq.specs.Sequents.{IsValidSequent, split}
use Rattle.bk_seq.specs.Laws.{SplitKeepsValidity}

each-append : {A : Type 0} (P : A → Type 0) (xs ys : List A) → Each P xs → Each P ys → Each P (xs ++ ys)
each-append P [] ys h k = k
each-append P (x ∷ xs) ys h k = (h.0, each-append P xs ys h.1 k)

each-left : {A : Type 0} (P : A → Type 0) (xs ys : List A) → Each P (xs ++ ys) → Each P xs
each-left P [] ys h = tt
each-left P (x ∷ xs) ys h = (h.0, each-left P xs ys h.1)

each-right : {A : Type 0} (P : A → Type 0) (xs ys : List A) → Each P (xs ++ ys) → Each P ys
each-right P [] ys h = h
each-right P (x ∷ xs) ys h = each-right P xs ys h.1

implies-then : (p q : Bool) → implies p q ≡ true → p ≡ true → q ≡ true
implies-then true q h k = h
implies-then false q h k = absurd (cc)

implied : (p q : Bool) → (p ≡ true → q ≡ true) → implies p q ≡ true
implied true q f = f refl
implied false q f = refl

module _ (table : Table) where
  parts-valid : (hyps : List Formula) (p : Formula) → IsValid table hyps p → Each (IsValidSequent table) (split hyps p)
  parts-valid hyps (binary And p q) v =
      each-append (IsValidSequent table) (split hyps p) (split hyps q)
      (parts-valid hyps p (λ find law e typed hold. (and-both (truth find (at_state table e) p) (truth find (at_state table e) q) (v find law e typed hold)).0))
      (parts-valid hyps q (λ find law e typed hold. (and-both (truth find (at_state table e) p) (truth find (at_state table e) q) (v find law e typed hold)).1))
  parts-valid hyps (binary Imp p q) v =
      parts-valid (hyps ++ conjuncts p) q (λ find law e typed hold.
      implies-then (truth find (at_state table e) p) (truth find (at_state table e) q)
      (v find law e typed (true-first find (at_state table e) hyps (conjuncts p) hold))
      (whole-true find (at_state table e) p (true-second find (at_state table e) hyps (conjuncts p) hold)))
  parts-valid hyps btrue v = tt
  parts-valid hyps p v = (v, tt)

  whole-valid : (hyps : List Formula) (p : Formula) → Each (IsValidSequent table) (split hyps p) → IsValid table hyps p
  whole-valid hyps (binary And p q) h find law e typed hold =
      and-true (truth find (at_state table e) p) (truth find (at_state table e) q)
      (whole-valid hyps p (each-left (IsValidSequent table) (split hyps p) (split hyps q) h) find law e typed hold)
      (whole-valid hyps q (each-right (IsValidSequent table) (split hyps p) (split hyps q) h) find law e typed hold)
  whole-valid hyps (binary Imp p q) h find law e typed hold =
      implied (truth find (at_state table e) p) (truth find (at_state table e) q)
      (λ k. whole-valid (hyps ++ conjuncts p) q h find law e typed (true-append find (at_state table e) hyps (conjuncts p) hold (parts-true find (at_state table e) p k)))
  whole-valid hyps btrue h find law e typed hold = refl
  whole-valid hyps p h find law e typed hold = h.0 find law e typed hold

pub split_keeps_validity : SplitKeepsValidity
split_keeps_validity table hyps goal = (parts-valid table hyps goal, whole-valid table hyps goal)
