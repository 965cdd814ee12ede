-- What the answer says, and how names are found in texts.
use Rattle.std.proofs.Common.{◌≡◌, ℕ, ◌+◌, ◌-◌, List, [], ◌∷◌, ◌++◌, length, refl, sym, ◌∙◌, ap, subst, Bool, true, false, arith}
use Rattle.std.specs.Prelude.{Option, None, Some, ℤ, take, codes, decimal}
use Rattle.bk_dev.specs.Development.{Development}
use Rattle.bk_raw.specs.Errors.Blame.{blame, first_of, IsBlameOf}
use Rattle.bk_raw.proofs.Blamed.{blame-right}
use Rattle.bk_raw.specs.Meaning.Names.{level_name}
use Rattle.bk_raw.specs.Errors.Faults.{Fault}
use Rattle.bk_statics.specs.Components.{Component}
use Rattle.bk_statics.specs.Above.{stem}
use Rattle.bk_statics.specs.DeclaredNames.{declares_too_many}
use Rattle.bk_statics.specs.Verdict.{Verdict, accepted, at_fault, past_limit, judged, limited, level_below, all_faults, verdict_below}
use Rattle.bk_statics.specs.VerdictLaws.{AcceptedHasNoFault, StemsAreNames}
use Rattle.bk_statics.proofs.Counted.{length-join}

-- ---- what the answer says
same-accepted : (a b : Development) → accepted a ≡ accepted b → a ≡ b
same-accepted a b e = cc

same-fault : (f g : Fault) → at_fault f ≡ at_fault g → f ≡ g
same-fault f g e = cc

same-limit : (m n : ℕ) → past_limit m ≡ past_limit n → m ≡ n
same-limit m n e = cc

judged-accepted : (dev d : Development) (fs : List Fault) → judged dev (blame fs) ≡ accepted d → (fs ≡ []) × (d ≡ dev)
judged-accepted dev d [] e = (refl, sym (same-accepted dev d e))
judged-accepted dev d (f ∷ fs) e = absurd (cc)

limited-accepted : (b : Bool) (v : Verdict) (d : Development) → limited b v ≡ accepted d → (b ≡ false) × (v ≡ accepted d)
limited-accepted false v d e = (refl, e)
limited-accepted true v d e = absurd (cc)

limited-fault : (b : Bool) (v : Verdict) (f : Fault) → limited b v ≡ at_fault f → (b ≡ false) × (v ≡ at_fault f)
limited-fault false v f e = (refl, e)
limited-fault true v f e = absurd (cc)

judged-fault : (dev : Development) (o : Option Fault) (f : Fault) → judged dev o ≡ at_fault f → o ≡ Some f
judged-fault dev None f e = absurd (cc)
judged-fault dev (Some g) f e = ap Some (same-fault g f e)

judged-limit : (dev : Development) (o : Option Fault) (n : ℕ) {A : Type 0} → judged dev o ≡ past_limit n → A
judged-limit dev None n e = absurd (cc)
judged-limit dev (Some g) n e = absurd (cc)

limited-limit : (b : Bool) (dev : Development) (o : Option Fault) (n : ℕ) → limited b (judged dev o) ≡ past_limit n → (n ≡ 5) × (b ≡ true)
limited-limit true dev o n e = (sym (same-limit 5 n e), refl)
limited-limit false dev o n e = judged-limit dev o n e

pub answer-right : AcceptedHasNoFault
answer-right = record {
  right = λ int_max dev c d e.
      (let k = limited-accepted (declares_too_many c) (judged (level_below int_max dev c) (blame (all_faults int_max dev c))) d e in
      let j = judged-accepted (level_below int_max dev c) d (all_faults int_max dev c) k.1 in
      (k.0, j.0, j.1));
  without_fault = λ int_max dev c e h. (λ i. limited (e i) (judged (level_below int_max dev c) (blame (h i))));
  fault = λ int_max dev c f e.
      (let k = limited-fault (declares_too_many c) (judged (level_below int_max dev c) (blame (all_faults int_max dev c))) f e in
      let j = judged-fault (level_below int_max dev c) (blame (all_faults int_max dev c)) f k.1 in
      (k.0, subst (λ o. IsBlameOf o (all_faults int_max dev c)) j (blame-right (all_faults int_max dev c))));
  limit = λ int_max dev c n e. limited-limit (declares_too_many c) (level_below int_max dev c) (blame (all_faults int_max dev c)) n e;
  past = λ int_max dev c e. ap (λ b. limited b (judged (level_below int_max dev c) (blame (all_faults int_max dev c)))) e;
}

-- ---- names in texts
take-front : (xs ys : List ℕ) → take (length xs) (xs ++ ys) ≡ xs
take-front [] ys = refl
take-front (x ∷ xs) ys = ap (λ l. x ∷ l) (take-front xs ys)

front-of : (xs ys : List ℕ) → take (length (xs ++ ys) - length ys) (xs ++ ys) ≡ xs
front-of xs ys =
    let sum = length-join xs ys in
    let size : length (xs ++ ys) - length ys ≡ length xs = omega arith in
    ap (λ n. take n (xs ++ ys)) size ∙ take-front xs ys

pub stem-name : StemsAreNames
stem-name k x = front-of x (codes "$" ++ decimal k)
