-- Hypotheses that are taken apart one after the other, and the rules that do so.
use Rattle.std.proofs.Common.{◌≡◌, ℕ, zero, suc, ◌+◌, subst, List, [], ◌∷◌, ◌++◌, length, length-append, refl, sym, ◌∙◌, ap, arith}
use Rattle.std.proofs.lemmas.List.{append_assoc}
use Rattle.std.specs.Prelude.{None}
use Rattle.bk_form.specs.Formula.{Formula, binary}
use Rattle.bk_form.specs.declared.operator.BinOp.TheVariants.{And}
use Rattle.bk_kernel.specs.Branches.{sides}
use Rattle.bk_kernel.specs.declared.rule.Rule.{Rule}
use Rattle.bk_kernel.specs.declared.rule.Rule.TheVariants.{Imp, Split}
use Rattle.bk_auto.specs.Easy.{parts, supposed}
use Rattle.bk_auto.specs.Found.{splits}

-- ---- what is no conjunction has no parts
pub record IsWhole (f : Formula) : Type 0 where
  pub none : parts f ≡ []
  pub nothing : (index count : ℕ) → splits index count f ≡ []

pub whole : (f : Formula) → sides And f ≡ None → IsWhole f
whole (binary And p q) h = absurd (cc)
whole _ h = record { none = refl; nothing = λ index count. refl }

-- ---- a conjunction: its sides, then their parts
module _ (f p q : Formula) (is : f ≡ binary And p q) (h0 h1 h2 h3 : List Formula) (left : h1 ≡ h0 ++ p ∷ []) (right : h2 ≡ h1 ++ q ∷ []) (first : h3 ≡ h2 ++ parts p) where
  two : h2 ≡ h0 ++ p ∷ q ∷ []
  two = right ∙ ap (λ (hs : List Formula). hs ++ q ∷ []) left ∙ append_assoc h0 (p ∷ []) (q ∷ [])

  pub taken_hyps : (h4 : List Formula) → h4 ≡ h3 ++ parts q → h4 ≡ h0 ++ parts f
  taken_hyps h4 second =
      second ∙ ap (λ (hs : List Formula). hs ++ parts q) (first ∙ ap (λ (hs : List Formula). hs ++ parts p) two)
      ∙ append_assoc (h0 ++ p ∷ q ∷ []) (parts p) (parts q) ∙ append_assoc h0 (p ∷ q ∷ []) (parts p ++ parts q) ∙ ap (λ (g : Formula). h0 ++ parts g) (sym is)

  pub taken_rules : (index number place : ℕ) (r0 r1 r2 r3 : List Rule) → number ≡ index + 1 → place ≡ length h0 → r1 ≡ r0 ++ Split number ∷ [] → r2 ≡ r1 ++ splits place (length h2) p → r3 ≡ r2 ++ splits (place + 1) (length h3) q → r3 ≡ r0 ++ splits index (length h0) f
  taken_rules index number place r0 r1 r2 r3 here last rule some others =
      let same : number ≡ suc index = omega arith in
      let after : place + 1 ≡ suc (length h0) = omega arith in
      let long2 : length h2 ≡ suc (suc (length h0)) = (let e = ap (λ (hs : List Formula). length hs) two in let k = length-append h0 (p ∷ q ∷ []) in omega arith) in
      let long3 : length h3 ≡ suc (suc (length h0)) + length (parts p) = (let e = ap (λ (hs : List Formula). length hs) first in let k = length-append h2 (parts p) in omega arith) in
      let count = length h0 in
      let x : List Rule = splits count (suc (suc count)) p in
      let y : List Rule = splits (suc count) (suc (suc count) + length (parts p)) q in
      let one : r1 ≡ r0 ++ Split (suc index) ∷ [] = rule ∙ ap (λ (n : ℕ). r0 ++ Split n ∷ []) same in
      let many : r2 ≡ r1 ++ x = some ∙ (λ i. r1 ++ splits (last i) (long2 i) p) in
      let rest : r3 ≡ r2 ++ y = others ∙ (λ i. r2 ++ splits (after i) (long3 i) q) in
      rest ∙ ap (λ (rs : List Rule). rs ++ y) (many ∙ ap (λ (rs : List Rule). rs ++ x) one ∙ append_assoc r0 (Split (suc index) ∷ []) x)
      ∙ append_assoc r0 (Split (suc index) ∷ x) y ∙ ap (λ (g : Formula). r0 ++ splits index count g) (sym is)

-- ---- the left side of an implication
pub supposed_hyps : (h0 h1 h2 : List Formula) (p : Formula) → h1 ≡ h0 ++ p ∷ [] → h2 ≡ h1 ++ parts p → h2 ≡ supposed h0 p
supposed_hyps h0 h1 h2 p one more = more ∙ ap (λ (hs : List Formula). hs ++ parts p) one ∙ append_assoc h0 (p ∷ []) (parts p)

pub supposed_rules : (h0 h1 : List Formula) (p : Formula) (index : ℕ) (r0 r1 r2 : List Rule) → index ≡ length h0 → h1 ≡ h0 ++ p ∷ [] → r1 ≡ r0 ++ Imp ∷ [] → r2 ≡ r1 ++ splits index (length h1) p → r2 ≡ r0 ++ Imp ∷ splits (length h0) (suc (length h0)) p
supposed_rules h0 h1 p index r0 r1 r2 here one rule more =
    let long : length h1 ≡ suc (length h0) = (let e = ap (λ (hs : List Formula). length hs) one in let k = length-append h0 (p ∷ []) in omega arith) in
    more ∙ (λ i. r1 ++ splits (here i) (long i) p) ∙ ap (λ (rs : List Rule). rs ++ splits (length h0) (suc (length h0)) p) rule ∙ append_assoc r0 (Imp ∷ []) (splits (length h0) (suc (length h0)) p)
