-- Two certificates of the same written lines show the same.
use Rattle.std.proofs.Common.{◌≡◌, ℕ, ◌+◌, List, [], ◌∷◌, ◌++◌, length, refl, sym, ◌∙◌, ap}
use Rattle.std.specs.Prelude.{ℤ, pos, nat_lt, ◌&&◌, if◌then◌else◌, Some, None, is_none}
use Rattle.std.specs.List.{AllZip, list_any}
use Rattle.std.proofs.lemmas.Slice.Zip.{AllZip-long}
use Rattle.std.specs.Option.{option_or, option_map, some_prefix}
use Rattle.bk_form.specs.Formula.{Formula}
use Rattle.bk_lin.specs.declared.fact.Line.{Line}
use Rattle.bk_lin.specs.declared.fact.Line.TheVariants.{Sum, Div}
use Rattle.bk_lin.specs.declared.fact.CertFault.TheVariants.{NotClosed}
use Rattle.bk_lin.specs.Inequality.{Inequality}
use Rattle.bk_lin.specs.Certificate.{sum_fact, sum_fault, line_fact, line_fault, fact_at, facts_after}
use Rattle.bk_lin.specs.Answer.{first_fault, is_contradiction, is_closed, certificate_fault}
use Rattle.bk_arith.specs.declared.error.ArithFault.TheVariants.{NotLinear, TooWide, Cert}
use Rattle.bk_arith.specs.Reading.{atoms_of}
use Rattle.bk_arith.specs.Decision.{first_unread, terms_of, readings, is_accepted}
use Rattle.bk_raw.specs.Trees.ScriptTree.{RawLine, multiples, quotient}
use Rattle.bk_raw.specs.declared.script.RawMultiple.{RawMultiple}
use Rattle.bk_scripts.specs.Parts.{MultipleMeans, LineMeans}

-- both make the same fact, and have the same fault
record AreAlike (width : ℕ) (x y : Line) : Type 0 where
  fact : (standing : List Inequality) → line_fact width standing x ≡ line_fact width standing y
  fault : (number : ℕ) (standing : List Inequality) → line_fault width number standing x ≡ line_fault width number standing y

same-division : (m n : ℕ) (a b : ℤ) (i g : ℕ) → LineMeans (quotient i g) (Div m a) → LineMeans (quotient i g) (Div n b) → Div m a ≡ Div n b
same-division m n a b i g h k = let p : m ≡ i = h.0.0 in let q : a ≡ pos g = h.1 in let r : n ≡ i = k.0.0 in let s : b ≡ pos g = k.1 in cc

same-multiples : (ms : List RawMultiple) (xs ys : List (ℤ × ℕ)) → AllZip MultipleMeans ms xs → AllZip MultipleMeans ms ys → xs ≡ ys
same-multiples [] [] [] h k = refl
same-multiples [] (x ∷ xs) ys h k = absurd h
same-multiples [] [] (y ∷ ys) h k = absurd k
same-multiples (m ∷ ms) [] ys h k = absurd h
same-multiples (m ∷ ms) (x ∷ xs) [] h k = absurd k
same-multiples (m ∷ ms) (x ∷ xs) (y ∷ ys) h k =
    let first = h.0.0 ∙ sym k.0.0 in
    let second = h.0.1.0 ∙ sym k.0.1.0 in
    let rest = same-multiples ms xs ys h.1 k.1 in
    λ i. (first i, second i) ∷ rest i

lines-alike : (width : ℕ) (w : RawLine) (x y : Line) → LineMeans w x → LineMeans w y → AreAlike width x y
lines-alike width (multiples ms) (Sum xs) (Sum ys) h k = record {
  fact = λ standing. ap (sum_fact width standing) (same-multiples ms xs.items ys.items h k);
  fault = λ number standing. ap (sum_fault width number standing) (same-multiples ms xs.items ys.items h k);
}
lines-alike width (quotient i g) (Div m a) (Div n b) h k = record {
  fact = λ standing. ap (line_fact width standing) (same-division m n a b i g h k);
  fault = λ number standing. ap (line_fault width number standing) (same-division m n a b i g h k);
}
lines-alike width (multiples ms) (Sum xs) (Div n b) h k = absurd k
lines-alike width (multiples ms) (Div m a) y h k = absurd h
lines-alike width (quotient i g) (Div m a) (Sum ys) h k = absurd k
lines-alike width (quotient i g) (Sum xs) y h k = absurd h

module _ (width : ℕ) where
  same-first-fault : (ws : List RawLine) (xs ys : List Line) → AllZip LineMeans ws xs → AllZip LineMeans ws ys → (number : ℕ) (standing : List Inequality) → first_fault width number standing xs ≡ first_fault width number standing ys
  same-first-fault [] [] [] h k number standing = refl
  same-first-fault [] (x ∷ xs) ys h k number standing = absurd h
  same-first-fault [] [] (y ∷ ys) h k number standing = absurd k
  same-first-fault (w ∷ ws) [] ys h k number standing = absurd h
  same-first-fault (w ∷ ws) (x ∷ xs) [] h k number standing = absurd k
  same-first-fault (w ∷ ws) (x ∷ xs) (y ∷ ys) h k number standing =
      let a = lines-alike width w x y h.0 k.0 in
      ap (λ f. option_or f (first_fault width (number + 1) (standing ++ line_fact width standing x ∷ []) xs)) (a.fault number standing) ∙
      ap (λ f. option_or (line_fault width number standing y) (first_fault width (number + 1) (standing ++ f ∷ []) xs)) (a.fact standing) ∙
      ap (λ o. option_or (line_fault width number standing y) o) (same-first-fault ws xs ys h.1 k.1 (number + 1) (standing ++ line_fact width standing y ∷ []))

  same-facts : (ws : List RawLine) (xs ys : List Line) → AllZip LineMeans ws xs → AllZip LineMeans ws ys → (standing : List Inequality) → facts_after width standing xs ≡ facts_after width standing ys
  same-facts [] [] [] h k standing = refl
  same-facts [] (x ∷ xs) ys h k standing = absurd h
  same-facts [] [] (y ∷ ys) h k standing = absurd k
  same-facts (w ∷ ws) [] ys h k standing = absurd h
  same-facts (w ∷ ws) (x ∷ xs) [] h k standing = absurd k
  same-facts (w ∷ ws) (x ∷ xs) (y ∷ ys) h k standing =
      ap (λ f. facts_after width (standing ++ f ∷ []) xs) ((lines-alike width w x y h.0 k.0).fact standing) ∙
      same-facts ws xs ys h.1 k.1 (standing ++ line_fact width standing y ∷ [])

same-length : (ws : List RawLine) (xs ys : List Line) → AllZip LineMeans ws xs → AllZip LineMeans ws ys → length xs ≡ length ys
same-length ws xs ys h k = sym (AllZip-long LineMeans ws ys k ∙ sym (AllZip-long LineMeans ws xs h))

module _ (ws : List RawLine) (xs ys : List Line) (h : AllZip LineMeans ws xs) (k : AllZip LineMeans ws ys) where
  same-certificate : (width : ℕ) (facts : List Inequality) → certificate_fault width facts xs ≡ certificate_fault width facts ys
  same-certificate width facts =
      let closed : is_closed width facts xs ≡ is_closed width facts ys =
      ap (λ n. nat_lt 0 n && is_contradiction (fact_at (facts_after width facts xs) (length facts + n))) (same-length ws xs ys h k) ∙
      ap (λ fs. nat_lt 0 (length ys) && is_contradiction (fact_at fs (length facts + length ys))) (same-facts width ws xs ys h k facts) in
      ap (λ f. option_or f (if is_closed width facts xs then None else Some NotClosed)) (same-first-fault width ws xs ys h k 1 facts) ∙
      ap (λ c. option_or (first_fault width 1 facts ys) (if c then None else Some NotClosed)) closed

  pub same-acceptance : (hyps : List Formula) (goal : Formula) → is_accepted hyps goal xs ≡ is_accepted hyps goal ys
  same-acceptance hyps goal =
      let terms = terms_of hyps goal in
      ap (λ f. is_none (option_or (option_map NotLinear (first_unread hyps goal)) (if list_any is_none (readings terms) then Some TooWide else option_map Cert f))) (same-certificate (length (atoms_of terms)) (some_prefix (readings terms)))
