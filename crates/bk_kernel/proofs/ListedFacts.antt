-- Hypotheses by their numbers, one after another.
use Rattle.std.proofs.Common.{◌≡◌, ℕ, zero, suc, ◌+◌, ◌<◌, ◌≤◌, List, [], ◌∷◌, ◌++◌, take, length, get_or, refl, sym, ◌∙◌, ap, arith}
use Rattle.std.specs.Prelude.{Option, Some, None}
use Rattle.std.specs.Option.{option_map, option_and_then}
use Rattle.std.proofs.lemmas.List.{take_more, take_all}
use Rattle.bk_form.specs.Formula.{Formula}
use Rattle.bk_seq.specs.Paths.{numbered_item}
use Rattle.bk_kernel.specs.Rules.{listed_facts}

-- one more number at the end
listed-append : (hyps : List Formula) (ns : List ℕ) (ps : List Formula) (n : ℕ) (p : Formula) → listed_facts hyps ns ≡ Some ps → numbered_item hyps n ≡ Some p → listed_facts hyps (ns ++ n ∷ []) ≡ Some (ps ++ p ∷ [])
listed-append hyps [] ps n p h e =
    let none : [] ≡ ps = cc in
    ap (option_and_then (λ q. option_map (λ qs. q ∷ qs) (Some []))) e ∙ ap (λ l. Some (l ++ p ∷ [])) none
listed-append hyps (m ∷ ms) ps n p h e = by_first (λ rest r. listed-append hyps ms rest n p r e) (numbered_item hyps m) h
  where
    by_rest : ((rest : List Formula) → listed_facts hyps ms ≡ Some rest → listed_facts hyps (ms ++ n ∷ []) ≡ Some (rest ++ p ∷ [])) → (q : Formula) (o : Option (List Formula)) → listed_facts hyps ms ≡ o → option_map (λ qs. q ∷ qs) o ≡ Some ps → option_map (λ qs. q ∷ qs) (listed_facts hyps (ms ++ n ∷ [])) ≡ Some (ps ++ p ∷ [])
    by_rest on q None r k = absurd (cc)
    by_rest on q (Some rest) r k =
        let same : q ∷ rest ≡ ps = cc in
        ap (option_map (λ qs. q ∷ qs)) (on rest r) ∙ ap (λ l. Some (l ++ p ∷ [])) same

    by_first : ((rest : List Formula) → listed_facts hyps ms ≡ Some rest → listed_facts hyps (ms ++ n ∷ []) ≡ Some (rest ++ p ∷ [])) → (o : Option Formula) → option_and_then (λ q. option_map (λ qs. q ∷ qs) (listed_facts hyps ms)) o ≡ Some ps → option_and_then (λ q. option_map (λ qs. q ∷ qs) (listed_facts hyps (ms ++ n ∷ []))) o ≡ Some (ps ++ p ∷ [])
    by_first on None k = absurd (cc)
    by_first on (Some q) k = by_rest on q (listed_facts hyps ms) refl k

-- one more of them
pub listed-more : (hyps : List Formula) (numbers : List ℕ) (i : ℕ) (found more : List Formula) (p q : Formula) → i < length numbers → listed_facts hyps (take i numbers) ≡ Some found → Some p ≡ numbered_item hyps (get_or numbers i 0) → q ≡ p → more ≡ found ++ q ∷ [] → listed_facts hyps (take (i + 1) numbers) ≡ Some more
listed-more hyps numbers i found more p q less so_far here same pushed =
    ap (listed_facts hyps) (take_more numbers i 0 less)
    ∙ listed-append hyps (take i numbers) found (get_or numbers i 0) p so_far (sym here)
    ∙ ap Some (sym (pushed ∙ ap (λ x. found ++ x ∷ []) same))

-- a number of no hypothesis
pub not-listed : (hyps : List Formula) (numbers : List ℕ) (i : ℕ) → i < length numbers → None ≡ numbered_item hyps (get_or numbers i 0) → None ≡ listed_facts hyps numbers
not-listed hyps [] i less none = absurd (omega arith)
not-listed hyps (n ∷ ns) zero less none = ap (option_and_then (λ p. option_map (λ ps. p ∷ ps) (listed_facts hyps ns))) none
not-listed hyps (n ∷ ns) (suc i) less none = by_first (not-listed hyps ns i (omega arith) none) (numbered_item hyps n)
  where
    by_first : None ≡ listed_facts hyps ns → (o : Option Formula) → None ≡ option_and_then (λ p. option_map (λ ps. p ∷ ps) (listed_facts hyps ns)) o
    by_first rest None = refl
    by_first rest (Some p) = ap (option_map (λ ps. p ∷ ps)) rest

pub all-listed : (hyps : List Formula) (numbers : List ℕ) (i : ℕ) (found : List Formula) → length numbers ≤ i → listed_facts hyps (take i numbers) ≡ Some found → Some found ≡ listed_facts hyps numbers
all-listed hyps numbers i found all h = sym h ∙ ap (listed_facts hyps) (take_all i numbers all)
