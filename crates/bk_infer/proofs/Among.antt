-- A name that is not the variable's is passed over.
use Rattle.std.proofs.Common.{◌≡◌, refl, ap, sym, ◌∙◌, ◌<◌, ℕ, zero, suc, false, cond, List, [], ◌∷◌, length, get_or, drop, arith}
use Rattle.std.specs.Prelude.{Some}
use Rattle.bk_raw.specs.declared.term.RawName.{RawName}
use Rattle.bk_raw.specs.Trees.RawTree.{RawTree, no_trees, trees_of}
use Rattle.bk_raw.specs.Meaning.Names.{Names}
use Rattle.bk_statics.specs.Typings.{is_variable, target}
use Rattle.bk_statics.specs.Ways.{no_way, by_term, among_terms}

-- no terms
abbrev no_terms : List RawTree
no_terms = []

drop-none : (n : ℕ) → drop n no_terms ≡ no_terms
drop-none zero = refl
drop-none (suc n) = refl

pub among-step : (names : Names) (m : ℕ) (xs : List RawName) (ts : List RawTree) (i : ℕ) (x : RawName) → i < length xs → x ≡ get_or xs i x → is_variable m (target names x.text) ≡ false → among_terms names m (drop (suc i) xs) (trees_of (drop (suc i) ts)) ≡ among_terms names m (drop i xs) (trees_of (drop i ts))
among-step names m [] ts i x h e k = absurd (omega arith)
among-step names m (y ∷ xs) [] zero x h e k =
    let other : is_variable m (target names y.text) ≡ false = ap (λ (z : RawName). is_variable m (target names z.text)) (sym e) ∙ k in
    ap (λ b. cond b (Some no_way) (among_terms names m xs no_trees)) (sym other)
among-step names m (y ∷ xs) (t ∷ ts) zero x h e k =
    let other : is_variable m (target names y.text) ≡ false = ap (λ (z : RawName). is_variable m (target names z.text)) (sym e) ∙ k in
    ap (λ b. cond b (Some (by_term names t)) (among_terms names m xs (trees_of ts))) (sym other)
among-step names m (y ∷ xs) [] (suc i) x h e k =
    among-step names m xs [] i x (omega arith) e k ∙ ap (λ (l : List RawTree). among_terms names m (drop i xs) (trees_of l)) (drop-none i)
among-step names m (y ∷ xs) (t ∷ ts) (suc i) x h e k = among-step names m xs ts i x (omega arith) e k
