-- What is read of terms under names in sight, and the lists that substitutions are made of.
use Rattle.std.proofs.Common.{◌≡◌, ℕ, suc, ◌+◌, ◌-◌, ◌<◌, ◌≤◌, List, [], ◌∷◌, ◌++◌, length, get_or, drop, refl, sym, ◌∙◌, ap, arith, append_assoc, ℤ}
use Rattle.std.specs.Prelude.{Option, None, Some}
use Rattle.std.proofs.lemmas.List.{drop_more, append-nil}
use Rattle.bk_val.specs.ValueType.{ValueType}
use Rattle.bk_form.specs.Formula.{Formula}
use Rattle.bk_raw.specs.declared.term.RawName.{RawName}
use Rattle.bk_raw.specs.Trees.RawTree.{RawTree, trees_of}
use Rattle.bk_raw.specs.Meaning.Names.{Names}
use Rattle.bk_raw.specs.Meaning.Outcome.{ask}
use Rattle.bk_raw.specs.Meaning.TermReading.{place_of}
use Rattle.bk_elab_terms.specs.Visible.{visible_names}
use Rattle.bk_statics.specs.Binders.{old_texts}
use Rattle.bk_statics.specs.Typings.{Typing, Target, interval, numbered_old, target, number_of, type_at, outcome_of}
use Rattle.bk_statics.specs.Elaborated.{with_pair, paired_as, assigned_pairs, old_pairs}
use Rattle.bk_elab_level.specs.Read.{term_by, types_by}
use Rattle.bk_scope.specs.Shown.{numbered_texts}
use Rattle.bk_elab_level.specs.declared.elaborated.Elaboration.{Elaboration}
use Rattle.bk_scope.proofs.TermsSeen.{pair-first}

-- ---- names
pub old-numbered : (n : ℕ) (xs : List RawName) → numbered_texts n (old_texts xs) ≡ numbered_old n xs
old-numbered n [] = refl
old-numbered n (x ∷ xs) = ap (λ (ns : Names). numbered_texts n (old_texts (x ∷ [])) ++ ns) (old-numbered (suc n) xs)

-- ---- lists
next-is : (n i : ℕ) → suc (n + i) ≡ n + (i + 1)
next-is n i = omega arith

seam : {A : Type 0} (xs : List A) (y : A) (ys : List A) → (xs ++ y ∷ []) ++ ys ≡ xs ++ y ∷ ys
seam xs y ys = append_assoc xs (y ∷ []) ys

-- a number more
pub interval-more : (first count i : ℕ) (found after all : List ℕ) (n : ℕ) → i < count → n ≡ first + i → after ≡ found ++ n ∷ [] → found ++ interval (first + i) (count - i) ≡ all → after ++ interval (first + (i + 1)) (count - (i + 1)) ≡ all
interval-more first count i found after all n l e a h =
    let left : count - i ≡ suc (count - (i + 1)) = omega arith in
    ap (λ (xs : List ℕ). xs ++ interval (first + (i + 1)) (count - (i + 1))) a
    ∙ (seam found n (interval (first + (i + 1)) (count - (i + 1)))
    ∙ (ap (λ (m : ℕ). found ++ m ∷ interval (first + (i + 1)) (count - (i + 1))) e
    ∙ (sym (ap (λ (m : ℕ). found ++ (first + i) ∷ interval m (count - (i + 1))) (next-is first i)) ∙ (sym (ap (λ (m : ℕ). found ++ interval (first + i) m) left) ∙ h))))

-- no number is left
pub interval-end : (first count i : ℕ) (found all : List ℕ) → count ≤ i → found ++ interval (first + i) (count - i) ≡ all → found ≡ all
interval-end first count i found all l h =
    let none : count - i ≡ 0 = omega arith in
    sym (ap (λ (k : ℕ). found ++ interval (first + i) k) none ∙ append-nil found) ∙ h

-- a pair of numbers more
pub old-more : (names : Names) (n : ℕ) (xs : List RawName) (i : ℕ) (x : RawName) (found after all : List (ℕ × ℕ)) (p : ℕ × ℕ) → i < length xs → x ≡ get_or xs i x → p.0 ≡ number_of (target names x.text) → p.1 ≡ n + i → after ≡ found ++ p ∷ [] →
    found ++ old_pairs names (n + i) (drop i xs) ≡ all → after ++ old_pairs names (n + (i + 1)) (drop (i + 1) xs) ≡ all
old-more names n xs i x found after all p l is e k a h =
    let rest : List (ℕ × ℕ) = old_pairs names (n + (i + 1)) (drop (i + 1) xs) in
    let split : old_pairs names (n + i) (drop i xs) ≡ p ∷ rest =
    ap (λ (ys : List RawName). old_pairs names (n + i) ys) (drop_more xs i x l)
    ∙ (ap (λ (y : RawName). old_pairs names (n + i) (y ∷ drop (i + 1) xs)) (sym is)
    ∙ ((λ j. (sym e j, sym k j) ∷ old_pairs names (suc (n + i)) (drop (i + 1) xs)) ∙ ap (λ (m : ℕ). p ∷ old_pairs names m (drop (i + 1) xs)) (next-is n i))) in
    ap (λ (ps : List (ℕ × ℕ)). ps ++ rest) a ∙ (seam found p rest ∙ (sym (ap (λ (ps : List (ℕ × ℕ)). found ++ ps) split) ∙ h))

-- a term, where its variable has a type that it takes
abbrev pub read_as : ℤ → Typing → Names → Option ValueType → RawTree → Option Formula
read_as max typing names None e = None
read_as max typing names (Some t) e = (ask (place_of e) (outcome_of max typing names e) t).answer

pub by-term : (e : Elaboration) (t : Option ValueType) (u : RawTree) → term_by e t u ≡ read_as e.typing.max (types_by e) (visible_names e.names.now) t u
by-term e None u = refl
by-term e (Some t) u = refl

paired-read : (max : ℤ) (typing : Typing) (names : Names) (x : Target) (t : Option ValueType) (e : RawTree) (ps : List (ℕ × Formula)) → paired_as max typing names x t e ps ≡ with_pair (number_of x) (read_as max typing names t e) ps
paired-read max typing names x None e ps = refl
paired-read max typing names x (Some t) e ps = refl

-- one pair more of variables with their terms
pub pairs-more : (max : ℤ) (typing : Typing) (names : Names) (xs : List RawName) (es : List RawTree) (i : ℕ) (x : RawName) (e : RawTree) (f : Option Formula) (n : ℕ) (found after all : List (ℕ × Formula)) → i < length xs → x ≡ get_or xs i x → i < length es → e ≡ get_or es i e →
    f ≡ read_as max typing names (type_at typing (target names x.text)) e → n ≡ number_of (target names x.text) → after ≡ found ++ with_pair n f [] →
    found ++ assigned_pairs max typing names (drop i xs) (trees_of (drop i es)) ≡ all → after ++ assigned_pairs max typing names (drop (i + 1) xs) (trees_of (drop (i + 1) es)) ≡ all
pairs-more max typing names xs es i x e f n found after all l is k there r m a h =
    let rest : List (ℕ × Formula) = assigned_pairs max typing names (drop (i + 1) xs) (trees_of (drop (i + 1) es)) in
    let split : assigned_pairs max typing names (drop i xs) (trees_of (drop i es)) ≡ with_pair n f [] ++ rest =
    ap (λ (ys : List RawName). assigned_pairs max typing names ys (trees_of (drop i es))) (drop_more xs i x l)
    ∙ (ap (λ (ts : List RawTree). assigned_pairs max typing names (get_or xs i x ∷ drop (i + 1) xs) (trees_of ts)) (drop_more es i e k)
    ∙ (ap (λ (y : RawName). assigned_pairs max typing names (y ∷ drop (i + 1) xs) (trees_of (get_or es i e ∷ drop (i + 1) es))) (sym is)
    ∙ (ap (λ (t : RawTree). assigned_pairs max typing names (x ∷ drop (i + 1) xs) (trees_of (t ∷ drop (i + 1) es))) (sym there)
    ∙ (paired-read max typing names (target names x.text) (type_at typing (target names x.text)) e rest
    ∙ (ap (λ (g : Option Formula). with_pair (number_of (target names x.text)) g rest) (sym r) ∙ (ap (λ (o : ℕ). with_pair o f rest) (sym m) ∙ pair-first n f rest)))))) in
    ap (λ (ps : List (ℕ × Formula)). ps ++ rest) a ∙ (append_assoc found (with_pair n f []) rest ∙ (sym (ap (λ (ps : List (ℕ × Formula)). found ++ ps) split) ∙ h))
