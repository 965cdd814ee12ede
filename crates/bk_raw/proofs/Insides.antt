-- Inside a clause no word of a component stands outside of brackets and blocks; the longest substitution is one.
use Rattle.std.proofs.Common.{◌≡◌, ◌+◌, ◌-◌, ℕ, zero, suc, Bool, true, false, cond, List, [], ◌∷◌, ◌++◌, length, Some, None, refl, sym, ◌∙◌, ap, subst, arith}
use Rattle.bk_form.specs.declared.token.Token.{Token}
use Rattle.bk_form.specs.declared.token.TokenKind.{TokenKind}
use Rattle.bk_form.specs.declared.token.TokenKind.TheVariants.{Name, LevelName, BoundName, Number, Sign, Word}
use Rattle.bk_raw.specs.Grammar.Brackets.{opens, closes, count_open}
use Rattle.bk_raw.specs.Trees.SubTree.{SubTree}
use Rattle.bk_raw.specs.Trees.ComponentTree.{RawClause, word_number, is_component_word}
use Rattle.bk_raw.specs.Grammar.ComponentSpelling.{Parts, Clause}
use Rattle.bk_raw.specs.Grammar.Laws.{IsLongestSub}
use Rattle.bk_raw.specs.Grammar.SubSpelling.{SpellsSub}
use Rattle.bk_raw.proofs.Runs.{run, split-run, first-step}
use Rattle.bk_raw.proofs.Steps.{State, Stopper, step, stepped, moved, moved_by, moved-of, completes}
use Rattle.bk_raw.proofs.SubOne.{one-spelled}
use Rattle.bk_raw.proofs.ClauseRuns.{ends_clause, parts-lead}
use Rattle.bk_raw.proofs.ClauseOne.{first-at}
use Rattle.bk_raw.proofs.Stopping.{none_some, some_same}

-- ---- the automaton counts what is open
counted-by : (o c e : Bool) (n m : ℕ) (b : Bool) → moved_by o c e n ≡ Some (m, b) → m ≡ cond o (n + 1) (cond c (n - 1) n)
counted-by true c e n m b h = let k : suc n ≡ m = ap (λ (s : State). s.0) (some_same (suc n, false) (m, b) h) in omega (arith, k)
counted-by false true e zero m b h = absurd (none_some (m, b) h)
counted-by false true e (suc n) m b h = let k : n ≡ m = ap (λ (s : State). s.0) (some_same (n, true) (m, b) h) in omega (arith, k)
counted-by false false e n m b h = sym (ap (λ (s : State). s.0) (some_same (n, e) (m, b) h))

pub counted : (stops : Stopper) (n : ℕ) (b : Bool) (ts : List Token) (e : State) → run (step stops) (n, b) ts ≡ Some e → e.0 ≡ count_open opens closes n ts
counted stops n b [] e h = sym (ap (λ (s : State). s.0) (some_same (n, b) e h))
counted stops n b (t ∷ ts) e h =
    let f = first-step (step stops) (n, b) e t ts h in
    let m = counted-by (opens t.kind) (closes t.kind) (completes t.kind) n f.0.0 f.0.1 (moved-of stops n b t.kind f.0 f.1) in
    counted stops f.0.0 f.0.1 ts e f.2 ∙ ap (λ x. count_open opens closes x ts) m

word-halts : (b : Bool) (kind : TokenKind) → is_component_word kind ≡ true → stepped ends_clause 0 b kind ≡ None
word-halts b (Word op) h = ap (λ x. cond x None (moved zero (Word op))) h
word-halts b (Name x) h = cc
word-halts b (LevelName x n) h = cc
word-halts b (BoundName n) h = cc
word-halts b (Number z) h = cc
word-halts b (Sign op) h = cc

halts-there : (s : State) (word : Token) (back : List Token) (e : State) → s.0 ≡ 0 → is_component_word word.kind ≡ true → run (step ends_clause) s (word ∷ back) ≡ Some e → ⊥
halts-there s word back e z w h =
    let f = first-step (step ends_clause) s e word back h in
    none_some f.0 (sym (word-halts s.1 word.kind w) ∙ ap (λ n. stepped ends_clause n s.1 word.kind) (sym z) ∙ f.1)

pub no-word-inside : (c : RawClause) (one word : Token) (front back : List Token) → Clause c (one ∷ (front ++ word ∷ back)) → count_open opens closes 0 front ≡ 0 → is_component_word word.kind ≡ true → ⊥
no-word-inside c one word front back h z w =
    let f = first-at c.at (Word (word_number c.word)) (Parts c.word c.parts) (one ∷ (front ++ word ∷ back)) h in
    let e = f.is in
    let behind : f.rest ≡ front ++ word ∷ back = cc in
    let p = split-run (step ends_clause) (0, false) (0, true) front (word ∷ back) (subst (λ ts. run (step ends_clause) (0, false) ts ≡ Some (0, true)) behind (parts-lead c.word c.parts f.rest f.back)) in
    halts-there p.0 word back (0, true) (counted ends_clause 0 false front p.0 p.1 ∙ z) w p.2

-- ---- the longest is one
pub same-front : (w v r q : List Token) → w ++ r ≡ v ++ q → length w ≡ length v → (w ≡ v) × (r ≡ q)
same-front [] [] r q e l = (refl, e)
same-front [] (u ∷ v) r q e l = absurd (omega (arith, l))
same-front (t ∷ w) [] r q e l = absurd (omega (arith, l))
same-front (t ∷ w) (u ∷ v) r q e l =
    let first : t ≡ u = cc in
    let others : w ++ r ≡ v ++ q = cc in
    let more = same-front w v r q others (omega (arith, l)) in
    ((λ i. first i ∷ more.0 i), more.1)

pub longest-is-one : (tokens : List Token) (s t : SubTree) (w v r q : List Token) → IsLongestSub tokens s w r → IsLongestSub tokens t v q → (s ≡ t) × (w ≡ v) × (r ≡ q)
longest-is-one tokens s t w v r q h k =
    let less = h.longest t v q k.splits k.spelled in
    let more = k.longest s w r h.splits h.spelled in
    let p = same-front w v r q (sym h.splits ∙ k.splits) (omega (arith, less, more)) in
    (one-spelled v s t (subst (λ ts. SpellsSub s ts) p.0 h.spelled) k.spelled, p.0, p.1)
