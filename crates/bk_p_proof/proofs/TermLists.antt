-- Terms with commas between, and laws with their terms, in front of tokens.
use Rattle.std.specs.Prelude.{◌≡◌, ◌⊎◌, ℕ, ◌<◌, ◌≤◌, List, [], ◌∷◌, ◌++◌, length, true, false, refl}
use Rattle.std.proofs.Common.{inl, inr, arith, sym, ◌∙◌, ap, subst, append_assoc, length-append}
use Rattle.bk_form.specs.declared.token.Token.{Token}
use Rattle.bk_form.specs.declared.token.TokenKind.TheVariants.{Name, Sign}
use Rattle.bk_ops.specs.declared.sign.TheConstants.{COMMA, OPEN_PAREN, CLOSE_PAREN}
use Rattle.bk_raw.specs.Grammar.Pieces.{JustSign, ◌⌢◌}
use Rattle.bk_raw.specs.Trees.RawTree.{RawTree, RawTrees, no_trees, tree_and, trees_of}
use Rattle.bk_raw.specs.Grammar.Spelling.{Spells}
use Rattle.bk_raw.specs.Grammar.ScriptSpelling.{AnyTerm, Picked}
use Rattle.bk_raw.proofs.Exact.{one_for_its_tokens}
use Rattle.bk_raw.proofs.Steps.{Piece}
use Rattle.bk_raw.proofs.Patterns.{first}
use Rattle.bk_raw.proofs.TermRuns.{ends_term, ends_terms, term}
use Rattle.bk_raw.proofs.PartOne.{not-empty, terms-lead, one-terms}
use Rattle.bk_raw.proofs.Runs.{first-step}
use Rattle.bk_raw.proofs.Steps.{step, stepped}
use Rattle.bk_raw.proofs.Stopping.{none_some}
use Rattle.bk_p_expr.specs.Fronts.{Longest, Nothing}
use Rattle.bk_p_expr.specs.Pieces.{IsPiece, IsTerms, and_tree}
use Rattle.bk_p_expr.specs.declared.piece.Piece.{Piece as Term}
use Rattle.bk_p_expr.specs.declared.piece.Terms.{Terms as Built}
use Rattle.bk_p_proof.specs.Ahead.{Ahead, NotAhead}
use Rattle.bk_p_proof.specs.Kinds.{SomeTerms, Lawful}
use Rattle.bk_p_proof.proofs.Cuts.{CutsAt, Begins, cuts_by, cuts_less, begins_halts, tail_same}
use Rattle.bk_p_proof.proofs.Rows.{RowSoFar, row_begins, row_goes_on, row_ends, row_ends_before, row_none}

one_term : (t u : RawTree) (ts : List Token) → AnyTerm t ts → AnyTerm u ts → t ≡ u
one_term t u ts h k = one_for_its_tokens ts t u h k

pub term_cut : CutsAt AnyTerm (Begins (Sign COMMA))
term_cut = cuts_less AnyTerm _ (Begins (Sign COMMA)) (cuts_by AnyTerm ends_term (λ t. term t 0) one_term) (begins_halts ends_term (Sign COMMA) refl)

-- as far as terms are read
pub record TermsSoFar (tokens : List Token) (all : Built) (rest : List Token) : Type 0 where
  pub trees : List RawTree
  pub row : RowSoFar AnyTerm COMMA tokens trees rest
  pub built : IsTerms (trees_of trees) all

and_last : (ts : List RawTree) (t : RawTree) → and_tree (trees_of ts) t ≡ trees_of (ts ++ t ∷ [])
and_last [] t = refl
and_last (s ∷ ts) t = λ i. tree_and s (and_last ts t i)

abbrev Made : Term → Built → Built → Type 0
Made piece all new = (trees : RawTrees) (tree : RawTree) → IsTerms trees all → IsPiece tree piece → IsTerms (and_tree trees tree) new

abbrev FoundTerm : List Token → Term → List Token → Type 0
FoundTerm tokens piece rest = (t : RawTree) × Longest Spells tokens t rest × IsPiece t piece

pub terms_begin : (tokens rest : List Token) (piece : Term) (none all : Built) → FoundTerm tokens piece rest → IsTerms no_trees none → Made piece none all → length rest < length tokens → TermsSoFar tokens all rest
terms_begin tokens rest piece none all h n f l = record { trees = h.0 ∷ []; row = row_begins AnyTerm COMMA term_cut tokens rest h.0 h.1 l; built = f no_trees h.0 n h.2 }

pub terms_go_on : (tokens ts more rest : List Token) (piece : Term) (all new : Built) → TermsSoFar tokens all ts → Ahead (Sign COMMA) ts more → FoundTerm more piece rest → Made piece all new → length rest < length more → TermsSoFar tokens new rest
terms_go_on tokens ts more rest piece all new s a h f l = record {
  trees = s.trees ++ h.0 ∷ [];
  row = row_goes_on AnyTerm COMMA term_cut tokens ts more rest s.trees h.0 s.row a h.1 l;
  built = subst (λ ts. IsTerms ts new) (and_last s.trees h.0) (f (trees_of s.trees) h.0 s.built h.2);
}

abbrev pub FoundTerms : List Token → Built → List Token → Type 0
FoundTerms tokens all rest = (ts : List RawTree) × Longest SomeTerms tokens ts rest × IsTerms (trees_of ts) all

pub terms_end : (tokens rest : List Token) (all : Built) → TermsSoFar tokens all rest → NotAhead (Sign COMMA) rest → FoundTerms tokens all rest
terms_end tokens rest all s n = (s.trees, row_ends AnyTerm COMMA term_cut tokens rest s.trees s.row n, s.built)

pub terms_end_before : (tokens rest more : List Token) (all : Built) → TermsSoFar tokens all rest → Ahead (Sign COMMA) rest more → Nothing Spells more → FoundTerms tokens all rest
terms_end_before tokens rest more all s a n = (s.trees, row_ends_before AnyTerm COMMA term_cut tokens rest more s.trees s.row a n, s.built)

pub terms_fail : (tokens : List Token) → Nothing Spells tokens → Nothing SomeTerms tokens
terms_fail tokens n = row_none AnyTerm COMMA tokens n

-- ---- the terms that a law takes
terms_cut : CutsAt SomeTerms (Begins (Sign CLOSE_PAREN))
terms_cut = cuts_less SomeTerms _ (Begins (Sign CLOSE_PAREN)) (cuts_by SomeTerms ends_terms terms-lead one-terms) (begins_halts ends_terms (Sign CLOSE_PAREN) refl)

-- what is picked takes no token, or stands behind a parenthesis
picked_nothing_taken : (tokens : List Token) → ((ts : List RawTree) (front after : List Token) → tokens ≡ front ++ after → Picked ts front → (front ≡ []) ⊎ ⊥) → Longest Picked tokens [] tokens
picked_nothing_taken tokens n = record { written = []; splits = refl; spelled = inl refl; longest = longest }
  where
    by : (front after : List Token) → tokens ≡ front ++ after → (front ≡ []) ⊎ ⊥ → length tokens ≤ length after
    by front after e (inl k) = omega (arith, ap length (e ∙ ap (λ us. us ++ after) k))
    by front after e (inr k) = absurd k

    longest : (ts : List RawTree) (front after : List Token) → tokens ≡ front ++ after → Picked ts front → length tokens ≤ length after
    longest ts front after e p = by front after e (n ts front after e p)

open_ahead : (K : Piece) (front after : List Token) → (JustSign OPEN_PAREN ⌢ K) front → (us : List Token) × Ahead (Sign OPEN_PAREN) (front ++ after) (us ++ after) × K us
open_ahead K front after p = let f = first (Sign OPEN_PAREN) K front p in (f.rest, (f.token, ap (λ us. us ++ after) f.is, f.same), f.back)

same_rest : (op : ℕ) (ts us vs : List Token) → Ahead (Sign op) ts us → Ahead (Sign op) ts vs → us ≡ vs
same_rest op ts us vs a b = (tail_same a.0 b.0 us vs (sym a.1 ∙ b.1)).1

pub picked_no_parenthesis : (tokens : List Token) → NotAhead (Sign OPEN_PAREN) tokens → Longest Picked tokens [] tokens
picked_no_parenthesis tokens n = picked_nothing_taken tokens taken
  where
    opened : (K : Piece) (front after : List Token) → tokens ≡ front ++ after → (JustSign OPEN_PAREN ⌢ K) front → ⊥
    opened K front after e p = let o = open_ahead K front after p in n o.1.0 (o.0 ++ after) (e ∙ o.1.1) o.1.2

    taken : (ts : List RawTree) (front after : List Token) → tokens ≡ front ++ after → Picked ts front → (front ≡ []) ⊎ ⊥
    taken [] front after e (inl p) = inl p
    taken [] front after e (inr p) = inr (opened (JustSign CLOSE_PAREN) front after e p)
    taken (t ∷ ts) front after e p = inr (opened (SomeTerms (t ∷ ts) ⌢ JustSign CLOSE_PAREN) front after e p)

-- behind the parenthesis neither another one closes, nor do terms stand with one behind them
pub picked_none : (tokens inside : List Token) → Ahead (Sign OPEN_PAREN) tokens inside → NotAhead (Sign CLOSE_PAREN) inside → Nothing (λ ts. SomeTerms ts ⌢ JustSign CLOSE_PAREN) inside → Longest Picked tokens [] tokens
picked_none tokens inside a n m = picked_nothing_taken tokens taken
  where
    taken : (ts : List RawTree) (front after : List Token) → tokens ≡ front ++ after → Picked ts front → (front ≡ []) ⊎ ⊥
    taken [] front after e (inl p) = inl p
    taken [] front after e (inr p) =
        let o = open_ahead (JustSign CLOSE_PAREN) front after p in
        let s = same_rest OPEN_PAREN tokens inside (o.0 ++ after) a (o.1.0, e ∙ o.1.1, o.1.2) in
        inr (n o.2.0 after (s ∙ ap (λ us. us ++ after) o.2.1) o.2.2)
    taken (t ∷ ts) front after e p =
        let o = open_ahead (SomeTerms (t ∷ ts) ⌢ JustSign CLOSE_PAREN) front after p in
        let s = same_rest OPEN_PAREN tokens inside (o.0 ++ after) a (o.1.0, e ∙ o.1.1, o.1.2) in
        inr (m (t ∷ ts) o.0 after s o.2)

pub no_terms_closed : (inside : List Token) → Nothing SomeTerms inside → Nothing (λ ts. SomeTerms ts ⌢ JustSign CLOSE_PAREN) inside
no_terms_closed inside n ts front after e p = n ts p.0 (p.1 ++ after) (e ∙ ap (λ us. us ++ after) p.2 ∙ append_assoc p.0 p.1 after) p.3

abbrev closes : (ts back : List Token) → JustSign CLOSE_PAREN ts → Begins (Sign CLOSE_PAREN) (ts ++ back)
closes ts back h = (back, (h.0, ap (λ us. us ++ back) h.1, h.2))

pub terms_not_closed : (inside behind : List Token) (us : List RawTree) → Longest SomeTerms inside us behind → NotAhead (Sign CLOSE_PAREN) behind → Nothing (λ ts. SomeTerms ts ⌢ JustSign CLOSE_PAREN) inside
terms_not_closed inside behind us h n ts front after e p =
    let b = closes p.1 after p.4 in
    let c = terms_cut inside behind p.0 (p.1 ++ after) us ts h (e ∙ ap (λ us. us ++ after) p.2 ∙ append_assoc p.0 p.1 after) p.3 b in
    n b.1.0 b.0 (c.1 ∙ b.1.1) b.1.2

-- terms lead from an open state, in which a closing parenthesis halts
pub no_term_closes : (ts : List RawTree) (inside rest front after : List Token) → Ahead (Sign CLOSE_PAREN) inside rest → inside ≡ front ++ after → SomeTerms ts front → ⊥
no_term_closes ts inside rest [] after b e h = not-empty ends_terms (SomeTerms ts) (terms-lead ts) h
no_term_closes ts inside rest (t ∷ front) after b e h =
    let z = tail_same b.0 t rest (front ++ after) (sym b.1 ∙ e) in
    let k : t.kind ≡ Sign CLOSE_PAREN = ap (λ u. u.kind) (sym z.0) ∙ b.2 in
    let f = first-step (step ends_terms) (0, false) (0, true) t front (terms-lead ts (t ∷ front) h) in
    none_some f.0 (sym (ap (stepped ends_terms 0 false) k) ∙ f.1)

pub picked_empty : (tokens inside rest : List Token) → Ahead (Sign OPEN_PAREN) tokens inside → Ahead (Sign CLOSE_PAREN) inside rest → Longest Picked tokens [] rest
picked_empty tokens inside rest a b = record {
  written = a.0 ∷ b.0 ∷ [];
  splits = a.1 ∙ ap (λ us. a.0 ∷ us) b.1;
  spelled = inr (a.0 ∷ [], b.0 ∷ [], refl, (a.0, refl, a.2), (b.0, refl, b.2));
  longest = longest;
}
  where
    -- no term begins with a closing parenthesis
    closed_first : (ts : List RawTree) (front after : List Token) → tokens ≡ front ++ after → (JustSign OPEN_PAREN ⌢ SomeTerms ts ⌢ JustSign CLOSE_PAREN) front → length rest ≤ length after
    closed_first ts front after e p =
        let o = open_ahead (SomeTerms ts ⌢ JustSign CLOSE_PAREN) front after p in
        let s = same_rest OPEN_PAREN tokens inside (o.0 ++ after) a (o.1.0, e ∙ o.1.1, o.1.2) in
        absurd (no_term_closes ts inside rest o.2.0 (o.2.1 ++ after) b (s ∙ ap (λ us. us ++ after) o.2.2 ∙ append_assoc o.2.0 o.2.1 after) o.2.3)

    longest : (ts : List RawTree) (front after : List Token) → tokens ≡ front ++ after → Picked ts front → length rest ≤ length after
    longest [] front after e (inl p) = omega (arith, ap length a.1, ap length b.1, ap length (e ∙ ap (λ us. us ++ after) p))
    longest [] front after e (inr p) =
        let o = open_ahead (JustSign CLOSE_PAREN) front after p in
        let s = same_rest OPEN_PAREN tokens inside (o.0 ++ after) a (o.1.0, e ∙ o.1.1, o.1.2) in
        omega (arith, ap length (sym b.1 ∙ s ∙ ap (λ us. us ++ after) o.2.1))
    longest (t ∷ ts) front after e p = closed_first (t ∷ ts) front after e p

pub picked_terms : (tokens inside behind rest : List Token) (t : RawTree) (ts : List RawTree) → Ahead (Sign OPEN_PAREN) tokens inside → NotAhead (Sign CLOSE_PAREN) inside → Longest SomeTerms inside (t ∷ ts) behind → Ahead (Sign CLOSE_PAREN) behind rest → Longest Picked tokens (t ∷ ts) rest
picked_terms tokens inside behind rest t ts a n h b = record {
  written = a.0 ∷ (h.written ++ b.0 ∷ []);
  splits = a.1 ∙ ap (λ us. a.0 ∷ us) (h.splits ∙ ap (λ us. h.written ++ us) b.1 ∙ sym (append_assoc h.written (b.0 ∷ []) rest));
  spelled = (a.0 ∷ [], h.written ++ b.0 ∷ [], refl, (a.0, refl, a.2), (h.written, b.0 ∷ [], refl, h.spelled, (b.0, refl, b.2)));
  longest = longest;
}
  where
    shorter : length rest ≤ length tokens
    shorter = omega (arith, ap length a.1, ap length h.splits, length-append h.written behind, ap length b.1)

    longest : (us : List RawTree) (front after : List Token) → tokens ≡ front ++ after → Picked us front → length rest ≤ length after
    longest [] front after e (inl p) = omega (arith, shorter, ap length (e ∙ ap (λ us. us ++ after) p))
    longest [] front after e (inr p) =
        let o = open_ahead (JustSign CLOSE_PAREN) front after p in
        let s = same_rest OPEN_PAREN tokens inside (o.0 ++ after) a (o.1.0, e ∙ o.1.1, o.1.2) in
        absurd (n o.2.0 after (s ∙ ap (λ us. us ++ after) o.2.1) o.2.2)
    longest (u ∷ us) front after e p =
        let o = open_ahead (SomeTerms (u ∷ us) ⌢ JustSign CLOSE_PAREN) front after p in
        let s = same_rest OPEN_PAREN tokens inside (o.0 ++ after) a (o.1.0, e ∙ o.1.1, o.1.2) in
        let q = o.2 in
        let c = terms_cut inside behind q.0 (q.1 ++ after) (t ∷ ts) (u ∷ us) h (s ∙ ap (λ vs. vs ++ after) q.2 ∙ append_assoc q.0 q.1 after) q.3 (closes q.1 after q.4) in
        let w = closes q.1 after q.4 in
        omega (arith, ap length (same_rest CLOSE_PAREN behind rest after b (w.1.0, c.1 ∙ w.1.1, w.1.2)))

pub picked_found : (tokens inside behind rest : List Token) (ts : List RawTree) → Ahead (Sign OPEN_PAREN) tokens inside → NotAhead (Sign CLOSE_PAREN) inside → Longest SomeTerms inside ts behind → Ahead (Sign CLOSE_PAREN) behind rest → Longest Picked tokens ts rest
picked_found tokens inside behind rest [] a n h b = absurd h.spelled
picked_found tokens inside behind rest (t ∷ ts) a n h b = picked_terms tokens inside behind rest t ts a n h b

-- ---- laws
pub law_found : (tokens behind rest : List Token) (name : List ℕ) (ts : List RawTree) → Ahead (Name name) tokens behind → Longest Picked behind ts rest → Longest Lawful tokens (name, ts) rest
law_found tokens behind rest name ts a h = record {
  written = a.0 ∷ h.written;
  splits = a.1 ∙ ap (λ us. a.0 ∷ us) h.splits;
  spelled = (a.0 ∷ [], h.written, refl, (a.0, refl, a.2), h.spelled);
  longest = λ l front after e p.
      let f = first (Name l.0) (Picked l.1) front p in
      let s = tail_same a.0 f.token behind (f.rest ++ after) (sym a.1 ∙ e ∙ ap (λ us. us ++ after) f.is) in
      h.longest l.1 f.rest after s.1 f.back;
}
