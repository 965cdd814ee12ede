-- Names and terms in front of tokens, as the code reads them.
use Rattle.std.specs.Prelude.{◌≡◌, ◌⊎◌, ℕ, ◌<◌, Bool, true, false, nat_eq, ◌||◌, List, [], ◌∷◌, ◌++◌, length, None, Some, refl}
use Rattle.std.proofs.Common.{inl, inr, arith, sym, ◌∙◌, ap, subst}
use Rattle.std.proofs.lemmas.Bool.{eqb-true}
use Rattle.bk_form.specs.declared.token.Token.{Token}
use Rattle.bk_form.specs.declared.token.TokenKind.{TokenKind}
use Rattle.bk_form.specs.declared.token.TokenKind.TheVariants.{Name, Sign, Word}
use Rattle.bk_ops.specs.declared.sign.TheConstants.{COMMA}
use Rattle.bk_ops.specs.declared.word.TheConstants.{END, THEN, IN, DO, VARIANT}
use Rattle.bk_raw.specs.Grammar.Pieces.{JustWord, ◌⌢◌}
use Rattle.bk_raw.specs.Grammar.Reading.{named, name}
use Rattle.bk_raw.specs.Trees.RawTree.{RawTree, RawTrees, no_trees, tree_and, trees_of}
use Rattle.bk_raw.specs.Grammar.Spelling.{Declared, Names, Spells, Terms}
use Rattle.bk_raw.specs.declared.term.RawName.{RawName}
use Rattle.bk_raw.proofs.Exact.{one_for_its_tokens}
use Rattle.bk_raw.proofs.Stopping.{none_some, some_same}
use Rattle.bk_raw.proofs.Steps.{Piece, Stopper, step, stepped, Leads}
use Rattle.bk_raw.proofs.Runs.{run}
use Rattle.bk_raw.proofs.TermRuns.{ends_term, term}
use Rattle.bk_raw.proofs.SubOne.{one-name}
use Rattle.bk_raw.proofs.SubParts.{of_term, of_names, is_term, is_names}
use Rattle.bk_p_expr.specs.Fronts.{Longest, Nothing}
use Rattle.bk_p_expr.specs.Pieces.{IsPiece, IsTerms, and_tree}
use Rattle.bk_p_expr.specs.declared.piece.Piece.{Piece as Term}
use Rattle.bk_p_expr.specs.declared.piece.Terms.{Terms as Built}
use Rattle.bk_p_sub.specs.Found.{Ahead, NotAhead, Before, FoundTerms, is_behind_term}
use Rattle.bk_p_sub.proofs.Openings.{kind_term, kind_names, not_before}
use Rattle.bk_p_sub.proofs.Rows.{RowSoFar, row_begins, row_goes_on, row_ends, row_ends_before, row_none}
use Rattle.bk_p_sub.proofs.Lists.{names_longest, names_nothing, terms_longest, terms_nothing}

-- ---- one name
one_token : (t : Token) (rest front after : List Token) (u : Token) → t ∷ rest ≡ front ++ after → front ≡ u ∷ [] → rest ≡ after
one_token t rest front after u e f =
    let g : t ∷ rest ≡ u ∷ after = e ∙ ap (λ us. us ++ after) f in
    let same : rest ≡ after = cc in
    same

named_longest : (kind : TokenKind) (t : Token) (ts rest : List Token) (x : RawName) → t.kind ≡ kind → named kind t.start ts ≡ Some (x, rest) → Longest Declared (t ∷ ts) x rest
named_longest (Name text) t ts rest x k e =
    subst (λ (q : RawName × List Token). Longest Declared (t ∷ ts) q.0 q.1) (some_same (record { at = t.start; text = text }, ts) (x, rest) e)
    (record { written = t ∷ []; splits = refl; spelled = (t, refl, k, refl); longest = λ y front after f d. omega (arith, ap length (one_token t ts front after d.0 f d.1)) })
named_longest _ t ts rest x k e = none_some (x, rest) e

pub name_longest : (tokens rest : List Token) (x : RawName) → name tokens ≡ Some (x, rest) → Longest Declared tokens x rest
name_longest [] rest x e = none_some (x, rest) e
name_longest (t ∷ ts) rest x e = named_longest t.kind t ts rest x refl e

pub name_nothing : (tokens : List Token) → name tokens ≡ None → Nothing Declared tokens
name_nothing tokens e y front after f d =
    none_some (record { at = d.0.start; text = y.text }, after) (sym e ∙ ap name (f ∙ ap (λ us. us ++ after) d.1) ∙ ap (λ k. named k d.0.start after) d.2)

-- ---- names
abbrev ends_alone : Stopper
ends_alone b kind = b

alone_leads : (z : RawName) → Leads ends_alone (0, false) (0, true) (Declared z)
alone_leads z us w = subst (λ vs. run (step ends_alone) (0, false) vs ≡ Some (0, true)) (sym w.1) (subst (λ k. run (step ends_alone) (0, false) (record { kind = k; start = w.0.start; end = w.0.end } ∷ []) ≡ Some (0, true)) (sym w.2) refl)

abbrev pub NamesSoFar : List Token → List RawName → List Token → Type 0
NamesSoFar tokens xs rest = RowSoFar Declared COMMA tokens xs rest × (length rest < length tokens)

pub names_begin : (tokens rest : List Token) (x : RawName) → name tokens ≡ Some (x, rest) → length rest < length tokens → NamesSoFar tokens (x ∷ []) rest
names_begin tokens rest x e l = (row_begins Declared COMMA ends_alone alone_leads one-name refl tokens rest x (name_longest tokens rest x e), l)

pub names_go_on : (tokens ts more rest : List Token) (xs : List RawName) (x : RawName) → NamesSoFar tokens xs ts → Ahead (Sign COMMA) ts more → name more ≡ Some (x, rest) → length rest < length more → NamesSoFar tokens (xs ++ x ∷ []) rest
names_go_on tokens ts more rest xs x s a e l = (row_goes_on Declared COMMA ends_alone alone_leads one-name refl tokens ts more rest a.0 xs x s.0 a.1 a.2 (name_longest more rest x e), omega (arith, l, s.1, ap length a.1))

pub names_end : (tokens rest : List Token) (xs : List RawName) → NamesSoFar tokens xs rest → NotAhead (Sign COMMA) rest → Longest Names tokens xs rest
names_end tokens rest xs s n = names_longest tokens rest xs (row_ends Declared COMMA ends_alone alone_leads one-name refl tokens rest xs s.0 n)

pub names_end_before : (tokens rest more : List Token) (xs : List RawName) → NamesSoFar tokens xs rest → Ahead (Sign COMMA) rest more → name more ≡ None → Longest Names tokens xs rest
names_end_before tokens rest more xs s a e = names_longest tokens rest xs (row_ends_before Declared COMMA ends_alone alone_leads one-name refl tokens rest more a.0 xs s.0 a.1 (name_nothing more e))

pub names_fail : (tokens : List Token) → name tokens ≡ None → Nothing Names tokens
names_fail tokens e = names_nothing tokens (row_none Declared COMMA tokens (name_nothing tokens e))

-- ---- a word behind
or_true : (a b : Bool) → (a || b) ≡ true → (a ≡ true) ⊎ (b ≡ true)
or_true true b h = inl refl
or_true false b h = inr h

at_word : (op word : ℕ) → nat_eq op word ≡ true → stepped ends_term 0 true (Word word) ≡ None → stepped ends_term 0 true (Word op) ≡ None
at_word op word e h = subst (λ k. stepped ends_term 0 true (Word k) ≡ None) (sym (eqb-true op word e)) h

pub behind_term_halts : (op : ℕ) → is_behind_term op ≡ true → stepped ends_term 0 true (Word op) ≡ None
behind_term_halts op h = elim (or_true (nat_eq op THEN || nat_eq op IN || nat_eq op DO || nat_eq op VARIANT) (nat_eq op END) h) [
  | inr e ↦ at_word op END e refl
  | inl h ↦ elim (or_true (nat_eq op THEN || nat_eq op IN || nat_eq op DO) (nat_eq op VARIANT) h) [
    | inr e ↦ at_word op VARIANT e refl
    | inl h ↦ elim (or_true (nat_eq op THEN || nat_eq op IN) (nat_eq op DO) h) [
      | inr e ↦ at_word op DO e refl
      | inl h ↦ elim (or_true (nat_eq op THEN) (nat_eq op IN) h) [
        | inr e ↦ at_word op IN e refl
        | inl e ↦ at_word op THEN e refl
      ]
    ]
  ]
]

pub term_not_before : (op : ℕ) (tokens rest : List Token) (t : RawTree) → is_behind_term op ≡ true → Longest Spells tokens t rest → NotAhead (Word op) rest → Nothing (λ t. Spells t ⌢ JustWord op) tokens
term_not_before op tokens rest t w h n = not_before false is_term Spells of_term (kind_term false) (Word op) (behind_term_halts op w) tokens rest t h n

pub names_not_before : (op : ℕ) (tokens rest : List Token) (xs : List RawName) → Longest Names tokens xs rest → NotAhead (Word op) rest → Nothing (λ xs. Names xs ⌢ JustWord op) tokens
names_not_before op tokens rest xs h n = not_before false is_names Names of_names (kind_names false) (Word op) refl tokens rest xs h n

pub before_there : {A : Type 0} (Thing : A → Piece) (ahead : TokenKind) (tokens after rest : List Token) (x : A) → Longest Thing tokens x after → Ahead ahead after rest → Before Thing ahead tokens x rest
before_there Thing ahead tokens after rest x h a = record { sign = a.0; same = a.2; found = subst (Longest Thing tokens x) a.1 h }

-- ---- terms
-- as far as terms are read
pub record TermsSoFar (tokens : List Token) (all : Built) (rest : List Token) : Type 0 where
  pub trees : List RawTree
  pub row : RowSoFar Spells COMMA tokens trees rest
  pub built : IsTerms (trees_of trees) all
  pub shorter : length rest < length tokens

one_term : (t u : RawTree) (ts : List Token) → Spells t ts → Spells u ts → t ≡ u
one_term t u ts h k = one_for_its_tokens ts t u h k

and_last : (ts : List RawTree) (t : RawTree) → and_tree (trees_of ts) t ≡ trees_of (ts ++ t ∷ [])
and_last [] t = refl
and_last (s ∷ ts) t = λ i. tree_and s (and_last ts t i)

pub terms_begin : (tokens rest : List Token) (piece : Term) (none all : Built) → (t : RawTree) × Longest Spells tokens t rest × IsPiece t piece → IsTerms no_trees none → ((trees : RawTrees) (tree : RawTree) → IsTerms trees none → IsPiece tree piece → IsTerms (and_tree trees tree) all) → length rest < length tokens → TermsSoFar tokens all rest
terms_begin tokens rest piece none all h n f l = record { trees = h.0 ∷ []; row = row_begins Spells COMMA ends_term (λ t. term t 0) one_term refl tokens rest h.0 h.1; built = f no_trees h.0 n h.2; shorter = l }

pub terms_go_on : (tokens ts more rest : List Token) (piece : Term) (all new : Built) → TermsSoFar tokens all ts → Ahead (Sign COMMA) ts more → (t : RawTree) × Longest Spells more t rest × IsPiece t piece → ((trees : RawTrees) (tree : RawTree) → IsTerms trees all → IsPiece tree piece → IsTerms (and_tree trees tree) new) → length rest < length more → TermsSoFar tokens new rest
terms_go_on tokens ts more rest piece all new s a h f l = record {
  trees = s.trees ++ h.0 ∷ [];
  row = row_goes_on Spells COMMA ends_term (λ t. term t 0) one_term refl tokens ts more rest a.0 s.trees h.0 s.row a.1 a.2 h.1;
  built = subst (λ ts. IsTerms ts new) (and_last s.trees h.0) (f (trees_of s.trees) h.0 s.built h.2);
  shorter = omega (arith, s.shorter, l, ap length a.1);
}

pub terms_end : (tokens rest : List Token) (all : Built) → TermsSoFar tokens all rest → NotAhead (Sign COMMA) rest → FoundTerms tokens all rest
terms_end tokens rest all s n = (trees_of s.trees, terms_longest tokens rest s.trees (row_ends Spells COMMA ends_term (λ t. term t 0) one_term refl tokens rest s.trees s.row n), s.built)

pub terms_end_before : (tokens rest more : List Token) (all : Built) → TermsSoFar tokens all rest → Ahead (Sign COMMA) rest more → Nothing Spells more → FoundTerms tokens all rest
terms_end_before tokens rest more all s a n = (trees_of s.trees, terms_longest tokens rest s.trees (row_ends_before Spells COMMA ends_term (λ t. term t 0) one_term refl tokens rest more a.0 s.trees s.row a.1 n), s.built)

pub terms_fail : (tokens : List Token) → Nothing Spells tokens → Nothing Terms tokens
terms_fail tokens n = terms_nothing tokens (row_none Spells COMMA tokens n)

-- ---- a token of a kind in front
pub none_ahead_of_none : (kind : TokenKind) (tokens : List Token) → tokens ≡ [] → NotAhead kind tokens
none_ahead_of_none kind tokens e t rest f k =
    let g : [] ≡ t ∷ rest = sym e ∙ f in
    cc

pub none_ahead : (kind : TokenKind) (tokens rest : List Token) (t : Token) → tokens ≡ t ∷ rest → (t.kind ≡ kind → ⊥) → NotAhead kind tokens
none_ahead kind tokens rest t e n u more f k =
    let g : t ∷ rest ≡ u ∷ more = sym e ∙ f in
    let same : t ≡ u = cc in
    n (ap (λ v. v.kind) same ∙ k)
