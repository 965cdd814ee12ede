-- The first token of an atom that is no name and no comma tells which atom it is.
use Rattle.std.proofs.Common.{◌≡◌, ℕ, false, cond, List, [], ◌∷◌, ◌++◌, ◌∙◌, ap}
use Rattle.std.specs.Prelude.{nat_eq}
use Rattle.bk_form.specs.declared.token.Token.{Token}
use Rattle.bk_form.specs.declared.token.TokenKind.{TokenKind}
use Rattle.bk_form.specs.declared.token.TokenKind.TheVariants.{Name, Sign, Word}
use Rattle.bk_ops.specs.declared.sign.TheConstants.{COMMA}
use Rattle.bk_raw.specs.Grammar.Pieces.{JustSign, ◌⌢◌, JustWord}
use Rattle.bk_raw.specs.Grammar.Spelling.{Declared, Names}
use Rattle.bk_raw.specs.declared.term.RawName.{RawName}
use Rattle.bk_raw.proofs.Steps.{Piece}
use Rattle.bk_raw.proofs.Patterns.{first, last}

abbrev pub lead_by : TokenKind → ℕ → ℕ
lead_by (Name x) n = n
lead_by (Sign op) n = cond (nat_eq op COMMA) n op
lead_by (Word op) n = op
lead_by _ n = 0

-- the number of the first sign or word but a comma
abbrev pub lead : List Token → ℕ
lead [] = 0
lead (t ∷ ts) = lead_by t.kind (lead ts)

pub lead-word : (op : ℕ) (K : Piece) (ts : List Token) → (JustWord op ⌢ K) ts → lead ts ≡ op
lead-word op K ts h = let f = first (Word op) K ts h in ap lead f.is ∙ ap (λ k. lead_by k (lead f.rest)) f.same

pub lead-last : (op : ℕ) (ts : List Token) → JustWord op ts → lead ts ≡ op
lead-last op ts h = lead-word op (λ us. us ≡ []) ts (last (Word op) ts h)

lead-sign : (op : ℕ) (K : Piece) (ts : List Token) → nat_eq op COMMA ≡ false → (JustSign op ⌢ K) ts → lead ts ≡ op
lead-sign op K ts e h = let f = first (Sign op) K ts h in ap lead f.is ∙ ap (λ k. lead_by k (lead f.rest)) f.same ∙ ap (λ b. cond b (lead f.rest) op) e

lead-declared : (x : RawName) (us rest : List Token) → Declared x us → lead (us ++ rest) ≡ lead rest
lead-declared x us rest h = ap (λ ts. lead (ts ++ rest)) h.1 ∙ ap (λ k. lead_by k (lead rest)) h.2

lead-comma : (K : Piece) (us rest : List Token) → (JustSign COMMA ⌢ K) us → (back : List Token) × K back × (lead (us ++ rest) ≡ lead (back ++ rest))
lead-comma K us rest h =
    let f = first (Sign COMMA) K us h in
    (f.rest, f.back, ap (λ ts. lead (ts ++ rest)) f.is ∙ ap (λ k. lead_by k (lead (f.rest ++ rest))) f.same)

lead-names : (xs : List RawName) (us rest : List Token) → Names xs us → lead (us ++ rest) ≡ lead rest
lead-names [] us rest h = absurd h
lead-names (x ∷ []) us rest h = lead-declared x us rest h
lead-names (x ∷ y ∷ ys) us rest h =
    let c = lead-comma (Names (y ∷ ys)) h.1 rest h.4 in
    ap (λ ts. lead (ts ++ rest)) (h.2 ∙ ap (λ ts. ts ++ h.1) h.3.1)
    ∙ ap (λ k. lead_by k (lead (h.1 ++ rest))) h.3.2
    ∙ c.2 ∙ lead-names (y ∷ ys) c.0 rest c.1

pub lead-behind : (xs : List RawName) (op : ℕ) (K : Piece) (ts : List Token) → nat_eq op COMMA ≡ false → (Names xs ⌢ JustSign op ⌢ K) ts → lead ts ≡ op
lead-behind xs op K ts e h = ap lead h.2 ∙ lead-names xs h.0 h.1 h.3 ∙ lead-sign op K h.1 e h.4

-- nothing but names
pub lead-alone : (x : RawName) (ts : List Token) → Declared x ts → lead ts ≡ 0
lead-alone x ts h = ap lead h.1 ∙ ap (λ k. lead_by k 0) h.2
