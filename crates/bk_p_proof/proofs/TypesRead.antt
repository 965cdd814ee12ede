-- Types and names with their types, in front of tokens.
use Rattle.std.specs.Prelude.{◌≡◌, ◌<◌, true, false, List, [], ◌∷◌, ◌++◌, length, None, refl}
use Rattle.std.proofs.Common.{sym, ◌∙◌, subst}
use Rattle.bk_form.specs.declared.token.Token.{Token}
use Rattle.bk_form.specs.declared.token.TokenKind.{TokenKind}
use Rattle.bk_form.specs.declared.token.TokenKind.TheVariants.{Name, Sign}
use Rattle.bk_ops.specs.declared.sign.TheConstants.{COMMA, MEMBER}
use Rattle.bk_raw.specs.Grammar.Pieces.{JustSign, ◌⌢◌, Divided}
use Rattle.bk_raw.specs.Trees.WrittenType.{WrittenType}
use Rattle.bk_raw.specs.Grammar.Spelling.{Typed, Declared}
use Rattle.bk_raw.specs.declared.script.RawTyped.{RawTyped}
use Rattle.bk_raw.specs.declared.term.RawName.{RawName}
use Rattle.bk_raw.specs.Grammar.ScriptSpelling.{TypedName}
use Rattle.bk_raw.proofs.Steps.{Piece, stepped, Leads, leads-join, leads-just}
use Rattle.bk_p_proof.proofs.Rows.{RowSoFar, row_begins, row_goes_on, row_ends, row_ends_before, row_none}
use Rattle.bk_raw.proofs.Patterns.{first}
use Rattle.bk_raw.proofs.TermRuns.{ends_term, typed}
use Rattle.bk_raw.proofs.PartOne.{one-typed}
use Rattle.bk_p_expr.specs.Fronts.{Longest, Nothing}
use Rattle.bk_p_proof.specs.Ahead.{Ahead, NotAhead}
use Rattle.bk_p_proof.proofs.Cuts.{CutsAt, Begins, cuts_by, cuts_less, begins_halts, free_cuts, Between, between_found, between_no_first, between_no_second, between_no_token, longest_as, nothing_as, tail_same}
use Rattle.bk_p_proof.proofs.Tokens.{declared_free}

-- a type is cut before a token that ends a term
pub type_cut : (kind : TokenKind) → stepped ends_term 0 true kind ≡ None → CutsAt Typed (Begins kind)
type_cut kind e = cuts_less Typed _ (Begins kind) (cuts_by Typed ends_term typed one-typed) (begins_halts ends_term kind e)

-- ---- x : T
abbrev NameAndType : RawName × WrittenType → Piece
NameAndType = Between Declared (Sign MEMBER) Typed

name_cut : CutsAt Declared (Begins (Sign MEMBER))
name_cut = free_cuts Declared (Begins (Sign MEMBER)) declared_free

pub typed_name_found : (tokens ts us rest : List Token) (x : RawName) (ty : WrittenType) → Longest Declared tokens x ts → Ahead (Sign MEMBER) ts us → Longest Typed us ty rest → Longest TypedName tokens (record { name = x; ty = ty }) rest
typed_name_found tokens ts us rest x ty h b k = longest_as NameAndType TypedName tokens rest (x, ty) (record { name = x; ty = ty }) (between_found Declared (Sign MEMBER) Typed name_cut tokens ts us rest x ty h b k) (λ vs p. p) (λ y vs p. ((y.name, y.ty), p))

typed_name_nothing : (tokens : List Token) → Nothing NameAndType tokens → Nothing TypedName tokens
typed_name_nothing tokens n = nothing_as NameAndType TypedName tokens n (λ y vs p. ((y.name, y.ty), p))

pub typed_name_no_name : (tokens : List Token) → Nothing Declared tokens → Nothing TypedName tokens
typed_name_no_name tokens n = typed_name_nothing tokens (between_no_first Declared (Sign MEMBER) Typed tokens n)

pub typed_name_no_sign : (tokens ts : List Token) (x : RawName) → Longest Declared tokens x ts → NotAhead (Sign MEMBER) ts → Nothing TypedName tokens
typed_name_no_sign tokens ts x h n = typed_name_nothing tokens (between_no_token Declared (Sign MEMBER) Typed name_cut tokens ts x h n)

pub typed_name_no_type : (tokens ts us : List Token) (x : RawName) → Longest Declared tokens x ts → Ahead (Sign MEMBER) ts us → Nothing Typed us → Nothing TypedName tokens
typed_name_no_type tokens ts us x h b n = typed_name_nothing tokens (between_no_second Declared (Sign MEMBER) Typed name_cut tokens ts us x h b n)

-- ---- names with their types
typed_name_leads : (x : RawTyped) → Leads ends_term (0, false) (0, true) (TypedName x)
typed_name_leads x =
    leads-join ends_term (0, false) (0, true) (0, true) (Declared x.name) (JustSign MEMBER ⌢ Typed x.ty) (λ ts h. leads-just ends_term 0 false (0, true) (Name x.name.text) refl ts (h.0, h.1, h.2))
    (leads-join ends_term (0, true) (0, false) (0, true) (JustSign MEMBER) (Typed x.ty) (leads-just ends_term 0 true (0, false) (Sign MEMBER) refl) (typed x.ty))

one_typed_name : (x y : RawTyped) (ts : List Token) → TypedName x ts → TypedName y ts → x ≡ y
one_typed_name x y ts h k =
    let c = declared_free x.name y.name h.0 k.0 h.1 k.1 (sym h.2 ∙ k.2) h.3 k.3 in
    let f = first (Sign MEMBER) (Typed x.ty) h.1 h.4 in
    let g = first (Sign MEMBER) (Typed y.ty) k.1 k.4 in
    let z = tail_same f.token g.token f.rest g.rest (sym f.is ∙ c.1 ∙ g.is) in
    let d = one-typed x.ty y.ty f.rest f.back (subst (Typed y.ty) (sym z.1) g.back) in
    λ i. record { name = c.0 i; ty = d i }

typed_name_cut : CutsAt TypedName (Begins (Sign COMMA))
typed_name_cut = cuts_less TypedName _ (Begins (Sign COMMA)) (cuts_by TypedName ends_term typed_name_leads one_typed_name) (begins_halts ends_term (Sign COMMA) refl)

abbrev pub TypedSoFar : List Token → List RawTyped → List Token → Type 0
TypedSoFar = RowSoFar TypedName COMMA

pub typed_none : (tokens : List Token) → Nothing TypedName tokens → Nothing (Divided COMMA TypedName) tokens
typed_none tokens n = row_none TypedName COMMA tokens n

pub typed_begin : (tokens rest : List Token) (x : RawTyped) → Longest TypedName tokens x rest → length rest < length tokens → TypedSoFar tokens (x ∷ []) rest
typed_begin tokens rest x h l = row_begins TypedName COMMA typed_name_cut tokens rest x h l

pub typed_go_on : (tokens ts more rest : List Token) (xs : List RawTyped) (x : RawTyped) → TypedSoFar tokens xs ts → Ahead (Sign COMMA) ts more → Longest TypedName more x rest → length rest < length more → TypedSoFar tokens (xs ++ x ∷ []) rest
typed_go_on tokens ts more rest xs x s b h l = row_goes_on TypedName COMMA typed_name_cut tokens ts more rest xs x s b h l

pub typed_end : (tokens rest : List Token) (xs : List RawTyped) → TypedSoFar tokens xs rest → NotAhead (Sign COMMA) rest → Longest (Divided COMMA TypedName) tokens xs rest
typed_end tokens rest xs s n = row_ends TypedName COMMA typed_name_cut tokens rest xs s n

pub typed_end_before : (tokens rest more : List Token) (xs : List RawTyped) → TypedSoFar tokens xs rest → Ahead (Sign COMMA) rest more → Nothing TypedName more → Longest (Divided COMMA TypedName) tokens xs rest
typed_end_before tokens rest more xs s b n = row_ends_before TypedName COMMA typed_name_cut tokens rest more xs s b n
