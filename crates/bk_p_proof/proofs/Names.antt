-- Names of scripts in front of tokens.
use Rattle.std.specs.Prelude.{◌≡◌, ℕ, pos, negsuc, ◌-◌, ◌<◌, ◌≤◌, List, [], ◌∷◌, ◌++◌, length, Option, None, Some, option_map, refl}
use Rattle.std.specs.List.{slice_get}
use Rattle.std.proofs.Common.{zero, suc, map, get_or, arith, sym, ◌∙◌, ap, subst}
use Rattle.bk_ops.specs.Rows.{text_of}
use Rattle.bk_ops.specs.declared.row.OpRow.{OpRow}
use Rattle.bk_form.specs.declared.token.Token.{Token}
use Rattle.bk_form.specs.declared.token.TokenKind.{TokenKind}
use Rattle.bk_form.specs.declared.token.TokenKind.TheVariants.{Name, LevelName, BoundName, Number, Sign, Word}
use Rattle.bk_ops.specs.Words.{word_texts}
use Rattle.bk_ops.specs.declared.sign.TheConstants.{DOT}
use Rattle.bk_raw.specs.Grammar.Pieces.{Divided}
use Rattle.bk_raw.specs.Grammar.ScriptSpelling.{PartNamed, letters_of}
use Rattle.bk_raw.specs.declared.script.NamePart.{NamePart}
use Rattle.bk_raw.specs.declared.script.NamePart.TheVariants.{Letters, Numeral}
use Rattle.bk_raw.proofs.Stopping.{none_some, some_same}
use Rattle.bk_p_expr.specs.Fronts.{Longest, Nothing}
use Rattle.bk_p_proof.specs.Ahead.{Ahead, NotAhead, part_named}
use Rattle.bk_p_proof.proofs.Cuts.{CutsAt, Begins, IsPrefixFree, free_cuts, tail_same}
use Rattle.bk_p_proof.proofs.Rows.{RowSoFar, row_begins, row_goes_on, row_ends, row_ends_before, row_none}

-- ---- parts
letters_named : (o : Option (List ℕ)) (p : NamePart) → option_map Letters o ≡ Some p → (text : List ℕ) × (p ≡ Letters text) × (o ≡ Some text)
letters_named None p e = absurd (none_some p e)
letters_named (Some text) p e = (text, sym (some_same (Letters text) p e), refl)

part_by : (kind : TokenKind) (p : NamePart) (t : Token) → part_named kind ≡ Some p → t.kind ≡ kind → PartNamed p (t ∷ [])
part_by (Name text) p t e k = subst (λ q. PartNamed q (t ∷ [])) (some_same (Letters text) p e) (t, refl, ap letters_of k)
part_by (Word op) p t e k =
    let l = letters_named (slice_get word_texts (op - 57)) p e in
    subst (λ q. PartNamed q (t ∷ [])) (sym l.1) (t, refl, ap letters_of k ∙ l.2)
part_by (Number (pos n)) p t e k = subst (λ q. PartNamed q (t ∷ [])) (some_same (Numeral n) p e) (t, refl, k)
part_by (Number (negsuc n)) p t e k = absurd (none_some p e)
part_by (LevelName x n) p t e k = absurd (none_some p e)
part_by (BoundName n) p t e k = absurd (none_some p e)
part_by (Sign op) p t e k = absurd (none_some p e)

letters_back : (kind : TokenKind) (text : List ℕ) → letters_of kind ≡ Some text → part_named kind ≡ Some (Letters text)
letters_back (Name x) text e = ap (λ y. Some (Letters y)) (some_same x text e)
letters_back (Word op) text e = ap (option_map Letters) e
letters_back (Number (pos n)) text e = absurd (none_some text e)
letters_back (Number (negsuc n)) text e = absurd (none_some text e)
letters_back (LevelName x n) text e = absurd (none_some text e)
letters_back (BoundName n) text e = absurd (none_some text e)
letters_back (Sign op) text e = absurd (none_some text e)

part_back : (p : NamePart) (ts : List Token) → PartNamed p ts → (t : Token) × (ts ≡ t ∷ []) × (part_named t.kind ≡ Some p)
part_back (Letters text) ts h = (h.0, h.1, letters_back h.0.kind text h.2)
part_back (Numeral n) ts h = (h.0, h.1, ap part_named h.2)

pub part_free : IsPrefixFree PartNamed
part_free x y a b r q e h k =
    let m = part_back x a h in
    let n = part_back y b k in
    let z = tail_same m.0 n.0 r q (ap (λ us. us ++ r) (sym m.1) ∙ e ∙ ap (λ us. us ++ q) n.1) in
    (some_same x y (sym m.2 ∙ ap (λ t. part_named t.kind) z.0 ∙ n.2), z.1)

pub part_longest : (tokens rest : List Token) (t : Token) (p : NamePart) → tokens ≡ t ∷ rest → part_named t.kind ≡ Some p → Longest PartNamed tokens p rest
part_longest tokens rest t p e k = record {
  written = t ∷ [];
  splits = e;
  spelled = part_by t.kind p t k refl;
  longest = λ y front after f h. omega (arith, ap length (part_free p y (t ∷ []) front rest after (sym e ∙ f) (part_by t.kind p t k refl) h).1);
}

-- ---- names
part_cut : CutsAt PartNamed (Begins (Sign DOT))
part_cut = free_cuts PartNamed (Begins (Sign DOT)) part_free

abbrev pub NameSoFar : List Token → List NamePart → List Token → Type 0
NameSoFar = RowSoFar PartNamed DOT

pub name_none : (tokens : List Token) → Nothing PartNamed tokens → Nothing (Divided DOT PartNamed) tokens
name_none tokens n = row_none PartNamed DOT tokens n

pub name_begins : (tokens rest : List Token) (p : NamePart) → Longest PartNamed tokens p rest → length rest < length tokens → NameSoFar tokens (p ∷ []) rest
name_begins tokens rest p h l = row_begins PartNamed DOT part_cut tokens rest p h l

pub name_goes_on : (tokens ts more rest : List Token) (ps : List NamePart) (p : NamePart) → NameSoFar tokens ps ts → Ahead (Sign DOT) ts more → Longest PartNamed more p rest → length rest < length more → NameSoFar tokens (ps ++ p ∷ []) rest
name_goes_on tokens ts more rest ps p s b h l = row_goes_on PartNamed DOT part_cut tokens ts more rest ps p s b h l

pub name_ends : (tokens rest : List Token) (ps : List NamePart) → NameSoFar tokens ps rest → NotAhead (Sign DOT) rest → Longest (Divided DOT PartNamed) tokens ps rest
name_ends tokens rest ps s n = row_ends PartNamed DOT part_cut tokens rest ps s n

pub name_ends_before : (tokens rest more : List Token) (ps : List NamePart) → NameSoFar tokens ps rest → Ahead (Sign DOT) rest more → Nothing PartNamed more → Longest (Divided DOT PartNamed) tokens ps rest
name_ends_before tokens rest more ps s b n = row_ends_before PartNamed DOT part_cut tokens rest more ps s b n

-- ---- the row of a word
row_at : (rows : List OpRow) (i : ℕ) (d : OpRow) → i < length rows → slice_get (map text_of rows) i ≡ Some (text_of (get_or rows i d))
row_at [] i d l = absurd (omega (arith, l))
row_at (row ∷ rows) zero d l = refl
row_at (row ∷ rows) (suc i) d l = row_at rows i d (omega (arith, l))

no_row_at : (rows : List OpRow) (i : ℕ) → length rows ≤ i → slice_get (map text_of rows) i ≡ None
no_row_at [] i l = refl
no_row_at (row ∷ rows) zero l = absurd (omega (arith, l))
no_row_at (row ∷ rows) (suc i) l = no_row_at rows i (omega (arith, l))

pub word_at : (rows : List OpRow) (op i : ℕ) (row : OpRow) (text : List ℕ) → map text_of rows ≡ word_texts → i ≡ op - 57 → i < length rows → row ≡ get_or rows i row → text ≡ text_of row → slice_get word_texts (op - 57) ≡ Some text
word_at rows op i row text words e inside is t = (λ j. slice_get (sym words j) (sym e j)) ∙ row_at rows i row inside ∙ ap Some (ap text_of (sym is) ∙ sym t)

pub no_word_at : (rows : List OpRow) (op i : ℕ) → map text_of rows ≡ word_texts → i ≡ op - 57 → length rows ≤ i → slice_get word_texts (op - 57) ≡ None
no_word_at rows op i words e outside = (λ j. slice_get (sym words j) (sym e j)) ∙ no_row_at rows i outside
