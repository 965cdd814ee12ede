-- A component in tokens, or why there is none, from what is read of the tokens before the first addition.
use Rattle.std.specs.Prelude.{◌≡◌, ◌≢◌, ℕ, ◌+◌, ◌<◌, ◌≤◌, Bool, true, false, cond, List, [], ◌∷◌, ◌++◌, length, Option, None, Some, refl}
use Rattle.std.proofs.Common.{arith, sym, ◌∙◌, ap, subst, append_assoc, append-nil, length-append}
use Rattle.std.proofs.lemmas.List.Elements.{All-nil}
use Rattle.bk_form.specs.declared.token.Token.{Token}
use Rattle.bk_form.specs.declared.token.TokenKind.{TokenKind}
use Rattle.bk_form.specs.declared.token.TokenKind.TheVariants.{Name, Word}
use Rattle.bk_ops.specs.declared.word.TheConstants.{END, REFINES}
use Rattle.bk_raw.specs.Grammar.ComponentSpelling.{AreClausesOf, ArePlain, Header, Refined, SpellsComponent}
use Rattle.bk_raw.specs.Trees.ComponentTree.{RawClause, RawComponent, is_allowed, kind_number}
use Rattle.bk_raw.specs.Grammar.Pieces.{Absent, JustAt, JustWord, ◌⌢◌}
use Rattle.bk_raw.specs.Errors.Places.{AreReadOn, IsComponentFault}
use Rattle.bk_raw.specs.Grammar.Spelling.{Declared}
use Rattle.bk_raw.specs.declared.component.ComponentKind.{ComponentKind}
use Rattle.bk_raw.specs.declared.component.ComponentKind.TheVariants.{Machine, Refinement, Implementation}
use Rattle.bk_raw.specs.declared.term.RawName.{RawName}
use Rattle.bk_raw.proofs.Runs.{run}
use Rattle.bk_raw.proofs.Steps.{Piece}
use Rattle.bk_p_sub.specs.Found.{Ahead, NotAhead}
use Rattle.bk_p_comp.specs.Clauses.{HasNoHeader, ReadOn}
use Rattle.bk_p_comp.specs.Plain.{before_addition, is_addition, is_brace}
use Rattle.bk_p_comp.proofs.Additions.{plain, within}
use Rattle.bk_p_comp.proofs.Following.{read_on}
use Rattle.bk_p_comp.proofs.Reading.{fault_behind_end, fault_without_end, fault_without_header, spelled_whole}
use Rattle.bk_p_comp.proofs.Telling.{IsCut, Tells, anywhere, cut_later, cut_within, plain_kind, plain_step, tells_at, tells_headed, tells_join, tells_same}

-- ---- what is cut off
-- it begins with an addition, if with anything
abbrev Marked : List Token → Type 0
Marked [] = Unit {0}
Marked (t ∷ ts) = (b : Bool) × (is_addition b t.kind ≡ true)

cut_from : (b : Bool) (tokens : List Token) → (cut : List Token) × (tokens ≡ before_addition b tokens ++ cut) × Marked cut
cut_from b [] = ([], refl, tt)
cut_from b (t ∷ ts) = by (is_addition b t.kind) refl (cut_from (is_brace t.kind) ts)
  where
    by : (is : Bool) → is_addition b t.kind ≡ is → ((cut : List Token) × (ts ≡ before_addition (is_brace t.kind) ts ++ cut) × Marked cut) → (cut : List Token) × (t ∷ ts ≡ before_addition b (t ∷ ts) ++ cut) × Marked cut
    by true e r = (t ∷ ts, (λ i. cond (sym e i) [] (t ∷ before_addition (is_brace t.kind) ts) ++ (t ∷ ts)), (b, e))
    by false e r = (r.0, ap (λ us. t ∷ us) r.1 ∙ (λ i. cond (sym e i) [] (t ∷ before_addition (is_brace t.kind) ts) ++ r.0), r.2)

true_false : true ≡ false → ⊥
true_false e = cc

end_is_none : (b : Bool) → is_addition b (Word END) ≡ false
end_is_none true = refl
end_is_none false = refl

no_end : (rest cut : List Token) → NotAhead (Word END) rest → Marked cut → NotAhead (Word END) (rest ++ cut)
no_end [] [] n m t more e k = n t more e k
no_end [] (u ∷ us) n m t more e k =
    let same : u ≡ t = cc in
    true_false (sym m.1 ∙ ap (λ v. is_addition m.0 v.kind) same ∙ ap (is_addition m.0) k ∙ end_is_none m.0)
no_end (r ∷ rs) cut n m t more e k =
    let same : r ≡ t = cc in
    n r rs refl (ap (λ v. v.kind) same ∙ k)

ahead_more : (kind : TokenKind) (rest ended cut : List Token) → Ahead kind rest ended → Ahead kind (rest ++ cut) (ended ++ cut)
ahead_more kind rest ended cut a = (a.0, ap (λ us. us ++ cut) a.1, a.2)

empty : (ts : List Token) → length ts ≡ 0 → ts ≡ []
empty [] e = refl
empty (t ∷ ts) e = absurd (omega (arith, e))

-- ---- a header holds no addition
declared : (x : RawName) → Tells (Declared x) (Unit {0})
declared x = tells_at x.at (Name x.text) (anywhere (Name x.text) refl refl)

absent_behind : {G : Type 0} (A : Piece) → Tells A G → Tells (A ⌢ Absent) G
absent_behind A f = record {
  good = λ b ts h g. subst (λ us. run plain_step b us ≡ Some false) (sym (h.2 ∙ ap (λ us. h.0 ++ us) h.4 ∙ append-nil h.0)) (f.good b h.0 h.3 g);
  told = λ b e ts h r. f.told b e h.0 h.3 (subst (λ us. run plain_step b us ≡ Some e) (h.2 ∙ ap (λ us. h.0 ++ us) h.4 ∙ append-nil h.0) r);
}

never_behind : {G : Type 0} (A : Piece) → Tells (A ⌢ (λ ts. ⊥)) G
never_behind A = record { good = λ b ts h g. absurd h.4; told = λ b e ts h r. absurd h.4 }

refines : (x y : RawName) → Tells (Declared x ⌢ JustWord REFINES ⌢ Declared y) (Unit {0})
refines x y = tells_same (Declared x ⌢ JustWord REFINES ⌢ Declared y) (λ p. tt) (λ g. (tt, tt)) (tells_join (Declared x) (JustWord REFINES ⌢ Declared y) (declared x) (tells_headed (Declared y) (Word REFINES) (anywhere (Word REFINES) refl refl) (declared y)))

name_then : (k : ComponentKind) (r : Option RawName) (x : RawName) → Tells (Declared x ⌢ Refined k r) (Unit {0})
name_then Machine None x = absent_behind (Declared x) (declared x)
name_then Machine (Some y) x = never_behind (Declared x)
name_then Refinement None x = never_behind (Declared x)
name_then Refinement (Some y) x = refines x y
name_then Implementation None x = never_behind (Declared x)
name_then Implementation (Some y) x = refines x y

kind_word_true : (k : ComponentKind) → plain_kind true (Word (kind_number k)) ≡ Some false
kind_word_true Machine = refl
kind_word_true _ = refl

kind_word_false : (k : ComponentKind) → plain_kind false (Word (kind_number k)) ≡ Some false
kind_word_false Machine = refl
kind_word_false _ = refl

header : (c : RawComponent) → Tells (Header c) (Unit {0})
header c = tells_same (Header c) (λ p. tt) (λ g. (tt, tt)) (tells_join (JustAt c.at (Word (kind_number c.kind))) (Declared c.name ⌢ Refined c.kind c.refines) (tells_at c.at (Word (kind_number c.kind)) (anywhere (Word (kind_number c.kind)) (kind_word_true c.kind) (kind_word_false c.kind))) (name_then c.kind c.refines c.name))

-- ---- read in all of the tokens
nothing_done : (kind : ComponentKind) → AreClausesOf kind []
nothing_done kind = record { allowed = All-nil (λ (c : RawClause). is_allowed kind c.word ≡ true); plain = All-nil (λ (c : RawClause). ArePlain c.parts); once = tt }

-- what is cut off, and what is read in front of that
record CutOff (tokens front : List Token) : Type 0 where
  cut : List Token
  splits : tokens ≡ front ++ cut
  is : IsCut front cut
  marked : Marked cut

cut_off : (tokens front : List Token) → front ≡ before_addition false tokens → CutOff tokens front
cut_off tokens front e =
    let r : (cut : List Token) × (tokens ≡ before_addition false tokens ++ cut) × Marked cut = cut_from false tokens in
    let splits : tokens ≡ front ++ r.0 = r.1 ∙ ap (λ us. us ++ r.0) (sym e) in
    record { cut = r.0; splits = splits; is = (false, ap (before_addition false) (sym splits) ∙ sym e); marked = r.2 }

all_of : (tokens front header behind : List Token) (d : CutOff tokens front) → front ≡ header ++ behind → tokens ≡ header ++ (behind ++ d.cut)
all_of tokens front header behind d e = d.splits ∙ ap (λ us. us ++ d.cut) e ∙ append_assoc header behind d.cut

read_in_all : (tokens front header behind rest : List Token) (c : RawComponent) (d : CutOff tokens front) → front ≡ header ++ behind → ReadOn c.kind [] c.clauses behind rest → AreReadOn c.kind [] c.clauses (behind ++ d.cut) (rest ++ d.cut)
read_in_all tokens front header behind rest c d e r = read_on IsCut within plain cut_later c.kind [] c.clauses d.cut behind rest (cut_later header behind d.cut (subst (λ us. IsCut us d.cut) e d.is)) (nothing_done c.kind) r

-- ---- the answers
pub component_no_header : (tokens front : List Token) → front ≡ before_addition false tokens → HasNoHeader front → IsComponentFault tokens 0
component_no_header tokens front e n = fault_without_header tokens none
  where
    none : (c : RawComponent) (one two : List Token) → tokens ≡ one ++ two → Header c one → ⊥
    none c one two f h =
        let d = cut_off tokens front e in
        let w : (rest : List Token) × (front ≡ one ++ rest) × (two ≡ rest ++ d.cut) = cut_within (Header c) (header c) tt front d.cut one two d.is (sym d.splits ∙ f) h in
        n c one w.0 w.1 h

pub component_no_end : (tokens front ahead behind rest : List Token) (c : RawComponent) (place : ℕ) → front ≡ before_addition false tokens → front ≡ ahead ++ behind → Header c ahead → ReadOn c.kind [] c.clauses behind rest → NotAhead (Word END) rest → place + length rest ≡ length front → IsComponentFault tokens place
component_no_end tokens front ahead behind rest c place e f h r n l =
    let d = cut_off tokens front e in
    fault_without_end c tokens ahead (behind ++ d.cut) (rest ++ d.cut) place (all_of tokens front ahead behind d f) h (read_in_all tokens front ahead behind rest c d f r) (no_end rest d.cut n d.marked)
    (omega (arith, l, length-append rest d.cut, length-append front d.cut, ap length d.splits))

positive : (ts : List Token) (total at : ℕ) → at + length ts ≡ total → total ≢ at → 0 < length ts
positive [] total at e n = absurd (n (omega (arith, e)))
positive (t ∷ ts) total at e n = omega arith

pub component_more : (tokens front ahead behind rest ended : List Token) (c : RawComponent) (at : ℕ) → front ≡ before_addition false tokens → front ≡ ahead ++ behind → Header c ahead → ReadOn c.kind [] c.clauses behind rest → Ahead (Word END) rest ended → at + length ended ≡ length front → length tokens ≢ at → IsComponentFault tokens at
component_more tokens front ahead behind rest ended c at e f h r a l n =
    let d = cut_off tokens front e in
    let sum : at + length (ended ++ d.cut) ≡ length tokens = omega (arith, l, length-append ended d.cut, length-append front d.cut, ap length d.splits) in
    fault_behind_end c tokens ahead (behind ++ d.cut) (rest ++ d.cut) (ended ++ d.cut) at (all_of tokens front ahead behind d f) h (read_in_all tokens front ahead behind rest c d f r) (ahead_more (Word END) rest ended d.cut a) sum (positive (ended ++ d.cut) (length tokens) at sum n)

pub component_whole : (tokens front ahead behind rest ended : List Token) (c : RawComponent) (at : ℕ) → front ≡ before_addition false tokens → front ≡ ahead ++ behind → Header c ahead → ReadOn c.kind [] c.clauses behind rest → Ahead (Word END) rest ended → at + length ended ≡ length front → length tokens ≡ at → SpellsComponent c tokens
component_whole tokens front ahead behind rest ended c at e f h r a l n =
    let d = cut_off tokens front e in
    spelled_whole c tokens ahead (behind ++ d.cut) (rest ++ d.cut) (ended ++ d.cut) (all_of tokens front ahead behind d f) h (read_in_all tokens front ahead behind rest c d f r) (ahead_more (Word END) rest ended d.cut a)
    (empty (ended ++ d.cut) (omega (arith, l, n, length-append ended d.cut, length-append front d.cut, ap length d.splits)))

-- what is read on leaves no more than there was
pub read_no_longer : (kind : ComponentKind) (done cs : List RawClause) (tokens rest : List Token) → ReadOn kind done cs tokens rest → length rest ≤ length tokens
read_no_longer kind done [] tokens rest r = omega (arith, ap length r.0)
read_no_longer kind done (c ∷ cs) tokens rest (back, l, r) =
    let m : length rest ≤ length back = read_no_longer kind (done ++ c ∷ []) cs back rest r in
    omega (arith, m, ap length l.splits, length-append l.written back)
