-- Two proof files that are written as the same tokens are the same.
use Rattle.std.proofs.Common.{◌≡◌, inl, inr, ℕ, List, [], ◌∷◌, ◌++◌, None, refl, sym, ◌∙◌, ap, subst}
use Rattle.std.specs.Prelude.{codes}
use Rattle.bk_form.specs.declared.token.Token.{Token}
use Rattle.bk_form.specs.declared.token.TokenKind.TheVariants.{Name, Sign}
use Rattle.bk_ops.specs.declared.sign.TheConstants.{SEMICOLON, DOT}
use Rattle.bk_raw.specs.Grammar.Pieces.{Just, JustAt, JustSign, ◌⌢◌, Digits, Absent, Divided, InRow, AnyDivided, Starting}
use Rattle.bk_raw.specs.declared.script.RuleWord.{RuleWord}
use Rattle.bk_raw.specs.declared.script.RuleWord.TheVariants.{Hyp}
use Rattle.bk_raw.specs.Trees.ScriptTree.{rule_kind, RawRule, shape_of, RawScript}
use Rattle.bk_raw.specs.declared.script.NamePart.{NamePart}
use Rattle.bk_raw.specs.declared.script.NamePart.TheVariants.{Letters, Numeral}
use Rattle.bk_raw.specs.Grammar.ScriptSpelling.{Ruled, Rule, letters_of, Lettered, PartNamed, OpensScript, Scripted, SpellsScripts}
use Rattle.bk_raw.proofs.Runs.{nil-cons}
use Rattle.bk_raw.proofs.Steps.{Piece}
use Rattle.bk_raw.proofs.Patterns.{Both, first, same-token}
use Rattle.bk_raw.proofs.Lists.{absent-then}
use Rattle.bk_raw.proofs.ClauseOne.{first-at, same-at}
use Rattle.bk_raw.proofs.PartOne.{IsSingle, single-cut, one-digits}
use Rattle.bk_raw.proofs.RuleOne.{IsRuleEnd, word_of, word-again, rule-cut}
use Rattle.bk_raw.proofs.Shapes.{regrouped}
use Rattle.bk_raw.proofs.Stopping.{none_some, some_same}

-- ---- lists with a divider, and what is behind them
abbrev pub Then : (List Token → Type 0) → Piece → Type 0
Then Ok K = (ts : List Token) → K ts → Ok ts

module _ {A : Type 0} (op : ℕ) (W : A → Piece) (Ok End : List Token → Type 0) (sign-ok : (K : Piece) (ts : List Token) → (JustSign op ⌢ K) ts → Ok ts) (end-ok : (ts : List Token) → End ts → Ok ts) (end-not : (K : Piece) (ts : List Token) → End ts → (JustSign op ⌢ K) ts → ⊥) (cut : (x y : A) (K L : Piece) (ts : List Token) → Then Ok K → Then Ok L → (W x ⌢ K) ts → (W y ⌢ L) ts → (x ≡ y) × Both K L) where
  abbrev Tail : List A → Piece
  Tail [] = Absent
  Tail (x ∷ xs) = JustSign op ⌢ Divided op W (x ∷ xs)

  pub to-tail : (x : A) (xs : List A) (K : Piece) (ts : List Token) → (Divided op W (x ∷ xs) ⌢ K) ts → (W x ⌢ Tail xs ⌢ K) ts
  to-tail x [] K ts h = (h.0, h.1, h.2, h.3, ([], h.1, refl, refl, h.4))
  to-tail x (y ∷ ys) K ts h = regrouped (W x) (JustSign op ⌢ Divided op W (y ∷ ys)) K ts h

  tail-ok : (xs : List A) (K : Piece) → Then End K → Then Ok (Tail xs ⌢ K)
  tail-ok [] K e ts h = end-ok ts (e ts (absent-then K ts h))
  tail-ok (x ∷ xs) K e ts h = sign-ok (Divided op W (x ∷ xs) ⌢ K) ts (regrouped (JustSign op) (Divided op W (x ∷ xs)) K ts h)

  tail-cut : (xs ys : List A) (K L : Piece) (ts : List Token) → Then End K → Then End L → (Tail xs ⌢ K) ts → (Tail ys ⌢ L) ts → (xs ≡ ys) × Both K L
  tail-cut [] [] K L ts e f h k = (refl, (ts, absent-then K ts h, absent-then L ts k))
  tail-cut [] (y ∷ ys) K L ts e f h k = absurd (end-not (Divided op W (y ∷ ys) ⌢ L) ts (e ts (absent-then K ts h)) (regrouped (JustSign op) (Divided op W (y ∷ ys)) L ts k))
  tail-cut (x ∷ xs) [] K L ts e f h k = absurd (end-not (Divided op W (x ∷ xs) ⌢ K) ts (f ts (absent-then L ts k)) (regrouped (JustSign op) (Divided op W (x ∷ xs)) K ts h))
  tail-cut (x ∷ xs) (y ∷ ys) K L ts e f h k =
      let X = Divided op W (x ∷ xs) ⌢ K in
      let Y = Divided op W (y ∷ ys) ⌢ L in
      let a = same-token (Sign op) (Sign op) X Y ts (regrouped (JustSign op) (Divided op W (x ∷ xs)) K ts h) (regrouped (JustSign op) (Divided op W (y ∷ ys)) L ts k) in
      let b = cut x y (Tail xs ⌢ K) (Tail ys ⌢ L) a.1.0 (tail-ok xs K e) (tail-ok ys L f) (to-tail x xs K a.1.0 a.1.1) (to-tail y ys L a.1.0 a.1.2) in
      let c = tail-cut xs ys K L b.1.0 e f b.1.1 b.1.2 in
      ((λ i. b.0 i ∷ c.0 i), c.1)

  pub divided-cut : (xs ys : List A) (K L : Piece) (ts : List Token) → Then End K → Then End L → (Divided op W xs ⌢ K) ts → (Divided op W ys ⌢ L) ts → (xs ≡ ys) × Both K L
  divided-cut [] ys K L ts e f h k = absurd h.3
  divided-cut (x ∷ xs) [] K L ts e f h k = absurd k.3
  divided-cut (x ∷ xs) (y ∷ ys) K L ts e f h k =
      let b = cut x y (Tail xs ⌢ K) (Tail ys ⌢ L) ts (tail-ok xs K e) (tail-ok ys L f) (to-tail x xs K ts h) (to-tail y ys L ts k) in
      let c = tail-cut xs ys K L b.1.0 e f b.1.1 b.1.2 in
      ((λ i. b.0 i ∷ c.0 i), c.1)

-- ---- rules
-- `end` stands here, or nothing
abbrev pub IsFinish : List Token → Type 0
IsFinish [] = Unit {0}
IsFinish (t ∷ ts) = t.kind ≡ Name (codes "end")

pub finish-ends : (ts : List Token) → IsFinish ts → IsRuleEnd ts
finish-ends [] h = tt
finish-ends (t ∷ ts) h = inr h

pub semicolon-ends : (K : Piece) (ts : List Token) → (JustSign SEMICOLON ⌢ K) ts → IsRuleEnd ts
semicolon-ends K ts h = let f = first (Sign SEMICOLON) K ts h in subst IsRuleEnd (sym f.is) (inl f.same)

sign-name : (op : ℕ) (x : List ℕ) → Sign op ≡ Name x → ⊥
sign-name op x e = cc

pub finish-not : (K : Piece) (ts : List Token) → IsFinish ts → (JustSign SEMICOLON ⌢ K) ts → ⊥
finish-not K ts e h =
    let f = first (Sign SEMICOLON) K ts h in
    let g : f.token.kind ≡ Name (codes "end") = subst IsFinish f.is e in
    sign-name SEMICOLON (codes "end") (sym f.same ∙ g)

rules-some : (rs qs : List RawRule) (K L : Piece) (ts : List Token) → Then IsFinish K → Then IsFinish L → (Divided SEMICOLON Rule rs ⌢ K) ts → (Divided SEMICOLON Rule qs ⌢ L) ts → (rs ≡ qs) × Both K L
rules-some = divided-cut SEMICOLON Rule IsRuleEnd IsFinish semicolon-ends finish-ends finish-not rule-cut

no-word : word_of (Name (codes "end")) ≡ None
no-word = refl

pub rule-end : (w : RuleWord) → rule_kind w ≡ Name (codes "end") → ⊥
rule-end w e = none_some w (sym no-word ∙ ap word_of (sym e) ∙ word-again w)

-- the first token of rules
pub rule-first : (r : RawRule) (rs : List RawRule) (K : Piece) (ts : List Token) → (Divided SEMICOLON Rule (r ∷ rs) ⌢ K) ts → (t : Token) × (us : List Token) × (ts ≡ t ∷ us) × (t.kind ≡ rule_kind r.word)
rule-first r [] K ts h =
    let f = first-at r.at (rule_kind r.word) (Ruled (shape_of r.word) r.parts) h.0 h.3 in
    (f.token, f.rest ++ h.1, h.2 ∙ ap (λ us. us ++ h.1) f.is, f.same)
rule-first r (q ∷ qs) K ts h =
    let g = h.3 in
    let f = first-at r.at (rule_kind r.word) (Ruled (shape_of r.word) r.parts) g.0 g.3 in
    (f.token, (f.rest ++ g.1) ++ h.1, h.2 ∙ ap (λ us. us ++ h.1) (g.2 ∙ ap (λ us. us ++ g.1) f.is), f.same)

pub rules-not-end : (r : RawRule) (rs : List RawRule) (K : Piece) (ts : List Token) → (Divided SEMICOLON Rule (r ∷ rs) ⌢ K) ts → IsFinish ts → ⊥
rules-not-end r rs K ts h e =
    let f = rule-first r rs K ts h in
    let g : f.0.kind ≡ Name (codes "end") = subst IsFinish f.2 e in
    rule-end r.word (sym f.3 ∙ g)

pub rules-cut : (rs qs : List RawRule) (K L : Piece) (ts : List Token) → Then IsFinish K → Then IsFinish L → (AnyDivided SEMICOLON Rule rs ⌢ K) ts → (AnyDivided SEMICOLON Rule qs ⌢ L) ts → (rs ≡ qs) × Both K L
rules-cut [] [] K L ts e f h k = (refl, (ts, absent-then K ts h, absent-then L ts k))
rules-cut [] (q ∷ qs) K L ts e f h k = absurd (rules-not-end q qs L ts k (e ts (absent-then K ts h)))
rules-cut (r ∷ rs) [] K L ts e f h k = absurd (rules-not-end r rs K ts h (f ts (absent-then L ts k)))
rules-cut (r ∷ rs) (q ∷ qs) K L ts e f h k = rules-some (r ∷ rs) (q ∷ qs) K L ts e f h k

-- ---- names
single-part : (p : NamePart) → IsSingle (PartNamed p)
single-part (Letters text) ts h = (h.0, h.1)
single-part (Numeral n) ts h = (h.0, h.1)

letters-number : (text : List ℕ) (n : ℕ) (ts : List Token) → Lettered text ts → Digits n ts → ⊥
letters-number text n ts h k =
    let e : h.0 ∷ [] ≡ k.0 ∷ [] = sym h.1 ∙ k.1 in
    let same : k.0 ≡ h.0 = cc in
    none_some text (ap letters_of (sym k.2) ∙ ap (λ t. letters_of t.kind) same ∙ h.2)

one-part : (p q : NamePart) (ts : List Token) → PartNamed p ts → PartNamed q ts → p ≡ q
one-part (Letters x) (Letters y) ts h k =
    let e : h.0 ∷ [] ≡ k.0 ∷ [] = sym h.1 ∙ k.1 in
    let same : h.0 ≡ k.0 = cc in
    ap Letters (some_same x y (sym h.2 ∙ ap (λ t. letters_of t.kind) same ∙ k.2))
one-part (Letters x) (Numeral n) ts h k = absurd (letters-number x n ts h k)
one-part (Numeral n) (Letters x) ts h k = absurd (letters-number x n ts k h)
one-part (Numeral m) (Numeral n) ts h k = ap Numeral (one-digits m n ts h k)

pub part-cut : (p q : NamePart) (K L : Piece) (ts : List Token) → Then (λ us. Unit {0}) K → Then (λ us. Unit {0}) L → (PartNamed p ⌢ K) ts → (PartNamed q ⌢ L) ts → (p ≡ q) × Both K L
part-cut p q K L ts e f h k =
    let c = single-cut (PartNamed p) (PartNamed q) K L ts (single-part p) (single-part q) h k in
    (one-part p q c.0 c.1 c.2, c.3)

-- no dot stands here
abbrev pub NoDot : List Token → Type 0
NoDot ts = (K : List Token) → (t : Token) → ts ≡ t ∷ K → t.kind ≡ Sign DOT → ⊥

name-cut : (ps qs : List NamePart) (K L : Piece) (ts : List Token) → Then NoDot K → Then NoDot L → (Divided DOT PartNamed ps ⌢ K) ts → (Divided DOT PartNamed qs ⌢ L) ts → (ps ≡ qs) × Both K L
name-cut = divided-cut DOT PartNamed (λ us. Unit {0}) NoDot (λ K ts h. tt) (λ ts h. tt) (λ K ts e h. let f = first (Sign DOT) K ts h in e f.rest f.token f.is f.same) part-cut

pub rule-sign : (w : RuleWord) (op : ℕ) → rule_kind w ≡ Sign op → ⊥
rule-sign Hyp op e = cc
rule-sign _ op e = cc

pub first-same : (t u : Token) (ts us : List Token) → t ∷ ts ≡ u ∷ us → t ≡ u
first-same t u ts us e = cc

finish-no-dot : (ts : List Token) → IsFinish ts → NoDot ts
finish-no-dot [] h us t e k = nil-cons t us e
finish-no-dot (u ∷ ts) h us t e k = sign-name DOT (codes "end") (sym k ∙ ap (λ x. x.kind) (sym (first-same u t ts us e)) ∙ h)

pub rules-no-dot : (rs : List RawRule) (K : Piece) → Then IsFinish K → Then NoDot (AnyDivided SEMICOLON Rule rs ⌢ K)
rules-no-dot [] K e ts h us t is k = finish-no-dot ts (e ts (absent-then K ts h)) us t is k
rules-no-dot (r ∷ rs) K e ts h us t is k =
    let f = rule-first r rs K ts h in
    rule-sign r.word DOT (sym f.3 ∙ ap (λ x. x.kind) (first-same f.0 t f.1 us (sym f.2 ∙ is)) ∙ k)

-- ---- scripts
-- a piece that starts at a byte is the piece
pub unstarted : (at : ℕ) (A K : Piece) (ts : List Token) → (Starting at A ⌢ K) ts → (A ⌢ K) ts
unstarted at A K ts h = (h.0, h.1, h.2, h.3.4, h.4)

same-start : (at bt : ℕ) (A B K L : Piece) (ts : List Token) → (Starting at A ⌢ K) ts → (Starting bt B ⌢ L) ts → at ≡ bt
same-start at bt A B K L ts h k =
    let i : ts ≡ h.3.0 ∷ (h.3.1 ++ h.1) = h.2 ∙ ap (λ us. us ++ h.1) h.3.2 in
    let j : ts ≡ k.3.0 ∷ (k.3.1 ++ k.1) = k.2 ∙ ap (λ us. us ++ k.1) k.3.2 in
    sym h.3.3 ∙ ap (λ t. t.start) (first-same h.3.0 k.3.0 (h.3.1 ++ h.1) (k.3.1 ++ k.1) (sym i ∙ j)) ∙ k.3.3

pub opens-cut : (s r : RawScript) (K L : Piece) (ts : List Token) → Then IsFinish K → Then IsFinish L → (OpensScript s ⌢ K) ts → (OpensScript r ⌢ L) ts → (s ≡ r) × Both K L
opens-cut s r K L ts e f h k =
    let S = AnyDivided SEMICOLON Rule s.rules in
    let R = AnyDivided SEMICOLON Rule r.rules in
    let N = Starting s.name_at (Divided DOT PartNamed s.name) in
    let M = Starting r.name_at (Divided DOT PartNamed r.name) in
    let a = same-at s.at r.at (Name (codes "proof")) (Name (codes "proof")) ((N ⌢ S) ⌢ K) ((M ⌢ R) ⌢ L) ts (regrouped (JustAt s.at (Name (codes "proof"))) (N ⌢ S) K ts h) (regrouped (JustAt r.at (Name (codes "proof"))) (M ⌢ R) L ts k) in
    let x = regrouped N S K a.2.0 a.2.1 in
    let y = regrouped M R L a.2.0 a.2.2 in
    let at = same-start s.name_at r.name_at (Divided DOT PartNamed s.name) (Divided DOT PartNamed r.name) (S ⌢ K) (R ⌢ L) a.2.0 x y in
    let b = name-cut s.name r.name (S ⌢ K) (R ⌢ L) a.2.0 (rules-no-dot s.rules K e) (rules-no-dot r.rules L f) (unstarted s.name_at (Divided DOT PartNamed s.name) (S ⌢ K) a.2.0 x) (unstarted r.name_at (Divided DOT PartNamed r.name) (R ⌢ L) a.2.0 y) in
    let c = rules-cut s.rules r.rules K L b.1.0 e f b.1.1 b.1.2 in
    ((λ i. record { at = a.0 i; name_at = at i; name = b.0 i; rules = c.0 i }), c.1)

pub end-finishes : (K : Piece) → Then IsFinish (Just (Name (codes "end")) ⌢ K)
end-finishes K ts h = let f = first (Name (codes "end")) K ts h in subst IsFinish (sym f.is) f.same

pub script-cut : (s r : RawScript) (K L : Piece) (ts : List Token) → (Scripted s ⌢ K) ts → (Scripted r ⌢ L) ts → (s ≡ r) × Both K L
script-cut s r K L ts h k =
    let E = Just (Name (codes "end")) in
    let a = opens-cut s r (E ⌢ K) (E ⌢ L) ts (end-finishes K) (end-finishes L) (regrouped (OpensScript s) E K ts h) (regrouped (OpensScript r) E L ts k) in
    let b = same-token (Name (codes "end")) (Name (codes "end")) K L a.1.0 a.1.1 a.1.2 in
    (a.0, b.1)

pub script-begun : (s : RawScript) (K : Piece) → (Scripted s ⌢ K) [] → ⊥
script-begun s K h =
    let N = Starting s.name_at (Divided DOT PartNamed s.name) ⌢ AnyDivided SEMICOLON Rule s.rules in
    let a = regrouped (OpensScript s) (Just (Name (codes "end"))) K [] h in
    let b = regrouped (JustAt s.at (Name (codes "proof"))) N (Just (Name (codes "end")) ⌢ K) [] a in
    let f = first-at s.at (Name (codes "proof")) (N ⌢ Just (Name (codes "end")) ⌢ K) [] b in
    nil-cons f.token f.rest f.is

pub one-file : (ss rs : List RawScript) (ts : List Token) → SpellsScripts ss ts → SpellsScripts rs ts → ss ≡ rs
one-file [] [] ts h k = refl
one-file [] (r ∷ rs) ts h k = absurd (script-begun r (InRow Scripted rs) (subst (InRow Scripted (r ∷ rs)) h k))
one-file (s ∷ ss) [] ts h k = absurd (script-begun s (InRow Scripted ss) (subst (InRow Scripted (s ∷ ss)) k h))
one-file (s ∷ ss) (r ∷ rs) ts h k =
    let a = script-cut s r (InRow Scripted ss) (InRow Scripted rs) ts h k in
    let b = one-file ss rs a.1.0 a.1.1 a.1.2 in
    λ i. a.0 i ∷ b i

pub one-file-of : (ts : List Token) (ss rs : List RawScript) → SpellsScripts ss ts → SpellsScripts rs ts → ss ≡ rs
one-file-of ts ss rs h k = one-file ss rs ts h k
