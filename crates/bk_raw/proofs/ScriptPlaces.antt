-- Where the longest whole front of a proof file ends.
use Rattle.std.proofs.Common.{◌≡◌, ◌⊎◌, inl, inr, ◌≤◌, ◌+◌, ℕ, List, [], ◌∷◌, ◌++◌, length, refl, sym, ◌∙◌, ap, subst, arith, append_assoc, append-nil, length-append}
use Rattle.std.specs.Prelude.{codes}
use Rattle.bk_form.specs.declared.token.Token.{Token}
use Rattle.bk_form.specs.declared.token.TokenKind.TheVariants.{Name, Sign}
use Rattle.bk_ops.specs.declared.sign.TheConstants.{SEMICOLON, DOT}
use Rattle.bk_raw.specs.Grammar.Pieces.{Just, JustAt, JustSign, ◌⌢◌, Absent, Divided, InRow, AnyDivided, Starting}
use Rattle.bk_raw.specs.Trees.ScriptTree.{RawRule, RawScript}
use Rattle.bk_raw.specs.declared.script.NamePart.{NamePart}
use Rattle.bk_raw.specs.Grammar.ScriptSpelling.{Rule, PartNamed, OpensScript, Scripted, SpellsScripts, IsWholeScripts, IsOpenOrNone}
use Rattle.bk_raw.specs.Errors.Places.{IsLongestWhole, IsScriptFault, byte_at}
use Rattle.bk_raw.specs.Grammar.Laws.{ScriptPlacesAreOne}
use Rattle.bk_raw.proofs.Steps.{Piece}
use Rattle.bk_raw.proofs.Patterns.{Both, first, same-token}
use Rattle.bk_raw.proofs.Lists.{absent-then}
use Rattle.bk_raw.proofs.ClauseOne.{same-at}
use Rattle.bk_raw.proofs.RuleOne.{RuleEnds, rule-cut}
use Rattle.bk_raw.proofs.RuleLonger.{Within, rule-no-longer}
use Rattle.bk_raw.proofs.Places.{longest-one}
use Rattle.bk_raw.proofs.ScriptOne.{Then, IsFinish, finish-ends, finish-not, semicolon-ends, rules-not-end, rule-first, rule-sign, NoDot, rules-no-dot, part-cut, first-same, unstarted, end-finishes, script-cut}
use Rattle.bk_raw.proofs.Shapes.{regrouped, lengths as shorter-by}

-- ---- rules
abbrev Tail : List RawRule → Piece
Tail [] = Absent
Tail (x ∷ xs) = JustSign SEMICOLON ⌢ Divided SEMICOLON Rule (x ∷ xs)

to-tail : (x : RawRule) (xs : List RawRule) (K : Piece) (ts : List Token) → (Divided SEMICOLON Rule (x ∷ xs) ⌢ K) ts → (Rule x ⌢ Tail xs ⌢ K) ts
to-tail x [] K ts h = (h.0, h.1, h.2, h.3, ([], h.1, refl, refl, h.4))
to-tail x (y ∷ ys) K ts h = regrouped (Rule x) (JustSign SEMICOLON ⌢ Divided SEMICOLON Rule (y ∷ ys)) K ts h

next-ends : (x : RawRule) (xs : List RawRule) (K : Piece) → RuleEnds (Tail (x ∷ xs) ⌢ K)
next-ends x xs K ts h = semicolon-ends (Divided SEMICOLON Rule (x ∷ xs) ⌢ K) ts (regrouped (JustSign SEMICOLON) (Divided SEMICOLON Rule (x ∷ xs)) K ts h)

tail-ends : (xs : List RawRule) (K : Piece) → Then IsFinish K → RuleEnds (Tail xs ⌢ K)
tail-ends [] K e ts h = finish-ends ts (e ts (absent-then K ts h))
tail-ends (x ∷ xs) K e ts h = next-ends x xs K ts h

-- more of the one is left
behind-more : (A K L : Piece) → Within (A ⌢ K) L → Within K L
behind-more A K L w = let b = w.2 in (w.0 ++ b.0, b.1, b.4, subst L (ap (λ ts. w.0 ++ ts) b.2 ∙ sym (append_assoc w.0 b.0 b.1)) w.3)

tails-within : (r q : RawRule) (rs qs : List RawRule) (K L : Piece) (ts : List Token) → Then IsFinish K → (Rule r ⌢ Tail rs ⌢ K) ts → (Rule q ⌢ Tail qs ⌢ L) ts → Within K L
tails-within r q rs [] K L ts e h k =
    let w = rule-no-longer r q (Tail rs ⌢ K) (Absent ⌢ L) ts (tail-ends rs K e) h k in
    behind-more (Tail rs) K L (w.0, w.1, w.2, absent-then L (w.0 ++ w.1) w.3)
tails-within r q [] (p ∷ qs) K L ts e h k =
    let c = rule-cut r q (Tail [] ⌢ K) (Tail (p ∷ qs) ⌢ L) ts (tail-ends [] K e) (next-ends p qs L) h k in
    absurd (finish-not (Divided SEMICOLON Rule (p ∷ qs) ⌢ L) c.1.0 (e c.1.0 (absent-then K c.1.0 c.1.1)) (regrouped (JustSign SEMICOLON) (Divided SEMICOLON Rule (p ∷ qs)) L c.1.0 c.1.2))
tails-within r q (o ∷ rs) (p ∷ qs) K L ts e h k =
    let X = Divided SEMICOLON Rule (o ∷ rs) in
    let Y = Divided SEMICOLON Rule (p ∷ qs) in
    let c = rule-cut r q (Tail (o ∷ rs) ⌢ K) (Tail (p ∷ qs) ⌢ L) ts (next-ends o rs K) (next-ends p qs L) h k in
    let d = same-token (Sign SEMICOLON) (Sign SEMICOLON) (X ⌢ K) (Y ⌢ L) c.1.0 (regrouped (JustSign SEMICOLON) X K c.1.0 c.1.1) (regrouped (JustSign SEMICOLON) Y L c.1.0 c.1.2) in
    tails-within o p rs qs K L d.1.0 e (to-tail o rs K d.1.0 d.1.1) (to-tail p qs L d.1.0 d.1.2)

rules-within : (rs qs : List RawRule) (K L : Piece) (ts : List Token) → Then IsFinish K → (AnyDivided SEMICOLON Rule rs ⌢ K) ts → (AnyDivided SEMICOLON Rule qs ⌢ L) ts → Within K L
rules-within [] [] K L ts e h k = ([], ts, absent-then K ts h, absent-then L ts k)
rules-within [] (q ∷ qs) K L ts e h k = absurd (rules-not-end q qs L ts k (e ts (absent-then K ts h)))
rules-within (r ∷ rs) [] K L ts e h k = (h.0, h.1, h.4, subst L h.2 (absent-then L ts k))
rules-within (r ∷ rs) (q ∷ qs) K L ts e h k = tails-within r q rs qs K L ts e (to-tail r rs K ts h) (to-tail q qs L ts k)

-- ---- names
-- a dot stands behind the other name
abbrev pub Short : Piece → Piece → Type 0
Short K L = (t : Token) × (x r : List Token) × (t.kind ≡ Sign DOT) × K r × L (t ∷ (x ++ r))

abbrev Named : List NamePart → Piece
Named = Divided DOT PartNamed

any-rest : (K : Piece) → Then (λ us. Unit {0}) K
any-rest K ts h = tt

pub names-within : (ps qs : List NamePart) (K L : Piece) (ts : List Token) → Then NoDot K → (Named ps ⌢ K) ts → (Named qs ⌢ L) ts → Both K L ⊎ Short K L
names-within [] qs K L ts e h k = absurd h.3
names-within (p ∷ ps) [] K L ts e h k = absurd k.3
names-within (p ∷ []) (q ∷ []) K L ts e h k = inl (part-cut p q K L ts (any-rest K) (any-rest L) h k).1
names-within (p ∷ []) (q ∷ o ∷ qs) K L ts e h k =
    let M = JustSign DOT ⌢ Named (o ∷ qs) ⌢ L in
    let c = part-cut p q K M ts (any-rest K) (any-rest M) h (behind-dot q o qs L ts k) in
    let f = first (Sign DOT) (Named (o ∷ qs) ⌢ L) c.1.0 c.1.2 in
    absurd (e c.1.0 c.1.1 f.rest f.token f.is f.same)
  where
    behind-dot : (q o : NamePart) (qs : List NamePart) (L : Piece) (ts : List Token) → (Named (q ∷ o ∷ qs) ⌢ L) ts → (PartNamed q ⌢ JustSign DOT ⌢ Named (o ∷ qs) ⌢ L) ts
    behind-dot q o qs L ts k = let a = regrouped (PartNamed q) (JustSign DOT ⌢ Named (o ∷ qs)) L ts k in (a.0, a.1, a.2, a.3, regrouped (JustSign DOT) (Named (o ∷ qs)) L a.1 a.4)
names-within (p ∷ o ∷ ps) (q ∷ []) K L ts e h k =
    let a = regrouped (PartNamed p) (JustSign DOT ⌢ Named (o ∷ ps)) K ts h in
    let M = JustSign DOT ⌢ Named (o ∷ ps) ⌢ K in
    let c = part-cut p q M L ts (any-rest M) (any-rest L) (a.0, a.1, a.2, a.3, regrouped (JustSign DOT) (Named (o ∷ ps)) K a.1 a.4) k in
    let f = first (Sign DOT) (Named (o ∷ ps) ⌢ K) c.1.0 c.1.1 in
    let b = f.back in
    inr (f.token, b.0, b.1, f.same, b.4, subst L (f.is ∙ ap (λ us. f.token ∷ us) b.2) c.1.2)
names-within (p ∷ o ∷ ps) (q ∷ u ∷ qs) K L ts e h k =
    let a = regrouped (PartNamed p) (JustSign DOT ⌢ Named (o ∷ ps)) K ts h in
    let b = regrouped (PartNamed q) (JustSign DOT ⌢ Named (u ∷ qs)) L ts k in
    let M = JustSign DOT ⌢ Named (o ∷ ps) ⌢ K in
    let N = JustSign DOT ⌢ Named (u ∷ qs) ⌢ L in
    let c = part-cut p q M N ts (any-rest M) (any-rest N) (a.0, a.1, a.2, a.3, regrouped (JustSign DOT) (Named (o ∷ ps)) K a.1 a.4) (b.0, b.1, b.2, b.3, regrouped (JustSign DOT) (Named (u ∷ qs)) L b.1 b.4) in
    let d = same-token (Sign DOT) (Sign DOT) (Named (o ∷ ps) ⌢ K) (Named (u ∷ qs) ⌢ L) c.1.0 c.1.1 c.1.2 in
    names-within (o ∷ ps) (u ∷ qs) K L d.1.0 e d.1.1 d.1.2

-- behind a name that a dot follows no rules stand
pub no-rules : (qs : List RawRule) (L : Piece) (t : Token) (us : List Token) → t.kind ≡ Sign DOT → (AnyDivided SEMICOLON Rule qs ⌢ L) (t ∷ us) → L (t ∷ us)
no-rules [] L t us d h = absent-then L (t ∷ us) h
no-rules (q ∷ qs) L t us d h =
    let f = rule-first q qs L (t ∷ us) h in
    absurd (rule-sign q.word DOT (sym f.3 ∙ ap (λ x. x.kind) (first-same f.0 t f.1 us (sym f.2)) ∙ d))

-- ---- an open script, behind which `end` or nothing stands, is the longest at its place
pub opens-within : (s r : RawScript) (K L : Piece) (ts : List Token) → Then IsFinish K → (OpensScript s ⌢ K) ts → (OpensScript r ⌢ L) ts → Within K L
opens-within s r K L ts e h k = by-names (names-within s.name r.name (S ⌢ K) (R ⌢ L) a.2.0 (rules-no-dot s.rules K e) (unstarted s.name_at (Named s.name) (S ⌢ K) a.2.0 (regrouped N S K a.2.0 a.2.1)) (unstarted r.name_at (Named r.name) (R ⌢ L) a.2.0 (regrouped M R L a.2.0 a.2.2)))
  where
    S : Piece
    S = AnyDivided SEMICOLON Rule s.rules

    R : Piece
    R = AnyDivided SEMICOLON Rule r.rules

    N : Piece
    N = Starting s.name_at (Named s.name)

    M : Piece
    M = Starting r.name_at (Named r.name)

    a : (s.at ≡ r.at) × (Name (codes "proof") ≡ Name (codes "proof")) × Both ((N ⌢ S) ⌢ K) ((M ⌢ R) ⌢ L)
    a = same-at s.at r.at (Name (codes "proof")) (Name (codes "proof")) ((N ⌢ S) ⌢ K) ((M ⌢ R) ⌢ L) ts (regrouped (JustAt s.at (Name (codes "proof"))) (N ⌢ S) K ts h) (regrouped (JustAt r.at (Name (codes "proof"))) (M ⌢ R) L ts k)

    by-names : Both (S ⌢ K) (R ⌢ L) ⊎ Short (S ⌢ K) (R ⌢ L) → Within K L
    by-names (inl b) = rules-within s.rules r.rules K L b.0 e b.1 b.2
    by-names (inr b) =
        let l = no-rules r.rules L b.0 (b.1 ++ b.2) b.3 b.5 in
        behind-more S K L (b.0 ∷ b.1, b.2, b.4, l)

-- ---- the whole file
abbrev NoScript : List Token → Type 0
NoScript us = (s : RawScript) (a q : List Token) → us ≡ a ++ q → Scripted s a → ⊥

-- two scripts at one place are of the same tokens
same-script : (s r : RawScript) (a b p q : List Token) → a ++ p ≡ b ++ q → Scripted s a → Scripted r b → (p ≡ q) × (length a ≡ length b)
same-script s r a b p q e h k =
    let c = script-cut s r (λ ts. ts ≡ p) (λ ts. ts ≡ q) (a ++ p) (a, p, refl, h, refl) (b, q, e, k, refl) in
    let same = sym c.1.1 ∙ c.1.2 in
    (same, omega (arith, shorter-by (a ++ p) b q e, length-append a p, ap length same))

rows-within : (ss rs : List RawScript) (d us f q : List Token) → d ++ us ≡ f ++ q → InRow Scripted ss d → InRow Scripted rs f → NoScript us → length f ≤ length d
rows-within ss [] d us f q e h k n = omega (arith, ap length k)
rows-within [] (r ∷ rs) d us f q e h k n = absurd (n r k.0 (k.1 ++ q) (ap (λ ts. ts ++ us) (sym h) ∙ e ∙ ap (λ ts. ts ++ q) k.2 ∙ append_assoc k.0 k.1 q) k.3)
rows-within (s ∷ ss) (r ∷ rs) d us f q e h k n =
    let c = same-script s r h.0 k.0 (h.1 ++ us) (k.1 ++ q) (sym (append_assoc h.0 h.1 us) ∙ ap (λ ts. ts ++ us) (sym h.2) ∙ e ∙ ap (λ ts. ts ++ q) k.2 ∙ append_assoc k.0 k.1 q) h.3 k.3 in
    let l = rows-within ss rs h.1 us k.1 q c.0 h.4 k.4 n in
    omega (arith, l, c.1, shorter-by d h.0 h.1 h.2, shorter-by f k.0 k.1 k.2)

-- a script is no shorter than an open one at its place
open-below : (s r : RawScript) (a b p q : List Token) → a ++ p ≡ b ++ q → Scripted s a → OpensScript r b → length b ≤ length a
open-below s r a b p q e h k =
    let E = Just (Name (codes "end")) in
    let K = E ⌢ (λ ts. ts ≡ p) in
    let there = regrouped (OpensScript s) E (λ ts. ts ≡ p) (a ++ p) (a, p, refl, h, refl) in
    let w = opens-within s r K (λ ts. ts ≡ q) (a ++ p) (end-finishes (λ ts. ts ≡ p)) there (b, q, e, k, refl) in
    let v = w.2 in
    omega (arith, shorter-by (a ++ p) b q e, length-append a p, ap length (sym w.3), length-append w.0 w.1, shorter-by w.1 v.0 v.1 v.2, ap length v.4)

open-within : (ss rs : List RawScript) (r : RawScript) (d us f q b : List Token) (n : ℕ) → d ++ us ≡ (f ++ b) ++ q → InRow Scripted ss d → InRow Scripted rs f → OpensScript r b → NoScript us → ((s : RawScript) (a p : List Token) → us ≡ a ++ p → OpensScript s a → length a ≤ n) → length f + length b ≤ length d + n
open-within [] [] r d us f q b n e h k o none most =
    let there : us ≡ b ++ q = ap (λ ts. ts ++ us) (sym h) ∙ e ∙ ap (λ ts. (ts ++ b) ++ q) k in
    omega (arith, ap length k, most r b q there o)
open-within [] (t ∷ rs) r d us f q b n e h k o none most =
    absurd (none t k.0 (k.1 ++ (b ++ q)) (ap (λ ts. ts ++ us) (sym h) ∙ e ∙ append_assoc f b q ∙ ap (λ ts. ts ++ (b ++ q)) k.2 ∙ append_assoc k.0 k.1 (b ++ q)) k.3)
open-within (s ∷ ss) [] r d us f q b n e h k o none most =
    let there : h.0 ++ (h.1 ++ us) ≡ b ++ q = sym (append_assoc h.0 h.1 us) ∙ ap (λ ts. ts ++ us) (sym h.2) ∙ e ∙ ap (λ ts. (ts ++ b) ++ q) k in
    omega (arith, ap length k, open-below s r h.0 b (h.1 ++ us) q there h.3 o, shorter-by d h.0 h.1 h.2)
open-within (s ∷ ss) (t ∷ rs) r d us f q b n e h k o none most =
    let there : h.0 ++ (h.1 ++ us) ≡ k.0 ++ (k.1 ++ (b ++ q)) = sym (append_assoc h.0 h.1 us) ∙ ap (λ ts. ts ++ us) (sym h.2) ∙ e ∙ append_assoc f b q ∙ ap (λ ts. ts ++ (b ++ q)) k.2 ∙ append_assoc k.0 k.1 (b ++ q) in
    let c = same-script s t h.0 k.0 (h.1 ++ us) (k.1 ++ (b ++ q)) there h.3 k.3 in
    let l = open-within ss rs r h.1 us k.1 q b n (c.0 ∙ sym (append_assoc k.1 b q)) h.4 k.4 o none most in
    omega (arith, l, c.1, shorter-by d h.0 h.1 h.2, shorter-by f k.0 k.1 k.2)

pub scripts-tell-place : (ss : List RawScript) (tokens done us front rest : List Token) → tokens ≡ done ++ us → SpellsScripts ss done → ((s : RawScript) (a q : List Token) → us ≡ a ++ q → Scripted s a → ⊥) → us ≡ front ++ rest → IsOpenOrNone front → ((s : RawScript) (a q : List Token) → us ≡ a ++ q → OpensScript s a → length a ≤ length front) → IsLongestWhole IsWholeScripts tokens (length done + length front)
scripts-tell-place ss tokens done us front rest is h none there here most = record {
  front = done ++ front;
  rest = rest;
  splits = is ∙ ap (λ ts. done ++ ts) there ∙ sym (append_assoc done front rest);
  ends = length-append done front;
  whole = whole here;
  longest = λ f q at w. by-cases f q at w;
}
  where
    whole : IsOpenOrNone front → IsWholeScripts (done ++ front)
    whole (inl e) = inl (ss, subst (InRow Scripted ss) (sym (ap (λ ts. done ++ ts) e ∙ append-nil done)) h)
    whole (inr o) = inr (ss, o.0, (done, front, refl, h, o.1))

    by-cases : (f q : List Token) → tokens ≡ f ++ q → IsWholeScripts f → length f ≤ length done + length front
    by-cases f q at (inl w) = let l = rows-within ss w.0 done us f q (sym is ∙ at) h w.1 none in omega (arith, l)
    by-cases f q at (inr w) =
        let v = w.2 in
        let l = open-within ss w.0 w.1 done us v.0 q v.1 (length front) (sym is ∙ at ∙ ap (λ ts. ts ++ q) v.2) h v.3 v.4 none most in
        omega (arith, l, shorter-by f v.0 v.1 v.2)

pub script-places-are-one : (tokens : List Token) (m n : ℕ) → IsScriptFault tokens m → IsScriptFault tokens n → m ≡ n
script-places-are-one tokens m n h k = longest-one IsWholeScripts tokens m n h.first k.first

pub script-faults-exclude : (tokens : List Token) (ss : List RawScript) (place : ℕ) → SpellsScripts ss tokens → IsScriptFault tokens place → ⊥
script-faults-exclude tokens ss place h k = k.none ss h

-- one place, and so one byte
pub file-places-are-one : ScriptPlacesAreOne
file-places-are-one tokens = (script-places-are-one tokens, λ text_length m n p q. p.2 ∙ ap (byte_at text_length tokens) (script-places-are-one tokens p.0 q.0 p.1 q.1) ∙ sym q.2)
