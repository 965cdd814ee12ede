-- Texts of proof files: what they are written for, and where they are at fault.
use Rattle.std.proofs.Common.{◌≡◌, ◌⊎◌, inl, inr, ◌≤◌, ◌<◌, ◌+◌, ℕ, List, [], ◌∷◌, ◌++◌, length, refl, sym, ◌∙◌, ap, subst, arith, append_assoc, append-nil, length-append}
use Rattle.std.specs.Prelude.{pos, codes}
use Rattle.bk_form.specs.declared.token.Token.{Token}
use Rattle.bk_form.specs.declared.token.TokenKind.{TokenKind}
use Rattle.bk_form.specs.declared.token.TokenKind.TheVariants.{Name, Number, Sign}
use Rattle.bk_ops.specs.declared.sign.TheConstants.{DOT, SEMICOLON}
use Rattle.bk_raw.specs.Grammar.Pieces.{◌⌢◌, Starting, Divided, AnyDivided}
use Rattle.bk_raw.specs.declared.script.RuleWord.{RuleWord}
use Rattle.bk_raw.specs.declared.script.RuleWord.TheVariants.{Hyp, Same}
use Rattle.bk_raw.specs.declared.script.NamePart.{NamePart}
use Rattle.bk_raw.specs.declared.script.NamePart.TheVariants.{Letters, Numeral}
use Rattle.bk_raw.specs.Trees.ScriptTree.{rule_kind, shape_of, one_number, RulePart, part_number, RawRule, RawScript}
use Rattle.bk_raw.specs.Grammar.ScriptSpelling.{PartNamed, Ruled, Rule, OpensScript, Scripted, SpellsScripts, IsWholeScripts}
use Rattle.bk_raw.specs.Errors.Places.{IsLongestWhole, IsScriptFault, IsScriptFaultAt}
use Rattle.bk_raw.specs.Grammar.Texts.{token, no_number, end_as_rule, one_script, one_script_tree}
use Rattle.bk_raw.proofs.Runs.{nil-cons}
use Rattle.bk_raw.proofs.Patterns.{Both}
use Rattle.bk_raw.proofs.ClauseOne.{first-at}
use Rattle.bk_raw.proofs.RuleOne.{word-same}
use Rattle.bk_raw.proofs.ScriptOne.{NoDot, rule-end, unstarted, first-same}
use Rattle.bk_raw.proofs.ScriptPlaces.{Short, names-within, no-rules, scripts-tell-place}
use Rattle.bk_raw.proofs.TextComponents.{rest-of, name-is-no-sign}
use Rattle.bk_raw.proofs.Shapes.{regrouped}

abbrev proof : Token
proof = token 0 5 (Name (codes "proof"))

abbrev a : Token
a = token 6 7 (Name (codes "A"))

abbrev dot : Token
dot = token 7 8 (Sign DOT)

abbrev one : Token
one = token 8 9 (Number (pos 1))

abbrev opening : List Token
opening = proof ∷ a ∷ dot ∷ one ∷ []

abbrev name : List NamePart
name = Letters (codes "A") ∷ Numeral 1 ∷ []

-- ---- the name and no rules
named : Divided DOT PartNamed name (a ∷ dot ∷ one ∷ [])
named = (a ∷ [], dot ∷ one ∷ [], refl, (a, refl, refl), (dot ∷ [], one ∷ [], refl, (dot, refl, refl), (one, refl, refl)))

abbrev with-rules : List RawRule → RawScript
with-rules rs = record { at = 0; name_at = 6; name = name; rules = rs }

opened : (rs : List RawRule) (ts : List Token) → AnyDivided SEMICOLON Rule rs ts → OpensScript (with-rules rs) (opening ++ ts)
opened rs ts h = (proof ∷ [], a ∷ dot ∷ one ∷ ts, refl, (proof, refl, refl, refl), (a ∷ dot ∷ one ∷ [], ts, refl, (a, dot ∷ one ∷ [], refl, refl, named), h))

-- rules in front of these tokens leave so many at least
abbrev Leave : ℕ → List Token → Type 0
Leave n more = (rs : List RawRule) (front after : List Token) → more ≡ front ++ after → AnyDivided SEMICOLON Rule rs front → n ≤ length after

-- a script but for its end in front of the name and these tokens leaves so many at least
opens-leave : (n : ℕ) (more : List Token) → NoDot more → n ≤ length more → Leave n more → (s : RawScript) (front after : List Token) → opening ++ more ≡ front ++ after → OpensScript s front → n ≤ length after
opens-leave n more dotless few leave s front after e h = by-names (names-within name s.name (λ ts. ts ≡ more) (R ⌢ L) (a ∷ dot ∷ one ∷ more) (λ ts i. subst NoDot (sym i) dotless) (a ∷ dot ∷ one ∷ [], more, refl, named, refl) there)
  where
    R : List Token → Type 0
    R = AnyDivided SEMICOLON Rule s.rules

    L : List Token → Type 0
    L ts = ts ≡ after

    N : List Token → Type 0
    N = Starting s.name_at (Divided DOT PartNamed s.name)

    f : (x : List Token) × (a ∷ dot ∷ one ∷ more ≡ x) × ((N ⌢ R) ⌢ L) x
    f =
        let g = first-at s.at (Name (codes "proof")) ((N ⌢ R) ⌢ L) (front ++ after) (regrouped _ (N ⌢ R) L (front ++ after) (front, after, refl, h, refl)) in
        (g.rest, rest-of proof g.token (a ∷ dot ∷ one ∷ more) g.rest (e ∙ g.is), g.back)

    there : (Divided DOT PartNamed s.name ⌢ R ⌢ L) (a ∷ dot ∷ one ∷ more)
    there = unstarted s.name_at (Divided DOT PartNamed s.name) (R ⌢ L) (a ∷ dot ∷ one ∷ more) (regrouped N R L (a ∷ dot ∷ one ∷ more) (subst ((N ⌢ R) ⌢ L) (sym f.1) f.2))

    by-names : Both (λ ts. ts ≡ more) (R ⌢ L) ⊎ Short (λ ts. ts ≡ more) (R ⌢ L) → n ≤ length after
    by-names (inl b) = let r = b.2 in leave s.rules r.0 after (sym b.1 ∙ r.2 ∙ ap (λ ts. r.0 ++ ts) r.4) r.3
    by-names (inr b) =
        let k = no-rules s.rules L b.0 (b.1 ++ b.2) b.3 b.5 in
        omega (arith, few, ap length b.4, ap length k, length-append b.1 b.2)

-- ---- ends
abbrev IsEnd : Token → Type 0
IsEnd t = t.kind ≡ Name (codes "end")

-- none of the tokens but the last is `end`
abbrev NoEndBefore : List Token → Type 0
NoEndBefore [] = Unit {0}
NoEndBefore (t ∷ []) = Unit {0}
NoEndBefore (t ∷ u ∷ ts) = (IsEnd t → ⊥) × NoEndBefore (u ∷ ts)

front-not-nil : (front : List Token) (t : Token) (after : List Token) → [] ≡ front ++ t ∷ after → ⊥
front-not-nil [] t after e = nil-cons t after e
front-not-nil (x ∷ front) t after e = nil-cons x (front ++ t ∷ after) e

but-last : (ts front : List Token) (t : Token) (after : List Token) → NoEndBefore ts → ts ≡ front ++ t ∷ after → 1 ≤ length after → IsEnd t → ⊥
but-last [] front t after n e l k = front-not-nil front t after e
but-last (u ∷ []) [] t after n e l k = absurd (omega (arith, l, ap length e))
but-last (u ∷ []) (x ∷ front) t after n e l k = front-not-nil front t after (rest-of u x [] (front ++ t ∷ after) e)
but-last (u ∷ v ∷ ts) [] t after n e l k = n.0 (ap (λ x. x.kind) (first-same u t (v ∷ ts) after e) ∙ k)
but-last (u ∷ v ∷ ts) (x ∷ front) t after n e l k = but-last (v ∷ ts) front t after n.1 (rest-of u x (v ∷ ts) (front ++ t ∷ after) e) l k

-- no script is whole where a script but for its end leaves two tokens at least, and no `end` stands before the last
no-whole : (tokens : List Token) → NoEndBefore tokens → ((s : RawScript) (front after : List Token) → tokens ≡ front ++ after → OpensScript s front → 2 ≤ length after) → (s : RawScript) (front after : List Token) → tokens ≡ front ++ after → Scripted s front → ⊥
no-whole tokens n leaves s front after e h =
    let is : tokens ≡ h.0 ++ h.4.0 ∷ after = e ∙ ap (λ ts. ts ++ after) (h.2 ∙ ap (λ ts. h.0 ++ ts) h.4.1) ∙ append_assoc h.0 (h.4.0 ∷ []) after in
    let l = leaves s h.0 (h.4.0 ∷ after) is h.3 in
    but-last tokens h.0 h.4.0 after n is (omega (arith, l)) h.4.2

-- the place behind an open script that leaves the least
place-of : (tokens open_one rest : List Token) (s : RawScript) (n : ℕ) → tokens ≡ open_one ++ rest → n ≡ length rest → 2 ≤ n → OpensScript s open_one → NoEndBefore tokens → ((r : RawScript) (front after : List Token) → tokens ≡ front ++ after → OpensScript r front → n ≤ length after) → IsLongestWhole IsWholeScripts tokens (length open_one)
place-of tokens open_one rest s n e size few h ends leaves =
    subst (IsLongestWhole IsWholeScripts tokens) {x = 0 + length open_one} (omega arith) (scripts-tell-place [] tokens [] tokens open_one rest refl refl (no-whole tokens ends (λ r front after is k. omega (arith, few, leaves r front after is k))) e (inr (s, h))
    (λ r front after is k. omega (arith, leaves r front after is k, size, ap length (sym e ∙ is), length-append open_one rest, length-append front after)))

file-fault : (tokens : List Token) (place : ℕ) → IsLongestWhole IsWholeScripts tokens place → place < length tokens → IsScriptFault tokens place
file-fault tokens place l k = record { none = λ ss h. omega (arith, k, l.longest tokens [] (sym (append-nil tokens)) (inl (ss, h))); first = l }

-- how many letters a name has
abbrev letters : TokenKind → ℕ
letters (Name x) = length x
letters _ = 0

not-end : (k : TokenKind) → (letters k ≡ 3 → ⊥) → k ≡ Name (codes "end") → ⊥
not-end k n e = n (ap letters e)

-- ---- rules
first-rule : (r : RawRule) (rs : List RawRule) (ts : List Token) → Divided SEMICOLON Rule (r ∷ rs) ts → (b q : List Token) × (ts ≡ b ++ q) × Rule r b
first-rule r [] ts h = (ts, [], sym (append-nil ts), h)
first-rule r (q ∷ rs) ts h = (h.0, h.1, h.2, h.3)

-- the word of a rule, and its parts
rule-there : (w : RuleWord) (t : Token) (more : List Token) (r : RawRule) (b q : List Token) → t.kind ≡ rule_kind w → t ∷ more ≡ b ++ q → Rule r b → (ts : List Token) × (b ≡ t ∷ ts) × (more ≡ ts ++ q) × Ruled (shape_of w) r.parts ts
rule-there w t more r b q k e h =
    let g = first-at r.at (rule_kind r.word) (Ruled (shape_of r.word) r.parts) b h in
    let i : t ∷ more ≡ g.token ∷ (g.rest ++ q) = e ∙ ap (λ ts. ts ++ q) g.is in
    let same = first-same t g.token more (g.rest ++ q) i in
    let v : r.word ≡ w = word-same r.word w (sym g.same ∙ ap (λ x. x.kind) (sym same) ∙ k) in
    (g.rest, g.is ∙ ap (λ x. x ∷ g.rest) (sym same), rest-of t g.token more (g.rest ++ q) i, subst (λ x. Ruled (shape_of x) r.parts g.rest) v g.back)

-- ---- proof A.1 hyp end
abbrev hyp : Token
hyp = token 10 13 (Name (codes "hyp"))

abbrev end : Token
end = token 14 17 (Name (codes "end"))

name-is-no-number : (x : List ℕ) (n : ℕ) → Name x ≡ Number (pos n) → ⊥
name-is-no-number x n e = cc

number-behind : (ps : List RulePart) (ts q : List Token) → end ∷ [] ≡ ts ++ q → Ruled (one_number ∷ []) ps ts → ⊥
number-behind [] ts q e h = h
number-behind (part_number n ∷ ps) ts q e h =
    let i : end ∷ [] ≡ h.3.0 ∷ (h.1 ++ q) = e ∙ ap (λ us. us ++ q) (h.2 ∙ ap (λ us. us ++ h.1) h.3.1) in
    name-is-no-number (codes "end") n (ap (λ x. x.kind) (first-same end h.3.0 [] (h.1 ++ q) i) ∙ h.3.2)
number-behind (p ∷ ps) ts q e h = absurd h.3

hyp-leaves : Leave 2 (hyp ∷ end ∷ [])
hyp-leaves [] front after e h = omega (arith, ap length (e ∙ ap (λ ts. ts ++ after) h))
hyp-leaves (r ∷ rs) front after e h =
    let g = first-rule r rs front h in
    let k = rule-there Hyp hyp (end ∷ []) r g.0 (g.1 ++ after) refl (e ∙ ap (λ ts. ts ++ after) g.2 ∙ append_assoc g.0 g.1 after) g.3 in
    absurd (number-behind r.parts k.0 (g.1 ++ after) k.2 k.3)

dotless : (t : Token) (ts : List Token) (x : List ℕ) → t.kind ≡ Name x → NoDot (t ∷ ts)
dotless t ts x k us u e d = name-is-no-sign x DOT (sym k ∙ ap (λ v. v.kind) (first-same t u ts us e) ∙ d)

no-three : (n : ℕ) → n ≡ 3 → (n < 3) ⊎ (3 < n) → ⊥
no-three n e (inl l) = omega (arith, e, l)
no-three n e (inr l) = omega (arith, e, l)

proof-no-end : IsEnd proof → ⊥
proof-no-end = not-end (Name (codes "proof")) (λ e. no-three 5 e (inr (omega arith)))

a-no-end : IsEnd a → ⊥
a-no-end = not-end (Name (codes "A")) (λ e. no-three 1 e (inl (omega arith)))

dot-no-end : IsEnd dot → ⊥
dot-no-end = not-end (Sign DOT) (λ e. no-three 0 e (inl (omega arith)))

one-no-end : IsEnd one → ⊥
one-no-end = not-end (Number (pos 1)) (λ e. no-three 0 e (inl (omega arith)))

pub missing-number : IsScriptFaultAt 17 no_number 10
missing-number = (4, file-fault no_number 4 (place-of no_number opening (hyp ∷ end ∷ []) (with-rules []) 2 refl refl (omega arith) (opened [] [] refl) (proof-no-end, (a-no-end, (dot-no-end, (one-no-end, (rule-end Hyp, tt))))) (opens-leave 2 (hyp ∷ end ∷ []) (dotless hyp _ (codes "hyp") refl) (omega arith) hyp-leaves)) (omega arith), refl)

-- ---- proof A.1 same ; end
abbrev same : Token
same = token 10 14 (Name (codes "same"))

abbrev semicolon : Token
semicolon = token 15 16 (Sign SEMICOLON)

abbrev last_end : Token
last_end = token 17 20 (Name (codes "end"))

abbrev behind_name : List Token
behind_name = same ∷ semicolon ∷ last_end ∷ []

nothing-behind : (ps : List RulePart) (ts : List Token) → Ruled [] ps ts → ts ≡ []
nothing-behind [] ts h = h
nothing-behind (p ∷ ps) ts h = absurd h

same-leaves : Leave 2 behind_name
same-leaves [] front after e h = omega (arith, ap length (e ∙ ap (λ ts. ts ++ after) h))
same-leaves (r ∷ []) front after e h =
    let k = rule-there Same same (semicolon ∷ last_end ∷ []) r front after refl e h in
    omega (arith, ap length (k.2 ∙ ap (λ ts. ts ++ after) (nothing-behind r.parts k.0 k.3)))
same-leaves (r ∷ q ∷ rs) front after e h =
    let k = rule-there Same same (semicolon ∷ last_end ∷ []) r h.0 (h.1 ++ after) refl (e ∙ ap (λ ts. ts ++ after) h.2 ∙ append_assoc h.0 h.1 after) h.3 in
    let i : semicolon ∷ last_end ∷ [] ≡ h.4.3.0 ∷ (h.4.1 ++ after) = k.2 ∙ ap (λ ts. ts ++ (h.1 ++ after)) (nothing-behind r.parts k.0 k.3) ∙ ap (λ ts. ts ++ after) (h.4.2 ∙ ap (λ ts. ts ++ h.4.1) h.4.3.1) in
    let g = first-rule q rs h.4.1 h.4.4 in
    let f = first-at q.at (rule_kind q.word) (Ruled (shape_of q.word) q.parts) g.0 g.3 in
    let j : last_end ∷ [] ≡ f.token ∷ ((f.rest ++ g.1) ++ after) = rest-of semicolon h.4.3.0 (last_end ∷ []) (h.4.1 ++ after) i ∙ ap (λ ts. ts ++ after) (g.2 ∙ ap (λ ts. ts ++ g.1) f.is) in
    absurd (rule-end q.word (sym f.same ∙ ap (λ x. x.kind) (sym (first-same last_end f.token [] ((f.rest ++ g.1) ++ after) j))))

same-written : AnyDivided SEMICOLON Rule (record { word = Same; at = 10; parts = [] } ∷ []) (same ∷ [])
same-written = (same ∷ [], [], refl, (same, refl, refl, refl), refl)

sign-no-end : IsEnd semicolon → ⊥
sign-no-end = not-end (Sign SEMICOLON) (λ e. no-three 0 e (inl (omega arith)))

pub end-is-no-rule : IsScriptFaultAt 20 end_as_rule 15
end-is-no-rule = (5, file-fault end_as_rule 5 (place-of end_as_rule (opening ++ same ∷ []) (semicolon ∷ last_end ∷ []) (with-rules (record { word = Same; at = 10; parts = [] } ∷ [])) 2 refl refl (omega arith) (opened (record { word = Same; at = 10; parts = [] } ∷ []) (same ∷ []) same-written) (proof-no-end, (a-no-end, (dot-no-end, (one-no-end, (rule-end Same, (sign-no-end, tt)))))) (opens-leave 2 behind_name (dotless same _ (codes "same") refl) (omega arith) same-leaves)) (omega arith), refl)

-- ---- proof A.1 hyp 1 end
abbrev number : Token
number = token 14 15 (Number (pos 1))

abbrev end_behind : Token
end_behind = token 16 19 (Name (codes "end"))

pub script : SpellsScripts (one_script_tree ∷ []) one_script
script = (one_script, [], refl, (opening ++ hyp ∷ number ∷ [], end_behind ∷ [], refl, opened (record { word = Hyp; at = 10; parts = part_number 1 ∷ [] } ∷ []) (hyp ∷ number ∷ []) (hyp ∷ [], number ∷ [], refl, (hyp, refl, refl, refl), (number ∷ [], [], refl, (number, refl, refl), refl)), (end_behind, refl, refl)), refl)
