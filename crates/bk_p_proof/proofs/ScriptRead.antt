-- Rules with semicolons between, and a script but for its end, in front of tokens.
use Rattle.std.specs.Prelude.{◌≡◌, ℕ, ◌<◌, ◌≤◌, Bool, true, false, ◌||◌, max, List, [], ◌∷◌, ◌++◌, length, codes, refl}
use Rattle.std.proofs.Common.{inl, arith, sym, ◌∙◌, ap, subst, append_assoc, append-nil, length-append}
use Rattle.bk_limits.specs.declared.TheConstants.{GREATEST_TREE_HEIGHT}
use Rattle.bk_form.specs.declared.token.Token.{Token}
use Rattle.bk_form.specs.declared.token.TokenKind.TheVariants.{Name, Sign}
use Rattle.bk_ops.specs.declared.sign.TheConstants.{SEMICOLON, DOT}
use Rattle.bk_raw.specs.Grammar.Pieces.{Divided, AnyDivided}
use Rattle.bk_raw.specs.Grammar.Reading.{start}
use Rattle.bk_raw.specs.declared.script.NamePart.{NamePart}
use Rattle.bk_raw.specs.declared.script.NamePart.TheVariants.{Letters, Numeral}
use Rattle.bk_raw.specs.Trees.ScriptTree.{RawRule, RawScript}
use Rattle.bk_raw.specs.Grammar.ScriptSpelling.{Rule, PartNamed, OpensScript}
use Rattle.bk_raw.proofs.Steps.{Piece}
use Rattle.bk_raw.proofs.RuleOne.{IsRuleEnd, RuleEnds, rule-cut}
use Rattle.bk_raw.proofs.RuleLonger.{rule-no-longer}
use Rattle.bk_raw.proofs.ScriptOne.{rule-first, rule-sign}
use Rattle.bk_p_expr.specs.Fronts.{Longest, Nothing}
use Rattle.bk_p_proof.specs.Ahead.{Ahead, NotAhead}
use Rattle.bk_p_proof.specs.Kept.{IsRule, AreRules, IsScript, rule_height, rules_height, rules_names}
use Rattle.bk_p_proof.specs.TypedNames.{rule_names}
use Rattle.bk_p_proof.proofs.Cuts.{CutsAt, Begins, no_more, tail_same}
use Rattle.bk_p_proof.proofs.Rows.{RowSoFar, row_begins, row_goes_on, row_ends, row_ends_before, any_longest, none_longest, divided_cut}
use Rattle.bk_p_proof.proofs.Names.{part_free}
use Rattle.bk_p_proof.proofs.PartsRead.{names_kept}

-- ---- where a rule is cut
abbrev pub Only : List Token → Piece
Only us ts = ts ≡ us

ends_there : (us : List Token) → Begins (Sign SEMICOLON) us → RuleEnds (Only us)
ends_there us b ts e = subst IsRuleEnd (sym (e ∙ b.1.1)) (inl b.1.2)

rule_here : CutsAt Rule (Begins (Sign SEMICOLON))
rule_here tokens rest front back x y h e p b =
    let w = rule-no-longer y x (Only back) (Only rest) tokens (ends_there back b) (front, back, e, p, refl) (h.written, rest, h.splits, h.spelled, refl) in
    let z : w.0 ≡ [] = no_more w.0 rest w.1 (sym w.3) (omega (arith, h.longest y front back e p, ap length w.2)) in
    let same : rest ≡ back = sym w.3 ∙ ap (λ us. us ++ w.1) z ∙ w.2 in
    let c = rule-cut x y (Only rest) (Only back) tokens (subst (λ (us : List Token). RuleEnds (Only us)) (sym same) (ends_there back b)) (ends_there back b) (h.written, rest, h.splits, h.spelled, refl) (front, back, e, p, refl) in
    (c.0, same)

-- ---- what is kept of rules
pub max_zero : (n : ℕ) → max n 0 ≡ max 0 n
max_zero n = omega (arith)

pub max_max : (l m n k : ℕ) → k ≡ max m n → max l k ≡ max (max l m) n
max_max l m n k e = omega (arith, e)

greatest_last : (rs : List RawRule) (r : RawRule) → rules_height (rs ++ r ∷ []) ≡ max (rules_height rs) (rule_height r)
greatest_last [] r = max_zero (rule_height r)
greatest_last (q ∷ rs) r = max_max (rule_height q) (rules_height rs) (rule_height r) (rules_height (rs ++ r ∷ [])) (greatest_last rs r)

names_last : (rs : List RawRule) (r : RawRule) → rules_names (rs ++ r ∷ []) ≡ rules_names rs ++ rule_names r
names_last [] r = append-nil (rule_names r)
names_last (q ∷ rs) r = ap (λ ns. rule_names q ++ ns) (names_last rs r) ∙ sym (append_assoc (rule_names q) (rules_names rs) (rule_names r))

pub both_low : (m n k : ℕ) → k ≡ max m n → m ≤ GREATEST_TREE_HEIGHT → n ≤ GREATEST_TREE_HEIGHT → k ≤ GREATEST_TREE_HEIGHT
both_low m n k e a b = omega (arith, e, a, b)

pub first_high : (m n k : ℕ) → k ≡ max m n → GREATEST_TREE_HEIGHT < m → GREATEST_TREE_HEIGHT < k
first_high m n k e a = omega (arith, e, a)

pub second_high : (m n k : ℕ) → k ≡ max m n → GREATEST_TREE_HEIGHT < n → GREATEST_TREE_HEIGHT < k
second_high m n k e a = omega (arith, e, a)

names_on : (rs qs : List RawRule) (r q : RawRule) → rules_names qs ≡ rules_names rs → rule_names q ≡ rule_names r → rules_names (qs ++ q ∷ []) ≡ rules_names (rs ++ r ∷ [])
names_on rs qs r q e f = names_last qs q ∙ (λ i. e i ++ f i) ∙ sym (names_last rs r)

pub rules_kept : (rs qs : List RawRule) (r q : RawRule) (b c : Bool) → AreRules rs qs b → IsRule r q c → AreRules (rs ++ r ∷ []) (qs ++ q ∷ []) (b || c)
rules_kept rs qs r q false false h g = ((λ i. h.0 i ++ g.0 i ∷ []), both_low (rules_height rs) (rule_height r) (rules_height (rs ++ r ∷ [])) (greatest_last rs r) h.1 g.1)
rules_kept rs qs r q false true h g = (names_on rs qs r q (names_kept rules_height rules_names rs qs false h) g.0, second_high (rules_height rs) (rule_height r) (rules_height (rs ++ r ∷ [])) (greatest_last rs r) g.1)
rules_kept rs qs r q true c h g = (names_on rs qs r q h.0 (names_kept rule_height rule_names r q c g), first_high (rules_height rs) (rule_height r) (rules_height (rs ++ r ∷ [])) (greatest_last rs r) h.1)

pub no_rules_kept : AreRules [] [] false
no_rules_kept = (refl, omega (arith))

pub one_rule_kept : (r q : RawRule) (b : Bool) → IsRule r q b → AreRules (r ∷ []) (q ∷ []) b
one_rule_kept r q b h = rules_kept [] [] r q false b no_rules_kept h

-- ---- rules
-- these are read, of which this is kept
pub record RulesSoFar (tokens : List Token) (kept : List RawRule) (is_high : Bool) (rest : List Token) : Type 0 where
  pub rules : List RawRule
  pub row : RowSoFar Rule SEMICOLON tokens rules rest
  pub kept_of : AreRules rules kept is_high

abbrev pub RulesRead : List Token → List RawRule → Bool → List Token → Type 0
RulesRead tokens kept is_high rest = (rs : List RawRule) × Longest (AnyDivided SEMICOLON Rule) tokens rs rest × AreRules rs kept is_high

pub rules_none : (tokens : List Token) → Nothing Rule tokens → RulesRead tokens [] false tokens
rules_none tokens n = ([], none_longest Rule SEMICOLON tokens n, no_rules_kept)

pub rules_begin : (tokens rest : List Token) (r q : RawRule) (b : Bool) → Longest Rule tokens r rest → IsRule r q b → length rest < length tokens → RulesSoFar tokens (q ∷ []) b rest
rules_begin tokens rest r q b h k l = record { rules = r ∷ []; row = row_begins Rule SEMICOLON rule_here tokens rest r h l; kept_of = one_rule_kept r q b k }

pub rules_go_on : (tokens ts more rest : List Token) (qs : List RawRule) (r q : RawRule) (b c : Bool) → RulesSoFar tokens qs b ts → Ahead (Sign SEMICOLON) ts more → Longest Rule more r rest → IsRule r q c → length rest < length more → RulesSoFar tokens (qs ++ q ∷ []) (b || c) rest
rules_go_on tokens ts more rest qs r q b c s a h k l = record {
  rules = s.rules ++ r ∷ [];
  row = row_goes_on Rule SEMICOLON rule_here tokens ts more rest s.rules r s.row a h l;
  kept_of = rules_kept s.rules qs r q b c s.kept_of k;
}

pub rules_end : (tokens rest : List Token) (qs : List RawRule) (b : Bool) → RulesSoFar tokens qs b rest → NotAhead (Sign SEMICOLON) rest → RulesRead tokens qs b rest
rules_end tokens rest qs b s n = (s.rules, any_longest Rule SEMICOLON tokens rest s.rules (row_ends Rule SEMICOLON rule_here tokens rest s.rules s.row n) s.row.shorter, s.kept_of)

pub rules_end_before : (tokens rest more : List Token) (qs : List RawRule) (b : Bool) → RulesSoFar tokens qs b rest → Ahead (Sign SEMICOLON) rest more → Nothing Rule more → RulesRead tokens qs b rest
rules_end_before tokens rest more qs b s a n = (s.rules, any_longest Rule SEMICOLON tokens rest s.rules (row_ends_before Rule SEMICOLON rule_here tokens rest more s.rules s.row a n) s.row.shorter, s.kept_of)

-- ---- a script but for its end
abbrev Named : List NamePart → Piece
Named = Divided DOT PartNamed

abbrev AnyRules : List RawRule → Piece
AnyRules = AnyDivided SEMICOLON Rule

part_first : (p : NamePart) (ts : List Token) → PartNamed p ts → (t : Token) × (us : List Token) × (ts ≡ t ∷ us)
part_first (Letters text) ts h = (h.0, [], h.1)
part_first (Numeral n) ts h = (h.0, [], h.1)

named_first : (ps : List NamePart) (ts : List Token) → Named ps ts → (t : Token) × (us : List Token) × (ts ≡ t ∷ us)
named_first [] ts h = absurd h
named_first (p ∷ []) ts h = part_first p ts h
named_first (p ∷ o ∷ ps) ts h =
    let f = part_first p h.0 h.3 in
    (f.0, f.1 ++ h.1, h.2 ∙ ap (λ us. us ++ h.1) f.2)

-- no dot stands before rules
no_dot_here : (q : RawRule) (qs : List RawRule) (back after : List Token) → AnyRules (q ∷ qs) back → NotAhead (Sign DOT) (back ++ after)
no_dot_here q qs back after h t us i k =
    let f = rule-first q qs (Only after) (back ++ after) (back, after, refl, h, refl) in
    let s = tail_same f.0 t f.1 us (sym f.2 ∙ i) in
    rule-sign q.word DOT (sym f.3 ∙ ap (λ x. x.kind) s.0 ∙ k)

-- a script that is opened in front: its name and its rules behind the first token
record Opened (t : Token) (behind : List Token) (s : RawScript) (after : List Token) : Type 0 where
  pub same : t.kind ≡ Name (codes "proof")
  pub front : List Token
  pub back : List Token
  pub splits : behind ≡ front ++ (back ++ after)
  pub named : Named s.name front
  pub ruled : AnyRules s.rules back

opened : (tokens behind : List Token) (t : Token) (s : RawScript) (front after : List Token) → tokens ≡ t ∷ behind → tokens ≡ front ++ after → OpensScript s front → Opened t behind s after
opened tokens behind t s front after i e p =
    let d = p.3 in
    let b = p.4 in
    let z = tail_same t d.0 behind (p.1 ++ after) (sym i ∙ e ∙ ap (λ us. us ++ after) (p.2 ∙ ap (λ us. us ++ p.1) d.1)) in
    let n = b.3 in
    record { same = ap (λ u. u.kind) z.0 ∙ d.2; front = b.0; back = b.1; splits = z.1 ∙ ap (λ us. us ++ after) b.2 ∙ append_assoc b.0 b.1 after; named = n.4; ruled = b.4 }

script_longest : (tokens behind ts rest : List Token) (name : List NamePart) (rs : List RawRule) → Ahead (Name (codes "proof")) tokens behind → Longest Named behind name ts → Longest AnyRules ts rs rest → (s : RawScript) (front after : List Token) → tokens ≡ front ++ after → OpensScript s front → length rest ≤ length after
script_longest tokens behind ts rest name rs a h g s front after e p = by_rules s.rules o.ruled
  where
    o : Opened a.0 behind s after
    o = opened tokens behind a.0 s front after a.1 e p

    by_rules : (qs : List RawRule) → AnyRules qs o.back → length rest ≤ length after
    by_rules [] k = omega (arith, h.longest s.name o.front (o.back ++ after) o.splits o.named, ap length (ap (λ us. us ++ after) k), ap length g.splits, length-append g.written rest)
    by_rules (q ∷ qs) k =
        let c = divided_cut PartNamed DOT part_free behind ts o.front (o.back ++ after) name s.name h o.splits o.named (no_dot_here q qs o.back after k) in
        g.longest (q ∷ qs) o.back after c.1 k

pub script_found : (tokens behind ts rest : List Token) (name : List NamePart) (rs : List RawRule) → Ahead (Name (codes "proof")) tokens behind → Longest (Divided DOT PartNamed) behind name ts → Longest (AnyDivided SEMICOLON Rule) ts rs rest → Longest OpensScript tokens (record { at = start tokens; name_at = start behind; name = name; rules = rs }) rest
script_found tokens behind ts rest name rs a h g =
    let f = named_first name h.written h.spelled in
    let at_name : f.0.start ≡ start behind = sym (ap start (h.splits ∙ ap (λ us. us ++ ts) f.2)) in
    let at_front : a.0.start ≡ start tokens = sym (ap start a.1) in
    record {
      written = a.0 ∷ (h.written ++ g.written);
      splits = a.1 ∙ ap (λ us. a.0 ∷ us) (h.splits ∙ ap (λ us. h.written ++ us) g.splits ∙ sym (append_assoc h.written g.written rest));
      spelled = (a.0 ∷ [], h.written ++ g.written, refl, (a.0, refl, a.2, at_front), (h.written, g.written, refl, (f.0, f.1, f.2, at_name, h.spelled), g.spelled));
      longest = script_longest tokens behind ts rest name rs a h g;
    }

pub script_kept : (at name_at a n : ℕ) (name : List NamePart) (rs qs : List RawRule) (b : Bool) → a ≡ at → n ≡ name_at → AreRules rs qs b → IsScript (record { at = at; name_at = name_at; name = name; rules = rs }) (record { at = a; name_at = n; name = name; rules = qs }) b
script_kept at name_at a n name rs qs false e f h = ((λ i. record { at = e i; name_at = f i; name = name; rules = h.0 i }), h.1)
script_kept at name_at a n name rs qs true e f h = h

-- a further rule, where one of those before was too high, and where none was
pub rules_go_on_high : (tokens ts more rest : List Token) (qs : List RawRule) (r q : RawRule) (b c : Bool) → b ≡ true → RulesSoFar tokens qs b ts → Ahead (Sign SEMICOLON) ts more → Longest Rule more r rest → IsRule r q c → length rest < length more → RulesSoFar tokens (qs ++ q ∷ []) b rest
rules_go_on_high tokens ts more rest qs r q b c e s a h k l = subst (λ d. RulesSoFar tokens (qs ++ q ∷ []) d rest) (ap (λ d. d || c) e ∙ sym e) (rules_go_on tokens ts more rest qs r q b c s a h k l)

pub rules_go_on_low : (tokens ts more rest : List Token) (qs : List RawRule) (r q : RawRule) (b c : Bool) → b ≡ false → RulesSoFar tokens qs b ts → Ahead (Sign SEMICOLON) ts more → Longest Rule more r rest → IsRule r q c → length rest < length more → RulesSoFar tokens (qs ++ q ∷ []) c rest
rules_go_on_low tokens ts more rest qs r q b c e s a h k l = subst (λ d. RulesSoFar tokens (qs ++ q ∷ []) d rest) (ap (λ d. d || c) e) (rules_go_on tokens ts more rest qs r q b c s a h k l)
