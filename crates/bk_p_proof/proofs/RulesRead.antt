-- A rule in front of tokens: its word, and its parts.
use Rattle.std.specs.Prelude.{◌≡◌, ℕ, ◌≤◌, Bool, true, false, List, [], ◌∷◌, ◌++◌, length, refl}
use Rattle.std.proofs.Common.{sym, ◌∙◌, ap, subst}
use Rattle.bk_form.specs.declared.token.Token.{Token}
use Rattle.bk_raw.specs.declared.script.RuleWord.{RuleWord}
use Rattle.bk_raw.specs.Trees.ScriptTree.{rule_kind, shape_of, RulePart, RawRule}
use Rattle.bk_raw.specs.Grammar.ScriptSpelling.{Ruled, Rule}
use Rattle.bk_raw.proofs.RuleOne.{word-same}
use Rattle.bk_p_expr.specs.Fronts.{Longest}
use Rattle.bk_p_proof.specs.Kept.{AreParts, IsRule}
use Rattle.bk_p_proof.proofs.Cuts.{tail_same}

-- what a rule in front begins with, and its parts behind it
record Begun (t : Token) (behind : List Token) (r : RawRule) (after : List Token) : Type 0 where
  pub same : t.kind ≡ rule_kind r.word
  pub back : List Token
  pub splits : behind ≡ back ++ after
  pub spelled : Ruled (shape_of r.word) r.parts back

begun : (tokens behind : List Token) (t : Token) (r : RawRule) (front after : List Token) → tokens ≡ t ∷ behind → tokens ≡ front ++ after → Rule r front → Begun t behind r after
begun tokens behind t r front after i e p =
    let d = p.3 in
    let s = tail_same t d.0 behind (p.1 ++ after) (sym i ∙ e ∙ ap (λ us. us ++ after) (p.2 ∙ ap (λ us. us ++ p.1) d.1)) in
    record { same = ap (λ u. u.kind) s.0 ∙ d.2; back = p.1; splits = s.1; spelled = p.4 }

pub rule_found : (tokens behind rest : List Token) (t : Token) (w : RuleWord) (xs : List RulePart) → tokens ≡ t ∷ behind → rule_kind w ≡ t.kind → Longest (Ruled (shape_of w)) behind xs rest → Longest Rule tokens (record { word = w; at = t.start; parts = xs }) rest
rule_found tokens behind rest t w xs i k h = record {
  written = t ∷ h.written;
  splits = i ∙ ap (λ us. t ∷ us) h.splits;
  spelled = (t ∷ [], h.written, refl, (t, refl, sym k, refl), h.spelled);
  longest = longest;
}
  where
    longest : (r : RawRule) (front after : List Token) → tokens ≡ front ++ after → Rule r front → length rest ≤ length after
    longest r front after e p =
        let b = begun tokens behind t r front after i e p in
        let s = word-same r.word w (sym b.same ∙ sym k) in
        h.longest r.parts b.back after b.splits (subst (λ x. Ruled (shape_of x) r.parts b.back) s b.spelled)

pub rule_kept : (w : RuleWord) (at : ℕ) (xs ys : List RulePart) (b : Bool) → AreParts xs ys b → IsRule (record { word = w; at = at; parts = xs }) (record { word = w; at = at; parts = ys }) b
rule_kept w at xs ys false h = ((λ i. record { word = w; at = at; parts = h.0 i }), h.1)
rule_kept w at xs ys true h = h
