-- Which rule a word names.
use Rattle.std.specs.Prelude.{◌≡◌, ℕ, Bool, true, false, cond, nat_eq, List, [], ◌∷◌, ◌++◌, Option, None, Some, MatchOption, refl}
use Rattle.std.specs.Str.{bytes_eq}
use Rattle.std.proofs.Common.{sym, ◌∙◌, ap}
use Rattle.std.proofs.lemmas.Slice.Eq.{bytes_eq-Decides}
use Rattle.bk_form.specs.declared.token.TokenKind.{TokenKind}
use Rattle.bk_form.specs.declared.token.TokenKind.TheVariants.{Name, Word}
use Rattle.bk_ops.specs.declared.word.TheConstants.{OR, NOT}
use Rattle.bk_raw.specs.declared.script.RuleWord.{RuleWord}
use Rattle.bk_raw.specs.declared.script.RuleWord.TheVariants.{Hyp, Not, Or}
use Rattle.bk_raw.specs.Trees.ScriptTree.{rule_kind}
use Rattle.bk_p_proof.specs.Words.{first_named, propositions, hypotheses, rewritings, arithmetic, named_rule}

abbrev Entries : Type 0
Entries = List (List ℕ × RuleWord)

some_none : (w : RuleWord) → Some w ≡ None → ⊥
some_none w e = cc

words_same : (v w : RuleWord) → Some v ≡ Some w → v ≡ w
words_same v w e = cc

-- ---- one list behind another
skipped : (b : Bool) (w : RuleWord) (r : Option RuleWord) → cond b (Some w) r ≡ None → (b ≡ false) × (r ≡ None)
skipped true w r e = absurd (some_none w e)
skipped false w r e = (refl, e)

first_more : (ps qs : Entries) (text : List ℕ) → first_named ps text ≡ None → first_named (ps ++ qs) text ≡ first_named qs text
first_more [] qs text e = refl
first_more (p ∷ ps) qs text e =
    let s = skipped (bytes_eq text p.0) p.1 (first_named ps text) e in
    (λ i. cond (s.0 i) (Some p.1) (first_named (ps ++ qs) text)) ∙ first_more ps qs text s.1

here : (b : Bool) (v w : RuleWord) (r s : Option RuleWord) → (r ≡ Some w → s ≡ Some w) → cond b (Some v) r ≡ Some w → cond b (Some v) s ≡ Some w
here true v w r s f e = e
here false v w r s f e = f e

first_here : (ps qs : Entries) (text : List ℕ) (w : RuleWord) → first_named ps text ≡ Some w → first_named (ps ++ qs) text ≡ Some w
first_here [] qs text w e = absurd (some_none w (sym e))
first_here (p ∷ ps) qs text w e = here (bytes_eq text p.0) p.1 w (first_named ps text) (first_named (ps ++ qs) text) (first_here ps qs text w) e

-- four lists, one behind another
in_first : (a b c d : Entries) (text : List ℕ) (w : RuleWord) → first_named a text ≡ Some w → first_named (a ++ b ++ c ++ d) text ≡ Some w
in_first a b c d text w e = first_here (a ++ b ++ c) d text w (first_here (a ++ b) c text w (first_here a b text w e))

in_second : (a b c d : Entries) (text : List ℕ) (w : RuleWord) → first_named a text ≡ None → first_named b text ≡ Some w → first_named (a ++ b ++ c ++ d) text ≡ Some w
in_second a b c d text w n e = first_here (a ++ b ++ c) d text w (first_here (a ++ b) c text w (first_more a b text n ∙ e))

in_third : (a b c d : Entries) (text : List ℕ) (w : RuleWord) → first_named a text ≡ None → first_named b text ≡ None → first_named c text ≡ Some w → first_named (a ++ b ++ c ++ d) text ≡ Some w
in_third a b c d text w n m e = first_here (a ++ b ++ c) d text w (first_more (a ++ b) c text (first_more a b text n ∙ m) ∙ e)

pub named_first : (text : List ℕ) (w : RuleWord) → first_named propositions text ≡ Some w → named_rule text ≡ Some w
named_first text w e = in_first propositions hypotheses rewritings arithmetic text w e

pub named_second : (text : List ℕ) (w : RuleWord) → first_named propositions text ≡ None → first_named hypotheses text ≡ Some w → named_rule text ≡ Some w
named_second text w n e = in_second propositions hypotheses rewritings arithmetic text w n e

pub named_third : (text : List ℕ) (w : RuleWord) → first_named propositions text ≡ None → first_named hypotheses text ≡ None → first_named rewritings text ≡ Some w → named_rule text ≡ Some w
named_third text w n m e = in_third propositions hypotheses rewritings arithmetic text w n m e

-- ---- the word of a rule
abbrev AreNamed : Entries → Type 0
AreNamed [] = Unit {0}
AreNamed (p ∷ ps) = (rule_kind p.1 ≡ Name p.0) × AreNamed ps

decided : (kind : TokenKind) (b : Bool) (v w : RuleWord) (r : Option RuleWord) → (b ≡ true → rule_kind v ≡ kind) → (r ≡ Some w → rule_kind w ≡ kind) → cond b (Some v) r ≡ Some w → rule_kind w ≡ kind
decided kind true v w r f g e = ap rule_kind (sym (words_same v w e)) ∙ f refl
decided kind false v w r f g e = g e

first_sound : (ps : Entries) → AreNamed ps → (text : List ℕ) (w : RuleWord) → first_named ps text ≡ Some w → rule_kind w ≡ Name text
first_sound [] h text w e = absurd (some_none w (sym e))
first_sound (p ∷ ps) h text w e = decided (Name text) (bytes_eq text p.0) p.1 w (first_named ps text) (λ t. h.0 ∙ ap Name (sym ((bytes_eq-Decides text p.0).0 t))) (first_sound ps h.1 text w) e

all_named : AreNamed (propositions ++ hypotheses ++ rewritings ++ arithmetic)
all_named = (refl, (refl, (refl, (refl, (refl, (refl, (refl, (refl, (refl, (refl, (refl, (refl, (refl, (refl, (refl, (refl, (refl, (refl, (refl, (refl, (refl, (refl, (refl, (refl, (refl, (refl, (refl, (refl, (refl, (refl, (refl, (refl, (refl, (refl, (refl, (refl, (refl, (refl, (refl, tt)))))))))))))))))))))))))))))))))))))))

-- the rule whose word the token is
abbrev pub rule_by : TokenKind → Option RuleWord
rule_by (Name x) = named_rule x
rule_by (Word n) = cond (nat_eq n NOT) (Some Not) (cond (nat_eq n OR) (Some Or) None)
rule_by _ = None

rule_again : (w : RuleWord) → rule_by (rule_kind w) ≡ Some w
rule_again Hyp = refl
rule_again _ = refl

pub no_rule : (kind : TokenKind) → rule_by kind ≡ None → (w : RuleWord) → rule_kind w ≡ kind → ⊥
no_rule kind n w e = some_none w (sym (rule_again w) ∙ ap rule_by e ∙ n)

pub rule_named : (kind : TokenKind) (text : List ℕ) (w : RuleWord) → kind ≡ Name text → named_rule text ≡ Some w → rule_kind w ≡ kind
rule_named kind text w k e = first_sound (propositions ++ hypotheses ++ rewritings ++ arithmetic) all_named text w e ∙ sym k

pub no_rule_named : (kind : TokenKind) (text : List ℕ) → kind ≡ Name text → named_rule text ≡ None → (w : RuleWord) → rule_kind w ≡ kind → ⊥
no_rule_named kind text k e = no_rule kind (ap rule_by k ∙ e)

pub named_found : (kind : TokenKind) (text : List ℕ) (o : Option RuleWord) → kind ≡ Name text → o ≡ named_rule text → MatchOption o ((w : RuleWord) → rule_kind w ≡ kind → ⊥) (λ w. rule_kind w ≡ kind)
named_found kind text None k e = no_rule_named kind text k (sym e)
named_found kind text (Some w) k e = rule_named kind text w k (sym e)
