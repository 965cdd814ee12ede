-- Texts of sequents, line by line.
use Rattle.std.proofs.Common.{◌≡◌, ℕ, suc, ◌+◌, ◌<◌, ◌≤◌, Option, List, [], ◌∷◌, ◌++◌, map, take, length, get_or, refl, sym, ◌∙◌, ap, subst, arith, false, cond, codes}
use Rattle.std.specs.Prelude.{nat_eq, decimal}
use Rattle.std.proofs.lemmas.Bool.Decides.{nat_tests}
use Rattle.std.proofs.lemmas.List.{take_more, take_all, map-append, append-nil, append_assoc, length-take-le}
use Rattle.bk_form.specs.Formula.{Formula}
use Rattle.bk_form.specs.Table.{Table}
use Rattle.bk_seq.specs.declared.sequent.Sequent.{Sequent as StoredSequent}
use Rattle.bk_seq.specs.Sequents.{Sequent, sequent_of}
use Rattle.bk_goal.specs.Shown.{ShowsHypothesis, ShowsHypotheses, ShowsTitled, ShowsFrom, ShowsBetween, old_at, title}
use Rattle.bk_goal.specs.declared.brought.Brought.{Brought}

-- three pieces, one after another
pub joined : (one two new a b c : List ℕ) → one ≡ a → two ≡ one ++ b → new ≡ two ++ c → new ≡ a ++ b ++ c
joined one two new a b c e f g = g ∙ ap (λ t. t ++ c) (f ∙ ap (λ t. t ++ b) e)

-- a title of four pieces, and what stands under it
pub titled_by : (one two three new a b c d : List ℕ) → one ≡ a → two ≡ one ++ b → three ≡ two ++ c → new ≡ three ++ d → new ≡ a ++ b ++ c ++ d
titled_by one two three new a b c d e f g h = h ∙ ap (λ t. t ++ d) (joined one two three a b c e f g)

-- a test of numbers
is_more : (k : ℕ) → 0 < k → nat_eq k 0 ≡ false
is_more k h = grind (arith, nat_tests)

-- the title after some rules
pub title_of_some : (name : List ℕ) (k rules : ℕ) (text : List ℕ) → 0 < k → text ≡ name ++ (codes ", after rule " ++ decimal k) ++ (codes " of " ++ decimal rules) → text ≡ title name k rules
title_of_some name k rules text h e =
    e ∙ sym (ap (λ b. cond b (name ++ (codes ", before the first of " ++ decimal rules) ++ codes " rules") (name ++ (codes ", after rule " ++ decimal k) ++ (codes " of " ++ decimal rules))) (is_more k h))

-- what is shown between two texts, which are written
pub put_between : (table : Table) (brought : Brought) {before front behind next : List ℕ} {held left : List StoredSequent} (text : List ℕ) {words : List ℕ} → before ≡ front → front ≡ words → behind ≡ next → held ≡ left →
    ShowsBetween before behind table brought (map sequent_of held) text → ShowsBetween words next table brought (map sequent_of left) text
put_between table brought {before} {front} {behind} {next} {held} {left} text {words} e f g h shows =
    let first = subst (λ t. ShowsBetween t behind table brought (map sequent_of held) text) (e ∙ f) shows in
    let second = subst (λ t. ShowsBetween words t table brought (map sequent_of held) text) g first in
    subst (λ ss. ShowsBetween words next table brought (map sequent_of ss) text) h second

module _ (table : Table) (old : Option ℕ) where
  -- a hypothesis more
  hypotheses-more : (n : ℕ) (fs : List Formula) (f : Formula) (text line : List ℕ) → ShowsHypotheses table old n fs text → ShowsHypothesis table old (n + length fs) f line → ShowsHypotheses table old n (fs ++ f ∷ []) (text ++ line)
  hypotheses-more n [] f text line h l =
      let number : n + 0 ≡ n = omega arith in
      (line, [], subst (λ m. ShowsHypothesis table old m f line) number l, refl, ap (λ t. t ++ line) h ∙ sym (append-nil line))
  hypotheses-more n (g ∷ fs) f text line h l =
      let number : n + suc (length fs) ≡ suc n + length fs = omega arith in
      (h.0, h.1 ++ line, h.2, hypotheses-more (suc n) fs f h.1 line h.3 (subst (λ m. ShowsHypothesis table old m f line) number l), ap (λ t. t ++ line) h.4 ∙ append_assoc h.0 h.1 line)

  pub hypotheses_turn : (fs : List Formula) (i : ℕ) (f : Formula) (text line new : List ℕ) → i < length fs → f ≡ get_or fs i f → ShowsHypotheses table old 1 (take i fs) text → ShowsHypothesis table old (i + 1) f line → new ≡ text ++ line → ShowsHypotheses table old 1 (take (i + 1) fs) new
  hypotheses_turn fs i f text line new l e h s w =
      let so_far : length (take i fs) ≡ i = length-take-le i fs (omega arith) in
      let number : i + 1 ≡ 1 + length (take i fs) = omega arith in
      let listed : take i fs ++ f ∷ [] ≡ take (i + 1) fs = ap (λ r. take i fs ++ r ∷ []) e ∙ sym (take_more fs i f l) in
      let more = hypotheses-more 1 (take i fs) f text line h (subst (λ m. ShowsHypothesis table old m f line) number s) in
      subst (ShowsHypotheses table old 1 (take (i + 1) fs)) (sym w) (subst (λ gs. ShowsHypotheses table old 1 gs (text ++ line)) listed more)

  pub hypotheses_all : (fs : List Formula) (i : ℕ) (text : List ℕ) → length fs ≤ i → ShowsHypotheses table old 1 (take i fs) text → ShowsHypotheses table old 1 fs text
  hypotheses_all fs i text l h = subst (λ gs. ShowsHypotheses table old 1 gs text) (take_all i fs l) h

-- as many sequents as are held
pub length_held : (held : List StoredSequent) → length (map sequent_of held) ≡ length held
length_held [] = refl
length_held (t ∷ ts) = ap suc (length_held ts)

module _ (table : Table) (brought : Brought) (count : ℕ) where
  abbrev Titled : ℕ → Sequent → List ℕ → Type 0
  Titled n s text = ShowsTitled table (old_at brought n) n count s text

  -- a sequent more
  sequents-more : (n : ℕ) (ss : List Sequent) (s : Sequent) (text block : List ℕ) → ShowsFrom table brought count n ss text → Titled (n + length ss) s block → ShowsFrom table brought count n (ss ++ s ∷ []) (text ++ block)
  sequents-more n [] s text block h l =
      let number : n + 0 ≡ n = omega arith in
      (block, [], subst (λ m. Titled m s block) number l, refl, ap (λ t. t ++ block) h ∙ sym (append-nil block))
  sequents-more n (r ∷ ss) s text block h l =
      let number : n + suc (length ss) ≡ suc n + length ss = omega arith in
      (h.0, h.1 ++ block, h.2, sequents-more (suc n) ss s h.1 block h.3 (subst (λ m. Titled m s block) number l), ap (λ t. t ++ block) h.4 ∙ append_assoc h.0 h.1 block)

  pub sequents_turn : (held : List StoredSequent) (i : ℕ) (s : StoredSequent) (text block new : List ℕ) → i < length held → s ≡ get_or held i s → ShowsFrom table brought count 1 (map sequent_of (take i held)) text →
      (old : Option ℕ) → old ≡ old_at brought (i + 1) → ShowsTitled table old (i + 1) count (sequent_of s) block → new ≡ text ++ block → ShowsFrom table brought count 1 (map sequent_of (take (i + 1) held)) new
  sequents_turn held i s text block new l e h old o t w =
      let so_far : length (map sequent_of (take i held)) ≡ i = length_held (take i held) ∙ length-take-le i held (omega arith) in
      let number : i + 1 ≡ 1 + length (map sequent_of (take i held)) = omega arith in
      let listed : map sequent_of (take i held) ++ sequent_of s ∷ [] ≡ map sequent_of (take (i + 1) held) = sym (map-append sequent_of (take i held) (s ∷ [])) ∙ ap (λ r. map sequent_of (take i held ++ r ∷ [])) e ∙ ap (map sequent_of) (sym (take_more held i s l)) in
      let here : Titled (i + 1) (sequent_of s) block = subst (λ x. ShowsTitled table x (i + 1) count (sequent_of s) block) o t in
      let more = sequents-more 1 (map sequent_of (take i held)) (sequent_of s) text block h (subst (λ m. Titled m (sequent_of s) block) number here) in
      subst (ShowsFrom table brought count 1 (map sequent_of (take (i + 1) held))) (sym w) (subst (λ gs. ShowsFrom table brought count 1 gs (text ++ block)) listed more)

  pub sequents_all : (held : List StoredSequent) (i : ℕ) (text : List ℕ) → length held ≤ i → ShowsFrom table brought count 1 (map sequent_of (take i held)) text → ShowsFrom table brought count 1 (map sequent_of held) text
  sequents_all held i text l h = subst (λ gs. ShowsFrom table brought count 1 (map sequent_of gs) text) (take_all i held l) h
