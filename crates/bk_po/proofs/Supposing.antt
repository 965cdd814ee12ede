-- What is supposed at a level, list by list.
use Rattle.std.proofs.Common.{◌≡◌, ◌<◌, ℕ, zero, suc, List, [], ◌∷◌, ◌++◌, take, length, refl, sym, ◌∙◌, ap, arith}
use Rattle.std.specs.Prelude.{slice_index_or}
use Rattle.std.specs.List.{flat_map}
use Rattle.std.proofs.lemmas.List.{append-nil, append_assoc}
use Rattle.bk_form.specs.Formula.{Formula}
use Rattle.bk_form.specs.Predicates.{conjuncts}
use Rattle.bk_dev.specs.Development.{Level, Development, blank_level, level_at}
use Rattle.bk_dev.specs.Hypotheses.{properties_of, values_at, joining, facts, facts_of, init_hypotheses, invariant_hypotheses, assertion_hypotheses}

-- one level more
one-more : (F : Level → List Formula) (ls : List Level) (k : ℕ) → k < length ls → flat_map F (take (suc k) ls) ≡ flat_map F (take k ls) ++ F (slice_index_or ls k blank_level)
one-more F [] k h = absurd (omega (arith, h))
one-more F (l ∷ []) zero h = append-nil (F l)
one-more F (l ∷ m ∷ ls) zero h = append-nil (F l)
one-more F (l ∷ ls) (suc k) h =
    ap (λ ps. F l ++ ps) (one-more F ls k (omega (arith, h))) ∙ sym (append_assoc (F l) (flat_map F (take k ls)) (F (slice_index_or ls k blank_level)))

-- the properties down to a level, and what is stated down to it
pub properties_next : (dev : Development) (k : ℕ) (before after : List Formula) (l : Level) → k < length dev.levels → l ≡ level_at dev k → before ≡ properties_of dev k → after ≡ before ++ conjuncts l.properties → after ≡ properties_of dev (suc k)
properties_next dev k before after l h is first next =
    next ∙ ((λ i. first i ++ conjuncts (is i).properties) ∙ sym (one-more (λ (m : Level). conjuncts m.properties) dev.levels k h))

pub facts_next : (dev : Development) (k : ℕ) (before joined after : List Formula) (l : Level) → k < length dev.levels → l ≡ level_at dev k → before ≡ facts_of dev k → joined ≡ before ++ joining l → after ≡ joined ++ flat_map conjuncts l.assertions → after ≡ facts_of dev (suc k)
facts_next dev k before joined after l h is first next last =
    last ∙ (ap (λ ps. ps ++ flat_map conjuncts l.assertions) next ∙ (append_assoc before (joining l) (flat_map conjuncts l.assertions)
    ∙ ((λ i. first i ++ facts (is i)) ∙ sym (one-more facts dev.levels k h))))

-- above the machine there is none
none-above : (F : Level → List Formula) (ls : List Level) → flat_map F (take 0 ls) ≡ []
none-above F [] = refl
none-above F (l ∷ ls) = refl

pub no_properties : (dev : Development) → properties_of dev 0 ≡ []
no_properties dev = none-above (λ l. conjuncts l.properties) dev.levels

pub no_facts : (dev : Development) → facts_of dev 0 ≡ []
no_facts dev = none-above facts dev.levels

-- ---- the lists
pub begins_is : (dev : Development) (k : ℕ) (properties begins : List Formula) → properties ≡ properties_of dev (suc k) → begins ≡ properties ++ values_at dev k → begins ≡ init_hypotheses dev k
begins_is dev k properties begins same is = is ∙ ap (λ ps. ps ++ values_at dev k) same

pub before_is : (dev : Development) (k : ℕ) (begins facts before : List Formula) → begins ≡ init_hypotheses dev k → facts ≡ facts_of dev k → before ≡ begins ++ facts → before ≡ invariant_hypotheses dev k
before_is dev k begins facts before first second is = is ∙ (λ i. first i ++ second i)

pub joined_is : (dev : Development) (k : ℕ) (begins facts more joined : List Formula) (l : Level) → l ≡ level_at dev k → begins ≡ init_hypotheses dev k → facts ≡ facts_of dev k → more ≡ facts ++ joining l → joined ≡ begins ++ more → joined ≡ assertion_hypotheses dev k
joined_is dev k begins facts more joined l level first second next is =
    is ∙ (ap (λ ps. begins ++ ps) next ∙ (sym (append_assoc begins facts (joining l)) ∙ (λ i. first i ++ second i ++ joining (level i))))

pub all_is : (dev : Development) (k : ℕ) (begins facts all : List Formula) → begins ≡ init_hypotheses dev k → facts ≡ facts_of dev (suc k) → all ≡ begins ++ facts → all ≡ init_hypotheses dev k ++ facts_of dev (suc k)
all_is dev k begins facts all first second is = is ∙ (λ i. first i ++ second i)

pub ruleset supposing = (properties_next, facts_next, begins_is, before_is, joined_is, all_is)
