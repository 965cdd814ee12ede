-- The faults of `<<:` in a term between two parts, and in terms one after another.
use Rattle.std.proofs.Common.{◌≡◌, ℕ, List, [], ◌∷◌, ◌++◌, ◌<◌, ◌+◌, length, get_or, drop, refl, sym, ◌∙◌, ap}
use Rattle.std.specs.Prelude.{Option}
use Rattle.std.proofs.lemmas.List.{drop_more}
use Rattle.bk_raw.specs.declared.operator.InfixOp.{InfixOp}
use Rattle.bk_raw.specs.declared.operator.InfixOp.TheVariants.{StrictSubset}
use Rattle.bk_raw.specs.declared.term.RawRange.{RawRange}
use Rattle.bk_raw.specs.Trees.RawTree.{RawTree, raw_infix, trees_of}
use Rattle.bk_raw.specs.Codes.RawView.{ranges_of}
use Rattle.bk_raw.specs.Meaning.TermReading.{stricts, stricts_in, strict_faults, all_stricts, ranges_stricts}
use Rattle.bk_raw.specs.Errors.Blame.{blame, earlier}
use Rattle.bk_elab_terms.specs.Shapes.{strict_here}
use Rattle.bk_raw.proofs.Blamed.{blame-joins, earlier-joins}
use Rattle.bk_raw.specs.Errors.Faults.{Fault}

-- that of the operator itself, and those in its sides
pub infix-stricts : (at : ℕ) (o : InfixOp) (a b : RawTree) → stricts_in at (raw_infix o a b) ≡ strict_here at o ++ (stricts a ++ stricts b)
infix-stricts at StrictSubset a b = refl
infix-stricts at _ a b = refl

-- another operator tells of none
pub not-strict : (o : InfixOp) (a b : RawTree) → (o ≡ StrictSubset → ⊥) → strict_faults o a b ≡ []
not-strict StrictSubset a b not = absurd (not refl)
not-strict _ a b not = refl

pub ruleset strict_parts = (infix-stricts)

-- what is told of one list of faults more
told-next : (before after first : Option Fault) (fs rest all : List Fault) (whole : Option Fault) → all ≡ fs ++ rest → first ≡ blame fs → after ≡ earlier before first → earlier before (blame all) ≡ whole → earlier after (blame rest) ≡ whole
told-next before after first fs rest all whole split f a h =
    (λ i. earlier (a i) (blame rest)) ∙ (earlier-joins before first (blame rest) ∙ ((λ i. earlier before (earlier (f i) (blame rest))) ∙ (sym (ap (earlier before) (ap blame split ∙ blame-joins fs rest)) ∙ h)))

pub terms-more : (ts : List RawTree) (i : ℕ) (d : RawTree) (before after first whole : Option Fault) → i < length ts → first ≡ blame (stricts (get_or ts i d)) → after ≡ earlier before first → earlier before (blame (all_stricts (trees_of (drop i ts)))) ≡ whole →
    earlier after (blame (all_stricts (trees_of (drop (i + 1) ts)))) ≡ whole
terms-more ts i d before after first whole l f a h =
    told-next before after first (stricts (get_or ts i d)) (all_stricts (trees_of (drop (i + 1) ts))) (all_stricts (trees_of (drop i ts))) whole (ap (λ (us : List RawTree). all_stricts (trees_of us)) (drop_more ts i d l)) f a h

pub ranges-more : (rs : List RawRange) (i : ℕ) (d : RawRange) (before after first whole : Option Fault) → i < length rs → first ≡ blame (stricts (get_or rs i d).range) → after ≡ earlier before first → earlier before (blame (ranges_stricts (ranges_of (drop i rs)))) ≡ whole →
    earlier after (blame (ranges_stricts (ranges_of (drop (i + 1) rs)))) ≡ whole
ranges-more rs i d before after first whole l f a h =
    told-next before after first (stricts (get_or rs i d).range) (ranges_stricts (ranges_of (drop (i + 1) rs))) (ranges_stricts (ranges_of (drop i rs))) whole (ap (λ (us : List RawRange). ranges_stricts (ranges_of us)) (drop_more rs i d l)) f a h
