-- What a right side reads as stays the same where bound names that don't stand in it get types.
use Rattle.std.proofs.Common.{◌≡◌, ℕ, ℤ, List, [], ◌∷◌, ◌++◌, length, eqb, refl, sym, subst, true, false}
use Rattle.std.specs.Prelude.{Option, None, Some}
use Rattle.std.specs.Str.{bytes_eq}
use Rattle.bk_raw.specs.declared.operator.InfixOp.{InfixOp}
use Rattle.bk_raw.specs.declared.operator.InfixOp.TheVariants.{Member, Subset, StrictSubset, Equal}
use Rattle.bk_raw.specs.Trees.RawTree.{RawTree, raw, raw_infix}
use Rattle.bk_raw.specs.Trees.FreeNames.{stands_free}
use Rattle.bk_raw.specs.Meaning.Names.{Names, untyped_name, found, count_locals}
use Rattle.bk_raw.specs.Meaning.Outcome.{Outcome, partial, ranging, holding, silent}
use Rattle.bk_raw.specs.Meaning.Binders.{Bound, inside}
use Rattle.bk_raw.specs.Meaning.KeptReading.{FindAlike}
use Rattle.bk_raw.specs.Meaning.Speaking.{IsTold}
use Rattle.bk_raw.specs.Meaning.ToldNames.{IsSeen}
use Rattle.bk_raw.specs.Meaning.TermReading.{reading}
use Rattle.bk_raw.proofs.ReadingKept.{readings-kept}
use Rattle.bk_raw.proofs.ReadingSeen.{told-names}
use Rattle.bk_elab_terms.specs.Conjuncts.{IsRight}
use Rattle.bk_elab_terms.specs.declared.outcome.Step.{Step}
use Rattle.bk_elab_terms.specs.Shown.{IsRead}
use Rattle.bk_elab_terms.specs.Sights.{clue_type}
use Rattle.bk_elab_terms.specs.Kept.{Grows, names_untyped, dollar_untyped, has_unsettled, IsKept, AreKept, StaysKept}
use Rattle.bk_elab_terms.proofs.Grown.{sets-alike, count-alike, same-grown, none-is, grows-through}
use Rattle.bk_elab_terms.proofs.Dollars.{dollars-alike}

-- ---- readings
alike : (d : RawTree) (bs cs : List Bound) (names : Names) → Grows bs cs → names_untyped bs d ≡ false → has_unsettled (count_locals names) (length bs) (dollar_untyped bs) d ≡ false → FindAlike d (inside bs names) (inside cs names)
alike d bs cs names g u p = record {
  locals = count-alike bs cs names names g refl;
  sets = λ x. sets-alike bs cs names names g (λ i y. refl) 0 x;
  names = λ x h. same-grown bs cs names names x g (none-is bs d x u h) (λ i. refl) 0;
  dollar_names = dollars-alike d bs cs names g p;
}

-- what a right side reads as stays, whatever types the names get that don't stand in it
reading-stays : (m : ℤ) (d : RawTree) (bs cs : List Bound) (names : Names) → Grows bs cs → names_untyped bs d ≡ false → has_unsettled (count_locals names) (length bs) (dollar_untyped bs) d ≡ false → reading m (inside bs names) d ≡ reading m (inside cs names) d
reading-stays m d bs cs names g u p = readings-kept m d (inside bs names) (inside cs names) (alike d bs cs names g u p)

-- a right side that was read as it reads under these names
pub side-kept : (m : ℤ) (names : Names) (t d : RawTree) (o : InfixOp) (side : Step) → IsRight t o d → IsRead side (reading m names d) → IsKept m names (Some side) t
side-kept m names (raw at (raw_infix p a b)) d o side h r = λ one all k f.
    f (reading m names a) (reading m names b) k (subst (λ (x : RawTree). IsRead side (reading m names x)) (sym h.1) r)
side-kept m names (raw at _) d o side h r = absurd h

pub stays-kept : (m : ℤ) (names : Names) (bs cs : List Bound) (t d : RawTree) (o : InfixOp) (side : Step) → IsRight t o d → IsRead side (reading m (inside bs names) d) → names_untyped bs d ≡ false → has_unsettled (count_locals names) (length bs) (dollar_untyped bs) d ≡ false → Grows bs cs → StaysKept m names cs (Some side) t
stays-kept m names bs cs t d o side h r u p g ds k =
    side-kept m (inside ds names) t d o side h (subst (IsRead side) (reading-stays m d bs ds names (grows-through bs cs ds g k) u p) r)

-- ---- where a name without a type stands in it
untold : (o : Outcome) → (IsTold o → ⊥) → o ≡ silent
untold silent h = refl
untold (partial p) h = absurd (h tt)
untold (ranging f t there) h = absurd (h tt)
untold (holding p) h = absurd (h tt)

pub not-empty : (text : List ℕ) → eqb (length text) 0 ≡ false → bytes_eq [] text ≡ false
not-empty [] h = let no : true ≡ false = h in absurd (cc)
not-empty (x ∷ xs) h = refl

pub silent-untyped : (m : ℤ) (names : Names) (d : RawTree) (x : List ℕ) → bytes_eq [] x ≡ false → stands_free x d ≡ true → found 0 names x ≡ untyped_name → (reading m names d).outcome ≡ silent
silent-untyped m names d x n h e = untold (reading m names d).outcome (λ k. subst IsSeen e (told-names m names d k x n h))

pub clue-silent : (o : InfixOp) → clue_type o silent ≡ None
clue-silent Member = refl
clue-silent Subset = refl
clue-silent StrictSubset = refl
clue-silent Equal = refl
clue-silent _ = refl

-- ---- lists of what is kept
pub kept-append : (m : ℤ) (names : Names) (ks : List (Option Step)) (ts : List RawTree) (k : Option Step) (t : RawTree) → AreKept m names ks ts → IsKept m names k t → AreKept m names (ks ++ k ∷ []) (ts ++ t ∷ [])
kept-append m names [] [] k t h g = (g, tt)
kept-append m names [] (u ∷ ts) k t h g = absurd h
kept-append m names (l ∷ ks) [] k t h g = absurd h
kept-append m names (l ∷ ks) (u ∷ ts) k t h g = (h.0, kept-append m names ks ts k t h.1 g)

pub kept-first : (m : ℤ) (names : Names) (ks : List (Option Step)) (k : Option Step) (t : RawTree) (ts : List RawTree) → AreKept m names (k ∷ ks) (t ∷ ts) → IsKept m names k t × AreKept m names ks ts
kept-first m names ks k t ts h = h

pub kept-missing : (m : ℤ) (names : Names) (t : RawTree) (ts : List RawTree) → AreKept m names [] (t ∷ ts) → ⊥
kept-missing m names t ts h = h

pub ruleset keeping = (silent-untyped, kept-first, kept-missing)
