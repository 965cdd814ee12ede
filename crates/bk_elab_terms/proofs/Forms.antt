-- What a term with one part or two reads as, from what its parts read as.
use Rattle.std.proofs.Common.{◌≡◌, ℕ, ℤ, refl, sym, subst, Result, Ok, Err, IfOk}
use Rattle.bk_raw.specs.Trees.RawTree.{RawTree}
use Rattle.bk_raw.specs.Meaning.Names.{Names}
use Rattle.bk_raw.specs.Meaning.Outcome.{Reading}
use Rattle.bk_raw.specs.Meaning.TermReading.{reading, node_reading}
use Rattle.bk_elab_terms.specs.declared.form.OnePart.{OnePart}
use Rattle.bk_elab_terms.specs.declared.form.OnePart.TheVariants.{Word, Negative, Inverse}
use Rattle.bk_elab_terms.specs.declared.form.TwoParts.{TwoParts}
use Rattle.bk_elab_terms.specs.declared.form.TwoParts.TheVariants.{Infix, Image, Apply, Composition, Pair}
use Rattle.bk_elab_terms.specs.declared.outcome.Step.{Step}
use Rattle.bk_elab_terms.specs.declared.sight.Reader.{Reader}
use Rattle.bk_elab_terms.specs.Forms.{one_node, two_node, one_reading, two_reading}
use Rattle.bk_elab_terms.specs.Shown.{IsRead}
use Rattle.bk_elab_terms.specs.Sights.{around_of, names_of, read_by, node_by, Stands}
use Rattle.bk_elab_terms.proofs.Readings.{read-after, stands-through, stands-itself}

one-is : (form : OnePart) (m : ℤ) (names : Names) (at : ℕ) (a : RawTree) → one_reading form at a (reading m names a) ≡ node_reading m names at (one_node form a)
one-is (Word o) m names at a = refl
one-is Negative m names at a = refl
one-is Inverse m names at a = refl

two-is : (form : TwoParts) (m : ℤ) (names : Names) (at : ℕ) (a b : RawTree) → two_reading form at a b (reading m names a) (reading m names b) ≡ node_reading m names at (two_node form a b)
two-is (Infix o) m names at a b = refl
two-is Image m names at a b = refl
two-is Apply m names at a b = refl
two-is Composition m names at a b = refl
two-is Pair m names at a b = refl

pub one-part-read : (old : Reader) (form : OnePart) (at : ℕ) (a : RawTree) (read s : Step) → IsRead read (read_by old a) → ((r : Reading) → IsRead read r → IsRead s (one_reading form at a r)) → IsRead s (node_by old at (one_node form a))
one-part-read old form at a read s h f = subst (IsRead s) (one-is form (around_of old).max (names_of old) at a) (f (read_by old a) h)

pub two-parts-read : (old mid : Reader) (form : TwoParts) (at : ℕ) (a b : RawTree) (one other s : Step) → IsRead one (read_by old a) → Stands old mid → IsRead other (read_by mid b) →
    ((r t : Reading) → IsRead one r → IsRead other t → IsRead s (two_reading form at a b r t)) → IsRead s (node_by old at (two_node form a b))
two-parts-read old mid form at a b one other s h k g f =
    subst (IsRead s) (two-is form (around_of old).max (names_of old) at a b) (f (read_by old a) (read_by old b) h (read-after old mid other b k g))

-- the same of what a step answers
pub two-parts-done : {E : Type 0} (r : Result Step E) (old mid : Reader) (form : TwoParts) (at : ℕ) (a b : RawTree) (one other : Step) → IsRead one (read_by old a) → Stands old mid → IsRead other (read_by mid b) →
    IfOk r (λ s. (q t : Reading) → IsRead one q → IsRead other t → IsRead s (two_reading form at a b q t)) → IfOk r (λ s. IsRead s (node_by old at (two_node form a b)))
two-parts-done (Err x) old mid form at a b one other h k g f = tt
two-parts-done (Ok s) old mid form at a b one other h k g f = two-parts-read old mid form at a b one other s h k g f

pub ruleset parts_read = (one-part-read, two-parts-read, stands-through, stands-itself)
