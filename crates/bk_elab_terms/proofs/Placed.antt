-- A part in a place where a predicate is wanted, or an expression.
use Rattle.std.proofs.Common.{◌≡◌, ◌∷◌, refl, Bool, true, false, cond}
use Rattle.bk_raw.specs.Meaning.Outcome.{Reading, silently}
use Rattle.bk_raw.specs.Trees.RawTree.{RawTree}
use Rattle.bk_raw.specs.Meaning.TermReading.{part, place_of, is_predicate, is_alike}
use Rattle.bk_raw.specs.Errors.Faults.{not_predicate}

alike : (wanted b : Bool) (x y : Reading) → b ≡ wanted → cond (is_alike wanted b) x y ≡ x
alike true true x y e = refl
alike true false x y e = let no : false ≡ true = e in cc
alike false false x y e = refl
alike false true x y e = let no : true ≡ false = e in cc

unlike : (wanted b : Bool) (x y : Reading) → (b ≡ wanted → ⊥) → cond (is_alike wanted b) x y ≡ y
unlike true true x y e = absurd (e refl)
unlike true false x y e = refl
unlike false false x y e = absurd (e refl)
unlike false true x y e = refl

-- it is what is wanted
pub part-same : (wanted : Bool) (t : RawTree) (r : Reading) → is_predicate t ≡ wanted → part wanted t r ≡ r
part-same wanted t r e = alike wanted (is_predicate t) r (silently (not_predicate (place_of t) ∷ r.faults)) e

-- it is the other one
pub part-other : (wanted : Bool) (t : RawTree) (r : Reading) → (is_predicate t ≡ wanted → ⊥) → part wanted t r ≡ silently (not_predicate (place_of t) ∷ r.faults)
part-other wanted t r e = unlike wanted (is_predicate t) r (silently (not_predicate (place_of t) ∷ r.faults)) e

pub ruleset places = (part-same, part-other)
