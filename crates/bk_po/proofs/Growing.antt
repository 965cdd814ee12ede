-- A goal is within the limits only where all that it is made of is.
use Rattle.std.proofs.Common.{◌≡◌, ◌<◌, length, List, [], ◌∷◌, Bool, true, false, not, cond, filter, refl, arith}
use Rattle.bk_form.specs.Formula.{Formula, binary, btrue}
use Rattle.bk_form.specs.declared.operator.BinOp.TheVariants.{And, Imp}
use Rattle.bk_bind.specs.Limits.{IsWithinLimits}
use Rattle.bk_bind.proofs.Within.{within_left, within_right}
use Rattle.bk_dev.specs.Development.{is_btrue}
use Rattle.bk_po.specs.Obligations.{joined_onto, joined_all, conjunction, each_after}

pub onto_within : (p : Formula) (qs : List Formula) → IsWithinLimits (joined_onto p qs) → IsWithinLimits p
onto_within p [] w = w
onto_within p (q ∷ qs) w = within_left And p q (onto_within (binary And p q) qs w)

true_within : (p : Formula) → is_btrue p ≡ true → IsWithinLimits p
true_within btrue h = record { nodes = omega arith; height = omega arith }
true_within p h = absurd (cc)

-- each part of a conjunction
abbrev AreWithin : List Formula → Type 0
AreWithin [] = Unit {0}
AreWithin (p ∷ ps) = IsWithinLimits p × AreWithin ps

each-within : (p : Formula) (qs : List Formula) → IsWithinLimits (joined_onto p qs) → AreWithin (p ∷ qs)
each-within p [] w = (w, tt)
each-within p (q ∷ qs) w =
    let rest = each-within (binary And p q) qs w in
    (within_left And p q rest.0, (within_right And p q rest.0, rest.1))

all-within : (ps : List Formula) → IsWithinLimits (joined_all ps) → AreWithin ps
all-within [] w = tt
all-within (p ∷ ps) w = each-within p ps w

unfiltered : (ps : List Formula) → AreWithin (filter (λ p. not (is_btrue p)) ps) → AreWithin ps
unfiltered [] h = tt
unfiltered (p ∷ ps) h = by_test (unfiltered ps) (is_btrue p) refl h
  where
    by_test : (AreWithin (filter (λ p. not (is_btrue p)) ps) → AreWithin ps) → (b : Bool) → is_btrue p ≡ b → AreWithin (cond (not b) (p ∷ filter (λ p. not (is_btrue p)) ps) (filter (λ p. not (is_btrue p)) ps)) → AreWithin (p ∷ ps)
    by_test rest true k h = (true_within p k, rest h)
    by_test rest false k h = (h.0, rest h.1)

parts-within : (ps : List Formula) → IsWithinLimits (conjunction ps) → AreWithin ps
parts-within ps w = unfiltered ps (all-within (filter (λ p. not (is_btrue p)) ps) w)

-- the second and the third of three parts
pub second_of_three : (p q r : Formula) → IsWithinLimits (conjunction (p ∷ q ∷ r ∷ [])) → IsWithinLimits q
second_of_three p q r w = (parts-within (p ∷ q ∷ r ∷ []) w).1.0

pub third_of_three : (p q r : Formula) → IsWithinLimits (conjunction (p ∷ q ∷ r ∷ [])) → IsWithinLimits r
third_of_three p q r w = (parts-within (p ∷ q ∷ r ∷ []) w).1.1.0

-- an assertion that is not the last
pub each_after_more : (p : Formula) (qs : List Formula) → 0 < length qs → each_after (p ∷ qs) ≡ binary And p (binary Imp p (each_after qs))
each_after_more p [] h = absurd (omega (arith, h))
each_after_more p (q ∷ qs) h = refl

-- what follows an assertion
pub rest_within : (p q : Formula) → IsWithinLimits (binary And p (binary Imp p q)) → IsWithinLimits q
rest_within p q w = within_right Imp p q (within_right And p (binary Imp p q) w)

pub ruleset goals_within = (onto_within, second_of_three, third_of_three, rest_within, each_after_more)
