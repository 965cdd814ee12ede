-- The sequents of a development's obligations that pass no limit can be replayed.
use Rattle.std.proofs.Common.{◌≡◌, ◌≤◌, ℕ, suc, List, [], ◌∷◌, ◌++◌, Bool, true, false, ◌||◌, cond, nat_lt, refl, arith, Option, Some, None}
use Rattle.std.proofs.lemmas.Bool.Decides.{nat_tests}
use Rattle.bk_limits.specs.declared.TheConstants.{GREATEST_HEIGHT, MOST_NODES}
use Rattle.bk_form.specs.Table.{Table}
use Rattle.bk_form.specs.Formula.{Formula, binary, btrue, formulas_size, formulas_height, formulas_of}
use Rattle.bk_form.specs.declared.operator.BinOp.TheVariants.{And, Imp}
use Rattle.bk_bind.specs.Limits.{IsWithinLimits}
use Rattle.bk_bind.proofs.Within.{within_left, within_right}
use Rattle.bk_dev.specs.Development.{Development}
use Rattle.bk_dev.specs.Facts.{IsDevelopment}
use Rattle.bk_form.specs.Each.{Each, Each as EachOf}
use Rattle.bk_form.specs.Predicates.{conjuncts}
use Rattle.bk_seq.specs.Sequents.{Types, IsWithin, Sequent, split}
use Rattle.bk_po.specs.Obligations.{Obligation, numbered_from, obligations, numbered_obligations}
use Rattle.bk_po.specs.Limits.{nodes_of, height_of, is_too_large, first_too_large, PassNoLimit}
use Rattle.bk_po.proofs.Lists.{append-each, flat-each}
use Rattle.bk_po.proofs.TypedSequents.{obligations_type}
use Rattle.bk_dev.specs.Flattened.{flattened}
use Rattle.bk_status.specs.Replayable.{IsReplayable}

abbrev AreWithin : List Formula → Type 0
AreWithin ps = Each IsWithinLimits ps

-- its hypotheses and its goal are within the limits
abbrev IsSmall : Sequent → Type 0
IsSmall s = AreWithin s.0 × IsWithinLimits s.1

conjuncts-within : (p : Formula) → IsWithinLimits p → AreWithin (conjuncts p)
conjuncts-within (binary And p q) w = append-each IsWithinLimits (conjuncts p) (conjuncts q) (conjuncts-within p (within_left And p q w)) (conjuncts-within q (within_right And p q w))
conjuncts-within btrue w = tt
conjuncts-within p w = (w, tt)

split-within : (hyps : List Formula) (p : Formula) → AreWithin hyps → IsWithinLimits p → Each IsSmall (split hyps p)
split-within hyps (binary And p q) h w = append-each IsSmall (split hyps p) (split hyps q) (split-within hyps p h (within_left And p q w)) (split-within hyps q h (within_right And p q w))
split-within hyps (binary Imp p q) h w = split-within (hyps ++ conjuncts p) q (append-each IsWithinLimits hyps (conjuncts p) h (conjuncts-within p (within_left Imp p q w))) (within_right Imp p q w)
split-within hyps btrue h w = tt
split-within hyps p h w = ((h, w), tt)

each-of : (ps : List Formula) → AreWithin ps → EachOf IsWithinLimits ps
each-of [] h = tt
each-of (p ∷ ps) h = (h.0, each-of ps h.1)

abbrev IsWithinNamed : List ℕ × Sequent → Type 0
IsWithinNamed o = IsWithin o.1

number-within : (k : ℕ) (name : List ℕ) (ss : List Sequent) → Each IsSmall ss → Each IsWithinNamed (numbered_from k name ss)
number-within k name [] h = tt
number-within k name (s ∷ ss) h = ((each-of s.0 h.0.0, h.0.1), number-within (suc k) name ss h.1)

-- ---- obligations that are not too large
hypotheses-within : (ps : List Formula) → formulas_size (formulas_of ps) ≤ MOST_NODES → formulas_height (formulas_of ps) ≤ GREATEST_HEIGHT → AreWithin ps
hypotheses-within [] n h = tt
hypotheses-within (p ∷ ps) n h = (record { nodes = omega arith; height = omega arith }, hypotheses-within ps (omega arith) (omega arith))

not-either : (a b : Bool) → (a || b) ≡ false → (a ≡ false) × (b ≡ false)
not-either true b h = absurd (cc)
not-either false b h = (refl, h)

abbrev sequents_of : Obligation → List (List ℕ × Sequent)
sequents_of o = numbered_from 1 o.name (split o.hypotheses o.goal)

obligation-within : (o : Obligation) → is_too_large o ≡ false → Each IsWithinNamed (sequents_of o)
obligation-within o h =
    let tests = not-either (nat_lt MOST_NODES (nodes_of o)) (nat_lt GREATEST_HEIGHT (height_of o)) h in
    let nodes : nodes_of o ≤ MOST_NODES = grind (arith, nat_tests, tests.0) in
    let height : height_of o ≤ GREATEST_HEIGHT = grind (arith, nat_tests, tests.1) in
    let hypotheses = hypotheses-within o.hypotheses (omega arith) (omega arith) in
    let goal : IsWithinLimits o.goal = record { nodes = omega arith; height = omega arith } in
    number-within 1 o.name (split o.hypotheses o.goal) (split-within o.hypotheses o.goal hypotheses goal)

by-size : (b : Bool) (name : List ℕ) (rest : Option (List ℕ)) → cond b (Some name) rest ≡ None → (b ≡ false) × (rest ≡ None)
by-size true name rest h = absurd (cc)
by-size false name rest h = (refl, h)

each-within : (os : List Obligation) → first_too_large os ≡ None → Each (λ o. Each IsWithinNamed (sequents_of o)) os
each-within [] h = tt
each-within (o ∷ os) h =
    let parts = by-size (is_too_large o) o.name (first_too_large os) h in
    (obligation-within o parts.0, each-within os parts.1)

-- ---- both
both : (table : Table) (ss : List (List ℕ × Sequent)) → Each (λ s. Types table s.1) ss → Each IsWithinNamed ss → Each (λ s. IsReplayable table s.1) ss
both table [] h k = tt
both table (s ∷ ss) h k = (record { types = h.0; within = k.0 }, both table ss h.1 k.1)

pub all_replayable : (dev : Development) → IsDevelopment dev → PassNoLimit (obligations dev) → Each (λ o. IsReplayable (flattened dev).table o.1) (numbered_obligations dev)
all_replayable dev f pass = both (flattened dev).table (numbered_obligations dev) (obligations_type dev f) (flat-each IsWithinNamed sequents_of (obligations dev) (each-within (obligations dev) pass.sizes))
