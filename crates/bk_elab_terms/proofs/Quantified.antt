-- What a quantifier reads as, from what its parts read as.
use Rattle.std.proofs.Common.{◌≡◌, ℕ, suc, ◌≤◌, List, [], length, take, refl, sym, ◌∙◌, ap, Bool, true, false, ℤ, arith}
use Rattle.std.specs.Prelude.{Option, None, Some}
use Rattle.std.proofs.lemmas.List.{take_all}
use Rattle.bk_form.specs.Role.{bind}
use Rattle.bk_raw.specs.Trees.RawTree.{RawTree}
use Rattle.bk_raw.specs.declared.term.RawName.{RawName}
use Rattle.bk_raw.specs.declared.term.RawBound.{RawBound}
use Rattle.bk_raw.specs.Meaning.Binders.{Bound, bound_names, inside, locals, twice, quantified}
use Rattle.bk_raw.specs.Meaning.Names.{Names, count_locals}
use Rattle.bk_raw.specs.Meaning.Printed.{printed_bounds, wrong_bounds}
use Rattle.bk_raw.specs.Meaning.TermReading.{reading, part, clues}
use Rattle.bk_elab_terms.specs.Conjuncts.{implies_sides}
use Rattle.bk_raw.specs.Errors.Blame.{blame}
use Rattle.bk_elab_terms.specs.declared.blame.Fault.{Fault as ToldFault}
use Rattle.bk_elab_terms.specs.declared.outcome.Step.{Step}
use Rattle.bk_elab_terms.specs.declared.sight.Local.{Local}
use Rattle.bk_elab_terms.specs.declared.sight.Reader.{Reader}
use Rattle.bk_elab_terms.specs.Shown.{told, IsRead}
use Rattle.bk_elab_terms.specs.Sights.{around_of, names_of, names_below, bounds_of, bounds_from, outer_names, node_by, StandsBelow, quantifier, named_node, numbered_node, clues_by}
use Rattle.bk_elab_terms.proofs.Clued.{premise-clued, premise-none}
use Rattle.bk_elab_terms.proofs.Readings.{names-split, below-stands}
use Rattle.bk_elab_terms.proofs.Sighted.{all-counted}

-- below all of its bound names a reader has the names that it had
pub names-below-all : (n : ℕ) (old new : Reader) → n ≡ length old.locals.items → StandsBelow n old new → names_below n new ≡ names_of old
names-below-all n old new e h =
    let all : take n old.locals.items ≡ old.locals.items = take_all n old.locals.items (omega arith) in
    below-stands n old new h ∙ ap (λ (ls : List Local). bind (locals (bounds_of ls)) (outer_names old)) all

-- with these names from a place on it has them in front
pub names-inside : (n : ℕ) (old new : Reader) (bs : List Bound) → n ≡ length old.locals.items → StandsBelow n old new → bounds_from n new ≡ bs → names_of new ≡ inside bs (names_of old)
names-inside n old new bs e h b = names-split n new ∙ (λ i. inside (b i) (names-below-all n old new e h i))

pub named-read : (universal : Bool) (r : Reader) (at : ℕ) (xs : List RawName) (t : RawTree) (s : Step) →
    IsRead s (quantified (quantifier universal) (twice [] xs) (clues_by universal (around_of r).max (names_of r) (bound_names xs) t) (part true t (reading (around_of r).max (inside (clues_by universal (around_of r).max (names_of r) (bound_names xs) t) (names_of r)) t))) →
    IsRead s (node_by r at (named_node universal xs t))
named-read true r at xs t s h = h
named-read false r at xs t s h = h

pub numbered-read : (universal : Bool) (r : Reader) (at : ℕ) (bs : List RawBound) (t : RawTree) (s : Step) →
    IsRead s (quantified (quantifier universal) (wrong_bounds (suc (count_locals (names_of r))) bs) (printed_bounds (names_of r) bs) (part true t (reading (around_of r).max (inside (printed_bounds (names_of r) bs) (names_of r)) t))) →
    IsRead s (node_by r at (numbered_node universal bs t))
numbered-read true r at bs t s h = h
numbered-read false r at bs t s h = h

-- the types of a quantifier's names, where the names were pushed first
pub clues-same : (universal : Bool) (n : ℕ) (old mid new : Reader) (xs : List RawName) (t : RawTree) → n ≡ length old.locals.items → StandsBelow n old mid → bounds_from n mid ≡ bound_names xs →
    bounds_from n new ≡ clues_by universal (around_of mid).max (names_below n mid) (bounds_from n mid) t → bounds_from n new ≡ clues_by universal (around_of old).max (names_of old) (bound_names xs) t
clues-same universal n old mid new xs t e h b c = c ∙ (λ i. clues_by universal (h.scope i).max (names-below-all n old mid e h i) (b i) t)

pub bounds-told : (r : Reader) (bs : List RawBound) (fault : Option ToldFault) → told fault ≡ blame (wrong_bounds (suc (length r.locals.items)) bs) → told fault ≡ blame (wrong_bounds (suc (count_locals (names_of r))) bs)
bounds-told r bs fault h = h ∙ ap (λ (n : ℕ). blame (wrong_bounds (suc n) bs)) (sym (all-counted r))

-- the body of an existential quantifier
pub exists-clues : (r : Reader) (first : ℕ) (bs : List Bound) (t : RawTree) → clues_by false (around_of r).max (names_below first r) bs t ≡ clues (around_of r).max (names_below first r) bs t
exists-clues r first bs t = refl

-- the body of a universal one that is no implication types no name
pub premise-missing : (first : ℕ) (r : Reader) (t : RawTree) → implies_sides t ≡ None → bounds_from first r ≡ clues_by true (around_of r).max (names_below first r) (bounds_from first r) t
premise-missing first r t h = sym (premise-none (around_of r).max (names_below first r) (bounds_from first r) t h)

-- of an implication the left side types them
pub premise-typed : (first : ℕ) (old new : Reader) (t a b : RawTree) → implies_sides t ≡ Some (a, b) → bounds_from first new ≡ clues (around_of old).max (names_below first old) (bounds_from first old) a →
    bounds_from first new ≡ clues_by true (around_of old).max (names_below first old) (bounds_from first old) t
premise-typed first old new t a b h e = e ∙ sym (premise-clued (around_of old).max (names_below first old) (bounds_from first old) t a b h)

pub ruleset bodies = (exists-clues, premise-missing, premise-typed)

pub ruleset quantifying = (names-below-all, names-inside, named-read, numbered-read, clues-same, bounds-told)
