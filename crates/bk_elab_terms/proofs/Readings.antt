-- The names in sight of a reader that stands as it stood.
use Rattle.std.proofs.Common.{◌≡◌, ℕ, List, [], ◌∷◌, ◌++◌, length, take, drop, refl, sym, ◌∙◌, ap, subst, ℤ, arith}
use Rattle.std.proofs.lemmas.List.{take-append-drop, take_all}
use Rattle.bk_form.specs.Role.{bind}
use Rattle.bk_raw.specs.Meaning.Binders.{inside, locals}
use Rattle.bk_raw.specs.Meaning.Names.{Names}
use Rattle.bk_raw.specs.Trees.RawTree.{RawTree}
use Rattle.bk_raw.specs.Meaning.TermReading.{reading}
use Rattle.bk_elab_terms.specs.declared.outcome.Step.{Step}
use Rattle.bk_elab_terms.specs.declared.sight.Local.{Local}
use Rattle.bk_elab_terms.specs.declared.sight.Reader.{Reader}
use Rattle.bk_elab_terms.specs.Shown.{IsRead}
use Rattle.bk_elab_terms.specs.Sights.{around_of, names_of, read_by, names_below, bounds_of, bounds_from, outer_names, Stands, StandsBelow, StandsCut}
use Rattle.bk_elab_terms.proofs.Bindings.{locals-joined}

outer-same : (old new : Reader) → around_of new ≡ around_of old → outer_names new ≡ outer_names old
outer-same old new s = λ i. (s i).names

-- all names in sight are the same
pub names-stand : (old new : Reader) → Stands old new → names_of new ≡ names_of old
names-stand old new h = λ i. bind (locals (bounds_of (h.locals i))) (outer-same old new h.scope i)

pub stands-through : (old mid new : Reader) → Stands old mid → Stands mid new → Stands old new
stands-through old mid new h k = record {
  locals = k.locals ∙ h.locals;
  scope = k.scope ∙ h.scope;
}

pub stands-itself : (r : Reader) → Stands r r
stands-itself r = record { locals = refl; scope = refl }

-- the names from a place on stand in front of those below it
pub names-split : (first : ℕ) (r : Reader) → names_of r ≡ inside (bounds_from first r) (names_below first r)
names-split first r =
    ap (λ (ls : List Local). bind (locals (bounds_of ls)) (outer_names r)) (sym (take-append-drop first r.locals.items))
    ∙ locals-joined (take first r.locals.items) (drop first r.locals.items) (outer_names r)

pub below-stands : (first : ℕ) (old new : Reader) → StandsBelow first old new → names_below first new ≡ names_below first old
below-stands first old new h = λ i. bind (locals (bounds_of (h.locals i))) (outer-same old new h.scope i)

-- what was read later was read under the same names
pub read-after : (old mid : Reader) (s : Step) (t : RawTree) → Stands old mid → IsRead s (read_by mid t) → IsRead s (read_by old t)
read-after old mid s t h g = subst (IsRead s) (λ i. reading (h.scope i).max (names-stand old mid h i) t) g

-- the names from the first place behind all of a reader's on go out of sight
pub cut-stands : (first : ℕ) (old mid new : Reader) → first ≡ length old.locals.items → StandsBelow first old mid → StandsCut first mid new → Stands old new
cut-stands first old mid new e h k = record {
  locals = k.locals ∙ (h.locals ∙ take_all first old.locals.items (omega arith));
  scope = k.scope ∙ h.scope;
}

pub below-itself : (first : ℕ) (r : Reader) → StandsBelow first r r
below-itself first r = record { locals = refl; scope = refl }

pub below-through : (first : ℕ) (old mid new : Reader) → StandsBelow first old mid → StandsBelow first mid new → StandsBelow first old new
below-through first old mid new h k = record {
  locals = k.locals ∙ h.locals;
  scope = k.scope ∙ h.scope;
}

pub stands-below : (first : ℕ) (old new : Reader) → Stands old new → StandsBelow first old new
stands-below first old new h = record {
  locals = ap (λ (ls : List Local). take first ls) h.locals;
  scope = h.scope;
}

pub ruleset readings = (names-stand, stands-through, stands-itself, names-split, below-stands, read-after, cut-stands, below-itself, below-through, stands-below)
