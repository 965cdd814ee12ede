-- A set of elements, read one after another.
use Rattle.std.proofs.Common.{◌≡◌, ℕ, ℤ, List, ◌∷◌, ◌<◌, ◌+◌, length, get_or, drop, false, refl, sym, ◌∙◌, ap}
use Rattle.std.proofs.lemmas.List.{drop_more}
use Rattle.bk_raw.specs.Meaning.Names.{Names}
use Rattle.bk_raw.specs.Meaning.OperatorReadings.{single_reading, extended}
use Rattle.bk_raw.specs.Meaning.Outcome.{Reading}
use Rattle.bk_raw.specs.Trees.RawTree.{RawTree, trees_of}
use Rattle.bk_raw.specs.Meaning.TermReading.{reading, part, from_one, from_two, elements_reading, extension_reading}
use Rattle.bk_elab_terms.specs.declared.outcome.Step.{Step}
use Rattle.bk_elab_terms.specs.Shown.{IsRead}

-- the set so far is read as something from which the rest goes on to the whole
pub record SetSoFar (int_max : ℤ) (names : Names) (at : ℕ) (set : Step) (rest : List RawTree) (whole : Reading) : Type 0 where
  pub so_far : Reading
  pub read : IsRead set so_far
  pub goes_on : elements_reading int_max names at so_far (trees_of rest) ≡ whole

-- the first element
pub set-begun : (m : ℤ) (names : Names) (at : ℕ) (set : Step) (t : RawTree) (ts : List RawTree) → IsRead set (from_one single_reading (part false t (reading m names t))) → SetSoFar m names at set ts (extension_reading m names at (trees_of (t ∷ ts)))
set-begun m names at set t ts h = record { so_far = from_one single_reading (part false t (reading m names t)); read = h; goes_on = refl }

-- one element more
pub set-next : (m : ℤ) (names : Names) (at : ℕ) (before after read : Step) (ts : List RawTree) (i : ℕ) (d : RawTree) (whole : Reading) → i < length ts → SetSoFar m names at before (drop i ts) whole →
    IsRead read (reading m names (get_or ts i d)) → ((b r : Reading) → IsRead before b → IsRead read r → IsRead after (from_two (extended at) b (part false (get_or ts i d) r))) →
    SetSoFar m names at after (drop (i + 1) ts) whole
set-next m names at before after read ts i d whole l h r f = record {
  so_far = from_two (extended at) h.so_far (part false (get_or ts i d) (reading m names (get_or ts i d)));
  read = f h.so_far (reading m names (get_or ts i d)) h.read r;
  goes_on = sym (ap (λ (us : List RawTree). elements_reading m names at h.so_far (trees_of us)) (drop_more ts i d l)) ∙ h.goes_on;
}

pub ruleset elements = (set-begun, set-next)
