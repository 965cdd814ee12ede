-- The rewriting of || by copies types over the table with the copies.
use Rattle.std.proofs.Common.{◌≡◌, ℕ, ◌+◌, List, [], ◌∷◌, ◌++◌, length, length-append, refl, sym, ◌∙◌, subst, arith}
use Rattle.std.specs.Prelude.{slice_get}
use Rattle.std.specs.List.{filter_map}
use Rattle.std.proofs.lemmas.List.{append-nil}
use Rattle.bk_form.specs.Table.{Table, IsWellFormed}
use Rattle.bk_form.specs.Formula.{Formula, variable, binary}
use Rattle.bk_form.specs.Role.{role, connective_role}
use Rattle.bk_form.specs.Replacement.{IsReplacement, renamed}
use Rattle.bk_form.specs.Predicates.{IsPredicate, equation}
use Rattle.bk_form.specs.Wider.{IsWider}
use Rattle.bk_form.specs.declared.operator.BinOp.TheVariants.{And}
use Rattle.bk_form.proofs.Replaced.{role-under}
use Rattle.bk_form.proofs.Equations.{equation-predicate}
use Rattle.bk_gsl.specs.Substitution.{Substitution, skip, assign, pre, guard, choice, if_else, any, seq, par, assert, becomes_such, loop}
use Rattle.bk_gsl.specs.Writes.{writes}
use Rattle.bk_gsl.specs.Typed.{AreTypedTerms, AreTypedPairs, Types}
use Rattle.bk_gsl.specs.Flat.{renamed_terms, reading, copies_from, copy_of, equations_onto, by_copies, copied, flat_from, flat_table}
use Rattle.bk_gsl.proofs.Listed.{firsts-listed}
use Rattle.bk_gsl.proofs.WiderRuns.{types-wider}
use Rattle.bk_par.specs.Laws.{FlatIsFlat}
use Rattle.bk_par.proofs.OtherNames.{flat-flat}
use Rattle.bk_par.proofs.Numbers.{CopiesAt, copies-left, copies-right, copies-replace, copied-listed, copies-typed}

module _ (table : Table) where
  equations-predicate : (f : Formula) (ps : List (ℕ × ℕ)) → IsPredicate table f → AreTypedPairs table ps → IsPredicate table (equations_onto f ps)
  equations-predicate f [] h w = h
  equations-predicate f (p ∷ ps) h w = let q = equation-predicate table p w.0 in equations-predicate (binary And f (equation p)) ps (λ i. connective_role (h i) (q i)) w.1

  module _ (by : ℕ → ℕ) (kept : IsReplacement table (λ n. variable (by n))) where
    same-role : (p : Formula) → role table [] (renamed by p) ≡ role table [] p
    same-role p = role-under table [] (λ n. variable (by n)) kept p

    terms-reading : (ps : List (ℕ × Formula)) → AreTypedTerms table ps → AreTypedTerms table (renamed_terms by ps)
    terms-reading [] w = tt
    terms-reading (p ∷ ps) w = ((w.0.0, w.0.1, same-role p.1 ∙ w.0.2), terms-reading ps w.1)

    reading-types : (s : Substitution) → Types table s → Types table (reading by s)
    reading-types skip w = tt
    reading-types (assign ps) w = terms-reading ps w
    reading-types (pre p s) w = (same-role p ∙ w.0, reading-types s w.1)
    reading-types (guard p s) w = (same-role p ∙ w.0, reading-types s w.1)
    reading-types (choice s t) w = (reading-types s w.0, reading-types t w.1)
    reading-types (if_else p s t) w = (same-role p ∙ w.0, reading-types s w.1, reading-types t w.2)
    reading-types (any zs s) w = (w.0, reading-types s w.1)
    reading-types (seq s t) w = (reading-types s w.0, reading-types t w.1)
    reading-types (par s t) w = (reading-types s w.0, reading-types t w.1)
    reading-types (assert p s) w = (same-role p ∙ w.0, reading-types s w.1)
    reading-types (becomes_such xs p) w = (w.0, same-role p ∙ w.1)
    reading-types (loop p s i v) w = (same-role p ∙ w.0, reading-types s w.1, same-role i ∙ w.2, same-role v ∙ w.3)

  copies-types : (ps : List (ℕ × ℕ)) (s t : Substitution) → AreTypedPairs table ps → Types table s → Types table t → Types table (by_copies ps s t)
  copies-types [] s t c w v = (w, v)
  copies-types (p ∷ ps) s t c w v = (firsts-listed table (p ∷ ps) c, (equations-predicate (equation p) ps (equation-predicate table p c.0) c.1, (w, reading-types (copy_of (p ∷ ps)) (copies-replace table (p ∷ ps) c) t v)))

  pub flat-types : (k : ℕ) (s : Substitution) → Types table s → CopiesAt table k (copied s) → Types table (flat_from k s)
  flat-types k skip w c = tt
  flat-types k (assign ps) w c = w
  flat-types k (pre p s) w c = (w.0, flat-types k s w.1 c)
  flat-types k (guard p s) w c = (w.0, flat-types k s w.1 c)
  flat-types k (choice s t) w c = (flat-types k s w.0 (copies-left table k (copied s) (copied t) c), flat-types (k + length (copied s)) t w.1 (copies-right table k (copied s) (copied t) c))
  flat-types k (if_else p s t) w c = (w.0, flat-types k s w.1 (copies-left table k (copied s) (copied t) c), flat-types (k + length (copied s)) t w.2 (copies-right table k (copied s) (copied t) c))
  flat-types k (any zs s) w c = (w.0, flat-types k s w.1 c)
  flat-types k (seq s t) w c = (flat-types k s w.0 (copies-left table k (copied s) (copied t) c), flat-types (k + length (copied s)) t w.1 (copies-right table k (copied s) (copied t) c))
  flat-types k (par s t) w c =
      let two = copies-left table k (copied s ++ copied t) (writes s) c in
      let last = copies-right table k (copied s ++ copied t) (writes s) c in
      let e : k + length (copied s ++ copied t) ≡ k + length (copied s) + length (copied t) = omega (arith, length-append (copied s) (copied t)) in
      copies-types (copies_from (k + length (copied s) + length (copied t)) (writes s)) (flat_from k s) (flat_from (k + length (copied s)) t) (subst (λ x. CopiesAt table x (writes s)) e last)
      (flat-types k s w.0 (copies-left table k (copied s) (copied t) two)) (flat-types (k + length (copied s)) t w.1 (copies-right table k (copied s) (copied t) two))
  flat-types k (assert p s) w c = (w.0, flat-types k s w.1 c)
  flat-types k (becomes_such xs p) w c = w
  flat-types k (loop p s i v) w c = (w.0, flat-types k s w.1 c, w.2, w.3)

-- the table with the copies begins with the table
pub flat-wider : (table : Table) (s : Substitution) → IsWider table (flat_table table s)
flat-wider table s = record { sets = ([], sym (append-nil table.sets)); variables = (filter_map (slice_get table.variables) (copied s), refl) }

pub flat-copies : (table : Table) → IsWellFormed table → (s : Substitution) → Types table s → CopiesAt (flat_table table s) (length table.variables) (copied s)
flat-copies table well s w = copies-typed table (flat_table table s) well (flat-wider table s) table.variables (copied s) refl (copied-listed table s w)

pub flat_is_flat : FlatIsFlat
flat_is_flat = record {
  is_flat = λ table s. flat-flat (length table.variables) s;
  types = λ table well s w. flat-types (flat_table table s) (length table.variables) s (types-wider table (flat_table table s) well (flat-wider table s) s w) (flat-copies table well s w);
}
