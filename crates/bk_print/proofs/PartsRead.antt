-- Parts of a formula that reads back read back, too: its sides, and its body for new variables.
use Rattle.std.proofs.Common.{◌≡◌, inl, inr, ℕ, zero, suc, ◌+◌, ◌-◌, ◌<◌, ◌≤◌, ◌^◌, true, false, cond, nat_lt, List, [], ◌∷◌, length, refl, ap, sym, ◌∙◌, subst, arith}
use Rattle.std.specs.Prelude.{Option, Some, None, slice_get, unwrap_or}
use Rattle.bk_val.specs.ValueType.{ValueType}
use Rattle.bk_form.specs.Table.{Table, variable_type, IsWellFormed}
use Rattle.bk_form.specs.Each.{Each}
use Rattle.bk_form.specs.Formula.{Formula, variable, bound, unary, binary, for_all, for_some, comprehension, lambda, Formulas, no_formulas, formula_and}
use Rattle.bk_form.specs.Rebound.{rebound, all_rebound}
use Rattle.bk_form.specs.Replacement.{count}
use Rattle.bk_form.specs.Role.{role, bind, given_by, binary_role}
use Rattle.bk_form.specs.declared.operator.BinOp.{BinOp}
use Rattle.bk_form.proofs.Closed.{left-none, right-none, quantifier-some}
use Rattle.bk_form.proofs.Members.{and-both}
use Rattle.bk_form.proofs.Roles.{same_type-then}
use Rattle.bk_bind.specs.Opening.{opened, placed}
use Rattle.bk_bind.proofs.UnderTerms.{opening_keeps_role}
use Rattle.bk_raw.specs.Meaning.Names.{Names, found, seen}
use Rattle.bk_kernel.specs.Naming.{gives_type, give_each, names_of}
use Rattle.bk_kernel.proofs.Viewed.{give_each-then}
use Rattle.bk_auto.specs.Named.{numbers_from, PartBy, IsPartIn, IsPart}
use Rattle.bk_show.specs.Shown.{name_of_variable}
use Rattle.bk_show.specs.Binders.{HasSomeRange, Binds, EachBinds}
use Rattle.bk_show.specs.Readable.{IsPlainName, IsReadable, AreReadable}
use Rattle.bk_show.specs.Stands.{Stands, EachStands}
use Rattle.bk_print.specs.Readable.{ReadsIn}

module _ (table : Table) (names : Names) where
  -- ---- other formulas in place of bound numbers
  -- under any number of binders it is as it should be
  record IsFit (f : Formula) : Type 0 where
    pub binds : Binds f
    pub readable : (d : ℕ) → d < 2 ^ 32 → IsReadable table d f
    pub stands : Stands table names f

  module _ (put : ℕ → ℕ → Formula) (fit : (k m : ℕ) → IsFit (put k m)) where
    count-rebound : (k : ℕ) (fs : Formulas) → count (all_rebound put k fs) ≡ count fs
    count-rebound k no_formulas = refl
    count-rebound k (formula_and f fs) = ap suc (count-rebound k fs)

    some-rebound : (k : ℕ) (fs : Formulas) → HasSomeRange fs → HasSomeRange (all_rebound put k fs)
    some-rebound k no_formulas h = h
    some-rebound k (formula_and f fs) h = h

    mutual
      binds-rebound : (k : ℕ) (f : Formula) → Binds f → Binds (rebound put k f)
      binds-rebound k (bound m) h = (fit k m).binds
      binds-rebound k (unary o a) h = binds-rebound k a h
      binds-rebound k (binary o a b) h = (binds-rebound k a h.0, binds-rebound k b h.1)
      binds-rebound k (for_all ts p) h = (h.0, binds-rebound (length ts + k) p h.1)
      binds-rebound k (for_some ts p) h = (h.0, binds-rebound (length ts + k) p h.1)
      binds-rebound k (comprehension rs p) h = (some-rebound k rs h.0, all-bind k rs h.1, binds-rebound (count rs + k) p h.2)
      binds-rebound k (lambda rs p e) h = (some-rebound k rs h.0, all-bind k rs h.1, binds-rebound (count rs + k) p h.2, binds-rebound (count rs + k) e h.3)
      binds-rebound k _ h = h

      all-bind : (k : ℕ) (fs : Formulas) → EachBinds fs → EachBinds (all_rebound put k fs)
      all-bind k no_formulas h = h
      all-bind k (formula_and f fs) h = (binds-rebound k f h.0, all-bind k fs h.1)

    mutual
      readable-rebound : (k d e : ℕ) (f : Formula) → d ≤ e → IsReadable table e f → IsReadable table d (rebound put k f)
      readable-rebound k d e (bound m) l h = (fit k m).readable d (omega arith)
      readable-rebound k d e (unary o a) l h = readable-rebound k d e a l h
      readable-rebound k d e (binary o a b) l h = (readable-rebound k d e a l h.0, readable-rebound k d e b l h.1)
      readable-rebound k d e (for_all ts p) l h = (h.0, (let m = h.1 in omega arith), readable-rebound (length ts + k) (d + length ts) (e + length ts) p (omega arith) h.2)
      readable-rebound k d e (for_some ts p) l h = (h.0, (let m = h.1 in omega arith), readable-rebound (length ts + k) (d + length ts) (e + length ts) p (omega arith) h.2)
      readable-rebound k d e (comprehension rs p) l h =
          let same : count rs ≡ count (all_rebound put k rs) = sym (count-rebound k rs) in (
            all-readable k d e rs l h.0,
            subst (λ (n : ℕ). d + n < 2 ^ 32) same (let m = h.1 in omega arith),
            subst (λ (n : ℕ). IsReadable table (d + n) (rebound put (count rs + k) p)) same (readable-rebound (count rs + k) (d + count rs) (e + count rs) p (omega arith) h.2),
          )
      readable-rebound k d e (lambda rs p v) l h =
          let same : count rs ≡ count (all_rebound put k rs) = sym (count-rebound k rs) in (
            all-readable k d e rs l h.0,
            subst (λ (n : ℕ). d + n < 2 ^ 32) same (let m = h.1 in omega arith),
            subst (λ (n : ℕ). IsReadable table (d + n) (rebound put (count rs + k) p)) same (readable-rebound (count rs + k) (d + count rs) (e + count rs) p (omega arith) h.2),
            subst (λ (n : ℕ). IsReadable table (d + n) (rebound put (count rs + k) v)) same (readable-rebound (count rs + k) (d + count rs) (e + count rs) v (omega arith) h.3),
          )
      readable-rebound k d e _ l h = h

      all-readable : (k d e : ℕ) (fs : Formulas) → d ≤ e → AreReadable table e fs → AreReadable table d (all_rebound put k fs)
      all-readable k d e no_formulas l h = h
      all-readable k d e (formula_and f fs) l h = (readable-rebound k d e f l h.0, all-readable k d e fs l h.1)

    mutual
      stands-rebound : (k : ℕ) (f : Formula) → Stands table names f → Stands table names (rebound put k f)
      stands-rebound k (bound m) h = (fit k m).stands
      stands-rebound k (unary o a) h = stands-rebound k a h
      stands-rebound k (binary o a b) h = (stands-rebound k a h.0, stands-rebound k b h.1)
      stands-rebound k (for_all ts p) h = (h.0, stands-rebound (length ts + k) p h.1)
      stands-rebound k (for_some ts p) h = (h.0, stands-rebound (length ts + k) p h.1)
      stands-rebound k (comprehension rs p) h = (all-stand k rs h.0, stands-rebound (count rs + k) p h.1)
      stands-rebound k (lambda rs p e) h = (all-stand k rs h.0, stands-rebound (count rs + k) p h.1, stands-rebound (count rs + k) e h.2)
      stands-rebound k _ h = h

      all-stand : (k : ℕ) (fs : Formulas) → EachStands table names fs → EachStands table names (all_rebound put k fs)
      all-stand k no_formulas h = h
      all-stand k (formula_and f fs) h = (stands-rebound k f h.0, all-stand k fs h.1)

  -- ---- variables in place of them
  bound-fit : (m : ℕ) → IsFit (bound m)
  bound-fit m = record { binds = tt; readable = λ d l. l; stands = tt }

  stack-fit : (ns : List ℕ) (around : List Formula) → Each (λ n. IsFit (variable n)) ns → Each IsFit around → Each IsFit (bind (names_of ns) around)
  stack-fit [] around h k = k
  stack-fit (n ∷ ns) around h k = stack-fit ns (variable n ∷ around) h.1 (h.0, k)

  fit-at : (stack : List Formula) (n m : ℕ) → Each IsFit stack → IsFit (unwrap_or (slice_get stack n) (bound m))
  fit-at [] n m h = bound-fit m
  fit-at (f ∷ fs) zero m h = h.0
  fit-at (f ∷ fs) (suc n) m h = fit-at fs n m h.1

  fit-placed : (stack : List Formula) → Each IsFit stack → (k m : ℕ) → IsFit (placed stack k m)
  fit-placed stack h k m = elim (nat_lt m k) as (λ b. IsFit (cond b (bound m) (unwrap_or (slice_get stack (m - k)) (bound m)))) [
    | true ↦ bound-fit m
    | false ↦ fit-at stack (m - k) m h
  ]

  -- ---- new variables
  -- a plain name, which names the variable
  pub record NewReads (n : ℕ) (t : ValueType) : Type 0 where
    pub plain : IsPlainName (name_of_variable table n)
    pub named : found 0 names (name_of_variable table n) ≡ seen (variable n) t

  pub given-then : (o : Option ValueType) (t : ValueType) → gives_type (given_by o) t ≡ true → o ≡ Some t
  given-then None t h = absurd (cc)
  given-then (Some u) t h = ap Some (same_type-then u t h)

  module _ (well : IsWellFormed table) (first : ℕ) (news : (n : ℕ) (t : ValueType) → first ≤ n → variable_type table n ≡ Some t → NewReads n t) where
    variable-fit : (n : ℕ) (t : ValueType) → first ≤ n → variable_type table n ≡ Some t → IsFit (variable n)
    variable-fit n t l e = record {
      binds = tt;
      readable = λ d m. inl (news n t l e).plain;
      stands = λ u k. (news n u l k).named;
    }

    variables-fit : (ts : List ValueType) (k : ℕ) → first ≤ k → give_each table ts (names_of (numbers_from k (length ts))) ≡ true → Each (λ n. IsFit (variable n)) (numbers_from k (length ts))
    variables-fit [] k l h = tt
    variables-fit (t ∷ ts) k l h =
        let two = and-both (gives_type (role table [] (variable k)) t) (give_each table ts (names_of (numbers_from (suc k) (length ts)))) h in
        (variable-fit k t l (given-then (variable_type table k) t two.0), variables-fit ts (suc k) (omega arith) two.1)

    body-reads : (ts : List ValueType) (body : Formula) (k : ℕ) → first ≤ k → give_each table ts (names_of (numbers_from k (length ts))) ≡ true → ReadsIn table names (for_all ts body) → ReadsIn table names (opened (names_of (numbers_from k (length ts))) body)
    body-reads ts body k l given r =
        let ns : List ℕ = numbers_from k (length ts) in
        let stack : List Formula = bind (names_of ns) [] in
        let fit : (j m : ℕ) → IsFit (placed stack j m) = fit-placed stack (stack-fit ns [] (variables-fit ts k l given) tt) in
        let keeps : role table [] (opened (names_of ns) body) ≡ role table (bind ts []) body = opening_keeps_role table well ts (names_of ns) (give_each-then table ts (names_of ns) given) body in
        record {
          typed = λ e. quantifier-some table ts (role table (bind ts []) body) r.typed (sym keeps ∙ e);
          binds = binds-rebound (placed stack) fit 0 body r.binds.1;
          readable = readable-rebound (placed stack) fit 0 0 (0 + length ts) body (omega arith) r.readable.2;
          stands = stands-rebound (placed stack) fit 0 body r.stands.1;
        }

    -- ---- parts
    left-reads : (o : BinOp) (p q : Formula) → ReadsIn table names (binary o p q) → ReadsIn table names p
    left-reads o p q r = record {
      typed = λ e. r.typed (ap (λ x. binary_role o x (role table [] q)) e ∙ left-none o (role table [] q));
      binds = r.binds.0;
      readable = r.readable.0;
      stands = r.stands.0;
    }

    right-reads : (o : BinOp) (p q : Formula) → ReadsIn table names (binary o p q) → ReadsIn table names q
    right-reads o p q r = record {
      typed = λ e. r.typed (ap (binary_role o (role table [] p)) e ∙ right-none o (role table [] p));
      binds = r.binds.1;
      readable = r.readable.1;
      stands = r.stands.1;
    }

    by-part : (n : ℕ) (f : Formula) → ((g : Formula) → ReadsIn table names g → IsPartIn n table first g f → ReadsIn table names f) → (g : Formula) → ReadsIn table names g → PartBy (IsPartIn n table first) table first g f → ReadsIn table names f
    by-part n f rec (binary o p q) r (inl h) = rec p (left-reads o p q r) h
    by-part n f rec (binary o p q) r (inr h) = rec q (right-reads o p q r) h
    by-part n f rec (for_all ts body) r h = rec (opened (names_of (numbers_from h.0 (length ts))) body) (body-reads ts body h.0 h.1 h.2 r) h.3
    by-part n f rec _ r h = absurd h

    part-in-reads : (n : ℕ) (f g : Formula) → ReadsIn table names g → IsPartIn n table first g f → ReadsIn table names f
    part-in-reads zero f g r h = absurd h
    part-in-reads (suc n) f g r (inl e) = subst (ReadsIn table names) e r
    part-in-reads (suc n) f g r (inr h) = by-part n f (part-in-reads n f) g r h

    pub part-reads : (g f : Formula) → ReadsIn table names g → IsPart table first g f → ReadsIn table names f
    part-reads g f r h = part-in-reads h.0 f g r h.1
