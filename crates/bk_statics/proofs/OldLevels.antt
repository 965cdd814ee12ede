-- The levels of a development are levels of one that goes on from it: its table and its homes begin with the old ones, and the new homes
-- are of no old level.
use Rattle.std.proofs.Common.{◌≡◌, ℕ, zero, suc, ◌+◌, ◌<◌, ◌≤◌, List, [], ◌∷◌, ◌++◌, length, refl, sym, ◌∙◌, ap, subst, Bool, true, false, ◌||◌, arith}
use Rattle.std.specs.Prelude.{Option, None, Some, slice_get}
use Rattle.std.proofs.lemmas.Option.{slice_get_past}
use Rattle.bk_form.specs.Table.{Table, IsWellFormed}
use Rattle.bk_form.specs.Formula.{Formula}
use Rattle.bk_form.specs.Each.{Each}
use Rattle.bk_form.specs.Wider.{IsWider}
use Rattle.bk_form.proofs.Widening.{variable-wider}
use Rattle.bk_gsl.specs.State.{among}
use Rattle.bk_gsl.specs.Substitution.{Substitution}
use Rattle.bk_gsl.proofs.WiderRuns.{predicate-wider, types-wider}
use Rattle.bk_dev.specs.declared.kind.Home.{Home}
use Rattle.bk_dev.specs.Development.{Head, Body, Level, Development, level_at}
use Rattle.bk_dev.specs.Facts.{AllAre, Names, LoopsStandIn, binders, is_constant, is_input, is_variable_of, is_variable_above, is_inner_of, home_of, names_constants, names_joined, names_own, writes_own, IsSubOf, AreAlike, AllAlike, IsBodyOf, IsStated, IsLink, EachBody, IsLevelOf, EachLevel, IsHeadOf}
use Rattle.bk_dev.proofs.FlatLevels.{passes-within}
use Rattle.bk_dev.proofs.Staying.{all-at}
use Rattle.bk_statics.proofs.Stands.{split-at}
use Rattle.bk_statics.proofs.StaysWider.{Less, FailsBelow, names-less, all-less, stays-wider}

abbrev own_by : ℕ → Bool → Bool → Option Home → Bool
own_by k i o h = is_constant h || i || is_variable_of k h || o

own-first : (c v o : Bool) → (c || true || v || o) ≡ true
own-first true v o = refl
own-first false v o = refl

own-last : (c v : Bool) → (c || false || v || true) ≡ true
own-last true v = refl
own-last false true = refl
own-last false false = refl

own-any : (k : ℕ) (i o : Bool) (h : Option Home) → own_by k i o None ≡ true → own_by k i o h ≡ true
own-any k true o h e = own-first (is_constant h) (is_variable_of k h) o
own-any k false true h e = own-last (is_constant h) (is_variable_of k h)
own-any k false false h e = absurd (cc)

abbrev write_by : ℕ → Bool → Option Home → Bool
write_by k o h = is_variable_of k h || o

write-last : (v : Bool) → (v || true) ≡ true
write-last true = refl
write-last false = refl

write-any : (k : ℕ) (o : Bool) (h : Option Home) → write_by k o None ≡ true → write_by k o h ≡ true
write-any k true h e = write-last (is_variable_of k h)
write-any k false h e = absurd (cc)

abbrev joined_by : ℕ → Option Home → Bool
joined_by k h = is_constant h || is_variable_of k h || is_variable_above k h

joined-none : (k : ℕ) → joined_by k None ≡ false
joined-none zero = refl
joined-none (suc k) = refl

module _ (old new : Development) (well : IsWellFormed old.table) (wider : IsWider old.table new.table) (same : (n : ℕ) → n < length old.homes → home_of new n ≡ home_of old n) where
  -- ---- tests on homes
  pub kept : (g : Option Home → Bool) → g None ≡ false → Less (λ n. g (home_of old n)) (λ n. g (home_of new n))
  kept g z n h = ap g (same n (passes-within old.homes g z n h)) ∙ h

  past : (n : ℕ) → length old.homes ≤ n → home_of old n ≡ None
  past n l = slice_get_past old.homes n l

  own-less : (k : ℕ) (inputs outputs : List ℕ) → Less (names_own old k inputs outputs) (names_own new k inputs outputs)
  own-less k inputs outputs n h = split-at (names_own new k inputs outputs n ≡ true) n (length old.homes)
      (λ l. ap (own_by k (among inputs n) (among outputs n)) (same n l) ∙ h)
      (λ l. own-any k (among inputs n) (among outputs n) (home_of new n) (sym (ap (own_by k (among inputs n) (among outputs n)) (past n l)) ∙ h))

  own-fails : (k : ℕ) (inputs outputs : List ℕ) → FailsBelow (length old.homes) (names_own old k inputs outputs) (names_own new k inputs outputs)
  own-fails k inputs outputs n l h = ap (own_by k (among inputs n) (among outputs n)) (same n l) ∙ h

  writes-less : (k : ℕ) (outputs : List ℕ) → Less (writes_own old k outputs) (writes_own new k outputs)
  writes-less k outputs n h = split-at (writes_own new k outputs n ≡ true) n (length old.homes)
      (λ l. ap (write_by k (among outputs n)) (same n l) ∙ h)
      (λ l. write-any k (among outputs n) (home_of new n) (sym (ap (write_by k (among outputs n)) (past n l)) ∙ h))

  joined-less : (k : ℕ) → Less (names_joined old k) (names_joined new k)
  joined-less k = kept (joined_by k) (joined-none k)

  -- ---- parts of a level
  sub-kept : (k : ℕ) (inputs outputs : List ℕ) (s : Substitution) → (level_at new k).kind ≡ (level_at old k).kind → IsSubOf old k inputs outputs s → IsSubOf new k inputs outputs s
  sub-kept k inputs outputs s kind w = record {
    types = types-wider old.table new.table well wider s w.types;
    stays = stays-wider (length old.homes) (names_joined old k) (names_joined new k) (joined-less k) s (names_own old k inputs outputs) (names_own new k inputs outputs) (writes_own old k outputs) (writes_own new k outputs) (own-less k inputs outputs) (own-fails k inputs outputs) (writes-less k outputs)
        (λ n e. passes-within old.homes (is_inner_of k) refl n (all-at (λ n. is_inner_of k (home_of old n)) (binders s) w.binds_inner n e)) w.stays;
    loops = subst (λ x. LoopsStandIn x s) (sym kind) w.loops;
    binds_inner = all-less (λ n. is_inner_of k (home_of old n)) (λ n. is_inner_of k (home_of new n)) (binders s) (kept (is_inner_of k) refl) w.binds_inner;
  }

  alike-kept : (x y : ℕ) → AreAlike old.table x y → AreAlike new.table x y
  alike-kept x y h = (h.0, variable-wider old.table new.table well wider x h.0 h.1, variable-wider old.table new.table well wider y h.0 h.2)

  all-alike-kept : (xs ys : List ℕ) → AllAlike old.table xs ys → AllAlike new.table xs ys
  all-alike-kept [] [] h = tt
  all-alike-kept [] (y ∷ ys) h = absurd h
  all-alike-kept (x ∷ xs) [] h = absurd h
  all-alike-kept (x ∷ xs) (y ∷ ys) h = (alike-kept x y h.0, all-alike-kept xs ys h.1)

  body-kept : (k : ℕ) (head : Head) (machine b : Body) → (level_at new k).kind ≡ (level_at old k).kind → IsBodyOf old k head machine b → IsBodyOf new k head machine b
  body-kept k head machine b kind w = record {
    condition = predicate-wider old.table new.table well wider b.condition w.condition;
    condition_names = names-less (names_own old k head.inputs b.outputs) (names_own new k head.inputs b.outputs) b.condition (own-less k head.inputs b.outputs) w.condition_names;
    sub = sub-kept k head.inputs b.outputs b.sub kind w.sub;
    outputs = all-less (λ n. is_inner_of k (home_of old n)) (λ n. is_inner_of k (home_of new n)) b.outputs (kept (is_inner_of k) refl) w.outputs;
    distinct_outputs = w.distinct_outputs;
    as_many_outputs = w.as_many_outputs;
    output_types = all-alike-kept b.outputs machine.outputs w.output_types;
  }

  bodies-kept : (k : ℕ) (hs : List Head) (ms bs : List Body) → (level_at new k).kind ≡ (level_at old k).kind → EachBody old k hs ms bs → EachBody new k hs ms bs
  bodies-kept k [] [] [] kind w = tt
  bodies-kept k (h ∷ hs) (m ∷ ms) (b ∷ bs) kind w = (body-kept k h m b kind w.0, bodies-kept k hs ms bs kind w.1)
  bodies-kept k [] [] (b ∷ bs) kind w = absurd w
  bodies-kept k [] (m ∷ ms) bs kind w = absurd w
  bodies-kept k (h ∷ hs) [] bs kind w = absurd w
  bodies-kept k (h ∷ hs) (m ∷ ms) [] kind w = absurd w

  stated-kept : (k : ℕ) (p : Formula) → IsStated old k p → IsStated new k p
  stated-kept k p h = record { is_predicate = predicate-wider old.table new.table well wider p h.is_predicate; names = names-less (names_joined old k) (names_joined new k) p (joined-less k) h.names }

  all-stated-kept : (k : ℕ) (ps : List Formula) → Each (IsStated old k) ps → Each (IsStated new k) ps
  all-stated-kept k [] h = tt
  all-stated-kept k (p ∷ ps) h = (stated-kept k p h.0, all-stated-kept k ps h.1)

  link-kept : (k : ℕ) (p : ℕ × ℕ) → IsLink old k p → IsLink new k p
  link-kept k p h = record {
    below = kept (is_variable_of k) refl p.0 h.below;
    above = (h.above.0, h.above.1, kept (is_variable_of h.above.0) refl p.1 h.above.2);
    alike = alike-kept p.0 p.1 h.alike;
  }

  links-kept : (k : ℕ) (ps : List (ℕ × ℕ)) → Each (IsLink old k) ps → Each (IsLink new k) ps
  links-kept k [] h = tt
  links-kept k (p ∷ ps) h = (link-kept k p h.0, links-kept k ps h.1)

  -- ---- levels
  pub head-kept : (h : Head) → IsHeadOf old h → IsHeadOf new h
  head-kept h w = record { inputs = all-less (λ n. is_input (home_of old n)) (λ n. is_input (home_of new n)) h.inputs (kept is_input refl) w.inputs; distinct = w.distinct }

  module _ (heads : new.heads ≡ old.heads) (machine : (level_at new 0).bodies ≡ (level_at old 0).bodies) (later : (k n : ℕ) → k < length old.levels → length old.homes ≤ n → is_variable_of k (home_of new n) ≡ false) (kinds : (k : ℕ) → k < length old.levels → (level_at new k).kind ≡ (level_at old k).kind) where
    only-old : (k : ℕ) → k < length old.levels → (n : ℕ) → is_variable_of k (home_of new n) ≡ true → is_variable_of k (home_of old n) ≡ true
    only-old k b n h = split-at (is_variable_of k (home_of old n) ≡ true) n (length old.homes) (λ l. sym (ap (is_variable_of k) (same n l)) ∙ h) (λ l. let no = later k n b l in absurd (cc))

    pub level-kept : (k : ℕ) → k < length old.levels → (l : Level) → IsLevelOf old k l → IsLevelOf new k l
    level-kept k b l w = record {
      kind = w.kind;
      vars = all-less (λ n. is_variable_of k (home_of old n)) (λ n. is_variable_of k (home_of new n)) l.vars (kept (is_variable_of k) refl) w.vars;
      all = λ n h. w.all n (only-old k b n h);
      distinct = w.distinct;
      properties = predicate-wider old.table new.table well wider l.properties w.properties;
      properties_names = names-less (names_constants old) (names_constants new) l.properties (kept is_constant refl) w.properties_names;
      invariant = stated-kept k l.invariant w.invariant;
      assertions = all-stated-kept k l.assertions w.assertions;
      links = links-kept k l.links w.links;
      init = sub-kept k [] [] l.init (kinds k b) w.init;
      bodies = subst (λ hs. EachBody new k hs (level_at new 0).bodies l.bodies) (sym heads) (subst (λ ms. EachBody new k old.heads ms l.bodies) (sym machine) (bodies-kept k old.heads (level_at old 0).bodies l.bodies (kinds k b) w.bodies));
    }

    -- the levels from number k on, and one more behind them
    pub levels-kept : (k : ℕ) (ls : List Level) (l : Level) → k + length ls ≤ length old.levels → EachLevel old k ls → IsLevelOf new (k + length ls) l → EachLevel new k (ls ++ l ∷ [])
    levels-kept k [] l b w last = let e : k + 0 ≡ k = omega arith in (subst (λ m. IsLevelOf new m l) e last, tt)
    levels-kept k (m ∷ ls) l b w last =
        let e : k + suc (length ls) ≡ suc k + length ls = omega arith in
        (level-kept k (omega arith) m w.0, levels-kept (suc k) ls l (omega arith) w.1 (subst (λ i. IsLevelOf new i l) e last))
