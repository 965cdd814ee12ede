-- Properties, invariant and assertions; links.
use Rattle.std.proofs.Common.{◌≡◌, ℕ, ◌+◌, ◌<◌, ◌≤◌, List, [], ◌∷◌, ◌++◌, length, refl, sym, ◌∙◌, ap, subst, Bool, true, ◌||◌, All, arith, nat_eq}
use Rattle.std.specs.Prelude.{Option, None, Some, slice_get, ℤ}
use Rattle.std.proofs.lemmas.Bool.Decides.{nat_tests}
use Rattle.std.proofs.lemmas.Option.{slice_get_past}
use Rattle.bk_form.specs.Table.{Table, IsCounted}
use Rattle.bk_form.specs.Formula.{btrue}
use Rattle.bk_form.specs.Predicates.{IsPredicate}
use Rattle.bk_dev.specs.declared.kind.Home.{Home}
use Rattle.bk_dev.specs.declared.kind.Home.TheVariants.{Constant, Input, Abstract, Concrete, Inner}
use Rattle.bk_dev.specs.Development.{Development}
use Rattle.bk_dev.specs.Facts.{Names as NamesOnly, IsStated, is_constant, is_variable_of, is_variable_above, home_of, names_constants, names_joined}
use Rattle.bk_raw.specs.Trees.RawTree.{RawTree}
use Rattle.bk_raw.specs.Meaning.Names.{Names}
use Rattle.bk_statics.specs.Settled.{IsSettled, AreOf, AreSeen}
use Rattle.bk_statics.specs.Typings.{Typing}
use Rattle.bk_statics.proofs.SubStays.{seen-more, seen-join, predicate-names}
use Rattle.bk_statics.proofs.SubTypes.{predicate-typed}
use Rattle.bk_statics.specs.Components.{Component}
use Rattle.bk_raw.specs.Meaning.ScopeReading.{set_names}
use Rattle.bk_statics.specs.Above.{constants_from, globals_of}
use Rattle.bk_statics.specs.Plan.{entries_of, plan, level_names, invariant_scope}
use Rattle.bk_statics.specs.LevelOf.{stated_as, all_stated, types_at, made}
use Rattle.bk_statics.specs.LevelLaws.{IsReady, StatesRight}
use Rattle.bk_statics.proofs.Stands.{split-at, stands, globals-stand, upper-stands, declared-of, of-join}
use Rattle.bk_statics.proofs.Homes.{old-home, constant-home, variable-home, IsHomeOf}
use Rattle.bk_statics.proofs.Starts.{seen-sets, seen-constants, seen-numbered, seen-declared, joined-above, above-none}
use Rattle.bk_form.specs.Each.{Each}
use Rattle.bk_form.proofs.Closed.{predicate-closed}

pub globals-seen : (int_max : ℤ) (higher : Development) (comp : Component) → length higher.homes ≡ length higher.table.variables → (visible : ℕ → Bool) → ((n : ℕ) → home_of (made int_max higher comp (plan higher comp)) n ≡ Some Constant → visible n ≡ true) → AreSeen visible (plan higher comp).globals
globals-seen int_max higher comp h visible f =
    let old = higher in
    let old-constant : (i : ℕ) → i < length old.table.variables → slice_get old.homes i ≡ Some Constant → visible (0 + i) ≡ true = λ i l e. (let z : 0 + i ≡ i = omega arith in subst (λ m. visible m ≡ true) (sym z) (f i (old-home int_max higher comp h i l ∙ e))) in
    seen-numbered visible (length old.table.variables) comp.constants (set_names (length old.table.sets) (entries_of comp.sets) ++ globals_of old) (λ m a b. f m (constant-home int_max higher comp h m a b))
    (seen-join visible (set_names (length old.table.sets) (entries_of comp.sets)) (globals_of old) (seen-sets visible (length old.table.sets) (entries_of comp.sets))
    (seen-join visible (set_names 0 old.table.sets) (constants_from 0 old.homes old.table.variables) (seen-sets visible 0 old.table.sets) (seen-constants visible 0 old.homes old.table.variables old-constant)))

pub upper-seen : (int_max : ℤ) (higher : Development) (comp : Component) → IsReady higher → AreSeen (names_joined (made int_max higher comp (plan higher comp)) (plan higher comp).level) (plan higher comp).upper
upper-seen int_max higher comp ready =
    let p = plan higher comp in
    let old = higher in
    let new = made int_max higher comp p in
    let base = length old.table.variables in
    seen-more (λ n. is_variable_above (length old.levels) (home_of old n)) (names_joined new p.level) p.upper
    (λ n h. split-at (names_joined new p.level n ≡ true) n base
    (λ a. joined-above (is_constant (home_of new n)) (is_variable_of p.level (home_of new n)) (is_variable_above p.level (home_of new n)) (ap (is_variable_above p.level) (old-home int_max higher comp ready.homes n a) ∙ h))
    (λ a. (let past : length old.homes ≤ n = (let hs = ready.homes in omega arith) in absurd (above-none (length old.levels) (ap (is_variable_above (length old.levels)) (sym (slice_get_past old.homes n past)) ∙ h)))))
    ready.upper

abbrev joined_by : ℕ → Option Home → Bool
joined_by k o = is_constant o || is_variable_of k o || is_variable_above k o

joined-variable : (k : ℕ) (o : Option Home) → IsHomeOf k o → joined_by k o ≡ true
joined-variable k (Some (Abstract j)) h = let s : j ≡ k = h in let e : nat_eq j k ≡ true = grind (arith, nat_tests) in ap (λ b. is_constant (Some (Abstract j)) || b || is_variable_above k (Some (Abstract j))) e
joined-variable k (Some (Concrete j)) h = let s : j ≡ k = h in let e : nat_eq j k ≡ true = grind (arith, nat_tests) in ap (λ b. is_constant (Some (Concrete j)) || b || is_variable_above k (Some (Concrete j))) e
joined-variable k None h = absurd h
joined-variable k (Some Constant) h = absurd h
joined-variable k (Some Input) h = absurd h
joined-variable k (Some (Inner j)) h = absurd h

pub joined-seen : (int_max : ℤ) (higher : Development) (comp : Component) → IsReady higher → AreSeen (names_joined (made int_max higher comp (plan higher comp)) (plan higher comp).level) (invariant_scope (plan higher comp))
joined-seen int_max higher comp ready =
    let p = plan higher comp in
    let new = made int_max higher comp p in
    let visible : ℕ → Bool = names_joined new p.level in
    seen-join visible (level_names p) (p.upper ++ p.globals)
    (seen-declared visible p.variables_at p.variables (λ m a b. joined-variable p.level (home_of new m) (variable-home int_max higher comp ready.homes m a b)))
    (seen-join visible p.upper p.globals (upper-seen int_max higher comp ready) (globals-seen int_max higher comp ready.homes visible (λ n e. ap (joined_by p.level) e)))

pub joined-stands : (int_max : ℤ) (higher : Development) (comp : Component) → All IsCounted higher.table.sets → AreOf (made int_max higher comp (plan higher comp)).table (invariant_scope (plan higher comp))
joined-stands int_max higher comp counted =
    let p = plan higher comp in
    let table = (made int_max higher comp p).table in
    of-join table (level_names p) (p.upper ++ p.globals) (declared-of table p.variables_at p.variables) (of-join table p.upper p.globals (upper-stands int_max higher comp) (globals-stand int_max higher comp counted))

module _ (int_max : ℤ) (table : Table) (typing : Typing) (settled : IsSettled table typing) (visible : ℕ → Bool) (names : Names) (of : AreOf table names) (seen : AreSeen visible names) where
  stated-typed : (o : Option RawTree) → IsPredicate table (stated_as int_max typing names o)
  stated-typed None = refl
  stated-typed (Some q) = predicate-typed int_max table typing settled names q of

  stated-names : (o : Option RawTree) → NamesOnly visible (stated_as int_max typing names o)
  stated-names None = record { closed = predicate-closed table btrue refl; visible_only = λ n h. absurd (cc) }
  stated-names (Some q) = predicate-names int_max table typing settled visible names q of seen

all-stated : (int_max : ℤ) (new : Development) (k : ℕ) (typing : Typing) → IsSettled new.table typing → (names : Names) → AreOf new.table names → AreSeen (names_joined new k) names → (ps : List RawTree) → Each (IsStated new k) (all_stated int_max typing names ps)
all-stated int_max new k typing st names of seen [] = tt
all-stated int_max new k typing st names of seen (q ∷ qs) = (record { is_predicate = predicate-typed int_max new.table typing st names q of; names = predicate-names int_max new.table typing st (names_joined new k) names q of seen }, all-stated int_max new k typing st names of seen qs)

pub states-right : (int_max : ℤ) (higher : Development) (comp : Component) → IsReady higher → StatesRight int_max higher comp
states-right int_max higher comp ready =
    let p = plan higher comp in
    let new = made int_max higher comp p in
    let typing = types_at int_max higher comp p in
    let st = (stands int_max higher comp ready.table).settled in
    let globals = globals-seen int_max higher comp ready.homes (names_constants new) (λ n e. ap is_constant e) in
    record {
      properties = stated-typed int_max new.table typing st (names_constants new) p.globals (globals-stand int_max higher comp ready.table.counted) globals comp.properties;
      properties_names = stated-names int_max new.table typing st (names_constants new) p.globals (globals-stand int_max higher comp ready.table.counted) globals comp.properties;
      invariant = record {
        is_predicate = stated-typed int_max new.table typing st (names_joined new p.level) (invariant_scope p) (joined-stands int_max higher comp ready.table.counted) (joined-seen int_max higher comp ready) comp.invariant;
        names = stated-names int_max new.table typing st (names_joined new p.level) (invariant_scope p) (joined-stands int_max higher comp ready.table.counted) (joined-seen int_max higher comp ready) comp.invariant;
      };
      assertions = all-stated int_max new p.level typing st (invariant_scope p) (joined-stands int_max higher comp ready.table.counted) (joined-seen int_max higher comp ready) comp.assertions;
    }
